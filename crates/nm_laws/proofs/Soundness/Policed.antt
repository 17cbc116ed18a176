-- Another policy of a range of page numbers keeps a machine sound.
use Rattle.std.proofs.Common.{◌≡◌, ℕ, ◌<◌, ◌/◌, ◌%◌, List, true, false, refl, sym, ap, subst, ◌∙◌, arith}
use Rattle.std.specs.Prelude.{Some, IsSome, nat_lt, if◌then◌else◌}
use Rattle.std.specs.Option.{option_map}
use Rattle.std.specs.List.{AllByRecursion, flat_map}
use Rattle.std.specs.List.Sorted.{IsStrictlySortedBy}
use Rattle.std.specs.Map.{keys_of}
use Rattle.std.specs.Ordering.{nat_cmp}
use Rattle.std.proofs.lemmas.Bool.{ltb-true}
use Rattle.nm_types.specs.declared.page.Page.{Page}
use Rattle.nm_types.specs.declared.area.Policy.{Policy}
use Rattle.nm_types.specs.declared.area.Area.{Area}
use Rattle.nm_types.specs.Map.{Map, get, with_values, page_cmp, spot_cmp}
use Rattle.nm_types.specs.State.{State, page_shown, page_at}
use Rattle.nm_model.specs.definitions.Memory.{byte_of, mem}
use Rattle.nm_model.specs.definitions.Effect.{areas_of, with_areas_of, parts_outside, covers_page, is_covered}
use Rattle.nm_model.specs.definitions.Sound.{AreasAreApart, IsWhole, IsSoundInFlight}
use Rattle.nm_model.specs.definitions.Effect.{parts_with_policy, set_range_policy}
use Rattle.nm_model.proofs.areas.Apart.{all_then}
use Rattle.nm_laws.proofs.Soundness.Allocated.{shown_covered}
use Rattle.nm_model.proofs.areas.Parted.{All-among, all_from_among, over_among, among_flat, part_of, any_among}
use Rattle.nm_laws.proofs.Soundness.Dropped.{covers_shown, shown_number, part_within}
use Rattle.nm_model.proofs.areas.Painted.{keys_painted}
use Rattle.nm_model.proofs.areas.Shown.{split_shows, painted_shows}
use Rattle.nm_model.proofs.areas.Policed.{paint, any_policy, all_painted, apart_painted}
use Rattle.nm_model.proofs.areas.Repoliced.{split_apart, split_sorted, all_repoliced}
use Rattle.nm_model.specs.definitions.Areas.{IsSomePages, split_at}

-- areas that show what the areas of a state show
record IsAlike (s : State) (areas : Map (ℕ × ℕ) Area) : Type 0 where
  pub sorted : IsStrictlySortedBy spot_cmp (keys_of areas)
  pub apart : AreasAreApart areas
  pub whole : AllByRecursion (IsWhole s) areas
  pub same : (q w : ℕ) → page_at areas q w ≡ page_at s.areas q w

-- with such areas a state is sound
module _ (s : State) (l : List ℕ) (h : IsSoundInFlight s l) (areas : Map (ℕ × ℕ) Area) (alike : IsAlike s areas) where
  still_covered : (p : Page) → is_covered s.areas p ≡ true → is_covered areas p ≡ true
  still_covered p c =
      let found = any_among (covers_page p) s.areas c in
      let a = found.0 in
      let at = covers_shown a p found.2 in
      let w = shown_number a p in
      shown_covered areas a.0.0 w p (alike.same a.0.0 w ∙ ap (λ o. page_shown o w) (over_among s.areas a.0.0 w a h.disjoint found.1 at.0) ∙ ap Some at.1)

  alike_sound : IsSoundInFlight (record s { areas = areas }) l
  alike_sound =
      record {
        order = record { processes = h.order.processes; sees = h.order.sees; areas = alike.sorted; segments = h.order.segments; place = h.order.place };
        apart = h.apart;
        frames = h.frames;
        shown = λ q w p e. let was = h.shown q w p e in (alike.same q w ∙ was.0, was.1);
        zeros = λ q w e. let was = h.zeros q w e in (was.0, alike.same q w ∙ was.1, was.2);
        covered = λ p e. still_covered p (h.covered p e);
        bytes = h.bytes;
        pins = h.pins;
        seen = h.seen;
        once = λ q w r x p e k private. h.once q w r x p (sym (alike.same q w) ∙ e) (sym (alike.same r x) ∙ k) private;
        areas = alike.whole;
        numbers = h.numbers;
        disjoint = alike.apart;
        online = h.online;
        few = h.few;
      }

-- ---- areas that are split

all_some : (s : State) (areas : Map (ℕ × ℕ) Area) → AllByRecursion (IsWhole s) areas → AllByRecursion IsSomePages areas
all_some s areas h = all_then areas (IsWhole s) IsSomePages (λ a whole. whole.0) h

alike_split : (s : State) (areas : Map (ℕ × ℕ) Area) (pid at : ℕ) → IsAlike s areas → IsAlike s (split_at pid at areas)
alike_split s areas pid at alike =
    let some = all_some s areas alike.whole in
    record {
      sorted = split_sorted pid at areas some alike.apart alike.sorted;
      apart = split_apart pid at areas some alike.apart;
      whole = all_from_among (IsWhole s) (split_at pid at areas) (λ b m.
          let from = among_flat (parts_outside pid at at) areas b m in
          let part = part_of pid at at from.0 (All-among IsSomePages areas from.0 some from.1) b from.2 in
          let of = All-among (IsWhole s) areas from.0 alike.whole from.1 in (
            part.some,
            omega (arith, part.high, of.1),
            subst (λ n. IsSome (get nat_cmp s.processes n)) (sym part.process) of.2,
            part_within pid at at from.0 b part (get nat_cmp s.segments) of.3,
          ));
      same = λ q w. split_shows pid at areas some alike.apart q w ∙ alike.same q w;
    }

-- ---- another policy shows the same pages

module _ (pid first end : ℕ) (policy : Policy) where
  alike_painted : (s : State) (areas : Map (ℕ × ℕ) Area) → IsAlike s areas → IsAlike s (with_values (paint pid first end policy) areas)
  alike_painted s areas alike =
      record {
        sorted = subst (IsStrictlySortedBy spot_cmp) (sym (keys_painted pid first end policy areas)) alike.sorted;
        apart = apart_painted pid first end policy areas alike.apart;
        whole = all_painted pid first end policy (IsWhole s) (IsWhole s) (λ e whole. any_policy pid first end policy (λ x. IsWhole s (e.0, x)) e.0 e.1 whole whole) areas alike.whole;
        same = λ q w. painted_shows pid first end policy areas q w ∙ alike.same q w;
      }

-- ---- the whole call

alike_itself : (s : State) (l : List ℕ) → IsSoundInFlight s l → IsAlike s s.areas
alike_itself s l h = record { sorted = h.order.areas; apart = h.disjoint; whole = h.areas; same = λ q w. refl }

alike_repoliced : (s : State) (l : List ℕ) (pid first end : ℕ) (policy : Policy) → first < end → IsSoundInFlight s l → IsAlike s (flat_map (parts_with_policy pid first end policy) s.areas)
alike_repoliced s l pid first end policy range h =
    subst (IsAlike s) (all_repoliced pid first end policy range s.areas (all_some s s.areas h.areas))
    (alike_painted pid first end policy s (split_at pid end (split_at pid first s.areas)) (alike_split s (split_at pid first s.areas) pid end (alike_split s s.areas pid first (alike_itself s l h))))

pub repoliced_sound : (s : State) (l : List ℕ) (pid first end : ℕ) (policy : Policy) → first < end → IsSoundInFlight s l → IsSoundInFlight (record s { areas = flat_map (parts_with_policy pid first end policy) s.areas }) l
repoliced_sound s l pid first end policy range h =
    alike_sound s l h (flat_map (parts_with_policy pid first end policy) s.areas) (alike_repoliced s l pid first end policy range h)

pub policy_sound : (s : State) (l : List ℕ) (pid first end : ℕ) (policy : Policy) → IsSoundInFlight s l → IsSoundInFlight (set_range_policy s pid first end policy) l
policy_sound s l pid first end policy h =
    let after = flat_map (parts_with_policy pid first end policy) s.areas in
    elim (nat_lt first end) as (λ b. nat_lt first end ≡ b → IsSoundInFlight (with_areas_of s (if b then record (areas_of s) { areas = after } else areas_of s)) l) [
      | true ↦ λ b. repoliced_sound s l pid first end policy (ltb-true first end b) h
      | false ↦ λ b. h
    ] refl

pub policy_shows : (s : State) (l : List ℕ) (pid first end : ℕ) (policy : Policy) (q v : ℕ) → IsSoundInFlight s l → page_at (set_range_policy s pid first end policy).areas q v ≡ page_at s.areas q v
policy_shows s l pid first end policy q v h =
    let after = flat_map (parts_with_policy pid first end policy) s.areas in
    elim (nat_lt first end) as (λ b. nat_lt first end ≡ b → page_at (if b then record (areas_of s) { areas = after } else areas_of s).areas q v ≡ page_at s.areas q v) [
      | true ↦ λ b. (alike_repoliced s l pid first end policy (ltb-true first end b) h).same q v
      | false ↦ λ b. refl
    ] refl

pub policy_keeps : (s : State) (l : List ℕ) (pid first end : ℕ) (policy : Policy) (q at : ℕ) → IsSoundInFlight s l → mem (set_range_policy s pid first end policy) q at ≡ mem s q at
policy_keeps s l pid first end policy q at h =
    let after = flat_map (parts_with_policy pid first end policy) s.areas in
    let byte : Page → ℕ = λ p. byte_of s p (get page_cmp s.place p) (at % 4096) in
    elim (nat_lt first end) as (λ b. nat_lt first end ≡ b → mem (with_areas_of s (if b then record (areas_of s) { areas = after } else areas_of s)) q at ≡ mem s q at) [
      | true ↦ λ b. ap (option_map byte) ((alike_repoliced s l pid first end policy (ltb-true first end b) h).same q (at / 4096))
      | false ↦ λ b. refl
    ] refl
