-- What processes see after one of them sees something else at a page number.
use Rattle.std.proofs.Common.{◌≤◌, ◌≡◌, ℕ, List, Bool, true, false, ◌&&◌, cond, refl, sym, ap, subst, ◌∙◌, inl, inr}
use Rattle.std.specs.Prelude.{Some, IsSome, ◌⊎◌}
use Rattle.std.specs.List.Sorted.{IsStrictlySortedBy}
use Rattle.std.specs.Map.{keys_of}
use Rattle.std.specs.Ordering.{nat_cmp, is_eq}
use Rattle.std.specs.Cmp.{nat_cmp_total, eq_by_cmp_equiv, tied_itself}
use Rattle.std.proofs.lemmas.Map.Lookups.{exact_unsigned}
use Rattle.nm_types.specs.declared.page.Page.{Page}
use Rattle.nm_types.specs.Map.{get, page_cmp, replace, set}
use Rattle.nm_types.specs.declared.sight.Sight.{Sight}
use Rattle.nm_types.specs.declared.sight.Sight.TheVariants.{Sees, ZeroPage}
use Rattle.nm_types.specs.State.{PlacedArea, Process, State, area_over, page_at, page_shown}
use Rattle.nm_types.proofs.Cases.{some_is}
use Rattle.nm_model.specs.definitions.Seen.{sight_in, sight_at}
use Rattle.nm_model.specs.definitions.Areas.{is_shared}
use Rattle.nm_model.specs.definitions.Touch.{AccessSite, shown_at, with_sight}
use Rattle.nm_model.specs.definitions.Sound.{IsInOrder, IsSoundInFlight, IsWhole}
use Rattle.nm_types.proofs.Maps.{equal, get-set, get-replace}
use Rattle.nm_model.proofs.areas.Apart.{all_then}
use Rattle.nm_types.proofs.Keys.{as_many-replace, some_from_keys, keys-replace, All-replace, All-get, sorted-set}

-- the process is there, and its area
pub record IsSpot (s : State) (at : AccessSite) : Type 0 where
  pub process : get nat_cmp s.processes at.pid ≡ Some at.process
  pub area : area_over s.areas at.pid at.vpn ≡ Some at.area

pub page_at_spot : (s : State) (at : AccessSite) → IsSpot s at → page_at s.areas at.pid at.vpn ≡ Some (shown_at at)
page_at_spot s at i = ap (λ o. page_shown o at.vpn) i.area

abbrev pub is_here : AccessSite → ℕ → ℕ → Bool
is_here at q w = is_eq (nat_cmp q at.pid) && is_eq (nat_cmp w at.vpn)

pub sight_at-with_sight : (s : State) (at : AccessSite) (x : Sight) (q w : ℕ) → IsSpot s at → sight_at (with_sight s at x) q w ≡ cond (is_here at q w) (Some x) (sight_at s q w)
sight_at-with_sight s at x q w i =
    let new : Process = record (at.process) { sees = set nat_cmp at.process.sees at.vpn x } in
    ap (λ o. sight_in o w) (get-replace nat_cmp_total exact_unsigned s.processes at.pid new q (subst IsSome (sym i.process) refl) ∙ ap (λ b. cond b (Some new) (get nat_cmp s.processes q)) ((eq_by_cmp_equiv nat_cmp_total).symm at.pid q))
    ∙ elim (is_eq (nat_cmp q at.pid)) as (λ b. is_eq (nat_cmp q at.pid) ≡ b → sight_in (cond b (Some new) (get nat_cmp s.processes q)) w ≡ cond (b && is_eq (nat_cmp w at.vpn)) (Some x) (sight_at s q w)) [
      | true ↦ λ b. get-set nat_cmp_total at.process.sees at.vpn x w
          ∙ ap (λ o. cond (is_eq (nat_cmp w at.vpn)) (Some x) (sight_in o w)) (sym i.process ∙ ap (get nat_cmp s.processes) (sym (exact_unsigned q at.pid (equal _ b))))
      | false ↦ λ b. refl
    ] refl

pub here_parts : (at : AccessSite) (q w : ℕ) → is_here at q w ≡ true → (q ≡ at.pid) × (w ≡ at.vpn)
here_parts at q w =
    elim (is_eq (nat_cmp q at.pid)) as (λ b. is_eq (nat_cmp q at.pid) ≡ b → (b && is_eq (nat_cmp w at.vpn)) ≡ true → (q ≡ at.pid) × (w ≡ at.vpn)) [
      | true ↦ λ b c. (exact_unsigned q at.pid (equal _ b), exact_unsigned w at.vpn (equal _ c))
      | false ↦ λ b c. cc
    ] refl

-- what is seen then is new here, or was seen before
pub sight_cases : (s : State) (at : AccessSite) (x y : Sight) (q w : ℕ) → IsSpot s at → sight_at (with_sight s at x) q w ≡ Some y → ((q ≡ at.pid) × (w ≡ at.vpn) × (x ≡ y)) ⊎ (sight_at s q w ≡ Some y)
sight_cases s at x y q w i h =
    elim (is_here at q w) as (λ b. is_here at q w ≡ b → cond b (Some x) (sight_at s q w) ≡ Some y → ((q ≡ at.pid) × (w ≡ at.vpn) × (x ≡ y)) ⊎ (sight_at s q w ≡ Some y)) [
      | true ↦ λ b k. let same = here_parts at q w b in inl (same.0, same.1, some_is k)
      | false ↦ λ b k. inr k
    ] refl (sym (sight_at-with_sight s at x q w i) ∙ h)

pub sight_here : (s : State) (at : AccessSite) (x : Sight) → IsSpot s at → sight_at (with_sight s at x) at.pid at.vpn ≡ Some x
sight_here s at x i =
    sight_at-with_sight s at x at.pid at.vpn i
    ∙ ap (λ r. cond (is_eq r && is_eq (nat_cmp at.vpn at.vpn)) (Some x) (sight_at s at.pid at.vpn)) (tied_itself nat_cmp_total at.pid)
    ∙ ap (λ r. cond (is_eq r) (Some x) (sight_at s at.pid at.vpn)) (tied_itself nat_cmp_total at.vpn)

-- what was seen elsewhere is still seen
pub sight_stays : (s : State) (at : AccessSite) (x y : Sight) (q w : ℕ) → IsSpot s at → (sight_at s at.pid at.vpn ≡ Some y → ⊥) → sight_at s q w ≡ Some y → sight_at (with_sight s at x) q w ≡ Some y
sight_stays s at x y q w i other h =
    sight_at-with_sight s at x q w i
    ∙ elim (is_here at q w) as (λ b. is_here at q w ≡ b → cond b (Some x) (sight_at s q w) ≡ Some y) [
      | true ↦ λ b. let same = here_parts at q w b in absurd (other (ap (λ (z : ℕ × ℕ). sight_at s z.0 z.1) (λ j. (sym same.0 j, sym same.1 j)) ∙ h))
      | false ↦ λ b. h
    ] refl

pub order_kept : (s : State) (at : AccessSite) (x : Sight) → IsSpot s at → IsInOrder s → IsInOrder (with_sight s at x)
order_kept s at x i h =
    let new : Process = record (at.process) { sees = set nat_cmp at.process.sees at.vpn x } in
    record {
      processes = subst (IsStrictlySortedBy nat_cmp) (sym (keys-replace nat_cmp s.processes at.pid new)) h.processes;
      sees = All-replace nat_cmp (λ q. IsStrictlySortedBy nat_cmp (keys_of q.sees)) s.processes at.pid new h.sees
          (sorted-set nat_cmp nat_cmp_total at.process.sees at.vpn x (All-get nat_cmp (λ q. IsStrictlySortedBy nat_cmp (keys_of q.sees)) s.processes at.pid at.process h.sees i.process));
      areas = h.areas;
      segments = h.segments;
      place = h.place;
    }

-- the processes that were there are there
pub whole_still : (s : State) (at : AccessSite) (x : Sight) (a : PlacedArea) → IsWhole s a → IsWhole (with_sight s at x) a
whole_still s at x a whole =
    let new : Process = record (at.process) { sees = set nat_cmp at.process.sees at.vpn x } in
    (whole.0, whole.1, some_from_keys nat_cmp s.processes (replace nat_cmp s.processes at.pid new) a.0.0 (sym (keys-replace nat_cmp s.processes at.pid new)) whole.2, whole.3)

-- a process may see this here: the page of zeros in private memory, and the page that is shown, where it has a frame
abbrev pub Fits : State → AccessSite → Sight → Type 0
Fits s at ZeroPage = is_shared s.segments (shown_at at).segment ≡ false
Fits s at (Sees p) = (p ≡ shown_at at) × IsSome (get page_cmp s.place p)

fit_page : (s : State) (at : AccessSite) (x : Sight) (p : Page) → Fits s at x → x ≡ Sees p → (shown_at at ≡ p) × IsSome (get page_cmp s.place p)
fit_page s at ZeroPage p f e = cc
fit_page s at (Sees q) p f e = let same : q ≡ p = cc in (sym f.0 ∙ same, subst (λ r. IsSome (get page_cmp s.place r)) same f.1)

fit_zero : (s : State) (at : AccessSite) (x : Sight) → Fits s at x → x ≡ ZeroPage → is_shared s.segments (shown_at at).segment ≡ false
fit_zero s at ZeroPage f e = f
fit_zero s at (Sees q) f e = cc

pub with_sight_sound : (s : State) (l : List ℕ) (at : AccessSite) (x : Sight) → IsSoundInFlight s l → IsSpot s at → Fits s at x → ((p : Page) → sight_at s at.pid at.vpn ≡ Some (Sees p) → ⊥)
    → IsSoundInFlight (with_sight s at x) l
with_sight_sound s l at x h i fits unseen =
    record {
      order = order_kept s at x i h.order;
      apart = h.apart;
      frames = h.frames;
      shown = λ q w p e. elim (sight_cases s at x (Sees p) q w i e) as (λ _. (page_at s.areas q w ≡ Some p) × IsSome (get page_cmp s.place p)) [
        | inl new ↦
            let f = fit_page s at x p fits new.2 in
            (ap (λ (z : ℕ × ℕ). page_at s.areas z.0 z.1) (λ j. (new.0 j, new.1 j)) ∙ page_at_spot s at i ∙ ap Some f.0, f.1)
        | inr old ↦ h.shown q w p old
      ];
      zeros = λ q w e. elim (sight_cases s at x ZeroPage q w i e) as (λ _. (p : Page) × (page_at s.areas q w ≡ Some p) × (is_shared s.segments p.segment ≡ false)) [
        | inl new ↦ (shown_at at, ap (λ (z : ℕ × ℕ). page_at s.areas z.0 z.1) (λ j. (new.0 j, new.1 j)) ∙ page_at_spot s at i, fit_zero s at x fits new.2)
        | inr old ↦ h.zeros q w old
      ];
      covered = h.covered;
      bytes = h.bytes;
      pins = h.pins;
      seen = λ p e private. let was = h.seen p e private in (was.0, was.1, sight_stays s at x (Sees p) was.0 was.1 i (unseen p) was.2);
      once = h.once;
      areas = all_then s.areas (IsWhole s) (IsWhole (with_sight s at x)) (whole_still s at x) h.areas;
      numbers = h.numbers;
      disjoint = h.disjoint;
      online = h.online;
      few = subst (λ n. n ≤ 1024) (sym (as_many-replace nat_cmp s.processes at.pid _)) h.few;
    }
