-- Deciding requests one after another, stated by the jobs of the moves.
use Rattle.std.proofs.Common.{◌≡◌, ℕ, suc, ◌+◌, ◌≤◌, List, [], ◌∷◌, ◌++◌, true, false, ◌||◌, cond, map, length, drop, refl, sym, ap, subst, ◌∙◌, arith, eq-eqb}
use Rattle.std.specs.Prelude.{Option, Some, None, ℤ, pos, ◌==◌, slice_set}
use Rattle.std.specs.Option.{is_some, unwrap_or, option_map}
use Rattle.std.specs.List.{AllByRecursion, list_any}
use Rattle.std.specs.Ordering.{is_eq}
use Rattle.std.specs.Cmp.{tied_itself}
use Rattle.std.proofs.lemmas.Bool.{eqb-true, both_ways}
use Rattle.std.proofs.lemmas.List.{set-set, set-get_or}
use Rattle.nm_types.specs.declared.page.Page.{Page}
use Rattle.nm_types.specs.Layout.{node_of}
use Rattle.nm_types.specs.Map.{get, set, page_cmp, same_page, with_values}
use Rattle.nm_types.specs.State.{State, free_list}
use Rattle.nm_model.specs.definitions.Frames.{Store}
use Rattle.nm_types.specs.declared.request.Class.{Class}
use Rattle.nm_types.specs.declared.request.Class.TheVariants.{Status, Move}
use Rattle.nm_types.specs.declared.request.Wanted.{Wanted}
use Rattle.nm_model.specs.definitions.Status.{status_or_move}
use Rattle.nm_types.specs.declared.page_move.PageMove.{PageMove}
use Rattle.nm_model.specs.definitions.Run.{Decision, Progress, moved_page, decision, each_request, frames_left}
use Rattle.nm_model.specs.definitions.Sound.{times, IsSoundInFlight}
use Rattle.nm_laws.proofs.Soundness.Frames.{here, times_cons}
use Rattle.nm_types.proofs.Maps.{page_cmp_total, exact_page, equal, get-set, with_values-moved}
use Rattle.nm_laws.proofs.Soundness.Moved.{decided_sound}
use Rattle.nm_laws.proofs.OneByOne.Placed.{ClassIsPlaced, status_placed}
use Rattle.nm_laws.proofs.OneByOne.Planned.{list_now}
use Rattle.nm_model.specs.definitions.RunMachine.{Job, job_from, goes_to}
use Rattle.nm_model.specs.definitions.Events.{laid_for}
use Rattle.nm_laws.proofs.InFlight.Jobs.{goes_nowhere}
use Rattle.nm_laws.proofs.InFlight.Midway.{is_source, frames_of_job}
use Rattle.nm_laws.proofs.InFlight.Values.{values_same}
use Rattle.nm_laws.proofs.InFlight.Elsewhere.{IsElsewhere, status_elsewhere}

-- the jobs of moves
abbrev pub jobs_of : Store → List PageMove → List Job
jobs_of buf taken = map (laid_for buf) taken

-- the job copies a page, out of another node
abbrev pub CopiesFrom : State → ℕ → List Job → ℕ × ℕ → Type 0
CopiesFrom s target jobs e = (p : Page) × (get page_cmp s.place p ≡ Some e.0) × (goes_to jobs e.0 ≡ e.1) × ((node_of s.layout e.0 == target) ≡ false)

-- what deciding makes of a state
pub record IsDecided (s : State) (target : ℕ) (buf : Store) (p : Progress) : Type 0 where
  pub place : p.state.place ≡ with_values (λ page f. goes_to (jobs_of buf p.taken) f) s.place
  pub state : p.state ≡ record s { place = p.state.place; free = slice_set s.free target (drop (length p.taken) (free_list s target)) }
  pub pages : (q : Page) → list_any (same_page q) (map (λ t. t.page) p.taken) ≡ is_source (jobs_of buf p.taken) (get page_cmp s.place q)
  pub copies : AllByRecursion (CopiesFrom s target (jobs_of buf p.taken)) (map frames_of_job (jobs_of buf p.taken))
  pub from_elsewhere : AllByRecursion (λ t. (node_of s.layout t.from == target) ≡ false) p.taken
  pub to_target : AllByRecursion (λ t. node_of s.layout t.to ≡ target) p.taken
  pub few : (f : ℕ) → times f (map (λ t. t.to) p.taken) ≤ times f (free_list s target)

some_is : {V : Type 0} {v w : V} → Some v ≡ Some w → v ≡ w
some_is e = cc

no : false ≡ true → ⊥
no e = cc

-- a frame on the target is no source
pub stays_there : (g : ℕ → ℕ) (target : ℕ) (buf : Store) (taken : List PageMove) (f : ℕ) → AllByRecursion (λ t. (g t.from == target) ≡ false) taken → g f ≡ target → is_some (job_from (jobs_of buf taken) f) ≡ false
stays_there g target buf [] f all own = refl
stays_there g target buf (t ∷ taken) f all own =
    elim (t.from == f) as (λ b. (t.from == f) ≡ b → is_some (cond b (Some (laid_for buf t)) (job_from (jobs_of buf taken) f)) ≡ false) [
      | true ↦ λ b. absurd (no (sym all.0 ∙ eq-eqb (g t.from) target (ap g (eqb-true t.from f b) ∙ own)))
      | false ↦ λ b. stays_there g target buf taken f all.1 own
    ] refl

abbrev then_each : Decision → ℕ → List Wanted → Progress
then_each now target ws =
    let rest = each_request now.state target ws in
    record { state = rest.state; statuses = now.status ∷ rest.statuses; taken = now.taken ++ rest.taken }

nothing_source : (o : Option ℕ) → false ≡ is_source [] o
nothing_source None = refl
nothing_source (Some f) = refl

nothing_decided : (s : State) (target : ℕ) (buf : Store) → IsDecided s target buf (record { state = s; statuses = []; taken = [] })
nothing_decided s target buf =
    record {
      place = sym (values_same s.place);
      state = ap (λ free. record s { free = free }) (sym (set-get_or s.free target []));
      pages = λ q. nothing_source (get page_cmp s.place q);
      copies = tt;
      from_elsewhere = tt;
      to_target = tt;
      few = λ f. omega arith;
    }

module _ (s : State) (target : ℕ) (buf : Store) (ws : List Wanted) where
  -- nothing moves
  same_decided : (now : Decision) → now.state ≡ s → now.taken ≡ [] → IsDecided now.state target buf (each_request now.state target ws) → IsDecided s target buf (then_each now target ws)
  same_decided now e t d =
      subst (λ (x : State × List PageMove). IsDecided s target buf (record { state = (each_request x.0 target ws).state; statuses = now.status ∷ (each_request now.state target ws).statuses; taken = x.1 ++ (each_request x.0 target ws).taken }))
      (λ j. (sym e j, sym t j))
      (let d : IsDecided s target buf (each_request s target ws) = subst (λ (x : State). IsDecided x target buf (each_request x target ws)) e d in
      record { place = d.place; state = d.state; pages = d.pages; copies = d.copies; from_elsewhere = d.from_elsewhere; to_target = d.to_target; few = d.few })

  -- a page moves
  module _ (l : List ℕ) (h : IsSoundInFlight s l) (p : Page) (from frame : ℕ) (rest : List ℕ) (placed : get page_cmp s.place p ≡ Some from) (elsewhere : (node_of s.layout from == target) ≡ false) (front : free_list s target ≡ frame ∷ rest) where
    abbrev next : State
    next = record s { place = set page_cmp s.place p frame; free = slice_set s.free target rest }

    abbrev move : PageMove
    move = record { page = p; from = from; to = frame }

    own : AllByRecursion (λ f. node_of s.layout f ≡ target) (frame ∷ rest)
    own = subst (AllByRecursion (λ f. node_of s.layout f ≡ target)) front (h.frames.own target)

    -- another page is elsewhere
    apart : (q : Page) (x : ℕ) → get page_cmp s.place q ≡ Some x → is_eq (page_cmp q p) ≡ false → (from == x) ≡ false
    apart q x there other =
        elim (from == x) as (λ b. (from == x) ≡ b → b ≡ false) [
          | true ↦ λ b. absurd (both_ways _ other (ap is_eq (ap (λ r. page_cmp r p) (h.apart q p x there (placed ∙ ap Some (eqb-true from x b))) ∙ tied_itself page_cmp_total p)))
          | false ↦ λ b. refl
        ] refl

    module _ (after : Progress) (d : IsDecided next target buf after) where
      abbrev js : List Job
      js = jobs_of buf after.taken

      abbrev all : List Job
      all = laid_for buf move ∷ js

      goes_first : goes_to all from ≡ frame
      goes_first = ap (λ b. unwrap_or (option_map (λ (job : Job). job.target.0) (cond b (Some (laid_for buf move)) (job_from js from))) from) (eq-eqb from from refl)

      goes_other : (x : ℕ) → (from == x) ≡ false → goes_to js x ≡ goes_to all x
      goes_other x e = sym (ap (λ b. unwrap_or (option_map (λ (job : Job). job.target.0) (cond b (Some (laid_for buf move)) (job_from js x))) x) e)

      frame_stays : is_some (job_from js frame) ≡ false
      frame_stays = stays_there (node_of s.layout) target buf after.taken frame d.from_elsewhere own.0

      place_is : after.state.place ≡ with_values (λ (q : Page) f. goes_to all f) s.place
      place_is =
          d.place
          ∙ with_values-moved page_cmp_total exact_page (goes_to js) (goes_to all) s.place p from frame h.order.place placed (goes_nowhere js frame frame_stays ∙ sym goes_first)
          (λ q x there other. goes_other x (apart q x there other))

      state_is : after.state ≡ record s { place = after.state.place; free = slice_set s.free target (drop (suc (length after.taken)) (free_list s target)) }
      state_is =
          d.state
          ∙ ap (λ free. record s { place = after.state.place; free = free })
          (ap (λ fs. slice_set (slice_set s.free target rest) target (drop (length after.taken) fs)) (list_now s.free target frame rest front)
          ∙ set-set s.free target rest (drop (length after.taken) rest)
          ∙ ap (λ fs. slice_set s.free target (drop (suc (length after.taken)) fs)) (sym front))

      source_other : (o : Option ℕ) → ((x : ℕ) → o ≡ Some x → (from == x) ≡ false) → is_source js o ≡ is_source all o
      source_other None ne = refl
      source_other (Some x) ne = sym (ap (λ b. is_some (cond b (Some (laid_for buf move)) (job_from js x))) (ne x refl))

      pages_are : (q : Page) → (same_page q p || list_any (same_page q) (map (λ (t : PageMove). t.page) after.taken)) ≡ is_source all (get page_cmp s.place q)
      pages_are q =
          elim (is_eq (page_cmp q p)) as (λ b. is_eq (page_cmp q p) ≡ b → (b || list_any (same_page q) (map (λ (t : PageMove). t.page) after.taken)) ≡ is_source all (get page_cmp s.place q)) [
            | true ↦ λ b. sym (ap (is_source all) (ap (get page_cmp s.place) (exact_page q p (equal _ b)) ∙ placed) ∙ ap (λ c. is_some (cond c (Some (laid_for buf move)) (job_from js from))) (eq-eqb from from refl))
            | false ↦ λ b.
                d.pages q ∙ ap (is_source js) (get-set page_cmp_total s.place p frame q ∙ ap (λ c. cond c (Some frame) (get page_cmp s.place q)) b)
                ∙ source_other (get page_cmp s.place q) (λ x there. apart q x there b)
          ] refl

      copies_still : (es : List (ℕ × ℕ)) → AllByRecursion (CopiesFrom next target js) es → AllByRecursion (CopiesFrom s target all) es
      copies_still [] c = tt
      copies_still (e ∷ es) c =
          let q = c.0.0 in
          let new : cond (is_eq (page_cmp q p)) (Some frame) (get page_cmp s.place q) ≡ Some e.0 = sym (get-set page_cmp_total s.place p frame q) ∙ c.0.1 in (
            elim (is_eq (page_cmp q p)) as (λ b. is_eq (page_cmp q p) ≡ b → cond b (Some frame) (get page_cmp s.place q) ≡ Some e.0 → CopiesFrom s target all e) [
              | true ↦ λ b k. absurd (no (sym c.0.3 ∙ eq-eqb (node_of s.layout e.0) target (ap (node_of s.layout) (sym (some_is k)) ∙ own.0)))
              | false ↦ λ b k. (q, k, sym (goes_other e.0 (apart q e.0 k b)) ∙ c.0.2, c.0.3)
            ] refl new,
            copies_still es c.1,
          )

      few_are : (f : ℕ) → times f (frame ∷ map (λ (t : PageMove). t.to) after.taken) ≤ times f (free_list s target)
      few_are f =
          let mine = times_cons f frame (map (λ (t : PageMove). t.to) after.taken) in
          let less = d.few f in
          let now : times f (free_list next target) ≡ times f rest = ap (times f) (list_now s.free target frame rest front) in
          let whole : times f (free_list s target) ≡ here f frame + times f rest = ap (times f) front ∙ times_cons f frame rest in
          omega (arith, mine, less, now, whole)

      pub moved_decided : (status : ℤ) → IsDecided s target buf (record { state = after.state; statuses = status ∷ after.statuses; taken = move ∷ after.taken })
      moved_decided status =
          record {
            place = place_is;
            state = state_is;
            pages = pages_are;
            copies = ((p, placed, goes_first, elsewhere), copies_still (map frames_of_job js) d.copies);
            from_elsewhere = (elsewhere, d.from_elsewhere);
            to_target = (own.0, d.to_target);
            few = few_are;
          }

-- requests that are left, from whatever sound state
abbrev Rest : ℕ → Store → List Wanted → Type 0
Rest target buf ws = (s : State) (l : List ℕ) → IsSoundInFlight s l → IsDecided s target buf (each_request s target ws)

page_decided : (s : State) (l : List ℕ) (target : ℕ) (buf : Store) (ws : List Wanted) (p : Page) (from : ℕ) (front : List ℕ) → Rest target buf ws → IsSoundInFlight s l → get page_cmp s.place p ≡ Some from → (node_of s.layout from == target) ≡ false → free_list s target ≡ front
    → IsSoundInFlight (moved_page s target p from front).state (l ++ frames_left (moved_page s target p from front).taken) → IsDecided s target buf (then_each (moved_page s target p from front) target ws)
page_decided s l target buf ws p from [] rest h placed elsewhere e sound = same_decided s target buf ws (moved_page s target p from []) refl refl (rest s l h)
page_decided s l target buf ws p from (frame ∷ others) rest h placed elsewhere e sound =
    let next : State = (moved_page s target p from (frame ∷ others)).state in
    moved_decided s target buf ws l h p from frame others placed elsewhere e (each_request next target ws) (rest next (l ++ from ∷ []) sound) (pos target)

class_decided : (s : State) (l : List ℕ) (target : ℕ) (buf : Store) (ws : List Wanted) (c : Class) → Rest target buf ws → IsSoundInFlight s l → ClassIsPlaced s c → IsElsewhere s target c → IsDecided s target buf (then_each (decision s target c) target ws)
class_decided s l target buf ws (Status status) rest h placed elsewhere = same_decided s target buf ws (decision s target (Status status)) refl refl (rest s l h)
class_decided s l target buf ws (Move p from) rest h placed elsewhere =
    page_decided s l target buf ws p from (free_list s target) rest h placed elsewhere refl (decided_sound s l target (Move p from) h placed)

pub each_decided : (target : ℕ) (buf : Store) (ws : List Wanted) (s : State) (l : List ℕ) → IsSoundInFlight s l → IsDecided s target buf (each_request s target ws)
each_decided target buf [] s l h = nothing_decided s target buf
each_decided target buf (w ∷ ws) s l h =
    class_decided s l target buf ws (status_or_move s target w) (each_decided target buf ws) h (status_placed s target w) (status_elsewhere s target w)
