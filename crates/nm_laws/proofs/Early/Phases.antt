-- A run with accesses in flight, phase by phase: its frames are taken, all touches are made, its pages move, and what
-- was left to do is done.
use Rattle.std.proofs.Common.{◌≡◌, ℕ, ◌<◌, List, [], ◌∷◌, ◌++◌, true, false, cond, map, length, take, drop, refl, sym, ap, subst, ◌∙◌, arith, length-set, append_assoc, suc}
use Rattle.std.specs.Prelude.{Some, slice_get, slice_set, slice_index_or}
use Rattle.std.specs.List.{AllByRecursion}
use Rattle.std.specs.Ordering.{is_eq}
use Rattle.std.proofs.lemmas.List.{get_or-set_same, set-set, set-get_or, append-nil}
use Rattle.nm_types.specs.declared.page.Page.{Page}
use Rattle.nm_types.specs.Layout.{Layout, node_of, node_count}
use Rattle.nm_types.specs.Map.{get, page_cmp}
use Rattle.nm_types.specs.State.{State, free_list}
use Rattle.nm_types.proofs.Maps.{page_cmp_total, get-set}
use Rattle.nm_types.specs.declared.request.Class.TheVariants.{Move}
use Rattle.nm_types.specs.declared.request.Wanted.{Wanted}
use Rattle.nm_types.specs.declared.page_move.PageMove.{PageMove}
use Rattle.nm_model.specs.definitions.Decide.{RunPlan}
use Rattle.nm_model.specs.definitions.Touch.{Access, all_in_flight}
use Rattle.nm_laws.specs.Laws.{with_move, with_moves}
use Rattle.nm_laws.specs.Moves.{CanMove, IsPlanOf}
use Rattle.nm_model.specs.definitions.Run.{moved_page, frames_left}
use Rattle.nm_model.specs.definitions.Sound.{IsSoundInFlight, IsSound}
use Rattle.nm_model.specs.definitions.BeforeCopy.{AllBeforeCopy, all_before_copy, all_after_copy, with_places, without_fronts, with_fronts, frames_taken, IsPending}
use Rattle.nm_laws.proofs.Soundness.Moved.{decided_sound}
use Rattle.nm_laws.proofs.Soundness.Counted.{front_is}
use Rattle.nm_laws.proofs.Early.Kept.{all_stay}
use Rattle.nm_laws.proofs.Early.Later.{touches_first, all_later}
use Rattle.nm_laws.proofs.Early.Places.{places_too, pages_among, moves_are_places}
use Rattle.nm_laws.proofs.Early.Fronts.{fronts_sound, returned_sound, all_taken}
use Rattle.nm_laws.proofs.Early.Ready.{all_due, all_layout}

abbrev pub pages_of : List PageMove → List Page
pages_of taken = map (λ t. t.page) taken

-- moves keep a machine sound
pub moves_sound : (taken : List PageMove) (s : State) (l : List ℕ) (target : ℕ) → IsSoundInFlight s l → CanMove s target taken → IsSoundInFlight (with_moves s target taken) (l ++ frames_left taken)
moves_sound [] s l target h can = subst (IsSoundInFlight s) (sym (append-nil l)) h
moves_sound (t ∷ taken) s l target h can =
    let front = front_is (free_list s target) t.to can.1 in
    let now = subst (λ (fs : List ℕ). IsSoundInFlight (moved_page s target t.page t.from fs).state (l ++ frames_left (moved_page s target t.page t.from fs).taken)) front (decided_sound s l target (Move t.page t.from) h can.0) in
    subst (IsSoundInFlight (with_moves s target (t ∷ taken))) (append_assoc l (t.from ∷ []) (frames_left taken)) (moves_sound taken (with_move target s t) (l ++ t.from ∷ []) target now can.3)

-- the frames that moves take are the front ones
pub tos_are : (taken : List PageMove) (s : State) (target : ℕ) → target < length s.free → CanMove s target taken → frames_taken taken ≡ take (length taken) (free_list s target)
tos_are [] s target inside can = refl
tos_are (t ∷ taken) s target inside can =
    let list = free_list s target in
    let front = front_is list t.to can.1 in
    ap (λ (l : List ℕ). t.to ∷ l) (tos_are taken (with_move target s t) target (omega (arith, inside, length-set s.free target (drop 1 list))) can.3
    ∙ ap (λ (l : List ℕ). take (length taken) l) (get_or-set_same s.free target (drop 1 list) [] inside))
    ∙ sym (ap (λ (l : List ℕ). take (suc (length taken)) l) front)

-- moves can be made if the pages are where they were, and the frames are in front
abbrev Stands : State → State → Type 0
Stands s t = (p : Page) (f : ℕ) → get page_cmp s.place p ≡ Some f → get page_cmp t.place p ≡ Some f

still_stands : (s t : State) (target : ℕ) (m : PageMove) → Stands s t → Stands (with_move target s m) (with_move target t m)
still_stands s t target m same p f e =
    get-set page_cmp_total t.place m.page m.to p
    ∙ elim (is_eq (page_cmp p m.page)) as (λ b. cond b (Some m.to) (get page_cmp s.place p) ≡ Some f → cond b (Some m.to) (get page_cmp t.place p) ≡ Some f) [ true ↦ λ e. e | false ↦ λ e. same p f e ]
    (sym (get-set page_cmp_total s.place m.page m.to p) ∙ e)

can_still : (taken : List PageMove) (s t : State) (target : ℕ) (rest : List ℕ) → CanMove s target taken → t.layout ≡ s.layout → Stands s t → target < length t.free → free_list t target ≡ frames_taken taken ++ rest → CanMove t target taken
can_still [] s t target rest can nodes same inside front = tt
can_still (m ∷ taken) s t target rest can nodes same inside front = (
  same m.page m.from can.0,
  ap (λ (l : List ℕ). slice_get l 0) front,
  (λ e. can.2 (sym (ap (λ (g : Layout). node_of g m.from) nodes) ∙ e)),
  can_still taken (with_move target s m) (with_move target t m) target rest can.3 nodes (still_stands s t target m same) (omega (arith, inside, length-set t.free target (drop 1 (free_list t target))))
      (get_or-set_same t.free target (drop 1 (free_list t target)) [] inside ∙ ap (λ (l : List ℕ). drop 1 l) front),
)

drop_tos : (taken : List PageMove) (rest : List ℕ) → drop (length taken) (frames_taken taken ++ rest) ≡ rest
drop_tos [] rest = refl
drop_tos (t ∷ taken) rest = drop_tos taken rest

-- frames that went back and are taken again
pub again_list : (taken : List PageMove) (free : List (List ℕ)) (target : ℕ) → target < length free → let given = slice_set free target (frames_taken taken ++ slice_index_or free target []) in slice_set given target (drop (length taken) (slice_index_or given target [])) ≡ free
again_list taken free target inside =
    let l = slice_index_or free target [] in
    let given = frames_taken taken ++ l in
    set-set free target given (drop (length taken) (slice_index_or (slice_set free target given) target []))
    ∙ ap (λ (xs : List ℕ). slice_set free target xs) (ap (λ (xs : List ℕ). drop (length taken) xs) (get_or-set_same free target given [] inside) ∙ drop_tos taken l)
    ∙ set-get_or free target []

again : (taken : List PageMove) (s : State) (target : ℕ) → target < length s.free → without_fronts (with_fronts s target (frames_taken taken)) target (length taken) ≡ s
again taken s target inside = ap (λ free. record s { free = free }) (again_list taken s.free target inside)

-- a run with accesses in flight
module _ (s : State) (target : ℕ) (taken : List PageMove) (accesses : List Access) where
  -- once its frames are taken
  abbrev pub fronts_taken : State
  fronts_taken = without_fronts s target (length taken)

  -- once all touches are made
  abbrev pub touched_all : AllBeforeCopy
  touched_all = all_before_copy fronts_taken (pages_of taken) accesses

  -- the same with its frames given back
  abbrev pub given_back : State
  given_back = with_fronts (touched_all.state) target (frames_taken taken)

  pub record IsPhased : Type 0 where
    pub sound : IsSoundInFlight (touched_all.state) (frames_taken taken)
    pub back : IsSound given_back
    pub can : CanMove given_back target taken
    pub due : AllByRecursion (IsPending (pages_of taken) (touched_all.state)) (touched_all.all_due)
    pub flight : all_in_flight (with_moves s target taken) (pages_of taken) accesses ≡ all_after_copy (with_moves given_back target taken) (touched_all.all_due)

  pub phased : IsSound s → target < length s.free → CanMove s target taken → IsPhased
  phased h inside can =
      let moved = pages_of taken in
      let n = length taken in
      let frames : frames_taken taken ≡ take n (free_list s target) = tos_are taken s target inside can in
      let start = subst (IsSoundInFlight fronts_taken) (sym frames) (fronts_sound s target n inside h) in
      let due = all_due (frames_taken taken) moved accesses fronts_taken start in
      let nodes : touched_all.state.layout ≡ s.layout = all_layout moved accesses fronts_taken in
      let within : target < length touched_all.state.free =
      let here = due.1.frames.lists in let there = h.frames.lists in let same = ap (λ (g : Layout). node_count g) nodes in omega (arith, here, there, same, inside) in
      let own = subst (AllByRecursion (λ f. node_of touched_all.state.layout f ≡ target)) (sym frames)
      (subst (λ (g : Layout). AllByRecursion (λ f. node_of g f ≡ target) (take n (free_list s target))) (sym nodes) (all_taken n (free_list s target) s.layout target (h.frames.own target))) in
      let back = returned_sound touched_all.state target (frames_taken taken) within own due.1 in
      let can_back : CanMove given_back target taken =
      can_still taken s given_back target (free_list touched_all.state target) can nodes
      (λ p f e. (all_stay p (Some f) (get page_cmp s.bytes p) (frames_taken taken) moved accesses fronts_taken (record { sound = start; some = refl; place = e; bytes = refl })).place)
      (omega (arith, within, length-set touched_all.state.free target (frames_taken taken ++ free_list touched_all.state target)))
      (get_or-set_same touched_all.state.free target (frames_taken taken ++ free_list touched_all.state target) [] within) in
      record {
        sound = due.1;
        back = back;
        can = can_back;
        due = due.0;
        flight =
            touches_first (frames_left taken) moved accesses (with_moves s target taken) (moves_sound taken s [] target h can)
            ∙ ap (λ (x : State). all_later (all_before_copy x moved accesses)) (moves_are_places taken s target inside h.order.place can)
            ∙ ap all_later (places_too moved taken (pages_among taken) accesses fronts_taken)
            ∙ ap (λ (x : State). all_after_copy (with_places x taken) touched_all.all_due) (sym (again taken touched_all.state target within))
            ∙ ap (λ (x : State). all_after_copy x touched_all.all_due) (sym (moves_are_places taken given_back target
            (omega (arith, within, length-set touched_all.state.free target (frames_taken taken ++ free_list touched_all.state target))) back.order.place can_back));
      }

  -- a run that is planned on the same machine can be made so
  pub planned_phases : (r : State) (ws : List Wanted) (p : RunPlan) → s ≡ r → IsPlanOf r target ws p → taken ≡ p.taken → IsSound s → target < node_count r.layout → IsPlanOf s target ws p × IsPhased
  planned_phases r ws p same plan taken_is h below =
      let own : IsPlanOf s target ws p = subst (λ (x : State). IsPlanOf x target ws p) (sym same) plan in
      let nodes = ap (λ (x : State). node_count x.layout) same in
      (own, phased h (omega (arith, h.frames.lists, nodes, below)) (subst (CanMove s target) (sym taken_is) own.can))
