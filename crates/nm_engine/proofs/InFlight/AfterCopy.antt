-- What is left to do for accesses, done on the bytes of frames while pages are copied.
use Rattle.std.proofs.Common.{◌≡◌, ℕ, ◌<◌, List, [], ◌∷◌, true, false, length, refl, sym, ap, ◌∙◌}
use Rattle.std.specs.Prelude.{Some, None, slice_set, if◌then◌else◌}
use Rattle.std.specs.Option.{unwrap_or, option_map}
use Rattle.std.specs.List.{AllByRecursion}
use Rattle.std.specs.List.Sorted.{IsStrictlySortedBy}
use Rattle.std.specs.Map.{keys_of}
use Rattle.std.specs.Ordering.{is_eq}
use Rattle.std.specs.Cmp.{tied_itself}
use Rattle.std.proofs.lemmas.List.{get_or-set_same, get_or-set_other}
use Rattle.nm_types.specs.declared.page.Page.{Page}
use Rattle.nm_types.specs.Map.{Map, get, page_cmp, with_values}
use Rattle.nm_types.specs.State.{Process, State}
use Rattle.nm_types.proofs.Cases.{some_is}
use Rattle.nm_types.proofs.Maps.{page_cmp_total, exact_page, equal, get-values, agree}
use Rattle.nm_model.specs.views.Table.{Table}
use Rattle.nm_model.specs.definitions.Frames.{Store, bytes_of, overwrite}
use Rattle.nm_engine.specs.views.Shown.{PagedFrames}
use Rattle.nm_model.specs.definitions.Memory.{stretch_of}
use Rattle.nm_model.specs.definitions.Touch.{AccessResults}
use Rattle.nm_engine.specs.views.Shown.{state_of_parts, bytes_in}
use Rattle.nm_model.specs.definitions.Sound.{PlacesAreApart}
use Rattle.nm_model.specs.definitions.Touch.{AccessAnswer, Bytes}
use Rattle.nm_model.specs.definitions.BeforeCopy.{PendingAccess, Known, ToRead, ToWrite, at_page, after_copy, answer_after_copy, all_after_copy}
use Rattle.nm_pool.specs.definitions.AfterCopy.{frame_at, store_after_copy, answer_from_store, StoreAfterCopy, all_stored_after_copy, CanDo}
use Rattle.nm_pool.proofs.AfterCopy.Refilled.{all_can_then}

values_twice : {K V W X : Type 0} (F : K → W → X) (G : K → V → W) (m : Map K V) → with_values F (with_values G m) ≡ with_values (λ k v. F k (G k v)) m
values_twice F G [] = refl
values_twice F G (e ∷ m) = ap (λ es. (e.0, F e.0 (G e.0 e.1)) ∷ es) (values_twice F G m)

no : false ≡ true → ⊥
no e = cc

-- bytes that are written to the frame of a page are the page's
pub written_bytes : (place : Map Page ℕ) (store : Store) (p : Page) (f : ℕ) (g : List ℕ → List ℕ) → IsStrictlySortedBy page_cmp (keys_of place) → PlacesAreApart place → get page_cmp place p ≡ Some f → f < length store
    → bytes_in (slice_set store f (Some (g (bytes_of store f)))) place ≡ with_values (at_page p g) (bytes_in store place)
written_bytes place store p f g sorted apart placed inside =
    agree page_cmp_total exact_page (λ q h. bytes_of (slice_set store f (Some (g (bytes_of store f)))) h) (λ q h. at_page p g q (bytes_of store h)) place sorted (λ q h found.
    elim (is_eq (page_cmp q p)) as (λ b. is_eq (page_cmp q p) ≡ b → bytes_of (slice_set store f (Some (g (bytes_of store f)))) h ≡ (if b then g (bytes_of store h) else bytes_of store h)) [
      | true ↦ λ b.
          let same : f ≡ h = some_is (sym placed ∙ ap (get page_cmp place) (sym (exact_page q p (equal _ b))) ∙ found) in
          ap (λ k. bytes_of (slice_set store f (Some (g (bytes_of store f)))) k) (sym same)
          ∙ ap (λ o. unwrap_or o []) (get_or-set_same store f (Some (g (bytes_of store f))) None inside) ∙ ap (λ k. g (bytes_of store k)) same
      | false ↦ λ b.
          ap (λ o. unwrap_or o []) (get_or-set_other store f h (Some (g (bytes_of store f))) None (λ e. no (sym b ∙ ap (λ r. is_eq (page_cmp r p)) (apart q p f (found ∙ ap Some e) placed) ∙ ap is_eq (tied_itself page_cmp_total p))))
    ] refl)
    ∙ sym (values_twice (at_page p g) (λ q h. bytes_of store h) place)

-- ---- what is done on frames is done on pages

module _ (processes : Map ℕ Process) (table : Table) (online : List ℕ) (moved failed : ℕ) where
  -- the state with these bytes in its frames
  abbrev with_store : PagedFrames → Store → State
  with_store x store = state_of_parts processes table (record x { frames = store }) online moved failed

  module _ (x : PagedFrames) (sorted : IsStrictlySortedBy page_cmp (keys_of x.place)) (apart : PlacesAreApart x.place) where
    frame_is : (p : Page) (f : ℕ) → get page_cmp x.place p ≡ Some f → frame_at x.place p ≡ f
    frame_is p f placed = ap (λ o. unwrap_or o 0) placed

    done_shows : (store : Store) (d : PendingAccess) → CanDo x.place store d → with_store x (store_after_copy x.place store d) ≡ after_copy (with_store x store) d
    done_shows store (Known answer) can = refl
    done_shows store (ToRead page at len) can = refl
    done_shows store (ToWrite page at new) can =
        ap (λ f. with_store x (slice_set store f (Some (overwrite (bytes_of store f) at new)))) (frame_is page can.frame can.placed)
        ∙ ap (λ (b : Map Page (List ℕ)). record (with_store x store) { bytes = b })
        (written_bytes x.place store page can.frame (λ old. overwrite old at new) sorted apart can.placed can.home.in_range)

    told_shows : (store : Store) (d : PendingAccess) → CanDo x.place store d → answer_from_store x.place store d ≡ answer_after_copy (with_store x store) d
    told_shows store (Known answer) can = refl
    told_shows store (ToWrite page at new) can = refl
    told_shows store (ToRead page at len) can =
        let bytes : get page_cmp (bytes_in store x.place) page ≡ Some (bytes_of store can.frame) = get-values exact_page (λ q g. bytes_of store g) x.place page ∙ ap (option_map (bytes_of store)) can.placed in
        ap (λ f. Bytes (stretch_of (bytes_of store f) at len)) (frame_is page can.frame can.placed)
        ∙ sym (ap (λ o. Bytes (stretch_of (unwrap_or o []) at len)) bytes)

    -- both, one after another
    abbrev pub finished_as : StoreAfterCopy → AccessResults
    finished_as e = record { state = with_store x e.store; answers = e.answers }

    pub all_done_shows : (all_due : List PendingAccess) (store : Store) → AllByRecursion (CanDo x.place store) all_due → finished_as (all_stored_after_copy x.place store all_due) ≡ all_after_copy (with_store x store) all_due
    all_done_shows [] store can = refl
    all_done_shows (d ∷ all_due) store can =
        let next = store_after_copy x.place store d in
        ap (told_first (answer_from_store x.place store d)) (all_done_shows all_due next (all_can_then x.place store d all_due can.0 can.1) ∙ ap (λ (s : State). all_after_copy s all_due) (done_shows store d can.0))
        ∙ ap (λ a. told_first a (all_after_copy (after_copy (with_store x store) d) all_due)) (told_shows store d can.0)
      where
        told_first : AccessAnswer → AccessResults → AccessResults
        told_first a rest = record { state = rest.state; answers = a ∷ rest.answers }
