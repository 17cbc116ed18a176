-- Frames that have their bytes in memory, and what keeps them.
use Rattle.std.proofs.Common.{◌≡◌, ℕ, zero, suc, ◌+◌, ◌<◌, ◌≤◌, List, [], ◌∷◌, ◌++◌, length, refl, sym, ap, subst, ◌∙◌, arith, length-append, length-take, length-drop, ⊎_elim}
use Rattle.std.specs.Prelude.{Option, Some, None, slice_set}
use Rattle.std.specs.Option.{unwrap_or}
use Rattle.std.specs.List.{AllByRecursion}
use Rattle.std.proofs.lemmas.Bool.{cases_eq}
use Rattle.std.proofs.lemmas.List.{get_or-set_same, get_or-set_other}
use Rattle.nm_types.specs.declared.page.Page.{Page}
use Rattle.nm_types.specs.declared.page_move.PageMove.{PageMove}
use Rattle.nm_types.specs.Map.{Map}
use Rattle.nm_pool.specs.views.Populated.{IsPopulated}
use Rattle.nm_model.specs.definitions.Frames.{Store, IsHome, bytes_of, overwrite}
use Rattle.nm_model.specs.definitions.BeforeCopy.{PendingAccess, Known, ToRead, ToWrite, IsInside}
use Rattle.nm_pool.specs.views.Copies.{HasBoth, with_copy, with_copies}
use Rattle.nm_pool.specs.definitions.AfterCopy.{frame_at, all_stored_after_copy, CanDo}
use Rattle.nm_pool.specs.views.Frames.{KeepsBytes}

-- ---- what a store keeps

pub keeps_self : (s : Store) → KeepsBytes s s
keeps_self s = record { as_many = refl; home = λ f home. home; bytes = λ f whole. refl }

pub keeps_populated : (a b : Store) (f : ℕ) → KeepsBytes a b → IsPopulated a f → IsPopulated b f
keeps_populated a b f kept whole = ap (λ (bytes : List ℕ). length bytes) (kept.bytes f whole) ∙ whole

pub keeps_then : (a b c : Store) → KeepsBytes a b → KeepsBytes b c → KeepsBytes a c
keeps_then a b c first next = record {
  as_many = next.as_many ∙ first.as_many;
  home = λ f home. next.home f (first.home f home);
  bytes = λ f whole. next.bytes f (keeps_populated a b f first whole) ∙ first.bytes f whole;
}

pub keeps_all : (fs : List ℕ) (a b : Store) → KeepsBytes a b → AllByRecursion (IsPopulated a) fs → AllByRecursion (IsPopulated b) fs
keeps_all [] a b kept all = tt
keeps_all (f ∷ fs) a b kept all = (keeps_populated a b f kept all.0, keeps_all fs a b kept all.1)

-- every frame is home still
pub homes_then : (a b : Store) → KeepsBytes a b → ((f : ℕ) → f < length a → IsHome a f) → (f : ℕ) → f < length b → IsHome b f
homes_then a b kept home f below = kept.home f (home f (subst (λ n. f < n) kept.as_many below))

pub all_joined : (s : Store) (fs gs : List ℕ) → AllByRecursion (IsPopulated s) fs → AllByRecursion (IsPopulated s) gs → AllByRecursion (IsPopulated s) (fs ++ gs)
all_joined s [] gs front back = back
all_joined s (f ∷ fs) gs front back = (front.0, all_joined s fs gs front.1 back)

-- ---- a frame gets its bytes in memory

-- ---- a frame gets other bytes

populated_inside : (s : Store) (q : ℕ) → IsPopulated s q → q < length s
populated_inside [] q whole = absurd (omega (arith, whole))
populated_inside (x ∷ s) zero whole = omega arith
populated_inside (x ∷ s) (suc q) whole = let rest = populated_inside s q whole in omega (arith, rest)

pub set_populated : (s : Store) (f q : ℕ) (bytes : List ℕ) → length bytes ≡ 4096 → IsPopulated s q → IsPopulated (slice_set s f (Some bytes)) q
set_populated s f q bytes many whole =
    let read : Option (List ℕ) → ℕ = λ o. length (unwrap_or o []) in
    ⊎_elim (λ same.
    ap (λ k. length (bytes_of (slice_set s f (Some bytes)) k)) same
    ∙ ap read (get_or-set_same s f (Some bytes) None (subst (λ k. k < length s) same (populated_inside s q whole))) ∙ many)
    (λ apart. ap read (get_or-set_other s f q (Some bytes) None apart) ∙ whole) (cases_eq q f)

pub all_set : (fs : List ℕ) (s : Store) (f : ℕ) (bytes : List ℕ) → length bytes ≡ 4096 → AllByRecursion (IsPopulated s) fs → AllByRecursion (IsPopulated (slice_set s f (Some bytes))) fs
all_set [] s f bytes many all = tt
all_set (g ∷ fs) s f bytes many all = (set_populated s f g bytes many all.0, all_set fs s f bytes many all.1)

pub overwritten_whole : (old : List ℕ) (at : ℕ) (new : List ℕ) → at + length new ≤ 4096 → length old ≡ 4096 → length (overwrite old at new) ≡ 4096
overwritten_whole old at new fits whole = simp (length-append, length-take, length-drop) (omega (arith, whole, fits))

pub written_populated : (s : Store) (f q at : ℕ) (new : List ℕ) → at + length new ≤ 4096 → IsPopulated s q → IsPopulated (slice_set s f (Some (overwrite (bytes_of s f) at new))) q
written_populated s f q at new fits whole =
    let now = overwrite (bytes_of s f) at new in
    ⊎_elim (λ same. set_populated s f q now (overwritten_whole (bytes_of s f) at new fits (ap (λ k. length (bytes_of s k)) (sym same) ∙ whole)) whole)
    (λ apart. ap (λ (o : Option (List ℕ)). length (unwrap_or o [])) (get_or-set_other s f q (Some now) None apart) ∙ whole) (cases_eq q f)

pub all_written : (fs : List ℕ) (s : Store) (f at : ℕ) (new : List ℕ) → at + length new ≤ 4096 → AllByRecursion (IsPopulated s) fs → AllByRecursion (IsPopulated (slice_set s f (Some (overwrite (bytes_of s f) at new)))) fs
all_written [] s f at new fits all = tt
all_written (g ∷ fs) s f at new fits all = (written_populated s f g at new fits all.0, all_written fs s f at new fits all.1)

-- ---- pages are copied, and accesses are made

froms_then : (taken : List PageMove) (s : Store) (t : PageMove) → IsPopulated s t.from → AllByRecursion (HasBoth s) taken → AllByRecursion (HasBoth (with_copy s t)) taken
froms_then [] s t from all = tt
froms_then (u ∷ taken) s t from all = (
  (set_populated s t.to u.from (bytes_of s t.from) from all.0.0, set_populated s t.to u.to (bytes_of s t.from) from all.0.1),
  froms_then taken s t from all.1,
)

pub copies_populated : (taken : List PageMove) (s : Store) (q : ℕ) → AllByRecursion (HasBoth s) taken → IsPopulated s q → IsPopulated (with_copies s taken) q
copies_populated [] s q both whole = whole
copies_populated (t ∷ taken) s q both whole =
    copies_populated taken (with_copy s t) q (froms_then taken s t both.0.0 both.1) (set_populated s t.to q (bytes_of s t.from) both.0.0 whole)

pub done_populated : (place : Map Page ℕ) (all_due : List PendingAccess) (s : Store) (q : ℕ) → AllByRecursion IsInside all_due → IsPopulated s q → IsPopulated (all_stored_after_copy place s all_due).store q
done_populated place [] s q inside whole = whole
done_populated place (Known answer ∷ all_due) s q inside whole = done_populated place all_due s q inside.1 whole
done_populated place (ToRead page at len ∷ all_due) s q inside whole = done_populated place all_due s q inside.1 whole
done_populated place (ToWrite page at new ∷ all_due) s q inside whole =
    let f = frame_at place page in
    done_populated place all_due (slice_set s f (Some (overwrite (bytes_of s f) at new))) q inside.1 (written_populated s f q at new inside.0 whole)

pub can_inside : (place : Map Page ℕ) (s : Store) (all_due : List PendingAccess) → AllByRecursion (CanDo place s) all_due → AllByRecursion IsInside all_due
can_inside place s [] can = tt
can_inside place s (Known answer ∷ all_due) can = (tt, can_inside place s all_due can.1)
can_inside place s (ToRead page at len ∷ all_due) can = (can.0.inside, can_inside place s all_due can.1)
can_inside place s (ToWrite page at new ∷ all_due) can = (can.0.inside, can_inside place s all_due can.1)

-- frames that have their bytes in memory have them once pages are copied and accesses made
pub after_populated : (fs : List ℕ) (place : Map Page ℕ) (all_due : List PendingAccess) (taken : List PageMove) (out s : Store) → AllByRecursion (HasBoth s) taken → AllByRecursion (CanDo place out) all_due → AllByRecursion (IsPopulated s) fs
    → AllByRecursion (IsPopulated (all_stored_after_copy place (with_copies s taken) all_due).store) fs
after_populated [] place all_due taken out s both can all = tt
after_populated (f ∷ fs) place all_due taken out s both can all = (
  done_populated place all_due (with_copies s taken) f (can_inside place out all_due can) (copies_populated taken s f both all.0),
  after_populated fs place all_due taken out s both can all.1,
)
