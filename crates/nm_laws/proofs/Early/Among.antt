-- Pages in a set, and accesses that are held by the same pages.
use Rattle.std.proofs.Common.{◌≡◌, List, [], ◌∷◌, true, false, ◌||◌, refl, sym, ap, ◌∙◌}
use Rattle.std.specs.Prelude.{Result, Ok, Err, if◌then◌else◌}
use Rattle.std.specs.List.{list_any}
use Rattle.std.specs.BTreeSet.{insert_key}
use Rattle.std.specs.Ordering.{match_ordering}
use Rattle.std.specs.declared.cmp.Ordering.TheVariants.{Less, Equal, Greater}
use Rattle.nm_types.specs.declared.page.Page.{Page}
use Rattle.nm_types.specs.declared.errno.Errno.{Errno}
use Rattle.nm_types.specs.Map.{page_cmp, same_page}
use Rattle.nm_types.specs.State.{State}
use Rattle.nm_types.proofs.Maps.{exact_page}
use Rattle.nm_model.specs.definitions.Touch.{AccessSite, shown_at, Access, is_held, site_of_access}
use Rattle.nm_model.specs.definitions.BeforeCopy.{PendingAccess, BeforeCopy, held_before_copy, access_before_copy, before_copy, AllBeforeCopy, all_before_copy}

-- one more page
pub one_more : (l : List Page) (p q : Page) → list_any (same_page q) (insert_key page_cmp l p) ≡ (same_page q p || list_any (same_page q) l)
one_more [] p q = refl
one_more (x ∷ l) p q =
    elim (page_cmp p x) as (λ r. page_cmp p x ≡ r → list_any (same_page q) (match_ordering r (p ∷ x ∷ l) (x ∷ l) (x ∷ insert_key page_cmp l p)) ≡ (same_page q p || (same_page q x || list_any (same_page q) l))) [
      | Less ↦ λ r. refl
      | Equal ↦ λ r.
          let is : p ≡ x = exact_page p x r in
          elim (same_page q x) as (λ b. same_page q x ≡ b → (b || list_any (same_page q) l) ≡ (same_page q p || (b || list_any (same_page q) l))) [
            | true ↦ λ b. ap (λ c. c || true) (sym (ap (same_page q) is ∙ b))
            | false ↦ λ b. ap (λ c. c || list_any (same_page q) l) (sym (ap (same_page q) is ∙ b))
          ] refl
      | Greater ↦ λ r.
          ap (λ b. same_page q x || b) (one_more l p q)
          ∙ elim (same_page q x) as (λ a. (a || (same_page q p || list_any (same_page q) l)) ≡ (same_page q p || (a || list_any (same_page q) l))) [
            | true ↦ elim (same_page q p) as (λ c. true ≡ (c || true)) [ true ↦ refl | false ↦ refl ]
            | false ↦ refl
          ]
    ] refl

-- the same pages hold the same accesses
module _ (a b : List Page) (same : (p : Page) → list_any (same_page p) a ≡ list_any (same_page p) b) where
  held_alike : (r : Result AccessSite Errno) → is_held a r ≡ is_held b r
  held_alike (Err e) = refl
  held_alike (Ok at) = same (shown_at at)

  early_alike : (s : State) (x : Access) → before_copy s a x ≡ before_copy s b x
  early_alike s x = ap (λ c. if c then held_before_copy s else access_before_copy s x) (held_alike (site_of_access s x))

  abbrev due_first : PendingAccess → AllBeforeCopy → AllBeforeCopy
  due_first due rest = record { state = rest.state; all_due = due ∷ rest.all_due }

  pub all_early_alike : (accesses : List Access) (s : State) → all_before_copy s a accesses ≡ all_before_copy s b accesses
  all_early_alike [] s = refl
  all_early_alike (x ∷ accesses) s =
      ap (λ (e : BeforeCopy). due_first e.due (all_before_copy e.state a accesses)) (early_alike s x)
      ∙ ap (due_first (before_copy s b x).due) (all_early_alike accesses (before_copy s b x).state)
