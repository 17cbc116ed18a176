-- The runs of pages that each go to a node of their own.
use Rattle.std.proofs.Common.{arith, ◌≡◌, ℕ, zero, suc, ◌<◌, Bool, true, false, cond, List, [], ◌∷◌, length, map, take, refl, sym, ap, ◌∙◌, slice_index_or}
use Rattle.std.specs.Prelude.{◌==◌}
use Rattle.std.specs.List.{take_while}
use Rattle.std.proofs.lemmas.List.{length-map}
use Rattle.std.proofs.lemmas.List.Sums.{take_while-cons}
use Rattle.nm_policy.specs.declared.targets.Destination.{Destination}
use Rattle.nm_types.specs.declared.request.Wanted.{Wanted}
use Rattle.nm_types.specs.declared.request.Wanted.TheVariants.{At}
use Rattle.nm_model.specs.definitions.Cut.{Request, wanted_of, first_target, same_front, IsFirst}
use Rattle.nm_runs.proofs.Stretches.{first_stretch}
use Rattle.nm_passes.specs.definitions.Placement.{each_to}
use Rattle.nm_passes.specs.views.Turns.{first_node, same_node}

module _ (pid : ℕ) (all : Bool) where
  -- the request for a page
  abbrev pub request : Destination → Request
  request page = record { target = page.to; wanted = At pid page.vpn all }

  abbrev front : ℕ → List Destination → ℕ
  front t pages = length (take_while (λ e. e.target == t) (each_to pid all pages))

  by_node : (t : ℕ) (page : Destination) (pages : List Destination) (b : Bool) → length (take_while (λ p. p.to == t) pages) ≡ front t pages
      → length (cond b (page ∷ take_while (λ p. p.to == t) pages) []) ≡ length (cond b (request page ∷ take_while (λ e. e.target == t) (each_to pid all pages)) [])
  by_node t page pages true h = ap suc h
  by_node t page pages false h = refl

  -- the pages at the front for a node are as many as the requests for it
  front_of : (t : ℕ) (pages : List Destination) → length (take_while (λ p. p.to == t) pages) ≡ front t pages
  front_of t [] = refl
  front_of t (page ∷ pages) =
      ap length (take_while-cons (λ (p : Destination). p.to == t) page pages) ∙ by_node t page pages (page.to == t) (front_of t pages)
      ∙ sym (ap length (take_while-cons (λ (e : Request). e.target == t) (request page) (each_to pid all pages)))

  same_as_front : (pages : List Destination) → same_node pages ≡ same_front (each_to pid all pages)
  same_as_front [] = refl
  same_as_front (page ∷ pages) = front_of page.to (page ∷ pages)

  -- what is asked of the pages at the front
  asked_front : (k : ℕ) (pages : List Destination) → map (λ p. At pid p.vpn all) (take k pages) ≡ wanted_of (take k (each_to pid all pages))
  asked_front zero pages = refl
  asked_front (suc k) [] = refl
  asked_front (suc k) (page ∷ pages) = ap (λ (ws : List Wanted). At pid page.vpn all ∷ ws) (asked_front k pages)

  goes_first : (pages : List Destination) → first_node pages ≡ first_target (each_to pid all pages)
  goes_first [] = refl
  goes_first (page ∷ pages) = refl

  -- how many requests there are
  pub sent_length : (pages : List Destination) → length (each_to pid all pages) ≡ length pages
  sent_length pages = length-map {B = Request} pages request

  -- the pages at the front for one node are the first stretch
  pub sent_stretch : (pages : List Destination) (count target : ℕ) (wanted : List Wanted) → 0 < length pages → target ≡ first_node pages → count ≡ same_node pages → wanted ≡ map (λ p. At pid p.vpn all) (take count pages) → IsFirst (each_to pid all pages) target wanted
  sent_stretch pages count target wanted some goes front asks =
      let es = each_to pid all pages in
      let len = sent_length pages in
      first_stretch es target wanted (omega (arith, len, some)) (goes ∙ goes_first pages)
      (asks ∙ asked_front count pages ∙ ap (λ k. wanted_of (take k es)) (front ∙ same_as_front pages))

-- the node of the page at the front
pub first_goes : (pages : List Destination) (page : Destination) → 0 < length pages → (slice_index_or pages 0 page).to ≡ first_node pages
first_goes [] page some = absurd (omega (arith, some))
first_goes (p ∷ pages) page some = refl
