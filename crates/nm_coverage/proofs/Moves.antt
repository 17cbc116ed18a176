-- What is seen of a stretch that grows or falls.
use Rattle.std.proofs.Common.{◌≡◌, ℕ, Bool, false, sym, ap, ◌∙◌}
use Rattle.std.specs.Prelude.{if◌then◌else◌}
use Rattle.std.specs.Option.{option_map}
use Rattle.std.specs.Ordering.{is_gt, is_le}
use Rattle.nm_types.specs.declared.page.Page.{Page}
use Rattle.nm_types.specs.Map.{Map, get, page_cmp}
use Rattle.nm_model.specs.definitions.Areas.{page_in}
use Rattle.nm_coverage.specs.declared.parts.Part.{Part}
use Rattle.nm_coverage.specs.declared.step.Step.{Step}
use Rattle.nm_coverage.specs.Parts.{add_at, with_parts}
use Rattle.nm_coverage.specs.Shifted.{one_more_or_less, shift_step, shifted_in, with_add, is_page_within}
use Rattle.nm_coverage.proofs.Orders.{le_trans}
use Rattle.nm_coverage.proofs.Between.{between_is}
use Rattle.nm_coverage.proofs.Seen.{seen_at, view_at}
use Rattle.nm_coverage.proofs.Shifts.{all_at, one_at}

abbrev Stepped : Bool → Page → Page → Map Page Step → Map Page Step → Type 0
Stepped up from to old new = (p : Page) → get page_cmp new p ≡ option_map (λ step. if is_page_within from to p then shift_step up step else step) (get page_cmp old p)

module _ (stored : Map Page Step) (parts : Map Page Part) (view : Map Page Step) (is : with_parts stored parts ≡ view) (segment first past : ℕ) (up : Bool) where
  abbrev from : Page
  from = page_in segment first

  abbrev to : Page
  to = page_in segment past

  as_seen : (p : Page) → option_map (λ step. if is_page_within from to p then shift_step up step else step) (option_map (with_add (add_at parts p)) (get page_cmp stored p)) ≡ option_map (shifted_in segment first past up p) (get page_cmp view p)
  as_seen p =
      ap (λ b. option_map (λ step. if b then shift_step up step else step) (option_map (with_add (add_at parts p)) (get page_cmp stored p))) (sym (between_is segment first past p))
      ∙ ap (option_map (shifted_in segment first past up p)) (sym (view_at stored parts view is p))

  -- each step by itself
  pub one_seen : (new : Map Page Step) → Stepped up from to stored new → (p : Page) → get page_cmp (with_parts new parts) p ≡ option_map (shifted_in segment first past up p) (get page_cmp view p)
  one_seen new steps p =
      seen_at new parts p ∙ ap (option_map (with_add (add_at parts p))) (steps p) ∙ one_at (add_at parts p) up (is_page_within from to p) (get page_cmp stored p) ∙ as_seen p

  -- whole parts, with the steps in front of them and behind
  pub all_seen : (low high : Page) → is_gt (page_cmp from low) ≡ false → is_gt (page_cmp low high) ≡ false → is_gt (page_cmp high to) ≡ false → (front both : Map Page Step) (now : Map Page Part) → Stepped up from low stored front
      → ((p : Page) → add_at now p ≡ (if is_page_within low high p then one_more_or_less up (add_at parts p) else add_at parts p)) → Stepped up high to front both → (p : Page) → get page_cmp (with_parts both now) p ≡ option_map (shifted_in segment first past up p) (get page_cmp view p)
  all_seen low high begins between ends front both now steps added rest p =
      seen_at both now p ∙ ap (λ n. option_map (with_add n) (get page_cmp both p)) (added p)
      ∙ ap (option_map (with_add (if is_page_within low high p then one_more_or_less up (add_at parts p) else add_at parts p))) (rest p ∙ ap (option_map (λ step. if is_page_within high to p then shift_step up step else step)) (steps p))
      ∙ all_at (add_at parts p) up (is_le (page_cmp from p)) (is_le (page_cmp low p)) (is_le (page_cmp high p)) (is_le (page_cmp to p)) (le_trans from low p begins) (le_trans low high p between) (le_trans high to p ends) (get page_cmp stored p)
      ∙ as_seen p
