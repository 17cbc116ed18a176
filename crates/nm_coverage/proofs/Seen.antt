-- The step that is seen at a page.
use Rattle.std.proofs.Common.{◌≡◌, ℕ, Bool, true, false, cond, refl, sym, ap, subst, ◌∙◌}
use Rattle.std.specs.Prelude.{Option, Some, None, IsSome, ◌%◌, ◌+◌, ◌^◌, if◌then◌else◌}
use Rattle.std.specs.Option.{option_map}
use Rattle.std.specs.Ordering.{is_eq}
use Rattle.nm_types.specs.declared.page.Page.{Page}
use Rattle.nm_types.specs.Map.{Map, get, replace, page_cmp, same_page}
use Rattle.nm_types.proofs.Maps.{exact_page, get-values, get-replace, page_cmp_total}
use Rattle.nm_coverage.specs.declared.parts.Part.{Part}
use Rattle.nm_coverage.specs.declared.step.Step.{Step}
use Rattle.nm_coverage.specs.Parts.{add_at, with_parts}
use Rattle.nm_coverage.specs.Shifted.{with_add}
use Rattle.nm_coverage.proofs.Orders.{pages_same}
use Rattle.nm_model.proofs.areas.Painted.{put_nowhere}

pub seen_at : (stored : Map Page Step) (parts : Map Page Part) (p : Page) → get page_cmp (with_parts stored parts) p ≡ option_map (with_add (add_at parts p)) (get page_cmp stored p)
seen_at stored parts p = get-values exact_page (λ q. with_add (add_at parts q)) stored p

-- where nothing is stored, nothing is seen
pub none_seen : (stored : Map Page Step) (parts : Map Page Part) (p : Page) → get page_cmp stored p ≡ None → get page_cmp (with_parts stored parts) p ≡ None
none_seen stored parts p none = seen_at stored parts p ∙ ap (option_map (with_add (add_at parts p))) none

pub some_seen : (stored : Map Page Step) (parts : Map Page Part) (p : Page) (s : Step) → get page_cmp stored p ≡ Some s → get page_cmp (with_parts stored parts) p ≡ Some (with_add (add_at parts p) s)
some_seen stored parts p s some = seen_at stored parts p ∙ ap (option_map (with_add (add_at parts p))) some

-- parts that add the same
pub same_seen : (old new : Map Page Step) (parts now : Map Page Part) → ((p : Page) → add_at now p ≡ add_at parts p) → (p : Page) → get page_cmp (with_parts new now) p ≡ option_map (with_add (add_at parts p)) (get page_cmp new p)
same_seen old new parts now same p = seen_at new now p ∙ ap (λ n. option_map (with_add n) (get page_cmp new p)) (same p)

step_there : (n m : ℕ) (c e : ℕ) → m ≡ n → (c + n) % 2 ^ 64 ≡ (c + m) % 2 ^ 64
step_there n m c e same = ap (λ k. (c + k) % 2 ^ 64) (sym same)

-- a step is put at a page
pub put_seen : (stored new : Map Page Step) (parts now : Map Page Part) (page : Page) (step : Step) (covers add : ℕ) → ((p : Page) → add_at now p ≡ add_at parts p) → add ≡ add_at parts page → (covers + add) % 2 ^ 64 ≡ step.covers
    → ((p : Page) → get page_cmp new p ≡ cond (is_eq (page_cmp page p)) (Some (record { covers = covers; ends = step.ends })) (get page_cmp stored p))
    → (p : Page) → get page_cmp (with_parts new now) p ≡ (if same_page page p then Some step else get page_cmp (with_parts stored parts) p)
put_seen stored new parts now page step covers add same is sum put p =
    let w : Step = record { covers = covers; ends = step.ends } in
    same_seen stored new parts now same p ∙ ap (option_map (with_add (add_at parts p))) (put p)
    ∙ elim (is_eq (page_cmp page p)) as (λ b. is_eq (page_cmp page p) ≡ b → option_map (with_add (add_at parts p)) (cond b (Some w) (get page_cmp stored p)) ≡ (if b then Some step else get page_cmp (with_parts stored parts) p)) [
      | true ↦ λ b.
          let here : add ≡ add_at parts p = is ∙ ap (λ (q : Page). add_at parts q) (pages_same page p b) in
          ap (λ n. Some (record step { covers = n })) (ap (λ k. (covers + k) % 2 ^ 64) (sym here) ∙ sum)
      | false ↦ λ b. sym (seen_at stored parts p)
    ] refl

-- a step is taken away
pub taken_seen : (stored new : Map Page Step) (parts now : Map Page Part) (page : Page) → ((p : Page) → IsSome (get page_cmp new p) → add_at now p ≡ add_at parts p)
    → ((p : Page) → get page_cmp new p ≡ cond (is_eq (page_cmp page p)) None (get page_cmp stored p))
    → (p : Page) → get page_cmp (with_parts new now) p ≡ (if same_page page p then None else get page_cmp (with_parts stored parts) p)
taken_seen stored new parts now page same taken p =
    seen_at new now p ∙ where_some (add_at now p) (add_at parts p) (get page_cmp new p) (same p) ∙ ap (option_map (with_add (add_at parts p))) (taken p)
    ∙ elim (is_eq (page_cmp page p)) as (λ b. option_map (with_add (add_at parts p)) (cond b None (get page_cmp stored p)) ≡ (if b then None else get page_cmp (with_parts stored parts) p)) [
      | true ↦ refl
      | false ↦ sym (seen_at stored parts p)
    ]
  where
    where_some : (n k : ℕ) (o : Option Step) → (IsSome o → n ≡ k) → option_map (with_add n) o ≡ option_map (with_add k) o
    where_some n k None h = refl
    where_some n k (Some s) h = ap (λ m. Some (with_add m s)) (h refl)

abbrev or_there : Bool → Step → Option Step → Option Step
or_there b x o = option_map (λ there. if b then x else there) o

kept : (x : Step) (o : Option Step) → o ≡ or_there false x o
kept x None = refl
kept x (Some s) = refl

replaced_at : (m : Map Page Step) (k : Page) (x : Step) (p : Page) → get page_cmp (replace page_cmp m k x) p ≡ or_there (same_page k p) x (get page_cmp m p)
replaced_at m k x p =
    elim (get page_cmp m k) as (λ o. get page_cmp m k ≡ o → get page_cmp (replace page_cmp m k x) p ≡ or_there (same_page k p) x (get page_cmp m p)) [
      | None ↦ λ o.
          ap (λ es. get page_cmp es p) (put_nowhere page_cmp m k x (sym o))
          ∙ elim (same_page k p) as (λ b. same_page k p ≡ b → get page_cmp m p ≡ or_there b x (get page_cmp m p)) [
            | true ↦ λ b. let none : get page_cmp m p ≡ None = ap (λ (q : Page). get page_cmp m q) (sym (pages_same k p b)) ∙ o in none ∙ sym (ap (or_there true x) none)
            | false ↦ λ b. kept x (get page_cmp m p)
          ] refl
      | Some y ↦ λ o.
          get-replace page_cmp_total exact_page m k x p (subst IsSome (sym o) refl)
          ∙ elim (same_page k p) as (λ b. same_page k p ≡ b → cond b (Some x) (get page_cmp m p) ≡ or_there b x (get page_cmp m p)) [
            | true ↦ λ b. let some : get page_cmp m p ≡ Some y = ap (λ (q : Page). get page_cmp m q) (sym (pages_same k p b)) ∙ o in sym (ap (or_there true x) some)
            | false ↦ λ b. kept x (get page_cmp m p)
          ] refl
    ] refl

pub replaced_seen : (stored new : Map Page Step) (parts : Map Page Part) (page : Page) (step : Step) (covers add : ℕ) → add ≡ add_at parts page → (covers + add) % 2 ^ 64 ≡ step.covers
    → new ≡ replace page_cmp stored page (record { covers = covers; ends = step.ends }) → (p : Page)
    → get page_cmp (with_parts new parts) p ≡ option_map (λ there. if same_page page p then step else there) (get page_cmp (with_parts stored parts) p)
replaced_seen stored new parts page step covers add is sum now p =
    let w : Step = record { covers = covers; ends = step.ends } in
    seen_at new parts p ∙ ap (λ m. option_map (with_add (add_at parts p)) (get page_cmp m p)) now ∙ ap (option_map (with_add (add_at parts p))) (replaced_at stored page w p)
    ∙ elim (same_page page p) as (λ b. same_page page p ≡ b → option_map (with_add (add_at parts p)) (or_there b w (get page_cmp stored p)) ≡ or_there b step (option_map (with_add (add_at parts p)) (get page_cmp stored p))) [
      | true ↦ λ b.
          let here : add ≡ add_at parts p = is ∙ ap (λ (q : Page). add_at parts q) (pages_same page p b) in
          replaced_there (add_at parts p) w step (ap (λ n. record step { covers = n }) (ap (λ k. (covers + k) % 2 ^ 64) (sym here) ∙ sum)) (get page_cmp stored p)
      | false ↦ λ b. ap (option_map (with_add (add_at parts p))) (sym (kept w (get page_cmp stored p))) ∙ kept step (option_map (with_add (add_at parts p)) (get page_cmp stored p))
    ] refl ∙ ap (or_there (same_page page p) step) (sym (seen_at stored parts p))
  where
    replaced_there : (n : ℕ) (w step : Step) → with_add n w ≡ step → (o : Option Step) → option_map (with_add n) (or_there true w o) ≡ or_there true step (option_map (with_add n) o)
    replaced_there n w step same None = refl
    replaced_there n w step same (Some s) = ap Some same

-- ---- the steps as contracts see them

module _ (stored : Map Page Step) (parts : Map Page Part) (view : Map Page Step) (is : with_parts stored parts ≡ view) where
  pub view_at : (p : Page) → get page_cmp view p ≡ option_map (with_add (add_at parts p)) (get page_cmp stored p)
  view_at p = ap (λ m. get page_cmp m p) (sym is) ∙ seen_at stored parts p

  pub view_none : (p : Page) → get page_cmp stored p ≡ None → get page_cmp view p ≡ None
  view_none p none = view_at p ∙ ap (option_map (with_add (add_at parts p))) none

  pub view_some : (p : Page) (s t : Step) (n : ℕ) → n ≡ add_at parts p → t ≡ with_add n s → Some s ≡ get page_cmp stored p → get page_cmp view p ≡ Some t
  view_some p s t n add now some = view_at p ∙ ap (option_map (with_add (add_at parts p))) (sym some) ∙ ap (λ k. Some (with_add k s)) (sym add) ∙ ap Some (sym now)

  pub view_has : (p : Page) → IsSome (get page_cmp stored p) → IsSome (get page_cmp view p)
  view_has p has = subst IsSome (sym (view_at p)) (still_some (with_add (add_at parts p)) (get page_cmp stored p) has)
    where
      still_some : (f : Step → Step) (o : Option Step) → IsSome o → IsSome (option_map f o)
      still_some f None h = h
      still_some f (Some s) h = refl
