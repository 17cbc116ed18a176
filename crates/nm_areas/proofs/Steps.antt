-- What the steps of a step function say, and how they change.
use Rattle.std.proofs.Common.{◌≡◌, ℕ, zero, suc, ◌+◌, ◌-◌, ◌≤◌, ◌<◌, ◌^◌, Bool, true, false, refl, sym, ap, ◌∙◌, arith, inl, inr}
use Rattle.std.specs.Prelude.{Option, Some, None, ◌==◌, if◌then◌else◌}
use Rattle.std.specs.Option.{option_map}
use Rattle.std.specs.Ordering.{is_gt}
use Rattle.std.specs.Cmp.{nat_cmp_is}
use Rattle.std.specs.declared.cmp.Ordering.TheVariants.{Less}
use Rattle.std.proofs.lemmas.Bool.{eqb-true, false_from_ne_true}
use Rattle.nm_types.specs.declared.page.Page.{Page}
use Rattle.nm_types.specs.Map.{Map, get, page_cmp, same_page}
use Rattle.nm_types.proofs.Cases.{some_none, none_some, some_is}
use Rattle.nm_coverage.specs.declared.step.Step.{Step}
use Rattle.nm_coverage.specs.Shifted.{shift_step, shifted_in, is_between}
use Rattle.nm_coverage.proofs.Orders.{pages_same, page_itself}
use Rattle.nm_areas.specs.Coverage.{step_at, IsSteps, IsFlat}
use Rattle.nm_model.specs.definitions.Areas.{page_in}
use Rattle.nm_model.proofs.areas.Overs.{up_to, from_up_to, spot_same}
use Rattle.nm_model.proofs.areas.Halves.{less_from}

-- ---- what stands at a page

abbrev stood : ℕ → ℕ → Step
stood covers ends = record { covers = covers; ends = ends }

pub none_ends : (e c : ℕ) → step_at e c ≡ None → e ≡ 0
none_ends e c h =
    elim (e == 0) as (λ b. (e == 0) ≡ b → (if b then None else Some (stood (c) (e))) ≡ None → e ≡ 0) [
      | true ↦ λ b k. eqb-true e 0 b
      | false ↦ λ b k. absurd (some_none k)
    ] refl h

step_is : (s t : Step) → Some s ≡ Some t → s ≡ t
step_is s t h = some_is h

pub some_step : (e c : ℕ) (s : Step) → step_at e c ≡ Some s → (s.covers ≡ c) × (s.ends ≡ e)
some_step e c s h =
    elim (e == 0) as (λ b. (if b then None else Some (stood (c) (e))) ≡ Some s → (s.covers ≡ c) × (s.ends ≡ e)) [
      | true ↦ λ k. absurd (none_some k)
      | false ↦ λ k. let is = step_is (stood (c) (e)) s k in (ap (λ (z : Step). z.covers) (sym is), ap (λ (z : Step). z.ends) (sym is))
    ] h

step_there : (e c : ℕ) → (e ≡ 0 → ⊥) → step_at e c ≡ Some (stood (c) (e))
step_there e c h = ap (λ b. if b then None else Some (stood (c) (e))) (false_from_ne_true (e == 0) (λ k. h (eqb-true e 0 k)))

-- the same numbers
pub steps_same : (m : Map Page Step) (ends covers new_ends new_covers : Page → ℕ) → IsSteps m ends covers → ((p : Page) → ends p ≡ new_ends p) → ((p : Page) → covers p ≡ new_covers p) → IsSteps m new_ends new_covers
steps_same m ends covers new_ends new_covers h e c p = h p ∙ ap (λ n. step_at n (covers p)) (e p) ∙ ap (step_at (new_ends p)) (c p)

-- more ends
pub flat_more : (ends covers more : Page → ℕ) → IsFlat ends covers → IsFlat (λ p. ends p + more p) covers
flat_more ends covers more flat = (
  λ s h. flat.0 s (omega (arith, h)),
  λ s i h. flat.1 s i (omega (arith, h)),
)

-- ---- the last step up to a page

module _ (ends covers : Page → ℕ) (flat : IsFlat ends covers) (s : ℕ) where
  pub flat_zero : (n : ℕ) → ((j : ℕ) → j ≤ n → ends (page_in s j) ≡ 0) → covers (page_in s n) ≡ 0
  flat_zero zero h = flat.0 s (h 0 (omega arith))
  flat_zero (suc n) h = flat.1 s n (h (suc n) (omega arith)) ∙ flat_zero n (λ j low. h j (omega (arith, low)))

  pub flat_same : (i n to : ℕ) → to ≡ i + n → ((j : ℕ) → i < j → j ≤ to → ends (page_in s j) ≡ 0) → covers (page_in s to) ≡ covers (page_in s i)
  flat_same i zero to is h = let here : to ≡ i = omega (arith, is) in ap (λ k. covers (page_in s k)) here
  flat_same i (suc n) to is h =
      let there : to ≡ suc (i + n) = omega (arith, is) in
      ap (λ k. covers (page_in s k)) there
      ∙ flat.1 s (i + n) (ap (λ k. ends (page_in s k)) (sym there) ∙ h to (omega (arith, is)) (omega arith))
      ∙ flat_same i n (i + n) refl (λ j low high. h j low (omega (arith, high, there)))

module _ (m : Map Page Step) (page : Page) (ends covers : Page → ℕ) (steps : IsSteps m ends covers) (flat : IsFlat ends covers) where
  module _ (e : Page × Step) (here : (is_gt (page_cmp e.0 page) ≡ false) × (get page_cmp m e.0 ≡ Some e.1)) (last : (p : Page) → page_cmp e.0 p ≡ Less → is_gt (page_cmp p page) ≡ false → get page_cmp m p ≡ None) where
    abbrev spot : ℕ × ℕ
    spot = (e.0.segment, e.0.index)

    -- a page up to it of which the last step comes in front has none
    none_behind : (j : ℕ) → j ≤ page.index → page_cmp e.0 (page_in page.segment j) ≡ Less → ends (page_in page.segment j) ≡ 0
    none_behind j high less =
        let q = page_in page.segment j in
        none_ends (ends q) (covers q) (sym (steps q) ∙ last q less (from_up_to (page.segment, j) (page.segment, page.index) refl high))

    pub last_tells : e.0.segment ≡ page.segment → e.1.covers ≡ covers page
    last_tells same =
        let low : e.0.index ≤ page.index = elim (up_to spot (page.segment, page.index) here.0) as (λ _. e.0.index ≤ page.index) [
          | inl k ↦ absurd (omega (arith, k, same))
          | inr k ↦ k.1
        ] in
        (some_step (ends e.0) (covers e.0) e.1 (sym (steps e.0) ∙ here.1)).0
        ∙ ap (λ n. covers (page_in n e.0.index)) same
        ∙ sym (flat_same ends covers flat page.segment e.0.index (page.index - e.0.index) page.index (omega (arith, low)) (λ j from to.
        none_behind j to (spot_same spot (page.segment, j) same ∙ sym (nat_cmp_is e.0.index j Less from))))

    pub last_other : (e.0.segment ≡ page.segment → ⊥) → 0 ≡ covers page
    last_other other =
        let low : e.0.segment < page.segment = elim (up_to spot (page.segment, page.index) here.0) as (λ _. e.0.segment < page.segment) [
          | inl k ↦ k
          | inr k ↦ absurd (other k.0)
        ] in
        sym (flat_zero ends covers flat page.segment page.index (λ j to. none_behind j to (less_from spot (page.segment, j) (inl low))))

  pub last_none : ((p : Page) → is_gt (page_cmp p page) ≡ false → get page_cmp m p ≡ None) → 0 ≡ covers page
  last_none none =
      sym (flat_zero ends covers flat page.segment page.index (λ j to.
      let q = page_in page.segment j in
      none_ends (ends q) (covers q) (sym (steps q) ∙ none q (from_up_to (page.segment, j) (page.segment, page.index) refl to))))

-- ---- a step that changes

there_kept : (x : Step) (o : Option Step) → option_map (λ there. if false then x else there) o ≡ o
there_kept x None = refl
there_kept x (Some s) = refl

-- more ends at a page
pub more_ends : (m new : Map Page Step) (page : Page) (times count last : ℕ) → 0 < times → ((p : Page) → get page_cmp new p ≡ (if same_page page p then Some (stood count last) else get page_cmp m p))
    → (ends covers : Page → ℕ) → IsSteps m ends covers → count ≡ covers page → last ≡ ends page + times → IsSteps new (λ p. ends p + (if same_page page p then times else 0)) covers
more_ends m new page times count last some shows ends covers steps counted ended p =
    shows p
    ∙ elim (same_page page p) as (λ b. same_page page p ≡ b → (if b then Some (stood count last) else get page_cmp m p) ≡ step_at (ends p + (if b then times else 0)) (covers p)) [
      | true ↦ λ b.
          let same = pages_same page p b in
          ap (λ c. Some (stood c last)) counted ∙ ap (λ n. Some (stood (covers page) n)) ended
          ∙ sym (step_there (ends page + times) (covers page) (λ z. omega (arith, some, z))) ∙ ap (λ (q : Page). step_at (ends q + times) (covers q)) same
      | false ↦ λ b. let none : ends p ≡ ends p + 0 = omega arith in steps p ∙ ap (λ n. step_at n (covers p)) none
    ] refl

module _ (m new : Map Page Step) (page : Page) (times left : ℕ) (step : Step) (there : Some step ≡ get page_cmp m page) (is : left ≡ step.ends - times) (ends covers : Page → ℕ)
    (steps : IsSteps m (λ p. ends p + (if same_page page p then times else 0)) covers) where
  at_page : (step.covers ≡ covers page) × (step.ends ≡ ends page + times)
  at_page =
      let at = some_step (ends page + (if same_page page page then times else 0)) (covers page) step (sym (steps page) ∙ sym there) in
      (at.0, at.1 ∙ ap (λ c. ends page + (if c then times else 0)) (page_itself page page refl))

  rest : ends page ≡ left
  rest = let all = at_page.1 in omega (arith, all, is)

  elsewhere : (p : Page) → same_page page p ≡ false → get page_cmp m p ≡ step_at (ends p) (covers p)
  elsewhere p b =
      let none : ends p + (if same_page page p then times else 0) ≡ ends p = ap (λ c. ends p + (if c then times else 0)) b ∙ (omega arith) in
      steps p ∙ ap (λ n. step_at n (covers p)) none

  -- fewer ends at a page, and some are left
  pub fewer_ends : (left ≡ 0 → ⊥) → ((p : Page) → get page_cmp new p ≡ option_map (λ there. if same_page page p then stood step.covers left else there) (get page_cmp m p)) → IsSteps new ends covers
  fewer_ends some shows p =
      let w : Step = stood step.covers left in
      shows p
      ∙ elim (same_page page p) as (λ b. same_page page p ≡ b → option_map (λ there. if b then w else there) (get page_cmp m p) ≡ step_at (ends p) (covers p)) [
        | true ↦ λ b.
            let same = pages_same page p b in
            ap (λ (q : Page). option_map (λ there. w) (get page_cmp m q)) (sym same) ∙ ap (option_map (λ there. w)) (sym there)
            ∙ ap (λ c. Some (stood c left)) at_page.0
            ∙ sym (step_there left (covers page) some) ∙ ap (λ n. step_at n (covers page)) (sym rest) ∙ ap (λ (q : Page). step_at (ends q) (covers q)) same
        | false ↦ λ b. there_kept w (get page_cmp m p) ∙ elsewhere p b
      ] refl

  -- and none are left
  pub no_ends : left ≡ 0 → ((p : Page) → get page_cmp new p ≡ (if same_page page p then None else get page_cmp m p)) → IsSteps new ends covers
  no_ends none shows p =
      shows p
      ∙ elim (same_page page p) as (λ b. same_page page p ≡ b → (if b then None else get page_cmp m p) ≡ step_at (ends p) (covers p)) [
        | true ↦ λ b. sym (ap (λ n. step_at n (covers p)) (ap (λ (q : Page). ends q) (sym (pages_same page p b)) ∙ rest ∙ none))
        | false ↦ λ b. elsewhere p b
      ] refl

-- ---- the numbers of a stretch that is covered once more, or once less

module _ (m new : Map Page Step) (segment first past : ℕ) (ends covers : Page → ℕ) where
  abbrev more : Page → ℕ
  more p = if is_between segment first past p then 1 else 0

  pub shift_up : ((p : Page) → get page_cmp new p ≡ option_map (shifted_in segment first past true p) (get page_cmp m p)) → IsSteps m ends covers → ((p : Page) → covers p < 2 ^ 63) → IsSteps new ends (λ p. covers p + more p)
  shift_up shows steps few p =
      let small = few p in
      shows p ∙ ap (option_map (shifted_in segment first past true p)) (steps p)
      ∙ elim (ends p == 0) as (λ b. option_map (shifted_in segment first past true p) (if b then None else Some (stood (covers p) (ends p))) ≡ (if b then None else Some (stood (covers p + more p) (ends p)))) [
        | true ↦ refl
        | false ↦ elim (is_between segment first past p) as (λ c. Some (if c then shift_step true (stood (covers p) (ends p)) else stood (covers p) (ends p)) ≡ Some (stood (covers p + (if c then 1 else 0)) (ends p))) [
          | true ↦
              let fits : (covers p == 2 ^ 64 - 1) ≡ false = false_from_ne_true _ (λ k. let last = eqb-true (covers p) (2 ^ 64 - 1) k in omega (arith, small, last)) in
              ap (λ d. Some (stood (if d then 0 else covers p + 1) (ends p))) fits
          | false ↦ let same : covers p ≡ covers p + 0 = omega arith in ap (λ n. Some (stood (n) (ends p))) same
        ]
      ]

  pub shift_down : ((p : Page) → get page_cmp new p ≡ option_map (shifted_in segment first past false p) (get page_cmp m p)) → IsSteps m ends (λ p. covers p + more p) → IsSteps new ends covers
  shift_down shows steps p =
      shows p ∙ ap (option_map (shifted_in segment first past false p)) (steps p)
      ∙ elim (ends p == 0) as (λ b. option_map (shifted_in segment first past false p) (if b then None else Some (stood (covers p + more p) (ends p))) ≡ (if b then None else Some (stood (covers p) (ends p)))) [
        | true ↦ refl
        | false ↦ elim (is_between segment first past p) as (λ c. Some (if c then shift_step false (stood (covers p + (if c then 1 else 0)) (ends p)) else stood (covers p + (if c then 1 else 0)) (ends p)) ≡ Some (stood (covers p) (ends p))) [
          | true ↦
              let some : (covers p + 1 == 0) ≡ false = false_from_ne_true _ (λ k. let none = eqb-true (covers p + 1) 0 k in omega (arith, none)) in
              let fits : covers p + 1 - 1 ≡ covers p = omega arith in
              ap (λ d. Some (stood (if d then 2 ^ 64 - 1 else covers p + 1 - 1) (ends p))) some ∙ ap (λ n. Some (stood (n) (ends p))) fits
          | false ↦ let same : covers p + 0 ≡ covers p = omega arith in ap (λ n. Some (stood (n) (ends p))) same
        ]
      ]

pub one_end : (b : Bool) → (if b then 1 else 0) ≤ 1
one_end true = omega arith
one_end false = omega arith
