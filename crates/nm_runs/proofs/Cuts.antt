-- The longest stretches of a batch, and that no others are such.
use Rattle.std.proofs.Common.{arith, ◌≡◌, ℕ, ◌<◌, true, false, List, [], ◌∷◌, ◌++◌, length, refl, sym, subst, ap, ◌∙◌}
use Rattle.std.specs.Prelude.{◌==◌, ◌≢◌, if◌then◌else◌}
use Rattle.std.specs.List.{AllByRecursion}
use Rattle.std.proofs.lemmas.Bool.{eqb-true, eqb-false, eq-eqb, ne_eqb}
use Rattle.nm_types.specs.declared.request.Wanted.{Wanted}
use Rattle.nm_model.specs.definitions.Cut.{Request, Stretch, in_front, cut, all_to, all_requests, size_of, OfFirst, AllNeighbours, EachBatchHasOneCut}

-- some requests
abbrev pub IsSome : Stretch → Type 0
IsSome r = 0 < size_of r

-- the next one goes elsewhere
abbrev pub GoesApart : Stretch → Stretch → Type 0
GoesApart r next = r.target ≢ next.target

in_front_joined : (e : Request) (rs : List Stretch) → all_requests (in_front e rs) ≡ e ∷ all_requests rs
in_front_joined e [] = refl
in_front_joined e (r ∷ rs) =
    let with_it : List Stretch = record { target = r.target; wanted = e.wanted ∷ r.wanted } ∷ rs in
    let alone : List Stretch = record { target = e.target; wanted = e.wanted ∷ [] } ∷ r ∷ rs in
    elim (e.target == r.target) as (λ b. (e.target == r.target) ≡ b → all_requests (if b then with_it else alone) ≡ e ∷ all_requests (r ∷ rs)) [
      | true ↦ λ h. ap (λ t. all_to t (e.wanted ∷ []) ++ all_requests (r ∷ rs)) (sym (eqb-true e.target r.target h))
      | false ↦ λ h. refl
    ] refl

pub cut_joined : (es : List Request) → all_requests (cut es) ≡ es
cut_joined [] = refl
cut_joined (e ∷ es) = in_front_joined e (cut es) ∙ ap (λ fs. e ∷ fs) (cut_joined es)

in_front_some : (e : Request) (rs : List Stretch) → AllByRecursion IsSome rs → AllByRecursion IsSome (in_front e rs)
in_front_some e [] h = (omega arith, tt)
in_front_some e (r ∷ rs) h =
    let with_it : List Stretch = record { target = r.target; wanted = e.wanted ∷ r.wanted } ∷ rs in
    let alone : List Stretch = record { target = e.target; wanted = e.wanted ∷ [] } ∷ r ∷ rs in
    elim (e.target == r.target) as (λ b. AllByRecursion IsSome (if b then with_it else alone)) [
      | true ↦ (omega arith, h.1)
      | false ↦ (omega arith, h)
    ]

pub cut_some : (es : List Request) → AllByRecursion IsSome (cut es)
cut_some [] = tt
cut_some (e ∷ es) = in_front_some e (cut es) (cut_some es)

in_front_apart : (e : Request) (rs : List Stretch) → AllNeighbours GoesApart rs → AllNeighbours GoesApart (in_front e rs)
in_front_apart e [] h = (tt, tt)
in_front_apart e (r ∷ rs) h =
    let with_it : List Stretch = record { target = r.target; wanted = e.wanted ∷ r.wanted } ∷ rs in
    let alone : List Stretch = record { target = e.target; wanted = e.wanted ∷ [] } ∷ r ∷ rs in
    elim (e.target == r.target) as (λ b. (e.target == r.target) ≡ b → AllNeighbours GoesApart (if b then with_it else alone)) [
      | true ↦ λ same. h
      | false ↦ λ other. (eqb-false e.target r.target other, h)
    ] refl

pub cut_apart : (es : List Request) → AllNeighbours GoesApart (cut es)
cut_apart [] = tt
cut_apart (e ∷ es) = in_front_apart e (cut es) (cut_apart es)

-- what holds of the target of the first request
abbrev pub FirstGoes : (ℕ → Type 0) → List Request → Type 0
FirstGoes P es = OfFirst (λ (e : Request). P e.target) es

-- the first of some runs goes where their first request does
pub joined_goes : (P : ℕ → Type 0) (rs : List Stretch) → AllByRecursion IsSome rs → OfFirst (λ (r : Stretch). P r.target) rs → FirstGoes P (all_requests rs)
joined_goes P [] some h = tt
joined_goes P (r ∷ rs) some h = first_goes P r.target r.wanted (all_requests rs) some.0 h
  where
    first_goes : (P : ℕ → Type 0) (t : ℕ) (ws : List Wanted) (es : List Request) → 0 < length ws → P t → FirstGoes P (all_to t ws ++ es)
    first_goes P t [] es some h = let z : ⊥ = omega (arith, some) in absurd z
    first_goes P t (w ∷ ws) es some h = h

in_front_same : (t : ℕ) (w : Wanted) (ws : List Wanted) (cs : List Stretch) → in_front (record { target = t; wanted = w }) (record { target = t; wanted = ws } ∷ cs) ≡ record { target = t; wanted = w ∷ ws } ∷ cs
in_front_same t w ws cs =
    let with_it : List Stretch = record { target = t; wanted = w ∷ ws } ∷ cs in
    let alone : List Stretch = record { target = t; wanted = w ∷ [] } ∷ record { target = t; wanted = ws } ∷ cs in
    ap (λ b. if b then with_it else alone) (eq-eqb t t refl)

in_front_other : (t : ℕ) (w : Wanted) (rs : List Stretch) → OfFirst (λ (r : Stretch). t ≢ r.target) rs → in_front (record { target = t; wanted = w }) rs ≡ record { target = t; wanted = w ∷ [] } ∷ rs
in_front_other t w [] h = refl
in_front_other t w (r ∷ rs) h =
    let with_it : List Stretch = record { target = r.target; wanted = w ∷ r.wanted } ∷ rs in
    let alone : List Stretch = record { target = t; wanted = w ∷ [] } ∷ r ∷ rs in
    ap (λ b. if b then with_it else alone) (ne_eqb t r.target h)

-- requests for the node of the first run join it
pub cut_more : (t : ℕ) (ws : List Wanted) (es : List Request) (vs : List Wanted) (cs : List Stretch) → cut es ≡ record { target = t; wanted = vs } ∷ cs → cut (all_to t ws ++ es) ≡ record { target = t; wanted = ws ++ vs } ∷ cs
cut_more t [] es vs cs h = h
cut_more t (w ∷ ws) es vs cs h = ap (in_front (record { target = t; wanted = w })) (cut_more t ws es vs cs h) ∙ in_front_same t w (ws ++ vs) cs

cut_goes : (P : ℕ → Type 0) (es : List Request) → FirstGoes P es → OfFirst (λ (r : Stretch). P r.target) (cut es)
cut_goes P [] h = tt
cut_goes P (e ∷ es) h = in_front_goes P e (cut es) h
  where
    in_front_goes : (P : ℕ → Type 0) (e : Request) (rs : List Stretch) → P e.target → OfFirst (λ (r : Stretch). P r.target) (in_front e rs)
    in_front_goes P e [] h = h
    in_front_goes P e (r ∷ rs) h =
        let with_it : List Stretch = record { target = r.target; wanted = e.wanted ∷ r.wanted } ∷ rs in
        let alone : List Stretch = record { target = e.target; wanted = e.wanted ∷ [] } ∷ r ∷ rs in
        elim (e.target == r.target) as (λ b. (e.target == r.target) ≡ b → OfFirst (λ (s : Stretch). P s.target) (if b then with_it else alone)) [
          | true ↦ λ same. subst P (eqb-true e.target r.target same) h
          | false ↦ λ other. h
        ] refl

-- requests for another node are a run in front
pub cut_other : (t : ℕ) (ws : List Wanted) (es : List Request) → 0 < length ws → FirstGoes (λ n. t ≢ n) es → cut (all_to t ws ++ es) ≡ record { target = t; wanted = ws } ∷ cut es
cut_other t [] es some apart = let z : ⊥ = omega (arith, some) in absurd z
cut_other t (w ∷ []) es some apart = in_front_other t w (cut es) (cut_goes (λ n. t ≢ n) es apart)
cut_other t (w ∷ v ∷ ws) es some apart =
    let more : 0 < length (v ∷ ws) = omega arith in
    ap (in_front (record { target = t; wanted = w })) (cut_other t (v ∷ ws) es more apart) ∙ in_front_same t w (v ∷ ws) (cut es)

only_joined : (rs : List Stretch) → AllByRecursion IsSome rs → AllNeighbours GoesApart rs → rs ≡ cut (all_requests rs)
only_joined [] some apart = refl
only_joined (r ∷ rs) some apart =
    ap (λ l. r ∷ l) (only_joined rs some.1 apart.1)
    ∙ sym (cut_other r.target r.wanted (all_requests rs) some.0 (joined_goes (λ n. r.target ≢ n) rs some.1 apart.0))

pub each_batch_has_one_cut : EachBatchHasOneCut
each_batch_has_one_cut requests = record {
  is = record { same = cut_joined requests; some = cut_some requests; apart = cut_apart requests };
  only = λ runs other. only_joined runs other.some other.apart ∙ ap cut other.same;
}
