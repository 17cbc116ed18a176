use Rattle.std.proofs.Common.{◌≡◌, List, [], ◌∷◌, map, ap, ◌∙◌, refl, Vec, ℕ}
use Rattle.std.specs.List.{AllZip, each_same}
use Rattle.std.specs.Vec.{vec_len}
use Rattle.nm_types.proofs.geometry.GeometryClone.clone.Goals as goal

-- rows whose items are the same, one by one
rows_same : {A : Type 0} (xs ys : List (Vec ℕ A)) → AllZip (λ v w. AllZip (λ x y. y ≡ x) v.items w.items × (vec_len w ≡ vec_len v)) xs ys → map (λ row. row.items) ys ≡ map (λ row. row.items) xs
rows_same [] [] h = refl
rows_same [] (y ∷ ys) h = absurd h
rows_same (x ∷ xs) [] h = absurd h
rows_same (x ∷ xs) (y ∷ ys) h = ap (λ r. r ∷ map (λ row. row.items) ys) (each_same x.items y.items h.0.0) ∙ ap (λ rs. x.items ∷ rs) (rows_same xs ys h.1)

pub invariant_of-result : goal.invariant_of-result
invariant_of-result g c =
    let sizes = each_same c.self.inside.sizes.items c.in_ok-clone.field-0.items c.in_ok-clone.ensures.cases.0 in
    let rows = rows_same c.self.inside.distances.items c.in_ok-clone-2.field-0.items c.in_ok-clone-2.ensures.cases.0 in
    rw sizes (rw rows c.self.invariant)

pub returns : goal.returns
returns g c =
    let sizes = each_same c.self.inside.sizes.items c.in_ok-clone.field-0.items c.in_ok-clone.ensures.cases.0 in
    let rows = rows_same c.self.inside.distances.items c.in_ok-clone-2.field-0.items c.in_ok-clone-2.ensures.cases.0 in
    record { cases = ap (λ (ss : List ℕ). record { sizes = ss; distances = map (λ row. row.items) c.in_ok-clone-2.field-0.items }) sizes ∙ ap (λ (rs : List (List ℕ)). record { sizes = c.self.inside.sizes.items; distances = rs }) rows ∙ c.self.view_is }
