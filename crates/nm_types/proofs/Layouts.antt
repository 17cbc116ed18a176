-- What holds of machines.
use Rattle.std.proofs.Common.{◌≡◌, ℕ, zero, suc, ◌+◌, ◌<◌, ◌≤◌, true, false, List, [], ◌∷◌, All, length, refl, sym, ap, ◌∙◌, arith, zero-add, map}
use Rattle.std.specs.Prelude.{◌==◌, nat_lt, nat_le, Some, None, slice_index, slice_index_or, if◌then◌else◌}
use Rattle.std.specs.List.{list_any}
use Rattle.std.proofs.lemmas.List.{get_or-map, get_or_default, length-map}
use Rattle.std.proofs.lemmas.Bool.{eqb-true, eqb-false, ltb-false, leb-true, and_parts, or_parts, eq-eqb, ne_eqb}
use Rattle.nm_types.specs.Layout.{Layout, node_count, frame_count, distance, is_distance, are_distances, is_row, are_rows, is_square, IsMachine}
use Rattle.nm_types.specs.Refusal.{refusal}
use Rattle.nm_types.specs.declared.geometry.GeometryError.{GeometryError}
use Rattle.nm_types.specs.declared.geometry.GeometryError.TheVariants.{NoNodes, TooManyNodes, EmptyNode, TooManyFrames, BadDistance}

none : {e : GeometryError} → Some e ≡ None → ⊥
none e = cc

no_empty : (sizes : List ℕ) → list_any (λ size. size == 0) sizes ≡ false → All (λ size. 0 < size) sizes
no_empty [] h = λ k d lt. absurd (omega (arith, lt))
no_empty (size ∷ sizes) h = λ k.
    let parts = or_parts (size == 0) (list_any (λ n. n == 0) sizes) h in
    elim k as (λ n. (d : ℕ) → n < length (size ∷ sizes) → 0 < slice_index_or (size ∷ sizes) n d) [
      | zero ↦ λ d lt. let some : size ≡ 0 → ⊥ = eqb-false size 0 parts.0 in omega (arith, some)
      | suc n ↦ λ d lt. no_empty sizes parts.1 n d (omega (arith, lt))
    ]

-- a layout without a fault is a machine
pub IsMachine-from_refusal : (g : Layout) → refusal g ≡ None → IsMachine g
IsMachine-from_refusal g =
    elim (node_count g == 0) as (λ b. (node_count g == 0) ≡ b → (if b then Some NoNodes else (if nat_lt 64 (node_count g) then Some TooManyNodes else (if list_any (λ size. size == 0) g.sizes then Some EmptyNode else (if nat_lt 16384 (frame_count g) then Some TooManyFrames else (if is_square g then None else Some BadDistance))))) ≡ None → IsMachine g) [
      | true ↦ λ a h. absurd (none h)
      | false ↦ λ a. elim (nat_lt 64 (node_count g)) as (λ b. nat_lt 64 (node_count g) ≡ b → (if b then Some TooManyNodes else (if list_any (λ size. size == 0) g.sizes then Some EmptyNode else (if nat_lt 16384 (frame_count g) then Some TooManyFrames else (if is_square g then None else Some BadDistance)))) ≡ None → IsMachine g) [
        | true ↦ λ b h. absurd (none h)
        | false ↦ λ b. elim (list_any (λ size. size == 0) g.sizes) as (λ x. list_any (λ size. size == 0) g.sizes ≡ x → (if x then Some EmptyNode else (if nat_lt 16384 (frame_count g) then Some TooManyFrames else (if is_square g then None else Some BadDistance))) ≡ None → IsMachine g) [
          | true ↦ λ c h. absurd (none h)
          | false ↦ λ c. elim (nat_lt 16384 (frame_count g)) as (λ x. nat_lt 16384 (frame_count g) ≡ x → (if x then Some TooManyFrames else (if is_square g then None else Some BadDistance)) ≡ None → IsMachine g) [
            | true ↦ λ d h. absurd (none h)
            | false ↦ λ d. elim (is_square g) as (λ x. is_square g ≡ x → (if x then None else Some BadDistance) ≡ None → IsMachine g) [
              | true ↦ λ e h.
                  let some : node_count g ≡ 0 → ⊥ = eqb-false (node_count g) 0 a in
                  record {
                    some_node = omega (arith, some);
                    few_nodes = ltb-false 64 (node_count g) b;
                    no_empty_node = no_empty g.sizes c;
                    few_frames = ltb-false 16384 (frame_count g) d;
                    square = e;
                  }
              | false ↦ λ e h. absurd (none h)
            ] refl
          ] refl
        ] refl
      ] refl
    ] refl

are_distances_at : (own to : ℕ) (ds : List ℕ) (k : ℕ) → are_distances own to ds ≡ true → k < length ds → is_distance own (to + k) (slice_index ds k) ≡ true
are_distances_at own to [] k h lt = absurd (omega (arith, lt))
are_distances_at own to (d ∷ ds) zero h lt = let e : to ≡ to + 0 = omega arith in ap (λ n. is_distance own n d) (sym e) ∙ (and_parts _ _ h).0
are_distances_at own to (d ∷ ds) (suc k) h lt =
    let e : (to + 1) + k ≡ to + suc k = omega arith in
    ap (λ n. is_distance own n (slice_index ds k)) (sym e) ∙ are_distances_at own (to + 1) ds k (and_parts _ _ h).1 (omega (arith, lt))

are_rows_at : (count own : ℕ) (rows : List (List ℕ)) (k : ℕ) → are_rows count own rows ≡ true → k < length rows → is_row count (own + k) (slice_index_or rows k []) ≡ true
are_rows_at count own [] k h lt = absurd (omega (arith, lt))
are_rows_at count own (row ∷ rows) zero h lt = let e : own ≡ own + 0 = omega arith in ap (λ n. is_row count n row) (sym e) ∙ (and_parts _ _ h).0
are_rows_at count own (row ∷ rows) (suc k) h lt =
    let e : (own + 1) + k ≡ own + suc k = omega arith in
    ap (λ n. is_row count n (slice_index_or rows k [])) (sym e) ∙ are_rows_at count (own + 1) rows k (and_parts _ _ h).1 (omega (arith, lt))

module _ (g : Layout) (machine : IsMachine g) (from : ℕ) (lt : from < node_count g) where
  rows_length : length g.distances ≡ node_count g
  rows_length = eqb-true _ _ (and_parts _ _ machine.square).0

  pub from_row : from < length g.distances
  from_row = omega (arith, rows_length)

  row_is : is_row (node_count g) from (slice_index_or g.distances from []) ≡ true
  row_is = ap (λ n. is_row (node_count g) n (slice_index_or g.distances from [])) (sym (zero-add from)) ∙ are_rows_at (node_count g) 0 g.distances from (and_parts _ _ machine.square).1 from_row

  -- the row of a node has a distance to each node
  pub row_length : length (slice_index_or g.distances from []) ≡ node_count g
  row_length = eqb-true _ _ (and_parts _ _ row_is).0

  is_distance_to : (to : ℕ) → to < node_count g → is_distance from to (distance g from to) ≡ true
  is_distance_to to h = ap (λ n. is_distance from n (distance g from to)) (sym (zero-add to)) ∙ are_distances_at from 0 (slice_index_or g.distances from []) to (and_parts _ _ row_is).1 (omega (arith, row_length))

  pub own_distance : (to : ℕ) → to < node_count g → from ≡ to → distance g from to ≡ 10
  own_distance to h e = eqb-true _ _ (ap (λ b. if b then distance g from to == 10 else nat_le 11 (distance g from to)) (sym (eq-eqb to from (sym e))) ∙ is_distance_to to h)

  pub other_distance : (to : ℕ) → to < node_count g → (from ≡ to → ⊥) → 11 ≤ distance g from to
  other_distance to h ne = leb-true _ _ (ap (λ b. if b then distance g from to == 10 else nat_le 11 (distance g from to)) (sym (ne_eqb to from (λ e. ne (sym e)))) ∙ is_distance_to to h)

-- reading a distance out of the rows
module _ {R : Type 0} (items : R → List ℕ) (sizes : List ℕ) (rows : List R) (from i j : ℕ) (row : R)
    (machine : IsMachine (record { sizes = sizes; distances = map items rows })) (lt : from < length sizes) (at : i ≡ from) (is : row ≡ slice_index_or rows i row) where
  there : i < length rows
  there = let h : from < length (map items rows) = from_row (record { sizes = sizes; distances = map items rows }) machine from lt in omega (arith, h, length-map rows items)

  the_row : items row ≡ slice_index_or (map items rows) from []
  the_row = ap items is ∙ (sym (get_or-map items rows i row [] there) ∙ ap (λ n. slice_index_or (map items rows) n []) at)

  pub is_within : j < length sizes → j < length (items row)
  is_within h =
      let long : length (slice_index_or (map items rows) from []) ≡ length sizes = row_length (record { sizes = sizes; distances = map items rows }) machine from lt in
      omega (arith, ap length the_row)

  pub reads : (to d : ℕ) → j ≡ to → to < length sizes → d ≡ slice_index_or (items row) j d → d ≡ distance (record { sizes = sizes; distances = map items rows }) from to
  reads to d e h read =
      let inside : j < length (items row) = is_within (omega arith) in
      read ∙ get_or_default (items row) j d 0 inside ∙ (ap (λ r. slice_index r j) the_row ∙ ap (λ n. slice_index (slice_index_or (map items rows) from []) n) e)
