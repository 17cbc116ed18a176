use Rattle.std.proofs.Common.{◌≡◌, ◌≢◌, ℕ, ◌≤◌, true, false, not, List, length, map, sym, ap, ◌∙◌, arith}
use Rattle.std.specs.Prelude.{Option, Some, None, nat_lt, ◌&&◌}
use Rattle.std.specs.Option.{SomeIff, is_some}
use Rattle.std.proofs.lemmas.List.{length-map}
use Rattle.std.proofs.lemmas.Bool.{lt-ltb, le-ltb, eq-eqb, ne_eqb, false≢true}
use Rattle.nm_types.specs.Layout.{are_rows, is_square}
use Rattle.nm_types.proofs.geometry.fault_of.Goals.{else-distances-sizes-via-then-distances-sizes+else-are_rows, else-distances-sizes-via-else-distances-sizes}
use Rattle.nm_types.proofs.geometry.fault_of.Goals as goal

many : (o : Option ℕ) (n : ℕ) → SomeIff o (n ≤ 16384) n → is_some o ≡ false → nat_lt 16384 n ≡ true
many None n h e = lt-ltb 16384 n (omega (arith, h))
many (Some m) n h e = absurd (false≢true (sym e))

few : (o : Option ℕ) (n : ℕ) → SomeIff o (n ≤ 16384) n → is_some o ≡ true → nat_lt 16384 n ≡ false
few None n h e = absurd (false≢true e)
few (Some m) n h e = le-ltb 16384 n h.0

module _ {R : Type 0} (items : R → List ℕ) (sizes : List ℕ) (rows : List R) where
  is_square-as_rows : length rows ≡ length sizes → is_square (record { sizes = sizes; distances = map items rows }) ≡ are_rows (length sizes) 0 (map items rows)
  is_square-as_rows e = ap (λ b. b && are_rows (length sizes) 0 (map items rows)) (eq-eqb _ _ (length-map rows items ∙ e))

  is_square-not : length rows ≢ length sizes → is_square (record { sizes = sizes; distances = map items rows }) ≡ false
  is_square-not ne = ap (λ b. b && are_rows (length sizes) 0 (map items rows)) (ne_eqb _ _ (λ e. ne (sym (length-map rows items) ∙ e)))

pub returns-then-is_empty : goal.returns-then-is_empty
returns-then-is_empty g c = rw (sym c.is_empty.ensures ∙ c.if-is_empty.true)

pub returns-then-sizes-gt-MAX_NODES : goal.returns-then-sizes-gt-MAX_NODES
returns-then-sizes-gt-MAX_NODES g c = rw (sym c.is_empty.ensures ∙ c.if-is_empty.false, lt-ltb 64 (length c.args.sizes.now) c.if-sizes-gt-MAX_NODES.true)

pub returns-then-contains : goal.returns-then-contains
returns-then-contains g c = rw (sym c.is_empty.ensures ∙ c.if-is_empty.false, le-ltb 64 (length c.args.sizes.now) c.if-sizes-gt-MAX_NODES.false, sym c.contains.ensures.value ∙ c.if-contains.true)

pub returns-then-is_none : goal.returns-then-is_none
returns-then-is_none g c = rw (
  sym c.is_empty.ensures ∙ c.if-is_empty.false,
  le-ltb 64 (length c.args.sizes.now) c.if-sizes-gt-MAX_NODES.false,
  sym c.contains.ensures.value ∙ c.if-contains.false,
  many c.few_frames.result _ c.few_frames.ensures (c.is_none.ensures ∙ ap not c.if-is_none.true),
)

pub returns-then-are_rows : goal.returns-then-are_rows
returns-then-are_rows g c = rw (
  sym c.is_empty.ensures ∙ c.if-is_empty.false,
  le-ltb 64 (length c.args.sizes.now) c.if-sizes-gt-MAX_NODES.false,
  sym c.contains.ensures.value ∙ c.if-contains.false,
  few c.few_frames.result _ c.few_frames.ensures (c.is_none.ensures ∙ ap not c.if-is_none.false),
  is_square-as_rows (λ row. row.items) c.args.sizes.now c.args.distances.now c.if-distances-sizes.true ∙ sym c.are_rows.ensures ∙ c.if-are_rows.true,
)

pub returns-else-distances-sizes : goal.returns-else-distances-sizes
returns-else-distances-sizes g c =
    let bad : is_square (record { sizes = c.args.sizes.now; distances = map (λ row. row.items) c.args.distances.now }) ≡ false = elim c.else-distances-sizes.branch [
      | else-distances-sizes-via-then-distances-sizes+else-are_rows w ↦ is_square-as_rows (λ row. row.items) c.args.sizes.now c.args.distances.now w.if-distances-sizes.true ∙ sym w.are_rows.ensures ∙ w.if-are_rows.false
      | else-distances-sizes-via-else-distances-sizes w ↦ is_square-not (λ row. row.items) c.args.sizes.now c.args.distances.now w.if-distances-sizes.false
    ] in
    rw (
      sym c.is_empty.ensures ∙ c.if-is_empty.false,
      le-ltb 64 (length c.args.sizes.now) c.if-sizes-gt-MAX_NODES.false,
      sym c.contains.ensures.value ∙ c.if-contains.false,
      few c.few_frames.result _ c.few_frames.ensures (c.is_none.ensures ∙ ap not c.if-is_none.false),
      bad,
    )
