use Rattle.std.proofs.Common.{◌≡◌, ℕ, zero, suc, ◌≤◌, List, [], ◌∷◌, drop, refl, sym, ap, ◌∙◌, arith}
use Rattle.std.specs.Prelude.{None, slice_get}
use Rattle.std.proofs.lemmas.List.{drop-drop}
use Rattle.std.proofs.lemmas.Option.{none-some}
use Rattle.nm_types.proofs.mask.NodeMask.nth.Goals as goal

-- the first of what is left of a list
first_of_rest : (ns : List ℕ) (k : ℕ) → slice_get (drop k ns) 0 ≡ slice_get ns k
first_of_rest [] zero = refl
first_of_rest [] (suc k) = refl
first_of_rest (n ∷ ns) zero = refl
first_of_rest (n ∷ ns) (suc k) = first_of_rest ns k

-- past the end there is nothing
none_later : (ns : List ℕ) (k i : ℕ) → slice_get ns k ≡ None → k ≤ i → slice_get ns i ≡ None
none_later [] k i h le = refl
none_later (n ∷ ns) zero i h le = absurd (none-some n (sym h))
none_later (n ∷ ns) (suc k) zero h le = absurd (omega arith)
none_later (n ∷ ns) (suc k) (suc i) h le = none_later ns k i h (omega arith)

pub loop-preserved : goal.loop-preserved
loop-preserved c = c.take_first.ensures.rest ∙ ap (drop 1) c.loop.invariant ∙ drop-drop 1 c.loop.counter c.args.self

pub returns-in_err-take_first : goal.returns-in_err-take_first
returns-in_err-take_first c =
    let past : slice_get c.args.self c.loop.counter ≡ None =
    sym (first_of_rest c.args.self c.loop.counter) ∙ sym (ap (λ ns. slice_get ns 0) c.loop.invariant) ∙ sym c.take_first.ensures.first ∙ c.in_err-take_first.was in
    c.from_residual.ensures ∙ sym (none_later c.args.self c.loop.counter c.args.place past (omega arith))

pub returns : goal.returns
returns c =
    let last : c.loop.counter ≡ c.args.place = omega arith in
    c.take_first-2.ensures.first ∙ ap (λ ns. slice_get ns 0) c.loop.invariant ∙ first_of_rest c.args.self c.loop.counter ∙ ap (slice_get c.args.self) last
