use Rattle.std.proofs.Common.{◌%◌, sym, ap, ◌∙◌}
use Rattle.std.proofs.lemmas.Bool.{eqb-true, eq-eqb}
use Rattle.nm_types.proofs.flags.MoveFlags.is_strict.Goals as goal

pub returns : goal.returns
returns c =
    let bit = ap (λ bits. bits % 2) c.bits.ensures in
    (λ t. sym bit ∙ eqb-true _ _ t, λ e. eq-eqb _ _ (bit ∙ e))
