use Rattle.std.proofs.Common.{ℕ, List, ◌∙◌, subst}
use Rattle.std.specs.Prelude.{OnOk}
use Rattle.std.specs.Io.KnownBytes.{Appends}
use Rattle.numatrace.proofs.words.print_unread.Goals as goal

pub returns : goal.returns
returns g c =
    subst (λ (t : List ℕ). OnOk c.write_all.result (Appends (g.E.Write.contents c.args.err.now) (g.E.Write.contents c.write_all.new.self) t)) (c.as_bytes.ensures.value ∙ c.words_text-text.ensures) c.write_all.ensures.bytes
