use Rattle.std.proofs.Common.{◌≡◌, ◌+◌, ◌-◌, ◌∷◌, ◌++◌, [], refl, ap, sym, ◌∙◌, arith, append_assoc}
use Rattle.std.proofs.lemmas.List.{append-nil}
use Rattle.nm_model.specs.definitions.Frames.{bytes_of}
use Rattle.nm_model.specs.definitions.Memory.{stretch_of}
use Rattle.nm_laws.proofs.Lists.{stretch_step}
use Rattle.nm_pool.specs.views.Frames.{in_memory}
use Rattle.nm_pool.proofs.InMemory.{home, byte_same}
use Rattle.nm_pool.proofs.frames.copy_bytes.Goals as goal

pub loop-k-preserved : goal.loop-k-preserved
loop-k-preserved g c =
    let bytes = bytes_of (in_memory c.args.frames.now) c.args.frame in
    let end = c.args.at + c.args.len in
    let k = c.loop-k.k in
    let rest = stretch_of bytes (k + 1) (end - (k + 1)) in
    let byte = byte_same c.args.frames.now c.args.frame k c.byte.result c.requires.frame c.byte.ensures.value c.byte.ensures.unused in
    record {
      copied = ap (λ xs. xs ++ rest) c.push_reserved.ensures.items ∙ append_assoc c.loop-k.bytes.items (c.byte.result ∷ []) rest
          ∙ ap (λ b. c.loop-k.bytes.items ++ b ∷ rest) byte ∙ ap (λ xs. c.loop-k.bytes.items ++ xs) (sym (stretch_step bytes k end c.loop-k-test.true))
          ∙ c.loop-k.invariant.copied;
      end = refl;
      room = omega (arith, c.loop-k.invariant.room, c.loop-k-test.true, c.push_reserved.ensures.len, c.push_reserved.ensures.capacity);
    }

pub returns : goal.returns
returns g c =
    let copied = c.loop-k.bytes.items in
    let k = c.loop-k.k in
    let none : (c.args.at + c.args.len) - k ≡ 0 = omega (arith, c.loop-k-test.false) in
    sym (append-nil copied) ∙ ap (λ n. copied ++ stretch_of (bytes_of (in_memory c.args.frames.now) c.args.frame) k n) (sym none) ∙ c.loop-k.invariant.copied

pub push_reserved-requires : goal.push_reserved-requires
push_reserved-requires g c = omega (arith, c.loop-k.invariant.room, c.loop-k-test.true)

pub byte-requires-clause-home : goal.byte-requires-clause-home
byte-requires-clause-home g c = home c.args.frames.now c.args.frame c.requires.frame
