use Rattle.std.proofs.Common.{◌≡◌, ◌∷◌, ◌++◌, [], take, ap, sym, ◌∙◌, arith}
use Rattle.std.proofs.lemmas.Option.{slice_get-get_or}
use Rattle.nm_types.proofs.Cases.{none_some}
use Rattle.nm_model.specs.definitions.Frames.{list_of}
use Rattle.nm_laws.proofs.Lists.{got_take}
use Rattle.nm_pool.proofs.frames.front_of.Goals as goal

pub loop-k-preserved : goal.loop-k-preserved
loop-k-preserved g c =
    let list = list_of c.args.nodes.now c.args.node in
    let k = c.loop-k.k in
    record {
      copied = c.push_reserved.ensures.items ∙ ap (λ xs. xs ++ c.in-Some.frame ∷ []) c.loop-k.invariant.copied ∙ sym (got_take list k c.in-Some.frame (sym c.in-Some.ensures));
      count = c.loop-k.invariant.count;
      at = omega (arith, c.loop-k.invariant.at, c.push_reserved.ensures.len);
      room = omega (arith, c.loop-k.invariant.room, c.push_reserved.ensures.capacity);
    }

pub unreachable-requires : goal.unreachable-requires
unreachable-requires g c =
    let list = list_of c.args.nodes.now c.args.node in
    none_some (sym c.in_default.is ∙ c.nth.ensures ∙ slice_get-get_or list c.loop-k.k 0 (omega (arith, c.requires.count, c.loop-k-test.true)))

pub unreachable-unreachable : goal.unreachable-unreachable
unreachable-unreachable g c = c.unreachable.result

pub returns-clause-frames : goal.returns-clause-frames
returns-clause-frames g c =
    let all : c.loop-k.k ≡ c.args.count = omega (arith, c.loop-k-test.false, c.loop-k.auto.k-end) in
    c.loop-k.invariant.copied ∙ ap (λ n. take n (list_of c.args.nodes.now c.args.node)) all
