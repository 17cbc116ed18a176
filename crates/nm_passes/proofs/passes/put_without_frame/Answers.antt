use Rattle.std.proofs.Common.{pos, ◌≤◌, ◌++◌, ◌∷◌, [], cond, length, take, sym, ap, subst, ◌∙◌, arith, vec_capacity, length-append}
use Rattle.std.proofs.lemmas.List.{append-nil}
use Rattle.nm_passes.specs.definitions.Passes.{short_of_frames}
use Rattle.nm_passes.proofs.NodesInTurn.Passes.{one_more_left}
use Rattle.nm_passes.proofs.passes.put_without_frame.Goals.{then-is_short, else-is_short}
use Rattle.nm_passes.proofs.passes.put_without_frame.Goals as goal

pub loop-k-preserved : goal.loop-k-preserved
loop-k-preserved g c =
    let ws = c.args.wanted.now in
    let zs = c.args.statuses.now in
    let k = c.loop-k.k in
    let page = c.index-wanted-k.result in
    let before = short_of_frames (take k ws) (take k zs) in
    let more = one_more_left ws zs k page (pos 0) c.is_short.result c.loop-k-test.true c.requires.paired c.index-wanted-k.is c.is_short.ensures in
    elim c.if-is_short.branch [
      | then-is_short w ↦
          let items = ap (λ t. t.items) w.left-is ∙ w.push_reserved.ensures.items in
          let len = ap length items ∙ length-append c.loop-k.left.items (page ∷ []) in
          record {
            few = omega (arith, len, c.loop-k.invariant.few);
            room = subst (λ cap. length ws ≤ cap) (sym (ap vec_capacity w.left-is ∙ w.push_reserved.ensures.capacity)) c.loop-k.invariant.room;
            left = items ∙ ap (λ l. l ++ page ∷ []) c.loop-k.invariant.left ∙ sym (more ∙ ap (λ b. before ++ cond b (page ∷ []) []) w.if-is_short.true);
          }
      | else-is_short w ↦
          record {
            few = omega (arith, ap (λ t. length t.items) w.left-is, c.loop-k.invariant.few);
            room = subst (λ cap. length ws ≤ cap) (sym (ap vec_capacity w.left-is)) c.loop-k.invariant.room;
            left = ap (λ t. t.items) w.left-is ∙ c.loop-k.invariant.left ∙ sym (more ∙ ap (λ b. before ++ cond b (page ∷ []) []) w.if-is_short.false ∙ append-nil before);
          }
    ]
