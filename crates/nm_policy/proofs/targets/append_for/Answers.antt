use Rattle.std.proofs.Common.{◌≡◌, ℕ, zero, suc, ◌+◌, ◌<◌, ◌==◌, Bool, true, false, cond, List, [], ◌∷◌, ◌++◌, length, take, get_or, sym, ap, ◌∙◌, append_assoc, arith}
use Rattle.std.specs.Prelude.{Result, Ok, Err, OnErr}
use Rattle.std.proofs.lemmas.List.{append-nil, take_all}
use Rattle.std.proofs.lemmas.List.Elements.{filter_more}
use Rattle.std.proofs.lemmas.Result.{IfOk-from_err}
use Rattle.nm_policy.specs.declared.targets.Destination.{Destination}
use Rattle.nm_policy.specs.definitions.Turns.{sent_to}
use Rattle.nm_policy.proofs.targets.append_for.Goals.{then-eq+in_ok-push, else-eq}
use Rattle.nm_policy.proofs.targets.append_for.Goals as goal

one_more : (all : List Destination) (node i : ℕ) (x : Destination) (bs ts ns : List Destination) → i < length all → x ≡ get_or all i x → ts ≡ bs ++ sent_to (take i all) node → ns ≡ ts ++ cond (x.to == node) (x ∷ []) [] → ns ≡ bs ++ sent_to (take (i + 1) all) node
one_more all node i x bs ts ns lt at had now =
    now ∙ (ap (λ l. l ++ cond (x.to == node) (x ∷ []) []) had ∙ (append_assoc bs (sent_to (take i all) node) (cond (x.to == node) (x ∷ []) [])
    ∙ ap (λ l. bs ++ l) (ap (λ (z : Destination). sent_to (take i all) node ++ cond (z.to == node) (z ∷ []) []) at ∙ sym (filter_more (λ s. s.to == node) all i x lt))))

on_error : {T E : Type 0} (r : Result T E) (P : Type 0) → P → OnErr r P
on_error (Ok x) P p = tt
on_error (Err e) P p = p

some_after : (b : Bool) (y : Destination) (ys : List Destination) → 0 < length ys → 0 < length (cond b (y ∷ ys) ys)
some_after true y ys some = omega (arith, some)
some_after false y ys some = some

some_more : (all : List Destination) (node i : ℕ) (x : Destination) → i < length all → x ≡ get_or all i x → (x.to == node) ≡ true → 0 < length (sent_to all node)
some_more [] node i x lt at is = absurd (omega (arith, lt))
some_more (y ∷ ys) node zero x lt at is = rw (sym at, is) (omega arith)
some_more (y ∷ ys) node (suc i) x lt at is = some_after (y.to == node) y (sent_to ys node) (some_more ys node i x (omega (arith, lt)) at is)

pub loop-sent-init : goal.loop-sent-init
loop-sent-init g c = sym (append-nil c.args.targets.now.items)

pub bounds-dealt-sent-index : goal.bounds-dealt-sent-index
bounds-dealt-sent-index g c = c.loop-sent-test.true

pub returns-in_err-push-clause-ok : goal.returns-in_err-push-clause-ok
returns-in_err-push-clause-ok g c = IfOk-from_err _ _ c.from_residual.ensures.0

pub returns-in_err-push-clause-some : goal.returns-in_err-push-clause-some
returns-in_err-push-clause-some g c = on_error _ _ (some_more c.args.dealt.now c.args.node c.loop-sent.sent-index c.sent-item.result c.loop-sent-test.true c.sent-item.is (sym c.eq.ensures ∙ c.if-eq.true))

pub loop-sent-smaller : goal.loop-sent-smaller
loop-sent-smaller g c = omega (arith, c.loop-sent-test.true)

pub loop-sent-preserved : goal.loop-sent-preserved
loop-sent-preserved g c =
    let x = c.sent-item.result in
    let ts = c.loop-sent.targets.items in
    one_more c.args.dealt.now c.args.node c.loop-sent.sent-index x c.args.targets.now.items ts c.if-eq.targets.items c.loop-sent-test.true c.sent-item.is c.loop-sent.invariant
    (elim c.if-eq.branch [
      | then-eq+in_ok-push w ↦ ap (λ v. v.items) w.targets-is ∙ (w.in_ok-push.ensures.items ∙ ap (λ b. ts ++ cond b (x ∷ []) []) (sym (sym c.eq.ensures ∙ w.if-eq.true)))
      | else-eq w ↦ ap (λ v. v.items) w.targets-is ∙ (sym (append-nil ts) ∙ ap (λ b. ts ++ cond b (x ∷ []) []) (sym (sym c.eq.ensures ∙ w.if-eq.false)))
    ])

pub returns-clause-ok : goal.returns-clause-ok
returns-clause-ok g c = c.loop-sent.invariant ∙ ap (λ l. c.args.targets.now.items ++ sent_to l c.args.node) (take_all c.loop-sent.sent-index c.args.dealt.now c.loop-sent-test.false)
