use Rattle.std.proofs.Common.{◌≡◌, ℕ, ◌+◌, ◌<◌, Bool, true, false, cond, List, [], ◌∷◌, ◌++◌, length, take, get_or, sym, ap, ◌∙◌, arith}
use Rattle.std.specs.Prelude.{◌==◌}
use Rattle.std.specs.List.{filter}
use Rattle.std.specs.Map.{keys_of}
use Rattle.std.proofs.lemmas.List.{append-nil, map-append, take_all}
use Rattle.std.proofs.lemmas.List.Elements.{filter_more}
use Rattle.std.proofs.lemmas.Result.{IfOk-from_err}
use Rattle.nm_types.specs.declared.page.Page.{Page}
use Rattle.nm_types.specs.Layout.{node_of}
use Rattle.nm_spaces.proofs.ProcessTable.Changes.{on_any}
use Rattle.nm_engine.proofs.machine.online.pages_among.Goals.{then-eq+in_ok-push, else-eq}
use Rattle.nm_engine.proofs.machine.online.pages_among.Goals as goal

-- the key of a last entry, if it is wanted
last_key : (es : List (Page × ℕ)) (b : Bool) (x : Page × ℕ) → keys_of es ++ cond b (x.0 ∷ []) [] ≡ keys_of (es ++ cond b (x ∷ []) [])
last_key es true x = sym (map-append (λ e. e.0) es (x ∷ []))
last_key es false x = append-nil (keys_of es) ∙ ap keys_of (sym (append-nil es))

-- one more entry is looked at
one_more : (p : Page × ℕ → Bool) (all : List (Page × ℕ)) (i : ℕ) (x : Page × ℕ) (had now : List Page) → i < length all → x ≡ get_or all i x → had ≡ keys_of (filter p (take i all)) → now ≡ had ++ cond (p x) (x.0 ∷ []) []
    → now ≡ keys_of (filter p (take (i + 1) all))
one_more p all i x had now lt at before after =
    let es = filter p (take i all) in
    after ∙ ap (λ l. l ++ cond (p x) (x.0 ∷ []) []) before ∙ last_key es (p x) x
    ∙ ap keys_of (ap (λ z. es ++ cond (p z) (z ∷ []) []) at ∙ sym (filter_more p all i x lt))

pub loop-page-init : goal.loop-page-init
loop-page-init g c = c.new-pages.ensures.items

pub bounds-placed-page-index : goal.bounds-placed-page-index
bounds-placed-page-index g c = c.loop-page-test.true

pub returns-in_err-push-clause-pages : goal.returns-in_err-push-clause-pages
returns-in_err-push-clause-pages g c = IfOk-from_err _ _ c.from_residual.ensures.0

pub returns-in_err-push-clause-allocates : goal.returns-in_err-push-clause-allocates
returns-in_err-push-clause-allocates g c = on_any c.from_residual.result (omega (arith, c.loop-page-test.true))

pub loop-page-smaller : goal.loop-page-smaller
loop-page-smaller g c = omega (arith, c.loop-page-test.true)

pub loop-page-preserved : goal.loop-page-preserved
loop-page-preserved g c =
    let x = c.loop-page-item.result in
    let had = c.loop-page.pages.items in
    let wanted : c.eq.result ≡ (node_of c.args.geometry.now x.1 == c.args.node) = c.eq.ensures ∙ ap (λ n. n == c.args.node) c.node_of.ensures.node in
    one_more (λ e. node_of c.args.geometry.now e.1 == c.args.node) c.args.placed.now c.loop-page.page-index x had c.if-eq.pages.items c.loop-page-test.true c.loop-page-item.is c.loop-page.invariant
    (elim c.if-eq.branch [
      | then-eq+in_ok-push w ↦ ap (λ v. v.items) w.pages-is ∙ w.in_ok-push.ensures.items ∙ ap (λ b. had ++ cond b (x.0 ∷ []) []) (sym (sym wanted ∙ w.if-eq.true))
      | else-eq w ↦ ap (λ v. v.items) w.pages-is ∙ sym (append-nil had) ∙ ap (λ b. had ++ cond b (x.0 ∷ []) []) (sym (sym wanted ∙ w.if-eq.false))
    ])

pub returns-clause-pages : goal.returns-clause-pages
returns-clause-pages g c = c.loop-page.invariant ∙ ap (λ l. keys_of (filter (λ e. node_of c.args.geometry.now e.1 == c.args.node) l)) (take_all c.loop-page.page-index c.args.placed.now c.loop-page-test.false)
