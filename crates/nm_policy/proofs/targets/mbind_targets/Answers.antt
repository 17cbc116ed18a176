use Rattle.std.proofs.Common.{◌≡◌, ℕ, ◌+◌, ◌<◌, ◌≤◌, ◌==◌, Bool, false, true, List, [], ◌∷◌, ◌++◌, map, length, take, get_or, IsTrue, refl, sym, ap, ◌∙◌, arith}
use Rattle.std.specs.List.{flat_map}
use Rattle.std.proofs.lemmas.Bool.{eqb-true, false≢true}
use Rattle.std.proofs.lemmas.List.{take_all, take_more, flat_map_more}
use Rattle.std.proofs.lemmas.Result.{IfOk-from_err}
use Rattle.nm_policy.specs.declared.targets.Destination.{Destination}
use Rattle.nm_types.specs.declared.located_page.LocatedPage.{LocatedPage}
use Rattle.nm_policy.specs.definitions.Turns.{with_turn, sent_to, by_turns}
use Rattle.nm_policy.proofs.targets.mbind_targets.Goals.{then-is_empty-via-then-is_empty, then-is_empty-via-else-is_empty+then-is_empty-2}
use Rattle.nm_policy.proofs.targets.mbind_targets.Goals as goal

some_there : (xs : List ℕ) (b : Bool) → (xs ≡ [] → IsTrue b) → b ≡ false → 0 < length xs
some_there [] b h e = absurd (false≢true (sym e ∙ h refl))
some_there (x ∷ xs) b h e = omega arith

one_more : (f : ℕ → List Destination) (xs : List ℕ) (i x : ℕ) (ts ns : List Destination) → i < length xs → x ≡ get_or xs i x → ts ≡ flat_map f (take i xs) → ns ≡ ts ++ f x → ns ≡ flat_map f (take (i + 1) xs)
one_more f xs i x ts ns lt at had now =
    now ∙ (ap (λ l. l ++ f x) had ∙ (flat_map_more f [] (take i xs) x ∙ ap (flat_map f) (ap (λ z. take i xs ++ z ∷ []) at ∙ sym (take_more xs i x lt))))

by_all : (pages : List LocatedPage) (nodes order xs : List ℕ) (ds ts : List Destination) (i : ℕ) → ts ≡ flat_map (sent_to ds) (take i xs) → length xs ≤ i → xs ≡ nodes → ds ≡ map (with_turn order) pages → order ≡ nodes → ts ≡ by_turns nodes pages
by_all pages nodes order xs ds ts i h le ex ed ea =
    h ∙ (ap (flat_map (sent_to ds)) (take_all i xs le ∙ ex) ∙ ap (λ l. flat_map (sent_to l) nodes) (ed ∙ ap (λ n. map (with_turn n) pages) ea))

pub returns-in_err-targets-clause-targets : goal.returns-in_err-targets-clause-targets
returns-in_err-targets-clause-targets g c = IfOk-from_err _ _ c.from_residual.ensures.0

-- without pages there are no turns
no_turns : (nodes : List ℕ) → flat_map (sent_to []) nodes ≡ []
no_turns [] = refl
no_turns (n ∷ nodes) = no_turns nodes

no_pages : (nodes : List ℕ) (pages : List LocatedPage) → (length pages == 0) ≡ true → by_turns nodes pages ≡ []
no_pages nodes [] none = no_turns nodes
no_pages nodes (p ∷ pages) none = let len : length (p ∷ pages) ≡ 0 = eqb-true _ 0 none in absurd (omega (arith, len))

pub returns-then-is_empty-clause-targets : goal.returns-then-is_empty-clause-targets
returns-then-is_empty-clause-targets g c = elim c.then-is_empty.branch [
  | then-is_empty-via-then-is_empty w ↦ c.new.ensures.items ∙ ap (λ n. by_turns n c.args.pages.now) (sym (c.is_empty.ensures.0 w.if-is_empty.true))
  | then-is_empty-via-else-is_empty+then-is_empty-2 w ↦ c.new.ensures.items ∙ sym (no_pages c.args.nodes c.args.pages.now (sym w.is_empty-else-is_empty.ensures ∙ w.if-is_empty-2.true))
]

pub returns-in_err-order-clause-targets : goal.returns-in_err-order-clause-targets
returns-in_err-order-clause-targets g c = IfOk-from_err _ _ c.from_residual-in_err-order.ensures.0

pub pages_with_turns-requires : goal.pages_with_turns-requires
pages_with_turns-requires g c =
    omega (arith, ap length (c.as_slice.ensures.value ∙ c.in_ok-order.ensures.nodes), some_there c.args.nodes c.is_empty.result c.is_empty.ensures.1 c.if-is_empty.false)

pub returns-in_err-dealt-clause-targets : goal.returns-in_err-dealt-clause-targets
returns-in_err-dealt-clause-targets g c = IfOk-from_err _ _ c.from_residual-in_err-dealt.ensures.0

pub loop-node-init : goal.loop-node-init
loop-node-init g c = c.in_ok-targets.ensures.items

pub bounds-node-items-node-index : goal.bounds-node-items-node-index
bounds-node-items-node-index g c = c.loop-node-test.true

pub returns-in_err-append_for-clause-targets : goal.returns-in_err-append_for-clause-targets
returns-in_err-append_for-clause-targets g c = IfOk-from_err _ _ c.from_residual-in_err-append_for.ensures.0

pub loop-node-smaller : goal.loop-node-smaller
loop-node-smaller g c = omega (arith, c.loop-node-test.true)

pub loop-node-preserved : goal.loop-node-preserved
loop-node-preserved g c =
    one_more (sent_to c.in_ok-dealt.dealt.items) c.deref-node-items.result.now c.loop-node.node-index c.node-item.result _ _ c.loop-node-test.true c.node-item.is c.loop-node.invariant
    (c.in_ok-append_for.ensures.ok ∙ ap (λ l. c.loop-node.targets.items ++ sent_to l c.node-item.result) c.as_slice-in-loop-node.ensures.value)

pub returns-clause-targets : goal.returns-clause-targets
returns-clause-targets g c =
    by_all c.args.pages.now c.args.nodes c.as_slice.result.now c.deref-node-items.result.now _ _ c.loop-node.node-index c.loop-node.invariant c.loop-node-test.false
    (c.deref-node-items.ensures.value ∙ c.in_ok-order.ensures.nodes) c.in_ok-dealt.ensures.dealt (c.as_slice.ensures.value ∙ c.in_ok-order.ensures.nodes)
