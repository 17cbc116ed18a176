use Rattle.std.proofs.Common.{◌≡◌, ◌-◌, ◌<◌, [], ◌∷◌, ◌++◌, length, map, Some, None, subst, sym, ap, ap₂, ◌∙◌, arith, rules, refl}
use Rattle.json.specs.Token.{Token}
use Rattle.json.specs.Json.{parse_map, after_end_array, read_key, members, value}
use Rattle.json.specs.Reads.{token_of}
use Rattle.json.proofs.Grammar.{value_is, value-begin_object, read_key-shorter}
use Rattle.serde_json.specs.Data.{null, boolean, string, object, put}
use Rattle.serde_json.specs.Read.{of_json, of_members, converted}
use Rattle.nm_steps.specs.Gives.{GivesStep}
use Rattle.nm_steps.specs.Lists.{whole}
use Rattle.nm_steps.specs.Tree.{view, list_after, members_view}
use Rattle.nm_steps.specs.declared.tree.Tree.{Text, Bool, Null, the_lemmas}
use Rattle.nm_steps.specs.declared.step_error.StepError.TheVariants.{Bad}
use Rattle.nm_steps.proofs.Memory.{fails_on}
use Rattle.nm_steps.proofs.Trees.{one_more_member, one_more_tree, one_more_number, view-Numbers, view-List, view-Object, fails_by, fails_with, given_with, goes_on}
use Rattle.nm_steps.proofs.Turns.{converted-object, list_of, next_item, number_first, bad_item, no_more, member_read, member_refused, key_refused, members_over}
use Rattle.nm_steps.proofs.tree.+read.Goals as goal

-- ---- a value

pub read_value-returns-in_err-token-clause-value : goal.read_value-returns-in_err-token-clause-value
read_value-returns-in_err-token-clause-value t c =
    let empty : c.args.reader.now ≡ [] = grind arith in
    let none = ap (converted of_json) (ap (value c.args.depth) empty ∙ value_is c.args.depth []) in
    fails_on _ c.from_residual.result _ _ c.from_residual.ensures (fails_by _ _ none)

pub read_from-returns-then-depth-eq0-clause-value : goal.read_from-returns-then-depth-eq0-clause-value
unfolding value
read_from-returns-then-depth-eq0-clause-value t c =
    let none : c.args.depth ≡ 0 = omega arith in
    ap (converted of_json) (ap₂ value none (ap (λ k. token_of k ∷ c.args.reader.now) c.in-BeginArray.is))

pub read_from-returns-then-depth-eq0-2-clause-value : goal.read_from-returns-then-depth-eq0-2-clause-value
unfolding value
read_from-returns-then-depth-eq0-2-clause-value t c =
    let none : c.args.depth ≡ 0 = omega arith in
    ap (converted of_json) (ap₂ value none (ap (λ k. token_of k ∷ c.args.reader.now) c.in-BeginObject.is))

pub read_from-returns-in_err-read_members-in-BeginObject-clause-value : goal.read_from-returns-in_err-read_members-in-BeginObject-clause-value
read_from-returns-in_err-read_members-in-BeginObject-clause-value t c =
    let r = c.args.reader.now in
    let opened = ap (converted of_json) (ap (λ k. value c.args.depth (token_of k ∷ r)) c.in-BeginObject.is ∙ value-begin_object c.args.depth r (omega arith)) ∙ converted-object (members (value (c.args.depth - 1)) (length r) r) in
    fails_on _ c.from_residual.result _ _ c.from_residual.ensures
    (fails_with _ _ _ (λ none. opened ∙ ap (parse_map object) none) c.in_err-read_members-in-BeginObject.ensures.value)

pub read_from-returns-in-String-clause-value : goal.read_from-returns-in-String-clause-value
read_from-returns-in-String-clause-value t c =
    let r = c.args.reader.now in
    let seen : view (Text c.in-String.text) ≡ string c.in-String.text.now = search (rules, the_lemmas) in
    ap (converted of_json) (ap (λ k. value c.args.depth (token_of k ∷ r)) c.in-String.is ∙ value_is c.args.depth _) ∙ ap (λ d. Some (d, r)) (sym seen)

pub read_from-returns-in-Number-clause-value : goal.read_from-returns-in-Number-clause-value
read_from-returns-in-Number-clause-value t c =
    let r = c.args.reader.now in
    let is = ap (converted of_json) (ap (λ k. value c.args.depth (token_of k ∷ r)) c.in-Number.is ∙ value_is c.args.depth _) in
    subst (GivesStep (λ t. (view t, r)) c.number_tree.result) (sym is) (given_with r c.number_tree.result _ c.number_tree.ensures.value)

pub read_from-returns-in-Bool-clause-value : goal.read_from-returns-in-Bool-clause-value
read_from-returns-in-Bool-clause-value t c =
    let r = c.args.reader.now in
    let seen : view (Bool c.in-Bool.b) ≡ boolean c.in-Bool.b = search (rules, the_lemmas) in
    ap (converted of_json) (ap (λ k. value c.args.depth (token_of k ∷ r)) c.in-Bool.is ∙ value_is c.args.depth _) ∙ ap (λ d. Some (d, r)) (sym seen)

pub read_from-returns-in-Null-clause-value : goal.read_from-returns-in-Null-clause-value
read_from-returns-in-Null-clause-value t c =
    let r = c.args.reader.now in
    let seen : view Null ≡ null = search (rules, the_lemmas) in
    ap (converted of_json) (ap (λ k. value c.args.depth (token_of k ∷ r)) c.in-Null.is ∙ value_is c.args.depth _) ∙ ap (λ d. Some (d, r)) (sym seen)

pub read_from-returns-in-EndObject-clause-value : goal.read_from-returns-in-EndObject-clause-value
read_from-returns-in-EndObject-clause-value t c =
    let none : value c.args.depth (token_of c.args.token ∷ c.args.reader.now) ≡ None = rw (value_is c.args.depth (token_of c.args.token ∷ c.args.reader.now)) (grind arith) in
    ap (converted of_json) none

pub read_from-returns-else-depth-eq0-clause-value : goal.read_from-returns-else-depth-eq0-clause-value
read_from-returns-else-depth-eq0-clause-value t c =
    let r = c.args.reader.now in
    let is = ap (λ k. converted of_json (value c.args.depth (token_of k ∷ r))) c.in-BeginArray.is ∙ list_of c.args.depth r (omega arith) in
    subst (GivesStep (λ t. (view t, c.read_list.new.reader)) c.read_list.result) (sym is) c.read_list.ensures.value

pub read_from-returns-in_ok-read_members-in-BeginObject-clause-value : goal.read_from-returns-in_ok-read_members-in-BeginObject-clause-value
read_from-returns-in_ok-read_members-in-BeginObject-clause-value t c =
    let r = c.args.reader.now in
    let opened = ap (converted of_json) (ap (λ k. value c.args.depth (token_of k ∷ r)) c.in-BeginObject.is ∙ value-begin_object c.args.depth r (omega arith)) ∙ converted-object (members (value (c.args.depth - 1)) (length r) r) in
    let found = c.in_ok-read_members-in-BeginObject in
    opened ∙ ap (parse_map object) found.ensures.value ∙ ap (λ d. Some (d, c.read_members.new.reader)) (sym (view-Object found.field-0))

-- ---- lists

pub read_list-returns-in_err-token-clause-value : goal.read_list-returns-in_err-token-clause-value
read_list-returns-in_err-token-clause-value t c =
    let l = c.loop-numbers in
    let ds = map whole l.numbers.items in
    let empty : l.reader ≡ [] = grind arith in
    let none = bad_item c.args.depth 0 ds [] refl (ap (converted of_json) (value_is c.args.depth [])) in
    fails_on _ c.from_residual.result _ _ c.from_residual.ensures (fails_by _ _ (l.invariant.same ∙ ap (λ ts. list_after c.args.depth (length ts) ds ts) empty ∙ none))

pub read_list-loop-numbers-preserved : goal.read_list-loop-numbers-preserved
read_list-loop-numbers-preserved t c =
    let depth = c.args.depth in
    let l = c.loop-numbers in
    let r = c.next.new.self in
    let n = c.in-Some.number in
    let ds = map whole l.numbers.items in
    let here = c.in-Some.ensures in
    let first : l.reader ≡ token_of c.in_ok-token.token ∷ r = grind arith in
    let is : l.reader ≡ Token.number here.0 ∷ r = first ∙ ap (λ k. k ∷ r) here.1 in
    let one_less : length l.reader - 1 ≡ length r = omega (arith, ap length is) in
    let found = ap (λ ts. converted of_json (value depth ts)) is ∙ number_first depth here.0 r _ here.2 in
    let turn = next_item depth (length l.reader) ds l.reader r (whole n) (omega (arith, ap length is)) (ap after_end_array is) found in record {
      same = l.invariant.same ∙ turn ∙ ap (λ k. list_after depth k (ds ++ whole n ∷ []) r) one_less
          ∙ ap (λ es. list_after depth (length r) es r) (sym (one_more_number l.numbers.items n) ∙ ap (map whole) (sym c.in_ok-push.ensures.items));
      shorter = omega (arith, l.invariant.shorter, ap length is);
    }

pub read_rest-returns : goal.read_rest-returns
read_rest-returns t c =
    let depth = c.args.depth in
    let r = c.args.reader.now in
    let ts = token_of c.args.token ∷ r in
    let ds = map whole c.args.numbers.items in
    let going = goes_on c.args.token r c.in_default.not-EndArray in
    let item = c.in_ok-item.item in
    let others = c.read_from.new.reader in
    let turn = next_item depth (length ts) ds ts others (view item) (omega arith) going c.in_ok-item.ensures.value in
    let trees : map view c.push.new.self.items ≡ ds ++ view item ∷ [] =
    ap (map view) c.in_ok-push.ensures.items ∙ one_more_tree c.in_ok-trees.trees.items item
    ∙ ap (λ es. es ++ view item ∷ []) (c.in_ok-trees.ensures.trees ∙ ap (map whole) c.as_slice.ensures.value) in
    let so_far = turn ∙ ap (λ es. list_after depth (length ts - 1) es others) (sym trees) in
    let rest = c.in_ok-items.ensures.value (length ts - 1) (omega (arith, c.in_ok-item.ensures.left)) in record {
      value = so_far ∙ rest ∙ ap (λ d. Some (d, c.read_items.new.reader)) (sym (view-List c.in_ok-items.items));
      left = omega (arith, c.in_ok-item.ensures.left, c.in_ok-items.ensures.left);
    }

pub read_rest-returns-in-EndArray-clause-value : goal.read_rest-returns-in-EndArray-clause-value
read_rest-returns-in-EndArray-clause-value t c =
    let r = c.args.reader.now in
    let ds = map whole c.args.numbers.items in
    ap (λ k. list_after c.args.depth (length (token_of k ∷ r)) ds (token_of k ∷ r)) c.in-EndArray.is
    ∙ no_more c.args.depth (length (Token.end_array ∷ r)) ds (Token.end_array ∷ r) r (omega arith) refl
    ∙ ap (λ d. Some (d, r)) (sym (view-Numbers c.args.numbers))

pub read_rest-returns-in_err-item : goal.read_rest-returns-in_err-item
read_rest-returns-in_err-item t c =
    let depth = c.args.depth in
    let r = c.args.reader.now in
    let ts = token_of c.args.token ∷ r in
    let ds = map whole c.args.numbers.items in
    let going = goes_on c.args.token r c.in_default.not-EndArray in record {
      value = fails_on _ c.from_residual.result _ _ c.from_residual.ensures (fails_with _ _ _ (bad_item depth (length ts) ds ts going) c.in_err-item.ensures.value);
      left = search rules;
    }

pub read_rest-returns-in_err-items : goal.read_rest-returns-in_err-items
read_rest-returns-in_err-items t c =
    let depth = c.args.depth in
    let r = c.args.reader.now in
    let ts = token_of c.args.token ∷ r in
    let ds = map whole c.args.numbers.items in
    let going = goes_on c.args.token r c.in_default.not-EndArray in
    let item = c.in_ok-item.item in
    let others = c.read_from.new.reader in
    let turn = next_item depth (length ts) ds ts others (view item) (omega arith) going c.in_ok-item.ensures.value in
    let trees : map view c.push.new.self.items ≡ ds ++ view item ∷ [] =
    ap (map view) c.in_ok-push.ensures.items ∙ one_more_tree c.in_ok-trees.trees.items item
    ∙ ap (λ es. es ++ view item ∷ []) (c.in_ok-trees.ensures.trees ∙ ap (map whole) c.as_slice.ensures.value) in
    let so_far = turn ∙ ap (λ es. list_after depth (length ts - 1) es others) (sym trees) in
    let rest = c.in_err-items.ensures.value (length ts - 1) (omega (arith, c.in_ok-item.ensures.left)) in record {
      value = fails_on _ c.from_residual-in_err-items.result _ _ c.from_residual-in_err-items.ensures (fails_with _ _ _ (λ none. so_far ∙ none) rest);
      left = search rules;
    }

pub read_items-returns-in_err-item-clause-value : goal.read_items-returns-in_err-item-clause-value
read_items-returns-in_err-item-clause-value t c n enough =
    let l = c.loop-heap in
    let so_far = l.invariant.same n enough in
    let going : (after_end_array l.reader ≡ None) × (c.take_end_array.new.self ≡ l.reader) = grind arith in
    fails_on _ c.from_residual.result _ _ c.from_residual.ensures
    (fails_with _ _ _ (λ none. so_far.2 ∙ bad_item c.args.depth so_far.0 (map view l.found.items) l.reader going.0 (rw (← going.1) none)) c.in_err-item.ensures.value)

pub read_items-loop-heap-preserved : goal.read_items-loop-heap-preserved
read_items-loop-heap-preserved t c =
    let l = c.loop-heap in
    let going : (after_end_array l.reader ≡ None) × (c.take_end_array.new.self ≡ l.reader) = grind arith in
    let done = c.in_ok-item.ensures in
    let v = c.in_ok-item.item in
    let r = c.read_value.new.reader in
    let less : length r < length l.reader = rw (← going.1) done.left in record {
      same = λ m enough.
          let so_far = l.invariant.same m enough in (
            so_far.0 - 1,
            omega (arith, so_far.1, less),
            so_far.2 ∙ next_item c.args.depth so_far.0 (map view l.found.items) l.reader r (view v) (omega (arith, so_far.1, less)) going.0 (rw (← going.1) done.value)
                ∙ ap (λ ds. list_after c.args.depth (so_far.0 - 1) ds r) (sym (one_more_tree l.found.items v) ∙ ap (map view) (sym c.in_ok-push.ensures.items)),
          );
      shorter = omega (arith, l.invariant.shorter, less);
    }

pub read_items-returns-clause-value : goal.read_items-returns-clause-value
read_items-returns-clause-value t c n enough =
    let l = c.loop-heap in
    let so_far = l.invariant.same n enough in
    so_far.2 ∙ no_more c.args.depth so_far.0 (map view l.found.items) l.reader c.take_end_array.new.self so_far.1 (grind arith)

-- ---- objects

pub read_members-returns-in_err-key-clause-value : goal.read_members-returns-in_err-key-clause-value
read_members-returns-in_err-key-clause-value t c =
    let p = value c.args.depth in
    let l = c.loop-found in
    let old = members_view l.found.items in
    let none = l.invariant.2 ∙ key_refused p old l.invariant.0 l.reader c.in_err-key.ensures.value in
    fails_on _ c.from_residual.result Bad _ c.from_residual.ensures none

pub read_members-returns-in_err-member-clause-value : goal.read_members-returns-in_err-member-clause-value
read_members-returns-in_err-member-clause-value t c =
    let p = value c.args.depth in
    let l = c.loop-found in
    let old = members_view l.found.items in
    let k = c.in-Some.key.now in
    let s = c.next_key.new.self in
    let named : read_key l.reader ≡ Some (Some k, s) = grind arith in
    fails_on _ c.from_residual-in_err-member.result _ _ c.from_residual-in_err-member.ensures
    (fails_with _ _ _ (λ none. l.invariant.2 ∙ member_refused p old l.invariant.0 k l.reader s named none) c.in_err-member.ensures.value)

pub read_members-loop-found-preserved : goal.read_members-loop-found-preserved
read_members-loop-found-preserved t c =
    let p = value c.args.depth in
    let l = c.loop-found in
    let n = l.invariant.0 in
    let old = members_view l.found.items in
    let k = c.in-Some.key.now in
    let s = c.next_key.new.self in
    let named : read_key l.reader ≡ Some (Some k, s) = grind arith in
    let done = c.in_ok-member.ensures in
    let v = c.in_ok-member.member in
    let r = c.read_value.new.reader in
    let less = read_key-shorter l.reader (Some k) s named in
    let lesser = done.left in
    let pushed : members_view c.push.new.self.items ≡ put k (view v) old = ap members_view c.in_ok-push.ensures.items ∙ one_more_member l.found.items (c.in-Some.key, v) in (
      n - 1,
      omega (arith, l.invariant.1),
      l.invariant.2 ∙ member_read p old n k l.reader s r (view v) (omega (arith, l.invariant.1)) named done.value
          ∙ ap (λ found. converted (λ ms. of_members ms found) (members p (n - 1) r)) (sym pushed),
      omega (arith, l.invariant.3),
    )

pub read_members-returns-clause-value : goal.read_members-returns-clause-value
read_members-returns-clause-value t c =
    let p = value c.args.depth in
    let l = c.loop-found in
    l.invariant.2 ∙ members_over p (members_view l.found.items) l.invariant.0 l.reader c.next_key.new.self l.invariant.1 (grind arith)
