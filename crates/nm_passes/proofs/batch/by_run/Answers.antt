use Rattle.std.proofs.Common.{arith, ◌≡◌, ◌+◌, ◌++◌, ◌∷◌, ◌<◌, ◌≤◌, [], ℕ, List, drop, length, map, length-append, ap, refl, sym, ◌∙◌, Vec}
use Rattle.std.specs.Prelude.{slice_set}
use Rattle.std.proofs.lemmas.List.{map-append, length-map, length-set, drop_all}
use Rattle.nm_model.specs.definitions.Touch.{Access}
use Rattle.nm_model.specs.views.Asked.{access_shown}
use Rattle.nm_model.specs.definitions.Run.{accesses_of}
use Rattle.nm_laws.proofs.Lists.{drop_item}
use Rattle.nm_requests.specs.Views.{shown_during}
use Rattle.nm_passes.specs.definitions.Batch.{list_at}
use Rattle.nm_passes.proofs.Accesses.Loops.{one_more_asked, none_asked, list_there, list_after, empty_more, append_none}
use Rattle.nm_passes.proofs.Accesses.Lent.{one_lent, lent_shown}
use Rattle.nm_passes.proofs.Batches.Results.{on_err, takes_some}
use Rattle.nm_passes.proofs.batch.by_run.Goals as goal
use Rattle.nm_passes.proofs.batch.by_run.Goals.{in-Some+in_ok-push-2, in_default}

some_of : (k n m : ℕ) → k < n → n ≡ m → 0 < m
some_of k n m more is = omega (arith, more, is)

all_of : (n k m : ℕ) → n ≡ k → m ≤ k → k ≤ m → n ≡ m
all_of n k m is past end = omega (arith, is, past, end)

pub returns-in_err-lists-clause-allocates : goal.returns-in_err-lists-clause-allocates
returns-in_err-lists-clause-allocates g c = on_err c.from_residual.result (takes_some _ c.in_err-lists.ensures.succeeds)

pub loop-init : goal.loop-init
loop-init g c = record {
  count = ap length c.in_ok-lists.ensures.items;
  empty = λ k. ap (λ lists. list_at (map lent_shown lists) k) c.in_ok-lists.ensures.items;
}

pub returns-in_err-push-clause-allocates : goal.returns-in_err-push-clause-allocates
returns-in_err-push-clause-allocates g c = on_err c.from_residual-in_err-push.result (some_of _ _ _ c.loop-test.true refl)

pub loop-preserved : goal.loop-preserved
loop-preserved g c =
    let before = c.loop.lists.items in
    let items = c.in_ok-push.ensures.items in
    let len = ap length items ∙ length-append before (c.new.result ∷ []) in
    record {
      count = omega (arith, len, c.loop.invariant.count);
      empty = λ k.
          ap (λ lists. list_at (map lent_shown lists) k) items ∙ ap (λ l. list_at l k) (map-append lent_shown before (c.new.result ∷ []))
          ∙ ap (λ xs. list_at (map lent_shown before ++ map one_lent xs ∷ []) k) c.new.ensures.items
          ∙ empty_more (map lent_shown before) c.loop.invariant.empty k;
    }

pub loop-asked-init : goal.loop-asked-init
loop-asked-init g c = record {
  count = all_of _ _ _ c.loop.invariant.count c.loop-test.false c.loop.auto.counter-end;
  lists = λ k lt. ap (λ l. l ++ accesses_of k (shown_during c.args.during.now)) (c.loop.invariant.empty k);
}

pub returns-in_err-push-2-clause-allocates : goal.returns-in_err-push-2-clause-allocates
returns-in_err-push-2-clause-allocates g c = on_err c.from_residual-in_err-push-2.result (some_of _ _ _ c.in-Some.ensures.item.3.0 c.loop-asked.invariant.count)

pub loop-asked-preserved : goal.loop-asked-preserved
loop-asked-preserved g c =
    let at = c.loop-asked.asked-index in
    let during = c.args.during.now in
    let asked = c.asked-item.result in
    let next = drop_item during at asked c.loop-asked-test.true c.asked-item.is in
    let lists = c.loop-asked.lists.items in
    let shown = map lent_shown lists in
    let same = length-map lists lent_shown in
    let count = c.loop-asked.invariant.count in
    let rest = shown_during (drop (at + 1) during) in
    let all = shown_during during in
    let is : (k : ℕ) → k < c.args.count → list_at shown k ++ accesses_of k ((asked.run, access_shown asked.access) ∷ rest) ≡ accesses_of k all =
    λ k lt. ap (λ ds. list_at shown k ++ accesses_of k (shown_during ds)) (sym next) ∙ c.loop-asked.invariant.lists k lt in
    elim c.match-get_mut.branch [
      | in-Some+in_ok-push-2 w ↦
          let there = w.in-Some.ensures.item.3.0 in
          let a = access_shown asked.access in
          let list = w.in-Some.list.now in
          let items = ap (λ (v : Vec _ _). v.items) w.lists-is in
          let before = list_there lent_shown lists asked.run list there w.in-Some.ensures.value in
          let pushed : lent_shown w.push-in-Some.new.self ≡ list_at shown asked.run ++ a ∷ [] =
          ap (map one_lent) w.in_ok-push-2.ensures.items ∙ map-append one_lent list.items _ ∙ ap (λ l. l ++ a ∷ []) (sym before) in
          let after : map lent_shown c.match-get_mut.lists.items ≡ slice_set shown asked.run (list_at shown asked.run ++ a ∷ []) =
          list_after lent_shown lists _ asked.run w.push-in-Some.new.self items ∙ ap (slice_set shown asked.run) pushed in
          record {
            count = ap length items ∙ length-set lists asked.run w.push-in-Some.new.self ∙ count;
            lists = λ k lt.
                ap (λ (ls : List (List Access)). list_at ls k ++ accesses_of k rest) after
                ∙ one_more_asked shown rest all asked.run a k (omega (arith, same, there)) (is k lt);
          }
      | in_default w ↦
          let past = w.in_default.ensures.item.3 in
          record {
            count = ap (λ (v : Vec _ _). length v.items) w.lists-is ∙ count;
            lists = λ k lt.
                ap (λ (v : Vec _ _). list_at (map lent_shown v.items) k ++ accesses_of k rest) w.lists-is
                ∙ none_asked shown rest all asked.run (access_shown asked.access) k (omega (arith, same, count, lt)) (omega (arith, same, past)) (is k lt);
          }
    ]

pub returns-clause-lists : goal.returns-clause-lists
returns-clause-lists g c =
    let none = drop_all c.loop-asked.asked-index c.args.during.now (omega (arith, c.loop-asked-test.false)) in (
      length-map c.loop-asked.lists.items lent_shown ∙ c.loop-asked.invariant.count,
      λ k lt. sym (append_none _) ∙ ap (λ ds. list_at (map lent_shown c.loop-asked.lists.items) k ++ accesses_of k (shown_during ds)) (sym none) ∙ c.loop-asked.invariant.lists k lt,
    )
