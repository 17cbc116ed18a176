use Rattle.std.proofs.Common.{arith, ◌≡◌, ℕ, ◌+◌, ◌<◌, ◌≤◌, ◌++◌, ◌∷◌, [], List, drop, length, map, length-append, length-drop, ap, refl, sym, ◌∙◌, Vec}
use Rattle.std.specs.Prelude.{slice_set}
use Rattle.std.proofs.lemmas.List.{map-append, length-map, drop_all}
use Rattle.nm_pool.specs.views.Accesses.{answer_shown}
use Rattle.nm_laws.proofs.Lists.{drop_item}
use Rattle.nm_requests.specs.Views.{shown_during}
use Rattle.std.specs.Map.{keys_of}
use Rattle.nm_passes.specs.definitions.Batch.{answers_in_order, left_shown}
use Rattle.nm_passes.proofs.Accesses.Loops.{append_none, unmade_given, none_given, one_given, list_there, list_after}
use Rattle.nm_passes.proofs.batch.in_order.Goals as goal
use Rattle.nm_passes.proofs.batch.in_order.Goals.{in-Some+in-Some-next, in-Some+in_default-next, in_default}

no_items : {X : Type 0} (xs : List X) → length xs ≡ 0 → xs ≡ []
no_items [] h = refl
no_items (x ∷ xs) h = absurd (omega (arith, h))

room_for : (a b m : ℕ) → a ≡ 0 → b ≤ m → a + b ≤ m
room_for a b m none room = omega (arith, none, room)

has_room : {X : Type 0} (xs : List X) (k len n m : ℕ) → k < length xs → len ≡ n → n + length (drop k xs) ≤ m → len < m
has_room xs k len n m more is room = omega (arith, length-drop k xs, more, is, room)

pub loop-asked-init : goal.loop-asked-init
loop-asked-init g c = record {
  room = room_for (length c.args.answers.items) _ _ (ap length c.requires.empty) c.requires.room;
  given = ap (λ xs. map answer_shown xs ++ answers_in_order (keys_of (shown_during c.args.during.now)) (map left_shown c.args.answers_left.items)) c.requires.empty;
}

pub push_reserved-requires : goal.push_reserved-requires
push_reserved-requires g c = has_room c.args.during.now c.loop-asked.asked-index _ _ _ c.loop-asked-test.true c.loop-asked.answers.ok.0 c.loop-asked.invariant.room

pub loop-asked-preserved : goal.loop-asked-preserved
loop-asked-preserved g c =
    let k = c.loop-asked.asked-index in
    let during = c.args.during.now in
    let asked = c.asked-item.result in
    let next = drop_item during k asked c.loop-asked-test.true c.asked-item.is in
    let n = ap length next in
    let room = c.loop-asked.invariant.room in
    let queues = c.loop-asked.answers_left.items in
    let so_far = map answer_shown c.loop-asked.answers.items in
    let left = map left_shown queues in
    let runs = keys_of (shown_during (drop (k + 1) during)) in
    let all = answers_in_order (keys_of (shown_during during)) (map left_shown c.args.answers_left.items) in
    let is : so_far ++ answers_in_order (asked.run ∷ runs) left ≡ all =
    ap (λ ds. so_far ++ answers_in_order (keys_of (shown_during ds)) left) (sym next) ∙ c.loop-asked.invariant.given in
    elim c.match-get_mut.branch [
      | in-Some+in-Some-next w ↦
          let there = w.in-Some.ensures.item in
          let lt = there.3.0 in
          let now = w.in-Some.left.now in
          let items = ap (λ (v : Vec _ _). v.items) w.answers_left-is in
          let given = ap (λ (v : Vec _ _). v.items) w.answers-is ∙ w.push_reserved.ensures.items in
          let len = ap length given ∙ length-append c.loop-asked.answers.items (w.in-Some-next.answer ∷ []) in
          let capacity = ap (λ (v : Vec _ _). v.cap) w.answers-is in
          record {
            room = omega (arith, n, room, len, capacity, w.push_reserved.ensures.capacity);
            given = one_given so_far left asked.run runs all _ _ (answer_shown w.in-Some-next.answer) (left_shown w.next.new.self)
                (list_there left_shown queues asked.run now lt w.in-Some.ensures.value ∙ ap (map answer_shown) w.in-Some-next.ensures.items)
                (ap (map answer_shown) given ∙ map-append answer_shown c.loop-asked.answers.items (w.in-Some-next.answer ∷ []))
                (list_after left_shown queues _ asked.run w.next.new.self items) is;
          }
      | in-Some+in_default-next w ↦
          let there = w.in-Some.ensures.item in
          let now = w.in-Some.left.now in
          let items = ap (λ (v : Vec _ _). v.items) w.answers_left-is in
          let none : w.next.new.self.rest.items ≡ [] = no_items w.next.new.self.rest.items (sym w.next.new.self.rest.ok.0 ∙ w.in_default-next.ensures.cases.1) in
          let len = ap (λ (v : Vec _ _). length v.items) w.answers-is in
          let capacity = ap (λ (v : Vec _ _). v.cap) w.answers-is in
          record {
            room = omega (arith, n, room, len, capacity);
            given = ap (λ (v : Vec _ _). map answer_shown v.items ++ answers_in_order runs (map left_shown c.match-get_mut.answers_left.items)) w.answers-is
                ∙ none_given so_far left asked.run runs all _
                (list_there left_shown queues asked.run now there.3.0 w.in-Some.ensures.value ∙ ap (map answer_shown) (w.in_default-next.ensures.items ∙ none))
                (list_after left_shown queues _ asked.run w.next.new.self items ∙ ap (λ l. slice_set left asked.run (map answer_shown l)) none) is;
          }
      | in_default w ↦
          let past = w.in_default.ensures.item.3 in
          let len = ap (λ (v : Vec _ _). length v.items) w.answers-is in
          let capacity = ap (λ (v : Vec _ _). v.cap) w.answers-is in
          let same = length-map queues left_shown in
          record {
            room = omega (arith, n, room, len, capacity);
            given = ap (λ (v : Vec _ _). map answer_shown v.items ++ answers_in_order runs (map left_shown c.match-get_mut.answers_left.items)) w.answers-is
                ∙ ap (λ (v : Vec _ _). so_far ++ answers_in_order runs (map left_shown v.items)) w.answers_left-is
                ∙ unmade_given so_far left asked.run runs all (omega (arith, same, past)) is;
          }
    ]

pub returns : goal.returns
returns g c =
    let none = drop_all c.loop-asked.asked-index c.args.during.now c.loop-asked-test.false in
    let so_far = map answer_shown c.loop-asked.answers.items in
    sym (append_none _) ∙ ap (λ ds. so_far ++ answers_in_order (keys_of (shown_during ds)) (map left_shown c.loop-asked.answers_left.items)) (sym none) ∙ c.loop-asked.invariant.given
