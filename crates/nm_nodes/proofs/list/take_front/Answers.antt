use Rattle.std.proofs.Common.{◌≡◌, ◌+◌, ◌-◌, ◌<◌, ◌≤◌, ◌++◌, ◌∷◌, [], List, ℕ, length, refl, ap, sym, ◌∙◌, take, drop, arith}
use Rattle.std.proofs.lemmas.List.{append_assoc, append-nil}
use Rattle.nm_nodes.proofs.Fronts.{next_taken, none_left}
use Rattle.nm_nodes.proofs.list.take_front.Goals as goal

emptied : (xs : List ℕ) (n : ℕ) → n ≡ length xs → n ≡ 0 → xs ≡ []
emptied [] n e z = refl
emptied (x ∷ xs) n e z = absurd (omega (arith, e, z))

room_at_first : (len count cap : ℕ) → len + count ≤ cap → len + (count - 0) ≤ cap
room_at_first len count cap h = omega arith

has_room : (len count k cap : ℕ) → k < count → len + (count - k) ≤ cap → len < cap
has_room len count k cap h room = omega arith

smaller : (k count : ℕ) → k < count → count - (k + 1) < count - k
smaller k count h = omega arith

below : (k count : ℕ) → k < count → k ≤ count
below k count h = omega arith

at_end : (k count : ℕ) → k ≤ count → count ≤ k → k ≡ count
at_end k count h l = omega arith

pub loop-preserved : goal.loop-preserved
loop-preserved g c =
    let i = c.loop.invariant in
    let old : List ℕ = c.args.frames.now.items in
    let next = next_taken old c.loop.counter c.in-Some.frame c.pop_front.new.self.items (sym i.rest ∙ c.in-Some.ensures.items) in
    record {
      taken = c.push_reserved.ensures.items ∙ ap (λ (l : List ℕ). l ++ c.in-Some.frame ∷ []) i.taken ∙ append_assoc c.args.taken.now.items (take c.loop.counter old) (c.in-Some.frame ∷ [])
          ∙ ap (λ (l : List ℕ). c.args.taken.now.items ++ l) (sym next.0);
      rest = sym next.1;
      room = omega (arith, i.room, c.push_reserved.ensures.len, c.push_reserved.ensures.capacity);
      capacity = c.in-Some.ensures.capacity ∙ i.capacity;
      taken_capacity = c.push_reserved.ensures.capacity ∙ i.taken_capacity;
    }

pub loop-init : goal.loop-init
loop-init g c = record {
  taken = sym (append-nil c.args.taken.now.items);
  rest = refl;
  room = room_at_first c.args.taken.now.len c.args.count c.args.taken.now.cap c.requires;
  capacity = refl;
  taken_capacity = refl;
}

pub push_reserved-requires : goal.push_reserved-requires
push_reserved-requires g c = has_room c.loop.taken.len c.args.count c.loop.counter c.loop.taken.cap c.loop-test.true c.loop.invariant.room

pub loop-smaller : goal.loop-smaller
loop-smaller g c = smaller c.loop.counter c.args.count c.loop-test.true

pub returns-in_default : goal.returns-in_default
returns-in_default g c =
    let i = c.loop.invariant in
    let old : List ℕ = c.args.frames.now.items in
    let none : c.loop.frames.items ≡ [] = emptied c.loop.frames.items c.loop.frames.len c.loop.frames.ok.0 c.in_default.ensures.cases.0 in
    let left = none_left old c.loop.counter c.args.count (sym i.rest ∙ none) (below c.loop.counter c.args.count c.loop-test.true) in
    record {
      taken = i.taken ∙ ap (λ (l : List ℕ). c.args.taken.now.items ++ l) left.0;
      rest = sym c.in_default.ensures.items ∙ none ∙ sym left.1;
      capacity = c.in_default.ensures.capacity ∙ i.capacity;
      room = i.taken_capacity;
    }

pub returns : goal.returns
returns g c =
    let i = c.loop.invariant in
    let all = at_end c.loop.counter c.args.count c.loop.auto.counter-end c.loop-test.false in
    record {
      taken = i.taken ∙ ap (λ (k : ℕ). c.args.taken.now.items ++ take k c.args.frames.now.items) all;
      rest = i.rest ∙ ap (λ (k : ℕ). drop k c.args.frames.now.items) all;
      capacity = i.capacity;
      room = i.taken_capacity;
    }
