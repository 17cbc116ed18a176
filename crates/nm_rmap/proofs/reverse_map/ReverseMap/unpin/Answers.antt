use Rattle.std.proofs.Common.{◌≡◌, ℕ, ◌+◌, ◌-◌, ◌<◌, ◌≤◌, length, refl, sym, subst, ap, ◌∙◌, arith}
use Rattle.std.proofs.Math.ListN.{set, length-set}
use Rattle.nm_rmap.specs.Mappers.{frame_pins, with_pin_count}
use Rattle.nm_rmap.proofs.Places.{both, pins_in, pins_of, as_before, reads_pins, same_pins, writes_pins, last_pin, other_pin}
use Rattle.nm_rmap.proofs.reverse_map.ReverseMap.unpin.Given.{Over}
use Rattle.nm_rmap.proofs.reverse_map.ReverseMap.unpin.Goals.{After-index, Else-pins-eq0}
use Rattle.nm_rmap.proofs.reverse_map.ReverseMap.unpin.Goals as goal

not_none : (n : ℕ) → (n ≡ 0 → ⊥) → 0 < n
not_none n h = omega arith

one_left : (n : ℕ) → (n ≡ 0 → ⊥) → (n ≡ 1 → ⊥) → 0 < n - 1
one_left n h l = omega arith

taken_off : (n count now : ℕ) → n ≡ count → now + 1 ≡ count → n - 1 ≡ now
taken_off n count now is e = omega arith

has_one : (n count now : ℕ) → n ≡ count → now + 1 ≡ count → 1 ≤ n
has_one n count now is e = omega arith

-- the frame has a count of pins
inside : (g : Over) (c : After-index g) → c.index.result < length c.self.inside.pins.items
inside g c = pins_in c.self.inside.mappings.items c.self.inside.pins.items c.args.self.now c.self.view_is c.args.frame c.index.result c.index.ensures c.requires c.self.invariant.0

-- one pin less is counted
counted : (g : Over) (c : Else-pins-eq0 g)
    → record { pinned : 0 < frame_pins c.args.self.now c.args.frame; ok : both c.self.inside.mappings.items (set c.self.inside.pins.items c.index.result (c.index_mut-pins.result.now - 1)) ≡ with_pin_count c.args.self.now c.args.frame (frame_pins c.args.self.now c.args.frame - 1) }
counted g c =
    let mappings = c.self.inside.mappings.items in
    let pins = c.self.inside.pins.items in
    let value = c.index_mut-pins.ensures.value in
    let now = c.index_mut-pins.result.now in
    let read = reads_pins mappings pins c.args.self.now c.self.view_is c.args.frame c.index.result c.index.ensures c.requires c.self.invariant.0 now value in record {
      pinned = subst (λ (n : ℕ). 0 < n) (sym read) (not_none now c.if-pins-eq0.false);
      ok = writes_pins mappings pins c.args.self.now c.self.view_is c.args.frame c.index.result c.index.ensures c.requires c.self.invariant.0 now value (λ (n : ℕ). n - 1);
    }

pub index_mut-pins-requires : goal.index_mut-pins-requires
index_mut-pins-requires g c = pins_of _ _ _ c.self.view_is _ _ c.index.ensures c.requires c.self.invariant.0 _ c.self.inside.pins.ok.0

pub invariant_of-self : goal.invariant_of-self
invariant_of-self g c = as_before _ _ _ c.self.view_is _ _ c.index.ensures c.requires c.self.invariant.0 _ _ c.index_mut-pins.ensures.value c.self.invariant.1

pub returns-then-pins-eq0 : goal.returns-then-pins-eq0
returns-then-pins-eq0 g c =
    let mappings = c.self.inside.mappings.items in
    let pins = c.self.inside.pins.items in
    let value = c.index_mut-pins.ensures.value in
    let now = c.index_mut-pins.result.now in
    let read = reads_pins mappings pins c.args.self.now c.self.view_is c.args.frame c.index.result c.index.ensures c.requires c.self.invariant.0 now value in record {
      pinned = tt;
      ok = tt;
      none = (refl, read ∙ c.if-pins-eq0.true);
      err = same_pins mappings pins c.args.self.now c.self.view_is c.args.frame c.index.result c.index.ensures c.requires c.self.invariant.0 now value;
    }

pub overflow_sub-pins : goal.overflow_sub-pins
overflow_sub-pins g c = not_none c.index_mut-pins.result.now c.if-pins-eq0.false

pub overflow_sub-self : goal.overflow_sub-self
overflow_sub-self g c =
    let pins = c.self.inside.pins.items in
    let i = c.index.result in
    let now = c.index_mut-pins.result.now in
    let within = inside g (goal.at.overflow_sub-self g c).After-index in
    has_one c.self.inside.pinned _ _ c.self.invariant.1 (last_pin pins i now within c.index_mut-pins.ensures.value (now - 1) (not_none now c.if-pins-eq0.false) (ap (λ (n : ℕ). n - 1) c.if-last.true))

pub invariant_of-self-then-last : goal.invariant_of-self-then-last
invariant_of-self-then-last g c =
    let pins = c.self.inside.pins.items in
    let now = c.index_mut-pins.result.now in
    let within = inside g (goal.at.invariant_of-self-then-last g c).After-index in
    (length-set pins c.index.result (now - 1) ∙ c.self.invariant.0, taken_off c.self.inside.pinned _ _ c.self.invariant.1 (last_pin pins c.index.result now within c.index_mut-pins.ensures.value (now - 1) (not_none now c.if-pins-eq0.false) (ap (λ (n : ℕ). n - 1) c.if-last.true)))

pub invariant_of-self-else-last : goal.invariant_of-self-else-last
invariant_of-self-else-last g c =
    let pins = c.self.inside.pins.items in
    let now = c.index_mut-pins.result.now in
    let within = inside g (goal.at.invariant_of-self-else-last g c).After-index in
    (length-set pins c.index.result (now - 1) ∙ c.self.invariant.0, c.self.invariant.1 ∙ sym (other_pin pins c.index.result now within c.index_mut-pins.ensures.value (now - 1) (not_none now c.if-pins-eq0.false) (one_left now c.if-pins-eq0.false c.if-last.false)))

pub returns-then-last : goal.returns-then-last
returns-then-last g c = let once = counted g (goal.at.returns-then-last g c).Else-pins-eq0 in record { pinned = once.pinned; ok = once.ok; none = tt; err = tt }

pub returns-else-last : goal.returns-else-last
returns-else-last g c = let once = counted g (goal.at.returns-else-last g c).Else-pins-eq0 in record { pinned = once.pinned; ok = once.ok; none = tt; err = tt }
