use Rattle.std.proofs.Common.{◌≡◌, ℕ, ◌+◌, ◌<◌, ◌≤◌, length, refl, sym, subst, ap, ◌∙◌, arith, Fits, w32, w64}
use Rattle.std.proofs.Math.ListN.{set, length-set}
use Rattle.nm_rmap.specs.Mappers.{frame_pins, with_pin_count}
use Rattle.nm_rmap.proofs.Places.{both, pins_in, pins_of, as_before, reads_pins, same_pins, writes_pins, first_pin, other_pin, few_pinned}
use Rattle.nm_rmap.proofs.reverse_map.ReverseMap.pin.Given.{Over}
use Rattle.nm_rmap.proofs.reverse_map.ReverseMap.pin.Goals.{After-index, Else-pins-ge-MAX_PINS}
use Rattle.nm_rmap.proofs.reverse_map.ReverseMap.pin.Goals as goal

more : (n : ℕ) → 0 < n + 1
more n = omega arith

not_none : (n : ℕ) → (n ≡ 0 → ⊥) → 0 < n
not_none n h = omega arith

fits_one_more : (n : ℕ) → n < 65535 → Fits w32 (n + 1)
fits_one_more n h = omega arith

-- a count below the length of a Vec
fits_below : (n count length len cap : ℕ) → n ≡ count → count < length → len ≡ length → len ≤ cap → cap < 9223372036854775808 → Fits w64 (n + 1)
fits_below n count length len cap is few ok within small = omega arith

-- the frame has a count of pins
inside : (g : Over) (c : After-index g) → c.index.result < length c.self.inside.pins.items
inside g c = pins_in c.self.inside.mappings.items c.self.inside.pins.items c.args.self.now c.self.view_is c.args.frame c.index.result c.index.ensures c.requires c.self.invariant.0

-- one pin more is counted
counted : (g : Over) (c : Else-pins-ge-MAX_PINS g)
    → record { room : frame_pins c.args.self.now c.args.frame < 65535; ok : both c.self.inside.mappings.items (set c.self.inside.pins.items c.index.result (c.index_mut-pins.result.now + 1)) ≡ with_pin_count c.args.self.now c.args.frame (frame_pins c.args.self.now c.args.frame + 1) }
counted g c =
    let mappings = c.self.inside.mappings.items in
    let pins = c.self.inside.pins.items in
    let value = c.index_mut-pins.ensures.value in
    let now = c.index_mut-pins.result.now in
    let read = reads_pins mappings pins c.args.self.now c.self.view_is c.args.frame c.index.result c.index.ensures c.requires c.self.invariant.0 now value in record {
      room = subst (λ (n : ℕ). n < 65535) (sym read) c.if-pins-ge-MAX_PINS.false;
      ok = writes_pins mappings pins c.args.self.now c.self.view_is c.args.frame c.index.result c.index.ensures c.requires c.self.invariant.0 now value (λ (n : ℕ). n + 1);
    }

pub index_mut-pins-requires : goal.index_mut-pins-requires
index_mut-pins-requires g c = pins_of _ _ _ c.self.view_is _ _ c.index.ensures c.requires c.self.invariant.0 _ c.self.inside.pins.ok.0

pub invariant_of-self : goal.invariant_of-self
invariant_of-self g c = as_before _ _ _ c.self.view_is _ _ c.index.ensures c.requires c.self.invariant.0 _ _ c.index_mut-pins.ensures.value c.self.invariant.1

pub returns-then-pins-ge-MAX_PINS : goal.returns-then-pins-ge-MAX_PINS
returns-then-pins-ge-MAX_PINS g c =
    let mappings = c.self.inside.mappings.items in
    let pins = c.self.inside.pins.items in
    let value = c.index_mut-pins.ensures.value in
    let now = c.index_mut-pins.result.now in
    let read = reads_pins mappings pins c.args.self.now c.self.view_is c.args.frame c.index.result c.index.ensures c.requires c.self.invariant.0 now value in record {
      room = tt;
      ok = tt;
      full = (refl, subst (λ (n : ℕ). 65535 ≤ n) (sym read) c.if-pins-ge-MAX_PINS.true);
      err = same_pins mappings pins c.args.self.now c.self.view_is c.args.frame c.index.result c.index.ensures c.requires c.self.invariant.0 now value;
    }

pub overflow_add-pins : goal.overflow_add-pins
overflow_add-pins g c = fits_one_more c.index_mut-pins.result.now c.if-pins-ge-MAX_PINS.false

pub overflow_add-self : goal.overflow_add-self
overflow_add-self g c =
    let vec = c.self.inside.pins in
    let within = inside g (goal.at.overflow_add-self g c).After-index in
    let few = few_pinned vec.items c.index.result c.index_mut-pins.result.now within c.index_mut-pins.ensures.value c.if-first.true in
    fits_below c.self.inside.pinned _ (length vec.items) vec.len vec.cap c.self.invariant.1 few vec.ok.0 vec.ok.1 vec.small

pub invariant_of-self-then-first : goal.invariant_of-self-then-first
invariant_of-self-then-first g c =
    let pins = c.self.inside.pins.items in
    let now = c.index_mut-pins.result.now in
    let within = inside g (goal.at.invariant_of-self-then-first g c).After-index in
    (length-set pins c.index.result (now + 1) ∙ c.self.invariant.0, ap (λ (n : ℕ). n + 1) c.self.invariant.1 ∙ sym (first_pin pins c.index.result now within c.index_mut-pins.ensures.value (now + 1) c.if-first.true (more now)))

pub invariant_of-self-else-first : goal.invariant_of-self-else-first
invariant_of-self-else-first g c =
    let pins = c.self.inside.pins.items in
    let now = c.index_mut-pins.result.now in
    let within = inside g (goal.at.invariant_of-self-else-first g c).After-index in
    (length-set pins c.index.result (now + 1) ∙ c.self.invariant.0, c.self.invariant.1 ∙ sym (other_pin pins c.index.result now within c.index_mut-pins.ensures.value (now + 1) (not_none now c.if-first.false) (more now)))

pub returns-then-first : goal.returns-then-first
returns-then-first g c = let once = counted g (goal.at.returns-then-first g c).Else-pins-ge-MAX_PINS in record { room = once.room; ok = once.ok; full = tt; err = tt }

pub returns-else-first : goal.returns-else-first
returns-else-first g c = let once = counted g (goal.at.returns-else-first g c).Else-pins-ge-MAX_PINS in record { room = once.room; ok = once.ok; full = tt; err = tt }
