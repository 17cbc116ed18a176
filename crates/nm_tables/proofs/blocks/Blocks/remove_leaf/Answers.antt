use Rattle.std.proofs.Common.{◌≡◌, subst, ◌+◌, ◌-◌, ◌/◌, ◌<◌, ℕ, length, sym, ap, ◌∙◌, arith}
use Rattle.std.specs.Prelude.{Some, IsSome, slice_get, swap_remove, vec_len}
use Rattle.std.specs.Ordering.{nat_cmp}
use Rattle.std.proofs.lemmas.Option.{slice_get_read}
use Rattle.nm_types.specs.Map.{get, replace, without}
use Rattle.nm_tables.specs.views.Blocks.{AreBlocks, entries_by, without_leaf, EachLeafIsNamed, EachHasEntries}
use Rattle.nm_tables.specs.declared.slot.Slot.TheVariants.{Leaf}
use Rattle.nm_tables.proofs.Slots.{blocks-found, blocks-gone, within, lacking-without, lacking-replace}
use Rattle.nm_tables.proofs.Kept.{carried}
use Rattle.nm_tables.proofs.Removed.{last-entries, last-kept, last-named, last-has, moved-slot, moved-there, moved-entries, moved-kept, moved-named, moved-has}
use Rattle.nm_tables.proofs.blocks.Blocks.remove_leaf.Given.{Over}
use Rattle.nm_tables.proofs.blocks.Blocks.remove_leaf.Goals.{After-remove, Then-number-len, Else-number-len, After-index, After-replace}
use Rattle.nm_tables.proofs.blocks.Blocks.remove_leaf.Goals as goal

below_len : (n len old : ℕ) → n < old → len + 1 ≡ old → (n ≡ len → ⊥) → (now : ℕ) → len ≡ now → n < now
below_len n len old inside less differs now is = grind arith

-- the index has no slot of the block any more
index_less : (g : Over) (c : After-remove g) → c.remove.new.self ≡ without nat_cmp c.args.self.now.index (c.args.vpn / 512)
index_less g c = c.remove.ensures.slot ∙ ap (without nat_cmp c.args.self.now.index) c.block_of.ensures.number

-- the block's leaf was the last of the list
was_last : (g : Over) (c : Then-number-len g) → c.args.number + 1 ≡ length c.args.self.now.leaves.items
was_last g c =
    let old_len = c.args.self.now.leaves.ok.0 in
    let less = c.swap_remove.ensures.len in
    let same : c.args.number ≡ c.len.result = c.if-number-len.true in
    let now_len = c.len.ensures in
    omega (arith, old_len, less, same, now_len)

-- it was not, so another is in its place now
stays_below : (g : Over) (c : Else-number-len g) → c.args.number < vec_len c.swap_remove.new.self
stays_below g c =
    let b = c.args.self.now in
    let n = c.args.number in
    let old_len = b.leaves.ok.0 in
    let less = c.swap_remove.ensures.len in
    let inside = within b.leaves.items n (c.args.vpn / 512) (blocks-found b.leaves.items b.index c.requires.kept.0 (c.args.vpn / 512) (Leaf n) c.requires.there).1 in
    let now_len = c.len.ensures in
    below_len n c.len.result (length b.leaves.items) inside (omega (arith, old_len, less, now_len)) c.if-number-len.false (vec_len c.swap_remove.new.self) now_len

some_behind : (g : Over) (c : Else-number-len g) → c.args.number + 1 < length c.args.self.now.leaves.items
some_behind g c =
    let below = stays_below g c in
    let less = c.swap_remove.ensures.len in
    let old_len = c.args.self.now.leaves.ok.0 in
    omega (arith, below, less, old_len)

moved_leaf : (g : Over) (c : After-index g) → c.args.number < vec_len c.swap_remove.new.self
    → slice_get (swap_remove c.args.self.now.leaves.items c.args.number c.swap_remove.result) c.args.number ≡ Some c.index.result.now
moved_leaf g c below =
    let now = c.swap_remove.new.self in
    ap (λ ls. slice_get ls c.args.number) (sym c.swap_remove.ensures.items) ∙ slice_get_read now.items (vec_len now) c.args.number c.index.result.now now.ok.0 below c.index.ensures

-- the index has the slot of that leaf anew
index_now : (g : Over) (c : After-replace g) → c.remove.new.self ≡ without nat_cmp c.args.self.now.index (c.args.vpn / 512)
    → c.replace.new.self ≡ replace nat_cmp (without nat_cmp c.args.self.now.index (c.args.vpn / 512)) c.index.result.now.block (Leaf c.args.number)
index_now g c less = c.replace.ensures.slot ∙ ap (λ m. replace nat_cmp m c.index.result.now.block (Leaf c.args.number)) less

pub returns-then-number-len-clause-entries : goal.returns-then-number-len-clause-entries
returns-then-number-len-clause-entries g c =
    let b = c.args.self.now in
    let n = c.args.number in
    let x = c.swap_remove.result in
    let less = index_less g (goal.at.returns-then-number-len-clause-entries g c).After-remove in
    ap (λ ls. entries_by ls c.remove.new.self) c.swap_remove.ensures.items ∙ ap (entries_by (swap_remove b.leaves.items n x)) less ∙ last-entries b.leaves.items b.index c.requires.kept.0 c.requires.kept.3 c.requires.kept.4 c.args.vpn n c.requires.there x (was_last g c)
    ∙ blocks-gone b.leaves.items b.index c.requires.kept.0 c.args.vpn (Leaf n) c.requires.there c.requires.none

pub returns-then-number-len-clause-kept : goal.returns-then-number-len-clause-kept
returns-then-number-len-clause-kept g c =
    let b = c.args.self.now in
    let n = c.args.number in
    let x = c.swap_remove.result in
    let last = was_last g c in
    let items = c.swap_remove.ensures.items in
    let less = index_less g (goal.at.returns-then-number-len-clause-kept g c).After-remove in
    let fewer = c.swap_remove.ensures.len in
    let taken = lacking-without b.index (c.args.vpn / 512) (Leaf n) c.requires.there in
    let after : without_leaf c.remove.new.self ≡ without_leaf (without nat_cmp b.index (c.args.vpn / 512)) = ap without_leaf less in
    let counted = c.requires.kept.1 in
    let room = c.requires.kept.2 in
    let capacity = c.swap_remove.ensures.capacity in (
      carried AreBlocks items less (last-kept b.leaves.items b.index c.requires.kept.0 c.requires.kept.3 c.requires.kept.4 c.args.vpn n c.requires.there x last),
      omega (arith, taken, after, counted),
      omega (arith, room, capacity, b.leaves.ok.0, c.swap_remove.new.self.ok.0, fewer),
      carried EachLeafIsNamed items less (last-named b.leaves.items b.index c.requires.kept.0 c.requires.kept.3 c.requires.kept.4 c.args.vpn n c.requires.there x last),
      carried EachHasEntries items less (last-has b.leaves.items b.index c.requires.kept.0 c.requires.kept.3 c.requires.kept.4 c.args.vpn n c.requires.there x last),
    )

pub index-requires : goal.index-requires
index-requires g c = stays_below g (goal.at.index-requires g c).Else-number-len

pub replace-requires : goal.replace-requires
replace-requires g c =
    let b = c.args.self.now in
    let n = c.args.number in
    let x = c.swap_remove.result in
    let p = c.index.result.now in
    let other = (goal.at.replace-requires g c).Else-number-len in
    subst (λ m. IsSome (get nat_cmp m p.block)) (sym (index_less g (goal.at.replace-requires g c).After-remove))
    (moved-there b.leaves.items b.index c.requires.kept.0 c.requires.kept.3 c.requires.kept.4 c.args.vpn n c.requires.there x (some_behind g other) p (moved_leaf g (goal.at.replace-requires g c).After-index (stays_below g other)))

pub returns-clause-entries : goal.returns-clause-entries
returns-clause-entries g c =
    let at = goal.at.returns-clause-entries g c in
    let b = c.args.self.now in
    let n = c.args.number in
    ap (λ ls. entries_by ls c.replace.new.self) c.swap_remove.ensures.items ∙ ap (entries_by (swap_remove b.leaves.items n c.swap_remove.result)) (index_now g c (index_less g at.After-remove))
    ∙ moved-entries b.leaves.items b.index c.requires.kept.0 c.requires.kept.3 c.requires.kept.4 c.args.vpn n c.requires.there c.swap_remove.result (some_behind g at.Else-number-len) c.index.result.now (moved_leaf g at.After-index (stays_below g at.Else-number-len))
    ∙ blocks-gone b.leaves.items b.index c.requires.kept.0 c.args.vpn (Leaf n) c.requires.there c.requires.none

pub returns-clause-kept : goal.returns-clause-kept
returns-clause-kept g c =
    let at = goal.at.returns-clause-kept g c in
    let b = c.args.self.now in
    let n = c.args.number in
    let x = c.swap_remove.result in
    let p = c.index.result.now in
    let more = some_behind g at.Else-number-len in
    let moved = moved_leaf g at.After-index (stays_below g at.Else-number-len) in
    let items = c.swap_remove.ensures.items in
    let changed = index_now g c (index_less g at.After-remove) in
    let taken = lacking-without b.index (c.args.vpn / 512) (Leaf n) c.requires.there in
    let renamed = lacking-replace (without nat_cmp b.index (c.args.vpn / 512)) p.block (Leaf (length b.leaves.items - 1)) (Leaf n) (moved-slot b.leaves.items b.index c.requires.kept.0 c.requires.kept.3 c.requires.kept.4 c.args.vpn n c.requires.there x more p moved) in
    let after : without_leaf c.replace.new.self ≡ without_leaf (replace nat_cmp (without nat_cmp b.index (c.args.vpn / 512)) p.block (Leaf n)) = ap without_leaf changed in
    let counted = c.requires.kept.1 in (
      carried AreBlocks items changed (moved-kept b.leaves.items b.index c.requires.kept.0 c.requires.kept.3 c.requires.kept.4 c.args.vpn n c.requires.there x more p moved),
      omega (arith, taken, renamed, after, counted),
      omega (arith, c.requires.kept.2, c.swap_remove.ensures.capacity, b.leaves.ok.0, c.swap_remove.new.self.ok.0, c.swap_remove.ensures.len),
      carried EachLeafIsNamed items changed (moved-named b.leaves.items b.index c.requires.kept.0 c.requires.kept.3 c.requires.kept.4 c.args.vpn n c.requires.there x more p moved),
      carried EachHasEntries items changed (moved-has b.leaves.items b.index c.requires.kept.0 c.requires.kept.3 c.requires.kept.4 c.args.vpn n c.requires.there x more p moved),
    )
