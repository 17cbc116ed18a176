use Rattle.std.proofs.Common.{◌≡◌, length, sym, ap, subst, ◌∙◌, arith}
use Rattle.std.specs.Prelude.{slice_get}
use Rattle.std.specs.Ordering.{nat_cmp}
use Rattle.nm_types.specs.Map.{get}
use Rattle.nm_types.proofs.Cases.{none_some}
use Rattle.nm_tables.specs.views.Blocks.{IsSlot, IsSlotOf, AreBlocks, without_leaf}
use Rattle.nm_tables.proofs.Parts.{no_parts}
use Rattle.nm_tables.proofs.blocks.Blocks.new.Goals as goal

pub returns-clause-kept : goal.returns-clause-kept
returns-clause-kept g c =
    let leaves = c.new-2.result.items in
    let none : length leaves ≡ 0 = ap length c.new-2.ensures.items in (
      subst (AreBlocks leaves) (sym c.new.ensures) (no_parts IsSlot (IsSlotOf leaves)),
      ap without_leaf (sym c.new.ensures),
      omega (arith, none),
      λ i leaf at. absurd (none_some (sym (ap (λ ls. slice_get ls i) c.new-2.ensures.items) ∙ at)),
      λ block slot h some. none_some (sym (ap (λ m. get nat_cmp m block) c.new.ensures) ∙ h),
    )
