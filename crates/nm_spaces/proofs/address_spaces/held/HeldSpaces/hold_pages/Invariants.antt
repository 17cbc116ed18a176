use Rattle.std.proofs.Common.{◌≡◌, map, take, drop}
use Rattle.nm_types.specs.declared.page_move.PageMove.{PageMove}
use Rattle.nm_spaces.specs.views.Held.{HoldsPages}
use Rattle.nm_spaces.specs.definitions.Moves.{CanRemap, all_moved}
use Rattle.nm_spaces.proofs.address_spaces.held.HeldSpaces.hold_pages.Given as goal

abbrev pub invariant-loop-taken : goal.invariant-loop-taken
invariant-loop-taken g l = record {
  can : CanRemap l.self.spaces (drop l.taken-index l.moves);
  moved : all_moved l.self.spaces (drop l.taken-index l.moves) ≡ all_moved l.fn.self.spaces l.moves;
  entries : HoldsPages l.self (map (λ (t : PageMove). t.page) (take l.taken-index l.moves));
}
