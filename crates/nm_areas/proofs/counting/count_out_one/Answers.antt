use Rattle.std.proofs.Common.{◌≡◌, ◌+◌, ◌∙◌, ap, sym, arith}
use Rattle.nm_areas.specs.Coverage.{of_shared, ends_of, covers_of}
use Rattle.nm_areas.proofs.Masked.{masked_add, masked_kept, masked_gone, ends_away, covers_away}
use Rattle.nm_areas.proofs.Steps.{steps_same}
use Rattle.nm_areas.proofs.counting.count_out_one.Goals as goal

pub returns-then-is_shared : goal.returns-then-is_shared
returns-then-is_shared g c ends covers h =
    let segments = c.args.table.now.segments in
    let x = c.args.area in
    let shared = sym c.is_shared.ensures ∙ c.if-is_shared.true in
    c.uncover.ensures (of_shared segments ends) (of_shared segments covers)
    (steps_same c.args.steps.now _ _ _ _ h
    (λ p. masked_add segments ends (λ q. ends_of q x) p ∙ ap (λ n. of_shared segments ends p + n) (masked_kept segments x.page.segment (λ q. ends_of q x) (λ q. ends_away x q) shared p))
    (λ p. masked_add segments covers (λ q. covers_of q x) p ∙ ap (λ n. of_shared segments covers p + n) (masked_kept segments x.page.segment (λ q. covers_of q x) (λ q. covers_away x q) shared p)))

pub returns-else-is_shared : goal.returns-else-is_shared
returns-else-is_shared g c ends covers h =
    let segments = c.args.table.now.segments in
    let x = c.args.area in
    let private = sym c.is_shared.ensures ∙ c.if-is_shared.false in
    steps_same c.args.steps.now _ _ _ _ h
    (λ p. let none = masked_gone segments x.page.segment (λ q. ends_of q x) (λ q. ends_away x q) private p in masked_add segments ends (λ q. ends_of q x) p ∙ (let same : of_shared segments ends p + of_shared segments (λ q. ends_of q x) p ≡ of_shared segments ends p = omega (arith, none) in same))
    (λ p. let none = masked_gone segments x.page.segment (λ q. covers_of q x) (λ q. covers_away x q) private p in masked_add segments covers (λ q. covers_of q x) p ∙ (let same : of_shared segments covers p + of_shared segments (λ q. covers_of q x) p ≡ of_shared segments covers p = omega (arith, none) in same))
