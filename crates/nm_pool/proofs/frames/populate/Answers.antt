use Rattle.std.proofs.Common.{sym, ◌∙◌}
use Rattle.std.specs.Prelude.{Result, Ok, Err, OnErr}
use Rattle.nm_pool.specs.views.Frames.{in_memory}
use Rattle.nm_pool.proofs.Copies.Populated.{keeps_then, keeps_populated, homes_then}
use Rattle.nm_pool.proofs.InMemory.{home, has_buffer, populated_if, fill_keeps, fill_populated}
use Rattle.nm_pool.proofs.frames.populate.Goals as goal

-- what holds anyway holds after an error
on_err : {T E P : Type 0} (r : Result T E) → P → OnErr r P
on_err (Ok x) p = tt
on_err (Err e) p = p

pub has_buffer-requires : goal.has_buffer-requires
has_buffer-requires g c = home c.args.frames.now c.args.frame (c.requires.home c.args.frame c.requires.frame)

pub returns-in_err-populate-clause-absent : goal.returns-in_err-populate-clause-absent
returns-in_err-populate-clause-absent g c = on_err c.from_residual.result (λ whole. c.in_err-populate.ensures.absent (has_buffer c.args.frames.now c.args.frame whole))

pub populate_behind-requires : goal.populate_behind-requires
populate_behind-requires g c =
    homes_then (in_memory c.args.frames.now) (in_memory c.populate.new.self) (fill_keeps c.args.frames.now c.populate.new.self c.args.frame c.in_ok-populate.ensures.ok) c.requires.home

pub returns-in_ok-populate-clause-kept : goal.returns-in_ok-populate-clause-kept
returns-in_ok-populate-clause-kept g c =
    keeps_then (in_memory c.args.frames.now) (in_memory c.populate.new.self) (in_memory c.populate_behind.new.frames) (fill_keeps c.args.frames.now c.populate.new.self c.args.frame c.in_ok-populate.ensures.ok) c.populate_behind.ensures

pub returns-in_ok-populate-clause-populated : goal.returns-in_ok-populate-clause-populated
returns-in_ok-populate-clause-populated g c =
    keeps_populated (in_memory c.populate.new.self) (in_memory c.populate_behind.new.frames) c.args.frame c.populate_behind.ensures
    (fill_populated c.args.frames.now c.args.frame c.populate.new.self (c.requires.home c.args.frame c.requires.frame) c.has_buffer.ensures.whole c.in_ok-populate.ensures.ok)

pub returns-else-not-has_buffer-clause-populated : goal.returns-else-not-has_buffer-clause-populated
returns-else-not-has_buffer-clause-populated g c =
    populated_if c.args.frames.now c.args.frame (sym c.has_buffer.ensures.value ∙ c.if-not-has_buffer.false) c.has_buffer.ensures.whole
