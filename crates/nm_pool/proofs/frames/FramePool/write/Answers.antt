use Rattle.std.proofs.Common.{sym, subst}
use Rattle.std.specs.List.{AllByRecursion}
use Rattle.nm_pool.specs.views.Populated.{IsPopulated}
use Rattle.std.specs.Prelude.{Some, slice_set}
use Rattle.nm_model.specs.definitions.Frames.{Store, bytes_of, overwrite}
use Rattle.nm_pool.specs.views.Frames.{FramesView, HasAllFrames, in_memory}
use Rattle.nm_pool.proofs.Shelves.{seen_home, bytes_set, frames_changed}
use Rattle.nm_pool.proofs.Copies.Populated.{all_written}
use Rattle.nm_pool.proofs.Boxed.{seen, held}
use Rattle.nm_pool.proofs.InMemory.{home, has_buffer, bytes_changed}
use Rattle.nm_pool.proofs.frames.FramePool.write.Goals as goal

pub write-requires-clause-home : goal.write-requires-clause-home
write-requires-clause-home g c =
    let own = held c.self.inside.jobs c.deref_mut-parts.ensures.value c.self.invariant in
    let shown = seen c.self.inside.jobs c.deref_mut-parts.ensures.value c.self.view_is in
    home c.deref_mut-parts.result.now.frames c.args.frame (seen_home _ c.args.self.now c.args.frame shown own.1 c.requires.frame)

pub write-requires-clause-inside : goal.write-requires-clause-inside
write-requires-clause-inside g c = c.requires.inside

pub write-requires-clause-buffer : goal.write-requires-clause-buffer
write-requires-clause-buffer g c =
    let shown = seen c.self.inside.jobs c.deref_mut-parts.ensures.value c.self.view_is in
    has_buffer c.deref_mut-parts.result.now.frames c.args.frame (subst (λ (v : FramesView). IsPopulated v.frames c.args.frame) (sym shown) c.requires.populated)

pub invariant_of-self : goal.invariant_of-self
invariant_of-self g c =
    let own = held c.self.inside.jobs c.deref_mut-parts.ensures.value c.self.invariant in
    let shown = seen c.self.inside.jobs c.deref_mut-parts.ensures.value c.self.view_is in
    let store = c.deref_mut-parts.result.now.frames in
    let whole = has_buffer store c.args.frame (subst (λ (v : FramesView). IsPopulated v.frames c.args.frame) (sym shown) c.requires.populated) in
    let written = bytes_changed store c.args.frame c.write.new.self (λ bytes. overwrite bytes c.args.at c.args.bytes.now) whole c.write.ensures in (
      own.0,
      bytes_set _ (in_memory c.write.new.self) c.args.frame _ written own.1,
      own.2,
      subst (λ (s : Store). AllByRecursion (IsPopulated s) c.deref_mut-parts.result.now.vacated.items) (sym written)
          (all_written c.deref_mut-parts.result.now.vacated.items (in_memory store) c.args.frame c.args.at c.args.bytes.now c.requires.inside own.3),
    )

pub returns-clause-written : goal.returns-clause-written
returns-clause-written g c =
    let shown = seen c.self.inside.jobs c.deref_mut-parts.ensures.value c.self.view_is in
    let store = c.deref_mut-parts.result.now.frames in
    let whole = has_buffer store c.args.frame (subst (λ (v : FramesView). IsPopulated v.frames c.args.frame) (sym shown) c.requires.populated) in
    let written = bytes_changed store c.args.frame c.write.new.self (λ bytes. overwrite bytes c.args.at c.args.bytes.now) whole c.write.ensures in
    frames_changed (λ (s : Store). slice_set s c.args.frame (Some (overwrite (bytes_of s c.args.frame) c.args.at c.args.bytes.now))) _ c.args.self.now (in_memory c.write.new.self) shown written

pub returns-clause-whole : goal.returns-clause-whole
returns-clause-whole g c = subst HasAllFrames c.self.view_is c.self.invariant.1
