use Rattle.std.proofs.Common.{ℕ, sym, subst}
use Rattle.std.specs.Prelude.{Some, replicate, slice_set}
use Rattle.std.specs.List.{AllByRecursion}
use Rattle.std.proofs.lemmas.List.{length-replicate}
use Rattle.nm_pool.specs.views.Populated.{IsPopulated}
use Rattle.nm_pool.specs.views.Frames.{FramesView, in_memory}
use Rattle.nm_pool.proofs.Copies.Populated.{all_set}
use Rattle.nm_model.specs.definitions.Frames.{Store}
use Rattle.nm_pool.proofs.Shelves.{seen_home, bytes_set, frames_changed}
use Rattle.nm_pool.proofs.Boxed.{seen, held}
use Rattle.nm_pool.proofs.InMemory.{home, has_buffer}
use Rattle.nm_pool.proofs.InMemory as memory
use Rattle.nm_pool.proofs.frames.FramePool.zero.Goals as goal

pub zero-requires-clause-home : goal.zero-requires-clause-home
zero-requires-clause-home g c =
    let own = held c.self.inside.jobs c.deref_mut-parts.ensures.value c.self.invariant in
    let shown = seen c.self.inside.jobs c.deref_mut-parts.ensures.value c.self.view_is in
    home c.deref_mut-parts.result.now.frames c.args.frame (seen_home _ c.args.self.now c.args.frame shown own.1 c.requires.frame)

pub zero-requires-clause-buffer : goal.zero-requires-clause-buffer
zero-requires-clause-buffer g c =
    let shown = seen c.self.inside.jobs c.deref_mut-parts.ensures.value c.self.view_is in
    has_buffer c.deref_mut-parts.result.now.frames c.args.frame (subst (λ (v : FramesView). IsPopulated v.frames c.args.frame) (sym shown) c.requires.populated)

pub invariant_of-self : goal.invariant_of-self
invariant_of-self g c =
    let own = held c.self.inside.jobs c.deref_mut-parts.ensures.value c.self.invariant in
    let store = c.deref_mut-parts.result.now.frames in
    let shown = seen c.self.inside.jobs c.deref_mut-parts.ensures.value c.self.view_is in
    let whole = has_buffer store c.args.frame (subst (λ (v : FramesView). IsPopulated v.frames c.args.frame) (sym shown) c.requires.populated) in
    let zeroes = memory.bytes_set store c.args.frame c.zero.new.self (Some (replicate 4096 0)) whole c.zero.ensures in (
      own.0,
      bytes_set _ (in_memory c.zero.new.self) c.args.frame _ zeroes own.1,
      own.2,
      subst (λ (s : Store). AllByRecursion (IsPopulated s) c.deref_mut-parts.result.now.vacated.items) (sym zeroes)
          (all_set c.deref_mut-parts.result.now.vacated.items (in_memory store) c.args.frame (replicate 4096 0) (length-replicate {A = ℕ} 4096 0) own.3),
    )

pub returns : goal.returns
returns g c =
    let store = c.deref_mut-parts.result.now.frames in
    let shown = seen c.self.inside.jobs c.deref_mut-parts.ensures.value c.self.view_is in
    let whole = has_buffer store c.args.frame (subst (λ (v : FramesView). IsPopulated v.frames c.args.frame) (sym shown) c.requires.populated) in
    let zeroes = memory.bytes_set store c.args.frame c.zero.new.self (Some (replicate 4096 0)) whole c.zero.ensures in
    frames_changed (λ (s : Store). slice_set s c.args.frame (Some (replicate 4096 0))) _ c.args.self.now (in_memory c.zero.new.self) shown zeroes
