use Rattle.std.proofs.Common.{ap, sym, subst, length, length-set, ◌∙◌}
use Rattle.std.specs.Prelude.{Some, slice_set}
use Rattle.nm_pool.specs.views.Populated.{IsPopulated}
use Rattle.nm_model.specs.definitions.Frames.{Store, IsHome, bytes_of, overwrite}
use Rattle.nm_pool.specs.views.Frames.{FramesView, HasAllPlaces, in_memory}
use Rattle.nm_pool.proofs.Shelves.{frames_changed}
use Rattle.nm_pool.proofs.Boxed.{seen_alone, held_alone}
use Rattle.nm_pool.proofs.InMemory.{home, has_buffer, bytes_changed}
use Rattle.nm_pool.proofs.frames.in_flight.FramesInFlight.write.Goals as goal

pub write-requires-clause-home : goal.write-requires-clause-home
write-requires-clause-home g c =
    home c.deref_mut-parts.result.now.frames c.args.frame (subst (λ (v : FramesView). IsHome v.frames c.args.frame) (sym (seen_alone c.deref_mut-parts.ensures.value c.self.view_is)) c.requires.home)

pub write-requires-clause-buffer : goal.write-requires-clause-buffer
write-requires-clause-buffer g c =
    has_buffer c.deref_mut-parts.result.now.frames c.args.frame (subst (λ (v : FramesView). IsPopulated v.frames c.args.frame) (sym (seen_alone c.deref_mut-parts.ensures.value c.self.view_is)) c.requires.populated)

pub write-requires-clause-inside : goal.write-requires-clause-inside
write-requires-clause-inside g c = c.requires.inside

pub invariant_of-self : goal.invariant_of-self
invariant_of-self g c =
    let own = held_alone c.deref_mut-parts.ensures.value c.self.invariant in
    let shown = seen_alone c.deref_mut-parts.ensures.value c.self.view_is in
    let store = c.deref_mut-parts.result.now.frames in
    let has = has_buffer store c.args.frame (subst (λ (v : FramesView). IsPopulated v.frames c.args.frame) (sym shown) c.requires.populated) in
    let written = bytes_changed store c.args.frame c.write.new.self (λ bytes. overwrite bytes c.args.at c.args.bytes.now) has c.write.ensures in
    let bytes = overwrite (bytes_of (in_memory store) c.args.frame) c.args.at c.args.bytes.now in (
      own.0,
      record {
        lists = own.1.lists;
        buffers = ap (λ (s : Store). length s) written ∙ length-set (in_memory store) c.args.frame (Some bytes) ∙ own.1.buffers;
      },
    )

pub returns-clause-written : goal.returns-clause-written
returns-clause-written g c =
    let shown = seen_alone c.deref_mut-parts.ensures.value c.self.view_is in
    let store = c.deref_mut-parts.result.now.frames in
    let has = has_buffer store c.args.frame (subst (λ (v : FramesView). IsPopulated v.frames c.args.frame) (sym shown) c.requires.populated) in
    let written = bytes_changed store c.args.frame c.write.new.self (λ bytes. overwrite bytes c.args.at c.args.bytes.now) has c.write.ensures in
    frames_changed (λ (s : Store). slice_set s c.args.frame (Some (overwrite (bytes_of s c.args.frame) c.args.at c.args.bytes.now))) _ c.args.self.now (in_memory c.write.new.self) shown written

pub returns-clause-places : goal.returns-clause-places
returns-clause-places g c = subst HasAllPlaces c.self.view_is c.self.invariant.1
