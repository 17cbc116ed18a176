-- What has been counted plays no part in soundness.
use Rattle.std.proofs.Common.{ℕ, List}
use Rattle.nm_laws.proofs.Soundness.Contents.{contents_sound}
use Rattle.nm_spaces.specs.views.AddressSpaces.{AddressSpacesView}
use Rattle.nm_pool.specs.views.Frames.{FramesView}
use Rattle.nm_engine.specs.views.RunState.{IsSoundMachine}
use Rattle.nm_engine.specs.views.Parts.{AreKept}
use Rattle.nm_engine.specs.views.Shown.{shown_by}

pub whatever_counted : (y : AddressSpacesView) (k : FramesView) (online : List ℕ) (moved failed : ℕ) → IsSoundMachine (shown_by y k online moved failed) k.vacated y.frames → AreKept y k online
whatever_counted y k online moved failed h m f =
    let now = shown_by y k online moved failed in
    record { sound = contents_sound now k.vacated now.bytes now.pins online m f h.sound.bytes h.sound.pins h.sound.online h.sound; as_many = h.as_many }
