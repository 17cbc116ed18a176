-- The bytes and pins of pages, the online nodes and the totals may be others.
use Rattle.std.proofs.Common.{ℕ, List}
use Rattle.nm_types.specs.declared.page.Page.{Page}
use Rattle.nm_types.specs.Map.{Map}
use Rattle.nm_types.specs.State.{State}
use Rattle.nm_model.specs.definitions.Run.{with_counts}
use Rattle.nm_model.specs.definitions.Sound.{AreNodes, PlacedHasBytes, PlacedHasPins, IsSoundInFlight}

pub contents_sound : (s : State) (l : List ℕ) (bytes : Map Page (List ℕ)) (pins : Map Page ℕ) (nodes : List ℕ) (moved failed : ℕ)
    → PlacedHasBytes s.place bytes → PlacedHasPins s.place pins → AreNodes s.layout nodes → IsSoundInFlight s l
    → IsSoundInFlight (record s { bytes = bytes; pins = pins; online = nodes; moved = moved; failed = failed }) l
contents_sound s l bytes pins nodes moved failed whole few are h =
    record {
      order = record { processes = h.order.processes; sees = h.order.sees; areas = h.order.areas; segments = h.order.segments; place = h.order.place };
      apart = h.apart;
      frames = h.frames;
      shown = h.shown;
      zeros = h.zeros;
      covered = h.covered;
      bytes = whole;
      pins = few;
      seen = h.seen;
      once = h.once;
      areas = h.areas;
      numbers = h.numbers;
      disjoint = h.disjoint;
      online = are;
      few = h.few;
    }

pub counted_sound : (s : State) (l : List ℕ) (moved failed : ℕ) → IsSoundInFlight s l → IsSoundInFlight (with_counts s moved failed) l
counted_sound s l moved failed h =
    contents_sound s l s.bytes s.pins s.online (with_counts s moved failed).moved (with_counts s moved failed).failed h.bytes h.pins h.online h

-- other bytes of pages, and other numbers of pins
pub bytes_sound : (s : State) (l : List ℕ) (bytes : Map Page (List ℕ)) → PlacedHasBytes s.place bytes → IsSoundInFlight s l → IsSoundInFlight (record s { bytes = bytes }) l
bytes_sound s l bytes whole h = contents_sound s l bytes s.pins s.online s.moved s.failed whole h.pins h.online h

pub pins_sound : (s : State) (l : List ℕ) (pins : Map Page ℕ) → PlacedHasPins s.place pins → IsSoundInFlight s l → IsSoundInFlight (record s { pins = pins }) l
pins_sound s l pins few h = contents_sound s l s.bytes pins s.online s.moved s.failed h.bytes few h.online h
