-- The address spaces of a state.
use Rattle.nm_types.specs.Layout.{frame_count}
use Rattle.nm_types.specs.State.{State}
use Rattle.nm_spaces.specs.views.AddressSpaces.{AddressSpacesView}

-- what processes see, the areas, and the frames and pins of pages
abbrev pub spaces_of : State → AddressSpacesView
spaces_of s =
    record {
      processes = s.processes;
      areas = s.areas;
      segments = s.segments;
      next = s.next_segment;
      place = s.place;
      pins = s.pins;
      frames = frame_count s.layout;
    }
