-- Looks at the address spaces that a machine lends.
use Rattle.std.proofs.Common.{◌≡◌, ℕ, [], ap, sym, subst, ◌∙◌}
use Rattle.nm_types.specs.Layout.{Layout}
use Rattle.nm_types.specs.State.{State}
use Rattle.nm_model.specs.definitions.Seen.{look, look_in, frame_and_pin, between, located_between, located_in, sights}
use Rattle.nm_model.specs.definitions.Sound.{IsSound}
use Rattle.nm_runs.specs.Shown.{ShowsItsFrames}
use Rattle.nm_spaces.specs.views.AddressSpaces.{AddressSpacesView}
use Rattle.nm_engine.specs.views.Spaces.{spaces_of}
use Rattle.nm_engine.proofs.Runs.OneByOne.{shows_its_frames}

pub seen_is : (s : State) (y : AddressSpacesView) (pid v : ℕ) → y ≡ spaces_of s → look_in y.processes y.areas y.place y.pins pid v ≡ look s pid v
seen_is s y pid v e = ap (λ (y : AddressSpacesView). look_in y.processes y.areas y.place y.pins pid v) e

pub located_is : (s : State) (g : Layout) (y : AddressSpacesView) (pid first end : ℕ) → g ≡ s.layout → y ≡ spaces_of s → located_in g y.place (between first end (sights y.processes pid)) ≡ located_between s pid first end
located_is s g y pid first end same e =
    ap (λ (l : Layout). located_in l y.place (between first end (sights y.processes pid))) same
    ∙ ap (λ (y : AddressSpacesView). located_in s.layout y.place (between first end (sights y.processes pid))) e

-- they show frames of the machine alone
pub lent_shows : (s : State) (y : AddressSpacesView) → IsSound s → y ≡ spaces_of s
    → ShowsItsFrames s.layout (λ pid v. look_in y.processes y.areas y.place y.pins pid v) (λ p. frame_and_pin y.place y.pins p)
lent_shows s y sound e =
    subst (λ (y : AddressSpacesView). ShowsItsFrames s.layout (λ pid v. look_in y.processes y.areas y.place y.pins pid v) (λ p. frame_and_pin y.place y.pins p))
    (sym e) (shows_its_frames s [] sound.frames)
