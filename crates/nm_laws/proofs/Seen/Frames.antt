-- The frames of what is seen.
use Rattle.std.proofs.Common.{◌≡◌, ℕ, ◌<◌, List, refl, arith}
use Rattle.std.specs.Prelude.{Option, Some, None}
use Rattle.std.specs.List.{sum_by}
use Rattle.std.specs.Map.{values_of}
use Rattle.nm_types.specs.declared.page.Page.{Page}
use Rattle.nm_types.specs.declared.sight.Sight.{Sight}
use Rattle.nm_types.specs.declared.sight.Sight.TheVariants.{ZeroPage, Sees}
use Rattle.nm_types.specs.Layout.{frame_count}
use Rattle.nm_types.specs.Map.{Map, get, page_cmp}
use Rattle.nm_types.specs.State.{State}
use Rattle.nm_model.specs.definitions.Seen.{frame_of}
use Rattle.nm_model.specs.definitions.Sound.{times, IsSoundInFlight}
use Rattle.nm_laws.proofs.Soundness.Counted.{counted_below}
use Rattle.nm_laws.proofs.Soundness.Once.{counted_place}

pub none_sees : {o : Option Sight} → o ≡ None → (q : Page) → o ≡ Some (Sees q) → ⊥
none_sees e q k = cc

pub zero_sees : {o : Option Sight} → o ≡ Some ZeroPage → (q : Page) → o ≡ Some (Sees q) → ⊥
zero_sees e q k = cc

-- a page that is seen has its frame
pub page_of_frame : (place : Map Page ℕ) (o : Option Sight) (f : ℕ) → frame_of place o ≡ Some f → (q : Page) × (o ≡ Some (Sees q)) × (get page_cmp place q ≡ Some f)
page_of_frame place None f h = cc
page_of_frame place (Some ZeroPage) f h = cc
page_of_frame place (Some (Sees q)) f h = (q, refl, h)

pub place_in_range : (s : State) (l : List ℕ) (q : Page) (f : ℕ) → IsSoundInFlight s l → get page_cmp s.place q ≡ Some f → f < frame_count s.layout
place_in_range s l q f h e =
    counted_below (times f (values_of s.place)) (sum_by (times f) s.free) (times f l) f (frame_count s.layout) (h.frames.once f) (let some = counted_place s.place q f e in omega (arith, some))
