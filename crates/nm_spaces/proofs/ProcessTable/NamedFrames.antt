-- What follows of the frame that an entry names.
use Rattle.std.proofs.Common.{◌≡◌, ℕ, true, refl, ap, ◌∙◌, eq-eqb}
use Rattle.std.specs.Prelude.{◌==◌, Some, None}
use Rattle.nm_types.proofs.Cases.{none_some, some_is}
use Rattle.nm_types.specs.Map.{Map}
use Rattle.nm_types.specs.declared.area.Area.{Area}
use Rattle.nm_types.specs.declared.entry.Entry.{Entry}
use Rattle.nm_types.specs.declared.entry.Entry.TheVariants.{Zero, Frame, Held}
use Rattle.nm_types.specs.declared.sight.Sight.TheVariants.{Sees, ZeroPage}
use Rattle.nm_model.specs.definitions.PageTables.{page_here, sight_of}
use Rattle.nm_spaces.specs.views.ProcessTable.{frame_named, names}

pub zero_if_none : (e : Entry) → frame_named e ≡ None → e ≡ Zero
zero_if_none Zero h = refl
zero_if_none (Frame f) h = cc
zero_if_none (Held f) h = cc

-- the frames that it names: this one alone
pub names_alone : (e : Entry) (f : ℕ) → frame_named e ≡ Some f → (g : ℕ) → names g (Some e) ≡ (f == g)
names_alone Zero f h g = absurd (none_some h)
names_alone (Frame x) f h g = ap (λ x. x == g) (some_is h)
names_alone (Held x) f h g = ap (λ x. x == g) (some_is h)

pub names_it : (e : Entry) (f : ℕ) → frame_named e ≡ Some f → names f (Some e) ≡ true
names_it e f h = names_alone e f h f ∙ eq-eqb f f refl

-- what a process sees by it
pub sees_zeros : (areas : Map (ℕ × ℕ) Area) (pid v : ℕ) (e : Entry) → frame_named e ≡ None → sight_of areas pid v e ≡ ZeroPage
sees_zeros areas pid v e h = ap (sight_of areas pid v) (zero_if_none e h)

pub sees_page_there : (areas : Map (ℕ × ℕ) Area) (pid v : ℕ) (e : Entry) (f : ℕ) → frame_named e ≡ Some f → sight_of areas pid v e ≡ Sees (page_here areas pid v)
sees_page_there areas pid v Zero f h = absurd (none_some h)
sees_page_there areas pid v (Frame x) f h = refl
sees_page_there areas pid v (Held x) f h = refl
