-- How touches of each kind are undone.
use Rattle.std.proofs.Common.{◌≡◌, ℕ, Bool, true, false, refl, sym, ap, ◌∙◌}
use Rattle.std.specs.Prelude.{Option, Some, None}
use Rattle.nm_types.specs.declared.page.Page.{Page}
use Rattle.nm_types.specs.declared.sight.Sight.{Sight}
use Rattle.nm_types.specs.declared.sight.Sight.TheVariants.{ZeroPage}
use Rattle.nm_engine.specs.declared.touch.TouchOutcome.{TouchOutcome}
use Rattle.nm_engine.specs.definitions.Undo.{given_now, undo_of}

-- what is seen before a page gets a frame: the page of zeros, or nothing
abbrev pub seen_as : Bool → Option Sight
seen_as true = Some ZeroPage
seen_as false = None

-- the page got this frame
pub noted_placed : (x : TouchOutcome) (seen : Option Sight) (place : Option ℕ) (pid v : ℕ) (zero : Bool) (page : Page) (f : ℕ)
    → x ≡ record { frame = Some f; undo = Some (record { pid = pid; vpn = v; zero = zero; given = Some (page, f) }) } → seen ≡ seen_as zero → place ≡ None
    → x.undo ≡ undo_of pid v page seen place x.frame
noted_placed x seen place pid v true page f is e none =
    ap (λ (x : TouchOutcome). x.undo) is ∙ sym ((λ i. undo_of pid v page (e i) (none i) ((is i).frame)))
noted_placed x seen place pid v false page f is e none =
    ap (λ (x : TouchOutcome). x.undo) is ∙ sym ((λ i. undo_of pid v page (e i) (none i) ((is i).frame)))

-- the process saw nothing, and the page, if it sees one, had its frame
pub noted_seen : (x : TouchOutcome) (seen : Option Sight) (place : Option ℕ) (pid v : ℕ) (page : Page) (frame : Option ℕ)
    → x ≡ record { frame = frame; undo = Some (record { pid = pid; vpn = v; zero = false; given = None }) } → seen ≡ None → given_now page place frame ≡ None
    → x.undo ≡ undo_of pid v page seen place x.frame
noted_seen x seen place pid v page frame is e none =
    ap (λ (x : TouchOutcome). x.undo) is
    ∙ sym ((λ i. undo_of pid v page (e i) place ((is i).frame)) ∙ ap (λ g. Some (record { pid = pid; vpn = v; zero = false; given = g })) none)

pub nothing_given : (page : Page) (place : Option ℕ) → given_now page place None ≡ None
nothing_given page None = refl
nothing_given page (Some f) = refl
