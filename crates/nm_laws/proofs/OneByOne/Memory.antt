-- Deciding changes `place` alone, and gives no place to a page that had none.
use Rattle.std.proofs.Common.{◌≡◌, ℕ, ◌+◌, ◌/◌, ◌%◌, List, [], ◌∷◌, Bool, true, false, cond, refl, sym, ap, ◌∙◌}
use Rattle.std.specs.Prelude.{Option, Some, None}
use Rattle.std.specs.Option.{option_map}
use Rattle.nm_types.specs.declared.page.Page.{Page}
use Rattle.nm_types.specs.Map.{get, set, page_cmp, same_page}
use Rattle.nm_types.specs.State.{State, page_at, free_list}
use Rattle.nm_types.specs.declared.request.Class.{Class}
use Rattle.nm_types.specs.declared.request.Class.TheVariants.{Status, Move}
use Rattle.nm_types.specs.declared.request.Wanted.{Wanted}
use Rattle.nm_model.specs.definitions.Status.{status_or_move}
use Rattle.nm_model.specs.definitions.Cut.{Request, Stretch, cut_within}
use Rattle.nm_model.specs.definitions.Memory.{mem, byte_of}
use Rattle.nm_model.specs.definitions.Run.{moved_page, decision, one_request, each_request, with_free, with_all_free, frames_left, run, runs_from, batch}
use Rattle.nm_types.proofs.Maps.{page_cmp_total, exact_page, equal, get-set}
use Rattle.nm_laws.proofs.OneByOne.Placed.{ClassIsPlaced, status_placed}

-- the byte at a place in the page that is shown
abbrev shown_byte : State → Option Page → ℕ → Option ℕ
shown_byte s o i = option_map (λ p. byte_of s p (get page_cmp s.place p) i) o

-- the place of a page that has one may be another
other_place : (s : State) (page q : Page) (from frame i : ℕ) (b : Bool) → same_page q page ≡ b → get page_cmp s.place page ≡ Some from → byte_of s q (cond b (Some frame) (get page_cmp s.place q)) i ≡ byte_of s q (get page_cmp s.place q) i
other_place s page q from frame i true e placed = ap (λ o. byte_of s q o i) (sym (ap (get page_cmp s.place) (exact_page q page (equal _ e)) ∙ placed))
other_place s page q from frame i false e placed = refl

byte_stays : (s : State) (page : Page) (from frame : ℕ) → get page_cmp s.place page ≡ Some from → (o : Option Page) (i : ℕ) → shown_byte (record s { place = set page_cmp s.place page frame }) o i ≡ shown_byte s o i
byte_stays s page from frame placed None i = refl
byte_stays s page from frame placed (Some q) i =
    ap Some (ap (λ o. byte_of s q o i) (get-set page_cmp_total s.place page frame q) ∙ other_place s page q from frame i (same_page q page) refl placed)

moved_page_keeps : (s : State) (target : ℕ) (page : Page) (from : ℕ) (front : List ℕ) → get page_cmp s.place page ≡ Some from → (pid address : ℕ) → mem (moved_page s target page from front).state pid address ≡ mem s pid address
moved_page_keeps s target page from [] placed pid address = refl
moved_page_keeps s target page from (frame ∷ rest) placed pid address = byte_stays s page from frame placed (page_at s.areas pid (address / 4096)) (address % 4096)

decided_keeps : (s : State) (target : ℕ) (c : Class) → ClassIsPlaced s c → (pid address : ℕ) → mem (decision s target c).state pid address ≡ mem s pid address
decided_keeps s target (Status status) placed pid address = refl
decided_keeps s target (Move page from) placed pid address = moved_page_keeps s target page from (free_list s target) placed pid address

pub each_keeps : (s : State) (target : ℕ) (ws : List Wanted) (pid address : ℕ) → mem (each_request s target ws).state pid address ≡ mem s pid address
each_keeps s target [] pid address = refl
each_keeps s target (w ∷ ws) pid address =
    let now = one_request s target w in
    each_keeps now.state target ws pid address ∙ decided_keeps s target (status_or_move s target w) (status_placed s target w) pid address

pub frees_keep : (frames : List ℕ) (s : State) (pid address : ℕ) → mem (with_all_free s frames) pid address ≡ mem s pid address
frees_keep [] s pid address = refl
frees_keep (frame ∷ frames) s pid address = frees_keep frames (with_free s frame) pid address

run_keeps : (s : State) (target : ℕ) (ws : List Wanted) (pid address : ℕ) → mem (run s target ws []).state pid address ≡ mem s pid address
run_keeps s target ws pid address =
    let moves = each_request s target ws in
    frees_keep (frames_left moves.taken) moves.state pid address ∙ each_keeps s target ws pid address

pub runs_keep : (k : ℕ) (s : State) (rs : List Stretch) (pid address : ℕ) → mem (runs_from k s rs []).state pid address ≡ mem s pid address
runs_keep k s [] pid address = refl
runs_keep k s (r ∷ rs) pid address = runs_keep (k + 1) (run s r.target r.wanted []).state rs pid address ∙ run_keeps s r.target r.wanted pid address

pub batch_keeps : (limit : ℕ) (s : State) (requests : List Request) (pid address : ℕ) → mem (batch limit s requests []).state pid address ≡ mem s pid address
batch_keeps limit s requests pid address = runs_keep 0 s (cut_within limit requests) pid address
