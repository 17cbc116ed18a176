-- Page tables, areas and the reverse map when a page has another number of pins.
use Rattle.std.proofs.Common.{◌≡◌, ℕ, ◌<◌, refl, sym, ap, subst, ◌∙◌, length-set, arith}
use Rattle.std.specs.Prelude.{Some, IsSome, length}
use Rattle.std.specs.Option.{option_map, unwrap_or}
use Rattle.std.specs.List.Sorted.{IsStrictlySortedBy}
use Rattle.std.specs.Ordering.{is_eq}
use Rattle.std.specs.Cmp.{tied_itself}
use Rattle.std.proofs.lemmas.Bool.{both_ways}
use Rattle.std.proofs.lemmas.List.{get_or-set_same, get_or-set_other}
use Rattle.nm_types.specs.declared.page.Page.{Page}
use Rattle.nm_types.specs.Map.{Map, get, set, replace, with_values, page_cmp}
use Rattle.nm_model.specs.definitions.Areas.{Mapping}
use Rattle.nm_rmap.specs.Mappers.{Mappers, frame_pins, with_pin_count}
use Rattle.nm_model.specs.definitions.PageTables.{Task}
use Rattle.nm_spaces.specs.views.AddressSpaces.{AddressSpacesView, spaces_view, pins_in, pins_here, with_pins_of}
use Rattle.nm_spaces.specs.definitions.Tied.{IsTied}
use Rattle.nm_types.proofs.Maps.{keys-values, get-values, page_cmp_total, exact_page, with_values-set, set_agree, set_same, replace_is_set}

-- the pins of a page are its frame's
pub pins_shown : (y : AddressSpacesView) (tasks : Map ℕ Task) (m : Mapping) (r : Mappers) (p : Page) (f : ℕ) → spaces_view tasks m r ≡ y → get page_cmp y.place p ≡ Some f → pins_here y p ≡ frame_pins r f
pins_shown y tasks m r p f is h =
    ap (λ (y : AddressSpacesView). pins_here y p) (sym is)
    ∙ ap (λ o. unwrap_or o 0) (get-values exact_page (λ q g. frame_pins r g) m.place p ∙ ap (option_map (frame_pins r)) (ap (λ (y : AddressSpacesView). get page_cmp y.place p) is ∙ h))

module _ (tasks : Map ℕ Task) (m : Mapping) (r : Mappers) (p : Page) (f n : ℕ) (h : IsTied tasks m r) (placed : get page_cmp m.place p ≡ Some f) where
  in_pins : f < length r.pins
  in_pins = omega (arith, h.in_range p f placed, h.as_many)

  -- they stay tied
  pub pins_tied : IsTied tasks m (with_pin_count r f n)
  pins_tied = record {
    pids = h.pids;
    tables = h.tables;
    places = h.places;
    mappers = h.mappers;
    shows = h.shows;
    apart = h.apart;
    pinned = λ g k. get_or-set_other r.pins f g n 0 (λ e. k p (placed ∙ ap Some (sym e))) ∙ h.pinned g k;
    in_range = h.in_range;
    as_many = length-set r.pins f n ∙ h.as_many;
    settled = h.settled;
  }

  pins_replaced : pins_in (with_pin_count r f n) m.place ≡ replace page_cmp (pins_in r m.place) p n
  pins_replaced =
      let F : Page → ℕ → ℕ = λ q g. frame_pins (with_pin_count r f n) g in
      let G : Page → ℕ → ℕ = λ q g. frame_pins r g in
      ap (with_values F) (sym (set_same page_cmp_total exact_page m.place p f h.places placed))
      ∙ with_values-set exact_page F m.place p f
      ∙ ap (set page_cmp (with_values F m.place) p) (get_or-set_same r.pins f n 0 in_pins)
      ∙ set_agree page_cmp_total exact_page F G m.place p n h.places
      (λ q g found apart. get_or-set_other r.pins f g n 0 (λ e. both_ways _ apart (ap is_eq (ap (λ s. page_cmp s p) (h.apart q p f (found ∙ ap Some e) placed) ∙ tied_itself page_cmp_total p))))
      ∙ sym (replace_is_set page_cmp_total exact_page (with_values G m.place) p n (subst (IsStrictlySortedBy page_cmp) (sym (keys-values G m.place)) h.places)
      (subst IsSome (sym (get-values exact_page G m.place p ∙ ap (option_map (frame_pins r)) placed)) refl))

  pub pins_shows : spaces_view tasks m (with_pin_count r f n) ≡ with_pins_of (spaces_view tasks m r) p n
  pins_shows = ap (λ pins. record (spaces_view tasks m r) { pins = pins }) pins_replaced
