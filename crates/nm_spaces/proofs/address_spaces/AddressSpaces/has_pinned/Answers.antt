use Rattle.std.proofs.Common.{◌≡◌, ℕ, ◌<◌, List, true, false, refl, sym, ap, subst, ◌∙◌}
use Rattle.std.specs.Prelude.{slice_index_or}
use Rattle.nm_model.specs.definitions.Effect.{shows_pinned}
use Rattle.nm_spaces.proofs.Boxed.{seen}
use Rattle.nm_spaces.proofs.Spaces.PinnedPages.{none_pinned, none_at_all, one_there}
use Rattle.nm_spaces.proofs.address_spaces.AddressSpaces.has_pinned.Goals as goal

pub returns-then-not-has_pins : goal.returns-then-not-has_pins
returns-then-not-has_pins g c =
    let x = c.deref-parts.result.now in
    sym (none_pinned c.args.self.now x.tasks x.areas x.rmap (seen c.deref-parts.ensures c.self.view_is) c.args.pid c.args.first c.args.end (sym c.has_pins.ensures ∙ c.if-not-has_pins.true))

pub returns : goal.returns
returns g c =
    let x = c.deref-parts.result.now in
    let y = c.args.self.now in
    let counts = c.pin_counts.ensures in
    elim c.shows_counted.result as (λ b. c.shows_counted.result ≡ b → b ≡ shows_pinned y.areas y.pins c.args.pid c.args.first c.args.end) [
      | true ↦ λ e.
          let there = c.shows_counted.ensures.shown e in
          sym (one_there y x.tasks x.areas x.rmap (seen c.deref-parts.ensures c.self.view_is) c.args.pid c.args.first c.args.end there.0 there.1 there.2 there.3 there.4 there.5 there.6
          (subst (λ (ps : List ℕ). 0 < slice_index_or ps there.2 0) counts there.7))
      | false ↦ λ e.
          sym (none_at_all y x.tasks x.areas x.rmap (seen c.deref-parts.ensures c.self.view_is) c.args.pid c.args.first c.args.end c.shows_counted.ensures.kept.apart
          (λ v p f low high there placed. sym (ap (λ (ps : List ℕ). slice_index_or ps f 0) counts) ∙ c.shows_counted.ensures.none e v p f low high there placed))
    ] refl
