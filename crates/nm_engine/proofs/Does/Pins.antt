-- What pins make of a machine's parts, and which are refused.
use Rattle.std.proofs.Common.{List, ◌≡◌, ℕ, ◌+◌, ◌-◌, ◌<◌, ◌≤◌, ◌/◌, Bool, false, sym, ap, subst, ◌∙◌, arith}
use Rattle.std.specs.Prelude.{Some, None, Result, Ok, Err, OnOk, OnErr, IfErr, nat_le, ◌==◌, if◌then◌else◌}
use Rattle.std.proofs.lemmas.Bool.{lt-leb, le-leb, ne_eqb, eq-eqb}
use Rattle.nm_types.specs.declared.page.Page.{Page}
use Rattle.nm_types.specs.declared.errno.Errno.{Errno}
use Rattle.nm_types.specs.declared.errno.Errno.TheVariants.{Esrch, Ebusy, Einval}
use Rattle.nm_types.specs.declared.sight.Sight.TheVariants.{Sees}
use Rattle.nm_types.specs.Map.{replace, page_cmp}
use Rattle.nm_types.specs.State.{State}
use Rattle.nm_model.specs.definitions.Seen.{sight_at, pins_of, page_seen}
use Rattle.nm_model.specs.definitions.Effect.{with_pins, pin, unpin}
use Rattle.nm_model.specs.definitions.Effect.{is_unknown, pins_refusal, pin_refusal, unpin_refusal}
use Rattle.nm_engine.specs.definitions.Does.{Alters}
use Rattle.nm_spaces.specs.views.AddressSpaces.{AddressSpacesView, with_pins_of}
use Rattle.nm_pool.specs.views.Frames.{FramesView}
use Rattle.nm_engine.specs.views.Shown.{shown_by}
use Rattle.nm_model.specs.definitions.Sound.{IsSoundInFlight}
use Rattle.nm_engine.specs.views.RunState.{IsSoundMachine}
use Rattle.nm_laws.proofs.Soundness.Called.{repinned_sound, few_pins}
use Rattle.nm_model.proofs.looks.{sees_page}

module _ (y z : AddressSpacesView) (k : FramesView) (online : List ℕ) (moved failed : ℕ) (page : Page) (n : ℕ) (kept : IsSoundMachine (shown_by y k online moved failed) k.vacated y.frames) where
  -- another number of pins, or none
  pub pinned_kept : (r : Result (Unit {0}) Errno) → OnOk r (n ≤ 65535) → OnOk r (z ≡ with_pins_of y page n) → OnErr r (z ≡ y) → IsSoundMachine (shown_by z k online moved failed) k.vacated z.frames
  pinned_kept (Ok done) most ok err =
      subst (λ (w : AddressSpacesView). IsSoundMachine (shown_by w k online moved failed) k.vacated w.frames) (sym ok)
      (record { sound = repinned_sound (shown_by y k online moved failed) k.vacated page n kept.sound most; as_many = kept.as_many })
  pinned_kept (Err e) most ok err = subst (λ (w : AddressSpacesView). IsSoundMachine (shown_by w k online moved failed) k.vacated w.frames) (sym err) kept

-- one pin fewer
pub one_fewer : (s : State) (l : List ℕ) (page : Page) → IsSoundInFlight s l → (r : Result (Unit {0}) Errno) → OnOk r (pins_of s page - 1 ≤ 65535)
one_fewer s l page sound (Ok done) = let few = few_pins s l page sound in omega (arith, few)
one_fewer s l page sound (Err e) = tt

-- one more pin
pub one_more : (n : ℕ) (r : Result (Unit {0}) Errno) → OnOk r (n < 65535) → OnOk r (n + 1 ≤ 65535)
one_more n (Ok done) room = omega (arith, room)
one_more n (Err e) room = tt

pub ok_then : {P Q : Type 0} (r : Result (Unit {0}) Errno) → (P → Q) → OnOk r P → OnOk r Q
ok_then (Ok done) f p = f p
ok_then (Err e) f p = tt

pub err_then : {P Q : Type 0} (r : Result (Unit {0}) Errno) → (P → Q) → OnErr r P → OnErr r Q
err_then (Ok done) f p = tt
err_then (Err e) f p = f p

-- a page that a process sees at an address, stated for the machine and shown by its parts
module _ (s now : State) (l : List ℕ) (is : s ≡ now) (pid address : ℕ) (page : Page) (sound : IsSoundInFlight s l) (known : is_unknown now pid ≡ false) (seen : sight_at now pid (address / 4096) ≡ Some (Sees page)) where
  seen_inside : sight_at s pid (address / 4096) ≡ Some (Sees page)
  seen_inside = subst (λ (t : State). sight_at t pid (address / 4096) ≡ Some (Sees page)) (sym is) seen

  refusal_there : (is_bad : ℕ → Bool) (bad : Errno) → (if is_unknown s pid then Some Esrch else pins_refusal s is_bad bad (page_seen s pid (address / 4096))) ≡ (if is_bad (pins_of s page) then Some bad else None)
  refusal_there is_bad bad =
      ap (λ b. if b then Some Esrch else pins_refusal s is_bad bad (page_seen s pid (address / 4096))) (subst (λ (t : State). is_unknown t pid ≡ false) (sym is) known)
      ∙ ap (pins_refusal s is_bad bad) (sees_page s l pid (address / 4096) page sound seen_inside)

  pin_inside : (t : State) (r : Result (Unit {0}) Errno) → OnOk r (pins_of s page < 65535) → OnOk r (t ≡ record s { pins = replace page_cmp s.pins page (pins_of s page + 1) })
      → IfErr r (λ e. (e ≡ Ebusy) × (65535 ≤ pins_of s page)) → OnErr r (t ≡ s) → Alters r s t (pin_refusal s pid address) (pin s pid address)
  pin_inside t (Ok done) some ok full err = (
    refusal_there (nat_le 65535) Ebusy ∙ ap (λ b. if b then Some Ebusy else None) (lt-leb 65535 (pins_of s page) some),
    ok ∙ sym (ap (λ o. with_pins s o (λ n. n + 1)) seen_inside),
  )
  pin_inside t (Err e) some ok full err = (
    refusal_there (nat_le 65535) Ebusy ∙ ap (λ b. if b then Some Ebusy else None) (le-leb 65535 (pins_of s page) full.1) ∙ ap Some (sym full.0),
    err,
  )

  unpin_inside : (t : State) (r : Result (Unit {0}) Errno) → OnOk r (0 < pins_of s page) → OnOk r (t ≡ record s { pins = replace page_cmp s.pins page (pins_of s page - 1) })
      → IfErr r (λ e. (e ≡ Einval) × (pins_of s page ≡ 0)) → OnErr r (t ≡ s) → Alters r s t (unpin_refusal s pid address) (unpin s pid address)
  unpin_inside t (Ok done) some ok none err = (
    refusal_there (λ n. n == 0) Einval ∙ ap (λ b. if b then Some Einval else None) (ne_eqb (pins_of s page) 0 (λ e. omega (arith, e, some))),
    ok ∙ sym (ap (λ o. with_pins s o (λ n. n - 1)) seen_inside),
  )
  unpin_inside t (Err e) some ok none err = (
    refusal_there (λ n. n == 0) Einval ∙ ap (λ b. if b then Some Einval else None) (eq-eqb (pins_of s page) 0 none.1) ∙ ap Some (sym none.0),
    err,
  )

  pub pin_alters : (t : State) (r : Result (Unit {0}) Errno) → OnOk r (pins_of s page < 65535) → OnOk r (t ≡ record s { pins = replace page_cmp s.pins page (pins_of s page + 1) })
      → IfErr r (λ e. (e ≡ Ebusy) × (65535 ≤ pins_of s page)) → OnErr r (t ≡ s) → Alters r now t (pin_refusal now pid address) (pin now pid address)
  pin_alters t r some ok full err = subst (λ s. Alters r s t (pin_refusal s pid address) (pin s pid address)) is (pin_inside t r some ok full err)

  pub unpin_alters : (t : State) (r : Result (Unit {0}) Errno) → OnOk r (0 < pins_of s page) → OnOk r (t ≡ record s { pins = replace page_cmp s.pins page (pins_of s page - 1) })
      → IfErr r (λ e. (e ≡ Einval) × (pins_of s page ≡ 0)) → OnErr r (t ≡ s) → Alters r now t (unpin_refusal now pid address) (unpin now pid address)
  unpin_alters t r some ok none err = subst (λ s. Alters r s t (unpin_refusal s pid address) (unpin s pid address)) is (unpin_inside t r some ok none err)
