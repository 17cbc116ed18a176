-- The bytes that a process has in one page.
use Rattle.std.proofs.Common.{◌≡◌, ℕ, zero, suc, ◌+◌, ◌*◌, ◌/◌, ◌%◌, ◌<◌, ◌≤◌, List, ◌∷◌, refl, sym, ap, subst, ◌∙◌, arith}
use Rattle.std.specs.Prelude.{Option, Some, None, IsSome, slice_index, replicate}
use Rattle.std.specs.Option.{unwrap_or, option_map}
use Rattle.std.proofs.lemmas.Nat.{div-mul-add, mod-mul-add}
use Rattle.nm_types.specs.declared.page.Page.{Page}
use Rattle.nm_types.specs.declared.sight.Sight.TheVariants.{ZeroPage}
use Rattle.nm_types.specs.Map.{get, page_cmp}
use Rattle.nm_types.specs.State.{State, page_at}
use Rattle.nm_model.specs.definitions.Seen.{sight_at}
use Rattle.nm_model.specs.definitions.Memory.{byte_of, mem, mem_range, stretch_of}
use Rattle.nm_model.specs.definitions.Sound.{IsSoundInFlight}
use Rattle.nm_laws.proofs.Seen.Frames.{zero_sees}

module _ (s : State) (pid v : ℕ) (p : Page) (at : page_at s.areas pid v ≡ Some p) where
  mem_here : (i : ℕ) → i < 4096 → mem s pid (v * 4096 + i) ≡ Some (byte_of s p (get page_cmp s.place p) i)
  mem_here i lt =
      let d = div-mul-add v 4096 i lt in
      let r = mod-mul-add v 4096 i lt in
      (λ j. option_map (λ q. byte_of s q (get page_cmp s.place q) (r j)) (page_at s.areas pid (d j)))
      ∙ ap (option_map (λ q. byte_of s q (get page_cmp s.place q) i)) at

  -- those that its frame has
  pub range_here : (bytes : List ℕ) → ((i : ℕ) → byte_of s p (get page_cmp s.place p) i ≡ slice_index bytes i) → (i len : ℕ) → i + len ≤ 4096 → mem_range s pid (v * 4096 + i) len ≡ stretch_of bytes i len
  range_here bytes same i zero fits = refl
  range_here bytes same i (suc len) fits =
      let next : v * 4096 + i + 1 ≡ v * 4096 + (i + 1) = omega arith in
      ap (λ o. unwrap_or o 0 ∷ mem_range s pid (v * 4096 + i + 1) len) (mem_here i (omega (arith, fits)))
      ∙ ap (λ b. b ∷ mem_range s pid (v * 4096 + i + 1) len) (same i)
      ∙ ap (λ a. slice_index bytes i ∷ mem_range s pid a len) next
      ∙ ap (λ xs. slice_index bytes i ∷ xs) (range_here bytes same (i + 1) len (omega (arith, fits)))

  -- zeros where it has no frame
  pub zeros_here : get page_cmp s.place p ≡ None → (i len : ℕ) → i + len ≤ 4096 → mem_range s pid (v * 4096 + i) len ≡ replicate len 0
  zeros_here unplaced i zero fits = refl
  zeros_here unplaced i (suc len) fits =
      let next : v * 4096 + i + 1 ≡ v * 4096 + (i + 1) = omega arith in
      ap (λ o. unwrap_or o 0 ∷ mem_range s pid (v * 4096 + i + 1) len) (mem_here i (omega (arith, fits)))
      ∙ ap (λ o. byte_of s p o i ∷ mem_range s pid (v * 4096 + i + 1) len) unplaced
      ∙ ap (λ a. 0 ∷ mem_range s pid a len) next
      ∙ ap (λ xs. 0 ∷ xs) (zeros_here unplaced (i + 1) len (omega (arith, fits)))

pub parted : (address : ℕ) → address ≡ address / 4096 * 4096 + address % 4096
parted address = omega arith

-- where the page of zeros is seen, the page that is shown has no frame
pub zero_has_none : (s : State) (l : List ℕ) (pid v : ℕ) → IsSoundInFlight s l → sight_at s pid v ≡ Some ZeroPage → (p : Page) × (page_at s.areas pid v ≡ Some p) × (get page_cmp s.place p ≡ None)
zero_has_none s l pid v h e =
    let zero = h.zeros pid v e in (
      zero.0,
      zero.1,
      elim (get page_cmp s.place zero.0) as (λ o. get page_cmp s.place zero.0 ≡ o → o ≡ None) [
        | None ↦ λ k. refl
        | Some frame ↦ λ k.
            let seen = h.seen zero.0 (subst (λ (o : Option ℕ). IsSome o) (sym k) refl) zero.2 in
            let there = h.shown seen.0 seen.1 zero.0 seen.2 in
            let same = h.once seen.0 seen.1 pid v zero.0 there.0 zero.1 zero.2 in
            absurd (zero_sees e zero.0 ((λ j. sight_at s (sym same.0 j) (sym same.1 j)) ∙ seen.2))
      ] refl,
    )
