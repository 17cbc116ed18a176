-- The bytes of a store's frames that are in memory.
use Rattle.std.proofs.Common.{◌≡◌, ◌≢◌, ℕ, zero, suc, ◌<◌, List, [], ◌∷◌, Bool, true, false, length, map, min, replicate, refl, sym, ap, subst, ◌∙◌, arith, length-set, IsSome, ⊎_elim}
use Rattle.std.specs.Prelude.{Option, Some, None, option_map, slice_index, slice_index_or, slice_set}
use Rattle.std.specs.Option.{unwrap_or}
use Rattle.std.specs.List.{zip}
use Rattle.std.proofs.lemmas.Bool.{cases_eq, cases_Bool}
use Rattle.std.proofs.lemmas.List.{get_or-set_same, length-map, set-get_or}
use Rattle.std.proofs.lemmas.Slice.Zip.{length-zip}
use Rattle.nm_pool.specs.views.Populated.{IsPopulated}
use Rattle.nm_frames.specs.Stores.{StoreView, HasBuffer}
use Rattle.nm_model.specs.definitions.Frames.{Store, IsHome, IsOut, bytes_of}
use Rattle.nm_pool.specs.views.Frames.{KeepsBytes, bytes_in_memory, in_memory}

abbrev at : Store → ℕ → Option (List ℕ)
at store f = slice_index_or store f None

abbrev has : List Bool → ℕ → Bool
has buffers f = slice_index_or buffers f false

-- no bytes, of a frame that is home
abbrev empty : Option (List ℕ) → Option (List ℕ)
empty o = option_map (λ _. []) o

abbrev both : Store → List Bool → Store
both bytes buffers = map bytes_in_memory (zip bytes buffers)

-- ---- one frame, by its place in both lists

held : (bytes : Store) (buffers : List Bool) (f : ℕ) → has buffers f ≡ true → at (both bytes buffers) f ≡ at bytes f
held [] buffers f has_it = refl
held (x ∷ bytes) [] f has_it = absurd (cc)
held (x ∷ bytes) (b ∷ buffers) zero has_it = ap (λ c. bytes_in_memory (x, c)) has_it
held (x ∷ bytes) (b ∷ buffers) (suc f) has_it = held bytes buffers f has_it

unused : (bytes : Store) (buffers : List Bool) (f : ℕ) → f < length (both bytes buffers) → has buffers f ≡ false → at (both bytes buffers) f ≡ empty (at bytes f)
unused [] buffers f inside lacks = refl
unused (x ∷ bytes) [] f inside lacks = absurd (omega (arith, inside))
unused (x ∷ bytes) (b ∷ buffers) zero inside lacks = ap (λ c. bytes_in_memory (x, c)) lacks
unused (x ∷ bytes) (b ∷ buffers) (suc f) inside lacks = unused bytes buffers f (omega (arith, inside)) lacks

none_has : (o : Option (List ℕ)) → length (unwrap_or (empty o) []) ≡ 0
none_has None = refl
none_has (Some b) = refl

populated_has : (bytes : Store) (buffers : List Bool) (f : ℕ) → IsPopulated (both bytes buffers) f → has buffers f ≡ true
populated_has [] buffers f whole = absurd (omega (arith, whole))
populated_has (x ∷ bytes) [] f whole = absurd (omega (arith, whole))
populated_has (x ∷ bytes) (true ∷ buffers) zero whole = refl
populated_has (x ∷ bytes) (false ∷ buffers) zero whole = absurd (let none = none_has x in omega (arith, whole, none))
populated_has (x ∷ bytes) (b ∷ buffers) (suc f) whole = populated_has bytes buffers f whole

set_held : (bytes : Store) (buffers : List Bool) (f : ℕ) (now : Option (List ℕ)) → has buffers f ≡ true → both (slice_set bytes f now) buffers ≡ slice_set (both bytes buffers) f now
set_held [] buffers f now has_it = refl
set_held (x ∷ bytes) [] f now has_it = absurd (cc)
set_held (x ∷ bytes) (b ∷ buffers) zero now has_it = ap (λ c. bytes_in_memory (now, c) ∷ both bytes buffers) has_it
set_held (x ∷ bytes) (b ∷ buffers) (suc f) now has_it = ap (λ (rest : Store). bytes_in_memory (x, b) ∷ rest) (set_held bytes buffers f now has_it)

fill_other : (bytes : Store) (buffers : List Bool) (f q : ℕ) → q ≢ f → at (both bytes (slice_set buffers f true)) q ≡ at (both bytes buffers) q
fill_other [] buffers f q apart = refl
fill_other (x ∷ bytes) [] f q apart = refl
fill_other (x ∷ bytes) (b ∷ buffers) zero zero apart = absurd (apart refl)
fill_other (x ∷ bytes) (b ∷ buffers) zero (suc q) apart = refl
fill_other (x ∷ bytes) (b ∷ buffers) (suc f) zero apart = refl
fill_other (x ∷ bytes) (b ∷ buffers) (suc f) (suc q) apart = fill_other bytes buffers f q (λ e. apart (ap suc e))

many : (bytes : Store) (buffers : List Bool) → length (both bytes buffers) ≡ min (length bytes) (length buffers)
many bytes buffers = length-map (zip bytes buffers) bytes_in_memory ∙ length-zip bytes buffers

some_of : (o : Option (List ℕ)) → IsSome (empty o) → IsSome o
some_of None h = h
some_of (Some b) h = refl

none_of : (o : Option (List ℕ)) → empty o ≡ None → o ≡ None
none_of None e = refl
none_of (Some b) e = absurd (cc)

zero_in : (o : Option (List ℕ)) (i : ℕ) → slice_index (unwrap_or (empty o) []) i ≡ 0
zero_in None i = refl
zero_in (Some b) i = refl

-- ---- a store

-- a frame gets its buffer
abbrev pub filled : StoreView → ℕ → StoreView
filled s f = record s { buffers = slice_set s.buffers f true }

module _ (s : StoreView) (f : ℕ) where
  pub has_buffer : IsPopulated (in_memory s) f → HasBuffer s f
  has_buffer whole = populated_has s.bytes s.buffers f whole

  pub same_bytes : HasBuffer s f → bytes_of (in_memory s) f ≡ bytes_of s.bytes f
  same_bytes has_it = ap (λ (o : Option (List ℕ)). unwrap_or o []) (held s.bytes s.buffers f has_it)

  pub populated_if : HasBuffer s f → length (bytes_of s.bytes f) ≡ 4096 → IsPopulated (in_memory s) f
  populated_if has_it whole = ap (λ (bytes : List ℕ). length bytes) (same_bytes has_it) ∙ whole

  pub home : IsHome (in_memory s) f → IsHome s.bytes f
  home h = record {
    in_range = omega (arith, h.in_range, many s.bytes s.buffers);
    here = ⊎_elim
        (λ has_it. subst (λ (o : Option (List ℕ)). IsSome o) (held s.bytes s.buffers f has_it) h.here)
        (λ lacks. some_of (at s.bytes f) (subst (λ (o : Option (List ℕ)). IsSome o) (unused s.bytes s.buffers f h.in_range lacks) h.here))
        (cases_Bool (has s.buffers f));
  }

  pub out : IsOut (in_memory s) f → IsOut s.bytes f
  out h = record {
    in_range = omega (arith, h.in_range, many s.bytes s.buffers);
    taken = ⊎_elim
        (λ has_it. sym (held s.bytes s.buffers f has_it) ∙ h.taken)
        (λ lacks. none_of (at s.bytes f) (sym (unused s.bytes s.buffers f h.in_range lacks) ∙ h.taken))
        (cases_Bool (has s.buffers f));
  }

  -- frames are those that both lists have
  pub inside_both : (n : ℕ) → n ≡ length s.bytes → n ≡ length s.buffers → f < n → f < length (in_memory s)
  inside_both n as_bytes as_buffers inside = omega (arith, many s.bytes s.buffers, as_bytes, as_buffers, inside)

  -- a byte of a frame that has no buffer is zero
  pub byte_same : (i x : ℕ) → IsHome (in_memory s) f → x ≡ slice_index (bytes_of s.bytes f) i → (has s.buffers f ≡ false → x ≡ 0) → x ≡ slice_index (bytes_of (in_memory s) f) i
  byte_same i x h is zero_if =
      ⊎_elim
      (λ has_it. is ∙ ap (λ (bytes : List ℕ). slice_index bytes i) (sym (same_bytes has_it)))
      (λ lacks. zero_if lacks ∙ sym (ap (λ (o : Option (List ℕ)). slice_index (unwrap_or o []) i) (unused s.bytes s.buffers f h.in_range lacks) ∙ zero_in (at s.bytes f) i))
      (cases_Bool (has s.buffers f))

  -- a frame that has its buffer gets other bytes, or none
  pub bytes_set : (t : StoreView) (now : Option (List ℕ)) → HasBuffer s f → t ≡ record s { bytes = slice_set s.bytes f now } → in_memory t ≡ slice_set (in_memory s) f now
  bytes_set t now has_it is = ap in_memory is ∙ set_held s.bytes s.buffers f now has_it

  pub bytes_changed : (t : StoreView) (change : List ℕ → List ℕ) → HasBuffer s f → t ≡ record s { bytes = slice_set s.bytes f (Some (change (bytes_of s.bytes f))) }
      → in_memory t ≡ slice_set (in_memory s) f (Some (change (bytes_of (in_memory s) f)))
  bytes_changed t change has_it is = bytes_set t (Some (change (bytes_of s.bytes f))) has_it is ∙ ap (λ (b : List ℕ). slice_set (in_memory s) f (Some (change b))) (sym (same_bytes has_it))

  fill_here : f < length s.buffers → at (in_memory (filled s f)) f ≡ at s.bytes f
  fill_here inside = held s.bytes (filled s f).buffers f (get_or-set_same s.buffers f true false inside)

  fill_many : length (in_memory (filled s f)) ≡ length (in_memory s)
  fill_many = many s.bytes (filled s f).buffers ∙ ap (min (length s.bytes)) (length-set s.buffers f true) ∙ sym (many s.bytes s.buffers)

  fill_bytes : (q : ℕ) → IsPopulated (in_memory s) q → bytes_of (in_memory (filled s f)) q ≡ bytes_of (in_memory s) q
  fill_bytes q whole =
      ⊎_elim
      (λ same. let has_it : has s.buffers f ≡ true = subst (λ k. has s.buffers k ≡ true) same (populated_has s.bytes s.buffers q whole) in
      ap (λ (buffers : List Bool). bytes_of (both s.bytes buffers) q) (ap (slice_set s.buffers f) (sym has_it) ∙ set-get_or s.buffers f false))
      (λ apart. ap (λ (o : Option (List ℕ)). unwrap_or o []) (fill_other s.bytes s.buffers f q apart))
      (cases_eq q f)

  pub fill_populated : (t : StoreView) → IsHome (in_memory s) f → length (bytes_of s.bytes f) ≡ 4096 → t ≡ filled s f → IsPopulated (in_memory t) f
  fill_populated t h whole is =
      let inside : f < length s.buffers = omega (arith, h.in_range, many s.bytes s.buffers) in
      ap (λ (v : StoreView). length (bytes_of (in_memory v) f)) is ∙ ap (λ (o : Option (List ℕ)). length (unwrap_or o [])) (fill_here inside) ∙ whole

-- what is home stays so where a frame gets its buffer
fill_stays : (s : StoreView) (f q : ℕ) → IsHome (in_memory s) q → IsHome (in_memory (filled s f)) q
fill_stays s f q h = record {
  in_range = omega (arith, h.in_range, fill_many s f);
  here = ⊎_elim
      (λ same. let inside : f < length s.buffers = subst (λ k. k < length s.buffers) same (omega (arith, h.in_range, many s.bytes s.buffers)) in
      subst (λ k. IsSome (at (in_memory (filled s f)) k)) (sym same)
      (subst (λ (o : Option (List ℕ)). IsSome o) (sym (fill_here s f inside)) (subst (λ k. IsSome (at s.bytes k)) same (home s q h).here)))
      (λ apart. subst (λ (o : Option (List ℕ)). IsSome o) (sym (fill_other s.bytes s.buffers f q apart)) h.here)
      (cases_eq q f);
}

pub fill_keeps : (s t : StoreView) (f : ℕ) → t ≡ filled s f → KeepsBytes (in_memory s) (in_memory t)
fill_keeps s t f is = subst (λ (v : StoreView). KeepsBytes (in_memory s) (in_memory v)) (sym is) (record { as_many = fill_many s f; home = fill_stays s f; bytes = fill_bytes s f })

-- frames without their buffers
pub new_frames : (n : ℕ) (b : List ℕ) → both (replicate n (Some b)) (replicate n false) ≡ replicate n (Some [])
new_frames zero b = refl
new_frames (suc n) b = ap (λ (rest : Store). Some [] ∷ rest) (new_frames n b)
