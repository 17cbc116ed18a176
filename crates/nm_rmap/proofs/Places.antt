-- What both lists have at the place of one frame, as it is read and written.
use Rattle.std.proofs.Common.{◌≡◌, ℕ, ◌<◌, ◌+◌, cond, List, length, get_or, [], sym, ap, subst, ◌∙◌, arith}
use Rattle.std.proofs.Math.ListN.{set, length-set}
use Rattle.std.specs.Prelude.{nat_lt, false}
use Rattle.std.proofs.lemmas.Bool.{lt-ltb}
use Rattle.std.proofs.lemmas.List.{get_or_default, set-get_or}
use Rattle.std.proofs.lemmas.List.Sums.{sum_by-set, count_by-le-length}
use Rattle.nm_rmap.specs.Mappers.{Mappers, Mapper, is_mapper, mappers_of, with_mappers, frame_pins, with_pin_count, pinned_count}

abbrev pub both : List (List Mapper) → List ℕ → Mappers
both mappings pins = record { mappings = mappings; pins = pins }

module _ (mappings : List (List Mapper)) (pins : List ℕ) (m : Mappers) (is : both mappings pins ≡ m) (frame i : ℕ) (at : i ≡ frame) (frame_in : frame < length m.mappings) where
  pub mappings_in : i < length mappings
  mappings_in = omega (arith, ap (λ (n : Mappers). length n.mappings) is)

  pub pins_in : length pins ≡ length mappings → i < length pins
  pins_in as_many = omega (arith, mappings_in)

  -- ---- pins

  module _ (as_many : length pins ≡ length mappings) (now : ℕ) (value : now ≡ get_or pins i now) where
    pub reads_pins : frame_pins m frame ≡ now
    reads_pins =
        ap (λ (n : Mappers). frame_pins n frame) (sym is) ∙ ap (λ (k : ℕ). get_or pins k 0) (sym at) ∙ get_or_default pins i 0 now (pins_in as_many) ∙ sym value

    pub same_pins : both mappings (set pins i now) ≡ m
    same_pins = ap (λ (k : ℕ). both mappings (set pins i k)) value ∙ ap (both mappings) (set-get_or pins i now) ∙ is

    -- where the new number of pins is stated by the old one
    pub writes_pins : (f : ℕ → ℕ) → both mappings (set pins i (f now)) ≡ with_pin_count m frame (f (frame_pins m frame))
    writes_pins f =
        ap (λ (k : ℕ). both mappings (set pins k (f now))) at ∙ ap (λ (n : Mappers). with_pin_count n frame (f now)) is ∙ ap (λ (k : ℕ). with_pin_count m frame (f k)) (sym reads_pins)

  -- ---- mappers

  module _ (now : List Mapper) (value : now ≡ get_or mappings i now) where
    pub reads_mappers : mappers_of m frame ≡ now
    reads_mappers =
        ap (λ (n : Mappers). mappers_of n frame) (sym is) ∙ ap (λ (k : ℕ). get_or mappings k []) (sym at) ∙ get_or_default mappings i [] now mappings_in ∙ sym value

    pub no_mapper : (spot : Mapper) → is_mapper now spot ≡ false → is_mapper (mappers_of m frame) spot ≡ false
    no_mapper spot none = ap (λ (ss : List Mapper). is_mapper ss spot) reads_mappers ∙ none

    pub same_mappers : (new : List Mapper) → new ≡ now → both (set mappings i new) pins ≡ m
    same_mappers new e = ap (λ (ss : List Mapper). both (set mappings i ss) pins) (e ∙ value) ∙ ap (λ (ss : List (List Mapper)). both ss pins) (set-get_or mappings i now) ∙ is

    pub writes_mappers : (new : List Mapper) (f : List Mapper → List Mapper) → new ≡ f now → both (set mappings i new) pins ≡ with_mappers m frame (f (mappers_of m frame))
    writes_mappers new f e =
        ap (λ (k : ℕ). both (set mappings k new) pins) at ∙ ap (λ (n : Mappers). with_mappers n frame new) is ∙ ap (with_mappers m frame) (e ∙ ap f (sym reads_mappers))

-- ---- how many frames are pinned

-- what a number of pins counts for
abbrev weight : ℕ → ℕ
weight n = cond (nat_lt 0 n) 1 0

pinned_weight : (n : ℕ) → 0 < n → weight n ≡ 1
pinned_weight n h = ap (λ b. cond b 1 0) (lt-ltb 0 n h)

module _ (pins : List ℕ) (i now : ℕ) (i_in : i < length pins) (value : now ≡ get_or pins i now) where
  counted : (k : ℕ) → pinned_count (set pins i k) + weight now ≡ pinned_count pins + weight k
  counted k = ap (λ (n : ℕ). pinned_count (set pins i k) + weight n) value ∙ sum_by-set weight pins i k now i_in

  -- a first pin, a last one and one among others
  pub first_pin : (k : ℕ) → now ≡ 0 → 0 < k → pinned_count (set pins i k) ≡ pinned_count pins + 1
  first_pin k e h = omega (arith, counted k, ap weight e, pinned_weight k h)

  pub last_pin : (k : ℕ) → 0 < now → k ≡ 0 → pinned_count (set pins i k) + 1 ≡ pinned_count pins
  last_pin k h e = omega (arith, counted k, pinned_weight now h, ap weight e)

  pub other_pin : (k : ℕ) → 0 < now → 0 < k → pinned_count (set pins i k) ≡ pinned_count pins
  other_pin k h l = omega (arith, counted k, pinned_weight now h, pinned_weight k l)

  pub same_count : pinned_count (set pins i now) ≡ pinned_count pins
  same_count = omega (arith, counted now)

  -- so one more fits
  pub few_pinned : now ≡ 0 → pinned_count pins < length pins
  few_pinned e = omega (arith, first_pin 1 e (omega arith), count_by-le-length (nat_lt 0) (set pins i 1), length-set pins i 1)

-- ---- pins that were read, and written back as they were

module _ (mappings : List (List Mapper)) (pins : List ℕ) (m : Mappers) (is : both mappings pins ≡ m) (frame i : ℕ) (at : i ≡ frame) (frame_in : frame < length m.mappings)
    (as_many : length pins ≡ length mappings) where
  pub pins_of : (len : ℕ) → len ≡ length pins → i < len
  pins_of len told = subst (λ (n : ℕ). i < n) (sym told) (pins_in mappings pins m is frame i at frame_in as_many)

  pub as_before : (now count : ℕ) → now ≡ get_or pins i now → count ≡ pinned_count pins
      → (length (set pins i now) ≡ length mappings) × (count ≡ pinned_count (set pins i now))
  as_before now count value counts = (length-set pins i now ∙ as_many, counts ∙ sym (same_count pins i now (pins_in mappings pins m is frame i at frame_in as_many) value))
