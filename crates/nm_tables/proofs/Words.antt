-- The rest of a word of marks, and where it has none.
use Rattle.std.proofs.Common.{◌≡◌, ℕ, ◌+◌, ◌-◌, ◌/◌, ◌%◌, ◌^◌, ◌<◌, ◌≤◌, false, List, sym, ap, ◌∙◌, arith, bit_or}
use Rattle.std.specs.Prelude.{None, ◌==◌, slice_index_or, max}
use Rattle.std.specs.Int.{bit_at}
use Rattle.std.proofs.lemmas.Nat.{div-add-mod', mod_below}
use Rattle.std.proofs.lemmas.Nat.Bits.{bit_at_cat_high, bit_at_or}
use Rattle.nm_tables.specs.views.Marks.{is_marked}
use Rattle.nm_tables.specs.views.Leaves.{stands_at, leaf_entry}
use Rattle.nm_tables.specs.declared.places.Places.{Places}

shifted : (w k j : ℕ) → 0 < 2 ^ k → bit_at (w / 2 ^ k) j ≡ bit_at w (k + j)
shifted w k j positive =
    let back : (k + j) - k ≡ j = omega arith in
    sym (ap (λ n. bit_at n (k + j)) (sym (div-add-mod' w (2 ^ k))) ∙ bit_at_cat_high (w / 2 ^ k) k (w % 2 ^ k) (k + j) (mod_below w (2 ^ k) positive) (omega arith)
    ∙ ap (bit_at (w / 2 ^ k)) back)

pub rest_marked : (words : List ℕ) (place j : ℕ) → 0 < 2 ^ (place % 64) → place % 64 + j < 64
    → is_marked words (place + j) ≡ (bit_at (slice_index_or words (place / 64) 0 / 2 ^ (place % 64)) j == 1)
rest_marked words place j positive fits =
    let word : (place + j) / 64 ≡ place / 64 = omega (arith, fits) in
    let bit : (place + j) % 64 ≡ place % 64 + j = omega (arith, fits) in
    ap (λ n. bit_at (slice_index_or words n 0) ((place + j) % 64) == 1) word
    ∙ ap (λ n. bit_at (slice_index_or words (place / 64) 0) n == 1) bit
    ∙ ap (λ n. n == 1) (sym (shifted (slice_index_or words (place / 64) 0) (place % 64) j positive))

-- a place without either mark is absent
pub absent_by : (p : Places) (place a b : ℕ) → ((j : ℕ) → place % 64 + j < 64 → is_marked p.named.words (place + j) ≡ (bit_at a j == 1))
    → ((j : ℕ) → place % 64 + j < 64 → is_marked p.marked.words (place + j) ≡ (bit_at b j == 1))
    → (i : ℕ) → place ≤ i → i < place + (64 - place % 64) → bit_at (bit_or a b) (i - place) ≡ 0 → stands_at p i ≡ None
absent_by p place a b named marked i low high none =
    let j = i - place in
    let back : place + (i - place) ≡ i = omega (arith, low) in
    let fits : place % 64 + (i - place) < 64 = omega (arith, low, high) in
    let both : max (bit_at a (i - place)) (bit_at b (i - place)) ≡ 0 = sym (bit_at_or a b (i - place)) ∙ none in
    let no_a : bit_at a (i - place) ≡ 0 = omega (arith, both) in
    let no_b : bit_at b (i - place) ≡ 0 = omega (arith, both) in
    let first : is_marked p.named.words i ≡ false = ap (is_marked p.named.words) (sym back) ∙ named (i - place) fits ∙ ap (λ n. n == 1) no_a in
    let second : is_marked p.marked.words i ≡ false = ap (is_marked p.marked.words) (sym back) ∙ marked (i - place) fits ∙ ap (λ n. n == 1) no_b in
    ap (λ m. leaf_entry m (is_marked p.marked.words i) (slice_index_or p.frames i 0)) first ∙ ap (λ m. leaf_entry false m (slice_index_or p.frames i 0)) second
