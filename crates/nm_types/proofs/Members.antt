-- The members of a mask, and of a set with one more.
use Rattle.std.proofs.Common.{◌≡◌, ℕ, zero, suc, ◌+◌, ◌*◌, ◌%◌, ◌^◌, ◌<◌, ◌≤◌, ◌≢◌, ◌||◌, Bool, true, false, List, [], ◌∷◌, refl, sym, ap, ◌∙◌, arith, eq-eqb, w64}
use Rattle.std.specs.Prelude.{◌==◌, if◌then◌else◌, bit_or}
use Rattle.std.specs.Int.{bit_at}
use Rattle.std.specs.Ordering.{nat_cmp, match_ordering}
use Rattle.std.specs.Cmp.{nat_cmp_is}
use Rattle.std.specs.BTreeSet.{insert_key}
use Rattle.std.specs.declared.cmp.Ordering.{Ordering}
use Rattle.std.specs.declared.cmp.Ordering.TheVariants.{Less, Equal, Greater}
use Rattle.std.proofs.lemmas.Bool.{ne_eqb, cases_order}
use Rattle.std.proofs.Common.{inl, inr}
use Rattle.std.proofs.lemmas.Nat.Bits.{bit_at_set_same, bit_at_set_other}
use Rattle.nm_types.specs.Nodes.{members_from, members, is_in}

pub less : (a b : ℕ) → a < b → nat_cmp a b ≡ Less
less a b h = sym (nat_cmp_is a b Less h)

equal : (a : ℕ) → nat_cmp a a ≡ Equal
equal a = sym (nat_cmp_is a a Equal refl)

greater : (a b : ℕ) → b < a → nat_cmp a b ≡ Greater
greater a b h = sym (nat_cmp_is a b Greater h)

pub or_again : (a b : Bool) → (a || b) ≡ (a || (a || b))
or_again true b = refl
or_again false b = refl

pub or_swap : (a b c : Bool) → (a || (b || c)) ≡ (b || (a || c))
or_swap true true c = refl
or_swap true false c = refl
or_swap false true c = refl
or_swap false false c = refl

-- a number is in a set with one more where it is that one, or was in it
pub is_in_insert : (ns : List ℕ) (j n : ℕ) → is_in (insert_key nat_cmp ns j) n ≡ ((j == n) || is_in ns n)
is_in_insert [] j n = refl
is_in_insert (m ∷ ns) j n =
    let with : Ordering → Bool = λ r. is_in (match_ordering r (j ∷ m ∷ ns) (m ∷ ns) (m ∷ insert_key nat_cmp ns j)) n in
    elim (cases_order j m) [
      | inl e ↦ ap with (sym (nat_cmp_is j m Equal e)) ∙ or_again (m == n) (is_in ns n) ∙ ap (λ i. (i == n) || ((m == n) || is_in ns n)) (sym e)
      | inr o ↦ elim o [
        | inl lt ↦ ap with (sym (nat_cmp_is j m Less lt))
        | inr gt ↦ ap with (sym (nat_cmp_is j m Greater gt)) ∙ ap (λ b. (m == n) || b) (is_in_insert ns j n) ∙ or_swap (m == n) (j == n) (is_in ns n)
      ]
    ]

-- a number that is not among the places
outside_first : (bits n k m : ℕ) → (n ≡ m → ⊥) → is_in (members_from bits (n + 1) k) m ≡ false → is_in (members_from bits n (suc k)) m ≡ false
outside_first bits n k m other rest =
    let here : (n == m) ≡ false = ne_eqb n m other in
    elim (bit_at bits n == 1) as (λ b. is_in (if b then n ∷ members_from bits (n + 1) k else members_from bits (n + 1) k) m ≡ false) [
      | true ↦ rw here rest
      | false ↦ rest
    ]

outside_below : (bits n k m : ℕ) → m < n → is_in (members_from bits n k) m ≡ false
outside_below bits n zero m h = refl
outside_below bits n (suc k) m h = outside_first bits n k m (λ e. omega (arith, e)) (outside_below bits (n + 1) k m (omega arith))

outside_above : (bits n k m : ℕ) → n + k ≤ m → is_in (members_from bits n k) m ≡ false
outside_above bits n zero m h = refl
outside_above bits n (suc k) m h = outside_first bits n k m (λ e. omega (arith, e)) (outside_above bits (n + 1) k m (omega arith))

-- a place is a member where its bit is set
inside : (bits n k m : ℕ) → n ≤ m → m < n + k → is_in (members_from bits n k) m ≡ (bit_at bits m == 1)
inside bits n zero m h j = absurd (omega arith)
inside bits n (suc k) m h j =
    elim (cases_order n m) [
      | inl e ↦ elim (bit_at bits n == 1) as (λ b. (bit_at bits n == 1) ≡ b → is_in (if b then n ∷ members_from bits (n + 1) k else members_from bits (n + 1) k) m ≡ (bit_at bits m == 1)) [
        | true ↦ λ is. rw (eq-eqb n m e) (sym is ∙ ap (λ x. bit_at bits x == 1) e)
        | false ↦ λ is. outside_below bits (n + 1) k m (omega (arith, e)) ∙ (sym is ∙ ap (λ x. bit_at bits x == 1) e)
      ] refl
      | inr o ↦ elim o [
        | inl lt ↦
            let rest : is_in (members_from bits (n + 1) k) m ≡ (bit_at bits m == 1) = inside bits (n + 1) k m (omega (arith, lt)) (omega arith) in
            let here : (n == m) ≡ false = ne_eqb n m (λ e. omega (arith, e, lt)) in
            elim (bit_at bits n == 1) as (λ b. is_in (if b then n ∷ members_from bits (n + 1) k else members_from bits (n + 1) k) m ≡ (bit_at bits m == 1)) [
              | true ↦ rw here rest
              | false ↦ rest
            ]
        | inr gt ↦ absurd (omega (arith, gt, h))
      ]
    ]

pub is_in-members : (bits m : ℕ) → m < 64 → is_in (members bits) m ≡ (bit_at bits m == 1)
unfolding members
is_in-members bits m h = inside bits 0 64 m (omega arith) (omega (arith, h))

pub is_in-members_above : (bits m : ℕ) → 64 ≤ m → is_in (members bits) m ≡ false
unfolding members
is_in-members_above bits m h = outside_above bits 0 64 m (omega (arith, h))

pub members-zero : members 0 ≡ []
unfolding members
members-zero = refl

-- a number below all places goes to the front
front : (bits n k j : ℕ) → j < n → insert_key nat_cmp (members_from bits n k) j ≡ j ∷ members_from bits n k
front bits n zero j h = refl
front bits n (suc k) j h =
    elim (bit_at bits n == 1) as (λ b. insert_key nat_cmp (if b then n ∷ members_from bits (n + 1) k else members_from bits (n + 1) k) j ≡ j ∷ (if b then n ∷ members_from bits (n + 1) k else members_from bits (n + 1) k)) [
      | true ↦ ap (λ r. match_ordering r (j ∷ n ∷ members_from bits (n + 1) k) (n ∷ members_from bits (n + 1) k) (n ∷ insert_key nat_cmp (members_from bits (n + 1) k) j)) (less j n h)
      | false ↦ front bits (n + 1) k j (omega (arith, h))
    ]

-- the same bits have the same members
same : (more bits n k : ℕ) → ((i : ℕ) → n ≤ i → bit_at more i ≡ bit_at bits i) → members_from more n k ≡ members_from bits n k
same more bits n zero h = refl
same more bits n (suc k) h =
    ap (λ x. if x == 1 then n ∷ members_from more (n + 1) k else members_from more (n + 1) k) (h n (omega arith))
    ∙ ap (λ rest. if bit_at bits n == 1 then n ∷ rest else rest) (same more bits (n + 1) k (λ i le. h i (omega (arith, le))))

-- one more bit is one more member
one_more : (more bits n k j : ℕ) → n ≤ j → j < n + k → bit_at more j ≡ 1 → ((i : ℕ) → i ≢ j → bit_at more i ≡ bit_at bits i) → members_from more n k ≡ insert_key nat_cmp (members_from bits n k) j
one_more more bits n zero j h l is others = absurd (omega arith)
one_more more bits n (suc k) j h l is others =
    elim (cases_order n j) [
      | inl e ↦
          let rest : members_from more (n + 1) k ≡ members_from bits (n + 1) k = same more bits (n + 1) k (λ i le. others i (λ x. omega (arith, x, e, le))) in
          let set : bit_at more n ≡ 1 = ap (λ x. bit_at more x) e ∙ is in
          ap (λ x. if x == 1 then n ∷ members_from more (n + 1) k else members_from more (n + 1) k) set ∙ ap (λ ms. n ∷ ms) rest
          ∙ elim (bit_at bits n == 1) as (λ b. n ∷ members_from bits (n + 1) k ≡ insert_key nat_cmp (if b then n ∷ members_from bits (n + 1) k else members_from bits (n + 1) k) j) [
            | true ↦ sym (ap (λ x. insert_key nat_cmp (n ∷ members_from bits (n + 1) k) x) (sym e) ∙ ap (λ r. match_ordering r (n ∷ n ∷ members_from bits (n + 1) k) (n ∷ members_from bits (n + 1) k) (n ∷ insert_key nat_cmp (members_from bits (n + 1) k) n)) (equal n))
            | false ↦ sym (ap (λ x. insert_key nat_cmp (members_from bits (n + 1) k) x) (sym e) ∙ front bits (n + 1) k n (omega arith))
          ]
      | inr o ↦ elim o [
        | inl lt ↦
            let rest : members_from more (n + 1) k ≡ insert_key nat_cmp (members_from bits (n + 1) k) j = one_more more bits (n + 1) k j (omega (arith, lt)) (omega (arith, l)) is others in
            let here : bit_at more n ≡ bit_at bits n = others n (λ x. omega (arith, x, lt)) in
            ap (λ x. if x == 1 then n ∷ members_from more (n + 1) k else members_from more (n + 1) k) here
            ∙ ap (λ ms. if bit_at bits n == 1 then n ∷ ms else ms) rest
            ∙ elim (bit_at bits n == 1) as (λ b. (if b then n ∷ insert_key nat_cmp (members_from bits (n + 1) k) j else insert_key nat_cmp (members_from bits (n + 1) k) j) ≡ insert_key nat_cmp (if b then n ∷ members_from bits (n + 1) k else members_from bits (n + 1) k) j) [
              | true ↦ sym (ap (λ r. match_ordering r (j ∷ n ∷ members_from bits (n + 1) k) (n ∷ members_from bits (n + 1) k) (n ∷ insert_key nat_cmp (members_from bits (n + 1) k) j)) (greater j n lt))
              | false ↦ refl
            ]
        | inr gt ↦ absurd (omega (arith, gt, h))
      ]
    ]

pub members-insert : (bits j : ℕ) → j < 64 → members (bit_or bits (1 * 2 ^ j % 2 ^ 64)) ≡ insert_key nat_cmp (members bits) j
unfolding members
members-insert bits j h = one_more (bit_or bits (1 * 2 ^ j % 2 ^ 64)) bits 0 64 j (omega arith) (omega (arith, h)) (bit_at_set_same w64 bits j h) (λ i ne. bit_at_set_other w64 bits j h i ne)
