-- The new machine is sound.
use Rattle.std.proofs.Common.{◌≡◌, ℕ, suc, zero, ◌+◌, ◌-◌, ◌≤◌, ◌<◌, List, [], ◌∷◌, true, false, cond, refl, sym, ap, ◌∙◌, arith, length, eq-eqb}
use Rattle.std.specs.Prelude.{nat_lt, ◌==◌, slice_index_or, sum, if◌then◌else◌}
use Rattle.std.specs.List.{AllByRecursion, sum_by}
use Rattle.std.specs.List.Sorted.{IsStrictlySortedBy}
use Rattle.std.specs.Ordering.{nat_cmp}
use Rattle.std.specs.declared.cmp.Ordering.{Ordering}
use Rattle.std.specs.declared.cmp.Ordering.TheVariants.{Less}
use Rattle.std.specs.Cmp.{nat_cmp_is}
use Rattle.std.proofs.lemmas.Bool.{lt-ltb, le-ltb, ltb-true, ltb-false, ne_eqb, eqb-true, eqb-false}
use Rattle.std.proofs.lemmas.List.Sums.{sum_by-cons}
use Rattle.nm_types.specs.Nodes.{up_from}
use Rattle.nm_types.specs.Map.{page_cmp, spot_cmp}
use Rattle.nm_types.specs.Layout.{Layout, node_count, owner}
use Rattle.nm_types.proofs.Cases.{none_some}
use Rattle.nm_model.specs.definitions.Frames.{all_frames}
use Rattle.nm_model.specs.definitions.Effect.{new_machine}
use Rattle.nm_model.specs.definitions.Sound.{times, FramesAreOnce, IsSound}
use Rattle.nm_laws.proofs.Soundness.Frames.{here, times_cons}
use Rattle.nm_laws.proofs.Soundness.Once.{places_are_apart}

not_here : (f a : ℕ) → (a ≡ f → ⊥) → here f a ≡ 0
not_here f a h = ap (λ b. cond b 1 0) (ne_eqb a f h)

just_here : (f a : ℕ) → a ≡ f → here f a ≡ 1
just_here f a h = ap (λ b. cond b 1 0) (eq-eqb a f h)

-- how often a number is among consecutive ones: not where they begin after it or end before it, and else once
times_below : (n a f : ℕ) → f < a → times f (up_from a n) ≡ 0
times_below zero a f h = refl
times_below (suc n) a f h =
    let more = times_below n (a + 1) f (omega arith) in
    let none = not_here f a (λ e. omega (arith, h, e)) in
    omega (arith, times_cons f a (up_from (a + 1) n), more, none)

times_above : (n a f : ℕ) → a + n ≤ f → times f (up_from a n) ≡ 0
times_above zero a f h = refl
times_above (suc n) a f h =
    let more = times_above n (a + 1) f (omega arith) in
    let none = not_here f a (λ e. omega (arith, h, e)) in
    omega (arith, times_cons f a (up_from (a + 1) n), more, none)

times_inside : (n a f : ℕ) → a ≤ f → f < a + n → times f (up_from a n) ≡ 1
times_inside zero a f low high = absurd (omega arith)
times_inside (suc n) a f low high =
    elim (a == f) as (λ b. (a == f) ≡ b → times f (up_from a (suc n)) ≡ 1) [
      | true ↦ λ b.
          let same : a ≡ f = eqb-true a f b in
          let more = times_below n (a + 1) f (omega (arith, same)) in
          omega (arith, times_cons f a (up_from (a + 1) n), more, just_here f a same)
      | false ↦ λ b.
          let other : a ≡ f → ⊥ = eqb-false a f b in
          let past : a + 1 ≤ f = omega (arith, low, other) in
          let more = times_inside n (a + 1) f past (omega (arith, high)) in
          omega (arith, times_cons f a (up_from (a + 1) n), more, not_here f a other)
    ] refl

sum_below : (sizes : List ℕ) (a f : ℕ) → f < a → sum_by (times f) (all_frames a sizes) ≡ 0
sum_below [] a f h = refl
sum_below (size ∷ sizes) a f h =
    let more = sum_below sizes (a + size) f (omega arith) in
    omega (arith, sum_by-cons (times f) (up_from a size) (all_frames (a + size) sizes), more, times_below size a f h)

whole : (size : ℕ) (sizes : List ℕ) → sum (size ∷ sizes) ≡ size + sum sizes
whole size sizes = sum_by-cons (λ x. x) size sizes

sum_above : (sizes : List ℕ) (a f : ℕ) → a + sum sizes ≤ f → sum_by (times f) (all_frames a sizes) ≡ 0
sum_above [] a f h = refl
sum_above (size ∷ sizes) a f h =
    let all = whole size sizes in
    let more = sum_above sizes (a + size) f (omega (arith, h, all)) in
    omega (arith, sum_by-cons (times f) (up_from a size) (all_frames (a + size) sizes), more, times_above size a f (omega (arith, h, all)))

sum_inside : (sizes : List ℕ) (a f : ℕ) → a ≤ f → f < a + sum sizes → sum_by (times f) (all_frames a sizes) ≡ 1
sum_inside [] a f low high = absurd (omega arith)
sum_inside (size ∷ sizes) a f low high =
    let all = whole size sizes in
    let both = sum_by-cons (times f) (up_from a size) (all_frames (a + size) sizes) in
    elim (nat_lt f (a + size)) as (λ b. nat_lt f (a + size) ≡ b → sum_by (times f) (all_frames a (size ∷ sizes)) ≡ 1) [
      | true ↦ λ b.
          let here : f < a + size = ltb-true f (a + size) b in
          omega (arith, both, times_inside size a f low here, sum_below sizes (a + size) f here)
      | false ↦ λ b.
          let past : a + size ≤ f = ltb-false f (a + size) b in
          omega (arith, both, times_above size a f past, sum_inside sizes (a + size) f past (omega (arith, high, all)))
    ] refl

as_many : (sizes : List ℕ) (a : ℕ) → length (all_frames a sizes) ≡ length sizes
as_many [] a = refl
as_many (size ∷ sizes) a = ap suc (as_many sizes (a + size))

pub up_all : (P : ℕ → Type 0) (n a : ℕ) → ((f : ℕ) → a ≤ f → f < a + n → P f) → AllByRecursion P (up_from a n)
up_all P zero a h = tt
up_all P (suc n) a h = (h a (omega arith) (omega arith), up_all P n (a + 1) (λ f low high. h f (omega (arith, low)) (omega (arith, high))))

all_then : (P Q : ℕ → Type 0) (xs : List ℕ) → ((x : ℕ) → P x → Q x) → AllByRecursion P xs → AllByRecursion Q xs
all_then P Q [] f h = tt
all_then P Q (x ∷ xs) f h = (f x h.0, all_then P Q xs f h.1)

-- a frame after those of the first node
past_first : (size : ℕ) (sizes : List ℕ) (f node : ℕ) → size ≤ f → owner sizes (f - size) ≡ node → owner (size ∷ sizes) f ≡ suc node
past_first size sizes f node h e = ap (λ b. if b then 0 else suc (owner sizes (f - size))) (le-ltb f size h) ∙ ap suc e

first_own : (size : ℕ) (sizes : List ℕ) (f : ℕ) → f < size → owner (size ∷ sizes) f ≡ 0
first_own size sizes f h = ap (λ b. if b then 0 else suc (owner sizes (f - size))) (lt-ltb f size h)

own_from : (sizes : List ℕ) (first node : ℕ) → AllByRecursion (λ f. (first ≤ f) × (owner sizes (f - first) ≡ node)) (slice_index_or (all_frames first sizes) node [])
own_from [] first node = tt
own_from (size ∷ sizes) first zero = up_all (λ f. (first ≤ f) × (owner (size ∷ sizes) (f - first) ≡ 0)) size first (λ f low high. (low, first_own size sizes (f - first) (omega (arith, low, high))))
own_from (size ∷ sizes) first (suc node) =
    all_then (λ f. (first + size ≤ f) × (owner sizes (f - (first + size)) ≡ node)) (λ f. (first ≤ f) × (owner (size ∷ sizes) (f - first) ≡ suc node)) (slice_index_or (all_frames (first + size) sizes) node [])
    (λ f h.
    let low = h.0 in
    let same : (f - first) - size ≡ f - (first + size) = omega (arith, low) in
    (omega (arith, low), past_first size sizes (f - first) node (omega (arith, low)) (ap (owner sizes) same ∙ h.1)))
    (own_from sizes (first + size) node)

no_keys : {K : Type 0} (R : K → K → Ordering) → IsStrictlySortedBy R []
unfolding IsStrictlySortedBy
no_keys R = tt

in_all : (f : ℕ) (g : Layout) → nat_lt f (sum g.sizes) ≡ true → f < 0 + sum g.sizes
in_all f g b = let h = ltb-true f (sum g.sizes) b in omega (arith, h)

out_of_all : (f : ℕ) (g : Layout) → nat_lt f (sum g.sizes) ≡ false → 0 + sum g.sizes ≤ f
out_of_all f g b = let h = ltb-false f (sum g.sizes) b in omega (arith, h)

pub new_frames : (g : Layout) → FramesAreOnce g [] (all_frames 0 g.sizes) []
new_frames g =
    record {
      lists = as_many g.sizes 0;
      once = λ f.
          elim (nat_lt f (sum g.sizes)) as (λ b. nat_lt f (sum g.sizes) ≡ b → 0 + sum_by (times f) (all_frames 0 g.sizes) + 0 ≡ cond b 1 0) [
            | true ↦ λ b. let one = sum_inside g.sizes 0 f (omega arith) (in_all f g b) in omega (arith, one)
            | false ↦ λ b. let none = sum_above g.sizes 0 f (out_of_all f g b) in omega (arith, none)
          ] refl;
      own = λ node. all_then (λ f. (0 ≤ f) × (owner g.sizes (f - 0) ≡ node)) (λ f. owner g.sizes f ≡ node) (slice_index_or (all_frames 0 g.sizes) node [])
          (λ f h. let same : f ≡ f - 0 = omega arith in ap (owner g.sizes) same ∙ h.1) (own_from g.sizes 0 node);
    }

-- consecutive numbers are in order
up_sorted : (n a : ℕ) → IsStrictlySortedBy nat_cmp (up_from a n)
unfolding IsStrictlySortedBy
up_sorted zero a = tt
up_sorted (suc n) a = (up_all (λ b. nat_cmp a b ≡ Less) n (a + 1) (λ b low high. sym (nat_cmp_is a b Less (omega (arith, low)))), up_sorted n (a + 1))

pub new_sound : (g : Layout) → IsSound (new_machine g)
new_sound g =
    record {
      order = record { processes = no_keys nat_cmp; sees = tt; areas = no_keys spot_cmp; segments = no_keys nat_cmp; place = no_keys page_cmp };
      apart = places_are_apart (new_frames g);
      frames = new_frames g;
      shown = λ q w p e. absurd (none_some e);
      zeros = λ q w e. absurd (none_some e);
      covered = λ p e. cc;
      bytes = record { same_pages = refl; whole = tt };
      pins = record { same_pages = refl; few = tt };
      seen = λ p e. cc;
      once = λ q w r x p e. absurd (none_some e);
      areas = tt;
      numbers = record { below = λ n e. cc; few = omega arith };
      disjoint = tt;
      online = record { upwards = up_sorted (node_count g) 0; below = up_all (λ node. node < node_count g) (node_count g) 0 (λ node low high. omega (arith, high)) };
      few = omega arith;
    }
