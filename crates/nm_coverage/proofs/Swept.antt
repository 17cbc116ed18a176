-- A map whose values in a range of keys are changed in place.
use Rattle.std.proofs.Common.{◌≡◌, ℕ, ◌+◌, List, [], ◌∷◌, ◌++◌, length, map, Bool, true, false, cond, refl, sym, ap, subst, ◌∙◌, arith}
use Rattle.std.specs.Prelude.{Option, Some, None, zero, option_to_list, take, drop, MatchOption, MatchBool, suc}
use Rattle.std.specs.List.{AllByRecursion, filter}
use Rattle.std.specs.List.Retain.{ExtractsNext}
use Rattle.std.specs.Map.{keys_of}
use Rattle.std.proofs.lemmas.List.{append_cancel_left, append_cancel_right, take-append-drop}
use Rattle.std.proofs.lemmas.List.Elements.{filter-append}
use Rattle.nm_types.specs.Map.{Map, with_values}
use denote.Ref.{Bor, MutBor}
use denote.Param.Members.{Mut}
use Rattle.std.specs.BTreeMap.ExtractIf.{ExtractsIf, ExtractIfHolds, extract_if_rest, extract_if_map_ref}
use Rattle.std.specs.Map.Calls.{CalledAtPair}
use Rattle.std.specs.declared.cmp.Ordering.{Ordering}
use Rattle.std.specs.declared.ops.Bound.{Bound}
use Rattle.std.specs.declared.collections.btree_map.ExtractIf.{ExtractIf}

module _ {K V : Type 0} (inside : K → Bool) (change : V → V) (G : K → V → V) (at_in : (k : K) (v : V) → inside k ≡ true → G k v ≡ change v) (at_out : (k : K) (v : V) → inside k ≡ false → G k v ≡ v) where
  abbrev within : Map K V → Map K V
  within m = filter (λ e. inside e.0) m

  -- no entry is inside
  outside_same : (m : Map K V) → within m ≡ [] → with_values G m ≡ m
  outside_same [] h = refl
  outside_same (e ∷ m) h =
      elim (inside e.0) as (λ b. inside e.0 ≡ b → cond b (e ∷ within m) (within m) ≡ [] → with_values G (e ∷ m) ≡ e ∷ m) [
        | true ↦ λ b k. cc
        | false ↦ λ b k. ap (λ v. (e.0, v) ∷ with_values G m) (at_out e.0 e.1 b) ∙ ap (λ es. e ∷ es) (outside_same m k)
      ] refl h

  -- all are
  abbrev changed : Map K V → Map K V
  changed m = map {B = K × V} (λ (e : K × V). (e.0, change e.1)) m

  inside_changed : (m : Map K V) → AllByRecursion (λ k. inside k ≡ true) (keys_of m) → with_values G m ≡ changed m
  inside_changed [] h = refl
  inside_changed (e ∷ m) h = ap (λ v. (e.0, v) ∷ with_values G m) (at_in e.0 e.1 h.0) ∙ ap (λ es. (e.0, change e.1) ∷ es) (inside_changed m h.1)

  within_passes : (m : Map K V) → AllByRecursion (λ k. inside k ≡ true) (keys_of (within m))
  within_passes [] = tt
  within_passes (e ∷ m) =
      elim (inside e.0) as (λ b. inside e.0 ≡ b → AllByRecursion (λ k. inside k ≡ true) (keys_of (cond b (e ∷ within m) (within m)))) [
        | true ↦ λ b. (b, within_passes m)
        | false ↦ λ b. within_passes m
      ] refl

  within_all : (m : Map K V) → AllByRecursion (λ k. inside k ≡ true) (keys_of m) → within m ≡ m
  within_all [] h = refl
  within_all (e ∷ m) h = ap (λ b. cond b (e ∷ within m) (within m)) h.0 ∙ ap (λ es. e ∷ es) (within_all m h.1)

  with_values-append : (m n : Map K V) → with_values G (m ++ n) ≡ with_values G m ++ with_values G n
  with_values-append [] n = refl
  with_values-append (e ∷ m) n = ap (λ es. (e.0, G e.0 e.1) ∷ es) (with_values-append m n)

  keys-append : (m n : Map K V) → keys_of (m ++ n) ≡ keys_of m ++ keys_of n
  keys-append [] n = refl
  keys-append (e ∷ m) n = ap (λ ks. e.0 ∷ ks) (keys-append m n)

  keys-changed : (m : Map K V) → keys_of (changed m) ≡ keys_of m
  keys-changed [] = refl
  keys-changed (e ∷ m) = ap (λ ks. e.0 ∷ ks) (keys-changed m)

  length-append : (m n : Map K V) → length (m ++ n) ≡ length m + length n
  length-append [] n = omega arith
  length-append (e ∷ m) n = let rest = length-append m n in omega (arith, rest)

  length-keys : (m : Map K V) → length (keys_of m) ≡ length m
  length-keys [] = refl
  length-keys (e ∷ m) = ap suc (length-keys m)

  empty : (m : Map K V) → length m ≡ 0 → m ≡ []
  empty [] h = refl
  empty (e ∷ m) h = absurd (omega (arith, h))

  -- where a part is those inside, changed
  module _ (A B C : Map K V) (same : keys_of (A ++ (changed (within (A ++ (B ++ C))) ++ C)) ≡ keys_of (A ++ (B ++ C))) where
    abbrev all : Map K V
    all = A ++ (B ++ C)

    keys_same : keys_of (within all) ≡ keys_of B
    keys_same =
        sym (keys-changed (within all))
        ∙ append_cancel_right (keys_of (changed (within all))) (keys_of B) (keys_of C)
        (append_cancel_left (keys_of A) (keys_of (changed (within all)) ++ keys_of C) (keys_of B ++ keys_of C)
        (ap (λ ks. keys_of A ++ ks) (sym (keys-append (changed (within all)) C)) ∙ sym (keys-append A (changed (within all) ++ C)) ∙ same ∙ keys-append A (B ++ C) ∙ ap (λ ks. keys_of A ++ ks) (keys-append B C)))

    B_inside : AllByRecursion (λ k. inside k ≡ true) (keys_of B)
    B_inside = subst (AllByRecursion (λ k. inside k ≡ true)) keys_same (within_passes all)

    parts : within all ≡ within A ++ (B ++ within C)
    parts = filter-append (λ e. inside e.0) A (B ++ C) ∙ ap (λ r. within A ++ r) (filter-append (λ e. inside e.0) B C ∙ ap (λ r. r ++ within C) (within_all B B_inside))

    lengths : length B ≡ length (within A) + (length B + length (within C))
    lengths =
        sym (length-keys B) ∙ ap length (sym keys_same) ∙ length-keys (within all) ∙ ap length parts ∙ length-append (within A) (B ++ within C) ∙ ap (λ n. length (within A) + n) (length-append B (within C))

    none_A : within A ≡ []
    none_A = empty (within A) (omega (arith, lengths))

    none_C : within C ≡ []
    none_C = empty (within C) (omega (arith, lengths))

    only_B : within all ≡ B
    only_B = parts ∙ ap (λ r. r ++ (B ++ within C)) none_A ∙ ap (λ r. B ++ r) none_C ∙ nil_right B
      where
        nil_right : (m : Map K V) → m ++ [] ≡ m
        nil_right [] = refl
        nil_right (e ∷ m) = ap (λ es. e ∷ es) (nil_right m)

    swept : A ++ (changed (within all) ++ C) ≡ with_values G all
    swept =
        ap (λ m. A ++ (changed m ++ C)) only_B
        ∙ sym (with_values-append A (B ++ C) ∙ ap (λ m. m ++ with_values G (B ++ C)) (outside_same A none_A)
        ∙ ap (λ m. A ++ m) (with_values-append B C ∙ ap (λ m. m ++ with_values G C) (inside_changed B B_inside) ∙ ap (λ m. changed B ++ m) (outside_same C none_C)))

  -- the same of two maps
  pub placed : (es fs kept A B C : Map K V) → es ≡ A ++ (B ++ C) → kept ≡ changed (within es) → fs ≡ A ++ (kept ++ C) → keys_of fs ≡ keys_of es → fs ≡ with_values G es
  placed es fs kept A B C whole is stands keys =
      let there = stands ∙ ap (λ m. A ++ (m ++ C)) (is ∙ ap (λ z. changed (within z)) whole) in
      there ∙ swept A B C (ap keys_of (sym there) ∙ keys ∙ ap keys_of whole) ∙ ap (with_values G) (sym whole)

-- a test that takes nothing out, and changes each value that it is shown
module _ {F K V : Type 0} (T : F → K → V → Bool → V → F → Type 0) (change : V → V) (f : F) (answers : (k : K) (v : V) (b : Bool) (w : V) (f' : F) → T f k v b w f' → (b ≡ false) × (w ≡ change v) × (f' ≡ f)) where
  abbrev Call : F → K × V → Bool → F → K × V → Type 0
  Call g p b g' q = (q.0 ≡ p.0) × T g p.0 p.1 b q.1 g'

  pub all_changed : (es : Map K V) (g : F) → g ≡ f → (r : Option (K × V)) (g' : F) (kept rest : Map K V) → ExtractsNext Call g es r g' kept rest → (r ≡ None) × (kept ≡ map {B = K × V} (λ (e : K × V). (e.0, change e.1)) es)
  all_changed [] g is r g' kept rest h = (h.0, h.2)
  all_changed (e ∷ es) g is r g' kept rest (b, u, y, call, then) =
      let a = answers e.0 e.1 b y.1 u (subst (λ h. T h e.0 e.1 b y.1 u) is call.1) in
      let on = subst (λ (b : Bool). MatchBool b ((r ≡ Some y) × (g' ≡ u) × (kept ≡ []) × (rest ≡ es)) ((ks : Map K V) × ExtractsNext Call u es r g' ks rest × (kept ≡ y ∷ ks))) a.0 then in
      let more = all_changed es u a.2 r g' on.0 rest on.1 in
      (more.0, on.2 ∙ ap (λ ks. y ∷ ks) more.1 ∙ ap (λ (z : K × V). z ∷ map {B = K × V} (λ (e : K × V). (e.0, change e.1)) es) (λ i. (call.0 i, a.1 i)))

-- the entries around those that were shown
nothing_dropped : {X : Type 0} (n : ℕ) → drop {A = X} n [] ≡ []
nothing_dropped zero = refl
nothing_dropped (suc n) = refl

drop_more : {X : Type 0} (i n : ℕ) (xs : List X) → drop n (drop i xs) ≡ drop (i + n) xs
drop_more zero n xs = let e : n ≡ zero + n = omega arith in ap (λ k. drop k xs) e
drop_more (suc i) n [] = nothing_dropped n ∙ sym (nothing_dropped (suc i + n))
drop_more (suc i) n (x ∷ xs) = let e : suc (i + n) ≡ suc i + n = omega arith in drop_more i n xs ∙ ap (λ k. drop k (x ∷ xs)) e

around : {X : Type 0} (i n : ℕ) (r : Option X) (xs : List X) → r ≡ None → xs ≡ take i xs ++ (take n (drop i xs) ++ drop (i + n + length (option_to_list r)) xs)
around i n r xs none =
    let few : length (option_to_list r) ≡ 0 = ap (λ o. length (option_to_list o)) none in
    let past : i + n ≡ i + n + length (option_to_list r) = omega (arith, few) in
    sym (take-append-drop i xs) ∙ ap (λ ys. take i xs ++ ys) (sym (take-append-drop n (drop i xs)) ∙ ap (λ ys. take n (drop i xs) ++ ys) (drop_more i n xs ∙ ap (λ k. drop k xs) past))

match_none : {X A : Type 0} (B : X → Type 0) (o : Option X) → o ≡ None → MatchOption o A B → A
match_none {A = A} B o none = subst (λ o. MatchOption o A B → A) (sym none) (λ a. a)

stood : {K V : Type 0} (inside : K → Bool) (change : V → V) (G : K → V → V) (at_in : (k : K) (v : V) → inside k ≡ true → G k v ≡ change v) (at_out : (k : K) (v : V) → inside k ≡ false → G k v ≡ v)
    → (es fs kept : Map K V) (i : ℕ) (r : Option (K × V)) → r ≡ None → kept ≡ map {B = K × V} (λ (e : K × V). (e.0, change e.1)) (filter (λ e. inside e.0) es)
    → fs ≡ take i es ++ (kept ++ drop (i + length kept + length (option_to_list r)) es) → keys_of fs ≡ keys_of es → fs ≡ with_values G es
stood inside change G at_in at_out es fs kept i r none is stands keys =
    placed inside change G at_in at_out es fs kept (take i es) (take (length kept) (drop i es)) (drop (i + length kept + length (option_to_list r)) es) (around i (length kept) r es none) is stands keys

-- a walk over a range that takes nothing out
module _ {K V R F Z : Type 0} (g : Mut F (Bor K × (MutBor V × Unit {0})) (Bool × (MutBor V × Unit {0}))) (cmp : K → K → Ordering) (known : R → Type 0) (end : R → Bound K) (range : R) (f : F)
    (inside : K → Bool) (change : V → V) (G : K → V → V) (at_in : (k : K) (v : V) → inside k ≡ true → G k v ≡ change v) (at_out : (k : K) (v : V) → inside k ≡ false → G k v ≡ v)
    (answers : (k : K) (v : V) (b : Bool) (w : V) (f' : F) → CalledAtPair g f k v b w f' → (b ≡ false) × (w ≡ change v) × (f' ≡ f)) (all_known : (q : R) → known q) where
  pub sweeps : (s t : ExtractIf K V R F Z) (r : Option (K × V)) → ExtractsIf g cmp known end s r t → ExtractIfHolds s range f → extract_if_rest cmp end s ≡ filter (λ e. inside e.0) (extract_if_map_ref s).now.entries
      → (extract_if_map_ref t).now.entries ≡ with_values G (extract_if_map_ref s).now.entries
  sweeps s t r =
      let es = s.map.now.entries in
      elim s.cursor as (λ o. ExtractsIf g cmp known end (record s { cursor = o }) r t → ExtractIfHolds (record s { cursor = o }) range f → extract_if_rest cmp end (record s { cursor = o }) ≡ filter (λ e. inside e.0) es → t.map.now.entries ≡ with_values G es) [
        | None ↦ λ ran holds rest. ran.2.1 ∙ sym (outside_same inside change G at_in at_out es (sym rest))
        | Some c ↦ λ ran holds rest.
            let went = ran.2 (all_known c.within.range) in
            let call = all_changed (CalledAtPair g) change f answers _ _ holds.0 r _ _ _ went.1.1 in
            stood inside change G at_in at_out es t.map.now.entries went.1.0 _ r call.0 (call.1 ∙ ap (λ m. map {B = K × V} (λ (e : K × V). (e.0, change e.1)) m) rest) went.1.2 (match_none _ r call.0 ran.1)
      ]
