-- Nodes that a caller names.
use Rattle.std.proofs.Common.{arith, ◌≡◌, ℕ, suc, Bool, true, false, ◌&&◌, ◌||◌, cond, List, [], ◌∷◌, length, refl, ap, ◌∙◌}
use Rattle.std.specs.Prelude.{◌<◌, nat_le}
use Rattle.std.proofs.lemmas.Bool.{eqb-true, leb-false}
use Rattle.std.specs.List.{AllByRecursion, filter}
use Rattle.nm_types.specs.Layout.{node_count}
use Rattle.nm_types.specs.Nodes.{is_in}
use Rattle.nm_types.specs.State.{State}
use Rattle.nm_passes.specs.definitions.Permission.{names_missing_node, usable, is_none}

-- what is online and allowed is what is allowed of what is online
pub usable_is : (s : State) (allowed ns : List ℕ) → filter (is_in allowed) (filter (is_in s.online) ns) ≡ usable s allowed ns
usable_is s allowed [] = refl
usable_is s allowed (n ∷ ns) = one (is_in s.online n) (is_in allowed n) refl ∙ ap (λ l. cond (is_in s.online n && is_in allowed n) (n ∷ l) l) (usable_is s allowed ns)
  where
    one : (a b : Bool) → is_in allowed n ≡ b → filter (is_in allowed) (cond a (n ∷ filter (is_in s.online) ns) (filter (is_in s.online) ns)) ≡ cond (a && b) (n ∷ filter (is_in allowed) (filter (is_in s.online) ns)) (filter (is_in allowed) (filter (is_in s.online) ns))
    one true b e = ap (λ c. cond c (n ∷ filter (is_in allowed) (filter (is_in s.online) ns)) (filter (is_in allowed) (filter (is_in s.online) ns))) e
    one false b e = refl

pub none_is : (ns : List ℕ) → is_none ns ≡ true → ns ≡ []
none_is [] e = refl
none_is (n ∷ ns) e = let none : suc (length ns) ≡ 0 = eqb-true (suc (length ns)) 0 e in absurd (omega (arith, none))

-- if a set names only nodes of the machine, so does its usable part
pub usable_nodes : (s : State) (allowed ns : List ℕ) → names_missing_node s ns ≡ false → AllByRecursion (λ n. n < node_count s.layout) (usable s allowed ns)
usable_nodes s allowed [] h = tt
usable_nodes s allowed (n ∷ ns) h =
    let both = or_false (nat_le (node_count s.layout) n) (names_missing_node s ns) h in
    let below : n < node_count s.layout = omega (arith, leb-false (node_count s.layout) n both.0) in
    let rest = usable_nodes s allowed ns both.1 in
    elim (is_in s.online n && is_in allowed n) as (λ b. AllByRecursion (λ n. n < node_count s.layout) (cond b (n ∷ usable s allowed ns) (usable s allowed ns))) [
      | true ↦ (below, rest)
      | false ↦ rest
    ]
  where
    or_false : (a b : Bool) → (a || b) ≡ false → (a ≡ false) × (b ≡ false)
    or_false true b e = let z : ⊥ = cc in absurd z
    or_false false b e = (refl, e)

-- each of them is online
pub usable_online : (s : State) (allowed ns : List ℕ) → AllByRecursion (λ n. is_in s.online n ≡ true) (usable s allowed ns)
usable_online s allowed [] = tt
usable_online s allowed (n ∷ ns) =
    let rest = usable_online s allowed ns in
    let test : ℕ → Bool = λ n. is_in s.online n && is_in allowed n in
    elim (is_in s.online n) as (λ b. is_in s.online n ≡ b → AllByRecursion (λ n. is_in s.online n ≡ true) (cond (b && is_in allowed n) (n ∷ filter test ns) (filter test ns))) [
      | true ↦ λ e. elim (is_in allowed n) as (λ b. AllByRecursion (λ n. is_in s.online n ≡ true) (cond b (n ∷ filter test ns) (filter test ns))) [
        | true ↦ (e, rest)
        | false ↦ rest
      ]
      | false ↦ λ e. rest
    ] refl
