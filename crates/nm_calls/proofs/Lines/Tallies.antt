-- What was counted of the pages in an area is true of them.
use Rattle.std.proofs.Common.{◌≡◌, ℕ, suc, zero, ◌+◌, ◌<◌, ◌≤◌, Bool, true, false, cond, List, [], ◌∷◌, ◌++◌, length, refl, sym, ap, ◌∙◌, inl, inr, eq-eqb, slice_set, slice_index_or, arith}
use Rattle.std.proofs.lemmas.Bool.{cases_order, eqb-true, ne_eqb}
use Rattle.std.proofs.lemmas.List.{get_or-set_same, get_or-set_other, get_or-replicate, length-set}
use Rattle.std.specs.Prelude.{slice_index, codes, decimal, max, replicate, count_by, ◌==◌, if◌then◌else◌}
use Rattle.std.proofs.lemmas.List.Sums.{sum_by-cons}
use Rattle.std.specs.List.{flat_map, fold}
use Rattle.std.specs.Ordering.{nat_cmp, ord_max, is_lt}
use Rattle.std.specs.Cmp.{nat_cmp_is}
use Rattle.std.specs.declared.cmp.Ordering.{Ordering}
use Rattle.std.specs.declared.cmp.Ordering.TheVariants.{Less, Equal, Greater}
use Rattle.nm_types.proofs.Cases.{true_false}
use Rattle.nm_model.specs.definitions.Seen.{users}
use Rattle.std.specs.Prelude.{All, ◌^◌, map}
use Rattle.std.specs.List.{AllByRecursion, filter}
use Rattle.std.proofs.Common.{subst}
use Rattle.std.proofs.lemmas.List.Elements.{All-from_recursion}
use Rattle.nm_types.specs.Map.{Map}
use Rattle.nm_types.specs.declared.area.Area.{Area}
use Rattle.nm_types.specs.declared.area.Segment.{Segment}
use Rattle.nm_areas.specs.declared.lines.Area.{Area as Listed}
use Rattle.nm_areas.specs.Lines.{area_line, lines_of}
use Rattle.nm_model.specs.definitions.Sound.{IsSound, IsWhole}
use Rattle.nm_types.specs.Layout.{node_count}
use Rattle.nm_types.specs.Nodes.{up_from}
use Rattle.nm_types.specs.State.{State, PlacedArea}
use Rattle.nm_types.specs.declared.located_page.LocatedPage.{LocatedPage}
use Rattle.nm_calls.specs.declared.maps.Tally.{Tally}
use Rattle.nm_calls.specs.definitions.Maps.{count_text_from, node_text, most_users, numa_maps, area_text, pages_text}
use Rattle.nm_calls.specs.views.Tally.{line_text, nodes_text, counts_text, tally_text}

-- how many pages are on a node
abbrev pub count_on : List LocatedPage → ℕ → ℕ
count_on pages node = count_by (λ p. p.node == node) pages

same_up : (f g : ℕ → List ℕ) (n a : ℕ) → ((k : ℕ) → k < a + n → f k ≡ g k) → flat_map f (up_from a n) ≡ flat_map g (up_from a n)
same_up f g zero a h = refl
same_up f g (suc n) a h = ap (λ t. t ++ flat_map f (up_from (a + 1) n)) (h a (omega arith)) ∙ ap (λ t. g a ++ t) (same_up f g n (a + 1) (λ k lt. h k (omega (arith, lt))))

pub nodes_counted : (on : List ℕ) (pages : List LocatedPage) (n : ℕ) → ((node : ℕ) → node < n → slice_index on node ≡ count_on pages node) → nodes_text on n ≡ flat_map (node_text pages) (up_from 0 n)
nodes_counted on pages n h =
    same_up (λ node. count_text_from 1 (codes " N" ++ decimal node ++ codes "=") (slice_index on node)) (node_text pages) n 0 (λ k lt. ap (count_text_from 1 (codes " N" ++ decimal k ++ codes "=")) (h k (omega (arith, lt))))

-- where there are pages
some_counted : (n most : ℕ) (nodes : List ℕ) → counts_text (suc n) most nodes ≡ (codes " anon=" ++ decimal (suc n)) ++ count_text_from 2 (codes " mapmax=") most ++ nodes ++ codes " kernelpagesize_kB=4"
some_counted n most nodes =
    ap (λ (b : Bool). if b then [] else (codes " anon=" ++ decimal (suc n)) ++ count_text_from 2 (codes " mapmax=") most ++ nodes ++ codes " kernelpagesize_kB=4") (ne_eqb (suc n) 0 (λ e. omega (arith, e)))

pub tally_tells : (s : State) (pages : List LocatedPage) (t : Tally) → t.pages ≡ length pages → t.most ≡ most_users s pages → ((node : ℕ) → node < 64 → slice_index t.on node ≡ count_on pages node) → node_count s.layout ≤ 64
    → tally_text t (node_count s.layout) ≡ pages_text s pages
tally_tells s [] t many most on few = ap (λ n. counts_text n t.most (nodes_text t.on (node_count s.layout))) many
tally_tells s (p ∷ ps) t many most on few =
    let all = p ∷ ps in
    let nodes = nodes_counted t.on all (node_count s.layout) (λ node lt. on node (omega (arith, lt, few))) in
    ap (λ n. counts_text n t.most (nodes_text t.on (node_count s.layout))) many
    ∙ ap (λ m. counts_text (length all) m (nodes_text t.on (node_count s.layout))) most
    ∙ ap (λ x. counts_text (length all) (most_users s all) x) nodes
    ∙ some_counted (length ps) (most_users s all) (flat_map (node_text all) (up_from 0 (node_count s.layout)))

abbrev one_if : Bool → ℕ
one_if b = cond b 1 0

count_one : (test : LocatedPage → Bool) (p : LocatedPage) (ps : List LocatedPage) → count_by test (p ∷ ps) ≡ one_if (test p) + count_by test ps
count_one test p ps = sum_by-cons (λ x. cond (test x) 1 0) p ps

here_is : (on : List ℕ) (i node : ℕ) → i < 64 → length on ≡ 64 → i ≡ node → slice_index (slice_set on i (slice_index_or on i 0 + 1)) node ≡ slice_index on node + 1
here_is on i node lt len e = rw (sym e) (get_or-set_same on i _ 0 (omega (arith, lt, len)))

other_is : (on : List ℕ) (i node : ℕ) → (i ≡ node → ⊥) → slice_index (slice_set on i (slice_index_or on i 0 + 1)) node ≡ slice_index on node
other_is on i node h = get_or-set_other on i node _ 0 (λ e. h (sym e))

-- `pages` pages are counted, and these are left
pub record Counted (s : State) (all rest : List LocatedPage) (pages most : ℕ) (on : List ℕ) : Type 0 where
  pub as_many : pages + length rest ≡ length all
  pub greatest : fold (λ most p. max most (length (users s.processes p.page))) most rest ≡ most_users s all
  pub nodes : length on ≡ 64
  pub few : (node : ℕ) → node < 64 → slice_index on node ≤ pages
  pub on_each : (node : ℕ) → node < 64 → slice_index on node + count_on rest node ≡ count_on all node

greater : (a b : ℕ) → ord_max nat_cmp a b ≡ max a b
greater a b = elim (cases_order b a) [
  | inl e ↦ let r : ord_max nat_cmp a b ≡ b = ap (λ (o : Ordering). cond (is_lt o) a b) (sym (nat_cmp_is b a Equal e)) in let m : max a b ≡ b = grind (arith, e) in r ∙ sym m
  | inr o ↦ elim o [
    | inl lt ↦ let r : ord_max nat_cmp a b ≡ a = ap (λ (o : Ordering). cond (is_lt o) a b) (sym (nat_cmp_is b a Less lt)) in let m : max a b ≡ a = grind (arith, lt) in r ∙ sym m
    | inr gt ↦ let r : ord_max nat_cmp a b ≡ b = ap (λ (o : Ordering). cond (is_lt o) a b) (sym (nat_cmp_is b a Greater gt)) in let m : max a b ≡ b = grind (arith, gt) in r ∙ sym m
  ]
]

pub none_counted : (s : State) (all rest : List LocatedPage) → all ≡ rest → Counted s all rest 0 0 (replicate 64 0)
none_counted s all rest e = record {
  as_many = let n : length rest ≡ length all = ap length (sym e) in omega (arith, n);
  greatest = ap (λ ps. fold (λ most p. max most (length (users s.processes p.page))) 0 ps) (sym e);
  nodes = refl;
  few = λ node lt. let none : slice_index (replicate 64 0) node ≡ 0 = get_or-replicate 64 node 0 0 lt in omega (arith, none);
  on_each = λ node lt. let none : slice_index (replicate 64 0) node ≡ 0 = get_or-replicate 64 node 0 0 lt in let same : count_on rest node ≡ count_on all node = ap (λ ps. count_on ps node) (sym e) in omega (arith, none, same);
}

pub one_counted : (s : State) (all rest : List LocatedPage) (pages most : ℕ) (on : List ℕ) (p : LocatedPage) (behind : List LocatedPage) (most' : ℕ) → rest ≡ p ∷ behind → p.node < 64 → most' ≡ ord_max nat_cmp most (length (users s.processes p.page))
    → Counted s all rest pages most on → Counted s all behind (pages + 1) most' (slice_set on p.node (slice_index_or on p.node 0 + 1))
one_counted s all rest pages most on p behind most' e lt is h =
    let new = slice_set on p.node (slice_index_or on p.node 0 + 1) in
    let count : (node : ℕ) → slice_index on node + count_on rest node ≡ slice_index on node + (one_if (p.node == node) + count_on behind node) =
    λ node. ap (λ ps. slice_index on node + count_on ps node) e ∙ ap (λ n. slice_index on node + n) (count_one (λ q. q.node == node) p behind) in
    record {
      as_many = let n : length rest ≡ suc (length behind) = ap length e in omega (arith, h.as_many, n);
      greatest = ap (λ m. fold (λ most p. max most (length (users s.processes p.page))) m behind) (is ∙ greater most (length (users s.processes p.page)))
          ∙ ap (λ ps. fold (λ most p. max most (length (users s.processes p.page))) most ps) (sym e) ∙ h.greatest;
      nodes = length-set on p.node _ ∙ h.nodes;
      few = λ node below. elim (p.node == node) as (λ b. (p.node == node) ≡ b → slice_index new node ≤ pages + 1) [
        | true ↦ λ b. let here = here_is on p.node node lt h.nodes (eqb-true p.node node b) in let was = h.few node below in omega (arith, here, was)
        | false ↦ λ b. let other = other_is on p.node node (λ k. true_false (sym (eq-eqb p.node node k) ∙ b)) in let was = h.few node below in omega (arith, other, was)
      ] refl;
      on_each = λ node below. elim (p.node == node) as (λ b. (p.node == node) ≡ b → slice_index new node + count_on behind node ≡ count_on all node) [
        | true ↦ λ b. let here = here_is on p.node node lt h.nodes (eqb-true p.node node b) in let was = h.on_each node below in let c = count node in let one : one_if (p.node == node) ≡ 1 = ap one_if b in omega (arith, here, was, c, one)
        | false ↦ λ b. let other = other_is on p.node node (λ k. true_false (sym (eq-eqb p.node node k) ∙ b)) in let was = h.on_each node below in let c = count node in let one : one_if (p.node == node) ≡ 0 = ap one_if b in omega (arith, other, was, c, one)
      ] refl;
    }

-- every area ends below 2^64
ends_low : (segments : Map ℕ Segment) (areas : Map (ℕ × ℕ) Area) (pid : ℕ) → AllByRecursion (λ a. a.0.1 + a.1.pages ≤ 2 ^ 35) areas → AllByRecursion (λ (l : Listed). l.first + l.pages < 2 ^ 64) (lines_of segments areas pid)
ends_low segments [] pid h = tt
ends_low segments (a ∷ areas) pid h =
    let rest = ends_low segments areas pid h.1 in
    elim (a.0.0 == pid) as (λ b. AllByRecursion (λ (l : Listed). l.first + l.pages < 2 ^ 64) (map (area_line segments) (cond b (a ∷ filter (λ a. a.0.0 == pid) areas) (filter (λ a. a.0.0 == pid) areas)))) [
      | true ↦ (omega (arith, h.0), rest)
      | false ↦ rest
    ]

wholes_end : (s : State) (areas : Map (ℕ × ℕ) Area) → AllByRecursion (IsWhole s) areas → AllByRecursion (λ a. a.0.1 + a.1.pages ≤ 2 ^ 35) areas
wholes_end s [] h = tt
wholes_end s (a ∷ areas) h = (h.0.1, wholes_end s areas h.1)

pub lines_end : (s : State) (pid : ℕ) (lines : List Listed) → IsSound s → lines ≡ lines_of s.segments s.areas pid → All (λ (l : Listed). l.first + l.pages < 2 ^ 64) lines
lines_end s pid lines sound e = subst (All (λ (l : Listed). l.first + l.pages < 2 ^ 64)) (sym e) (All-from_recursion _ _ (ends_low s.segments s.areas pid (wholes_end s s.areas sound.areas)))

-- ---- the areas of a process

text_is : (s : State) (segments : Map ℕ Segment) (pid : ℕ) (a : PlacedArea) → (a.0.0 == pid) ≡ true → line_text s pid (area_line segments a) ≡ area_text s a
text_is s segments pid a own = ap (λ (q : ℕ). area_text s ((q, a.0.1), a.1)) (sym (eqb-true a.0.0 pid own))

texts_are : (s : State) (segments : Map ℕ Segment) (areas : Map (ℕ × ℕ) Area) (pid : ℕ)
    → map (line_text s pid) (lines_of segments areas pid) ≡ map (area_text s) (filter (λ a. a.0.0 == pid) areas)
texts_are s segments [] pid = refl
texts_are s segments (a ∷ areas) pid =
    let rest = texts_are s segments areas pid in
    let own = filter (λ (b : PlacedArea). b.0.0 == pid) areas in
    elim (a.0.0 == pid) as (λ b. (a.0.0 == pid) ≡ b → map (line_text s pid) (map (area_line segments) (cond b (a ∷ own) own)) ≡ map (area_text s) (cond b (a ∷ own) own)) [
      | true ↦ λ is. ap (λ t. t ∷ map (line_text s pid) (lines_of segments areas pid)) (text_is s segments pid a is) ∙ ap (λ ts. area_text s a ∷ ts) rest
      | false ↦ λ is. rest
    ] refl

pub maps_are : (s : State) (pid : ℕ) (lines : List Listed) → lines ≡ lines_of s.segments s.areas pid → map (line_text s pid) lines ≡ numa_maps s pid
maps_are s pid lines is = ap (map (line_text s pid)) is ∙ texts_are s s.segments s.areas pid
