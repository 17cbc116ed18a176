-- The runs of a batch under a limit, and that no others are such.
use Rattle.std.proofs.Common.{arith, ◌≡◌, ℕ, zero, suc, ◌+◌, min, ◌<◌, ◌≤◌, ◌^◌, ◌⊎◌, ⊎_elim, true, false, List, [], ◌∷◌, ◌++◌, map, length, take, drop, refl, sym, subst, ap, ◌∙◌, append_assoc}
use Rattle.std.specs.Prelude.{◌==◌, ◌≢◌, if◌then◌else◌}
use Rattle.std.specs.List.{AllByRecursion, flat_map}
use Rattle.std.proofs.lemmas.Bool.{cases_lt, cases_eq}
use Rattle.std.proofs.lemmas.List.{take_all, drop_all, length-take, length-append, length-drop, length-map, map-append, take-map, drop-map, take-append-drop, take-append-le, drop-append-le, append-nil, drop-drop, nil_from_length}
use Rattle.std.proofs.lemmas.List.Concat.{flat_map-append}
use Rattle.nm_types.specs.declared.request.Wanted.{Wanted}
use Rattle.nm_types.specs.declared.request.Wanted.TheVariants.{Whole}
use Rattle.nm_runs.specs.declared.Run.{Run}
use Rattle.nm_model.specs.definitions.Cut.{Request, Stretch, in_front, cut, all_to, all_requests, size_of, OfFirst, AllNeighbours, IsFirst, first_target, wanted_of, same_front}
use Rattle.nm_runs.specs.Stretches.{stretches_of}
use Rattle.nm_model.specs.definitions.Cut.{pieces_in, pieces, pieces_within, cut_within, CutIsOldCut, IsFullBefore, EachLimitCuts, targets_of, for_nodes, run_count, RunCountCountsRuns}
use Rattle.nm_runs.proofs.Stretches.{nodes_first}
use Rattle.nm_runs.proofs.Cuts.{IsSome, GoesApart, FirstGoes, cut_joined, cut_some, cut_apart, cut_more, cut_other, joined_goes}

-- no more requests than the limit
abbrev IsShort : ℕ → Stretch → Type 0
IsShort limit r = size_of r ≤ limit

-- pieces enough for the list are all of them
pieces_enough : {X : Type 0} (limit : ℕ) (xs : List X) (n m : ℕ) → 0 < limit → length xs ≤ n → length xs ≤ m → pieces_in limit xs n ≡ pieces_in limit xs m
pieces_enough limit [] n m some hn hm = refl
pieces_enough limit (x ∷ xs) zero m some hn hm = let z : ⊥ = omega (arith, hn) in absurd z
pieces_enough limit (x ∷ xs) (suc n) zero some hn hm = let z : ⊥ = omega (arith, hm) in absurd z
pieces_enough limit (x ∷ xs) (suc n) (suc m) some hn hm =
    let len = length-drop limit (x ∷ xs) in
    ap (λ l. take limit (x ∷ xs) ∷ l) (pieces_enough limit (drop limit (x ∷ xs)) n m some (omega (arith, len, hn, some)) (omega (arith, len, hm, some)))

-- the first piece, and those of the rest
pieces_first : {X : Type 0} (limit : ℕ) (xs : List X) → 0 < limit → 0 < length xs → pieces limit xs ≡ take limit xs ∷ pieces limit (drop limit xs)
pieces_first limit [] some has = let z : ⊥ = omega (arith, has) in absurd z
pieces_first limit (x ∷ xs) some has =
    let len = length-drop limit (x ∷ xs) in
    let rest = drop limit (x ∷ xs) in
    ap (λ l. take limit (x ∷ xs) ∷ l) (pieces_enough limit rest (length xs) (length rest) some (omega (arith, len, some)) (omega arith))

-- requests that go to a node
abbrev to_node : ℕ → List (List Wanted) → List Stretch
to_node t wss = map (λ ws. record { target = t; wanted = ws }) wss

-- what is as long as the limit is the first piece
within_full : (limit t : ℕ) (ws vs : List Wanted) → 0 < limit → length ws ≡ limit → pieces_within limit (record { target = t; wanted = ws ++ vs }) ≡ record { target = t; wanted = ws } ∷ pieces_within limit (record { target = t; wanted = vs })
within_full limit t ws vs some full =
    let has : 0 < length (ws ++ vs) = omega (arith, length-append ws vs, some, full) in
    let le : limit ≤ length ws = omega (arith, full) in
    let first : take limit (ws ++ vs) ≡ ws = take-append-le limit ws vs le ∙ take_all limit ws (omega (arith, full)) in
    let rest : drop limit (ws ++ vs) ≡ vs = drop-append-le limit ws vs le ∙ ap (λ l. l ++ vs) (drop_all limit ws (omega (arith, full))) in
    ap (to_node t) (pieces_first limit (ws ++ vs) some has)
    ∙ ap (λ l. record { target = t; wanted = l } ∷ to_node t (pieces limit (drop limit (ws ++ vs)))) first
    ∙ ap (λ l. record { target = t; wanted = ws } ∷ to_node t (pieces limit l)) rest

-- what is no longer than the limit is one piece
within_short : (limit : ℕ) (r : Stretch) → 0 < limit → 0 < size_of r → size_of r ≤ limit → pieces_within limit r ≡ r ∷ []
within_short limit r some has short =
    ap (to_node r.target) (pieces_first limit r.wanted some has)
    ∙ ap (λ l. record { target = r.target; wanted = l } ∷ to_node r.target (pieces limit (drop limit r.wanted))) (take_all limit r.wanted short)
    ∙ ap (λ l. r ∷ to_node r.target (pieces limit l)) (drop_all limit r.wanted short)

-- requests for another node, no more than the limit, are a run in front
cut_within_other : (limit t : ℕ) (ws : List Wanted) (es : List Request) → 0 < limit → 0 < length ws → length ws ≤ limit → FirstGoes (λ n. t ≢ n) es → cut_within limit (all_to t ws ++ es) ≡ record { target = t; wanted = ws } ∷ cut_within limit es
cut_within_other limit t ws es some has short apart =
    ap (flat_map (pieces_within limit)) (cut_other t ws es has apart)
    ∙ ap (λ l. l ++ cut_within limit es) (within_short limit (record { target = t; wanted = ws }) some has short)

-- as many requests as the limit are a run at the front, whatever follows
cut_within_full : (limit t : ℕ) (ws : List Wanted) (es : List Request) → 0 < limit → length ws ≡ limit → cut_within limit (all_to t ws ++ es) ≡ record { target = t; wanted = ws } ∷ cut_within limit es
cut_within_full limit t ws es some full = by_first (cut es) refl
  where
    has : 0 < length ws
    has = omega (arith, some, full)

    short : length ws ≤ limit
    short = omega (arith, full)

    by_target : (r : Stretch) (cs : List Stretch) → cut es ≡ r ∷ cs → (t ≡ r.target) ⊎ (t ≢ r.target) → cut_within limit (all_to t ws ++ es) ≡ record { target = t; wanted = ws } ∷ cut_within limit es
    by_target r cs is which =
        ⊎_elim
        (λ same.
        let here : cut es ≡ record { target = t; wanted = r.wanted } ∷ cs = is ∙ ap (λ n. record { target = n; wanted = r.wanted } ∷ cs) (sym same) in
        ap (flat_map (pieces_within limit)) (cut_more t ws es r.wanted cs here)
        ∙ ap (λ l. l ++ flat_map (pieces_within limit) cs) (within_full limit t ws r.wanted some full)
        ∙ sym (ap (λ l. record { target = t; wanted = ws } ∷ flat_map (pieces_within limit) l) here))
        (λ other.
        let goes : OfFirst (λ (s : Stretch). t ≢ s.target) (cut es) = subst (λ (l : List Stretch). OfFirst (λ (s : Stretch). t ≢ s.target) l) (sym is) other in
        let apart : FirstGoes (λ n. t ≢ n) es = subst (λ (l : List Request). FirstGoes (λ n. t ≢ n) l) (cut_joined es) (joined_goes (λ n. t ≢ n) (cut es) (cut_some es) goes) in
        cut_within_other limit t ws es some has short apart) which

    by_first : (cs : List Stretch) → cut es ≡ cs → cut_within limit (all_to t ws ++ es) ≡ record { target = t; wanted = ws } ∷ cut_within limit es
    by_first [] is =
        let none : es ≡ [] = sym (cut_joined es) ∙ ap all_requests is in
        cut_within_other limit t ws es some has short (subst (λ (l : List Request). FirstGoes (λ n. t ≢ n) l) (sym none) tt)
    by_first (r ∷ cs) is = by_target r cs is (cases_eq t r.target)

of_first_map : {X : Type 0} (P Q : X → Type 0) (xs : List X) → ((x : X) → P x → Q x) → OfFirst P xs → OfFirst Q xs
of_first_map P Q [] f h = tt
of_first_map P Q (x ∷ xs) f h = f x h

only_within : (limit : ℕ) (rs : List Stretch) → 0 < limit → AllByRecursion IsSome rs → AllByRecursion (IsShort limit) rs → AllNeighbours (IsFullBefore limit) rs → rs ≡ cut_within limit (all_requests rs)
only_within limit [] some has short full = refl
only_within limit (r ∷ rs) some has short full =
    ap (λ l. r ∷ l) (only_within limit rs some has.1 short.1 full.1)
    ∙ ⊎_elim
    (λ less.
    let apart : OfFirst (λ (s : Stretch). r.target ≢ s.target) rs =
    of_first_map (IsFullBefore limit r) (λ s. r.target ≢ s.target) rs (λ s f same. let z = f same in let w : ⊥ = omega (arith, z, less) in w) full.0 in
    sym (cut_within_other limit r.target r.wanted (all_requests rs) some has.0 short.0 (joined_goes (λ n. r.target ≢ n) rs has.1 apart)))
    (λ more. let all : length r.wanted ≡ limit = omega (arith, more, short.0) in sym (cut_within_full limit r.target r.wanted (all_requests rs) some all)) (cases_lt (size_of r) limit)

follow : (P : ℕ → Type 0) (rest behind : List Request) → FirstGoes P rest → (rest ≡ [] → behind ≡ []) → FirstGoes P (rest ++ behind)
follow P [] behind h e = subst (λ (l : List Request). FirstGoes P l) (sym (e refl)) tt
follow P (f ∷ fs) behind h e = h

-- what is first cut of a batch, and what is after it
first_parts : (es : List Request) (t : ℕ) (ws : List Wanted) → IsFirst es t ws → es ≡ all_to t ws ++ drop (length ws) es
first_parts es t ws first =
    sym (cut_joined es) ∙ ap all_requests first ∙ ap (λ l. all_to t ws ++ l) (cut_joined (drop (length ws) es))

first_apart : (es : List Request) (t : ℕ) (ws : List Wanted) → IsFirst es t ws → FirstGoes (λ n. t ≢ n) (drop (length ws) es)
first_apart es t ws first =
    let rest = drop (length ws) es in
    let next : AllNeighbours GoesApart (record { target = t; wanted = ws } ∷ cut rest) = subst (λ (l : List Stretch). AllNeighbours GoesApart l) first (cut_apart es) in
    subst (λ (l : List Request). FirstGoes (λ n. t ≢ n) l) (cut_joined rest) (joined_goes (λ n. t ≢ n) (cut rest) (cut_some rest) next.0)

-- the first stretch of the front of a batch, which is as long as the limit at most, is the first run
pub first_within : (limit : ℕ) (es : List Request) (t : ℕ) (ws : List Wanted) → 0 < limit → 0 < length ws → length ws ≤ length (take limit es) → IsFirst (take limit es) t ws → cut_within limit es ≡ record { target = t; wanted = ws } ∷ cut_within limit (drop (length ws) es)
first_within limit es t ws some has inside first =
    let n = length ws in
    let front = take limit es in
    let rest = drop n front in
    let behind = drop limit es in
    let front_length = length-take limit es in
    let short : n ≤ limit = omega (arith, inside, front_length) in
    let parts : es ≡ all_to t ws ++ (rest ++ behind) =
    sym (take-append-drop limit es) ∙ ap (λ l. l ++ behind) (first_parts front t ws first) ∙ append_assoc (all_to t ws) rest behind in
    let all : length (all_to t ws) ≡ n = length-map ws (λ w. record { target = t; wanted = w }) in
    let left : drop n es ≡ rest ++ behind =
    ap (drop n) parts ∙ drop-append-le n (all_to t ws) (rest ++ behind) (omega (arith, all)) ∙ ap (λ l. l ++ (rest ++ behind)) (drop_all n (all_to t ws) (omega (arith, all))) in
    let ends : n < limit → rest ≡ [] → behind ≡ [] = λ less none.
    let whole : length front ≡ length (all_to t ws) = ap length (first_parts front t ws first ∙ ap (λ l. all_to t ws ++ l) none ∙ append-nil (all_to t ws)) in
    drop_all limit es (omega (arith, whole, all, less, front_length)) in
    ap (cut_within limit) parts
    ∙ ⊎_elim
    (λ less.
    cut_within_other limit t ws (rest ++ behind) some has short (follow (λ m. t ≢ m) rest behind (first_apart front t ws first) (ends less)))
    (λ more. let full : n ≡ limit = omega (arith, more, short) in cut_within_full limit t ws (rest ++ behind) some full) (cases_lt n limit)
    ∙ ap (λ l. record { target = t; wanted = ws } ∷ cut_within limit l) (sym left)

-- the front of what is left of a list ends within the list
pub ends_within : {X : Type 0} (xs rest : List X) (at room len : ℕ) → rest ≡ drop at xs → len ≤ length (take room rest) → at ≤ length xs → at + len ≤ length xs
ends_within xs rest at room len is fits inside = omega (arith, length-take room rest, length-drop at xs, ap length is, fits, inside)

-- the pieces of a list are all of it
pub pieces_joined : {X : Type 0} (limit : ℕ) (xs : List X) (n : ℕ) → 0 < limit → length xs ≤ n → flat_map (λ ys. ys) (pieces_in limit xs n) ≡ xs
pieces_joined limit [] n some enough = refl
pieces_joined limit (x ∷ xs) zero some enough = let z : ⊥ = omega (arith, enough) in absurd z
pieces_joined limit (x ∷ xs) (suc n) some enough =
    let len = length-drop limit (x ∷ xs) in
    let rest : length (drop limit (x ∷ xs)) ≤ n = omega (arith, len, some, enough) in
    ap (λ ys. take limit (x ∷ xs) ++ ys) (pieces_joined limit (drop limit (x ∷ xs)) n some rest) ∙ take-append-drop limit (x ∷ xs)

all_to-append : (t : ℕ) (vs ws : List Wanted) → all_to t (vs ++ ws) ≡ all_to t vs ++ all_to t ws
all_to-append t [] ws = refl
all_to-append t (v ∷ vs) ws = let first : Request = record { target = t; wanted = v } in ap (λ es. first ∷ es) (all_to-append t vs ws)

-- the first piece of what goes to one node is its first run
piece_within : (limit t : ℕ) (ws piece rest : List Wanted) → 0 < limit → 0 < length ws → ws ≡ piece ++ rest → length piece ≡ min limit (length ws) → cut_within limit (all_to t ws) ≡ record { target = t; wanted = piece } ∷ cut_within limit (all_to t rest)
piece_within limit t ws piece rest some has parts size =
    let sum = ap length parts ∙ length-append piece rest in
    ap (λ l. cut_within limit (all_to t l)) parts
    ∙ ap (cut_within limit) (all_to-append t piece rest)
    ∙ ⊎_elim
    (λ less.
    let none : rest ≡ [] = nil_from_length rest (omega (arith, sum, size, less)) in
    cut_within_other limit t piece (all_to t rest) some (omega (arith, size, some, has)) (omega (arith, size))
    (subst (λ (l : List Wanted). FirstGoes (λ n. t ≢ n) (all_to t l)) (sym none) tt))
    (λ more. cut_within_full limit t piece (all_to t rest) some (omega (arith, size, more))) (cases_lt (length ws) limit)

-- one more run is made, of the piece at the front of what is left
pub one_more_to : {A : Type 0} (limit : ℕ) (made now : List (Run A)) (run : Run A) (ws piece rest : List Wanted) → now ≡ made ++ run ∷ [] → run.wanted.items ≡ piece → 0 < limit → 0 < length ws → ws ≡ piece ++ rest → length piece ≡ min limit (length ws)
    → stretches_of now ++ cut_within limit (all_to run.target rest) ≡ stretches_of made ++ cut_within limit (all_to run.target ws)
one_more_to limit made now run ws piece rest is has some more parts size =
    let t = run.target in
    let left = cut_within limit (all_to t rest) in
    ap (λ rs. stretches_of rs ++ left) is
    ∙ ap (λ l. l ++ left) (map-append {B = Stretch} (λ r. record { target = r.target; wanted = r.wanted.items }) made (run ∷ []))
    ∙ append_assoc (stretches_of made) (record { target = t; wanted = run.wanted.items } ∷ []) left
    ∙ ap (λ (l : List Wanted). stretches_of made ++ record { target = t; wanted = l } ∷ left) has
    ∙ sym (ap (λ l. stretches_of made ++ l) (piece_within limit t ws piece rest some more parts size))

joined_pieces : (t : ℕ) (wss : List (List Wanted)) → all_requests (to_node t wss) ≡ all_to t (flat_map (λ ws. ws) wss)
joined_pieces t [] = refl
joined_pieces t (ws ∷ wss) =
    ap (λ es. all_to t ws ++ es) (joined_pieces t wss) ∙ sym (all_to-append t ws (flat_map (λ vs. vs) wss))

joined_within : (limit : ℕ) (r : Stretch) → 0 < limit → all_requests (pieces_within limit r) ≡ all_to r.target r.wanted
joined_within limit r some =
    let enough : length r.wanted ≤ length r.wanted = omega arith in
    joined_pieces r.target (pieces limit r.wanted) ∙ ap (all_to r.target) (pieces_joined limit r.wanted (length r.wanted) some enough)

joined_all : (limit : ℕ) (rs : List Stretch) → 0 < limit → all_requests (flat_map (pieces_within limit) rs) ≡ all_requests rs
joined_all limit [] some = refl
joined_all limit (r ∷ rs) some =
    flat_map-append (λ (s : Stretch). all_to s.target s.wanted) (pieces_within limit r) (flat_map (pieces_within limit) rs)
    ∙ ap (λ es. es ++ all_requests (flat_map (pieces_within limit) rs)) (joined_within limit r some)
    ∙ ap (λ es. all_to r.target r.wanted ++ es) (joined_all limit rs some)

-- each piece has something, and no more than the limit
pieces_some : (limit t : ℕ) (ws : List Wanted) (n : ℕ) → 0 < limit → AllByRecursion IsSome (to_node t (pieces_in limit ws n))
pieces_some limit t [] n some = tt
pieces_some limit t (w ∷ ws) zero some = tt
pieces_some limit t (w ∷ ws) (suc n) some =
    let len = length-take limit (w ∷ ws) in
    (omega (arith, len, some), pieces_some limit t (drop limit (w ∷ ws)) n some)

pieces_short : (limit t : ℕ) (ws : List Wanted) (n : ℕ) → AllByRecursion (IsShort limit) (to_node t (pieces_in limit ws n))
pieces_short limit t [] n = tt
pieces_short limit t (w ∷ ws) zero = tt
pieces_short limit t (w ∷ ws) (suc n) =
    let len = length-take limit (w ∷ ws) in
    (omega (arith, len), pieces_short limit t (drop limit (w ∷ ws)) n)

all-append : {X : Type 0} (P : X → Type 0) (xs ys : List X) → AllByRecursion P xs → AllByRecursion P ys → AllByRecursion P (xs ++ ys)
all-append P [] ys h k = k
all-append P (x ∷ xs) ys h k = (h.0, all-append P xs ys h.1 k)

all_within : (P : Stretch → Type 0) (limit : ℕ) (rs : List Stretch) → ((t : ℕ) (ws : List Wanted) (n : ℕ) → AllByRecursion P (to_node t (pieces_in limit ws n))) → AllByRecursion P (flat_map (pieces_within limit) rs)
all_within P limit [] f = tt
all_within P limit (r ∷ rs) f = all-append P (pieces_within limit r) (flat_map (pieces_within limit) rs) (f r.target r.wanted (length r.wanted)) (all_within P limit rs f)

-- a first piece is full where something is left, and another target follows where nothing is
first_full : (limit t : ℕ) (ws rest : List Wanted) (n : ℕ) (us : List Stretch) → drop limit ws ≡ rest → OfFirst (λ (u : Stretch). t ≢ u.target) us → OfFirst (IsFullBefore limit (record { target = t; wanted = take limit ws })) (to_node t (pieces_in limit rest n) ++ us)
first_full limit t ws [] n [] is apart = tt
first_full limit t ws [] n (u ∷ us) is apart = λ same. absurd (apart same)
first_full limit t ws (v ∷ vs) zero [] is apart = tt
first_full limit t ws (v ∷ vs) zero (u ∷ us) is apart = λ same. absurd (apart same)
first_full limit t ws (v ∷ vs) (suc n) us is apart = λ same.
    let left = length-drop limit ws in
    let taken = length-take limit ws in
    let more : length (drop limit ws) ≡ suc (length vs) = ap length is in
    omega (arith, left, taken, more)

pieces_full : (limit t : ℕ) (ws : List Wanted) (n : ℕ) (us : List Stretch) → OfFirst (λ (u : Stretch). t ≢ u.target) us → AllNeighbours (IsFullBefore limit) us → AllNeighbours (IsFullBefore limit) (to_node t (pieces_in limit ws n) ++ us)
pieces_full limit t [] n us apart h = h
pieces_full limit t (w ∷ ws) zero us apart h = h
pieces_full limit t (w ∷ ws) (suc n) us apart h =
    (first_full limit t (w ∷ ws) (drop limit (w ∷ ws)) n us refl apart, pieces_full limit t (drop limit (w ∷ ws)) n us apart h)

-- the first piece of some requests has their target
first_piece_apart : (limit target t : ℕ) (ws : List Wanted) (us : List Stretch) → 0 < length ws → t ≢ target → OfFirst (λ (u : Stretch). t ≢ u.target) (to_node target (pieces_in limit ws (length ws)) ++ us)
first_piece_apart limit target t [] us some apart = let z : ⊥ = omega (arith, some) in absurd z
first_piece_apart limit target t (w ∷ ws) us some apart = apart

all_apart : (limit t : ℕ) (rs : List Stretch) → AllByRecursion IsSome rs → OfFirst (λ (r : Stretch). t ≢ r.target) rs → OfFirst (λ (u : Stretch). t ≢ u.target) (flat_map (pieces_within limit) rs)
all_apart limit t [] some apart = tt
all_apart limit t (r ∷ rs) some apart = first_piece_apart limit r.target t r.wanted (flat_map (pieces_within limit) rs) some.0 apart

all_full : (limit : ℕ) (rs : List Stretch) → AllByRecursion IsSome rs → AllNeighbours GoesApart rs → AllNeighbours (IsFullBefore limit) (flat_map (pieces_within limit) rs)
all_full limit [] some apart = tt
all_full limit (r ∷ rs) some apart =
    pieces_full limit r.target r.wanted (length r.wanted) (flat_map (pieces_within limit) rs) (all_apart limit r.target rs some.1 apart.0)
    (all_full limit rs some.1 apart.1)

pub each_limit_cuts : EachLimitCuts
each_limit_cuts limit requests some = record {
  is = record {
    same = joined_all limit (cut requests) some ∙ cut_joined requests;
    some = all_within IsSome limit (cut requests) (λ t ws n. pieces_some limit t ws n some);
    short = all_within (IsShort limit) limit (cut requests) (pieces_short limit);
    full = all_full limit (cut requests) (cut_some requests) (cut_apart requests);
  };
  only = λ runs other. only_within limit runs some other.some other.short other.full ∙ ap (cut_within limit) other.same;
}

-- stretches of no more requests than the batch are cut no further
all_in_limit : (limit : ℕ) (rs : List Stretch) → 0 < limit → AllByRecursion IsSome rs → length (all_requests rs) ≤ limit → flat_map (pieces_within limit) rs ≡ rs
all_in_limit limit [] some has short = refl
all_in_limit limit (r ∷ rs) some has short =
    let parts = length-append (all_to r.target r.wanted) (all_requests rs) in
    let own = length-map {B = Request} r.wanted (λ w. record { target = r.target; wanted = w }) in
    ap (λ l. l ++ flat_map (pieces_within limit) rs) (within_short limit r some has.0 (omega (arith, parts, own, short)))
    ∙ ap (λ l. r ∷ l) (all_in_limit limit rs some has.1 (omega (arith, parts, own, short)))

-- a limit that is as long as the batch is none
pub cut_in_limit : (limit : ℕ) (requests : List Request) → 0 < limit → length requests ≤ limit → cut_within limit requests ≡ cut requests
cut_in_limit limit requests some short =
    all_in_limit limit (cut requests) some (cut_some requests) (subst (λ (l : List Request). length l ≤ limit) (sym (cut_joined requests)) short)

pub cut_is_old_cut : CutIsOldCut
cut_is_old_cut requests short = let some : 0 < 2 ^ 14 = omega arith in cut_in_limit (2 ^ 14) requests some short

-- how many pieces a list has goes by its length
pieces_counted : {X Y : Type 0} (limit : ℕ) (xs : List X) (ys : List Y) (n : ℕ) → length xs ≡ length ys → length (pieces_in limit xs n) ≡ length (pieces_in limit ys n)
pieces_counted limit [] [] n same = refl
pieces_counted limit [] (y ∷ ys) n same = let z : ⊥ = omega (arith, same) in absurd z
pieces_counted limit (x ∷ xs) [] n same = let z : ⊥ = omega (arith, same) in absurd z
pieces_counted limit (x ∷ xs) (y ∷ ys) zero same = refl
pieces_counted limit (x ∷ xs) (y ∷ ys) (suc n) same =
    let left = length-drop limit (x ∷ xs) in
    let right = length-drop limit (y ∷ ys) in
    ap suc (pieces_counted limit (drop limit (x ∷ xs)) (drop limit (y ∷ ys)) n (omega (arith, same, left, right)))

-- two lists of runs of the same targets and sizes
abbrev AreAlike : List Stretch → List Stretch → Type 0
AreAlike [] [] = Unit {0}
AreAlike [] (t ∷ ts) = ⊥
AreAlike (r ∷ rs) [] = ⊥
AreAlike (r ∷ rs) (t ∷ ts) = (r.target ≡ t.target) × (size_of r ≡ size_of t) × AreAlike rs ts

in_front_alike : (target : ℕ) (v w : Wanted) (rs ts : List Stretch) → AreAlike rs ts → AreAlike (in_front (record { target = target; wanted = v }) rs) (in_front (record { target = target; wanted = w }) ts)
in_front_alike target v w [] [] h = (refl, refl, tt)
in_front_alike target v w [] (t ∷ ts) h = absurd h
in_front_alike target v w (r ∷ rs) [] h = absurd h
in_front_alike target v w (r ∷ rs) (t ∷ ts) h =
    let with_v : List Stretch = record { target = r.target; wanted = v ∷ r.wanted } ∷ rs in
    let alone_v : List Stretch = record { target = target; wanted = v ∷ [] } ∷ r ∷ rs in
    let with_w : List Stretch = record { target = t.target; wanted = w ∷ t.wanted } ∷ ts in
    let alone_w : List Stretch = record { target = target; wanted = w ∷ [] } ∷ t ∷ ts in
    let both : AreAlike (if target == r.target then with_v else alone_v) (if target == r.target then with_w else alone_w) =
    elim (target == r.target) as (λ b. AreAlike (if b then with_v else alone_v) (if b then with_w else alone_w)) [
      | true ↦ (h.0, ap suc h.1, h.2)
      | false ↦ (refl, refl, h)
    ] in
    subst (λ n. AreAlike (if target == r.target then with_v else alone_v) (if target == n then with_w else alone_w)) h.0 both

cut_alike : (requests : List Request) → AreAlike (cut requests) (cut (for_nodes (targets_of requests)))
cut_alike [] = tt
cut_alike (e ∷ es) = in_front_alike e.target e.wanted _ (cut es) (cut (for_nodes (targets_of es))) (cut_alike es)

within_alike : (limit : ℕ) (rs ts : List Stretch) → AreAlike rs ts → length (flat_map (pieces_within limit) rs) ≡ length (flat_map (pieces_within limit) ts)
within_alike limit [] [] h = refl
within_alike limit [] (t ∷ ts) h = absurd h
within_alike limit (r ∷ rs) [] h = absurd h
within_alike limit (r ∷ rs) (t ∷ ts) h =
    let left = length-append (pieces_within limit r) (flat_map (pieces_within limit) rs) in
    let right = length-append (pieces_within limit t) (flat_map (pieces_within limit) ts) in
    let one : length (pieces_within limit r) ≡ length (pieces_within limit t) =
    length-map (pieces limit r.wanted) (λ ws. record { target = r.target; wanted = ws })
    ∙ ap (λ n. length (pieces_in limit r.wanted n)) h.1
    ∙ pieces_counted limit r.wanted t.wanted (length t.wanted) h.1
    ∙ sym (length-map (pieces limit t.wanted) (λ ws. record { target = t.target; wanted = ws })) in
    let rest = within_alike limit rs ts h.2 in
    omega (arith, left, right, one, rest)

pub run_count_counts_runs : RunCountCountsRuns
run_count_counts_runs limit requests = within_alike limit (cut requests) (cut (for_nodes (targets_of requests))) (cut_alike requests)

-- no more than the limit of what is left
pub in_room : {X : Type 0} (limit : ℕ) (xs : List X) (room : ℕ) → room ≡ min (length xs) limit → take room xs ≡ take limit xs
in_room limit xs room is =
    ⊎_elim (λ less. let more : length xs ≤ room = omega (arith, is, less) in take_all room xs more ∙ sym (take_all limit xs (omega (arith, less))))
    (λ more. let same : room ≡ limit = omega (arith, is, more) in ap (λ n. take n xs) same) (cases_lt (length xs) limit)

-- one more run is made, of the requests at the front of the rest
pub one_more : {A : Type 0} (limit : ℕ) (made : List (Run A)) (run : Run A) (es rest : List Request) (at room : ℕ) → 0 < limit → rest ≡ drop at es → room ≡ min (length rest) limit → 0 < length run.wanted.items → length run.wanted.items ≤ length (take room rest) → IsFirst (take room rest) run.target run.wanted.items
    → stretches_of made ++ cut_within limit (drop at es) ≡ cut_within limit es → stretches_of (made ++ run ∷ []) ++ cut_within limit (drop (at + length run.wanted.items) es) ≡ cut_within limit es
one_more limit made run es rest at room some is front has inside first so_far =
    let same = in_room limit rest room front in
    let ws : List Wanted = run.wanted.items in
    let one : Stretch = record { target = run.target; wanted = ws } in
    let next : cut_within limit rest ≡ one ∷ cut_within limit (drop (length ws) rest) =
    first_within limit rest run.target ws some has (subst (λ (l : List Request). length ws ≤ length l) same inside) (subst (λ (l : List Request). IsFirst l run.target ws) same first) in
    ap (λ l. l ++ cut_within limit (drop (at + length ws) es)) (map-append {B = Stretch} (λ r. record { target = r.target; wanted = r.wanted.items }) made (run ∷ []))
    ∙ append_assoc (stretches_of made) (one ∷ []) (cut_within limit (drop (at + length ws) es))
    ∙ sym (ap (λ l. stretches_of made ++ one ∷ cut_within limit l) (ap (drop (length ws)) is ∙ drop-drop (length ws) at es))
    ∙ sym (ap (λ l. stretches_of made ++ l) next)
    ∙ ap (λ l. stretches_of made ++ cut_within limit l) is
    ∙ so_far

-- a request for a node
abbrev request_for : ℕ → Request
request_for node = record { target = node; wanted = Whole (record { segment = 0; index = 0 }) }

-- one more run is counted, of the nodes at the front of the rest
pub one_counted : (limit count : ℕ) (ns rest : List ℕ) (at room n : ℕ) → 0 < limit → rest ≡ drop at ns → room ≡ min (length rest) limit → 0 < n → n ≤ length (take room rest) → n ≡ same_front (for_nodes (take room rest))
    → count + run_count limit (drop at ns) ≡ run_count limit ns → count + 1 + run_count limit (drop (at + n) ns) ≡ run_count limit ns
one_counted limit count ns rest at room n some is front has inside same so_far =
    let near : List ℕ = take room rest in
    let es : List Request = for_nodes rest in
    let taken : for_nodes near ≡ take limit es = ap for_nodes (in_room limit rest room front) ∙ sym (take-map request_for limit rest) in
    let first = nodes_first near n (omega (arith, has, inside)) same inside in
    let ws : List Wanted = wanted_of (take n (for_nodes near)) in
    let nodes : length (for_nodes near) ≡ length near = length-map {B = Request} near request_for in
    let enough : length ws ≤ length (take limit es) = subst (λ (l : List Request). length ws ≤ length l) taken (omega (arith, first.0, inside, nodes)) in
    let t = first_target (for_nodes near) in
    let next : cut_within limit es ≡ record { target = t; wanted = ws } ∷ cut_within limit (drop (length ws) es) =
    first_within limit es t ws some (omega (arith, has, first.0)) enough (subst (λ (l : List Request). IsFirst l t ws) taken first.1) in
    let behind : cut_within limit (drop (length ws) es) ≡ cut_within limit (for_nodes (drop (at + n) ns)) =
    ap (λ k. cut_within limit (drop k es)) first.0
    ∙ ap (cut_within limit) (drop-map request_for n rest)
    ∙ ap (λ l. cut_within limit (for_nodes (drop n l))) is
    ∙ ap (λ l. cut_within limit (for_nodes l)) (drop-drop n at ns) in
    let one : run_count limit rest ≡ suc (run_count limit (drop (at + n) ns)) = ap length next ∙ ap (λ l. suc (length l)) behind in
    let old : run_count limit (drop at ns) ≡ run_count limit rest = ap (run_count limit) (sym is) in
    omega (arith, one, old, so_far)
