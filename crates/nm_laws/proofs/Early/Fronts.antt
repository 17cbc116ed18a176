-- A machine whose run has taken its frames, before a page moves.
use Rattle.std.proofs.Common.{◌≡◌, ℕ, ◌+◌, ◌<◌, List, [], ◌∷◌, ◌++◌, take, drop, refl, sym, ap, ◌∙◌, arith, length, length-set, zero, suc}
use Rattle.std.specs.Prelude.{slice_set}
use Rattle.std.specs.List.{AllByRecursion, sum_by}
use Rattle.std.specs.Map.{values_of}
use Rattle.std.proofs.lemmas.List.{take-append-drop}
use Rattle.std.proofs.lemmas.List.Sums.{sum_by-set, sum_by-append}
use Rattle.nm_types.specs.Layout.{Layout, node_of}
use Rattle.nm_types.specs.State.{State, free_list}
use Rattle.nm_model.specs.definitions.Sound.{times, IsSoundInFlight}
use Rattle.nm_model.specs.definitions.BeforeCopy.{without_fronts, with_fronts}
use Rattle.nm_laws.proofs.Soundness.Frames.{OnceIn, here, own_set}
use Rattle.nm_laws.proofs.Soundness.Moved.{other_places}

-- what is counted in a list is counted in its front and after it
pub times_parted : (f n : ℕ) (l : List ℕ) → times f l ≡ times f (take n l) + times f (drop n l)
times_parted f n l = sym (ap (times f) (take-append-drop n l)) ∙ sum_by-append (here f) (take n l) (drop n l)

all_dropped : (n : ℕ) (l : List ℕ) (g : Layout) (node : ℕ) → AllByRecursion (λ f. node_of g f ≡ node) l → AllByRecursion (λ f. node_of g f ≡ node) (drop n l)
all_dropped zero l g node all = all
all_dropped (suc n) [] g node all = tt
all_dropped (suc n) (x ∷ l) g node all = all_dropped n l g node all.1

fronts_sum : (p r t a b k : ℕ) → t + (a + b) ≡ r + b → p + r + 0 ≡ k → p + t + a ≡ k
fronts_sum p r t a b k e h = omega arith

-- the frames that are taken are a run's, and no node's
pub fronts_once : (s : State) (node n : ℕ) → node < length s.free → OnceIn s [] → OnceIn (without_fronts s node n) (take n (free_list s node))
fronts_once s node n inside h =
    let l = free_list s node in
    record {
      lists = length-set s.free node (drop n l) ∙ h.lists;
      once = λ f.
          fronts_sum (times f (values_of s.place)) (sum_by (times f) s.free) (sum_by (times f) (slice_set s.free node (drop n l))) (times f (take n l)) (times f (drop n l)) _
          (ap (λ k. sum_by (times f) (slice_set s.free node (drop n l)) + k) (sym (times_parted f n l)) ∙ sum_by-set (times f) s.free node (drop n l) [] inside) (h.once f);
      own = own_set s.layout s.free node (drop n l) inside h.own (all_dropped n l s.layout node (h.own node));
    }

pub fronts_sound : (s : State) (node n : ℕ) → node < length s.free → IsSoundInFlight s [] → IsSoundInFlight (without_fronts s node n) (take n (free_list s node))
fronts_sound s node n inside h = other_places s [] (take n (free_list s node)) s.place (slice_set s.free node (drop n (free_list s node))) h refl (fronts_once s node n inside h.frames)

return_sum : (p r t a b k : ℕ) → t + b ≡ r + (a + b) → p + r + a ≡ k → p + t + 0 ≡ k
return_sum p r t a b k e h = omega arith

all_both : (xs ys : List ℕ) (g : Layout) (node : ℕ) → AllByRecursion (λ f. node_of g f ≡ node) xs → AllByRecursion (λ f. node_of g f ≡ node) ys → AllByRecursion (λ f. node_of g f ≡ node) (xs ++ ys)
all_both [] ys g node a b = b
all_both (x ∷ xs) ys g node a b = (a.0, all_both xs ys g node a.1 b)

-- frames of a node that go back to its front
pub returned_sound : (s : State) (node : ℕ) (frames : List ℕ) → node < length s.free → AllByRecursion (λ f. node_of s.layout f ≡ node) frames → IsSoundInFlight s frames → IsSoundInFlight (with_fronts s node frames) []
returned_sound s node frames inside own h =
    let l = free_list s node in
    let free = slice_set s.free node (frames ++ l) in
    other_places s frames [] s.place free h refl (record {
      lists = length-set s.free node (frames ++ l) ∙ h.frames.lists;
      once = λ f.
          return_sum (times f (values_of s.place)) (sum_by (times f) s.free) (sum_by (times f) free) (times f frames) (times f l) _
          (sum_by-set (times f) s.free node (frames ++ l) [] inside ∙ ap (λ k. sum_by (times f) s.free + k) (sum_by-append (here f) frames l)) (h.frames.once f);
      own = own_set s.layout s.free node (frames ++ l) inside h.frames.own (all_both frames l s.layout node own (h.frames.own node));
    })

pub all_taken : (n : ℕ) (xs : List ℕ) (g : Layout) (node : ℕ) → AllByRecursion (λ f. node_of g f ≡ node) xs → AllByRecursion (λ f. node_of g f ≡ node) (take n xs)
all_taken zero xs g node all = tt
all_taken (suc n) [] g node all = tt
all_taken (suc n) (x ∷ xs) g node all = (all.0, all_taken n xs g node all.1)
