-- What a machine's frames keep where one part of them changes.
use Rattle.std.proofs.Common.{◌≡◌, ℕ, ◌<◌, List, [], ◌∷◌, length, sym, ap, subst, ◌∙◌, arith, length-set, true, false, refl, IsSome}
use Rattle.std.specs.Prelude.{Some, slice_set, Option, None, replicate}
use Rattle.std.specs.List.{AllByRecursion}
use Rattle.nm_types.specs.Layout.{node_count, frame_count, Layout}
use Rattle.nm_model.specs.definitions.Frames.{Store, IsHome, Pool, all_frames}
use Rattle.nm_pool.specs.views.Frames.{FramesView, HasAllFrames, KeepsBytes, CanFree, pool_of}
use Rattle.nm_pool.proofs.Copies.Copied.{home_set}
use Rattle.std.proofs.lemmas.List.{get_or-replicate, length-replicate}
use Rattle.nm_laws.proofs.Soundness.New.{new_frames}

-- what holds of the view `v` holds of the fields `k` behind it
pub seen_home : (k v : FramesView) (f : ℕ) → k ≡ v → HasAllFrames k → f < frame_count v.layout → IsHome k.frames f
seen_home k v f e shelf below = shelf.home f (subst (λ (x : FramesView). f < frame_count x.layout) (sym e) below)

pub seen_below : (k v : FramesView) (f : ℕ) → k ≡ v → HasAllFrames k → f < frame_count v.layout → f < length k.frames
seen_below k v f e shelf below = (seen_home k v f e shelf below).in_range

pub all_below : (fs : List ℕ) (k v : FramesView) → k ≡ v → HasAllFrames k → AllByRecursion (λ f. f < frame_count v.layout) fs → AllByRecursion (λ f. f < length k.frames) fs
all_below [] k v e shelf below = tt
all_below (f ∷ fs) k v e shelf below = (seen_below k v f e shelf below.0, all_below fs k v e shelf below.1)

pub every_home : (k : FramesView) → HasAllFrames k → (f : ℕ) → f < length k.frames → IsHome k.frames f
every_home k shelf f below = shelf.home f (subst (λ n. f < n) shelf.buffers below)

pub seen_node : (k v : FramesView) (node : ℕ) → k ≡ v → HasAllFrames k → node < node_count v.layout → node < length k.free
seen_node k v node e shelf below =
    let inside = subst (λ (x : FramesView). node < node_count x.layout) (sym e) below in
    omega (arith, inside, shelf.lists)

-- one frame gets other bytes
pub bytes_set : (k : FramesView) (frames : Store) (f : ℕ) (bytes : List ℕ) → frames ≡ slice_set k.frames f (Some bytes) → HasAllFrames k → HasAllFrames (record k { frames = frames })
bytes_set k frames f bytes is shelf = record {
  lists = shelf.lists;
  buffers = ap (λ (s : Store). length s) is ∙ length-set k.frames f (Some bytes) ∙ shelf.buffers;
  home = λ q below. subst (λ (s : Store). IsHome s q) (sym is) (home_set k.frames f q bytes (shelf.home q below));
}

-- the store keeps its bytes
pub store_kept : (k : FramesView) (frames : Store) → KeepsBytes k.frames frames → HasAllFrames k → HasAllFrames (record k { frames = frames })
store_kept k frames kept shelf = record { lists = shelf.lists; buffers = kept.as_many ∙ shelf.buffers; home = λ f below. kept.home f (shelf.home f below) }

-- one node's list changes
pub list_set : (k : FramesView) (p q : Pool) (node : ℕ) (xs vacated : List ℕ) (room : ℕ) → q ≡ record { sizes = p.sizes; lists = slice_set p.lists node xs } → length p.lists ≡ node_count k.layout → HasAllFrames k
    → HasAllFrames (record k { free = q.lists; vacated = vacated; room = room })
list_set k p q node xs vacated room is many shelf = record {
  lists = ap (λ (x : Pool). length x.lists) is ∙ length-set p.lists node xs ∙ many;
  buffers = shelf.buffers;
  home = shelf.home;
}

-- the same change behind the view
pub frames_changed : (F : Store → Store) (k v : FramesView) (frames : Store) → k ≡ v → frames ≡ F k.frames → record k { frames = frames } ≡ record v { frames = F v.frames }
frames_changed F k v frames e is = ap (λ (s : Store). record k { frames = s }) is ∙ ap (λ (x : FramesView). record x { frames = F x.frames }) e

pub free_changed : (F : Pool → Pool) (k v : FramesView) (sizes : List ℕ) (q : Pool) → k ≡ v → sizes ≡ k.layout.sizes → q ≡ F (record { sizes = sizes; lists = k.free }) → record k { free = q.lists } ≡ record v { free = (F (pool_of v)).lists }
free_changed F k v sizes q e same is =
    ap (λ (p : Pool). record k { free = p.lists }) is
    ∙ ap (λ (z : List ℕ). record k { free = (F (record { sizes = z; lists = k.free })).lists }) same
    ∙ ap (λ (x : FramesView). record x { free = (F (pool_of x)).lists }) e

-- which frames may become free, by the pool itself
pub can_free : (k v : FramesView) (sizes frames : List ℕ) → k ≡ v → sizes ≡ k.layout.sizes → CanFree (pool_of v) frames → CanFree (record { sizes = sizes; lists = k.free }) frames
can_free k v sizes frames e same can =
    subst (λ (z : List ℕ). CanFree (record { sizes = z; lists = k.free }) frames) (sym same) (subst (λ (x : FramesView). CanFree (pool_of x) frames) (sym e) can)

-- every frame is home after one got other bytes
no : false ≡ true → ⊥
no e = cc

all_home : (n k : ℕ) (bytes : List ℕ) → k < n → IsHome (replicate n (Some bytes)) k
all_home n k bytes lt =
    record {
      in_range = let len : length (replicate n (Some bytes)) ≡ n = length-replicate n (Some bytes) in omega (arith, len, lt);
      here = subst (λ (o : Option (List ℕ)). IsSome o) (sym (get_or-replicate n k (Some bytes) None lt)) refl;
    }

-- the frames of a new machine, all of them home
pub new_shelf : (g : Layout) (frames : Store) (free : List (List ℕ)) (vacated : List ℕ) (room n : ℕ) → n ≡ frame_count g → frames ≡ replicate n (Some []) → free ≡ all_frames 0 g.sizes
    → HasAllFrames (record { layout = g; frames = frames; free = free; vacated = vacated; room = room })
new_shelf g frames free vacated room n count f l =
    record {
      lists = ap length l ∙ (new_frames g).lists;
      buffers = ap length f ∙ (length-replicate {A = Option (List ℕ)} n (Some []) ∙ count);
      home = λ k lt. subst (λ fs. IsHome fs k) (sym f) (all_home n k [] (omega (arith, lt, count)));
    }
