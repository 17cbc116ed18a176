-- What is known of the parts in a box, of the parts that the box gives.
use Rattle.std.proofs.Common.{◌≡◌, ℕ, [], min, Vec, vec_capacity, sym, subst}
use Rattle.std.specs.List.{AllByRecursion}
use Rattle.nm_frames.specs.declared.job.CopyJob.{CopyJob}
use Rattle.nm_pool.specs.views.Populated.{IsPopulated}
use Rattle.nm_pool.specs.declared.frames.FrameParts.{FrameParts}
use Rattle.nm_pool.specs.views.Frames.{FramesView, HasAllFrames, HasAllPlaces, in_memory}

module _ {A : Type 0} where
  -- parts as contracts see them
  abbrev pub shown : FrameParts A → ℕ → FramesView
  shown p room = record { layout = p.geometry; frames = in_memory p.frames; free = p.nodes.lists; vacated = p.vacated.items; room = room }

  -- with a list of jobs
  abbrev pub shown_with : FrameParts A → Vec (CopyJob A) A → FramesView
  shown_with p jobs = shown p (min (vec_capacity p.vacated) (vec_capacity jobs))

  abbrev pub AreFrames : FrameParts A → Vec (CopyJob A) A → Type 0
  AreFrames p jobs = (p.nodes.sizes ≡ p.geometry.sizes) × HasAllFrames (shown_with p jobs) × (jobs.items ≡ []) × AllByRecursion (IsPopulated (in_memory p.frames)) p.vacated.items

  pub seen : {p q : FrameParts A} {v : FramesView} (jobs : Vec (CopyJob A) A) → p ≡ q → shown_with q jobs ≡ v → shown_with p jobs ≡ v
  seen {p = p} {q = q} {v = v} jobs is e = subst (λ (x : FrameParts A). shown_with x jobs ≡ v) (sym is) e

  pub held : {p q : FrameParts A} (jobs : Vec (CopyJob A) A) → p ≡ q → AreFrames q jobs → AreFrames p jobs
  held {p = p} {q = q} jobs is are = subst (λ (x : FrameParts A). AreFrames x jobs) (sym is) are

  -- with no list of jobs
  abbrev pub ArePlaces : FrameParts A → Type 0
  ArePlaces p = (p.nodes.sizes ≡ p.geometry.sizes) × HasAllPlaces (shown p (vec_capacity p.vacated))

  pub seen_alone : {p q : FrameParts A} {v : FramesView} → p ≡ q → shown q (vec_capacity q.vacated) ≡ v → shown p (vec_capacity p.vacated) ≡ v
  seen_alone {p = p} {q = q} {v = v} is e = subst (λ (x : FrameParts A). shown x (vec_capacity x.vacated) ≡ v) (sym is) e

  pub held_alone : {p q : FrameParts A} → p ≡ q → ArePlaces q → ArePlaces p
  held_alone {p = p} {q = q} is are = subst (λ (x : FrameParts A). ArePlaces x) (sym is) are
