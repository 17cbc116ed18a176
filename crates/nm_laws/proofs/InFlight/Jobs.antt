-- Jobs by their frames and source bytes, which neither a draw nor a give changes.
use Rattle.std.proofs.Common.{◌≡◌, ℕ, zero, suc, ◌+◌, ◌≤◌, List, [], ◌∷◌, ◌++◌, true, false, cond, map, length, refl, sym, ap, ◌∙◌, arith, length-append}
use Rattle.std.specs.Prelude.{Option, Some, None, ◌==◌, if◌then◌else◌}
use Rattle.std.specs.Option.{unwrap_or, option_map, is_some}
use Rattle.std.specs.List.{flat_map}
use Rattle.nm_types.specs.declared.entry.Entry.TheVariants.{Frame, Held}
use Rattle.nm_model.specs.definitions.Frames.{Store, bytes_of}
use Rattle.nm_model.specs.definitions.Sound.{times}
pub use Rattle.nm_laws.specs.InFlight.{sources, targets, AreCopied}
use Rattle.nm_laws.proofs.Soundness.Frames.{here, times_cons}
use Rattle.nm_model.specs.definitions.RunMachine.{Job, InHand, job_from, goes_to, content}
use Rattle.nm_model.specs.definitions.Events.{is_laid, draw_job, give_job, job_holds, InJob}

-- what neither a draw nor a give changes of a job
abbrev pub Shape : Type 0
Shape = (ℕ × List ℕ) × ℕ

abbrev pub shape : Job → Shape
shape job = (job.source, job.target.0)

pub drawn_shape : (w : ℕ) (jobs : List Job) → map shape (draw_job w jobs) ≡ map shape jobs
drawn_shape w [] = refl
drawn_shape w (job ∷ jobs) =
    elim (is_laid job.stage) as (λ b. map shape (if b then record job { stage = InHand w } ∷ jobs else job ∷ draw_job w jobs) ≡ map shape (job ∷ jobs)) [
      | true ↦ refl
      | false ↦ ap (λ xs. shape job ∷ xs) (drawn_shape w jobs)
    ]

pub given_shape : (t : ℕ) (jobs : List Job) → map shape (give_job t jobs) ≡ map shape jobs
given_shape t [] = refl
given_shape zero (job ∷ jobs) = refl
given_shape (suc t) (job ∷ jobs) = ap (λ xs. shape job ∷ xs) (given_shape t jobs)

-- what is read of jobs is read of their shapes
shape_from : List Shape → ℕ → Option Shape
shape_from [] f = None
shape_from (x ∷ xs) f = if x.0.0 == f then Some x else shape_from xs f

from_shapes : (jobs : List Job) (f : ℕ) → option_map shape (job_from jobs f) ≡ shape_from (map shape jobs) f
unfolding shape_from
from_shapes [] f = refl
from_shapes (job ∷ jobs) f =
    elim (job.source.0 == f) as (λ b. option_map shape (if b then Some job else job_from jobs f) ≡ (if b then Some (shape job) else shape_from (map shape jobs) f)) [
      | true ↦ refl
      | false ↦ from_shapes jobs f
    ]

target_of_shape : (o : Option Job) (f : ℕ) → unwrap_or (option_map (λ job. job.target.0) o) f ≡ unwrap_or (option_map (λ (x : Shape). x.1) (option_map shape o)) f
target_of_shape None f = refl
target_of_shape (Some job) f = refl

bytes_of_shape : (o : Option Job) (bytes : List ℕ) → unwrap_or (option_map (λ job. job.source.1) o) bytes ≡ unwrap_or (option_map (λ (x : Shape). x.0.1) (option_map shape o)) bytes
bytes_of_shape None f = refl
bytes_of_shape (Some job) f = refl

pub held_of_shape : (o : Option Job) (f : ℕ) → unwrap_or (option_map (λ job. Held job.target.0) o) (Frame f) ≡ unwrap_or (option_map (λ (x : Shape). Held x.1) (option_map shape o)) (Frame f)
held_of_shape None f = refl
held_of_shape (Some job) f = refl

some_of_shape : (o : Option Job) → is_some o ≡ is_some (option_map shape o)
some_of_shape None = refl
some_of_shape (Some job) = refl

sources_of_shapes : (jobs : List Job) → sources jobs ≡ map (λ (x : Shape). x.0.0) (map shape jobs)
sources_of_shapes [] = refl
sources_of_shapes (job ∷ jobs) = ap (λ xs. job.source.0 ∷ xs) (sources_of_shapes jobs)

targets_of_shapes : (jobs : List Job) → targets jobs ≡ map (λ (x : Shape). x.1) (map shape jobs)
targets_of_shapes [] = refl
targets_of_shapes (job ∷ jobs) = ap (λ xs. job.target.0 ∷ xs) (targets_of_shapes jobs)

length_of_shapes : (jobs : List Job) → length jobs ≡ length (map shape jobs)
length_of_shapes [] = refl
length_of_shapes (job ∷ jobs) = ap suc (length_of_shapes jobs)

module _ (jobs others : List Job) (same : map shape jobs ≡ map shape others) where
  pub from_same : (f : ℕ) → option_map shape (job_from jobs f) ≡ option_map shape (job_from others f)
  from_same f = from_shapes jobs f ∙ ap (λ xs. shape_from xs f) same ∙ sym (from_shapes others f)

  pub goes_same : (f : ℕ) → goes_to jobs f ≡ goes_to others f
  goes_same f = target_of_shape (job_from jobs f) f ∙ ap (λ o. unwrap_or (option_map (λ (x : Shape). x.1) o) f) (from_same f) ∙ sym (target_of_shape (job_from others f) f)

  pub content_same : (buf : Store) (f : ℕ) → content buf jobs f ≡ content buf others f
  content_same buf f = bytes_of_shape (job_from jobs f) (bytes_of buf f) ∙ ap (λ o. unwrap_or (option_map (λ (x : Shape). x.0.1) o) (bytes_of buf f)) (from_same f) ∙ sym (bytes_of_shape (job_from others f) (bytes_of buf f))

  pub some_same : (f : ℕ) → is_some (job_from jobs f) ≡ is_some (job_from others f)
  some_same f = some_of_shape (job_from jobs f) ∙ ap is_some (from_same f) ∙ sym (some_of_shape (job_from others f))

  pub sources_same : sources jobs ≡ sources others
  sources_same = sources_of_shapes jobs ∙ ap (map (λ (x : Shape). x.0.0)) same ∙ sym (sources_of_shapes others)

  pub targets_same : targets jobs ≡ targets others
  targets_same = targets_of_shapes jobs ∙ ap (map (λ (x : Shape). x.1)) same ∙ sym (targets_of_shapes others)

  pub length_same : length jobs ≡ length others
  length_same = length_of_shapes jobs ∙ ap length same ∙ sym (length_of_shapes others)

pub drawn_copied : (w : ℕ) (jobs : List Job) → AreCopied jobs → AreCopied (draw_job w jobs)
drawn_copied w [] h = tt
drawn_copied w (job ∷ jobs) h =
    elim (is_laid job.stage) as (λ b. AreCopied (if b then record job { stage = InHand w } ∷ jobs else job ∷ draw_job w jobs)) [
      | true ↦ (λ e. cc, h.1)
      | false ↦ (h.0, drawn_copied w jobs h.1)
    ]

pub given_copied : (t : ℕ) (jobs : List Job) → AreCopied jobs → AreCopied (give_job t jobs)
given_copied t [] h = tt
given_copied zero (job ∷ jobs) h = (λ e. refl, h.1)
given_copied (suc t) (job ∷ jobs) h = (h.0, given_copied t jobs h.1)

-- how many of the buffers of jobs are a frame's
pub jobs_hold : (f : ℕ) (jobs : List Job) → length (flat_map (job_holds f) jobs) ≡ times f (sources jobs) + times f (targets jobs)
jobs_hold f [] = refl
jobs_hold f (job ∷ jobs) =
    let ih = jobs_hold f jobs in
    let one : length (job_holds f job) ≡ here f job.source.0 + here f job.target.0 =
    elim (job.source.0 == f) as (λ a. length ((if a then InJob job.stage ∷ [] else []) ++ (if job.target.0 == f then InJob job.stage ∷ [] else [])) ≡ cond a 1 0 + here f job.target.0) [
      | true ↦ elim (job.target.0 == f) as (λ b. length ((InJob job.stage ∷ []) ++ (if b then InJob job.stage ∷ [] else [])) ≡ 1 + cond b 1 0) [ true ↦ refl | false ↦ refl ]
      | false ↦ elim (job.target.0 == f) as (λ b. length ([] ++ (if b then InJob job.stage ∷ [] else [])) ≡ 0 + cond b 1 0) [ true ↦ refl | false ↦ refl ]
    ] in
    let both : length (job_holds f job ++ flat_map (job_holds f) jobs) ≡ length (job_holds f job) + length (flat_map (job_holds f) jobs) = length-append (job_holds f job) (flat_map (job_holds f) jobs) in
    let s = times_cons f job.source.0 (sources jobs) in
    let t = times_cons f job.target.0 (targets jobs) in
    omega (arith, both, one, ih, s, t)

-- a frame is the source of a job, or not
pub source_times : (jobs : List Job) (f : ℕ) → is_some (job_from jobs f) ≡ true → 1 ≤ times f (sources jobs)
source_times [] f h = cc
source_times (job ∷ jobs) f h =
    let s = times_cons f job.source.0 (sources jobs) in
    elim (job.source.0 == f) as (λ b. (job.source.0 == f) ≡ b → is_some (cond b (Some job) (job_from jobs f)) ≡ true → 1 ≤ times f (sources (job ∷ jobs))) [
      | true ↦ λ b h. let one : here f job.source.0 ≡ 1 = ap (λ c. cond c 1 0) b in omega (arith, one, s)
      | false ↦ λ b h. let ih = source_times jobs f h in omega (arith, ih, s)
    ] refl h

pub no_source_times : (jobs : List Job) (f : ℕ) → is_some (job_from jobs f) ≡ false → times f (sources jobs) ≡ 0
no_source_times [] f h = refl
no_source_times (job ∷ jobs) f h =
    let s = times_cons f job.source.0 (sources jobs) in
    elim (job.source.0 == f) as (λ b. (job.source.0 == f) ≡ b → is_some (cond b (Some job) (job_from jobs f)) ≡ false → times f (sources (job ∷ jobs)) ≡ 0) [
      | true ↦ λ b h. cc
      | false ↦ λ b h. let none : here f job.source.0 ≡ 0 = ap (λ c. cond c 1 0) b in let ih = no_source_times jobs f h in omega (arith, none, ih, s)
    ] refl h

pub goes_nowhere : (jobs : List Job) (f : ℕ) → is_some (job_from jobs f) ≡ false → goes_to jobs f ≡ f
goes_nowhere jobs f h =
    elim (job_from jobs f) as (λ o. is_some o ≡ false → unwrap_or (option_map (λ (job : Job). job.target.0) o) f ≡ f) [
      | None ↦ λ h. refl
      | Some job ↦ λ h. cc
    ] h

pub content_home : (buf : Store) (jobs : List Job) (f : ℕ) → is_some (job_from jobs f) ≡ false → content buf jobs f ≡ bytes_of buf f
content_home buf jobs f h =
    elim (job_from jobs f) as (λ o. is_some o ≡ false → unwrap_or (option_map (λ (job : Job). job.source.1) o) (bytes_of buf f) ≡ bytes_of buf f) [
      | None ↦ λ h. refl
      | Some job ↦ λ h. cc
    ] h
