-- What changes of areas alone make of a machine's parts.
use Rattle.std.proofs.Common.{◌≡◌, ℕ, List, [], Bool, sym, ap, subst, ◌∙◌}
use Rattle.std.specs.Prelude.{Option, None, Result, Ok, Err}
use Rattle.nm_types.specs.declared.errno.Errno.{Errno}
use Rattle.nm_types.specs.declared.area.Policy.{Policy}
use Rattle.nm_types.specs.declared.machine_error.MachineError.{MachineError}
use Rattle.nm_types.specs.declared.machine_error.MachineError.TheVariants.{Refused, HostMemory}
use Rattle.nm_types.specs.Does.{Makes}
use Rattle.nm_model.specs.definitions.Areas.{with_segment, with_area, with_policy}
use Rattle.nm_model.specs.definitions.Areas.{Mapping}
use Rattle.nm_spaces.specs.views.AddressSpaces.{AddressSpacesView, mapped_of, table_of, with_mapped}
use Rattle.nm_pool.specs.views.Frames.{FramesView}
use Rattle.nm_engine.specs.views.Shown.{shown_by, paged_frames}
use Rattle.nm_model.specs.definitions.Effect.{map_refusal, attach_refusal}
use Rattle.nm_model.specs.definitions.Sound.{IsSound}
use Rattle.nm_engine.specs.views.RunState.{IsSoundMachine}
use Rattle.nm_engine.proofs.MidRun.AreaCalls.{kept_mapped}
use Rattle.nm_laws.proofs.Soundness.Called.{map_sound, attach_sound}
use Rattle.nm_laws.proofs.Soundness.Policed.{policy_sound}

-- a call either did nothing, or was not refused and did its work
made_or_same : {T P : Type 0} {old new after : Mapping} {refusal : Option Errno} (r : Result T MachineError) → Makes r old new refusal after → (new ≡ old → P) → (refusal ≡ None → new ≡ after → P) → P
made_or_same (Ok value) h same made = made h.0 h.1
made_or_same (Err (Refused errno)) h same made = same h.1
made_or_same (Err HostMemory) h same made = same h

module _ (y z : AddressSpacesView) (k : FramesView) (online : List ℕ) (moved failed : ℕ) (is : z ≡ with_mapped y (mapped_of z)) (kept : IsSoundMachine (shown_by y k online moved failed) k.vacated y.frames) where
  kept_same : mapped_of z ≡ mapped_of y → IsSoundMachine (shown_by z k online moved failed) k.vacated z.frames
  kept_same same = subst (λ (w : AddressSpacesView). IsSoundMachine (shown_by w k online moved failed) k.vacated w.frames) (sym (is ∙ ap (with_mapped y) same)) kept

  -- so a call leaves the machine sound if what it makes does
  pub kept_either : {T : Type 0} {after : Mapping} {refusal : Option Errno} (r : Result T MachineError) → Makes r (mapped_of y) (mapped_of z) refusal after
      → (refusal ≡ None → mapped_of z ≡ after → IsSoundMachine (shown_by z k online moved failed) k.vacated z.frames) → IsSoundMachine (shown_by z k online moved failed) k.vacated z.frames
  kept_either r done made = made_or_same r done kept_same made

  kept_after : (m : Mapping) → mapped_of z ≡ m → k.vacated ≡ [] → (IsSound (shown_by y k online moved failed) → IsSound (shown_by (with_mapped y m) k online moved failed)) → IsSoundMachine (shown_by z k online moved failed) k.vacated z.frames
  kept_after m now none keeps =
      subst (λ (w : AddressSpacesView). IsSoundMachine (shown_by w k online moved failed) k.vacated w.frames) (sym (is ∙ ap (with_mapped y) now))
      (kept_mapped y.processes (table_of y) (paged_frames y k) online moved failed (table_of (with_mapped y m)) none kept keeps)

  pub kept_inserted : (pid address pages : ℕ) (shared : Bool) → k.vacated ≡ [] → map_refusal (shown_by y k online moved failed) pid address pages ≡ None
      → mapped_of z ≡ with_segment (mapped_of y) pid address pages shared → IsSoundMachine (shown_by z k online moved failed) k.vacated z.frames
  kept_inserted pid address pages shared none fine now =
      kept_after (with_segment (mapped_of y) pid address pages shared) now none (λ sound. map_sound (shown_by y k online moved failed) pid address pages shared sound fine)

  pub kept_attached : (pid address segment offset pages : ℕ) → k.vacated ≡ [] → attach_refusal (shown_by y k online moved failed) pid address segment offset pages ≡ None
      → mapped_of z ≡ with_area (mapped_of y) pid address segment offset pages → IsSoundMachine (shown_by z k online moved failed) k.vacated z.frames
  kept_attached pid address segment offset pages none fine now =
      kept_after (with_area (mapped_of y) pid address segment offset pages) now none (λ sound. attach_sound (shown_by y k online moved failed) pid address segment offset pages sound fine)

-- a policy that is set keeps a machine sound, also between the beginning and the end of a run
pub kept_policed : (y z : AddressSpacesView) (k : FramesView) (online : List ℕ) (moved failed : ℕ) → IsSoundMachine (shown_by y k online moved failed) k.vacated y.frames → (pid first end : ℕ) (policy : Policy)
    → z ≡ with_mapped y (with_policy (mapped_of y) pid first end policy) → IsSoundMachine (shown_by z k online moved failed) k.vacated z.frames
kept_policed y z k online moved failed kept pid first end policy now =
    subst (λ (w : AddressSpacesView). IsSoundMachine (shown_by w k online moved failed) k.vacated w.frames) (sym now)
    (record { sound = policy_sound (shown_by y k online moved failed) k.vacated pid first end policy kept.sound; as_many = kept.as_many })
