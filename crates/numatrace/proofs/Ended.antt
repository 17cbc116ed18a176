-- How the program ends.
use Rattle.std.proofs.Common.{◌≡◌, ℕ, List, [], Bool, ◌||◌, Option, Result, Ok, Err, subst, sym, ◌∙◌, inl, inr, arith}
use Rattle.std.specs.Prelude.{OnOk, is_err}
use Rattle.std.specs.Io.KnownBytes.{Appends}
use Rattle.clap.specs.Words.{Kinds}
use Rattle.nm_steps.specs.declared.trace_error.TraceError.{TraceError}
use Rattle.nm_steps.specs.declared.trace_error.TraceError.TheVariants.{NotJson, BadMachine, BadStep, ReadFault, WriteFault, HostMemory}
use Rattle.numatrace.specs.Status.{RunsTrace, WritesText, status_of}

-- what was written whole, or not since the writer failed
pub prints : {X F : Type 0} (old new : Option (List ℕ)) (before failed : Bool) (text : List ℕ) (r : Result X F)
    → OnOk r (Appends old new text) → failed ≡ (is_err r || before) → WritesText old new failed text
prints old new before failed text (Ok done) whole printed = inl whole
prints old new before failed text (Err e) whole printed = inr printed

-- a run after words that are refused for no cause
pub run_after : {R W E : Type 0} (remaining : R → Option (List ℕ)) (read_failed : R → Bool) (gave : R → R → ℕ → Type 0)
    (contents : W → Option (List ℕ)) (write_failed : W → Bool) (refusals : Kinds) (status : ℕ) (r s : R) (w v : W) (e f : E)
    → refusals ≡ [] → RunsTrace remaining read_failed gave contents write_failed [] status r s w v e f
    → RunsTrace remaining read_failed gave contents write_failed refusals status r s w v e f
run_after remaining read_failed gave contents write_failed refusals status r s w v e f none h =
    subst (λ (kinds : Kinds). RunsTrace remaining read_failed gave contents write_failed kinds status r s w v e f) (sym none) h

-- no fault ends in status 0
pub not_done : (e : TraceError) (status : ℕ) → status ≡ status_of e → status ≡ 0 → ⊥
not_done NotJson status is zero = let bad : 2 ≡ 0 = sym is ∙ zero in omega (arith, bad)
not_done BadMachine status is zero = let bad : 2 ≡ 0 = sym is ∙ zero in omega (arith, bad)
not_done (BadStep k) status is zero = let bad : 2 ≡ 0 = sym is ∙ zero in omega (arith, bad)
not_done ReadFault status is zero = let bad : 4 ≡ 0 = sym is ∙ zero in omega (arith, bad)
not_done WriteFault status is zero = let bad : 4 ≡ 0 = sym is ∙ zero in omega (arith, bad)
not_done (HostMemory k) status is zero = let bad : 3 ≡ 0 = sym is ∙ zero in omega (arith, bad)
