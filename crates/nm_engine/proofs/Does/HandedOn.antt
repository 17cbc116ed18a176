-- What a call says of an error that it hands on.
use Rattle.std.proofs.Common.{◌≡◌, ℕ, false, ap, sym, subst, ◌∙◌}
use Rattle.std.proofs.lemmas.Bool.{false≢true}
use Rattle.std.specs.Prelude.{Option, None, Result, Ok, Err}
use Rattle.std.specs.Result.{IsErr, IsErrAnd}
use Rattle.nm_types.specs.declared.errno.Errno.{Errno}
use Rattle.nm_types.specs.declared.machine_error.MachineError.{MachineError}
use Rattle.nm_types.specs.declared.machine_error.MachineError.TheVariants as error
use Rattle.nm_types.specs.State.{State}
use Rattle.nm_model.specs.definitions.Touch.{AccessAnswer, read, read_after, touch}
use Rattle.nm_engine.specs.definitions.Does.{Accesses, Makes, AsksLast, Touches}

-- a call that is not refused may ask for memory
pub may_ask : {T : Type 0} (r : Result T MachineError) (refusal : Option Errno) → refusal ≡ None → AsksLast r refusal
may_ask (Ok value) refusal none = tt
may_ask (Err (error.Refused e)) refusal none = tt
may_ask (Err error.HostMemory) refusal none = none

-- what a call within the call says of memory, where both refusals are defined to be the same
pub memory_handed_on : {T U : Type 0} (q : Result T MachineError) (r : Result U MachineError) (e : MachineError) {f g : Option Errno} → q ≡ Err e → IsErr r × IsErrAnd r (λ x. x ≡ e) → g ≡ f → AsksLast q f → AsksLast r g
memory_handed_on q (Ok v) e is h same t = tt
memory_handed_on {T} {U} q (Err x) e {f} {g} is h same t =
    subst (λ k. AsksLast {T = U} (Err x) k) (sym same) (subst (λ z. AsksLast {T = U} (Err z) f) (sym h.1) (subst (λ z. AsksLast {T = T} z f) is t))

-- the error that is handed on is that of the call within
pub error_was : {T U : Type 0} (q : Result T MachineError) (r : Result U MachineError) (e x : MachineError) → q ≡ Err e → IsErr r × IsErrAnd r (λ y. y ≡ e) → r ≡ Err x → q ≡ Err x
error_was q (Ok v) e x is h told = absurd (false≢true h.0)
error_was q (Err y) e x is h told = let same : y ≡ x = cc in is ∙ ap Err (sym h.1 ∙ same)

-- a call that succeeds, or is refused, does not lack memory
pub not_lacking : {T P : Type 0} (value : T) → ◌≡◌ {A = Result T MachineError} (Ok value) (Err error.HostMemory) → P
not_lacking value told = absurd (cc)

pub only_refused : {T P : Type 0} (e : Errno) → ◌≡◌ {A = Result T MachineError} (Err (error.Refused e)) (Err error.HostMemory) → P
only_refused e told = absurd (cc)

-- no memory, and nothing changed
pub nothing_touched : {T : Type 0} (r : Result T MachineError) (old new : State) (f : Result State Errno) → IsErr r × IsErrAnd r (λ x. x ≡ error.HostMemory) → new ≡ old → Touches r old new f
nothing_touched (Ok v) old new f h same = absurd (false≢true h.0)
nothing_touched {T} (Err x) old new f h same = subst (λ z. Touches {T = T} (Err z) old new f) (sym h.1) same

pub nothing_made : {T S : Type 0} (r : Result T MachineError) (old new after : S) (refusal : Option Errno) → IsErr r × IsErrAnd r (λ x. x ≡ error.HostMemory) → new ≡ old → Makes r old new refusal after
nothing_made (Ok v) old new after refusal h same = absurd (false≢true h.0)
nothing_made {T} {S} (Err x) old new after refusal h same = subst (λ z. Makes {T = T} {S = S} (Err z) old new refusal after) (sym h.1) same

-- what a touch within the touch says, where both are defined to be the same
pub touch_handed_on : {T U : Type 0} (q : Result T MachineError) (r : Result U MachineError) (e : MachineError) (old new : State) {f g : Result State Errno} → q ≡ Err e → IsErr r × IsErrAnd r (λ x. x ≡ e)
    → g ≡ f → Touches q old new f → Touches r old new g
touch_handed_on q (Ok v) e old new is h same t = absurd (false≢true h.0)
touch_handed_on {T} {U} q (Err x) e old new {f} {g} is h same t =
    subst (λ k. Touches {T = U} (Err x) old new k) (sym same) (subst (λ z. Touches {T = U} (Err z) old new f) (sym h.1) (subst (λ z. Touches {T = T} z old new f) is t))

-- what a read says of a touch that is refused, or lacks memory
pub read_handed_on : {T U : Type 0} (q : Result T MachineError) (r : Result U MachineError) (e : MachineError) (shown : U → AccessAnswer) (old new : State) (pid address len : ℕ) {f : Result State Errno} → q ≡ Err e
    → IsErr r × IsErrAnd r (λ x. x ≡ e) → touch old pid address len false ≡ f → Touches q old new f → Accesses r shown old new (read old pid address len)
read_handed_on q (Ok v) e shown old new pid address len is h same t = absurd (false≢true h.0)
read_handed_on {T} q (Err (error.Refused x)) e shown old new pid address len {f} is h same t =
    let told = subst (λ z. Touches {T = T} (Err z) old new f) (sym h.1) (subst (λ z. Touches {T = T} z old new f) is t) in
    (ap (λ z. (read_after old pid address len z).answer) (same ∙ told.0), told.1)
read_handed_on {T} q (Err error.HostMemory) e shown old new pid address len {f} is h same t =
    subst (λ z. Touches {T = T} (Err z) old new f) (sym h.1) (subst (λ z. Touches {T = T} z old new f) is t)
