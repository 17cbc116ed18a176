use Rattle.std.proofs.Common.{◌≡◌, ℕ, ◌%◌, ◌++◌, ◌∙◌, false, refl, sym, ap, subst, Some, Ok}
use Rattle.std.specs.Prelude.{Option, IfNone, List, replicate}
use Rattle.nm_types.specs.declared.sight.Sight.TheVariants.{ZeroPage}
use Rattle.nm_model.specs.definitions.Frames.{bytes_of}
use Rattle.nm_model.specs.definitions.Seen.{sight_at}
use Rattle.nm_model.specs.definitions.Memory.{mem_range}
use Rattle.nm_model.specs.definitions.Memory.{stretch_of}
use Rattle.nm_model.specs.definitions.Touch.{AccessResult, Bytes, read, read_after, touch_site}
use Rattle.nm_types.specs.State.{State}
use Rattle.nm_engine.specs.views.Shown.{state_of_parts}
use Rattle.nm_model.specs.definitions.Seen.{frame_seen}
use Rattle.nm_engine.proofs.Does.Touches.{touch_is}
use Rattle.nm_engine.proofs.Shown.Reads.{reads_frame, reads_zeros}
use Rattle.nm_engine.proofs.machine.Machine.read.Goals.{in-Some, in-None}
use Rattle.nm_spaces.specs.views.AddressSpaces.{table_of}
use Rattle.nm_engine.specs.views.Shown.{paged_frames, shown_by}
use Rattle.nm_engine.specs.definitions.Does.{Accesses}
use Rattle.nm_engine.proofs.Does.HandedOn.{read_handed_on}
use Rattle.nm_engine.proofs.Shown.PopulatedFrames.{seen_frame}
use Rattle.nm_engine.proofs.machine.Machine.read.Goals as goal

pub invariant_of-self : goal.invariant_of-self
invariant_of-self g c = let i = c.self.inside in record { kept = c.touch.ensures.kept i.totals.moved i.totals.failed; none = c.touch.ensures.left ∙ c.self.invariant.none }

pub invariant_of-self-2 : goal.invariant_of-self-2
invariant_of-self-2 g c = let i = c.self.inside in record { kept = c.touch.ensures.kept i.totals.moved i.totals.failed; none = c.touch.ensures.left ∙ c.self.invariant.none }

pub read-requires-clause-frame : goal.read-requires-clause-frame
read-requires-clause-frame g c = (seen_frame c.touch.new.spaces c.touch.new.frames c.self.inside.online c.touch.ensures.kept _ c.in-Some.frame (sym c.in_ok-touched.ensures.frame ∙ c.in-Some.is)).0

pub returns-clause-answer : goal.returns-clause-answer
returns-clause-answer g c =
    let i = c.self.inside in
    let y = c.touch.new.spaces in
    let k = c.touch.new.frames in
    let s = state_of_parts i.spaces.processes (table_of i.spaces) (paged_frames i.spaces i.frames) i.online i.totals.moved i.totals.failed in
    let new = state_of_parts y.processes (table_of y) (paged_frames y k) i.online i.totals.moved i.totals.failed in
    let sound = (c.touch.ensures.kept i.totals.moved i.totals.failed).sound in
    let by : State → AccessResult = λ s. read s c.args.pid c.args.addr c.args.len in
    let there = c.in_ok-resolved.ensures.ok in
    let touch_site = touch_is s new c.args.pid c.args.addr c.args.len false _ (there.3 s refl refl) (c.in_ok-touched.ensures.touches i.totals.moved i.totals.failed there.0 there.1 there.2) in
    let done : by s ≡ read_after s c.args.pid c.args.addr c.args.len (Ok new) = ap (read_after s c.args.pid c.args.addr c.args.len) touch_site in
    let bytes : c.match-touched.bytes.items ≡ mem_range new c.args.pid c.args.addr c.args.len = elim c.match-touched.branch [
      | in-Some w ↦
          let seen = ap (λ (x : ℕ × ℕ). frame_seen new x.0 x.1) (λ i. (sym c.in_ok-resolved.ensures.pid i, sym c.in_ok-resolved.ensures.page i)) ∙ sym c.in_ok-touched.ensures.frame ∙ w.in-Some.is in
          ap (λ b. b.items) w.bytes-is ∙ w.read.ensures ∙ ap (λ n. c.in_ok-bytes.bytes.items ++ stretch_of (bytes_of k.frames w.in-Some.frame) n c.args.len) w.offset.ensures.value
          ∙ ap (λ (old : List ℕ). old ++ stretch_of (bytes_of (paged_frames y k).frames w.in-Some.frame) (c.args.addr % 4096) c.args.len) c.in_ok-bytes.ensures.items
          ∙ sym (reads_frame y.processes (table_of y) (paged_frames y k) i.online i.totals.moved i.totals.failed _ sound c.args.pid c.args.addr c.args.len c.in_ok-resolved.ensures.inside w.in-Some.frame seen)
      | in-None w ↦
          let zeros = subst (λ (o : Option ℕ). IfNone o (sight_at new c.in_ok-resolved.resolved.pid c.in_ok-resolved.resolved.vpn ≡ Some ZeroPage)) w.in-None.is c.in_ok-touched.ensures.zeros in
          let seen = ap (λ (x : ℕ × ℕ). sight_at new x.0 x.1) (λ i. (sym c.in_ok-resolved.ensures.pid i, sym c.in_ok-resolved.ensures.page i)) ∙ zeros in
          ap (λ b. b.items) w.bytes-is ∙ w.push_zeros.ensures
          ∙ ap (λ (old : List ℕ). old ++ replicate c.args.len 0) c.in_ok-bytes.ensures.items
          ∙ sym (reads_zeros y.processes (table_of y) (paged_frames y k) i.online i.totals.moved i.totals.failed _ sound c.args.pid c.args.addr c.args.len c.in_ok-resolved.ensures.inside seen)
    ] in
    let at = c.self.view_is in (
      ap (λ (z : State). (by z).answer) (sym at) ∙ ap (λ (z : AccessResult). z.answer) done ∙ ap Bytes (sym bytes),
      sym (ap (λ (z : AccessResult). z.state) done) ∙ ap (λ (z : State). (by z).state) at,
    )

pub returns-in_err-touched-clause-answer : goal.returns-in_err-touched-clause-answer
returns-in_err-touched-clause-answer g c =
    let i = c.self.inside in
    let s = shown_by i.spaces i.frames i.online i.totals.moved i.totals.failed in
    let new = shown_by c.touch.new.spaces c.touch.new.frames i.online i.totals.moved i.totals.failed in
    let there = c.in_ok-resolved.ensures.ok in
    subst (λ (z : State). Accesses c.from_residual-in_err-touched.result (λ bytes. Bytes bytes.items) z new (read z c.args.pid c.args.addr c.args.len)) c.self.view_is
    (read_handed_on c.touch.result c.from_residual-in_err-touched.result _ (λ bytes. Bytes bytes.items) s new c.args.pid c.args.addr c.args.len c.in_err-touched.was c.from_residual-in_err-touched.ensures
    (ap (touch_site s false) (there.3 s refl refl)) (c.touch.ensures.touches i.totals.moved i.totals.failed there.0 there.1 there.2))
