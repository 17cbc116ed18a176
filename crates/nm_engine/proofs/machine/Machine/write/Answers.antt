use Rattle.std.proofs.Common.{◌≡◌, ℕ, List, ◌∙◌, true, refl, sym, ap, subst, length, Some, Ok}
use Rattle.std.specs.Prelude.{slice_set}
use Rattle.std.specs.Result.{result_err}
use Rattle.nm_model.specs.definitions.Frames.{bytes_of, overwrite}
use Rattle.nm_types.specs.State.{State}
use Rattle.nm_pool.specs.views.Frames.{FramesView}
use Rattle.nm_model.specs.definitions.Touch.{AccessResult, touch, touch_site, write, write_after}
use Rattle.nm_engine.specs.views.RunState.{IsSoundMachine}
use Rattle.nm_model.specs.definitions.Seen.{frame_seen}
use Rattle.nm_engine.proofs.Does.Touches.{touch_is, written_is, written_kept}
use Rattle.nm_spaces.specs.views.AddressSpaces.{table_of}
use Rattle.nm_engine.specs.views.Shown.{paged_frames, shown_by}
use Rattle.nm_engine.proofs.Shown.BothParts.{kept_stocked}
use Rattle.nm_engine.proofs.Shown.PopulatedFrames.{seen_frame}
use Rattle.nm_engine.specs.definitions.Does.{AsksLast}
use Rattle.nm_engine.proofs.Does.HandedOn.{memory_handed_on}
use Rattle.nm_engine.proofs.machine.Machine.write.Goals as goal

abbrev overwritten : FramesView → ℕ → List ℕ → ℕ → FramesView
overwritten k frame new at = record k { frames = slice_set k.frames frame (Some (overwrite (bytes_of k.frames frame) at new)) }

pub invariant_of-self : goal.invariant_of-self
invariant_of-self g c = let i = c.self.inside in record { kept = c.touch.ensures.kept i.totals.moved i.totals.failed; none = c.touch.ensures.left ∙ c.self.invariant.none }

pub write-requires-clause-frame : goal.write-requires-clause-frame
write-requires-clause-frame g c = (seen_frame c.touch.new.spaces c.touch.new.frames c.self.inside.online c.touch.ensures.kept _ c.in-Some.frame (sym c.in_ok-touched.ensures.frame ∙ c.in-Some.is)).0

pub write-requires-clause-populated : goal.write-requires-clause-populated
write-requires-clause-populated g c = (seen_frame c.touch.new.spaces c.touch.new.frames c.self.inside.online c.touch.ensures.kept _ c.in-Some.frame (sym c.in_ok-touched.ensures.frame ∙ c.in-Some.is)).1

pub invariant_of-self-2 : goal.invariant_of-self-2
invariant_of-self-2 g c =
    let i = c.self.inside in
    let y = c.touch.new.spaces in
    let k = c.touch.new.frames in
    let kept = c.touch.ensures.kept i.totals.moved i.totals.failed in
    let new = shown_by y k i.online i.totals.moved i.totals.failed in
    let seen = ap (λ (x : ℕ × ℕ). frame_seen new x.0 x.1) (λ i. (sym c.in_ok-resolved.ensures.pid i, sym c.in_ok-resolved.ensures.page i)) ∙ sym c.in_ok-touched.ensures.frame ∙ c.in-Some.is in
    let after : c.write.new.self.vacated ≡ k.vacated = ap (λ (k : FramesView). k.vacated) c.write.ensures.written in
    record {
      none = after ∙ c.touch.ensures.left ∙ c.self.invariant.none;
      kept = subst (λ l. IsSoundMachine (shown_by y c.write.new.self i.online i.totals.moved i.totals.failed) l y.frames) (sym after)
          (written_kept y.processes (table_of y) (paged_frames y k) i.online i.totals.moved i.totals.failed _ c.args.pid c.args.addr c.in-Some.frame c.args.bytes.now (paged_frames y c.write.new.self) kept (kept_stocked y k i.online i.totals.moved i.totals.failed kept c.write.ensures.whole) seen (ap (paged_frames y) (c.write.ensures.written ∙ ap (overwritten k c.in-Some.frame c.args.bytes.now) c.offset.ensures.value)) c.in_ok-resolved.ensures.inside);
    }

pub returns-clause-answer : goal.returns-clause-answer
returns-clause-answer g c =
    let i = c.self.inside in
    let y = c.touch.new.spaces in
    let k = c.touch.new.frames in
    let s = shown_by i.spaces i.frames i.online i.totals.moved i.totals.failed in
    let new = shown_by y k i.online i.totals.moved i.totals.failed in
    let kept = c.touch.ensures.kept i.totals.moved i.totals.failed in
    let by : State → AccessResult = λ s. write s c.args.pid c.args.addr c.args.bytes.now in
    let seen = ap (λ (x : ℕ × ℕ). frame_seen new x.0 x.1) (λ i. (sym c.in_ok-resolved.ensures.pid i, sym c.in_ok-resolved.ensures.page i)) ∙ sym c.in_ok-touched.ensures.frame ∙ c.in-Some.is in
    let there = c.in_ok-resolved.ensures.ok in
    let touch_site = touch_is s new c.args.pid c.args.addr (length c.args.bytes.now) true _ (there.3 s refl refl) (c.in_ok-touched.ensures.touches i.totals.moved i.totals.failed there.0 there.1 there.2) in
    let done : by s ≡ write_after s c.args.pid c.args.addr c.args.bytes.now (Ok new) = ap (write_after s c.args.pid c.args.addr c.args.bytes.now) touch_site in
    let at = c.self.view_is in (
      ap (λ (z : State). (by z).answer) (sym at) ∙ ap (λ (z : AccessResult). z.answer) done,
      written_is y.processes (table_of y) (paged_frames y k) i.online i.totals.moved i.totals.failed _ c.args.pid c.args.addr c.in-Some.frame c.args.bytes.now (paged_frames y c.write.new.self) kept (kept_stocked y k i.online i.totals.moved i.totals.failed kept c.write.ensures.whole) seen (ap (paged_frames y) (c.write.ensures.written ∙ ap (overwritten k c.in-Some.frame c.args.bytes.now) c.offset.ensures.value))
          ∙ sym (ap (λ (z : AccessResult). z.state) done) ∙ ap (λ (z : State). (by z).state) at,
    )

pub returns-in_err-touched-clause-memory : goal.returns-in_err-touched-clause-memory
returns-in_err-touched-clause-memory g c =
    let i = c.self.inside in
    let s = shown_by i.spaces i.frames i.online i.totals.moved i.totals.failed in
    let there = c.in_ok-resolved.ensures.ok in
    subst (λ (z : State). AsksLast c.from_residual-in_err-touched.result (result_err (touch z c.args.pid c.args.addr (length c.args.bytes.now) true))) c.self.view_is
    (memory_handed_on c.touch.result c.from_residual-in_err-touched.result _ c.in_err-touched.was c.from_residual-in_err-touched.ensures (ap (λ x. result_err (touch_site s true x)) (there.3 s refl refl)) (c.touch.ensures.memory i.totals.moved i.totals.failed there.0 there.1 there.2))
