-- The box is taken apart.
use Rattle.std.proofs.Common.{List, [], ◌∷◌, ◌++◌, refl, sym, subst}
use mir.Val.{Val}
use mir.MapTy.{inst_fn}
use base.Logic.{ent, id⊢}
use prog.Wp.{WpFn}
use types.Kit.{‵, ◌$◌, ◌∵◌, !, qed, move, drop, split, join, done, fsplit, fjoin, suffices, ◌⊛◌}
use types.Run.{stop, fld, of_opd, no_more, and_then, returns, enter}
use types.ByLocal.{alloc_all, pass_all, free_all, look_at, get, get_in, sets, lands_as}
use types.Part.{agg, sub, whole}
use contract.Running.{tables}
use denote.Exit.{no}
use denote.RattleType.{owns}
use denote.RawPtr.{block_ptr}
use denote.Signature.{types_at, plain}
use denote.Steps.{nothing}
use denote.Triple.Call.{calls_at}
use denote.Triple.Walked.{Stays, stay_dropped, walk_of, says, ends_at}
use Rattle.core.proofs.alloc.Calls.{Goes-blank, handle_tells}
use Rattle.core.proofs.atomic.Steps.{fm}
use Rattle.std.proofs.raw_atomic.Walks.{proved_at}
use Rattle.std_alloc.proofs.BoxSteps.Form.{Bx, B, word, box_typed}
use Rattle.std_alloc.proofs.BoxSteps.Steps.{box_in}
use Rattle.std_alloc.proofs.boxed.Box.into_raw_with_allocator.Met.{met}
use Rattle.nm_library.proofs.RawBoxes.{Box, inst, tokens, lives, Into, parted, lends, falls}
use Rattle.nm_library.specs.contracts.raw_box.RawBox.of as f
use Rattle.nm_library.proofs.raw_box.RawBox.of.Statement.{statement}
use Rattle.nm_library.proofs.raw_box.RawBox.of.Code as code

pub of_spec : {M : Type 1} → statement M
of_spec 𝓤 𝓛 𝓜 𝓡 wired T A L LA g d dx dd allocator glue glued =
    let E : Bx = record { row = T; laws = L; al = record { row = A; laws = LA; g = g; d = d; drops = dd } } in
    let 𝓣 = tables 𝓤 𝓛.H 𝓜 𝓡 𝓡.env in let fn = inst_fn (inst E dx) code.function in
    let En = f.ended T A g d dx dd in let c = f.clauses T A g d dx dd 𝓛 𝓜.mem 𝓡.returns in
    let stayed : Stays En.signature.params En.kept = (stay_dropped (plain (λ _. B E)) no, tt) in
    proved_at 𝓛 En stayed c 𝓜 𝓡 (Goes-blank 𝓛 2 (plain (λ _. B E)) no (λ κs x w. tt), tt) (f.Key.name (inst E dx)) fn
    (code.unfolded 𝓤 𝓛.H 𝓜 𝓡 wired (T, (A, tt)) d dx dd) (λ y are.
    let κs = y.0.0 in let qs = y.0.1 in let x = y.0.3.0 in let vs = y.0.4.0 in let Post = (walk_of 𝓛 En stayed c).post y in
    qed 𝓛 ((tokens E 𝓛 𝓜.mem 𝓡.returns κs qs ⊛ ‵ (owns (types_at En.signature.params κs) y.0.3 y.0.4)) ∷ lives E 𝓛 𝓜.mem 𝓡.returns κs qs ∷ []) ∵
    split ! $ move ! (1 ∷ []) $ fsplit ! $ handle_tells (Box E) ! x vs (λ w is fits.
    -- [the box; nothing; the tokens; what the parameters outlive]
    move ! (1 ∷ []) $ drop ! $
    suffices ! _ (subst (λ (us : List Val). ent 𝓤 (WpFn 𝓤 𝓛.H 𝓣.C 𝓣.Λ fn (w ∷ []) Post) (WpFn 𝓤 𝓛.H 𝓣.C 𝓣.Λ fn (us ++ []) Post)) (sym is) (id⊢ 𝓤 _)) $
    enter ! 𝓣.C 𝓣.Λ fn (w ∷ []) Post $ alloc_all ! (λ l. pass_all ! refl (fits, tt) $
    sets ! (of_opd ! (get ! refl)) refl fits $ lends E dx 𝓛 𝓜.mem 𝓡.returns κs qs x w ! $
    calls_at ! (fm 𝓛 𝓜 𝓡) (Into E dx 𝓛 𝓜.mem 𝓡.returns) (met 𝓤 𝓛 𝓜 𝓡 (code.calls-std_alloc::boxed::Box::into_raw_with_allocator 𝓡.env wired) T A L LA g d dd dx allocator glued glue)
    (parted E dx 𝓛 𝓜.mem 𝓡.returns κs qs x w) (and_then ! (get ! refl) (no_more !)) (λ u. falls E dx 𝓛 𝓜.mem 𝓡.returns κs qs x w ! tt u (λ b o h same held.
    let typed = box_typed E h b o held in
    lands_as ! same refl typed $
    sets ! (of_opd ! (get_in ! (fld ! refl (stop !)) (sub ! 0 refl (whole !)))) refl (tt, tt) $
    sets ! (of_opd ! (get_in ! (fld ! refl (stop !)) (sub ! 1 refl (whole !)))) refl held $
    sets ! (of_opd ! (get ! refl)) refl held $ sets ! (agg ! (and_then ! (get ! refl) (and_then ! (get ! refl) (no_more !)))) refl typed $
    returns ! (look_at ! 0 refl) $ free_all ! refl $
    box_in E ! (record { ptr = block_ptr b o; alloc = x.alloc; value = x.value }) b o x.value refl refl $
    suffices ! _ (ends_at 𝓛 En stayed c y (word E h b o) (record { at = block_ptr b o; alloc = x.alloc; value = x.value }) ((tt, (tt, tt)), tt) (tt, tt)) $ says ! refl $
    nothing ! $ nothing ! $ fjoin ! $ join ! $ move ! (1 ∷ 0 ∷ []) $ join ! $ done !)))))
