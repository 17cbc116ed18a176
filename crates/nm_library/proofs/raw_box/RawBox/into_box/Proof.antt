-- The box of the parts is made again.
use Rattle.std.proofs.Common.{List, [], ◌∷◌, ◌++◌, refl, sym, subst}
use mir.Val.{Val}
use mir.MapTy.{inst_fn}
use base.Logic.{ent, id⊢}
use prog.Wp.{WpFn}
use types.Kit.{‵, ◌$◌, ◌∵◌, !, qed, move, drop, split, join, done, fsplit, fjoin, suffices, at_ret, ◌⊛◌}
use types.Run.{stop, fld, of_opd, no_more, and_then, first, blocks, exec, returns, enter}
use types.ByLocal.{alloc_all, pass_all, free_all, look_at, get, get_in, sets, lands_last, env}
use types.Part.{sub, whole}
use contract.Running.{tables}
use denote.Exit.{no}
use denote.RattleType.{owns}
use denote.Signature.{types_at, plain}
use denote.Steps.{nothing}
use denote.Triple.Call.{calls_at_last}
use denote.Triple.Walked.{Stays, stay_dropped, walk_of, says, ends_at}
use Rattle.core.proofs.alloc.Calls.{Goes-blank}
use Rattle.core.proofs.alloc.Shapes.{after}
use Rattle.core.proofs.atomic.Steps.{fm}
use Rattle.std.proofs.raw_atomic.Walks.{proved_at}
use Rattle.std_alloc.proofs.BoxSteps.Form.{Bx, word, box_typed}
use Rattle.std_alloc.proofs.BoxSteps.Steps.{box_out}
use Rattle.std_alloc.proofs.boxed.Box.from_raw.Met.{met}
use Rattle.nm_library.proofs.RawBoxes.{Raw, boxed, inst, tokens, lives, From, asked, hands, has}
use Rattle.nm_library.specs.contracts.raw_box.RawBox.into_box as f
use Rattle.nm_library.proofs.raw_box.RawBox.into_box.Statement.{statement}
use Rattle.nm_library.proofs.raw_box.RawBox.into_box.Code as code

pub into_box_spec : {M : Type 1} → statement M
into_box_spec 𝓤 𝓛 𝓜 𝓡 wired T A L LA g d dx dd allocator glue glued =
    let E : Bx = record { row = T; laws = L; al = record { row = A; laws = LA; g = g; d = d; drops = dd } } in
    let 𝓣 = tables 𝓤 𝓛.H 𝓜 𝓡 𝓡.env in let fn = inst_fn (inst E dx) code.function in
    let En = f.ended T A g d dx dd in let c = f.clauses T A g d dx dd 𝓛 𝓜.mem 𝓡.returns in
    let stayed : Stays En.signature.params En.kept = (stay_dropped (plain (λ _. Raw E)) no, tt) in
    proved_at 𝓛 En stayed c 𝓜 𝓡 (Goes-blank 𝓛 2 (plain (λ _. Raw E)) no (λ κs x w. tt), tt) (f.Key.name (inst E dx)) fn
    (code.unfolded 𝓤 𝓛.H 𝓜 𝓡 wired (T, (A, tt)) d dx dd) (λ y are.
    let κs = y.0.0 in let qs = y.0.1 in let r = y.0.3.0 in let vs = y.0.4.0 in let Post = (walk_of 𝓛 En stayed c).post y in
    qed 𝓛 ((tokens E 𝓛 𝓜.mem 𝓡.returns κs qs ⊛ ‵ (owns (types_at En.signature.params κs) y.0.3 y.0.4)) ∷ lives E 𝓛 𝓜.mem 𝓡.returns κs qs ∷ []) ∵
    split ! $ move ! (1 ∷ []) $ fsplit ! $ box_out E ! (boxed E r) vs (λ b o h e is fits. fjoin ! $
    -- [the block; the allocator's handle; nothing; the tokens; what the parameters outlive]
    move ! (2 ∷ []) $ drop ! $ let typed = box_typed E h b o fits in
    suffices ! _ (subst (λ (us : List Val). ent 𝓤 (WpFn 𝓤 𝓛.H 𝓣.C 𝓣.Λ fn (word E h b o ∷ []) Post) (WpFn 𝓤 𝓛.H 𝓣.C 𝓣.Λ fn (us ++ []) Post)) (sym is) (id⊢ 𝓤 _)) $
    enter ! 𝓣.C 𝓣.Λ fn (word E h b o ∷ []) Post $ alloc_all ! (λ l. pass_all ! refl (typed, tt) $
    sets ! (of_opd ! (get_in ! (fld ! refl (stop !)) (sub ! 0 refl (whole !)))) refl (tt, tt) $
    sets ! (of_opd ! (get_in ! (fld ! refl (stop !)) (sub ! 1 refl (whole !)))) refl fits $
    first ! $ blocks ! $ sets ! (of_opd ! (get ! refl)) refl fits $
    hands E 𝓛 𝓜.mem 𝓡.returns κs qs r.alloc r.value b o h ! $
    calls_at_last ! (fm 𝓛 𝓜 𝓡) (From E 𝓛 𝓜.mem 𝓡.returns) (met 𝓤 𝓛 𝓜 𝓡 (code.calls-std_alloc::boxed::Box::from_raw 𝓡.env wired) T A L LA g d dd allocator glued)
    (asked E 𝓛 𝓜.mem 𝓡.returns κs qs r.alloc r.value b o h) (and_then ! (get ! refl) (and_then ! (get ! refl) (no_more !))) (λ u.
    has E 𝓛 𝓜.mem 𝓡.returns κs qs r.alloc r.value b o h ! tt u (λ made same good.
    lands_last ! refl good $ exec ! 𝓣.C 𝓣.Λ (env fn.locals l) (after 3 fn.body) (at_ret _ Post) $
    sets ! (of_opd ! (get ! refl)) refl good $
    returns ! (look_at ! 0 refl) $ free_all ! refl $
    suffices ! _ (ends_at 𝓛 En stayed c y u made ((tt, (tt, tt)), tt) (tt, tt)) $ says ! same $
    nothing ! $ nothing ! $ fjoin ! $ join ! $ move ! (1 ∷ 0 ∷ []) $ join ! $ done !)))))
