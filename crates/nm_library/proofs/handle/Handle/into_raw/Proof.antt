-- A null handle has no session, and any other has its block.
use Rattle.std.proofs.Common.{◌≡◌, List, [], ◌∷◌, ◌++◌, refl, sym, subst, lit<}
use mir.Val.{Val, vcons, vnil}
use base.Logic.{ent, id⊢}
use base.Fml.{ftrue}
use prog.Wp.{WpFn}
use types.Kit.{‵, ◌$◌, ◌∵◌, !, qed, move, drop, keep, split, join, done, fsplit, fjoin, suffices, use0, use1, at_ret, ◌⊛◌}
use types.Run.{stop, fld, lit, of_opd, bin, no_more, and_then, first, branches, exec, returns, enter}
use types.ByLocal.{alloc_all, pass_all, free_all, look_at, get, get_in, sets, sets_last, env}
use types.Part.{agg, sub, whole}
use types.Match.{live}
use contract.Running.{tables}
use denote.Exit.{yes}
use denote.RattleType.{RattleType, owns}
use denote.Param.{layout}
use denote.RawPtr.{block_ptr, tests_null}
use denote.Signature.{types_at, type_at, plain}
use denote.Steps.{nothing}
use denote.Triple.Walked.{Stays, stay_dropped, walk_of, says, ends_at, Goes-dropped}
use Rattle.core.proofs.alloc.Shapes.{after}
use Rattle.core.proofs.cell.Inside.{Good}
use Rattle.core.proofs.option.Made.{Some-of, none_of}
use Rattle.std.specs.declared.option.Option.TheVariants.{None, Some}
use Rattle.std.proofs.raw_atomic.Walks.{proved_at}
use Rattle.std_alloc.proofs.BoxSteps.Form.{word, box_typed}
use Rattle.std_alloc.proofs.BoxSteps.Steps.{box_in}
use Rattle.std_alloc.proofs.ResultValues.{and_tt}
use Rattle.nm_library.proofs.Handles.{E, H, Raw, null_word, opens}
use Rattle.nm_library.specs.contracts.handle.Handle.into_raw as f
use Rattle.nm_library.proofs.handle.Handle.into_raw.Statement.{statement}
use Rattle.nm_library.proofs.handle.Handle.into_raw.Code as code

abbrev stayed : Stays f.ended.signature.params f.ended.kept
stayed = (stay_dropped (plain (λ _. H)) yes, tt)

pub into_raw_spec : {M : Type 1} → statement M
into_raw_spec 𝓤 𝓛 𝓜 𝓡 wired =
    let 𝓣 = tables 𝓤 𝓛.H 𝓜 𝓡 𝓡.env in let fn = code.function in let c = f.clauses 𝓛 𝓜.mem 𝓡.returns in
    proved_at 𝓛 f.ended stayed c 𝓜 𝓡 (Goes-dropped 𝓛 0 (plain (λ _. H)) yes (λ κs x w. refl), tt) f.Key.name fn (code.unfolded 𝓤 𝓛.H 𝓜 𝓡 wired) (λ y are.
    let Out : RattleType = type_at f.ended.signature.result tt in
    let d = y.0.3.0 in let vs = y.0.4.0 in let Post = (walk_of 𝓛 f.ended stayed c).post y in
    let at_word : (w : Val) → vs ≡ w ∷ [] → ent 𝓤 (WpFn 𝓤 𝓛.H 𝓣.C 𝓣.Λ fn (w ∷ []) Post) (WpFn 𝓤 𝓛.H 𝓣.C 𝓣.Λ fn (vs ++ []) Post) =
    λ w is. subst (λ (us : List Val). ent 𝓤 (WpFn 𝓤 𝓛.H 𝓣.C 𝓣.Λ fn (w ∷ []) Post) (WpFn 𝓤 𝓛.H 𝓣.C 𝓣.Λ fn (us ++ []) Post)) (sym is) (id⊢ 𝓤 _) in
    qed 𝓛 ((‵ ftrue ⊛ ‵ (owns (types_at f.ended.signature.params tt) y.0.3 y.0.4)) ∷ ‵ ftrue ∷ []) ∵
    split ! $ move ! (1 ∷ []) $ fsplit ! $ opens ! d.at d.alloc d.value vs
    (λ none h is fits. keep ! (0 ∷ []) $
    suffices ! _ (at_word (null_word h) is) $
    enter ! 𝓣.C 𝓣.Λ fn (null_word h ∷ []) Post $ alloc_all ! (λ l. pass_all ! refl ((and_tt _ fits.0, (record { fits = lit< tt }, (fits.1, tt))), tt) $
    sets ! (of_opd ! (get_in ! (fld ! refl (stop !)) (sub ! 0 refl (whole !)))) refl (tt, record { fits = lit< tt }) $
    sets ! (of_opd ! (get_in ! (fld ! refl (stop !)) (sub ! 1 refl (whole !)))) refl fits $
    sets ! (bin ! (get ! refl) (lit ! tt) tt) refl (tt, tt) $
    first ! $ branches ! (get ! refl) (λ _.
    sets_last ! (agg ! (and_then ! (lit ! tt) (no_more !))) refl (tt, (record { fits = lit< tt }, tt)) $
    exec ! 𝓣.C 𝓣.Λ (env fn.locals l) (after 4 fn.body) (at_ret _ Post) $
    sets ! (of_opd ! (get ! refl)) refl (tt, (record { fits = lit< tt }, tt)) $
    returns ! (look_at ! 0 refl) $ free_all ! refl $ drop ! $
    use0 𝓛 (‵ (Out.own_val None (live 0 vnil ∷ []))) (none_of 𝓛 Raw) $
    suffices ! _ (ends_at 𝓛 f.ended stayed c y (live 0 vnil) None (tt, tt) (tt, tt)) $ says ! (sym none) $
    nothing ! $ nothing ! $ fjoin ! $ join ! $ nothing ! $ join ! $ done !) (λ wrong. absurd wrong)))
    (λ x one b o h is fits testable. keep ! (1 ∷ 0 ∷ 2 ∷ []) $
    let typed = box_typed E h b o fits in
    suffices ! _ (at_word (word E h b o) is) $
    enter ! 𝓣.C 𝓣.Λ fn (word E h b o ∷ []) Post $ alloc_all ! (λ l. pass_all ! refl (typed, tt) $
    sets ! (of_opd ! (get_in ! (fld ! refl (stop !)) (sub ! 0 refl (whole !)))) refl (tt, tt) $
    sets ! (of_opd ! (get_in ! (fld ! refl (stop !)) (sub ! 1 refl (whole !)))) refl fits $
    sets ! (bin ! (get ! refl) (lit ! tt) (tests_null (block_ptr b o) testable)) refl (tt, tt) $
    first ! $ branches ! (get ! refl) (λ wrong. absurd wrong) (λ _.
    let made : Raw.Denot = record { at = block_ptr b o; alloc = d.alloc; value = x } in
    let w : Val = live 1 (vcons (word E h b o) vnil) in
    let good : Good (layout Out) w = (and_tt _ typed.0, (record { fits = lit< tt }, (typed.1, tt))) in
    sets ! (of_opd ! (get ! refl)) refl (tt, tt) $
    sets ! (agg ! (and_then ! (get ! refl) (and_then ! (get ! refl) (no_more !)))) refl typed $
    sets_last ! (agg ! (and_then ! (lit ! tt) (and_then ! (get ! refl) (no_more !)))) refl good $
    exec ! 𝓣.C 𝓣.Λ (env fn.locals l) (after 4 fn.body) (at_ret _ Post) $
    sets ! (of_opd ! (get ! refl)) refl good $
    returns ! (look_at ! 0 refl) $ free_all ! refl $
    box_in E ! (record { ptr = block_ptr b o; alloc = d.alloc; value = x }) b o x refl refl $
    use1 𝓛 (‵ (Out.own_val (Some made) (w ∷ []))) (Some-of 𝓛 Raw made (word E h b o)) $
    suffices ! _ (ends_at 𝓛 f.ended stayed c y w (Some made) (tt, tt) (tt, tt)) $ says ! (sym one) $
    nothing ! $ nothing ! $ fjoin ! $ join ! $ nothing ! $ join ! $ done !))))
