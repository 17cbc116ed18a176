-- Handles in walks. Assumes `Logic`.
--     E                  the box of a session, under short names
--     H, Raw             the rows of a handle and of a session's raw box. A handle with a session owns what the session's box does, by definition
--     null_word          the machine value of a handle without a session
--     opens, empty       the steps that take a handle apart, by whether it has a session, and that make one without
use Rattle.std.proofs.Common.{◌≡◌, ℕ, List, [], ◌∷◌, ◌++◌, refl, ap, ◌∙◌}
use seplogic.Ra.Ura.{Ura}
use base.Fraction.{full_share}
use base.Logic.{guard_i}
use base.Fml.{ftrue}
use mir.Raw.{raw as bare}
use mir.Syntax.{impl, tnil, dnil}
use mir.Val.{Val, vnull, vstruct, vcons, vnil, of_list}
use types.Logic.{Logic, sem}
use types.Kit.{Item, Goal, Seq, Step, step, ‵, given, ◌$◌, move, drop, learn, use1, fsplit, fjoin, fpick, fpack, feq_i, feq_l}
use contract.Monad.{fact_use}
use denote.Builtin.{RawPtr}
use denote.Memory.{part_at}
use denote.RattleType.{RattleType, Valss}
use denote.RawPtr.{Ptr, block_ptr, null_ptr, ptr_val, Testable}
use denote.Steps.{nothing}
use denote.Struct.Struct.{within}
use denote.Struct.Owning.{shape, to}
use Rattle.core.proofs.alloc.Calls.{Fits, token, handle_tells}
use Rattle.std.specs.declared.option.Option.{Option}
use Rattle.std.specs.declared.option.Option.TheVariants.{None, Some}
use Rattle.std.specs.declared.alloc.Global.{Global}
use Rattle.std.specs.contracts.alloc.Global as heap
use Rattle.std.proofs.alloc.Global.TheLaws as heap_laws
use Rattle.std.specs.contracts.impls.GlobalAllocator.TheImpl.{ghosts}
use Rattle.std.proofs.GlobalToken.{dealloc_token-Testable}
use Rattle.std_alloc.proofs.BoxSteps.Form.{Bx, R, P, τ, handle, word}
use Rattle.std_alloc.proofs.BoxSteps.Steps.{box_out}
use Rattle.nm_library.specs.contracts.handle.OpenSession as contents
use Rattle.nm_library.proofs.handle.OpenSession.TheLaws as contents_laws
use Rattle.nm_library.specs.contracts.handle.Handle as a_handle
use Rattle.nm_library.specs.contracts.raw_box.RawBox as raw_box

abbrev pub E : Bx
E = record { row = contents.the_row; laws = contents_laws.the_row_laws; al = record { row = heap.the_row; laws = heap_laws.the_row_laws; g = ghosts; d = impl [] tnil dnil; drops = impl [] tnil dnil } }

abbrev pub H : RattleType
H = a_handle.the_row

abbrev pub Raw : RattleType
Raw = raw_box.the_row contents.the_row heap.the_row ghosts

abbrev pub null_word : Val → Val
null_word h = vstruct (vcons vnull (vcons h vnil))

module _ {M : Type 1} {𝓤 : Ura M} {𝓛 : Logic 𝓤} {K : Type 0} {Γ : List (Item 𝓤)} {G : Goal 𝓤 𝓛.H} where
  pub opens : K → (p : Ptr) (a : Global) (value : Option contents.the_row.Denot) (vs : List Val)
      → (value ≡ None → (h : Val) → vs ≡ null_word h ∷ [] → Fits E.al h → Seq K 𝓛 (‵ (handle E a h) ∷ Γ) G)
      → ((x : contents.the_row.Denot) → value ≡ Some x → (b o : ℕ) (h : Val) → vs ≡ word E h b o ∷ [] → Fits E.al h → Testable (block_ptr b o)
      → Seq K 𝓛 (‵ (token E.al a (bare (τ E)) (block_ptr b o)) ∷ ‵ (part_at (R E) full_share x b o) ∷ ‵ (handle E a h) ∷ Γ) G)
      → Seq K 𝓛 (‵ (H.own_val (record { at = p; alloc = a; value = value }) vs) ∷ Γ) G
  opens t p a None vs no_session a_session =
      fsplit t $ move t (1 ∷ []) $ fpick t (λ is_null. drop t $
      fpick t (λ parts. fsplit t $ feq_l t (λ whole. fsplit t $ feq_l t (λ first. fsplit t $ handle_tells E.al t a parts.1.0 (λ h second fits. move t (1 ∷ []) $ drop t $
      no_session refl h (whole ∙ (λ i. vstruct (of_list ((first ∙ ap (λ (q : Ptr). ptr_val q ∷ []) is_null) i ++ (second i ++ []))) ∷ [])) fits)))))
  opens t p a (Some x) vs no_session a_session =
      box_out E t (record { ptr = p; alloc = a; value = x }) vs (λ b o h e is fits. move t (1 ∷ []) $
      use1 𝓛 (given (Testable (block_ptr b o)) (‵ (token E.al a (bare (τ E)) (block_ptr b o))))
      (fact_use 𝓤 (Testable (block_ptr b o)) (dealloc_token-Testable 𝓛 a (bare (τ E)) (block_ptr b o)) (guard_i 𝓤 (Testable (block_ptr b o)) (sem 𝓛 (token E.al a (bare (τ E)) (block_ptr b o))))) $
      learn t (λ testable. a_session x refl b o h is fits testable))

  pub empty : K → (a : Global) (h : Val)
      → Step K 𝓛 (‵ (H.own_val (record { at = null_ptr; alloc = a; value = None }) (null_word h ∷ [])) ∷ Γ) G (‵ (handle E a h) ∷ Γ) G
  empty t a h = step (λ s.
      nothing t $ fpack t (null_ptr ≡ null_ptr) (λ _. ftrue) refl $ nothing t $ move t (2 ∷ 0 ∷ []) $ fjoin t $
      feq_i t (List Val) (vnull ∷ []) (vnull ∷ []) refl $ fjoin t $ feq_i t (List Val) (null_word h ∷ []) (null_word h ∷ []) refl $ fjoin t $
      fpack t (Valss (RawPtr ∷ P E ∷ [])) (within (shape a_handle.the_type) (to a_handle.the_type (record { at = null_ptr; alloc = a; value = None })) (null_word h ∷ [])) (vnull ∷ [], (h ∷ [], tt)) $ fjoin t $ s)
