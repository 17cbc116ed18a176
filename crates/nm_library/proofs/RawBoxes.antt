-- Raw boxes in walks. Assumes `Logic`.
--     Raw, boxed       the row of a `RawBox`, and the box of the same parts: it owns the same, by definition
--     inst             the instance of a method at a box's parameters, of which the element's drop is `dx`
--     Box              a box as an allocator's handle is seen: one machine value, of its type
--     tokens, lives    the tokens of the two parameters' lifetimes, and that the parameters outlive them
--     From, asked      the contract of `Box::from_raw`, and what it binds in a call
--     hands            the step before that call: the block and the allocator's handle are handed over.     has       the step after it: a box of the value
use Rattle.std.proofs.Common.{◌≡◌, ℕ, List, [], ◌∷◌, refl, sym, ap, subst}
use seplogic.Ra.Ura.{Ura}
use base.Fraction.{full_share}
use mir.Raw.{raw as bare}
use mir.Syntax.{Args, Dict, a_type, dcons, dnil}
use mir.Val.{Val, vptr}
use base.Logic.{SProp, id⊢}
use base.Fml.{ftrue, flft}
use prog.Memory.{Memory}
use prog.Routine.{Routine}
use types.Logic.{Logic}
use types.Kit.{Item, Goal, Soaks, Seq, Step, step, ‵, raw, ◌⊛◌, some, later, ◌$◌, move, drop, use1, split, split3, group, join, fjoin, rewrite, feq_i, await, pick}
use contract.BorrowLft.{◌⊑◌}
use contract.Lifetimes.{Lfts, Shares}
use contract.Monad.{Fun, fact}
use denote.Param.{bounded}
use denote.Param.Laws.{param_laws}
use denote.RattleType.{RattleType}
use denote.Builtin.{RawPtr}
use denote.Memory.{part_at}
use denote.RawPtr.{Ptr, block_ptr}
use denote.Struct.Tuple.{Tuple}
use denote.Steps.{nothing, only, heard}
use denote.Triple.Clauses.{Lasts, lasts}
use denote.Triple.Spec.{triple_of}
use denote.Triple.Statement.{Contract}
use Rattle.core.proofs.alloc.Calls.{Al, Fits, token, handle_tells}
use Rattle.std_alloc.specs.Box.Ownership.{box_owns}
use Rattle.std_alloc.specs.contracts.boxed.Box.from_raw as from_raw
use Rattle.std_alloc.specs.contracts.boxed.Box.into_raw_with_allocator as into_raw
use Rattle.std_alloc.proofs.boxed.Box.TheLaws as box_laws
use Rattle.std_alloc.proofs.BoxSteps.Form.{Bx, D, R, P, B, τ, handle, word}
use Rattle.std_alloc.proofs.BoxSteps.Steps.{box_out}
use Rattle.nm_library.specs.contracts.raw_box.RawBox as raw_box

module _ (E : Bx) where
  abbrev pub Raw : RattleType
  Raw = raw_box.the_row (R E) (P E) E.al.g

  abbrev pub boxed : Raw.Denot → D E
  boxed r = record { ptr = r.at; alloc = r.alloc; value = r.value }

  abbrev pub inst : Dict → Args
  inst dx = bounded (a_type ∷ a_type ∷ []) (E.row, (E.al.row, tt)) (dcons E.al.d (dcons dx (dcons E.al.drops dnil)))

  abbrev pub Box : Al
  Box = record { row = B E; laws = box_laws.the_row_laws (R E) (P E) E.al.g (param_laws 0 E.row E.laws) (param_laws 1 E.al.row E.al.laws); g = record { dealloc_token = λ x τ p. ftrue }; d = E.al.d; drops = E.al.drops }

module _ (E : Bx) {M : Type 1} {𝓤 : Ura M} (𝓛 : Logic 𝓤) (mem : Memory → SProp 𝓤) (run : Routine → Fun 𝓤) where
  abbrev pub From : Contract 𝓤
  From = triple_of 𝓛 (from_raw.signature E.row E.al.row E.al.g E.al.d E.al.drops) (from_raw.spec E.row E.al.row E.al.g E.al.d E.al.drops 𝓛 mem run)

  module _ (κs : Lfts 2) (qs : Shares 2) where
    abbrev pub tokens : Item 𝓤
    tokens = ‵ (flft κs.0 qs.0) ⊛ ‵ (flft κs.1.0 qs.1.0) ⊛ ‵ ftrue

    abbrev pub lives : Item 𝓤
    lives = raw (fact 𝓤 (κs.0 ⊑ E.row.lives)) ⊛ raw (fact 𝓤 (κs.1.0 ⊑ E.al.row.lives)) ⊛ ‵ ftrue

    module _ (a : E.al.row.Denot) (x : E.row.Denot) (b o : ℕ) (h : Val) where
      abbrev pub asked : From.Ghost
      asked = ((κs, qs, tt, (a, (block_ptr b o, tt)), (h ∷ [], (vptr b o ∷ [], tt))), x)

      module _ {K : Type 0} {Γ : List (Item 𝓤)} {G : Goal 𝓤 𝓛.H} where
        -- [the block; the handle; the tokens; what outlives them] for what the call asks for
        pub hands : K → Step K 𝓛 (raw (From.pre asked) ∷ Γ) G (‵ (box_owns (token E.al a) (R E) (block_ptr b o) x) ∷ ‵ (handle E a h) ∷ tokens ∷ lives ∷ Γ) G
        hands t = step (λ s.
            move t (3 ∷ []) $ split3 t $ move t (0 ∷ 1 ∷ 3 ∷ 2 ∷ []) $ group t 3 $
            -- [what it requires; nothing; the handle; the tokens]
            move t (1 ∷ []) $ feq_i t (List Val) (vptr b o ∷ []) (vptr b o ∷ []) refl $ fjoin t $
            move t (2 ∷ 0 ∷ []) $ fjoin t $ move t (2 ∷ 0 ∷ []) $ join t $ join t $ use1 𝓛 (raw (From.pre asked)) (id⊢ 𝓤 _) $ s)

        -- what the call left for [the box; the tokens]
        pub has : K → Soaks G → (u : Val) → ((r : (B E).Denot) → r.value ≡ x → Fits (Box E) u → Seq K 𝓛 (‵ ((B E).own_val r (u ∷ [])) ∷ tokens ∷ Γ) G)
            → Seq K 𝓛 (raw (From.post asked u) ∷ Γ) G
        has t z u k =
            use1 𝓛 (later (some (λ (r : (B E).Denot). (tokens ⊛ ‵ ((B E).own_val r (u ∷ []))) ⊛ some (λ (ws : Lasts (from_raw.ended E.row E.al.row E.al.g E.al.d E.al.drops) κs asked.0.3).
            ‵ (lasts (from_raw.ended E.row E.al.row E.al.g E.al.d E.al.drops) κs asked.0.3 ws) ⊛ raw (fact 𝓤 (r.value ≡ x)) ⊛ raw (fact 𝓤 (r.alloc ≡ a)))))) (id⊢ 𝓤 (From.post asked u)) $
            await t z $ pick t (λ r. split t $ move t (1 ∷ []) $ pick t (λ ws. split3 t $ drop t $ heard t (r.value ≡ x) (λ same. drop t $
            split t $ move t (1 ∷ []) $ handle_tells (Box E) t r (u ∷ []) (λ v is fits.
            rewrite t 0 (λ (us : List Val). ‵ ((B E).own_val r us)) (sym is) refl $ k r same (subst (Fits (Box E)) (sym (ap only is)) fits)))))

module _ (E : Bx) (dx : Dict) {M : Type 1} {𝓤 : Ura M} (𝓛 : Logic 𝓤) (mem : Memory → SProp 𝓤) (run : Routine → Fun 𝓤) where
  abbrev pub Into : Contract 𝓤
  Into = triple_of 𝓛 (into_raw.signature E.row E.al.row E.al.g E.al.d E.al.drops dx) (into_raw.spec E.row E.al.row E.al.g E.al.d E.al.drops dx 𝓛 mem run)

  abbrev Pair : RattleType
  Pair = Tuple (RawPtr ∷ P E ∷ [])

  module _ (κs : Lfts 2) (qs : Shares 2) (x : D E) (w : Val) where
    abbrev pub parted : Into.Ghost
    parted = ((κs, qs, tt, (x, tt), (w ∷ [], tt)), tt)

    module _ {K : Type 0} {Γ : List (Item 𝓤)} {G : Goal 𝓤 𝓛.H} where
      -- [the box; the tokens; what outlives them] for what the call asks for
      pub lends : K → Step K 𝓛 (raw (Into.pre parted) ∷ Γ) G (‵ ((B E).own_val x (w ∷ [])) ∷ tokens E 𝓛 mem run κs qs ∷ lives E 𝓛 mem run κs qs ∷ Γ) G
      lends t = step (λ s. nothing t $ move t (1 ∷ 0 ∷ []) $ fjoin t $ move t (1 ∷ 0 ∷ []) $ join t $ join t $ use1 𝓛 (raw (Into.pre parted)) (id⊢ 𝓤 _) $ s)

      -- what the call left for [the element; the right to free its block; the handle; the tokens], and the pair of pointer and handle
      pub falls : K → Soaks G → (u : Val) → ((b o : ℕ) (h : Val) → u ≡ word E h b o → Fits E.al h
          → Seq K 𝓛 (‵ (part_at (R E) full_share x.value b o) ∷ ‵ (token E.al x.alloc (bare (τ E)) (block_ptr b o)) ∷ ‵ (handle E x.alloc h) ∷ tokens E 𝓛 mem run κs qs ∷ Γ) G)
          → Seq K 𝓛 (raw (Into.post parted u) ∷ Γ) G
      falls t z u k =
          use1 𝓛 (later (some (λ (r : Ptr × E.al.row.Denot). (tokens E 𝓛 mem run κs qs ⊛ ‵ (Pair.own_val r (u ∷ []))) ⊛ some (λ (ws : Lasts (into_raw.ended E.row E.al.row E.al.g E.al.d E.al.drops dx) κs parted.0.3).
          ‵ (lasts (into_raw.ended E.row E.al.row E.al.g E.al.d E.al.drops dx) κs parted.0.3 ws) ⊛ raw (fact 𝓤 (r.1 ≡ x.alloc)) ⊛ ‵ (box_owns (token E.al x.alloc) (R E) r.0 x.value))))) (id⊢ 𝓤 (Into.post parted u)) $
          await t z $ pick t (λ r. split t $ move t (1 ∷ []) $ pick t (λ ws. split3 t $ drop t $ heard t (r.1 ≡ x.alloc) (λ same.
          move t (1 ∷ []) $ split t $ move t (1 ∷ []) $ rewrite t 0 (λ (a : E.al.row.Denot). ‵ (Pair.own_val (r.0, a) (u ∷ []))) same refl $
          move t (0 ∷ 2 ∷ []) $ fjoin t $ box_out E t (record { ptr = r.0; alloc = x.alloc; value = x.value }) (u ∷ []) (λ b o h e is fits. k b o h (ap only is) fits))))
