use Rattle.std.proofs.lemmas.List.{length-map, length-append, reverse-append, reverse-reverse, map-append}
use Rattle.std.proofs.Common.{[], ◌∷◌, ◌++◌, map, reverse, List, Some, ap, ◌∙◌, arith, ◌≡◌, length, sym, append_assoc}
use Rattle.nm_frames.specs.declared.job.CopyJob.{CopyJob}
use Rattle.std.proofs.Common.{Option}
use Rattle.nm_board.proofs.Filled.{no_empty, all_back}
use Rattle.nm_board.proofs.slots.refill.Goals as goal

turned : {A : Type 0} (all slots rs : List (Option A)) (xs : List A) → slots ≡ all → rs ≡ reverse slots → length xs ≡ 0 → all ≡ map Some xs ++ reverse rs
turned all slots rs [] e r z = sym (ap reverse r ∙ (reverse-reverse slots ∙ e))
turned all slots rs (x ∷ xs) e r z = absurd (omega arith)

one_back : {A : Type 0} (all zs ws : List (Option A)) (xs ys : List A) (b : A) → all ≡ map Some xs ++ reverse zs → zs ≡ ws ++ Some b ∷ [] → ys ≡ xs ++ b ∷ [] → all ≡ map Some ys ++ reverse ws
one_back all zs ws xs ys b e took put =
    e ∙ (ap (λ l. map Some xs ++ reverse l) took ∙ (ap (λ l. map Some xs ++ l) (reverse-append ws (Some b ∷ []))
    ∙ (sym (append_assoc (map Some xs) (Some b ∷ []) (reverse ws)) ∙ ap (λ l. l ++ reverse ws) (sym (map-append Some xs (b ∷ [])) ∙ ap (map Some) (sym put)))))

pub unreachable-requires : goal.unreachable-requires
unreachable-requires g c = no_empty c.args.laid.now.value.items c.loop-slot.room.items c.pop.new.self.items
    (c.loop-slot.invariant.0 ∙ ap (λ (l : List (Option (CopyJob _))). map Some c.loop-slot.room.items ++ reverse l) (c.in-Some.ensures.items ∙ ap (λ (s : Option (CopyJob _)). c.pop.new.self.items ++ s ∷ []) c.in-None.is))

pub returns : goal.returns
returns g c = all_back c.args.laid.now.value.items c.loop-slot.room.items c.loop-slot.slots.items c.loop-slot.invariant.0 (omega (arith, c.in_default.ensures.cases.0))

pub loop-slot-init : goal.loop-slot-init
loop-slot-init g c = (
  turned _ _ _ c.args.room.now.items c.requires.slots c.reverse.ensures.items (omega (arith, c.requires.room.0)),
  omega (arith, c.reverse.ensures.len, c.requires.room.0, c.requires.room.1, ap length c.requires.slots, length-map c.args.laid.now.value.items Some),
)

pub push_reserved-requires : goal.push_reserved-requires
push_reserved-requires g c = omega (arith, c.loop-slot.invariant.1, ap length c.in-Some.ensures.items, length-append c.pop.new.self.items (c.in-Some.slot ∷ []))

pub loop-slot-smaller : goal.loop-slot-smaller
loop-slot-smaller g c = omega (arith, ap length c.in-Some.ensures.items, length-append c.pop.new.self.items (c.in-Some.slot ∷ []))

pub loop-slot-preserved : goal.loop-slot-preserved
loop-slot-preserved g c = (
  one_back _ _ _ _ _ c.in-Some-slot.job c.loop-slot.invariant.0 (c.in-Some.ensures.items ∙ ap (λ (s : Option (CopyJob _)). c.pop.new.self.items ++ s ∷ []) c.in-Some-slot.is) c.push_reserved.ensures.items,
  omega (arith, c.loop-slot.invariant.1, ap length c.in-Some.ensures.items, length-append c.pop.new.self.items (c.in-Some.slot ∷ []), c.push_reserved.ensures.len, c.push_reserved.ensures.capacity),
)
