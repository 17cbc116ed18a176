use Rattle.std.proofs.Common.{◌≡◌, [], ◌∷◌, ◌++◌, map, reverse, length, List, Option, Some, refl, sym, ap, ◌∙◌, append_assoc, arith}
use Rattle.std.proofs.lemmas.List.{append-nil, length-append, reverse-append, map-append}
use Rattle.nm_board.proofs.slots.into_slots.Goals as goal

emptied : {A : Type 0} (all rs : List (Option A)) (xs : List A) → all ≡ map Some xs ++ rs → length xs ≡ 0 → rs ≡ all
emptied all rs [] e z = sym e
emptied all rs (x ∷ xs) e z = absurd (omega arith)

one_more : {A : Type 0} (all zs ws : List (Option A)) (xs ys : List A) (b : A) → all ≡ map Some xs ++ reverse zs → xs ≡ ys ++ b ∷ [] → ws ≡ zs ++ Some b ∷ [] → all ≡ map Some ys ++ reverse ws
one_more all zs ws xs ys b e took put =
    e ∙ (ap (λ l. map Some l ++ reverse zs) took ∙ (ap (λ l. l ++ reverse zs) (map-append Some ys (b ∷ []))
    ∙ (append_assoc (map Some ys) (Some b ∷ []) (reverse zs) ∙ ap (λ l. map Some ys ++ l) (sym (reverse-append zs (Some b ∷ [])) ∙ ap reverse (sym put)))))

pub loop-job-init : goal.loop-job-init
loop-job-init g c = (
  sym (ap (λ l. map Some c.args.room.now.items ++ reverse l) c.in_ok-slots.ensures.items ∙ append-nil (map Some c.args.room.now.items)),
  omega (arith, ap length c.in_ok-slots.ensures.items, c.in_ok-slots.ensures.capacity, c.len.ensures),
  refl,
)

pub push_reserved-requires : goal.push_reserved-requires
push_reserved-requires g c = omega (arith, c.loop-job.invariant.1, ap length c.in-Some.ensures.items, length-append c.pop.new.self.items (c.in-Some.job ∷ []))

pub loop-job-smaller : goal.loop-job-smaller
loop-job-smaller g c = omega (arith, ap length c.in-Some.ensures.items, length-append c.pop.new.self.items (c.in-Some.job ∷ []))

pub loop-job-preserved : goal.loop-job-preserved
loop-job-preserved g c = (
  one_more _ _ _ _ _ c.in-Some.job c.loop-job.invariant.0 c.in-Some.ensures.items c.push_reserved.ensures.items,
  omega (arith, c.loop-job.invariant.1, ap length c.in-Some.ensures.items, length-append c.pop.new.self.items (c.in-Some.job ∷ []), c.push_reserved.ensures.len, c.push_reserved.ensures.capacity),
  c.in-Some.ensures.capacity ∙ c.loop-job.invariant.2,
)

pub returns-clause-ok : goal.returns-clause-ok
returns-clause-ok g c = (c.reverse.ensures.items ∙ emptied _ _ c.loop-job.room.items c.loop-job.invariant.0 (omega (arith, c.in_default.ensures.cases.0)), c.in_default.ensures.cases.1)

pub returns-clause-room : goal.returns-clause-room
returns-clause-room g c = c.in_default.ensures.capacity ∙ c.loop-job.invariant.2
