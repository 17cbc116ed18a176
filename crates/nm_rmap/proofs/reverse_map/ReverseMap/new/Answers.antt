use Rattle.std.proofs.Common.{◌≡◌, ℕ, ◌+◌, ◌-◌, ◌<◌, ◌≤◌, List, [], ◌∷◌, ◌++◌, replicate, length, refl, sym, ap, ◌∙◌, arith}
use Rattle.std.proofs.lemmas.List.{length-replicate, replicate-append-replicate}
use Rattle.std.proofs.lemmas.List.Folds.{sum_by-replicate}
use Rattle.std.specs.Prelude.{cond, nat_lt}
use Rattle.nm_rmap.specs.Mappers.{Mappers, Mapper, new_map, pinned_count}
use Rattle.nm_rmap.proofs.reverse_map.ReverseMap.new.Goals as goal

one_more : {X : Type 0} (before after : List X) (n : ℕ) (x y : X) → before ≡ replicate n y → x ≡ y → after ≡ before ++ (x ∷ []) → after ≡ replicate (n + 1) y
one_more {X} before after n x y e same is =
    is ∙ ap (λ (zs : List X). zs ++ (x ∷ [])) e ∙ ap (λ (z : X). replicate n y ++ (z ∷ [])) same ∙ replicate-append-replicate n 1 y

none_pinned : (n : ℕ) → pinned_count (replicate n 0) ≡ 0
none_pinned n = omega (arith, sum_by-replicate (λ n. cond (nat_lt 0 n) 1 0) n 0)

smaller : (n frames : ℕ) → n < frames → frames - (n + 1) < frames - n
smaller n frames h = omega arith

at_end : (n frames : ℕ) → n ≤ frames → frames ≤ n → n ≡ frames
at_end n frames h l = omega arith

made : (mappings : List (List Mapper)) (pins : List ℕ) (n frames : ℕ) → mappings ≡ replicate n [] → pins ≡ replicate n 0 → n ≡ frames
    → record { mappings = mappings; pins = pins } ≡ new_map frames
made mappings pins n frames m p e =
    let both : List (List Mapper) → List ℕ → Mappers = λ ss ns. record { mappings = ss; pins = ns } in
    ap (λ (ss : List (List Mapper)). both ss pins) m ∙ ap (both (replicate n [])) p ∙ ap new_map e

pub loop-init : goal.loop-init
loop-init g c = record { mappings = c.in_ok-mappings.ensures.items; pins = c.in_ok-pins.ensures.items }

pub loop-smaller : goal.loop-smaller
loop-smaller g c = smaller c.loop.counter c.args.frames c.loop-test.true

pub loop-preserved : goal.loop-preserved
loop-preserved g c = record {
  mappings = one_more c.loop.mappings.items c.push.new.self.items c.loop.counter c.new.result [] c.loop.invariant.mappings c.new.ensures c.in_ok-push.ensures.items;
  pins = one_more c.loop.pins.items c.push-in-loop.new.self.items c.loop.counter 0 0 c.loop.invariant.pins refl c.in_ok-push-2.ensures.items;
}

pub invariant_of-result : goal.invariant_of-result
invariant_of-result g c =
    let n = c.loop.counter in (
      ap length c.loop.invariant.pins ∙ length-replicate n 0 ∙ sym (ap length c.loop.invariant.mappings ∙ length-replicate n []),
      sym (ap pinned_count c.loop.invariant.pins ∙ none_pinned n),
    )

pub returns-clause-ok : goal.returns-clause-ok
returns-clause-ok g c =
    made c.loop.mappings.items c.loop.pins.items c.loop.counter c.args.frames c.loop.invariant.mappings c.loop.invariant.pins
    (at_end c.loop.counter c.args.frames c.loop.auto.counter-end c.loop-test.false)
