use Rattle.std.proofs.Common.{◌≡◌, ℕ, ◌+◌, ◌<◌, List, [], ◌∷◌, ◌++◌, length, get_or, map, take, sym, ap, ◌∙◌, arith}
use Rattle.std.proofs.lemmas.List.{length-drop, map_more, take_all}
use Rattle.nm_runs.specs.Shown.{class_shown}
use Rattle.nm_runs.proofs.classes.classes_of.Goals as goal

-- the image of one more element is at the end
map_push : {X Y : Type 0} (f : X → Y) (xs : List X) (i : ℕ) (x : X) (ys zs : List Y) (y : Y) → i < length xs → x ≡ get_or xs i x → y ≡ f x → ys ≡ map f (take i xs) → zs ≡ ys ++ y ∷ []
    → zs ≡ map f (take (i + 1) xs)
map_push f xs i x ys zs y lt is e h push =
    push ∙ ap (λ front. front ++ y ∷ []) h ∙ ap (λ last. map f (take i xs) ++ last ∷ []) (e ∙ ap f is) ∙ sym (map_more f xs i x lt)

pub loop-request-init : goal.loop-request-init
loop-request-init g c = record {
  classes = c.in_ok-classes.ensures.items;
  last = tt;
  room = omega (arith, c.in_ok-classes.ensures.len, c.in_ok-classes.ensures.capacity);
}

pub classify_next-found-requires-clause-frames : goal.classify_next-found-requires-clause-frames
classify_next-found-requires-clause-frames g c = c.requires.frames

pub classify_next-found-requires-clause-last : goal.classify_next-found-requires-clause-last
classify_next-found-requires-clause-last g c = c.loop-request.invariant.last

pub push_reserved-requires : goal.push_reserved-requires
push_reserved-requires g c =
    let left = length-drop c.loop-request.request-index c.args.wanted.now in
    omega (arith, left, c.loop-request.invariant.room, c.loop-request-test.true)

pub loop-request-smaller : goal.loop-request-smaller
loop-request-smaller g c = omega (arith, c.loop-request-test.true)

pub loop-request-preserved : goal.loop-request-preserved
loop-request-preserved g c =
    let i = c.loop-request.request-index in
    let items = c.args.wanted.now in
    let left = length-drop i items in
    let less = length-drop (i + 1) items in
    record {
      classes =
          map_push (class_shown c.args.geometry.now (g.V.PageView.seen_at c.args.view.now) (g.V.PageView.placed_at c.args.view.now) c.args.target) items i c.request-item.result
          c.loop-request.classes.items c.push_reserved.new.self.items c.classify_next-found.result.1 c.loop-request-test.true c.request-item.is c.classify_next-found.ensures.class c.loop-request.invariant.classes c.push_reserved.ensures.items;
      last = c.classify_next-found.ensures.class ∙ ap (class_shown c.args.geometry.now (g.V.PageView.seen_at c.args.view.now) (g.V.PageView.placed_at c.args.view.now) c.args.target) (sym c.classify_next-found.ensures.wanted);
      room = omega (arith, left, less, c.loop-request.invariant.room, c.loop-request-test.true, c.push_reserved.ensures.len, c.push_reserved.ensures.capacity);
    }

pub returns-clause-classes : goal.returns-clause-classes
returns-clause-classes g c =
    c.loop-request.invariant.classes
    ∙ ap (map (class_shown c.args.geometry.now (g.V.PageView.seen_at c.args.view.now) (g.V.PageView.placed_at c.args.view.now) c.args.target))
    (take_all c.loop-request.request-index c.args.wanted.now c.loop-request-test.false)
