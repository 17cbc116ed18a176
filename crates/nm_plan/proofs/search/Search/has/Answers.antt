use Rattle.std.proofs.Common.{◌≡◌, ℕ, Bool, ap, sym, subst, ◌∙◌, refl, ◌||◌, length, take, drop, true, false, true≢false, List}
use Rattle.std.specs.Prelude.{min}
use Rattle.nm_types.specs.declared.page.Page.{Page}
use Rattle.nm_types.specs.declared.page_move.PageMove.{PageMove}
use Rattle.nm_model.specs.definitions.Decide.{has_moved}
use Rattle.nm_plan.specs.Found.{Ascends}
use Rattle.nm_plan.proofs.Searched.{moved_in_parts, first_few}
use Rattle.nm_plan.proofs.search.Search.has.Goals.{then-is_among_ascending, else-is_among_ascending}
use Rattle.nm_plan.proofs.search.Search.has.Given.{Over}
use Rattle.nm_plan.proofs.search.Search.has.Goals.{After-is_among_ascending}
use Rattle.nm_plan.proofs.search.Search.has.Goals as goal

pub is_among_ascending-requires : goal.is_among_ascending-requires
is_among_ascending-requires g c = subst Ascends (sym c.split_at.ensures.front) c.requires.ascends

-- all moves, where it is known of the first of them and of the few after them whether one is of the page
in_parts : (ts : List PageMove) (n : ℕ) (p : Page) (a b : Bool) → has_moved (take n ts) p ≡ a → has_moved (take 8 (drop n ts)) p ≡ b → has_moved ts p ≡ (a || (b || has_moved (drop 8 (drop n ts)) p))
in_parts ts n p a b first few = moved_in_parts ts n p ∙ ap (λ c. c || (has_moved (take 8 (drop n ts)) p || has_moved (drop 8 (drop n ts)) p)) first ∙ ap (λ c. a || (c || has_moved (drop 8 (drop n ts)) p)) few

-- what is known of the first moves, and of the few after them
front_known : (ts us : List PageMove) (n : ℕ) (p : Page) (found : Bool) → us ≡ take n ts → found ≡ has_moved us p → has_moved (take n ts) p ≡ found
front_known ts us n p found is told = ap (λ (vs : List PageMove). has_moved vs p) (sym is) ∙ sym told

few_known : (ts us : List PageMove) (n few : ℕ) (p : Page) (found : Bool) → us ≡ drop n ts → few ≡ min (length us) 8 → found ≡ has_moved (take few us) p → has_moved (take 8 (drop n ts)) p ≡ found
few_known ts us n few p found is many told =
    ap (λ (vs : List PageMove). has_moved vs p) (sym (ap (take few) is ∙ first_few (drop n ts) few (many ∙ ap (λ (vs : List PageMove). min (length vs) 8) is))) ∙ sym told

front_is : (g : Over) (c : After-is_among_ascending g) → has_moved (take c.args.self.now.ascending c.args.moves.now) c.args.page ≡ c.is_among_ascending.result
front_is g c = front_known c.args.moves.now _ c.args.self.now.ascending c.args.page c.is_among_ascending.result c.split_at.ensures.front c.is_among_ascending.ensures

pub returns-then-is_among : goal.returns-then-is_among
returns-then-is_among g c = elim c.if-is_among_ascending.branch [
  | then-is_among_ascending w ↦
      let front = front_is g (goal.at.returns-then-is_among g c).After-is_among_ascending in
      c.if-is_among.true ∙ sym (in_parts c.args.moves.now c.args.self.now.ascending c.args.page true (has_moved (take 8 (drop c.args.self.now.ascending c.args.moves.now)) c.args.page) (front ∙ w.if-is_among_ascending.true) refl)
  | else-is_among_ascending w ↦
      let few = few_known c.args.moves.now _ c.args.self.now.ascending c.min-few.result c.args.page w.is_among.result c.split_at.ensures.back c.min-few.ensures w.is_among.ensures in
      c.if-is_among.true ∙ sym (in_parts c.args.moves.now c.args.self.now.ascending c.args.page false true (front_is g (goal.at.returns-then-is_among g c).After-is_among_ascending ∙ w.if-is_among_ascending.false) (few ∙ sym w.value-is ∙ c.if-is_among.true))
]

pub returns-else-is_among : goal.returns-else-is_among
returns-else-is_among g c = elim c.if-is_among_ascending.branch [
  | then-is_among_ascending w ↦ absurd (true≢false (sym w.if-is_among_ascending.true ∙ sym w.value-is ∙ c.if-is_among.false))
  | else-is_among_ascending w ↦
      let few = few_known c.args.moves.now _ c.args.self.now.ascending c.min-few.result c.args.page w.is_among.result c.split_at.ensures.back c.min-few.ensures w.is_among.ensures in
      c.contains.ensures ∙ c.requires.later c.args.page ∙ sym (in_parts c.args.moves.now c.args.self.now.ascending c.args.page false false (front_is g (goal.at.returns-else-is_among g c).After-is_among_ascending ∙ w.if-is_among_ascending.false) (few ∙ sym w.value-is ∙ c.if-is_among.false))
]
