use Rattle.std.proofs.Common.{◌≡◌, ◌==◌, true, ℕ, ◌+◌, ◌++◌, List, [], ◌∷◌, map, length, drop, refl, sym, ap, subst, ◌∙◌, arith, length-append, append_assoc}
use Rattle.std.proofs.Math.ListN.{drop_of_length-le}
use Rattle.std.proofs.lemmas.List.{length-map, map-append, append-nil}
use Rattle.std.proofs.lemmas.Bool.Decides.{nat_tests}
use Rattle.std.specs.List.{AllByRecursion}
use Rattle.nm_types.specs.State.{State}
use Rattle.nm_model.specs.views.Asked.{access_shown}
use Rattle.nm_pool.specs.views.Accesses.{pending_shown, HasRoom}
use Rattle.nm_model.specs.definitions.BeforeCopy.{PendingAccess, AllBeforeCopy, before_copy, all_before_copy}
use Rattle.nm_engine.specs.views.RunState.{RunState, with_state}
use Rattle.nm_engine.specs.views.Runs.{accesses_shown}
use Rattle.nm_engine.specs.definitions.Undo.{CanUndo, all_undone}
use Rattle.nm_laws.proofs.Early.Among.{all_early_alike}
use Rattle.nm_laws.proofs.Early.Phases.{pages_of}
use Rattle.nm_laws.proofs.Lists.{drop_item}
use Rattle.nm_engine.proofs.prepared_run.PreparedRun.touch_each.Goals as goal

all_and_one : {X : Type 0} (P : X → Type 0) (xs : List X) (x : X) → AllByRecursion P xs → P x → AllByRecursion P (xs ++ x ∷ [])
all_and_one P [] x all one = (one, tt)
all_and_one P (y ∷ xs) x all one = (all.0, all_and_one P xs x all.1 one)

pub loop-access-init : goal.loop-access-init
loop-access-init g c =
    let none = c.in_ok-all_due.ensures.items in
    let shown = map (λ a. access_shown {A = g.row.A.Denot} a.now) c.args.accesses.now in
    let all : AllBeforeCopy = all_before_copy c.args.self.now.state c.in_ok-moving.moving.keys shown in
    record {
      state = refl;
      all_due = ap (λ ds. map pending_shown ds ++ all.all_due) none;
      room = subst (AllByRecursion HasRoom) (sym none) tt;
      len = ap length none;
      within = omega arith;
      fits = c.in_ok-all_due.ensures.capacity;
      same = refl;
      back = subst (λ us. CanUndo c.args.self.now.state c.args.self.now.left us × (all_undone c.args.self.now.state us ≡ c.args.self.now.state)) (sym c.new-undos.ensures.items) (tt, refl);
    }

pub push_reserved-requires : goal.push_reserved-requires
push_reserved-requires g c =
    let many = c.loop-access.all_due.ok.0 in
    omega (arith, many, c.loop-access.invariant.len, c.loop-access.invariant.fits, c.loop-access-test.true)

pub take_back-requires : goal.take_back-requires
take_back-requires g c =
    let s = c.loop-access.self in
    let left = ap (λ (x : RunState). x.left) c.loop-access.invariant.same in
    let can = c.touch_early.ensures.back (subst (λ (l : List ℕ). CanUndo s.state l c.loop-access.undos.items) (sym left) c.loop-access.invariant.back.0) in
    subst (λ (l : List ℕ). CanUndo c.touch_early.new.self.state l c.touch_early.new.undos.items) (sym (ap (λ (x : RunState). x.left) c.in-Err.ensures.err)) can.0

pub returns-in-Err-clause-err : goal.returns-in-Err-clause-err
returns-in-Err-clause-err g c =
    let s = c.loop-access.self in
    let n = c.touch_early.new.self in
    let left = ap (λ (x : RunState). x.left) c.loop-access.invariant.same in
    let can = c.touch_early.ensures.back (subst (λ (l : List ℕ). CanUndo s.state l c.loop-access.undos.items) (sym left) c.loop-access.invariant.back.0) in
    let then : State = all_undone n.state c.touch_early.new.undos.items in
    c.take_back.ensures.back ∙ ap (λ (x : RunState). with_state x then) c.in-Err.ensures.err ∙ ap (λ (x : RunState). with_state x then) c.loop-access.invariant.same
    ∙ ap (with_state c.args.self.now) (can.1 ∙ c.loop-access.invariant.back.1)

pub loop-access-preserved : goal.loop-access-preserved
loop-access-preserved g c =
    let accesses = c.args.accesses.now in
    let k = c.loop-access.access-index in
    let a = c.access-item.result in
    let s = c.loop-access.self in
    let n = c.touch_early.new.self in
    let keys = c.in_ok-moving.moving.keys in
    let rest = map (λ a. access_shown {A = g.row.A.Denot} a.now) (drop (k + 1) accesses) in
    let at = drop_item accesses k a c.loop-access-test.true c.access-item.is in
    let touched = c.in-Ok.ensures.touched in
    let state = ap (λ (x : RunState). x.state) touched.touched in
    let told = map pending_shown c.loop-access.all_due.items in
    let items = c.push_reserved.ensures.items in
    let left = ap (λ (x : RunState). x.left) c.loop-access.invariant.same in
    let can = c.touch_early.ensures.back (subst (λ (l : List ℕ). CanUndo s.state l c.loop-access.undos.items) (sym left) c.loop-access.invariant.back.0) in
    let more = ap length items ∙ length-append c.loop-access.all_due.items _ in
    record {
      state = ap (λ (x : State). (all_before_copy x keys rest).state) state ∙ ap (λ xs. (all_before_copy s.state keys (map (λ a. access_shown {A = g.row.A.Denot} a.now) xs)).state) (sym at) ∙ c.loop-access.invariant.state;
      all_due =
          ap (λ ds. map pending_shown ds ++ (all_before_copy n.state keys rest).all_due) items
          ∙ ap (λ ds. ds ++ (all_before_copy n.state keys rest).all_due) (map-append pending_shown c.loop-access.all_due.items _)
          ∙ append_assoc told _ _
          ∙ ap (λ (x : State). told ++ pending_shown c.in-Ok.due ∷ (all_before_copy x keys rest).all_due) state
          ∙ ap (λ (d : PendingAccess). told ++ d ∷ (all_before_copy (before_copy s.state keys (access_shown a.now)).state keys rest).all_due) touched.due
          ∙ ap (λ xs. told ++ (all_before_copy s.state keys (map (λ a. access_shown {A = g.row.A.Denot} a.now) xs)).all_due) (sym at) ∙ c.loop-access.invariant.all_due;
      room = subst (AllByRecursion HasRoom) (sym items) (all_and_one HasRoom c.loop-access.all_due.items c.in-Ok.due c.loop-access.invariant.room touched.room);
      len = omega (arith, more, c.loop-access.invariant.len);
      within = omega (arith, c.loop-access-test.true);
      fits = omega (arith, c.push_reserved.ensures.capacity, c.loop-access.invariant.fits);
      same = touched.touched ∙ ap (λ (x : RunState). with_state x ((before_copy s.state keys (access_shown a.now)).state)) c.loop-access.invariant.same ∙ ap (with_state c.args.self.now) (sym state);
      back = (subst (λ (l : List ℕ). CanUndo n.state l c.touch_early.new.undos.items) left can.0, can.1 ∙ c.loop-access.invariant.back.1);
    }

pub returns-clause-touched : goal.returns-clause-touched
returns-clause-touched g c =
    let accesses = c.args.accesses.now in
    let keys = c.in_ok-moving.moving.keys in
    let shown = accesses_shown {A = g.row.A.Denot} accesses in
    let told = map pending_shown c.loop-access.all_due.items in
    let ends = drop_of_length-le accesses (omega (arith, c.loop-access-test.false)) in
    let alike = all_early_alike keys (pages_of c.args.moves.now) c.in_ok-moving.ensures.pages shown c.args.self.now.state in
    let many = c.loop-access.all_due.ok.0 in
    let all : length shown ≡ length accesses = length-map accesses _ in
    record {
      touched =
          c.loop-access.invariant.same
          ∙ ap (with_state c.args.self.now) (ap (λ xs. (all_before_copy c.loop-access.self.state keys (accesses_shown {A = g.row.A.Denot} xs)).state) (sym ends) ∙ c.loop-access.invariant.state ∙ ap (λ (x : AllBeforeCopy). x.state) alike);
      all_due =
          sym (append-nil told)
          ∙ ap (λ xs. told ++ (all_before_copy c.loop-access.self.state keys (accesses_shown {A = g.row.A.Denot} xs)).all_due) (sym ends) ∙ c.loop-access.invariant.all_due
          ∙ ap (λ (x : AllBeforeCopy). x.all_due) alike;
      room = c.loop-access.invariant.room;
      len = omega (arith, many, all, c.loop-access.invariant.len, c.loop-access.invariant.within, c.loop-access-test.false);
    }

-- without accesses nothing is made ready
no_access : {X : Type 0} (xs : List X) → true ≡ (length xs == 0) → xs ≡ []
no_access [] is = refl
no_access (x ∷ xs) is = absurd (grind (arith, nat_tests))

pub returns-then-is_empty-clause-touched : goal.returns-then-is_empty-clause-touched
returns-then-is_empty-clause-touched g c =
    let none = no_access c.args.accesses.now (sym c.if-is_empty.true ∙ c.is_empty.ensures) in
    let early = ap (λ xs. all_before_copy c.args.self.now.state (pages_of c.args.moves.now) (accesses_shown {A = g.row.A.Denot} xs)) (sym none) in
    record {
      touched = ap (λ (e : AllBeforeCopy). with_state c.args.self.now e.state) early;
      all_due = ap (map pending_shown) c.in_ok-all_due.ensures.items ∙ ap (λ (e : AllBeforeCopy). e.all_due) early;
      room = subst (AllByRecursion HasRoom) (sym c.in_ok-all_due.ensures.items) tt;
      len = c.in_ok-all_due.ensures.len ∙ ap (λ xs. length xs) (sym none) ∙ sym (length-map c.args.accesses.now _);
    }

pub returns-in-Err-clause-allocates : goal.returns-in-Err-clause-allocates
returns-in-Err-clause-allocates g c = omega (arith, c.loop-access-test.true)
