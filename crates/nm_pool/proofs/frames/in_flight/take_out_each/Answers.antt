use Rattle.std.proofs.Common.{◌≡◌, ◌≢◌, ℕ, ◌+◌, List, [], ◌∷◌, ◌++◌, length, drop, IsSome, refl, ap, sym, subst, ◌∙◌, arith, append_assoc, length-set}
use Rattle.std.specs.Prelude.{Option, None, slice_set, vec_len}
use Rattle.std.specs.Option.{unwrap_or}
use Rattle.std.specs.List.{AllByRecursion}
use Rattle.std.proofs.Math.ListN.{drop_of_length-le}
use Rattle.std.proofs.lemmas.List.{append-nil, get_or-set_other}
use Rattle.nm_frames.specs.declared.job.CopyJob.{CopyJob}
use Rattle.nm_frames.specs.Stores.{StoreView, HasBuffer}
use Rattle.nm_model.specs.definitions.Frames.{Store, IsHome, bytes_of}
use Rattle.nm_types.specs.declared.page_move.PageMove.{PageMove}
use Rattle.nm_pool.specs.views.Copies.{without_move, CanCopy, HasBoth, without_moves, jobs_of}
use Rattle.nm_pool.proofs.Copies.Copied.{both_without}
use Rattle.nm_laws.proofs.Lists.{drop_item}
use Rattle.nm_pool.specs.views.Frames.{in_memory}
use Rattle.nm_pool.proofs.InMemory as memory
use Rattle.nm_pool.proofs.InMemory.{home, has_buffer, bytes_set}
use Rattle.nm_pool.proofs.frames.in_flight.take_out_each.Goals as goal

-- a frame is home as before where the bytes of another go out
home_beside : (store : Store) (f q : ℕ) → f ≢ q → IsHome store q → IsHome (slice_set store f None) q
home_beside store f q apart home = record {
  in_range = omega (arith, length-set store f None, home.in_range);
  here = subst (λ (o : Option (List ℕ)). IsSome o) (sym (get_or-set_other store f q None None (λ e. apart (sym e)))) home.here;
}

-- and its bytes are those from before
same_bytes : (store : Store) (f q : ℕ) → f ≢ q → bytes_of (slice_set store f None) q ≡ bytes_of store q
same_bytes store f q apart = ap (λ (o : Option (List ℕ)). unwrap_or o []) (get_or-set_other store f q None None (λ e. apart (sym e)))

-- what the frames of a move are before its bytes go out, and after those of the first
module _ (store : StoreView) (t : PageMove) where
  abbrev Both : Type 0
  Both = HasBoth (in_memory store) t

  source_out : Both → (mid : StoreView) → mid ≡ record store { bytes = slice_set store.bytes t.from None } → in_memory mid ≡ slice_set (in_memory store) t.from None
  source_out both mid is = bytes_set store t.from mid None (has_buffer store t.from both.0) is

  target_bytes : Both → (mid : StoreView) → mid ≡ record store { bytes = slice_set store.bytes t.from None } → t.from ≢ t.to → bytes_of (in_memory mid) t.to ≡ bytes_of (in_memory store) t.to
  target_bytes both mid is apart = ap (λ (s : Store). bytes_of s t.to) (source_out both mid is) ∙ same_bytes (in_memory store) t.from t.to apart

  target_has : Both → (mid : StoreView) → mid ≡ record store { bytes = slice_set store.bytes t.from None } → t.from ≢ t.to → HasBuffer mid t.to
  target_has both mid is apart = has_buffer mid t.to (ap (λ (bytes : List ℕ). length bytes) (target_bytes both mid is apart) ∙ both.1)

pub take_out-source-requires-clause-home : goal.take_out-source-requires-clause-home
take_out-source-requires-clause-home g c =
    let at = drop_item c.args.moves.now c.loop-taken.taken-index c.taken-item.result c.loop-taken-test.true c.taken-item.is in
    home c.loop-taken.frames c.taken-item.result.from (subst (CanCopy (in_memory c.loop-taken.frames)) at c.loop-taken.invariant.can).0

pub take_out-source-requires-clause-buffer : goal.take_out-source-requires-clause-buffer
take_out-source-requires-clause-buffer g c =
    let at = drop_item c.args.moves.now c.loop-taken.taken-index c.taken-item.result c.loop-taken-test.true c.taken-item.is in
    has_buffer c.loop-taken.frames c.taken-item.result.from (subst (AllByRecursion (HasBoth (in_memory c.loop-taken.frames))) at c.loop-taken.invariant.populated).0.0

pub take_out-target-requires-clause-home : goal.take_out-target-requires-clause-home
take_out-target-requires-clause-home g c =
    let t = c.taken-item.result in
    let store = c.loop-taken.frames in
    let mid = c.take_out-source.new.self in
    let at = drop_item c.args.moves.now c.loop-taken.taken-index t c.loop-taken-test.true c.taken-item.is in
    let can = subst (CanCopy (in_memory store)) at c.loop-taken.invariant.can in
    let both = (subst (AllByRecursion (HasBoth (in_memory store))) at c.loop-taken.invariant.populated).0 in
    home mid t.to (subst (λ (s : Store). IsHome s t.to) (sym (source_out store t both mid c.take_out-source.ensures.out)) (home_beside (in_memory store) t.from t.to can.2 can.1))

pub take_out-target-requires-clause-buffer : goal.take_out-target-requires-clause-buffer
take_out-target-requires-clause-buffer g c =
    let t = c.taken-item.result in
    let store = c.loop-taken.frames in
    let at = drop_item c.args.moves.now c.loop-taken.taken-index t c.loop-taken-test.true c.taken-item.is in
    let can = subst (CanCopy (in_memory store)) at c.loop-taken.invariant.can in
    let both = (subst (AllByRecursion (HasBoth (in_memory store))) at c.loop-taken.invariant.populated).0 in
    target_has store t both c.take_out-source.new.self c.take_out-source.ensures.out can.2

pub loop-taken-preserved : goal.loop-taken-preserved
loop-taken-preserved g c =
    let moves = c.args.moves.now in
    let t = c.taken-item.result in
    let k = c.loop-taken.taken-index in
    let held = c.loop-taken.frames in
    let store = in_memory held in
    let mid = c.take_out-source.new.self in
    let before = c.loop-taken.jobs.items in
    let n = vec_len c.loop-taken.jobs in
    let rest = drop (k + 1) moves in
    let at = drop_item moves k t c.loop-taken-test.true c.taken-item.is in
    let less = ap (λ (ts : List PageMove). length ts) at in
    let can = subst (CanCopy store) at c.loop-taken.invariant.can in
    let both = subst (AllByRecursion (HasBoth store)) at c.loop-taken.invariant.populated in
    let has = target_has held t both.0 mid c.take_out-source.ensures.out can.2 in
    let now : in_memory c.take_out-target.new.self ≡ without_move store t =
    bytes_set mid t.to c.take_out-target.new.self None has c.take_out-target.ensures.out ∙ ap (λ (s : Store). slice_set s t.to None) (source_out held t both.0 mid c.take_out-source.ensures.out) in
    let job : ℕ × List ℕ → ℕ × List ℕ → ℕ → CopyJob g.row.A.Denot = λ s b ticket. record { source = s; target = b; ticket = ticket } in
    let source : ℕ × List ℕ = (t.from, bytes_of store t.from) in
    let target : ℕ × List ℕ = (t.to, bytes_of store t.to) in
    let first = c.take_out-source.ensures.buf ∙ ap (λ bs. (t.from, bs)) (sym (memory.same_bytes held t.from (has_buffer held t.from both.0.0))) in
    let second = c.take_out-target.ensures.buf ∙ ap (λ bs. (t.to, bs)) (sym (memory.same_bytes mid t.to has) ∙ target_bytes held t both.0 mid c.take_out-source.ensures.out can.2) in
    let later = jobs_of {A = g.row.A.Denot} (vec_len c.push_reserved.new.self) (in_memory c.take_out-target.new.self) rest in
    record {
      can = subst (λ (s : Store). CanCopy s rest) (sym now) can.3;
      populated = subst (λ (s : Store). AllByRecursion (HasBoth s) rest) (sym now) (both_without rest store t can.3 both.1);
      frames = ap (λ (s : Store). without_moves s rest) now ∙ ap (without_moves store) (sym at) ∙ c.loop-taken.invariant.frames;
      jobs =
          ap (λ xs. xs ++ later) c.push_reserved.ensures.items
          ∙ append_assoc before (job c.take_out-source.result c.take_out-target.result c.len-ticket.result ∷ []) later
          ∙ ap (λ s. before ++ job s c.take_out-target.result c.len-ticket.result ∷ later) first
          ∙ ap (λ b. before ++ job source b c.len-ticket.result ∷ later) second
          ∙ ap (λ ticket. before ++ job source target ticket ∷ later) c.len-ticket.ensures
          ∙ ap (λ m. before ++ job source target n ∷ jobs_of {A = g.row.A.Denot} m (in_memory c.take_out-target.new.self) rest) c.push_reserved.ensures.len
          ∙ ap (λ (s : Store). before ++ job source target n ∷ jobs_of {A = g.row.A.Denot} (n + 1) s rest) now
          ∙ ap (λ (ts : List PageMove). before ++ jobs_of {A = g.row.A.Denot} n store ts) (sym at) ∙ c.loop-taken.invariant.jobs;
      fits = omega (arith, less, c.loop-taken.invariant.fits, c.push_reserved.ensures.len, c.push_reserved.ensures.capacity);
      room = c.push_reserved.ensures.capacity ∙ c.loop-taken.invariant.room;
    }

pub returns-clause-frames : goal.returns-clause-frames
returns-clause-frames g c =
    ap (without_moves (in_memory c.loop-taken.frames)) (sym (drop_of_length-le c.args.moves.now c.loop-taken-test.false)) ∙ c.loop-taken.invariant.frames

pub returns-clause-jobs : goal.returns-clause-jobs
returns-clause-jobs g c =
    let jobs = c.loop-taken.jobs.items in
    sym (append-nil jobs)
    ∙ ap (λ (ts : List PageMove). jobs ++ jobs_of {A = g.row.A.Denot} (vec_len c.loop-taken.jobs) (in_memory c.loop-taken.frames) ts) (sym (drop_of_length-le c.args.moves.now c.loop-taken-test.false))
    ∙ c.loop-taken.invariant.jobs

pub loop-taken-init : goal.loop-taken-init
loop-taken-init g c = record {
  can = c.requires.can;
  populated = c.requires.populated;
  frames = refl;
  jobs = refl;
  fits = c.requires.room;
  room = refl;
}

pub push_reserved-requires : goal.push_reserved-requires
push_reserved-requires g c =
    let less = ap (λ (ts : List PageMove). length ts) (drop_item c.args.moves.now c.loop-taken.taken-index c.taken-item.result c.loop-taken-test.true c.taken-item.is) in
    omega (arith, less, c.loop-taken.invariant.fits)
