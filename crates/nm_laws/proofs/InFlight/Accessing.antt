-- An access on page tables and buffers is an access on the state that is read.
use Rattle.std.proofs.Common.{◌≡◌, ℕ, ◌+◌, ◌/◌, ◌%◌, ◌≤◌, List, [], ◌∷◌, ◌++◌, Bool, true, false, cond, length, refl, sym, ap, subst, ◌∙◌}
use Rattle.std.specs.Prelude.{Option, Result, Ok, Err}
use Rattle.nm_types.specs.declared.page.Page.{Page}
use Rattle.nm_types.specs.declared.errno.Errno.{Errno}
use Rattle.nm_types.specs.State.{State}
use Rattle.nm_model.specs.definitions.PageTables.{entry_at}
use Rattle.nm_model.specs.definitions.Memory.{mem_range}
use Rattle.nm_model.specs.definitions.Seen.{sight_at}
use Rattle.nm_types.specs.declared.entry.Entry.{Entry}
use Rattle.nm_model.specs.definitions.Touch as state
use Rattle.nm_model.specs.definitions.Touch.{AccessSite, site, Access, Read, Write, Bytes, Done, Held, Refused, AccessAnswer}
use Rattle.nm_model.specs.definitions.Touch.{site_of_access, is_held, access_during}
use Rattle.nm_model.specs.definitions.RunMachine.{RunMachine, state_of}
use Rattle.nm_model.specs.definitions.Accesses.{is_held_at, touch_entry_at, bytes_at, written_at, with_answer, read_entry, write_entry, after_unheld_access, after_access}
use Rattle.nm_laws.proofs.InFlight.Midway.{IsInFlight}
use Rattle.nm_laws.proofs.InFlight.Steps.{Made}
use Rattle.nm_laws.proofs.InFlight.Meeting.{ComesTo, comes_to, Both, held_alike, touched_both, Touched}
use Rattle.nm_laws.proofs.InFlight.Bytes.{reads_alike, writes_alike, written_midway}

-- one more answer changes nothing else
answered_midway : (m : RunMachine) (moved : List Page) (answer : AccessAnswer) → IsInFlight m moved → IsInFlight (with_answer m answer) moved
answered_midway m moved answer h =
    record { moving = h.moving; sound = h.sound; entries = h.entries; pages = h.pages; copies = h.copies; copied = h.copied; buffers = h.buffers; once = h.once }

module _ (m : RunMachine) (moved : List Page) (h : IsInFlight m moved) where
  only_answered : (x y : AccessAnswer) → x ≡ y → Made m (with_answer m x) moved (record { state = state_of m; answer = y })
  only_answered x y e = record { in_flight = answered_midway m moved x h; state = refl; answers = ap (λ z. m.answers ++ z ∷ []) e; jobs = refl; statuses = refl; layout = refl }

  -- what follows from both touches, where both were refused and where both were made
  by_both : (pid v : ℕ) (P : Result RunMachine Errno → Result State Errno → Type 0) → ((e : Errno) → P (Err e) (Err e))
      → ((n : RunMachine) (t : State) → Touched m n moved t pid v → P (Ok n) (Ok t)) → (rm : Result RunMachine Errno) (rs : Result State Errno) → Both m moved pid v rm rs → P rm rs
  unfolding Both
  by_both pid v P refused touched (Err e) (Err x) b = subst (λ y. P (Err e) (Err y)) b (refused e)
  by_both pid v P refused touched (Err e) (Ok t) b = absurd b
  by_both pid v P refused touched (Ok n) (Err x) b = absurd b
  by_both pid v P refused touched (Ok n) (Ok t) b = touched n t b

  read_both : (pid address len : ℕ) → address % 4096 + len ≤ 4096 → (rm : Result RunMachine Errno) (rs : Result State Errno) → Both m moved pid (address / 4096) rm rs
      → Made m (read_entry m pid address len rm) moved (state.read_after (state_of m) pid address len rs)
  read_both pid address len fits = by_both pid (address / 4096) (λ rm rs. Made m (read_entry m pid address len rm) moved (state.read_after (state_of m) pid address len rs))
      (λ e. only_answered (Refused e) (Refused e) refl)
      (λ n t b.
      let bytes = bytes_at n.buf (entry_at n.tasks pid (address / 4096)) (address % 4096) len in
      let same = ap (λ o. bytes_at n.buf o (address % 4096) len) b.there ∙ reads_alike n moved b.in_flight pid address b.entry b.there b.used len fits in
      record {
        in_flight = answered_midway n moved (Bytes bytes) b.in_flight;
        state = b.state;
        answers = ap (λ xs. xs ++ Bytes bytes ∷ []) b.answers ∙ ap (λ bs. m.answers ++ Bytes bs ∷ []) (same ∙ ap (λ s. mem_range s pid address len) b.state);
        jobs = b.jobs;
        statuses = b.statuses;
        layout = b.layout;
      })

  write_both : (pid address : ℕ) (new : List ℕ) → address % 4096 + length new ≤ 4096 → (rm : Result RunMachine Errno) (rs : Result State Errno) → Both m moved pid (address / 4096) rm rs
      → Made m (write_entry m pid address new rm) moved (state.write_after (state_of m) pid address new rs)
  write_both pid address new fits = by_both pid (address / 4096) (λ rm rs. Made m (write_entry m pid address new rm) moved (state.write_after (state_of m) pid address new rs))
      (λ e. only_answered (Refused e) (Refused e) refl)
      (λ n t b.
      let at = λ (o : Option Entry). record n { buf = written_at n.buf o (address % 4096) new } in
      record {
        in_flight = answered_midway (at (entry_at n.tasks pid (address / 4096))) moved Done (subst (λ o. IsInFlight (at o) moved) (sym b.there) (written_midway n moved b.in_flight pid address new b.entry b.there b.used fits));
        state = ap (λ o. state_of (at o)) b.there ∙ writes_alike n moved b.in_flight pid address new b.entry b.there b.used
            ∙ ap (λ s. state.with_bytes s (sight_at s pid (address / 4096)) (address % 4096) new) b.state;
        answers = ap (λ xs. xs ++ Done ∷ []) b.answers;
        jobs = b.jobs;
        statuses = b.statuses;
        layout = b.layout;
      })

  read_made : (pid address len : ℕ) (r : Result AccessSite Errno) → ComesTo (state_of m) pid address len r → is_held_at m r ≡ false
      → Made m (read_entry m pid address len (touch_entry_at m false r)) moved (state.read_after (state_of m) pid address len (state.touch_site (state_of m) false r))
  unfolding ComesTo
  read_made pid address len (Err e) c free = only_answered (Refused e) (Refused e) refl
  read_made pid address len (Ok at) c free =
      read_both pid address len c.fits (touch_entry_at m false (Ok at)) (state.touch_site (state_of m) false (Ok at))
      (subst (λ (z : ℕ × ℕ). Both m moved z.0 z.1 (touch_entry_at m false (Ok at)) (state.touch_site (state_of m) false (Ok at))) (λ j. (c.pid_is j, c.vpn_is j)) (touched_both m moved h at c.spot false free))

  write_made : (pid address : ℕ) (new : List ℕ) (r : Result AccessSite Errno) → ComesTo (state_of m) pid address (length new) r → is_held_at m r ≡ false
      → Made m (write_entry m pid address new (touch_entry_at m true r)) moved (state.write_after (state_of m) pid address new (state.touch_site (state_of m) true r))
  unfolding ComesTo
  write_made pid address new (Err e) c free = only_answered (Refused e) (Refused e) refl
  write_made pid address new (Ok at) c free =
      write_both pid address new c.fits (touch_entry_at m true (Ok at)) (state.touch_site (state_of m) true (Ok at))
      (subst (λ (z : ℕ × ℕ). Both m moved z.0 z.1 (touch_entry_at m true (Ok at)) (state.touch_site (state_of m) true (Ok at))) (λ j. (c.pid_is j, c.vpn_is j)) (touched_both m moved h at c.spot true free))

  made_is : (a : Access) → is_held_at m (site_of_access (state_of m) a) ≡ false → Made m (after_unheld_access m a) moved (state.access (state_of m) a)
  made_is (Read pid address len) free = read_made pid address len (site (state_of m) pid address len) (comes_to (state_of m) pid address len) free
  made_is (Write pid address new) free = write_made pid address new (site (state_of m) pid address (length new)) (comes_to (state_of m) pid address (length new)) free

  -- an access is held alike
  spot_alike : (pid address len : ℕ) (r : Result AccessSite Errno) → ComesTo (state_of m) pid address len r → is_held_at m r ≡ is_held moved r
  unfolding ComesTo
  spot_alike pid address len (Err e) c = refl
  spot_alike pid address len (Ok at) c = held_alike m moved h at c.spot

  held_is : (a : Access) → is_held_at m (site_of_access (state_of m) a) ≡ is_held moved (site_of_access (state_of m) a)
  held_is (Read pid address len) = spot_alike pid address len (site (state_of m) pid address len) (comes_to (state_of m) pid address len)
  held_is (Write pid address new) = spot_alike pid address (length new) (site (state_of m) pid address (length new)) (comes_to (state_of m) pid address (length new))

  cases : (a : Access) (b : Bool) → is_held_at m (site_of_access (state_of m) a) ≡ b → Made m (cond b (with_answer m Held) (after_unheld_access m a)) moved (cond b (record { state = state_of m; answer = Held }) (state.access (state_of m) a))
  cases a true e = only_answered Held Held refl
  cases a false e = made_is a e

  pub accessed_is : (a : Access) → Made m (after_access m a) moved (access_during (state_of m) moved a)
  accessed_is a =
      subst (λ b. Made m (after_access m a) moved (cond b (record { state = state_of m; answer = Held }) (state.access (state_of m) a))) (held_is a)
      (cases a (is_held_at m (site_of_access (state_of m) a)) refl)
