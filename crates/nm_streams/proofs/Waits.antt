-- Texts that are put into a block one after another.
use Rattle.std.proofs.Common.{◌≡◌, ◌≤◌, ◌+◌, ◌||◌, if◌then◌else◌, length, ℕ, Bool, true, false, List, [], ◌++◌, length-append, Option, Some, Result, Ok, Err, refl, sym, ap, subst, ◌∙◌, append_assoc, append-nil, arith}
use Rattle.std.specs.Prelude.{OnOk, OnErr, is_err}
use Rattle.std.specs.Io.KnownBytes.{Appends}
use Rattle.nm_streams.specs.declared.block.Block.{Block}
use Rattle.nm_streams.specs.Waiting.{BreaksOff, BreaksOffSoon}
use Rattle.nm_streams.specs.Waiting.{Stands, Puts}
use Rattle.nm_streams.proofs.Known.{appends_more, appends_none}

-- what breaks off also breaks off with more behind it
pub breaks_before : (old new : Option (List ℕ)) (text more : List ℕ) → BreaksOff old new text → BreaksOff old new (text ++ more)
breaks_before old new text more h =
    (h.0, h.1 ++ more, sym (append_assoc h.0 h.1 more) ∙ ap (λ t. t ++ more) h.2, omega (arith, h.3, length-append h.1 more), h.4)

-- what is written, and then breaks off
pub breaks_behind : (old mid new : Option (List ℕ)) (front rest text : List ℕ) → front ++ rest ≡ text → Appends old mid front → BreaksOff mid new rest → BreaksOff old new text
breaks_behind old mid new front rest text e p h =
    (front ++ h.0, h.1, append_assoc front h.0 h.1 ∙ ap (λ t. front ++ t) h.2 ∙ e, h.3, appends_more old mid new front h.0 p h.4)

-- ---- one text

-- where there is room for a list and a text, there is for the list with the text behind it, or without
pub appended_within : (is : Bool) (before after text : List ℕ) (room : ℕ) → after ≡ (if is then before ++ text else before)
    → length before + length text ≤ room → length after ≤ room
appended_within true before after text room e few = omega (arith, ap (λ (l : List ℕ). length l) e, length-append before text, few)
appended_within false before after text room e few = omega (arith, ap (λ (l : List ℕ). length l) e, few)

broken_more : (old new : Option (List ℕ)) (is : Bool) (waiting so_far text : List ℕ) → is ≡ true → Stands old new is waiting so_far → Stands old new is waiting (so_far ++ text)
broken_more old new true waiting so_far text e h = breaks_before old new so_far text h
broken_more old new false waiting so_far text e h = absurd (cc)

waits_more : (old new : Option (List ℕ)) (i j : Bool) (before after so_far text : List ℕ) → i ≡ false → j ≡ false → after ≡ before ++ text
    → Stands old new i before so_far → Stands old new j after (so_far ++ text)
waits_more old new false false before after so_far text p q e h =
    (h.0, ap (λ t. h.0 ++ t) e ∙ sym (append_assoc h.0 before text) ∙ ap (λ t. t ++ text) h.1, h.2)
waits_more old new true j before after so_far text p q e h = absurd (cc)
waits_more old new false true before after so_far text p q e h = absurd (cc)

same_failed : (i j before now : Bool) → i ≡ false → j ≡ false → now ≡ (i || before) → now ≡ (j || before)
same_failed i j before now p q h = rw q (rw p at h)

goes_through : {E : Type 0} (r : Result (Unit {0}) E) (old mid new : Option (List ℕ)) (i j : Bool) (before after so_far text : List ℕ)
    → i ≡ false → j ≡ is_err r → OnOk r (Appends mid new (before ++ text)) → OnOk r (after ≡ []) → OnErr r (BreaksOff mid new (before ++ text))
    → Stands old mid i before so_far → Stands old new j after (so_far ++ text)
goes_through (Ok done) old mid new false false before after so_far text p q whole emptied broken h = (
  h.0 ++ (before ++ text),
  ap (λ t. (h.0 ++ (before ++ text)) ++ t) emptied ∙ append-nil (h.0 ++ (before ++ text)) ∙ sym (append_assoc h.0 before text) ∙ ap (λ t. t ++ text) h.1,
  appends_more old mid new h.0 (before ++ text) h.2 whole,
)
goes_through (Err e) old mid new false true before after so_far text p q whole emptied broken h =
    breaks_behind old mid new h.0 (before ++ text) (so_far ++ text) (sym (append_assoc h.0 before text) ∙ ap (λ t. t ++ text) h.1) h.2 broken
goes_through (Ok done) old mid new false true before after so_far text p q whole emptied broken h = absurd (cc)
goes_through (Err e) old mid new false false before after so_far text p q whole emptied broken h = absurd (cc)
goes_through r old mid new true j before after so_far text p q whole emptied broken h = absurd (cc)

fails_through : (i j e before now after : Bool) → i ≡ false → j ≡ e → after ≡ (e || now) → now ≡ (i || before) → after ≡ (j || before)
fails_through i j e before now after p q told h = rw q (told ∙ ap (λ n. e || n) (rw p at h))

module _ {W A : Type 0} (contents : W → Option (List ℕ)) (failed : W → Bool) where
  -- a block that is broken takes nothing
  pub put_broken : (w : W) (b : Block A) (text : List ℕ) → b.is_broken ≡ true → Puts contents failed w b w b text
  put_broken w b text e = record {
    stands = λ old so_far h. broken_more old (contents w) b.is_broken b.waiting.items so_far text e h;
    fails = λ before h. h;
    room = refl;
    within = λ h. h;
  }

  -- a text that waits
  pub put_waits : (w : W) (b c : Block A) (text : List ℕ) → b.is_broken ≡ false → c.is_broken ≡ false → c.waiting.items ≡ b.waiting.items ++ text
      → c.room ≡ b.room → (length b.waiting.items ≤ b.room → length c.waiting.items ≤ c.room) → Puts contents failed w b w c text
  put_waits w b c text p q e room within = record {
    stands = λ old so_far h. waits_more old (contents w) b.is_broken c.is_broken b.waiting.items c.waiting.items so_far text p q e h;
    fails = λ before h. same_failed b.is_broken c.is_broken before (failed w) p q h;
    room = room;
    within = within;
  }

  -- a text that is written with what waited
  pub put_through : {E : Type 0} (r : Result (Unit {0}) E) (w v : W) (b c : Block A) (text : List ℕ) → b.is_broken ≡ false → c.is_broken ≡ is_err r
      → OnOk r (Appends (contents w) (contents v) (b.waiting.items ++ text)) → OnOk r (c.waiting.items ≡ []) → OnErr r (BreaksOff (contents w) (contents v) (b.waiting.items ++ text))
      → failed v ≡ (is_err r || failed w) → c.room ≡ b.room → length c.waiting.items ≤ length b.waiting.items → Puts contents failed w b v c text
  put_through r w v b c text p q whole emptied broken told room within = record {
    stands = λ old so_far h. goes_through r old (contents w) (contents v) b.is_broken c.is_broken b.waiting.items c.waiting.items so_far text p q whole emptied broken h;
    fails = λ before h. fails_through b.is_broken c.is_broken (is_err r) before (failed w) (failed v) p q told h;
    room = room;
    within = λ h. omega (arith, room, within, h);
  }

-- ---- several

module _ {W A : Type 0} {contents : W → Option (List ℕ)} {failed : W → Bool} where
  pub put_none : {w : W} {b : Block A} → Puts contents failed w b w b []
  put_none {w} {b} = record {
    stands = λ old so_far h. subst (Stands old (contents w) b.is_broken b.waiting.items) (sym (append-nil so_far)) h;
    fails = λ before h. h;
    room = refl;
    within = λ h. h;
  }

  pub put_more : {w v u : W} {b c d : Block A} {x y : List ℕ} → Puts contents failed w b v c x → Puts contents failed v c u d y → Puts contents failed w b u d (x ++ y)
  put_more {u = u} {d = d} {x = x} {y = y} p q = record {
    stands = λ old so_far h. subst (Stands old (contents u) d.is_broken d.waiting.items) (append_assoc so_far x y) (q.stands old (so_far ++ x) (p.stands old so_far h));
    fails = λ before h. q.fails before (p.fails before h);
    room = q.room ∙ p.room;
    within = λ h. q.within (p.within h);
  }

  pub put_is : {w v : W} {b c : Block A} {x y : List ℕ} → x ≡ y → Puts contents failed w b v c x → Puts contents failed w b v c y
  put_is {w} {v} {b} {c} e p = subst (Puts contents failed w b v c) e p

-- ---- what stands

stands_whole : (old new : Option (List ℕ)) (is : Bool) (waiting text : List ℕ) → is ≡ false → Stands old new is waiting text → (front : List ℕ) × (front ++ waiting ≡ text) × Appends old new front
stands_whole old new false waiting text e h = h
stands_whole old new true waiting text e h = absurd (cc)

pub stands_broken : (old new : Option (List ℕ)) (is : Bool) (waiting text : List ℕ) → is ≡ true → Stands old new is waiting text → BreaksOff old new text
stands_broken old new true waiting text e h = h
stands_broken old new false waiting text e h = absurd (cc)

module _ {W A : Type 0} (contents : W → Option (List ℕ)) (old end : Option (List ℕ)) (whole : List ℕ) (w v : W) (b c : Block A) (sound : b.is_broken ≡ false) (same : v ≡ w) (kept : c ≡ b)
    (stands : Stands old (contents w) b.is_broken b.waiting.items whole) where
  -- what waits is written at last
  pub ends_whole : Appends (contents v) end c.waiting.items → Appends old end whole
  ends_whole p =
      let h = stands_whole old (contents w) b.is_broken b.waiting.items whole sound stands in
      let q = subst (λ (d : Block A). Appends (contents w) end d.waiting.items) kept (subst (λ (u : W). Appends (contents u) end c.waiting.items) same p) in
      subst (Appends old end) h.1 (appends_more old (contents w) end h.0 b.waiting.items h.2 q)

-- before a writer that takes nothing all waits
pub all_waits : {W A : Type 0} (contents : W → Option (List ℕ)) (failed : W → Bool) (w v : W) (b c : Block A) (text : List ℕ) → ((u : W) → contents u ≡ Some [])
    → b.waiting.items ≡ [] → b.is_broken ≡ false → c.is_broken ≡ false → Puts contents failed w b v c text → c.waiting.items ≡ text
all_waits {A = A} contents failed w v b c text none empty sound whole p =
    let start : Stands (Some []) (contents w) b.is_broken b.waiting.items [] = rw (none w, empty, sound) ([], refl, refl) in
    let h = stands_whole (Some []) (contents v) c.is_broken c.waiting.items text whole (p.stands (Some []) [] start) in
    let nothing : Appends (Some []) (Some []) h.0 = subst (λ (o : Option (List ℕ)). Appends (Some []) o h.0) (none v) h.2 in
    ap (λ (front : List ℕ). front ++ c.waiting.items) nothing ∙ h.1

-- ---- how much was not written where a block breaks

-- where what waits breaks off, or more behind it, at most what waited was not written of what was put before
pub breaks_soon : (most : ℕ) (old mid new : Option (List ℕ)) (is : Bool) (waiting before early text more : List ℕ) → is ≡ false → Stands old mid is waiting before → length waiting ≤ most
    → length early ≤ length before → text ≡ before ++ more → BreaksOff mid new (waiting ++ more) → BreaksOffSoon most old new early text
breaks_soon most old mid new is waiting before early text more sound stands few short whole b =
    let h = stands_whole old mid is waiting before sound stands in (
      h.0 ++ b.0,
      b.1,
      append_assoc h.0 b.0 b.1 ∙ ap (λ t. h.0 ++ t) b.2 ∙ sym (append_assoc h.0 waiting more) ∙ ap (λ t. t ++ more) h.1 ∙ sym whole,
      b.3,
      appends_more old mid new h.0 b.0 h.2 b.4,
      omega (arith, few, short, ap (λ (t : List ℕ). length t) h.1, length-append h.0 waiting, length-append h.0 b.0),
    )

module _ {W A : Type 0} (contents : W → Option (List ℕ)) (failed : W → Bool) where
  -- a text that is put breaks a block
  pub puts_broken : (most : ℕ) (old : Option (List ℕ)) (w v : W) (b c : Block A) (before early text more : List ℕ) → b.is_broken ≡ false → c.is_broken ≡ true
      → Stands old (contents w) b.is_broken b.waiting.items before → length b.waiting.items ≤ most → length early ≤ length before → text ≡ before ++ more
      → Puts contents failed w b v c more → BreaksOffSoon most old (contents v) early text
  puts_broken most old w v b c before early text more sound broken stands few short whole p =
      let start : Stands (contents w) (contents w) b.is_broken b.waiting.items b.waiting.items = rw sound ([], refl, appends_none (contents w)) in
      let breaks = stands_broken (contents w) (contents v) c.is_broken c.waiting.items (b.waiting.items ++ more) broken (p.stands (contents w) b.waiting.items start) in
      breaks_soon most old (contents w) (contents v) b.is_broken b.waiting.items before early text more sound stands few short whole breaks

module _ {W A : Type 0} (contents : W → Option (List ℕ)) where
  -- what waits cannot be written at last
  pub finish_breaks : (most : ℕ) (old end : Option (List ℕ)) (before early : List ℕ) (w v : W) (b c : Block A) → b.is_broken ≡ false → v ≡ w → c ≡ b
      → Stands old (contents w) b.is_broken b.waiting.items before → length b.waiting.items ≤ most → length early ≤ length before
      → BreaksOff (contents v) end c.waiting.items → BreaksOffSoon most old end early before
  finish_breaks most old end before early w v b c sound same kept stands few short p =
      let q = subst (λ (d : Block A). BreaksOff (contents w) end d.waiting.items) kept (subst (λ (u : W). BreaksOff (contents u) end c.waiting.items) same p) in
      breaks_soon most old (contents w) end b.is_broken b.waiting.items before early before [] sound stands few short (sym (append-nil before))
      (subst (BreaksOff (contents w) end) (sym (append-nil b.waiting.items)) q)
