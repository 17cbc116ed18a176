-- Where a session ends before its input does.
use Rattle.std.proofs.Common.{arith, ◌≡◌, ℕ, List, [], ◌∷◌, ◌++◌, Bool, true, Option, IfSome, Result, Ok, Err, ap, refl, subst, sym, ◌∙◌, ◌⊎◌, inl, inr, append_assoc}
use Rattle.std.proofs.lemmas.List.{append-nil}
use Rattle.std.specs.Prelude.{IfErr}
use Rattle.std.specs.Io.BufRead.{take_through, DropsThrough}
use Rattle.std.specs.Io.{StopsAt}
use Rattle.std.specs.Io.KnownBytes.{Consumes}
use Rattle.nm_trace.specs.definitions.Session.{SessionState, next_call, session_of}
use Rattle.nm_streams.proofs.Known.{appends_more, appends_none, appends_nothing, consumes_none}
use Rattle.numatrace_session.specs.declared.End.{End}
use Rattle.numatrace_session.specs.declared.End.TheVariants.{BadTop, HostMemory, Stream}
use Rattle.numatrace_session.specs.Ends.{Begins}
use Rattle.numatrace_session.specs.Replies.{HasByte, reply_of, replies_to, EndsEarly, EndsTalk, ReadsUpToLine, Replies, RepliesToLines}
use Rattle.numatrace_session.proofs.Lines.{all_more, reads_more, reads_none, reads_top, replied_before, replies_but_last, replies_more}

-- what holds of an error holds of the result that has it
pub if_err : {X E : Type 0} (Holds : E → Type 0) (e : E) (result : Result X E) → result ≡ Err e → Holds e → IfErr result Holds
if_err Holds e result is h = subst (λ r. IfErr r Holds) (sym is) h

-- nothing is read
pub none_beyond : (a : Option (List ℕ)) → ReadsUpToLine a a
none_beyond a = ([], consumes_none a, λ k d few. absurd (omega (arith, few)))

-- the next line could not be read
pub unread : (s t : SessionState) (a b c old new : Option (List ℕ)) (reader failed fails : Bool) (bytes : List ℕ) (e : End) → RepliesToLines s t a b old new
    → Consumes b c bytes → StopsAt bytes 10 → fails ≡ failed → ((e ≡ HostMemory) ⊎ (e ≡ Stream)) → (e ≡ Stream → reader ≡ true)
    → EndsEarly e s a c old new reader failed fails
unread s t a b c old new reader failed fails bytes e h gone stops same (inl is) cause =
    subst (λ (d : End). EndsEarly d s a c old new reader failed fails) (sym is) (h.0, (b, h.1, (bytes, gone, stops)), h.4, h.3, same)
unread s t a b c old new reader failed fails bytes e h gone stops same (inr is) cause =
    subst (λ (d : End). EndsEarly d s a c old new reader failed fails) (sym is) (h.0, (b, h.1, (bytes, gone, stops)), h.4, inl (h.3, same, cause is))

-- it could not be replied to
pub unreplied : (s t u : SessionState) (a b c old new newer : Option (List ℕ)) (reader failed mid fails : Bool) (line : List ℕ) (e : End) → RepliesToLines s t a b old new
    → IfSome b (λ xs. line ≡ take_through 10 xs) → DropsThrough b c 10 → Consumes b c line → StopsAt line 10 → HasByte line
    → mid ≡ failed → Replies t u line new newer mid fails (Err e) → EndsEarly e s a c old newer reader failed fails
unreplied s t u a b c old new newer reader failed mid fails line (BadTop fault) h is drops gone stops some same w = absurd w.0
unreplied s t u a b c old new newer reader failed mid fails line HostMemory h is drops gone stops some same w =
    (h.0, (b, h.1, (line, gone, stops)), h.4, appends_nothing old new newer (replies_to s h.0) h.3 w.1, w.2 ∙ same)
unreplied s t u a b c old new newer reader failed mid fails line Stream h is drops gone stops some same w =
    let lines = h.0 in
    let so_far = replies_to s lines in
    let broken = w.0.0 in
    let text = ap (λ (v : SessionState). reply_of v (next_call v line)) h.2 in (
      lines ++ line ∷ [],
      (c, reads_more a b c lines line h.1 is drops, none_beyond c),
      all_more lines line h.4 some,
      inr (
        so_far ++ broken.0,
        broken.1,
        append_assoc so_far broken.0 broken.1 ∙ (ap (λ (x : List ℕ). so_far ++ x) (broken.2 ∙ text) ∙ sym (replies_more s lines line)),
        appends_more old new newer so_far broken.0 h.3 broken.4,
        w.0.1,
        replied_before s lines line broken.0,
        reads_more a b c lines line h.1 is drops,
      ),
    )

-- the replies could not be flushed
pub unflushed : (s t : SessionState) (a c old new : Option (List ℕ)) (reader failed fails : Bool) (e : End) → RepliesToLines s t a c old new
    → e ≡ Stream → fails ≡ true → EndsEarly e s a c old new reader failed fails
unflushed s t a c old new reader failed fails e h is is_so =
    let whole = replies_to s h.0 in
    subst (λ (d : End). EndsEarly d s a c old new reader failed fails) (sym is)
    (h.0, (c, h.1, none_beyond c), h.4, inr (whole, [], append-nil whole, h.3, is_so, replies_but_last s h.0, h.1))

-- ---- from the first line on

-- the first line could not be read
pub first_unread : (a c w : Option (List ℕ)) (reader failed : Bool) (bytes : List ℕ) (e : End) → Consumes a c bytes → StopsAt bytes 10
    → ((e ≡ HostMemory) ⊎ (e ≡ Stream)) → (e ≡ Stream → reader ≡ true) → EndsTalk e a c w w reader failed failed
first_unread a c w reader failed bytes e gone stops (inl is) cause =
    subst (λ (d : End). EndsTalk d a c w w reader failed failed) (sym is) (inl ((bytes, gone, stops), appends_none w, refl))
first_unread a c w reader failed bytes e gone stops (inr is) cause =
    subst (λ (d : End). EndsTalk d a c w w reader failed failed) (sym is) (inl (((bytes, gone, stops), appends_none w, refl), cause is))

-- it begins no session
pub unbegun : (a c w : Option (List ℕ)) (reader failed : Bool) (top : List ℕ) (e : End) → Begins (Err e) top
    → IfSome a (λ xs. top ≡ take_through 10 xs) → DropsThrough a c 10 → Consumes a c top → StopsAt top 10 → EndsTalk e a c w w reader failed failed
unbegun a c w reader failed top (BadTop fault) h is drops gone stops =
    ((top, h, reads_top a c c top [] is drops (reads_none c), appends_none w), refl)
unbegun a c w reader failed top HostMemory h is drops gone stops = inl ((top, gone, stops), appends_none w, refl)
unbegun a c w reader failed top Stream h is drops gone stops = absurd h

pub ends_begun : {X : Type 0} (s : SessionState) (a b c old new : Option (List ℕ)) (reader failed fails : Bool) (top : List ℕ) (result : Result X End)
    → session_of top ≡ Ok s → IfSome a (λ xs. top ≡ take_through 10 xs) → DropsThrough a b 10
    → IfErr result (λ e. EndsEarly e s b c old new reader failed fails) → IfErr result (λ e. EndsTalk e a c old new reader failed fails)
ends_begun s a b c old new reader failed fails top (Ok done) begins is drops h = tt
ends_begun s a b c old new reader failed fails top (Err (BadTop fault)) begins is drops h = absurd h
ends_begun s a b c old new reader failed fails top (Err HostMemory) begins is drops h = inr (top, s, b, begins, reads_top a b b top [] is drops (reads_none b), h)
ends_begun s a b c old new reader failed fails top (Err Stream) begins is drops h = inr (top, s, b, begins, reads_top a b b top [] is drops (reads_none b), h)
