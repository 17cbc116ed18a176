-- Lines that are read and replied to.
use Rattle.std.proofs.Common.{◌≡◌, ℕ, zero, suc, ◌-◌, ◌≤◌, arith, length, length-append, take, List, [], ◌∷◌, ◌++◌, Option, Some, None, IfSome, Result, Ok, Err, ap, refl, subst, sym, ◌∙◌, append_assoc}
use Rattle.std.proofs.lemmas.List.{append-nil, take_at}
use Rattle.std.specs.List.{AllByRecursion}
use Rattle.std.specs.Io.BufRead.{take_through, drop_through, DropsThrough}
use Rattle.std.specs.Io.KnownBytes.{Appends, Keeps}
use Rattle.std.specs.Prelude.{OnOk}
use Rattle.nm_trace.specs.definitions.Session.{SessionState, next_call, session_of}
use Rattle.nm_streams.proofs.Known.{appends_kept, appends_more, appends_none}
use Rattle.numatrace_session.specs.Replies.{HasByte, session_after, after_lines, but_last, reply_of, replies_to, AreLines, ReadsLines, RepliesToLines, Talks}

-- ---- reading

are_more : (bytes : List ℕ) (lines : List (List ℕ)) (line rest : List ℕ) → AreLines bytes lines rest → line ≡ take_through 10 rest → AreLines bytes (lines ++ line ∷ []) (drop_through 10 rest)
are_more bytes [] line rest h is = (is ∙ ap (take_through 10) (sym h), ap (drop_through 10) h)
are_more bytes (l ∷ ls) line rest h is = (h.0, are_more (drop_through 10 bytes) ls line rest h.1 is)

pub reads_none : (a : Option (List ℕ)) → ReadsLines a a []
reads_none None = tt
reads_none (Some xs) = refl

pub reads_more : (a b c : Option (List ℕ)) (lines : List (List ℕ)) (line : List ℕ) → ReadsLines a b lines → IfSome b (λ xs. line ≡ take_through 10 xs) → DropsThrough b c 10 → ReadsLines a c (lines ++ line ∷ [])
reads_more None b c lines line h is drops = tt
reads_more (Some xs) None c lines line h is drops = absurd h
reads_more (Some xs) (Some ys) c lines line h is drops =
    subst (λ (o : Option (List ℕ)). ReadsLines (Some xs) o (lines ++ line ∷ [])) (sym drops) (are_more xs lines line ys h is)

pub reads_top : (a b c : Option (List ℕ)) (top : List ℕ) (lines : List (List ℕ)) → IfSome a (λ xs. top ≡ take_through 10 xs) → DropsThrough a b 10 → ReadsLines b c lines → ReadsLines a c (top ∷ lines)
reads_top None b c top lines is drops h = tt
reads_top (Some xs) b None top lines is drops h = subst (λ (o : Option (List ℕ)). ReadsLines o None lines) drops h
reads_top (Some xs) b (Some zs) top lines is drops h = (is, subst (λ (o : Option (List ℕ)). ReadsLines o (Some zs) lines) drops h)

-- ---- replying

after_more : (s : SessionState) (lines : List (List ℕ)) (line : List ℕ) → after_lines s (lines ++ line ∷ []) ≡ session_after (after_lines s lines) (next_call (after_lines s lines) line)
after_more s [] line = refl
after_more s (l ∷ ls) line = after_more (session_after s (next_call s l)) ls line

pub replies_more : (s : SessionState) (lines : List (List ℕ)) (line : List ℕ) → replies_to s (lines ++ line ∷ []) ≡ replies_to s lines ++ reply_of (after_lines s lines) (next_call (after_lines s lines) line)
replies_more s [] line = append-nil (reply_of s (next_call s line))
replies_more s (l ∷ ls) line =
    let first = reply_of s (next_call s l) in
    ap (λ (text : List ℕ). first ++ text) (replies_more (session_after s (next_call s l)) ls line)
    ∙ sym (append_assoc first (replies_to (session_after s (next_call s l)) ls) (reply_of (after_lines (session_after s (next_call s l)) ls) (next_call (after_lines (session_after s (next_call s l)) ls) line)))

-- the replies to some first lines are no longer than those to all
replies_front : (s : SessionState) (n : ℕ) (lines : List (List ℕ)) → length (replies_to s (take n lines)) ≤ length (replies_to s lines)
replies_front s zero lines = omega arith
replies_front s (suc n) [] = omega arith
replies_front s (suc n) (l ∷ ls) =
    let first = reply_of s (next_call s l) in
    let then = session_after s (next_call s l) in
    omega (arith, replies_front then n ls, length-append first (replies_to then (take n ls)), length-append first (replies_to then ls))

pub replies_but_last : (s : SessionState) (lines : List (List ℕ)) → length (replies_to s (but_last lines)) ≤ length (replies_to s lines)
replies_but_last s lines = replies_front s (length lines - 1) lines

but_last_more : (lines : List (List ℕ)) (line : List ℕ) → but_last (lines ++ line ∷ []) ≡ lines
but_last_more lines line =
    take_at lines (line ∷ []) (length (lines ++ line ∷ []) - 1) (omega (arith, length-append lines (line ∷ [])))

-- all replies but that to the line that was read last are written
pub replied_before : (s : SessionState) (lines : List (List ℕ)) (line front : List ℕ) → length (replies_to s (but_last (lines ++ line ∷ []))) ≤ length (replies_to s lines ++ front)
replied_before s lines line front =
    omega (arith, ap (λ (ls : List (List ℕ)). length (replies_to s ls)) (but_last_more lines line), length-append (replies_to s lines) front)

pub no_lines : (s : SessionState) (left old : Option (List ℕ)) → RepliesToLines s s left left old old
no_lines s left old = ([], reads_none left, refl, appends_none old, tt)

pub all_more : (lines : List (List ℕ)) (line : List ℕ) → AllByRecursion HasByte lines → HasByte line → AllByRecursion HasByte (lines ++ line ∷ [])
all_more [] line h some = (some, tt)
all_more (l ∷ ls) line h some = (h.0, all_more ls line h.1 some)

-- one more line is read and replied to
pub one_more : (s t u : SessionState) (a b c old new newer newest : Option (List ℕ)) (line : List ℕ) → RepliesToLines s t a b old new
    → IfSome b (λ xs. line ≡ take_through 10 xs) → DropsThrough b c 10
    → Appends new newer (reply_of t (next_call t line)) → u ≡ session_after t (next_call t line) → Keeps newer newest → HasByte line
    → RepliesToLines s u a c old newest
one_more s t u a b c old new newer newest line h is drops written made kept some =
    let lines = h.0 in
    let before : t ≡ after_lines s lines = h.2 in
    let text = ap (λ (v : SessionState). reply_of v (next_call v line)) before in
    let so_far = appends_more old new newer (replies_to s lines) (reply_of t (next_call t line)) h.3 written in (
      lines ++ line ∷ [],
      reads_more a b c lines line h.1 is drops,
      made ∙ ap (λ (v : SessionState). session_after v (next_call v line)) before ∙ sym (after_more s lines line),
      appends_kept old newer newest (replies_to s (lines ++ line ∷ []))
          (subst (Appends old newer) (ap (λ (x : List ℕ). replies_to s lines ++ x) text ∙ sym (replies_more s lines line)) so_far) kept,
      all_more lines line h.4 some,
    )

-- ---- from the first line on

pub talked : {X E : Type 0} (s t : SessionState) (a b c old new : Option (List ℕ)) (top : List ℕ) (result : Result X E) → session_of top ≡ Ok s
    → IfSome a (λ xs. top ≡ take_through 10 xs) → DropsThrough a b 10 → OnOk result (RepliesToLines s t b c old new) → OnOk result (Talks a c old new)
talked s t a b c old new top (Ok done) begins is drops h = (top, s, h.0, begins, reads_top a b c top h.0 is drops h.1, h.3, h.4)
talked s t a b c old new top (Err e) begins is drops h = tt
