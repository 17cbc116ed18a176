use Rattle.std.proofs.Common.{◌≡◌, ◌∷◌, ◌++◌, length, map, decimal, string_bytes, sym, ap, ◌∙◌}
use Rattle.std.proofs.lemmas.List.{length-map}
use Rattle.std.specs.Fmt.{signed_decimal}
use Rattle.std.specs.List.{flat_map}
use Rattle.std.specs.Prelude.{codes}
use Rattle.nm_calls.specs.definitions.Maps.{lines_shown}
use Rattle.nm_calls.specs.views.Answers.{answer_of}
use Rattle.nm_trace.specs.definitions.Report.{answer_text, each_after_space, entry_text}
use Rattle.nm_streams.proofs.Waits.{put_is, put_more}
use Rattle.nm_trace.proofs.text.push_answer.Goals as goal

pub returns-in-Segment : goal.returns-in-Segment
unfolding answer_text
returns-in-Segment g c =
    put_is (sym (ap (λ a. answer_text (answer_of a)) c.in-Segment.is)) (put_more c.push_str-in-Segment.ensures (put_is (ap decimal c.from.ensures) c.push_number.ensures))

pub returns-in-Statuses : goal.returns-in-Statuses
unfolding answer_text
returns-in-Statuses g c =
    put_is (sym (ap (λ a. answer_text (answer_of a)) c.in-Statuses.is))
    (put_more c.push_count.ensures (put_is (ap (each_after_space signed_decimal) c.as_slice-in-Statuses.ensures.value) c.push_statuses.ensures))

pub returns-in-Frames : goal.returns-in-Frames
unfolding answer_text
returns-in-Frames g c =
    let slice = c.as_slice-in-Frames.ensures in
    let count : c.len.result ≡ length c.in-Frames.frames.items = c.len.ensures ∙ sym slice.len ∙ ap length slice.value in
    put_is (sym (ap (λ a. answer_text (answer_of a)) c.in-Frames.is))
    (put_more (put_is (ap (λ n. decimal n ++ codes ":") count) c.push_count-in-Frames.ensures) (put_is (ap (each_after_space decimal) slice.value) c.push_frames.ensures))

pub returns-in-Entries : goal.returns-in-Entries
unfolding answer_text
returns-in-Entries g c =
    let slice = c.as_slice-in-Entries.ensures in
    let count = c.len-in-Entries.ensures ∙ sym slice.len ∙ ap length slice.value ∙ sym (length-map c.in-Entries.entries.items (λ e. (e.vpn, e.frame))) in
    put_is (sym (ap (λ a. answer_text (answer_of a)) c.in-Entries.is))
    (put_more (put_is (ap (λ n. decimal n ++ codes ":") count) c.push_count-in-Entries.ensures)
    (put_is (ap (λ es. each_after_space entry_text (map (λ e. (e.vpn, e.frame)) es)) slice.value) c.push_entries.ensures))

pub returns-in-Lines : goal.returns-in-Lines
unfolding answer_text
returns-in-Lines g c =
    let slice = c.as_slice-in-Lines.ensures in
    let count = c.len-in-Lines.ensures ∙ sym slice.len ∙ ap length slice.value ∙ sym (length-map c.in-Lines.lines.items (λ line. string_bytes line)) in
    put_is (sym (ap (λ a. answer_text (answer_of a)) c.in-Lines.is))
    (put_more (put_is (ap decimal count) c.push_number-in-Lines.ensures) (put_is (ap (λ ls. flat_map (λ line. 10 ∷ line) (lines_shown ls)) slice.value) c.push_lines.ensures))
