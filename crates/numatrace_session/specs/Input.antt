-- The input of a session: a watched reader behind a buffer.
use Rattle.std.specs.Prelude.{ℕ, Bool, List, Option}
use Rattle.std.specs.Io.Buffered.{reader_inner, reader_remaining}
use Rattle.std.specs.declared.io.buffered.BufReader.{BufReader}
use Rattle.nm_streams.specs.Watched.{watched_failed, watched_inner}
use Rattle.nm_streams.specs.declared.watched_stream.WatchedStream.{WatchedStream}

-- the bytes that are left, if they are known
abbrev pub left_in : {R A : Type 0} → (R → Option (List ℕ)) → BufReader (WatchedStream R) A → Option (List ℕ)
left_in remaining input = reader_remaining (λ w. remaining (watched_inner w)) input

-- whether a read has failed
abbrev pub has_read_failed : {R A : Type 0} → BufReader (WatchedStream R) A → Bool
has_read_failed input = watched_failed (reader_inner input)
