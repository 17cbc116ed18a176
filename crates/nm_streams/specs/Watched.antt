-- What contracts read of a watched reader or writer.
use Rattle.std.specs.Prelude.{ℕ, Bool}
use Rattle.nm_streams.specs.declared.watched_stream.WatchedStream.{WatchedStream}

-- `watched.has_failed()`
abbrev pub watched_failed : {T : Type 0} → WatchedStream T → Bool
watched_failed w = w.has_failed

-- `watched.given()`
abbrev pub watched_given : {T : Type 0} → WatchedStream T → ℕ
watched_given w = w.given

-- `watched.get_ref()`
abbrev pub watched_inner : {T : Type 0} → WatchedStream T → T
watched_inner w = w.inner
