-- What reading to the end says about the reader.
use Rattle.std.specs.Prelude.{◌≡◌, ◌⊎◌, ℕ, ◌<◌, ◌≤◌, ◌+◌, Bool, true, Result, Ok, Err}
use Rattle.nm_streams.specs.declared.stream_error.ReadError.{ReadError}
use Rattle.nm_streams.specs.declared.stream_error.ReadError.TheVariants.{Fault, HostMemory}

-- the reader has failed before it gave more bytes than the limit, or gave more, but at most one buffer of 16,384 bytes more
abbrev pub HasReadCause : ℕ → Bool → (ℕ → Type 0) → Type 0
HasReadCause limit now gave =
    ((now ≡ true) × ((n : ℕ) × (n ≤ limit) × gave n)) ⊎ ((n : ℕ) × (limit < n) × (n ≤ limit + 16384) × gave n)

-- what a result says about the reader, given whether it had failed before, whether it has failed now, and how many
-- bytes it gave in between: a fault has its cause; with any other result no read has failed in between; if the bytes
-- are returned, there are no more than the limit, and if the host is out of memory, the reader gave at least one
abbrev pub ReportsRead : {X : Type 0} → ℕ → Bool → Bool → (ℕ → Type 0) → Result X ReadError → Type 0
ReportsRead limit before now gave (Ok bytes) = (now ≡ before) × ((n : ℕ) × (n ≤ limit) × gave n)
ReportsRead limit before now gave (Err Fault) = HasReadCause limit now gave
ReportsRead limit before now gave (Err HostMemory) = (now ≡ before) × ((n : ℕ) × (0 < n) × gave n)
