-- The bytes that processes have.
use Rattle.std.specs.Prelude.{ℕ, zero, suc, ◌+◌, ◌/◌, ◌%◌, List, [], ◌∷◌, slice_index, Option}
use Rattle.std.specs.Option.{unwrap_or, option_map}
use Rattle.nm_types.specs.declared.page.Page.{Page}
use Rattle.nm_types.specs.Map.{page_cmp, get}
use Rattle.nm_types.specs.State.{State, page_at}

-- the `len` bytes from index `at` on
abbrev pub stretch_of : List ℕ → ℕ → ℕ → List ℕ
stretch_of bytes at zero = []
stretch_of bytes at (suc len) = slice_index bytes at ∷ stretch_of bytes (at + 1) len

-- the byte at an index of a page; 0 if the page has no frame
abbrev pub byte_of : State → Page → Option ℕ → ℕ → ℕ
byte_of s p o i = unwrap_or (option_map (λ frame. slice_index (unwrap_or (get page_cmp s.bytes p) []) i) o) 0

-- the byte that a process has at an address, if an area of it covers the address
abbrev pub mem : State → ℕ → ℕ → Option ℕ
mem s pid address =
    option_map (λ p. byte_of s p (get page_cmp s.place p) (address % 4096)) (page_at s.areas pid (address / 4096))

-- the bytes that a process has from an address on
abbrev pub mem_range : State → ℕ → ℕ → ℕ → List ℕ
mem_range s pid address zero = []
mem_range s pid address (suc len) = unwrap_or (mem s pid address) 0 ∷ mem_range s pid (address + 1) len
