-- Page tables: a process with its entries by page number, and what it sees by them.
use Rattle.std.specs.Prelude.{ℕ, List, [], Option, Some, None}
use Rattle.std.specs.Option.{unwrap_or, option_map}
use Rattle.std.specs.Ordering.{nat_cmp}
use Rattle.nm_types.specs.declared.page.Page.{Page}
use Rattle.nm_types.specs.declared.sight.Sight.{Sight}
use Rattle.nm_types.specs.declared.sight.Sight.TheVariants.{ZeroPage, Sees}
use Rattle.nm_types.specs.Map.{Map, get, page_cmp, with_values, set}
use Rattle.nm_types.specs.State.{State, Process, page_at}
use Rattle.nm_types.specs.declared.entry.Entry.{Entry}
use Rattle.nm_types.specs.declared.entry.Entry.TheVariants.{Zero, Frame, Held}
use Rattle.nm_types.specs.declared.process.ProcessInfo.{ProcessInfo}
use Rattle.nm_types.specs.declared.area.Area.{Area}
use Rattle.nm_model.specs.definitions.Seen.{sights}

-- a process with its page table
pub record Task : Type 0 where
  pub info : ProcessInfo
  -- by page number
  pub table : Map ℕ Entry

-- the entry of a process at a page number, if there is such a process and entry
abbrev pub entry_in : Option Task → ℕ → Option Entry
entry_in None v = None
entry_in (Some t) v = get nat_cmp t.table v

-- the entry at a page number in a process's table
abbrev pub entry_at : Map ℕ Task → ℕ → ℕ → Option Entry
entry_at tasks pid v = entry_in (get nat_cmp tasks pid) v

-- a table with this entry at a page number
abbrev pub with_entry : Task → ℕ → Entry → Task
with_entry t v e = record t { table = set nat_cmp t.table v e }

-- the page that an area of a process shows at a page number, or an arbitrary page if there is no area
abbrev pub page_here : Map (ℕ × ℕ) Area → ℕ → ℕ → Page
page_here areas pid v = unwrap_or (page_at areas pid v) (record { segment = 0; index = 0 })

-- what a process sees at a page number with this entry
abbrev pub sight_of : Map (ℕ × ℕ) Area → ℕ → ℕ → Entry → Sight
sight_of areas pid v Zero = ZeroPage
sight_of areas pid v (Frame f) = Sees (page_here areas pid v)
sight_of areas pid v (Held f) = Sees (page_here areas pid v)

-- the process that a page table gives
abbrev pub process_of : Map (ℕ × ℕ) Area → ℕ → Task → Process
process_of areas pid t =
    record {
      uid = t.info.uid;
      privileged = t.info.privileged;
      home = t.info.home;
      allowed = t.info.allowed;
      sees = with_values (sight_of areas pid) t.table;
    }

-- the entry for what is seen: the page of zeros, or the frame of the page
abbrev pub entry_of : Map Page ℕ → Sight → Entry
entry_of place ZeroPage = Zero
entry_of place (Sees p) = unwrap_or (option_map Frame (get page_cmp place p)) Zero

-- the entries of a process by page number
abbrev pub entries_of : State → ℕ → List (ℕ × Entry)
entries_of s pid = with_values (λ v sight. entry_of s.place sight) (sights s.processes pid)
