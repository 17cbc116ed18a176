use Rattle.std.proofs.Common.{◌≡◌, ℕ, ◌+◌, ◌*◌, ◌≤◌, [], length, map}
use Rattle.json.specs.Json.{members, value}
use Rattle.serde_json.specs.Data.{no_members}
use Rattle.serde_json.specs.Read.{of_members, converted}
use Rattle.nm_steps.specs.Lists.{whole}
use Rattle.nm_steps.specs.Tree.{view, list_after, members_view}
use Rattle.nm_steps.proofs.tree.+read.Given as goal

abbrev pub decreases-read_value : goal.decreases-read_value
decreases-read_value l = 5 * l.depth + 1

abbrev pub decreases-read_from : goal.decreases-read_from
decreases-read_from l = 5 * l.depth

abbrev pub decreases-read_list : goal.decreases-read_list
decreases-read_list l = 5 * l.depth + 4

abbrev pub decreases-read_rest : goal.decreases-read_rest
decreases-read_rest l = 5 * l.depth + 3

abbrev pub decreases-read_items : goal.decreases-read_items
decreases-read_items l = 5 * l.depth + 2

abbrev pub decreases-read_members : goal.decreases-read_members
decreases-read_members l = 5 * l.depth + 2

abbrev pub invariant-read_list-loop-numbers : goal.invariant-read_list-loop-numbers
invariant-read_list-loop-numbers l = record {
  same : list_after l.depth (length l.initial.reader) [] l.initial.reader ≡ list_after l.depth (length l.reader) (map whole l.numbers.items) l.reader;
  shorter : length l.reader ≤ length l.initial.reader;
}

abbrev pub decreases-read_list-loop-numbers : goal.decreases-read_list-loop-numbers
decreases-read_list-loop-numbers l = length l.reader

abbrev pub invariant-read_items-loop-heap : goal.invariant-read_items-loop-heap
invariant-read_items-loop-heap l = record {
  same : (m : ℕ) → length l.initial.reader ≤ m → (n : ℕ) × (length l.reader ≤ n) × (list_after l.depth m (map view l.initial.found.items) l.initial.reader ≡ list_after l.depth n (map view l.found.items) l.reader);
  shorter : length l.reader ≤ length l.initial.reader;
}

abbrev pub decreases-read_items-loop-heap : goal.decreases-read_items-loop-heap
decreases-read_items-loop-heap l = length l.reader

abbrev pub invariant-read_members-loop-found : goal.invariant-read_members-loop-found
invariant-read_members-loop-found l =
    (n : ℕ) × (length l.reader ≤ n)
    × (converted (λ ms. of_members ms no_members) (members (value l.depth) (length l.initial.reader) l.initial.reader) ≡ converted (λ ms. of_members ms (members_view l.found.items)) (members (value l.depth) n l.reader))
    × (length l.reader ≤ length l.initial.reader)

abbrev pub decreases-read_members-loop-found : goal.decreases-read_members-loop-found
decreases-read_members-loop-found l = length l.reader
