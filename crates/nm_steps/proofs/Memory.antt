-- What is reported as lack of memory.
use Rattle.std.proofs.Common.{◌≡◌, ℕ, ◌^◌, ◌<◌, ◌==◌, List, [], ◌∷◌, length, Bool, true, false, ◌||◌, ◌&&◌, Option, Some, None, is_some, option_map, option_and_then, refl, ap, ◌∙◌, sym, subst, arith, codes}
use Rattle.std.proofs.lemmas.Bool.{le-ltb}
use Rattle.std.specs.Prelude.{Result, Ok, Err, IsErr, IsErrAnd, nat_le, if◌then◌else◌}
use Rattle.std.specs.Option.{ok_or}
use Rattle.serde_json.specs.Data.{Data, Items, no_items, item}
use Rattle.serde_json.specs.Find.{get, as_array}
use Rattle.nm_types.specs.Layout.{Layout}
use Rattle.nm_types.specs.Refusal.{refusal}
use Rattle.nm_model.specs.definitions.Cut.{run_count}
use Rattle.nm_steps.specs.declared.step_error.StepError.{StepError}
use Rattle.nm_steps.specs.Gives.{FailsStep, GivesStep}
use Rattle.nm_steps.specs.Form.{◌>>=◌, below, each, u64_of, number_at, numbers_at, number_below, small_numbers_at, items_at, batch_of, during_of, limit_of, machine_of, row_of}
use Rattle.nm_steps.specs.Memory.{has_items, holds, begins, begins_at, batch_starts, flight_allocates, row_allocates, machine_takes_memory, starts, starts_at, step_allocates, steps_take_memory}

-- an error that a question mark hands on is that of the call
pub handed_on : {X Y E : Type 0} (r : Result X E) (called : Result Y E) (e f : E) → IsErr r × IsErrAnd r (λ x. x ≡ e) → called ≡ Err e → r ≡ Err f → called ≡ Err f
handed_on (Ok x) called e f h was is = absurd (cc)
handed_on (Err x) called e f h was is =
    let here : x ≡ e = h.1 in
    let same : e ≡ f = cc in
    was ∙ ap Err same

-- so the definition gives nothing, unless memory ran out
pub fails_on : {X Y : Type 0} (view : X → Y) (r : Result X StepError) (e : StepError) (found : Option Y) → IsErr r × IsErrAnd r (λ x. x ≡ e) → FailsStep e found → GivesStep view r found
fails_on view (Ok x) e found h fails = absurd (cc)
fails_on view (Err x) e found h fails = subst (λ y. FailsStep y found) (sym h.1) fails

-- the list of a value at a key
pub listed_at : (key : List ℕ) (d v : Data) (ds : Items) → Some v ≡ get key d → as_array v ≡ Some ds → items_at key d ≡ Some ds
listed_at key d v ds found is = ap (option_and_then as_array) (sym found) ∙ is

pub or_left : (a b : Bool) → a ≡ true → (a || b) ≡ true
or_left true b h = refl
or_left false b h = absurd (cc)

pub or_right : (a b : Bool) → b ≡ true → (a || b) ≡ true
or_right true b h = refl
or_right false b h = h

pub and_both : (a b : Bool) → a ≡ true → b ≡ true → (a && b) ≡ true
and_both true b h k = k
and_both false b h k = h

pub is_there : {A : Type 0} (o : Option A) (x : A) → o ≡ Some x → is_some o ≡ true
is_there None x h = absurd (cc)
is_there (Some a) x h = refl

pub some_is : {A E : Type 0} (o : Option A) (e : E) (x : A) → ok_or o e ≡ Ok x → o ≡ Some x
some_is None e x is = absurd (cc)
some_is (Some y) e x is = cc

-- a list whose first item is read has an item
some_started : {A : Type 0} (f : Data → Option A) (ds : Items) → starts f ds ≡ true → has_items (Some ds) ≡ true
some_started f no_items first = absurd (cc)
some_started f (item d ds) first = refl

module _ (ds : Items) where
  -- what is a list of these items
  pub has_started : {A : Type 0} (f : Data → Option A) (o : Option Items) → o ≡ Some ds → starts f ds ≡ true → has_items o ≡ true
  has_started f o is first = rw is (some_started f ds first)

  pub starts_listed : {A : Type 0} (f : Data → Option A) (o : Option Items) → o ≡ Some ds → starts f ds ≡ true → starts_at f o ≡ true
  starts_listed f o is first = rw is first

  pub begins_listed : (such : Data → Bool) (o : Option Items) → o ≡ Some ds → begins such ds ≡ true → begins_at such o ≡ true
  begins_listed such o is first = rw is first

  -- these items are the rows of a machine
  pub has_rows : (d m : Data) (sizes : List ℕ) → get (codes "machine") d ≡ Some m → small_numbers_at (codes "nodes") m ≡ Some sizes → items_at (codes "distance") m ≡ Some ds → begins row_allocates ds ≡ true → machine_takes_memory d ≡ true
  has_rows d m sizes machine nodes is first =
      rw (machine, machine_takes_memory) (or_right (starts_at (number_below (2 ^ 32)) (items_at (codes "nodes") m)) _ (and_both _ _ (is_there _ sizes nodes) (begins_listed row_allocates _ is first)))

  -- these items are the steps of a trace
  pub steps_begin : (d : Data) (limit : ℕ) → limit_of d ≡ Some limit → items_at (codes "steps") d ≡ Some ds → begins (step_allocates limit) ds ≡ true → steps_take_memory d ≡ true
  steps_begin d limit read is first =
      ap (λ o. holds (option_map (λ n. begins_at (step_allocates n) (items_at (codes "steps") d)) o)) read ∙ begins_listed (step_allocates limit) _ is first

-- the nodes of a machine begin with a number
pub has_sizes : (d m : Data) → get (codes "machine") d ≡ Some m → starts_at (number_below (2 ^ 32)) (items_at (codes "nodes") m) ≡ true → machine_takes_memory d ≡ true
has_sizes d m machine first = rw (machine, machine_takes_memory) (or_left _ _ first)

-- what is read may need memory in a list
pub is_read : {A : Type 0} (o : Option A) (b : Bool) (x : A) → o ≡ Some x → (is_some o || b) ≡ true
is_read o b x h = or_left (is_some o) b (is_there o x h)

-- and so may what takes it
pub is_asked : (a : Bool) (o : Option Bool) → o ≡ Some true → (a || holds o) ≡ true
is_asked a o h = or_right a (holds o) (ap holds h)

pub is_asked_in : (a b : Bool) (o : Option Bool) → b ≡ true → o ≡ Some true → (a || (b && holds o)) ≡ true
is_asked_in a b o h k = or_right a (b && holds o) (and_both b (holds o) h (ap holds k))

-- ---- lists that were read

first_read : {A : Type 0} (f : Data → Option A) (ds : Items) (o : Option A) (p : Option (List A)) (xs : List A) → (o >>= λ x. p >>= λ xs. Some (x ∷ xs)) ≡ Some xs → is_some o ≡ true
first_read f ds None p xs is = absurd (cc)
first_read f ds (Some x) p xs is = refl

-- a list with an item begins with one that f reads
starts_read : {A : Type 0} (f : Data → Option A) (o : Option Items) (xs : List A) → option_and_then (each f) o ≡ Some xs → 0 < length xs → starts_at f o ≡ true
starts_read f None xs is some = absurd (cc)
starts_read f (Some no_items) [] is some = absurd (omega (arith, some))
starts_read f (Some no_items) (x ∷ xs) is some = absurd (cc)
starts_read f (Some (item d ds)) xs is some = first_read f ds (f d) (each f ds) xs is

if_some : {A : Type 0} (test : Bool) (x y : A) → (if test then Some x else None) ≡ Some y → x ≡ y
if_some true x y is = cc
if_some false x y is = absurd (cc)

pages_read : (o p : Option (List ℕ)) (batch : List ℕ × List ℕ)
    → (◌>>=◌ {B = List ℕ × List ℕ} o (λ ms. ◌>>=◌ {B = List ℕ × List ℕ} p (λ ns. let both : List ℕ × List ℕ = (ms, ns) in if nat_le (length ms) 16384 && (length ms == length ns) then Some both else None))) ≡ Some batch
    → o ≡ Some batch.0
pages_read None p batch is = absurd (cc)
pages_read (Some ms) None batch is = absurd (cc)
pages_read (Some ms) (Some ns) batch is =
    let both : List ℕ × List ℕ = (ms, ns) in
    let same : both ≡ batch = if_some (nat_le (length ms) 16384 && (length ms == length ns)) both batch is in
    ap (λ (b : List ℕ × List ℕ). Some b.0) same

none_below : (o : Option ℕ) → (o >>= below 0) ≡ None
none_below None = refl
none_below (Some n) = rw (le-ltb n 0 (omega arith)) refl

-- without runs there is no access in flight
no_flight : (d : Data) → flight_allocates 0 d ≡ false
unfolding during_of
no_flight d = rw (none_below (number_at (codes "run") d)) refl

no_flights : (o : Option Items) → begins_at (flight_allocates 0) o ≡ true → ⊥
no_flights None is = absurd (cc)
no_flights (Some no_items) is = absurd (cc)
no_flights (Some (item d ds)) is =
    let none = no_flight d in absurd (cc)

some_runs : (limit : ℕ) (nodes : List ℕ) (o : Option Items) → begins_at (flight_allocates (run_count limit nodes)) o ≡ true → 0 < length nodes
some_runs limit [] o is = absurd (no_flights o is)
some_runs limit (n ∷ ns) o is = omega arith

-- a batch with an access in flight begins with a page
pub batch_begins : (limit : ℕ) (d : Data) (batch : List ℕ × List ℕ) (o : Option Items) → batch_of d ≡ Some batch → length batch.0 ≡ length batch.1 → begins_at (flight_allocates (run_count limit batch.1)) o ≡ true
    → batch_starts d ≡ true
unfolding batch_of
batch_begins limit d batch o is paired first =
    let some = some_runs limit batch.1 o first in
    or_left _ _
    (starts_read u64_of (items_at (codes "pages") d) batch.0 (pages_read (numbers_at (codes "pages") d) (small_numbers_at (codes "nodes") d) batch is) (omega (arith, paired, some)))

nodes_read : (p : Option (List ℕ)) (q : Option (List (List ℕ))) (layout : Layout)
    → (p >>= λ sizes. q >>= λ distances. elim (refusal (record { sizes = sizes; distances = distances })) [ None ↦ Some (record { sizes = sizes; distances = distances }) | Some fault ↦ None ]) ≡ Some layout
    → (sizes : List ℕ) × (p ≡ Some sizes) × (0 < length sizes)
nodes_read None q layout is = absurd (cc)
nodes_read (Some []) None layout is = absurd (cc)
nodes_read (Some []) (Some distances) layout is = absurd (cc)
nodes_read (Some (size ∷ sizes)) q layout is = (size ∷ sizes, refl, omega arith)

nodes_begin : (o : Option Data) (layout : Layout)
    → (o >>= λ m. small_numbers_at (codes "nodes") m >>= λ sizes. (items_at (codes "distance") m >>= each row_of) >>= λ distances. elim (refusal (record { sizes = sizes; distances = distances })) [ None ↦ Some (record { sizes = sizes; distances = distances }) | Some fault ↦ None ]) ≡ Some layout
    → (m : Data) × (o ≡ Some m) × (starts_at (number_below (2 ^ 32)) (items_at (codes "nodes") m) ≡ true)
nodes_begin None layout is = absurd (cc)
nodes_begin (Some m) layout is =
    let nodes = nodes_read (small_numbers_at (codes "nodes") m) (items_at (codes "distance") m >>= each row_of) layout is in
    (m, refl, starts_read (number_below (2 ^ 32)) (items_at (codes "nodes") m) nodes.0 nodes.1 nodes.2)

-- a machine begins with a number of its nodes
pub machine_begins : (d : Data) (layout : Layout) → machine_of d ≡ Some layout → machine_takes_memory d ≡ true
unfolding machine_of
machine_begins d layout is =
    let nodes = nodes_begin (get (codes "machine") d) layout is in
    has_sizes d nodes.0 nodes.1 nodes.2
