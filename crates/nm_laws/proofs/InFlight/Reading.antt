-- Each sound state is read of a machine at rest.
use Rattle.std.proofs.Common.{◌≡◌, ℕ, zero, suc, ◌+◌, ◌<◌, List, [], ◌∷◌, true, false, cond, map, length, refl, sym, ap, subst, ◌∙◌, arith, eq-eqb}
use Rattle.std.specs.Prelude.{Option, Some, None, IsSome, ◌==◌, slice_index_or, replicate, if◌then◌else◌}
use Rattle.std.specs.Option.{is_some, unwrap_or, option_map}
use Rattle.std.specs.List.{AllByRecursion}
use Rattle.std.specs.List.Sorted.{IsStrictlySortedBy}
use Rattle.std.specs.Map.{keys_of}
use Rattle.std.specs.Ordering.{nat_cmp, is_eq}
use Rattle.std.specs.Cmp.{nat_cmp_total}
use Rattle.std.proofs.lemmas.Bool.{eqb-true}
use Rattle.std.proofs.lemmas.Map.Lookups.{exact_unsigned}
use Rattle.nm_types.specs.declared.page.Page.{Page}
use Rattle.nm_types.specs.declared.sight.Sight.{Sight}
use Rattle.nm_types.specs.declared.sight.Sight.TheVariants.{ZeroPage, Sees}
use Rattle.nm_types.specs.Layout.{frame_count}
use Rattle.nm_types.specs.Nodes.{up_from}
use Rattle.nm_types.specs.Map.{Map, get, page_cmp, with_values}
use Rattle.nm_types.specs.State.{Process, State, page_at}
use Rattle.nm_types.specs.declared.entry.Entry.{Entry}
use Rattle.nm_types.specs.declared.entry.Entry.TheVariants.{Zero, Frame}
use Rattle.nm_model.specs.definitions.Frames.{Store, bytes_of}
use Rattle.nm_model.specs.definitions.Seen.{sight_in, sight_at}
use Rattle.nm_model.specs.definitions.PageTables.{entry_at, entry_in, process_of, sight_of, entry_of}
use Rattle.nm_model.specs.definitions.Sound.{IsSound}
use Rattle.nm_types.proofs.Keys.{All-get}
use Rattle.nm_types.proofs.Maps.{page_cmp_total, exact_page, agree, get-values, all_from_get}
use Rattle.nm_laws.proofs.Seen.Frames.{place_in_range}
use Rattle.nm_model.specs.definitions.RunMachine.{RunMachine, state_of}
use Rattle.nm_model.specs.examples.Interleaved.{task_of, machine_at_rest}
use Rattle.nm_laws.specs.Interleavings.{IsSettled, IsAtRest, EverySoundStateIsRead}
use Rattle.nm_laws.proofs.InFlight.Values.{values_twice, values_same}
use Rattle.nm_laws.proofs.InFlight.Entering.{unmap_some}

some_is : {V : Type 0} {v w : V} → Some v ≡ Some w → v ≡ w
some_is e = cc

-- ---- lists by index

length_up : (g : ℕ → Option (List ℕ)) (k n : ℕ) → length (map g (up_from k n)) ≡ n
length_up g k zero = refl
length_up g k (suc n) = ap suc (length_up g (k + 1) n)

index_up : (g : ℕ → Option (List ℕ)) (k n f : ℕ) → f < n → slice_index_or (map g (up_from k n)) f None ≡ g (k + f)
index_up g k zero f lt = absurd (omega (arith, lt))
index_up g k (suc n) zero lt = let same : k ≡ k + 0 = omega arith in ap g same
index_up g k (suc n) (suc f) lt = let same : (k + 1) + f ≡ k + suc f = omega arith in index_up g (k + 1) n f (omega (arith, lt)) ∙ ap g same

-- ---- maps of the same keys

by_keys : {K V W : Type 0} (H : K → W) (m : Map K V) → with_values (λ q v. H q) m ≡ map {B = K × W} (λ q. (q, H q)) (keys_of m)
by_keys H [] = refl
by_keys {K} {V} {W} H (e ∷ m) = ap (λ (es : List (K × W)). (e.0, H e.0) ∷ es) (by_keys H m)

-- ---- the page in a frame

page_in : Map Page ℕ → ℕ → Option Page
page_in [] f = None
page_in (e ∷ m) f = if e.1 == f then Some e.0 else page_in m f

page_found : (place m : Map Page ℕ) (f : ℕ) (p : Page) → AllByRecursion (λ e. get page_cmp place e.0 ≡ Some e.1) m → page_in m f ≡ Some p → get page_cmp place p ≡ Some f
unfolding page_in
page_found place [] f p all h = cc
page_found place (e ∷ m) f p all h =
    elim (e.1 == f) as (λ b. (e.1 == f) ≡ b → cond b (Some e.0) (page_in m f) ≡ Some p → get page_cmp place p ≡ Some f) [
      | true ↦ λ b k. subst (λ q. get page_cmp place q ≡ Some f) (some_is k) (all.0 ∙ ap Some (eqb-true e.1 f b))
      | false ↦ λ b k. page_found place m f p all.1 k
    ] refl h

some_page : (m : Map Page ℕ) (f : ℕ) (p : Page) → get page_cmp m p ≡ Some f → is_some (page_in m f) ≡ true
unfolding page_in
some_page [] f p h = cc
some_page (e ∷ m) f p h =
    elim (e.1 == f) as (λ b. (e.1 == f) ≡ b → is_some (cond b (Some e.0) (page_in m f)) ≡ true) [
      | true ↦ λ b. refl
      | false ↦ λ b. elim (is_eq (page_cmp p e.0)) as (λ c. cond c (Some e.1) (get page_cmp m p) ≡ Some f → is_some (page_in m f) ≡ true) [
        | true ↦ λ k. absurd (no (sym b ∙ eq-eqb e.1 f (some_is k)))
        | false ↦ λ k. some_page m f p k
      ] h
    ] refl
  where
    no : false ≡ true → ⊥
    no e = cc

module _ (s : State) (h : IsSound s) where
  -- the bytes in a frame: those of its page, and zeros where it has none
  bytes_for : Option Page → List ℕ
  bytes_for None = replicate 4096 0
  bytes_for (Some p) = unwrap_or (get page_cmp s.bytes p) []

  buffer : ℕ → Option (List ℕ)
  buffer f = Some (bytes_for (page_in s.place f))

  buffers : Store
  buffers = map buffer (up_from 0 (frame_count s.layout))

  abbrev machine : RunMachine
  machine = machine_at_rest s buffers

  all_placed : AllByRecursion (λ e. get page_cmp s.place e.0 ≡ Some e.1) s.place
  all_placed = all_from_get page_cmp_total exact_page (λ q f. get page_cmp s.place q ≡ Some f) s.place h.order.place (λ q f e. e)

  found_bytes : (q : Page) (f : ℕ) (o : Option Page) → get page_cmp s.place q ≡ Some f → page_in s.place f ≡ o → is_some o ≡ true → bytes_for o ≡ unwrap_or (get page_cmp s.bytes q) []
  unfolding bytes_for
  found_bytes q f None placed e some = cc
  found_bytes q f (Some p) placed e some = ap (λ r. unwrap_or (get page_cmp s.bytes r) []) (h.apart p q f (page_found s.place s.place f p all_placed e) placed)

  index_buffer : (f : ℕ) → f < frame_count s.layout → slice_index_or buffers f None ≡ Some (bytes_for (page_in s.place f))
  unfolding buffers buffer
  index_buffer f lt = let same : 0 + f ≡ f = omega arith in index_up buffer 0 (frame_count s.layout) f lt ∙ ap buffer same

  bytes_there : (q : Page) (f : ℕ) → get page_cmp s.place q ≡ Some f → bytes_of buffers f ≡ unwrap_or (get page_cmp s.bytes q) []
  bytes_there q f placed =
      ap (λ o. unwrap_or o []) (index_buffer f (place_in_range s [] q f h placed))
      ∙ found_bytes q f (page_in s.place f) placed refl (some_page s.place f q placed)

  bytes_are : with_values (λ (q : Page) f. bytes_of buffers f) s.place ≡ s.bytes
  bytes_are =
      let H : Page → List ℕ = λ q. unwrap_or (get page_cmp s.bytes q) [] in
      agree page_cmp_total exact_page (λ (q : Page) f. bytes_of buffers f) (λ (q : Page) f. H q) s.place h.order.place bytes_there
      ∙ by_keys H s.place ∙ ap (map {B = Page × List ℕ} (λ q. (q, H q))) (sym h.bytes.same_pages) ∙ sym (by_keys H s.bytes)
      ∙ agree page_cmp_total exact_page (λ (q : Page) x. H q) (λ (q : Page) x. x) s.bytes (subst (IsStrictlySortedBy page_cmp) (sym h.bytes.same_pages) h.order.place) (λ q x e. ap (λ o. unwrap_or o []) e)
      ∙ values_same s.bytes

  -- an entry shows what is seen
  frame_shows : (pid v : ℕ) (q : Page) (o : Option ℕ) → page_at s.areas pid v ≡ Some q → IsSome o → sight_of s.areas pid v (unwrap_or (option_map Frame o) Zero) ≡ Sees q
  frame_shows pid v q None shown some = cc
  frame_shows pid v q (Some f) shown some = ap (λ o. Sees (unwrap_or o (record { segment = 0; index = 0 }))) shown

  entry_shows : (pid v : ℕ) (sight : Sight) → sight_at s pid v ≡ Some sight → sight_of s.areas pid v (entry_of s.place sight) ≡ sight
  entry_shows pid v ZeroPage e = refl
  entry_shows pid v (Sees q) e = let shown = h.shown pid v q e in frame_shows pid v q (get page_cmp s.place q) shown.0 shown.1

  process_is : (pid : ℕ) (p : Process) → get nat_cmp s.processes pid ≡ Some p → process_of s.areas pid (task_of s.place p) ≡ p
  process_is pid p known =
      let sees : with_values (sight_of s.areas pid) (with_values (λ (v : ℕ) sight. entry_of s.place sight) p.sees) ≡ p.sees =
      values_twice (sight_of s.areas pid) (λ (v : ℕ) sight. entry_of s.place sight) p.sees
      ∙ agree nat_cmp_total exact_unsigned (λ v sight. sight_of s.areas pid v (entry_of s.place sight)) (λ v sight. sight) p.sees
      (All-get nat_cmp (λ (q : Process). IsStrictlySortedBy nat_cmp (keys_of q.sees)) s.processes pid p h.order.sees known)
      (λ v sight e. entry_shows pid v sight (ap (λ o. sight_in o v) known ∙ e))
      ∙ values_same p.sees in
      λ i. record p { sees = sees i }

  processes_are : with_values (process_of s.areas) (with_values (λ (pid : ℕ) p. task_of s.place p) s.processes) ≡ s.processes
  processes_are =
      values_twice (process_of s.areas) (λ (pid : ℕ) p. task_of s.place p) s.processes
      ∙ agree nat_cmp_total exact_unsigned (λ pid p. process_of s.areas pid (task_of s.place p)) (λ pid p. p) s.processes h.order.processes process_is
      ∙ values_same s.processes

  machine_reads : state_of machine ≡ s
  machine_reads =
      let place : with_values (λ (q : Page) f. f) s.place ≡ s.place = values_same s.place in
      λ i. record s { processes = processes_are i; place = place i; bytes = bytes_are i }

  table_entry : (o : Option Process) (v : ℕ) → entry_in (option_map (task_of s.place) o) v ≡ option_map (entry_of s.place) (sight_in o v)
  table_entry None v = refl
  table_entry (Some p) v = get-values exact_unsigned (λ (v : ℕ) sight. entry_of s.place sight) p.sees v

  entries_are : (pid v : ℕ) (e : Entry) → entry_at machine.tasks pid v ≡ Some e → e ≡ entry_of s.place (sight_of s.areas pid v e)
  entries_are pid v e there =
      let was = unmap_some (entry_of s.place) (sight_at s pid v) e
      (sym (ap (λ o. entry_in o v) (get-values exact_unsigned (λ (pid : ℕ) p. task_of s.place p) s.processes pid) ∙ table_entry (get nat_cmp s.processes pid) v) ∙ there) in
      sym was.2 ∙ ap (entry_of s.place) (sym (entry_shows pid v was.0 was.1) ∙ ap (sight_of s.areas pid v) was.2)

  settles : IsSettled machine
  unfolding buffers
  settles =
      record {
        idle = refl;
        buffers = length_up buffer 0 (frame_count s.layout);
        home = λ f lt. record {
          in_range = let len : length (map buffer (up_from 0 (frame_count s.layout))) ≡ frame_count s.layout = length_up buffer 0 (frame_count s.layout) in omega (arith, lt, len);
          here = subst (λ (o : Option (List ℕ)). IsSome o) (sym (index_buffer f lt)) refl;
        };
        entries = entries_are;
      }

  rests : IsAtRest machine
  rests = record { ready = refl; unanswered = refl; settled = settles }

pub every_sound_state_is_read : EverySoundStateIsRead
every_sound_state_is_read s h = (machine s h, rests s h, machine_reads s h)
