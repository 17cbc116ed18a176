-- The processes of a frame's mappers are those that see its page.
use Rattle.std.proofs.Common.{◌≡◌, ℕ, List, [], ◌∷◌, Bool, true, false, cond, nat_eq, refl, sym, ap, subst, ◌∙◌, length, eq-eqb}
use Rattle.std.specs.Prelude.{Option, Some, None, ◌||◌}
use Rattle.std.specs.Option.{option_map, is_some, unwrap_or}
use Rattle.std.specs.List.{filter, list_any}
use Rattle.std.specs.List.Sorted.{IsStrictlySortedBy}
use Rattle.std.specs.Map.{keys_of}
use Rattle.std.specs.Set.{is_member, distinct_count}
use Rattle.std.specs.Ordering.{nat_cmp, is_eq, eq_by_cmp}
use Rattle.std.specs.BTreeMap.{is_at}
use Rattle.std.specs.Cmp.{nat_cmp_total, eq_by_cmp_equiv, unsigned_ties, tied_itself}
use Rattle.std.proofs.lemmas.Bool.{or_left, or_right}
use Rattle.std.proofs.lemmas.Map.{lookup-none}
use Rattle.std.proofs.lemmas.Map.Entries.{none_past_head, lookup-filter-values, option_filter}
use Rattle.std.proofs.lemmas.Map.Keys.{IsDistinct-from_sorted, sorted_tail}
use Rattle.std.proofs.lemmas.Map.Lookups.{exact_unsigned}
use Rattle.std.proofs.lemmas.Map.Made.{IsDistinct-keys_filter, length-from_keys}
use Rattle.nm_types.specs.declared.page.Page.{Page}
use Rattle.nm_types.specs.Map.{Map, get, with_values, page_cmp, same_page, spot_cmp}
use Rattle.nm_types.proofs.Cases.{none_some, some_is}
use Rattle.nm_model.specs.definitions.Seen.{is_sight_of, sees_page}
use Rattle.nm_types.specs.declared.entry.Entry.{Entry}
use Rattle.nm_types.specs.declared.entry.Entry.TheVariants.{Zero, Frame, Held}
use Rattle.nm_model.specs.definitions.Areas.{Mapping}
use Rattle.nm_rmap.specs.Mappers.{Mappers, mappers_of, pids, process_count}
use Rattle.nm_model.specs.definitions.PageTables.{Task, entry_at, entry_in}
use Rattle.nm_spaces.specs.views.ProcessTable.{names}
use Rattle.nm_model.specs.definitions.PageTables.{process_of, sight_of, page_here}
use Rattle.nm_spaces.specs.definitions.Tied.{IsTied, has_spot}
use Rattle.nm_types.proofs.Maps.{keys-values, equal, get-values, page_cmp_total, exact_page, spot_cmp_total}
use Rattle.nm_types.proofs.Keys.{All-get}
use Rattle.nm_spaces.proofs.Held.ReplacedEntries.{same_spot, exact_spot, TableInOrder}

false_true : false ≡ true → ⊥
false_true e = cc

-- two answers that are yes together
both_yes : (a b : Bool) → (a ≡ true → b ≡ true) → (b ≡ true → a ≡ true) → a ≡ b
both_yes true b f g = sym (f refl)
both_yes false true f g = g refl
both_yes false false f g = refl

-- == and the order of numbers agree
same_equal : nat_eq ≡ eq_by_cmp nat_cmp
same_equal = λ i a b. unsigned_ties a b i

module _ {V : Type 0} where
  member_some : (m : Map ℕ V) (q : ℕ) → is_member (eq_by_cmp nat_cmp) (keys_of m) q ≡ is_some (get nat_cmp m q)
  member_some [] q = refl
  member_some (e ∷ m) q =
      elim (is_eq (nat_cmp q e.0)) as (λ b. (b || is_member (eq_by_cmp nat_cmp) (keys_of m) q) ≡ is_some (cond b (Some e.1) (get nat_cmp m q))) [
        | true ↦ refl
        | false ↦ member_some m q
      ]

  none_after : (e : ℕ × V) (m : Map ℕ V) → IsStrictlySortedBy nat_cmp (keys_of (e ∷ m)) → (q : ℕ) → is_eq (nat_cmp q e.0) ≡ true → get nat_cmp m q ≡ None
  none_after e m s q h = lookup-none (is_at (nat_cmp q)) m (none_past_head (eq_by_cmp_equiv nat_cmp_total) q e m (IsDistinct-from_sorted nat_cmp (keys_of (e ∷ m)) s) h)

  -- the value at which the test gives yes
  any_found : (P : V → Bool) (m : Map ℕ V) → IsStrictlySortedBy nat_cmp (keys_of m) → list_any (λ e. P e.1) m ≡ true → (k : ℕ) × (x : V) × (get nat_cmp m k ≡ Some x) × (P x ≡ true)
  any_found P [] s h = absurd (false_true h)
  any_found P (e ∷ m) s h =
      elim (P e.1) as (λ b. P e.1 ≡ b → (b || list_any (λ e. P e.1) m) ≡ true → (k : ℕ) × (x : V) × (get nat_cmp (e ∷ m) k ≡ Some x) × (P x ≡ true)) [
        | true ↦ λ b h. (e.0, e.1, ap (λ r. cond (is_eq r) (Some e.1) (get nat_cmp m e.0)) (tied_itself nat_cmp_total e.0), b)
        | false ↦ λ b h.
            let later = any_found P m (sorted_tail nat_cmp e.0 (keys_of m) s) h in (
              later.0,
              later.1,
              elim (is_eq (nat_cmp later.0 e.0)) as (λ c. is_eq (nat_cmp later.0 e.0) ≡ c → cond c (Some e.1) (get nat_cmp m later.0) ≡ Some later.1) [
                | true ↦ λ c. absurd (none_some (sym (none_after e m s later.0 c) ∙ later.2))
                | false ↦ λ c. later.2
              ] refl,
              later.3,
            )
      ] refl h

  any_from : (P : V → Bool) (m : Map ℕ V) (k : ℕ) (x : V) → get nat_cmp m k ≡ Some x → P x ≡ true → list_any (λ e. P e.1) m ≡ true
  any_from P [] k x h p = absurd (none_some h)
  any_from P (e ∷ m) k x h p =
      elim (is_eq (nat_cmp k e.0)) as (λ b. cond b (Some e.1) (get nat_cmp m k) ≡ Some x → (P e.1 || list_any (λ e. P e.1) m) ≡ true) [
        | true ↦ λ h. or_left _ _ (ap P (some_is h) ∙ p)
        | false ↦ λ h. or_right _ _ (any_from P m k x h p)
      ] h

-- a process of mappers has one of them
pid_found : (mappings : List (ℕ × ℕ)) (q : ℕ) → is_member (eq_by_cmp nat_cmp) (pids mappings) q ≡ true → (v : ℕ) × (has_spot mappings (q, v) ≡ true)
pid_found [] q h = absurd (false_true h)
pid_found (s ∷ mappings) q h =
    elim (is_eq (nat_cmp q s.0)) as (λ b. is_eq (nat_cmp q s.0) ≡ b → (b || is_member (eq_by_cmp nat_cmp) (pids mappings) q) ≡ true → (v : ℕ) × (has_spot (s ∷ mappings) (q, v) ≡ true)) [
      | true ↦ λ b h. (s.1, or_left _ _ (ap (λ k. is_at (spot_cmp (k, s.1)) s) (exact_unsigned q s.0 (equal _ b)) ∙ ap is_eq (tied_itself spot_cmp_total s)))
      | false ↦ λ b h. let later = pid_found mappings q h in (later.0, or_right _ _ later.1)
    ] refl h

pid_from : (mappings : List (ℕ × ℕ)) (q v : ℕ) → has_spot mappings (q, v) ≡ true → is_member (eq_by_cmp nat_cmp) (pids mappings) q ≡ true
pid_from [] q v h = h
pid_from (s ∷ mappings) q v h =
    elim (same_spot (q, v) s) as (λ b. same_spot (q, v) s ≡ b → (b || has_spot mappings (q, v)) ≡ true → is_member (eq_by_cmp nat_cmp) (pids (s ∷ mappings)) q ≡ true) [
      | true ↦ λ b h. or_left _ _ (ap (λ (s : ℕ × ℕ). is_eq (nat_cmp q s.0)) (sym (exact_spot (q, v) s b)) ∙ ap is_eq (tied_itself nat_cmp_total q))
      | false ↦ λ b h. or_right _ _ (pid_from mappings q v h)
    ] refl h

unmap_some : {A B : Type 0} (f : A → B) (o : Option A) (b : B) → option_map f o ≡ Some b → (a : A) × (o ≡ Some a) × (f a ≡ b)
unmap_some f None b h = absurd (none_some h)
unmap_some f (Some a) b h = (a, refl, some_is h)

module _ (tasks : Map ℕ Task) (m : Mapping) (r : Mappers) (h : IsTied tasks m r) (p : Page) (f : ℕ) (placed : get page_cmp m.place p ≡ Some f) where
  -- the page that an entry's frame has
  page_is : (g pid v : ℕ) → names g (entry_at tasks pid v) ≡ true → (s : Page) × (page_here m.areas pid v ≡ s) × (get page_cmp m.place s ≡ Some g)
  page_is g pid v n = let s = h.shows g pid v n in (s.0, ap (λ o. unwrap_or o (record { segment = 0; index = 0 })) s.1, s.2)

  -- an entry through which the page is seen names its frame
  named_by_sight : (g pid v : ℕ) → names g (entry_at tasks pid v) ≡ true → same_page p (page_here m.areas pid v) ≡ true → g ≡ f
  named_by_sight g pid v n seen =
      let s = page_is g pid v n in
      some_is (sym s.2 ∙ ap (get page_cmp m.place) (sym (exact_page p (page_here m.areas pid v) (equal _ seen) ∙ s.1)) ∙ placed)

  sight_names : (pid v : ℕ) (e : Entry) → entry_at tasks pid v ≡ Some e → is_sight_of p (sight_of m.areas pid v e) ≡ true → names f (Some e) ≡ true
  sight_names pid v Zero k s = absurd (false_true s)
  sight_names pid v (Frame g) k s = eq-eqb g f (named_by_sight g pid v (ap (names g) k ∙ eq-eqb g g refl) s)
  sight_names pid v (Held g) k s = eq-eqb g f (named_by_sight g pid v (ap (names g) k ∙ eq-eqb g g refl) s)

  -- through an entry that names its frame the page is seen
  seen_by_name : (pid v : ℕ) → names f (entry_at tasks pid v) ≡ true → same_page p (page_here m.areas pid v) ≡ true
  seen_by_name pid v n =
      let s = page_is f pid v n in
      ap (same_page p) (s.1 ∙ sym (h.apart p s.0 f placed s.2)) ∙ ap is_eq (tied_itself page_cmp_total p)

  names_sight : (pid v : ℕ) (e : Entry) → entry_at tasks pid v ≡ Some e → names f (Some e) ≡ true → is_sight_of p (sight_of m.areas pid v e) ≡ true
  names_sight pid v Zero k n = absurd (false_true n)
  names_sight pid v (Frame g) k n = seen_by_name pid v (ap (names f) k ∙ n)
  names_sight pid v (Held g) k n = seen_by_name pid v (ap (names f) k ∙ n)

  -- a process that sees the page has a mapper
  seer_maps : (q : ℕ) (t : Task) → get nat_cmp tasks q ≡ Some t → sees_page p (process_of m.areas q t) ≡ true → is_member (eq_by_cmp nat_cmp) (pids (mappers_of r f)) q ≡ true
  seer_maps q t k s =
      let sees = with_values (sight_of m.areas q) t.table in
      let sorted = subst (IsStrictlySortedBy nat_cmp) (sym (keys-values (sight_of m.areas q) t.table)) (All-get nat_cmp TableInOrder tasks q t h.tables k) in
      let seen = any_found (is_sight_of p) sees sorted s in
      let entry = unmap_some (sight_of m.areas q seen.0) (get nat_cmp t.table seen.0) seen.1 (sym (get-values exact_unsigned (sight_of m.areas q) t.table seen.0) ∙ seen.2) in
      let there : entry_at tasks q seen.0 ≡ Some entry.0 = ap (λ o. entry_in o seen.0) k ∙ entry.1 in
      pid_from (mappers_of r f) q seen.0
      (h.mappers f q seen.0 ∙ ap (names f) there ∙ sight_names q seen.0 entry.0 there (ap (is_sight_of p) entry.2 ∙ seen.3))

  -- a process that has a mapper sees the page
  mapper_sees : (q v : ℕ) (o : Option Task) → get nat_cmp tasks q ≡ o → names f (entry_in o v) ≡ true → is_some (option_filter (sees_page p) (option_map (process_of m.areas q) o)) ≡ true
  mapper_sees q v None k n = absurd (false_true n)
  mapper_sees q v (Some t) k n =
      let sees = with_values (sight_of m.areas q) t.table in
      elim (get nat_cmp t.table v) as (λ o. get nat_cmp t.table v ≡ o → names f o ≡ true → is_some (option_filter (sees_page p) (Some (process_of m.areas q t))) ≡ true) [
        | None ↦ λ e n. absurd (false_true n)
        | Some x ↦ λ e n.
            let seen = any_from (is_sight_of p) sees v (sight_of m.areas q v x) (get-values exact_unsigned (sight_of m.areas q) t.table v ∙ ap (option_map (sight_of m.areas q v)) e)
            (names_sight q v x (ap (λ o. entry_in o v) k ∙ e) n) in
            ap (λ b. is_some (cond b (Some (process_of m.areas q t)) None)) seen
      ] refl n

  member_same : (q : ℕ) (o : Option Task) → get nat_cmp tasks q ≡ o → is_some (option_filter (sees_page p) (option_map (process_of m.areas q) o)) ≡ is_member (eq_by_cmp nat_cmp) (pids (mappers_of r f)) q
  member_same q o k =
      both_yes _ _
      (elim o as (λ o. get nat_cmp tasks q ≡ o → is_some (option_filter (sees_page p) (option_map (process_of m.areas q) o)) ≡ true → is_member (eq_by_cmp nat_cmp) (pids (mappers_of r f)) q ≡ true) [
        | None ↦ λ k s. absurd (false_true s)
        | Some t ↦ λ k s. elim (sees_page p (process_of m.areas q t)) as (λ b. sees_page p (process_of m.areas q t) ≡ b → is_some (cond b (Some (process_of m.areas q t)) None) ≡ true → is_member (eq_by_cmp nat_cmp) (pids (mappers_of r f)) q ≡ true) [
          | true ↦ λ b s. seer_maps q t k b
          | false ↦ λ b s. absurd (false_true s)
        ] refl s
      ] k)
      (λ s. let spot = pid_found (mappers_of r f) q s in mapper_sees q spot.0 o k (ap (λ o. names f (entry_in o spot.0)) (sym k) ∙ sym (h.mappers f q spot.0) ∙ spot.1))

  -- the mappers of its frame are of as many processes as see the page
  pub users_counted : process_count (mappers_of r f) ≡ length (keys_of (filter (λ e. sees_page p e.1) (with_values (process_of m.areas) tasks)))
  users_counted =
      let ps = with_values (process_of m.areas) tasks in
      let equal_keys = eq_by_cmp nat_cmp in
      let apart = IsDistinct-from_sorted nat_cmp (keys_of ps) (subst (IsStrictlySortedBy nat_cmp) (sym (keys-values (process_of m.areas) tasks)) h.pids) in
      ap (λ eq. distinct_count eq (pids (mappers_of r f))) same_equal
      ∙ sym (length-from_keys (eq_by_cmp_equiv nat_cmp_total) (keys_of (filter (λ e. sees_page p e.1) ps)) (pids (mappers_of r f))
      (IsDistinct-keys_filter equal_keys (λ e. sees_page p e.1) ps apart)
      (λ q.
      member_some (filter (λ e. sees_page p e.1) ps) q
      ∙ ap is_some (lookup-filter-values (eq_by_cmp_equiv nat_cmp_total) (sees_page p) q ps apart ∙ ap (option_filter (sees_page p)) (get-values exact_unsigned (process_of m.areas) tasks q))
      ∙ member_same q (get nat_cmp tasks q) refl))
