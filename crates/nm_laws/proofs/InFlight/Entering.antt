-- Another entry in a page table is another sight of the process.
use Rattle.std.proofs.Common.{◌≡◌, ℕ, true, false, cond, refl, sym, ap, subst, ◌∙◌, ◌&&◌}
use Rattle.std.specs.Prelude.{Option, Some, None, IsSome}
use Rattle.std.specs.Option.{option_map}
use Rattle.std.specs.Ordering.{nat_cmp, is_eq}
use Rattle.std.specs.Cmp.{nat_cmp_total, eq_by_cmp_equiv, tied_itself}
use Rattle.std.proofs.lemmas.Map.Lookups.{exact_unsigned}
use Rattle.nm_types.specs.Map.{get, set, replace, with_values}
use Rattle.nm_types.specs.State.{Process}
use Rattle.nm_types.specs.declared.entry.Entry.{Entry}
use Rattle.nm_model.specs.definitions.PageTables.{Task, entry_at, entry_in, with_entry, process_of, sight_of}
use Rattle.nm_model.specs.definitions.Touch.{AccessSite, with_sight}
use Rattle.nm_types.proofs.Maps.{equal, get-set, get-replace, get-values, with_values-set, with_values-replace}
use Rattle.nm_laws.proofs.Seen.Sights.{IsSpot, is_here}
use Rattle.nm_model.specs.definitions.RunMachine.{RunMachine, state_of}
use Rattle.nm_model.specs.definitions.Accesses.{set_in, with_entry_at}

some_is : {V : Type 0} {v w : V} → Some v ≡ Some w → v ≡ w
some_is e = cc

pub unmap_some : {A B : Type 0} (f : A → B) (o : Option A) (b : B) → option_map f o ≡ Some b → (a : A) × (o ≡ Some a) × (f a ≡ b)
unmap_some f None b h = cc
unmap_some f (Some a) b h = (a, refl, some_is h)

-- the process that is there has a table
pub task_there : (m : RunMachine) (at : AccessSite) → IsSpot (state_of m) at → (t : Task) × (get nat_cmp m.tasks at.pid ≡ Some t) × (process_of m.areas at.pid t ≡ at.process)
task_there m at i = unmap_some (process_of m.areas at.pid) (get nat_cmp m.tasks at.pid) at.process (sym (get-values exact_unsigned (process_of m.areas) m.tasks at.pid) ∙ i.process)

module _ (m : RunMachine) (at : AccessSite) (i : IsSpot (state_of m) at) (e : Entry) where
  set_is : (t : Task) → get nat_cmp m.tasks at.pid ≡ Some t → (with_entry_at m at e).tasks ≡ replace nat_cmp m.tasks at.pid (with_entry t at.vpn e)
  set_is t known = ap (λ o. set_in m.tasks o at.pid at.vpn e) known

  -- the state then
  pub entered_is : state_of (with_entry_at m at e) ≡ with_sight (state_of m) at (sight_of m.areas at.pid at.vpn e)
  entered_is =
      let t = task_there m at i in
      let process : process_of m.areas at.pid (with_entry t.0 at.vpn e) ≡ record (at.process) { sees = set nat_cmp at.process.sees at.vpn (sight_of m.areas at.pid at.vpn e) } =
      ap (λ ss. record (process_of m.areas at.pid t.0) { sees = ss }) (with_values-set exact_unsigned (sight_of m.areas at.pid) t.0.table at.vpn e)
      ∙ ap (λ (p : Process). record p { sees = set nat_cmp p.sees at.vpn (sight_of m.areas at.pid at.vpn e) }) t.2 in
      ap (λ ps. record (state_of m) { processes = ps })
      (ap (with_values (process_of m.areas)) (set_is t.0 t.1)
      ∙ with_values-replace exact_unsigned (process_of m.areas) m.tasks at.pid (with_entry t.0 at.vpn e)
      ∙ ap (replace nat_cmp (with_values (process_of m.areas) m.tasks) at.pid) process)

  -- the entries then
  pub entry_then : (q w : ℕ) → entry_at (with_entry_at m at e).tasks q w ≡ cond (is_here at q w) (Some e) (entry_at m.tasks q w)
  entry_then q w =
      let t = task_there m at i in
      let new = with_entry t.0 at.vpn e in
      ap (λ ts. entry_at ts q w) (set_is t.0 t.1)
      ∙ ap (λ o. entry_in o w) (get-replace nat_cmp_total exact_unsigned m.tasks at.pid new q (subst IsSome (sym t.1) refl) ∙ ap (λ b. cond b (Some new) (get nat_cmp m.tasks q)) ((eq_by_cmp_equiv nat_cmp_total).symm at.pid q))
      ∙ elim (is_eq (nat_cmp q at.pid)) as (λ b. is_eq (nat_cmp q at.pid) ≡ b → entry_in (cond b (Some new) (get nat_cmp m.tasks q)) w ≡ cond (b && is_eq (nat_cmp w at.vpn)) (Some e) (entry_at m.tasks q w)) [
        | true ↦ λ b. get-set nat_cmp_total t.0.table at.vpn e w
            ∙ ap (λ o. cond (is_eq (nat_cmp w at.vpn)) (Some e) (entry_in o w)) (sym t.1 ∙ ap (get nat_cmp m.tasks) (sym (exact_unsigned q at.pid (equal _ b))))
        | false ↦ λ b. refl
      ] refl

  pub entry_here : entry_at (with_entry_at m at e).tasks at.pid at.vpn ≡ Some e
  entry_here =
      entry_then at.pid at.vpn
      ∙ ap (λ r. cond (is_eq r && is_eq (nat_cmp at.vpn at.vpn)) (Some e) (entry_at m.tasks at.pid at.vpn)) (tied_itself nat_cmp_total at.pid)
      ∙ ap (λ r. cond (is_eq r) (Some e) (entry_at m.tasks at.pid at.vpn)) (tied_itself nat_cmp_total at.vpn)
