-- The entries of page tables while a run is under way, by the state that is read and the pages that are on their way.
use Rattle.std.proofs.Common.{◌≡◌, ℕ, List, refl, sym, ap, ◌∙◌}
use Rattle.std.specs.Prelude.{Option, Some, None, if◌then◌else◌}
use Rattle.std.specs.Option.{is_some, unwrap_or, option_map}
use Rattle.nm_types.specs.declared.entry.Entry.{Entry}
use Rattle.nm_types.specs.declared.entry.Entry.TheVariants.{Zero, Frame, Held}
use Rattle.nm_types.specs.declared.page.Page.{Page}
use Rattle.nm_types.specs.declared.sight.Sight.{Sight}
use Rattle.nm_types.specs.declared.sight.Sight.TheVariants.{ZeroPage, Sees}
use Rattle.nm_types.specs.Map.{get, page_cmp}
use Rattle.nm_types.proofs.Maps.{exact_page, get-values}
use Rattle.nm_model.specs.definitions.Events.{held_by}
use Rattle.nm_model.specs.definitions.PageTables.{entry_at, entry_of, sight_of}
use Rattle.nm_model.specs.definitions.RunMachine.{RunMachine, Job, job_from, goes_to, state_of}
use Rattle.nm_model.specs.definitions.Seen.{sight_at}
use Rattle.nm_laws.specs.InFlight.{IsInFlight, entry_in_flight, is_source, hold_entry}
use Rattle.nm_laws.proofs.InFlight.Whereabouts.{sight_is}

-- the entry of a page in this frame, if it has one, by its job
held_or_here : (jobs : List Job) (o : Option ℕ) → held_by jobs (unwrap_or (option_map Frame o) Zero)
    ≡ (let e = unwrap_or (option_map Frame (option_map (goes_to jobs) o)) Zero in if is_source jobs o then hold_entry e else e)
held_or_here jobs None = refl
held_or_here jobs (Some f) =
    elim (job_from jobs f) as (λ o. unwrap_or (option_map (λ (job : Job). Held job.target.0) o) (Frame f)
    ≡ (let e = Frame (unwrap_or (option_map (λ (job : Job). job.target.0) o) f) in if is_some o then hold_entry e else e)) [ None ↦ refl | Some job ↦ refl ]

module _ (m : RunMachine) (moved : List Page) (h : IsInFlight m moved) where
  entry_for : (s : Sight) → held_by m.jobs (entry_of m.place s) ≡ entry_in_flight (state_of m).place moved s
  entry_for ZeroPage = refl
  entry_for (Sees p) =
      held_or_here m.jobs (get page_cmp m.place p)
      ∙ (λ i. let e = unwrap_or (option_map Frame (sym (get-values exact_page (λ (q : Page) f. goes_to m.jobs f) m.place p) i)) Zero in if sym (h.pages p) i then hold_entry e else e)

  entry_shown : (pid v : ℕ) (o : Option Entry) → entry_at m.tasks pid v ≡ o → o ≡ option_map (entry_in_flight (state_of m).place moved) (option_map (sight_of m.areas pid v) o)
  entry_shown pid v None e = refl
  entry_shown pid v (Some entry) e = ap Some (h.entries pid v entry e ∙ entry_for (sight_of m.areas pid v entry))

  pub entry_is : (pid v : ℕ) → entry_at m.tasks pid v ≡ option_map (entry_in_flight (state_of m).place moved) (sight_at (state_of m) pid v)
  entry_is pid v = entry_shown pid v (entry_at m.tasks pid v) refl ∙ ap (option_map (entry_in_flight (state_of m).place moved)) (sym (sight_is m moved h pid v))
