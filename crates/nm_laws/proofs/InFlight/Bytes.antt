-- The bytes that are read and written in a buffer are those of the state that is read.
use Rattle.std.proofs.Common.{◌≡◌, ℕ, ◌+◌, ◌/◌, ◌%◌, ◌<◌, ◌≤◌, List, [], true, false, length, refl, sym, ap, subst, ◌∙◌, arith, eq-eqb, length-set}
use Rattle.std.specs.Prelude.{Option, Some, None, IsSome, ◌==◌, slice_index, slice_index_or, slice_set}
use Rattle.std.specs.Option.{is_some, unwrap_or, option_map}
use Rattle.std.specs.List.Sorted.{IsStrictlySortedBy}
use Rattle.std.specs.Ordering.{is_eq}
use Rattle.std.specs.Cmp.{tied_itself}
use Rattle.std.proofs.lemmas.Bool.{eqb-true, both_ways}
use Rattle.std.proofs.lemmas.List.{get_or-set_other, get_or-set_same}
use Rattle.nm_types.specs.declared.page.Page.{Page}
use Rattle.nm_types.specs.declared.sight.Sight.TheVariants.{ZeroPage, Sees}
use Rattle.nm_types.specs.Layout.{frame_count}
use Rattle.nm_types.specs.Map.{Map, get, set, replace, page_cmp, with_values}
use Rattle.nm_types.specs.State.{page_at}
use Rattle.nm_types.specs.declared.entry.Entry.{Entry}
use Rattle.nm_types.specs.declared.entry.Entry.TheVariants.{Zero, Frame, Held as OnItsWay}
use Rattle.nm_model.specs.definitions.Frames.{bytes_of, overwrite}
use Rattle.nm_model.specs.definitions.Seen.{sight_at}
use Rattle.nm_model.specs.definitions.PageTables.{entry_at, sight_of, page_here}
use Rattle.nm_model.specs.definitions.Memory.{byte_of, mem_range}
use Rattle.nm_model.specs.definitions.Touch.{with_bytes}
use Rattle.nm_model.specs.definitions.Sound.{times, IsSoundInFlight}
use Rattle.nm_types.proofs.Maps.{page_cmp_total, exact_page, get-values, with_values-set, set_agree, set_same, replace_is_set}
use Rattle.nm_types.proofs.Maps.{keys-values}
use Rattle.nm_laws.proofs.Seen.Frames.{place_in_range}
use Rattle.nm_laws.proofs.Soundness.Touched.{bytes_sound}
use Rattle.nm_model.specs.definitions.RunMachine.{RunMachine, Job, job_from, goes_to, content, state_of}
use Rattle.nm_model.specs.definitions.Events.{hands}
use Rattle.nm_model.specs.definitions.Accesses.{bytes_at, written_at}
use Rattle.nm_laws.proofs.InFlight.Jobs.{sources, targets, goes_nowhere, content_home}
use Rattle.nm_laws.proofs.InFlight.Midway.{IsInFlight, at_home, hands_count}
use Rattle.nm_laws.proofs.InFlight.Ending.{goes_now, in_order, not_in_jobs}
use Rattle.nm_laws.proofs.InFlight.Whereabouts.{sight_is, frame_there}
use Rattle.nm_laws.proofs.InFlight.Meeting.{IsUsed}
use Rattle.nm_laws.proofs.Seen.Ranges.{range_here, zeros_here, parted, zero_has_none}

home_one : (o : Option (List ℕ)) → at_home o ≡ 1 → o ≡ Some (unwrap_or o [])
home_one None e = cc
home_one (Some bytes) e = refl

module _ (m : RunMachine) (moved : List Page) (h : IsInFlight m moved) (pid address : ℕ) where
  abbrev vpn : ℕ
  vpn = address / 4096

  -- a page that an entry names
  module _ (f : ℕ) (there : entry_at m.tasks pid vpn ≡ Some (Frame f)) where
    abbrev page : Page
    page = page_here m.areas pid vpn

    sees : sight_at (state_of m) pid vpn ≡ Some (Sees page)
    sees = sight_is m moved h pid vpn ∙ ap (option_map (sight_of m.areas pid vpn)) there

    shown : page_at m.areas pid vpn ≡ Some page
    shown = (h.sound.shown pid vpn page sees).0

    frame : (get page_cmp m.place page ≡ Some f) × (is_some (job_from m.jobs f) ≡ false)
    frame = frame_there m moved h pid vpn f page there shown

    here_now : get page_cmp (state_of m).place page ≡ Some f
    here_now = goes_now m moved h page f frame.0 ∙ ap Some (goes_nowhere m.jobs f frame.1)

    bytes_here : get page_cmp (state_of m).bytes page ≡ Some (bytes_of m.buf f)
    bytes_here =
        get-values exact_page (λ (q : Page) g. content m.buf m.jobs g) m.place page
        ∙ ap (option_map (content m.buf m.jobs)) frame.0 ∙ ap Some (content_home m.buf m.jobs f frame.1)

    below : f < frame_count m.layout
    below = place_in_range (state_of m) (sources m.jobs) page f h.sound here_now

    inside : f < length m.buf
    inside = let lt = below in let len = h.buffers in omega (arith, lt, len)

    is_home : at_home (slice_index_or m.buf f None) ≡ 1
    is_home =
        let none = not_in_jobs m moved h page f frame.0 frame.1 in
        let once = sym (hands_count m f) ∙ h.once f below in
        omega (arith, none, once)

  pub reads_alike : (e : Entry) → entry_at m.tasks pid vpn ≡ Some e → IsUsed e → (len : ℕ) → address % 4096 + len ≤ 4096 → bytes_at m.buf (Some e) (address % 4096) len ≡ mem_range (state_of m) pid address len
  reads_alike Zero there used len fits =
      let sees_zero : sight_at (state_of m) pid vpn ≡ Some ZeroPage = sight_is m moved h pid vpn ∙ ap (option_map (sight_of m.areas pid vpn)) there in
      let none = zero_has_none (state_of m) (sources m.jobs) pid vpn h.sound sees_zero in
      sym (ap (λ a. mem_range (state_of m) pid a len) (parted address) ∙ zeros_here (state_of m) pid vpn none.0 none.1 none.2 (address % 4096) len fits)
  reads_alike (OnItsWay f) there used len fits = absurd used
  reads_alike (Frame f) there used len fits =
      sym (ap (λ a. mem_range (state_of m) pid a len) (parted address)
      ∙ range_here (state_of m) pid vpn (page f there) (shown f there) (bytes_of m.buf f)
      (λ i. ap (λ o. byte_of (state_of m) (page f there) o i) (here_now f there) ∙ ap (λ o. slice_index (unwrap_or o []) i) (bytes_here f there)) (address % 4096) len fits)

  module _ (new : List ℕ) where
    abbrev written : Entry → RunMachine
    written e = record m { buf = written_at m.buf (Some e) (address % 4096) new }

    -- the new bytes of the page
    frame_written : (f : ℕ) (there : entry_at m.tasks pid vpn ≡ Some (Frame f)) → state_of (written (Frame f)) ≡ with_bytes (state_of m) (Some (Sees (page f there))) (address % 4096) new
    frame_written f there =
        let p = page f there in
        let whole = overwrite (bytes_of m.buf f) (address % 4096) new in
        let buf = slice_set m.buf f (Some whole) in
        let old : Map Page (List ℕ) = with_values (λ (q : Page) g. content m.buf m.jobs g) m.place in
        let mine : content buf m.jobs f ≡ whole = content_home buf m.jobs f (frame f there).1 ∙ ap (λ o. unwrap_or o []) (get_or-set_same m.buf f (Some whole) None (inside f there)) in
        let bytes : with_values (λ (q : Page) g. content buf m.jobs g) m.place ≡ replace page_cmp old p (overwrite (unwrap_or (get page_cmp old p) []) (address % 4096) new) =
        ap (with_values (λ (q : Page) g. content buf m.jobs g)) (sym (set_same page_cmp_total exact_page m.place p f (in_order m moved h) (frame f there).0))
        ∙ with_values-set exact_page (λ (q : Page) g. content buf m.jobs g) m.place p f
        ∙ ap (set page_cmp (with_values (λ (q : Page) g. content buf m.jobs g) m.place) p) mine
        ∙ set_agree page_cmp_total exact_page (λ (q : Page) g. content buf m.jobs g) (λ (q : Page) g. content m.buf m.jobs g) m.place p whole (in_order m moved h)
        (λ q g placed apart. ap (λ o. unwrap_or (option_map (λ (job : Job). job.source.1) (job_from m.jobs g)) (unwrap_or o []))
        (get_or-set_other m.buf f g (Some whole) None
        (λ e. both_ways _ apart (ap is_eq (ap (λ r. page_cmp r p) (h.sound.apart q p (goes_to m.jobs f) (goes_now m moved h q f (placed ∙ ap Some e)) (goes_now m moved h p f (frame f there).0)) ∙ tied_itself page_cmp_total p)))))
        ∙ sym (replace_is_set page_cmp_total exact_page old p whole (subst (IsStrictlySortedBy page_cmp) (sym (keys-values (λ (q : Page) g. content m.buf m.jobs g) m.place)) (in_order m moved h)) (subst IsSome (sym (bytes_here f there)) refl))
        ∙ ap (λ o. replace page_cmp old p (overwrite (unwrap_or o []) (address % 4096) new)) (sym (bytes_here f there)) in
        ap (λ b. record (state_of m) { bytes = b }) bytes

    pub writes_alike : (e : Entry) → entry_at m.tasks pid vpn ≡ Some e → IsUsed e → state_of (written e) ≡ with_bytes (state_of m) (sight_at (state_of m) pid vpn) (address % 4096) new
    writes_alike Zero there used = sym (ap (λ o. with_bytes (state_of m) o (address % 4096) new) (sight_is m moved h pid vpn ∙ ap (option_map (sight_of m.areas pid vpn)) there))
    writes_alike (OnItsWay f) there used = absurd used
    writes_alike (Frame f) there used = frame_written f there ∙ ap (λ o. with_bytes (state_of m) o (address % 4096) new) (sym (sees f there))

    once_written : (f : ℕ) (there : entry_at m.tasks pid vpn ≡ Some (Frame f)) (bytes : List ℕ) (g : ℕ) → g < frame_count m.layout → length (hands (record m { buf = slice_set m.buf f (Some bytes) }) g) ≡ 1
    once_written f there bytes g lt =
        hands_count (record m { buf = slice_set m.buf f (Some bytes) }) g
        ∙ elim (g == f) as (λ b. (g == f) ≡ b → at_home (slice_index_or (slice_set m.buf f (Some bytes)) g None) + (times g (sources m.jobs) + times g (targets m.jobs)) ≡ 1) [
          | true ↦ λ b.
              let is = eqb-true g f b in
              let home : at_home (slice_index_or (slice_set m.buf f (Some bytes)) g None) ≡ 1 = ap at_home (ap (λ k. slice_index_or (slice_set m.buf f (Some bytes)) k None) is ∙ get_or-set_same m.buf f (Some bytes) None (inside f there)) in
              let was : at_home (slice_index_or m.buf g None) ≡ 1 = ap (λ k. at_home (slice_index_or m.buf k None)) is ∙ is_home f there in
              let once = sym (hands_count m g) ∙ h.once g lt in
              omega (arith, home, was, once)
          | false ↦ λ b.
              ap (λ o. at_home o + (times g (sources m.jobs) + times g (targets m.jobs))) (get_or-set_other m.buf f g (Some bytes) None (λ e. no (sym b ∙ eq-eqb g f e)))
              ∙ sym (hands_count m g) ∙ h.once g lt
        ] refl
      where
        no : false ≡ true → ⊥
        no e = cc

    pub written_midway : (e : Entry) → entry_at m.tasks pid vpn ≡ Some e → IsUsed e → address % 4096 + length new ≤ 4096 → IsInFlight (written e) moved
    written_midway Zero there used fits = h
    written_midway (OnItsWay f) there used fits = absurd used
    written_midway (Frame f) there used fits =
        let bytes = overwrite (bytes_of m.buf f) (address % 4096) new in
        record {
          moving = h.moving;
          sound = subst (λ s. IsSoundInFlight s (sources m.jobs)) (sym (frame_written f there))
              (bytes_sound (state_of m) (sources m.jobs) pid vpn (address % 4096) new (Some (Sees (page f there))) h.sound (sees f there) fits);
          entries = h.entries;
          pages = h.pages;
          copies = h.copies;
          copied = h.copied;
          buffers = length-set m.buf f (Some bytes) ∙ h.buffers;
          once = once_written f there bytes;
        }
