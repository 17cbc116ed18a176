use Rattle.std.proofs.Common.{◌≡◌, ℕ, ◌+◌, ◌-◌, ◌<◌, ◌≤◌, ◌^◌, ◌∙◌, sym, ap, subst, Ok, Some, arith}
use Rattle.std.specs.List.{AllByRecursion}
use Rattle.nm_types.specs.declared.area.Area.{Area}
use Rattle.nm_types.specs.Map.{Map}
use Rattle.nm_types.specs.State.{Process, PlacedArea, State, area_over}
use Rattle.nm_types.proofs.Cases.{some_is}
use Rattle.nm_engine.specs.views.Parts.{IsSiteOf, access_site}
use Rattle.nm_engine.specs.declared.resolved_address.ResolvedAddress.{ResolvedAddress}
use Rattle.nm_model.specs.definitions.Areas.{HasIndices, Mapping}
use Rattle.nm_model.specs.definitions.Touch.{site}
use Rattle.nm_engine.proofs.Does.Touches.{touched_there}
use Rattle.nm_spaces.proofs.Spaces.AreaLookups.{found_below, found_index}
use Rattle.nm_engine.proofs.resolved_address.ResolvedAddress.of.Goals as goal

-- the area over a page number begins there or before
over_below : (areas : Map (ℕ × ℕ) Area) (pid v : ℕ) {first : ℕ} {area : Area} → AllByRecursion HasIndices areas → Some ((pid, first), area) ≡ area_over areas pid v → first ≤ v
over_below areas pid v {first} {area} h e = found_below areas pid v h (Some (first, area)) e

-- the page there has an index below 2^64
over_index : (areas : Map (ℕ × ℕ) Area) (pid v : ℕ) {first : ℕ} {area : Area} → AllByRecursion HasIndices areas → Some ((pid, first), area) ≡ area_over areas pid v → area.page.index + (v - first) < 2 ^ 64
over_index areas pid v {first} {area} h e = found_index areas pid v h (Some (first, area)) e

pub overflow_sub-page : goal.overflow_sub-page
overflow_sub-page g c =
    let first = over_below c.areas.result.now.areas c.args.pid c.of_address-vpn.result c.over.ensures.kept.indices c.in-Some-over.ensures.found in
    omega (arith, first, c.number-2.ensures, c.number.ensures)

pub overflow_add-page : goal.overflow_add-page
overflow_add-page g c =
    let index = over_index c.areas.result.now.areas c.args.pid c.of_address-vpn.result c.over.ensures.kept.indices c.in-Some-over.ensures.found in
    omega (arith, index, c.number-2.ensures, c.number.ensures)

pub returns-clause-ok : goal.returns-clause-ok
returns-clause-ok g c =
    let y = c.args.spaces.now in
    let same = some_is (c.in-Some-over.ensures.found ∙ sym c.in-Some-over.ensures'.found) in
    let of : PlacedArea → ResolvedAddress = λ x. record {
      pid = c.args.pid;
      info = c.in-Some.info;
      vpn = c.of_address-vpn.result;
      page = record { segment = x.1.page.segment; index = x.1.page.index + (c.number.result - c.number-2.result) };
      policy = x.1.policy;
    } in
    subst (λ x. (p : Process) × (a : PlacedArea) × IsSiteOf y.processes y.areas (of x) p a × ((s : State) → s.processes ≡ y.processes → s.areas ≡ y.areas → site s c.args.pid c.args.addr c.args.len ≡ Ok (access_site (of x) p a))) (sym same)
    (touched_there y.processes y.areas c.args.pid c.args.addr c.args.len c.of_address-vpn.result c.in-Some-over.first _
    c.in-Some.info c.in-Some-over.area (sym c.info.ensures ∙ c.in-Some.is) c.if-len-eq0.false (omega (arith, c.if-len-offset.false, c.offset.ensures.value)) c.of_address-vpn.ensures
    (c.in-Some-over.ensures'.found ∙ ap (λ (m : Mapping). area_over m.areas c.args.pid c.of_address-vpn.result) c.areas.ensures.areas)
    (ap (λ n. c.in-Some-over.area.page.index + (c.number.result - n)) (c.number-2.ensures ∙ ap (λ (x : PlacedArea). x.0.1) same) ∙ ap (λ n. c.in-Some-over.area.page.index + (n - c.in-Some-over.first)) c.number.ensures))
