use Rattle.std.proofs.Common.{◌≡◌, ℕ, ◌+◌, ◌++◌, ◌<◌, List, [], ◌∷◌, length, drop, sym, ap, subst, ◌∙◌, arith}
use Rattle.std.proofs.lemmas.List.Elements.{All-push}
use Rattle.nm_types.specs.Layout.{node_count}
use Rattle.nm_types.specs.Map.{get, page_cmp}
use Rattle.nm_model.specs.definitions.Seen.{between, sights}
use Rattle.std.specs.Prelude.{All, Some, IfSome}
use Rattle.nm_model.specs.definitions.Seen.{IsOver, locate}
use Rattle.nm_spaces.proofs.Boxed.{seen, tied}
use Rattle.nm_spaces.proofs.ProcessTable.NamedFrames.{names_it, sees_page_there, sees_zeros}
use Rattle.nm_types.specs.declared.located_page.LocatedPage.{LocatedPage}
use Rattle.nm_spaces.proofs.ProcessTable.Changes.{on_any}
use Rattle.nm_spaces.proofs.Spaces.ListedPages.{pages_in, found_between, page_behind, frame_behind, located_behind, all_listed, few_listed, all_in_place, all_at, some_seen, step, step_over, ended}
use Rattle.nm_spaces.proofs.address_spaces.AddressSpaces.pages_between.Goals as goal
use Rattle.nm_spaces.proofs.address_spaces.AddressSpaces.pages_between.Goals.{in_default, in-Some+in_ok-push}

pub seen_in-page-requires-clause-known : goal.seen_in-page-requires-clause-known
seen_in-page-requires-clause-known g c =
    let x = c.deref-parts.result.now in
    let e = c.loop-vpn-item.result in
    let f = c.in-Some.frame in
    let range = c.deref-vpn-items.ensures.value ∙ c.in_ok-entries.ensures.entries in
    let there = found_between c.args.self.now x.tasks x.areas x.rmap c.args.pid (seen c.deref-parts.ensures c.self.view_is) (tied c.deref-parts.ensures c.self.invariant) c.args.first c.args.end c.loop-vpn.vpn-index c.deref-vpn-items.result.now e range c.loop-vpn-test.true c.loop-vpn-item.is in
    let named = names_it e.1 f (sym c.frame_named.ensures ∙ c.in-Some.is) in
    subst (λ (n : ℕ). f < n) c.requires (frame_behind c.args.self.now x.tasks x.areas x.rmap c.args.pid (seen c.deref-parts.ensures c.self.view_is) (tied c.deref-parts.ensures c.self.invariant) e.0 f e.1 there named)

pub seen_in-page-requires-clause-seen : goal.seen_in-page-requires-clause-seen
seen_in-page-requires-clause-seen g c =
    let x = c.deref-parts.result.now in
    let e = c.loop-vpn-item.result in
    let f = c.in-Some.frame in
    let range = c.deref-vpn-items.ensures.value ∙ c.in_ok-entries.ensures.entries in
    let there = found_between c.args.self.now x.tasks x.areas x.rmap c.args.pid (seen c.deref-parts.ensures c.self.view_is) (tied c.deref-parts.ensures c.self.invariant) c.args.first c.args.end c.loop-vpn.vpn-index c.deref-vpn-items.result.now e range c.loop-vpn-test.true c.loop-vpn-item.is in
    let named = names_it e.1 f (sym c.frame_named.ensures ∙ c.in-Some.is) in
    page_behind c.args.self.now x.tasks x.areas x.rmap c.args.pid (seen c.deref-parts.ensures c.self.view_is) (tied c.deref-parts.ensures c.self.invariant) e.0 f e.1 there named

pub loop-vpn-preserved : goal.loop-vpn-preserved
loop-vpn-preserved g c =
    let x = c.deref-parts.result.now in
    let y = c.args.self.now in
    let geometry = c.args.geometry.now in
    let es = c.deref-vpn-items.result.now in
    let e = c.loop-vpn-item.result in
    let range = c.deref-vpn-items.ensures.value ∙ c.in_ok-entries.ensures.entries in
    let there = found_between y x.tasks x.areas x.rmap c.args.pid (seen c.deref-parts.ensures c.self.view_is) (tied c.deref-parts.ensures c.self.invariant) c.args.first c.args.end c.loop-vpn.vpn-index es e range c.loop-vpn-test.true c.loop-vpn-item.is in
    let rest : List LocatedPage = pages_in geometry y.place y.areas c.args.pid (drop (c.loop-vpn.vpn-index + 1) es) in
    elim c.match-frame_named.branch [
      | in_default w ↦ record {
        pages = ap (λ v. v.items ++ rest) w.pages-is
            ∙ step_over geometry y.place y.areas c.args.pid es c.loop-vpn.vpn-index e c.loop-vpn-test.true c.loop-vpn-item.is c.loop-vpn.pages.items _
            (ap (locate geometry y.place e.0) (sees_zeros y.areas c.args.pid e.0 e.1 (sym c.frame_named.ensures ∙ w.in_default.is))) c.loop-vpn.invariant.pages;
        nodes = subst (λ v. All (λ e. e.node < node_count geometry) v.items) (sym w.pages-is) c.loop-vpn.invariant.nodes;
        last = subst (λ o. IfSome o (IsOver y.areas c.args.pid)) (sym w.last-is) c.loop-vpn.invariant.last;
      }
      | in-Some+in_ok-push w ↦
          let f = w.in-Some.frame in
          let named = names_it e.1 f (sym c.frame_named.ensures ∙ w.in-Some.is) in
          let here =
          ap (locate geometry y.place e.0) (sees_page_there y.areas c.args.pid e.0 e.1 f (sym c.frame_named.ensures ∙ w.in-Some.is))
          ∙ located_behind y x.tasks x.areas x.rmap c.args.pid (seen c.deref-parts.ensures c.self.view_is) (tied c.deref-parts.ensures c.self.invariant) e.0 f e.1 there named geometry
          ∙ w.seen_in-page.ensures.page in
          let items = ap (λ v. v.items) w.pages-is ∙ w.in_ok-push.ensures.items in
          record {
            pages = ap (λ xs. xs ++ rest) items
                ∙ step geometry y.place y.areas c.args.pid es c.loop-vpn.vpn-index e c.loop-vpn-test.true c.loop-vpn-item.is
                (w.seen_in-page.result ∷ []) c.loop-vpn.pages.items _ here c.loop-vpn.invariant.pages;
            nodes = subst (All (λ e. e.node < node_count geometry)) (sym items) (All-push (λ e. e.node < node_count geometry) c.loop-vpn.pages.items w.seen_in-page.result c.loop-vpn.invariant.nodes w.seen_in-page.ensures.node);
            last = subst (λ o. IfSome o (IsOver y.areas c.args.pid)) (sym w.last-is) w.seen_in-page.ensures.last;
          }
    ]

pub returns-clause-pages : goal.returns-clause-pages
returns-clause-pages g c =
    let x = c.deref-parts.result.now in
    let y = c.args.self.now in
    let es = c.deref-vpn-items.result.now in
    let range = c.deref-vpn-items.ensures.value ∙ c.in_ok-entries.ensures.entries in
    ended c.args.geometry.now y.place y.areas c.args.pid es c.loop-vpn.vpn-index c.loop-vpn.pages.items _ c.loop-vpn-test.false c.loop-vpn.invariant.pages
    ∙ all_listed y x.tasks x.areas x.rmap c.args.pid (seen c.deref-parts.ensures c.self.view_is) (tied c.deref-parts.ensures c.self.invariant) c.args.geometry.now c.args.first c.args.end es range

pub returns-clause-placed : goal.returns-clause-placed
returns-clause-placed g c =
    let x = c.deref-parts.result.now in
    let y = c.args.self.now in
    let es = c.deref-vpn-items.result.now in
    let range = c.deref-vpn-items.ensures.value ∙ c.in_ok-entries.ensures.entries in
    let is =
    ended c.args.geometry.now y.place y.areas c.args.pid es c.loop-vpn.vpn-index c.loop-vpn.pages.items _ c.loop-vpn-test.false c.loop-vpn.invariant.pages
    ∙ all_listed y x.tasks x.areas x.rmap c.args.pid (seen c.deref-parts.ensures c.self.view_is) (tied c.deref-parts.ensures c.self.invariant) c.args.geometry.now c.args.first c.args.end es range in
    let P : LocatedPage → Type 0 = λ e. get page_cmp y.place e.page ≡ Some e.frame in
    subst (All P) (sym is) (λ k d low. all_at P _ k d (all_in_place c.args.geometry.now y.place (between c.args.first c.args.end (sights y.processes c.args.pid))) low)

pub returns-clause-few : goal.returns-clause-few
returns-clause-few g c =
    let x = c.deref-parts.result.now in
    let y = c.args.self.now in
    let es = c.deref-vpn-items.result.now in
    let range = c.deref-vpn-items.ensures.value ∙ c.in_ok-entries.ensures.entries in
    let is = ended c.args.geometry.now y.place y.areas c.args.pid es c.loop-vpn.vpn-index c.loop-vpn.pages.items _ c.loop-vpn-test.false c.loop-vpn.invariant.pages in
    let few = few_listed y x.tasks x.areas x.rmap c.args.pid (seen c.deref-parts.ensures c.self.view_is) (tied c.deref-parts.ensures c.self.invariant) c.args.geometry.now c.args.first c.args.end es range in
    omega (arith, ap length is, few)

-- ---- memory is asked for only where there is something to list

pub returns-in_err-entries-clause-allocates : goal.returns-in_err-entries-clause-allocates
returns-in_err-entries-clause-allocates g c =
    let x = c.deref-parts.result.now in
    on_any c.from_residual.result (some_seen c.args.self.now x.tasks x.areas x.rmap c.args.pid (seen c.deref-parts.ensures c.self.view_is) (tied c.deref-parts.ensures c.self.invariant) c.args.first c.args.end c.in_err-entries.ensures.allocates)

pub returns-in_err-push-clause-allocates : goal.returns-in_err-push-clause-allocates
returns-in_err-push-clause-allocates g c =
    let x = c.deref-parts.result.now in
    let range = c.deref-vpn-items.ensures.value ∙ c.in_ok-entries.ensures.entries in
    let some : 0 < length c.deref-vpn-items.result.now = omega (arith, c.loop-vpn-test.true) in
    on_any c.from_residual-in_err-push.result (some_seen c.args.self.now x.tasks x.areas x.rmap c.args.pid (seen c.deref-parts.ensures c.self.view_is) (tied c.deref-parts.ensures c.self.invariant) c.args.first c.args.end (subst (λ es. 0 < length es) range some))
