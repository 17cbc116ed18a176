use Rattle.std.proofs.Common.{length, ap, sym, ◌∙◌, arith}
use Rattle.std.specs.Prelude.{not}
use Rattle.std.specs.List.{filter}
use Rattle.nm_model.specs.definitions.Order.{follows}
use Rattle.nm_model.specs.definitions.Seen.{located_between}
use Rattle.nm_types.specs.declared.located_page.LocatedPage.{LocatedPage}
use Rattle.nm_passes.proofs.Looks.{located_is}
use Rattle.nm_passes.proofs.Policies.StrayPages.{pages_once, if_listed, few_pass, none_strays}
use Rattle.nm_passes.proofs.stray_pages.astray.Goals as goal

pub returns-then-are_ascending-clause-list : goal.returns-then-are_ascending-clause-list
returns-then-are_ascending-clause-list g c =
    let test = λ (page : LocatedPage). not (follows c.args.binding.policy page.node) in
    let b = c.args.binding in
    let found = c.in_ok-found.ensures.pages ∙ located_is c.args.machine.now c.geometry.result.now c.spaces.result.now b.pid b.first b.end c.geometry.ensures.geometry c.spaces.ensures in
    let strays = c.as_slice-2.ensures.value ∙ c.in_ok-strays.ensures ∙ ap (filter test) (c.as_slice.ensures.value ∙ found) in
    sym c.as_slice-2.ensures.value ∙ sym (c.are_ascending.ensures.once c.if-are_ascending.true) ∙ ap pages_once strays

pub returns-then-are_ascending-clause-few : goal.returns-then-are_ascending-clause-few
returns-then-are_ascending-clause-few g c =
    let test = λ (page : LocatedPage). not (follows c.args.binding.policy page.node) in
    let strays = ap length c.in_ok-strays.ensures in
    let found = ap length c.as_slice.ensures.value in
    omega (arith, strays, found, few_pass test c.as_slice.result.now, c.in_ok-found.ensures.few)

pub returns-clause-list : goal.returns-clause-list
returns-clause-list g c =
    let test = λ (page : LocatedPage). not (follows c.args.binding.policy page.node) in
    let b = c.args.binding in
    let found = c.in_ok-found.ensures.pages ∙ located_is c.args.machine.now c.geometry.result.now c.spaces.result.now b.pid b.first b.end c.geometry.ensures.geometry c.spaces.ensures in
    let strays = c.as_slice-3.ensures.value ∙ c.in_ok-strays.ensures ∙ ap (filter test) (c.as_slice.ensures.value ∙ found) in
    if_listed c.once.result (λ pages is. is ∙ ap pages_once strays) c.once.ensures.list

pub returns-clause-few : goal.returns-clause-few
returns-clause-few g c =
    let test = λ (page : LocatedPage). not (follows c.args.binding.policy page.node) in
    let strays = ap length (c.as_slice-3.ensures.value ∙ c.in_ok-strays.ensures) in
    let found = ap length c.as_slice.ensures.value in
    if_listed c.once.result (λ pages few. omega (arith, few, strays, found, few_pass test c.as_slice.result.now, c.in_ok-found.ensures.few)) c.once.ensures.few

pub returns-then-not-wants_nodes-clause-list : goal.returns-then-not-wants_nodes-clause-list
returns-then-not-wants_nodes-clause-list g c =
    let b = c.args.binding in
    let none = none_strays b.policy (located_between c.args.machine.now b.pid b.first b.end) (c.wants_nodes.ensures c.if-not-wants_nodes.true) in
    c.new.ensures.items ∙ sym (ap pages_once none)
