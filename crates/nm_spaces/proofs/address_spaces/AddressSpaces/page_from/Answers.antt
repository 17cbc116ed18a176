use Rattle.std.proofs.Common.{◌+◌, ◌<◌, ℕ, List, [], ◌∷◌, ap, subst, sym, ◌∙◌, arith}
use Rattle.nm_types.specs.declared.located_page.LocatedPage.{LocatedPage}
use Rattle.nm_model.specs.definitions.PageTables.{entry_at}
use Rattle.nm_model.specs.definitions.Seen.{locate, located_in, between, sights}
use Rattle.nm_spaces.proofs.Boxed.{seen, tied}
use Rattle.nm_spaces.proofs.ProcessTable.NamedFrames.{names_it, sees_page_there, sees_zeros}
use Rattle.nm_spaces.proofs.Spaces.ListedPages.{page_behind, frame_behind, located_behind, next_located, none_located}
use Rattle.nm_spaces.proofs.Tied.ClearedEntries.{number_found, entry_found}
use Rattle.nm_spaces.proofs.address_spaces.AddressSpaces.page_from.Goals as goal

pub returns-then-number-clause-none : goal.returns-then-number-clause-none
returns-then-number-clause-none g c =
    let x = c.deref-parts.result.now in
    c.loop-vpn.invariant.same
    ∙ none_located c.args.self.now x.tasks x.areas x.rmap c.args.pid (seen c.deref-parts.ensures c.self.view_is) (tied c.deref-parts.ensures c.self.invariant) c.args.geometry.now c.loop-vpn.at c.args.end
    (λ w low high. c.in-Some.ensures.first w (omega (arith, low, c.new.ensures)) (omega (arith, high, c.if-number.true, c.number.ensures, c.number-in-Some.ensures)))

pub seen_in-requires-clause-known : goal.seen_in-requires-clause-known
seen_in-requires-clause-known g c =
    let x = c.deref-parts.result.now in
    let f = c.in-Some-frame_named.frame in
    let some = c.in-Some.ensures.some in
    let named = names_it _ f (sym c.frame_named.ensures ∙ c.in-Some-frame_named.is) in
    subst (λ (n : ℕ). f < n) c.requires.frames (frame_behind c.args.self.now x.tasks x.areas x.rmap c.args.pid (seen c.deref-parts.ensures c.self.view_is) (tied c.deref-parts.ensures c.self.invariant) _ f _ some.1 named)

pub seen_in-requires-clause-seen : goal.seen_in-requires-clause-seen
seen_in-requires-clause-seen g c =
    let x = c.deref-parts.result.now in
    let f = c.in-Some-frame_named.frame in
    let some = c.in-Some.ensures.some in
    let named = names_it _ f (sym c.frame_named.ensures ∙ c.in-Some-frame_named.is) in
    page_behind c.args.self.now x.tasks x.areas x.rmap c.args.pid (seen c.deref-parts.ensures c.self.view_is) (tied c.deref-parts.ensures c.self.invariant) _ f _ some.1 named

abbrev vpn_of_first : List LocatedPage → ℕ
vpn_of_first [] = 0
vpn_of_first (page ∷ pages) = page.vpn

pub returns-in-Some-frame_named-clause-some : goal.returns-in-Some-frame_named-clause-some
returns-in-Some-frame_named-clause-some g c =
    let x = c.deref-parts.result.now in
    let y = c.args.self.now in
    let some = c.in-Some.ensures.some in
    let v = number_found c.new.result some.0 in
    let e = entry_found (entry_at x.tasks c.args.pid v) some.1 in
    let f = c.in-Some-frame_named.frame in
    let is = sym c.frame_named.ensures ∙ c.in-Some-frame_named.is in
    let named = names_it e f is in
    let here =
    ap (locate c.args.geometry.now y.place v) (sees_page_there y.areas c.args.pid v e f is)
    ∙ located_behind y x.tasks x.areas x.rmap c.args.pid (seen c.deref-parts.ensures c.self.view_is) (tied c.deref-parts.ensures c.self.invariant) v f e some.1 named c.args.geometry.now
    ∙ c.seen_in.ensures.page in
    c.loop-vpn.invariant.same
    ∙ next_located y x.tasks x.areas x.rmap c.args.pid (seen c.deref-parts.ensures c.self.view_is) (tied c.deref-parts.ensures c.self.invariant) c.args.geometry.now c.loop-vpn.at c.args.end v e (c.seen_in.result ∷ [])
    (omega (arith, some.0, c.new.ensures)) (omega (arith, c.if-number.false, c.number.ensures, c.number-in-Some.ensures)) some.1
    (λ w low high. c.in-Some.ensures.first w (omega (arith, low, c.new.ensures)) high) here
    ∙ ap (λ (n : ℕ). c.seen_in.result ∷ located_in c.args.geometry.now y.place (between (n + 1) c.args.end (sights y.processes c.args.pid))) (ap vpn_of_first c.seen_in.ensures.page)

pub loop-vpn-preserved : goal.loop-vpn-preserved
loop-vpn-preserved g c =
    let x = c.deref-parts.result.now in
    let y = c.args.self.now in
    let some = c.in-Some.ensures.some in
    let v = number_found c.new.result some.0 in
    let e = entry_found (entry_at x.tasks c.args.pid v) some.1 in
    let zero = ap (locate c.args.geometry.now y.place v) (sees_zeros y.areas c.args.pid v e (sym c.frame_named.ensures ∙ c.in_default-frame_named.is)) in
    record {
      from = omega (arith, c.loop-vpn.invariant.from, some.0, c.new.ensures, c.number-at-in-Some.ensures);
      same = c.loop-vpn.invariant.same
          ∙ next_located y x.tasks x.areas x.rmap c.args.pid (seen c.deref-parts.ensures c.self.view_is) (tied c.deref-parts.ensures c.self.invariant) c.args.geometry.now c.loop-vpn.at c.args.end v e []
          (omega (arith, some.0, c.new.ensures)) (omega (arith, c.if-number.false, c.number.ensures, c.number-in-Some.ensures)) some.1
          (λ w low high. c.in-Some.ensures.first w (omega (arith, low, c.new.ensures)) high) zero
          ∙ ap (λ (n : ℕ). located_in c.args.geometry.now y.place (between (n + 1) c.args.end (sights y.processes c.args.pid))) (sym c.number-at-in-Some.ensures);
      last = c.loop-vpn.invariant.last;
    }

pub returns-clause-none : goal.returns-clause-none
returns-clause-none g c =
    let x = c.deref-parts.result.now in
    c.loop-vpn.invariant.same
    ∙ none_located c.args.self.now x.tasks x.areas x.rmap c.args.pid (seen c.deref-parts.ensures c.self.view_is) (tied c.deref-parts.ensures c.self.invariant) c.args.geometry.now c.loop-vpn.at c.args.end
    (λ w low high. c.in_default.ensures.none w (omega (arith, low, c.new.ensures)))
