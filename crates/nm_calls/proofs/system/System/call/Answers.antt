use Rattle.std.proofs.Common.{ℕ, List, Err, ap, sym, subst, ◌∙◌}
use Rattle.nm_requests.specs.Calls.{WriteBytes}
use Rattle.nm_requests.specs.Views.{call_of}
use Rattle.nm_calls.specs.definitions.Answers.{Done}
use Rattle.nm_calls.specs.definitions.Does.{Does}
use Rattle.nm_calls.specs.definitions.Memory.{MayAllocate}
use Rattle.nm_calls.specs.definitions.Outcome.{outcome}
use Rattle.nm_calls.specs.views.Answers.{answer_of}
use Rattle.nm_calls.proofs.Outcomes.{error_does, refusal_does, lack_of, no_lack}
use Rattle.nm_calls.proofs.system.System.call.Goals as goal

pub returns-in_err-map-in-Map-clause-done : goal.returns-in_err-map-in-Map-clause-done
returns-in_err-map-in-Map-clause-done g c =
    subst (λ k. Does (answer_of {A = g.row.A.Denot}) c.from_residual.result c.args.self.now c.map.new.self (call_of k)) (sym c.in-Map.is)
    (error_does (answer_of {A = g.row.A.Denot}) c.args.self.now c.map.new.self _ c.in_err-map-in-Map.field-0.0 c.from_residual.result c.in_err-map-in-Map.ensures c.from_residual.ensures)

pub returns-in_err-map-in-Map-clause-allocates : goal.returns-in_err-map-in-Map-clause-allocates
returns-in_err-map-in-Map-clause-allocates g c = λ runs policy_set is. subst (λ k. MayAllocate c.args.self.now.state (call_of k)) (sym c.in-Map.is) tt

pub returns-in_ok-map-in-Map-clause-done : goal.returns-in_ok-map-in-Map-clause-done
returns-in_ok-map-in-Map-clause-done g c = ap (λ k. outcome c.args.self.now (call_of k)) c.in-Map.is ∙ c.in_ok-map-in-Map.ensures

pub returns-in_ok-map-in-Map-clause-allocates : goal.returns-in_ok-map-in-Map-clause-allocates
returns-in_ok-map-in-Map-clause-allocates g c = λ runs policy_set is. absurd (cc)

pub returns-in_err-unmap-in-Unmap-clause-done : goal.returns-in_err-unmap-in-Unmap-clause-done
returns-in_err-unmap-in-Unmap-clause-done g c =
    subst (λ k. Does (answer_of {A = g.row.A.Denot}) c.from_residual-in_err-unmap-in-Unmap.result c.args.self.now c.unmap.new.self (call_of k)) (sym c.in-Unmap.is)
    (error_does (answer_of {A = g.row.A.Denot}) c.args.self.now c.unmap.new.self _ c.in_err-unmap-in-Unmap.field-0.0 c.from_residual-in_err-unmap-in-Unmap.result c.in_err-unmap-in-Unmap.ensures.done c.from_residual-in_err-unmap-in-Unmap.ensures)

pub returns-in_err-unmap-in-Unmap-clause-allocates : goal.returns-in_err-unmap-in-Unmap-clause-allocates
returns-in_err-unmap-in-Unmap-clause-allocates g c = λ runs policy_set is.
    let lack = lack_of c.from_residual-in_err-unmap-in-Unmap.result c.in_err-unmap-in-Unmap.field-0.0 _ c.from_residual-in_err-unmap-in-Unmap.ensures is in
    subst (λ k. MayAllocate c.args.self.now.state (call_of k)) (sym c.in-Unmap.is) (c.in_err-unmap-in-Unmap.ensures.allocates runs policy_set (ap Err lack))

pub returns-in_ok-unmap-in-Unmap-clause-done : goal.returns-in_ok-unmap-in-Unmap-clause-done
returns-in_ok-unmap-in-Unmap-clause-done g c = ap (λ k. outcome c.args.self.now (call_of k)) c.in-Unmap.is ∙ c.in_ok-unmap-in-Unmap.ensures.done

pub returns-in_ok-unmap-in-Unmap-clause-allocates : goal.returns-in_ok-unmap-in-Unmap-clause-allocates
returns-in_ok-unmap-in-Unmap-clause-allocates g c = λ runs policy_set is. absurd (cc)

pub returns-in_err-exit-in-Exit-clause-done : goal.returns-in_err-exit-in-Exit-clause-done
returns-in_err-exit-in-Exit-clause-done g c =
    subst (λ k. Does (answer_of {A = g.row.A.Denot}) c.from_residual-in_err-exit-in-Exit.result c.args.self.now c.exit.new.self (call_of k)) (sym c.in-Exit.is)
    (error_does (answer_of {A = g.row.A.Denot}) c.args.self.now c.exit.new.self _ c.in_err-exit-in-Exit.field-0.0 c.from_residual-in_err-exit-in-Exit.result c.in_err-exit-in-Exit.ensures.done c.from_residual-in_err-exit-in-Exit.ensures)

pub returns-in_err-exit-in-Exit-clause-allocates : goal.returns-in_err-exit-in-Exit-clause-allocates
returns-in_err-exit-in-Exit-clause-allocates g c = λ runs policy_set is.
    let lack = lack_of c.from_residual-in_err-exit-in-Exit.result c.in_err-exit-in-Exit.field-0.0 _ c.from_residual-in_err-exit-in-Exit.ensures is in
    subst (λ k. MayAllocate c.args.self.now.state (call_of k)) (sym c.in-Exit.is) (c.in_err-exit-in-Exit.ensures.allocates runs policy_set (ap Err lack))

pub returns-in_ok-exit-in-Exit-clause-done : goal.returns-in_ok-exit-in-Exit-clause-done
returns-in_ok-exit-in-Exit-clause-done g c = ap (λ k. outcome c.args.self.now (call_of k)) c.in-Exit.is ∙ c.in_ok-exit-in-Exit.ensures.done

pub returns-in_ok-exit-in-Exit-clause-allocates : goal.returns-in_ok-exit-in-Exit-clause-allocates
returns-in_ok-exit-in-Exit-clause-allocates g c = λ runs policy_set is. absurd (cc)

pub returns-in_err-pin-in-Pin-clause-done : goal.returns-in_err-pin-in-Pin-clause-done
returns-in_err-pin-in-Pin-clause-done g c =
    subst (λ k. Does (answer_of {A = g.row.A.Denot}) c.from_residual-in_err-pin-in-Pin.result c.args.self.now c.pin.new.self (call_of k)) (sym c.in-Pin.is)
    (refusal_does (answer_of {A = g.row.A.Denot}) c.args.self.now c.pin.new.self _ c.in_err-pin-in-Pin.field-0.0 c.from_residual-in_err-pin-in-Pin.result c.in_err-pin-in-Pin.ensures c.from_residual-in_err-pin-in-Pin.ensures)

pub returns-in_err-pin-in-Pin-clause-allocates : goal.returns-in_err-pin-in-Pin-clause-allocates
returns-in_err-pin-in-Pin-clause-allocates g c = λ runs policy_set is. no_lack c.from_residual-in_err-pin-in-Pin.result c.in_err-pin-in-Pin.field-0.0 runs policy_set c.from_residual-in_err-pin-in-Pin.ensures is

pub returns-in_ok-pin-in-Pin-clause-done : goal.returns-in_ok-pin-in-Pin-clause-done
returns-in_ok-pin-in-Pin-clause-done g c = ap (λ k. outcome c.args.self.now (call_of k)) c.in-Pin.is ∙ c.in_ok-pin-in-Pin.ensures

pub returns-in_ok-pin-in-Pin-clause-allocates : goal.returns-in_ok-pin-in-Pin-clause-allocates
returns-in_ok-pin-in-Pin-clause-allocates g c = λ runs policy_set is. absurd (cc)

pub returns-in_err-unpin-in-Unpin-clause-done : goal.returns-in_err-unpin-in-Unpin-clause-done
returns-in_err-unpin-in-Unpin-clause-done g c =
    subst (λ k. Does (answer_of {A = g.row.A.Denot}) c.from_residual-in_err-unpin-in-Unpin.result c.args.self.now c.unpin.new.self (call_of k)) (sym c.in-Unpin.is)
    (refusal_does (answer_of {A = g.row.A.Denot}) c.args.self.now c.unpin.new.self _ c.in_err-unpin-in-Unpin.field-0.0 c.from_residual-in_err-unpin-in-Unpin.result c.in_err-unpin-in-Unpin.ensures c.from_residual-in_err-unpin-in-Unpin.ensures)

pub returns-in_err-unpin-in-Unpin-clause-allocates : goal.returns-in_err-unpin-in-Unpin-clause-allocates
returns-in_err-unpin-in-Unpin-clause-allocates g c = λ runs policy_set is. no_lack c.from_residual-in_err-unpin-in-Unpin.result c.in_err-unpin-in-Unpin.field-0.0 runs policy_set c.from_residual-in_err-unpin-in-Unpin.ensures is

pub returns-in_ok-unpin-in-Unpin-clause-done : goal.returns-in_ok-unpin-in-Unpin-clause-done
returns-in_ok-unpin-in-Unpin-clause-done g c = ap (λ k. outcome c.args.self.now (call_of k)) c.in-Unpin.is ∙ c.in_ok-unpin-in-Unpin.ensures

pub returns-in_ok-unpin-in-Unpin-clause-allocates : goal.returns-in_ok-unpin-in-Unpin-clause-allocates
returns-in_ok-unpin-in-Unpin-clause-allocates g c = λ runs policy_set is. absurd (cc)

pub returns-in_err-read-in-Read-clause-done : goal.returns-in_err-read-in-Read-clause-done
returns-in_err-read-in-Read-clause-done g c =
    subst (λ k. Does (answer_of {A = g.row.A.Denot}) c.from_residual-in_err-read-in-Read.result c.args.self.now c.read.new.self (call_of k)) (sym c.in-Read.is)
    (error_does (answer_of {A = g.row.A.Denot}) c.args.self.now c.read.new.self _ c.in_err-read-in-Read.field-0.0 c.from_residual-in_err-read-in-Read.result c.in_err-read-in-Read.ensures c.from_residual-in_err-read-in-Read.ensures)

pub returns-in_err-read-in-Read-clause-allocates : goal.returns-in_err-read-in-Read-clause-allocates
returns-in_err-read-in-Read-clause-allocates g c = λ runs policy_set is. subst (λ k. MayAllocate c.args.self.now.state (call_of k)) (sym c.in-Read.is) tt

pub returns-in_ok-read-in-Read-clause-done : goal.returns-in_ok-read-in-Read-clause-done
returns-in_ok-read-in-Read-clause-done g c = ap (λ k. outcome c.args.self.now (call_of k)) c.in-Read.is ∙ c.in_ok-read-in-Read.ensures

pub returns-in_ok-read-in-Read-clause-allocates : goal.returns-in_ok-read-in-Read-clause-allocates
returns-in_ok-read-in-Read-clause-allocates g c = λ runs policy_set is. absurd (cc)

pub returns-in_err-write-in-Write-clause-done : goal.returns-in_err-write-in-Write-clause-done
returns-in_err-write-in-Write-clause-done g c =
    subst (λ k. Does (answer_of {A = g.row.A.Denot}) c.from_residual-in_err-write-in-Write.result c.args.self.now c.write.new.self (call_of k)) (sym c.in-Write.is)
    (error_does (answer_of {A = g.row.A.Denot}) c.args.self.now c.write.new.self _ c.in_err-write-in-Write.field-0.0 c.from_residual-in_err-write-in-Write.result (subst (λ (bytes : List ℕ). Does {T = Unit {0}} (λ done. Done) (Err c.in_err-write-in-Write.field-0.0) c.args.self.now c.write.new.self (WriteBytes c.in-Write.pid c.in-Write.addr bytes)) c.as_slice.ensures.value c.in_err-write-in-Write.ensures.done) c.from_residual-in_err-write-in-Write.ensures)

pub returns-in_err-write-in-Write-clause-allocates : goal.returns-in_err-write-in-Write-clause-allocates
returns-in_err-write-in-Write-clause-allocates g c = λ runs policy_set is.
    let lack = lack_of c.from_residual-in_err-write-in-Write.result c.in_err-write-in-Write.field-0.0 _ c.from_residual-in_err-write-in-Write.ensures is in
    subst (λ k. MayAllocate c.args.self.now.state (call_of k)) (sym c.in-Write.is) (c.in_err-write-in-Write.ensures.allocates runs policy_set (ap Err lack))

pub returns-in_ok-write-in-Write-clause-done : goal.returns-in_ok-write-in-Write-clause-done
returns-in_ok-write-in-Write-clause-done g c = ap (λ k. outcome c.args.self.now (call_of k)) c.in-Write.is ∙ ap (λ (bytes : List ℕ). outcome c.args.self.now (WriteBytes c.in-Write.pid c.in-Write.addr bytes)) (sym c.as_slice.ensures.value) ∙ c.in_ok-write-in-Write.ensures.done

pub returns-in_ok-write-in-Write-clause-allocates : goal.returns-in_ok-write-in-Write-clause-allocates
returns-in_ok-write-in-Write-clause-allocates g c = λ runs policy_set is. absurd (cc)

pub returns-in_err-move_pages-in-MovePages-clause-done : goal.returns-in_err-move_pages-in-MovePages-clause-done
returns-in_err-move_pages-in-MovePages-clause-done g c =
    subst (λ k. Does (answer_of {A = g.row.A.Denot}) c.from_residual-in_err-move_pages-in-MovePages.result c.args.self.now c.move_pages.new.self (call_of k)) (sym c.in-MovePages.is)
    (error_does (answer_of {A = g.row.A.Denot}) c.args.self.now c.move_pages.new.self _ c.in_err-move_pages-in-MovePages.field-0.0 c.from_residual-in_err-move_pages-in-MovePages.result c.in_err-move_pages-in-MovePages.ensures.done c.from_residual-in_err-move_pages-in-MovePages.ensures)

pub returns-in_err-move_pages-in-MovePages-clause-allocates : goal.returns-in_err-move_pages-in-MovePages-clause-allocates
returns-in_err-move_pages-in-MovePages-clause-allocates g c = λ runs policy_set is.
    let lack = lack_of c.from_residual-in_err-move_pages-in-MovePages.result c.in_err-move_pages-in-MovePages.field-0.0 _ c.from_residual-in_err-move_pages-in-MovePages.ensures is in
    subst (λ k. MayAllocate c.args.self.now.state (call_of k)) (sym c.in-MovePages.is) (c.in_err-move_pages-in-MovePages.ensures.allocates runs policy_set (ap Err lack))

pub returns-in_ok-move_pages-in-MovePages-clause-done : goal.returns-in_ok-move_pages-in-MovePages-clause-done
returns-in_ok-move_pages-in-MovePages-clause-done g c = ap (λ k. outcome c.args.self.now (call_of k)) c.in-MovePages.is ∙ c.in_ok-move_pages-in-MovePages.ensures.done

pub returns-in_ok-move_pages-in-MovePages-clause-allocates : goal.returns-in_ok-move_pages-in-MovePages-clause-allocates
returns-in_ok-move_pages-in-MovePages-clause-allocates g c = λ runs policy_set is. absurd (cc)

pub returns-in_err-migrate_pages-in-MigratePages-clause-done : goal.returns-in_err-migrate_pages-in-MigratePages-clause-done
returns-in_err-migrate_pages-in-MigratePages-clause-done g c =
    subst (λ k. Does (answer_of {A = g.row.A.Denot}) c.from_residual-in_err-migrate_pages-in-MigratePages.result c.args.self.now c.migrate_pages.new.self (call_of k)) (sym c.in-MigratePages.is)
    (error_does (answer_of {A = g.row.A.Denot}) c.args.self.now c.migrate_pages.new.self _ c.in_err-migrate_pages-in-MigratePages.field-0.0 c.from_residual-in_err-migrate_pages-in-MigratePages.result c.in_err-migrate_pages-in-MigratePages.ensures c.from_residual-in_err-migrate_pages-in-MigratePages.ensures)

pub returns-in_err-migrate_pages-in-MigratePages-clause-allocates : goal.returns-in_err-migrate_pages-in-MigratePages-clause-allocates
returns-in_err-migrate_pages-in-MigratePages-clause-allocates g c = λ runs policy_set is. subst (λ k. MayAllocate c.args.self.now.state (call_of k)) (sym c.in-MigratePages.is) tt

pub returns-in_ok-migrate_pages-in-MigratePages-clause-done : goal.returns-in_ok-migrate_pages-in-MigratePages-clause-done
returns-in_ok-migrate_pages-in-MigratePages-clause-done g c = ap (λ k. outcome c.args.self.now (call_of k)) c.in-MigratePages.is ∙ c.in_ok-migrate_pages-in-MigratePages.ensures

pub returns-in_ok-migrate_pages-in-MigratePages-clause-allocates : goal.returns-in_ok-migrate_pages-in-MigratePages-clause-allocates
returns-in_ok-migrate_pages-in-MigratePages-clause-allocates g c = λ runs policy_set is. absurd (cc)

pub returns-in_err-query-in-Query-clause-done : goal.returns-in_err-query-in-Query-clause-done
returns-in_err-query-in-Query-clause-done g c =
    subst (λ k. Does (answer_of {A = g.row.A.Denot}) c.from_residual-in_err-query-in-Query.result c.args.self.now c.args.self.now (call_of k)) (sym c.in-Query.is)
    (error_does (answer_of {A = g.row.A.Denot}) c.args.self.now c.args.self.now _ c.in_err-query-in-Query.field-0.0 c.from_residual-in_err-query-in-Query.result c.in_err-query-in-Query.ensures.done c.from_residual-in_err-query-in-Query.ensures)

pub returns-in_err-query-in-Query-clause-allocates : goal.returns-in_err-query-in-Query-clause-allocates
returns-in_err-query-in-Query-clause-allocates g c = λ runs policy_set is.
    let lack = lack_of c.from_residual-in_err-query-in-Query.result c.in_err-query-in-Query.field-0.0 _ c.from_residual-in_err-query-in-Query.ensures is in
    subst (λ k. MayAllocate c.args.self.now.state (call_of k)) (sym c.in-Query.is) (c.in_err-query-in-Query.ensures.allocates runs policy_set (ap Err lack))

pub returns-in_ok-query-in-Query-clause-done : goal.returns-in_ok-query-in-Query-clause-done
returns-in_ok-query-in-Query-clause-done g c = ap (λ k. outcome c.args.self.now (call_of k)) c.in-Query.is ∙ c.in_ok-query-in-Query.ensures.done

pub returns-in_ok-query-in-Query-clause-allocates : goal.returns-in_ok-query-in-Query-clause-allocates
returns-in_ok-query-in-Query-clause-allocates g c = λ runs policy_set is. absurd (cc)

pub returns-in_err-free_list-in-FreeList-clause-done : goal.returns-in_err-free_list-in-FreeList-clause-done
returns-in_err-free_list-in-FreeList-clause-done g c =
    subst (λ k. Does (answer_of {A = g.row.A.Denot}) c.from_residual-in_err-free_list-in-FreeList.result c.args.self.now c.args.self.now (call_of k)) (sym c.in-FreeList.is)
    (error_does (answer_of {A = g.row.A.Denot}) c.args.self.now c.args.self.now _ c.in_err-free_list-in-FreeList.field-0.0 c.from_residual-in_err-free_list-in-FreeList.result c.in_err-free_list-in-FreeList.ensures.done c.from_residual-in_err-free_list-in-FreeList.ensures)

pub returns-in_err-free_list-in-FreeList-clause-allocates : goal.returns-in_err-free_list-in-FreeList-clause-allocates
returns-in_err-free_list-in-FreeList-clause-allocates g c = λ runs policy_set is.
    let lack = lack_of c.from_residual-in_err-free_list-in-FreeList.result c.in_err-free_list-in-FreeList.field-0.0 _ c.from_residual-in_err-free_list-in-FreeList.ensures is in
    subst (λ k. MayAllocate c.args.self.now.state (call_of k)) (sym c.in-FreeList.is) (c.in_err-free_list-in-FreeList.ensures.allocates runs policy_set (ap Err lack))

pub returns-in_ok-free_list-in-FreeList-clause-done : goal.returns-in_ok-free_list-in-FreeList-clause-done
returns-in_ok-free_list-in-FreeList-clause-done g c = ap (λ k. outcome c.args.self.now (call_of k)) c.in-FreeList.is ∙ c.in_ok-free_list-in-FreeList.ensures.done

pub returns-in_ok-free_list-in-FreeList-clause-allocates : goal.returns-in_ok-free_list-in-FreeList-clause-allocates
returns-in_ok-free_list-in-FreeList-clause-allocates g c = λ runs policy_set is. absurd (cc)

pub returns-in_err-pagemap-in-Pagemap-clause-done : goal.returns-in_err-pagemap-in-Pagemap-clause-done
returns-in_err-pagemap-in-Pagemap-clause-done g c =
    subst (λ k. Does (answer_of {A = g.row.A.Denot}) c.from_residual-in_err-pagemap-in-Pagemap.result c.args.self.now c.args.self.now (call_of k)) (sym c.in-Pagemap.is)
    (error_does (answer_of {A = g.row.A.Denot}) c.args.self.now c.args.self.now _ c.in_err-pagemap-in-Pagemap.field-0.0 c.from_residual-in_err-pagemap-in-Pagemap.result c.in_err-pagemap-in-Pagemap.ensures.done c.from_residual-in_err-pagemap-in-Pagemap.ensures)

pub returns-in_err-pagemap-in-Pagemap-clause-allocates : goal.returns-in_err-pagemap-in-Pagemap-clause-allocates
returns-in_err-pagemap-in-Pagemap-clause-allocates g c = λ runs policy_set is.
    let lack = lack_of c.from_residual-in_err-pagemap-in-Pagemap.result c.in_err-pagemap-in-Pagemap.field-0.0 _ c.from_residual-in_err-pagemap-in-Pagemap.ensures is in
    subst (λ k. MayAllocate c.args.self.now.state (call_of k)) (sym c.in-Pagemap.is) (c.in_err-pagemap-in-Pagemap.ensures.allocates runs policy_set (ap Err lack))

pub returns-in_ok-pagemap-in-Pagemap-clause-done : goal.returns-in_ok-pagemap-in-Pagemap-clause-done
returns-in_ok-pagemap-in-Pagemap-clause-done g c = ap (λ k. outcome c.args.self.now (call_of k)) c.in-Pagemap.is ∙ c.in_ok-pagemap-in-Pagemap.ensures.done

pub returns-in_ok-pagemap-in-Pagemap-clause-allocates : goal.returns-in_ok-pagemap-in-Pagemap-clause-allocates
returns-in_ok-pagemap-in-Pagemap-clause-allocates g c = λ runs policy_set is. absurd (cc)

pub returns-in_err-numa_maps-in-NumaMaps-clause-done : goal.returns-in_err-numa_maps-in-NumaMaps-clause-done
returns-in_err-numa_maps-in-NumaMaps-clause-done g c =
    subst (λ k. Does (answer_of {A = g.row.A.Denot}) c.from_residual-in_err-numa_maps-in-NumaMaps.result c.args.self.now c.args.self.now (call_of k)) (sym c.in-NumaMaps.is)
    (error_does (answer_of {A = g.row.A.Denot}) c.args.self.now c.args.self.now _ c.in_err-numa_maps-in-NumaMaps.field-0.0 c.from_residual-in_err-numa_maps-in-NumaMaps.result c.in_err-numa_maps-in-NumaMaps.ensures.done c.from_residual-in_err-numa_maps-in-NumaMaps.ensures)

pub returns-in_err-numa_maps-in-NumaMaps-clause-allocates : goal.returns-in_err-numa_maps-in-NumaMaps-clause-allocates
returns-in_err-numa_maps-in-NumaMaps-clause-allocates g c = λ runs policy_set is.
    let lack = lack_of c.from_residual-in_err-numa_maps-in-NumaMaps.result c.in_err-numa_maps-in-NumaMaps.field-0.0 _ c.from_residual-in_err-numa_maps-in-NumaMaps.ensures is in
    subst (λ k. MayAllocate c.args.self.now.state (call_of k)) (sym c.in-NumaMaps.is) (c.in_err-numa_maps-in-NumaMaps.ensures.allocates runs policy_set (ap Err lack))

pub returns-in_ok-numa_maps-in-NumaMaps-clause-done : goal.returns-in_ok-numa_maps-in-NumaMaps-clause-done
returns-in_ok-numa_maps-in-NumaMaps-clause-done g c = ap (λ k. outcome c.args.self.now (call_of k)) c.in-NumaMaps.is ∙ c.in_ok-numa_maps-in-NumaMaps.ensures.done

pub returns-in_ok-numa_maps-in-NumaMaps-clause-allocates : goal.returns-in_ok-numa_maps-in-NumaMaps-clause-allocates
returns-in_ok-numa_maps-in-NumaMaps-clause-allocates g c = λ runs policy_set is. absurd (cc)

pub returns-in-Spawn-clause-done : goal.returns-in-Spawn-clause-done
returns-in-Spawn-clause-done g c = subst (λ k. Does (answer_of {A = g.row.A.Denot}) c.spawn.result c.args.self.now c.spawn.new.system (call_of k)) (sym c.in-Spawn.is) c.spawn.ensures

pub returns-in-Spawn-clause-allocates : goal.returns-in-Spawn-clause-allocates
returns-in-Spawn-clause-allocates g c = λ runs policy_set is. subst (λ k. MayAllocate c.args.self.now.state (call_of k)) (sym c.in-Spawn.is) tt

pub returns-in-Attach-clause-done : goal.returns-in-Attach-clause-done
returns-in-Attach-clause-done g c = subst (λ k. Does (answer_of {A = g.row.A.Denot}) c.attach.result c.args.self.now c.attach.new.system (call_of k)) (sym c.in-Attach.is) c.attach.ensures

pub returns-in-Attach-clause-allocates : goal.returns-in-Attach-clause-allocates
returns-in-Attach-clause-allocates g c = λ runs policy_set is. subst (λ k. MayAllocate c.args.self.now.state (call_of k)) (sym c.in-Attach.is) tt

pub returns-in-Mbind-clause-done : goal.returns-in-Mbind-clause-done
returns-in-Mbind-clause-done g c = subst (λ k. Does (answer_of {A = g.row.A.Denot}) c.mbind.result c.args.self.now c.mbind.new.system (call_of k)) (sym c.in-Mbind.is) c.mbind.ensures.done

pub returns-in-Mbind-clause-allocates : goal.returns-in-Mbind-clause-allocates
returns-in-Mbind-clause-allocates g c = λ runs policy_set is. subst (λ k. MayAllocate c.args.self.now.state (call_of k)) (sym c.in-Mbind.is) (c.mbind.ensures.allocates runs policy_set is)

pub returns-in-Offline-clause-done : goal.returns-in-Offline-clause-done
returns-in-Offline-clause-done g c = subst (λ k. Does (answer_of {A = g.row.A.Denot}) c.offline.result c.args.self.now c.offline.new.system (call_of k)) (sym c.in-Offline.is) c.offline.ensures.done

pub returns-in-Offline-clause-allocates : goal.returns-in-Offline-clause-allocates
returns-in-Offline-clause-allocates g c = λ runs policy_set is. subst (λ k. MayAllocate c.args.self.now.state (call_of k)) (sym c.in-Offline.is) (c.offline.ensures.allocates runs policy_set is)

pub returns-in-Online-clause-done : goal.returns-in-Online-clause-done
returns-in-Online-clause-done g c = subst (λ k. Does (answer_of {A = g.row.A.Denot}) c.online.result c.args.self.now c.online.new.system (call_of k)) (sym c.in-Online.is) c.online.ensures.done

pub returns-in-Online-clause-allocates : goal.returns-in-Online-clause-allocates
returns-in-Online-clause-allocates g c = λ runs policy_set is. subst (λ k. MayAllocate c.args.self.now.state (call_of k)) (sym c.in-Online.is) (c.online.ensures.allocates runs policy_set is)

pub returns-in-Vmstat-clause-done : goal.returns-in-Vmstat-clause-done
returns-in-Vmstat-clause-done g c = ap (λ k. outcome c.args.self.now (call_of k)) c.in-Vmstat.is ∙ c.vmstat.ensures.answer

pub returns-in-Vmstat-clause-allocates : goal.returns-in-Vmstat-clause-allocates
returns-in-Vmstat-clause-allocates g c = λ runs policy_set is. absurd (cc)
