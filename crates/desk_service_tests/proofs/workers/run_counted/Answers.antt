-- A pass that a lock is made with has seen the history of its book, of which the mirror shows what is covered.
use Rattle.std.proofs.Common.{List, sym, ap, ◌∙◌, subst}
use Rattle.stock_model.specs.History.{covered_records}
use Rattle.stock_model.specs.declared.deeds.Deed.{Deed}
use Rattle.stock_model.specs.declared.records.Record.{Record}
use Rattle.turn_lock.specs.Histories.{BeginsWith}
use Rattle.turn_lock.specs.declared.view.View.{View}
use Rattle.turn_lock.proofs.Lists.{begins_self}
use Rattle.session_laws.specs.Makers.{without_makers}
use Rattle.repost_worker.specs.Turns.{IsWorkOf}
use Rattle.session_laws.proofs.MakersOf.{without_makers-with_makers}
use Rattle.desk_service_tests.proofs.workers.run_counted.Goals as goal

pub run_mirrored-pass-requires-clause-work : goal.run_mirrored-pass-requires-clause-work
run_mirrored-pass-requires-clause-work g c =
    let parts = c.into_parts-book in
    subst (λ (h : List Deed). IsWorkOf h parts.result.1)
    (sym (ap (λ (v : View Deed). without_makers v.seen) c.in-Ok.ensures.pass ∙ without_makers-with_makers parts.result.0.history))
    parts.ensures.work

pub run_mirrored-pass-requires-clause-shown : goal.run_mirrored-pass-requires-clause-shown
run_mirrored-pass-requires-clause-shown g c =
    let held : List Deed = c.into_parts-book.result.0.history in
    let records : List Record = covered_records held in
    subst (λ (h : List Deed). BeginsWith (covered_records h) c.in-Some.field-0.writer)
    (sym (ap (λ (v : View Deed). without_makers v.seen) c.in-Ok.ensures.pass ∙ without_makers-with_makers held))
    (subst (BeginsWith records) (sym c.in-Some.ensures) (begins_self records))
