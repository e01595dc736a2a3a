-- What the lock hands out is what was seen, and more that number 0 has not made; it comes back as it was.
use Rattle.std.proofs.Common.{◌≡◌, List, sym, ap, ◌∙◌, subst, IfOk, arith}
use Rattle.stock_model.specs.History.{covered_records}
use Rattle.stock_model.specs.declared.deeds.Deed.{Deed}
use Rattle.stock_model.specs.declared.records.Record.{Record}
use Rattle.turn_lock.specs.declared.view.View.{View}
use Rattle.turn_lock.proofs.Lists.{begins_through}
use Rattle.session_laws.specs.Makers.{with_makers, without_makers}
use Rattle.session_laws.proofs.MakersOf.{without_makers-with_makers}
use Rattle.generation_book.specs.State.{BookState}
use Rattle.locked_worker.proofs.Stops.{IsGiven}
use Rattle.mirrored_worker.proofs.Covering.{covers-taken}
use Rattle.mirrored_worker.proofs.Looking.{handed-book, looks-given, covers-look}
use Rattle.mirrored_worker.proofs.show_published.look.Given
use Rattle.mirrored_worker.proofs.show_published.look.Goals as goal
use Rattle.mirrored_worker.proofs.show_published.look.Goals.{After-give}

pub next_generation-next-requires : goal.next_generation-next-requires
next_generation-next-requires g c =
    let seen = c.args.pass.view.seen in
    let history = c.book.result.now.history in
    let out = handed-book c.args.pass.view c.book.result.now c.take-held.result.book c.take-held.result.taken c.book.ensures.value
    c.take-held.ensures.history c.requires.zero c.take-held.ensures.begins c.take-held.ensures.none_past in
    begins_through c.args.shown.now (covered_records (without_makers seen)) (covered_records history) c.requires.shown
    (covers-taken seen history out.begins out.unpublished)

is-given : (g : Given.Over) (c : After-give g) → IsGiven c.args.pass.view c.take-held.result.view c.give.result.view c.take-held.result.taken
    c.book.result.now.history c.book.result.now.history
is-given g c = record {
  same = c.take-held.ensures.pass.1;
  is = ap (λ (b : BookState). with_makers b.history) c.book.ensures.value ∙ c.take-held.ensures.history;
  handed_out = handed-book c.args.pass.view c.book.result.now c.take-held.result.book c.take-held.result.taken c.book.ensures.value
      c.take-held.ensures.history c.requires.zero c.take-held.ensures.begins c.take-held.ensures.none_past;
  seen = c.give.ensures.seen.0;
  made = c.give.ensures.made;
  stops = c.give.ensures.stops;
  no_fewer =
      omega (
        arith,
        c.take-held.ensures.no_fewer_faults,
        c.take-held.ensures.faults,
        ap (λ (b : BookState). b.keeper.faults) c.book.ensures.value,
        c.give.ensures.seen.1,
      );
  rest = c.give.ensures.rest;
}

pub returns-clause-look : goal.returns-clause-look
returns-clause-look g c =
    looks-given c.args.pass.view c.take-held.result.view c.give.result.view c.take-held.result.taken c.book.result.now.history (is-given g c)
    (omega (
      arith,
      c.give.ensures.faults,
      ap (λ (v : View Deed). v.faults) c.take-held.ensures.pass.1,
      c.take-held.ensures.faults,
      ap (λ (b : BookState). b.keeper.faults) c.book.ensures.value,
    ))

pub returns-clause-next : goal.returns-clause-next
returns-clause-next g c =
    let history = c.book.result.now.history in
    subst (λ (h : List Deed). IfOk c.next_generation-next.result (λ (next : List Record). next ≡ covered_records h))
    (sym (ap without_makers c.give.ensures.seen.0 ∙ without_makers-with_makers history)) c.next_generation-next.ensures

pub returns-clause-grows : goal.returns-clause-grows
returns-clause-grows g c =
    let old = c.args.pass.view in
    let new = c.give.result.view in
    begins_through c.args.shown.now (covered_records (without_makers old.seen)) (covered_records (without_makers new.seen)) c.requires.shown
    (covers-look old new (returns-clause-look g c))
