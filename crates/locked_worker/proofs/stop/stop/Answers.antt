-- What the lock hands out is what was seen, and more that number 0 has not made; and number 0 makes what is added.
use Rattle.std.proofs.Common.{◌≡◌, ◌+◌, ◌-◌, List, sym, ap, ◌∙◌, subst, arith}
use Rattle.stock_model.specs.declared.deeds.Deed.{Deed}
use Rattle.session_laws.specs.Makers.{with_makers}
use Rattle.generation_book.specs.State.{BookState}
use Rattle.generation_book.specs.Follows.{Follows}
use Rattle.turn_lock.specs.declared.view.Start.{Start}
use Rattle.turn_lock.specs.declared.view.View.{View}
use Rattle.stock_model.specs.declared.records.Record.{Record}
use Rattle.locked_worker.specs.Stopped.{IsAheadOf}
use Rattle.locked_worker.proofs.Stops.{IsHanded, IsGiven, handed, adds-own, gives-own, gives-grown, never_falls, follows-stop, stopped-at, refused-at_stop}
use Rattle.locked_worker.proofs.LockedTurns.{work-handed, records_of-handed, clean-handed, work-stays}
use Rattle.locked_worker.proofs.stop.stop.Given
use Rattle.locked_worker.proofs.stop.stop.Goals as goal

handed-out : (g : Given.Over) (c : goal.After-book g) → IsHanded c.args.pass.view c.book.result.now.history
handed-out g c =
    let is = ap (λ (b : BookState). with_makers b.history) c.book.ensures.value ∙ c.take-held.ensures.history in
    handed c.args.pass.view c.book.result.now.history c.take-held.result.taken is c.requires.zero c.take-held.ensures.begins
    c.take-held.ensures.none_past

pub stop_on-result-requires-clause-work : goal.stop_on-result-requires-clause-work
stop_on-result-requires-clause-work g c =
    work-handed c.args.pass.view c.book.result.now.history c.args.build.now (handed-out g c) c.requires.work

pub stop_on-result-requires-clause-ahead : goal.stop_on-result-requires-clause-ahead
stop_on-result-requires-clause-ahead g c =
    let build = c.args.build.now in
    subst (λ (rs : List Record). IsAheadOf rs build c.args.ahead.now)
    (sym (records_of-handed c.args.pass.view c.book.result.now.history build (handed-out g c) c.requires.work)) c.requires.ahead

pub give-requires-clause-own : goal.give-requires-clause-own
give-requires-clause-own g c =
    let halt = c.stop_on-result in
    let is = ap (λ (b : BookState). with_makers b.history) c.book.ensures.value ∙ c.take-held.ensures.history in
    gives-own c.book.result.now.history halt.new.book.history c.take-held.result.taken c.take-held.result.view.number
    (ap (λ v. v.number) c.take-held.ensures.pass.1 ∙ c.requires.zero) is
    (adds-own halt.result c.book.result.now.history halt.new.book.history c.args.build.now halt.ensures.stopped halt.ensures.book_stays)

pub give-requires-clause-grown : goal.give-requires-clause-grown
give-requires-clause-grown g c =
    let halt = c.stop_on-result in
    let is = ap (λ (b : BookState). with_makers b.history) c.book.ensures.value ∙ c.take-held.ensures.history in
    gives-grown c.book.result.now.history halt.new.book.history c.take-held.result.taken is
    (adds-own halt.result c.book.result.now.history halt.new.book.history c.args.build.now halt.ensures.stopped halt.ensures.book_stays)

pub give-requires-clause-no_fewer_faults : goal.give-requires-clause-no_fewer_faults
give-requires-clause-no_fewer_faults g c =
    let halt = c.stop_on-result in
    let rose = never_falls halt.result c.book.result.now.keeper halt.new.book.keeper halt.ensures.done halt.ensures.refused in
    omega (arith, c.take-held.ensures.faults, ap (λ (b : BookState). b.keeper.faults) c.book.ensures.value, rose)

pub give-requires-clause-follows : goal.give-requires-clause-follows
give-requires-clause-follows g c =
    let halt = c.stop_on-result in
    let start = c.args.pass.view.start in
    let before = subst (Follows start) (sym c.book.ensures.value) c.take-held.ensures.follows in
    subst (λ (s : Start). Follows s halt.new.book) (sym (ap (λ (v : View Deed). v.start) c.take-held.ensures.pass.1))
    (follows-stop start halt.result c.book.result.now halt.new.book c.args.build.now before halt.ensures.stopped halt.ensures.book_stays
    halt.ensures.done halt.ensures.refused)

is-given : (g : Given.Over) (c : goal.After-give g) → IsGiven c.args.pass.view c.take-held.result.view c.give.result.view c.take-held.result.taken
    c.book.result.now.history c.stop_on-result.new.book.history
is-given g c =
    let halt = c.stop_on-result in
    let is = ap (λ (b : BookState). with_makers b.history) c.book.ensures.value ∙ c.take-held.ensures.history in
    let rose = never_falls halt.result c.book.result.now.keeper halt.new.book.keeper halt.ensures.done halt.ensures.refused in
    record {
      same = c.take-held.ensures.pass.1;
      is = is;
      handed_out =
          handed c.args.pass.view c.book.result.now.history c.take-held.result.taken is c.requires.zero c.take-held.ensures.begins
          c.take-held.ensures.none_past;
      seen = c.give.ensures.seen.0;
      made = c.give.ensures.made;
      stops = c.give.ensures.stops;
      no_fewer =
          omega (
            arith,
            c.take-held.ensures.no_fewer_faults,
            c.take-held.ensures.faults,
            ap (λ (b : BookState). b.keeper.faults) c.book.ensures.value,
            rose,
            c.give.ensures.seen.1,
          );
      rest = c.give.ensures.rest;
    }

counted : (g : Given.Over) (c : goal.After-give g) → c.give.result.view.faults
    ≡ c.args.pass.view.faults + (c.stop_on-result.new.book.keeper.faults - c.book.result.now.keeper.faults)
counted g c =
    omega (
      arith,
      c.give.ensures.faults,
      ap (λ v. v.faults) c.take-held.ensures.pass.1,
      c.take-held.ensures.faults,
      ap (λ (b : BookState). b.keeper.faults) c.book.ensures.value,
    )

pub returns-clause-work : goal.returns-clause-work
returns-clause-work g c =
    let halt = c.stop_on-result in
    work-stays halt.result c.book.result.now.history halt.new.book.history c.give.result.view.seen c.args.build.now halt.ensures.book_stays
    c.give.ensures.seen.0 (work-handed c.args.pass.view c.book.result.now.history c.args.build.now (is-given g c).handed_out c.requires.work)

pub returns-clause-stopped : goal.returns-clause-stopped
returns-clause-stopped g c =
    let halt = c.stop_on-result in
    let out = (is-given g c).handed_out in
    let history = c.book.result.now.history in
    stopped-at c.args.pass.view c.take-held.result.view c.give.result.view c.take-held.result.taken history halt.new.book.history (is-given g c)
    c.book.result.now.keeper halt.new.book.keeper (counted g c) halt.result c.args.build.now
    (work-handed c.args.pass.view history c.args.build.now out c.requires.work)
    (clean-handed c.args.pass.view history c.args.build.now out c.requires.work c.requires.clean) halt.ensures.stopped halt.ensures.done

pub returns-clause-refused : goal.returns-clause-refused
returns-clause-refused g c =
    let halt = c.stop_on-result in
    refused-at_stop c.args.pass.view c.take-held.result.view c.give.result.view c.take-held.result.taken c.book.result.now.history
    halt.new.book.history (is-given g c) c.book.result.now.keeper halt.new.book.keeper (counted g c) halt.result halt.ensures.book_stays
    halt.ensures.refused c.give.ensures.seen.1
