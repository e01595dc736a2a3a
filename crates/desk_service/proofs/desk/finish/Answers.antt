-- The desk has begun, and is over or goes further.
use Rattle.std.proofs.Common.{◌∙◌, sym, ap, subst}
use Rattle.desk_connections.specs.Visits.{learnt, IsVisit}
use Rattle.desk_service.specs.Desks.{IsBegun}
use Rattle.desk_service.proofs.Beginning.{all_back, IsBegun-on}
use Rattle.desk_service.proofs.desk.finish.Goals as goal

pub go_further-requires-clause-same_lock : goal.go_further-requires-clause-same_lock
go_further-requires-clause-same_lock g c κs within = c.joined-pass.ensures.same_lock ∙ c.requires.same_lock

pub go_further-requires-clause-same_way_lock : goal.go_further-requires-clause-same_way_lock
go_further-requires-clause-same_way_lock g c κs within = c.joined-pass.ensures.same_way_lock ∙ c.requires.same_way_lock

pub go_further-requires-clause-number : goal.go_further-requires-clause-number
go_further-requires-clause-number g c κs within =
    let begun = c.joined-pass.ensures in
    sym (ap (λ v. v.number) begun.rest ∙ begun.number)

pub go_further-requires-clause-way_number : goal.go_further-requires-clause-way_number
go_further-requires-clause-way_number g c κs within =
    let begun = c.joined-pass.ensures in
    sym (ap (λ v. v.number) begun.way_rest ∙ begun.way_number)

pub go_further-requires-clause-way : goal.go_further-requires-clause-way
go_further-requires-clause-way g c κs within = c.joined-pass.ensures.is_way

pub go_further-requires-clause-all_back : goal.go_further-requires-clause-all_back
go_further-requires-clause-all_back g c κs within =
    let begun = c.joined-pass.ensures in
    let number = c.args.started.promise.number.0 in
    all_back (IsVisit g.P.Source.left g.P.Source.taken g.P.Sink.written g.P.Source.faults g.P.Link.ended number) number
    (learnt c.args.started.promise.pass.value.view c.args.started.promise.reader.value)
    (learnt c.joined-pass.result.pass.view c.joined-pass.result.reader) c.joined-pass.result.way.view.made begun.served

pub returns-then-is_over : goal.returns-then-is_over
returns-then-is_over g c =
    let promise = c.args.started.promise in
    let desk = c.joined-pass.result in
    subst (IsBegun g.P.Source.left g.P.Source.taken g.P.Sink.written g.P.Source.faults g.P.Link.ended promise.number.0
    promise.pass.value desk.pass promise.reader.value desk.reader promise.way.value desk.way) c.if-is_over.true c.joined-pass.ensures

pub returns : goal.returns
returns g c =
    let promise = c.args.started.promise in
    let desk = c.joined-pass.result in
    let further = c.go_further in
    IsBegun-on g.P.Source.left g.P.Source.taken g.P.Sink.written g.P.Source.faults g.P.Link.ended promise.number.0
    promise.pass.value desk.pass further.result.pass promise.reader.value desk.reader further.result.reader
    promise.way.value desk.way further.result.way _ c.joined-pass.ensures
    further.ensures.same_lock further.ensures.same_way_lock further.ensures.rest further.ensures.way_rest further.ensures.way further.ensures.over
    further.ensures.served
