-- The first peer was served, and then those that came after it, unless the desk is alone.
use Rattle.std.proofs.Common.{sym}
use Rattle.desk_connections.specs.Visits.{learnt, IsVisit}
use Rattle.desk_service.proofs.Beginning.{is_there, all_back, IsBegun-first, IsBegun-on}
use Rattle.desk_service.proofs.desk.begin.Goals as goal

pub serve_one-desk-requires-clause-has_peer : goal.serve_one-desk-requires-clause-has_peer
serve_one-desk-requires-clause-has_peer g c κs within =
    is_there (IsVisit g.P.Source.left g.P.Source.taken g.P.Sink.written g.P.Source.faults g.P.Link.ended c.args.number.0) c.args.number.0
    c.args.desk.way.view.made c.args.first c.requires.came

pub returns-then-is : goal.returns-then-is
returns-then-is g c =
    let one = c.serve_one-desk in
    IsBegun-first g.P.Source.left g.P.Source.taken g.P.Sink.written g.P.Source.faults g.P.Link.ended c.args.number.0
    c.args.desk.pass one.result.pass c.args.desk.reader one.result.reader c.args.desk.way one.result.way c.args.first (sym c.requires.number) (sym c.requires.way_number)
    one.ensures.same_lock one.ensures.same_way_lock one.ensures.rest one.ensures.way_rest one.ensures.way c.requires.came one.ensures.served

pub go_further-desk-requires-clause-all_back : goal.go_further-desk-requires-clause-all_back
go_further-desk-requires-clause-all_back g c κs within =
    let one = c.serve_one-desk in
    let first = IsBegun-first g.P.Source.left g.P.Source.taken g.P.Sink.written g.P.Source.faults g.P.Link.ended c.args.number.0
    c.args.desk.pass one.result.pass c.args.desk.reader one.result.reader c.args.desk.way one.result.way c.args.first (sym c.requires.number) (sym c.requires.way_number)
    one.ensures.same_lock one.ensures.same_way_lock one.ensures.rest one.ensures.way_rest one.ensures.way c.requires.came one.ensures.served
    in
    all_back (IsVisit g.P.Source.left g.P.Source.taken g.P.Sink.written g.P.Source.faults g.P.Link.ended c.args.number.0) c.args.number.0
    (learnt c.args.desk.pass.view c.args.desk.reader) (learnt one.result.pass.view one.result.reader) one.result.way.view.made first.served

pub returns : goal.returns
returns g c =
    let one = c.serve_one-desk in
    let further = c.go_further-desk in
    let first = IsBegun-first g.P.Source.left g.P.Source.taken g.P.Sink.written g.P.Source.faults g.P.Link.ended c.args.number.0
    c.args.desk.pass one.result.pass c.args.desk.reader one.result.reader c.args.desk.way one.result.way c.args.first (sym c.requires.number) (sym c.requires.way_number)
    one.ensures.same_lock one.ensures.same_way_lock one.ensures.rest one.ensures.way_rest one.ensures.way c.requires.came one.ensures.served
    in
    IsBegun-on g.P.Source.left g.P.Source.taken g.P.Sink.written g.P.Source.faults g.P.Link.ended c.args.number.0
    c.args.desk.pass one.result.pass further.result.pass c.args.desk.reader one.result.reader further.result.reader
    c.args.desk.way one.result.way further.result.way _ first
    further.ensures.same_lock further.ensures.same_way_lock further.ensures.rest further.ensures.way_rest further.ensures.way further.ensures.over
    further.ensures.served
