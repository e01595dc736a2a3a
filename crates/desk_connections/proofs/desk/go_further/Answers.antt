-- One more peer came, was served and handed back, or none did.
use Rattle.std.proofs.Common.{◌≡◌, ◌+◌, ◌<◌, ◌∙◌, length, sym, subst, arith}
use Rattle.desk_connections.specs.Visits.{learnt, IsVisit}
use Rattle.desk_connections.specs.Ways.{Finds}
use Rattle.desk_connections.proofs.AtDesk.{HasPeer, one-came, one-went, was-told, then-peer, then-none, ended-none}
use Rattle.desk_connections.proofs.WayTurns.{rest-through}
use Rattle.desk_connections.proofs.desk.go_further.Goals as goal

pub serve_one-desk-requires-clause-has_peer : goal.serve_one-desk-requires-clause-has_peer
serve_one-desk-requires-clause-has_peer g c κs within =
    let way = c.loop.desk.way.view in
    let found = c.find-found in
    let came = subst (λ next. Finds c.args.number.0 way next found.result.way.view) c.in-Some-next.is found.ensures.found in
    let counts = one-came c.args.number.0 c.in-Some-next.peer way.made found.result.way.view.made came in
    omega (arith, c.loop.invariant.all_back, counts.0, counts.1)

pub loop-preserved : goal.loop-preserved
loop-preserved g c =
    let before = c.loop in
    let found = c.find-found in
    let one = c.serve_one-desk in
    let known = learnt before.desk.pass.view before.desk.reader in
    let number = c.args.number.0 in
    let peer = c.in-Some-next.peer in
    let is_visit = IsVisit g.P.Source.left g.P.Source.taken g.P.Sink.written g.P.Source.faults g.P.Link.ended number in
    let came = subst (λ next. Finds number before.desk.way.view next found.result.way.view) c.in-Some-next.is found.ensures.found in
    let counts = one-came number peer before.desk.way.view.made found.result.way.view.made came in
    let counts_then = one-went number one.ensures.served.visit.peer_then found.result.way.view.made one.result.way.view.made one.ensures.served.went in
    record {
      same_lock = one.ensures.same_lock ∙ before.invariant.same_lock;
      same_way_lock = one.ensures.same_way_lock ∙ found.ensures.same_lock ∙ before.invariant.same_way_lock;
      rest = rest-through c.args.desk.pass.view before.desk.pass.view one.result.pass.view before.invariant.rest one.ensures.rest;
      way_rest =
          rest-through c.args.desk.way.view found.result.way.view one.result.way.view
          (rest-through c.args.desk.way.view before.desk.way.view found.result.way.view before.invariant.way_rest found.ensures.rest)
          one.ensures.way_rest;
      way = one.ensures.way;
      all_back = omega (arith, before.invariant.all_back, counts.0, counts.1, counts_then.0, counts_then.1);
      served = λ first has.
          then-none is_visit number first known (learnt one.result.pass.view one.result.reader) found.result.way.view.made one.result.way.view.made _
          (subst (λ p. HasPeer is_visit first known found.result.way.view.made p) (sym c.in-Some-next.peer-is)
          (then-peer is_visit number first known before.desk.way.view.made found.result.way.view.made peer
          (before.invariant.served first has) came)) one.ensures.served;
    }

pub returns-in-None-next-clause-over : goal.returns-in-None-next-clause-over
returns-in-None-next-clause-over g c =
    let way = c.loop.desk.way.view in
    let found = c.find-found in
    was-told c.args.number.0 way.made found.result.way.view.made
    (subst (λ next. Finds c.args.number.0 way next found.result.way.view) c.in-None-next.is found.ensures.found)

pub returns-in-None-next-clause-served : goal.returns-in-None-next-clause-served
returns-in-None-next-clause-served g c first has =
    let way = c.loop.desk.way.view in
    let found = c.find-found in
    ended-none (IsVisit g.P.Source.left g.P.Source.taken g.P.Sink.written g.P.Source.faults g.P.Link.ended c.args.number.0) c.args.number.0 first
    (learnt c.loop.desk.pass.view c.loop.desk.reader) way.made found.result.way.view.made (c.loop.invariant.served first has)
    (subst (λ next. Finds c.args.number.0 way next found.result.way.view) c.in-None-next.is found.ensures.found)
