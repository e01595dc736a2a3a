-- The thread kept what was promised.
use Rattle.std.proofs.Common.{◌≡◌, subst}
use Rattle.std.specs.Prelude.{IfOk}
use Rattle.desk_service.specs.Desks.{IsBegun}
use Rattle.desk_service.proofs.Beginning.{as_promised}
use Rattle.desk_service.proofs.desk.joined.Goals as goal

pub returns-in-Ok : goal.returns-in-Ok
returns-in-Ok g c =
    let thread = c.in-Ok.thread in
    let done = c.join-pass.result in
    let promise = c.args.started.promise in
    as_promised (λ n a r w. IsBegun g.P.Source.left g.P.Source.taken g.P.Sink.written g.P.Source.faults g.P.Link.ended n a done.0 r done.1 w done.2 done.3)
    promise.number.0 thread.promise.number.0 promise.pass.value thread.promise.pass.value promise.reader.value thread.promise.reader.value
    promise.way.value thread.promise.way.value
    (subst (λ running. IfOk running (λ thread. (thread.promise.number.0 ≡ promise.number.0) × (thread.promise.pass.value ≡ promise.pass.value) × (thread.promise.reader.value ≡ promise.reader.value) × (thread.promise.way.value ≡ promise.way.value)))
    c.in-Ok.is c.requires.promised) c.join-pass.ensures
