-- The desk's way found its first peer, or was told that none comes.
use Rattle.std.proofs.Common.{ap, ◌∙◌, sym}
use Rattle.desk_service.proofs.Beginning.{IsFirst-found}
use Rattle.desk_service.proofs.accepting.open.Goals as goal

pub start-running-requires-clause-way_number : goal.start-running-requires-clause-way_number
start-running-requires-clause-way_number g c κs within =
    c.requires.way_number ∙ sym (ap (λ v. v.number) c.find-way.ensures.rest)

pub start-running-requires-clause-found : goal.start-running-requires-clause-found
start-running-requires-clause-found g c κs within =
    IsFirst-found c.args.number.0 c.find-way.result.next c.args.desk.way.view c.find-way.result.way.view c.requires.nothing c.find-way.ensures.found
