use Rattle.desk_wire.proofs.FramingLemmas.{one_framing_told}
use Rattle.desk_wire.proofs.framing.frame.Goals as goal

pub returns-clause-one_framing : goal.returns-clause-one_framing
returns-clause-one_framing g c =
    one_framing_told (g.S.Source.left c.args.source.now) c.args.inbox.now c.hear_all.result c.hear_all.ensures.framed
