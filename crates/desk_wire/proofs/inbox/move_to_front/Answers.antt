use Rattle.desk_wire.proofs.inbox.move_to_front.Goals as goal
use Rattle.std.proofs.Common.{◌∙◌, ap, ◌-◌, take}
use Rattle.desk_wire.proofs.InboxLemmas.{moved-front}

pub returns : goal.returns
returns c =
    ap (take (c.args.end - c.args.start)) c.copy_within.ensures.after
    ∙ moved-front c.args.buffer.now c.args.start c.args.end c.requires.ordered c.requires.in_range
