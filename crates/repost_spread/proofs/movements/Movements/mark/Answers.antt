-- The mark is that of the frontier.
use Rattle.std.proofs.Common.{refl}
use Rattle.repost_spread.proofs.TouchingMarks.{marked-at}
use Rattle.repost_spread.proofs.movements.Movements.mark.Goals as goal

pub returns : goal.returns
returns c = marked-at c.args.self.now (record { frontier = c.mark.new.self; index = c.args.self.now.index; links = c.args.self.now.links })
    c.args.place.now c.requires c.mark.ensures.marked refl refl
