-- One pass is split off, and then the rest.
use Rattle.std.proofs.Common.{◌-◌, suc, ◌≡◌, arith}
use Rattle.desk_service.proofs.SplitOff.{split-one}
use Rattle.desk_service.proofs.passes.+split_all.Goals as goal

pub returns-clause-passes : goal.returns-clause-passes
returns-clause-passes g t c =
    let split = c.in-Ok.ensures in
    let more : suc (c.args.desks - 1) ≡ c.args.desks = let some = c.if-desks-eq0.false in omega arith in
    split-one c.args.pass.lock c.args.pass.view c.args.desks (c.args.desks - 1) c.in-Ok.pass c.in-Ok.first c.split_all-pass.result.passes.items
    c.push.new.self.items more split.pass.0 split.pass.1 split.other.0 split.other.1 c.split_all-pass.ensures.passes c.in-Ok-push.ensures.items
