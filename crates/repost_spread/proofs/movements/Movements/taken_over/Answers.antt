-- Each part is what was found of it.
use Rattle.std.proofs.Common.{pos, unsigned_abs, ap, ◌∙◌}
use Rattle.stock_nums.specs.declared.cause.Target.{Target}
use Rattle.repost_spread.specs.Movements.{line_of, charged_by}
use Rattle.repost_spread.proofs.TakingReturns.{back-found, back-fits, same-taken}
use Rattle.repost_spread.proofs.movements.Movements.taken_over.Goals as goal

pub returned_before-requires : goal.returned_before-requires
returned_before-requires c =
    back-fits (line_of c.args.self.now) c.args.self.now.links c.args.entry.now c.requires.kept.indexed.few c.requires.kept.returns

pub returns-clause-taken : goal.returns-clause-taken
returns-clause-taken c =
    let e = c.args.entry.now in
    let back = c.returned_before.ensures
    ∙ back-found (line_of c.args.self.now) c.args.self.now.links e e.cause c.requires.kept.returns in
    let charged = ap unsigned_abs (c.charged.ensures ∙ ap (λ (t : Target). pos (charged_by c.args.self.now t)) c.own_line.ensures) in
    same-taken _ _ _ _ _ _ _ _ charged back c.held_before.ensures (ap unsigned_abs c.linked.ensures)
