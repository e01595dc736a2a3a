-- Those that stand where the movement does are taken out of those of its target.
use Rattle.std.proofs.Common.{sym, ap, ◌∙◌}
use Rattle.cost_links.specs.Tables.{entries_to}
use Rattle.cost_links.proofs.ReturnSteps.{removed-own, removed-none}
use Rattle.cost_links.proofs.returns.Returns.remove_one.Goals as goal

pub returns-in-Some : goal.returns-in-Some
returns-in-Some c = λ line.
    let e = c.args.entry.now in
    let t = c.in-Some.line in
    removed-own e t line (entries_to c.args.self.now line) (entries_to c.take_out.new.self line) (entries_to c.args.self.now t) (entries_to c.take_out.new.self t)
    (sym c.target_of.ensures ∙ c.in-Some.is)
    (λ same alike. (ap (entries_to c.args.self.now) (sym alike), ap (entries_to c.take_out.new.self) (sym alike)))
    (c.take_out.ensures.others line) c.take_out.ensures.own

pub returns-in_default : goal.returns-in_default
returns-in_default c = λ line.
    removed-none c.args.entry.now line (entries_to c.args.self.now line) (sym c.target_of.ensures ∙ c.in_default.is)
