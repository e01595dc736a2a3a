-- The movement is added to those of its target.
use Rattle.std.proofs.Common.{◌++◌, ◌∷◌, [], cond, sym, ap, ◌∙◌}
use Rattle.cost_links.specs.Tables.{entries_to}
use Rattle.cost_links.proofs.ReturnSteps.{on-ok, on-err, added-own, stays-own}
use Rattle.cost_links.proofs.returns.Returns.add_one.Goals as goal

pub returns-in-Some-clause-added : goal.returns-in-Some-clause-added
returns-in-Some-clause-added c =
    on-ok c.push.result (λ is line.
    let e = c.args.entry.now in
    let t = c.in-Some.line in
    added-own e t line (entries_to c.args.self.now line) (entries_to c.push.new.self line) (entries_to c.args.self.now t) (entries_to c.push.new.self t)
    (sym c.target_of.ensures ∙ c.in-Some.is)
    (λ same alike. (ap (entries_to c.args.self.now) (sym alike), ap (entries_to c.push.new.self) (sym alike)))
    (c.push.ensures.others line)
    (c.push.ensures.own ∙ ap (λ b. cond b (entries_to c.args.self.now t ++ e ∷ []) (entries_to c.args.self.now t)) is))

pub returns-in-Some-clause-unchanged : goal.returns-in-Some-clause-unchanged
returns-in-Some-clause-unchanged c =
    on-err c.push.result (λ is line.
    let e = c.args.entry.now in
    let t = c.in-Some.line in
    stays-own t line (entries_to c.args.self.now) (entries_to c.push.new.self) (c.push.ensures.others line)
    (c.push.ensures.own ∙ ap (λ b. cond b (entries_to c.args.self.now t ++ e ∷ []) (entries_to c.args.self.now t)) is))
