-- The movement is taken away from those of its target.
use Rattle.std.proofs.Common.{◌++◌, ◌∷◌, [], List, sym, ap, ◌∙◌}
use Rattle.stock_nums.specs.declared.entry.Entry.{Entry}
use Rattle.cost_links.specs.Tables.{entries_to}
use Rattle.cost_links.proofs.ReturnSteps.{added-own, own-kept, without_last-end}
use Rattle.cost_links.proofs.returns.Returns.take_back_one.Goals as goal

pub returns-in-Some : goal.returns-in-Some
returns-in-Some c = λ line.
    let e = c.args.entry.now in
    let t = c.in-Some.line in
    let is = sym c.target_of.ensures ∙ c.in-Some.is in
    let ends = c.requires t in
    let last = ends.1 ∙ ap (λ (l : List Entry). ends.0 ++ l) (own-kept e t is) in
    sym (added-own e t line (entries_to c.pop.new.self line) (entries_to c.args.self.now line) (entries_to c.pop.new.self t) (entries_to c.args.self.now t) is
    (λ same alike. (ap (entries_to c.pop.new.self) (sym alike), ap (entries_to c.args.self.now) (sym alike)))
    (λ other. sym (c.pop.ensures.others line other))
    (sym (without_last-end (entries_to c.args.self.now t) ends.0 e last) ∙ ap (λ (l : List Entry). l ++ e ∷ []) (sym c.pop.ensures.own)))
