-- The movements that go are in the line, and there is enough where there is no shortage.
use Rattle.std.proofs.Common.{◌≡◌, List, All, Contains, sym, ap, subst}
use Rattle.stock_nums.specs.declared.entry.Entry.{Entry}
use Rattle.stock_model.specs.Enough.{IsEnough}
use Rattle.stock_laws.proofs.Enough.{IsEnough-from_none}
use Rattle.quantity_check.specs.ChangedLines.{changed_line}
use Rattle.quantity_check.specs.State.{RunningState}
use Rattle.quantity_check.proofs.running.Running.try_change.Goals as goal

pub first_shortage-requires-clause-held : goal.first_shortage-requires-clause-held
first_shortage-requires-clause-held c =
    let told : c.self.inside.line.entries ≡ c.args.self.now.entries = ap (λ (s : RunningState). s.entries) c.self.view_is in
    subst (λ (line : List Entry). All (Contains line) c.args.gone.now) (sym told) c.requires.held

pub returns-in-None-clause-enough : goal.returns-in-None-clause-enough
returns-in-None-clause-enough c =
    let told : c.self.inside.line.entries ≡ c.args.self.now.entries = ap (λ (s : RunningState). s.entries) c.self.view_is in
    subst (λ (line : List Entry). IsEnough (changed_line line c.args.adds.now c.args.gone.now)) told
    (IsEnough-from_none (changed_line c.self.inside.line.entries c.args.adds.now c.args.gone.now) (sym c.in-None.ensures))
