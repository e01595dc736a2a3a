use Rattle.std.proofs.Common.{◌≡◌, ◌≤◌, ◌^◌, ℤ, pos, ◌+ℤ◌, ◌-ℤ◌, Option, ◌++◌, option_to_list, sym, ap, ◌∙◌, subst, unsigned_abs, to_z, of_z}
use Rattle.std.proofs.lemmas.Int.{to_z-of_z}
use mir.Syntax.{w128}
use Rattle.stock_model.specs.declared.ledger_lines.GlLine.{GlLine}
use Rattle.stock_model.specs.LedgerLines.{debit_of, credit_of}
use Rattle.gl_lines.specs.Totals.{AreTotals, total_on}
use Rattle.gl_lines.proofs.AccountTotals.{difference-small, total-small, AreTotals-next}
use Rattle.gl_lines.proofs.totals.Totals.add.Goals as goal

pub sum-total-requires-clause-total : goal.sum-total-requires-clause-total
sum-total-requires-clause-total c =
    let room = c.requires.room in
    subst (λ (z : ℤ). unsigned_abs z ≤ 2 ^ 90) (sym (to_z-of_z w128 c.total_on.result (record { sfits = c.total_on.type_inv }) ∙ c.total_on.ensures))
    (total-small c.args.self.now.by_account room.0 c.in-Some.line.account room.1 room.2)

pub sum-total-requires-clause-net : goal.sum-total-requires-clause-net
sum-total-requires-clause-net c =
    subst (λ (z : ℤ). unsigned_abs z ≤ 2 ^ 63) (sym (to_z-of_z w128 c.net.result (record { sfits = c.net.type_inv }) ∙ c.net.ensures.net))
    (difference-small (debit_of c.in-Some.line) (credit_of c.in-Some.line) (2 ^ 63) c.net.ensures.small.0 c.net.ensures.small.1)

pub returns-in_ok-insert : goal.returns-in_ok-insert
returns-in_ok-insert c lines are =
    let line = c.in-Some.line in
    let old = to_z-of_z w128 c.total_on.result (record { sfits = c.total_on.type_inv }) ∙ c.total_on.ensures in
    let net = to_z-of_z w128 c.net.result (record { sfits = c.net.type_inv }) ∙ c.net.ensures.net in
    let total : c.sum-total.result ≡ total_on c.args.self.now.by_account line.account +ℤ (pos (debit_of line) -ℤ pos (credit_of line)) =
    c.sum-total.ensures ∙ ap (λ (z : ℤ). z +ℤ to_z w128 (of_z w128 c.net.result)) old ∙ ap (λ (z : ℤ). total_on c.args.self.now.by_account line.account +ℤ z) net in
    let inserted = to_z-of_z w128 c.sum-total.result (record { sfits = c.sum-total.type_inv }) in
    subst (λ (o : Option GlLine). AreTotals c.insert.new.self (lines ++ option_to_list o)) (sym c.in-Some.is)
    (AreTotals-next c.args.self.now.by_account c.insert.new.self lines line (to_z w128 (of_z w128 c.sum-total.result)) are c.net.ensures.small (inserted ∙ total) c.in_ok-insert.ensures.entries)
