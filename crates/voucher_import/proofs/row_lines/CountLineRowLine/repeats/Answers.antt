-- A line of a count repeats an earlier one where its row does.
use Rattle.std.proofs.Common.{sym, ◌∙◌}
use Rattle.voucher_import.proofs.CountKeys.{same_places}
use Rattle.voucher_import.proofs.Faults.{count_only}
use Rattle.voucher_import.proofs.row_lines.CountLineRowLine.repeats.Goals as goal

pub returns : goal.returns
returns c of_kind is_one row rows line are =
    let same = c.has_key_of.ensures ∙ same_places row c.args.self.now rows c.args.before.now line are in
    ((λ yes. (count_only of_kind is_one, sym same ∙ yes)), (λ is. same ∙ is.1))
