use Rattle.std.proofs.Common.{sym}
use Rattle.voucher_import.proofs.Columns.{field_found, field_missing}
use Rattle.voucher_import.proofs.rows.field.Goals as goal

pub returns-in-Some : goal.returns-in-Some
returns-in-Some c =
    let found = rw c.in-Some.is at c.get.ensures.value in
    sym (field_found _ c.args.column _ (sym found))

pub returns-in-None : goal.returns-in-None
returns-in-None c =
    let missing = rw c.in-None.is at c.get.ensures.value in
    sym (field_missing _ c.args.column (sym missing))
