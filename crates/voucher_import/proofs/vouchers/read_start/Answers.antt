use Rattle.std.proofs.Common.{◌≡◌, [], Some, refl, sym, ◌∙◌}
use Rattle.csv.specs.Records.{fields_of}
use Rattle.voucher_import.specs.Kinds.{kind_of}
use Rattle.voucher_import.specs.Rows.{do_of}
use Rattle.voucher_import.proofs.Faults.{starts_right}
use Rattle.voucher_import.proofs.vouchers.read_start.Goals as goal

pub returns-in-Ok : goal.returns-in-Ok
returns-in-Ok c =
    let row = fields_of c.args.first.now in
    let whole = sym c.len.ensures ∙ c.if-len-ne-COLUMNS.false in
    let word : kind_of (do_of row) ≡ Some c.in-Some.kind = rw c.field.ensures at (sym c.kind_named.ensures ∙ c.in-Some.is) in
    let at = rw c.field-2.ensures at c.in-Ok.ensures.spelled in
    (starts_right [] row row c.in-Some.kind c.in-Ok.at refl whole (record { same_do = refl; same_at = refl }) word at, word, at)
