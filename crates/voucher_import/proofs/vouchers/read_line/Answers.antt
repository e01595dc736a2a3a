-- What is wrong with a row, step by step.
use Rattle.std.proofs.Common.{◌≡◌, ◌≤◌, Some, None, inl, inr, length, take, Err, refl, sym, ap, subst, ◌∙◌, arith}
use Rattle.std.proofs.lemmas.Bool.{false≢true}
use Rattle.std.proofs.lemmas.Result.{err_from_is_err_and}
use Rattle.std.proofs.lemmas.Slice.Zip.{AllZip-long}
use Rattle.csv.specs.Records.{fields_of}
use Rattle.stock_nums.specs.declared.limits.TheConstants.{MAX_LINES}
use Rattle.voucher_import.specs.Reading.{Checks, rows_in}
use Rattle.voucher_import.specs.Rows.{Row}
use Rattle.voucher_import.specs.RowFaults.{IsWrong, all_fields}
use Rattle.voucher_import.specs.declared.sheet.SheetField.TheVariants.{Repeat, Many}
use Rattle.voucher_import.proofs.Faults.{tells_group, tells_last, tells_length, tells_line}
use Rattle.voucher_import.proofs.PlacedRows.{head_at, of_begun, row_at}
use Rattle.voucher_import.proofs.vouchers.read_line.Goals as goal

pub returns-then-len-ne-COLUMNS : goal.returns-then-len-ne-COLUMNS
returns-then-len-ne-COLUMNS g c =
    rw (row_at c.args.run.now c.args.place c.index-run-place.result c.requires.within c.index-run-place.is)
    (tells_length (take c.args.place (rows_in c.args.run.now)) (fields_of c.index-run-place.result) (λ e. c.if-len-ne-COLUMNS.true (c.len.ensures ∙ e)))

pub returns-then-not-is_of_group : goal.returns-then-not-is_of_group
returns-then-not-is_of_group g c =
    rw (row_at c.args.run.now c.args.place c.index-run-place.result c.requires.within c.index-run-place.is)
    (tells_group (take c.args.place (rows_in c.args.run.now)) (fields_of c.index-run-0.result) (fields_of c.index-run-place.result)
    (head_at c.args.run.now c.args.place c.index-run-place.result c.index-run-0.result c.requires.within c.index-run-place.is c.index-run-0.is)
    (sym c.len.ensures ∙ c.if-len-ne-COLUMNS.false)
    (λ same. false≢true (sym c.if-not-is_of_group.true ∙ c.is_of_group.ensures.1 same)))

pub returns-in_err-line : goal.returns-in_err-line
returns-in_err-line g c =
    let before = take c.args.place (rows_in c.args.run.now) in
    let row = fields_of c.index-run-place.result in
    let begun = of_begun g.L.RowLine.has_kind c.args.run.now c.args.place c.index-run-place.result c.index-run-0.result c.requires.within c.index-run-place.is c.index-run-0.is c.requires.begun
    (sym c.len.ensures ∙ c.if-len-ne-COLUMNS.false) (c.is_of_group.ensures.0 c.if-not-is_of_group.false) in
    let p = err_from_is_err_and c.from_residual.result c.from_residual.ensures.1 in
    let here = row_at c.args.run.now c.args.place c.index-run-place.result c.requires.within c.index-run-place.is in
    rw (p.1, p.2)
    (subst (λ (r : Row). Checks before r all_fields (g.L.RowLine.is_line r) (Err c.in_err-line.field-0.0)) (sym here)
    (tells_line (g.L.RowLine.is_line row) (g.L.RowLine.is_line row) before row _ begun.start (c.in_err-line.ensures c.requires.begun.of_kind c.requires.begun.is_one begun.word before)))

pub returns-then-repeats : goal.returns-then-repeats
returns-then-repeats g c =
    let before = take c.args.place (rows_in c.args.run.now) in
    let row = fields_of c.index-run-place.result in
    let begun = of_begun g.L.RowLine.has_kind c.args.run.now c.args.place c.index-run-place.result c.index-run-0.result c.requires.within c.index-run-place.is c.index-run-0.is c.requires.begun
    (sym c.len.ensures ∙ c.if-len-ne-COLUMNS.false) (c.is_of_group.ensures.0 c.if-not-is_of_group.false) in
    let read = c.in_ok-line.ensures c.requires.begun.of_kind c.requires.begun.is_one begun.word before in
    let again = (c.repeats.ensures c.requires.begun.of_kind c.requires.begun.is_one row before read.1 c.requires.so_far).0 c.if-repeats.true in
    rw (row_at c.args.run.now c.args.place c.index-run-place.result c.requires.within c.index-run-place.is)
    (tells_last before row (Some Repeat) begun.start read.0 (inl ((begun.word ∙ ap Some again.0, again.1), refl)))

pub returns-then-before-ge-MAX_LINES : goal.returns-then-before-ge-MAX_LINES
returns-then-before-ge-MAX_LINES g c =
    let before = take c.args.place (rows_in c.args.run.now) in
    let row = fields_of c.index-run-place.result in
    let begun = of_begun g.L.RowLine.has_kind c.args.run.now c.args.place c.index-run-place.result c.index-run-0.result c.requires.within c.index-run-place.is c.index-run-0.is c.requires.begun
    (sym c.len.ensures ∙ c.if-len-ne-COLUMNS.false) (c.is_of_group.ensures.0 c.if-not-is_of_group.false) in
    let read = c.in_ok-line.ensures c.requires.begun.of_kind c.requires.begun.is_one begun.word before in
    let repeats = c.repeats.ensures c.requires.begun.of_kind c.requires.begun.is_one row before read.1 c.requires.so_far in
    let once : ¬ IsWrong before row Repeat = λ again. false≢true (sym c.if-repeats.false ∙ repeats.1 (cc (again.0, begun.word), again.1)) in
    let size : length c.args.before.now ≡ length before = AllZip-long g.L.RowLine.is_line before c.args.before.now c.requires.so_far in
    let full : MAX_LINES ≤ length before = omega (arith, c.if-before-ge-MAX_LINES.true, size) in
    rw (row_at c.args.run.now c.args.place c.index-run-place.result c.requires.within c.index-run-place.is)
    (tells_last before row (Some Many) begun.start read.0 (inr (once, inl (full, refl))))

pub returns : goal.returns
returns g c =
    let before = take c.args.place (rows_in c.args.run.now) in
    let row = fields_of c.index-run-place.result in
    let begun = of_begun g.L.RowLine.has_kind c.args.run.now c.args.place c.index-run-place.result c.index-run-0.result c.requires.within c.index-run-place.is c.index-run-0.is c.requires.begun
    (sym c.len.ensures ∙ c.if-len-ne-COLUMNS.false) (c.is_of_group.ensures.0 c.if-not-is_of_group.false) in
    let read = c.in_ok-line.ensures c.requires.begun.of_kind c.requires.begun.is_one begun.word before in
    let repeats = c.repeats.ensures c.requires.begun.of_kind c.requires.begun.is_one row before read.1 c.requires.so_far in
    let once : ¬ IsWrong before row Repeat = λ again. false≢true (sym c.if-repeats.false ∙ repeats.1 (cc (again.0, begun.word), again.1)) in
    let size : length c.args.before.now ≡ length before = AllZip-long g.L.RowLine.is_line before c.args.before.now c.requires.so_far in
    let room : ¬ IsWrong before row Many = λ full. absurd (omega (arith, full, c.if-before-ge-MAX_LINES.false, size)) in
    rw (row_at c.args.run.now c.args.place c.index-run-place.result c.requires.within c.index-run-place.is)
    (tells_last before row None begun.start read.0 (inr (once, inr (room, refl))), read.1)
