use Rattle.std.proofs.Common.{◌≡◌, ◌++◌, false, ap, ◌∙◌}
use Rattle.serde_json.specs.Written.{compact_text}
use Rattle.voucher_json.specs.Tables.{line_data}
use Rattle.voucher_json.proofs.UsualRecords.{with_commas, commas-over}
use Rattle.voucher_json.proofs.stored_lines.split_lines.Goals as goal

pub returns-in-Some-after_byte-clause-text : goal.returns-in-Some-after_byte-clause-text
returns-in-Some-after_byte-clause-text g c =
    let data_of = line_data g.L.StoredLine.table in
    let lines = c.loop-rest.lines in
    let line = c.in-Some.line in
    let begins : c.loop-rest.rest.now ≡ compact_text (data_of line) ++ c.in-Some.after.now = rw c.in-Some.is at c.in_ok-line.ensures in
    rw c.in_ok-push.ensures.added
    (c.loop-rest.invariant.1 ∙ ap (λ t. with_commas data_of lines ++ t) (begins ∙ ap (λ t. compact_text (data_of line) ++ t) c.in-Some-after_byte.ensures) ∙ commas-over data_of false lines line c.in-Some-after_byte.end.now)
