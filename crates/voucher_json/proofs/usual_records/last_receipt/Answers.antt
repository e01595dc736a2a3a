use Rattle.std.proofs.Common.{◌≡◌, List, ℕ, ◌++◌, map, codes, false, rules, sym, ap, ◌∙◌, subst}
use Rattle.serde_json.specs.View.{items_of}
use Rattle.serde_json.specs.Written.{items_text}
use Rattle.stock_model.specs.declared.vouchers.What.TheVariants.{Receipt}
use Rattle.voucher_json.specs.Records.{receipt_line}
use Rattle.voucher_json.specs.Tables.{line_data}
use Rattle.voucher_json.specs.UsualRecords.{EndsRecord}
use Rattle.voucher_json.proofs.UsualRecords.{receipt-ends}
use Rattle.voucher_json.proofs.usual_records.last_receipt.Goals as goal

pub returns-clause-text : goal.returns-clause-text
returns-clause-text c =
    let at = c.args.at in
    let lines = c.in-Some.lines in
    let listed : List ℕ = items_text false (items_of (map (line_data receipt_line) lines)) in
    let says : c.args.text.now ≡ listed ++ c.in-Some.rest.now = rw c.in-Some.is at c.in_ok-lines.ensures.text in
    let over : c.in-Some.rest.now ≡ codes "}" = search rules in
    let P : List ℕ → Type 0 = λ t. EndsRecord at (codes "\"receipt\",\"lines\":[" ++ t) (Receipt at lines) in
    subst P (sym (says ∙ ap (λ t. listed ++ t) over)) (receipt-ends at lines)
