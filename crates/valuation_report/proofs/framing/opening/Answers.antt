-- The text of JSON goes on with the sheet's word.
use Rattle.std.proofs.Common.{◌≡◌, ℕ, List, ◌++◌, codes, decimal, sym, ap, ◌∙◌, subst}
use Rattle.stock_model.specs.declared.queries.Format.{Format}
use Rattle.valuation_report.specs.Pieces.{opening}
use Rattle.valuation_report.proofs.Joined.{joined}
use Rattle.valuation_report.proofs.framing.opening.Goals as goal

pub returns-in_ok-push_bytes-in-Json : goal.returns-in_ok-push_bytes-in-Json
returns-in_ok-push_bytes-in-Json c =
    let text = joined c.in_ok-push_number.ensures (joined c.in_ok-push_word-in-Json.ensures c.in_ok-push_bytes-in-Json.ensures) in
    subst (λ (format : Format). c.push_bytes.new.text.items ≡ opening format c.args.query.now.sheet c.args.covered.0) (sym c.in-Json.is)
    (text.is ∙ ap (λ (before : List ℕ). before ++ (codes "{\"covered\":" ++ (decimal c.args.covered.0 ++ (codes ",\"report\":\"" ++ (c.sheet_word.result.now ++ codes "\",\"rows\":["))))) c.new-text.ensures.items
    ∙ ap (λ (word : List ℕ). codes "{\"covered\":" ++ (decimal c.args.covered.0 ++ (codes ",\"report\":\"" ++ (word ++ codes "\",\"rows\":[")))) c.sheet_word.ensures)
