-- The pieces are the row's.
use Rattle.std.proofs.lemmas.Result.{on_ok_weaker}
use Rattle.valuation_report.proofs.Joined.{joined, renamed}
use Rattle.valuation_report.proofs.LayerPieces.{csv-is}
use Rattle.valuation_report.proofs.layer_texts.push_csv.Goals as goal

pub returns : goal.returns
returns c =
    on_ok_weaker c.push_bytes.result
    (λ last. renamed
    (joined c.in_ok-push_text.ensures (joined c.in_ok-push_word.ensures (joined c.in_ok-push_number.ensures (joined c.in_ok-push_number-2.ensures
    (joined c.in_ok-push_number-3.ensures (joined c.in_ok-push_number-4.ensures last))))))
    (csv-is c.args.item.now c.args.store.now c.args.left c.requires.item c.requires.store))
    c.push_bytes.ensures
