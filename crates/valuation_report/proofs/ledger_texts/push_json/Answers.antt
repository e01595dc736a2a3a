-- The pieces are the row's.
use Rattle.std.proofs.lemmas.Result.{on_ok_weaker}
use Rattle.valuation_report.proofs.Joined.{joined, renamed}
use Rattle.valuation_report.proofs.LedgerPieces.{json-added}
use Rattle.valuation_report.proofs.ledger_texts.push_json.Goals as goal

pub returns : goal.returns
returns c =
    on_ok_weaker c.push_bytes.result
    (λ last. renamed
    (joined c.in_ok-push_moment.ensures (joined c.in_ok-push_number.ensures (joined c.in_ok-push_number-2.ensures (joined c.in_ok-push_number-3.ensures
    (joined c.in_ok-push_number-4.ensures (joined c.in_ok-push_number-5.ensures (joined c.in_ok-push_number-6.ensures last)))))))
    (json-added c.args.item.now c.args.store.now c.json_side.result.now c.args.movement c.json_side.ensures))
    c.push_bytes.ensures
