-- The number stands between two fixed texts.
use Rattle.std.proofs.Common.{codes}
use Rattle.std.specs.Prelude.{decimal}
use Rattle.std.proofs.lemmas.Result.{on_ok_weaker}
use Rattle.sheet_io.proofs.Added.{added-two}
use Rattle.sheet_io.proofs.lines.push_wide.Goals as goal

pub returns : goal.returns
returns c =
    on_ok_weaker c.push_text.result
    (added-two c.args.text.now.items (codes "{\"fault\":\"wide\",\"line\":") (decimal c.args.line) (codes ",\"status\":\"refused\"}\n")
    c.push_number.new.text.items c.push_text.new.text.items c.in_ok-push_number.ensures) c.push_text.ensures
