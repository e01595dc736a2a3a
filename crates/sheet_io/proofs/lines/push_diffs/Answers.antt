-- The numbers stand between two fixed texts.
use Rattle.std.proofs.Common.{codes}
use Rattle.std.proofs.lemmas.Result.{on_ok_weaker}
use Rattle.sheet_io.specs.Lines.{numbers_text}
use Rattle.sheet_io.proofs.Added.{added-three}
use Rattle.sheet_io.proofs.lines.push_diffs.Goals as goal

pub returns : goal.returns
returns c =
    on_ok_weaker c.push_text-2.result
    (added-three c.args.text.now.items (codes "{\"diffs\":[") (numbers_text c.args.diffs.now) (codes "],\"status\":\"counted\"}\n")
    c.push_text.new.text.items c.push_numbers.new.text.items c.push_text-2.new.text.items c.in_ok-push_text.ensures
    c.in_ok-push_numbers.ensures) c.push_text-2.ensures
