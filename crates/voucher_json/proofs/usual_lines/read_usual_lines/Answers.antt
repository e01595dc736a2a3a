use Rattle.std.proofs.Common.{◌≡◌, ◌∷◌, arith}
use Rattle.std.proofs.lemmas.Grind.{common_steps}
use Rattle.json.specs.Token.{end_array}
use Rattle.voucher_json.specs.Tables.{line_data}
use Rattle.voucher_json.proofs.UsualLines.{HasRead-more, HasRead-over}
use Rattle.voucher_json.proofs.usual_lines.read_usual_lines.Goals as goal

pub loop-alloc-preserved : goal.loop-alloc-preserved
loop-alloc-preserved g c =
    let stands : c.closes_list.new.self ≡ c.loop-alloc.reader = grind arith in
    record {
      read = rw c.in_ok-push.ensures.added (HasRead-more (line_data g.L.UsualLine.table) _ c.loop-alloc.lines c.loop-alloc.reader _ c.in-Some.line c.loop-alloc.invariant.read (rw (← stands) (rw c.in-Some.is at c.in_ok-line.ensures)));
      most = grind (arith, common_steps);
    }

pub returns-clause-read : goal.returns-clause-read
returns-clause-read g c =
    let closes : c.loop-alloc.reader ≡ end_array ∷ c.closes_list.new.self = grind arith in
    HasRead-over (line_data g.L.UsualLine.table) _ c.loop-alloc.lines c.loop-alloc.reader _ c.loop-alloc.invariant.read closes
