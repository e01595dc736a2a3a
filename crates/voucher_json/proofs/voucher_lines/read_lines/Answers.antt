use Rattle.std.proofs.Common.{◌≡◌, ◌+◌, arith}
use Rattle.std.proofs.lemmas.Grind.{common_steps}
use Rattle.std.proofs.lemmas.Result.{err_from_is_err_and}
use Rattle.voucher_json.specs.Tables.{IsLine}
use Rattle.voucher_json.proofs.VoucherLines.{read_more, read_none, read_all}
use Rattle.voucher_json.proofs.voucher_lines.read_lines.Goals as goal

pub returns-in_err-line-clause-outcome : goal.returns-in_err-line-clause-outcome
returns-in_err-line-clause-outcome g c =
    let p = err_from_is_err_and c.from_residual.result c.from_residual.ensures.1 in
    let place : c.len.result ≡ c.loop-value.value-index = omega (arith, c.len.ensures) in
    rw (p.1, p.2)
    (read_none (IsLine g.L.VoucherLine.table) c.args.list _ _ c.value-item.result _ c.loop-value.lines c.loop-value-test.true c.value-item.is (c.len.result + 1) (omega arith) c.in_err-line.ensures c.loop-value.invariant.read)

pub loop-value-preserved : goal.loop-value-preserved
loop-value-preserved g c =
    let place : c.len.result ≡ c.loop-value.value-index = omega (arith, c.len.ensures) in
    record {
      each = grind (arith, common_steps);
      read = λ end are.
          rw c.in-Ok-push.ensures.added
          (read_more (IsLine g.L.VoucherLine.table) c.args.list _ _ c.value-item.result c.in_ok-line.line c.loop-value.lines end c.loop-value-test.true c.value-item.is (c.len.result + 1) (omega arith) c.in_ok-line.ensures c.loop-value.invariant.read are);
    }

pub returns-clause-outcome : goal.returns-clause-outcome
returns-clause-outcome g c = read_all (IsLine g.L.VoucherLine.table) c.args.list _ _ c.loop-value.lines c.loop-value-test.false c.loop-value.invariant.read
