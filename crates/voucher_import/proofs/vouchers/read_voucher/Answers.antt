-- Each kind of voucher has its lines.
use Rattle.std.proofs.Common.{◌≡◌, ◌≤◌, ℕ, true, Some, length, refl, ap, ◌∙◌, arith}
use Rattle.std.proofs.lemmas.Bool.Decides.{nat_tests}
use Rattle.stock_model.specs.Limits.{is_line_count}
use Rattle.stock_nums.specs.declared.limits.TheConstants.{MAX_LINES}
use Rattle.voucher_import.specs.Reading.{rows_in}
use Rattle.voucher_import.specs.declared.kinds.SheetKind.TheVariants as kind
use Rattle.voucher_import.proofs.CountKeys.{keys_differ}
use Rattle.voucher_import.proofs.PlacedRows.{bad_start, dated_by}
use Rattle.voucher_import.proofs.vouchers.read_voucher.Goals as goal

counted : (n : ℕ) → 1 ≤ n → n ≤ MAX_LINES → is_line_count n ≡ true
counted n some few = grind (arith, nat_tests)

pub returns-in-Err-clause-outcome : goal.returns-in-Err-clause-outcome
returns-in-Err-clause-outcome c = (0, bad_start c.args.run.now c.index-run-0.result c.in-Err.field c.requires.some c.index-run-0.is c.in-Err.ensures, omega arith)

pub read_lines-requires-clause-begun : goal.read_lines-requires-clause-begun
read_lines-requires-clause-begun c = record {
  of_kind = kind.Receipt;
  moment = c.in-Ok.start.1;
  is_one = refl;
  dated = dated_by c.args.run.now c.index-run-0.result kind.Receipt c.in-Ok.start.1 c.requires.some c.index-run-0.is (c.in-Ok.ensures.1 ∙ ap Some c.in-Receipt.is) c.in-Ok.ensures.2;
}

pub read_issue-requires-clause-dated : goal.read_issue-requires-clause-dated
read_issue-requires-clause-dated c =
    dated_by c.args.run.now c.index-run-0.result kind.Sold c.in-Ok.start.1 c.requires.some c.index-run-0.is (c.in-Ok.ensures.1 ∙ ap Some c.in-Sold.is) c.in-Ok.ensures.2

pub read_issue-requires-in-Used-clause-dated : goal.read_issue-requires-in-Used-clause-dated
read_issue-requires-in-Used-clause-dated c =
    dated_by c.args.run.now c.index-run-0.result kind.Used c.in-Ok.start.1 c.requires.some c.index-run-0.is (c.in-Ok.ensures.1 ∙ ap Some c.in-Used.is) c.in-Ok.ensures.2

pub read_lines-requires-in-Transfer-clause-begun : goal.read_lines-requires-in-Transfer-clause-begun
read_lines-requires-in-Transfer-clause-begun c = record {
  of_kind = kind.Transfer;
  moment = c.in-Ok.start.1;
  is_one = refl;
  dated = dated_by c.args.run.now c.index-run-0.result kind.Transfer c.in-Ok.start.1 c.requires.some c.index-run-0.is (c.in-Ok.ensures.1 ∙ ap Some c.in-Transfer.is) c.in-Ok.ensures.2;
}

pub read_lines-requires-in-Count-clause-begun : goal.read_lines-requires-in-Count-clause-begun
read_lines-requires-in-Count-clause-begun c = record {
  of_kind = kind.Count;
  moment = c.in-Ok.start.1;
  is_one = refl;
  dated = dated_by c.args.run.now c.index-run-0.result kind.Count c.in-Ok.start.1 c.requires.some c.index-run-0.is (c.in-Ok.ensures.1 ∙ ap Some c.in-Count.is) c.in-Ok.ensures.2;
}

pub invariant_of-result : goal.invariant_of-result
invariant_of-result c =
    let dated = dated_by c.args.run.now c.index-run-0.result kind.Count c.in-Ok.start.1 c.requires.some c.index-run-0.is (c.in-Ok.ensures.1 ∙ ap Some c.in-Count.is) c.in-Ok.ensures.2 in
    let read = c.in_ok-lines-in-Count.ensures in
    record {
      size = read.count;
      keys = keys_differ (rows_in c.args.run.now) c.in_ok-lines-in-Count.lines read.outcome.0 dated.word read.outcome.1;
    }

pub returns-in_ok-lines-in-Receipt-clause-outcome : goal.returns-in_ok-lines-in-Receipt-clause-outcome
returns-in_ok-lines-in-Receipt-clause-outcome c =
    let dated = dated_by c.args.run.now c.index-run-0.result kind.Receipt c.in-Ok.start.1 c.requires.some c.index-run-0.is (c.in-Ok.ensures.1 ∙ ap Some c.in-Receipt.is) c.in-Ok.ensures.2 in
    let read = c.in_ok-lines-in-Receipt.ensures.outcome in
    (read.0, (dated, read.1))

pub returns-in_ok-lines-in-Receipt-clause-limits : goal.returns-in_ok-lines-in-Receipt-clause-limits
returns-in_ok-lines-in-Receipt-clause-limits c =
    let count = c.in_ok-lines-in-Receipt.ensures.count in
    counted (length c.in_ok-lines-in-Receipt.lines) count.0 count.1

pub returns-in_ok-lines-in-Transfer-clause-outcome : goal.returns-in_ok-lines-in-Transfer-clause-outcome
returns-in_ok-lines-in-Transfer-clause-outcome c =
    let dated = dated_by c.args.run.now c.index-run-0.result kind.Transfer c.in-Ok.start.1 c.requires.some c.index-run-0.is (c.in-Ok.ensures.1 ∙ ap Some c.in-Transfer.is) c.in-Ok.ensures.2 in
    let read = c.in_ok-lines-in-Transfer.ensures.outcome in
    (read.0, (dated, read.1))

pub returns-in_ok-lines-in-Transfer-clause-limits : goal.returns-in_ok-lines-in-Transfer-clause-limits
returns-in_ok-lines-in-Transfer-clause-limits c =
    let count = c.in_ok-lines-in-Transfer.ensures.count in
    counted (length c.in_ok-lines-in-Transfer.lines) count.0 count.1

pub returns-in_ok-lines-in-Count-clause-outcome : goal.returns-in_ok-lines-in-Count-clause-outcome
returns-in_ok-lines-in-Count-clause-outcome c =
    let dated = dated_by c.args.run.now c.index-run-0.result kind.Count c.in-Ok.start.1 c.requires.some c.index-run-0.is (c.in-Ok.ensures.1 ∙ ap Some c.in-Count.is) c.in-Ok.ensures.2 in
    let read = c.in_ok-lines-in-Count.ensures.outcome in
    (read.0, (dated, read.1))
