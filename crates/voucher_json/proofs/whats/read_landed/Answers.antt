use Rattle.std.proofs.Common.{◌≡◌, true, length, IsTrue, refl, arith}
use Rattle.std.proofs.lemmas.Bool.Decides.{nat_tests}
use Rattle.std.specs.List.{list_all}
use Rattle.stock_nums.specs.Targets.{is_target}
use Rattle.stock_model.specs.Limits.{is_line_count}
use Rattle.voucher_json.proofs.TargetRanges.{targets-in_range}
use Rattle.voucher_json.proofs.whats.read_landed.Goals as goal

pub returns-clause-limits : goal.returns-clause-limits
returns-clause-limits c =
    let count : IsTrue (is_line_count (length c.in_ok-targets.targets)) = grind (arith, nat_tests) in
    let each : list_all is_target c.in_ok-targets.targets ≡ true = targets-in_range _ _ _ c.in_ok-targets.targets c.in_ok-targets.ensures.outcome in
    rw (c.in_ok-charge.ensures.range, count, each) refl
