-- The head is where the heads below the number end, if any head has it.
use Rattle.std.proofs.Common.{rules, arith}
use Rattle.std.proofs.lemmas.List.Sorted.{IsPartitionPoint-from_clause}
use Rattle.valuation_report.proofs.HeadSearch.{is_below, are_parted, found, not_found, other_number}
use Rattle.valuation_report.proofs.code_texts.head_with.Goals as goal
use Rattle.valuation_report.proofs.code_texts.head_with.Goals.{in_default-via-in-Some+else-head-number, in_default-via-in_default}

pub returns-in-Some : goal.returns-in-Some
returns-in-Some c =
    let heads = c.args.heads.now in
    let n = c.args.number in
    let parted = IsPartitionPoint-from_clause (is_below n) _ _ c.partition_point-index.ensures.partitioned (are_parted n heads c.requires.order) (λ a r q k. search rules) in
    found n heads c.partition_point-index.result c.in-Some.head.now parted c.in-Some.ensures.lookup.3.0 c.in-Some.ensures.lookup.3.1 c.if-head-number.true

pub returns-in_default : goal.returns-in_default
returns-in_default c =
    let heads = c.args.heads.now in
    let n = c.args.number in
    let i = c.partition_point-index.result in
    let parted = IsPartitionPoint-from_clause (is_below n) _ _ c.partition_point-index.ensures.partitioned (are_parted n heads c.requires.order) (λ a r q k. search rules) in
    elim c.in_default.branch [
      | in_default-via-in-Some+else-head-number w ↦ let h = w.in-Some.ensures.lookup in
          not_found n heads i c.requires.order parted (other_number n heads i w.in-Some.head.now h.3.1 w.if-head-number.false)
      | in_default-via-in_default w ↦ not_found n heads i c.requires.order parted (λ d within. absurd (omega (arith, w.in_default.ensures.lookup.3)))
    ]
