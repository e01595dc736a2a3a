-- The first one that does not come before the record is of it, if any is.
use Rattle.std.proofs.Common.{◌≡◌, ℕ, ◌<◌, ◌≤◌, nat_lt, true, false, length, rules, sym, arith}
use Rattle.std.proofs.lemmas.Bool.Decides.{nat_tests}
use Rattle.std.proofs.lemmas.List.Sorted.{IsPartitionedBy-ltb, IsPartitionPoint-from_clause}
use Rattle.stock_nums.specs.declared.entry.Entry.{Entry}
use Rattle.repost_spread.specs.Touches.{record_of}
use Rattle.repost_spread.proofs.RecordsAmong.{none-of, one-of}
use Rattle.repost_spread.proofs.touching.has_record.Goals as goal

is-within : (i n : ℕ) → true ≡ nat_lt i n → i < n
is-within i n h = grind (arith, nat_tests)

is-past : (i n : ℕ) → false ≡ nat_lt i n → n ≤ i
is-past i n h = grind (arith, nat_tests)

pub returns-in-Some : goal.returns-in-Some
returns-in-Some c =
    let es = c.args.entries.now in
    let k = c.args.voucher.0 in
    let parted = IsPartitionedBy-ltb record_of es k c.requires in
    let point = IsPartitionPoint-from_clause (λ (e : Entry). nat_lt (record_of e) k) es c.partition_point-index.result
    c.partition_point-index.ensures.partitioned parted (λ a r q h. search rules) in
    one-of es k c.partition_point-index.result c.requires point.0 point.1 c.in-Some.entry.now
    (is-within c.partition_point-index.result (length es) c.in-Some.ensures.lookup.0) c.in-Some.ensures.lookup.1

pub returns-in-None : goal.returns-in-None
returns-in-None c =
    let es = c.args.entries.now in
    let k = c.args.voucher.0 in
    let parted = IsPartitionedBy-ltb record_of es k c.requires in
    let point = IsPartitionPoint-from_clause (λ (e : Entry). nat_lt (record_of e) k) es c.partition_point-index.result
    c.partition_point-index.ensures.partitioned parted (λ a r q h. search rules) in
    sym (none-of es k c.partition_point-index.result c.requires point.0 point.1
    (is-past c.partition_point-index.result (length es) c.in-None.ensures.lookup.0))
