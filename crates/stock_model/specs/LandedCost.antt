-- Landed charges (IAS 2.10 and 11): how a charge is parted over lines of receipts, and what a line is charged in all.
use Rattle.std.specs.Prelude.{ℕ, Bool, List, [], map, filter, sum_by, unsigned_abs, if◌then◌else◌}
use Rattle.std.specs.Option.{option_map_or}
use Rattle.std.specs.List.{flat_map, enumerate_from, zip}
use Rattle.stock_nums.specs.Shares.{shares}
use Rattle.stock_nums.specs.Targets.{is_same_target}
use Rattle.stock_nums.specs.declared.cause.Target.{Target}
use Rattle.stock_model.specs.declared.records.Record.{Record}
use Rattle.stock_model.specs.declared.vouchers.Basis.{Basis}
use Rattle.stock_model.specs.declared.vouchers.Basis.TheVariants.{Quantity, Amount}
use Rattle.stock_model.specs.declared.vouchers.What.{What}
use Rattle.stock_model.specs.declared.vouchers.What.TheVariants.{Landed}
use Rattle.stock_model.specs.Entries.{is_live}
use Rattle.stock_model.specs.TargetLines.{target_line}
use Rattle.stock_model.specs.VoucherLines.{VoucherLine, landed_target}

-- the weight of a line by this basis
abbrev pub line_weight : Basis → VoucherLine → ℕ
line_weight Quantity line = line.qty.0
line_weight Amount line = unsigned_abs line.amount.0

-- the weight of a line of a receipt, or 0 where the journal has none
abbrev pub weight : List Record → Basis → Target → ℕ
weight journal basis target = option_map_or (line_weight basis) (target_line journal (landed_target target)) 0

abbrev pub weights : List Record → Basis → List Target → List ℕ
weights journal basis targets = map (weight journal basis) targets

-- what a voucher charges to lines of receipts: each has its share of the charge
abbrev pub charged : List Record → What → List (Target × ℕ)
charged journal (Landed charge basis targets) = zip targets (shares (unsigned_abs charge.0) (weights journal basis targets))
charged journal _ = []

abbrev pub record_charged : List Record → Record → List (Target × ℕ)
record_charged journal item = charged journal item.what

-- what the record with this number charges, where it is in force
abbrev pub charged_if : (ℕ → Bool) → List Record → ℕ × Record → List (Target × ℕ)
charged_if live journal (n, item) = if live n then record_charged journal item else []

-- what all vouchers of the journal charge that are in force
abbrev pub all_charged : List Record → List (Target × ℕ)
all_charged journal = flat_map (charged_if (is_live journal) journal) (enumerate_from 1 journal)

abbrev pub is_charge_of : Target → Target × ℕ → Bool
is_charge_of target charge = is_same_target charge.0 target

abbrev pub charge_amount : Target × ℕ → ℕ
charge_amount charge = charge.1

-- what all vouchers of the journal that are in force charge to the line, whenever they were posted
abbrev pub added : List Record → Target → ℕ
added journal target = sum_by charge_amount (filter (is_charge_of target) (all_charged journal))
