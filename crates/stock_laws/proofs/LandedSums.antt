-- The sums over lines that charges are parted over, line by line, and how large they are.
use Rattle.std.proofs.Common.{◌≡◌, ℕ, suc, ◌+◌, ◌<◌, ◌≤◌, List, ◌∷◌, length, get_or, drop, filter, sum_by, sum, Some, None, sym, ap, ◌∙◌, add-one, arith}
use Rattle.std.specs.Option.{option_map_or}
use Rattle.std.specs.List.{flat_map, zip}
use Rattle.std.proofs.lemmas.List.Elements.{filter-append}
use Rattle.std.proofs.lemmas.List.Sums.{sum_by-append}
use Rattle.std.proofs.Math.Seq.{drop-cons}
use Rattle.stock_nums.specs.Part.{part}
use Rattle.stock_nums.specs.Shares.{shares_after, shares}
use Rattle.stock_nums.specs.Targets.{is_same_target}
use Rattle.stock_nums.specs.declared.cause.Target.{Target}
use Rattle.stock_nums.proofs.SharesLemmas.{sum-cons, sum-shares_after-none, sum-shares-le}
use Rattle.stock_model.specs.declared.records.Record.{Record}
use Rattle.stock_model.specs.declared.vouchers.Basis.{Basis}
use Rattle.stock_model.specs.declared.vouchers.Basis.TheVariants.{Quantity, Amount}
use Rattle.stock_model.specs.LandedCost.{line_weight, weight, weights, record_charged, is_charge_of, charge_amount}
use Rattle.stock_model.specs.TargetLines.{target_line}
use Rattle.stock_model.specs.VoucherLines.{VoucherLine, landed_target}
use Rattle.stock_laws.proofs.Received.{amount-le, zip-le}
use Rattle.stock_laws.proofs.TestedSums.{counted, tested-cons, tested-le}

-- a line weighs at most 10^12
line_weight-le : (basis : Basis) (line : VoucherLine) → line_weight basis line ≤ 1_000_000_000_000
line_weight-le Quantity line = omega (arith, line.quantity.1)
line_weight-le Amount line = amount-le line.amount.0 line.price

pub weight-le : (journal : List Record) (basis : Basis) (target : Target) → weight journal basis target ≤ 1_000_000_000_000
weight-le journal basis target =
    elim (target_line journal (landed_target target)) as (λ o. option_map_or (line_weight basis) o 0 ≤ 1_000_000_000_000) [
      | None ↦ omega arith
      | Some line ↦ line_weight-le basis line
    ]

here : {X : Type 0} (xs : List X) (i : ℕ) (x : X) → i < length xs → x ≡ get_or xs i x → drop i xs ≡ x ∷ drop (i + 1) xs
here xs i x within is = rw add-one (drop-cons xs i x within ∙ ap (λ y. y ∷ drop (suc i) xs) (sym is))

-- the weights from an index on
pub weights-drop : (journal : List Record) (basis : Basis) (targets : List Target) (i : ℕ) (t : Target) → i < length targets → t ≡ get_or targets i t
    → sum (weights journal basis (drop i targets)) ≡ weight journal basis t + sum (weights journal basis (drop (i + 1) targets))
weights-drop journal basis targets i t within is =
    ap (λ (ts : List Target). sum (weights journal basis ts)) (here targets i t within is)
    ∙ sum-cons (weight journal basis t) (weights journal basis (drop (i + 1) targets))

-- what is charged to a line by those from some on, after some with this weight together
abbrev pub charged_among : List Record → Basis → Target → ℕ → ℕ → ℕ → List Target → ℕ
charged_among journal basis target total before all targets =
    sum_by charge_amount (filter (is_charge_of target) (zip targets (shares_after total before all (weights journal basis targets))))

pub charged_among-drop : (journal : List Record) (basis : Basis) (target : Target) (total before all : ℕ) (targets : List Target) (i : ℕ) (t : Target) → i < length targets → t ≡ get_or targets i t
    → charged_among journal basis target total before all (drop i targets)
    ≡ counted (is_same_target t target) (part total before (weight journal basis t) all) + charged_among journal basis target total (before + weight journal basis t) all (drop (i + 1) targets)
charged_among-drop journal basis target total before all targets i t within is =
    let w = weight journal basis t in
    let rest = drop (i + 1) targets in
    ap (charged_among journal basis target total before all) (here targets i t within is)
    ∙ tested-cons charge_amount (is_charge_of target) (t, part total before w all) (zip rest (shares_after total (before + w) all (weights journal basis rest)))

-- no more than the charge
pub charged_among-le : (journal : List Record) (basis : Basis) (target : Target) (total : ℕ) (targets : List Target) → charged_among journal basis target total 0 (sum (weights journal basis targets)) targets ≤ total
charged_among-le journal basis target total targets =
    let ws = weights journal basis targets in
    omega (arith, tested-le charge_amount (is_charge_of target) (zip targets (shares total ws)), zip-le targets (shares total ws), sum-shares-le total ws)

-- nothing, where there is no weight
pub charged_among-none : (journal : List Record) (basis : Basis) (target : Target) (total : ℕ) (targets : List Target) → sum (weights journal basis targets) ≡ 0
    → charged_among journal basis target total 0 (sum (weights journal basis targets)) targets ≡ 0
charged_among-none journal basis target total targets none =
    let ws = weights journal basis targets in
    omega (arith, tested-le charge_amount (is_charge_of target) (zip targets (shares total ws)), zip-le targets (shares total ws), sum-shares_after-none total 0 (sum ws) ws none)

-- what records charge to a line, from one on
abbrev pub added_by : List Record → Target → List Record → ℕ
added_by journal target records = sum_by charge_amount (filter (is_charge_of target) (flat_map (record_charged journal) records))

pub added_by-drop : (journal : List Record) (target : Target) (records : List Record) (i : ℕ) (item : Record) → i < length records → item ≡ get_or records i item
    → added_by journal target (drop i records) ≡ sum_by charge_amount (filter (is_charge_of target) (record_charged journal item)) + added_by journal target (drop (i + 1) records)
added_by-drop journal target records i item within is =
    let rest = flat_map (record_charged journal) (drop (i + 1) records) in
    ap (added_by journal target) (here records i item within is)
    ∙ ap (sum_by charge_amount) (filter-append (is_charge_of target) (record_charged journal item) rest)
    ∙ sum_by-append charge_amount (filter (is_charge_of target) (record_charged journal item)) (filter (is_charge_of target) rest)
