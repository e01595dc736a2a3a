-- What records charge to one line.
use Rattle.std.proofs.Common.{◌≡◌, ℕ, ◌+◌, ◌*◌, ◌≤◌, Bool, true, false, cond, List, [], ◌∷◌, length, arith}
use Rattle.std.specs.List.{flat_map, enumerate_from}
use Rattle.stock_nums.specs.declared.cause.Target.{Target}
use Rattle.stock_nums.specs.declared.limits.TheConstants.{MAX_AMOUNT}
use Rattle.stock_model.specs.Entries.{is_live}
use Rattle.stock_model.specs.LandedCost.{record_charged, charged_if, added}
use Rattle.stock_model.specs.declared.records.Record.{Record}
use Rattle.cost_links.specs.Charged.{charged_to}
use Rattle.cost_links.proofs.ChargeSums.{charged_to-append, charged-le}

-- a record charges a line at most so much, in force or not
charged_if-le : (b : Bool) (journal : List Record) (r : Record) (line : Target) → charged_to line (cond b (record_charged journal r) []) ≤ MAX_AMOUNT
charged_if-le true journal r line = charged-le journal r.what line r.limits
charged_if-le false journal r line = omega arith

-- a line is charged at most so much
charges-le : (live : ℕ → Bool) (journal : List Record) (k : ℕ) (records : List Record) (line : Target)
    → charged_to line (flat_map (charged_if live journal) (enumerate_from k records)) ≤ length records * MAX_AMOUNT
charges-le live journal k [] line = omega arith
charges-le live journal k (r ∷ rs) line =
    let both = charged_to-append line (charged_if live journal (k, r)) (flat_map (charged_if live journal) (enumerate_from (k + 1) rs)) in
    let longer : length (r ∷ rs) ≡ length rs + 1 = omega arith in
    omega (arith, both, longer, charged_if-le (live k) journal r line, charges-le live journal (k + 1) rs line)

pub added-le : (journal : List Record) (line : Target) → added journal line ≤ length journal * MAX_AMOUNT
added-le journal line = charges-le (is_live journal) journal 1 journal line
