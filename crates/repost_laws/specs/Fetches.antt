-- What further records of a journal bring to a build: their movements, and what they charge to lines of receipts.
use Rattle.std.specs.Prelude.{ℕ, ◌≡◌, ◌<◌, ◌≤◌, Bool, true, List, ◌++◌, Contains, ◌↔◌}
use Rattle.std.specs.List.{flat_map, list_any}
use Rattle.stock_nums.specs.declared.cause.Target.{Target}
use Rattle.stock_nums.specs.declared.entry.Entry.{Entry}
use Rattle.stock_nums.specs.declared.limits.TheConstants.{MAX_RECORDS}
use Rattle.stock_model.specs.Enough.{entry_key}
use Rattle.stock_model.specs.LandedCost.{record_charged, is_charge_of}
use Rattle.stock_model.specs.declared.records.Record.{Record}
use Rattle.repost_laws.specs.Touched.{is_new}

-- movements of one record have one moment, and the record's number is one of a journal
pub record AreDated (es : List Entry) : Type 0 where
  pub numbered : (e : Entry) → Contains es e → 0 < e.place.voucher.0
  pub few : (e : Entry) → Contains es e → e.place.voucher.0 ≤ MAX_RECORDS
  pub dated : (e f : Entry) → Contains es e → Contains es f → e.place.voucher.0 ≡ f.place.voucher.0
      → e.place.moment ≡ f.place.moment

-- of the line, these are the movements of the records after the first n ones
abbrev pub AreNew : ℕ → List Entry → List Entry → Type 0
AreNew n line es = (e : Entry) → Contains line e → ((is_new n e ≡ true) ↔ Contains es e)

-- movements of one item in one warehouse are costed by one formula
abbrev pub HaveOneMethod : List Entry → Type 0
HaveOneMethod line = (e f : Entry) → Contains line e → Contains line f → entry_key e ≡ entry_key f → e.method ≡ f.method

-- what further records charge, voucher by voucher, each line weighed by all of the records
abbrev pub charges_after : List Record → List Record → List (Target × ℕ)
charges_after journal more = flat_map (record_charged (journal ++ more)) more

-- one of the charges is to the line
abbrev pub is_charged_in : List (Target × ℕ) → Target → Bool
is_charged_in charges line = list_any (is_charge_of line) charges
