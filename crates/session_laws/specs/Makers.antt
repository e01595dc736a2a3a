-- Who made which deed of a history.
use Rattle.std.specs.Prelude.{ℕ, List, map, filter, ◌==◌}
use Rattle.stock_model.specs.declared.deeds.Deed.{Deed}
use Rattle.stock_model.specs.declared.deeds.Deed.TheVariants.{Kept, Published}

-- the desk that posted the record, and 0 for a publication, which a worker makes
abbrev pub maker : Deed → ℕ
maker (Kept item) = item.desk.0
maker (Published n) = 0

-- the history as a lock has it: with each deed the number of its maker
abbrev pub with_makers : List Deed → List (ℕ × Deed)
with_makers history = map (λ d. (maker d, d)) history

-- the deeds alone
abbrev pub without_makers : List (ℕ × Deed) → List Deed
without_makers events = map (λ e. e.1) events

-- the deeds of one desk, in their order
abbrev pub deeds_by : ℕ → List Deed → List Deed
deeds_by desk history = filter (λ d. maker d == desk) history
