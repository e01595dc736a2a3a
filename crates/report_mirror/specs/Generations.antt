-- A generation: what reports are made from where these records are covered.
use Rattle.std.specs.Prelude.{ℕ, ◌≡◌, List, length}
use Rattle.stock_nums.specs.declared.entry.Row.{Row}
use Rattle.stock_nums.specs.declared.head.Head.{Head}
use Rattle.stock_model.specs.History.{covered, covered_records, IsLegal}
use Rattle.stock_model.specs.Masters.{heads}
use Rattle.stock_model.specs.Replay.{replay}
use Rattle.stock_model.specs.declared.deeds.Deed.{Deed}
use Rattle.stock_model.specs.declared.records.Record.{Record}

-- so many records are covered, these, by a legal history; these are the rows of their replay, and their items and warehouses
pub record IsGeneration (count : ℕ) (records : List Record) (rows : List Row) (masters : List Head) : Type 0 where
  pub history : List Deed
  pub legal : IsLegal history
  pub of_history : records ≡ covered_records history
  pub counted : count ≡ length records
  pub covers : count ≡ covered history
  pub valued : rows ≡ replay records
  pub named : masters ≡ heads records
