-- That movements are found by an index: by item and warehouse, by the numbers of their units, and by their lines.
use Rattle.std.specs.Prelude.{ℕ, ◌≡◌, ◌+◌, ◌^◌, ◌<◌, ◌≤◌, List, length, map, filter, All, Contains}
use Rattle.stock_nums.specs.declared.entry.Entry.{Entry}
use Rattle.stock_nums.specs.declared.entry.Key.{Key}
use Rattle.stock_nums.specs.declared.limits.TheConstants.{MAX_RECORDS}
use Rattle.stock_model.specs.Enough.{enters_under, leaves_under}
use Rattle.stock_model.specs.InOrder.{IsInPostingOrder}
use Rattle.key_order.specs.Changes.{of_key, leaving_change}
use Rattle.posting_order.specs.KeyLines.{AreOf}
use Rattle.repost_index.specs.IndexState.{IndexState}
use Rattle.repost_index.specs.Moments.{IsMomentAt}

-- of each item in each warehouse the changes and the units by their numbers are those of the movements, and the moments of
-- their records are kept
pub record AreIndexed (line : List Entry) (index : IndexState) : Type 0 where
  pub in_order : IsInPostingOrder line
  pub few : length line ≤ 2 ^ 20
  pub keys : AreOf line index.keys
  pub entering : (key : Key) → of_key key index.entering ≡ map leaving_change (filter (enters_under key) line)
  pub leaving : (key : Key) → of_key key index.leaving ≡ map leaving_change (filter (leaves_under key) line)
  pub moments : (e : Entry) → Contains line e → IsMomentAt index.moments e.place

-- the movement stands at a place of its own, its record has a number of a journal, and all movements of that record have one
-- moment
pub record CanBeIndexed (line : List Entry) (e : Entry) : Type 0 where
  pub apart : All (λ f. f.place ≡ e.place → ⊥) line
  pub numbered : 0 < e.place.voucher.0
  pub few : e.place.voucher.0 ≤ MAX_RECORDS
  pub dated : (f : Entry) → Contains line f → f.place.voucher.0 ≡ e.place.voucher.0 → f.place.moment ≡ e.place.moment

-- so many more movements fit without memory, and the moments of all records that there may be
pub record HasRoom (more : ℕ) (index : IndexState) : Type 0 where
  pub keys : more ≤ index.keys_spare
  pub entering : more ≤ index.entering_spare
  pub leaving : more ≤ index.leaving_spare
  pub dates : MAX_RECORDS ≤ length index.moments + index.dates_spare

-- no more than so many movements fit without memory
pub record HasNoMoreRoom (most : ℕ) (index : IndexState) : Type 0 where
  pub keys : index.keys_spare ≤ most
  pub entering : index.entering_spare ≤ most
  pub leaving : index.leaving_spare ≤ most
