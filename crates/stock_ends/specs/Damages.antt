-- What is wrong with a ledger that can't be opened, and the line that notes it.
use Rattle.std.specs.Prelude.{◌≡◌, ℕ, List, ◌++◌, codes, decimal}
use Rattle.stock_nums.specs.declared.place.Side.{Side}
use Rattle.stock_nums.specs.declared.place.Side.TheVariants.{Leaves, Enters}
use Rattle.stock_keeper.specs.declared.tables.Tables.{Tables}
use Rattle.kept_tables.specs.Openings.{HasBadHead, IsBadStored, DiffersAt}
use Rattle.kept_tables.specs.declared.differing.Difference.{Difference}
use Rattle.stock_ends.specs.declared.damage.Damage.{Damage}
use Rattle.stock_ends.specs.declared.damage.Damage.TheVariants.{Head, Record, Worth}

abbrev pub side_text : Side → List ℕ
side_text Leaves = codes " leaves differs\n"
side_text Enters = codes " enters differs\n"

abbrev pub damage_note : Damage → List ℕ
damage_note Head = codes "stockd: stored head\n"
damage_note (Record number) = (codes "stockd: stored record " ++ decimal number) ++ codes " not readable\n"
damage_note (Worth spot) =
    (((codes "stockd: stored row " ++ decimal spot.voucher.0) ++ codes ".") ++ decimal spot.line) ++ side_text spot.side

-- the tables have this damage, and none that is looked for before it
abbrev pub HasDamage : Tables → Damage → Type 0
HasDamage t Head = HasBadHead t
HasDamage t (Record number) = (HasBadHead t → ⊥) × IsBadStored number t
HasDamage t (Worth spot) = (HasBadHead t → ⊥) × ((d : Difference) × (d.spot ≡ spot) × DiffersAt t d)
