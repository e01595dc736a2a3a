-- What a file holds, by what is supposed of its bytes and of those of its log.
use Rattle.stock_keeper.specs.declared.tables.Tables.{Tables}
use Rattle.sqlite_trees.specs.Tree.{Trees}
use Rattle.sqlite_wal.specs.Recovery.{Image}
use Rattle.sqlite.specs.Effect.{IsDatabase}
use Rattle.sqlite.specs.Files.{HoldsDatabase}
use Rattle.sqlite_tables.specs.Finding.{IsUpgradeOf}
use Rattle.sqlite_tables.specs.Whole.{whole}

-- the two files hold a ledger's database, and these are its tables, in the version that is written now
pub record HoldsLedger (image : Image) (t : Tables) : Type 0 where
  pub trees : Trees
  pub held : HoldsDatabase image trees
  pub sound : IsDatabase (record { schema = whole; trees = trees })
  pub upgrade : IsUpgradeOf (record { schema = whole; trees = trees }) t
