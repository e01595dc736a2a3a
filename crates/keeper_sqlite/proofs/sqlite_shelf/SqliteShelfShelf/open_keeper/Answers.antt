use Rattle.std.specs.Prelude.{IsTrue}
use Rattle.sqlite.specs.Files.{over_files}
use Rattle.keeper_sqlite.proofs.FileOrder.{opened_unchanged, opened_order}
use Rattle.keeper_sqlite.proofs.ShelfLaw.{shelf_tells}
use Rattle.keeper_sqlite.proofs.sqlite_shelf.SqliteShelfShelf.open_keeper.Goals as goal

pub returns-in-Ok-open_from-clause-tables : goal.returns-in-Ok-open_from-clause-tables
returns-in-Ok-open_from-clause-tables g c =
    shelf_tells (IsTrue c.args.self.now.is_fresh) _ _ c.in-Ok-open_from.conn c.in-Ok-open_from.ensures.found (λ keeper. keeper.tables) c.kept_in.result c.kept_in.ensures.told

pub kept_in-requires-clause-unchanged : goal.kept_in-requires-clause-unchanged
kept_in-requires-clause-unchanged g c = opened_unchanged over_files c.in-Ok-open_from.conn c.in-Ok-open_from.ensures.opened

pub kept_in-requires-clause-order : goal.kept_in-requires-clause-order
kept_in-requires-clause-order g c =
    opened_order over_files c.in-Ok-open_from.conn c.in-Ok-open_from.ensures.opened _ c.in-Ok-open_from.ensures.found c.in-Ok-open_from.ensures.fresh
