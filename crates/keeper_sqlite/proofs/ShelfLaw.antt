-- A keeper over files tells what they held, in the version that is written now.
use Rattle.std.proofs.Common.{◌≡◌, ◌∷◌, [], List, Result, Ok, Err, IfOk, sym, ap, ◌∙◌, subst, inl, inr, arith}
use Rattle.std.specs.List.{AllZip}
use Rattle.sqlite_value.specs.Order.{Row}
use Rattle.sqlite_trees.specs.declared.store.Store.{Ghosts}
use Rattle.sqlite_trees.specs.Tree.{Trees}
use Rattle.sqlite_catalog.specs.Listing.{IsSound, IsTableRow}
use Rattle.sqlite_wal.specs.Recovery.{Image}
use Rattle.sqlite.specs.Effect.{Database}
use Rattle.sqlite.specs.State.{HasCleanDisk}
use Rattle.sqlite.specs.Held.{Held, state}
use Rattle.sqlite.specs.Start.{FindsIn}
use Rattle.stock_keeper.specs.Changed.{upgraded}
use Rattle.stock_keeper.specs.Keeping.{TellSame}
use Rattle.stock_keeper.specs.declared.tables.Tables.{Tables}
use Rattle.sqlite_tables.specs.Finding.{WasPrepared}
use Rattle.sqlite_tables.specs.Making.{no_schema}
use Rattle.sqlite_tables.specs.Standing.{StandsFor}
use Rattle.sqlite_tables.specs.Stored.{Base, TellsTables}
use Rattle.sqlite_tables.specs.Whole.{whole}
use Rattle.sqlite_tables.proofs.Telling.{stands_alone}
use Rattle.keeper_sqlite.specs.Shelved.{HoldsLedger}

-- no trees list both nothing and the tables of a ledger
not_both : (db : Trees) → IsSound no_schema db → IsSound whole db → ⊥
not_both db none some = go _ none.lists.listed.tables some.lists.listed.tables
  where
    go : (rows : List Row) → AllZip IsTableRow rows no_schema.tables → AllZip IsTableRow rows whole.tables → ⊥
    go [] none some = some
    go (row ∷ rows) none some = none

module _ {S : Type 0} (store : Ghosts S) (image : Image) (conn : Held S) (new : Base S) (found : HasCleanDisk (state store conn) → FindsIn image (state store conn)) (was : WasPrepared store conn new) where
  pub tells_what_was_held : (s t : Tables) → HoldsLedger image s → TellsTables store new t → t ≡ s
  tells_what_was_held s t held told =
      let renewed = state store was.renewed in
      let renewed_clean : HasCleanDisk renewed = omega (arith, was.crash.clean, told.1.clean) in
      let conn_clean : HasCleanDisk (state store conn) = omega (arith, was.is_renewed.clean, renewed_clean) in
      let it = was.is_renewed.renews renewed_clean in
      let trees : renewed.now.trees ≡ held.trees = it.trees ∙ (found conn_clean).holds held.trees held.held in
      elim was.told [
        | inl made ↦
            let sound = (was.order.sorted renewed_clean it.is_open).sound in
            absurd (not_both held.trees (subst (λ (db : Trees). IsSound no_schema db) trees (subst (λ schema. IsSound schema renewed.now.trees) made.0 sound)) held.sound)
        | inr there ↦
            let from = there.1 t told in
            let db : renewed.now ≡ record { schema = whole; trees = held.trees } = λ i. record { schema = there.0 i; trees = trees i } in
            let same : from.0 ≡ held.upgrade.0 = stands_alone _ from.0 held.upgrade.0 (subst (λ (d : Database). StandsFor d from.0) db from.1) held.upgrade.1 in
            from.2 ∙ ap upgraded same ∙ sym held.upgrade.2
      ]

-- the shelf told what the files held, and the keeper tells the same
pub shelf_tells : {S K E : Type 0} (F : Type 0) (store : Ghosts S) (image : Image) (conn : Held S) → (HasCleanDisk (state store conn) → FindsIn image (state store conn)) → (tables : K → Base S) (r : Result K E)
    → IfOk r (λ k. WasPrepared store conn (tables k)) → IfOk r (λ k. TellSame (λ t. F × HoldsLedger image t) (λ t. TellsTables store (tables k) t))
shelf_tells F store image conn found tables (Ok k) was = λ s t held told. tells_what_was_held store image conn (tables k) found was s t held.1 told
shelf_tells F store image conn found tables (Err e) was = tt
