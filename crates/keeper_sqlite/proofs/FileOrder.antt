-- The rows of each table stand by rowid in files that were opened.
use Rattle.std.proofs.Common.{◌≡◌, ℕ, true, [], ◌∷◌, List, sym, ap, subst, inl, inr}
use Rattle.std.proofs.Math.Logic.{∥∥₁_elim}
use Rattle.std.specs.List.{AllByRecursion, AllZip}
use Rattle.sqlite_trees.specs.declared.store.Store.{Ghosts}
use Rattle.sqlite_trees.specs.declared.store.Shape.TheVariants as shape
use Rattle.sqlite_trees.specs.Objects.{catalog_tree}
use Rattle.sqlite_trees.specs.Props.{IsOrdered-prop}
use Rattle.sqlite_trees.specs.Tree.{Trees}
use Rattle.sqlite_trees.specs.View.{IsOrdered, IsShaped}
use Rattle.sqlite_trees.proofs.ListLemmas.{all_weaker}
use Rattle.sqlite_pages.specs.PageMap.{PageMap}
use Rattle.sqlite_pool.specs.File.{in_use, version_in}
use Rattle.sqlite_schema.specs.declared.schema.Schema.{Schema}
use Rattle.sqlite_schema.specs.declared.schema.Table.{Table}
use Rattle.sqlite_catalog.specs.Listing.{IsSound, IsTableRow, AreListed}
use Rattle.sqlite_catalog.proofs.LayoutLemmas.{laid_out}
use Rattle.sqlite_store.specs.declared.catalog.Wanted.{Wanted}
use Rattle.sqlite_store.specs.Listed.{catalog_rows, is_listed}
use Rattle.sqlite_store.specs.Listing.{IsOurs, file_trees, all_shapes}
use Rattle.sqlite_store.proofs.ListingLemmas.{all_ordered, listing_shaped}
use Rattle.sqlite_wal.specs.Recovery.{Image}
use Rattle.sqlite.specs.Effect.{Database}
use Rattle.sqlite.specs.Files.{AreFoundIn}
use Rattle.sqlite.specs.Held.{Held, state, IsNew}
use Rattle.sqlite.specs.Start.{FindsIn}
use Rattle.sqlite.specs.State.{HasCleanDisk, IsLive, Opens}
use Rattle.sqlite_tables.specs.Sorted.{IsRising, IsUnchanged, KnowsOrder}

abbrev AreRising : Schema → Trees → Type 0
AreRising schema db = AllByRecursion (λ (t : Table). IsRising (db t.tree)) schema.tables

-- what the pages of a file read as, under a schema that they list
read_rises : (size : ℕ) (wanted : List Wanted) (pages : PageMap) (schema : Schema) → IsOrdered (all_shapes wanted) (file_trees size wanted pages)
    → IsSound schema (file_trees size wanted pages) → AreRising schema (file_trees size wanted pages)
read_rises size wanted pages schema ordered sound =
    let listed = subst (λ rows. AreListed rows schema) (catalog_rows size wanted (in_use size pages)) sound.lists.listed in
    let laid = laid_out (is_listed wanted) (listing_shaped 0 wanted) listed in
    all_weaker (λ (t : Table). all_shapes wanted t.tree ≡ shape.Table) (λ (t : Table). IsRising (file_trees size wanted pages t.tree))
    (λ t is. subst (λ s. IsShaped s (file_trees size wanted pages t.tree)) is (ordered t.tree)) schema.tables laid.tables

-- a database that lists nothing has no table
none_rise : (schema : Schema) (db : Trees) → db catalog_tree ≡ [] → IsSound schema db → AreRising schema db
none_rise schema db empty sound = go schema.tables (subst (λ rows. AreListed rows schema) empty sound.lists.listed).tables
  where
    go : (tables : List Table) → AllZip IsTableRow [] tables → AllByRecursion (λ (t : Table). IsRising (db t.tree)) tables
    go [] zipped = tt
    go (t ∷ tables) zipped = absurd zipped

found_rises : (image : Image) (schema : Schema) (db : Trees) → AreFoundIn image db → IsSound schema db → AreRising schema db
found_rises image schema db (inl (size, pages, wanted, found, ours, reads)) sound =
    let ordered = ∥∥₁_elim ours (IsOrdered-prop _ _) (λ (it : IsOurs size true wanted pages). all_ordered it.file.db (version_in pages)) in
    subst (AreRising schema) (sym reads) (read_rises size wanted pages schema ordered (subst (IsSound schema) reads sound))
found_rises image schema db (inr nothing) sound = none_rise schema db nothing.1.1 sound

module _ {S : Type 0} (store : Ghosts S) (conn : Held S) (opened : HasCleanDisk (state store conn) → Opens (state store conn) × IsLive (state store conn)) where
  pub opened_unchanged : IsUnchanged store conn
  opened_unchanged sure = let it = (opened sure).0 in (it.is_open, it.clean)

  pub opened_order : (image : Image) → (HasCleanDisk (state store conn) → FindsIn image (state store conn)) → IsNew conn → KnowsOrder store conn
  opened_order image found fresh = record {
    settled = fresh.autocommit;
    sorted = λ sure is_open.
        let sound = ((opened sure).1 is_open).0 in
        let trees = ap (λ (d : Database). d.trees) (sym (opened sure).0.clean) in
        record { sound = sound; rises = found_rises image conn.schema (state store conn).now.trees (subst (AreFoundIn image) trees (found sure).reads) sound };
  }
