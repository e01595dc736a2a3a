-- What is known of a connection that was made anew over the store of another.
use Rattle.std.proofs.Common.{◌≡◌, ◌≤◌, le_refl, Bool, true, false, IsTrue, refl, sym, ap, ◌∙◌, subst, true≢false, arith}
use Rattle.std.specs.List.{AllByRecursion}
use Rattle.sqlite_trees.specs.declared.store.Store.{Ghosts}
use Rattle.sqlite_trees.specs.declared.store.Shape.TheVariants as shape
use Rattle.sqlite_trees.specs.Objects.{catalog_tree, IsListed}
use Rattle.sqlite_trees.specs.Tree.{Trees}
use Rattle.sqlite_trees.specs.View.{View, doubt, IsClean, IsOrdered, IsQuiet, IsShaped, IsRolledBack as IsUndone}
use Rattle.sqlite_trees.proofs.ListLemmas.{all_weaker}
use Rattle.sqlite_schema.specs.declared.schema.Schema.{Schema}
use Rattle.sqlite_schema.specs.declared.schema.Table.{Table}
use Rattle.sqlite_catalog.specs.Listing.{IsSound}
use Rattle.sqlite_catalog.proofs.LayoutLemmas.{laid_out, objects_rise}
use Rattle.sqlite.specs.Effect.{Database}
use Rattle.sqlite.specs.State.{HasCleanDisk, IsLive, Opens}
use Rattle.sqlite.specs.Held.{Held, state, IsNew}
use Rattle.sqlite_tables.specs.Sorted.{IsRising, KnowsOrder, IsUnchanged, IsRenewed}

-- the tables of a store that is not broken stand by rowid
sorted_trees : (v : View) (schema : Schema) → IsListed (v.trees catalog_tree) v.shape v.reals → IsOrdered v.shape v.trees → IsSound schema v.trees
    → AllByRecursion (λ (t : Table). IsRising (v.trees t.tree)) schema.tables
sorted_trees v schema listed ordered sound =
    let laid = laid_out listed (objects_rise v listed ordered) sound.lists.listed in
    all_weaker (λ (t : Table). v.shape t.tree ≡ shape.Table) (λ (t : Table). IsRising (v.trees t.tree)) (λ t is. subst (λ s. IsShaped s (v.trees t.tree)) is (ordered t.tree)) schema.tables laid.tables

open_from : (is_open is_broken : Bool) → (is_open ≡ false → IsTrue is_broken) → is_broken ≡ false → IsTrue is_open
open_from true is_broken shut unbroken = refl
open_from false is_broken shut unbroken = absurd (true≢false (sym (shut refl) ∙ unbroken))

module _ {S : Type 0} (store : Ghosts S) (old new : Held S) (it : S) (unbroken : IsClean (store.view it) → (store.view it).is_broken ≡ false)
    (clean : doubt (store.view it).is_clean ≤ doubt (state store new).is_clean)
    (opens : HasCleanDisk (state store new) → Opens (state store new) × IsLive (state store new))
    (trees : HasCleanDisk (state store new) → (state store new).now.trees ≡ (store.view it).trees) where
  pub renewed_order : ((s : S) → (store.view s).is_broken ≡ false → IsOrdered (store.view s).shape (store.view s).trees)
      → ((s : S) → (store.view s).is_broken ≡ false → IsListed ((store.view s).trees catalog_tree) (store.view s).shape (store.view s).reals) → IsNew new → KnowsOrder store new
  renewed_order ordered listed fresh = record {
    settled = fresh.autocommit;
    sorted = λ sure is_open.
        let whole = unbroken (omega (arith, clean, sure)) in
        let sound = ((opens sure).1 is_open).0 in
        let same = trees sure in
        record {
          sound = sound;
          rises = subst (λ (db : Trees). AllByRecursion (λ (t : Table). IsRising (db t.tree)) new.schema.tables) (sym same)
              (sorted_trees (store.view it) new.schema (listed it whole) (ordered it whole) (subst (IsSound new.schema) same sound));
        };
  }

  pub renewed_is : IsUndone (store.view old.store) (store.view it) → IsQuiet store.view store.faults store.recovers store.is_shielded old.store it
      → (store.is_shielded it → (state store new).IsShielded) → ((s : S) → (store.view s).is_open ≡ false → IsTrue (store.view s).is_broken)
      → ((s : S) (db : Trees) → IsTrue (store.view s).is_open → store.recovers s db → db ≡ (store.view s).committed)
      → ((s : S) → IsTrue (store.view s).is_open → store.recovers s (store.view s).committed) → IsRenewed store old new
  renewed_is undone quiet shield shut settled stays = record {
    clean = omega (arith, quiet.clean, clean);
    shield = λ s. shield (quiet.shield s);
    renews = λ sure.
        let it_clean : IsClean (store.view it) = omega (arith, clean, sure) in
        let is_open = open_from (store.view it).is_open (store.view it).is_broken (shut it) (unbroken it_clean) in
        let was_open = (undone.kept it_clean).was_open is_open in
        let now = opens sure in
        let same : (state store new).now.trees ≡ (state store old).committed.trees = trees sure ∙ (undone.undone is_open).0 in
        record {
          was_open = was_open;
          is_open = now.0.is_open;
          trees = same;
          committed = sym now.0.clean;
          crash = λ db left. subst (store.recovers old.store) (sym (settled new.store db now.0.is_open left ∙ ap (λ (d : Database). d.trees) (sym now.0.clean) ∙ same)) (stays old.store was_open);
        };
  }

-- ---- what stands in place of what stood in place of another

pub renewed_twice : {S : Type 0} (store : Ghosts S) (old mid new : Held S) → IsRenewed store old mid → IsRenewed store mid new → IsRenewed store old new
renewed_twice store old mid new first then = record {
  clean = omega (arith, first.clean, then.clean);
  shield = λ s. then.shield (first.shield s);
  renews = λ sure.
      let mid_clean : HasCleanDisk (state store mid) = omega (arith, then.clean, sure) in
      let was = first.renews mid_clean in
      let is = then.renews sure in
      record {
        was_open = was.was_open;
        is_open = is.is_open;
        trees = is.trees ∙ ap (λ (d : Database). d.trees) was.committed ∙ was.trees;
        committed = is.committed;
        crash = λ db left. was.crash db (is.crash db left);
      };
}

-- a connection with nothing changed stands in its own place
pub renewed_itself : {S : Type 0} (store : Ghosts S) (conn : Held S) → IsUnchanged store conn → IsRenewed store conn conn
renewed_itself store conn unchanged = record {
  clean = le_refl _;
  shield = λ s. s;
  renews = λ sure. let it = unchanged sure in
      record { was_open = it.0; is_open = it.0; trees = ap (λ (d : Database). d.trees) it.1; committed = sym it.1; crash = λ db left. left };
}

pub renewed_unchanged : {S : Type 0} (store : Ghosts S) (old new : Held S) → IsRenewed store old new → IsUnchanged store new
renewed_unchanged store old new it sure = let is = it.renews sure in (is.is_open, sym is.committed)
