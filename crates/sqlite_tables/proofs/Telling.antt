-- What a keeper over a connection tells: the steps from what the transactions ensure to what the trait of keepers asks.
use Rattle.std.proofs.Common.{◌≡◌, ◌⊎◌, List, map, IsTrue, sym, ap, ◌∙◌, subst, inl, inr, arith}
use Rattle.sqlite_value.specs.Order.{Row}
use Rattle.sqlite_trees.specs.declared.store.Store.{Ghosts}
use Rattle.sqlite_trees.specs.Tree.{Trees}
use Rattle.sqlite_rules.specs.Lists.{Has}
use Rattle.sqlite_sql.proofs.QueryLemmas.{output_cmp_total}
use Rattle.sqlite.specs.Effect.{Database}
use Rattle.sqlite.specs.State.{HasCleanDisk, Survives}
use Rattle.sqlite.specs.Held.{Held, state}
use Rattle.stock_keeper.specs.declared.changes.SpotWorth.{SpotWorth}
use Rattle.stock_keeper.specs.declared.tables.Tables.{Tables}
use Rattle.sqlite_tables.specs.Lasting.{restood}
use Rattle.sqlite_tables.specs.Reading.{HasRead}
use Rattle.sqlite_tables.specs.Standing.{HoldsWorths, StandsFor, Tells, IsTelling, MayLeave}
use Rattle.sqlite_tables.specs.Turning.{HasMade, HasUndone, IsTried}
use Rattle.sqlite_tables.specs.Whole.{whole}
use Rattle.sqlite_tables.proofs.RowsRead.{worth_same, worths_same, records_same, tables_same}
use Rattle.sqlite_tables.proofs.Sorting.{same_members}
use Rattle.sqlite_tables.proofs.WorthOrder.{worth_output, out_worths, ordered_rise}
use Rattle.sqlite_tables.proofs.Members.{has_map, has_mapped}
use Rattle.sqlite_tables.proofs.TextLaws.{worths_query}

-- rows hold one lot of worths
among : (rows : List Row) (ws vs : List SpotWorth) → HoldsWorths rows ws → HoldsWorths rows vs → (w : SpotWorth) → Has ws w → Has vs w
among rows ws vs one two w h =
    let row = one.worths_are w h in
    let it = two.rows_are row.0 row.1 in
    subst (Has vs) (worth_same it.0 w (sym it.3 ∙ row.2)) it.2

holds_alone : (rows : List Row) (ws vs : List SpotWorth) → HoldsWorths rows ws → HoldsWorths rows vs → ws ≡ vs
holds_alone rows ws vs one two =
    let same = same_members (output_cmp_total worths_query) (map worth_output ws) (map worth_output vs) (ordered_rise ws one.in_order) (ordered_rise vs two.in_order)
    (λ v h. let from = has_mapped worth_output ws v h in subst (Has (map worth_output vs)) (sym from.2) (has_map worth_output vs from.0 (among rows ws vs one two from.0 from.1)))
    (λ v h. let from = has_mapped worth_output vs v h in subst (Has (map worth_output ws)) (sym from.2) (has_map worth_output ws from.0 (among rows vs ws two one from.0 from.1))) in
    worths_same ws vs (sym (out_worths ws) ∙ ap (map (λ o. o.1)) same ∙ out_worths vs)

-- a database stands for one lot of tables
pub stands_alone : (db : Database) (s t : Tables) → StandsFor db s → StandsFor db t → s ≡ t
stands_alone db s t one two =
    let heads = sym one.head ∙ two.head in
    let version : s.version ≡ t.version = cc in
    let covered : s.covered ≡ t.covered = cc in
    tables_same s t version (records_same s.records t.records (sym one.records ∙ two.records)) covered (holds_alone (db.trees 1) s.worths t.worths one.worths two.worths)

module _ {S : Type 0} (store : Ghosts S) (old new : Held S) (telling : IsTelling store old) where
  module _ (May : Tables → Type 0) (change : Tables → Tables) (may : (t : Tables) → Tells store old t → May t) where
    module _ (P : Trees → Type 0) (survives : Survives (state store old) (state store new) P) (made : HasMade store May change old new) where
      -- what is told once a change is made
      pub makes_telling : IsTelling store new
      makes_telling clean is_open =
          let it = made clean in
          let was = telling (omega (arith, survives.clean, clean)) it.was_open in
          (change was.0, record { clean = clean; is_open = is_open; stands = it.stands was.0 was.1.stands (may was.0 was.1); committed = it.committed })

      pub makes_told : (t : Tables) → Tells store new t → (s : Tables) × Tells store old s × (t ≡ change s)
      makes_told t told =
          let it = made told.clean in
          let was = telling (omega (arith, survives.clean, told.clean)) it.was_open in
          (was.0, was.1, stands_alone (state store new).now t (change was.0) told.stands (it.stands was.0 was.1.stands (may was.0 was.1)))

    -- what a crash may leave of a change that was tried
    pub tried_left : Survives (state store old) (state store new) (IsTried May change (state store old)) → (t : Tables) → MayLeave store new t
        → MayLeave store old t ⊎ ((s : Tables) × Tells store old s × (t ≡ change s))
    tried_left survives t left =
        let was_clean : HasCleanDisk (state store old) = omega (arith, survives.clean, left.clean) in
        elim (survives.crash left.clean left.trees left.left) [
          | inl before ↦ inl (record { clean = was_clean; trees = left.trees; left = before; stands = left.stands })
          | inr tried ↦ let was = telling was_clean tried.was_open in
              inr (was.0, was.1, stands_alone _ t (change was.0) left.stands (tried.stands was.0 was.1.stands (may was.0 was.1)))
        ]

  module _ (P : Trees → Type 0) (survives : Survives (state store old) (state store new) P) (undone : HasUndone store old new) where
    -- what is told where nothing was changed
    pub undone_telling : IsTelling store new
    undone_telling clean is_open =
        let it = undone clean is_open in
        let was = telling (omega (arith, survives.clean, clean)) it.was_open in (
          was.0,
          record {
            clean = clean;
            is_open = is_open;
            stands = subst (λ db. StandsFor db was.0) (sym (it.now ∙ was.1.committed)) was.1.stands;
            committed = it.committed ∙ sym it.now;
          },
        )

    pub undone_told : (t : Tables) → Tells store new t → Tells store old t
    undone_told t told =
        let it = undone told.clean told.is_open in
        let was = telling (omega (arith, survives.clean, told.clean)) it.was_open in
        let same = stands_alone (state store old).now was.0 t was.1.stands (subst (λ db. StandsFor db t) (it.now ∙ was.1.committed) told.stands) in
        subst (Tells store old) same was.1

    -- a load copies what is told after it
    pub read_told : (copy : Tables) → HasRead store old new copy → (t : Tables) → Tells store new t → copy ≡ t
    read_told copy read t told = read told.clean t (undone_told t told).stands

-- a crash may leave what it might have left before
pub quiet_left : {S : Type 0} (store : Ghosts S) (old new : Held S) → Survives (state store old) (state store new) (λ _. ⊥) → (t : Tables) → MayLeave store new t → MayLeave store old t
quiet_left store old new survives t left =
    elim (survives.crash left.clean left.trees left.left) [
      | inl before ↦ record { clean = omega (arith, survives.clean, left.clean); trees = left.trees; left = before; stands = left.stands }
      | inr none ↦ absurd none
    ]

-- what a crash may leave is told, while the connection is open
pub left_told : {S : Type 0} (store : Ghosts S) → ((s : S) (db : Trees) → IsTrue (store.view s).is_open → store.recovers s db → db ≡ (store.view s).committed) → (conn : Held S)
    → IsTelling store conn → IsTrue (state store conn).is_open → (t : Tables) → MayLeave store conn t → Tells store conn t
left_told store settled conn telling is_open t left =
    let was = telling left.clean is_open in
    let trees : left.trees ≡ (state store conn).now.trees = settled conn.store left.trees is_open left.left ∙ ap (λ (db : Database). db.trees) was.1.committed in
    let same = stands_alone _ was.0 t (restood (state store conn).now was.0 was.1.stands) (subst (λ (ts : Trees). StandsFor (record { schema = whole; trees = ts }) t) trees left.stands) in
    subst (Tells store conn) same was.1
