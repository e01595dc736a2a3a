-- A book of all stored records is opened, or a fault is found in what is stored.
use Rattle.std.proofs.Common.{◌≡◌, ◌⊎◌, ℕ, pos, List, [], length, take, inl, inr, refl, sym, ap, ◌∙◌, subst, arith}
use Rattle.std.proofs.lemmas.List.{take_all}
use Rattle.stock_nums.specs.declared.entry.Row.{Row}
use Rattle.stock_model.specs.History.{records, accepted, covered, covered_records}
use Rattle.stock_model.specs.Replay.{replay}
use Rattle.stock_model.specs.declared.deeds.Deed.{Deed}
use Rattle.stock_keeper.specs.Changed.{current_version}
use Rattle.stock_keeper.specs.Keeping.{Within}
use Rattle.stock_keeper.specs.declared.changes.SpotWorth.{SpotWorth}
use Rattle.stock_keeper.specs.declared.tables.Tables.{Tables}
use Rattle.kept_tables.specs.Differences.{worth_at, IsFirstDifference}
use Rattle.kept_tables.specs.Kept.{IsKept}
use Rattle.kept_tables.specs.Openings.{HasBadHead, AreStored, IsFaultOf, told_records}
use Rattle.kept_tables.specs.TablesOf.{worths_of, tables_of}
use Rattle.kept_tables.specs.declared.differing.Difference.{Difference}
use Rattle.kept_tables.specs.declared.open_fault.OpenFault.{OpenFault}
use Rattle.kept_tables.specs.declared.open_fault.OpenFault.TheVariants.{KeeperFailed, BadHead, BadStored, StoredDiffers, NoMemory}
use Rattle.repost_worker.specs.Openings.{IsLoaded, IsUnposted, IsFoundIn}

-- tables with the same in each field are the same
same_tables : (a b : Tables) → a.version ≡ b.version → a.records ≡ b.records → a.covered ≡ b.covered → a.worths ≡ b.worths → a ≡ b
same_tables a b versions rows counts worths =
    λ i. record { version = versions i; records = rows i; covered = counts i; worths = worths i }

module _ (t : Tables) (history : List Deed) (part : ℕ) (count : t.covered ≡ pos part) (stored : AreStored (records history) t)
    (all : accepted history ≡ length t.records) (many : covered history ≡ part) (worths : List SpotWorth)
    (rows : List Row) (are : rows ≡ replay (covered_records history)) (kept : worths ≡ t.worths) where
  -- the tables are those of the history
  pub opened-tables : t.version ≡ current_version → worths ≡ worths_of rows → tables_of history ≡ t
  opened-tables version same =
      let whole : take (length (records history)) t.records ≡ t.records =
      take_all (length (records history)) t.records (omega (arith, all)) in
      same_tables (tables_of history) t (sym version) (stored.1 ∙ whole) (ap pos many ∙ sym count)
      (sym (ap worths_of are) ∙ sym same ∙ kept)

  -- their worths are not those of the replay
  pub found-worths : (told : OpenFault) → (HasBadHead t → ⊥)
      → (told ≡ NoMemory) ⊎ ((d : Difference) × (told ≡ StoredDiffers d) × IsFirstDifference worths (worths_of rows) d.spot
      × (d.stored ≡ worth_at worths d.spot) × (d.replayed ≡ worth_at (worths_of rows) d.spot))
      → IsFoundIn t told
  found-worths told head (inl wanting) = subst (IsFoundIn t) (sym wanting) tt
  found-worths told head (inr (d, is, first, before, after)) =
      let same : rows ≡ replay (take part (records history)) =
      are ∙ ap (λ (n : ℕ). replay (take n (records history))) many in
      let first' : IsFirstDifference t.worths (worths_of (replay (take part (records history)))) d.spot =
      subst (λ (rs : List Row). IsFirstDifference t.worths (worths_of rs) d.spot) same
      (subst (λ (ws : List SpotWorth). IsFirstDifference ws (worths_of rows) d.spot) kept first) in
      subst (IsFoundIn t) (sym is) (
        head,
        (
          records history,
          (stored, all),
          part,
          count,
          first',
          before ∙ ap (λ (ws : List SpotWorth). worth_at ws d.spot) kept,
          after ∙ ap (λ (rs : List Row). worth_at (worths_of rs) d.spot) same,
        ),
      )

-- the head is bad
pub found-head : (t : Tables) (told : OpenFault) → HasBadHead t → told ≡ BadHead t.version t.covered (told_records t) → IsFoundIn t told
found-head t told bad is = subst (IsFoundIn t) (sym is) (bad, refl, refl, refl)

-- a record is bad, and the head is not
pub found-record : (t : Tables) (told : OpenFault) → (HasBadHead t → ⊥) → IsUnposted t told → IsFoundIn t told
found-record t told head (inl wanting) = subst (IsFoundIn t) (sym wanting) tt
found-record t told head (inr bad) = subst (IsFoundIn t) (sym bad.1) (head, bad.2)

-- what is found in tables is their fault
pub fault-found : (t : Tables) (told : OpenFault) → IsFoundIn t told → IsFaultOf t told
fault-found t KeeperFailed found = absurd found
fault-found t (BadHead version n total) found = found
fault-found t (BadStored n) found = found
fault-found t (StoredDiffers d) found = found
fault-found t NoMemory found = tt

-- a keeper of which a crash leaves just its tables is one of the history that they are of
pub kept-opened : (tells may_leave tells' may_leave' : Tables → Type 0) (history : List Deed) (copy : Tables)
    → tables_of history ≡ copy → ((t : Tables) → tells' t → copy ≡ t) → ((t : Tables) → tells t → may_leave' t → copy ≡ t)
    → Within may_leave may_leave' → Within tells may_leave → IsKept tells' may_leave' history []
kept-opened tells may_leave tells' may_leave' history copy opened copied left crash settled =
    record {
      told = λ t now. sym (opened ∙ copied t now);
      left = λ t may. inl (sym (opened ∙ left t (settled t (crash t may)) may));
    }

-- and it is one that was loaded
pub loaded-opened : {Kt : Type 0} (tells may_leave : Kt → Tables → Type 0) (before loaded : Kt) (history history' : List Deed) (copy : Tables)
    → history' ≡ history → tables_of history ≡ copy → ((t : Tables) → tells loaded t → copy ≡ t)
    → ((t : Tables) → tells before t → may_leave loaded t → copy ≡ t) → Within (tells before) (tells loaded)
    → IsLoaded tells may_leave before history'
loaded-opened tells may_leave before loaded history history' copy same opened copied left tables_kept =
    subst (IsLoaded tells may_leave before) (sym same) (record {
      loaded = loaded;
      tables_kept = tables_kept;
      tables = λ t now. sym (opened ∙ copied t now);
      left = λ t told may. sym (opened ∙ left t told may);
    })
