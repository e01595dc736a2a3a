-- Which rows a table has after an edit.
use Rattle.std.proofs.Common.{◌≡◌, ◌⊎◌, ℤ, true, false, not, List, [], ◌∷◌, refl, ap, inl, inr}
use Rattle.std.proofs.lemmas.Bool.{not-true}
use Rattle.sqlite_value.specs.Order.{Row}
use Rattle.sqlite_trees.specs.Tree.{has_rowid, put_row, without_rowid, IsTable}
use Rattle.sqlite_trees.proofs.ListLemmas.{ascending-filter}
use Rattle.sqlite_trees.proofs.TreeLemmas.{IsTable-put_row}
use Rattle.sqlite_rules.specs.Lists.{Has}
use Rattle.sqlite_rules.specs.Edit.{put_all, without_all, are_fresh}
use Rattle.sqlite_rules.proofs.ListLemmas.{has_filtered, has_kept}
use Rattle.sqlite_rules.proofs.TableLemmas.{put_all_has, put_all_keeps, put_all_adds, without_all_has}

-- the rows of a table with some rowids taken out and some rows put in
abbrev pub after : List Row → List ℤ → List Row → List Row
after rows gone news = put_all (without_all rows gone) news

IsTable-put_all : (news rows : List Row) → IsTable rows → IsTable (put_all rows news)
IsTable-put_all [] rows table = table
IsTable-put_all (n ∷ news) rows table = IsTable-put_all news (put_row n rows) (IsTable-put_row n rows table)

IsTable-without_all : (ids : List ℤ) (rows : List Row) → IsTable rows → IsTable (without_all rows ids)
IsTable-without_all [] rows table = table
IsTable-without_all (id ∷ ids) rows table = IsTable-without_all ids (without_rowid id rows) (ascending-filter _ (λ r. not (has_rowid id r)) rows table)

pub IsTable-after : (rows : List Row) (gone : List ℤ) (news : List Row) → IsTable rows → IsTable (after rows gone news)
IsTable-after rows gone news table = IsTable-put_all news (without_all rows gone) (IsTable-without_all gone rows table)

drops : (ids : List ℤ) (rows : List Row) (x : Row) (id : ℤ) → Has ids id → Has (without_all rows ids) x → has_rowid id x ≡ false
drops [] rows x id none h = absurd none
drops (i ∷ ids) rows x id (inl same) h =
    rw same (not-true _ (has_filtered (λ r. not (has_rowid i r)) rows x (without_all_has ids (without_rowid i rows) x h)).1)
drops (i ∷ ids) rows x id (inr later) h = drops ids (without_rowid i rows) x id later h

keeps : (ids : List ℤ) (rows : List Row) (x : Row) → ((id : ℤ) → Has ids id → has_rowid id x ≡ false) → Has rows x → Has (without_all rows ids) x
keeps [] rows x other h = h
keeps (i ∷ ids) rows x other h =
    keeps ids (without_rowid i rows) x (λ id there. other id (inr there)) (has_kept (λ r. not (has_rowid i r)) rows x h (ap not (other i (inl refl))))

-- a row that is there then is new, or was there and is not gone
pub after_has : (rows : List Row) (gone : List ℤ) (news : List Row) (x : Row) → Has (after rows gone news) x → Has news x ⊎ (Has rows x × ((id : ℤ) → Has gone id → has_rowid id x ≡ false))
after_has rows gone news x h = elim (put_all_has news (without_all rows gone) x h) [
  | inl new ↦ inl new
  | inr left ↦ inr (without_all_has gone rows x left, λ id there. drops gone rows x id there left)
]

pub after_adds : (rows : List Row) (gone : List ℤ) (news : List Row) (x : Row) → are_fresh (without_all rows gone) news ≡ true → Has news x → Has (after rows gone news) x
after_adds rows gone news x fresh h = put_all_adds news (without_all rows gone) x fresh h

pub after_keeps : (rows : List Row) (gone : List ℤ) (news : List Row) (x : Row) → are_fresh (without_all rows gone) news ≡ true → ((id : ℤ) → Has gone id → has_rowid id x ≡ false)
    → Has rows x → Has (after rows gone news) x
after_keeps rows gone news x fresh other h = put_all_keeps news (without_all rows gone) x fresh (keeps gone rows x other h)
