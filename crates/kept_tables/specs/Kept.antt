-- What a keeper of a history tells, and what a crash may leave of it.
use Rattle.std.specs.Prelude.{◌≡◌, ◌⊎◌, List, [], ◌∷◌, ◌++◌, Contains}
use Rattle.stock_model.specs.History.{IsLegal}
use Rattle.stock_model.specs.declared.deeds.Deed.{Deed}
use Rattle.stock_keeper.specs.declared.tables.Tables.{Tables}
use Rattle.kept_tables.specs.TablesOf.{tables_of}

-- the tables of the history with one of the events that were tried
pub record IsTried (history tried : List Deed) (t : Tables) : Type 0 where
  pub event : Deed
  pub refused : Contains tried event
  pub legal : IsLegal (history ++ event ∷ [])
  pub is : t ≡ tables_of (history ++ event ∷ [])

-- the tables that are told are those of the history, and a crash leaves these, or those with one of the events for which a call of
-- the keeper was refused since it last did what it was asked for
pub record IsKept (tells may_leave : Tables → Type 0) (history tried : List Deed) : Type 0 where
  pub told : (t : Tables) → tells t → t ≡ tables_of history
  pub left : (t : Tables) → may_leave t → (t ≡ tables_of history) ⊎ IsTried history tried t
