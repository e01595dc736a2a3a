-- What contracts see of a keeper and a shelf in memory.
use Rattle.std.specs.Prelude.{◌≡◌, ◌⊎◌, ℕ, List, [], ◌∷◌, ◌++◌, Option, Some, None, slice_index_or, Contains}
use Rattle.stock_io.specs.Memory.{Plan, new_plan, after_call, after_failure}
use Rattle.stock_keeper.specs.declared.tables.Tables.{Tables}

-- the tables, what a crash may leave in their place, and which calls fail
pub record PlannedKeeper : Type 0 where
  pub tables : Tables
  pub images : List Tables
  pub plan : Plan

-- a keeper of these tables before the first call, of whose calls these fail
abbrev pub new_keeper : Tables → List ℕ → PlannedKeeper
new_keeper tables failing = record { tables = tables; images = []; plan = new_plan failing }

-- the tables, or one of the images
abbrev pub MayLeave : PlannedKeeper → Tables → Type 0
MayLeave kept t = (t ≡ kept.tables) ⊎ Contains kept.images t

-- what a crash leaves: the image with this index, or else the tables
abbrev pub image_at : PlannedKeeper → ℕ → Tables
image_at kept pick = slice_index_or kept.images pick kept.tables

-- the keeper after a call that made these tables
abbrev pub after_change : PlannedKeeper → Tables → PlannedKeeper
after_change kept tables = record { tables = tables; images = []; plan = after_call kept.plan }

-- the keeper after a call that changed nothing
abbrev pub after_other_call : PlannedKeeper → PlannedKeeper
after_other_call kept = record kept { plan = after_call kept.plan }

-- the keeper after a call that failed, with these images
abbrev pub after_failed_call : PlannedKeeper → List Tables → PlannedKeeper
after_failed_call kept images =
    record { tables = kept.tables; images = images; plan = after_failure kept.plan }

-- the images with one more, or as they were for want of memory
abbrev pub HasTried : Tables → List Tables → List Tables → Type 0
HasTried image old new = (new ≡ old ++ image ∷ []) ⊎ (new ≡ old)

-- a shelf in memory: the keeper, which is none while it is out, the faults of the one that was put back last, the path at which one
-- was asked for last, and which openings fail
pub record PlannedShelf : Type 0 where
  pub kept : Option PlannedKeeper
  pub kept_faults : ℕ
  pub opened : Option (List ℕ)
  pub openings : Plan

-- the shelf with this keeper before the first opening, of which these fail
abbrev pub new_shelf : PlannedKeeper → List ℕ → PlannedShelf
new_shelf kept failing = record { kept = Some kept; kept_faults = 0; opened = None; openings = new_plan failing }

-- the keeper as it is handed out: its tables, and its plan from the beginning
abbrev pub restarted : PlannedKeeper → PlannedKeeper
restarted kept = new_keeper kept.tables kept.plan.failing

-- the shelf after the keeper at this path was handed out, after it wasn't, and once a keeper was put back
abbrev pub after_opening : List ℕ → PlannedShelf → PlannedShelf
after_opening path shelf =
    record { kept = None; kept_faults = shelf.kept_faults; opened = Some path; openings = after_call shelf.openings }

abbrev pub after_failed_opening : List ℕ → PlannedShelf → PlannedShelf
after_failed_opening path shelf = record shelf { opened = Some path; openings = after_failure shelf.openings }

abbrev pub after_put_back : PlannedShelf → PlannedKeeper → PlannedShelf
after_put_back shelf kept =
    record { kept = Some kept; kept_faults = kept.plan.faults; opened = shelf.opened; openings = shelf.openings }

-- the tables are those of the keeper, which is not out
abbrev pub IsOnShelf : Option PlannedKeeper → Tables → Type 0
IsOnShelf None t = ⊥
IsOnShelf (Some kept) t = t ≡ kept.tables

-- the calls that fail of the keeper, if it is not out
abbrev pub shelf_plan : Option PlannedKeeper → Option (List ℕ)
shelf_plan None = None
shelf_plan (Some kept) = Some kept.plan.failing
