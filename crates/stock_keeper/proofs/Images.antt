-- What a crash may leave of a keeper in memory, by index.
use Rattle.std.proofs.Common.{◌≡◌, ℕ, ◌≤◌, length, inl, inr, sym, ◌∙◌, arith}
use Rattle.std.proofs.lemmas.Bool.{cases_lt}
use Rattle.std.proofs.lemmas.List.{get_or_default, get_or_past}
use Rattle.stock_keeper.specs.Memory.{PlannedKeeper, MayLeave, image_at}
use Rattle.stock_keeper.specs.declared.tables.Tables.{Tables}

-- what each index leaves may be left
pub MayLeave-image_at : (kept : PlannedKeeper) (pick : ℕ) → MayLeave kept (image_at kept pick)
MayLeave-image_at kept pick =
    elim (cases_lt pick (length kept.images)) [
      | inl within ↦ inr (pick, within, get_or_default kept.images pick (image_at kept pick) kept.tables within)
      | inr past ↦ inl (get_or_past kept.images pick kept.tables past)
    ]

-- what may be left is so for some index
pub index_of : (kept : PlannedKeeper) (t : Tables) → MayLeave kept t → (pick : ℕ) × (pick ≤ length kept.images) × (image_at kept pick ≡ t)
index_of kept t may =
    elim may [
      | inl told ↦ (length kept.images, omega arith, get_or_past kept.images (length kept.images) kept.tables (omega arith) ∙ sym told)
      | inr among ↦ (among.0, omega (arith, among.1), get_or_default kept.images among.0 kept.tables t among.1 ∙ among.2)
    ]
