-- A frontier as contracts see it.
use Rattle.std.specs.Prelude.{ℕ, List}
use Rattle.repost_frontier.specs.declared.slot.Slot.{Slot}

-- the movements in posting order, each with what was last found of it, and how many more fit without memory
pub record FrontierState : Type 0 where
  pub slots : List Slot
  pub spare : ℕ
