-- The ways of desks to a listener that they share: their passes of its lock.
use Rattle.std.specs.Prelude.{ℕ, ◌≡◌, List, length}
use Rattle.atomic_table.specs.Seated.{TableId}
use Rattle.turn_lock.specs.Passes.{PassView}
use Rattle.turn_lock.specs.declared.view.View.{View}
use Rattle.shared_listener.specs.declared.step.Step.{Step}
use Rattle.desk_connections.specs.Ways.{IsWay}
use Rattle.desk_service.specs.Passes.{passes_from}

-- these are ways that no desk has gone yet, numbered on from this number, the first of them last
abbrev pub AreWaysFrom : {L P : Type 0} → TableId → ℕ → List (PassView (Step L P)) → Type 0
AreWaysFrom {L} {P} lock number ways =
    (known : View (Step L P)) × IsWay known × (ways ≡ passes_from lock known number (length ways))
