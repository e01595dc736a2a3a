-- What desks do, each for one peer after another.
use Rattle.std.specs.Prelude.{ℕ, ◌≡◌, ◌+◌, Bool, true, Option, Some, None, List, [], ◌∷◌, length}
use Rattle.turn_lock.specs.Passes.{PassView}
use Rattle.stock_model.specs.declared.deeds.Deed.{Deed}
use Rattle.stock_model.specs.declared.records.Record.{Record}
use Rattle.desk_server.specs.Exchanging.{LeavesRest}
use Rattle.shared_listener.specs.Steps.{has_ended, NotesCame, NotesEnded}
use Rattle.shared_listener.specs.declared.step.Step.{Step}
use Rattle.desk_connections.specs.Desks.{HasServed}
use Rattle.desk_connections.specs.Visits.{learnt, IsVisit}
use Rattle.desk_connections.specs.Ways.{IsWay, LeavesWay}

module _ {L P : Type 0} where
  -- the first thing that the desk did at the listener: this peer came to it, or it was told that none does
  abbrev pub IsFirst : ℕ → Option P → List (ℕ × Step L P) → Type 0
  IsFirst number (Some peer) made = NotesCame number peer [] made
  IsFirst number None made = NotesEnded number [] made

  -- The desk with this number served each peer that came to it, one after another, with its pass of the book's lock and its reader of the
  -- mirror, and handed it back by its way to the listener. Where it is over, the desk was told that no further one comes.
  pub record IsBegun (left : P → Option (List ℕ)) (taken : P → ℕ) (written : P → Option (List ℕ)) (faults : P → ℕ) (ended : P → Bool)
      (desk : ℕ) (pass pass' : PassView Deed) (read read' : List Record) (way way' : PassView (Step L P)) (is_over : Bool) : Type 0 where
    pub number : pass.view.number ≡ desk
    pub way_number : way.view.number ≡ desk
    pub same_lock : pass'.lock ≡ pass.lock
    pub same_way_lock : way'.lock ≡ way.lock
    pub rest : LeavesRest pass.view pass'.view
    pub way_rest : LeavesWay way.view way'.view
    pub is_way : IsWay way'.view
    pub served : HasServed (IsVisit left taken written faults ended desk) (learnt pass.view read) (learnt pass'.view read') way'.view.made
    pub told : is_over ≡ true → has_ended way'.view.made ≡ true

-- a desk's pass, the records that it read last in the mirror, and its way, before and after
pub record Work (L P : Type 0) : Type 0 where
  pub pass : PassView Deed
  pub pass_then : PassView Deed
  pub read : List Record
  pub read_then : List Record
  pub way : PassView (Step L P)
  pub way_then : PassView (Step L P)

-- desks, numbered on from this number, the last one first, did this
abbrev pub AreAttended : {L P : Type 0} → (ℕ → Work L P → Type 0) → ℕ → List (Work L P) → Type 0
AreAttended attends number [] = Unit {0}
AreAttended attends number (work ∷ works) =
    attends (number + length works) work × AreAttended attends number works
