-- Sessions of a desk that may read reports from a mirror.
use Rattle.std.specs.Prelude.{ℕ, ◌≡◌, ◌≤◌, List, map, All, Result}
use Rattle.turn_lock.specs.Histories.{BeginsWith}
use Rattle.turn_lock.specs.declared.view.View.{View}
use Rattle.stock_model.specs.History.{covered_records}
use Rattle.stock_model.specs.declared.answers.Answer.{Answer}
use Rattle.stock_model.specs.declared.deeds.Deed.{Deed}
use Rattle.stock_model.specs.declared.read_faults.ReadFault.{ReadFault}
use Rattle.stock_model.specs.declared.records.Record.{Record}
use Rattle.stock_model.specs.declared.requests.Request.{Request}
use Rattle.session_laws.specs.Sessions.{Session, Served, IsAsked}
use Rattle.mirrored_sessions.specs.Steps.{Step, asked_in, answer_in, turned_in, printed_after, IsReading, AreNoFewer}

-- what a desk knows: of the lock by its pass, of the mirror the records that it saw there last, and how many records its answers
-- said at most to be covered
pub record Known : Type 0 where
  pub view : View Deed
  pub read : List Record
  pub printed : ℕ

-- These steps lead the desk from what it knew at first to what it knows then. Those with a turn at the lock, or without either, are a
-- session as without a mirror.
pub record MirroredSession (desk : ℕ) (old new : Known) (steps : List Step) : Type 0 where
  pub session : Session desk old.view new.view (turned_in steps)
  pub grows : BeginsWith new.read old.read
  pub readings : All (IsReading new.read) steps
  pub no_fewer : AreNoFewer old.printed steps
  pub printed : printed_after old.printed steps ≤ new.printed

-- What a peer may rely on. As without a mirror for all that was not read from it; and each report that was is the replay of exactly the
-- first records that were covered once, which the final history covers too, and covers no less than any answer before it said.
pub record MirroredServed (desk : ℕ) (first final : List Deed) (steps : List Step) : Type 0 where
  pub served : Served desk first final (turned_in steps)
  pub readings : All (IsReading (covered_records final)) steps
  pub no_fewer : AreNoFewer 0 steps

-- The desk answered these bodies so, each in a step of a session. There is each body with its step.
pub record HasMirroredSession (reads : List ℕ → Result Request ReadFault → Type 0) (desk : ℕ) (old new : Known)
    (bodies : List (List ℕ)) (answers : List Answer) : Type 0 where
  pub steps : List (List ℕ × Step)
  pub session : MirroredSession desk old new (map (λ s. s.1) steps)
  pub asked : All (λ s. IsAsked reads s.0 (asked_in s.1)) steps
  pub bodies_are : bodies ≡ map (λ s. s.0) steps
  pub answers_are : answers ≡ map (λ s. answer_in s.1) steps
