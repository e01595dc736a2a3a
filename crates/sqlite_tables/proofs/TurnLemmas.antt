-- A statement that was run in a transaction has turned the tables as its text's law says.
use Rattle.std.proofs.Common.{ℕ, List, Ok, Err, Result, IsTrue, OnOk, refl, ◌∙◌, arith}
use Rattle.std.specs.Prelude.{⊤}
use Rattle.sqlite_value.specs.Order.{Row}
use Rattle.sqlite_trees.specs.declared.store.Store.{Ghosts}
use Rattle.sqlite.specs.State.{HasCleanDisk, Survives, Executes, ExecutesInside}
use Rattle.sqlite.specs.Held.{Held, state}
use Rattle.sqlite.specs.Effect.{Database}
use Rattle.sqlite.specs.declared.error.Error.{Error}
use Rattle.stock_keeper.specs.declared.tables.Tables.{Tables}
use Rattle.sqlite_tables.specs.Making.{HasLed}
use Rattle.sqlite_tables.specs.Standing.{StandsFor}
use Rattle.sqlite_tables.specs.Turning.{HasTurned}

-- a statement of this text was run, with these parameters
abbrev pub HasRun : {S : Type 0} → Ghosts S → List ℕ → Row → Held S → Held S → Result ℕ Error → Type 0
HasRun store text params old new result =
    HasCleanDisk (state store new) → IsTrue old.in_transaction → ExecutesInside 0 text params (state store old) (state store new) result

pub has_turned : {S : Type 0} (store : Ghosts S) (May : Tables → Type 0) (change : Tables → Tables) (text : List ℕ) (params : Row) (old new : Held S) (result : Result ℕ Error)
    → HasRun store text params old new result
    → ((count : ℕ) → Executes text params (state store old) (state store new) (Ok count) → (t : Tables) → StandsFor (state store old).now t → May t → StandsFor (state store new).now (change t))
    → OnOk result (HasTurned store May change old new)
has_turned store May change text params old new (Err e) runs law = tt
has_turned store May change text params old new (Ok count) runs law = λ clean inside.
    let ran = runs clean inside in
    record { shows = ran.1; stands = law count ran.0 }

-- the same of one that makes a table
pub has_led : {S : Type 0} (store : Ghosts S) (From To : Database → Type 0) (text : List ℕ) (params : Row) (old new : Held S) (result : Result ℕ Error)
    → HasRun store text params old new result
    → ((count : ℕ) → Executes text params (state store old) (state store new) (Ok count) → From (state store old).now → To (state store new).now)
    → OnOk result (HasLed store From To old new)
has_led store From To text params old new (Err e) runs law = tt
has_led store From To text params old new (Ok count) runs law = λ clean inside.
    let ran = runs clean inside in
    record { shows = ran.1; leads = law count ran.0 }

-- what only read, and then a statement, turn the tables as the statement does
pub turned_then : {S : Type 0} (store : Ghosts S) (change : Tables → Tables) (old mid new : Held S) → HasTurned store (λ _. ⊤) (λ t. t) old mid
    → Survives (state store mid) (state store new) (λ _. ⊥) → HasTurned store (λ _. ⊤) change mid new → HasTurned store (λ _. ⊤) change old new
turned_then store change old mid new reads survives writes clean inside =
    let first = reads (omega (arith, survives.clean, clean)) inside in
    let next = writes clean first.shows.mode in
    record {
      shows = record {
        was_open = first.shows.was_open;
        is_open = next.shows.is_open;
        now_is = refl;
        committed_is = next.shows.committed_is ∙ first.shows.committed_is;
        mode = next.shows.mode;
      };
      stands = λ t stands _. next.stands t (first.stands t stands tt) tt;
    }
