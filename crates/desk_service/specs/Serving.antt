-- Desks that begin one after another, each as its first peer comes.
use Rattle.std.specs.Prelude.{ℕ, ◌≡◌, List, map}
use Rattle.turn_lock.specs.Passes.{PassView}
use Rattle.stock_model.specs.declared.deeds.Deed.{Deed}
use Rattle.stock_model.specs.declared.records.Record.{Record}
use Rattle.shared_listener.specs.declared.step.Step.{Step}
use Rattle.desk_service.specs.Desks.{Work, AreAttended}

-- There is a desk for each pass, reader and way, numbered on from this number, the first of them last. Each served peers with its own.
pub record Serving {L P : Type 0} (attends : ℕ → Work L P → Type 0) (number : ℕ) (passes passes' : List (PassView Deed))
    (reads reads' : List (List Record)) (ways ways' : List (PassView (Step L P))) : Type 0 where
  pub works : List (Work L P)
  pub attended : AreAttended attends number works
  pub before : passes ≡ map (λ work. work.pass) works
  pub after : passes' ≡ map (λ work. work.pass_then) works
  pub reads_before : reads ≡ map (λ work. work.read) works
  pub reads_after : reads' ≡ map (λ work. work.read_then) works
  pub ways_before : ways ≡ map (λ work. work.way) works
  pub ways_after : ways' ≡ map (λ work. work.way_then) works
