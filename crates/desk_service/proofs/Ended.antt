-- What the end of a lock tells, whose passes are numbered from 1 on.
use Rattle.std.proofs.Common.{◌≡◌, ℕ, ◌+◌, ◌<◌, zero, suc, ◌≤◌, List, [], refl, ◌∙◌, arith}
use Rattle.std.specs.Prelude.{All}
use Rattle.std.proofs.lemmas.List.Elements.{All-nil}
use Rattle.atomic_table.specs.Seated.{TableId}
use Rattle.turn_lock.specs.Histories.{past, made_by}
use Rattle.turn_lock.specs.Passes.{PassView}
use Rattle.turn_lock.specs.declared.view.View.{View}
use Rattle.desk_service.specs.Endings.{IsClosed}
use Rattle.desk_service.specs.Passes.{fresh, passes_from}
use Rattle.desk_service.specs.Service.{total_to}
use Rattle.desk_service.proofs.Gathering.{made_in, made_in-none, count_in, counts-all, numbers, IsDown, no_later, joined_all-faults, made_through-zero, made_through-other}
use Rattle.desk_service.proofs.SplitOff.{All-last}

-- a pass that has not begun: it has seen what pass 0 had, and made nothing
pub record IsNew {E : Type 0} (lock : TableId) (seen : List (ℕ × E)) (pass : PassView E) : Type 0 where
  pub of_lock : pass.lock ≡ lock
  pub saw : pass.view.seen ≡ seen
  pub nothing : pass.view.made ≡ []

module _ {E : Type 0} where
  pub are_new : (lock : TableId) (known : View E) (number count : ℕ) → All (IsNew lock known.seen) (passes_from lock known number count)
  are_new lock known number zero = All-nil (IsNew lock known.seen)
  are_new lock known number (suc count) =
      All-last (IsNew lock known.seen) (passes_from lock known (number + 1) count) (record { lock = lock; view = fresh known number })
      (are_new lock known (number + 1) count) (record { of_lock = refl; saw = refl; nothing = refl })

  -- these passes were joined into pass 0, into which none was joined before
  module _ (view : View E) (passes : List (PassView E)) (final : List (ℕ × E)) (faults count : ℕ) (closed : IsClosed view passes final faults)
      (is_zero : view.number ≡ 0) (none_joined : view.joined ≡ []) (down : IsDown 1 count (numbers passes)) where
    pub made_zero : made_by 0 (past view.first final) ≡ view.made
    made_zero = closed.made 0 ∙ made_through-zero view passes is_zero none_joined

    pub made_other : (k : ℕ) → 0 < k → made_by k (past view.first final) ≡ made_in k passes
    made_other k some = closed.made k ∙ made_through-other view passes is_zero none_joined k some

    pub made_later : (k : ℕ) → count < k → made_by k (past view.first final) ≡ []
    made_later k later = made_other k (omega (arith, later)) ∙ made_in-none k passes (no_later 1 count k passes down (omega (arith, later)))

    -- the faults that were counted in the turns of passes are among all
    pub counted : view.first_faults + total_to count (λ k. count_in k passes) ≤ faults
    counted = omega (arith, closed.rose, joined_all-faults view passes, counts-all count passes down)
