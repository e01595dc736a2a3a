-- What a pass made since the lock was made with a log that has the opening alone, is what the whole log has of its number.
use Rattle.std.proofs.Common.{◌≡◌, ℕ, List, [], ◌∷◌, ◌++◌, ap, ◌∙◌}
use Rattle.turn_lock.specs.Histories.{BeginsWith, past, made_by}
use Rattle.turn_lock.proofs.Lists.{begins_is}
use Rattle.shared_listener.specs.Steps.{comes, hangs}
use Rattle.shared_listener.specs.declared.step.Opening.{Opening}
use Rattle.shared_listener.specs.declared.step.Step.{Step}
use Rattle.shared_listener.specs.declared.step.Step.TheVariants.{Opened}
use Rattle.shared_listener.proofs.Since.{comes-made_opened, hangs-made_opened}

module _ {L P : Type 0} (opening : Opening L) (opened log made : List (ℕ × Step L P)) (number : ℕ) (is : opened ≡ (0, Opened opening) ∷ [])
    (begins : BeginsWith log opened) (own : made_by number (past opened log) ≡ made) where
  whole : log ≡ (0, Opened opening) ∷ past opened log
  whole = begins_is log opened begins ∙ ap (λ (z : List (ℕ × Step L P)). z ++ past opened log) is

  pub comes-of_pass : comes (made_by number log) ≡ comes made
  comes-of_pass = ap (λ (z : List (ℕ × Step L P)). comes (made_by number z)) whole
      ∙ comes-made_opened number opening (past opened log) ∙ ap comes own

  pub hangs-of_pass : hangs (made_by number log) ≡ hangs made
  hangs-of_pass = ap (λ (z : List (ℕ × Step L P)). hangs (made_by number z)) whole
      ∙ hangs-made_opened number opening (past opened log) ∙ ap hangs own
