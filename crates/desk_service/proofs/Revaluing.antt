-- A worker's turns: what pass 0 made is all that the history has of it, so that its build works for whatever the history has become.
use Rattle.std.proofs.Common.{◌≡◌, ℕ, List, [], ◌∷◌, ◌++◌, Result, Ok, Err, refl, sym, ap, ◌∙◌, subst, append-nil}
use Rattle.std.proofs.lemmas.List.{append_cancel_left}
use Rattle.stock_model.specs.declared.deeds.Deed.{Deed}
use Rattle.stock_keeper.specs.declared.fault.KeepFault.{KeepFault}
use Rattle.turn_lock.specs.Histories.{BeginsWith, past, made_by}
use Rattle.turn_lock.specs.declared.view.View.{View}
use Rattle.turn_lock.proofs.Lists.{begins_through, made_through_two, made_in_first}
use Rattle.session_laws.specs.Makers.{with_makers, without_makers}
use Rattle.repost_build.specs.declared.build.Build.{Build}
use Rattle.locked_worker.specs.GatedRuns.{IsTurnWith, AreTurnsWith}
use Rattle.locked_worker.specs.LockedTurns.{IsStop}
use Rattle.repost_worker.specs.Turns.{IsWorkOf, publications}
use Rattle.repost_worker.specs.declared.turn.Turned.{Turned}
use Rattle.repost_worker.specs.declared.turn.Turned.TheVariants.{Valued, Fetched, Published, Idle}
use Rattle.locked_worker.proofs.LockedHistories.{with_makers-begins, past-grown}
use Rattle.locked_worker.proofs.LockedTurns.{work-handed}

-- past the first history the pass made all that has the number 0
pub record Owns (first : List (ℕ × Deed)) (view : View Deed) : Type 0 where
  pub begins : BeginsWith view.seen first
  pub own : made_by 0 (past first view.seen) ≡ view.made

module _ (first : List (ℕ × Deed)) where
  own-stop : (old new : View Deed) (taken added : List Deed) → made_by 0 (with_makers added) ≡ with_makers added
      → Owns first old → IsStop old taken added new → Owns first new
  own-stop old new taken added publishes owns stop =
      let mid = with_makers taken in
      let whole = with_makers (taken ++ added) in
      let from_first = begins_through first old.seen mid owns.begins stop.begins in
      let grown = with_makers-begins taken added in
      let before : made_by 0 (past first mid) ≡ old.made =
      made_in_first 0 first old.seen mid owns.begins stop.begins stop.unpublished ∙ owns.own
      in
      let since : made_by 0 (past mid whole) ≡ with_makers added = ap (made_by 0) (past-grown taken added) ∙ publishes in
      let is : made_by 0 (past first whole) ≡ new.made =
      made_through_two 0 first mid whole from_first grown ∙ (λ i. before i ++ since i) ∙ sym stop.made
      in
      record {
        begins = subst (λ (z : List (ℕ × Deed)). BeginsWith z first) (sym stop.seen) (begins_through first mid whole from_first grown);
        own = subst (λ (z : List (ℕ × Deed)). made_by 0 (past first z) ≡ new.made) (sym stop.seen) is;
      }

  own-turn : (r : Result Turned KeepFault) (old : View Deed) (build : Build) (new : View Deed) (build' : Build)
      → Owns first old → IsTurnWith old build r new build' → Owns first new
  own-turn (Ok (Valued place)) old build new build' owns turn = subst (Owns first) (sym turn.0) owns
  own-turn (Ok (Fetched n)) old build new build' owns turn = own-stop old new turn.taken [] refl owns turn.stop
  own-turn (Ok (Published n)) old build new build' owns turn = own-stop old new turn.taken (publications (Published n)) refl owns turn.stop
  own-turn (Ok Idle) old build new build' owns turn = own-stop old new turn.taken [] refl owns turn.stop
  own-turn (Err fault) old build new build' owns turn = own-stop old new turn.0.taken [] refl owns turn.0.stop

  pub own-turns : (results : List (Result Turned KeepFault)) (old : View Deed) (build : Build) (new : View Deed) (build' : Build)
      → Owns first old → AreTurnsWith results old build new build' → Owns first new
  own-turns [] old build new build' owns run = subst (Owns first) (sym run.0) owns
  own-turns (r ∷ results) old build new build' owns run =
      own-turns results run.1.0 run.1.1 new build' (own-turn r old build run.1.0 run.1.1 owns run.1.2) run.1.3

-- nobody published since
pub work-final : (first : List (ℕ × Deed)) (view : View Deed) (final : List Deed) (build : Build) → Owns first view
    → BeginsWith (with_makers final) view.seen → made_by 0 (past first (with_makers final)) ≡ view.made
    → IsWorkOf (without_makers view.seen) build → IsWorkOf final build
work-final first view final build owns begins made work =
    let since = made_by 0 (past view.seen (with_makers final)) in
    let both : view.made ≡ view.made ++ since =
    sym made ∙ made_through_two 0 first view.seen (with_makers final) owns.begins begins
    ∙ ap (λ (z : List (ℕ × Deed)). z ++ since) owns.own
    in
    let none : since ≡ [] = append_cancel_left view.made since [] (sym both ∙ sym (append-nil view.made)) in
    work-handed view final build (record { begins = begins; unpublished = none }) work
