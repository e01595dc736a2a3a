-- A listener that desks share, seen as one that handed out peers and then took them back.
use Rattle.std.proofs.Common.{◌≡◌, ℕ, ◌<◌, ⊎_elim, List, length, refl, arith}
use Rattle.std.specs.Prelude.{Bool, true, false}
use Rattle.stock_io.specs.Counts.{Rose}
use Rattle.stock_io.specs.Heard.{Heard}
use Rattle.shared_listener.specs.Steps.{comes, hangs, has_ended}
use Rattle.shared_listener.specs.Sharing.{Shares}
use Rattle.shared_listener.specs.Listening.{Accepts, HangsUp}
use Rattle.shared_listener.specs.declared.step.Step.{Step}

module _ {P : Type 0} where
  -- what it would tell once all came, if none was handed back before
  abbrev pub closed_of : Heard P → Heard P → Heard P
  closed_of old new = record { waiting = new.waiting; hung_up = old.hung_up; accepts = new.accepts; hang_ups = old.hang_ups; faults = new.faults }

module _ {L P : Type 0} (is_fresh : P → Type 0) (desks wanted : ℕ) where
  -- where all came that were wanted, it never failed
  pub Shares-all : (failed : Bool) (log : List (ℕ × Step L P)) (old new : Heard P) → Shares is_fresh desks wanted failed log old new
      → length (comes log) ≡ wanted → new.faults ≡ old.faults
  Shares-all true log old new shares all = let less = shares.few refl in absurd (omega (arith, less, all))
  Shares-all false log old new shares all = shares.no_fault refl

  module _ (failed : Bool) (log : List (ℕ × Step L P)) (old new : Heard P) (shares : Shares is_fresh desks wanted failed log old new) where
    -- where a desk was told the end, and fewer came than were wanted, it failed
    pub Shares-cause : has_ended log ≡ true → length (comes log) < wanted → Rose old.faults new.faults
    Shares-cause has less = ⊎_elim shares.cause (λ (all : length (comes log) ≡ wanted). absurd (omega (arith, all, less))) (shares.ended has)

    pub Accepts-shares : has_ended log ≡ true → Accepts is_fresh wanted old (closed_of old new) (comes log)
    Accepts-shares has = record {
      came = shares.handed_out;
      are_fresh = shares.are_fresh;
      accepts = shares.accepts;
      hung_up = refl;
      hang_ups = refl;
      no_more = shares.no_more;
      never_falls = shares.never_falls;
      all = Shares-all failed log old new shares;
      cause = Shares-cause has;
    }

    pub HangsUp-shares : HangsUp (closed_of old new) new (hangs log)
    HangsUp-shares = record { last = shares.hung_up; hang_ups = shares.hang_ups; waiting = refl; accepts = refl; faults = refl }
