-- What a turn is that ends after its stop.
use Rattle.std.proofs.Common.{◌≡◌, ℕ, ◌+◌, false, List, [], ◌∷◌, ◌++◌, length, take, drop, refl, sym, ap, ◌∙◌, subst, append-nil, arith}
use Rattle.stock_nums.specs.declared.numbers.RecordNo.{RecordNo}
use Rattle.stock_nums.specs.declared.entry.Row.{Row}
use Rattle.stock_nums.specs.declared.place.Place.{Place}
use Rattle.stock_model.specs.History.{records}
use Rattle.stock_model.specs.PostingOrder.{posting_line}
use Rattle.stock_model.specs.declared.deeds.Deed.{Deed}
use Rattle.stock_model.specs.declared.deeds.Deed.TheVariants as deed
use Rattle.stock_model.specs.declared.records.Record.{Record}
use Rattle.stock_keeper.specs.declared.fault.KeepFault.TheVariants.{NoMemory}
use Rattle.turn_lock.specs.declared.view.View.{View}
use Rattle.session_laws.specs.Makers.{without_makers}
use Rattle.session_laws.proofs.MakersOf.{without_makers-with_makers}
use Rattle.repost_laws.specs.Builds.{IsClean}
use Rattle.repost_fetch.specs.declared.fetch.Fetched as fetch
use Rattle.repost_build.specs.Builds.{IsOf}
use Rattle.repost_build.specs.Readings.{found_in, suspects_in, valued_in, base_of, target_of, fetches_of, IsUnchanged}
use Rattle.repost_build.specs.declared.build.Build.{Build}
use Rattle.repost_worker.specs.Turns.{records_of, IsWorkOf, IsFetched, IsPublished}
use Rattle.repost_worker.specs.declared.turn.Turned.TheVariants as turned
use Rattle.repost_worker.proofs.Works.{turns-none, records-published, work-published}
use Rattle.locked_worker.specs.LockedTurns.{IsTurnAtStop, IsRefusedTurn}
use Rattle.locked_worker.specs.Stopped.{IsStoppedAt, publications_at}
use Rattle.locked_worker.specs.declared.stop.Stopped.{Stopped}
use Rattle.locked_worker.specs.declared.stop.Stopped.TheVariants.{Fetched, Published, Idle}

-- a build that is the same
pub unchanged-self : (build : Build) → IsUnchanged build build
unchanged-self build = record {
  slots = refl;
  charged = λ line. refl;
  base = refl;
  target = refl;
  gone = refl;
  fetches = refl;
  turns = refl;
}

module _ (old new : View Deed) (build : Build) (history : List Deed) (seen : without_makers new.seen ≡ history) where
  -- what is seen after the stop
  history-is : (stopped : Stopped) (at : IsStoppedAt old build stopped new) → history ≡ at.taken ++ publications_at stopped
  history-is stopped at = sym seen ∙ ap without_makers at.stop.seen ∙ without_makers-with_makers (at.taken ++ publications_at stopped)

  -- where records were copied out
  module _ (n : RecordNo) (fetched : fetch.Fetched) (at : IsStoppedAt old build (Fetched n fetched) new) where
    pub fetched-is : history ≡ at.taken
    fetched-is = history-is (Fetched n fetched) at ∙ append-nil at.taken

    pub after-fetch : (build' : Build) → IsFetched history build build' → IsTurnAtStop old build (turned.Fetched n) new build'
    after-fetch build' taken_in =
        record {
          taken = at.taken;
          stop = at.stop;
          turn = (at.clean, at.on.0, at.on.1, at.on.4, subst (λ (h : List Deed). IsFetched h build build') fetched-is taken_in);
          no_fault = at.no_fault;
        }

    pub after-refusal : IsRefusedTurn NoMemory old new
    after-refusal =
        record {
          taken = at.taken;
          stop = at.stop;
          no_less = omega (arith, at.no_fault);
          failed = λ failed few. absurd cc;
        }

  -- where what was made ahead was published
  module _ (n : RecordNo) (before : List Row) (at : IsStoppedAt old build (Published n before) new) where
    same-records : records history ≡ records at.taken
    same-records = ap records (history-is (Published n before) at) ∙ records-published at.taken n

    pub of-published : IsOf (take (target_of build) (records history)) build
    of-published = subst (λ (rs : List Record). IsOf (take (target_of build) rs) build) (sym same-records) at.work.of

    pub clean-published : IsClean (posting_line (take (target_of build) (records history))) (suspects_in build)
    clean-published =
        subst (λ (rs : List Record). IsClean (posting_line (take (target_of build) rs)) (suspects_in build)) (sym same-records) at.clean

    module _ (build' : Build) (of : IsOf (take (target_of build) (records history)) build') (published : IsPublished build build') where
      pub work-after : IsWorkOf history build'
      work-after =
          let own = subst (λ (rs : List Record). IsOf (take (target_of build) rs) build') same-records of in
          subst (λ (h : List Deed). IsWorkOf h build') (sym (history-is (Published n before) at))
          (work-published at.taken n build build' at.work at.on.2 published own)

      pub after-publication : IsTurnAtStop old build (turned.Published n) new build'
      after-publication =
          record {
            taken = at.taken;
            stop = at.stop;
            turn = (at.clean, at.on.0, at.on.1, at.on.2, at.on.3, published);
            no_fault = at.no_fault;
          }

    -- what the build counts anew
    pub counts-anew : (build' : Build) → IsOf (take (target_of build) (records history)) build' → base_of build' ≡ target_of build
        → fetches_of build' ≡ 0 → ((place : Place) → found_in build' place ≡ found_in build place)
        → ((place : Place) → suspects_in build' place ≡ suspects_in build place) → ((place : Place) → valued_in build' place ≡ false)
        → IsPublished build build'
    counts-anew build' of base fetches found suspects valued =
        record {
          base = base;
          target = of.target ∙ sym of-published.target;
          fetches = fetches;
          turns = turns-none (take (target_of build) (records history)) build' of fetches;
          found = found;
          suspects = suspects;
          valued = valued;
        }

  -- where there was nothing to do
  module _ (at : IsStoppedAt old build Idle new) where
    pub work-idle : IsWorkOf history build
    work-idle = subst (λ (h : List Deed). IsWorkOf h build) (sym (history-is Idle at ∙ append-nil at.taken)) at.work

    pub after-idle : IsTurnAtStop old build turned.Idle new build
    after-idle =
        record {
          taken = at.taken;
          stop = at.stop;
          turn = (at.clean, at.on.0, at.on.1, unchanged-self build);
          no_fault = at.no_fault;
        }
