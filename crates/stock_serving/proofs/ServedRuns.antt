-- A service over a keeper is one over the shelf that handed it out and has it back.
use Rattle.std.proofs.Common.{◌≡◌, ◌⊎◌, ℕ, List, Option, Some, IfSome, OnSome, Result, Ok, Err, IfOk, IfErr, OnErr, inl, inr, refl, sym, ◌∙◌, subst, arith}
use Rattle.std.specs.Prelude.{String, string_bytes}
use Rattle.std.specs.declared.alloc.Global.{Global}
use Rattle.stock_model.specs.History.{IsLegal}
use Rattle.stock_model.specs.declared.deeds.Deed.{Deed}
use Rattle.stock_io.specs.Counts.{Rose}
use Rattle.stock_keeper.specs.Keeping.{Within, TellSame}
use Rattle.stock_keeper.specs.declared.tables.Tables.{Tables}
use Rattle.repost_worker.specs.Openings.{state_of}
use Rattle.repost_worker.specs.Paces.{Pace}
use Rattle.stock_io.specs.Heard.{Heard}
use Rattle.desk_connections.specs.Visits.{Visit}
use Rattle.stock_ends.specs.Openings.{IsUnopened}
use Rattle.stock_ends.specs.Statuses.{status_of, IsToldAs, CountsNoFault}
use Rattle.stock_serving.specs.Serving.{summary_text, IsSettled, IsServedThen, Stops, ServesTo, Leaves, LeavesKept, IsWritten, Tells, IsUnbegunKeeper, IsBegun, IsServedOver, ServesOverShelf}
use Rattle.stock_ends.specs.declared.damage.Damage.{Damage}
use Rattle.stock_ends.specs.declared.end.End.{End}
use Rattle.stock_ends.specs.declared.end.End.TheVariants.{Done, NoMemory, ReadFailed, WriteFailed, TooLong, StoreFailed, ListenFailed, BadSheet, Damaged}
use Rattle.stock_ends.proofs.Openings.{opened-as, opened-plan, unopened}
use Rattle.stock_serving.proofs.Later.{failed-later}

module _ {P O : Type 0} (written : O → Option (List ℕ)) (write_faults : O → ℕ) (serves : ℕ → ℕ → ℕ → List Deed → List Deed → List (Visit P) → Type 0)
    (is_fresh : P → Type 0) (desks connections : ℕ) (first last : Pace) (old new : Heard P) (before after : O) where
  -- the end by a summary that was told
  abbrev IsToldBy : End → Type 0
  IsToldBy end =
      ServesTo serves is_fresh desks connections end first last old new × Tells written write_faults end (summary_text last.history) before after

  told-written : (end : End) (text : List ℕ) → text ≡ summary_text last.history → IsWritten written write_faults end text before after
      → IsServedThen serves is_fresh desks connections IsSettled first last old new → IsToldBy end
  told-written Done text is wrote served =
      (served, subst (λ (t : List ℕ). IsWritten written write_faults Done t before after) is wrote)
  told-written WriteFailed text is wrote served =
      (served, subst (λ (t : List ℕ). IsWritten written write_faults WriteFailed t before after) is wrote)
  told-written NoMemory text is wrote served = absurd wrote
  told-written ReadFailed text is wrote served = absurd wrote
  told-written TooLong text is wrote served = absurd wrote
  told-written BadSheet text is wrote served = absurd wrote
  told-written StoreFailed text is wrote served = absurd wrote
  told-written ListenFailed text is wrote served = absurd wrote
  told-written (Damaged damage) text is wrote served = absurd wrote

  -- or the one without
  told-stopped : (end : End) → Stops serves is_fresh desks connections end first last old new → after ≡ before → IsToldBy end
  told-stopped Done stops same = absurd stops
  told-stopped WriteFailed stops same = absurd stops
  told-stopped NoMemory stops same = (stops, same)
  told-stopped ReadFailed stops same = absurd stops
  told-stopped TooLong stops same = absurd stops
  told-stopped BadSheet stops same = absurd stops
  told-stopped StoreFailed stops same = (stops, same)
  told-stopped ListenFailed stops same = (stops, same)
  told-stopped (Damaged damage) stops same = absurd stops

  told-by : (summary : Result (String Global) End) (end : End) → Leaves serves is_fresh desks connections summary first last old new
      → IfOk summary (λ text. IsWritten written write_faults end (string_bytes text) before after) → IfErr summary (λ e. end ≡ e)
      → OnErr summary (after ≡ before) → IsToldBy end
  told-by (Ok text) end leaves wrote is same = told-written end (string_bytes text) leaves.1 wrote leaves.0
  told-by (Err e) end leaves wrote is same = subst IsToldBy (sym is) (told-stopped e leaves same)

-- a service over a legal history leaves one
module _ {P : Type 0} (serves : ℕ → ℕ → ℕ → List Deed → List Deed → List (Visit P) → Type 0) (is_fresh : P → Type 0) (desks connections : ℕ) (first last : Pace)
    (old new : Heard P) (legal : IsLegal first.history) where
  stopped-legal : (end : End) → Stops serves is_fresh desks connections end first last old new → IsLegal last.history
  stopped-legal ListenFailed (inl unheard) = subst (λ (p : Pace). IsLegal p.history) (sym unheard.nothing_kept) legal
  stopped-legal ListenFailed (inr short) = short.service.legal
  stopped-legal StoreFailed served = served.legal
  stopped-legal NoMemory (inl unserved) = subst (λ (p : Pace). IsLegal p.history) (sym unserved.nothing_kept) legal
  stopped-legal NoMemory (inr served) = served.legal
  stopped-legal Done stops = absurd stops
  stopped-legal ReadFailed stops = absurd stops
  stopped-legal WriteFailed stops = absurd stops
  stopped-legal TooLong stops = absurd stops
  stopped-legal BadSheet stops = absurd stops
  stopped-legal (Damaged damage) stops = absurd stops

  leaves-legal : (summary : Result (String Global) End) → Leaves serves is_fresh desks connections summary first last old new → IsLegal last.history
  leaves-legal (Ok text) leaves = leaves.0.legal
  leaves-legal (Err end) stops = stopped-legal end stops

module _ {H Kt L P O : Type 0} (kept_tells kept_may_leave : Kt → Tables → Type 0) (k_faults : Kt → ℕ) (k_plan : Kt → Option (List ℕ)) (k_calls : Kt → ℕ)
    (tells : H → Tables → Type 0) (plan : H → Option (List ℕ)) (faults kept_faults : H → ℕ) (hears : L → Heard P)
    (written : O → Option (List ℕ)) (write_faults : O → ℕ) (serves : ℕ → ℕ → ℕ → List Deed → List Deed → List (Visit P) → Type 0) (is_fresh : P → Type 0)
    (desks connections : ℕ) (shelf shelf' : H) (keeper keeper' : Kt) (listener listener' : L) (output output' : O) where
  served-begun : (summary : Result (String Global) End) (end : End)
      → TellSame (tells shelf) (kept_tells keeper) → IfSome (plan shelf) (λ numbers. k_plan keeper ≡ Some numbers)
      → OnSome (plan shelf) (k_calls keeper ≡ 0) → Within (kept_tells keeper') (tells shelf')
      → IfSome (plan shelf') (λ numbers. k_plan keeper' ≡ Some numbers) → kept_faults shelf' ≡ k_faults keeper'
      → IsBegun kept_tells kept_may_leave k_faults k_plan k_calls (λ first last. Leaves serves is_fresh desks connections summary first last (hears listener)
      (hears listener')) keeper keeper'
      → IfOk summary (λ text. IsWritten written write_faults end (string_bytes text) output output') → IfErr summary (λ e. end ≡ e)
      → OnErr summary (output' ≡ output)
      → IsServedOver kept_tells tells plan faults kept_faults hears written write_faults serves is_fresh desks connections shelf shelf' listener listener'
      output output' end
  served-begun summary end same planned uncalled back plans counted begun wrote is unwritten =
      let told = told-by written write_faults serves is_fresh desks connections begun.first begun.last (hears listener) (hears listener') output output'
      summary end begun.done wrote is unwritten in
      let opened = opened-as kept_tells keeper (tells shelf) (plan shelf) (k_plan keeper) kept_may_leave (k_faults keeper) (k_calls keeper)
      begun.first same planned uncalled begun.loaded begun.legal begun.order begun.at_rest begun.begun in
      record {
        first = begun.first;
        last = begun.last;
        opened = opened;
        put_back = record {
          tables = λ t told. begun.kept t (back t told);
          plan_is = opened-plan (plan shelf') (k_plan keeper') begun.last.keeper.plan plans (sym begun.plan_is);
          faults = counted ∙ begun.faults_are;
        };
        served = told.0;
        legal = leaves-legal serves is_fresh desks connections begun.first begun.last (hears listener) (hears listener') begun.legal summary begun.done;
        failed = λ stored.
            let run = subst (λ (e : End). ServesTo serves is_fresh desks connections e begun.first begun.last (hears listener) (hears listener')) stored told.0 in
            failed-later (plan shelf) begun.first run.served begun.last opened.plan_is opened.calls run.calls run.then.0 run.legal;
        told = told.1;
      }

  served-unbegun : (end : End) → TellSame (tells shelf) (kept_tells keeper) → k_faults keeper ≡ 0
      → IfSome (plan shelf) (λ numbers. k_plan keeper ≡ Some numbers) → OnSome (plan shelf) (k_calls keeper ≡ 0)
      → Within (kept_tells keeper') (tells shelf') → kept_faults shelf' ≡ k_faults keeper'
      → IsUnbegunKeeper kept_tells k_faults k_plan k_calls keeper keeper' listener listener' end → output' ≡ output
      → ServesOverShelf kept_tells tells plan faults kept_faults hears written write_faults serves is_fresh desks connections shelf shelf' listener
      listener' output output' end
  served-unbegun end same fresh planned uncalled back counted unbegun unwritten =
      inl (record {
        nothing_taken = unbegun.nothing_heard;
        nothing_written = unwritten;
        tables_stay = inr (λ s t before after. same s t before (unbegun.tables_kept t (back t after)));
        cause =
            unopened kept_tells keeper' (tells shelf) (λ s t before after. same s t before (unbegun.tables_kept t after)) end (plan shelf) (faults shelf) (faults shelf')
            (state_of (k_faults keeper) (k_plan keeper) (k_calls keeper)) (state_of (k_faults keeper') (k_plan keeper') (k_calls keeper'))
            (kept_faults shelf') fresh counted planned uncalled unbegun.cause;
      })

  pub over-served : (summary : Result (String Global) End) (end : End)
      → TellSame (tells shelf) (kept_tells keeper) → k_faults keeper ≡ 0 → IfSome (plan shelf) (λ numbers. k_plan keeper ≡ Some numbers)
      → OnSome (plan shelf) (k_calls keeper ≡ 0) → Within (kept_tells keeper') (tells shelf')
      → IfSome (plan shelf') (λ numbers. k_plan keeper' ≡ Some numbers) → kept_faults shelf' ≡ k_faults keeper'
      → LeavesKept kept_tells kept_may_leave k_faults k_plan k_calls hears serves is_fresh desks connections summary keeper keeper' listener listener'
      → IfOk summary (λ text. IsWritten written write_faults end (string_bytes text) output output') → IfErr summary (λ e. end ≡ e)
      → OnErr summary (output' ≡ output)
      → ServesOverShelf kept_tells tells plan faults kept_faults hears written write_faults serves is_fresh desks connections shelf shelf' listener
      listener' output output' end
  over-served (Ok text) end same fresh planned uncalled back plans counted begun wrote is unwritten =
      inr (served-begun (Ok text) end same planned uncalled back plans counted begun wrote is unwritten)
  over-served (Err e) end same fresh planned uncalled back plans counted (inl unbegun) wrote is unwritten =
      subst (ServesOverShelf kept_tells tells plan faults kept_faults hears written write_faults serves is_fresh desks connections shelf shelf' listener
      listener' output output') (sym is) (served-unbegun e same fresh planned uncalled back counted unbegun unwritten)
  over-served (Err e) end same fresh planned uncalled back plans counted (inr begun) wrote is unwritten =
      inr (served-begun (Err e) end same planned uncalled back plans counted begun wrote is unwritten)

module _ {H Kt L P O : Type 0} (kept_tells : Kt → Tables → Type 0) (tells : H → Tables → Type 0) (plan : H → Option (List ℕ))
    (faults kept_faults : H → ℕ) (hears : L → Heard P) (written : O → Option (List ℕ)) (write_faults : O → ℕ)
    (serves : ℕ → ℕ → ℕ → List Deed → List Deed → List (Visit P) → Type 0) (is_fresh : P → Type 0) (desks connections : ℕ) (shelf shelf' : H) (listener listener' : L)
    (output output' : O) where
  abbrev ServesBy : End → Type 0
  ServesBy end =
      ServesOverShelf kept_tells tells plan faults kept_faults hears written write_faults serves is_fresh desks connections shelf shelf' listener
      listener' output output' end

  -- the end that is told is that of the service, or want of memory to tell it
  told-damage : (damage : Damage) → ServesBy (Damaged damage) → ServesBy NoMemory
  told-damage damage (inl unopened) =
      inl (record {
        nothing_taken = unopened.nothing_taken;
        nothing_written = unopened.nothing_written;
        tables_stay = unopened.tables_stay;
        cause = tt;
      })
  told-damage damage (inr run) = absurd run.served

  pub served-told : (end told : End) → IsToldAs end told → ServesBy end → ServesBy told
  served-told (Damaged damage) told (inl is) served = subst ServesBy (sym is) served
  served-told (Damaged damage) told (inr is) served = subst ServesBy (sym is) (told-damage damage served)
  served-told Done told is served = subst ServesBy (sym is) served
  served-told NoMemory told is served = subst ServesBy (sym is) served
  served-told ReadFailed told is served = subst ServesBy (sym is) served
  served-told WriteFailed told is served = subst ServesBy (sym is) served
  served-told TooLong told is served = subst ServesBy (sym is) served
  served-told BadSheet told is served = subst ServesBy (sym is) served
  served-told StoreFailed told is served = subst ServesBy (sym is) served
  served-told ListenFailed told is served = subst ServesBy (sym is) served

-- a count that rose counts a fault
no-fault-rose : (before after : ℕ) → CountsNoFault before after → Rose before after → ⊥
no-fault-rose before after none rose =
    let less = rose none.1 in
    absurd (omega (arith, less, none.0))

abbrev IsComplete : End → Type 0
IsComplete end = (status_of end ≡ 0) ⊎ ((status_of end ≡ 3) ⊎ (status_of end ≡ 7))

-- a ledger that was not opened without a fault
unopened-complete : {Kt : Type 0} (kept_tells : Kt → Tables → Type 0) (end : End) (told : Tables → Type 0) (plan : Option (List ℕ)) (before after kept : ℕ)
    → IsUnopened kept_tells end told plan before after kept → CountsNoFault before after → CountsNoFault 0 kept → IsComplete end
unopened-complete kept_tells Done told plan before after kept cause shelf keeper = absurd cause
unopened-complete kept_tells NoMemory told plan before after kept cause shelf keeper = inr (inl refl)
unopened-complete kept_tells ReadFailed told plan before after kept cause shelf keeper = absurd cause
unopened-complete kept_tells WriteFailed told plan before after kept cause shelf keeper = absurd cause
unopened-complete kept_tells TooLong told plan before after kept cause shelf keeper = absurd cause
unopened-complete kept_tells BadSheet told plan before after kept cause shelf keeper = absurd cause
unopened-complete kept_tells StoreFailed told plan before after kept (inl rose) shelf keeper = absurd (no-fault-rose before after shelf rose)
unopened-complete kept_tells StoreFailed told plan before after kept (inr failed) shelf keeper = absurd (no-fault-rose 0 kept keeper failed.0)
unopened-complete kept_tells ListenFailed told plan before after kept cause shelf keeper = absurd cause
unopened-complete kept_tells (Damaged damage) told plan before after kept cause shelf keeper = inr (inr refl)

module _ {P O : Type 0} (written : O → Option (List ℕ)) (write_faults : O → ℕ) (serves : ℕ → ℕ → ℕ → List Deed → List Deed → List (Visit P) → Type 0)
    (is_fresh : P → Type 0) (desks connections : ℕ) (first last : Pace) (old new : Heard P) (before after : O) (text : List ℕ) where
  -- one that was served without a fault
  run-complete : (end : End) → ServesTo serves is_fresh desks connections end first last old new → Tells written write_faults end text before after
      → CountsNoFault 0 last.keeper.faults → CountsNoFault old.faults new.faults → CountsNoFault (write_faults before) (write_faults after)
      → IsComplete end
  run-complete Done served told keeper listener output = inl refl
  run-complete NoMemory served told keeper listener output = inr (inl refl)
  run-complete ReadFailed served told keeper listener output = absurd served
  run-complete WriteFailed served told keeper listener output =
      absurd (no-fault-rose (write_faults before) (write_faults after) output told.1)
  run-complete TooLong served told keeper listener output = absurd served
  run-complete BadSheet served told keeper listener output = absurd served
  run-complete StoreFailed served told keeper listener output =
      absurd (no-fault-rose 0 last.keeper.faults keeper served.then.1)
  run-complete ListenFailed (inl unheard) told keeper listener output =
      absurd (no-fault-rose old.faults new.faults listener unheard.cause)
  run-complete ListenFailed (inr short) told keeper listener output = absurd (no-fault-rose old.faults new.faults listener short.cause)
  run-complete (Damaged damage) served told keeper listener output = absurd served

module _ {H Kt L P O : Type 0} (kept_tells : Kt → Tables → Type 0) (tells : H → Tables → Type 0) (plan : H → Option (List ℕ))
    (faults kept_faults : H → ℕ) (hears : L → Heard P) (written : O → Option (List ℕ)) (write_faults : O → ℕ)
    (serves : ℕ → ℕ → ℕ → List Deed → List Deed → List (Visit P) → Type 0) (is_fresh : P → Type 0) (desks connections : ℕ) (shelf shelf' : H) (listener listener' : L)
    (output output' : O) where
  -- without a fault it is done, unless memory was wanting or the tables are none of a ledger
  pub served-complete : (end : End)
      → ServesOverShelf kept_tells tells plan faults kept_faults hears written write_faults serves is_fresh desks connections shelf shelf' listener
      listener' output output' end
      → CountsNoFault (faults shelf) (faults shelf') → CountsNoFault 0 (kept_faults shelf')
      → CountsNoFault (hears listener).faults (hears listener').faults → CountsNoFault (write_faults output) (write_faults output')
      → (status_of end ≡ 0) ⊎ ((status_of end ≡ 3) ⊎ (status_of end ≡ 7))
  served-complete end (inl unopened) none kept heard wrote =
      unopened-complete kept_tells end (tells shelf) (plan shelf) (faults shelf) (faults shelf') (kept_faults shelf') unopened.cause none kept
  served-complete end (inr run) none kept heard wrote =
      run-complete written write_faults serves is_fresh desks connections run.first run.last (hears listener) (hears listener') output output'
      (summary_text run.last.history) end run.served run.told (subst (CountsNoFault 0) run.put_back.faults kept) heard wrote
