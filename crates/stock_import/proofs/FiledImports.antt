-- An import over a keeper is one over the shelf that handed it out and has it back.
use Rattle.std.proofs.Common.{◌≡◌, ℕ, List, Option, Some, IfSome, OnSome, inl, inr, sym, ◌∙◌}
use Rattle.stock_keeper.specs.Keeping.{Within, TellSame}
use Rattle.stock_keeper.specs.declared.tables.Tables.{Tables}
use Rattle.repost_worker.specs.Openings.{state_of}
use Rattle.voucher_import.specs.declared.sheet.SheetVoucher.{SheetVoucher}
use Rattle.stock_ends.specs.declared.end.End.{End}
use Rattle.stock_ends.proofs.Openings.{opened-as, opened-plan, unopened}
use Rattle.stock_import.specs.Filed.{ImportsOverShelf, ImportsOverKeeper}

module _ {H Kt O : Type 0} (kept_tells kept_may_leave : Kt → Tables → Type 0) (k_faults : Kt → ℕ) (k_plan : Kt → Option (List ℕ)) (k_calls : Kt → ℕ)
    (tells : H → Tables → Type 0) (plan : H → Option (List ℕ)) (faults kept_faults : H → ℕ)
    (written : O → Option (List ℕ)) (write_faults : O → ℕ) where
  pub imported-kept : (shelf shelf' : H) (keeper keeper' : Kt) (output output' : O) (vouchers : List SheetVoucher) (end : End)
      → TellSame (tells shelf) (kept_tells keeper) → k_faults keeper ≡ 0 → IfSome (plan shelf) (λ numbers. k_plan keeper ≡ Some numbers)
      → OnSome (plan shelf) (k_calls keeper ≡ 0) → Within (kept_tells keeper') (tells shelf')
      → IfSome (plan shelf') (λ numbers. k_plan keeper' ≡ Some numbers) → kept_faults shelf' ≡ k_faults keeper'
      → ImportsOverKeeper kept_tells kept_may_leave k_faults k_plan k_calls written write_faults keeper keeper' output output' vouchers end
      → ImportsOverShelf kept_tells tells plan faults kept_faults written write_faults shelf shelf' output output' vouchers end
  imported-kept shelf shelf' keeper keeper' output output' vouchers end same fresh planned uncalled back plans counted (inl unbegun) =
      inl (record {
        nothing_taken = unbegun.nothing_taken;
        nothing_written = unbegun.nothing_written;
        tables_stay = inr (λ s t before after. same s t before (unbegun.tables_kept t (back t after)));
        cause =
            unopened kept_tells keeper' (tells shelf) (λ s t before after. same s t before (unbegun.tables_kept t after)) end (plan shelf)
            (faults shelf) (faults shelf') (state_of (k_faults keeper) (k_plan keeper) (k_calls keeper))
            (state_of (k_faults keeper') (k_plan keeper') (k_calls keeper')) (kept_faults shelf') fresh counted planned uncalled unbegun.cause;
      })
  imported-kept shelf shelf' keeper keeper' output output' vouchers end same fresh planned uncalled back plans counted (inr run) =
      inr (record {
        first = run.first;
        last = run.last;
        opened =
            opened-as kept_tells keeper (tells shelf) (plan shelf) (k_plan keeper) kept_may_leave (k_faults keeper) (k_calls keeper) run.first same
            planned uncalled run.loaded run.legal run.order run.at_rest run.begun;
        put_back = record {
          tables = λ t told. run.kept t (back t told);
          plan_is = opened-plan (plan shelf') (k_plan keeper') run.last.keeper.plan plans (sym run.plan_is);
          faults = counted ∙ run.faults_are;
        };
        ran = run.ran;
      })
