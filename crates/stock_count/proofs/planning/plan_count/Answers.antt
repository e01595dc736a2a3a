use Rattle.std.proofs.Common.{◌≡◌, ◌<◌, ℤ, true, false, List, [], ◌∷◌, ◌++◌, length, take, map, get_or, inr, sym, ap, ◌∙◌, subst, arith, to_z, of_z}
use Rattle.std.specs.List.{filter_map}
use Rattle.std.specs.Option.{option_map, option_to_list}
use Rattle.std.proofs.lemmas.Int.{to_z-of_z}
use mir.Syntax.{w128, w64}
use Rattle.voucher_import.specs.declared.sheet.CountLine.{CountLine}
use Rattle.stock_count.proofs.CountedLines.{map-next, filter_map-next, first-here, first-later, narrow-kept}
use Rattle.stock_count.proofs.PlanLimits.{length-filter_map, issue-limits, receipt-limits}
use Rattle.stock_count.specs.Differences.{difference, is_wide}
use Rattle.stock_count.specs.Corrections.{Correction, shortage, surplus, shortage_of, surplus_of}
use Rattle.stock_count.specs.declared.plan.CountFault.TheVariants.{Wide}
use Rattle.stock_count.proofs.planning.plan_count.Goals as goal

pub returns-then-is_wide-clause-wide : goal.returns-then-is_wide-clause-wide
returns-then-is_wide-clause-wide c =
    let journal = c.args.journal.now in
    let sheet = c.args.sheet.now in
    let i = c.loop-index.index in
    let line = c.line-item.result in
    let within : i < length sheet.lines = omega (arith, c.loop-index-test.true, ap length c.as_slice-line-items.ensures) in
    let read = subst (λ (lines : List CountLine). line ≡ get_or lines i line) c.as_slice-line-items.ensures c.line-item.is in
    let is = to_z-of_z w128 c.difference-diff.result (record { sfits = c.difference-diff.type_inv }) ∙ c.difference-diff.ensures sheet.at (c.as_slice.ensures ∙ c.in_ok-entries.ensures) in
    let wide : is_wide (difference journal sheet.at line) ≡ true = ap is_wide (sym is) ∙ sym c.is_wide.ensures ∙ c.if-is_wide.true in
    inr (ap (option_map Wide) (sym c.loop-index.invariant.narrow ∙ first-here sheet.lines i line within read (difference journal sheet.at) is_wide wide))

pub loop-index-preserved : goal.loop-index-preserved
loop-index-preserved c =
    let journal = c.args.journal.now in
    let sheet = c.args.sheet.now in
    let i = c.loop-index.index in
    let line = c.line-item.result in
    let within : i < length sheet.lines = omega (arith, c.loop-index-test.true, ap length c.as_slice-line-items.ensures) in
    let read = subst (λ (lines : List CountLine). line ≡ get_or lines i line) c.as_slice-line-items.ensures c.line-item.is in
    let is = to_z-of_z w128 c.difference-diff.result (record { sfits = c.difference-diff.type_inv }) ∙ c.difference-diff.ensures sheet.at (c.as_slice.ensures ∙ c.in_ok-entries.ensures) in
    let narrow : is_wide (difference journal sheet.at line) ≡ false = ap is_wide (sym is) ∙ sym c.is_wide.ensures ∙ c.if-is_wide.false in
    let added_diff = to_z w64 (of_z w64 (to_z w128 (of_z w128 c.difference-diff.result))) in
    let added = ap (λ (z : ℤ). to_z w64 (of_z w64 z)) is ∙ narrow-kept (difference journal sheet.at line) narrow in
    let made = c.in_ok-add.ensures in
    let so_far = c.loop-index.invariant in
    record {
      diffs = made.diffs ∙ ap (λ (diffs : List ℤ). diffs ++ added_diff ∷ []) so_far.diffs
          ∙ ap (λ (z : ℤ). map (difference journal sheet.at) (take i sheet.lines) ++ z ∷ []) added
          ∙ map-next sheet.lines i line within read (difference journal sheet.at);
      shortages = made.shortages ∙ ap (λ (said : List Correction). said ++ option_to_list (shortage line added_diff)) so_far.shortages
          ∙ ap (λ (z : ℤ). filter_map (shortage_of journal sheet.at) (take i sheet.lines) ++ option_to_list (shortage line z)) added
          ∙ filter_map-next sheet.lines i line within read (shortage_of journal sheet.at);
      surpluses = made.surpluses ∙ ap (λ (said : List Correction). said ++ option_to_list (surplus line added_diff)) so_far.surpluses
          ∙ ap (λ (z : ℤ). filter_map (surplus_of journal sheet.at) (take i sheet.lines) ++ option_to_list (surplus line z)) added
          ∙ filter_map-next sheet.lines i line within read (surplus_of journal sheet.at);
      narrow = sym (first-later sheet.lines i line within read (difference journal sheet.at) is_wide narrow) ∙ c.loop-index.invariant.narrow;
    }

pub returns-clause-limits : goal.returns-clause-limits
returns-clause-limits c =
    let size = c.args.sheet.now.size in
    let made = c.loop-index.invariant in (
      issue-limits _ _ _ c.into_plan.ensures.issue (omega (arith, size.1, ap length made.shortages, length-filter_map (shortage_of c.args.journal.now c.args.sheet.now.at) c.loop-index.index c.args.sheet.now.lines)),
      receipt-limits _ _ _ c.into_plan.ensures.receipt (omega (arith, size.1, ap length made.surpluses, length-filter_map (surplus_of c.args.journal.now c.args.sheet.now.at) c.loop-index.index c.args.sheet.now.lines)),
    )
