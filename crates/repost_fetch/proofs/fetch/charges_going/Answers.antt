-- One record more is asked, and after the last one all that is taken back is known.
use Rattle.std.proofs.Common.{◌≡◌, ℕ, ◌+◌, ◌<◌, ◌≤◌, List, [], ◌++◌, length, take, drop, sym, ap, ◌∙◌, arith}
use Rattle.std.specs.List.{flat_map, enumerate_from}
use Rattle.std.proofs.lemmas.List.{append-nil, take-append-drop, drop_all}
use Rattle.stock_model.specs.LandedCost.{record_charged}
use Rattle.stock_model.specs.declared.records.Record.{Record}
use Rattle.cost_links.specs.Charged.{charge_pairs}
use Rattle.cost_links.specs.declared.charges.Charge.{Charge}
use Rattle.repost_fetch.specs.Fetched.{is_taken, taken_charge}
use Rattle.repost_fetch.proofs.ChargeSteps.{charged-next, nothing-next}
use Rattle.repost_fetch.proofs.NoCancels.{uncharged-none, none-lent}
use Rattle.repost_fetch.proofs.TakenRecords.{taken-whole}
use Rattle.repost_fetch.proofs.fetch.charges_going.Goals as goal
use Rattle.repost_fetch.proofs.fetch.charges_going.Goals.{then-is_taken+in_ok-own+in_ok-push_charges, else-is_taken}

-- the first records, read from those that were lent
read-in : (shown journal : List Record) (i : ℕ) (own : List Charge) → shown ≡ journal
    → charge_pairs own ≡ flat_map (record_charged (take (i + 1) shown)) (drop i (take (i + 1) shown))
    → charge_pairs own ≡ flat_map (record_charged (take (i + 1) journal)) (drop i (take (i + 1) journal))
read-in shown journal i own same read =
    read ∙ ap (λ (j : List Record). flat_map (record_charged (take (i + 1) j)) (drop i (take (i + 1) j))) same

pub returns-then-not-has_cancel : goal.returns-then-not-has_cancel
returns-then-not-has_cancel c =
    let journal = c.args.journal.now in
    let after = c.args.after.0 in
    let none = none-lent c.records-records.result.now journal after c.records-records.ensures.records (sym c.has_cancel.ensures ∙ c.if-not-has_cancel.true) in
    ap charge_pairs c.new.ensures ∙ sym (uncharged-none (take after journal) (drop after journal) none)

pub loop-index-preserved : goal.loop-index-preserved
loop-index-preserved c =
    let journal = c.args.journal.now in
    let after = c.args.after.0 in
    let taken = is_taken (take after journal) (drop after journal) in
    let i = c.loop-index.index in
    let within : i < length journal = omega (arith, c.loop-index-test.true, c.count-index-end.ensures.count) in
    elim c.if-is_taken.branch [
      | then-is_taken+in_ok-own+in_ok-push_charges w ↦
          charged-next taken journal i within c.loop-index.charges w.as_slice.result.now c.if-is_taken.charges _
          (taken-whole journal after (i + 1) ∙ sym c.is_taken.ensures ∙ w.if-is_taken.true)
          (ap charge_pairs w.as_slice.ensures ∙ read-in c.records-records.result.now journal i _ c.records-records.ensures.records w.in_ok-own.ensures)
          (w.charges-is ∙ w.in_ok-push_charges.ensures) c.loop-index.invariant
      | else-is_taken w ↦
          nothing-next taken journal i within c.if-is_taken.charges _
          (taken-whole journal after (i + 1) ∙ sym c.is_taken.ensures ∙ w.if-is_taken.false)
          (ap (λ (cs : List Charge). charge_pairs cs ++ flat_map (taken_charge taken journal) (enumerate_from (i + 1) (drop i journal))) w.charges-is
          ∙ c.loop-index.invariant)
    ]

pub returns : goal.returns
returns c =
    let journal = c.args.journal.now in
    let after = c.args.after.0 in
    let taken = is_taken (take after journal) (drop after journal) in
    let i = c.loop-index.index in
    let charges = charge_pairs c.loop-index.charges in
    let last : length journal ≤ i = omega (arith, c.loop-index-test.false, c.count-index-end.ensures.count) in
    let none : drop i journal ≡ [] = drop_all i journal last in
    sym (ap (λ (rest : List Record). charges ++ flat_map (taken_charge taken journal) (enumerate_from (i + 1) rest)) none ∙ append-nil charges)
    ∙ c.loop-index.invariant
    ∙ ap (λ (j : List Record). flat_map (taken_charge taken j) (enumerate_from 1 j)) (sym (take-append-drop after journal))
