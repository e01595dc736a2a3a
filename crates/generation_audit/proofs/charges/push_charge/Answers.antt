-- What is found are the shares by the weights.
use Rattle.std.proofs.Common.{◌≡◌, ℕ, ◌++◌, ◌≤◌, List, length, map, sum, unsigned_abs, OnOk, Result, Err, sym, ap, ◌∙◌, subst}
use Rattle.std.specs.List.{zip}
use Rattle.stock_nums.specs.Shares.{shares}
use Rattle.stock_nums.specs.declared.limits.TheConstants.{MAX_UNITS}
use Rattle.stock_nums.specs.declared.numbers.Minor.{Minor}
use Rattle.stock_nums.proofs.SharesLemmas.{sum-shares_after-none}
use Rattle.stock_model.specs.LandedCost.{weights}
use Rattle.landed_cost.specs.Charges.{minors}
use Rattle.landed_cost.specs.declared.shares.ShareFault.{ShareFault}
use Rattle.cost_links.specs.Charged.{amount, charge_pairs}
use Rattle.cost_links.proofs.ChargeSums.{sum-weights-fits, length-minors, length-shares, length-weights, amounts-minors, zip-nothing}
use Rattle.generation_audit.proofs.charges.push_charge.Goals as goal

pub shares-requires-clause-weights : goal.shares-requires-clause-weights
shares-requires-clause-weights c =
    subst (λ (ws : List ℕ). sum ws ≤ MAX_UNITS) (sym (c.as_slice.ensures ∙ c.in_ok-weights.ensures)) (sum-weights-fits c.args.records.now c.args.basis c.args.targets.now c.requires.targets)

pub push_shares-requires : goal.push_shares-requires
push_shares-requires c =
    let total = unsigned_abs c.args.charge.0 in
    let ws = weights c.args.records.now c.args.basis c.args.targets.now in
    let parts = c.as_slice-in-Ok.ensures ∙ c.in-Ok.ensures.parted ∙ ap (λ (vs : List ℕ). minors (shares total vs)) (c.as_slice.ensures ∙ c.in_ok-weights.ensures) in
    record { count = ap (λ (ms : List Minor). length ms) parts ∙ length-minors total 0 (sum ws) ws ∙ length-weights c.args.records.now c.args.basis c.args.targets.now }

pub returns-in-Ok : goal.returns-in-Ok
returns-in-Ok c =
    let total = unsigned_abs c.args.charge.0 in
    let ws = weights c.args.records.now c.args.basis c.args.targets.now in
    let parts = c.as_slice-in-Ok.ensures ∙ c.in-Ok.ensures.parted ∙ ap (λ (vs : List ℕ). minors (shares total vs)) (c.as_slice.ensures ∙ c.in_ok-weights.ensures) in
    subst (λ (ns : List ℕ). OnOk c.push_shares.result (charge_pairs c.push_shares.new.charges ≡ charge_pairs c.args.charges.now ++ zip c.args.targets.now ns))
    (ap (map amount) parts ∙ amounts-minors (shares total ws)) c.push_shares.ensures

pub returns-in-Err-NoBasis : goal.returns-in-Err-NoBasis
returns-in-Err-NoBasis c =
    let total = unsigned_abs c.args.charge.0 in
    let targets = c.args.targets.now in
    let ws = weights c.args.records.now c.args.basis targets in
    let err : ShareFault → Result (List Minor) ShareFault = λ f. Err f in
    let none : sum ws ≡ 0 = ap sum (sym (c.as_slice.ensures ∙ c.in_ok-weights.ensures)) ∙ c.in-Err-NoBasis.ensures.no_basis.0 (ap err c.in-Err-NoBasis.field-0-is) in
    subst (λ cs. OnOk c.push_nothing.result (charge_pairs c.push_nothing.new.charges ≡ charge_pairs c.args.charges.now ++ cs))
    (sym (zip-nothing targets (shares total ws) (length-shares total 0 (sum ws) ws ∙ length-weights c.args.records.now c.args.basis targets) (sum-shares_after-none total 0 (sum ws) ws none)))
    c.push_nothing.ensures
