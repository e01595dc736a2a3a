use Rattle.std.proofs.Common.{◌≡◌, ◌≤◌, ℤ, List, [], ◌∷◌, ◌++◌, map, sym, ap, ◌∙◌, subst, unsigned_abs, append_assoc, arith, to_z, of_z}
use Rattle.std.proofs.lemmas.Int.{to_z-of_z, fits_signed_from_abs}
use Rattle.std.proofs.lemmas.List.{append-nil, map-append}
use mir.Syntax.{w128}
use Rattle.stock_nums.specs.declared.numbers.AccountNo.{AccountNo}
use Rattle.stock_model.specs.declared.ledger_lines.Balance.{Balance}
use Rattle.stock_model.specs.declared.ledger_lines.TheConstants.{MAX_BALANCE}
use Rattle.gl_lines.specs.Totals.{entry_balance}
use Rattle.gl_lines.proofs.AccountTotals.{entry-small, all-balances}
use Rattle.gl_lines.proofs.totals.Totals.balances.Goals as goal

-- a small total is one of 128 bits
kept : (z : ℤ) → unsigned_abs z ≤ MAX_BALANCE → to_z w128 (of_z w128 z) ≡ z
kept z small = to_z-of_z w128 z (fits_signed_from_abs w128 z (omega (arith, small)))

pub balance_of-requires : goal.balance_of-requires
balance_of-requires c =
    let room = c.requires in
    let inv = c.loop-account.invariant.2 in
    let parts = inv.1 ∙ ap (λ (rest : List (AccountNo × ℤ)). inv.0 ++ rest) c.in-Some.ensures.steps in
    let small : unsigned_abs c.in-Some.total.now ≤ MAX_BALANCE =
    entry-small c.args.self.now.by_account room.0 inv.0 c.next.new.self (c.in-Some.account.now, c.in-Some.total.now) room.1 room.2 parts in
    subst (λ (z : ℤ). unsigned_abs z ≤ MAX_BALANCE) (sym (kept c.in-Some.total.now small)) small

pub loop-account-preserved : goal.loop-account-preserved
loop-account-preserved c =
    let room = c.requires in
    let inv = c.loop-account.invariant.2 in
    let entry : AccountNo × ℤ = (c.in-Some.account.now, c.in-Some.total.now) in
    let parts = inv.1 ∙ ap (λ (rest : List (AccountNo × ℤ)). inv.0 ++ rest) c.in-Some.ensures.steps in
    let small : unsigned_abs c.in-Some.total.now ≤ MAX_BALANCE =
    entry-small c.args.self.now.by_account room.0 inv.0 c.next.new.self entry room.1 room.2 parts in
    let is : c.balance_of.result ≡ entry_balance entry =
    c.balance_of.ensures ∙ ap (λ (z : ℤ). entry_balance (c.in-Some.account.now, z)) (kept c.in-Some.total.now small) in (
      tt,
      tt,
      (
        inv.0 ++ entry ∷ [],
        parts ∙ sym (append_assoc inv.0 (entry ∷ []) c.next.new.self),
        c.in_ok-push.ensures.added
            ∙ ap (λ (found : List Balance). found ++ c.balance_of.result ∷ []) inv.2
            ∙ ap (λ (row : Balance). map entry_balance inv.0 ++ row ∷ []) is
            ∙ sym (map-append entry_balance inv.0 (entry ∷ [])),
      ),
    )

pub returns : goal.returns
returns c lines are =
    let inv = c.loop-account.invariant.2 in
    let none : c.loop-account.account-iterator ≡ [] = c.in-None.ensures.steps.0 in
    inv.2 ∙ ap (map entry_balance) (sym (inv.1 ∙ ap (λ (rest : List (AccountNo × ℤ)). inv.0 ++ rest) none ∙ append-nil inv.0)) ∙ all-balances c.args.self.now.by_account lines are
