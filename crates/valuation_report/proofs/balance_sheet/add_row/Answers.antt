-- The holding that is lent comes back with the row in it.
use Rattle.std.proofs.Common.{[], sym, ap, ◌∙◌, rules}
use Rattle.std.specs.Prelude.{Option, unwrap_or}
use Rattle.std.specs.Option.{option_copied_mut}
use Rattle.valuation_report.specs.declared.holdings.Holding.{Holding}
use Rattle.valuation_report.specs.Holdings.{holding_of, next_holding}
use Rattle.valuation_report.proofs.HeldByKey.{lent}
use Rattle.valuation_report.proofs.balance_sheet.add_row.Goals as goal

pub returns-in-Some : goal.returns-in-Some
returns-in-Some c =
    let found = sym c.get_mut.ensures.value ∙ ap option_copied_mut c.in-Some.is in
    lent (λ (held : Option Holding). next_holding (unwrap_or held (holding_of [])) c.args.row.now) c.args.by_key.now (c.get_mut.follows.lender c.add.new.self) c.args.key c.in-Some.holding.now c.add.new.self
    found c.add.ensures ((c.get_mut.follows.holds c.add.new.self).3 (search rules))
