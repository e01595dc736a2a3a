-- Where nothing is noted no record names a line, and else none before the one that is noted.
use Rattle.std.proofs.Common.{◌≡◌, None, Some, sym, ap, ◌∙◌}
use Rattle.stock_model.specs.Masters.{record_at}
use Rattle.stock_model.specs.Cancelling.{first_link, record_number}
use Rattle.std.specs.Option.{option_map}
use Rattle.voucher_kinds.specs.Journals.{taker}
use Rattle.voucher_kinds.proofs.Named.{first_link-noted, first_link-none}
use Rattle.voucher_kinds.proofs.journal.JournalReturns.first_link.Goals as goal

pub link_from-requires : goal.link_from-requires
link_from-requires c k item held names =
    let records = c.self.inside.records.items in
    let namers = c.self.inside.namers.items in
    let noted : taker namers c.args.number.0 ≡ Some c.in-Some.first =
    sym (c.taker.ensures ∙ ap (λ bs. taker bs c.args.number.0) c.as_slice.ensures.value) ∙ c.in-Some.is in
    first_link-noted records namers c.args.number.0 c.in-Some.first c.self.invariant.1 noted k item (ap (λ journal. record_at journal k) c.self.view_is ∙ held) names

pub returns-in-None : goal.returns-in-None
returns-in-None c =
    let records = c.self.inside.records.items in
    let namers = c.self.inside.namers.items in
    let noted : taker namers c.args.number.0 ≡ None =
    sym (c.taker.ensures ∙ ap (λ bs. taker bs c.args.number.0) c.as_slice.ensures.value) ∙ c.in-None.is in
    sym (ap (option_map record_number) (ap (λ journal. first_link journal c.args.number.0) (sym c.self.view_is) ∙ first_link-none records namers c.args.number.0 c.self.invariant.1 noted))
