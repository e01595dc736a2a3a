-- The indexed record is the one with the number.
use Rattle.std.proofs.Common.{◌≡◌, sym, ◌∙◌}
use Rattle.std.proofs.lemmas.Result.{IfOk-weaker}
use Rattle.voucher_kinds.proofs.At.{entries_of-index}
use Rattle.voucher_kinds.proofs.journal.Journal.entries_of.Goals as goal

pub returns : goal.returns
returns c =
    let same : c.as_slice-records.result.now ≡ c.args.self.now = cc in
    IfOk-weaker c.entries.result _ _ (λ es e. e ∙ sym (rw (← same) (entries_of-index c.as_slice-records.result.now c.args.number.0 c.index-records-index.result c.requires.one (rw same c.requires.held) c.index-records-index.is))) c.entries.ensures
