-- The empty journal.
use Rattle.voucher_kinds.proofs.Kept.{IsJournal-start}
use Rattle.voucher_kinds.proofs.Named.{namers-start}
use Rattle.voucher_kinds.proofs.journal.Journal.new.Goals as goal

pub invariant_of-result : goal.invariant_of-result
invariant_of-result c = (
  IsJournal-start c.new.result.items c.new-2.result c.new-3.result c.new-4.result.items c.new.ensures.items
      (λ i. record { items = c.new-2.ensures.items i; stores = c.new-2.ensures.stores i }) c.new-3.ensures c.new-4.ensures.items,
  namers-start c.new.result.items c.new-5.result.items c.new.ensures.items c.new-5.ensures.items,
)
