-- The first link of what is left is the first link of all.
use Rattle.std.proofs.Common.{◌≡◌, ◌+◌, drop}
use Rattle.std.specs.List.{enumerate_from, find}
use Rattle.stock_model.specs.Cancelling.{first_link, is_link}
use Rattle.voucher_kinds.proofs.journal.Journal.link_from.Given as goal

abbrev pub invariant-loop-index : goal.invariant-loop-index
invariant-loop-index l = find (is_link l.self l.number.0) (enumerate_from (l.index + 1) (drop l.index l.self)) ≡ first_link l.self l.number.0
