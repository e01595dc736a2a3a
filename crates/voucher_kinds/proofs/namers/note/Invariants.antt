-- Each target so far is noted, and nothing is noted later than it was.
use Rattle.std.proofs.Common.{◌≡◌, ℕ, ◌<◌, ◌≤◌, true, false, length}
use Rattle.std.specs.Prelude.{slice_get}
use Rattle.std.specs.Option.{option_map_or}
use Rattle.stock_model.specs.Cancelling.{is_line_of}
use Rattle.stock_model.specs.VoucherLines.{targets_of}
use Rattle.voucher_kinds.specs.Journals.{IsFrom, KeepsFirst, taker}
use Rattle.voucher_kinds.proofs.namers.note.Given as goal

abbrev pub invariant-loop-index : goal.invariant-loop-index
invariant-loop-index l =
    (length l.namers ≡ length l.initial.namers)
    × KeepsFirst l.initial.namers l.namers
    × ((n j : ℕ) → j < l.index → 0 < n → n ≤ length l.initial.namers → option_map_or (is_line_of n) (slice_get (targets_of l.what) j) false ≡ true → IsFrom (taker l.namers n) l.by.0)
