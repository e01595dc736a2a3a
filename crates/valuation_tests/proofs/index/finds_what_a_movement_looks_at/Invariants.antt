-- The issue stands alone, and then the receipt is put in.
use Rattle.std.proofs.Common.{[], ◌∷◌}
use Rattle.stock_model.specs.PostingOrder.{put}
use Rattle.valuation_tests.proofs.index.finds_what_a_movement_looks_at.Given as goal

abbrev pub ghost-put_second : goal.ghost-put_second
ghost-put_second g a = a.first.now ∷ []

abbrev pub ghost-are_found : goal.ghost-are_found
ghost-are_found g a = put (a.issued.now ∷ []) a.received.now
