-- What was tried is what the book tells.
use Rattle.std.proofs.Common.{List, subst}
use Rattle.stock_model.specs.declared.deeds.Deed.{Deed}
use Rattle.kept_tables.specs.Kept.{IsKept}
use Rattle.stock_ends.proofs.opening.keeper_of.Goals as goal

pub returns-clause-kept : goal.returns-clause-kept
returns-clause-kept g c = (
  c.into_book.result.tried,
  subst (λ (h : List Deed). IsKept (g.K.Keeper.tells c.into_keeper.result) (g.K.Keeper.may_leave c.into_keeper.result) h c.into_book.result.tried)
      c.into_book.ensures.history c.into_keeper.ensures.kept,
)
