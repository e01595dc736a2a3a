-- What is kept is not published.
use Rattle.std.proofs.Common.{◌∷◌, [], ap, ◌∙◌}
use Rattle.stock_model.specs.History.{covered}
use Rattle.stock_model.specs.declared.deeds.Deed.TheVariants.{Kept}
use Rattle.stock_laws.proofs.Histories.{covered_after-append}
use Rattle.parts_bench.proofs.late_posting.post.Goals as goal

pub returns-in-Ok : goal.returns-in-Ok
returns-in-Ok c = record {
  none = ap covered c.in-Ok.ensures.kept ∙ covered_after-append 0 c.args.book.now.history (Kept c.args.record ∷ []) ∙ c.requires.none;
}
