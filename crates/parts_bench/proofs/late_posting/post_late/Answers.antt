-- The build follows the book with one record more.
use Rattle.std.proofs.Common.{List, sym, subst}
use Rattle.stock_model.specs.declared.deeds.Deed.{Deed}
use Rattle.repost_worker.specs.Turns.{IsWorkOf}
use Rattle.repost_worker.proofs.Works.{work-kept}
use Rattle.parts_bench.proofs.late_posting.post_late.Goals as goal

pub returns-in-Ok : goal.returns-in-Ok
returns-in-Ok c = record {
  work = subst (λ (history : List Deed). IsWorkOf history c.args.build.now) (sym c.in-Ok.ensures.kept)
      (work-kept c.args.book.now.history c.args.build.now c.in_ok-record.record c.requires.work);
}
