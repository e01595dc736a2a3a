-- Nothing was refused, so what is covered is all that was accepted.
use Rattle.std.proofs.Common.{Option, refl, ap, ◌∙◌, subst}
use Rattle.stock_keeper.specs.declared.fault.KeepFault.{KeepFault}
use Rattle.repost_worker.specs.Published.{Publishes}
use Rattle.stock_serving.specs.Serving.{summary_text}
use Rattle.stock_serving.proofs.serving.settle.Goals as goal

pub returns-in-Ok-clause-settles : goal.returns-in-Ok-clause-settles
returns-in-Ok-clause-settles g c =
    let old = c.args.book.now in
    let new = c.work.new.self in (
      record {
        publishes =
            subst (λ (stopped : Option KeepFault). Publishes stopped old.history old.keeper new.history new.keeper) c.in-None.is
            c.work.ensures.publishes;
        covers = c.work.ensures.all refl c.in-None.is;
      },
      c.in-Ok.ensures ∙ ap summary_text c.book.ensures.history,
    )
