use Rattle.repost_worker.proofs.RunLaws.{few-run, covered-many}
use Rattle.repost_worker.proofs.run_laws.few_turns_cover_all.Goals as goal

pub returns-clause-few : goal.returns-clause-few
returns-clause-few c = λ limit stopped history history' build build' steps steps' work run.
    few-run limit stopped history history' build build' steps steps' run work

pub returns-clause-all : goal.returns-clause-all
returns-clause-all c = covered-many
