use Rattle.repost_laws.proofs.WholeSteps.{IsBuildOf-start, IsBuildOf-change, IsBuildOf-turn, IsBuildOf-published}
use Rattle.repost_laws.proofs.whole_laws.a_build_stays_one.Goals as goal

pub returns-clause-start : goal.returns-clause-start
returns-clause-start c = IsBuildOf-start

pub returns-clause-change : goal.returns-clause-change
returns-clause-change c = IsBuildOf-change

pub returns-clause-turn : goal.returns-clause-turn
returns-clause-turn c = IsBuildOf-turn

pub returns-clause-publication : goal.returns-clause-publication
returns-clause-publication c = IsBuildOf-published
