-- There are no more turns than the build keeps count of.
use Rattle.repost_build.proofs.build.Build.turns.Goals as goal

pub returns-clause-few : goal.returns-clause-few
returns-clause-few g c = c.requires.built.counted.few.bound
