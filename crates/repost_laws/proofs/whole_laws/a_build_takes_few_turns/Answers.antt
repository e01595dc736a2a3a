use Rattle.repost_laws.proofs.whole_laws.a_build_takes_few_turns.Goals as goal

pub returns : goal.returns
returns c = λ journal n found suspects valued fetches turns build. build.counted.few.bound
