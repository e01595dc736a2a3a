use Rattle.repost_laws.proofs.FirstSuspect.{first-worth, first-can}
use Rattle.repost_laws.proofs.value_laws.the_first_suspect_is_valued_for_good.Goals as goal

pub returns-clause-worth : goal.returns-clause-worth
returns-clause-worth c = first-worth

pub returns-clause-can : goal.returns-clause-can
returns-clause-can c = first-can
