use Rattle.stock_nums.proofs.MomentSpelling.{one_spelling, one_moment}
use Rattle.stock_nums.proofs.moment_text.moments_have_one_spelling.Goals as goal

pub returns-clause-one_spelling : goal.returns-clause-one_spelling
returns-clause-one_spelling c = one_spelling

pub returns-clause-one_moment : goal.returns-clause-one_moment
returns-clause-one_moment c = one_moment
