use Rattle.repost_laws.proofs.LooksLeft.{left-before, left-later, left-none}
use Rattle.repost_laws.proofs.look_laws.left_by_one_line.Goals as goal

pub returns-clause-before : goal.returns-clause-before
returns-clause-before c = left-before

pub returns-clause-later : goal.returns-clause-later
returns-clause-later c = left-later

pub returns-clause-none : goal.returns-clause-none
returns-clause-none c = left-none
