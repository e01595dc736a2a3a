use Rattle.std.proofs.Common.{vec_len}
use Rattle.desk_service.proofs.accepting.+accept_all.Given as goal

abbrev pub decreases-accept_all : goal.decreases-accept_all
decreases-accept_all g l = vec_len l.desks.passes
