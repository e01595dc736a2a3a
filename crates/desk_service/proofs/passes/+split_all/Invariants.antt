use Rattle.desk_service.proofs.passes.+split_all.Given as goal

abbrev pub decreases-split_all : goal.decreases-split_all
decreases-split_all g l = l.desks
