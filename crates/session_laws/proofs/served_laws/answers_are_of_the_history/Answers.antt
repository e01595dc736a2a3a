use Rattle.session_laws.proofs.Sentences.{answered-on, accepted-as, nothing-kept, failed-post, turns-in_order}
use Rattle.session_laws.proofs.served_laws.answers_are_of_the_history.Goals as goal

pub returns-clause-answered : goal.returns-clause-answered
returns-clause-answered c = answered-on

pub returns-clause-accepted : goal.returns-clause-accepted
returns-clause-accepted c desk first final exchanges t n served within =
    accepted-as desk first final exchanges t served within n

pub returns-clause-nothing_kept : goal.returns-clause-nothing_kept
returns-clause-nothing_kept c = nothing-kept

pub returns-clause-store_failed : goal.returns-clause-store_failed
returns-clause-store_failed c = failed-post

pub returns-clause-in_order : goal.returns-clause-in_order
returns-clause-in_order c = turns-in_order
