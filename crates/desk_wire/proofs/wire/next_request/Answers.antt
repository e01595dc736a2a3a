-- What the rules answer stays, is the one answer, and lies within the limits.
use Rattle.std.proofs.Common.{subst}
use Rattle.desk_wire.proofs.RuleLemmas.{Answers-append, Answers-unique, Answers-within, IsWithinLimits, whole_within}
use Rattle.desk_wire.proofs.wire.next_request.Goals as goal

pub returns-clause-settled : goal.returns-clause-settled
returns-clause-settled c = λ settled more. Answers-append c.args.buffer.now more c.first_answer.result c.first_answer.ensures settled

pub returns-clause-one_answer : goal.returns-clause-one_answer
returns-clause-one_answer c = λ settled more wire answers other.
    Answers-unique _ wire c.first_answer.result answers
    (Answers-append c.args.buffer.now more c.first_answer.result c.first_answer.ensures settled) other settled

pub returns-clause-within : goal.returns-clause-within
returns-clause-within c = whole_within c.args.buffer.now c.first_answer.result c.first_answer.ensures

pub returns-clause-short : goal.returns-clause-short
returns-clause-short c = λ more.
    subst (IsWithinLimits c.args.buffer.now) more (Answers-within c.args.buffer.now c.first_answer.result c.first_answer.ensures)
