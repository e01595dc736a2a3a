use Rattle.session_laws.proofs.AnswerCases.{own-deeds}
use Rattle.session_laws.proofs.answer_laws.a_desk_adds_its_own.Goals as goal

pub returns : goal.returns
returns c desk history request answer kept = own-deeds desk history answer kept request
