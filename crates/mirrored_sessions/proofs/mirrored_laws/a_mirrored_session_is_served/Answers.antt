-- A session without the mirror is served, and what was read is covered in the end.
use Rattle.std.proofs.Common.{arith}
use Rattle.stock_model.specs.History.{covered_records}
use Rattle.session_laws.proofs.Serving.{Served-by_session}
use Rattle.mirrored_sessions.specs.Steps.{turned_in}
use Rattle.mirrored_sessions.proofs.StepLemmas.{AreNoFewer-less, All-longer}
use Rattle.mirrored_sessions.proofs.mirrored_laws.a_mirrored_session_is_served.Goals as goal

pub returns : goal.returns
returns c desk first final old new steps session begins ends made covers =
    record {
      served = Served-by_session desk first final old.view new.view (turned_in steps) session.session begins ends made;
      readings = All-longer (covered_records final) new.read steps covers session.readings;
      no_fewer = AreNoFewer-less 0 old.printed steps (omega arith) session.no_fewer;
    }
