-- The peer was served, and is handed back as it is then.
use Rattle.std.proofs.Common.{refl}
use Rattle.desk_connections.specs.Visits.{learnt}
use Rattle.desk_connections.proofs.desk.serve_one.Goals as goal

pub returns-clause-served : goal.returns-clause-served
returns-clause-served g c =
    let left = c.serve_desk_mirrored-left in
    record {
      visit = record {
        peer = c.args.peer;
        peer_then = left.new.link;
        old = learnt c.args.desk.pass.view c.args.desk.reader;
        new = learnt left.result.pass.view left.result.reader;
      };
      is = record {
        over = left.ensures.ended;
        end = left.result.end;
        serves = left.ensures.serves;
        still_open = left.ensures.still_open;
      };
      of = refl;
      before = refl;
      after = refl;
      went = c.give_back.ensures.noted;
    }
