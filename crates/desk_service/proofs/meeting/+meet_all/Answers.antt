-- The last reader has read what is shown, and then the rest.
use Rattle.std.proofs.Common.{List, sym, subst}
use Rattle.std.specs.Prelude.{All}
use Rattle.turn_lock.specs.Histories.{BeginsWith}
use Rattle.stock_model.specs.declared.records.Record.{Record}
use Rattle.desk_service.proofs.SplitOff.{All-last}
use Rattle.desk_service.proofs.meeting.+meet_all.Goals as goal

pub returns-in-Some : goal.returns-in-Some
returns-in-Some g t c =
    let shows = λ (read : List Record). BeginsWith c.args.writer.now read in
    let last = c.in-Some.reader in
    subst (All shows) (sym c.in-Some.ensures.items)
    (All-last shows c.pop.new.self.items last c.meet_all.ensures
    (subst (λ (now : List Record). BeginsWith now last) c.meet.ensures.now c.meet.ensures.grows))
