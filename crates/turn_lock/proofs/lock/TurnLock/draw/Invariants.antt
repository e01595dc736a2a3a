use Rattle.std.proofs.Common.{◌≡◌, ◌^◌, ◌<◌}
use Rattle.turn_lock.proofs.lock.TurnLock.draw.Given as goal

abbrev pub invariant-loop : goal.invariant-loop
invariant-loop g l = record { same_table : l.seat.table_id ≡ l.initial.seat.table_id; same : l.seat.me ≡ l.initial.seat.me; small : l.next < 2 ^ 62 }
