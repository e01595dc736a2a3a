-- The lock ended, and its history tells what desks did at the listener.
use Rattle.desk_service.proofs.ending.unshare.Goals as goal

pub returns : goal.returns
returns g c = record {
  shared = c.close_all-shared.result;
  closed = c.close_all-shared.ensures.closed;
  is_shared = c.into_listener.ensures;
  count = c.came-accepted.ensures;
}
