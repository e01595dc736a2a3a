use Rattle.repost_laws.proofs.ClosedRows.{closed_rows-stay}
use Rattle.repost_laws.proofs.closing_laws.closed_rows_stay.Goals as goal

pub returns : goal.returns
returns c = closed_rows-stay
