use Rattle.repost_laws.proofs.LooksTouched.{touched_by-looks}
use Rattle.repost_laws.proofs.look_laws.is_touched_by_when.Goals as goal

pub returns : goal.returns
returns c = touched_by-looks
