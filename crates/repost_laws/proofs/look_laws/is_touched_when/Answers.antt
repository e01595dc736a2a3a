use Rattle.repost_laws.proofs.LooksTouched.{touched-looks}
use Rattle.repost_laws.proofs.look_laws.is_touched_when.Goals as goal

pub returns : goal.returns
returns c = touched-looks
