-- To read what is shown changes nothing of it.
use Rattle.turn_lock.proofs.Lists.{begins_self}
use Rattle.report_mirror.proofs.Growing.{meets}
use Rattle.report_mirror.proofs.reader.enter.Goals as goal

pub enter_as-requires : goal.enter_as-requires
enter_as-requires g c shown = meets _ _ shown shown (begins_self shown)
