-- A reader may come at any time.
use Rattle.report_mirror.proofs.Growing.{admits}
use Rattle.report_mirror.proofs.mirror.readers_of.Goals as goal

pub reader-requires : goal.reader-requires
reader-requires c = admits
