use Rattle.stock_io.proofs.Slices.{piece-copied}
use Rattle.stock_io.proofs.sure.SureSourceSource.read.Goals as goal

pub returns-clause-bytes : goal.returns-clause-bytes
returns-clause-bytes c =
    let same = c.as_slice.ensures in
    let count = rw same at c.copy_front-n.ensures.count in
    let copied = rw same at c.copy_front-n.ensures.copied in
    rw (← c.self.view_is, copied) (piece-copied c.self.inside.bytes c.args.buf.now c.self.inside.taken c.min.result c.copy_front-n.result count)
