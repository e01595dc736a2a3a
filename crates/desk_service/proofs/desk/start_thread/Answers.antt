-- What a desk's thread takes may cross to it, and a closure that comes back is the one that was given.
use denote.Param.Send.{sendable}
use Rattle.std.proofs.Common.{[], sym, subst}
use Rattle.std.proofs.Crossing.{crosses}
use Rattle.std.proofs.alloc.Global.TheSendSync as heap
use Rattle.stock_nums.proofs.numbers.DeskNo.TheSendSync as number
use Rattle.turn_lock.proofs.lock.TurnLock.TheSendSync as lock
use Rattle.turn_lock.proofs.pass.Pass.TheSendSync as pass
use Rattle.shared_listener.specs.Steps.{NotesCame}
use Rattle.report_mirror.proofs.reader.MirrorReader.TheSendSync as reader
use Rattle.generation_book.proofs.book.Book.TheSendSync as book
use Rattle.desk_service.proofs.desk.start_thread.Goals as goal

-- Of a book and a reader it is known whole: what they hold is not looked through.
pub spawn_with-requires-send-F : goal.spawn_with-requires-send-F
spawn_with-requires-send-F g c κs within =
    let keeper = c.type_bounds.send-K in
    let listener = c.type_bounds.send-L in
    let peer = c.type_bounds.send-L-Peer in
    let runtime = c.type_bounds.sync-R in
    search (pass.the_send, lock.the_sync, book.the_send, reader.the_send, number.the_send, heap.the_send, crosses, sendable) depth 40

pub job-pass-requires-clause-came : goal.job-pass-requires-clause-came
job-pass-requires-clause-came g c κs within =
    subst (λ job. NotesCame job.6.0 job.7 [] job.2.view.made) (sym c.in-Err.ensures.err) c.requires.came
