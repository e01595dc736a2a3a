-- What is under the locks is the book and the listener that were given.
use Rattle.std.proofs.Common.{ℕ, ap, ◌∙◌, subst}
use Rattle.stock_io.specs.Heard.{heard}
use Rattle.stock_io.specs.Listeners.{IsFresh}
use Rattle.generation_book.specs.Follows.{start_of, Follows}
use Rattle.desk_service.specs.Service.{IsService, AreServedBy}
use Rattle.desk_service.proofs.service.serve.Goals as goal

pub returns-in-Ok-lock_both-clause-served : goal.returns-in-Ok-lock_both-clause-served
returns-in-Ok-lock_both-clause-served g c =
    let telling = heard g.L.Listener.waiting g.L.Listener.hung_up g.L.Listener.accepts g.L.Listener.hang_ups g.L.Listener.faults in
    let serves = AreServedBy g.P.Source.left g.P.Source.taken g.P.Sink.written g.P.Source.faults g.P.Link.ended in
    let is_fresh = IsFresh g.P.Source.taken g.P.Sink.written g.P.Source.faults g.P.Link.ended in
    let locks = c.in-Ok-lock_both.locks in
    let locked = c.in-Ok-lock_both.ensures in
    let served = c.serve_under.result in
    subst (λ listener. IsService serves is_fresh c.args.desks c.args.connections served.accepted c.args.book.history served.book.history
    c.args.book.keeper.faults served.book.keeper.faults (telling listener) (telling served.listener)) locked.listener
    (subst (λ book. IsService serves is_fresh c.args.desks c.args.connections served.accepted book.history served.book.history
    book.keeper.faults served.book.keeper.faults (telling locks.listener.value) (telling served.listener)) locked.book
    (subst (λ (n : ℕ). IsService serves is_fresh c.args.desks n served.accepted locks.book.value.history served.book.history
    locks.book.value.keeper.faults served.book.keeper.faults (telling locks.listener.value) (telling served.listener)) locked.desks.1
    (subst (λ (n : ℕ). IsService serves is_fresh n locks.connections served.accepted locks.book.value.history served.book.history
    locks.book.value.keeper.faults served.book.keeper.faults (telling locks.listener.value) (telling served.listener)) locked.desks.0
    c.serve_under.ensures.served)))

pub returns-in-Ok-lock_both-clause-follows : goal.returns-in-Ok-lock_both-clause-follows
returns-in-Ok-lock_both-clause-follows g c =
    subst (λ book. Follows (start_of book) c.serve_under.result.book) c.in-Ok-lock_both.ensures.book c.serve_under.ensures.follows

pub returns-in-Ok-lock_both-clause-port_kept : goal.returns-in-Ok-lock_both-clause-port_kept
returns-in-Ok-lock_both-clause-port_kept g c =
    c.serve_under.ensures.port_kept ∙ ap g.L.Listener.listens_to c.in-Ok-lock_both.ensures.listener

pub returns-in-Ok-lock_both-clause-work : goal.returns-in-Ok-lock_both-clause-work
returns-in-Ok-lock_both-clause-work g c = c.serve_under.ensures.work
