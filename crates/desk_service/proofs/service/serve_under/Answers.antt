-- What a service does, by what its team and the ends of its locks tell.
use Rattle.std.proofs.Common.{◌≡◌, List, None, length, sym, ap, ◌∙◌, subst}
use Rattle.stock_io.specs.Heard.{heard}
use Rattle.stock_io.specs.Listeners.{IsFresh}
use Rattle.stock_model.specs.History.{covered_records}
use Rattle.stock_model.specs.declared.deeds.Deed.{Deed}
use Rattle.stock_model.specs.declared.records.Record.{Record}
use Rattle.turn_lock.specs.Histories.{BeginsWith}
use Rattle.turn_lock.specs.Views.{opened}
use Rattle.turn_lock.specs.declared.view.Start.{Start}
use Rattle.turn_lock.specs.declared.view.View.{View}
use Rattle.turn_lock.proofs.Lists.{begins_self}
use Rattle.session_laws.specs.Makers.{with_makers, without_makers}
use Rattle.session_laws.proofs.MakersOf.{without_makers-with_makers}
use Rattle.generation_book.specs.Follows.{start_of, Follows}
use Rattle.repost_worker.specs.Turns.{IsWorkOf}
use Rattle.desk_service.specs.Passes.{passes_from}
use Rattle.desk_service.proofs.Coming.{visited, told_first, count, within, port_kept}
use Rattle.desk_service.proofs.SplitOff.{passes_from-length, opened-passes, opened-split}
use Rattle.desk_service.proofs.Together.{of_lock, of_way_lock, split_is, start_is, works_count, ways_count, service_is, work_is}
use Rattle.desk_service.proofs.service.serve_under.Goals as goal

pub in_threads-team-requires-clause-work : goal.in_threads-team-requires-clause-work
in_threads-team-requires-clause-work g c κs _ =
    let history = c.args.locks.book.value.history in
    let seen_is : c.split_all-pass.result.pass.view.seen ≡ with_makers history =
    ap (λ (v : View Deed). v.seen) c.split_all-pass.ensures.pass ∙ ap (λ (v : View Deed). v.seen) c.requires.pass
    in
    subst (λ (h : List Deed). IsWorkOf h c.args.build) (sym (ap without_makers seen_is ∙ without_makers-with_makers history)) c.requires.work

pub in_threads-team-requires-clause-shown : goal.in_threads-team-requires-clause-shown
in_threads-team-requires-clause-shown g c κs _ =
    let history = c.args.locks.book.value.history in
    let seen_is : c.split_all-pass.result.pass.view.seen ≡ with_makers history =
    ap (λ (v : View Deed). v.seen) c.split_all-pass.ensures.pass ∙ ap (λ (v : View Deed). v.seen) c.requires.pass
    in
    let covers : covered_records (without_makers c.split_all-pass.result.pass.view.seen) ≡ c.args.writer =
    ap covered_records (ap without_makers seen_is ∙ without_makers-with_makers history) ∙ sym c.requires.shown
    in
    subst (λ (records : List Record). BeginsWith records c.args.writer) (sym covers) (begins_self c.args.writer)

pub in_threads-team-requires-clause-passes : goal.in_threads-team-requires-clause-passes
in_threads-team-requires-clause-passes g c κs _ =
    let book = c.args.locks.book.value in
    let lock = c.args.locks.lock.lock in
    let known = opened (with_makers book.history) book.keeper.faults (start_of book) in
    let are = opened-passes lock _ (with_makers book.history) book.keeper.faults c.args.locks.desks _ _ _ c.requires.locked.0 c.requires.pass c.split_all-pass.ensures.passes in
    (known, are ∙ ap (passes_from lock known 1) (sym (ap length are ∙ passes_from-length lock known 1 c.args.locks.desks)))

pub in_threads-team-requires-clause-ways : goal.in_threads-team-requires-clause-ways
in_threads-team-requires-clause-ways g c κs _ =
    let way = c.requires.way in
    let lock = c.args.locks.shared.lock in
    let known = opened way.log 0 _ in
    let are = opened-passes lock _ way.log 0 c.args.locks.desks _ _ _ c.requires.shared.0 way.view c.split_all-way.ensures.passes in (
      known,
      record { opening = way.is_opened.0; opened = way.is_opened.1; begins = begins_self way.log },
      are ∙ ap (passes_from lock known 1) (sym (ap length are ∙ passes_from-length lock known 1 c.args.locks.desks)),
    )

pub ended-requires-clause-of_lock : goal.ended-requires-clause-of_lock
ended-requires-clause-of_lock g c κs _ =
    let book = c.args.locks.book.value in
    let lock = c.args.locks.lock.lock in
    let desks = c.args.locks.desks in
    let are = opened-passes lock _ (with_makers book.history) book.keeper.faults desks _ _ _ c.requires.locked.0 c.requires.pass c.split_all-pass.ensures.passes in
    let split = opened-split (with_makers book.history) book.keeper.faults desks _ _ _ c.requires.pass c.split_all-pass.ensures.pass in
    of_lock _ _ _ _ _ lock book.history book.keeper.faults desks _ _ _ _ _ _ _ _ _ _ _ _ _ split are c.in_threads-team.ensures.teamwork

pub ended-requires-clause-split : goal.ended-requires-clause-split
ended-requires-clause-split g c κs _ =
    let book = c.args.locks.book.value in
    let lock = c.args.locks.lock.lock in
    let desks = c.args.locks.desks in
    let are = opened-passes lock _ (with_makers book.history) book.keeper.faults desks _ _ _ c.requires.locked.0 c.requires.pass c.split_all-pass.ensures.passes in
    let split = opened-split (with_makers book.history) book.keeper.faults desks _ _ _ c.requires.pass c.split_all-pass.ensures.pass in
    split_is _ _ _ _ _ lock book.history book.keeper.faults desks _ _ _ _ _ _ _ _ _ _ _ _ _ split are c.in_threads-team.ensures.teamwork

pub ended-requires-clause-of_way_lock : goal.ended-requires-clause-of_way_lock
ended-requires-clause-of_way_lock g c κs _ =
    let book = c.args.locks.book.value in
    let lock = c.args.locks.lock.lock in
    let desks = c.args.locks.desks in
    let are = opened-passes lock _ (with_makers book.history) book.keeper.faults desks _ _ _ c.requires.locked.0 c.requires.pass c.split_all-pass.ensures.passes in
    let split = opened-split (with_makers book.history) book.keeper.faults desks _ _ _ c.requires.pass c.split_all-pass.ensures.pass in
    let way = c.requires.way in
    let ways_are = opened-passes c.args.locks.shared.lock _ way.log 0 desks _ _ _ c.requires.shared.0 way.view c.split_all-way.ensures.passes in
    of_way_lock _ _ _ _ _ lock book.history book.keeper.faults desks _ _ _ _ _ _ _ _ _ _ _ _ _ split are c.in_threads-team.ensures.teamwork
    c.args.locks.shared.lock (opened way.log 0 (record { plan = None; calls = 0; events = 0 })) ways_are

pub ended-requires-clause-ways_split : goal.ended-requires-clause-ways_split
ended-requires-clause-ways_split g c κs _ =
    let book = c.args.locks.book.value in
    let lock = c.args.locks.lock.lock in
    let desks = c.args.locks.desks in
    let are = opened-passes lock _ (with_makers book.history) book.keeper.faults desks _ _ _ c.requires.locked.0 c.requires.pass c.split_all-pass.ensures.passes in
    let split = opened-split (with_makers book.history) book.keeper.faults desks _ _ _ c.requires.pass c.split_all-pass.ensures.pass in
    let way = c.requires.way in
    let way_split = opened-split way.log 0 desks _ _ _ way.view c.split_all-way.ensures.pass in
    ap (λ v. v.split) way_split
    ∙ sym (ways_count _ _ _ _ _ lock book.history book.keeper.faults desks _ _ _ _ _ _ _ _ _ _ _ _ _ split are c.in_threads-team.ensures.teamwork)

pub returns-clause-served : goal.returns-clause-served
returns-clause-served g c =
    let book = c.args.locks.book.value in
    let lock = c.args.locks.lock.lock in
    let desks = c.args.locks.desks in
    let are = opened-passes lock _ (with_makers book.history) book.keeper.faults desks _ _ _ c.requires.locked.0 c.requires.pass c.split_all-pass.ensures.passes in
    let split = opened-split (with_makers book.history) book.keeper.faults desks _ _ _ c.requires.pass c.split_all-pass.ensures.pass in
    let team = c.in_threads-team.ensures.teamwork in
    let way = c.requires.way in
    let way_split = opened-split way.log 0 desks _ _ _ way.view c.split_all-way.ensures.pass in
    let telling = heard g.L.Listener.waiting g.L.Listener.hung_up g.L.Listener.accepts g.L.Listener.hang_ups g.L.Listener.faults in
    let is_fresh = IsFresh g.P.Source.taken g.P.Sink.written g.P.Source.faults g.P.Link.ended in
    let as_many = works_count _ _ _ _ _ lock book.history book.keeper.faults desks _ _ _ _ _ _ _ _ _ _ _ _ _ split are team in
    let is = visited _ _ _ _ _ telling _ is_fresh c.args.locks.listener.value desks c.args.locks.connections way.log way.is_opened _ way_split
    team.serving.works team.serving.attended as_many _ team.serving.ways_after _ _ c.ended.ensures.unshared in
    let told = told_first _ _ _ _ _ telling _ is_fresh c.args.locks.listener.value desks c.args.locks.connections way.log way.is_opened _ way_split
    team.serving.works team.serving.attended as_many _ team.serving.ways_after _ _ c.ended.ensures.unshared c.requires.desks.0 in
    let came = count _ _ _ _ _ telling _ is_fresh c.args.locks.listener.value desks c.args.locks.connections way.log way.is_opened _ way_split
    team.serving.works team.serving.attended as_many _ team.serving.ways_after _ _ c.ended.ensures.unshared in
    let inside = within _ _ _ _ _ telling _ is_fresh c.args.locks.listener.value desks c.args.locks.connections way.log way.is_opened _ way_split
    team.serving.works team.serving.attended as_many _ team.serving.ways_after _ _ c.ended.ensures.unshared in
    service_is _ _ _ _ _ lock book.history book.keeper.faults desks _ _ _ _ _ _ _ _ _ _ _ _ _ split are team c.ended.result.book.history
    c.ended.result.book.keeper.faults c.ended.ensures.closed c.ended.ensures.legal c.the_ledger_keeps_the_stock.ensures c.ended.ensures.met is_fresh
    c.args.locks.connections (telling c.args.locks.listener.value) (telling c.ended.result.listener) _ c.ended.result.accepted is told came inside

pub returns-clause-follows : goal.returns-clause-follows
returns-clause-follows g c =
    let book = c.args.locks.book.value in
    let lock = c.args.locks.lock.lock in
    let desks = c.args.locks.desks in
    let are = opened-passes lock _ (with_makers book.history) book.keeper.faults desks _ _ _ c.requires.locked.0 c.requires.pass c.split_all-pass.ensures.passes in
    let split = opened-split (with_makers book.history) book.keeper.faults desks _ _ _ c.requires.pass c.split_all-pass.ensures.pass in
    subst (λ (noted : Start). Follows noted c.ended.result.book)
    (start_is _ _ _ _ _ lock book.history book.keeper.faults desks _ _ _ _ _ _ _ _ _ _ _ _ _ split are c.in_threads-team.ensures.teamwork)
    c.ended.ensures.follows

pub returns-clause-port_kept : goal.returns-clause-port_kept
returns-clause-port_kept g c =
    let book = c.args.locks.book.value in
    let lock = c.args.locks.lock.lock in
    let desks = c.args.locks.desks in
    let are = opened-passes lock _ (with_makers book.history) book.keeper.faults desks _ _ _ c.requires.locked.0 c.requires.pass c.split_all-pass.ensures.passes in
    let split = opened-split (with_makers book.history) book.keeper.faults desks _ _ _ c.requires.pass c.split_all-pass.ensures.pass in
    let team = c.in_threads-team.ensures.teamwork in
    let way = c.requires.way in
    let way_split = opened-split way.log 0 desks _ _ _ way.view c.split_all-way.ensures.pass in
    let telling = heard g.L.Listener.waiting g.L.Listener.hung_up g.L.Listener.accepts g.L.Listener.hang_ups g.L.Listener.faults in
    let is_fresh = IsFresh g.P.Source.taken g.P.Sink.written g.P.Source.faults g.P.Link.ended in
    let as_many = works_count _ _ _ _ _ lock book.history book.keeper.faults desks _ _ _ _ _ _ _ _ _ _ _ _ _ split are team in
    port_kept _ _ _ _ _ telling _ is_fresh c.args.locks.listener.value desks c.args.locks.connections way.log way.is_opened _ way_split
    team.serving.works team.serving.attended as_many _ team.serving.ways_after _ _ c.ended.ensures.unshared

pub returns-clause-work : goal.returns-clause-work
returns-clause-work g c =
    let book = c.args.locks.book.value in
    let lock = c.args.locks.lock.lock in
    let desks = c.args.locks.desks in
    let are = opened-passes lock _ (with_makers book.history) book.keeper.faults desks _ _ _ c.requires.locked.0 c.requires.pass c.split_all-pass.ensures.passes in
    let split = opened-split (with_makers book.history) book.keeper.faults desks _ _ _ c.requires.pass c.split_all-pass.ensures.pass in
    subst (IsWorkOf c.ended.result.book.history) (sym c.ended.ensures.build)
    (work_is _ _ _ _ _ lock book.history book.keeper.faults desks _ _ _ _ _ _ _ _ _ _ _ _ _ split are c.in_threads-team.ensures.teamwork
    c.ended.result.book.history c.ended.result.book.keeper.faults c.ended.ensures.closed)
