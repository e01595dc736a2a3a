-- The first peer is served by the first desk, and the others by the rest.
use Rattle.std.proofs.Common.{ℕ, ◌≤◌, ◌≡◌, List, [], ◌∷◌, length, refl, sym, ap, ◌∙◌, subst, arith, rules}
use Rattle.turn_lock.specs.Passes.{PassView}
use Rattle.stock_model.specs.declared.deeds.Deed.{Deed}
use Rattle.stock_model.specs.declared.records.Record.{Record}
use Rattle.desk_service.specs.Desks.{Work}
use Rattle.desk_service.proofs.AtWork.{attends}
use Rattle.desk_service.proofs.Beginning.{Serving-none, Serving-more, IsBegun-found, IsWay-fresh}
use Rattle.desk_service.proofs.SplitOff.{popped}
use Rattle.desk_service.proofs.accepting.+accept_all.Goals as goal

no_items : {A : Type 0} (items : List A) → length items ≡ 0 → items ≡ []
no_items [] none = refl
no_items (item ∷ items) none = absurd (omega (arith, none))

pub returns-then-is_empty-clause-serving : goal.returns-then-is_empty-clause-serving
returns-then-is_empty-clause-serving g t c =
    let none : c.args.desks.passes.items ≡ [] = grind rules in
    let no_read : c.args.desks.readers.items ≡ [] = no_items c.args.desks.readers.items (omega (arith, c.requires.as_many.1, ap length none)) in
    let no_way : c.args.desks.ways.items ≡ [] = grind rules in
    Serving-none (attends g.L.Peer.Source.left g.L.Peer.Source.taken g.L.Peer.Sink.written g.L.Peer.Source.faults g.L.Peer.Link.ended) c.args.next.0
    c.args.desks.passes.items c.args.desks.readers.items c.args.desks.ways.items none no_read no_way

pub open-started-requires-clause-same_lock : goal.open-started-requires-clause-same_lock
open-started-requires-clause-same_lock g t c κs within =
    let first = c.first_of-desk in
    let p = popped c.args.commons.now.lock.lock c.requires.passes.0 c.args.next.0 c.args.desks.passes.items first.result.others.passes.items first.result.desk.pass
    c.requires.passes.1 first.ensures.passes in
    ap (λ p. p.lock) p.pass_is

pub open-started-requires-clause-same_way_lock : goal.open-started-requires-clause-same_way_lock
open-started-requires-clause-same_way_lock g t c κs within =
    let first = c.first_of-desk in
    let p = popped c.args.commons.now.shared.lock c.requires.ways.0 c.args.next.0 c.args.desks.ways.items first.result.others.ways.items first.result.desk.way
    c.requires.ways.2 first.ensures.ways in
    ap (λ p. p.lock) p.pass_is

pub open-started-requires-clause-number : goal.open-started-requires-clause-number
open-started-requires-clause-number g t c κs within =
    let first = c.first_of-desk in
    let p = popped c.args.commons.now.lock.lock c.requires.passes.0 c.args.next.0 c.args.desks.passes.items first.result.others.passes.items first.result.desk.pass
    c.requires.passes.1 first.ensures.passes in
    sym (ap (λ p. p.view.number) p.pass_is)

pub open-started-requires-clause-way_number : goal.open-started-requires-clause-way_number
open-started-requires-clause-way_number g t c κs within =
    let first = c.first_of-desk in
    let p = popped c.args.commons.now.shared.lock c.requires.ways.0 c.args.next.0 c.args.desks.ways.items first.result.others.ways.items first.result.desk.way
    c.requires.ways.2 first.ensures.ways in
    sym (ap (λ p. p.view.number) p.pass_is)

pub open-started-requires-clause-few_turns : goal.open-started-requires-clause-few_turns
open-started-requires-clause-few_turns g t c κs within =
    let first = c.first_of-desk in
    let p = popped c.args.commons.now.lock.lock c.requires.passes.0 c.args.next.0 c.args.desks.passes.items first.result.others.passes.items first.result.desk.pass
    c.requires.passes.1 first.ensures.passes in
    subst (λ (stops : List ℕ). length stops ≤ 72057594037927936) (sym (ap (λ p. p.view.stops) p.pass_is)) (omega arith)

pub open-started-requires-clause-way : goal.open-started-requires-clause-way
open-started-requires-clause-way g t c κs within =
    let first = c.first_of-desk in
    let p = popped c.args.commons.now.shared.lock c.requires.ways.0 c.args.next.0 c.args.desks.ways.items first.result.others.ways.items first.result.desk.way
    c.requires.ways.2 first.ensures.ways in
    IsWay-fresh c.requires.ways.0 c.args.next.0 first.result.desk.way c.args.commons.now.shared.lock c.requires.ways.1 p.pass_is

pub open-started-requires-clause-nothing : goal.open-started-requires-clause-nothing
open-started-requires-clause-nothing g t c κs within =
    let first = c.first_of-desk in
    let p = popped c.args.commons.now.shared.lock c.requires.ways.0 c.args.next.0 c.args.desks.ways.items first.result.others.ways.items first.result.desk.way
    c.requires.ways.2 first.ensures.ways in
    ap (λ p. p.view.made) p.pass_is

pub accept_all-rest-requires-clause-passes : goal.accept_all-rest-requires-clause-passes
accept_all-rest-requires-clause-passes g t c κs within =
    let first = c.first_of-desk in
    let p = popped c.args.commons.now.lock.lock c.requires.passes.0 c.args.next.0 c.args.desks.passes.items first.result.others.passes.items first.result.desk.pass
    c.requires.passes.1 first.ensures.passes in
    (c.requires.passes.0, p.rest_is)

pub accept_all-rest-requires-clause-ways : goal.accept_all-rest-requires-clause-ways
accept_all-rest-requires-clause-ways g t c κs within =
    let first = c.first_of-desk in
    let p = popped c.args.commons.now.shared.lock c.requires.ways.0 c.args.next.0 c.args.desks.ways.items first.result.others.ways.items first.result.desk.way
    c.requires.ways.2 first.ensures.ways in
    (c.requires.ways.0, c.requires.ways.1, p.rest_is)

pub returns-clause-serving : goal.returns-clause-serving
returns-clause-serving g t c =
    let does = attends g.L.Peer.Source.left g.L.Peer.Source.taken g.L.Peer.Sink.written g.L.Peer.Source.faults g.L.Peer.Link.ended in
    let first = c.first_of-desk in
    let pass = first.result.desk.pass in
    let read = first.result.desk.reader in
    let way = first.result.desk.way in
    let started = c.open-started in
    let done = c.finish.result in
    let rest = c.accept_all-rest.result in
    let p = popped c.args.commons.now.shared.lock c.requires.ways.0 c.args.next.0 c.args.desks.ways.items first.result.others.ways.items way
    c.requires.ways.2 first.ensures.ways in
    let work : Work _ _ = record { pass = pass; pass_then = done.pass; read = read; read_then = done.reader; way = way; way_then = done.way } in
    let begun = subst (λ (z : ℕ × PassView Deed × List Record). does z.0 (record {
      pass = z.1;
      pass_then = done.pass;
      read = z.2;
      read_then = done.reader;
      way = started.result.promise.way.value;
      way_then = done.way;
    })) (λ i. (started.ensures.number i, started.ensures.pass i, started.ensures.reader i)) c.finish.ensures in
    let attended : does c.args.next.0 work =
    IsBegun-found g.L.Peer.Source.left g.L.Peer.Source.taken g.L.Peer.Sink.written g.L.Peer.Source.faults g.L.Peer.Link.ended c.args.next.0 pass done.pass
    read done.reader way started.result.promise.way.value done.way _ (ap (λ p. p.view.number) p.pass_is) started.ensures.same_way_lock started.ensures.way_rest begun in
    Serving-more does c.args.next.0 work
    first.result.others.passes.items rest.passes.items c.args.desks.passes.items c.with_desk.result.passes.items
    first.result.others.readers.items rest.readers.items c.args.desks.readers.items c.with_desk.result.readers.items
    first.result.others.ways.items rest.ways.items c.args.desks.ways.items c.with_desk.result.ways.items
    attended first.ensures.passes c.with_desk.ensures.passes first.ensures.readers c.with_desk.ensures.readers first.ensures.ways c.with_desk.ensures.ways c.accept_all-rest.ensures.serving

pub finish-requires-clause-same_lock : goal.finish-requires-clause-same_lock
finish-requires-clause-same_lock g t c κs within =
    let first = c.first_of-desk in
    let p = popped c.args.commons.now.lock.lock c.requires.passes.0 c.args.next.0 c.args.desks.passes.items first.result.others.passes.items first.result.desk.pass
    c.requires.passes.1 first.ensures.passes in
    ap (λ p. p.lock) c.open-started.ensures.pass ∙ ap (λ p. p.lock) p.pass_is

pub finish-requires-clause-same_way_lock : goal.finish-requires-clause-same_way_lock
finish-requires-clause-same_way_lock g t c κs within =
    let first = c.first_of-desk in
    let p = popped c.args.commons.now.shared.lock c.requires.ways.0 c.args.next.0 c.args.desks.ways.items first.result.others.ways.items first.result.desk.way
    c.requires.ways.2 first.ensures.ways in
    c.open-started.ensures.same_way_lock ∙ ap (λ p. p.lock) p.pass_is
