-- The numbers of the history are those that the book keeps.
use Rattle.std.proofs.Common.{◌≡◌, sym, ap, ◌∙◌, arith}
use Rattle.generation_book.specs.State.{BookState}
use Rattle.generation_book.specs.Book.{deeds}
use Rattle.generation_book.proofs.Books.{history-accepted, history-covered, need_at-ready, need_at-pending, need_at-none}
use Rattle.generation_book.proofs.book.Book.test.Goals as goal

pub returns-then-wanted-covered : goal.returns-then-wanted-covered
returns-then-wanted-covered g c =
    let told : deeds c.self.inside.events.items c.self.inside.journal ≡ c.args.self.now.history = ap (λ (b : BookState). b.history) c.self.view_is in
    let covers = history-covered _ _ _ _ _ c.args.self.now.history c.self.invariant.0 told in
    sym (need_at-ready c.args.self.now.history c.args.query.now c.need_of-wanted.result _ c.need_of-wanted.ensures covers (omega arith))

pub returns-then-wanted-accepted : goal.returns-then-wanted-accepted
returns-then-wanted-accepted g c =
    let told : deeds c.self.inside.events.items c.self.inside.journal ≡ c.args.self.now.history = ap (λ (b : BookState). b.history) c.self.view_is in
    let covers = history-covered _ _ _ _ _ c.args.self.now.history c.self.invariant.0 told in
    let all = history-accepted _ _ _ _ _ c.args.self.now.history c.self.invariant.0 told ∙ sym c.count.ensures.count in
    sym (need_at-pending c.args.self.now.history c.args.query.now c.need_of-wanted.result _ _ c.need_of-wanted.ensures covers all (omega arith) (omega arith))

pub returns-else-wanted-accepted : goal.returns-else-wanted-accepted
returns-else-wanted-accepted g c =
    let told : deeds c.self.inside.events.items c.self.inside.journal ≡ c.args.self.now.history = ap (λ (b : BookState). b.history) c.self.view_is in
    let covers = history-covered _ _ _ _ _ c.args.self.now.history c.self.invariant.0 told in
    let all = history-accepted _ _ _ _ _ c.args.self.now.history c.self.invariant.0 told ∙ sym c.count.ensures.count in
    sym (need_at-none c.args.self.now.history c.args.query.now c.need_of-wanted.result _ _ c.need_of-wanted.ensures covers all (omega arith) (omega arith))
