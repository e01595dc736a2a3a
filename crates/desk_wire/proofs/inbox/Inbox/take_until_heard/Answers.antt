-- What the rules answer to the bytes that wait, and each piece that is taken.
use Rattle.std.proofs.Common.{ℕ, List, ◌∙◌, ap, sym, arith, subst}
use Rattle.desk_wire.specs.declared.wire.Wire.TheVariants.{More}
use Rattle.desk_wire.specs.Waiting.{Waiting}
use Rattle.desk_wire.specs.Rules.{Answers}
use Rattle.desk_wire.proofs.HearLemmas.{answers_at, all_came, one_more_read, reads_take_in}
use Rattle.desk_wire.proofs.InboxLemmas.{nothing_new}
use Rattle.desk_wire.proofs.inbox.Inbox.take_until_heard.Goals as goal

pub returns-in-Whole-clause-heard : goal.returns-in-Whole-clause-heard
returns-in-Whole-clause-heard g c = answers_at c.bytes.ensures c.in-Whole.is c.next_request.ensures.rules

pub returns-in-Bad-clause-heard : goal.returns-in-Bad-clause-heard
returns-in-Bad-clause-heard g c = answers_at c.bytes.ensures c.in-Bad.is c.next_request.ensures.rules

pub returns-in-More-clause-heard : goal.returns-in-More-clause-heard
returns-in-More-clause-heard g c = answers_at c.bytes.ensures c.in-More.is c.next_request.ensures.rules

pub returns-in_err-piece-in-More-2-clause-reads : goal.returns-in_err-piece-in-More-2-clause-reads
returns-in_err-piece-in-More-2-clause-reads g c =
    let read = c.in_err-piece-in-More-2.ensures in
    one_more_read g.S.Source.left g.S.Source.taken g.S.Source.read_leaves _ c.loop-head.self _ _ c.loop-head.source _ c.loop-head.invariant.reads
    (answers_at c.bytes.ensures c.in-More-2.is c.next_request.ensures.rules) (omega (arith, ap (λ (waits : Waiting). waits.spare) c.self.view_is))
    read.takes_in read.frame

pub returns-then-piece-eq0-clause-reads : goal.returns-then-piece-eq0-clause-reads
returns-then-piece-eq0-clause-reads g c =
    let read = c.in_ok-piece-in-More-2.ensures in
    one_more_read g.S.Source.left g.S.Source.taken g.S.Source.read_leaves _ c.loop-head.self _ _ c.loop-head.source _ c.loop-head.invariant.reads
    (answers_at c.bytes.ensures c.in-More-2.is c.next_request.ensures.rules) (omega (arith, ap (λ (waits : Waiting). waits.spare) c.self.view_is))
    read.takes_in read.frame

pub loop-head-preserved : goal.loop-head-preserved
loop-head-preserved g c =
    let read = c.in_ok-piece-in-More-2.ensures in record {
      reads = one_more_read g.S.Source.left g.S.Source.taken g.S.Source.read_leaves _ c.loop-head.self _ _ c.loop-head.source _ c.loop-head.invariant.reads
          (answers_at c.bytes.ensures c.in-More-2.is c.next_request.ensures.rules) (omega (arith, ap (λ (waits : Waiting). waits.spare) c.self.view_is))
          read.takes_in read.frame;
      faults_kept = read.faults_kept ∙ c.loop-head.invariant.faults_kept;
    }

pub returns-then-piece-eq0-clause-heard : goal.returns-then-piece-eq0-clause-heard
returns-then-piece-eq0-clause-heard g c =
    let read = c.in_ok-piece-in-More-2.ensures in
    subst (λ (l : List ℕ). Answers l More)
    (sym (nothing_new g.S.Source.left g.S.Source.taken c.loop-head.self _ c.loop-head.source _ read.takes_in (omega (arith, read.amount))))
    (answers_at c.bytes.ensures c.in-More-2.is c.next_request.ensures.rules)

pub returns-then-piece-eq0-clause-ended : goal.returns-then-piece-eq0-clause-ended
returns-then-piece-eq0-clause-ended g c = λ _.
    let read = c.in_ok-piece-in-More-2.ensures in
    all_came g.S.Source.left g.S.Source.taken _ c.loop-head.self _ _ c.loop-head.source _
    (reads_take_in g.S.Source.left g.S.Source.taken g.S.Source.read_leaves _ _ _ _ c.loop-head.invariant.reads) read.takes_in (omega (arith, read.amount))
    (read.end c.if-piece-eq0.true)
