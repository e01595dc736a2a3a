-- One more request, or the last answer.
use Rattle.std.proofs.Common.{◌∙◌, ap, Ok}
use Rattle.stock_io.proofs.Writing.{Chained-trans}
use Rattle.desk_wire.specs.declared.heard.Heard.TheVariants.{Last}
use Rattle.desk_wire.proofs.HearLemmas.{IfSome-any}
use Rattle.desk_wire.proofs.FramingLemmas.{heard_next, heard_last, all_ahead, all_is_view, none_framed, next_framed, follows_taken, framed_last}
use Rattle.desk_wire.proofs.framing.hear_all.Goals as goal

pub loop-requests-init : goal.loop-requests-init
loop-requests-init g c =
    rw c.new-requests.ensures
    (none_framed g.S.Source.left g.S.Source.taken g.S.Source.faults g.S.Source.read_leaves c.args.inbox.now c.args.source.now)

pub loop-requests-preserved : goal.loop-requests-preserved
loop-requests-preserved g c =
    let heard = c.in-Ok-Next.ensures in
    let next = heard_next c.hear.new.self.bytes c.in-Ok-Next.field-0-is heard.heard heard.there in
    next_framed g.S.Source.left g.S.Source.taken g.S.Source.faults g.S.Source.read_leaves
    c.args.inbox.now c.loop-requests.inbox c.hear.new.self c.pass.new.self c.args.source.now c.loop-requests.source c.hear.new.source
    c.loop-requests.requests c.push.new.self c.in-Ok-Next.request
    c.loop-requests.invariant heard.takes_in next.0 next.1.within heard.faults_kept heard.frame c.pass.ensures c.in-Ok.ensures.added

pub returns-in-Ok-Last-clause-framed : goal.returns-in-Ok-Last-clause-framed
returns-in-Ok-Last-clause-framed g c =
    let heard = c.in-Ok-Last.ensures in
    let last = heard_last c.hear.new.self c.in-Ok-Last.field-0-is heard.heard heard.limit in
    framed_last g.S.Source.left g.S.Source.taken c.args.inbox.now c.loop-requests.inbox c.hear.new.self
    c.args.source.now c.loop-requests.source c.hear.new.source c.loop-requests.requests c.in-Ok-Last.stop
    c.loop-requests.invariant.reach c.loop-requests.invariant.spent heard.takes_in last.0 last.1
    (λ same. heard.ended (ap Ok (c.in-Ok-Last.field-0-is ∙ ap Last same)))

pub returns-in-Ok-Last-clause-frame : goal.returns-in-Ok-Last-clause-frame
returns-in-Ok-Last-clause-frame g c = Chained-trans g.S.Source.read_leaves _ _ _ c.loop-requests.invariant.frame c.hear.ensures.frame

pub returns-in-Err-clause-frame : goal.returns-in-Err-clause-frame
returns-in-Err-clause-frame g c = Chained-trans g.S.Source.read_leaves _ _ _ c.loop-requests.invariant.frame c.hear.ensures.frame

pub returns-in_default-clause-frame : goal.returns-in_default-clause-frame
returns-in_default-clause-frame g c = Chained-trans g.S.Source.read_leaves _ _ _ c.loop-requests.invariant.frame c.hear.ensures.frame

pub returns-in_default-clause-framed : goal.returns-in_default-clause-framed
returns-in_default-clause-framed g c = IfSome-any (g.S.Source.left c.args.source.now) (λ _. tt)

pub returns-in_default-clause-rest_after_fault : goal.returns-in_default-clause-rest_after_fault
returns-in_default-clause-rest_after_fault g c = (
  c.loop-requests.requests,
  follows_taken g.S.Source.left g.S.Source.taken all_ahead all_is_view _ c.loop-requests.requests c.loop-requests.inbox c.hear.new.self c.loop-requests.source c.hear.new.source
      c.loop-requests.invariant.all c.hear.ensures.takes_in,
)
