-- A write leaves what the peer has left, how much was taken of it, and whether the link was ended.
use Rattle.stock_io.proofs.Writing.{Chained-keeps}
use Rattle.desk_server.proofs.writing.write_response.Goals as goal

pub returns-in-Err-clause-left_kept : goal.returns-in-Err-clause-left_kept
returns-in-Err-clause-left_kept g c =
    Chained-keeps g.P.Sink.write_leaves g.P.Source.left (λ a b step. ((g.met.P.Link g.world.𝓛 g.world.𝓜 g.world.𝓡 ((λ s x. x), (λ x. x), (λ x. x), (λ x. x))).write_keeps a b step).0) _ _ c.write_all.ensures.frame

pub returns-in-Err-clause-taken_kept : goal.returns-in-Err-clause-taken_kept
returns-in-Err-clause-taken_kept g c =
    Chained-keeps g.P.Sink.write_leaves g.P.Source.taken (λ a b step. ((g.met.P.Link g.world.𝓛 g.world.𝓜 g.world.𝓡 ((λ s x. x), (λ x. x), (λ x. x), (λ x. x))).write_keeps a b step).1) _ _ c.write_all.ensures.frame

pub returns-in-Ok-clause-left_kept : goal.returns-in-Ok-clause-left_kept
returns-in-Ok-clause-left_kept g c =
    Chained-keeps g.P.Sink.write_leaves g.P.Source.left (λ a b step. ((g.met.P.Link g.world.𝓛 g.world.𝓜 g.world.𝓡 ((λ s x. x), (λ x. x), (λ x. x), (λ x. x))).write_keeps a b step).0) _ _ c.write_all.ensures.frame

pub returns-in-Ok-clause-taken_kept : goal.returns-in-Ok-clause-taken_kept
returns-in-Ok-clause-taken_kept g c =
    Chained-keeps g.P.Sink.write_leaves g.P.Source.taken (λ a b step. ((g.met.P.Link g.world.𝓛 g.world.𝓜 g.world.𝓡 ((λ s x. x), (λ x. x), (λ x. x), (λ x. x))).write_keeps a b step).1) _ _ c.write_all.ensures.frame

pub returns-in-Ok-2-clause-left_kept : goal.returns-in-Ok-2-clause-left_kept
returns-in-Ok-2-clause-left_kept g c =
    Chained-keeps g.P.Sink.write_leaves g.P.Source.left (λ a b step. ((g.met.P.Link g.world.𝓛 g.world.𝓜 g.world.𝓡 ((λ s x. x), (λ x. x), (λ x. x), (λ x. x))).write_keeps a b step).0) _ _ c.write_all.ensures.frame

pub returns-in-Ok-2-clause-taken_kept : goal.returns-in-Ok-2-clause-taken_kept
returns-in-Ok-2-clause-taken_kept g c =
    Chained-keeps g.P.Sink.write_leaves g.P.Source.taken (λ a b step. ((g.met.P.Link g.world.𝓛 g.world.𝓜 g.world.𝓡 ((λ s x. x), (λ x. x), (λ x. x), (λ x. x))).write_keeps a b step).1) _ _ c.write_all.ensures.frame

pub returns-in-Err-clause-ended_kept : goal.returns-in-Err-clause-ended_kept
returns-in-Err-clause-ended_kept g c =
    Chained-keeps g.P.Sink.write_leaves g.P.Link.ended (λ a b step. ((g.met.P.Link g.world.𝓛 g.world.𝓜 g.world.𝓡 ((λ s x. x), (λ x. x), (λ x. x), (λ x. x))).write_keeps a b step).2) _ _ c.write_all.ensures.frame

pub returns-in-Ok-clause-ended_kept : goal.returns-in-Ok-clause-ended_kept
returns-in-Ok-clause-ended_kept g c =
    Chained-keeps g.P.Sink.write_leaves g.P.Link.ended (λ a b step. ((g.met.P.Link g.world.𝓛 g.world.𝓜 g.world.𝓡 ((λ s x. x), (λ x. x), (λ x. x), (λ x. x))).write_keeps a b step).2) _ _ c.write_all.ensures.frame

pub returns-in-Ok-2-clause-ended_kept : goal.returns-in-Ok-2-clause-ended_kept
returns-in-Ok-2-clause-ended_kept g c =
    Chained-keeps g.P.Sink.write_leaves g.P.Link.ended (λ a b step. ((g.met.P.Link g.world.𝓛 g.world.𝓜 g.world.𝓡 ((λ s x. x), (λ x. x), (λ x. x), (λ x. x))).write_keeps a b step).2) _ _ c.write_all.ensures.frame
