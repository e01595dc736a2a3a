-- What was heard once some bytes were taken is what the whole stream says.
use Rattle.desk_wire.proofs.HearLemmas.{reads_take_in, reads_frame, reads_ready, result_of_stream, result_heard_as, result_is_there}
use Rattle.desk_wire.proofs.inbox.Inbox.hear.Goals as goal

pub returns-clause-takes_in : goal.returns-clause-takes_in
returns-clause-takes_in g c =
    reads_take_in g.S.Source.left g.S.Source.taken g.S.Source.read_leaves _ _ _ _ c.take_until_heard.ensures.reads

pub returns-clause-frame : goal.returns-clause-frame
returns-clause-frame g c =
    reads_frame g.S.Source.left g.S.Source.taken g.S.Source.read_leaves _ _ _ _ c.take_until_heard.ensures.reads

pub returns-clause-ready : goal.returns-clause-ready
returns-clause-ready g c =
    reads_ready g.S.Source.left g.S.Source.taken g.S.Source.read_leaves _ _ _ _ c.take_until_heard.ensures.reads

pub returns-clause-any_cut : goal.returns-clause-any_cut
returns-clause-any_cut g c =
    let now = c.take_until_heard.ensures in
    result_of_stream g.S.Source.left g.S.Source.taken c.args.self.now c.take_until_heard.new.self c.args.source.now c.take_until_heard.new.source
    (reads_take_in g.S.Source.left g.S.Source.taken g.S.Source.read_leaves _ _ _ _ now.reads) c.take_until_heard.result now.heard now.ended

pub returns-clause-one_answer : goal.returns-clause-one_answer
returns-clause-one_answer g c =
    let now = c.take_until_heard.ensures in
    result_heard_as g.S.Source.left g.S.Source.taken c.args.self.now c.take_until_heard.new.self c.args.source.now c.take_until_heard.new.source
    (reads_take_in g.S.Source.left g.S.Source.taken g.S.Source.read_leaves _ _ _ _ now.reads) c.take_until_heard.result now.heard now.ended

pub returns-clause-there : goal.returns-clause-there
returns-clause-there g c = result_is_there c.take_until_heard.new.self.bytes c.take_until_heard.result c.take_until_heard.ensures.heard
