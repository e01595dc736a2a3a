-- The response that is kept is the one that is due, or the one that is made is kept.
use Rattle.std.proofs.Common.{◌≡◌, List, subst, sym}
use Rattle.stock_model.specs.declared.records.Record.{Record}
use Rattle.mirrored_sessions.specs.Steps.{selected_of}
use Rattle.mirrored_desk.proofs.Repeating.{repeated-is, kept-is}
use Rattle.mirrored_desk.proofs.report_reader.ReportReader.respond.Goals as goal

pub returns-in-Some-clause-response : goal.returns-in-Some-clause-response
returns-in-Some-clause-response g c =
    let is = subst (λ (read : List Record). c.args.selected ≡ selected_of read c.args.query) (sym c.self.view_is) c.requires.read in
    repeated-is c.self.inside.reader c.args.query c.args.selected is c.self.inside.last c.args.close c.in-Some.response c.self.invariant
    c.in-Some.ensures

pub invariant_of-result-2 : goal.invariant_of-result-2
invariant_of-result-2 g c =
    let is = subst (λ (read : List Record). c.args.selected ≡ selected_of read c.args.query) (sym c.self.view_is) c.requires.read in
    kept-is c.self.inside.reader c.args.query c.args.selected is c.of-last.result c.asked.result c.asked.ensures.0 c.args.close
    c.response_to-response.result c.asked.ensures.1 c.response_to-response.ensures c.of-last.ensures
