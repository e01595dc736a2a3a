-- The book selects all that it covers, and what is known and what comes after it are the covered records.
use Rattle.std.proofs.Common.{List, [], ◌++◌, ap, ◌∙◌, arith}
use Rattle.stock_model.specs.History.{covered_records}
use Rattle.stock_model.specs.declared.records.Record.{Record}
use Rattle.stock_laws.proofs.Histories.{covered_after-within}
use Rattle.mirrored_worker.proofs.Wholes.{known-past, whole-generation}
use Rattle.mirrored_worker.proofs.next_generation.generation_past.Goals as goal

pub new-requires : goal.new-requires
new-requires g c =
    let history = c.args.book.now.history in
    let known = c.args.known.now in
    let legal = c.accepted-accepted.ensures.legal in
    let all = c.in_ok-records.ensures ∙ ap (λ (more : List Record). known ++ more) c.covered_past.ensures
    ∙ known-past known (covered_records history) c.args.count.0 c.requires.begins c.requires.count in
    whole-generation history (covered_after-within [] 0 history (omega arith) legal) c.everything.result c.in-Ok.whole c.in_ok-records.records
    legal c.everything.ensures c.in-Ok.ensures.selected all
