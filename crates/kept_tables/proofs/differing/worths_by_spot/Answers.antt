-- One more row is put in, until all are.
use Rattle.std.proofs.Common.{◌+◌, ap, ◌∙◌, rules}
use Rattle.std.proofs.lemmas.List.{take_all}
use Rattle.stock_laws.proofs.Walks.{at_next, at_end}
use Rattle.kept_tables.specs.TablesOf.{worths_of}
use Rattle.kept_tables.proofs.SpotMaps.{entries-more}
use Rattle.kept_tables.proofs.differing.worths_by_spot.Goals as goal

pub loop-row-init : goal.loop-row-init
loop-row-init c = (0, search rules, search rules)

pub loop-row-preserved : goal.loop-row-preserved
loop-row-preserved c =
    let rows = c.args.rows.now in
    let seen = c.loop-row.invariant.0 in
    let row = c.in-Some.row.now in
    let next = at_next rows c.loop-row.row-iterator c.next.new.self seen row c.loop-row.invariant.1 c.in-Some.ensures.steps in (
      seen + 1,
      next.2,
      entries-more rows seen row c.spot_worth-own.result c.loop-row.by_spot.entries c.insert.new.self.entries next.0 next.1
          c.spot_worth-own.ensures c.loop-row.invariant.2 c.in_ok-insert.ensures.entries,
    )

pub returns : goal.returns
returns c =
    let rows = c.args.rows.now in
    let seen = c.loop-row.invariant.0 in
    c.loop-row.invariant.2
    ∙ ap worths_of (take_all seen rows (at_end rows c.loop-row.row-iterator seen c.loop-row.invariant.1 c.in-None.ensures.steps.0))
