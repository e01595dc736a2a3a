-- One more worth was taken out.
use Rattle.std.proofs.Common.{◌∙◌, List, ap, refl, rules}
use Rattle.stock_keeper.specs.declared.changes.SpotWorth.{SpotWorth}
use Rattle.sqlite_tables.proofs.Loops.{gone_none, gone_then, survives_next, without_more, without_none}
use Rattle.sqlite_tables.proofs.writing.remove_all.Goals as goal

pub loop-spot-preserved : goal.loop-spot-preserved
loop-spot-preserved g c =
    let so_far = c.loop-spot.invariant in
    let old = c.args.tx.now.conn.now in
    let mid = c.loop-spot.tx.conn.now in
    let new = c.remove_worth.new.tx.conn.now in
    record {
      same_reference = c.remove_worth.ensures.same_reference ∙ so_far.same_reference;
      gone =
          gone_then g.S.Store _ _ _ old mid new (without_more c.args.spots.now c.loop-spot.spot-index _ c.loop-spot-test.true) so_far.gone
          c.remove_worth.ensures.survives c.in_ok-remove_worth.ensures.turned;
      survives = survives_next g.S.Store old mid new so_far.survives c.remove_worth.ensures.survives;
    }

pub loop-spot-init : goal.loop-spot-init
loop-spot-init g c =
    record {
      same_reference = refl;
      gone = gone_none g.S.Store _ c.args.tx.now.conn.now (λ t. ap (λ (ws : List SpotWorth). record t { worths = ws }) (without_none t.worths));
      survives = search rules;
    }
