-- One more worth was added where none stood at its spot.
use Rattle.std.proofs.Common.{pos, cond, get_or, take, List, Option, Some, None, sym, ap, ◌∙◌}
use Rattle.std.specs.Option.{option_or}
use Rattle.std.proofs.lemmas.List.{get_or_default}
use Rattle.stock_nums.specs.declared.entry.Worth.{Worth}
use Rattle.stock_nums.specs.declared.place.Side.TheVariants.{Leaves}
use Rattle.stock_keeper.specs.Worths.{is_same_spot}
use Rattle.stock_keeper.specs.declared.changes.SpotWorth.{SpotWorth}
use Rattle.kept_tables.specs.Differences.{worth_at}
use Rattle.generation_audit.proofs.MarkedSpots.{one_more, worth_at-next}
use Rattle.generation_audit.proofs.stored_worths.first_ones.Goals as goal

pub loop-worth-preserved : goal.loop-worth-preserved
loop-worth-preserved c = λ spot.
    let no_worth : SpotWorth = record {
      spot = record { voucher = record { 0 = 0 }; line = 0; side = Leaves };
      worth = record { value = record { 0 = pos 0 }; share = record { 0 = pos 0 } };
    } in
    let ws = c.args.worths.now in
    let i = c.loop-worth.worth-index in
    let w : SpotWorth = get_or ws i no_worth in
    let within = c.loop-worth-test.true in
    c.in_ok-add_first.ensures spot
    ∙ ap (λ (o : Option Worth). option_or o (cond (is_same_spot w.spot spot) (Some w.worth) None)) (c.loop-worth.invariant spot)
    ∙ sym (worth_at-next (take i ws) w spot)
    ∙ ap (λ (us : List SpotWorth). worth_at us spot) (sym (one_more ws i w within (get_or_default ws i no_worth w within)))
