-- The next worth stands at a free spot, or is the first that does not.
use Rattle.std.proofs.Common.{pos, get_or, take, drop, ◌+◌, List, refl, sym, ap, ◌∙◌}
use Rattle.std.proofs.lemmas.List.{get_or_default}
use Rattle.stock_nums.specs.declared.place.Side.TheVariants.{Leaves}
use Rattle.stock_keeper.specs.declared.changes.SpotWorth.{SpotWorth}
use Rattle.generation_audit.specs.RightRows.{is_free}
use Rattle.generation_audit.specs.StoredAt.{mark_at}
use Rattle.generation_audit.proofs.MarkedSpots.{one_more, free-next}
use Rattle.generation_audit.proofs.RightSteps.{parted, own-next}
use Rattle.generation_audit.proofs.comparing.first_extra.Goals as goal

abbrev no_worth : SpotWorth
no_worth = record {
  spot = record { voucher = record { 0 = 0 }; line = 0; side = Leaves };
  worth = record { value = record { 0 = pos 0 }; share = record { 0 = pos 0 } };
}

pub returns-then-not-has-clause-extra : goal.returns-then-not-has-clause-extra
returns-then-not-has-clause-extra c =
    let ws = c.args.worths.now in
    let i = c.loop-worth.worth-index in
    let w : SpotWorth = get_or ws i no_worth in
    let within = c.loop-worth-test.true in
    record {
      front = take i ws;
      w = w;
      rest = drop (i + 1) ws;
      parts = parted ws i w within (get_or_default ws i no_worth w within);
      own = c.loop-worth.invariant.own;
      extra = sym (c.loop-worth.invariant.free w.spot) ∙ sym c.has.ensures ∙ c.if-not-has.true;
      spot = refl;
      stored = refl;
      due = refl;
    }

pub loop-worth-preserved : goal.loop-worth-preserved
loop-worth-preserved c =
    let line = c.args.line.now in
    let ws = c.args.worths.now in
    let i = c.loop-worth.worth-index in
    let w : SpotWorth = get_or ws i no_worth in
    let within = c.loop-worth-test.true in
    let is = get_or_default ws i no_worth w within in
    record {
      free = λ spot. free-next line (take i ws) w spot (mark_at c.loop-worth.free spot) (mark_at c.take.new.self spot) (c.loop-worth.invariant.free spot) (c.in_ok-take.ensures spot)
          ∙ ap (λ (us : List SpotWorth). is_free line us spot) (sym (one_more ws i w within is));
      own = own-next line ws i w within is c.loop-worth.invariant.own (sym (c.loop-worth.invariant.free w.spot) ∙ sym c.has.ensures ∙ c.if-not-has.false);
    }
