-- What was fetched extends the build to all records.
use Rattle.std.proofs.Common.{◌≡◌, List, take, sym, ◌∙◌, subst, arith}
use Rattle.std.proofs.lemmas.List.{take_all}
use Rattle.stock_model.specs.History.{records}
use Rattle.stock_model.specs.declared.records.Record.{Record}
use Rattle.stock_laws.proofs.Legality.{AreLegal-history}
use Rattle.repost_build.specs.Builds.{IsOf}
use Rattle.repost_build.specs.Readings.{target_of}
use Rattle.locked_worker.proofs.after_stop.take_in.Goals as goal

pub extend-requires : goal.extend-requires
extend-requires g c = (c.requires.0.of, (c.requires.1.1.1, (c.requires.1.0.0, AreLegal-history g.history c.requires.1.1.0)))

pub returns-clause-work : goal.returns-clause-work
returns-clause-work g c =
    let new = c.extend.new.self in
    let extended = c.in_ok-extend.ensures in
    let all : take (target_of new) (records g.history) ≡ records g.history =
    take_all (target_of new) (records g.history) (omega (arith, extended.of.target)) in
    record {
      of = subst (λ (rs : List Record). IsOf rs new) (sym all) extended.of;
      within = omega (arith, extended.of.target);
      base = extended.base ∙ c.requires.0.base;
      fetches = omega (arith, extended.fetches, c.requires.1.0.1);
    }

pub returns-clause-fetched : goal.returns-clause-fetched
returns-clause-fetched g c =
    let extended = c.in_ok-extend.ensures in
    record {
      target = extended.of.target;
      touched = extended.touched;
      found = extended.found;
      valued = extended.valued;
      base = extended.base;
      fetches = extended.fetches;
      turns = extended.turns;
    }
