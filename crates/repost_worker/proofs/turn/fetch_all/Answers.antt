-- What the book fetches extends the build to all its records.
use Rattle.std.proofs.Common.{◌≡◌, ◌||◌, ℕ, List, length, take, drop, Contains, sym, ap, ◌∙◌, subst, arith}
use Rattle.stock_model.specs.History.{records}
use Rattle.stock_model.specs.Journals.{AreLegal}
use Rattle.stock_model.specs.PostingOrder.{posting_line}
use Rattle.stock_model.specs.declared.records.Record.{Record}
use Rattle.stock_laws.proofs.Legality.{AreLegal-history}
use Rattle.repost_fetch.specs.Fetched.{IsFetchedOf}
use Rattle.repost_build.specs.Builds.{IsOf}
use Rattle.repost_build.specs.Readings.{suspects_in, target_of}
use Rattle.repost_worker.specs.Turns.{is_touched_since}
use Rattle.repost_worker.proofs.turn.fetch_all.Goals as goal

pub extend-requires : goal.extend-requires
extend-requires g c =
    let history = c.args.book.now.history in
    let build = c.args.build.now in
    let fetched = c.in_ok-fetched.fetched in (
      subst (λ (rs : List Record). IsOf (take (target_of build) rs) build) c.requires.1.0 c.requires.1.1.0.of,
      (
        subst (λ (rs : List Record). IsFetchedOf (take (target_of build) rs) (drop (target_of build) rs) fetched) c.requires.1.0
            (subst (λ (n : ℕ). IsFetchedOf (take n (records history)) (drop n (records history)) fetched) c.target.ensures c.in_ok-fetched.ensures),
        (
          omega (arith, ap length c.requires.1.0, c.requires.1.1.1.0),
          subst AreLegal c.requires.1.0 (AreLegal-history history c.accepted-accepted.ensures.legal),
        ),
      ),
    )

pub returns-clause-fetched : goal.returns-clause-fetched
returns-clause-fetched g c =
    let old = c.args.build.now in
    let new = c.extend.new.self in
    record {
      target = c.in_ok-extend.ensures.of.target ∙ ap length (sym c.requires.1.0);
      touched = λ e held.
          subst (λ (rs : List Record). suspects_in new e.place
          ≡ (suspects_in old e.place || is_touched_since rs (target_of old) e))
          (sym c.requires.1.0)
          (c.in_ok-extend.ensures.touched e (subst (λ (rs : List Record). Contains (posting_line rs) e) c.requires.1.0 held));
      found = λ e held. c.in_ok-extend.ensures.found e (subst (λ (rs : List Record). Contains (posting_line rs) e) c.requires.1.0 held);
      valued = λ e held. c.in_ok-extend.ensures.valued e (subst (λ (rs : List Record). Contains (posting_line rs) e) c.requires.1.0 held);
      base = c.in_ok-extend.ensures.base;
      fetches = c.in_ok-extend.ensures.fetches;
      turns = c.in_ok-extend.ensures.turns;
    }
