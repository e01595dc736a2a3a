-- What the build valued is what the book has to change.
use Rattle.std.proofs.Common.{◌≡◌, ℕ, List, length, take, sym, ap, ◌∙◌, subst}
use Rattle.stock_nums.specs.declared.entry.Row.{Row}
use Rattle.stock_nums.specs.declared.place.Spot.{Spot}
use Rattle.stock_model.specs.History.{covered}
use Rattle.stock_model.specs.PostingOrder.{posting_line}
use Rattle.stock_model.specs.Replay.{replay}
use Rattle.stock_model.specs.declared.deeds.Deed.{Deed}
use Rattle.stock_model.specs.declared.records.Record.{Record}
use Rattle.repost_fetch.specs.Changes.{AreChanges}
use Rattle.repost_laws.specs.Builds.{IsClean}
use Rattle.repost_build.specs.Builds.{IsOf}
use Rattle.repost_build.specs.Readings.{suspects_in, base_of, target_of}
use Rattle.repost_worker.specs.Turns.{IsWorkOf}
use Rattle.repost_worker.proofs.Works.{turns-none, work-published}
use Rattle.repost_worker.proofs.turn.publish_all.Goals as goal

pub published-requires : goal.published-requires
published-requires g c =
    let build = c.args.build.now in (
      subst (λ (rs : List Record). IsOf (take (target_of build) rs) build) c.requires.1.0 c.requires.1.1.0.of,
      subst (λ (rs : List Record). IsClean (posting_line (take (target_of build) rs)) (suspects_in build)) c.requires.1.0 c.requires.1.1.1.0,
    )

pub publish-requires-clause-changed : goal.publish-requires-clause-changed
publish-requires-clause-changed g c =
    let build = c.args.build.now in
    let history = c.args.book.now.history in
    let rows = c.as_slice-changed.result.now in
    let spots = c.gone.result.now in
    subst (λ (rs : List Record). AreChanges (take c.target-target.result.0 rs) (covered history) rows spots) (sym c.requires.1.0)
    (subst (λ (n : ℕ). AreChanges (take n g.all) (covered history) rows spots) (sym c.target-target.ensures)
    (subst (λ (b : ℕ). AreChanges (take (target_of build) g.all) b rows spots) c.requires.1.1.0.base
    (subst (λ (changed : List Row). AreChanges (take (target_of build) g.all) (base_of build) changed spots) (sym c.as_slice-changed.ensures)
    (subst (λ (gone : List Spot). AreChanges (take (target_of build) g.all) (base_of build) c.in_ok-ready.ready.changed gone) (sym c.gone.ensures)
    c.in_ok-ready.ensures.changes))))

pub publish-requires-clause-rows : goal.publish-requires-clause-rows
publish-requires-clause-rows g c =
    let build = c.args.build.now in
    let rows = c.in_ok-ready.ready.rows in
    subst (λ (rs : List Record). rows ≡ replay (take c.target-target.result.0 rs)) (sym c.requires.1.0)
    (subst (λ (n : ℕ). rows ≡ replay (take n g.all)) (sym c.target-target.ensures) c.in_ok-ready.ensures.rows)

pub returns-clause-published : goal.returns-clause-published
returns-clause-published g c =
    let n = target_of c.args.build.now in
    let same = ap (λ (rs : List Record). length (take n rs)) c.requires.1.0 in
    record {
      base = c.published.ensures.base;
      target = c.published.ensures.of.target ∙ sym same ∙ sym c.requires.1.1.0.of.target;
      fetches = c.published.ensures.fetches;
      turns = turns-none (take n g.all) c.published.new.self c.published.ensures.of c.published.ensures.fetches;
      found = c.published.ensures.found;
      suspects = c.published.ensures.suspects;
      valued = c.published.ensures.valued;
    }

pub returns-clause-work : goal.returns-clause-work
returns-clause-work g c =
    let old = c.args.build.now in
    let history = c.args.book.now.history in
    let of = subst (λ (rs : List Record). IsOf (take (target_of old) rs) c.published.new.self) (sym c.requires.1.0) c.published.ensures.of in
    subst (λ (told : List Deed). IsWorkOf told c.published.new.self) (sym c.in_ok-publish.ensures.published)
    (work-published history c.target-target.result old c.published.new.self c.requires.1.1.0 c.target-target.ensures (returns-clause-published g c) of)
