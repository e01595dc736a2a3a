-- What was made ahead of the build is what the book publishes.
use Rattle.std.proofs.Common.{◌≡◌, ℕ, List, take, sym, ◌∙◌, subst}
use Rattle.stock_nums.specs.declared.entry.Row.{Row}
use Rattle.stock_nums.specs.declared.place.Spot.{Spot}
use Rattle.stock_model.specs.History.{records, covered}
use Rattle.stock_model.specs.Replay.{replay}
use Rattle.repost_fetch.specs.Changes.{AreChanges}
use Rattle.repost_build.specs.Readings.{base_of, target_of, gone_of}
use Rattle.repost_worker.specs.Turns.{records_of}
use Rattle.locked_worker.proofs.stop.publish_ready.Goals as goal

pub publish-requires-clause-rows : goal.publish-requires-clause-rows
publish-requires-clause-rows g c =
    let rows = c.args.ready.now.rows in
    let all = records c.args.book.now.history in
    subst (λ (n : ℕ). rows ≡ replay (take n all)) (sym c.target-target.ensures) c.requires.ready.rows

pub publish-requires-clause-changed : goal.publish-requires-clause-changed
publish-requires-clause-changed g c =
    let history = c.args.book.now.history in
    let build = c.args.build.now in
    let all = records history in
    let rows = c.as_slice-changed.result.now in
    let spots = c.gone.result.now in
    subst (λ (n : ℕ). AreChanges (take n all) (covered history) rows spots) (sym c.target-target.ensures)
    (subst (λ (b : ℕ). AreChanges (records_of history build) b rows spots) c.requires.work.base
    (subst (λ (changed : List Row). AreChanges (records_of history build) (base_of build) changed spots) (sym c.as_slice-changed.ensures)
    (subst (λ (gone : List Spot). AreChanges (records_of history build) (base_of build) c.args.ready.now.changed gone) (sym c.gone.ensures)
    c.requires.ready.changes)))
