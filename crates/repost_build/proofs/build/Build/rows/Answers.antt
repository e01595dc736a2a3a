-- The rows of all movements of a clean build are those of the replay.
use Rattle.std.proofs.Common.{◌≡◌, List, IfOk, map, ap, ◌∙◌, subst}
use Rattle.stock_nums.specs.declared.entry.Entry.{Entry}
use Rattle.stock_nums.specs.declared.entry.Row.{Row}
use Rattle.stock_model.specs.PostingOrder.{posting_line}
use Rattle.stock_model.specs.Replay.{replay}
use Rattle.stock_model.specs.declared.records.Record.{Record}
use Rattle.repost_laws.specs.Builds.{IsClean}
use Rattle.repost_laws.specs.Valuations.{found_rows}
use Rattle.repost_laws.proofs.WholeSteps.{rows-clean}
use Rattle.repost_build.specs.Builds.{IsOf}
use Rattle.repost_build.specs.Readings.{slots_in, found_in, suspects_in, valued_in, base_of, fetches_of, turns_of}
use Rattle.repost_build.specs.Rows.{slot_row}
use Rattle.repost_build.specs.declared.build.Build.{Build}
use Rattle.repost_build.proofs.Rows.{all-rows}
use Rattle.repost_build.proofs.build.Build.rows.Goals as goal

rows-of : (journal : List Record) (build : Build) → IsOf journal build → IsClean (posting_line journal) (suspects_in build)
    → map slot_row (slots_in build) ≡ replay journal
rows-of journal build of clean =
    all-rows (slots_in build) of.kept.indexed.in_order
    ∙ ap (λ (line : List Entry). found_rows (found_in build) line) of.line
    ∙ rows-clean journal (base_of build) (found_in build) (suspects_in build) (valued_in build) (fetches_of build) (turns_of build) of.built clean

pub returns : goal.returns
returns g c =
    subst (λ (rows : List Row). IfOk c.rows_beside.result (λ made. made ≡ rows)) (rows-of g.journal c.args.self.now c.requires.0 c.requires.1)
    c.rows_beside.ensures
