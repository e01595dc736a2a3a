-- What a publication of a build is made from.
use Rattle.std.specs.Prelude.{◌≡◌, List}
use Rattle.stock_model.specs.Replay.{replay}
use Rattle.stock_model.specs.declared.records.Record.{Record}
use Rattle.repost_fetch.specs.Changes.{AreChanges}
use Rattle.repost_build.specs.Readings.{base_of, gone_of}
use Rattle.repost_build.specs.declared.build.Build.{Build}
use Rattle.repost_worker.specs.declared.publication.Publication.{Publication}

-- its rows are the replay of these records, and of those what changed since the build's last publication is told apart
pub record IsPublicationOf (journal : List Record) (build : Build) (ready : Publication) : Type 0 where
  pub rows : ready.rows ≡ replay journal
  pub changes : AreChanges journal (base_of build) ready.changed (gone_of build)
