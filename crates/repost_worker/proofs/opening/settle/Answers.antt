-- What is published adds no record.
use Rattle.std.proofs.Common.{◌≡◌, List, [], ◌∷◌, ◌++◌, length, refl, ap, ◌∙◌, append-nil, arith}
use Rattle.stock_model.specs.History.{records, covered}
use Rattle.stock_model.specs.Run.{ArePublications}
use Rattle.stock_model.specs.declared.deeds.Deed.{Deed}
use Rattle.stock_model.specs.declared.deeds.Deed.TheVariants.{Kept, Published}
use Rattle.stock_model.specs.declared.records.Record.{Record}
use Rattle.stock_laws.proofs.Histories.{records-append}
use Rattle.repost_worker.proofs.opening.settle.Goals as goal

no_records : (more : List Deed) → ArePublications more → records more ≡ []
no_records [] are = refl
no_records (Kept item ∷ more) are = absurd are
no_records (Published n ∷ more) are = no_records more are

pub returns-in-None-clause-records : goal.returns-in-None-clause-records
returns-in-None-clause-records c =
    let told = c.work.ensures.publishes in
    let old = c.args.book.now.history in
    ap records told.grows ∙ records-append old told.more
    ∙ ap (λ (rest : List Record). records old ++ rest) (no_records told.more told.publications) ∙ append-nil (records old)

pub returns-in-None-clause-covered : goal.returns-in-None-clause-covered
returns-in-None-clause-covered c = c.work.ensures.all refl c.in-None.is ∙ ap length (returns-in-None-clause-records c)

pub returns-in-None-clause-history : goal.returns-in-None-clause-history
returns-in-None-clause-history c = c.work.ensures.once refl c.in-None.is c.requires.at_rest.known

pub returns-in-None-clause-at_rest : goal.returns-in-None-clause-at_rest
returns-in-None-clause-at_rest c =
    let new = c.work.new.self in
    let pace = c.work.ensures.in_pace in
    let known : new.known ≡ covered new.history = omega (arith, pace.covered, pace.known, c.work.ensures.all refl c.in-None.is) in
    record { known = known; turns = pace.none known }
