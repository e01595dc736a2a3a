-- What is left after a stop makes it the turn that there was to do.
use Rattle.std.proofs.Common.{◌≡◌, List, sym, subst}
use Rattle.std.specs.Prelude.{drop}
use Rattle.stock_model.specs.History.{records, IsLegal}
use Rattle.stock_model.specs.declared.deeds.Deed.{Deed}
use Rattle.repost_fetch.specs.Fetched.{IsFetchedOf}
use Rattle.repost_build.specs.Readings.{target_of}
use Rattle.repost_worker.specs.Turns.{records_of, IsWorkOf, CanFetch}
use Rattle.locked_worker.specs.Stopped.{IsStoppedAt}
use Rattle.locked_worker.specs.declared.stop.Stopped.{Stopped}
use Rattle.locked_worker.proofs.AfterStops.{unchanged-self, fetched-is, after-fetch, after-refusal, of-published, clean-published, work-after, after-publication, counts-anew, work-idle, after-idle}
use Rattle.locked_worker.proofs.after_stop.after_stop.Given
use Rattle.locked_worker.proofs.after_stop.after_stop.Goals as goal

pub take_in-requires : goal.take_in-requires
take_in-requires g c =
    let build = c.args.build.now in
    let fetched = c.in-Fetched.fetched in
    let old = c.requires.1.1.0 in
    let at = subst (λ (s : Stopped). IsStoppedAt old build s c.args.pass.view) c.in-Fetched.is c.requires.1.1.1 in
    let is = fetched-is old c.args.pass.view build g.history c.requires.1.0 c.in-Fetched.accepted fetched at in (
      subst (λ (h : List Deed). IsWorkOf h build) (sym is) at.work,
      (
        subst (λ (h : List Deed). CanFetch h build) (sym is) at.on.0,
        (
          subst IsLegal (sym is) at.on.2,
          subst (λ (h : List Deed). IsFetchedOf (records_of h build) (drop (target_of build) (records h)) fetched) (sym is) at.on.3,
        ),
      ),
    )

pub returns-in-Ok-clause-turn : goal.returns-in-Ok-clause-turn
returns-in-Ok-clause-turn g c old there =
    let build = c.args.build.now in
    let at = subst (λ (s : Stopped). IsStoppedAt old build s c.args.pass.view) c.in-Fetched.is there in
    after-fetch old c.args.pass.view build g.history c.requires.1.0 c.in-Fetched.accepted c.in-Fetched.fetched at c.take_in.new.build
    c.in-Ok.ensures.fetched

pub returns-in-Fetched-clause-refused : goal.returns-in-Fetched-clause-refused
returns-in-Fetched-clause-refused g c old there =
    let build = c.args.build.now in
    let at = subst (λ (s : Stopped). IsStoppedAt old build s c.args.pass.view) c.in-Fetched.is there in
    after-refusal old c.args.pass.view build g.history c.requires.1.0 c.in-Fetched.accepted c.in-Fetched.fetched at

pub published-requires : goal.published-requires
published-requires g c =
    let build = c.args.build.now in
    let old = c.requires.1.1.0 in
    let at = subst (λ (s : Stopped). IsStoppedAt old build s c.args.pass.view) c.in-Published.is c.requires.1.1.1 in (
      of-published old c.args.pass.view build g.history c.requires.1.0 _ _ at,
      clean-published old c.args.pass.view build g.history c.requires.1.0 _ _ at,
    )

pub returns-in-Published-clause-work : goal.returns-in-Published-clause-work
returns-in-Published-clause-work g c =
    let old = c.requires.1.1.0 in
    let new = c.args.pass.view in
    let build = c.args.build.now in
    let at = subst (λ (s : Stopped). IsStoppedAt old build s new) c.in-Published.is c.requires.1.1.1 in
    let told = c.published.ensures in
    let anew = counts-anew old new build g.history c.requires.1.0 _ _ at c.published.new.self told.of told.base told.fetches told.found told.suspects
    told.valued in
    work-after old new build g.history c.requires.1.0 _ _ at c.published.new.self told.of anew

pub returns-in-Published-clause-turn : goal.returns-in-Published-clause-turn
returns-in-Published-clause-turn g c old there =
    let new = c.args.pass.view in
    let build = c.args.build.now in
    let at = subst (λ (s : Stopped). IsStoppedAt old build s new) c.in-Published.is there in
    let told = c.published.ensures in
    let anew = counts-anew old new build g.history c.requires.1.0 _ _ at c.published.new.self told.of told.base told.fetches told.found told.suspects
    told.valued in
    after-publication old new build g.history c.requires.1.0 _ _ at c.published.new.self told.of anew

pub returns-clause-work : goal.returns-clause-work
returns-clause-work g c =
    let build = c.args.build.now in
    let at = subst (λ (s : Stopped). IsStoppedAt c.requires.1.1.0 build s c.args.pass.view) c.in-Idle.is c.requires.1.1.1 in
    work-idle c.requires.1.1.0 c.args.pass.view build g.history c.requires.1.0 at

pub returns-clause-turn : goal.returns-clause-turn
returns-clause-turn g c old there =
    let build = c.args.build.now in
    after-idle old c.args.pass.view build g.history c.requires.1.0 (subst (λ (s : Stopped). IsStoppedAt old build s c.args.pass.view) c.in-Idle.is there)
