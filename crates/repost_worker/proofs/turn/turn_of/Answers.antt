-- No suspect was found, and the build is as it was.
use Rattle.std.proofs.Common.{List, take, refl, sym, ◌∙◌, subst, arith}
use Rattle.std.proofs.lemmas.Bool.{false≢true}
use Rattle.stock_model.specs.PostingOrder.{posting_line}
use Rattle.stock_model.specs.declared.records.Record.{Record}
use Rattle.repost_laws.specs.Builds.{IsClean}
use Rattle.repost_build.specs.Builds.{IsOf}
use Rattle.repost_build.specs.Readings.{suspects_in, target_of}
use Rattle.repost_worker.proofs.Works.{work-still, clean-still, can_fetch-still, can_fetch-then, fetched-still, published-still}
use Rattle.repost_worker.proofs.turn.turn_of.Goals as goal

pub returns-then-can_fetch-clause-turn : goal.returns-then-can_fetch-clause-turn
returns-then-can_fetch-clause-turn g c =
    let history = c.args.book.now.history in
    let old = c.args.build.now in
    let mid = c.turn.new.self in
    let same = c.in_default.ensures.unchanged refl in
    let clean = subst (λ (rs : List Record). IsClean (posting_line (take (target_of old) rs)) (suspects_in old)) (sym c.requires.1.1.0)
    (c.in_default.ensures.clean refl) in
    let can = c.can_fetch.ensures.0 c.if-can_fetch.true in (
      clean,
      can_fetch-still history old mid same can,
      c.in_ok-accepted.ensures.number,
      refl,
      fetched-still history old mid same c.fetch_all.new.build c.in_ok-accepted.ensures.fetched,
    )

pub publish_all-requires : goal.publish_all-requires
publish_all-requires g c κs lives =
    let history = c.args.book.now.history in
    let old = c.args.build.now in
    let mid = c.turn.new.self in
    let same = c.in_default.ensures.unchanged refl in
    let clean = subst (λ (rs : List Record). IsClean (posting_line (take (target_of old) rs)) (suspects_in old)) (sym c.requires.1.1.0)
    (c.in_default.ensures.clean refl) in
    let of = subst (λ (rs : List Record). IsOf (take (target_of old) rs) mid) (sym c.requires.1.1.0) c.in_default.ensures.of in (
      lives,
      (
        c.requires.1.1.0,
        (
          work-still history old mid same c.requires.1.1.1 of,
          (clean-still history old mid same clean, omega (arith, c.covered.ensures.covered, c.target.ensures, c.if-covered-target.true)),
        ),
      ),
    )

pub returns-then-covered-target-clause-turn : goal.returns-then-covered-target-clause-turn
returns-then-covered-target-clause-turn g c =
    let history = c.args.book.now.history in
    let old = c.args.build.now in
    let mid = c.turn.new.self in
    let same = c.in_default.ensures.unchanged refl in
    let clean = subst (λ (rs : List Record). IsClean (posting_line (take (target_of old) rs)) (suspects_in old)) (sym c.requires.1.1.0)
    (c.in_default.ensures.clean refl) in (
      clean,
      (λ can. false≢true (sym c.if-can_fetch.false ∙ c.can_fetch.ensures.1 (can_fetch-then history old mid same can))),
      omega (arith, same.target, c.covered.ensures.covered, c.target.ensures, c.if-covered-target.true),
      c.in_ok-target.ensures.number ∙ same.target,
      c.in_ok-target.ensures.told,
      published-still history old mid same c.publish_all.new.build c.in_ok-target.ensures.published,
    )
