-- All passes were joined into pass 0, and the lock ended.
use Rattle.std.proofs.Common.{◌≡◌, ◌+◌, ◌≤◌, length, sym, ap, ◌∙◌, subst, arith}
use Rattle.std.specs.Prelude.{All}
use Rattle.turn_lock.specs.Histories.{BeginsWith, past, made_by}
use Rattle.turn_lock.specs.Views.{all_faults, made_through}
use Rattle.desk_service.specs.Passes.{joined_all}
use Rattle.desk_service.proofs.Gathering.{joined_all-number, joined_all-count, joined_all-split, joined_all-first, joined_all-start, joined_all-first_faults}
use Rattle.desk_service.proofs.ending.close_all.Goals as goal

pub close-requires-clause-zero : goal.close-requires-clause-zero
close-requires-clause-zero g c =
    ap (λ v. v.number) c.join_all-pass.ensures.joined ∙ joined_all-number c.args.pass.view c.args.passes.items ∙ c.requires.zero

pub close-requires-clause-all_joined : goal.close-requires-clause-all_joined
close-requires-clause-all_joined g c =
    let view = c.args.pass.view in
    let passes = c.args.passes.items in
    subst (λ v. length v.joined ≡ v.split) (sym c.join_all-pass.ensures.joined)
    (omega (arith, joined_all-count view passes, ap length c.requires.none_joined, joined_all-split view passes, c.requires.split))

pub returns-clause-closed : goal.returns-clause-closed
returns-clause-closed g c =
    let view = c.args.pass.view in
    let passes = c.args.passes.items in
    let whole = c.join_all-pass.result.view in
    let joined = c.join_all-pass.ensures.joined in
    let first_is : whole.first ≡ view.first = ap (λ v. v.first) joined ∙ joined_all-first view passes in
    record {
      begins = subst (λ z. BeginsWith (g.B.Logged.history c.close.result) z) first_is c.close.ensures.begins;
      saw_own = subst (λ z. BeginsWith z view.seen) (sym c.close.ensures.seen) c.join_all-pass.ensures.saw_own;
      saw_all = subst (λ z. All (λ p. BeginsWith z p.view.seen) passes) (sym c.close.ensures.seen) c.join_all-pass.ensures.saw_all;
      counted_all = subst (λ n. All (λ p. p.view.seen_faults ≤ n) passes) (sym c.close.ensures.faults) c.join_all-pass.ensures.counted_all;
      rose =
          ap (λ n. n + all_faults (joined_all view passes)) (sym (joined_all-first_faults view passes))
          ∙ ap (λ v. v.first_faults + all_faults v) (sym joined) ∙ c.close.ensures.rose;
      made = λ k. ap (λ z. made_by k (past z (g.B.Logged.history c.close.result))) (sym first_is) ∙ c.close.ensures.made k ∙ ap (made_through k) joined;
    }

pub returns-clause-follows : goal.returns-clause-follows
returns-clause-follows g c =
    let same = ap (λ v. v.start) c.join_all-pass.ensures.joined ∙ joined_all-start c.args.pass.view c.args.passes.items in
    subst (λ noted. g.B.Logged.follows noted c.close.result) same c.close.ensures.follows
