-- The returns of the line are among the movements.
use Rattle.std.proofs.Common.{◌≡◌, true, List, filter, Some, refl, sym, ap, ◌∙◌, subst}
use Rattle.std.proofs.lemmas.List.Sorted.{IsPermutation-sym, Contains-permutation}
use Rattle.std.proofs.lemmas.Option.{same_Some}
use Rattle.stock_nums.specs.Places.{is_before}
use Rattle.stock_nums.specs.declared.cause.Target.{Target}
use Rattle.stock_nums.specs.declared.entry.Entry.{Entry}
use Rattle.stock_nums.specs.declared.place.Place.{Place}
use Rattle.stock_model.specs.Returns.{returns_of}
use Rattle.cost_links.specs.Linked.{returns_to}
use Rattle.cost_links.specs.Sources.{target_of}
use Rattle.repost_laws.proofs.Filtered.{Contains-filtered, Contains-filter}
use Rattle.repost_spread.specs.Movements.{slots_of, line_of}
use Rattle.repost_spread.specs.Touches.{ReturnsLater, is_after, passing_marked}
use Rattle.repost_spread.specs.declared.movements.Movements.{Movements}
use Rattle.repost_spread.proofs.TouchingLines.{one-at}
use Rattle.repost_spread.proofs.TouchingMarks.{marked-as, unmarked}
use Rattle.repost_spread.proofs.TouchingReturns.{IsAmong, passing-are_marked, names-own, returns-own}
use Rattle.repost_spread.proofs.movements.Movements.mark_returned.Goals as goal

pub returns-in-Some : goal.returns-in-Some
returns-in-Some c =
    let old = c.args.self.now in
    let e = c.args.entry.now in
    let t = c.in-Some.line in
    let line = line_of old in
    let rs = returns_to old.links t in
    let new : Movements = record { frontier = c.mark_later.new.frontier; index = old.index; links = old.links } in
    let is : target_of e.cause ≡ Some t = sym c.target_of.ensures ∙ c.in-Some.is in
    let made = c.mark_later.ensures ∙ ap (λ (es : List Entry). passing_marked (is_after e.place) (slots_of old) es) c.returns.ensures in
    let perm = c.requires.kept.returns t in
    marked-as old new (IsAmong (is_after e.place) rs) (ReturnsLater e)
    (λ f held among.
    let back = among.0 in
    let parts = Contains-filtered (returns_of t) line back (Contains-permutation rs (filter (returns_of t) line) back perm among.1) in
    let same : f ≡ back = one-at line back f c.requires.kept.indexed.in_order parts.0 held among.3 in (
      t,
      returns-own e.cause t is,
      subst (λ (g : Entry). returns_of t g ≡ true) (sym same) parts.1,
      subst (λ (p : Place). is_before e.place p ≡ true) (sym among.3) among.2,
    ))
    (λ f held later.
    let target_is : later.0 ≡ t = same_Some later.0 t (sym (names-own e.cause later.0 later.1) ∙ is) in
    let own : returns_of t f ≡ true = subst (λ (x : Target). returns_of x f ≡ true) target_is later.2 in (
      f,
      Contains-permutation (filter (returns_of t) line) rs f (IsPermutation-sym rs (filter (returns_of t) line) perm) (Contains-filter (returns_of t) line f held own),
      later.3,
      refl,
    ))
    (passing-are_marked (is_after e.place) rs old new c.requires.kept made refl refl)

pub returns-in_default : goal.returns-in_default
returns-in_default c =
    let e = c.args.entry.now in
    unmarked c.args.self.now (ReturnsLater e) c.requires.kept
    (λ f held later. c.in_default.not-Some later.0 (c.target_of.ensures ∙ names-own e.cause later.0 later.1))
