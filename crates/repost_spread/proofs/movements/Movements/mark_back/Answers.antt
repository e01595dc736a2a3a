-- The returns of the line are among the movements, and those that customers bring back are marked.
use Rattle.std.proofs.Common.{List, filter, refl, sym, ap, ◌∙◌, subst}
use Rattle.std.proofs.lemmas.Bool.{and_parts, and_from}
use Rattle.std.proofs.lemmas.List.Sorted.{IsPermutation-sym, Contains-permutation}
use Rattle.stock_nums.specs.Places.{is_before}
use Rattle.stock_nums.specs.declared.entry.Entry.{Entry}
use Rattle.stock_model.specs.Conservation.{is_customer_return}
use Rattle.stock_model.specs.Returns.{returns_of}
use Rattle.cost_links.specs.Linked.{returns_to}
use Rattle.repost_laws.proofs.Filtered.{Contains-filtered, Contains-filter}
use Rattle.repost_spread.specs.Movements.{slots_of, line_of}
use Rattle.repost_spread.specs.Spreads.{ComesBackLater, is_back_after}
use Rattle.repost_spread.specs.Touches.{passing_marked}
use Rattle.repost_spread.specs.declared.movements.Movements.{Movements}
use Rattle.repost_spread.proofs.LinkingLines.{back-of, of-back}
use Rattle.repost_spread.proofs.TouchingLines.{one-at}
use Rattle.repost_spread.proofs.TouchingMarks.{marked-as}
use Rattle.repost_spread.proofs.TouchingReturns.{IsAmong, passing-are_marked}
use Rattle.repost_spread.proofs.movements.Movements.mark_back.Goals as goal

pub returns : goal.returns
returns c =
    let old = c.args.self.now in
    let e = c.args.entry.now in
    let own = c.own_line.result in
    let line = line_of old in
    let rs = returns_to old.links own in
    let new : Movements = record { frontier = c.mark_later_back.new.frontier; index = old.index; links = old.links } in
    let made = c.mark_later_back.ensures ∙ ap (λ (es : List Entry). passing_marked (is_back_after e.place) (slots_of old) es) c.returns.ensures in
    let perm = c.requires.kept.returns own in
    marked-as old new (IsAmong (is_back_after e.place) rs) (ComesBackLater e)
    (λ f held among.
    let back = among.0 in
    let parts = Contains-filtered (returns_of own) line back (Contains-permutation rs (filter (returns_of own) line) back perm among.1) in
    let passes = and_parts (is_customer_return back.cause) (is_before e.place back.place) among.2 in
    let is = back-of own back.cause passes.0 parts.1 in
    subst (ComesBackLater e) (sym (one-at line back f c.requires.kept.indexed.in_order parts.0 held among.3))
    (passes.1, (is.0, is.1, is.2, is.3 ∙ c.own_line.ensures)))
    (λ f held later.
    let is = later.1 in
    let of = of-back own f.cause (is.0, is.1, is.2, is.3 ∙ sym c.own_line.ensures) in (
      f,
      Contains-permutation (filter (returns_of own) line) rs f (IsPermutation-sym rs (filter (returns_of own) line) perm) (Contains-filter (returns_of own) line f held of),
      and_from (is_customer_return f.cause) (is_before e.place f.place) (ap is_customer_return is.2) later.0,
      refl,
    ))
    (passing-are_marked (is_back_after e.place) rs old new c.requires.kept made refl refl)
