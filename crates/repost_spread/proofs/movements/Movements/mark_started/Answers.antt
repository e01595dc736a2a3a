-- The next one stands at the place that is found.
use Rattle.std.proofs.Common.{◌≡◌, Some, sym, subst, ◌∙◌, refl, ap, Contains, List}
use Rattle.std.proofs.lemmas.Bool.{false≢true}
use Rattle.stock_nums.specs.declared.entry.Entry.{Entry}
use Rattle.stock_model.specs.InOrder.{IsInPostingOrder}
use Rattle.repost_laws.specs.Touched.{follows_in_key}
use Rattle.repost_spread.specs.Touches.{ComesNext}
use Rattle.repost_spread.proofs.TouchingLines.{one-at, found-at, some-one}
use Rattle.repost_spread.proofs.TouchingMarks.{unmarked, marked-as}
use Rattle.repost_spread.proofs.movements.Movements.mark_started.Goals as goal

pub returns-then-is_average : goal.returns-then-is_average
returns-then-is_average g c =
    let e = c.args.entry.now in
    let place = c.in-Some.place in
    let line = g.line in
    let next = found-at (follows_in_key e) line place (c.in-Some.ensures.next e (sym c.key_of.ensures) refl) in
    marked-as c.args.self.now c.mark.new.self (λ f. f.place ≡ place) (ComesNext line e)
    (λ f held at. let same = one-at line next.e f (subst IsInPostingOrder c.requires.1 c.requires.0.indexed.in_order) next.held (subst (λ (l : List Entry). Contains l f) c.requires.1 held) (at ∙ sym next.at) in
    ((c.is_average.ensures f held at).0 c.if-is_average.true, next.is ∙ ap Some (sym same)))
    (λ f held is. ap (λ (h : Entry). h.place) (sym (some-one next.e f (sym next.is ∙ is.1))) ∙ next.at)
    c.mark.ensures

pub returns-else-is_average : goal.returns-else-is_average
returns-else-is_average g c =
    let e = c.args.entry.now in
    let place = c.in-Some.place in
    let line = g.line in
    let next = found-at (follows_in_key e) line place (c.in-Some.ensures.next e (sym c.key_of.ensures) refl) in
    unmarked c.args.self.now (ComesNext line e) c.requires.0
    (λ f held is. let at = ap (λ (h : Entry). h.place) (sym (some-one next.e f (sym next.is ∙ is.1))) ∙ next.at in
    false≢true (sym c.if-is_average.false ∙ (c.is_average.ensures f held at).1 is.0))
