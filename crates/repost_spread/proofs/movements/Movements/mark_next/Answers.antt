-- The next one stands at the place that is found, and is costed as the movement is.
use Rattle.std.proofs.Common.{◌≡◌, Some, List, Contains, refl, sym, ap, ◌∙◌, subst}
use Rattle.std.proofs.lemmas.Bool.{false≢true}
use Rattle.stock_nums.specs.declared.entry.Entry.{Entry}
use Rattle.stock_model.specs.InOrder.{IsInPostingOrder}
use Rattle.repost_laws.specs.Touched.{follows_in_key, next_of_key}
use Rattle.repost_spread.specs.Touches.{ComesNext}
use Rattle.repost_spread.proofs.TouchingLines.{is-average, one-at, found-at, some-one}
use Rattle.repost_spread.proofs.TouchingMarks.{unmarked, marked-as}
use Rattle.repost_spread.proofs.SpreadingMarks.{next-method}
use Rattle.repost_spread.proofs.movements.Movements.mark_next.Goals as goal

pub returns-in-Some : goal.returns-in-Some
returns-in-Some g c =
    let e = c.args.entry.now in
    let place = c.in-Some.place in
    let line = g.line in
    let same = c.requires.1.0 in
    let next = found-at (follows_in_key e) line place (c.in-Some.ensures.next e (sym c.key_of.ensures) refl) in
    marked-as c.args.self.now c.mark.new.self (λ f. f.place ≡ place) (ComesNext line e)
    (λ f held at.
    let it = one-at line next.e f (subst IsInPostingOrder same c.requires.0.indexed.in_order) next.held
    (subst (λ (l : List Entry). Contains l f) same held) (at ∙ sym next.at) in
    let is : next_of_key line e ≡ Some f = next.is ∙ ap Some (sym it) in
    (next-method line e f c.requires.1.1.1 c.requires.1.1.0 is ∙ (is-average e.method c.eq.result c.eq.ensures).0 c.if-eq.true, is))
    (λ f held is. ap (λ (h : Entry). h.place) (sym (some-one next.e f (sym next.is ∙ is.1))) ∙ next.at)
    c.mark.ensures

pub returns-else-eq : goal.returns-else-eq
returns-else-eq g c =
    let e = c.args.entry.now in
    unmarked c.args.self.now (ComesNext g.line e) c.requires.0
    (λ f held is. false≢true (sym c.if-eq.false ∙ (is-average e.method c.eq.result c.eq.ensures).1
    (sym (next-method g.line e f c.requires.1.1.1 c.requires.1.1.0 is.1) ∙ is.0)))
