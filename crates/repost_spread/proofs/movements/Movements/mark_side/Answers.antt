-- Only the movement of the line on the side stands at the place that is found.
use Rattle.std.proofs.Common.{◌≡◌, sym, subst, ◌∙◌, Contains, List}
use Rattle.std.proofs.lemmas.Option.{none-some}
use Rattle.stock_nums.specs.declared.entry.Entry.{Entry}
use Rattle.repost_spread.specs.Touches.{IsOfSide}
use Rattle.repost_spread.proofs.TouchingLines.{of-side, some-one}
use Rattle.repost_spread.proofs.TouchingMarks.{unmarked, marked-as}
use Rattle.repost_spread.proofs.movements.Movements.mark_side.Goals as goal

pub returns-in-Some : goal.returns-in-Some
returns-in-Some g c =
    let place = c.in-Some.place in
    let of : (f : Entry) → Contains g.line f → IsOfSide c.args.own c.args.side f → f.place ≡ place
    = λ f held is. some-one f.place place (sym (c.in-Some.ensures.place f held is.0 is.1)) in
    marked-as c.args.self.now c.mark.new.self (λ f. f.place ≡ place) (IsOfSide c.args.own c.args.side)
    (λ f held at. of-side c.args.own c.args.side place f c.in-Some.ensures.own at)
    (λ f held is. of f (subst (λ (line : List Entry). Contains line f) c.requires.1 held) is) c.mark.ensures

pub returns-in_default : goal.returns-in_default
returns-in_default g c =
    unmarked c.args.self.now (IsOfSide c.args.own c.args.side) c.requires.0
    (λ f held is. none-some f.place (sym c.in_default.is ∙ c.place_of.ensures.place f (subst (λ (line : List Entry). Contains line f) c.requires.1 held) is.0 is.1))
