-- What enters by the movement's line stands at the place that is found.
use Rattle.std.proofs.Common.{◌≡◌, sym, ap, subst, ◌∙◌, Contains, List}
use Rattle.std.proofs.lemmas.Bool.{false≢true}
use Rattle.std.proofs.lemmas.Option.{none-some}
use Rattle.stock_nums.specs.Places.{is_before}
use Rattle.stock_nums.specs.declared.entry.Entry.{Entry}
use Rattle.stock_nums.specs.declared.place.Place.{Place}
use Rattle.stock_nums.specs.declared.place.Side.TheVariants.{Enters}
use Rattle.repost_spread.specs.Spreads.{EntersLaterBy}
use Rattle.repost_spread.proofs.LinkingLines.{arrives-entering}
use Rattle.repost_spread.proofs.TouchingLines.{of-side, some-one}
use Rattle.repost_spread.proofs.TouchingMarks.{unmarked, marked-as}
use Rattle.repost_spread.proofs.movements.Movements.mark_entering.Goals as goal
use Rattle.repost_spread.proofs.movements.Movements.mark_entering.Goals.{else-is_transfer-via-then-is_transfer+else-is_before, else-is_transfer-via-else-is_transfer}

pub returns-then-is_before : goal.returns-then-is_before
returns-then-is_before g c =
    let e = c.args.entry.now in
    let place = c.in-Some.place in
    marked-as c.args.self.now c.mark.new.self (λ f. f.place ≡ place) (EntersLaterBy e)
    (λ f held at. (
      ap (λ (p : Place). is_before e.place p) at ∙ sym c.is_before.ensures ∙ c.if-is_before.true,
      ((c.is_transfer.ensures f held at).0 c.if-is_transfer.true, (of-side c.own_line.result Enters place f c.in-Some.ensures.own at).0 ∙ c.own_line.ensures),
    ))
    (λ f held is. some-one f.place place (sym (c.in-Some.ensures.place f (subst (λ (line : List Entry). Contains line f) c.requires.1 held)
    (is.1.1 ∙ sym c.own_line.ensures) (arrives-entering f is.1.0))))
    c.mark.ensures

pub returns-else-is_transfer : goal.returns-else-is_transfer
returns-else-is_transfer g c =
    let e = c.args.entry.now in
    let place = c.in-Some.place in
    unmarked c.args.self.now (EntersLaterBy e) c.requires.0
    (λ f held is.
    let at : f.place ≡ place = some-one f.place place (sym (c.in-Some.ensures.place f (subst (λ (line : List Entry). Contains line f) c.requires.1 held)
    (is.1.1 ∙ sym c.own_line.ensures) (arrives-entering f is.1.0))) in
    elim c.else-is_transfer.branch [
      | else-is_transfer-via-then-is_transfer+else-is_before w ↦
          false≢true (sym w.if-is_before.false ∙ w.is_before.ensures ∙ ap (λ (p : Place). is_before e.place p) (sym at) ∙ is.0)
      | else-is_transfer-via-else-is_transfer w ↦ false≢true (sym w.if-is_transfer.false ∙ (c.is_transfer.ensures f held at).1 is.1.0)
    ])

pub returns-in_default : goal.returns-in_default
returns-in_default g c =
    unmarked c.args.self.now (EntersLaterBy c.args.entry.now) c.requires.0
    (λ f held is. none-some f.place (sym c.in_default.is ∙ c.place_of.ensures.place f (subst (λ (line : List Entry). Contains line f) c.requires.1 held)
    (is.1.1 ∙ sym c.own_line.ensures) (arrives-entering f is.1.0)))
