-- The units that the movement brought have the numbers after those that entered before it.
use Rattle.std.proofs.Common.{◌+◌, List, Contains, refl, sym, ◌∙◌, subst, arith}
use Rattle.std.proofs.lemmas.Bool.{false≢true}
use Rattle.stock_nums.specs.declared.entry.Entry.{Entry}
use Rattle.stock_model.specs.Enough.{entry_key, enters_under}
use Rattle.cost_links.specs.Sources.{comes_before}
use Rattle.repost_index.specs.Indexed.{AreIndexed}
use Rattle.repost_laws.specs.Looks.{TakesUnits}
use Rattle.repost_spread.specs.Spreads.{LeavesWithin}
use Rattle.repost_spread.proofs.TakingUnits.{units-few}
use Rattle.repost_spread.proofs.TouchingLines.{is-fifo}
use Rattle.repost_spread.proofs.TouchingMarks.{unmarked, marked-as}
use Rattle.repost_spread.proofs.SpreadingUnits.{is-entering, takes-needs, within-takes, takes-within}
use Rattle.repost_spread.proofs.movements.Movements.mark_takers.Goals as goal
use Rattle.repost_spread.proofs.movements.Movements.mark_takers.Goals.{else-eq-via-then-eq+else-eq-2, else-eq-via-else-eq}

pub overflow_add-from : goal.overflow_add-from
overflow_add-from g c =
    let e = c.args.entry.now in
    let indexed = subst (λ (es : List Entry). AreIndexed es c.args.self.now.index) c.requires.1.0 c.requires.0.indexed in
    omega (
      arith,
      c.entered_before-from.ensures,
      units-few (enters_under (entry_key e)) (comes_before e.place) g.line indexed.few,
      e.quantity.1,
    )

pub returns-then-eq-2 : goal.returns-then-eq-2
returns-then-eq-2 g c =
    let e = c.args.entry.now in
    let line = g.line in
    let same = c.requires.1.0 in
    let key = c.key_of.result in
    let from = c.entered_before-from.result.0 in
    let until = from + e.qty.0 in
    let method = (is-fifo e.method c.eq.result c.eq.ensures).0 c.if-eq.true in
    let enters = is-entering e.place.side c.eq-then-eq.result c.eq-then-eq.ensures ∙ c.if-eq-2.true in
    marked-as c.args.self.now c.mark_leaving.new.self (LeavesWithin line key from until) (TakesUnits line e)
    (λ f held is. within-takes line e key from until c.key_of.ensures c.entered_before-from.ensures refl c.requires.1.1.0 c.requires.1.1.1
    f (subst (λ (l : List Entry). Contains l f) same held) method enters is)
    (λ f held takes. takes-within line e key from until c.key_of.ensures c.entered_before-from.ensures refl c.requires.1.1.0 c.requires.1.1.1
    f (subst (λ (l : List Entry). Contains l f) same held) takes)
    c.mark_leaving.ensures

pub returns-else-eq : goal.returns-else-eq
returns-else-eq g c =
    let e = c.args.entry.now in
    unmarked c.args.self.now (TakesUnits g.line e) c.requires.0
    (λ f held takes.
    let needs = takes-needs g.line e f c.requires.1.1.1 c.requires.1.1.0 (subst (λ (l : List Entry). Contains l f) c.requires.1.0 held) takes in
    elim c.else-eq.branch [
      | else-eq-via-then-eq+else-eq-2 w ↦
          false≢true (sym w.if-eq-2.false ∙ sym (is-entering e.place.side w.eq-then-eq.result w.eq-then-eq.ensures) ∙ needs.1)
      | else-eq-via-else-eq w ↦ false≢true (sym w.if-eq.false ∙ (is-fifo e.method c.eq.result c.eq.ensures).1 needs.0)
    ])
