-- The elements between commas, one after another.
use Rattle.std.proofs.Common.{sym, ◌∙◌}
use Rattle.desk_wire.proofs.CloseLemmas.{closes_first, closes_later, closes_last}
use Rattle.desk_wire.proofs.close.lists_close.Goals as goal

pub returns-then-is_close : goal.returns-then-is_close
returns-then-is_close c =
    let found = c.in-Some.ensures in
    sym (c.loop-element.invariant
    ∙ closes_first c.loop-element.rest.now c.in-Some.element.now c.in-Some.tail.now found.parts found.first
    (sym c.is_close.ensures ∙ c.if-is_close.true))

pub loop-element-preserved : goal.loop-element-preserved
loop-element-preserved c =
    let found = c.in-Some.ensures in
    c.loop-element.invariant
    ∙ closes_later c.loop-element.rest.now c.in-Some.element.now c.in-Some.tail.now found.parts found.first
    (sym c.is_close.ensures ∙ c.if-is_close.false)

pub returns : goal.returns
returns c =
    let found = c.in_default.ensures in
    c.is_close-2.ensures ∙ sym (c.loop-element.invariant ∙ closes_last c.loop-element.rest.now found.none)
