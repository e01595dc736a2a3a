-- What the calls make of the movements is a turn.
use Rattle.std.proofs.Common.{◌+◌, arith, List, refl, sym, ◌∙◌, subst}
use Rattle.stock_nums.specs.declared.entry.Entry.{Entry}
use Rattle.cost_links.specs.Taken.{Taken, taken_of, CanBeTaken}
use Rattle.repost_frontier.proofs.SlotReadings.{clean-first}
use Rattle.repost_laws.specs.Builds.{IsClean}
use Rattle.repost_build.specs.Readings.{slots_in, suspects_in}
use Rattle.repost_build.specs.declared.build.Build.{Build}
use Rattle.repost_build.proofs.Givens.{enough-of, one_method-of, turns-fit, first-of, can-of}
use Rattle.repost_build.proofs.Turned.{found-with, turned-build, of-turned, line-stays}
use Rattle.repost_build.proofs.build.Build.turn.Goals as goal

pub returns-in_err-entry-clause-clean : goal.returns-in_err-entry-clause-clean
returns-in_err-entry-clause-clean g c none =
    subst (λ (line : List Entry). IsClean line (suspects_in c.args.self.now)) c.requires.1.line
    (clean-first (slots_in c.args.self.now) (sym c.in_err-entry.ensures.first))

pub overflow_add-self : goal.overflow_add-self
overflow_add-self g c = omega (arith, turns-fit g.journal c.args.self.now c.requires.1)

pub taken_over-taken-requires-clause-held : goal.taken_over-taken-requires-clause-held
taken_over-taken-requires-clause-held g c =
    (first-of g.journal c.args.self.now c.requires.1 c.in_ok-entry.field-0.now (sym c.in_ok-entry.ensures.first)).held

pub taken_over-taken-requires-clause-enough : goal.taken_over-taken-requires-clause-enough
taken_over-taken-requires-clause-enough g c = enough-of g.journal c.args.self.now c.requires.1

pub taken_over-taken-requires-clause-can : goal.taken_over-taken-requires-clause-can
taken_over-taken-requires-clause-can g c = can-of g.journal c.args.self.now c.requires.1 c.in_ok-entry.field-0.now (sym c.in_ok-entry.ensures.first)

pub value_entry-valued-requires-clause-taken : goal.value_entry-valued-requires-clause-taken
value_entry-valued-requires-clause-taken g c =
    subst (λ (t : Taken). CanBeTaken t c.in_ok-entry.field-0.now.entry) (sym c.taken_over-taken.ensures.taken)
    (can-of g.journal c.args.self.now c.requires.1 c.in_ok-entry.field-0.now (sym c.in_ok-entry.ensures.first))

pub spread-requires-clause-held : goal.spread-requires-clause-held
spread-requires-clause-held g c =
    (first-of g.journal c.args.self.now c.requires.1 c.in_ok-entry.field-0.now (sym c.in_ok-entry.ensures.first)).held

pub spread-requires-clause-enough : goal.spread-requires-clause-enough
spread-requires-clause-enough g c = enough-of g.journal c.args.self.now c.requires.1

pub spread-requires-clause-one_method : goal.spread-requires-clause-one_method
spread-requires-clause-one_method g c = one_method-of g.journal c.args.self.now c.requires.1

pub returns-clause-of : goal.returns-clause-of
returns-clause-of g c =
    let old = c.args.self.now in
    let s = c.in_ok-entry.field-0.now in
    let new : Build = record { movements = c.value.new.self; base = old.base; target = old.target; gone = old.gone; fetches = old.fetches; turns = old.turns + 1; published = old.published } in
    let is = sym c.in_ok-entry.ensures.first in
    let v = c.value_entry-valued.result in
    let t = taken_of c.taken_over-taken.result in
    of-turned g.journal old new s.entry.place c.requires.1 c.value.ensures.kept
    (line-stays old.movements c.spread.new.self new.movements s v c.requires.1.kept is c.spread.ensures c.value.ensures.slots)
    (λ line. c.value.ensures.charged line ∙ c.spread.ensures.alike.charged line)
    (turned-build g.journal old new s v t c.spread.new.self c.requires.1 is c.taken_over-taken.ensures.taken
    (found-with v t s.entry c.value_entry-valued.ensures.value c.value_entry-valued.ensures.share c.value_entry-valued.ensures.after)
    c.spread.ensures c.value.ensures.slots refl refl refl refl refl)

pub returns-clause-turned : goal.returns-clause-turned
returns-clause-turned g c =
    let old = c.args.self.now in
    let s = c.in_ok-entry.field-0.now in
    let new : Build = record { movements = c.value.new.self; base = old.base; target = old.target; gone = old.gone; fetches = old.fetches; turns = old.turns + 1; published = old.published } in
    turned-build g.journal old new s c.value_entry-valued.result (taken_of c.taken_over-taken.result) c.spread.new.self c.requires.1
    (sym c.in_ok-entry.ensures.first) c.taken_over-taken.ensures.taken
    (found-with c.value_entry-valued.result (taken_of c.taken_over-taken.result) s.entry c.value_entry-valued.ensures.value
    c.value_entry-valued.ensures.share c.value_entry-valued.ensures.after) c.spread.ensures c.value.ensures.slots refl refl refl refl refl
