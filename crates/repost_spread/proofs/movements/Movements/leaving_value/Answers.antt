-- By a line of a voucher one movement leaves, and its place is the one that is found.
use Rattle.std.proofs.Common.{pos, List, sym, ap, ◌∙◌, subst}
use Rattle.std.proofs.lemmas.Bool.{false≢true}
use Rattle.stock_nums.specs.Places.{is_before}
use Rattle.stock_nums.specs.declared.entry.Entry.{Entry}
use Rattle.stock_nums.specs.declared.numbers.Minor.{Minor}
use Rattle.stock_nums.specs.declared.place.Place.{Place}
use Rattle.repost_frontier.specs.Readings.{found_of}
use Rattle.repost_index.specs.Indexed.{AreIndexed}
use Rattle.repost_laws.specs.WholeBuilds.{worth_at}
use Rattle.repost_spread.specs.Movements.{slots_of}
use Rattle.repost_spread.proofs.TakingLines.{left-none, left-at, from-zero, same-place}
use Rattle.repost_spread.proofs.movements.Movements.leaving_value.Goals as goal

pub returns-in_default : goal.returns-in_default
returns-in_default g c =
    ap pos (sym (left-none (found_of (slots_of c.args.self.now)) g.line c.args.entry.now c.args.by
    (λ f held own on before. c.in_default.not-Some f.place (c.place_of.ensures.place f held own on))))

pub returns-then-is_before : goal.returns-then-is_before
returns-then-is_before g c =
    let slots = slots_of c.args.self.now in
    let place = c.in-Some.place in
    let indexed = subst (λ (es : List Entry). AreIndexed es c.args.self.now.index) c.requires.1.0 c.requires.0.indexed in
    ap (λ (m : Minor). m.0) c.value_at.ensures
    ∙ from-zero (worth_at (found_of slots) place).value.0 (c.requires.1.1.1 place).from_zero
    ∙ ap pos (left-at slots g.line c.args.self.now.index c.args.entry.now c.args.by place c.requires.1.0 indexed
    c.in-Some.ensures.own (λ f held own on. same-place f.place place (sym (c.place_of.ensures.place f held own on) ∙ c.in-Some.is))
    (sym c.is_before.ensures ∙ c.if-is_before.true))

pub returns-else-is_before : goal.returns-else-is_before
returns-else-is_before g c =
    ap pos (sym (left-none (found_of (slots_of c.args.self.now)) g.line c.args.entry.now c.args.by
    (λ f held own on before.
    let same = same-place f.place c.in-Some.place (sym (c.place_of.ensures.place f held own on) ∙ c.in-Some.is) in
    false≢true (sym c.if-is_before.false ∙ c.is_before.ensures
    ∙ ap (λ (p : Place). is_before p c.args.entry.now.place) (sym same) ∙ before))))
