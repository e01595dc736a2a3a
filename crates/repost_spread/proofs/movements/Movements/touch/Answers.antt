-- What it marks is what the parts mark, one after another.
use Rattle.std.proofs.Common.{◌≡◌, true, ◌++◌, List, Contains, refl, sym, ◌∙◌, subst}
use Rattle.stock_nums.specs.declared.entry.Entry.{Entry}
use Rattle.cost_links.specs.Charged.{charge_pairs}
use Rattle.repost_laws.specs.Fetches.{is_charged_in}
use Rattle.repost_laws.specs.Touched.{is_changed, is_touched_by}
use Rattle.repost_spread.specs.Movements.{line_of}
use Rattle.repost_spread.specs.Touches.{has_record}
use Rattle.repost_spread.proofs.TouchingAll.{IsTouchedByAny, coming-changes, gone-changes, any-touched, touched-any, marked-by_all}
use Rattle.repost_spread.proofs.TouchingMarks.{marked-as}
use Rattle.repost_spread.proofs.movements.Movements.touch.Goals as goal

pub touch_after_all-requires-clause-held : goal.touch_after_all-requires-clause-held
touch_after_all-requires-clause-held c e held =
    subst (λ (line : List Entry). Contains line e) (sym c.mark_all.ensures.alike.entries) (c.requires.held e held)

pub touch_after_all-requires-clause-changed : goal.touch_after_all-requires-clause-changed
touch_after_all-requires-clause-changed c e held =
    coming-changes c.args.n.0 (line_of c.args.self.now) c.args.coming.now c.args.gone.now c.args.charges.now c.args.uncharged.now
    c.requires.kept.indexed.in_order c.requires.new_ones c.requires.held c.requires.going e held

pub touch_after_all-requires-2-clause-held : goal.touch_after_all-requires-2-clause-held
touch_after_all-requires-2-clause-held c e held =
    subst (λ (line : List Entry). Contains line e) (sym (c.touch_after_all.ensures.alike.entries ∙ c.mark_all.ensures.alike.entries))
    (c.requires.going.held e held)

pub touch_after_all-requires-2-clause-changed : goal.touch_after_all-requires-2-clause-changed
touch_after_all-requires-2-clause-changed c e held =
    gone-changes c.args.n.0 (line_of c.args.self.now) c.args.coming.now c.args.gone.now c.args.charges.now c.args.uncharged.now
    c.requires.kept.indexed.in_order c.requires.new_ones c.requires.held c.requires.going e held

pub returns : goal.returns
returns c =
    let n = c.args.n.0 in
    let old = c.args.self.now in
    let line = line_of old in
    let coming = c.args.coming.now in
    let gone = c.args.gone.now in
    let charges = c.args.charges.now in
    let uncharged = c.args.uncharged.now in
    let in_order = c.requires.kept.indexed.in_order in
    marked-as old c.mark_lines-2.new.self (IsTouchedByAny (is_changed n (has_record gone)) line coming gone charges uncharged)
    (λ f. is_touched_by n (has_record gone) (is_charged_in (charge_pairs charges ++ charge_pairs uncharged)) line f ≡ true)
    (any-touched n line coming gone charges uncharged in_order c.requires.new_ones c.requires.held c.requires.going)
    (touched-any n line coming gone charges uncharged in_order c.requires.new_ones c.requires.held c.requires.going)
    (marked-by_all (is_changed n (has_record gone)) line coming gone charges uncharged old c.mark_all.new.self c.touch_after_all.new.self
    c.touch_after_all-2.new.self c.mark_lines.new.self c.mark_lines-2.new.self refl c.mark_all.ensures c.touch_after_all.ensures
    c.touch_after_all-2.ensures c.mark_lines.ensures c.mark_lines-2.ensures)
