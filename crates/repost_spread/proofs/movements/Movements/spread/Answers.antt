-- What it marks is what the parts mark, by what differs.
use Rattle.std.proofs.Common.{◌≡◌, true, false, List, Contains, ◌⊎◌, refl, sym, ap, ◌∙◌, subst}
use Rattle.std.proofs.lemmas.Bool.{false≢true, not-true, not-false}
use Rattle.stock_nums.specs.declared.entry.Entry.{Entry}
use Rattle.repost_frontier.specs.Readings.{found_of, value_of}
use Rattle.repost_laws.specs.Fetches.{HaveOneMethod}
use Rattle.repost_laws.specs.Looks.{IsLinkedTo, TakesUnits}
use Rattle.repost_laws.specs.Touched.{had_after, had_value, IsMarked}
use Rattle.repost_spread.specs.Marks.{AreMarked}
use Rattle.repost_spread.specs.Movements.{line_of, slots_of}
use Rattle.repost_spread.specs.Touches.{ComesNext}
use Rattle.repost_spread.specs.declared.movements.Movements.{Movements}
use Rattle.repost_spread.proofs.TouchingMarks.{unmarked, marked-as, marked-then}
use Rattle.repost_spread.proofs.SpreadingMarks.{marks-none, next-marks, marks-next, all-marks, marks-all}
use Rattle.repost_spread.proofs.movements.Movements.spread.Goals as goal
use Rattle.repost_spread.proofs.movements.Movements.spread.Goals.{then-differs, then-differs-via-then-differs, then-differs-via-else-differs+then-differs-2, else-differs+else-differs-2}

pub mark_takers-requires : goal.mark_takers-requires
mark_takers-requires c =
    let old = c.args.self.now in
    let mid = c.if-differs.self in
    let was : line_of mid ≡ line_of old = elim c.if-differs.branch [
      | then-differs w ↦ ap line_of w.self-is ∙ w.mark_next.ensures.alike.entries
      | else-differs+else-differs-2 w ↦ ap line_of w.self-is
    ] in
    let now = sym (c.mark_linked.ensures.alike.entries ∙ was) in (
      c.mark_linked.ensures.kept,
      (
        refl,
        (
          subst (λ (l : List Entry). Contains l c.args.entry.now) now c.requires.held,
          subst HaveOneMethod now c.requires.one_method,
        ),
      ),
    )

pub returns-then-differs-3 : goal.returns-then-differs-3
returns-then-differs-3 c =
    let old = c.args.self.now in
    let mid = c.if-differs.self in
    let linked = c.mark_linked.new.self in
    let last = c.mark_takers.new.self in
    let line = line_of old in
    let e = c.args.entry.now in
    let found = found_of (slots_of old) in
    let now = value_of c.args.now.now in
    let in_order = c.requires.kept.indexed.in_order in
    let value : had_value found e.place now ≡ false = not-true (had_value found e.place now)
    (sym c.differs-differs.ensures.value ∙ c.if-differs-3.true) in
    let next : AreMarked old mid (ComesNext line e) = elim c.if-differs.branch [
      | then-differs w ↦ subst (λ (m : Movements). AreMarked old m (ComesNext line e)) (sym w.self-is) w.mark_next.ensures
      | else-differs+else-differs-2 w ↦ absurd (false≢true (sym w.if-differs.false ∙ c.if-differs-3.true))
    ] in
    let was : line_of linked ≡ line = c.mark_linked.ensures.alike.entries ∙ next.alike.entries in
    let takers : AreMarked linked last (TakesUnits line e) =
    subst (λ (l : List Entry). AreMarked linked last (TakesUnits l e)) was c.mark_takers.ensures in
    marked-as old last (λ f. ComesNext line e f ⊎ (IsLinkedTo e f ⊎ TakesUnits line e f)) (IsMarked line found e.place now)
    (λ f held all. all-marks line found e now in_order c.requires.enough c.requires.held f held value all)
    (λ f held marks. marks-all line found e now in_order c.requires.enough c.requires.held f held marks)
    (marked-then old mid last (ComesNext line e) (λ f. IsLinkedTo e f ⊎ TakesUnits line e f) next
    (marked-then mid linked last (IsLinkedTo e) (TakesUnits line e) c.mark_linked.ensures takers))

pub returns-else-differs-3 : goal.returns-else-differs-3
returns-else-differs-3 c =
    let old = c.args.self.now in
    let line = line_of old in
    let e = c.args.entry.now in
    let found = found_of (slots_of old) in
    let now = value_of c.args.now.now in
    let in_order = c.requires.kept.indexed.in_order in
    let value : had_value found e.place now ≡ true = not-false (had_value found e.place now)
    (sym c.differs-differs.ensures.value ∙ c.if-differs-3.false) in
    elim c.if-differs.branch [
      | then-differs w ↦ elim w.then-differs.branch [
        | then-differs-via-then-differs v ↦ absurd (false≢true (sym c.if-differs-3.false ∙ v.if-differs.true))
        | then-differs-via-else-differs+then-differs-2 v ↦
            let after : had_after found e.place now ≡ false = not-true (had_after found e.place now)
            (sym c.differs-differs.ensures.after ∙ v.if-differs-2.true) in
            subst (λ (m : Movements). AreMarked old m (IsMarked line found e.place now)) (sym w.self-is)
            (marked-as old w.mark_next.new.self (ComesNext line e) (IsMarked line found e.place now)
            (λ f held next. next-marks line found e now in_order c.requires.enough c.requires.held f held after next)
            (λ f held marks. marks-next line found e now in_order c.requires.enough c.requires.held f held value marks)
            w.mark_next.ensures)
      ]
      | else-differs+else-differs-2 w ↦
          let after : had_after found e.place now ≡ true = not-false (had_after found e.place now)
          (sym c.differs-differs.ensures.after ∙ w.if-differs-2.false) in
          subst (λ (m : Movements). AreMarked old m (IsMarked line found e.place now)) (sym w.self-is)
          (unmarked old (IsMarked line found e.place now) c.requires.kept
          (λ f held marks. marks-none line found e now in_order c.requires.enough c.requires.held f after value marks))
    ]
