-- The walk goes on to the next one, and ends at one that comes or goes or where no more come.
use Rattle.std.proofs.Common.{◌≡◌, ℕ, Bool, true, false, ◌||◌, List, Contains, nat_lt, refl, sym, ap, ◌∙◌, subst}
use Rattle.std.proofs.lemmas.Bool.{false≢true}
use Rattle.stock_nums.specs.declared.entry.Entry.{Entry}
use Rattle.stock_nums.specs.declared.place.Place.{Place}
use Rattle.stock_model.specs.InOrder.{IsInPostingOrder}
use Rattle.repost_laws.specs.Touched.{is_changed}
use Rattle.repost_spread.specs.Marks.{AreMarked}
use Rattle.repost_spread.specs.Touches.{LeavesNext, has_record}
use Rattle.repost_spread.specs.declared.movements.Movements.{Movements}
use Rattle.repost_spread.proofs.TouchingMarks.{marked-as, marked-at}
use Rattle.repost_spread.proofs.TouchingWalk.{IsPassed, walk-goes_on, behind-less, ends-next, next-ends, ends-none, none-ends, step-leaving, step-staying, step-to, step-none}
use Rattle.repost_spread.proofs.movements.Movements.mark_left.Goals as goal
use Rattle.repost_spread.proofs.movements.Movements.mark_left.Goals.{then-leaves_first_in, else-leaves_first_in}

-- whether the next one comes or goes
next-changed : (n : ℕ) (gone : List Entry) (e : Entry) (place : Place) (tested b : Bool) → e.place ≡ place
    → tested ≡ (nat_lt n place.voucher.0 || has_record gone place.voucher.0) → tested ≡ b → is_changed n (has_record gone) e ≡ b
next-changed n gone e place tested b at is so =
    ap (λ (p : Place). nat_lt n p.voucher.0 || has_record gone p.voucher.0) at ∙ sym is ∙ so

pub loop-place-preserved : goal.loop-place-preserved
loop-place-preserved g c =
    let test = is_changed c.args.n.0 (has_record c.args.gone.now) in
    let e = c.args.entry.now in
    let line = g.line in
    let last = c.loop-place.last in
    let place = c.in-Some.place in
    let old = c.args.self.now in
    let same = c.requires.1.0 in
    let in_order = subst IsInPostingOrder same c.requires.0.indexed.in_order in
    let walked = c.loop-place.invariant.walked in
    let next = step-to line e last place c.key_of.result c.key_of.ensures c.in-Some.ensures.first in
    let mid = c.loop-place.self in
    let were = c.loop-place.invariant.marked in
    let now = sym (were.alike.entries ∙ same) in
    let stepped : AreMarked old c.if-leaves_first_in.self (IsPassed e place) = elim c.if-leaves_first_in.branch [
      | then-leaves_first_in w ↦
          let new : Movements = record { frontier = w.mark.new.self; index = mid.index; links = mid.links } in
          subst (λ (m : Movements). AreMarked old m (IsPassed e place)) (sym w.self-is)
          (step-leaving test line e last place in_order walked next old mid same were new
          (marked-at mid new place were.kept w.mark.ensures.marked refl refl)
          (λ f held at. (c.leaves_first_in.ensures f (subst (λ (l : List Entry). Contains l f) now held) at).0 w.if-leaves_first_in.true))
      | else-leaves_first_in w ↦
          subst (λ (m : Movements). AreMarked old m (IsPassed e place)) (sym w.self-is)
          (step-staying test line e last place in_order walked next old mid same were
          (λ f held at leaves. false≢true (sym w.if-leaves_first_in.false
          ∙ (c.leaves_first_in.ensures f (subst (λ (l : List Entry). Contains l f) now held) at).1 leaves)))
    ] in
    let stays = next-changed c.args.n.0 c.args.gone.now next.e place c.is_changed.result false next.at c.is_changed.ensures c.if-is_changed.false in
    record { walked = walk-goes_on test line e last place in_order walked next stays; marked = stepped }

pub loop-place-smaller : goal.loop-place-smaller
loop-place-smaller g c =
    let test = is_changed c.args.n.0 (has_record c.args.gone.now) in
    let e = c.args.entry.now in
    let in_order = subst IsInPostingOrder c.requires.1.0 c.requires.0.indexed.in_order in
    let next = step-to g.line e c.loop-place.last c.in-Some.place c.key_of.result c.key_of.ensures c.in-Some.ensures.first in
    behind-less test g.line e c.loop-place.last c.in-Some.place in_order c.loop-place.invariant.walked next

pub returns-then-is_changed : goal.returns-then-is_changed
returns-then-is_changed g c =
    let test = is_changed c.args.n.0 (has_record c.args.gone.now) in
    let e = c.args.entry.now in
    let line = g.line in
    let last = c.loop-place.last in
    let place = c.in-Some.place in
    let old = c.args.self.now in
    let same = c.requires.1.0 in
    let in_order = subst IsInPostingOrder same c.requires.0.indexed.in_order in
    let walked = c.loop-place.invariant.walked in
    let next = step-to line e last place c.key_of.result c.key_of.ensures c.in-Some.ensures.first in
    let mid = c.loop-place.self in
    let were = c.loop-place.invariant.marked in
    let now = sym (were.alike.entries ∙ same) in
    let stepped : AreMarked old c.if-leaves_first_in.self (IsPassed e place) = elim c.if-leaves_first_in.branch [
      | then-leaves_first_in w ↦
          let new : Movements = record { frontier = w.mark.new.self; index = mid.index; links = mid.links } in
          subst (λ (m : Movements). AreMarked old m (IsPassed e place)) (sym w.self-is)
          (step-leaving test line e last place in_order walked next old mid same were new
          (marked-at mid new place were.kept w.mark.ensures.marked refl refl)
          (λ f held at. (c.leaves_first_in.ensures f (subst (λ (l : List Entry). Contains l f) now held) at).0 w.if-leaves_first_in.true))
      | else-leaves_first_in w ↦
          subst (λ (m : Movements). AreMarked old m (IsPassed e place)) (sym w.self-is)
          (step-staying test line e last place in_order walked next old mid same were
          (λ f held at leaves. false≢true (sym w.if-leaves_first_in.false
          ∙ (c.leaves_first_in.ensures f (subst (λ (l : List Entry). Contains l f) now held) at).1 leaves)))
    ] in
    let changed = next-changed c.args.n.0 c.args.gone.now next.e place c.is_changed.result true next.at c.is_changed.ensures c.if-is_changed.true in
    marked-as old c.if-leaves_first_in.self (IsPassed e place) (LeavesNext test line e)
    (λ f held is. ends-next test line e last place in_order walked next f c.requires.1.1.0 c.requires.1.1.1.0 is)
    (λ f held is. next-ends test line e last place in_order walked next f changed is)
    stepped

pub returns : goal.returns
returns g c =
    let test = is_changed c.args.n.0 (has_record c.args.gone.now) in
    let e = c.args.entry.now in
    let last = c.loop-place.last in
    let old = c.args.self.now in
    let walked = c.loop-place.invariant.walked in
    let none = step-none g.line e last c.key_of.result c.key_of.ensures (sym c.in_default.is ∙ c.next.ensures.first) in
    marked-as old c.loop-place.self (IsPassed e last) (LeavesNext test g.line e)
    (λ f held is. ends-none test g.line e last f walked c.requires.1.1.0 c.requires.1.1.1.0 is)
    (λ f held is. none-ends test g.line e last f none (subst (λ (l : List Entry). Contains l f) c.requires.1.0 held) is)
    c.loop-place.invariant.marked
