-- What left by a line of a voucher: what its one movement that leaves is worth, or nothing.
use Rattle.std.proofs.Common.{◌≡◌, ℕ, true, false, List, [], ◌∷◌, filter, sum_by, refl, sym, ap, ◌∙◌, subst, arith, Contains}
use Rattle.std.proofs.lemmas.Bool.{false≢true}
use Rattle.std.proofs.lemmas.List.Kept.{AllPairs-filter}
use Rattle.std.proofs.lemmas.List.Sums.{sum_by-cons}
use Rattle.stock_nums.specs.Causes.{is_entering}
use Rattle.stock_nums.specs.Places.{is_before}
use Rattle.stock_nums.specs.declared.cause.Target.{Target}
use Rattle.stock_nums.specs.declared.entry.Entry.{Entry}
use Rattle.stock_nums.specs.declared.moment.Moment.{Moment}
use Rattle.stock_nums.specs.declared.numbers.RecordNo.{RecordNo}
use Rattle.stock_nums.specs.declared.place.Place.{Place}
use Rattle.stock_nums.specs.declared.place.Side.{Side}
use Rattle.stock_nums.specs.declared.place.Side.TheVariants.{Leaves, Enters}
use Rattle.stock_model.specs.Enough.{entry_units}
use Rattle.stock_model.specs.InOrder.{IsBefore, IsInPostingOrder}
use Rattle.stock_model.specs.Values.{own_line}
use Rattle.stock_model.proofs.Pairwise.{Pairwise, Precedes-Contains, Pairwise-from_AllPairs, Contains-first, Contains-later}
use Rattle.cost_links.specs.Sources.{comes_before}
use Rattle.repost_laws.specs.Looks.{HaveOneMoment}
use Rattle.repost_laws.specs.Valuations.{Found, found_value, earlier, is_leaving_by, left_by, taken_over}
use Rattle.repost_laws.proofs.EarlierOnes.{never_itself}
use Rattle.repost_laws.proofs.Filtered.{Contains-filtered, Contains-filter}
use Rattle.repost_laws.proofs.LooksTaken.{leaves-by, leaves-by_from}
use Rattle.repost_laws.proofs.PieceSums.{sum_by-whole}
use Rattle.repost_laws.proofs.Turns.{one_place}

-- a sum over none
sum-none : (value : Entry → ℕ) (es : List Entry) → ((e : Entry) → Contains es e → ⊥) → sum_by value es ≡ 0
sum-none value [] none = refl
sum-none value (e ∷ es) none = absurd (none e (Contains-first e es))

-- and over one, where a list in order has no other
sum-one : (value : Entry → ℕ) (es : List Entry) (g : Entry) → Pairwise IsBefore es → Contains es g
    → ((e : Entry) → Contains es e → e ≡ g) → sum_by value es ≡ value g
sum-one value [] g ordered held only = absurd (omega (arith, held.1))
sum-one value (e ∷ es) g ordered held only =
    let first : e ≡ g = only e (Contains-first e es) in
    let none : sum_by value es ≡ 0 = sum-none value es
    (λ f later. never_itself g (subst (λ (x : Entry). IsBefore x g) first
    (subst (IsBefore e) (only f (Contains-later e es f later)) (Precedes-Contains IsBefore e es f ordered.0 later)))) in
    omega (arith, sum_by-cons value e es, none, ap value first)

-- places are one by their parts
place-parts : (p q : Place) → p.moment ≡ q.moment → p.voucher ≡ q.voucher → p.line ≡ q.line → p.side ≡ q.side → p ≡ q
place-parts p q moment voucher line side =
    ap (λ (m : Moment). record { moment = m; voucher = p.voucher; line = p.line; side = p.side }) moment
    ∙ ap (λ (v : RecordNo). record { moment = q.moment; voucher = v; line = p.line; side = p.side }) voucher
    ∙ ap (λ (n : ℕ). record { moment = q.moment; voucher = q.voucher; line = n; side = p.side }) line
    ∙ ap (λ (s : Side). record { moment = q.moment; voucher = q.voucher; line = q.line; side = s }) side

side-leaves : (side : Side) → is_entering side ≡ false → side ≡ Leaves
side-leaves Leaves leaves = refl
side-leaves Enters leaves = absurd (false≢true (sym leaves))

-- by a line one movement leaves
one-leaves : (line : List Entry) (target : Target) (g h : Entry) → IsInPostingOrder line → HaveOneMoment line
    → Contains line g → own_line g ≡ target → is_entering g.place.side ≡ false
    → Contains line h → is_leaving_by target h ≡ true → h ≡ g
one-leaves line target g h in_order moments held own leaves other is =
    let by = leaves-by target h is in
    let same : own_line h ≡ own_line g = by.line ∙ sym own in
    let voucher : h.place.voucher ≡ g.place.voucher = ap (λ (t : Target). t.voucher) same in
    let place : h.place ≡ g.place = place-parts h.place g.place
    (moments h g other held (ap (λ (v : RecordNo). v.0) voucher)) voucher (ap (λ (t : Target). t.line) same)
    (side-leaves h.place.side by.leaves ∙ sym (side-leaves g.place.side leaves)) in
    one_place line g h (Pairwise-from_AllPairs IsBefore line in_order) held other place

left-sum : (found : Found) (past : List Entry) (target : Target) → taken_over found (left_by past target)
    ≡ sum_by (found_value found) (filter (is_leaving_by target) past)
left-sum found past target =
    sum_by-whole entry_units (found_value found) (λ e. e.quantity.0) (filter (is_leaving_by target) past)

-- those that left by a line before a movement
left-of : (line : List Entry) (target : Target) (f e : Entry) → Contains (filter (is_leaving_by target) (earlier line f)) e
    → Contains line e × (is_before e.place f.place ≡ true) × (is_leaving_by target e ≡ true)
left-of line target f e held =
    let by = Contains-filtered (is_leaving_by target) (earlier line f) e held in
    let in_line = Contains-filtered (comes_before f.place) line e by.0 in
    (in_line.0, in_line.1, by.1)

pub left-before : (found : Found) (line : List Entry) (target : Target) (g f : Entry) → IsInPostingOrder line
    → HaveOneMoment line → Contains line g → own_line g ≡ target → is_entering g.place.side ≡ false
    → is_before g.place f.place ≡ true → taken_over found (left_by (earlier line f) target) ≡ found_value found g
left-before found line target g f in_order moments held own leaves before =
    let out = filter (is_leaving_by target) (earlier line f) in
    let ordered : Pairwise IsBefore out = Pairwise-from_AllPairs IsBefore out
    (AllPairs-filter IsBefore (is_leaving_by target) (earlier line f)
    (AllPairs-filter IsBefore (comes_before f.place) line in_order)) in
    left-sum found (earlier line f) target
    ∙ sum-one (found_value found) out g ordered
    (Contains-filter (is_leaving_by target) (earlier line f) g (Contains-filter (comes_before f.place) line g held before)
    (leaves-by_from target g own leaves))
    (λ e one. let of = left-of line target f e one in
    one-leaves line target g e in_order moments held own leaves of.0 of.2)

pub left-later : (found : Found) (line : List Entry) (target : Target) (g f : Entry) → IsInPostingOrder line
    → HaveOneMoment line → Contains line g → own_line g ≡ target → is_entering g.place.side ≡ false
    → is_before g.place f.place ≡ false → taken_over found (left_by (earlier line f) target) ≡ 0
left-later found line target g f in_order moments held own leaves after =
    left-sum found (earlier line f) target
    ∙ sum-none (found_value found) (filter (is_leaving_by target) (earlier line f))
    (λ e one. let of = left-of line target f e one in
    let same : e ≡ g = one-leaves line target g e in_order moments held own leaves of.0 of.2 in
    false≢true (sym after ∙ ap (λ (x : Entry). is_before x.place f.place) (sym same) ∙ of.1))

pub left-none : (found : Found) (line : List Entry) (target : Target) (f : Entry)
    → ((g : Entry) → Contains line g → own_line g ≡ target → is_entering g.place.side ≡ false → ⊥)
    → taken_over found (left_by (earlier line f) target) ≡ 0
left-none found line target f none =
    left-sum found (earlier line f) target
    ∙ sum-none (found_value found) (filter (is_leaving_by target) (earlier line f))
    (λ e one. let of = left-of line target f e one in
    let by = leaves-by target e of.2 in none e of.0 by.line by.leaves)
