-- Posting order is a strict total order of places.
use Rattle.std.proofs.Common.{◌≡◌, ℕ, ◌<◌, ◌⊎◌, Bool, true, false, nat_lt, refl, sym, ap, ◌∙◌, subst, arith}
use Rattle.std.proofs.lemmas.Bool.{false≢true}
use Rattle.std.proofs.lemmas.Bool.Decides.{nat_tests}
use Rattle.stock_nums.specs.Calendar.{IsCalendarDate}
use Rattle.stock_nums.specs.Places.{first_by, side_rank, is_before}
use Rattle.stock_nums.specs.declared.moment.Moment.{Moment}
use Rattle.stock_nums.specs.declared.numbers.RecordNo.{RecordNo}
use Rattle.stock_nums.specs.declared.place.Place.{Place}
use Rattle.stock_nums.specs.declared.place.Side.{Side}
use Rattle.stock_nums.specs.declared.place.Side.TheVariants.{Leaves, Enters}
use denote.Struct.Props.{props}

-- nothing comes before its like by a number and then by what cannot come before itself
first_by-irreflexive : (a : ℕ) (rest : Bool) → rest ≡ false → first_by a a rest ≡ false
first_by-irreflexive a rest h = grind (arith, nat_tests)

-- comparing by a number and then by what is transitive is transitive
first_by-transitive : (a b c : ℕ) (r s t : Bool) → (r ≡ true → s ≡ true → t ≡ true) → first_by a b r ≡ true → first_by b c s ≡ true → first_by a c t ≡ true
first_by-transitive a b c r s t rest h k = grind (arith, nat_tests)

-- of two numbers one comes first, or they tie and the rest decides
first_by-total : (P : Type 0) (a b : ℕ) (r s : Bool) → (r ≡ true) ⊎ (s ≡ true) ⊎ P → (first_by a b r ≡ true) ⊎ (first_by b a s ≡ true) ⊎ ((a ≡ b) × P)
first_by-total P a b r s rest = grind (arith, nat_tests)

-- no number is below itself
nat_lt-irreflexive : (a : ℕ) → nat_lt a a ≡ false
nat_lt-irreflexive a = grind (arith, nat_tests)

-- the order of numbers is transitive
nat_lt-transitive : (a b c : ℕ) → nat_lt a b ≡ true → nat_lt b c ≡ true → nat_lt a c ≡ true
nat_lt-transitive a b c h k = grind (arith, nat_tests)

-- of two numbers one is below the other, or they are one
nat_lt-total : (a b : ℕ) → (nat_lt a b ≡ true) ⊎ (nat_lt b a ≡ true) ⊎ (a ≡ b)
nat_lt-total a b = grind (arith, nat_tests)

-- a place does not come before itself
pub is_before-irreflexive : (p : Place) → is_before p p ≡ false
is_before-irreflexive p =
    first_by-irreflexive p.moment.date _ (first_by-irreflexive p.moment.second _ (first_by-irreflexive p.voucher.0 _ (first_by-irreflexive p.line _ (nat_lt-irreflexive (side_rank p.side)))))

-- a place that comes before a second, which comes before a third, comes before the third
pub is_before-transitive : (p q r : Place) → is_before p q ≡ true → is_before q r ≡ true → is_before p r ≡ true
is_before-transitive p q r =
    first_by-transitive p.moment.date q.moment.date r.moment.date _ _ _
    (first_by-transitive p.moment.second q.moment.second r.moment.second _ _ _
    (first_by-transitive p.voucher.0 q.voucher.0 r.voucher.0 _ _ _
    (first_by-transitive p.line q.line r.line _ _ _ (nat_lt-transitive (side_rank p.side) (side_rank q.side) (side_rank r.side)))))

-- of two places at most one comes before the other
pub is_before-asymmetric : (p q : Place) → is_before p q ≡ true → is_before q p ≡ false
is_before-asymmetric p q h =
    let never : is_before q p ≡ true → ⊥ = λ k. false≢true (sym (is_before-irreflexive p) ∙ is_before-transitive p q p h k) in
    grind arith

-- the two sides have different ranks
side_rank-same : (a b : Side) → side_rank a ≡ side_rank b → a ≡ b
side_rank-same Leaves Leaves h = refl
side_rank-same Leaves Enters h = absurd (omega arith)
side_rank-same Enters Leaves h = absurd (omega arith)
side_rank-same Enters Enters h = refl

-- a moment from its parts
abbrev moment_of : (date second : ℕ) → IsCalendarDate date → second < 86400 → Moment
moment_of date second exists within_day =
    record { date = date; second = second; exists = exists; within_day = within_day }

-- a date is in the calendar in one way only
IsCalendarDate-prop : (date : ℕ) → IsProp (IsCalendarDate date)
IsCalendarDate-prop date = hlevel props

-- a second is in the day in one way only
within_day-prop : (second : ℕ) → IsProp (second < 86400)
within_day-prop second = hlevel props

-- how its date and second are known to be right makes no difference to a moment
moment_of-same : (date second : ℕ) (e f : IsCalendarDate date) (v w : second < 86400) → moment_of date second e v ≡ moment_of date second f w
moment_of-same date second e f v w =
    ap (λ x. moment_of date second x v) (IsCalendarDate-prop date e f) ∙ ap (λ x. moment_of date second f x) (within_day-prop second v w)

-- moments of one date and of equal seconds are one
moment_of-same_second : (date s t : ℕ) → s ≡ t → (e f : IsCalendarDate date) (v : s < 86400) (w : t < 86400) → moment_of date s e v ≡ moment_of date t f w
moment_of-same_second date s t h =
    subst (λ (x : ℕ). (e f : IsCalendarDate date) (v : s < 86400) (w : x < 86400) → moment_of date s e v ≡ moment_of date x f w) h (moment_of-same date s)

-- moments of equal dates and of equal seconds are one
moment_of-same_date : (c d s t : ℕ) → c ≡ d → s ≡ t → (e : IsCalendarDate c) (f : IsCalendarDate d) (v : s < 86400) (w : t < 86400) → moment_of c s e v ≡ moment_of d t f w
moment_of-same_date c d s t h k =
    subst (λ (x : ℕ). (e : IsCalendarDate c) (f : IsCalendarDate x) (v : s < 86400) (w : t < 86400) → moment_of c s e v ≡ moment_of x t f w) h (moment_of-same_second c s t k)

-- moments with the same date and second are one moment
pub Moment-same : (m n : Moment) → m.date ≡ n.date → m.second ≡ n.second → m ≡ n
Moment-same m n h k =
    moment_of-same_date m.date n.date m.second n.second h k m.exists n.exists m.within_day n.within_day

-- records with the same number are one
RecordNo-same : (a b : RecordNo) → a.0 ≡ b.0 → a ≡ b
RecordNo-same a b h = let of : ℕ → RecordNo = λ n. record { 0 = n } in ap of h

-- a place from its parts
abbrev place_of : Moment → RecordNo → ℕ → Side → Place
place_of moment voucher line side =
    record { moment = moment; voucher = voucher; line = line; side = side }

-- places from equal parts are one place
place_of-same : (m n : Moment) (v w : RecordNo) (k l : ℕ) (a b : Side) → m ≡ n → v ≡ w → k ≡ l → a ≡ b → place_of m v k a ≡ place_of n w l b
place_of-same m n v w k l a b moment voucher line side =
    ap (λ (x : Moment). place_of x v k a) moment ∙ ap (λ (x : RecordNo). place_of n x k a) voucher ∙ ap (λ (x : ℕ). place_of n w x a) line ∙ ap (λ (x : Side). place_of n w l x) side

-- places with the same parts are one place
pub Place-same : (p q : Place) → (p.moment.date ≡ q.moment.date) × ((p.moment.second ≡ q.moment.second) × ((p.voucher.0 ≡ q.voucher.0) × ((p.line ≡ q.line) × (side_rank p.side ≡ side_rank q.side)))) → p ≡ q
Place-same p q (date, (second, (voucher, (line, side)))) =
    place_of-same p.moment q.moment p.voucher q.voucher p.line q.line p.side q.side
    (Moment-same p.moment q.moment date second)
    (RecordNo-same p.voucher q.voucher voucher)
    line
    (side_rank-same p.side q.side side)

-- what follows from the last of three cases may stand in its place
third_case : {A B C D : Type 0} → (C → D) → A ⊎ B ⊎ C → A ⊎ B ⊎ D
third_case f h = grind arith

-- of two places one comes before the other, or they are one place
pub is_before-total : (p q : Place) → (is_before p q ≡ true) ⊎ (is_before q p ≡ true) ⊎ (p ≡ q)
is_before-total p q =
    third_case (Place-same p q)
    (first_by-total _ p.moment.date q.moment.date _ _
    (first_by-total _ p.moment.second q.moment.second _ _
    (first_by-total _ p.voucher.0 q.voucher.0 _ _
    (first_by-total _ p.line q.line _ _ (nat_lt-total (side_rank p.side) (side_rank q.side))))))
