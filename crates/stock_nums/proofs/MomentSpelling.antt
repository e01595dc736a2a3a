-- A moment has one spelling.
use Rattle.std.proofs.Common.{◌≡◌, ℕ, ◌+◌, ◌*◌, ◌<◌, List, length, get_or, drop, sym, ◌∙◌, arith, add-one, drop-cons}
use Rattle.std.proofs.lemmas.List.{drop_all}
use Rattle.stock_nums.specs.MomentText.{IsTwoDigits, two_digits, HasMomentShape, SpellsMoment}
use Rattle.stock_nums.specs.declared.moment.Moment.{Moment}
use Rattle.stock_nums.proofs.PlaceOrder.{Moment-same}

-- two digits spell a number below a hundred
two_digits-small : (bytes : List ℕ) (at : ℕ) → IsTwoDigits bytes at → two_digits bytes at < 100
two_digits-small bytes at h = omega arith

-- lists whose rests are the same past a place are the same from that place, if they have the same there
drop-same : (a b : List ℕ) (at : ℕ) → at < length a → at < length b → get_or a at 0 ≡ get_or b at 0 → drop (at + 1) a ≡ drop (at + 1) b → drop at a ≡ drop at b
drop-same a b at in_a in_b here rest = grind (arith, drop-cons, add-one)

-- likewise past two digits that spell the same number
drop-same_digits : (a b : List ℕ) (at : ℕ) → at + 1 < length a → at + 1 < length b → IsTwoDigits a at → IsTwoDigits b at → two_digits a at ≡ two_digits b at → drop (at + 1 + 1) a ≡ drop (at + 1 + 1) b → drop at a ≡ drop at b
drop-same_digits a b at in_a in_b digits_a digits_b number rest =
    let ones : get_or a (at + 1) 0 ≡ get_or b (at + 1) 0 = omega arith in
    let tens : get_or a at 0 ≡ get_or b at 0 = omega arith in
    drop-same a b at (omega arith) (omega arith) tens (drop-same a b (at + 1) in_a in_b ones rest)

-- the parts of a date's eight digits
date_parts-same : (c y m d c' y' m' d' : ℕ) → y < 100 → m < 100 → d < 100 → y' < 100 → m' < 100 → d' < 100 → 10000 * (100 * c + y) + 100 * m + d ≡ 10000 * (100 * c' + y') + 100 * m' + d' → (c ≡ c') × (y ≡ y') × (m ≡ m') × (d ≡ d')
date_parts-same c y m d c' y' m' d' h1 h2 h3 h4 h5 h6 e =
    (omega arith, omega arith, omega arith, omega arith)

-- the parts of a second of the day
second_parts-same : (h m s h' m' s' : ℕ) → m < 60 → s < 60 → m' < 60 → s' < 60 → 3600 * h + 60 * m + s ≡ 3600 * h' + 60 * m' + s' → (h ≡ h') × (m ≡ m') × (s ≡ s')
second_parts-same h m s h' m' s' h1 h2 h3 h4 e = (omega arith, omega arith, omega arith)

-- texts of the shape that spell the same digits are one text
spelled-same : (a b : List ℕ) → HasMomentShape a → HasMomentShape b → (two_digits a 0 ≡ two_digits b 0) × (two_digits a 2 ≡ two_digits b 2) × (two_digits a 5 ≡ two_digits b 5) × (two_digits a 8 ≡ two_digits b 8) → (two_digits a 11 ≡ two_digits b 11) × (two_digits a 14 ≡ two_digits b 14) × (two_digits a 17 ≡ two_digits b 17) → a ≡ b
spelled-same a b shape_a shape_b date time =
    let whole_a : length a ≡ 19 = shape_a.whole in
    let whole_b : length b ≡ 19 = shape_b.whole in
    let at_19 : drop 19 a ≡ drop 19 b = drop_all 19 a (omega arith) ∙ sym (drop_all 19 b (omega arith)) in
    let at_17 = drop-same_digits a b 17 (omega arith) (omega arith) shape_a.second shape_b.second time.2 at_19 in
    let at_16 = drop-same a b 16 (omega arith) (omega arith) (shape_a.second_colon ∙ sym shape_b.second_colon) at_17 in
    let at_14 = drop-same_digits a b 14 (omega arith) (omega arith) shape_a.minute shape_b.minute time.1 at_16 in
    let at_13 = drop-same a b 13 (omega arith) (omega arith) (shape_a.first_colon ∙ sym shape_b.first_colon) at_14 in
    let at_11 = drop-same_digits a b 11 (omega arith) (omega arith) shape_a.hour shape_b.hour time.0 at_13 in
    let at_10 = drop-same a b 10 (omega arith) (omega arith) (shape_a.letter_t ∙ sym shape_b.letter_t) at_11 in
    let at_8 = drop-same_digits a b 8 (omega arith) (omega arith) shape_a.day shape_b.day date.3 at_10 in
    let at_7 = drop-same a b 7 (omega arith) (omega arith) (shape_a.second_hyphen ∙ sym shape_b.second_hyphen) at_8 in
    let at_5 = drop-same_digits a b 5 (omega arith) (omega arith) shape_a.month shape_b.month date.2 at_7 in
    let at_4 = drop-same a b 4 (omega arith) (omega arith) (shape_a.first_hyphen ∙ sym shape_b.first_hyphen) at_5 in
    let at_2 = drop-same_digits a b 2 (omega arith) (omega arith) shape_a.year shape_b.year date.1 at_4 in
    drop-same_digits a b 0 (omega arith) (omega arith) shape_a.century shape_b.century date.0 at_2

-- texts that spell the same date and second are one text
pub one_spelling : (a b : List ℕ) (m n : Moment) → SpellsMoment a m → SpellsMoment b n → m.date ≡ n.date → m.second ≡ n.second → a ≡ b
one_spelling a b m n spells_a spells_b date second =
    spelled-same a b spells_a.shape spells_b.shape
    (date_parts-same (two_digits a 0) (two_digits a 2) (two_digits a 5) (two_digits a 8) (two_digits b 0) (two_digits b 2) (two_digits b 5) (two_digits b 8)
    (two_digits-small a 2 spells_a.shape.year) (two_digits-small a 5 spells_a.shape.month) (two_digits-small a 8 spells_a.shape.day)
    (two_digits-small b 2 spells_b.shape.year) (two_digits-small b 5 spells_b.shape.month) (two_digits-small b 8 spells_b.shape.day)
    (sym spells_a.date ∙ date ∙ spells_b.date))
    (second_parts-same (two_digits a 11) (two_digits a 14) (two_digits a 17) (two_digits b 11) (two_digits b 14) (two_digits b 17)
    spells_a.in_range.minute spells_a.in_range.second spells_b.in_range.minute spells_b.in_range.second
    (sym spells_a.second ∙ second ∙ spells_b.second))

-- a text spells at most one moment
pub one_moment : (bytes : List ℕ) (m n : Moment) → SpellsMoment bytes m → SpellsMoment bytes n → m ≡ n
one_moment bytes m n spells_m spells_n =
    Moment-same m n (spells_m.date ∙ sym spells_n.date) (spells_m.second ∙ sym spells_n.second)
