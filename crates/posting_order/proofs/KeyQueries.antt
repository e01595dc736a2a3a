-- What is found among the changes of a key, told of its movements.
use Rattle.std.proofs.Common.{◌≡◌, ℤ, pos, ◌+ℤ◌, int_lt, unsigned_abs, not, Bool, true, false, cond, ◌&&◌, List, [], ◌∷◌, ◌++◌, filter, reverse, Some, Option, refl, sym, ap, ◌∙◌}
use Rattle.std.specs.List.{find}
use Rattle.std.specs.Option.{option_map}
use Rattle.std.proofs.lemmas.List.{append-nil, reverse-append}
use Rattle.block_list.specs.Sums.{total}
use Rattle.stock_nums.specs.Places.{is_before}
use Rattle.stock_nums.specs.declared.entry.Entry.{Entry}
use Rattle.stock_nums.specs.declared.entry.Key.{Key}
use Rattle.stock_nums.specs.declared.place.Place.{Place}
use Rattle.stock_model.specs.Enough.{is_of_key}
use Rattle.key_order.specs.Changes.{change_of, changes_of, of_key, change_place, next_change, previous_change, change_units, is_after_start, is_before_end, first_lack}
use Rattle.posting_order.specs.KeyLines.{AreOf}
use Rattle.posting_order.specs.Timelines.{entry_place, next_place, previous_place}
use Rattle.key_order.specs.declared.change.Change.{Change}
use Rattle.key_order.specs.declared.change.Lack.{Lack}

-- the first movement of the key at a place that passes a test is the first such change
find-changes : (q : Place → Bool) (key : Key) (es : List Entry)
    → option_map change_place (find (λ c. q c.place) (of_key key (changes_of es))) ≡ option_map entry_place (find (λ e. is_of_key key e && q e.place) es)
find-changes q key [] = refl
find-changes q key (e ∷ es) = by_cases (is_of_key key e) (q e.place) refl (find-changes q key es)
  where
    by_cases : (own passes : Bool) → q e.place ≡ passes
        → option_map change_place (find (λ c. q c.place) (of_key key (changes_of es))) ≡ option_map entry_place (find (λ f. is_of_key key f && q f.place) es)
        → option_map change_place (find (λ c. q c.place) (cond own (change_of e ∷ of_key key (changes_of es)) (of_key key (changes_of es))))
        ≡ option_map entry_place (cond (own && passes) (Some e) (find (λ f. is_of_key key f && q f.place) es))
    by_cases true true is rest = rw is refl
    by_cases true false is rest = rw is rest
    by_cases false passes is rest = rest

-- the changes of a key in two lists of movements
of_key-append : (key : Key) (es fs : List Entry) → of_key key (changes_of (es ++ fs)) ≡ of_key key (changes_of es) ++ of_key key (changes_of fs)
of_key-append key [] fs = refl
of_key-append key (e ∷ es) fs = by_cases (is_of_key key e) (of_key-append key es fs)
  where
    by_cases : (own : Bool) → of_key key (changes_of (es ++ fs)) ≡ of_key key (changes_of es) ++ of_key key (changes_of fs)
        → cond own (change_of e ∷ of_key key (changes_of (es ++ fs))) (of_key key (changes_of (es ++ fs)))
        ≡ cond own (change_of e ∷ of_key key (changes_of es)) (of_key key (changes_of es)) ++ of_key key (changes_of fs)
    by_cases true rest = ap (λ cs. change_of e ∷ cs) rest
    by_cases false rest = rest

-- a reversed list whose first one is kept, or not
reverse-kept : (own : Bool) (c : Change) (cs : List Change) → reverse cs ++ cond own (c ∷ []) [] ≡ reverse (cond own (c ∷ cs) cs)
reverse-kept true c cs = sym (reverse-append (c ∷ []) cs)
reverse-kept false c cs = append-nil (reverse cs)

-- the changes of a key from the last one on
of_key-reverse : (key : Key) (es : List Entry) → of_key key (changes_of (reverse es)) ≡ reverse (of_key key (changes_of es))
of_key-reverse key [] = refl
of_key-reverse key (e ∷ es) =
    ap (λ fs. of_key key (changes_of fs)) (reverse-append (e ∷ []) es)
    ∙ of_key-append key (reverse es) (e ∷ [])
    ∙ ap (λ cs. cs ++ of_key key (changes_of (e ∷ []))) (of_key-reverse key es)
    ∙ reverse-kept (is_of_key key e) (change_of e) (of_key key (changes_of es))

-- the next place of a key
pub next_place-change : (es : List Entry) (cs : List Change) (key : Key) (place : Place) → AreOf es cs → next_change cs key (Some place) ≡ next_place es key place
next_place-change es cs key place are =
    ap (λ ds. option_map change_place (find (λ (c : Change). is_before place c.place) ds)) (are key) ∙ find-changes (λ p. is_before place p) key es

-- the previous place of a key
pub previous_place-change : (es : List Entry) (cs : List Change) (key : Key) (place : Place) → AreOf es cs → previous_change cs key place ≡ previous_place es key place
previous_place-change es cs key place are =
    ap (λ ds. option_map change_place (find (λ (c : Change). is_before c.place place) (reverse ds))) (are key)
    ∙ ap (λ ds. option_map change_place (find (λ (c : Change). is_before c.place place) ds)) (sym (of_key-reverse key es))
    ∙ find-changes (λ p. is_before p place) key (reverse es)

-- how many units are held with a change of the key, and so many more
abbrev held_more : List Change → ℤ → Change → ℤ
held_more own more c = more +ℤ total change_units (filter (λ d. not (is_before c.place d.place)) own)

-- the first lack among the changes of a key
abbrev lack_among : Option Place → Option Place → ℤ → List Change → Option Lack
lack_among from end more own =
    option_map (λ c. record { place = c.place; lacking = record { 0 = unsigned_abs (held_more own more c) } })
    (find (λ c. (is_after_start from c.place && is_before_end end c.place) && int_lt (held_more own more c) (pos 0)) own)

-- the first lack of a key
pub first_lack-change : (es : List Entry) (cs : List Change) (key : Key) (from end : Option Place) (more : ℤ) → AreOf es cs
    → first_lack cs key from end more ≡ first_lack (changes_of es) key from end more
first_lack-change es cs key from end more are = ap (lack_among from end more) (are key)
