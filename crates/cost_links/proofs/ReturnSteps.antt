-- Movements that are added at the end of those of their lines, and taken away again.
use Rattle.std.proofs.Common.{◌≡◌, ℕ, suc, ◌+◌, ◌-◌, ◌*◌, ◌^◌, ◌<◌, ◌≤◌, sum_by, Bool, true, false, cond, List, [], ◌∷◌, ◌++◌, length, take, drop, get_or, filter, fold, refl, sym, ap, ◌∙◌, arith, append_assoc, length-append, drop-cons, Result, Ok, Err, is_ok, Some, None, OnOk, OnErr}
use Rattle.std.proofs.lemmas.Option.{none-some, same_Some}
use Rattle.std.proofs.lemmas.List.{append-nil, append_cancel_right, take-append-le, take_all, take_more, take-append-drop}
use Rattle.std.proofs.lemmas.List.Elements.{filter-append}
use Rattle.std.proofs.lemmas.List.Sums.{fold-append, sum_by-cons}
use Rattle.stock_nums.specs.Targets.{is_same_target}
use Rattle.stock_nums.specs.declared.cause.Cause.{Cause}
use Rattle.stock_nums.specs.declared.cause.Cause.TheVariants.{Receipt, Issue, TransferLeaves, TransferEnters, CustomerReturn, SupplierReturn}
use Rattle.stock_nums.specs.declared.cause.Target.{Target}
use Rattle.stock_nums.specs.declared.entry.Entry.{Entry}
use Rattle.stock_nums.specs.declared.limits.TheConstants.{MAX_QUANTITY}
use Rattle.stock_nums.specs.declared.place.Place.{Place}
use Rattle.stock_model.specs.Enough.{entry_units}
use Rattle.stock_model.specs.Returns.{is_return_of, returns_of}
use Rattle.stock_laws.proofs.Linked.{is_same_target-true, is_same_target-refl}
use Rattle.cost_links.specs.Linked.{returns_to, back_by, back_of}
use Rattle.cost_links.specs.Sources.{target_of, left_by, comes_before, units_before}
use Rattle.cost_links.specs.declared.links.Links.{Links}
use Rattle.cost_links.specs.Ends.{EndsWith, without_last}

-- of the movements one more was added
pub added-next : (es : List Entry) (i : ℕ) (e : Entry) (line : Target) (start old new : List Entry) → i < length es → e ≡ get_or es i e
    → old ≡ start ++ filter (returns_of line) (take i es) → new ≡ old ++ filter (returns_of line) (e ∷ [])
    → new ≡ start ++ filter (returns_of line) (take (i + 1) es)
added-next es i e line start old new within is so_far added =
    let one_more : take (i + 1) es ≡ take i es ++ e ∷ [] = take_more es i e within ∙ ap (λ (x : Entry). take i es ++ x ∷ []) (sym is) in
    added ∙ ap (λ (fs : List Entry). fs ++ filter (returns_of line) (e ∷ [])) so_far
    ∙ append_assoc start (filter (returns_of line) (take i es)) (filter (returns_of line) (e ∷ []))
    ∙ ap (λ (fs : List Entry). start ++ fs) (sym (filter-append (returns_of line) (take i es) (e ∷ [])))
    ∙ ap (λ (fs : List Entry). start ++ filter (returns_of line) fs) (sym one_more)

-- the list but its last element, where that is known
pub without_last-end : {X : Type 0} (xs front : List X) (x : X) → xs ≡ front ++ x ∷ [] → without_last xs ++ x ∷ [] ≡ xs
without_last-end {X} xs front x is =
    let count : length xs - 1 ≡ length front = omega (arith, ap (λ (l : List X). length l) is, length-append front (x ∷ [])) in
    let rest : without_last xs ≡ front =
    ap (λ (n : ℕ). take n xs) count ∙ ap (take (length front)) is ∙ take-append-le (length front) front (x ∷ []) (omega arith)
    ∙ take_all (length front) front (omega arith) in
    ap (λ (l : List X). l ++ x ∷ []) rest ∙ sym is

-- the next of the movements that are taken away is the last one there
pub ends-next : (es : List Entry) (left : ℕ) (e : Entry) (line : Target) (all now : List Entry) → 0 < left → left - 1 < length es → e ≡ get_or es (left - 1) e
    → EndsWith (filter (returns_of line) es) all → now ++ filter (returns_of line) (drop left es) ≡ all
    → EndsWith (filter (returns_of line) (e ∷ [])) now
ends-next es left e line all now some within is ends so_far =
    let own = filter (returns_of line) in
    let front = ends.0 ++ own (take (left - 1) es) in
    let parts : es ≡ take (left - 1) es ++ e ∷ drop left es = split-here es left e some within is in
    let whole : now ++ own (drop left es) ≡ (front ++ own (e ∷ [])) ++ own (drop left es) =
    so_far ∙ ends.1 ∙ ap (λ (l : List Entry). ends.0 ++ own l) parts
    ∙ ap (λ (l : List Entry). ends.0 ++ l) (filter-append (returns_of line) (take (left - 1) es) (e ∷ drop left es))
    ∙ sym (append_assoc ends.0 (own (take (left - 1) es)) (own (e ∷ drop left es)))
    ∙ ap (λ (l : List Entry). front ++ l) (filter-append (returns_of line) (e ∷ []) (drop left es))
    ∙ sym (append_assoc front (own (e ∷ [])) (own (drop left es))) in
    (front, append_cancel_right now (front ++ own (e ∷ [])) (own (drop left es)) whole)
  where
    split-here : (es : List Entry) (left : ℕ) (e : Entry) → 0 < left → left - 1 < length es → e ≡ get_or es (left - 1) e → es ≡ take (left - 1) es ++ e ∷ drop left es
    split-here es left e some within is =
        let next : suc (left - 1) ≡ left = omega (arith, some) in
        let rest : drop (left - 1) es ≡ e ∷ drop left es = drop-cons es (left - 1) e within ∙ ap (λ (f : Entry). f ∷ drop (suc (left - 1)) es) (sym is) ∙ ap (λ (k : ℕ). e ∷ drop k es) next in
        sym (take-append-drop (left - 1) es) ∙ ap (λ (l : List Entry). take (left - 1) es ++ l) rest

-- and one more was taken away
pub taken-next : (es : List Entry) (left : ℕ) (e : Entry) (line : Target) (all old new : List Entry) → 0 < left → left - 1 < length es → e ≡ get_or es (left - 1) e
    → new ++ filter (returns_of line) (e ∷ []) ≡ old → old ++ filter (returns_of line) (drop left es) ≡ all
    → new ++ filter (returns_of line) (drop (left - 1) es) ≡ all
taken-next es left e line all old new some within is taken so_far =
    let own = filter (returns_of line) in
    let next : suc (left - 1) ≡ left = omega (arith, some) in
    let rest : drop (left - 1) es ≡ e ∷ drop left es = drop-cons es (left - 1) e within ∙ ap (λ (f : Entry). f ∷ drop (suc (left - 1)) es) (sym is) ∙ ap (λ (k : ℕ). e ∷ drop k es) next in
    ap (λ (l : List Entry). new ++ own l) rest ∙ ap (λ (l : List Entry). new ++ l) (filter-append (returns_of line) (e ∷ []) (drop left es))
    ∙ sym (append_assoc new (own (e ∷ [])) (own (drop left es))) ∙ ap (λ (l : List Entry). l ++ own (drop left es)) taken ∙ so_far

-- a movement returns units of its target alone
returns-target : (cause : Cause) (target line : Target) → target_of cause ≡ Some target → is_return_of line cause ≡ is_same_target target line
returns-target (Receipt amount) target line is = absurd (none-some target is)
returns-target (Issue sold) target line is = absurd (none-some target is)
returns-target TransferLeaves target line is = absurd (none-some target is)
returns-target TransferEnters target line is = absurd (none-some target is)
returns-target (CustomerReturn own issued) target line is = ap (λ (t : Target). is_same_target t line) (same_Some own target is)
returns-target (SupplierReturn own amount received) target line is = ap (λ (t : Target). is_same_target t line) (same_Some own target is)

returns-none : (cause : Cause) (line : Target) → target_of cause ≡ None → is_return_of line cause ≡ false
returns-none (Receipt amount) line is = refl
returns-none (Issue sold) line is = refl
returns-none TransferLeaves line is = refl
returns-none TransferEnters line is = refl
returns-none (CustomerReturn own issued) line is = absurd (none-some own (sym is))
returns-none (SupplierReturn own amount received) line is = absurd (none-some own (sym is))

-- what holds where a call succeeded, and where it did not
pub on-ok : {A E P : Type 0} (r : Result A E) → (is_ok r ≡ true → P) → OnOk r P
on-ok (Ok a) h = h refl
on-ok (Err e) h = tt

pub on-err : {A E P : Type 0} (r : Result A E) → (is_ok r ≡ false → P) → OnErr r P
on-err (Ok a) h = tt
on-err (Err e) h = h refl

-- the movements of a line, where one was added at the end of those of its target or taken away from there
pub added-own : (e : Entry) (target line : Target) (old new old_own new_own : List Entry) → target_of e.cause ≡ Some target
    → (is_same_target target line ≡ true → target ≡ line → (old ≡ old_own) × (new ≡ new_own))
    → (is_same_target target line ≡ false → new ≡ old) → new_own ≡ old_own ++ e ∷ []
    → new ≡ old ++ filter (returns_of line) (e ∷ [])
added-own e target line old new old_own new_own is own others added = by_cases (is_same_target target line) refl
  where
    by_cases : (b : Bool) → is_same_target target line ≡ b → new ≡ old ++ filter (returns_of line) (e ∷ [])
    by_cases true same =
        let both = own same (is_same_target-true target line same) in
        let kept : filter (returns_of line) (e ∷ []) ≡ e ∷ [] = ap (λ (b : Bool). cond b (e ∷ []) []) (returns-target e.cause target line is ∙ same) in
        both.1 ∙ added ∙ ap (λ (l : List Entry). l ++ e ∷ []) (sym both.0) ∙ ap (λ (l : List Entry). old ++ l) (sym kept)
    by_cases false same =
        let kept : filter (returns_of line) (e ∷ []) ≡ [] = ap (λ (b : Bool). cond b (e ∷ []) []) (returns-target e.cause target line is ∙ same) in
        others same ∙ sym (append-nil old) ∙ ap (λ (l : List Entry). old ++ l) (sym kept)

pub added-none : (e : Entry) (line : Target) (old : List Entry) → target_of e.cause ≡ None → old ≡ old ++ filter (returns_of line) (e ∷ [])
added-none e line old is =
    let kept : filter (returns_of line) (e ∷ []) ≡ [] = ap (λ (b : Bool). cond b (e ∷ []) []) (returns-none e.cause line is) in
    sym (append-nil old) ∙ ap (λ (l : List Entry). old ++ l) (sym kept)

pub own-kept : (e : Entry) (target : Target) → target_of e.cause ≡ Some target → filter (returns_of target) (e ∷ []) ≡ e ∷ []
own-kept e target is = ap (λ (b : Bool). cond b (e ∷ []) []) (returns-target e.cause target target is ∙ is_same_target-refl target)

pub stays-own : (target line : Target) (old new : Target → List Entry) → (is_same_target target line ≡ false → new line ≡ old line) → new target ≡ old target → new line ≡ old line
stays-own target line old new others own = by_cases (is_same_target target line) refl
  where
    by_cases : (b : Bool) → is_same_target target line ≡ b → new line ≡ old line
    by_cases true same = let alike = is_same_target-true target line same in ap new (sym alike) ∙ own ∙ ap old alike
    by_cases false same = others same

-- the movements of a line, where those at the place of one were taken out of those of its target
pub removed-own : (e : Entry) (target line : Target) (old new old_own new_own : List Entry) → target_of e.cause ≡ Some target
    → (is_same_target target line ≡ true → target ≡ line → (old ≡ old_own) × (new ≡ new_own))
    → (is_same_target target line ≡ false → new ≡ old) → new_own ≡ left_by old_own e
    → new ≡ fold left_by old (filter (returns_of line) (e ∷ []))
removed-own e target line old new old_own new_own is own others removed = by_cases (is_same_target target line) refl
  where
    by_cases : (b : Bool) → is_same_target target line ≡ b → new ≡ fold left_by old (filter (returns_of line) (e ∷ []))
    by_cases true same =
        let both = own same (is_same_target-true target line same) in
        let kept : filter (returns_of line) (e ∷ []) ≡ e ∷ [] = ap (λ (b : Bool). cond b (e ∷ []) []) (returns-target e.cause target line is ∙ same) in
        both.1 ∙ removed ∙ ap (λ (l : List Entry). left_by l e) (sym both.0) ∙ ap (fold left_by old) (sym kept)
    by_cases false same =
        let kept : filter (returns_of line) (e ∷ []) ≡ [] = ap (λ (b : Bool). cond b (e ∷ []) []) (returns-target e.cause target line is ∙ same) in
        others same ∙ ap (fold left_by old) (sym kept)

pub removed-none : (e : Entry) (line : Target) (old : List Entry) → target_of e.cause ≡ None → old ≡ fold left_by old (filter (returns_of line) (e ∷ []))
removed-none e line old is =
    let kept : filter (returns_of line) (e ∷ []) ≡ [] = ap (λ (b : Bool). cond b (e ∷ []) []) (returns-none e.cause line is) in
    ap (fold left_by old) (sym kept)

-- and of one more
pub removed-next : (es : List Entry) (i : ℕ) (e : Entry) (line : Target) (start old new : List Entry) → i < length es → e ≡ get_or es i e
    → old ≡ fold left_by start (filter (returns_of line) (take i es)) → new ≡ fold left_by old (filter (returns_of line) (e ∷ []))
    → new ≡ fold left_by start (filter (returns_of line) (take (i + 1) es))
removed-next es i e line start old new within is so_far removed =
    let one_more : take (i + 1) es ≡ take i es ++ e ∷ [] = take_more es i e within ∙ ap (λ (x : Entry). take i es ++ x ∷ []) (sym is) in
    removed ∙ ap (λ (fs : List Entry). fold left_by fs (filter (returns_of line) (e ∷ []))) so_far
    ∙ sym (fold-append left_by start (filter (returns_of line) (take i es)) (filter (returns_of line) (e ∷ [])))
    ∙ ap (fold left_by start) (sym (filter-append (returns_of line) (take i es) (e ∷ [])))
    ∙ ap (λ (fs : List Entry). fold left_by start (filter (returns_of line) fs)) (sym one_more)

-- few movements return few units
units-next : (place : Place) (e : Entry) (es : List Entry) (b : Bool) → units_before place es ≤ length es * MAX_QUANTITY
    → sum_by entry_units (cond b (e ∷ filter (comes_before place) es) (filter (comes_before place) es)) ≤ length (e ∷ es) * MAX_QUANTITY
units-next place e es true rest =
    let longer : length (e ∷ es) ≡ length es + 1 = omega arith in
    omega (arith, sum_by-cons entry_units e (filter (comes_before place) es), rest, longer, e.quantity)
units-next place e es false rest =
    let longer : length (e ∷ es) ≡ length es + 1 = omega arith in
    omega (arith, rest, longer)

units-le : (place : Place) (es : List Entry) → units_before place es ≤ length es * MAX_QUANTITY
units-le place [] = omega arith
units-le place (e ∷ es) = units-next place e es (comes_before place e) (units-le place es)

back_by-small : (links : Links) (place : Place) (cause : Cause) → ((line : Target) → length (returns_to links line) ≤ 2) → back_by links place cause < 2 ^ 64
back_by-small links place (Receipt amount) few = omega arith
back_by-small links place (Issue sold) few = omega arith
back_by-small links place TransferLeaves few = omega arith
back_by-small links place TransferEnters few = omega arith
back_by-small links place (CustomerReturn target issued) few = omega (arith, units-le place (returns_to links target), few target)
back_by-small links place (SupplierReturn target amount received) few = omega (arith, units-le place (returns_to links target), few target)

pub back-small : (links : Links) (e : Entry) → ((line : Target) → length (returns_to links line) ≤ 2) → back_of links e < 2 ^ 64
back-small links e few = back_by-small links e.place e.cause few

pub filter-short : (test : Entry → Bool) (es : List Entry) → length (filter test es) ≤ length es
filter-short test [] = omega arith
filter-short test (e ∷ es) =
    let rest = filter-short test es in
    let longer : length (e ∷ es) ≡ length es + 1 = omega arith in
    elim (test e) as (λ b. length (cond b (e ∷ filter test es) (filter test es)) ≤ length (e ∷ es)) [ true ↦ omega (arith, rest, longer) | false ↦ omega (arith, rest, longer) ]
