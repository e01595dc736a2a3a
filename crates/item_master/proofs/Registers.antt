-- What one more value, and one less, make of a register.
use Rattle.std.proofs.Common.{◌≡◌, ℕ, Bool, true, false, cond, List, [], ◌∷◌, ◌++◌, Option, None, Some, is_some, if◌then◌else◌, ◌-◌, length, take, String, BTreeMap, refl, sym, subst, ap, ◌∙◌, arith, map}
use Rattle.std.specs.BTreeMap.{get_by_text}
use Rattle.std.proofs.lemmas.List.{length-map, take-map}
use Rattle.std.specs.Map.{update}
use Rattle.std.specs.Str.{bytes_eq}
use Rattle.std.specs.Cmp.Lexicographic.{bytes_decides, nat_list_eq_equiv}
use Rattle.stock_nums.specs.declared.cause.Method.{Method}
use Rattle.stock_nums.specs.declared.numbers.AccountNo.{AccountNo}
use Rattle.stock_nums.specs.declared.numbers.ItemNo.{ItemNo}
use Rattle.stock_nums.specs.declared.numbers.StoreNo.{StoreNo}
use Rattle.stock_nums.specs.Heads.{item_in, store_in}
use Rattle.item_master.specs.Register.{value_of, AreApart, IsRegister, item_head, store_head}

-- a code with no value is not the first entry's, and has none among the others
other_code : {V : Type 0} (b : Bool) (v : V) (rest : Option V) → cond b (Some v) rest ≡ None → (b ≡ false) × (rest ≡ None)
other_code true v rest none = absurd (grind (arith, none))
other_code false v rest none = (refl, none)

-- of two codes that differ, at most one is a third
not_both : (a c q : List ℕ) → bytes_eq a c ≡ false → bytes_eq a q ≡ true → bytes_eq c q ≡ false
not_both a c q differs same = nat_list_eq_equiv.symm c q ∙ sym (nat_list_eq_equiv.congr a q c same) ∙ differs

-- a new value is found under its code, and all others as before
pub value_of-push : {V : Type 0} (entries : List (List ℕ × V)) (code : List ℕ) (v : V) (q : List ℕ) → value_of entries code ≡ None
    → value_of (entries ++ (code, v) ∷ []) q ≡ cond (bytes_eq code q) (Some v) (value_of entries q)
value_of-push [] code v q none = refl
value_of-push (e ∷ es) code v q none =
    let apart = other_code (bytes_eq e.0 code) e.1 (value_of es code) none in
    by_cases (bytes_eq e.0 q) refl apart.0 (value_of-push es code v q apart.1)
  where
    by_cases : (b : Bool) → bytes_eq e.0 q ≡ b → bytes_eq e.0 code ≡ false
        → value_of (es ++ (code, v) ∷ []) q ≡ cond (bytes_eq code q) (Some v) (value_of es q)
        → cond (bytes_eq e.0 q) (Some e.1) (value_of (es ++ (code, v) ∷ []) q) ≡ cond (bytes_eq code q) (Some v) (cond (bytes_eq e.0 q) (Some e.1) (value_of es q))
    by_cases true same differs rest = rw (same, not_both e.0 code q differs same) refl
    by_cases false other differs rest = rw other rest

-- no code is there twice after a new one
pub AreApart-push : {V : Type 0} (entries : List (List ℕ × V)) (code : List ℕ) (v : V) → AreApart entries → value_of entries code ≡ None → AreApart (entries ++ (code, v) ∷ [])
AreApart-push [] code v apart none = (refl, tt)
AreApart-push (e ∷ es) code v apart none =
    let new = other_code (bytes_eq e.0 code) e.1 (value_of es code) none in
    let flipped : bytes_eq code e.0 ≡ false = nat_list_eq_equiv.symm code e.0 ∙ new.0 in
    (value_of-push es code v e.0 new.1 ∙ rw flipped apart.0, AreApart-push es code v apart.1 new.1)

-- the last code is none of those before it
pub value_of-last : {V : Type 0} (entries : List (List ℕ × V)) (code : List ℕ) (v : V) → AreApart (entries ++ (code, v) ∷ []) → value_of entries code ≡ None
value_of-last [] code v apart = refl
value_of-last (e ∷ es) code v apart =
    let none = value_of-last es code v apart.1 in
    let new = other_code (bytes_eq code e.0) v (value_of es e.0) (sym (value_of-push es code v e.0 none) ∙ apart.0) in
    rw (nat_list_eq_equiv.symm e.0 code, new.0) none

-- no code is there twice without the last
pub AreApart-front : {V : Type 0} (entries : List (List ℕ × V)) (code : List ℕ) (v : V) → AreApart (entries ++ (code, v) ∷ []) → AreApart entries
AreApart-front [] code v apart = tt
AreApart-front (e ∷ es) code v apart =
    let none = value_of-last es code v apart.1 in
    let new = other_code (bytes_eq code e.0) v (value_of es e.0) (sym (value_of-push es code v e.0 none) ∙ apart.0) in
    (new.1, AreApart-front es code v apart.1)

-- without the last value its code has none, and all others are found as before
pub value_of-pop : {V : Type 0} (entries : List (List ℕ × V)) (code : List ℕ) (v : V) (q : List ℕ) → value_of entries code ≡ None
    → cond (bytes_eq code q) None (value_of (entries ++ (code, v) ∷ []) q) ≡ value_of entries q
value_of-pop entries code v q none = rw (value_of-push entries code v q none) (by_cases (bytes_eq code q) refl)
  where
    by_cases : (b : Bool) → bytes_eq code q ≡ b → cond (bytes_eq code q) None (cond (bytes_eq code q) (Some v) (value_of entries q)) ≡ value_of entries q
    by_cases true same = rw same (sym (subst (λ c. value_of entries c ≡ None) ((bytes_decides code q).0 same) none))
    by_cases false other = rw other refl

-- a register after one more value
pub IsRegister-push : {V Y : Type 0} {old new : BTreeMap (String Y) V} (entries : List (List ℕ × V)) (code : List ℕ) (v : V) → IsRegister entries old → value_of entries code ≡ None
    → ((q : List ℕ) → get_by_text new q ≡ update bytes_eq (get_by_text old) code (Some v) q) → IsRegister (entries ++ (code, v) ∷ []) new
IsRegister-push entries code v register none sets = record {
  finds = λ q. sets q ∙ ap (λ found. cond (bytes_eq code q) (Some v) found) (register.finds q) ∙ sym (value_of-push entries code v q none);
  apart = AreApart-push entries code v register.apart none;
}

-- a register without its last value
pub IsRegister-pop : {V Y : Type 0} {old new : BTreeMap (String Y) V} (entries : List (List ℕ × V)) (code : List ℕ) (v : V) → IsRegister (entries ++ (code, v) ∷ []) old
    → ((q : List ℕ) → get_by_text new q ≡ update bytes_eq (get_by_text old) code None q) → IsRegister entries new
IsRegister-pop entries code v register clears = record {
  finds = λ q. clears q ∙ ap (λ found. cond (bytes_eq code q) None found) (register.finds q) ∙ value_of-pop entries code v q (value_of-last entries code v register.apart);
  apart = AreApart-front entries code v register.apart;
}

-- the same, where the list is known to end with that value, and its code was spelled by a text
pub IsRegister-removed : {V Y : Type 0} {old new : BTreeMap (String Y) V} (all entries : List (List ℕ × V)) (code text : List ℕ) (v : V) → all ≡ entries ++ (code, v) ∷ [] → text ≡ code → IsRegister all old
    → ((q : List ℕ) → get_by_text new q ≡ update bytes_eq (get_by_text old) text None q) → IsRegister entries new
IsRegister-removed {old = old} {new = new} all entries code text v ends spelled register clears =
    IsRegister-pop entries code v (subst (λ es. IsRegister es old) ends register) (subst (λ c. (q : List ℕ) → get_by_text new q ≡ update bytes_eq (get_by_text old) c None q) spelled clears)

-- the item with a code is the one that is kept with it
pub item_in-heads : (entries : List (List ℕ × (ItemNo × Method))) (code : List ℕ) → item_in (map item_head entries) code ≡ value_of entries code
item_in-heads [] code = refl
item_in-heads (e ∷ es) code = by_cases (bytes_eq e.0 code) refl (item_in-heads es code)
  where
    by_cases : (b : Bool) → bytes_eq e.0 code ≡ b → item_in (map item_head es) code ≡ value_of es code → item_in (map item_head (e ∷ es)) code ≡ value_of (e ∷ es) code
    by_cases true same rest = rw same refl
    by_cases false other rest = rw other rest

-- the warehouse with a code is the one that is kept with it
pub store_in-heads : (entries : List (List ℕ × (StoreNo × AccountNo))) (code : List ℕ) → store_in (map store_head entries) code ≡ value_of entries code
store_in-heads [] code = refl
store_in-heads (e ∷ es) code = by_cases (bytes_eq e.0 code) refl (store_in-heads es code)
  where
    by_cases : (b : Bool) → bytes_eq e.0 code ≡ b → store_in (map store_head es) code ≡ value_of es code → store_in (map store_head (e ∷ es)) code ≡ value_of (e ∷ es) code
    by_cases true same rest = rw same refl
    by_cases false other rest = rw other rest

-- where no fault is found first, nothing has the code
pub absent_from : {X F : Type 0} (found : Option X) (taken : F) (rest : Option F) → (if is_some found then Some taken else rest) ≡ None → found ≡ None
absent_from None taken rest fine = refl
absent_from (Some x) taken rest fine = grind (arith, fine)

-- all but the last, told as heads
pub map-front : {X Y : Type 0} (f : X → Y) (xs : List X) → map f (take (length xs - 1) xs) ≡ take (length (map f xs) - 1) (map f xs)
map-front f xs = rw (length-map xs f, take-map f (length xs - 1) xs) refl
