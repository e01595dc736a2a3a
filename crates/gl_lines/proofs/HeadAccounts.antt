-- The map of accounts follows the heads that are added to it.
use Rattle.std.proofs.Common.{◌≡◌, ℕ, ◌==◌, Bool, true, false, cond, Option, Some, None, List, [], ◌∷◌, ◌++◌, is_some, refl, sym, ap, ◌∙◌, subst, arith}
use Rattle.std.specs.List.{find}
use Rattle.std.specs.Option.{option_map, option_or}
use Rattle.std.specs.BTreeMap.{BTreeMap, get, is_at, Updates}
use Rattle.std.proofs.lemmas.Bool.Decides.{nat_tests}
use Rattle.std.proofs.lemmas.List.Folds.{find-append}
use Rattle.stock_nums.specs.declared.head.Head.{Head}
use Rattle.stock_nums.specs.declared.numbers.AccountNo.{AccountNo}
use Rattle.stock_nums.specs.declared.numbers.RecordNo.{RecordNo}
use Rattle.stock_model.specs.Masters.{has_number}
use Rattle.gl_lines.specs.StoreAccounts.{number_cmp, account_no, AreAccountsOf}

-- numbers compare as equal where they are
at-number : (a b : RecordNo) → is_at (number_cmp a) b ≡ (a.0 == b.0)
at-number a b = grind (arith, nat_tests)

-- the first head with a number, with one more head
first-more : (n : ℕ) (heads : List Head) (head : Head) → find (has_number n) (heads ++ head ∷ []) ≡ option_or (find (has_number n) heads) (cond (head.number.0 == n) (Some head) None)
first-more n heads head = find-append (has_number n) heads (head ∷ [])

none-of : {X Y : Type 0} (f : X → Y) (o : Option X) → option_map f o ≡ None → o ≡ None
none-of f (Some x) h = cc
none-of f None h = refl

some-of : {X Y : Type 0} (f : X → Y) (o : Option X) → is_some (option_map f o) ≡ is_some o
some-of f (Some x) = refl
some-of f None = refl

or-some : {X : Type 0} (a b : Option X) → is_some a ≡ true → option_or a b ≡ a
or-some (Some x) b h = refl
or-some None b h = cc

or-none : {X : Type 0} (a : Option X) → option_or a None ≡ a
or-none (Some x) = refl
or-none None = refl

none-is : {X : Type 0} (o : Option X) → is_some o ≡ false → o ≡ None
none-is (Some x) h = cc
none-is None h = refl

-- a head whose number is known adds nothing
known-at : (by_number : BTreeMap RecordNo AccountNo) (heads : List Head) (head : Head) (n : ℕ) (b : Bool) → (head.number.0 == n) ≡ b → AreAccountsOf by_number heads
    → is_some (get number_cmp by_number head.number) ≡ true → find (has_number n) (heads ++ head ∷ []) ≡ find (has_number n) heads
known-at by_number heads head n true same are known =
    let equal : head.number.0 ≡ n = grind (arith, nat_tests) in
    let found : is_some (find (has_number n) heads) ≡ true =
    subst (λ (m : ℕ). is_some (find (has_number m) heads) ≡ true) equal
    (sym (some-of account_no (find (has_number head.number.0) heads)) ∙ ap is_some (sym (are head.number.0)) ∙ known) in
    first-more n heads head ∙ or-some (find (has_number n) heads) _ found
known-at by_number heads head n false other are known =
    first-more n heads head ∙ ap (λ (b : Bool). option_or (find (has_number n) heads) (cond b (Some head) None)) other ∙ or-none (find (has_number n) heads)

pub AreAccountsOf-known : (by_number : BTreeMap RecordNo AccountNo) (heads : List Head) (head : Head) → AreAccountsOf by_number heads
    → is_some (get number_cmp by_number head.number) ≡ true → AreAccountsOf by_number (heads ++ head ∷ [])
AreAccountsOf-known by_number heads head are known n =
    are n ∙ ap (option_map account_no) (sym (known-at by_number heads head n (head.number.0 == n) refl are known))

-- a new number takes the account of its head
added-at : (old new : BTreeMap RecordNo AccountNo) (heads : List Head) (head : Head) (n : ℕ) (b : Bool) → (head.number.0 == n) ≡ b → AreAccountsOf old heads
    → get number_cmp old head.number ≡ None → get number_cmp new (record { 0 = n }) ≡ cond (head.number.0 == n) (Some (account_no head)) (get number_cmp old (record { 0 = n }))
    → get number_cmp new (record { 0 = n }) ≡ option_map account_no (find (has_number n) (heads ++ head ∷ []))
added-at old new heads head n true same are absent updates =
    let equal : head.number.0 ≡ n = grind (arith, nat_tests) in
    let none : find (has_number n) heads ≡ None =
    subst (λ (m : ℕ). find (has_number m) heads ≡ None) equal
    (none-of account_no (find (has_number head.number.0) heads) (sym (are head.number.0) ∙ absent)) in
    updates ∙ ap (λ (b : Bool). cond b (Some (account_no head)) (get number_cmp old (record { 0 = n }))) same
    ∙ sym (ap (option_map account_no) (first-more n heads head
    ∙ ap (λ (o : Option Head). option_or o (cond (head.number.0 == n) (Some head) None)) none
    ∙ ap (λ (b : Bool). cond b (Some head) None) same))
added-at old new heads head n false other are absent updates =
    updates ∙ ap (λ (b : Bool). cond b (Some (account_no head)) (get number_cmp old (record { 0 = n }))) other
    ∙ are n
    ∙ sym (ap (option_map account_no) (first-more n heads head
    ∙ ap (λ (b : Bool). option_or (find (has_number n) heads) (cond b (Some head) None)) other
    ∙ or-none (find (has_number n) heads)))

pub AreAccountsOf-added : (old new : BTreeMap RecordNo AccountNo) (heads : List Head) (head : Head) → AreAccountsOf old heads
    → is_some (get number_cmp old head.number) ≡ false → Updates number_cmp old new head.number (Some (account_no head)) → AreAccountsOf new (heads ++ head ∷ [])
AreAccountsOf-added old new heads head are absent updates n =
    added-at old new heads head n (head.number.0 == n) refl are (none-is (get number_cmp old head.number) absent)
    (updates.0 (record { 0 = n }) ∙ ap (λ (b : Bool). cond b (Some (account_no head)) (get number_cmp old (record { 0 = n }))) (at-number head.number (record { 0 = n })))
