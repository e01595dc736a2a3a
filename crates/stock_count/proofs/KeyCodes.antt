-- An item and a warehouse have one code each.
use Rattle.std.proofs.Common.{◌≡◌, ℕ, ◌+◌, ◌<◌, ◌≤◌, Bool, true, false, cond, List, [], ◌∷◌, ◌++◌, Option, Some, None, refl, sym, ap, ◌∙◌, subst, arith}
use Rattle.std.specs.Prelude.{nat_eq, bytes_eq, ◌&&◌}
use Rattle.std.specs.Option.{option_map, option_and_then}
use Rattle.std.specs.List.{find, filter_map, enumerate_from, cons_option}
use Rattle.std.proofs.lemmas.Bool.Decides.{nat_tests}
use Rattle.stock_nums.specs.Heads.{ItemHead, StoreHead, has_item_code, has_store_code, item_found, store_found}
use Rattle.stock_nums.specs.declared.cause.Method.{Method}
use Rattle.stock_nums.specs.declared.entry.Key.{Key}
use Rattle.stock_nums.specs.declared.numbers.AccountNo.{AccountNo}
use Rattle.stock_nums.specs.declared.numbers.ItemNo.{ItemNo}
use Rattle.stock_nums.specs.declared.numbers.StoreNo.{StoreNo}
use Rattle.stock_model.specs.declared.records.Record.{Record}
use Rattle.stock_model.specs.declared.vouchers.What.{What}
use Rattle.stock_model.specs.declared.vouchers.What.TheVariants.{Item, Store, Receipt, Issue, Transfer, CustomerReturn, SupplierReturn, Landed, Freeze, Cancel}
use Rattle.stock_model.specs.Enough.{is_same_key}
use Rattle.stock_model.specs.Masters.{item_made, store_made, item_numbered, store_numbered, items, stores, item_with, store_with}
use Rattle.stock_count.specs.Held.{key_found, key_beside, key_with}

-- equal bytes, and back
pub bytes-same : (a b : List ℕ) → bytes_eq a b ≡ true → a ≡ b
bytes-same [] [] is = refl
bytes-same [] (y ∷ ys) is = cc
bytes-same (x ∷ xs) [] is = cc
bytes-same (x ∷ xs) (y ∷ ys) is =
    let parts = both (nat_eq x y) (bytes_eq xs ys) is in
    ap (λ (z : ℕ). z ∷ xs) (number x y parts.0) ∙ ap (λ (zs : List ℕ). y ∷ zs) (bytes-same xs ys parts.1)
  where
    both : (a b : Bool) → (a && b) ≡ true → (a ≡ true) × (b ≡ true)
    both true b h = (refl, h)
    both false b h = cc

    number : (x y : ℕ) → nat_eq x y ≡ true → x ≡ y
    number x y h = grind (arith, nat_tests)

number-self : (n : ℕ) → nat_eq n n ≡ true
number-self n = grind (arith, nat_tests)

differs : (m n : ℕ) → m < n → nat_eq m n ≡ false
differs m n h = grind (arith, nat_tests)

pub bytes-self : (a : List ℕ) → bytes_eq a a ≡ true
bytes-self [] = refl
bytes-self (x ∷ xs) = ap (λ (b : Bool). b && bytes_eq xs xs) (number-self x) ∙ bytes-self xs

-- what is found by any test is the one with its number
module _ {X Y : Type 0} (number : Y → ℕ) (made : ℕ × X → Option Y) (numbered : (k : ℕ) (x : X) (y : Y) → made (k, x) ≡ Some y → number y ≡ k) where
  abbrev has : ℕ → Y → Bool
  has n y = nat_eq (number y) n

  record IsFound (p : Y → Bool) (k : ℕ) (ys : List Y) (y : Y) : Type 0 where
    pub from : k ≤ number y
    pub is : find (has (number y)) ys ≡ Some y
    pub passes : p y ≡ true

  found-first : (p : Y → Bool) (k : ℕ) (z : Y) (rest : List Y) (y : Y) → number z ≡ k → (find p rest ≡ Some y → IsFound p (k + 1) rest y) → find p (z ∷ rest) ≡ Some y → IsFound p k (z ∷ rest) y
  found-first p k z rest y own later is =
      (elim (p z) as (λ b. p z ≡ b → cond b (Some z) (find p rest) ≡ Some y → IsFound p k (z ∷ rest) y) [
        | true ↦ λ passes found.
            let same : z ≡ y = cc in
            subst (IsFound p k (z ∷ rest)) same
            (record { from = omega (arith, own); is = ap (λ (b : Bool). cond b (Some z) (find (has (number z)) rest)) (number-self (number z)); passes = passes })
        | false ↦ λ fails found.
            let after = later found in
            record {
              from = omega (arith, after.from);
              is = ap (λ (b : Bool). cond b (Some z) (find (has (number y)) rest)) (differs (number z) (number y) (omega (arith, own, after.from))) ∙ after.is;
              passes = after.passes;
            }
      ]) refl is

  found-at : (p : Y → Bool) (k : ℕ) (xs : List X) (y : Y) → find p (filter_map made (enumerate_from k xs)) ≡ Some y → IsFound p k (filter_map made (enumerate_from k xs)) y
  found-at p k [] y is = cc
  found-at p k (x ∷ xs) y is =
      let rest = filter_map made (enumerate_from (k + 1) xs) in
      let later : find p rest ≡ Some y → IsFound p (k + 1) rest y = found-at p (k + 1) xs y in
      (elim (made (k, x)) as (λ o. made (k, x) ≡ o → find p (cons_option o rest) ≡ Some y → IsFound p k (cons_option o rest) y) [
        | None ↦ λ none found. let after = later found in record { from = omega (arith, after.from); is = after.is; passes = after.passes }
        | Some z ↦ λ one found. found-first p k z rest y (numbered k x z one) later found
      ]) refl is

  -- so two that have one number are one
  found-same : (p q : Y → Bool) (k : ℕ) (xs : List X) (y z : Y) → find p (filter_map made (enumerate_from k xs)) ≡ Some y → find q (filter_map made (enumerate_from k xs)) ≡ Some z
      → number y ≡ number z → (y ≡ z) × (p y ≡ true) × (q z ≡ true)
  found-same p q k xs y z first second same =
      let a = found-at p k xs y first in
      let b = found-at q k xs z second in
      let one : Some y ≡ Some z = sym a.is ∙ ap (λ (n : ℕ). find (has n) (filter_map made (enumerate_from k xs))) same ∙ b.is in
      let equal : y ≡ z = cc in
      (equal, a.passes, b.passes)

item-numbered : (k : ℕ) (r : Record) (head : ItemHead) → item_numbered (k, r) ≡ Some head → head.number ≡ k
item-numbered k r head is = of r.what is
  where
    of : (what : What) → item_made k what ≡ Some head → head.number ≡ k
    of (Item code method) is =
        let same : record { number = k; code = code; method = method } ≡ head = cc in
        sym (ap (λ (h : ItemHead). h.number) same)
    of (Store code account) is = cc
    of (Receipt at lines) is = cc
    of (Issue at purpose lines) is = cc
    of (Transfer at lines) is = cc
    of (CustomerReturn at lines) is = cc
    of (SupplierReturn at lines) is = cc
    of (Landed charge basis targets) is = cc
    of (Freeze until) is = cc
    of (Cancel target) is = cc

store-numbered : (k : ℕ) (r : Record) (head : StoreHead) → store_numbered (k, r) ≡ Some head → head.number ≡ k
store-numbered k r head is = of r.what is
  where
    of : (what : What) → store_made k what ≡ Some head → head.number ≡ k
    of (Item code method) is = cc
    of (Store code account) is =
        let same : record { number = k; code = code; account = account.0 } ≡ head = cc in
        sym (ap (λ (h : StoreHead). h.number) same)
    of (Receipt at lines) is = cc
    of (Issue at purpose lines) is = cc
    of (Transfer at lines) is = cc
    of (CustomerReturn at lines) is = cc
    of (SupplierReturn at lines) is = cc
    of (Landed charge basis targets) is = cc
    of (Freeze until) is = cc
    of (Cancel target) is = cc

mapped : {X Y : Type 0} (f : X → Y) (o : Option X) (y : Y) → option_map f o ≡ Some y → (x : X) × (o ≡ Some x) × (f x ≡ y)
mapped f None y is = cc
mapped f (Some x) y is = let same : f x ≡ y = cc in (x, refl, same)

item-codes : (journal : List Record) (a b : List ℕ) (x y : ItemNo × Method) → item_with journal a ≡ Some x → item_with journal b ≡ Some y → x.0.0 ≡ y.0.0 → a ≡ b
item-codes journal a b x y first second same =
    let f = mapped item_found (find (has_item_code a) (items journal)) x first in
    let s = mapped item_found (find (has_item_code b) (items journal)) y second in
    let numbers : f.0.number ≡ s.0.number = ap (λ (i : ItemNo × Method). i.0.0) f.2 ∙ same ∙ sym (ap (λ (i : ItemNo × Method). i.0.0) s.2) in
    let one = found-same (λ (h : ItemHead). h.number) item_numbered item-numbered (has_item_code a) (has_item_code b) 1 journal f.0 s.0 f.1 s.1 numbers in
    sym (bytes-same f.0.code a one.1) ∙ ap (λ (h : ItemHead). h.code) one.0 ∙ bytes-same s.0.code b one.2

store-codes : (journal : List Record) (a b : List ℕ) (x y : StoreNo × AccountNo) → store_with journal a ≡ Some x → store_with journal b ≡ Some y → x.0.0 ≡ y.0.0 → a ≡ b
store-codes journal a b x y first second same =
    let f = mapped store_found (find (has_store_code a) (stores journal)) x first in
    let s = mapped store_found (find (has_store_code b) (stores journal)) y second in
    let numbers : f.0.number ≡ s.0.number = ap (λ (i : StoreNo × AccountNo). i.0.0) f.2 ∙ same ∙ sym (ap (λ (i : StoreNo × AccountNo). i.0.0) s.2) in
    let one = found-same (λ (h : StoreHead). h.number) store_numbered store-numbered (has_store_code a) (has_store_code b) 1 journal f.0 s.0 f.1 s.1 numbers in
    sym (bytes-same f.0.code a one.1) ∙ ap (λ (h : StoreHead). h.code) one.0 ∙ bytes-same s.0.code b one.2

-- what a key that is found is made of
record IsMade (journal : List Record) (item store : List ℕ) (key : Key) : Type 0 where
  pub found_item : ItemNo × Method
  pub found_store : StoreNo × AccountNo
  pub of_item : item_with journal item ≡ Some found_item
  pub of_store : store_with journal store ≡ Some found_store
  pub is : key_found found_item found_store ≡ key

key-made : (journal : List Record) (item store : List ℕ) (key : Key) → key_with journal item store ≡ Some key → IsMade journal item store key
key-made journal item store key is =
    (elim (item_with journal item) as (λ o. item_with journal item ≡ o → option_and_then (key_beside journal store) o ≡ Some key → IsMade journal item store key) [
      | None ↦ λ none found. cc
      | Some i ↦ λ one found.
          let s = mapped (key_found i) (store_with journal store) key found in
          record { found_item = i; found_store = s.0; of_item = one; of_store = s.1; is = s.2 }
    ]) refl is

-- two codes of one item and one warehouse are the same codes
pub key-codes : (journal : List Record) (item store other_item other_store : List ℕ) (key other : Key)
    → key_with journal item store ≡ Some key → key_with journal other_item other_store ≡ Some other → is_same_key other key ≡ true
    → (other_item ≡ item) × (other_store ≡ store)
key-codes journal item store other_item other_store key other first second same =
    let a = key-made journal item store key first in
    let b = key-made journal other_item other_store other second in
    let parts = numbers other key same in (
      item-codes journal other_item item b.found_item a.found_item b.of_item a.of_item (ap (λ (k : Key). k.item.0) b.is ∙ parts.0 ∙ sym (ap (λ (k : Key). k.item.0) a.is)),
      store-codes journal other_store store b.found_store a.found_store b.of_store a.of_store (ap (λ (k : Key). k.store.0) b.is ∙ parts.1 ∙ sym (ap (λ (k : Key). k.store.0) a.is)),
    )
  where
    numbers : (a b : Key) → is_same_key a b ≡ true → (a.item.0 ≡ b.item.0) × (a.store.0 ≡ b.store.0)
    numbers a b h = (grind (arith, nat_tests), grind (arith, nat_tests))

-- a record that makes no head changes none
heads-same : {Y : Type 0} (made : ℕ × Record → Option Y) (r : Record) → ((k : ℕ) → made (k, r) ≡ None) → (k : ℕ) (journal : List Record)
    → filter_map made (enumerate_from k (journal ++ r ∷ [])) ≡ filter_map made (enumerate_from k journal)
heads-same {Y = Y} made r none k [] = ap (λ (o : Option Y). cons_option o []) (none k)
heads-same made r none k (x ∷ journal) = ap (cons_option (made (k, x))) (heads-same made r none (k + 1) journal)

-- so it changes no key
pub key_with-same : (journal : List Record) (r : Record) → ((k : ℕ) → item_made k r.what ≡ None) → ((k : ℕ) → store_made k r.what ≡ None)
    → (item store : List ℕ) → key_with (journal ++ r ∷ []) item store ≡ key_with journal item store
key_with-same journal r no_item no_store item store =
    let next = journal ++ r ∷ [] in
    let same_item : item_with next item ≡ item_with journal item =
    ap (λ (heads : List ItemHead). option_map item_found (find (has_item_code item) heads)) (heads-same item_numbered r no_item 1 journal) in
    let same_store : store_with next store ≡ store_with journal store =
    ap (λ (heads : List StoreHead). option_map store_found (find (has_store_code store) heads)) (heads-same store_numbered r no_store 1 journal) in
    ap (λ (o : Option (ItemNo × Method)). option_and_then (key_beside next store) o) same_item
    ∙ ap (λ (s : Option (StoreNo × AccountNo)). option_and_then (λ (i : ItemNo × Method). option_map (key_found i) s) (item_with journal item)) same_store
