-- The heads of a journal have the codes of its records.
use Rattle.std.proofs.Common.{◌≡◌, ℕ, zero, suc, ◌+◌, ◌<◌, List, [], ◌∷◌, ◌++◌, length, Option, Some, None, Bool, false, true, cond, refl, ap, ◌∙◌, arith, subst}
use Rattle.std.specs.Prelude.{unwrap_or, slice_get, nat_eq}
use Rattle.std.specs.Option.{option_map, option_map_or}
use Rattle.std.specs.List.{filter_map, enumerate_from, find, cons_option}
use Rattle.std.proofs.lemmas.Bool.Decides.{nat_tests}
use Rattle.std.proofs.lemmas.List.Elements.{filter_map-append}
use Rattle.stock_nums.specs.declared.head.Head.{Head}
use Rattle.stock_model.specs.declared.records.Record.{Record}
use Rattle.stock_model.specs.declared.vouchers.What.{What}
use Rattle.stock_model.specs.declared.vouchers.What.TheVariants.{Item, Store, Receipt, Issue, Transfer, CustomerReturn, SupplierReturn, Landed, Freeze, Cancel}
use Rattle.stock_model.specs.Masters.{heads, head_made, head_numbered, has_number, head_code, code_of, code_made, record_code, record_at}

-- the heads of records that are numbered from k on
abbrev pub heads_from : ℕ → List Record → List Head
heads_from k records = filter_map head_numbered (enumerate_from k records)

differ : (k n : ℕ) → n < k → nat_eq k n ≡ false
differ k n h = grind (arith, nat_tests)

differ_above : (k n : ℕ) → k < n → nat_eq k n ≡ false
differ_above k n h = grind (arith, nat_tests)

same : (n : ℕ) → nat_eq n n ≡ true
same n = grind (arith, nat_tests)

-- a head of another number is passed over
passed : (k n : ℕ) (what : What) (rest : List Head) → nat_eq k n ≡ false → find (has_number n) (cons_option (head_made k what) rest) ≡ find (has_number n) rest
passed k n (Item code method) rest h = ap (λ (b : Bool). cond b (Some (record { number = record { 0 = k }; code = code; account = None })) (find (has_number n) rest)) h
passed k n (Store code account) rest h = ap (λ (b : Bool). cond b (Some (record { number = record { 0 = k }; code = code; account = Some account })) (find (has_number n) rest)) h
passed k n (Receipt at lines) rest h = refl
passed k n (Issue at purpose lines) rest h = refl
passed k n (Transfer at lines) rest h = refl
passed k n (CustomerReturn at lines) rest h = refl
passed k n (SupplierReturn at lines) rest h = refl
passed k n (Landed charge basis targets) rest h = refl
passed k n (Freeze until) rest h = refl
passed k n (Cancel target) rest h = refl

-- no head has a lower number
none_below : (k n : ℕ) (records : List Record) → n < k → find (has_number n) (heads_from k records) ≡ None
none_below k n [] h = refl
none_below k n (item ∷ records) h =
    passed k n item.what (heads_from (k + 1) records) (differ k n h) ∙ none_below (k + 1) n records (omega arith)

-- the head of the first record has the record's code
code_of-first : (n : ℕ) (what : What) (rest : List Head) → find (has_number n) rest ≡ None → code_of (cons_option (head_made n what) rest) n ≡ code_made what
code_of-first n (Item code method) rest none =
    ap (λ (b : Bool). unwrap_or (option_map head_code (cond b (Some (record { number = record { 0 = n }; code = code; account = None })) (find (has_number n) rest))) []) (same n)
code_of-first n (Store code account) rest none =
    ap (λ (b : Bool). unwrap_or (option_map head_code (cond b (Some (record { number = record { 0 = n }; code = code; account = Some account })) (find (has_number n) rest))) []) (same n)
code_of-first n (Receipt at lines) rest none = ap (λ (found : Option Head). unwrap_or (option_map head_code found) []) none
code_of-first n (Issue at purpose lines) rest none = ap (λ (found : Option Head). unwrap_or (option_map head_code found) []) none
code_of-first n (Transfer at lines) rest none = ap (λ (found : Option Head). unwrap_or (option_map head_code found) []) none
code_of-first n (CustomerReturn at lines) rest none = ap (λ (found : Option Head). unwrap_or (option_map head_code found) []) none
code_of-first n (SupplierReturn at lines) rest none = ap (λ (found : Option Head). unwrap_or (option_map head_code found) []) none
code_of-first n (Landed charge basis targets) rest none = ap (λ (found : Option Head). unwrap_or (option_map head_code found) []) none
code_of-first n (Freeze until) rest none = ap (λ (found : Option Head). unwrap_or (option_map head_code found) []) none
code_of-first n (Cancel target) rest none = ap (λ (found : Option Head). unwrap_or (option_map head_code found) []) none

-- of the heads of records numbered from k on, the one with the number of the d-th has its code
code_of-from : (d k n : ℕ) (records : List Record) → n ≡ d + k → code_of (heads_from k records) n ≡ option_map_or record_code (slice_get records d) []
code_of-from d k n [] e = refl
code_of-from zero k n (item ∷ records) e =
    let here : n ≡ k = omega arith in
    subst (λ (j : ℕ). code_of (cons_option (head_made j item.what) (heads_from (k + 1) records)) n ≡ code_made item.what) here
    (code_of-first n item.what (heads_from (k + 1) records) (none_below (k + 1) n records (omega arith)))
code_of-from (suc d) k n (item ∷ records) e =
    ap (λ (found : Option Head). unwrap_or (option_map head_code found) [])
    (passed k n item.what (heads_from (k + 1) records) (differ_above k n (omega arith)))
    ∙ code_of-from d (k + 1) n records (omega arith)

pub code_of-heads : (journal : List Record) (n : ℕ) → code_of (heads journal) n ≡ option_map_or record_code (record_at journal n) []
code_of-heads journal zero = ap (λ (found : Option Head). unwrap_or (option_map head_code found) []) (none_below 1 zero journal (omega arith))
code_of-heads journal (suc n) = code_of-from n 1 (suc n) journal (omega arith)

-- the numbers of some things and of those after them
enumerate_from-append : {X : Type 0} (k : ℕ) (first rest : List X) → enumerate_from k (first ++ rest) ≡ enumerate_from k first ++ enumerate_from (k + length first) rest
enumerate_from-append {X = X} k [] rest =
    let same : k ≡ k + length {A = X} [] = omega arith in
    ap (λ (j : ℕ). enumerate_from j rest) same
enumerate_from-append k (x ∷ first) rest =
    let same : k + 1 + length first ≡ k + length (x ∷ first) = omega arith in
    ap (λ ys. (k, x) ∷ ys) (enumerate_from-append (k + 1) first rest ∙ ap (λ (j : ℕ). enumerate_from (k + 1) first ++ enumerate_from j rest) same)

-- so the heads of some records and of those after them are all heads
pub heads_from-append : (k : ℕ) (first rest : List Record) → heads_from k (first ++ rest) ≡ heads_from k first ++ heads_from (k + length first) rest
heads_from-append k first rest =
    ap (filter_map head_numbered) (enumerate_from-append k first rest)
    ∙ filter_map-append head_numbered (enumerate_from k first) (enumerate_from (k + length first) rest)
