-- Each item of a journal has one cost formula: that of the record that made it.
use Rattle.std.proofs.Common.{◌≡◌, ℕ, ◌+◌, ◌<◌, ◌≤◌, Bool, true, false, cond, List, [], ◌∷◌, ◌++◌, length, Option, Some, None, refl, sym, ap, ◌∙◌, subst, arith, append_assoc, nat_eq, inl, inr}
use Rattle.std.specs.List.{All, find, filter_map, enumerate_from, cons_option}
use Rattle.std.specs.Option.{option_map}
use Rattle.std.proofs.lemmas.Bool.{cases_lt}
use Rattle.std.proofs.lemmas.Bool.Decides.{nat_tests}
use Rattle.std.proofs.lemmas.List.Elements.{All-nil, All-cons}
use Rattle.stock_nums.specs.Places.{is_before}
use Rattle.stock_nums.specs.declared.cause.Method.{Method}
use Rattle.stock_nums.specs.declared.cause.Method.TheVariants.{Average}
use Rattle.stock_nums.specs.declared.entry.Entry.{Entry}
use Rattle.stock_nums.specs.declared.numbers.ItemNo.{ItemNo}
use Rattle.stock_model.specs.declared.records.Record.{Record}
use Rattle.stock_model.specs.declared.vouchers.What.{What}
use Rattle.stock_model.specs.declared.vouchers.What.TheVariants.{Item, Store, Receipt, Issue, Transfer, CustomerReturn, SupplierReturn, Landed, Freeze, Cancel}
use Rattle.stock_model.specs.Entries.{movements, entries, entries_after, all_entries}
use Rattle.stock_model.specs.Formulas.{HasFormula, HaveOneFormula}
use Rattle.stock_nums.specs.Heads.{ItemHead, has_item_code, item_found}
use Rattle.stock_model.specs.Masters.{item_made, item_numbered, item_with}
use Rattle.stock_model.specs.PostingOrder.{put, put_all, posting_line}
use Rattle.stock_model.specs.TargetLines.{coded_item}
use Rattle.stock_model.specs.VoucherLines.{Subject, Coded, OfTarget, moves_of}
use Rattle.stock_laws.proofs.LineEntries.{HoldsOf, movements-each}
use Rattle.stock_laws.proofs.LiveEntries.{Each-live}
use Rattle.stock_model.proofs.Pairwise.{Each, Each-all, Each-append}

-- the formula of the item that the record makes, if it makes one
abbrev method_made : What → Method
method_made (Item code method) = method
method_made _ = Average

-- the formula of the item with this number, where the first of the records has the number k
abbrev formula_from : ℕ → List Record → ℕ → Method
formula_from k [] n = Average
formula_from k (r ∷ rs) n = cond (nat_eq n k) (method_made r.what) (formula_from (k + 1) rs n)

-- an item among these records, with its formula
record IsItemOf (k : ℕ) (records : List Record) (head : ItemHead) : Type 0 where
  from : k ≤ head.number
  before : head.number < k + length records
  method : formula_from k records head.number ≡ head.method

here : (k : ℕ) (r : Record) (rs : List Record) → formula_from k (r ∷ rs) k ≡ method_made r.what
here k r rs =
    let same : nat_eq k k ≡ true = grind (arith, nat_tests) in
    ap (λ (b : Bool). cond b (method_made r.what) (formula_from (k + 1) rs k)) same

later : (k : ℕ) (r : Record) (rs : List Record) (n : ℕ) → k < n → formula_from k (r ∷ rs) n ≡ formula_from (k + 1) rs n
later k r rs n more =
    let other : nat_eq n k ≡ false = grind (arith, nat_tests) in
    ap (λ (b : Bool). cond b (method_made r.what) (formula_from (k + 1) rs n)) other

IsItemOf-later : (k : ℕ) (r : Record) (rs : List Record) (head : ItemHead) → IsItemOf (k + 1) rs head → IsItemOf k (r ∷ rs) head
IsItemOf-later k r rs head item =
    record {
      from = omega (arith, item.from);
      before = omega (arith, item.before);
      method = later k r rs head.number (omega (arith, item.from)) ∙ item.method;
    }

-- what is found is an item of the records
found-IsItemOf : (k : ℕ) (code : List ℕ) (records : List Record) (head : ItemHead) → find (has_item_code code) (filter_map item_numbered (enumerate_from k records)) ≡ Some head → IsItemOf k records head
found-IsItemOf k code [] head is = cc
found-IsItemOf k code (r ∷ rs) head is =
    let rest = filter_map item_numbered (enumerate_from (k + 1) rs) in
    let onward : find (has_item_code code) rest ≡ Some head → IsItemOf k (r ∷ rs) head =
    λ later_is. IsItemOf-later k r rs head (found-IsItemOf (k + 1) code rs head later_is) in
    let step : (what : What) → r.what ≡ what → find (has_item_code code) (cons_option (item_made k what) rest) ≡ Some head → IsItemOf k (r ∷ rs) head =
    λ what. elim what as (λ w. r.what ≡ w → find (has_item_code code) (cons_option (item_made k w) rest) ≡ Some head → IsItemOf k (r ∷ rs) head) [
      | Item made method ↦ λ says.
          let own : ItemHead = record { number = k; code = made; method = method } in
          elim (has_item_code code own) as (λ b. cond b (Some own) (find (has_item_code code) rest) ≡ Some head → IsItemOf k (r ∷ rs) head) [
            | true ↦ λ named.
                let same : own ≡ head = cc in
                subst (IsItemOf k (r ∷ rs)) same
                (record { from = omega arith; before = omega arith; method = here k r rs ∙ ap method_made says })
            | false ↦ onward
          ]
      | Store made account ↦ λ says. onward
      | Receipt at lines ↦ λ says. onward
      | Issue at purpose lines ↦ λ says. onward
      | Transfer at lines ↦ λ says. onward
      | CustomerReturn at lines ↦ λ says. onward
      | SupplierReturn at lines ↦ λ says. onward
      | Landed charge basis targets ↦ λ says. onward
      | Freeze until ↦ λ says. onward
      | Cancel cancelled ↦ λ says. onward
    ] in
    step r.what refl is

-- further records change no formula
formula_from-append : (k : ℕ) (records more : List Record) (n : ℕ) → k ≤ n → n < k + length records → formula_from k (records ++ more) n ≡ formula_from k records n
formula_from-append k [] more n from before = absurd (omega arith)
formula_from-append k (r ∷ rs) more n from before =
    elim (cases_lt k n) [
      | inl less ↦ later k r (rs ++ more) n less ∙ formula_from-append (k + 1) rs more n (omega arith) (omega arith) ∙ sym (later k r rs n less)
      | inr le ↦
          let same : n ≡ k = omega arith in
          subst (λ (m : ℕ). formula_from k (r ∷ rs ++ more) m ≡ formula_from k (r ∷ rs) m) (sym same) (here k r (rs ++ more) ∙ sym (here k r rs))
    ]

-- an item that is named by its code has the formula of its number, whatever records follow
item_with-formula : (journal more : List Record) (code : List ℕ) (item : ItemNo × Method) → item_with journal code ≡ Some item → item.1 ≡ formula_from 1 (journal ++ more) item.0.0
item_with-formula journal more code item is =
    let step : (o : Option ItemHead) → find (has_item_code code) (filter_map item_numbered (enumerate_from 1 journal)) ≡ o → option_map item_found o ≡ Some item → item.1 ≡ formula_from 1 (journal ++ more) item.0.0 =
    λ o. elim o as (λ v. find (has_item_code code) (filter_map item_numbered (enumerate_from 1 journal)) ≡ v → option_map item_found v ≡ Some item → item.1 ≡ formula_from 1 (journal ++ more) item.0.0) [
      | None ↦ λ found named. cc
      | Some head ↦ λ found named.
          let own = found-IsItemOf 1 code journal head found in
          let same : item_found head ≡ item = cc in
          subst (λ (i : ItemNo × Method). i.1 ≡ formula_from 1 (journal ++ more) i.0.0) same
          (sym (formula_from-append 1 journal more head.number own.from own.before ∙ own.method))
    ] in
    step (find (has_item_code code) (filter_map item_numbered (enumerate_from 1 journal))) refl is

-- the item of a line by its code
coded_item-formula : (journal more : List Record) (subject : Subject) (item : ItemNo × Method) → coded_item journal subject ≡ Some item → item.1 ≡ formula_from 1 (journal ++ more) item.0.0
coded_item-formula journal more (Coded code) item is = item_with-formula journal more code item is
coded_item-formula journal more (OfTarget named) item is = cc

movements-formula : (journal more : List Record) (n : ℕ) (what : What) → Each (HasFormula (formula_from 1 (journal ++ more))) (movements journal n what)
movements-formula journal more n what =
    let has = HasFormula (formula_from 1 (journal ++ more)) in
    movements-each journal n what has
    (λ at timed i line is found found_is item named. Each-all (HoldsOf n at (1 + i) line item has) (λ move store. coded_item-formula journal more found.item item named) (moves_of what line found))

entries_after-formula : (journal rest : List Record) → Each (HasFormula (formula_from 1 (journal ++ rest))) (entries_after journal rest)
entries_after-formula journal [] = tt
entries_after-formula journal (r ∷ rs) =
    let has = HasFormula (formula_from 1 (journal ++ r ∷ rs)) in
    Each-append has (entries journal r) (entries_after (journal ++ r ∷ []) rs) (movements-formula journal (r ∷ rs) (length journal + 1) r.what)
    (subst (λ (all : List Record). Each (HasFormula (formula_from 1 all)) (entries_after (journal ++ r ∷ []) rs)) (append_assoc journal (r ∷ []) rs) (entries_after-formula (journal ++ r ∷ []) rs))

put-Each : (P : Entry → Type 0) (line : List Entry) (e : Entry) → Each P line → P e → Each P (put line e)
put-Each P [] e all own = (own, tt)
put-Each P (f ∷ fs) e all own =
    elim (is_before e.place f.place) as (λ b. Each P (cond b (e ∷ f ∷ fs) (f ∷ put fs e))) [
      | true ↦ (own, all)
      | false ↦ (all.0, put-Each P fs e all.1 own)
    ]

pub put_all-Each : (P : Entry → Type 0) (line es : List Entry) → Each P line → Each P es → Each P (put_all line es)
put_all-Each P line [] all more = all
put_all-Each P line (e ∷ es) all more = put_all-Each P (put line e) es (put-Each P line e all more.0) more.1

pub All-from_Each : (P : Entry → Type 0) (es : List Entry) → Each P es → All P es
All-from_Each P [] all = All-nil P
All-from_Each P (e ∷ es) all = All-cons P e es all.0 (All-from_Each P es all.1)

-- the movements of a journal have one formula for each item
pub posting_line-formula : (journal : List Record) → HaveOneFormula (posting_line journal)
unfolding posting_line
posting_line-formula journal = (
  formula_from 1 journal,
  All-from_Each (HasFormula (formula_from 1 journal)) (put_all [] (all_entries journal))
      (put_all-Each (HasFormula (formula_from 1 journal)) [] (all_entries journal) tt
      (Each-live (HasFormula (formula_from 1 journal)) journal (entries_after-formula [] journal))),
)
