-- The item of a target of a sound journal is known.
use Rattle.std.proofs.Common.{◌≡◌, ℕ, zero, suc, ◌+◌, Bool, true, false, cond, List, [], ◌∷◌, ◌++◌, take, drop, Option, Some, None, refl, sym, ap, ◌∙◌, subst, append_assoc}
use Rattle.std.specs.Prelude.{slice_get, is_none}
use Rattle.std.specs.Option.{option_map, option_and_then}
use Rattle.std.specs.List.{find, filter_map, enumerate_from, cons_option}
use Rattle.std.proofs.lemmas.List.{append-nil, take-append-drop}
use Rattle.stock_nums.specs.Heads.{has_item_code, item_found}
use Rattle.stock_nums.specs.declared.cause.Method.{Method}
use Rattle.stock_nums.specs.declared.numbers.ItemNo.{ItemNo}
use Rattle.stock_model.specs.declared.records.Record.{Record}
use Rattle.stock_model.specs.declared.targets.NamedTarget.{NamedTarget}
use Rattle.stock_model.specs.declared.targets.TargetKind.{TargetKind}
use Rattle.stock_model.specs.declared.targets.TargetKind.TheVariants.{OfSale, OfReceipt}
use Rattle.stock_model.specs.declared.vouchers.What.{What}
use Rattle.stock_model.specs.declared.vouchers.What.TheVariants.{Item, Store, Receipt, Issue, Transfer, CustomerReturn, SupplierReturn, Landed, Freeze, Cancel}
use Rattle.stock_model.specs.Faults.{lacks_item, is_unknown_item, voucher_fault}
use Rattle.stock_model.specs.Journals.{AreSound, AreSoundAfter}
use Rattle.stock_model.specs.Masters.{item_numbered, items, item_with, record_at}
use Rattle.stock_model.specs.TargetLines.{line_numbered, line_of_kind, target_line, coded_item}
use Rattle.stock_model.specs.VoucherLines.{Coded, VoucherLine, lines_of, is_of_kind, receipt_line, issue_line}
use Rattle.stock_model.proofs.NoFaults.{NoFaults, NoFaults-from}
use Rattle.stock_model.proofs.Numbered.{Fails, first_line-none}
use Rattle.stock_model.proofs.Pairwise.{Each, Each-at, Each-map}

-- what is not none is some
pub some-from : {X : Type 0} (o : Option X) → is_none o ≡ false → (x : X) × (o ≡ Some x)
some-from None h = cc
some-from (Some x) h = (x, refl)

-- what is found among the first is found among all
found-append : {X Y : Type 0} (test : Y → Bool) (made : ℕ × X → Option Y) (k : ℕ) (xs ys : List X)
    → is_none (find test (filter_map made (enumerate_from k xs))) ≡ false → is_none (find test (filter_map made (enumerate_from k (xs ++ ys)))) ≡ false
found-append test made k [] ys some = cc
found-append {Y = Y} test made k (x ∷ xs) ys some =
    let front = filter_map made (enumerate_from (k + 1) xs) in
    let all = filter_map made (enumerate_from (k + 1) (xs ++ ys)) in
    (elim (made (k, x)) as (λ o. is_none (find test (cons_option o front)) ≡ false → is_none (find test (cons_option o all)) ≡ false) [
      | None ↦ found-append test made (k + 1) xs ys
      | Some y ↦ elim (test y) as (λ b. is_none (cond b (Some y) (find test front)) ≡ false → is_none (cond b (Some y) (find test all)) ≡ false) [
        | true ↦ λ h. refl
        | false ↦ found-append test made (k + 1) xs ys
      ]
    ]) some

none-map_none : {X Y : Type 0} (f : X → Y) (o : Option X) → is_none (option_map f o) ≡ is_none o
none-map_none f None = refl
none-map_none f (Some x) = refl

-- an item of the first records is one of all
pub item-append : (journal more : List Record) (code : List ℕ) → is_none (item_with journal code) ≡ false → is_none (item_with (journal ++ more) code) ≡ false
item-append journal more code some =
    none-map_none item_found (find (has_item_code code) (items (journal ++ more)))
    ∙ found-append (has_item_code code) item_numbered 1 journal more (sym (none-map_none item_found (find (has_item_code code) (items journal))) ∙ some)

-- each record of a sound journal has no fault in the journal before it
sound-at : (done rest : List Record) (i : ℕ) (item : Record) → AreSoundAfter done rest → slice_get rest i ≡ Some item → voucher_fault (done ++ take i rest) item.what ≡ None
sound-at done [] zero item sound is = cc
sound-at done [] (suc i) item sound is = cc
sound-at done (r ∷ rest) zero item sound is =
    let same : r ≡ item = cc in
    subst (λ (one : Record). voucher_fault (done ++ []) one.what ≡ None) same
    (subst (λ (journal : List Record). voucher_fault journal r.what ≡ None) (sym (append-nil done)) sound.0)
sound-at done (r ∷ rest) (suc i) item sound is =
    subst (λ (journal : List Record). voucher_fault journal item.what ≡ None) (append_assoc done (r ∷ []) (take i rest))
    (sound-at (done ++ r ∷ []) rest i item sound.1 is)

-- a record that is found by its number, as one that had no fault at its place
pub record IsAccepted (journal : List Record) (item : Record) : Type 0 where
  pub before : List Record
  pub after : List Record
  pub parts : before ++ after ≡ journal
  pub sound : NoFaults before item.what

pub IsAccepted-at : (journal : List Record) (n : ℕ) (item : Record) → AreSound journal → record_at journal n ≡ Some item → IsAccepted journal item
IsAccepted-at journal zero item sound is = cc
IsAccepted-at journal (suc n) item sound is =
    record {
      before = take n journal;
      after = drop n journal;
      parts = take-append-drop n journal;
      sound = NoFaults-from (take n journal) item.what (sound-at [] journal n item sound is);
    }

-- a target is a line of an accepted record of its kind
pub record IsTargetLine (journal : List Record) (named : NamedTarget) (found : VoucherLine) : Type 0 where
  pub item : Record
  pub held : record_at journal named.target.voucher.0 ≡ Some item
  pub kind : is_of_kind named.kind item.what ≡ true
  pub line : line_numbered (lines_of item.what) named.target.line ≡ Some found

of_kind : (named : NamedTarget) (item : Record) (found : VoucherLine) → line_of_kind named item ≡ Some found → (is_of_kind named.kind item.what ≡ true) × (line_numbered (lines_of item.what) named.target.line ≡ Some found)
of_kind named item found =
    elim (is_of_kind named.kind item.what) as (λ b. cond b (line_numbered (lines_of item.what) named.target.line) None ≡ Some found → (b ≡ true) × (line_numbered (lines_of item.what) named.target.line ≡ Some found)) [
      | true ↦ λ h. (refl, h)
      | false ↦ λ h. cc
    ]

pub IsTargetLine-from : (journal : List Record) (named : NamedTarget) (found : VoucherLine) → target_line journal named ≡ Some found → IsTargetLine journal named found
IsTargetLine-from journal named found =
    let step : (o : Option Record) → record_at journal named.target.voucher.0 ≡ o → option_and_then (line_of_kind named) o ≡ Some found → IsTargetLine journal named found =
    λ o. elim o as (λ v. record_at journal named.target.voucher.0 ≡ v → option_and_then (line_of_kind named) v ≡ Some found → IsTargetLine journal named found) [
      | None ↦ λ is h. cc
      | Some item ↦ λ is h.
          let own = of_kind named item found h in
          record { item = item; held = is; kind = own.0; line = own.1 }
    ] in
    step (record_at journal named.target.voucher.0) refl

-- a line names its item by a code
abbrev pub IsCoded : VoucherLine → Type 0
IsCoded line = (code : List ℕ) × (line.item ≡ Coded code)

-- the lines of what a target can be of do
pub lines-coded : (kind : TargetKind) (what : What) → is_of_kind kind what ≡ true → Each IsCoded (lines_of what)
lines-coded OfSale (Item code method) is = tt
lines-coded OfSale (Store code account) is = tt
lines-coded OfSale (Receipt at lines) is = cc
lines-coded OfSale (Issue at purpose lines) is = Each-map IsCoded issue_line (λ line. (line.item, refl)) lines
lines-coded OfSale (Transfer at lines) is = cc
lines-coded OfSale (CustomerReturn at lines) is = cc
lines-coded OfSale (SupplierReturn at lines) is = cc
lines-coded OfSale (Landed charge basis targets) is = tt
lines-coded OfSale (Freeze until) is = tt
lines-coded OfSale (Cancel target) is = tt
lines-coded OfReceipt (Item code method) is = tt
lines-coded OfReceipt (Store code account) is = tt
lines-coded OfReceipt (Receipt at lines) is = Each-map IsCoded receipt_line (λ line. (line.item, refl)) lines
lines-coded OfReceipt (Issue at purpose lines) is = cc
lines-coded OfReceipt (Transfer at lines) is = cc
lines-coded OfReceipt (CustomerReturn at lines) is = cc
lines-coded OfReceipt (SupplierReturn at lines) is = cc
lines-coded OfReceipt (Landed charge basis targets) is = tt
lines-coded OfReceipt (Freeze until) is = tt
lines-coded OfReceipt (Cancel target) is = tt

-- what holds of each line holds of the one with a number
pub line_numbered-each : (P : VoucherLine → Type 0) (lines : List VoucherLine) (n : ℕ) (line : VoucherLine) → Each P lines → line_numbered lines n ≡ Some line → P line
line_numbered-each P lines zero line all is = cc
line_numbered-each P lines (suc n) line all is = Each-at P lines n line all is

coded_item-known : (journal more : List Record) (line : VoucherLine) → IsCoded line → lacks_item journal line ≡ false → (item : ItemNo × Method) × (coded_item (journal ++ more) line.item ≡ Some item)
coded_item-known journal more line (code, coded) known =
    let own : is_none (item_with journal code) ≡ false = ap (is_unknown_item journal) (sym coded) ∙ known in
    let some = some-from (item_with (journal ++ more) code) (item-append journal more code own) in
    (some.0, ap (coded_item (journal ++ more)) coded ∙ some.1)

-- the item of a target is known
pub target-coded : (journal : List Record) (named : NamedTarget) (found : VoucherLine) → AreSound journal → target_line journal named ≡ Some found
    → (item : ItemNo × Method) × (coded_item journal found.item ≡ Some item)
target-coded journal named found sound is =
    let target = IsTargetLine-from journal named found is in
    let accepted = IsAccepted-at journal named.target.voucher.0 target.item sound target.held in
    let coded = line_numbered-each IsCoded (lines_of target.item.what) named.target.line found (lines-coded named.kind target.item.what target.kind) target.line in
    let known = line_numbered-each (Fails (lacks_item accepted.before)) (lines_of target.item.what) named.target.line found
    (first_line-none (lacks_item accepted.before) 1 (lines_of target.item.what) accepted.sound.items) target.line in
    subst (λ (all : List Record). (item : ItemNo × Method) × (coded_item all found.item ≡ Some item)) accepted.parts
    (coded_item-known accepted.before accepted.after found coded known)
