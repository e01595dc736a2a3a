-- What the record with a number says, whatever records follow.
use Rattle.std.proofs.Common.{◌≡◌, ℕ, zero, suc, ◌+◌, ◌<◌, ◌≤◌, true, List, [], ◌∷◌, ◌++◌, length, map, Option, Some, None, refl, sym, ap, ◌∙◌, subst, add-one, arith}
use Rattle.std.specs.Prelude.{slice_get}
use Rattle.std.specs.Option.{option_map, option_map_or, option_and_then}
use Rattle.stock_nums.specs.declared.cause.Target.{Target}
use Rattle.stock_model.specs.declared.records.Record.{Record}
use Rattle.stock_model.specs.declared.targets.NamedTarget.{NamedTarget}
use Rattle.stock_model.specs.declared.targets.TargetKind.{TargetKind}
use Rattle.stock_model.specs.declared.targets.TargetKind.TheVariants.{OfSale, OfReceipt}
use Rattle.stock_model.specs.declared.vouchers.What.{What}
use Rattle.stock_model.specs.declared.vouchers.What.TheVariants.{Item, Store, Receipt, Issue, Transfer, CustomerReturn, SupplierReturn, Landed, Freeze, Cancel}
use Rattle.stock_model.specs.Masters.{record_at}
use Rattle.stock_model.specs.Returns.{line_units}
use Rattle.stock_model.specs.TargetLines.{line_of_kind, target_line}
use Rattle.stock_model.specs.VoucherLines.{VoucherLine, is_of_kind}
use Rattle.stock_laws.proofs.ReturnedUnits.{record_at-append, line_of_record, line_at, units_at}
use Rattle.stock_model.proofs.TargetItems.{IsTargetLine-from}

slice_get-within : {X : Type 0} (xs : List X) (i : ℕ) (x : X) → slice_get xs i ≡ Some x → i < length xs
slice_get-within [] zero x is = cc
slice_get-within [] (suc i) x is = cc
slice_get-within (y ∷ xs) zero x is = omega arith
slice_get-within (y ∷ xs) (suc i) x is = let rest = slice_get-within xs i x is in omega arith

slice_get-here : {X : Type 0} (xs : List X) (x : X) (ys : List X) → slice_get (xs ++ x ∷ ys) (length xs) ≡ Some x
slice_get-here [] x ys = refl
slice_get-here (y ∷ xs) x ys = slice_get-here xs x ys

-- what is made of the elements of a list is made, at each index, of the one there
pub slice_get-map : {X Y : Type 0} (f : X → Y) (xs : List X) (i : ℕ) (y : Y) → slice_get (map f xs) i ≡ Some y → (x : X) × (slice_get xs i ≡ Some x) × (f x ≡ y)
slice_get-map f [] zero y is = cc
slice_get-map f [] (suc i) y is = cc
slice_get-map f (x ∷ xs) zero y is = let same : f x ≡ y = cc in (x, refl, same)
slice_get-map f (x ∷ xs) (suc i) y is = slice_get-map f xs i y is

pub slice_get-mapped : {X Y : Type 0} (f : X → Y) (xs : List X) (i : ℕ) (x : X) → slice_get xs i ≡ Some x → slice_get (map f xs) i ≡ Some (f x)
slice_get-mapped f [] zero x is = cc
slice_get-mapped f [] (suc i) x is = cc
slice_get-mapped f (y ∷ xs) zero x is = let same : y ≡ x = cc in ap (λ z. Some (f z)) same
slice_get-mapped f (y ∷ xs) (suc i) x is = slice_get-mapped f xs i x is

record_at-within : (journal : List Record) (n : ℕ) (item : Record) → record_at journal n ≡ Some item → n ≤ length journal
record_at-within journal zero item is = omega arith
record_at-within journal (suc n) item is = let within = slice_get-within journal n item is in omega arith

record_at-here : (journal : List Record) (item : Record) (more : List Record) → record_at (journal ++ item ∷ more) (length journal + 1) ≡ Some item
record_at-here journal item more = rw add-one (slice_get-here journal item more)

abbrev pub said_by : Record → What
said_by item = item.what

-- what the record with this number says
abbrev pub what_at : List Record → ℕ → Option What
what_at journal n = option_map said_by (record_at journal n)

-- it is one thing
pub what_at-once : (journal : List Record) (n : ℕ) (a b : What) → what_at journal n ≡ Some a → what_at journal n ≡ Some b → a ≡ b
what_at-once journal n a b h k =
    let same : Some a ≡ Some b = sym h ∙ k in
    cc

what_at-record : (journal : List Record) (n : ℕ) (what : What) → what_at journal n ≡ Some what → (item : Record) × (record_at journal n ≡ Some item) × (item.what ≡ what)
what_at-record journal n what =
    elim (record_at journal n) as (λ o. option_map said_by o ≡ Some what → (item : Record) × (o ≡ Some item) × (item.what ≡ what)) [
      | None ↦ λ is. cc
      | Some item ↦ λ is. let same : item.what ≡ what = cc in (item, refl, same)
    ]

pub what_at-append : (journal more : List Record) (n : ℕ) (what : What) → what_at journal n ≡ Some what → what_at (journal ++ more) n ≡ Some what
what_at-append journal more n what is =
    let found = what_at-record journal n what is in
    ap (option_map said_by) (record_at-append journal more n found.0 found.1) ∙ ap (λ (w : What). Some w) found.2

pub what_at-within : (journal : List Record) (n : ℕ) (what : What) → what_at journal n ≡ Some what → n ≤ length journal
what_at-within journal n what is = let found = what_at-record journal n what is in record_at-within journal n found.0 found.1

pub what_at-here : (journal : List Record) (item : Record) (more : List Record) → what_at (journal ++ item ∷ more) (length journal + 1) ≡ Some item.what
what_at-here journal item more = ap (option_map said_by) (record_at-here journal item more)

-- a line of an earlier voucher stays what it is
pub target_line-append : (journal more : List Record) (named : NamedTarget) (found : VoucherLine) → target_line journal named ≡ Some found → target_line (journal ++ more) named ≡ Some found
target_line-append journal more named found is =
    let own = IsTargetLine-from journal named found is in
    ap (option_and_then (line_of_kind named)) (record_at-append journal more named.target.voucher.0 own.item own.held)
    ∙ sym (ap (option_and_then (line_of_kind named)) own.held) ∙ is

-- the voucher that a target is a line of is of its kind
pub target-what : (journal : List Record) (named : NamedTarget) (found : VoucherLine) → target_line journal named ≡ Some found
    → (what : What) × (what_at journal named.target.voucher.0 ≡ Some what) × (is_of_kind named.kind what ≡ true)
target-what journal named found is =
    let own = IsTargetLine-from journal named found is in
    (own.item.what, ap (option_map said_by) own.held, own.kind)

pub target-within : (journal : List Record) (named : NamedTarget) (found : VoucherLine) → target_line journal named ≡ Some found → named.target.voucher.0 ≤ length journal
target-within journal named found is =
    let own = target-what journal named found is in
    what_at-within journal named.target.voucher.0 own.0 own.1

-- no voucher is of two kinds
kinds-once : (a b : TargetKind) (what : What) → is_of_kind a what ≡ true → is_of_kind b what ≡ true → a ≡ b
kinds-once OfSale OfSale what h k = refl
kinds-once OfReceipt OfReceipt what h k = refl
kinds-once OfSale OfReceipt (Item code method) h k = cc
kinds-once OfSale OfReceipt (Store code account) h k = cc
kinds-once OfSale OfReceipt (Receipt at lines) h k = cc
kinds-once OfSale OfReceipt (Issue at purpose lines) h k = cc
kinds-once OfSale OfReceipt (Transfer at lines) h k = cc
kinds-once OfSale OfReceipt (CustomerReturn at lines) h k = cc
kinds-once OfSale OfReceipt (SupplierReturn at lines) h k = cc
kinds-once OfSale OfReceipt (Landed charge basis targets) h k = cc
kinds-once OfSale OfReceipt (Freeze until) h k = cc
kinds-once OfSale OfReceipt (Cancel cancelled) h k = cc
kinds-once OfReceipt OfSale (Item code method) h k = cc
kinds-once OfReceipt OfSale (Store code account) h k = cc
kinds-once OfReceipt OfSale (Receipt at lines) h k = cc
kinds-once OfReceipt OfSale (Issue at purpose lines) h k = cc
kinds-once OfReceipt OfSale (Transfer at lines) h k = cc
kinds-once OfReceipt OfSale (CustomerReturn at lines) h k = cc
kinds-once OfReceipt OfSale (SupplierReturn at lines) h k = cc
kinds-once OfReceipt OfSale (Landed charge basis targets) h k = cc
kinds-once OfReceipt OfSale (Freeze until) h k = cc
kinds-once OfReceipt OfSale (Cancel cancelled) h k = cc

pub target-kind : (journal : List Record) (a b : NamedTarget) (found other : VoucherLine) → a.target ≡ b.target → target_line journal a ≡ Some found → target_line journal b ≡ Some other → a.kind ≡ b.kind
target-kind journal a b found other same h k =
    let x = target-what journal a found h in
    let y = target-what journal b other k in
    let whats : x.0 ≡ y.0 = what_at-once journal a.target.voucher.0 x.0 y.0 x.1 (ap (λ (t : Target). what_at journal t.voucher.0) same ∙ y.1) in
    kinds-once a.kind b.kind x.0 x.2 (subst (λ (w : What). is_of_kind b.kind w ≡ true) (sym whats) y.2)

-- its units are those of the line with its number
pub target-units : (journal : List Record) (named : NamedTarget) (found : VoucherLine) → target_line journal named ≡ Some found → units_at journal named.target ≡ found.qty.0
target-units journal named found is =
    let own = IsTargetLine-from journal named found is in
    let line : line_at journal named.target ≡ Some found = ap (option_and_then (line_of_record named.target)) own.held ∙ own.line in
    ap (λ (l : Option VoucherLine). option_map_or line_units l 0) line

-- a line that is a target of two kinds is one line
pub target_line-once : (journal : List Record) (a b : NamedTarget) (found other : VoucherLine) → a.target ≡ b.target → target_line journal a ≡ Some found → target_line journal b ≡ Some other → found ≡ other
target_line-once journal a b found other same h k =
    let kinds = target-kind journal a b found other same h k in
    let named : a ≡ b = λ i. record { kind = kinds i; target = same i } in
    let both : Some found ≡ Some other = sym h ∙ ap (target_line journal) named ∙ k in
    cc
