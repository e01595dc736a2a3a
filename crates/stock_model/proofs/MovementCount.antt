-- A record without a fault of its own makes a movement for each warehouse that a line of it names.
use Rattle.std.proofs.Common.{◌≡◌, ℕ, ◌+◌, ◌*◌, Bool, true, false, List, [], ◌∷◌, ◌++◌, length, map, sum_by, Option, Some, None, refl, sym, ap, ◌∙◌, subst, arith, length-append}
use Rattle.std.proofs.lemmas.List.Sums.{sum_by-cons}
use Rattle.std.specs.Prelude.{is_none, ◌||◌}
use Rattle.std.specs.Option.{option_map, option_to_list}
use Rattle.std.specs.List.{filter_map, flat_map, enumerate_from, cons_option, zip, list_any}
use Rattle.stock_nums.specs.declared.cause.Method.{Method}
use Rattle.stock_nums.specs.declared.moment.Moment.{Moment}
use Rattle.stock_nums.specs.declared.numbers.ItemNo.{ItemNo}
use Rattle.stock_model.specs.declared.records.Record.{Record}
use Rattle.stock_model.specs.declared.seen.Move.{Move}
use Rattle.stock_model.specs.declared.targets.TargetKind.{TargetKind}
use Rattle.stock_model.specs.declared.targets.TargetKind.TheVariants.{OfSale, OfReceipt}
use Rattle.stock_model.specs.declared.vouchers.ReturnLine.{ReturnLine}
use Rattle.stock_model.specs.declared.vouchers.What.{What}
use Rattle.stock_model.specs.declared.vouchers.What.TheVariants.{Item, Store, Receipt, Issue, Transfer, CustomerReturn, SupplierReturn, Landed, Freeze, Cancel}
use Rattle.stock_model.specs.Entries.{moved, move_made, moves_made, found_made, line_made, lines_made, movements}
use Rattle.stock_model.specs.Faults.{lacks_item, is_unknown_item, lacks_store, is_unknown_store, lacks_target, voucher_fault}
use Rattle.stock_model.specs.Journals.{AreSound}
use Rattle.stock_model.specs.Masters.{item_with, store_with}
use Rattle.stock_model.specs.TargetLines.{target_line, coded_item, line_having, line_found}
use Rattle.stock_model.specs.VoucherLines.{Subject, Coded, OfTarget, VoucherLine, lines_of, targets_of, stores_each, moves_of, receipt_line, issue_line, transfer_line, return_line, return_target}
use Rattle.stock_model.proofs.NoFaults.{NoFaults, NoFaults-from, held-target}
use Rattle.stock_model.proofs.Numbered.{Fails, first_line-none}
use Rattle.stock_model.proofs.Pairwise.{Each, Each-map}
use Rattle.stock_model.proofs.TargetItems.{some-from, target-coded}

abbrev pub store_count : VoucherLine → ℕ
store_count line = length line.stores

any-none : {X : Type 0} (test : X → Bool) (x : X) (xs : List X) → list_any test (x ∷ xs) ≡ false → (test x ≡ false) × (list_any test xs ≡ false)
any-none test x xs = elim (test x) as (λ b. (b || list_any test xs) ≡ false → (b ≡ false) × (list_any test xs ≡ false)) [ true ↦ λ h. cc | false ↦ λ h. (refl, h) ]

-- moves into or out of warehouses that are found make a movement each
moves-count : (journal : List Record) (n : ℕ) (at : Moment) (number : ℕ) (line : VoucherLine) (item : ItemNo × Method) (moves : List Move) (stores : List (List ℕ))
    → length moves ≡ length stores → list_any (is_unknown_store journal) stores ≡ false → length (filter_map (move_made journal n at number line item) (zip moves stores)) ≡ length stores
moves-count journal n at number line item [] [] same known = refl
moves-count journal n at number line item [] (code ∷ stores) same known = absurd (omega (arith, same))
moves-count journal n at number line item (move ∷ moves) [] same known = absurd (omega (arith, same))
moves-count journal n at number line item (move ∷ moves) (code ∷ stores) same known =
    let each = any-none (is_unknown_store journal) code stores known in
    let made = filter_map (move_made journal n at number line item) (zip moves stores) in
    let rest = moves-count journal n at number line item moves stores (omega (arith, same)) each.1 in
    let one : length (cons_option (option_map (moved n at number line item move) (store_with journal code)) made) ≡ length made + 1 =
    (elim (store_with journal code) as (λ o. is_none o ≡ false → length (cons_option (option_map (moved n at number line item move) o) made) ≡ length made + 1) [
      | None ↦ λ h. cc
      | Some store ↦ λ h. omega arith
    ]) each.0 in
    omega (arith, one, rest)

-- the item of a line is known, and so is the line that it is of
abbrev pub IsKnown : List Record → VoucherLine → Type 0
IsKnown journal line = (found : VoucherLine) × (line_found journal line ≡ Some found) × (item : ItemNo × Method) × (coded_item journal found.item ≡ Some item)

-- a line makes a movement for each warehouse, whatever line its item is of
abbrev pub MovesEach : What → VoucherLine → Type 0
MovesEach what line = (found : VoucherLine) → length (moves_of what line found) ≡ length line.stores

pub line-count : (journal : List Record) (n : ℕ) (at : Moment) (what : What) (number : ℕ) (line : VoucherLine) → IsKnown journal line → MovesEach what line
    → lacks_store journal line ≡ false → length (line_made journal n at what (number, line)) ≡ store_count line
line-count journal n at what number line (found, found_is, item, item_is) each known =
    let own : length (moves_made journal n at what number line found item) ≡ length line.stores =
    moves-count journal n at number line item (moves_of what line found) line.stores (each found) known in
    let by_item : length (flat_map (moves_made journal n at what number line found) (option_to_list (coded_item journal found.item))) ≡ length line.stores =
    subst (λ (o : Option (ItemNo × Method)). length (flat_map (moves_made journal n at what number line found) (option_to_list o)) ≡ length line.stores) (sym item_is)
    (omega (arith, own, length-append (moves_made journal n at what number line found item) [])) in
    subst (λ (o : Option VoucherLine). length (flat_map (found_made journal n at what number line) (option_to_list o)) ≡ length line.stores) (sym found_is)
    (omega (arith, by_item, length-append (found_made journal n at what number line found) []))

-- all that is wanted of a line
pub record IsMade (journal : List Record) (what : What) (line : VoucherLine) : Type 0 where
  pub known : IsKnown journal line
  pub each : MovesEach what line
  pub stores : lacks_store journal line ≡ false

lines-count : (journal : List Record) (n : ℕ) (at : Moment) (what : What) (k : ℕ) (lines : List VoucherLine) → Each (IsMade journal what) lines
    → length (flat_map (line_made journal n at what) (enumerate_from k lines)) ≡ sum_by store_count lines
lines-count journal n at what k [] all = refl
lines-count journal n at what k (line ∷ lines) all =
    omega (
      arith,
      line-count journal n at what k line all.0.known all.0.each all.0.stores,
      lines-count journal n at what (k + 1) lines all.1,
      length-append (line_made journal n at what (k, line)) (flat_map (line_made journal n at what) (enumerate_from (k + 1) lines)),
      sum_by-cons store_count line lines,
    )

-- the lines of each kind make a movement for each warehouse
lines-move : (what : What) → Each (MovesEach what) (lines_of what)
lines-move (Item code method) = tt
lines-move (Store code account) = tt
lines-move (Receipt at lines) = Each-map (MovesEach (Receipt at lines)) receipt_line (λ line found. refl) lines
lines-move (Issue at purpose lines) = Each-map (MovesEach (Issue at purpose lines)) issue_line (λ line found. refl) lines
lines-move (Transfer at lines) = Each-map (MovesEach (Transfer at lines)) transfer_line (λ line found. refl) lines
lines-move (CustomerReturn at lines) = Each-map (MovesEach (CustomerReturn at lines)) (return_line OfSale) (λ line found. refl) lines
lines-move (SupplierReturn at lines) = Each-map (MovesEach (SupplierReturn at lines)) (return_line OfReceipt) (λ line found. refl) lines
lines-move (Landed charge basis targets) = tt
lines-move (Freeze until) = tt
lines-move (Cancel target) = tt

-- where the item is that of a target, the target is known
abbrev pub HasTarget : List Record → Subject → Type 0
HasTarget journal (Coded code) = Unit {0}
HasTarget journal (OfTarget named) = lacks_target journal named ≡ false

abbrev pub LineHasTarget : List Record → VoucherLine → Type 0
LineHasTarget journal line = HasTarget journal line.item

returns-targets : (journal : List Record) (kind : TargetKind) (lines : List ReturnLine) → Each (Fails (lacks_target journal)) (map (return_target kind) lines) → Each (LineHasTarget journal) (map (return_line kind) lines)
returns-targets journal kind [] all = tt
returns-targets journal kind (line ∷ lines) all = (all.0, returns-targets journal kind lines all.1)

lines-targets : (journal : List Record) (what : What) → Each (Fails (lacks_target journal)) (targets_of what) → Each (LineHasTarget journal) (lines_of what)
lines-targets journal (Item code method) all = tt
lines-targets journal (Store code account) all = tt
lines-targets journal (Receipt at lines) all = Each-map (LineHasTarget journal) receipt_line (λ line. tt) lines
lines-targets journal (Issue at purpose lines) all = Each-map (LineHasTarget journal) issue_line (λ line. tt) lines
lines-targets journal (Transfer at lines) all = Each-map (LineHasTarget journal) transfer_line (λ line. tt) lines
lines-targets journal (CustomerReturn at lines) all = returns-targets journal OfSale lines all
lines-targets journal (SupplierReturn at lines) all = returns-targets journal OfReceipt lines all
lines-targets journal (Landed charge basis targets) all = tt
lines-targets journal (Freeze until) all = tt
lines-targets journal (Cancel target) all = tt

-- a line whose item or target is there is known
known-having : (journal : List Record) (line : VoucherLine) (subject : Subject) → AreSound journal → line.item ≡ subject → is_unknown_item journal subject ≡ false → HasTarget journal subject
    → (found : VoucherLine) × (line_having journal line subject ≡ Some found) × (item : ItemNo × Method) × (coded_item journal found.item ≡ Some item)
known-having journal line (Coded code) sound is known target =
    let some = some-from (item_with journal code) known in
    (line, refl, some.0, ap (coded_item journal) is ∙ some.1)
known-having journal line (OfTarget named) sound is known target =
    let some = some-from (target_line journal named) (held-target journal named target) in
    let item = target-coded journal named some.0 sound some.1 in
    (some.0, some.1, item.0, item.1)

lines-made : (journal : List Record) (what : What) (lines : List VoucherLine) → AreSound journal → Each (Fails (lacks_item journal)) lines → Each (Fails (lacks_store journal)) lines
    → Each (LineHasTarget journal) lines → Each (MovesEach what) lines → Each (IsMade journal what) lines
lines-made journal what [] sound items stores targets moves = tt
lines-made journal what (line ∷ lines) sound items stores targets moves = (
  record { known = known-having journal line line.item sound refl items.0 targets.0; each = moves.0; stores = stores.0 },
  lines-made journal what lines sound items.1 stores.1 targets.1 moves.1,
)

-- each line of a record without a fault of its own is known, and so are its warehouses
pub lines-IsMade : (journal : List Record) (what : What) → AreSound journal → NoFaults journal what → Each (IsMade journal what) (lines_of what)
lines-IsMade journal what sound none =
    lines-made journal what (lines_of what) sound (first_line-none (lacks_item journal) 1 (lines_of what) none.items)
    (first_line-none (lacks_store journal) 1 (lines_of what) none.stores)
    (lines-targets journal what (first_line-none (lacks_target journal) 1 (targets_of what) none.known)) (lines-move what)

-- how many movements a record makes
abbrev pub move_count : What → ℕ
move_count what = sum_by store_count (lines_of what)

count-timed : (journal : List Record) (n : ℕ) (at : Moment) (what : What) → Each (IsMade journal what) (lines_of what) → move_count what ≡ length (lines_made journal n what at ++ [])
count-timed journal n at what all =
    omega (arith, lines-count journal n at what 1 (lines_of what) all, length-append (lines_made journal n what at) [])

pub movements-count : (journal : List Record) (n : ℕ) (what : What) → AreSound journal → voucher_fault journal what ≡ None → move_count what ≡ length (movements journal n what)
movements-count journal n (Item code method) sound none = refl
movements-count journal n (Store code account) sound none = refl
movements-count journal n (Receipt at lines) sound none = count-timed journal n at (Receipt at lines) (lines-IsMade journal (Receipt at lines) sound (NoFaults-from journal (Receipt at lines) none))
movements-count journal n (Issue at purpose lines) sound none = count-timed journal n at (Issue at purpose lines) (lines-IsMade journal (Issue at purpose lines) sound (NoFaults-from journal (Issue at purpose lines) none))
movements-count journal n (Transfer at lines) sound none = count-timed journal n at (Transfer at lines) (lines-IsMade journal (Transfer at lines) sound (NoFaults-from journal (Transfer at lines) none))
movements-count journal n (CustomerReturn at lines) sound none = count-timed journal n at (CustomerReturn at lines) (lines-IsMade journal (CustomerReturn at lines) sound (NoFaults-from journal (CustomerReturn at lines) none))
movements-count journal n (SupplierReturn at lines) sound none = count-timed journal n at (SupplierReturn at lines) (lines-IsMade journal (SupplierReturn at lines) sound (NoFaults-from journal (SupplierReturn at lines) none))
movements-count journal n (Landed charge basis targets) sound none = refl
movements-count journal n (Freeze until) sound none = refl
movements-count journal n (Cancel target) sound none = refl

-- as many for each line
each-count : {X : Type 0} (line : X → VoucherLine) (m : ℕ) → ((x : X) → store_count (line x) ≡ m) → (xs : List X) → sum_by store_count (map line xs) ≡ length (map line xs) * m
each-count line m same [] = omega arith
each-count line m same (x ∷ xs) = omega (arith, sum_by-cons store_count (line x) (map line xs), same x, each-count line m same xs)

pub move_count-each : (what : What) → length (lines_of what) * stores_each what ≡ move_count what
move_count-each (Item code method) = refl
move_count-each (Store code account) = refl
move_count-each (Receipt at lines) = sym (each-count receipt_line 1 (λ line. refl) lines)
move_count-each (Issue at purpose lines) = sym (each-count issue_line 1 (λ line. refl) lines)
move_count-each (Transfer at lines) = sym (each-count transfer_line 2 (λ line. refl) lines)
move_count-each (CustomerReturn at lines) = sym (each-count (return_line OfSale) 1 (λ line. refl) lines)
move_count-each (SupplierReturn at lines) = sym (each-count (return_line OfReceipt) 1 (λ line. refl) lines)
move_count-each (Landed charge basis targets) = refl
move_count-each (Freeze until) = refl
move_count-each (Cancel target) = refl
