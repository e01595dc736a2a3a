-- The heads of a legal journal come in the order of their numbers, and have codes of the stated shape.
use Rattle.std.proofs.Common.{◌≡◌, ℕ, ◌+◌, ◌≤◌, List, [], ◌∷◌, ◌++◌, Bool, true, false, cond, Some, None, refl, sym, subst, arith}
use Rattle.std.specs.List.{cons_option, list_all}
use Rattle.stock_nums.specs.Codes.{is_code}
use Rattle.stock_nums.specs.declared.head.Head.{Head}
use Rattle.stock_model.specs.declared.faults.PostFault.TheVariants.{CodeShape}
use Rattle.stock_model.specs.declared.queries.Query.{Query}
use Rattle.stock_model.specs.declared.queries.Selected.{Selected}
use Rattle.stock_model.specs.declared.records.Record.{Record}
use Rattle.stock_model.specs.declared.vouchers.What.{What}
use Rattle.stock_model.specs.declared.vouchers.What.TheVariants.{Item, Store, Receipt, Issue, Transfer, CustomerReturn, SupplierReturn, Landed, Freeze, Cancel}
use Rattle.stock_model.specs.Books.{IsHeadBefore, is_named, AreHeads}
use Rattle.stock_model.specs.Faults.{code_taken, code_shape}
use Rattle.stock_model.specs.Journals.{AreLegal, AreSoundAfter}
use Rattle.stock_model.specs.Masters.{heads, head_made}
use Rattle.stock_model.specs.Reports.{IsSelected}
use Rattle.stock_laws.proofs.CostedRows.{both}
use Rattle.stock_model.proofs.HeadCodes.{heads_from}
use Rattle.stock_laws.proofs.Legality.{AreSound-from}
use Rattle.stock_model.proofs.NoFaults.{NoFaults, NoFaults-from, neither}
use Rattle.stock_model.proofs.Pairwise.{Each, Each-weaker, Precedes-from_Each, Pairwise, AllPairs-from_Pairwise}
use Rattle.stock_laws.proofs.Selections.{IsOfJournal-selected}

-- the head's number is k or greater
abbrev IsFrom : ℕ → Head → Type 0
IsFrom k head = k ≤ head.number.0

-- what has numbers greater than k has numbers from k
at_least : (k : ℕ) (rest : List Head) → Each (IsFrom (k + 1)) rest → Each (IsFrom k) rest
at_least k rest later = Each-weaker (IsFrom (k + 1)) (IsFrom k) (λ head from. omega (arith, from)) rest later

-- a head with the number k comes before heads of greater numbers
first-from : (k : ℕ) (head : Head) (rest : List Head) → head.number.0 ≡ k → Each (IsFrom (k + 1)) rest → Pairwise IsHeadBefore rest
    → Each (IsFrom k) (head ∷ rest) × Pairwise IsHeadBefore (head ∷ rest)
first-from k head rest is later order = (
  (omega (arith, is), at_least k rest later),
  (Precedes-from_Each IsHeadBefore (IsFrom (k + 1)) head (λ next from. omega (arith, is, from)) rest later, order),
)

-- so does what the record with the number k makes
made-from : (k : ℕ) (what : What) (rest : List Head) → Each (IsFrom (k + 1)) rest → Pairwise IsHeadBefore rest
    → Each (IsFrom k) (cons_option (head_made k what) rest) × Pairwise IsHeadBefore (cons_option (head_made k what) rest)
made-from k (Item code method) rest later order =
    first-from k (record { number = record { 0 = k }; code = code; account = None }) rest refl later order
made-from k (Store code account) rest later order =
    first-from k (record { number = record { 0 = k }; code = code; account = Some account }) rest refl later order
made-from k (Receipt at lines) rest later order = (at_least k rest later, order)
made-from k (Issue at purpose lines) rest later order = (at_least k rest later, order)
made-from k (Transfer at lines) rest later order = (at_least k rest later, order)
made-from k (CustomerReturn at lines) rest later order = (at_least k rest later, order)
made-from k (SupplierReturn at lines) rest later order = (at_least k rest later, order)
made-from k (Landed charge basis targets) rest later order = (at_least k rest later, order)
made-from k (Freeze until) rest later order = (at_least k rest later, order)
made-from k (Cancel cancelled) rest later order = (at_least k rest later, order)

-- the heads of records that are numbered from k on have these numbers, in their order
heads-in_order : (k : ℕ) (records : List Record) → Each (IsFrom k) (heads_from k records) × Pairwise IsHeadBefore (heads_from k records)
heads-in_order k [] = (tt, tt)
heads-in_order k (item ∷ records) =
    let rest = heads-in_order (k + 1) records in
    made-from k item.what (heads_from (k + 1) records) rest.0 rest.1

-- a code of another shape is a fault
shape-none : (b : Bool) → cond b None (Some CodeShape) ≡ None → b ≡ true
shape-none true none = refl
shape-none false none = cc

-- what a record without such a fault makes has a code of the stated shape
made-named : (k : ℕ) (what : What) (rest : List Head) → code_shape what ≡ None → list_all is_named rest ≡ true → list_all is_named (cons_option (head_made k what) rest) ≡ true
made-named k (Item code method) rest none named = both (shape-none (is_code code) none) named
made-named k (Store code account) rest none named = both (shape-none (is_code code) none) named
made-named k (Receipt at lines) rest none named = named
made-named k (Issue at purpose lines) rest none named = named
made-named k (Transfer at lines) rest none named = named
made-named k (CustomerReturn at lines) rest none named = named
made-named k (SupplierReturn at lines) rest none named = named
made-named k (Landed charge basis targets) rest none named = named
made-named k (Freeze until) rest none named = named
made-named k (Cancel cancelled) rest none named = named

-- a record without faults has none of its code's shape
NoFaults-shape : (journal : List Record) (what : What) → NoFaults journal what → code_shape what ≡ None
NoFaults-shape journal what sound =
    let rest = neither (code_taken journal what) _ sound.masters in
    (neither (code_shape what) _ rest.1).0

-- so the heads of further sound records are named
heads-named : (k : ℕ) (done records : List Record) → AreSoundAfter done records → list_all is_named (heads_from k records) ≡ true
heads-named k done [] sound = refl
heads-named k done (item ∷ records) sound =
    made-named k item.what (heads_from (k + 1) records) (NoFaults-shape done item.what (NoFaults-from done item.what sound.0))
    (heads-named (k + 1) (done ++ item ∷ []) records sound.1)

-- the heads of a legal journal are as they should be
AreHeads-journal : (journal : List Record) → AreLegal journal → AreHeads (heads journal)
AreHeads-journal journal legal =
    record {
      order = AllPairs-from_Pairwise IsHeadBefore (heads journal) (heads-in_order 1 journal).1;
      named = heads-named 1 [] journal (AreSound-from journal legal);
    }

-- and those of what is selected from a book
pub chosen-heads : (query : Query) (chosen : Selected) → IsSelected query chosen → AreHeads chosen.heads
chosen-heads query chosen from =
    let of = IsOfJournal-selected query chosen from in
    subst AreHeads (sym of.heads) (AreHeads-journal of.journal of.legal)
