-- The movements of a journal: which are of old records, and that the posting line has them.
use Rattle.std.proofs.Common.{◌≡◌, ℕ, ◌≤◌, true, List, [], ◌∷◌, ◌++◌, length, inl, inr, subst, arith, Contains, ◌⊎◌}
use Rattle.std.proofs.lemmas.Bool.Decides.{nat_tests}
use Rattle.std.proofs.lemmas.List.Sorted.{IsPermutation-sym, Contains-permutation}
use Rattle.stock_nums.specs.declared.cause.Cause.{Cause}
use Rattle.stock_nums.specs.declared.cause.Cause.TheVariants.{Receipt, Issue, TransferLeaves, TransferEnters, CustomerReturn, SupplierReturn}
use Rattle.stock_nums.specs.declared.entry.Entry.{Entry}
use Rattle.stock_model.specs.Entries.{all_entries}
use Rattle.stock_model.specs.Journals.{AreSound}
use Rattle.stock_model.specs.PostingOrder.{posting_line}
use Rattle.stock_model.specs.declared.records.Record.{Record}
use Rattle.stock_model.proofs.Pairwise.{Contains-cases, Contains-first, Contains-later}
use Rattle.stock_laws.proofs.EntryRecords.{KnowsTarget, IsOfRecord}
use Rattle.stock_laws.proofs.KnownEntries.{entries-known}
use Rattle.stock_laws.proofs.PostingLine.{IsPermutation-posting_line}
use Rattle.stock_laws.proofs.RecordsAt.{what_at-within}
use Rattle.repost_laws.specs.Builds.{IsOfOldLine}
use Rattle.repost_laws.specs.Touched.{is_old}
use Rattle.repost_laws.proofs.Spreading.{Each-Contains}

-- an element of two lists
pub Contains-parts : (xs ys : List Entry) (e : Entry) → Contains (xs ++ ys) e → Contains xs e ⊎ Contains ys e
Contains-parts [] ys e held = inr held
Contains-parts (x ∷ xs) ys e held =
    elim (Contains-cases x (xs ++ ys) e held) [
      | inl same ↦ inl (subst (Contains (x ∷ xs)) same (Contains-first x xs))
      | inr later ↦ elim (Contains-parts xs ys e later) [
        | inl own ↦ inl (Contains-later x xs e own)
        | inr other ↦ inr other
      ]
    ]

pub Contains-front : (xs ys : List Entry) (e : Entry) → Contains xs e → Contains (xs ++ ys) e
Contains-front [] ys e held = absurd (omega (arith, held.1))
Contains-front (x ∷ xs) ys e held =
    elim (Contains-cases x xs e held) [
      | inl same ↦ subst (Contains (x ∷ xs ++ ys)) same (Contains-first x (xs ++ ys))
      | inr later ↦ Contains-later x (xs ++ ys) e (Contains-front xs ys e later)
    ]

-- the posting line has the movements of the journal
pub of_line : (journal : List Record) (e : Entry) → Contains (posting_line journal) e → Contains (all_entries journal) e
of_line journal e held = Contains-permutation (posting_line journal) (all_entries journal) e
    (IsPermutation-sym (all_entries journal) (posting_line journal) (IsPermutation-posting_line journal)) held

pub in_line : (journal : List Record) (e : Entry) → Contains (all_entries journal) e → Contains (posting_line journal) e
in_line journal e held = Contains-permutation (all_entries journal) (posting_line journal) e
    (IsPermutation-posting_line journal) held

pub known-in_line : (journal : List Record) (e : Entry) → AreSound journal → Contains (posting_line journal) e
    → IsOfRecord journal e
known-in_line journal e sound held = Each-Contains (IsOfRecord journal) (all_entries journal) e (entries-known journal sound)
    (of_line journal e held)

pub old-number : (n : ℕ) (e : Entry) → is_old n e ≡ true → e.place.voucher.0 ≤ n
old-number n e is = grind (arith, nat_tests)

pub is_old-from : (n : ℕ) (e : Entry) → e.place.voucher.0 ≤ n → is_old n e ≡ true
is_old-from n e few = grind (arith, nat_tests)

-- each movement of a journal is of one of its records
pub in_line-old : (journal : List Record) (e : Entry) → AreSound journal → Contains (posting_line journal) e
    → is_old (length journal) e ≡ true
in_line-old journal e sound held =
    let known = known-in_line journal e sound held in
    is_old-from (length journal) e (what_at-within journal e.place.voucher.0 known.what known.held)

-- what an old movement returns is of a line of an old record
pub old_line : (journal : List Record) (n : ℕ) (e : Entry) (cause : Cause) → KnowsTarget journal e cause → e.place.voucher.0 ≤ n
    → IsOfOldLine n cause
old_line journal n e (Receipt amount) knows few = tt
old_line journal n e (Issue sold) knows few = tt
old_line journal n e TransferLeaves knows few = tt
old_line journal n e TransferEnters knows few = tt
old_line journal n e (CustomerReturn target issued) knows few = omega (arith, knows.earlier, few)
old_line journal n e (SupplierReturn target amount received) knows few = tt
