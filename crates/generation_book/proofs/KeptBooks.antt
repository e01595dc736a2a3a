-- The keeper of a book after an append or a publication, whether it was done or refused.
use Rattle.std.proofs.Common.{◌≡◌, ◌<◌, ◌+◌, ℕ, List, [], ◌∷◌, ◌++◌, inl, inr, ap, ◌∙◌, take}
use Rattle.stock_nums.specs.declared.entry.Row.{Row}
use Rattle.stock_nums.specs.declared.numbers.RecordNo.{RecordNo}
use Rattle.stock_nums.specs.declared.place.Spot.{Spot}
use Rattle.stock_model.specs.History.{records, accepted, covered, IsLegal}
use Rattle.stock_model.specs.declared.deeds.Deed.{Deed}
use Rattle.stock_model.specs.declared.deeds.Deed.TheVariants.{Kept, Published}
use Rattle.stock_model.specs.declared.records.Record.{Record}
use Rattle.stock_keeper.specs.Changed.{appended, published}
use Rattle.stock_keeper.specs.Keeping.{Within, Makes, MayMake}
use Rattle.stock_keeper.specs.declared.changes.Changes.{Changes}
use Rattle.stock_keeper.specs.declared.tables.Tables.{Tables}
use Rattle.generation_book.specs.Handed.{IsHanded, AreHanded}
use Rattle.repost_fetch.specs.Changes.{AreChanges}
use Rattle.voucher_json.specs.RecordTexts.{record_text}
use Rattle.kept_tables.specs.Kept.{IsKept}
use Rattle.kept_tables.specs.TablesOf.{tables_of, changes_of}
use Rattle.kept_tables.proofs.Keeping.{IsKept-done, IsKept-refused, IsKept-nothing-done, IsKept-nothing-refused}
use Rattle.kept_tables.proofs.KeptRecords.{tables_of-kept}
use Rattle.kept_tables.proofs.Revalued.{tables_of-published}

module _ (history tried : List Deed) (tells may_leave tells' may_leave' : Tables → Type 0) (kept : IsKept tells may_leave history tried) where
  module _ (n : RecordNo) (changed : List Row) (spots : List Spot) (changes : Changes) (more : covered history < n.0)
      (are : AreChanges (take n.0 (records history)) (covered history) changed spots) where
    published-is : changes ≡ changes_of changed spots → published n changes (tables_of history) ≡ tables_of (history ++ Published n ∷ [])
    published-is is = ap (λ (c : Changes). published n c (tables_of history)) is ∙ tables_of-published history n changed spots more are

    pub kept-published : AreHanded tells may_leave changed spots changes → Makes (published n changes) tells tells' → Within tells' may_leave'
        → IsKept tells' may_leave' (history ++ Published n ∷ []) []
    kept-published (inl nothing) makes durable =
        IsKept-nothing-done (published n changes) tells may_leave nothing.0 nothing.1 tells' may_leave' makes durable (history ++ Published n ∷ []) []
    kept-published (inr is) makes durable =
        IsKept-done history tried (Published n) (published n changes) (published-is is) tells may_leave kept tells' may_leave' makes durable

    pub kept-unpublished : AreHanded tells may_leave changed spots changes → IsLegal (history ++ Published n ∷ []) → Within tells tells'
        → MayMake (published n changes) tells may_leave may_leave' → IsKept tells' may_leave' history (tried ++ Published n ∷ [])
    kept-unpublished (inl nothing) longer same may_make =
        IsKept-nothing-refused (published n changes) tells may_leave nothing.0 nothing.1 tells' may_leave' same may_make history
        (tried ++ Published n ∷ [])
    kept-unpublished (inr is) longer same may_make =
        IsKept-refused history tried (Published n) (published n changes) (published-is is) tells may_leave kept tells' may_leave' longer same may_make

  module _ (n : RecordNo) (item : Record) (text : List ℕ) (next : n.0 ≡ accepted history + 1) (legal : IsLegal history) where
    appended-is : text ≡ record_text item → appended n text (tables_of history) ≡ tables_of (history ++ Kept item ∷ [])
    appended-is is =
        ap (λ (m : ℕ). appended (record { 0 = m }) text (tables_of history)) next
        ∙ ap (λ (body : List ℕ). appended (record { 0 = accepted history + 1 }) body (tables_of history)) is ∙ tables_of-kept history item legal

    pub kept-appended : IsHanded tells may_leave item text → Makes (appended n text) tells tells' → Within tells' may_leave'
        → IsKept tells' may_leave' (history ++ Kept item ∷ []) []
    kept-appended (inl nothing) makes durable =
        IsKept-nothing-done (appended n text) tells may_leave nothing.0 nothing.1 tells' may_leave' makes durable (history ++ Kept item ∷ []) []
    kept-appended (inr is) makes durable =
        IsKept-done history tried (Kept item) (appended n text) (appended-is is) tells may_leave kept tells' may_leave' makes durable

    pub kept-unappended : IsHanded tells may_leave item text → IsLegal (history ++ Kept item ∷ []) → Within tells tells'
        → MayMake (appended n text) tells may_leave may_leave' → IsKept tells' may_leave' history (tried ++ Kept item ∷ [])
    kept-unappended (inl nothing) longer same may_make =
        IsKept-nothing-refused (appended n text) tells may_leave nothing.0 nothing.1 tells' may_leave' same may_make history
        (tried ++ Kept item ∷ [])
    kept-unappended (inr is) longer same may_make =
        IsKept-refused history tried (Kept item) (appended n text) (appended-is is) tells may_leave kept tells' may_leave' longer same may_make
