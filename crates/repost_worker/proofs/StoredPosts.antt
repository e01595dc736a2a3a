-- A stored record that is posted as the next one, and why one is not.
use Rattle.std.proofs.Common.{◌≡◌, ◌+◌, ◌<◌, List, [], ◌∷◌, ◌++◌, length, Some, slice_get, inl, inr, refl, sym, ap, ◌∙◌, subst}
use Rattle.std.proofs.lemmas.List.{length_push}
use Rattle.stock_model.specs.History.{records, accepted, covered}
use Rattle.stock_model.specs.declared.deeds.Deed.{Deed}
use Rattle.stock_model.specs.declared.deeds.Deed.TheVariants.{Kept}
use Rattle.stock_model.specs.declared.records.Record.{Record}
use Rattle.stock_laws.proofs.Histories.{records-append, covered_after-append}
use Rattle.stock_keeper.specs.declared.tables.StoredRecord.{StoredRecord}
use Rattle.stock_keeper.specs.declared.tables.Tables.{Tables}
use Rattle.kept_tables.specs.Openings.{AreStored, IsBadRecord}
use Rattle.kept_tables.specs.declared.open_fault.OpenFault.{OpenFault}
use Rattle.kept_tables.proofs.OpeningSteps.{AreStored-more}
use Rattle.repost_worker.specs.Openings.{IsPosted, IsBadNext, IsUnposted}

module _ (old new : List Deed) (kept : StoredRecord) (posted : IsPosted old kept new) where
  records-posted : records new ≡ records old ++ posted.item ∷ []
  records-posted = ap records posted.grows ∙ records-append old (Kept posted.item ∷ [])

  pub accepted-posted : accepted new ≡ accepted old + 1
  accepted-posted = ap length records-posted ∙ length_push (records old) posted.item

  pub covered-posted : covered new ≡ covered old
  covered-posted = ap covered posted.grows ∙ covered_after-append 0 old (Kept posted.item ∷ [])

  -- one more of the stored records is posted
  pub stored-posted : (t : Tables) → AreStored (records old) t → slice_get t.records (accepted old) ≡ Some kept
      → AreStored (records new) t
  stored-posted t are at =
      subst (λ (items : List Record). AreStored items t) (sym records-posted)
      (AreStored-more t (records old) posted.item kept are at posted.is posted.sound)

-- a stored record at this index that is bad is told by its number
pub unposted-bad : (t : Tables) (items : List Record) (kept : StoredRecord) (told : OpenFault) → AreStored items t
    → slice_get t.records (length items) ≡ Some kept → length items < length t.records → IsBadNext items kept told → IsUnposted t told
unposted-bad t items kept told are at within (inl wanting) = inl wanting
unposted-bad t items kept told are at within (inr bad) = inr (
  length items + 1,
  bad.0,
  (items, are, refl, within, λ other there. subst (IsBadRecord items) (one kept other (sym at ∙ there)) bad.1),
)
  where
    one : (a b : StoredRecord) → Some a ≡ Some b → a ≡ b
    one a b same = cc
