-- The master loses what the last record made, what it returns is counted no more, what it took back is counted again, and what it closed is closed no more.
use Rattle.std.proofs.Common.{◌≡◌, ℕ, ◌-◌, None, List, ◌∷◌, [], ◌++◌, length, take, sym, ap, ◌∙◌, subst, rules, arith, length-append}
use Rattle.stock_model.specs.declared.records.Record.{Record}
use Rattle.stock_model.specs.Cancelling.{units_gone}
use Rattle.stock_model.specs.Freezing.{closed_by, later_if_any, frozen}
use Rattle.voucher_kinds.specs.Heads.{without_last}
use Rattle.voucher_kinds.specs.Journals.{HasNote, noted_with}
use Rattle.voucher_kinds.specs.declared.heads.Made.{Made}
use Rattle.voucher_kinds.proofs.Named.{namers-pop}
use Rattle.voucher_kinds.proofs.Noted.{length-noted_with}
use Rattle.voucher_kinds.proofs.At.{journal-last, whole-of}
use Rattle.voucher_kinds.proofs.Kept.{last-fits, last-closes, last-noted, IsJournal-pop}
use Rattle.voucher_kinds.proofs.journal.Journal.pop.Goals as goal

pub put_cancelled-requires-clause-fits : goal.put_cancelled-requires-clause-fits
put_cancelled-requires-clause-fits c target =
    let records = c.self.inside.records.items in
    let last = c.index-records-index.result in
    let ends =
    journal-last records c.as_slice-records.result.now c.len-index.result last (rw c.self.view_is c.requires) c.as_slice-records.ensures.value (c.len-index.ensures ∙ sym c.as_slice-records.ensures.len) c.index-records-index.is in
    let fits = last-fits records (take (c.len-index.result - 1) records) last c.self.inside.master c.self.inside.returned_units c.self.inside.takers.items c.self.inside.frozen target ends c.self.invariant.0 in
    omega (arith, fits.0, ap (λ (all : List Record). units_gone all last.what target) c.as_slice-records.ensures.value)

pub take_units-requires : goal.take_units-requires
take_units-requires c target =
    let records = c.self.inside.records.items in
    let last = c.index-records-index.result in
    let ends =
    journal-last records c.as_slice-records.result.now c.len-index.result last (rw c.self.view_is c.requires) c.as_slice-records.ensures.value (c.len-index.ensures ∙ sym c.as_slice-records.ensures.len) c.index-records-index.is in
    let fits = last-fits records (take (c.len-index.result - 1) records) last c.self.inside.master c.self.inside.returned_units c.self.inside.takers.items c.self.inside.frozen target ends c.self.invariant.0 in
    omega (arith, fits.1, c.put_cancelled.ensures.added target, ap (λ (all : List Record). units_gone all last.what target) c.as_slice-records.ensures.value)

pub frozen_without-self-inside-requires : goal.frozen_without-self-inside-requires
frozen_without-self-inside-requires c =
    let records = c.self.inside.records.items in
    let last = c.index-records-index.result in
    let ends =
    journal-last records c.as_slice-records.result.now c.len-index.result last (rw c.self.view_is c.requires) c.as_slice-records.ensures.value (c.len-index.ensures ∙ sym c.as_slice-records.ensures.len) c.index-records-index.is in
    last-closes records (take (c.len-index.result - 1) records) last c.self.inside.master c.self.inside.returned_units c.self.inside.takers.items c.self.inside.frozen ends c.self.invariant.0
    ∙ ap (λ (all : List Record). later_if_any (frozen (take (c.len-index.result - 1) all)) (closed_by last.what)) (sym c.as_slice-records.ensures.value)

pub note-requires : goal.note-requires
note-requires c =
    let records = c.self.inside.records.items in
    let last = c.index-records-index.result in
    let ends =
    journal-last records c.as_slice-records.result.now c.len-index.result last (rw c.self.view_is c.requires) c.as_slice-records.ensures.value (c.len-index.ensures ∙ sym c.as_slice-records.ensures.len) c.index-records-index.is in
    subst (λ bs. HasNote bs last.what) (sym c.as_mut_slice.ensures.value)
    (last-noted records (take (c.len-index.result - 1) records) last c.self.inside.master c.self.inside.returned_units c.self.inside.takers.items c.self.inside.frozen ends c.self.invariant.0)

pub invariant_of-self : goal.invariant_of-self
invariant_of-self c =
    let records = c.self.inside.records.items in
    let takers = c.self.inside.takers.items in
    let index = c.len-index.result - 1 in
    let last = c.index-records-index.result in
    let ends =
    journal-last records c.as_slice-records.result.now c.len-index.result last (rw c.self.view_is c.requires) c.as_slice-records.ensures.value (c.len-index.ensures ∙ sym c.as_slice-records.ensures.len) c.index-records-index.is in
    let front : frozen (take index c.as_slice-records.result.now) ≡ frozen c.truncate-3.new.self.items =
    ap (λ (all : List Record). frozen (take index all)) c.as_slice-records.ensures.value ∙ ap frozen (sym c.truncate-3.ensures.items) in
    let length_is : c.self.inside.takers.len ≡ length takers = search rules in
    let said : c.note.new.takers ≡ noted_with takers last.what None = c.note.ensures ∙ ap (λ bs. noted_with bs last.what None) c.as_mut_slice.ensures.value in
    let long : length c.note.new.takers ≡ length takers = ap (λ bs. length bs) said ∙ length-noted_with takers last.what None in
    let count : index ≡ length c.truncate-3.new.self.items =
    omega (
      arith,
      ap (λ (all : List Record). length all) ends,
      length-append (take index records) (last ∷ []),
      ap (λ (all : List Record). length all) c.truncate-3.ensures.items,
      c.len-index.ensures,
    ) in (
      IsJournal-pop records c.truncate-3.new.self.items last c.self.inside.master c.take_away.new.master c.self.inside.returned_units c.take_units.new.sums
          takers c.truncate.new.self.items c.self.inside.frozen c.frozen_without-self-inside.result
          (ends ∙ ap (λ (first : List Record). first ++ last ∷ []) (sym c.truncate-3.ensures.items)) c.self.invariant.0
          (c.take_away.ensures ∙ ap (λ (made : Made). without_last c.self.inside.master made) c.made_by.ensures)
          (λ target.
          omega (
            arith,
            c.take_units.ensures.taken target,
            c.put_cancelled.ensures.added target,
            ap (λ (all : List Record). units_gone all last.what target) c.as_slice-records.ensures.value,
          ))
          (λ target room. c.take_units.ensures.kept target (c.put_cancelled.ensures.kept target room))
          (c.truncate.ensures.items
          ∙ ap (take index) (whole-of c.self.inside.takers.len c.note.new.takers takers long length_is ∙ said)
          ∙ ap (λ (k : ℕ). take k (noted_with takers last.what None)) count)
          (c.frozen_without-self-inside.ensures ∙ front),
      namers-pop records c.truncate-3.new.self.items last c.self.inside.namers.items c.truncate-2.new.self.items
          (ends ∙ ap (λ (first : List Record). first ++ last ∷ []) (sym c.truncate-3.ensures.items))
          (c.truncate-2.ensures.items ∙ ap (λ (k : ℕ). take k c.self.inside.namers.items) count) c.self.invariant.1,
    )
