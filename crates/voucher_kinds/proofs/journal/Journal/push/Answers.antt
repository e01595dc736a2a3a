-- The master has the new record's item or warehouse too, what it returns is counted, and what it takes back is counted no more.
use Rattle.std.proofs.Common.{◌≡◌, ◌+◌, ◌∷◌, [], ◌++◌, List, length, take, drop, None, Some, refl, ap, sym, ◌∙◌, subst, rules, arith, length-append}
use Rattle.stock_model.specs.declared.records.Record.{Record}
use Rattle.stock_model.specs.Cancelling.{units_gone, names_line_of}
use Rattle.stock_model.specs.Faults.{voucher_fault}
use Rattle.stock_model.specs.Returns.{units_named}
use Rattle.stock_model.specs.VoucherLines.{lines_of}
use Rattle.stock_model.proofs.NoFaults.{NoFaults-from}
use Rattle.voucher_kinds.specs.Heads.{with_made}
use Rattle.voucher_kinds.specs.Journals.{HasNote, noted_with, KeepsFirst}
use Rattle.voucher_kinds.specs.ReturnedUnits.{has_room_at}
use Rattle.voucher_kinds.proofs.At.{last-pushed, whole-of, without-new}
use Rattle.voucher_kinds.proofs.Kept.{made-none, IsJournal-same, IsJournal-push, gone-append, units-fit, HasNote-held, HasRoom-push, HasRoom-kept}
use Rattle.voucher_kinds.proofs.Named.{namers-same, namers-push}
use Rattle.voucher_kinds.proofs.Noted.{length-noted_with}
use Rattle.voucher_kinds.proofs.journal.Journal.push.Goals as goal

pub invariant_of-self : goal.invariant_of-self
invariant_of-self c = (
  IsJournal-same c.self.inside.records.items c.self.inside.records.items c.self.inside.master c.self.inside.master c.self.inside.returned_units c.make_room.new.sums
      c.self.inside.takers.items c.self.inside.takers.items c.self.inside.frozen c.self.invariant.0 refl refl c.make_room.ensures.same c.make_room.ensures.kept refl,
  c.self.invariant.1,
)

pub enter-requires-clause-unmade : goal.enter-requires-clause-unmade
enter-requires-clause-unmade c =
    let none : voucher_fault c.self.inside.records.items c.args.item.what ≡ None = rw c.self.view_is c.requires.sound in
    made-none c.self.inside.records.items c.self.inside.master c.args.item.what c.self.invariant.0.master_is none

pub add_units-requires-clause-room : goal.add_units-requires-clause-room
add_units-requires-clause-room c index =
    let number : c.next-number.result.0 ≡ length c.self.inside.records.items + 1 = c.next-number.ensures ∙ ap (λ records. length records + 1) (sym c.self.view_is) in
    let grows : c.enter.new.records.items ≡ c.self.inside.records.items ++ c.args.item ∷ [] = search rules in
    let last : c.index-records-number.result ≡ c.args.item =
    last-pushed c.self.inside.records.items c.as_slice-records.result.now c.next-number.result.0 c.args.item c.index-records-number.result (c.as_slice-records.ensures.value ∙ grows) number c.index-records-number.is in
    ap (λ (r : Record). has_room_at c.make_room.new.sums (lines_of r.what) index) last ∙ c.in_ok-make_room.ensures.room index

pub add_units-requires-clause-fits : goal.add_units-requires-clause-fits
add_units-requires-clause-fits c target =
    let number : c.next-number.result.0 ≡ length c.self.inside.records.items + 1 = c.next-number.ensures ∙ ap (λ records. length records + 1) (sym c.self.view_is) in
    let grows : c.enter.new.records.items ≡ c.self.inside.records.items ++ c.args.item ∷ [] = search rules in
    let last : c.index-records-number.result ≡ c.args.item =
    last-pushed c.self.inside.records.items c.as_slice-records.result.now c.next-number.result.0 c.args.item c.index-records-number.result (c.as_slice-records.ensures.value ∙ grows) number c.index-records-number.is in
    let none : voucher_fault c.self.inside.records.items c.args.item.what ≡ None = rw c.self.view_is c.requires.sound in
    let fit = units-fit c.self.inside.records.items c.self.inside.master c.self.inside.returned_units c.self.inside.takers.items c.self.inside.frozen c.args.item target c.self.invariant.0 none in
    omega (arith, c.make_room.ensures.same target, fit.0, ap (λ (r : Record). units_named (lines_of r.what) target) last)

pub take_cancelled-requires : goal.take_cancelled-requires
take_cancelled-requires c target =
    let records = c.self.inside.records.items in
    let number : c.next-number.result.0 ≡ length records + 1 = c.next-number.ensures ∙ ap (λ records. length records + 1) (sym c.self.view_is) in
    let grows : c.enter.new.records.items ≡ records ++ c.args.item ∷ [] = search rules in
    let shown : c.as_slice-records.result.now ≡ records ++ c.args.item ∷ [] = c.as_slice-records.ensures.value ∙ grows in
    let last : c.index-records-number.result ≡ c.args.item =
    last-pushed records c.as_slice-records.result.now c.next-number.result.0 c.args.item c.index-records-number.result shown number c.index-records-number.is in
    let none : voucher_fault records c.args.item.what ≡ None = rw c.self.view_is c.requires.sound in
    let fit = units-fit records c.self.inside.master c.self.inside.returned_units c.self.inside.takers.items c.self.inside.frozen c.args.item target c.self.invariant.0 none in
    omega (
      arith,
      c.make_room.ensures.same target,
      c.add_units.ensures.added target,
      fit.1,
      ap (λ (all : List Record). units_gone all c.index-records-number.result.what target) shown,
      ap (λ (r : Record). units_gone (records ++ c.args.item ∷ []) r.what target) last,
    )

pub note-requires : goal.note-requires
note-requires c =
    let records = c.self.inside.records.items in
    let number : c.next-number.result.0 ≡ length records + 1 = c.next-number.ensures ∙ ap (λ records. length records + 1) (sym c.self.view_is) in
    let grows : c.enter.new.records.items ≡ records ++ c.args.item ∷ [] = search rules in
    let last : c.index-records-number.result ≡ c.args.item =
    last-pushed records c.as_slice-records.result.now c.next-number.result.0 c.args.item c.index-records-number.result (c.as_slice-records.ensures.value ∙ grows) number c.index-records-number.is in
    let none : voucher_fault records c.args.item.what ≡ None = rw c.self.view_is c.requires.sound in
    let noted : c.push.new.self.items ≡ c.self.inside.takers.items ++ None ∷ [] = search rules in
    subst (λ (r : Record). HasNote c.as_mut_slice.result.now r.what) (sym last)
    (HasNote-held records c.as_mut_slice.result.now c.args.item.what (NoFaults-from records c.args.item.what none)
    (omega (arith, ap (λ bs. length bs) (c.as_mut_slice.ensures.value ∙ noted), c.self.invariant.0.takers_are.notes, length-append c.self.inside.takers.items (None ∷ []))))

pub invariant_of-self-then-is_err : goal.invariant_of-self-then-is_err
invariant_of-self-then-is_err c =
    let unnoted : c.push.new.self.items ≡ c.self.inside.takers.items = search rules in (
      IsJournal-same c.self.inside.records.items c.self.inside.records.items c.self.inside.master c.self.inside.master c.self.inside.returned_units c.make_room.new.sums
          c.self.inside.takers.items c.push.new.self.items c.self.inside.frozen c.self.invariant.0 refl refl c.make_room.ensures.same c.make_room.ensures.kept unnoted,
      c.self.invariant.1,
    )

pub invariant_of-self-then-is_err-2 : goal.invariant_of-self-then-is_err-2
invariant_of-self-then-is_err-2 c =
    let records = c.self.inside.records.items in
    let takers = c.self.inside.takers.items in
    let number : c.next-number.result.0 ≡ length records + 1 = c.next-number.ensures ∙ ap (λ records. length records + 1) (sym c.self.view_is) in
    let noted : c.push.new.self.items ≡ takers ++ None ∷ [] = search rules in
    let unnamed : c.push-2.new.self.items ≡ c.self.inside.namers.items = search rules in
    let unnoted = c.truncate.ensures.items ∙ without-new takers None c.push.new.self.items c.next-number.result.0 (length records) noted number c.self.invariant.0.takers_are.notes in (
      IsJournal-same records records c.self.inside.master c.self.inside.master c.self.inside.returned_units c.make_room.new.sums
          takers c.truncate.new.self.items c.self.inside.frozen c.self.invariant.0 refl refl c.make_room.ensures.same c.make_room.ensures.kept unnoted,
      namers-same records records c.self.inside.namers.items c.push-2.new.self.items refl unnamed c.self.invariant.1,
    )

pub invariant_of-self-then-is_err-3 : goal.invariant_of-self-then-is_err-3
invariant_of-self-then-is_err-3 c =
    let records = c.self.inside.records.items in
    let takers = c.self.inside.takers.items in
    let namers = c.self.inside.namers.items in
    let number : c.next-number.result.0 ≡ length records + 1 = c.next-number.ensures ∙ ap (λ records. length records + 1) (sym c.self.view_is) in
    let stays : c.enter.new.records.items ≡ records = search rules in
    let unmade : c.enter.new.master ≡ c.self.inside.master = search rules in
    let noted : c.push.new.self.items ≡ takers ++ None ∷ [] = search rules in
    let named : c.push-2.new.self.items ≡ namers ++ None ∷ [] = search rules in
    let unnoted = c.truncate-then-is_err-3.ensures.items ∙ without-new takers None c.push.new.self.items c.next-number.result.0 (length records) noted number c.self.invariant.0.takers_are.notes in
    let unnamed = c.truncate-then-is_err-3-2.ensures.items ∙ without-new namers None c.push-2.new.self.items c.next-number.result.0 (length records) named number c.self.invariant.1.notes in (
      IsJournal-same records c.enter.new.records.items c.self.inside.master c.enter.new.master c.self.inside.returned_units c.make_room.new.sums
          takers c.truncate-then-is_err-3.new.self.items c.self.inside.frozen c.self.invariant.0 stays unmade c.make_room.ensures.same c.make_room.ensures.kept unnoted,
      namers-same records c.enter.new.records.items namers c.truncate-then-is_err-3-2.new.self.items stays unnamed c.self.invariant.1,
    )

pub invariant_of-self-2 : goal.invariant_of-self-2
invariant_of-self-2 c =
    let records = c.self.inside.records.items in
    let takers = c.self.inside.takers.items in
    let namers = c.self.inside.namers.items in
    let item = c.args.item in
    let number : c.next-number.result.0 ≡ length records + 1 = c.next-number.ensures ∙ ap (λ records. length records + 1) (sym c.self.view_is) in
    let grows : c.enter.new.records.items ≡ records ++ item ∷ [] = search rules in
    let adds : c.enter.new.master ≡ with_made c.self.inside.master c.next-number.result.0 item.what = search rules in
    let shown : c.as_slice-records.result.now ≡ records ++ item ∷ [] = c.as_slice-records.ensures.value ∙ grows in
    let last : c.index-records-number.result ≡ item =
    last-pushed records c.as_slice-records.result.now c.next-number.result.0 item c.index-records-number.result shown number c.index-records-number.is in
    let none : voucher_fault records item.what ≡ None = rw c.self.view_is c.requires.sound in
    let noted : c.push.new.self.items ≡ takers ++ None ∷ [] = search rules in
    let length_is : c.push.new.self.len ≡ length c.push.new.self.items = search rules in
    let said : c.note.new.takers ≡ noted_with (takers ++ None ∷ []) item.what (Some c.next-number.result) =
    c.note.ensures ∙ ap (λ (r : Record). noted_with c.as_mut_slice.result.now r.what (Some c.next-number.result)) last
    ∙ ap (λ bs. noted_with bs item.what (Some c.next-number.result)) (c.as_mut_slice.ensures.value ∙ noted) in
    let long : length c.note.new.takers ≡ length c.push.new.self.items =
    ap (λ bs. length bs) said ∙ length-noted_with (takers ++ None ∷ []) item.what (Some c.next-number.result) ∙ sym (ap (λ bs. length bs) noted) in
    let named : c.push-2.new.self.items ≡ namers ++ None ∷ [] = search rules in
    let named_length : c.push-2.new.self.len ≡ length c.push-2.new.self.items = search rules in
    let given : c.as_mut_slice-2.result.now ≡ namers ++ None ∷ [] = c.as_mut_slice-2.ensures.value ∙ named in
    let named_long : length c.note-2.new.namers ≡ length c.push-2.new.self.items = c.note-2.ensures.long ∙ ap (λ bs. length bs) c.as_mut_slice-2.ensures.value in
    let all : take c.push-2.new.self.len (c.note-2.new.namers ++ drop (length c.note-2.new.namers) c.push-2.new.self.items) ≡ c.note-2.new.namers =
    whole-of c.push-2.new.self.len c.note-2.new.namers c.push-2.new.self.items named_long named_length in (
      IsJournal-push records c.enter.new.records.items c.self.inside.master c.enter.new.master c.self.inside.returned_units c.take_cancelled.new.sums takers
          (take c.push.new.self.len (c.note.new.takers ++ drop (length c.note.new.takers) c.push.new.self.items)) c.self.inside.frozen c.frozen_with-frozen.result item c.next-number.result
          c.self.invariant.0 (rw c.self.view_is c.requires.room) number grows adds none
          (λ target.
          omega (
            arith,
            c.take_cancelled.ensures.taken target,
            c.add_units.ensures.added target,
            c.make_room.ensures.same target,
            ap (λ (r : Record). units_named (lines_of r.what) target) last,
            ap (λ (all : List Record). units_gone all c.index-records-number.result.what target) shown,
            ap (λ (r : Record). units_gone (records ++ item ∷ []) r.what target) last,
            gone-append records (item ∷ []) item.what target (NoFaults-from records item.what none),
          ))
          (HasRoom-kept (records ++ item ∷ []) c.make_room.new.sums c.take_cancelled.new.sums
          (λ target room. c.take_cancelled.ensures.kept target (c.add_units.ensures.kept target room))
          (HasRoom-push records item c.make_room.new.sums (HasRoom-kept records c.self.inside.returned_units c.make_room.new.sums c.make_room.ensures.kept c.self.invariant.0.room) c.in_ok-make_room.ensures.room))
          (whole-of c.push.new.self.len c.note.new.takers c.push.new.self.items long length_is ∙ said)
          c.frozen_with-frozen.ensures,
      namers-same c.enter.new.records.items c.enter.new.records.items c.note-2.new.namers _ refl all
          (namers-push records c.enter.new.records.items item namers c.note-2.new.namers c.next-number.result grows (NoFaults-from records item.what none) number
          (c.note-2.ensures.long ∙ ap (λ bs. length bs) given)
          (subst (λ bs. KeepsFirst bs c.note-2.new.namers) given c.note-2.ensures.kept)
          (λ n one held names.
          c.note-2.ensures.named n one (omega (arith, held, ap (λ bs. length bs) given)) (ap (λ (r : Record). names_line_of n r.what) last ∙ names))
          c.self.invariant.1),
    )
