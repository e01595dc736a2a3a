-- The vouchers of a sheet, one after another, and where an import ends.
use Rattle.std.proofs.Common.{◌≡◌, ℕ, ◌+◌, ◌<◌, List, [], ◌∷◌, ◌++◌, length, take, drop, get_or, Option, inl, inr, refl, sym, ap, ◌∙◌, subst, append_assoc, arith}
use Rattle.std.proofs.lemmas.List.{append-nil, take-append-drop}
use Rattle.std.proofs.lemmas.Grind.{take_at_read}
use Rattle.std.proofs.KnownBytes.{Appends-nil, Appends-trans}
use Rattle.std.specs.Io.KnownBytes.{Appends}
use Rattle.stock_io.specs.Counts.{Rose, NeverFalls}
use Rattle.stock_model.specs.History.{IsLegal}
use Rattle.repost_worker.specs.Paces.{Pace}
use Rattle.voucher_import.specs.declared.sheet.SheetVoucher.{SheetVoucher}
use Rattle.stock_ends.specs.declared.end.End.{End}
use Rattle.stock_ends.specs.declared.end.End.TheVariants.{Done, NoMemory, ReadFailed, WriteFailed, TooLong, StoreFailed, ListenFailed, BadSheet, Damaged}
use Rattle.stock_batch.specs.Answers.{answer_line}
use Rattle.stock_import.specs.Vouchers.{IsImported}
use Rattle.stock_import.specs.Runs.{AreImported, IsRun, IsUnderWay, TakesVoucher, Stops, Finishes}

-- one more voucher is imported
pub imported-more : (old mid new : Pace) (done : List SheetVoucher) (voucher : SheetVoucher) (text own : List ℕ)
    → AreImported old done text mid → IsImported mid voucher own new → AreImported old (done ++ voucher ∷ []) (text ++ own) new
imported-more old mid new [] voucher text own (none, same) imported = (
  new,
  own,
  [],
  ap (λ (t : List ℕ). t ++ own) none ∙ sym (append-nil own),
  subst (λ (p : Pace). IsImported p voucher own new) same imported,
  (refl, refl),
)
imported-more old mid new (first ∷ rest) voucher text own (next, its, others, is, one, then) imported = (
  next,
  its,
  others ++ own,
  ap (λ (t : List ℕ). t ++ own) is ∙ append_assoc its others own,
  one,
  imported-more next mid new rest voucher others own then imported,
)

-- a front of the vouchers grows by the next
pub front-next : (vouchers : List SheetVoucher) (i : ℕ) (voucher : SheetVoucher) → i < length vouchers → voucher ≡ get_or vouchers i voucher
    → take (i + 1) vouchers ≡ take i vouchers ++ voucher ∷ []
front-next vouchers i voucher within is =
    (take_at_read vouchers i voucher within).1 ∙ ap (λ (v : SheetVoucher). take i vouchers ++ v ∷ []) (sym is)

-- the next voucher and those behind it come after the front
pub front-rest : (vouchers : List SheetVoucher) (i : ℕ) (voucher : SheetVoucher) → i < length vouchers → voucher ≡ get_or vouchers i voucher
    → vouchers ≡ take i vouchers ++ voucher ∷ drop (i + 1) vouchers
front-rest vouchers i voucher within is =
    sym (take-append-drop (i + 1) vouchers)
    ∙ ap (λ (front : List SheetVoucher). front ++ drop (i + 1) vouchers) (front-next vouchers i voucher within is)
    ∙ append_assoc (take i vouchers) (voucher ∷ []) (drop (i + 1) vouchers)

-- a fault that is counted late
rose-later : (before now after : ℕ) → now ≡ before → Rose now after → Rose before after
rose-later before now after kept rose = subst (λ (n : ℕ). Rose n after) kept rose

module _ {O : Type 0} (written : O → Option (List ℕ)) (faults : O → ℕ) where
  -- nothing was imported yet
  pub under_way-start : (output : O) (first : Pace) → IsLegal first.history → IsUnderWay written faults output output first first []
  under_way-start output first legal =
      record { text = []; wrote = Appends-nil (written output); imported = (refl, refl); legal = legal; no_fault = refl }

  -- one more was
  pub under_way-more : (before now after : O) (first mid new : Pace) (done : List SheetVoucher) (voucher : SheetVoucher)
      → IsUnderWay written faults before now first mid done → TakesVoucher written now after mid voucher new → IsLegal new.history
      → faults after ≡ faults now → IsUnderWay written faults before after first new (done ++ voucher ∷ [])
  under_way-more before now after first mid new done voucher so_far takes legal kept =
      record {
        text = so_far.text ++ takes.text;
        wrote = Appends-trans (written before) (written now) (written after) so_far.text takes.text so_far.wrote takes.wrote;
        imported = imported-more first mid new done voucher so_far.text takes.text so_far.imported takes.imported;
        legal = legal;
        no_fault = kept ∙ so_far.no_fault;
      }

  -- memory or the output ends the import with one voucher
  pub run-stopped : (end : End) (before now after : O) (first mid new : Pace) (vouchers done rest : List SheetVoucher) (voucher : SheetVoucher)
      → vouchers ≡ done ++ voucher ∷ rest → IsUnderWay written faults before now first mid done
      → Stops written faults now after mid voucher new end → NeverFalls (faults now) (faults after)
      → IsRun written faults before after first new vouchers end
  run-stopped NoMemory before now after first mid new vouchers done rest voucher are so_far (cut, same) falls =
      record {
        text = so_far.text;
        wrote = subst (λ (o : O). Appends (written before) (written o) so_far.text) (sym same) so_far.wrote;
        says = record { done = done; rest = voucher ∷ rest; mid = mid; are = are; imported = so_far.imported; ends = cut };
        cause = ap faults same ∙ so_far.no_fault;
        never_falls = omega (arith, ap faults same, so_far.no_fault);
      }
  run-stopped WriteFailed before now after first mid new vouchers done rest voucher are so_far (front, behind, imported, wrote, rose, legal) falls =
      record {
        text = so_far.text ++ front;
        wrote = Appends-trans (written before) (written now) (written after) so_far.text front so_far.wrote wrote;
        says = (
          behind,
          inl (record {
            done = done ++ voucher ∷ [];
            rest = rest;
            are = are ∙ sym (append_assoc done (voucher ∷ []) rest);
            imported =
                subst (λ (text : List ℕ). AreImported first (done ++ voucher ∷ []) text new) (sym (append_assoc so_far.text front behind))
                (imported-more first mid new done voucher so_far.text (front ++ behind) so_far.imported imported);
            legal = legal;
          }),
        );
        cause = rose-later (faults before) (faults now) (faults after) so_far.no_fault rose;
        never_falls = omega (arith, so_far.no_fault, falls);
      }
  run-stopped Done before now after first mid new vouchers done rest voucher are so_far stops falls = absurd stops
  run-stopped ReadFailed before now after first mid new vouchers done rest voucher are so_far stops falls = absurd stops
  run-stopped TooLong before now after first mid new vouchers done rest voucher are so_far stops falls = absurd stops
  run-stopped StoreFailed before now after first mid new vouchers done rest voucher are so_far stops falls = absurd stops
  run-stopped ListenFailed before now after first mid new vouchers done rest voucher are so_far stops falls = absurd stops
  run-stopped BadSheet before now after first mid new vouchers done rest voucher are so_far stops falls = absurd stops
  run-stopped (Damaged damage) before now after first mid new vouchers done rest voucher are so_far stops falls = absurd stops

  -- all vouchers were imported, and the ledger settled
  pub run-finished : (end : End) (before now after : O) (first mid new : Pace) (vouchers : List SheetVoucher)
      → IsUnderWay written faults before now first mid vouchers → Finishes written faults now after mid new end
      → NeverFalls (faults now) (faults after) → IsRun written faults before after first new vouchers end
  run-finished Done before now after first mid new vouchers so_far (answer, settled, wrote, kept, legal) falls =
      record {
        text = so_far.text ++ answer_line answer;
        wrote = Appends-trans (written before) (written now) (written after) so_far.text (answer_line answer) so_far.wrote wrote;
        says = record {
          mid = mid;
          lines = so_far.text;
          answer = answer;
          imported = so_far.imported;
          settled = settled;
          text_is = refl;
          legal = legal;
        };
        cause = kept ∙ so_far.no_fault;
        never_falls = omega (arith, kept, so_far.no_fault);
      }
  run-finished NoMemory before now after first mid new vouchers so_far (cut, same) falls =
      record {
        text = so_far.text;
        wrote = subst (λ (o : O). Appends (written before) (written o) so_far.text) (sym same) so_far.wrote;
        says = record {
          done = vouchers;
          rest = [];
          mid = mid;
          are = sym (append-nil vouchers);
          imported = so_far.imported;
          ends = cut;
        };
        cause = ap faults same ∙ so_far.no_fault;
        never_falls = omega (arith, ap faults same, so_far.no_fault);
      }
  run-finished WriteFailed before now after first mid new vouchers so_far (answer, front, behind, settled, is, wrote, rose, legal) falls =
      record {
        text = so_far.text ++ front;
        wrote = Appends-trans (written before) (written now) (written after) so_far.text front so_far.wrote wrote;
        says = (
          behind,
          inr (record {
            mid = mid;
            lines = so_far.text;
            answer = answer;
            imported = so_far.imported;
            settled = settled;
            text_is = append_assoc so_far.text front behind ∙ ap (λ (t : List ℕ). so_far.text ++ t) is;
            legal = legal;
          }),
        );
        cause = rose-later (faults before) (faults now) (faults after) so_far.no_fault rose;
        never_falls = omega (arith, so_far.no_fault, falls);
      }
  run-finished ReadFailed before now after first mid new vouchers so_far stops falls = absurd stops
  run-finished TooLong before now after first mid new vouchers so_far stops falls = absurd stops
  run-finished StoreFailed before now after first mid new vouchers so_far stops falls = absurd stops
  run-finished ListenFailed before now after first mid new vouchers so_far stops falls = absurd stops
  run-finished BadSheet before now after first mid new vouchers so_far stops falls = absurd stops
  run-finished (Damaged damage) before now after first mid new vouchers so_far stops falls = absurd stops
