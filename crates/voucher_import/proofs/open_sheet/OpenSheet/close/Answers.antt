-- The open voucher is read, or tells its first wrong row.
use Rattle.std.proofs.Common.{◌≡◌, ◌<◌, ◌+◌, ℕ, List, [], ◌∷◌, Err, length, false, refl, sym, ap, subst, ◌∙◌, arith}
use Rattle.std.specs.Prelude.{◌==◌, vec_len}
use Rattle.std.proofs.lemmas.Bool.{false≢true}
use Rattle.std.proofs.lemmas.Bool.Decides.{Decides-eqb}
use Rattle.std.proofs.lemmas.Result.{err_from_is_err_and}
use Rattle.csv.specs.Records.{Row as ByteRow}
use Rattle.voucher_import.specs.Reading.{IsOpen, ReadsRows, rows_in}
use Rattle.voucher_import.specs.SheetVouchers.{IsVoucher}
use Rattle.voucher_import.proofs.OpenSheets.{closes, closes_badly}
use Rattle.voucher_import.proofs.open_sheet.OpenSheet.close.Goals as goal

none : {A : Type 0} (xs : List A) → length xs ≡ 0 → xs ≡ []
none [] e = refl
none (x ∷ xs) e = absurd (omega arith)

taken : {A : Type 0} (xs : List A) (n : ℕ) → n ≡ length xs → (n == 0) ≡ false → 0 < length xs
taken [] n size some = absurd (false≢true (sym some ∙ (Decides-eqb n 0).1 size))
taken (x ∷ xs) n size some = omega arith

pub returns-then-is_empty : goal.returns-then-is_empty
returns-then-is_empty c =
    let empty : length c.args.self.now.run.items ≡ 0 = sym c.args.self.now.run.ok.0 ∙ (Decides-eqb _ 0).0 (sym c.is_empty.ensures ∙ c.if-is_empty.true) in
    record {
      step = λ rows rest is_open next. is_open;
      empty = none c.args.self.now.run.items empty;
      count = omega (arith, empty);
    }

pub returns-in_err-voucher : goal.returns-in_err-voucher
returns-in_err-voucher c =
    let p = err_from_is_err_and c.from_residual.result c.from_residual.ensures.1 in
    let some = taken c.args.self.now.run.items (vec_len c.args.self.now.run) c.args.self.now.run.ok.0 (sym c.is_empty.ensures ∙ c.if-is_empty.false) in
    let rows_read = rows_in c.args.self.now.run.items in
    let P : List ByteRow → Type 0 = λ run. ReadsRows (rows_in run) c.args.self.now.before (IsVoucher (rows_in run)) (Err c.in_err-voucher.field-0.0) in
    let read : P c.args.self.now.run.items = subst P c.as_slice.ensures.value c.in_err-voucher.ensures.outcome in
    rw (p.1, p.2) (record {
      step = λ rows rest is_open next. closes_badly (IsVoucher rows_read) (λ (u : Unit {0}). IsOpen rows rest c.args.self.now) rows rest c.args.self.now c.in_err-voucher.field-0.0 is_open next some read;
      empty = tt;
      count = tt;
    })

pub returns : goal.returns
returns c =
    let some = taken c.args.self.now.run.items (vec_len c.args.self.now.run) c.args.self.now.run.ok.0 (sym c.is_empty.ensures ∙ c.if-is_empty.false) in
    let read = rw c.as_slice.ensures.value at c.in_ok-voucher.ensures.outcome in
    let size : c.len.result ≡ length c.args.self.now.run.items = c.len.ensures ∙ c.args.self.now.run.ok.0 in
    record {
      step = λ rows rest is_open next. closes rows rest c.args.self.now _ c.in_ok-voucher.voucher is_open next some read.0 read.1 c.in_ok-voucher.ensures.limits c.in_ok-push.ensures.added c.clear.ensures.items (ap (λ n. c.args.self.now.before + n) size);
      empty = c.clear.ensures.items;
      count = ap (λ n. c.args.self.now.before + n) size;
    }
