-- A row goes on with the open voucher, or closes it and begins the next.
use Rattle.std.proofs.Common.{◌≡◌, ◌+◌, [], ◌∷◌, true, length, refl, sym, ap, ◌∙◌, rules, arith}
use Rattle.std.specs.Result.{is_ok}
use Rattle.std.proofs.lemmas.Bool.{false≢true}
use Rattle.std.proofs.lemmas.List.{length_push}
use Rattle.std.proofs.lemmas.List.Elements.{All-nil}
use Rattle.std.proofs.lemmas.Result.{err_from_is_err_and}
use Rattle.csv.specs.Records.{fields_of}
use Rattle.voucher_import.specs.Reading.{IsOpen, rows_in}
use Rattle.voucher_import.specs.Rows.{voucher_of}
use Rattle.voucher_import.proofs.OpenSheets.{is_next, named, pushes, same_fault}
use Rattle.voucher_import.proofs.open_sheet.OpenSheet.add.Goals.{then-not-goes_on+in_ok-close, else-not-goes_on}
use Rattle.voucher_import.proofs.open_sheet.OpenSheet.add.Goals as goal

pub returns-in_err-close-clause-step : goal.returns-in_err-close-clause-step
returns-in_err-close-clause-step c rows rest is_open =
    let p = err_from_is_err_and c.from_residual.result c.from_residual.ensures.1 in
    let row = fields_of c.args.row in
    let next = is_next is_open.name (rows_in c.args.self.now.run.items) row rest is_open.one (λ one. false≢true (sym c.if-not-goes_on.true ∙ c.goes_on.ensures.1 one)) in
    rw (p.1, p.2) (same_fault (λ (u : Unit {0}). IsOpen rows (row ∷ rest) c.close.new.self) (λ (u : Unit {0}). IsOpen rows rest c.close.new.self) rows c.in_err-close.field-0.0 (c.in_err-close.ensures.step rows (row ∷ rest) is_open next))

pub returns : goal.returns
returns c =
    let good : is_ok c.push.result ≡ true = search rules in
    let pushed = rw good at c.push.ensures.items in
    elim c.if-not-goes_on.branch [
      | then-not-goes_on+in_ok-close w ↦
          let row = fields_of c.args.row in
          let done : c.if-not-goes_on.self.run.items ≡ [] = rw w.self-is w.in_ok-close.ensures.empty in
          let before : c.if-not-goes_on.self.before ≡ c.args.self.now.before + length c.args.self.now.run.items = rw w.self-is w.in_ok-close.ensures.count in
          let longer : length c.push.new.self.items ≡ length c.if-not-goes_on.self.run.items + 1 = ap length pushed ∙ length_push c.if-not-goes_on.self.run.items c.args.row in
          let none : length c.if-not-goes_on.self.run.items ≡ 0 = ap length done in
          record {
            step = λ rows rest is_open.
                let next = is_next is_open.name (rows_in c.args.self.now.run.items) row rest is_open.one (λ one. false≢true (sym w.if-not-goes_on.true ∙ c.goes_on.ensures.1 one)) in
                let closed : IsOpen rows (row ∷ rest) c.if-not-goes_on.self = rw w.self-is (w.in_ok-close.ensures.step rows (row ∷ rest) is_open next) in
                pushes rows rest c.args.row c.if-not-goes_on.self _ (voucher_of row) closed (rw done (All-nil (λ r. voucher_of r ≡ voucher_of row))) refl refl pushed refl;
            count = omega (arith, longer, before, none);
          }
      | else-not-goes_on w ↦
          let row = fields_of c.args.row in
          let old = c.args.self.now in
          let here = rw w.self-is at pushed in
          let longer : length c.push.new.self.items ≡ length old.run.items + 1 = ap length here ∙ length_push old.run.items c.args.row in
          rw w.self-is (record {
            step = λ rows rest is_open.
                let first = c.goes_on.ensures.0 w.if-not-goes_on.false in
                let name = named is_open.name (rows_in old.run.items) row first.0 first.1 is_open.one first.2 first.3 in
                pushes rows rest c.args.row old _ is_open.name is_open is_open.one name refl here refl;
            count = omega (arith, longer);
          })
    ]
