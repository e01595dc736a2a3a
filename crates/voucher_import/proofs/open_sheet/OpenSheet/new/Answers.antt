use Rattle.std.proofs.Common.{◌≡◌, [], refl}
use Rattle.std.proofs.lemmas.List.Elements.{All-nil}
use Rattle.voucher_import.specs.Rows.{voucher_of}
use Rattle.voucher_import.specs.SheetVouchers.{IsWithinLimits}
use Rattle.voucher_import.specs.Sheets.{AreRight}
use Rattle.voucher_import.proofs.open_sheet.OpenSheet.new.Goals as goal

pub returns-clause-begun : goal.returns-clause-begun
returns-clause-begun c rows = record {
  closed = [];
  are = rw c.new-2.ensures.items refl;
  right = All-nil AreRight;
  each = rw c.new.ensures tt;
  limits = rw c.new.ensures (All-nil IsWithinLimits);
  before = refl;
  name = [];
  one = rw c.new-2.ensures.items (All-nil (λ row. voucher_of row ≡ []));
}
