-- A text that is the stored one of a record is that of no other.
use Rattle.std.proofs.Common.{Option, IsUtf8, subst}
use Rattle.std.specs.Prelude.{IfSome}
use Rattle.stock_model.specs.declared.records.Record.{Record}
use Rattle.voucher_json.specs.RecordTexts.{record_text}
use Rattle.kept_tables.proofs.OneText.{one_record}
use Rattle.kept_tables.proofs.checking.written.Goals as goal

pub returns-in-Some-clause-one : goal.returns-in-Some-clause-one
returns-in-Some-clause-one c other utf8 same =
    let own = subst (λ (found : Option Record). IfSome found (λ item. IsUtf8 (record_text item))) c.in-Some.is c.in-Ok.ensures.utf8 in
    one_record c.in-Some.item other own same
