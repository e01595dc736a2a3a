use Rattle.voucher_json.proofs.RecordUtf8.{record_text-utf8, code-utf8}
use Rattle.voucher_json.proofs.record_texts.record_texts_are_utf8.Goals as goal

pub returns-clause-text : goal.returns-clause-text
returns-clause-text c = record_text-utf8

pub returns-clause-code : goal.returns-clause-code
returns-clause-code c = code-utf8
