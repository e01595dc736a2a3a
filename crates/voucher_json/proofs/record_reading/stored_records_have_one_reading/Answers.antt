use Rattle.voucher_json.specs.RecordTexts.{record_data}
use Rattle.voucher_json.proofs.OneReading.{one_record_reading, no_memory_record}
use Rattle.voucher_json.proofs.RecordWalks.{record-read}
use Rattle.voucher_json.proofs.StoredRecords.{read-record_text}
use Rattle.voucher_json.proofs.Walks.{comes}
use Rattle.voucher_json.proofs.record_reading.stored_records_have_one_reading.Goals as goal

pub returns-clause-one : goal.returns-clause-one
returns-clause-one c = one_record_reading

pub returns-clause-memory : goal.returns-clause-memory
returns-clause-memory c = no_memory_record

pub returns-clause-round : goal.returns-clause-round
returns-clause-round c r utf8 = comes _ _ (record_data r) _ (utf8, read-record_text r) (record-read r)
