use Rattle.voucher_json.proofs.OneReading.{one_reading, no_memory_read}
use Rattle.voucher_json.proofs.reading.requests_have_one_reading.Goals as goal

pub returns-clause-one : goal.returns-clause-one
returns-clause-one c = one_reading

pub returns-clause-memory : goal.returns-clause-memory
returns-clause-memory c = no_memory_read
