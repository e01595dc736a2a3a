use Rattle.json.specs.Print.{escape_byte}
use Rattle.voucher_json.proofs.usual_records.last_purpose.Goals as goal

pub returns-in-text : goal.returns-in-text
unfolding escape_byte
returns-in-text c = c.in-text.is

pub returns-in-text-2 : goal.returns-in-text-2
unfolding escape_byte
returns-in-text-2 c = c.in-text-2.is
