use Rattle.voucher_json.proofs.reading.read_request.Goals as goal

pub returns-in-Ok-Some-clause-read : goal.returns-in-Ok-Some-clause-read
returns-in-Ok-Some-clause-read c = (rw c.in-Ok-Some.field-0-is at c.in-Ok-Some.ensures.read) c.args.at_desk
