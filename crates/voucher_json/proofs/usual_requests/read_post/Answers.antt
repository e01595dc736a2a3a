use Rattle.std.proofs.Common.{◌≡◌, ◌∷◌, codes, rules, ap, ◌∙◌}
use Rattle.json.specs.Token.{begin_object, key, string}
use Rattle.voucher_json.proofs.usual_requests.read_post.Goals as goal

pub returns-in-Some-receipt-clause-read : goal.returns-in-Some-receipt-clause-read
returns-in-Some-receipt-clause-read c =
    let opened : c.args.reader.now ≡ begin_object ∷ c.opens_object.new.self = search rules in
    let keyed : c.opens_object.new.self ≡ key (codes "do") ∷ c.has_key.new.self = search rules in
    let worded : c.has_key.new.self ≡ string (codes "receipt") ∷ c.next_text.new.self = c.in-Some-receipt.ensures ∙ ap (λ word. string word ∷ c.next_text.new.self) c.in-Some-receipt.is-receipt in
    rw (opened, keyed, worded) c.read_receipt.ensures.read
