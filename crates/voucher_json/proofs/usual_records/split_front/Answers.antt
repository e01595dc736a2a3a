use Rattle.std.proofs.Common.{◌≡◌, ◌++◌, codes, decimal, rules, ap, ◌∙◌}
use Rattle.json.specs.Print.{quoted}
use Rattle.stock_nums.specs.MomentText.{SpellsMoment, moment_text}
use Rattle.voucher_json.proofs.UsualRecords.{moment-spelled}
use Rattle.voucher_json.proofs.usual_records.split_front.Goals as goal

pub returns-clause-text : goal.returns-clause-text
returns-clause-text c =
    let spelled = c.in_ok-spelled.spelled.now in
    let at = c.in-Ok.at in
    let desk = c.in_ok-desk.desk in
    let spells : SpellsMoment spelled at = rw c.as_bytes.ensures.value at c.in-Ok.ensures.spelled in
    let kind : c.in_ok-desk.rest.now ≡ codes ",\"do\":" ++ c.in_ok-rest.rest.now = search rules in
    c.in_ok-spelled.ensures ∙ ap (λ t. codes "{\"at\":" ++ (quoted t ++ c.in_ok-spelled.rest.now)) (moment-spelled spelled at spells)
    ∙ ap (λ t. codes "{\"at\":" ++ (quoted (moment_text at) ++ t)) (c.in_ok-desk.ensures ∙ ap (λ t. codes ",\"desk\":" ++ (decimal desk ++ t)) kind)
