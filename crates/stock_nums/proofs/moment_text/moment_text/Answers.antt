use Rattle.std.proofs.Common.{◌/◌, ◌%◌, refl, ◌∙◌}
use Rattle.stock_nums.proofs.MomentWriting.{text_of-steps, moment_text-spells}
use Rattle.stock_nums.proofs.moment_text.moment_text.Goals as goal

pub returns-clause-text : goal.returns-clause-text
returns-clause-text c =
    let date = c.args.moment.date in
    let second = c.args.moment.second in
    c.from_vec.ensures
    ∙ c.in_ok-from_array.ensures.items
    ∙ text_of-steps (date / 1000000) (date / 10000 % 100) (date / 100 % 100) (date % 100) (second / 3600) (second / 60 % 60) (second % 60)
    _ _ _ _ _ _ _ _ refl c.put_two_digits.ensures c.put_two_digits-2.ensures c.put_two_digits-3.ensures c.put_two_digits-4.ensures
    c.put_two_digits-5.ensures c.put_two_digits-6.ensures c.put_two_digits-7.ensures

pub returns-clause-spelled : goal.returns-clause-spelled
returns-clause-spelled c = moment_text-spells c.args.moment
