-- What the options mean is what the words ask for.
use Rattle.std.proofs.Common.{map, string_bytes, subst}
use Rattle.stock_words.specs.ServeWords.{Given, SpellsGiven, SpellsNotGiven, given_of}
use Rattle.stock_words.proofs.ServeWords.{service, no_service}
use Rattle.stock_words.proofs.serve_words.asked_after.Goals as goal

pub returns-in_default : goal.returns-in_default
returns-in_default c =
    let words = map string_bytes c.args.words.now in
    no_service words (subst (SpellsNotGiven words) c.none.ensures c.in_default.ensures)

pub returns : goal.returns
returns c =
    let words = map string_bytes c.args.words.now in
    let given = given_of c.in-Some.options in
    service words given c.asked_by.result (subst (λ (before : Given). SpellsGiven words before given) c.none.ensures c.in-Some.ensures)
    c.asked_by.ensures
