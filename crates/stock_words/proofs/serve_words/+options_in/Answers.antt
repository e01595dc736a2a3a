-- What the words give is what their first option and those behind it give.
use Rattle.std.proofs.Common.{◌≢◌, [], length, map, string_bytes, sym, ap, ◌∙◌}
use Rattle.std.proofs.lemmas.Bool.{eqb-false}
use Rattle.std.proofs.lemmas.List.{length-map}
use Rattle.stock_words.specs.ServeWords.{given_of}
use Rattle.stock_words.proofs.ServeWords.{none_first, given_twice, with_first}
use Rattle.stock_words.proofs.serve_words.+options_in.Goals as goal

pub returns-in_default : goal.returns-in_default
returns-in_default t c =
    let words = c.args.words.now in
    let some : map string_bytes words ≢ [] = λ none.
    eqb-false (length words) 0 (sym c.if-is_empty.ensures) (sym (length-map words string_bytes) ∙ ap length none) in
    none_first (map string_bytes words) (given_of c.args.options) some c.in_default.ensures

pub returns-in_default-with : goal.returns-in_default-with
returns-in_default-with t c =
    let next = c.in-Some.next in
    given_twice (map string_bytes c.args.words.now) (given_of c.args.options) (next.name, next.value.now)
    (map string_bytes next.behind.now) c.in-Some.ensures c.in_default-with.ensures

pub returns : goal.returns
returns t c =
    let next = c.in-Some.next in
    with_first (map string_bytes c.args.words.now) (given_of c.args.options) (given_of c.in-Some-with.more) (next.name, next.value.now)
    (map string_bytes next.behind.now) c.options_in.result c.in-Some.ensures c.in-Some-with.ensures.0 c.in-Some-with.ensures.1
    c.options_in.ensures
