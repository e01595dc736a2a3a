-- A word that is none of the five options is no option.
use Rattle.std.proofs.Common.{◌∷◌, map, string_bytes}
use Rattle.stock_words.proofs.ServeWords.{none_of_five}
use Rattle.stock_words.proofs.serve_words.any_option.Goals as goal

pub returns : goal.returns
returns c =
    none_of_five (c.args.word.now ∷ map string_bytes c.args.behind.now) c.in_default.ensures c.in_default-option_of.ensures
    c.in_default-option_of-2.ensures c.in_default-option_of-3.ensures c.in_default-option_of-4.ensures
