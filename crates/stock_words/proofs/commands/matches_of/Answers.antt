-- The parser refuses no words that the program knows.
use Rattle.std.proofs.Common.{◌∙◌, ap, map, string_bytes}
use Rattle.std.proofs.lemmas.Result.{IfErr-weaker}
use Rattle.clap.specs.Words.{App, takes}
use Rattle.stock_words.proofs.WordsLemmas.{known-taken}
use Rattle.stock_words.proofs.commands.matches_of.Goals as goal

pub returns-clause-memory : goal.returns-clause-memory
returns-clause-memory c =
    let words = map string_bytes c.args.words.now in
    let taken = ap (λ (a : App). takes a words) c.in_ok-program.ensures ∙ known-taken words c.requires in
    IfErr-weaker c.try_get_matches_from.result _ _ (λ error memory. memory taken) c.try_get_matches_from.ensures.passes
