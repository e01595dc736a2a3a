-- What is found in words that the program knows is what they spell.
use Rattle.std.proofs.Common.{List, Option, Some, None, map, subst, refl, string_bytes}
use Rattle.clap.specs.Words.{Row, Text}
use Rattle.stock_words.specs.Commands.{AsksFor, AsksForNothing}
use Rattle.stock_words.proofs.WordsLemmas.{known-asked}
use Rattle.stock_words.proofs.words.asked_by.Goals as goal

pub returns-in-Some-asked_in-clause-asked : goal.returns-in-Some-asked_in-clause-asked
returns-in-Some-asked_in-clause-asked c =
    known-asked (map string_bytes c.args.words.now) (Some c.in-Some-asked_in.asked) (c.if-not-is_no_serve.ensures.0 refl)
    (subst (λ (found : Option (Text × List Row)). AsksFor found c.in-Some-asked_in.asked) c.in-Ok.ensures.found c.in-Some-asked_in.ensures)

pub returns-clause-fault : goal.returns-clause-fault
returns-clause-fault c =
    known-asked (map string_bytes c.args.words.now) None (c.if-not-is_no_serve.ensures.0 refl)
    (subst AsksForNothing c.in-Ok.ensures.found c.in-None.ensures)
