-- The option's value stands in the rows of what was found.
use Rattle.std.proofs.Common.{◌∙◌, sym, codes}
use Rattle.clap.specs.Words.{found_of}
use Rattle.clap.proofs.WalkLemmas.{first_value-rows}
use Rattle.stock_words.proofs.commands.batch_asked.Goals as goal

pub returns-in-Some : goal.returns-in-Some
returns-in-Some c = sym (c.in-Some.ensures ∙ first_value-rows (found_of c.args.batch.now) (codes "file"))

pub returns-in-None : goal.returns-in-None
returns-in-None c = sym (c.in-None.ensures ∙ first_value-rows (found_of c.args.batch.now) (codes "file"))
