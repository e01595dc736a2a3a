-- The option's value stands in the rows of what was found.
use Rattle.std.proofs.Common.{◌∙◌, sym, codes}
use Rattle.clap.specs.Words.{found_of}
use Rattle.clap.proofs.WalkLemmas.{first_value-rows}
use Rattle.stock_words.proofs.commands.audit_asked.Goals as goal

pub returns-in_err-path : goal.returns-in_err-path
returns-in_err-path c = rw c.from_residual.ensures (sym (c.in_err-path.ensures ∙ first_value-rows (found_of c.args.audit.now) (codes "file")))

pub returns : goal.returns
returns c = sym (c.in_ok-path.ensures ∙ first_value-rows (found_of c.args.audit.now) (codes "file"))
