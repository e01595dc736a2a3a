-- Each text is the response, written out.
use Rattle.std.proofs.Common.{[], sym, ap, ◌∙◌}
use Rattle.stock_model.specs.declared.answers.Answer.TheVariants.{Told}
use Rattle.stock_model.specs.declared.replies.Reply.TheVariants.{MemoryFailed}
use Rattle.desk_server.specs.Responses.{response_to}
use Rattle.desk_server.proofs.FixedTexts.{memory_closing, memory_open}
use Rattle.desk_server.proofs.refusing.no_memory.Goals as goal

pub returns-then-close : goal.returns-then-close
returns-then-close c = sym memory_closing ∙ ap (response_to (Told MemoryFailed [])) (sym c.if-close.true)

pub returns-else-close : goal.returns-else-close
returns-else-close c = sym memory_open ∙ ap (response_to (Told MemoryFailed [])) (sym c.if-close.false)
