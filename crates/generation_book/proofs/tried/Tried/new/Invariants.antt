-- No events.
use Rattle.std.specs.Prelude.{[]}
use Rattle.generation_book.proofs.tried.Tried.new.Given as goal

abbrev pub ghost-of : goal.ghost-of
ghost-of a = []
