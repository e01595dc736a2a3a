-- The line is what it was.
use Rattle.valuation_tests.proofs.index.are_found.Given as goal

abbrev pub ghost-previous : goal.ghost-previous
ghost-previous g a = g.line

abbrev pub ghost-next : goal.ghost-next
ghost-next g a = g.line

abbrev pub ghost-entered_before : goal.ghost-entered_before
ghost-entered_before g a = g.line

abbrev pub ghost-left_before : goal.ghost-left_before
ghost-left_before g a = g.line

abbrev pub ghost-unit_in : goal.ghost-unit_in
ghost-unit_in g a = g.line

abbrev pub ghost-unit_out : goal.ghost-unit_out
ghost-unit_out g a = g.line

abbrev pub ghost-place_of : goal.ghost-place_of
ghost-place_of g a = g.line
