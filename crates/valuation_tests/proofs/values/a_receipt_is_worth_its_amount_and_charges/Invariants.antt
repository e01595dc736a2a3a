-- The ledger is the one that the blank one becomes.
use Rattle.valuation_tests.proofs.values.a_receipt_is_worth_its_amount_and_charges.Given as goal

abbrev pub ghosts-first_receipt : goal.ghosts-first_receipt
ghosts-first_receipt g a = record { name = a.blank.name; parts = a.blank.parts }
