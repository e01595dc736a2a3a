use Rattle.std.proofs.Common.{IsUtf8, inr, refl, sym, ◌∙◌, subst}
use Rattle.std.proofs.lemmas.Bool.{false≢true}
use Rattle.kept_tables.proofs.Readings.{never_kept, otherwise_written, only_written, read-utf8}
use Rattle.kept_tables.proofs.checking.written_at_length.Goals as goal

pub returns-in-Err-clause-fault : goal.returns-in-Err-clause-fault
returns-in-Err-clause-fault c = never_kept c.args.text.now c.args.number.0 c.in-Err.fault c.in-Err.ensures.fault

pub returns-then-not-same-clause-fault : goal.returns-then-not-same-clause-fault
returns-then-not-same-clause-fault c = inr (
  refl,
  otherwise_written c.args.text.now c.in-Ok.item c.in-Ok.ensures.read
      (λ is. false≢true (sym c.if-not-same.true ∙ c.in-Ok-is_text_of.ensures.1 is)),
)

pub returns-clause-one : goal.returns-clause-one
returns-clause-one c =
    only_written c.args.text.now c.in-Ok.item c.in-Ok.ensures.read (c.in-Ok-is_text_of.ensures.0 c.if-not-same.false)

pub returns-clause-utf8 : goal.returns-clause-utf8
returns-clause-utf8 c =
    subst IsUtf8 (c.in-Ok-is_text_of.ensures.0 c.if-not-same.false)
    (read-utf8 c.args.text.now c.in-Ok.item c.in-Ok.ensures.read)
