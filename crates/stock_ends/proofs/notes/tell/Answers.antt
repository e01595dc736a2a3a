-- A run that is done has no line.
use Rattle.std.proofs.Common.{inl, refl}
use Rattle.std.proofs.KnownBytes.{Appends-nil}
use Rattle.stock_ends.specs.declared.end.End.TheVariants.{Done}
use Rattle.stock_ends.proofs.notes.tell.Goals as goal

pub returns-in-Done-clause-told : goal.returns-in-Done-clause-told
returns-in-Done-clause-told g c = record {
  told = Done;
  told_as = rw c.in-Done.is refl;
  status_is = refl;
  noted = inl (Appends-nil (g.N.Sink.written c.args.notes.now), refl);
}
