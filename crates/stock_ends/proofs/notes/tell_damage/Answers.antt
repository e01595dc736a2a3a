-- The damage is told, or that memory was wanting.
use Rattle.std.proofs.Common.{inl, inr, refl, subst, ◌∙◌}
use Rattle.stock_ends.specs.Statuses.{WritesOrFails}
use Rattle.stock_ends.specs.declared.end.End.TheVariants.{NoMemory, Damaged}
use Rattle.stock_ends.proofs.notes.tell_damage.Goals as goal

pub returns-in_default-clause-told : goal.returns-in_default-clause-told
returns-in_default-clause-told g c = record {
  told = NoMemory;
  told_as = inr refl;
  status_is = c.without_memory.ensures.status;
  noted = c.without_memory.ensures.noted;
}

pub returns-clause-told : goal.returns-clause-told
returns-clause-told g c = record {
  told = Damaged c.args.damage.now;
  told_as = inl refl;
  status_is = c.status_of.ensures;
  noted = subst (WritesOrFails g.N.Sink.written g.N.Sink.faults c.args.notes.now c.note.new.notes) (c.as_slice.ensures.value ∙ c.in-Ok.ensures)
      c.note.ensures.noted;
}
