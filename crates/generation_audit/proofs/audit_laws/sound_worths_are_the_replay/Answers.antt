-- Sound tables are those of the replay of the covered records.
use Rattle.std.proofs.Common.{take, List, ap, ◌∙◌}
use Rattle.stock_nums.specs.declared.entry.Row.{Row}
use Rattle.stock_model.specs.Accounts.{balances}
use Rattle.stock_model.specs.Masters.{heads}
use Rattle.generation_audit.proofs.SoundWorths.{rows-are, worths-are, in-order}
use Rattle.generation_audit.proofs.audit_laws.sound_worths_are_the_replay.Goals as goal

pub returns-clause-read : goal.returns-clause-read
returns-clause-read c t records covered accounts (items, read, count, sound) =
    let journal = take covered.0 items in (
      items,
      read,
      count,
      worths-are journal t.worths sound.right sound.own,
      sound.balanced ∙ ap (λ (rows : List Row). balances (heads journal) rows) (rows-are journal t.worths sound.right),
    )

pub returns-clause-opened : goal.returns-clause-opened
returns-clause-opened c t records covered accounts (items, read, count, sound) order =
    let journal = take covered.0 items in (
      items,
      (read.stored, read.version, read.covers, read.within, in-order journal t.worths (worths-are journal t.worths sound.right sound.own) order),
    )
