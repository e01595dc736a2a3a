use Rattle.std.proofs.Common.{ap, refl, ◌∙◌, ◌∷◌, ◌++◌, [], List}
use Rattle.std.specs.Prelude.{Some, Option}
use Rattle.turn_lock.proofs.Opening.{opens_with}
use Rattle.turn_lock.proofs.lock.TurnLock.new.Goals as goal

pub new-requires : goal.new-requires
new-requires g c = opens_with g.B.Logged.history g.B.Logged.faults g.B.Logged.start g.B.Logged.follows c.of-about.result.value c.args.book _ _ c.push.new.self.items refl
    (c.in_default.ensures.items ∙ ap (λ (xs : List (Option g.row.B.Denot)). xs ++ Some c.args.book ∷ []) c.new-slots.ensures.items) c.of-about.ensures (g.B.Logged.starts c.of-about.result.value)
