-- What a turn ends as, once a `&mut` to its value has ended.
use Rattle.std.specs.Borrow.{Fml, RattleType, MutBor, Lends}
use Rattle.turn_lock.specs.declared.logged.Logged.{Ghosts}
use Rattle.turn_lock.specs.contracts.held.Held.{the_row}
use Rattle.turn_lock.specs.Passes.{HeldView}

-- the value is what was left behind r, and the rest of the turn stays
abbrev pub LendsBook : (B E : RattleType) → Ghosts B.Denot E.Denot → MutBor (HeldView B.Denot E.Denot) → MutBor B.Denot → Fml
LendsBook B E g held r = Lends (the_row B E g) B held r (λ w. record held.now { book = w })
