-- What a log has.
use Rattle.std.specs.Prelude.{List, [], ◌∷◌, ◌++◌}
use Rattle.shared_listener.specs.declared.log.Log.{Log}
use Rattle.shared_listener.specs.declared.log.Log.TheVariants.{Empty, More'}

-- what was noted, first what was noted first
abbrev pub notes : {X : Type 0} → Log X → List X
notes Empty = []
notes (More' shape before x) = notes before ++ x ∷ []
