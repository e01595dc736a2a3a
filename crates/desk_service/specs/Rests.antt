-- How long a worker rests before its next turn.
use Rattle.std.specs.Prelude.{ℕ, ◌+◌, ◌*◌, ◌-◌, ◌/◌, ◌^◌, min, Result, Ok, Err}
use Rattle.stock_keeper.specs.declared.fault.KeepFault.{KeepFault}
use Rattle.desk_service.specs.declared.gate.TheConstants.{MAX_PAUSE, MAX_REST, VALUED_PER_REST}
use Rattle.repost_worker.specs.declared.turn.Turned.{Turned}
use Rattle.repost_worker.specs.declared.turn.Turned.TheVariants.{Valued, Fetched, Published, Idle}

-- for how many short times it has rested after so many more, where the count stays at its end
abbrev pub rested : ℕ → ℕ → ℕ
rested more rests = min (rests + more) (2 ^ 64 - 1)

-- for how many it rests after a publication for which it valued so many movements
abbrev pub rest_of : ℕ → ℕ
rest_of valued = min MAX_REST (1 + valued / VALUED_PER_REST)

-- for how many it has rested before its next turn, where it had so long before: for one more after a turn that found nothing to do, for
-- more after a publication the more was valued for it, and for as many as its patience has after one that was refused
abbrev pub rests_after : Result Turned KeepFault → ℕ → ℕ → ℕ → ℕ
rests_after (Ok (Valued place)) patience valued rests = rests
rests_after (Ok (Fetched n)) patience valued rests = rests
rests_after (Ok (Published n)) patience valued rests = rested (rest_of valued) rests
rests_after (Ok Idle) patience valued rests = rested 1 rests
rests_after (Err fault) patience valued rests = rested patience rests

-- how many movements it has valued since the last publication, where the count stays at its end
abbrev pub valued_after : Result Turned KeepFault → ℕ → ℕ
valued_after (Ok (Valued place)) valued = min (valued + 1) (2 ^ 32 - 1)
valued_after (Ok (Fetched n)) valued = valued
valued_after (Ok (Published n)) valued = 0
valued_after (Ok Idle) valued = valued
valued_after (Err fault) valued = valued

-- its patience from then on: twice as much after each refused turn, up to the most, and one short time after any other
abbrev pub patience_after : Result Turned KeepFault → ℕ → ℕ
patience_after (Ok turned) patience = 1
patience_after (Err fault) patience = min (2 * patience) MAX_PAUSE
