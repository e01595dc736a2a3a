-- What contracts see of the sources and sinks in memory.
use Rattle.std.specs.Prelude.{ℕ, ◌+◌, ◌-◌, ◌≤◌, List, [], ◌++◌, length, drop, min, Contains}
use Rattle.stock_io.specs.Counts.{raised}

-- which calls fail: the numbers of those that do, counted from 1, and how many calls there were and faults
pub record Plan : Type 0 where
  pub failing : List ℕ
  pub calls : ℕ
  pub faults : ℕ

-- the plan of a stream that was not called yet
abbrev pub new_plan : List ℕ → Plan
new_plan failing = record { failing = failing; calls = 0; faults = 0 }

-- the next call is one of those that fail
abbrev pub NextFails : Plan → Type 0
NextFails plan = Contains plan.failing (raised plan.calls)

-- the plan after a call that did not fail
abbrev pub after_call : Plan → Plan
after_call plan = record { failing = plan.failing; calls = raised plan.calls; faults = plan.faults }

-- the plan after a call that failed
abbrev pub after_failure : Plan → Plan
after_failure plan = record { failing = plan.failing; calls = raised plan.calls; faults = raised plan.faults }

-- the plan after a fault of a call that was counted already
abbrev pub after_fault : Plan → Plan
after_fault plan = record { failing = plan.failing; calls = plan.calls; faults = raised plan.faults }

-- the bytes that a source has left, how many were taken, and the largest read
pub record Supply : Type 0 where
  pub left : List ℕ
  pub taken : ℕ
  pub piece : ℕ

-- the supply of these bytes before the first read
abbrev pub new_supply : List ℕ → ℕ → Supply
new_supply bytes piece = record { left = bytes; taken = 0; piece = piece }

-- how many bytes a read into a buffer of this length takes
abbrev pub read_len : Supply → ℕ → ℕ
read_len supply room = min room (min supply.piece (length supply.left))

-- the supply after so many of its bytes were taken
abbrev pub after_taking : Supply → ℕ → Supply
after_taking supply n = record { left = drop n supply.left; taken = supply.taken + n; piece = supply.piece }

-- a source in memory: its bytes, and which reads fail
pub record PlannedSupply : Type 0 where
  pub supply : Supply
  pub plan : Plan

-- the source before the first read
abbrev pub new_source : List ℕ → ℕ → List ℕ → PlannedSupply
new_source bytes piece failing = record { supply = new_supply bytes piece; plan = new_plan failing }

-- the source after a read that took so many bytes
abbrev pub after_read : PlannedSupply → ℕ → PlannedSupply
after_read source n = record { supply = after_taking source.supply n; plan = after_call source.plan }

-- the source after a read that failed
abbrev pub after_failed_read : PlannedSupply → PlannedSupply
after_failed_read source = record { supply = source.supply; plan = after_failure source.plan }

-- a sink in memory: the bytes that were written, how many it takes in all, and which writes fail
pub record PlannedStore : Type 0 where
  pub written : List ℕ
  pub room : ℕ
  pub plan : Plan

-- the sink before the first write
abbrev pub new_sink : ℕ → List ℕ → PlannedStore
new_sink room failing = record { written = []; room = room; plan = new_plan failing }

-- the sink takes no more
abbrev pub IsFull : PlannedStore → Type 0
IsFull sink = sink.room ≤ length sink.written

-- how many of so many bytes a write takes
abbrev pub write_len : PlannedStore → ℕ → ℕ
write_len sink given = min given (sink.room - length sink.written)

-- the sink after a write that took these bytes
abbrev pub after_write : PlannedStore → List ℕ → PlannedStore
after_write sink bytes = record { written = sink.written ++ bytes; room = sink.room; plan = after_call sink.plan }

-- the sink after a write that failed
abbrev pub after_failed_write : PlannedStore → PlannedStore
after_failed_write sink = record { written = sink.written; room = sink.room; plan = after_failure sink.plan }
