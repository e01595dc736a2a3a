-- What contracts see of sockets.
use Rattle.std.specs.Prelude.{ℕ, ◌+◌, ◌-◌, Bool, true, false, Option, Some, None}
use Rattle.stock_io.specs.Counts.{raised}

-- how many bytes a connection gave, how many faults there were in both directions, and whether it was ended
pub record Connection : Type 0 where
  pub taken : ℕ
  pub faults : ℕ
  pub ended : Bool

-- a connection of which nothing was used yet
abbrev pub new_connection : Connection
new_connection = record { taken = 0; faults = 0; ended = false }

-- the connection after so many more bytes, after one more fault, and once it was ended
abbrev pub after_receiving : Connection → ℕ → Connection
after_receiving link n = record link { taken = link.taken + n }

abbrev pub after_link_fault : Connection → Connection
after_link_fault link = record link { faults = raised link.faults }

abbrev pub after_ending : Connection → Connection
after_ending link = record link { ended = true }

-- how many peers of a port were hung up, how many it handed out that were not yet, how many faults there were, and once it is listened
-- to, its number and how many seconds a peer may be silent, where that is limited
pub record Port : Type 0 where
  pub hang_ups : ℕ
  pub outstanding : ℕ
  pub faults : ℕ
  pub asked : Option (ℕ × Option ℕ)

-- a port that was not listened to yet
abbrev pub new_port : Port
new_port = record { hang_ups = 0; outstanding = 0; faults = 0; asked = None }

-- the port once it is listened to, and after one more fault, one more peer, and one more that was hung up
abbrev pub after_listening : ℕ → Option ℕ → Port → Port
after_listening number idle port = record port { asked = Some (number, idle) }

abbrev pub after_port_fault : Port → Port
after_port_fault port = record port { faults = raised port.faults }

abbrev pub after_handing_out : Port → Port
after_handing_out port = record port { outstanding = port.outstanding + 1 }

abbrev pub after_taking_back : Port → Port
after_taking_back port = record port { hang_ups = port.hang_ups + 1; outstanding = port.outstanding - 1 }
