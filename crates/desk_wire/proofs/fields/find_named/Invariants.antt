use Rattle.std.proofs.Common.{◌≤◌, map, take}
use Rattle.httparse.specs.Spans.{header_bytes}
use Rattle.desk_wire.specs.Heads.{values_of}
use Rattle.desk_wire.specs.Spans.{Finds}
use Rattle.desk_wire.proofs.fields.find_named.Given as goal

abbrev pub invariant-loop-field : goal.invariant-loop-field
invariant-loop-field l =
    (l.found.count ≤ l.field-index)
    × Finds l.front l.found (values_of l.name (map (header_bytes l.front) (take l.field-index l.fields)))
