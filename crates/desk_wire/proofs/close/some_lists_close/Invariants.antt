use Rattle.std.proofs.Common.{◌≡◌, false, map, take, codes}
use Rattle.std.specs.List.{list_any}
use Rattle.httparse.specs.Spans.{header_bytes}
use Rattle.desk_wire.specs.Heads.{lists_close, values_of}
use Rattle.desk_wire.proofs.close.some_lists_close.Given as goal

abbrev pub invariant-loop-field : goal.invariant-loop-field
invariant-loop-field l =
    list_any lists_close (values_of (codes "connection") (map (header_bytes l.front) (take l.field-index l.fields))) ≡ false
