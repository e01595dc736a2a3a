use Rattle.std.proofs.Common.{◌≡◌, ◌+◌, ◌≤◌, min, true, take}
use Rattle.std.specs.Char.{is_ascii_digit}
use Rattle.std.specs.List.{list_all}
use Rattle.std.specs.Str.Parse.{digits_value}
use Rattle.desk_wire.specs.Rules.{body_limit}
use Rattle.desk_wire.proofs.length.read_length.Given as goal

abbrev pub invariant-loop-digit : goal.invariant-loop-digit
invariant-loop-digit l =
    (l.length ≤ body_limit + 1)
    × (list_all is_ascii_digit (take l.digit-index l.value) ≡ true)
    × (l.length ≡ min (digits_value 10 (take l.digit-index l.value)) (body_limit + 1))
