-- What no two lines of a count have in common. The type of a count spells the test out, since it can't cite a file that names its lines.
use Rattle.std.specs.Prelude.{Bool, ◌&&◌, bytes_eq}
use Rattle.voucher_import.specs.declared.sheet.CountLine.{CountLine}

-- whether two lines of a count are of one item in one warehouse
abbrev pub has_same_key : CountLine → CountLine → Bool
has_same_key line other = bytes_eq line.item other.item && bytes_eq line.store other.store
