-- The codes of items and warehouses.
use Rattle.std.specs.Prelude.{ℕ, Bool, ◌&&◌, ◌||◌, ◌==◌, nat_le, List, length, string_bytes}
use Rattle.std.specs.List.{list_all}
use Rattle.stock_nums.specs.declared.code.Spelling.{Spelling}
use Rattle.stock_nums.specs.declared.limits.TheConstants.{MAX_CODE}
use Rattle.stock_nums.specs.declared.code.Spelling.TheVariants.{Short, Long}

-- the bytes of a code
abbrev pub spelled : Spelling → List ℕ
spelled (Short text) = text.bytes
spelled (Long text) = string_bytes text

-- A-Z, a-z, 0-9, a dot, an underscore or a hyphen
abbrev pub is_code_byte : ℕ → Bool
is_code_byte byte =
    (nat_le 65 byte && nat_le byte 90)
    || (nat_le 97 byte && nat_le byte 122)
    || (nat_le 48 byte && nat_le byte 57)
    || (byte == 46)
    || (byte == 95)
    || (byte == 45)

-- from 1 to 24 such bytes
abbrev pub is_code : List ℕ → Bool
is_code bytes = nat_le 1 (length bytes) && nat_le (length bytes) MAX_CODE && list_all is_code_byte bytes
