-- What the rules of the HTTP profile read in the head of a request (RFC 9110, RFC 9112).
use Rattle.std.specs.Prelude.{ℕ, ◌==◌, Bool, not, ◌&&◌, ◌||◌, List, map, filter, length, codes}
use Rattle.std.specs.List.{list_any, list_all, slice_split}
use Rattle.std.specs.Char.{is_ascii_digit}
use Rattle.std.specs.Str.{str_eq_ignore_ascii_case}
use Rattle.httparse.specs.Grammar.{RequestHead, trim_ows}
use Rattle.httparse.specs.Spans.{name_and_value}

-- the name and the value of each field, in order. A value has no spaces or tabs around it
abbrev pub Fields : Type 0
Fields = List (List ℕ × List ℕ)

-- the fields of a head
abbrev pub fields_of : RequestHead → Fields
fields_of head = map name_and_value head.fields

-- the values of the fields of this name, in order. ASCII case doesn't matter
abbrev pub values_of : List ℕ → Fields → List (List ℕ)
values_of name fields = map (λ f. f.1) (filter (λ f. str_eq_ignore_ascii_case f.0 name) fields)

-- a length is one or more ASCII digits
abbrev pub is_length : List ℕ → Bool
is_length value = not (length value == 0) && list_all is_ascii_digit value

-- the element is the word close, with spaces and tabs cut at both ends. ASCII case doesn't matter
abbrev pub is_close : List ℕ → Bool
is_close element = str_eq_ignore_ascii_case (trim_ows element) (codes "close")

abbrev pub is_comma : ℕ → Bool
is_comma b = b == 44

-- one of the elements is: the parts between commas
abbrev pub lists_close : List ℕ → Bool
lists_close value = list_any is_close (slice_split is_comma value)

-- the connection ends after a request of this version with these fields: the version is 1.0, or a
-- Connection field lists close
abbrev pub asks_to_close : ℕ → Fields → Bool
asks_to_close minor fields = minor == 0 || list_any lists_close (values_of (codes "connection") fields)
