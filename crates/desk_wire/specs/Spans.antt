-- What the places of fields in a head say of them.
use Rattle.std.specs.Prelude.{◌≡◌, ℕ, ◌<◌, List, length, slice_get, Some}
use Rattle.httparse.specs.Spans.{IsWithin, span_bytes}
use Rattle.desk_wire.specs.declared.fields.Found.{Found}

-- what was found is these values: how many there are, and the place of the first of them
pub record Finds (front : List ℕ) (found : Found) (values : List (List ℕ)) : Type 0 where
  pub count : found.count ≡ length values
  pub value : 0 < found.count → slice_get values 0 ≡ Some (span_bytes front found.first)
  pub in_range : IsWithin (length front) found.first
