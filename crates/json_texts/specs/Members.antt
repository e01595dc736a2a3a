-- An object of JSON as a list of its members, each a name with a text, a count, a signed amount or a list.
use Rattle.std.specs.Prelude.{ℕ, ℤ, List, [], ◌∷◌, codes}
use Rattle.serde_json.specs.Data.{Data, string, number, unsigned, array, object, Items, Members, no_members, member}
use Rattle.serde_json.specs.Find.{of_integer}

-- a member of an object: its name, and its value
abbrev pub Member : Type 0
Member = List ℕ × Data

abbrev pub text : List ℕ → List ℕ → Member
text name value = (name, string value)

abbrev pub count : List ℕ → ℕ → Member
count name n = (name, number (unsigned n))

abbrev pub amount : List ℕ → ℤ → Member
amount name z = (name, number (of_integer z))

abbrev pub rows : Items → Member
rows values = (codes "rows", array values)

abbrev pub status : List ℕ → Member
status value = text (codes "status") value

abbrev pub members_of : List Member → Members
members_of [] = no_members
members_of (m ∷ ms) = member m.0 m.1 (members_of ms)

-- the object with these members, in this order
abbrev pub object_of : List Member → Data
object_of ms = object (members_of ms)
