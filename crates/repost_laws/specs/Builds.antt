-- A revaluation from turn to turn: records are fetched, which makes some movements suspect, and each turn values the first
-- suspect.
use Rattle.std.specs.Prelude.{
  ℕ,
  ◌≡◌,
  ◌≢◌,
  ◌+◌,
  ◌*◌,
  ◌≤◌,
  Bool,
  true,
  false,
  ◌||◌,
  not,
  IsTrue,
  List,
  length,
  filter,
  Option,
  Some,
  None,
  Contains,
  ◌↔◌,
  ◌⊎◌,
}
use Rattle.stock_nums.specs.Places.{is_before}
use Rattle.stock_nums.specs.declared.cause.Cause.{Cause}
use Rattle.stock_nums.specs.declared.cause.Cause.TheVariants.{CustomerReturn}
use Rattle.stock_nums.specs.declared.cause.Target.{Target}
use Rattle.stock_nums.specs.declared.entry.Entry.{Entry}
use Rattle.stock_nums.specs.declared.entry.Row.{Row}
use Rattle.stock_nums.specs.declared.place.Place.{Place}
use Rattle.repost_laws.specs.Touched.{is_new, is_old, is_left, is_touched, is_touched_by, IsMarked}
use Rattle.repost_laws.specs.Valuations.{Valued, Found, valuation, IsLocal}

-- whether the movement at a place is suspect: its value may have to change
abbrev pub Suspects : Type 0
Suspects = Place → Bool

-- each movement of the line that is not suspect was found to be what it is valued at
abbrev pub IsBuilt : (Target → ℕ) → List Entry → Found → Suspects → Type 0
IsBuilt charged line found suspects = (e : Entry) → Contains line e → suspects e.place ≡ false → IsLocal charged found line e

-- no movement of the line is suspect
abbrev pub IsClean : List Entry → Suspects → Type 0
IsClean line suspects = (e : Entry) → Contains line e → suspects e.place ≡ false

-- where the cause is a customer's return, it is of a line of one of the first n records
abbrev pub IsOfOldLine : ℕ → Cause → Type 0
IsOfOldLine n (CustomerReturn target issued) = target.voucher.0 ≤ n
IsOfOldLine n _ = Unit {0}

-- records come after the first n ones: the movements of these are the line before, what they return is of lines of these,
-- only lines with a new charge have another sum of charges, and what the new records touch becomes suspect
pub record IsFetch (n : ℕ) (is_charged : Target → Bool) (charged : Target → ℕ) (line : List Entry) (suspects : Suspects)
    (new_charged : Target → ℕ) (new_line : List Entry) (new_suspects : Suspects) : Type 0 where
  pub old : filter (is_old n) new_line ≡ line
  pub returned : (e : Entry) → Contains new_line e → is_old n e ≡ true → IsOfOldLine n e.cause
  pub others : (target : Target) → is_charged target ≡ false → new_charged target ≡ charged target
  pub marked : (e : Entry) → Contains new_line e → new_suspects e.place ≡ (suspects e.place || is_touched n is_charged new_line e)

-- where the cause is a customer's return, it is of a line of one of the first n records, and of one that stays
abbrev pub IsOfKeptLine : ℕ → (ℕ → Bool) → Cause → Type 0
IsOfKeptLine n gone (CustomerReturn target issued) = (target.voucher.0 ≤ n) × (gone target.voucher.0 ≡ false)
IsOfKeptLine n gone _ = Unit {0}

-- records come after the first n ones and others go. Among all movements that were there or are there now, those of the first n
-- records are the line before, and those that do not go the line now. What old movements return is of lines of records that
-- stay, only lines that are told have another sum of charges, what was found of the movements stays, and what comes and goes
-- makes suspect what it touches
pub record IsChange (n : ℕ) (gone : ℕ → Bool) (is_charged : Target → Bool) (both : List Entry) (charged : Target → ℕ)
    (line : List Entry) (found : Found) (suspects : Suspects) (new_charged : Target → ℕ) (new_line : List Entry)
    (new_found : Found) (new_suspects : Suspects) : Type 0 where
  pub old : filter (is_old n) both ≡ line
  pub left : filter (is_left gone) both ≡ new_line
  pub returned : (e : Entry) → Contains new_line e → is_old n e ≡ true → IsOfKeptLine n gone e.cause
  pub others : (target : Target) → is_charged target ≡ false → new_charged target ≡ charged target
  pub found_stays : (e : Entry) → Contains new_line e → new_found e.place ≡ found e.place
  pub marked : (e : Entry) → Contains new_line e → new_suspects e.place ≡ (suspects e.place || is_touched_by n gone is_charged both e)

-- this is now found at the place, and what was found elsewhere stays
pub record IsFoundAt (found new_found : Found) (place : Place) (now : Valued) : Type 0 where
  pub own : new_found place ≡ Some now
  pub others : (p : Place) → p ≢ place → new_found p ≡ found p

-- the movement is of the line, and no suspect comes before it
pub record IsFirst (line : List Entry) (suspects : Suspects) (e : Entry) : Type 0 where
  pub held : Contains line e
  pub first : (f : Entry) → Contains line f → suspects f.place ≡ true → is_before f.place e.place ≡ false

-- the first suspect is valued, is suspect no longer, and makes suspect what it marks
pub record IsTurn (charged : Target → ℕ) (line : List Entry) (found : Found) (suspects : Suspects) (e : Entry)
    (new_found : Found) (new_suspects : Suspects) : Type 0 where
  pub suspect : suspects e.place ≡ true
  pub first : IsFirst line suspects e
  pub valued : IsFoundAt found new_found e.place (valuation charged found line e)
  pub marked : (f : Entry) → Contains line f → IsTrue (new_suspects f.place)
      ↔ ((IsTrue (suspects f.place) × (f.place ≢ e.place)) ⊎ IsMarked line found e.place (valuation charged found line e) f)

-- the place comes after that of the last movement that was valued since the last fetch, where one was
abbrev pub is_ahead : Option Place → Place → Bool
is_ahead None place = true
is_ahead (Some last) place = is_before last place

-- all suspects of the line do
abbrev pub AreAhead : List Entry → Suspects → Option Place → Type 0
AreAhead line suspects last = (e : Entry) → Contains line e → suspects e.place ≡ true → is_ahead last e.place ≡ true

-- how many movements of the line do not
abbrev pub is_passed : Option Place → Entry → Bool
is_passed last e = not (is_ahead last e.place)

abbrev pub passed : List Entry → Option Place → ℕ
passed line last = length (filter (is_passed last) line)

-- for each fetch there was one turn that fetches, and no more turns that value than there were ever movements
pub record AreFew (line : List Entry) (suspects : Suspects) (last : Option Place) (entries fetches turns : ℕ) : Type 0 where
  pub fits : length line ≤ entries
  pub bound : turns ≤ fetches * (entries + 1)
  pub since : (e : Entry) → Contains line e → suspects e.place ≡ true → turns + entries ≤ fetches * (entries + 1)
      + passed line last

-- whether the movement at a place was valued since the last publication
abbrev pub ValuedSince : Type 0
ValuedSince = Place → Bool

-- the place is now one of these, and others are as they were
pub record IsValuedAt (valued new_valued : ValuedSince) (place : Place) : Type 0 where
  pub own : new_valued place ≡ true
  pub others : (p : Place) → p ≢ place → new_valued p ≡ valued p

-- since the first n records were published with what was found then: at places that were not valued since, what is found
-- is what was found then, and each movement of a later record was valued, or is suspect
pub record IsSincePublished (n : ℕ) (published : Found) (line : List Entry) (found : Found) (suspects : Suspects)
    (valued : ValuedSince) : Type 0 where
  pub kept : (place : Place) → valued place ≡ false → found place ≡ published place
  pub later : (e : Entry) → Contains line e → is_new n e ≡ true → suspects e.place ≡ false → valued e.place ≡ true

-- the same where movements may go: what is found of those of the first n records that were not valued since is what was
-- published
pub record IsSince (n : ℕ) (published : Found) (line : List Entry) (found : Found) (suspects : Suspects)
    (valued : ValuedSince) : Type 0 where
  pub kept : (e : Entry) → Contains line e → is_old n e ≡ true → valued e.place ≡ false → found e.place ≡ published e.place
  pub later : (e : Entry) → Contains line e → is_new n e ≡ true → suspects e.place ≡ false → valued e.place ≡ true

-- the row is of a movement that does not go
abbrev pub is_row_left : (ℕ → Bool) → Row → Bool
is_row_left gone row = is_left gone row.entry

-- the row is of a movement that was not valued since
abbrev pub is_as_published : ValuedSince → Row → Bool
is_as_published valued row = not (valued row.entry.place)
