-- Steps of a walk, one after another.
use Rattle.std.proofs.Common.{◌≡◌, Result, Ok, Err, inl, inr, refl}
use Rattle.stock_model.specs.declared.read_faults.ReadFault.{ReadFault}
use Rattle.stock_model.specs.declared.read_faults.ReadFault.TheVariants.{NoMemory}
use Rattle.voucher_json.specs.Walks.{Then, OrNoMemory}

-- after a value the next step goes on
pub goes : {A B : Type 0} (first : Result A ReadFault → Type 0) (next : A → Result B ReadFault → Type 0) (value : A) (end : Result B ReadFault)
    → first (Ok value) → OrNoMemory (next value) end → OrNoMemory (Then first next) end
goes first next value end is (inl lacks) = inl lacks
goes first next value end is (inr goes_on) = inr (record { outcome = Ok value; is = is; goes_on = goes_on })

-- so too where memory might have been wanting, and was not
pub goes_had : {A B : Type 0} (first : Result A ReadFault → Type 0) (next : A → Result B ReadFault → Type 0) (value : A) (end : Result B ReadFault)
    → OrNoMemory first (Ok value) → OrNoMemory (next value) end → OrNoMemory (Then first next) end
goes_had first next value end (inl lacks) goes_on = absurd (cc)
goes_had first next value end (inr is) goes_on = goes first next value end is goes_on

-- a fault is what the walk comes to
pub stops : {A B : Type 0} (first : Result A ReadFault → Type 0) (next : A → Result B ReadFault → Type 0) (fault : ReadFault) → first (Err fault) → OrNoMemory (Then first next) (Err fault)
stops first next fault is = inr (record { outcome = Err fault; is = is; goes_on = refl })

-- or memory is wanting
pub stops_had : {A B : Type 0} (first : Result A ReadFault → Type 0) (next : A → Result B ReadFault → Type 0) (fault : ReadFault) → OrNoMemory first (Err fault) → OrNoMemory (Then first next) (Err fault)
stops_had first next fault (inl lacks) = inl (let same : fault ≡ NoMemory = cc in cc)
stops_had first next fault (inr is) = stops first next fault is

-- where memory is not wanting
pub comes : {A B : Type 0} (first : Result A ReadFault → Type 0) (next : A → Result B ReadFault → Type 0) (value : A) (end : Result B ReadFault) → first (Ok value) → next value end → Then first next end
comes first next value end is goes_on = record { outcome = Ok value; is = is; goes_on = goes_on }
