-- The elements of a list, read one after another.
use Rattle.std.proofs.Common.{◌≡◌, ℕ, suc, ◌+◌, ◌<◌, ◌≤◌, List, [], ◌∷◌, ◌++◌, length, get_or, drop, Result, Ok, Err, inl, inr, refl, sym, ap, ◌∙◌, subst, append_assoc, add-one, drop-cons}
use Rattle.std.proofs.lemmas.List.{drop_all, append-nil}
use Rattle.serde_json.specs.Data.{Data, Items, item}
use Rattle.serde_json.specs.View.{view, items_view}
use Rattle.serde_json.specs.declared.value.Value.{Value}
use Rattle.stock_model.specs.declared.read_faults.FieldName.{FieldName}
use Rattle.stock_model.specs.declared.read_faults.ReadFault.{ReadFault}
use Rattle.stock_model.specs.declared.read_faults.ReadFault.TheVariants.{NoMemory}
use Rattle.voucher_json.specs.Walks.{GoesOn, Ends, Elements, OrNoMemory}

-- what the rest comes to, after what was read
abbrev pub after : {A : Type 0} → List A → Result (List A) ReadFault → Result (List A) ReadFault
after done (Ok others) = Ok (done ++ others)
after done (Err fault) = Err fault

-- the values from the next one on
items-drop : (values : List Value) (i : ℕ) (value : Value) → i < length values → value ≡ get_or values i value
    → items_view (drop i values) ≡ item (view value) (items_view (drop (i + 1) values))
items-drop values i value within is =
    let here : drop i values ≡ value ∷ drop (i + 1) values = rw add-one (drop-cons values i value within ∙ ap (λ v. v ∷ drop (suc i) values) (sym is)) in
    ap items_view here

module _ {A : Type 0} (form : FieldName → ℕ → Data → Result A ReadFault → Type 0) (name : FieldName) where
  goes_after : (line : A) (end : Result (List A) ReadFault) → GoesOn (λ others. Ends (line ∷ others)) end (after (line ∷ []) end)
  goes_after line (Ok others) = refl
  goes_after line (Err fault) = refl

  after-after : (done : List A) (line : A) (end : Result (List A) ReadFault) → after done (after (line ∷ []) end) ≡ after (done ++ line ∷ []) end
  after-after done line (Ok others) = ap Ok (sym (append_assoc done (line ∷ []) others))
  after-after done line (Err fault) = refl

  -- one more element is read
  pub read_more : (values : List Value) (i : ℕ) (value : Value) (line : A) (done : List A) (end : Result (List A) ReadFault) → i < length values → value ≡ get_or values i value
      → (place : ℕ) → place ≡ i + 1 → OrNoMemory (form name place (view value)) (Ok line)
      → ((end : Result (List A) ReadFault) → Elements form name (i + 1) (items_view (drop i values)) end → Elements form name 1 (items_view values) (after done end))
      → Elements form name (i + 1 + 1) (items_view (drop (i + 1) values)) end → Elements form name 1 (items_view values) (after (done ++ line ∷ []) end)
  read_more values i value line done end within is place here (inl lacks) read are = absurd (cc)
  read_more values i value line done end within is place here (inr of_value) read are =
      let P : Items → Type 0 = λ items. Elements form name (i + 1) items (after (line ∷ []) end) in
      let Q : Result (List A) ReadFault → Type 0 = λ end. Elements form name 1 (items_view values) end in
      let R : ℕ → Type 0 = λ n. form name n (view value) (Ok line) in
      let first : P (item (view value) (items_view (drop (i + 1) values))) =
      record { outcome = Ok line; is = subst R here of_value; goes_on = record { outcome = end; is = are; goes_on = goes_after line end } } in
      subst Q (after-after done line end) (read _ (subst P (sym (items-drop values i value within is)) first))

  -- an element is none
  pub read_none : (values : List Value) (i : ℕ) (value : Value) (fault : ReadFault) (done : List A) → i < length values → value ≡ get_or values i value
      → (place : ℕ) → place ≡ i + 1 → OrNoMemory (form name place (view value)) (Err fault)
      → ((end : Result (List A) ReadFault) → Elements form name (i + 1) (items_view (drop i values)) end → Elements form name 1 (items_view values) (after done end))
      → OrNoMemory (Elements form name 1 (items_view values)) (Err fault)
  read_none values i value fault done within is place here (inl lacks) read = inl (let same : fault ≡ NoMemory = cc in cc)
  read_none values i value fault done within is place here (inr of_value) read =
      let P : Items → Type 0 = λ items. Elements form name (i + 1) items (Err fault) in
      let R : ℕ → Type 0 = λ n. form name n (view value) (Err fault) in
      let first : P (item (view value) (items_view (drop (i + 1) values))) = record { outcome = Err fault; is = subst R here of_value; goes_on = refl } in
      inr (read (Err fault) (subst P (sym (items-drop values i value within is)) first))

  -- all elements are read
  pub read_all : (values : List Value) (i : ℕ) (done : List A) → length values ≤ i
      → ((end : Result (List A) ReadFault) → Elements form name (i + 1) (items_view (drop i values)) end → Elements form name 1 (items_view values) (after done end))
      → OrNoMemory (Elements form name 1 (items_view values)) (Ok done)
  read_all values i done all read =
      let P : List A → Type 0 = λ lines. Elements form name 1 (items_view values) (Ok lines) in
      let Q : List Value → Type 0 = λ rest. Elements form name (i + 1) (items_view rest) (Ok []) in
      inr (subst P (append-nil done) (read (Ok []) (subst Q (sym (drop_all i values all)) refl)))
