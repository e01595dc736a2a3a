-- A text that reads as a value comes to what the walk of the value comes to.
use Rattle.std.proofs.Common.{◌≡◌, ◌⊎◌, ℕ, List, Result, Ok, Err, IfOk, IfErr, inl, inr, refl}
use Rattle.serde_json.specs.Data.{Data}
use Rattle.stock_model.specs.declared.read_faults.ReadFault.{ReadFault}
use Rattle.stock_model.specs.declared.read_faults.ReadFault.TheVariants.{NoMemory}
use Rattle.voucher_json.specs.Texts.{IsJson, IsWalked}
use Rattle.voucher_json.specs.Walks.{OrNoMemory}

module _ {A : Type 0} (walk : Data → Result A ReadFault → Type 0) (text : List ℕ) where
  -- a value that the walk comes to
  pub walked : (value : Data) (result : Result A ReadFault) → IsJson text (Ok value) → OrNoMemory (walk value) result → IfOk result (λ found. IsWalked walk text (Ok found))
  walked value (Ok found) reads (inl lacks) = absurd (cc)
  walked value (Ok found) reads (inr is) = record { outcome = Ok value; is = reads; goes_on = is }
  walked value (Err fault) reads is = tt

  -- a fault that it comes to
  pub refused : (value : Data) (result : Result A ReadFault) → IsJson text (Ok value) → OrNoMemory (walk value) result → IfErr result (λ f. (f ≡ NoMemory) ⊎ IsWalked walk text (Err f))
  refused value (Ok found) reads is = tt
  refused value (Err fault) reads (inl lacks) = inl (cc)
  refused value (Err fault) reads (inr is) = inr (record { outcome = Ok value; is = reads; goes_on = is })

  -- a text that is no JSON
  pub unread : (fault : ReadFault) → (fault ≡ NoMemory) ⊎ IsJson text (Err fault) → (fault ≡ NoMemory) ⊎ IsWalked walk text (Err fault)
  unread fault (inl lacks) = inl lacks
  unread fault (inr is) = inr (record { outcome = Err fault; is = is; goes_on = refl })
