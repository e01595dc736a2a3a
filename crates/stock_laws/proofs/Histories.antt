-- How a history grows.
use Rattle.std.proofs.Common.{◌≡◌, ℕ, ◌≤◌, List, [], ◌∷◌, ◌++◌, length, refl, sym, ap, subst, append_assoc, append-nil, length-append, arith}
use Rattle.stock_model.specs.declared.records.Record.{Record}
use Rattle.stock_model.specs.declared.deeds.Deed.{Deed}
use Rattle.stock_model.specs.declared.deeds.Deed.TheVariants.{Kept, Published}
use Rattle.stock_model.specs.History.{records, covered_after, IsLegalAfter}

-- the records of two stretches are those of the first and then those of the second
pub records-append : (old more : List Deed) → records (old ++ more) ≡ records old ++ records more
records-append [] more = refl
records-append (Kept item ∷ old) more = ap (λ rest. item ∷ rest) (records-append old more)
records-append (Published n ∷ old) more = records-append old more

-- what is covered after two stretches
pub covered_after-append : (c : ℕ) (old more : List Deed) → covered_after c (old ++ more) ≡ covered_after (covered_after c old) more
covered_after-append c [] more = refl
covered_after-append c (Kept item ∷ old) more = covered_after-append c old more
covered_after-append c (Published n ∷ old) more = covered_after-append n.0 old more

-- a legal stretch after a legal one
pub IsLegalAfter-append : (journal : List Record) (c : ℕ) (old more : List Deed) → IsLegalAfter journal c old
    → IsLegalAfter (journal ++ records old) (covered_after c old) more → IsLegalAfter journal c (old ++ more)
IsLegalAfter-append journal c [] more legal next =
    subst (λ (held : List Record). IsLegalAfter held c more) (append-nil journal) next
IsLegalAfter-append journal c (Kept item ∷ old) more legal next = (
  legal.0,
  IsLegalAfter-append (journal ++ item ∷ []) c old more legal.1
      (subst (λ (held : List Record). IsLegalAfter held (covered_after c old) more) (sym (append_assoc journal (item ∷ []) (records old))) next),
)
IsLegalAfter-append journal c (Published n ∷ old) more legal next =
    (legal.0, legal.1, IsLegalAfter-append journal n.0 old more legal.2 next)

-- no more is covered than was accepted
pub covered_after-within : (journal : List Record) (c : ℕ) (history : List Deed) → c ≤ length journal → IsLegalAfter journal c history
    → covered_after c history ≤ length (journal ++ records history)
covered_after-within journal c [] within legal = simp append-nil within
covered_after-within journal c (Kept item ∷ history) within legal =
    let longer : c ≤ length (journal ++ item ∷ []) = omega (arith, length-append journal (item ∷ [])) in
    subst (λ (held : List Record). covered_after c history ≤ length held) (append_assoc journal (item ∷ []) (records history))
    (covered_after-within (journal ++ item ∷ []) c history longer legal.1)
covered_after-within journal c (Published n ∷ history) within legal =
    covered_after-within journal n.0 history legal.1 legal.2
