-- Histories with and without the makers beside the deeds.
use Rattle.std.proofs.Common.{◌≡◌, ℕ, Bool, true, false, cond, List, [], ◌∷◌, ◌++◌, length, take, drop, refl, ap, ◌∙◌}
use Rattle.std.proofs.lemmas.List.{map-append, take-map, drop-map, length-map}
use Rattle.std.specs.Prelude.{◌==◌}
use Rattle.turn_lock.specs.Histories.{BeginsWith, past, made_by}
use Rattle.stock_model.specs.declared.deeds.Deed.{Deed}
use Rattle.session_laws.specs.Makers.{maker, with_makers, without_makers, deeds_by}

pub without_makers-with_makers : (history : List Deed) → without_makers (with_makers history) ≡ history
without_makers-with_makers [] = refl
without_makers-with_makers (d ∷ history) = ap (λ (rest : List Deed). d ∷ rest) (without_makers-with_makers history)

pub with_makers-append : (a b : List Deed) → with_makers (a ++ b) ≡ with_makers a ++ with_makers b
with_makers-append a b = map-append (λ (d : Deed). (maker d, d)) a b

pub without_makers-append : (a b : List (ℕ × Deed)) → without_makers (a ++ b) ≡ without_makers a ++ without_makers b
without_makers-append a b = map-append (λ (e : ℕ × Deed). e.1) a b

pub length-with_makers : (history : List Deed) → length (with_makers history) ≡ length history
length-with_makers history = length-map history (λ (d : Deed). (maker d, d))

pub length-without_makers : (events : List (ℕ × Deed)) → length (without_makers events) ≡ length events
length-without_makers events = length-map events (λ (e : ℕ × Deed). e.1)

-- the deeds of a longer history begin with those of the shorter
pub without_makers-begins : (long short : List (ℕ × Deed)) → BeginsWith long short
    → BeginsWith (without_makers long) (without_makers short)
without_makers-begins long short begins =
    ap (λ (n : ℕ). take n (without_makers long)) (length-without_makers short)
    ∙ take-map (λ (e : ℕ × Deed). e.1) (length short) long
    ∙ ap without_makers begins

pub past-with_makers : (first final : List Deed) → past (with_makers first) (with_makers final) ≡ with_makers (past first final)
past-with_makers first final =
    ap (λ (n : ℕ). drop n (with_makers final)) (length-with_makers first)
    ∙ drop-map (λ (d : Deed). (maker d, d)) (length first) final

kept_or_not : (b : Bool) (d : Deed) (events : List (ℕ × Deed)) (history : List Deed) → events ≡ with_makers history
    → cond b ((maker d, d) ∷ events) events ≡ with_makers (cond b (d ∷ history) history)
kept_or_not true d events history same = ap (λ (rest : List (ℕ × Deed)). (maker d, d) ∷ rest) same
kept_or_not false d events history same = same

-- what a lock counts as made by a desk is the desk's deeds
pub made_by-with_makers : (desk : ℕ) (history : List Deed) → made_by desk (with_makers history) ≡ with_makers (deeds_by desk history)
made_by-with_makers desk [] = refl
made_by-with_makers desk (d ∷ history) =
    kept_or_not (maker d == desk) d (made_by desk (with_makers history)) (deeds_by desk history) (made_by-with_makers desk history)
