-- The first shortage of a line in posting order is the first movement with which fewer units than none are held.
use Rattle.std.proofs.Common.{◌≡◌, ℕ, ◌-◌, ◌<◌, ℤ, pos, ◌+ℤ◌, ◌-ℤ◌, int_lt, unsigned_abs, Bool, true, false, cond, List, [], ◌∷◌, ◌++◌, Option, Some, None, nat_lt, inl, inr, refl, sym, ap, ◌∙◌, subst, append_assoc, arith}
use Rattle.std.specs.List.{find}
use Rattle.std.specs.Option.{option_map}
use Rattle.std.proofs.lemmas.Bool.{false≢true, ltb-true}
use Rattle.std.proofs.lemmas.Bool.Decides.{nat_tests}
use Rattle.std.proofs.lemmas.Int.{ints}
use Rattle.stock_nums.specs.Places.{is_before}
use Rattle.stock_nums.specs.declared.entry.Entry.{Entry}
use Rattle.stock_nums.proofs.PlaceOrder.{is_before-irreflexive, is_before-asymmetric}
use Rattle.stock_model.specs.Enough.{entry_key, entered, departed, IsEnough, is_short, shortage_at, shortage_from, shortage}
use Rattle.stock_model.specs.InOrder.{IsBefore}
use Rattle.stock_model.specs.declared.shortages.Shortage.{Shortage}
use Rattle.stock_model.proofs.Pairwise.{Precedes, Pairwise, Each, Each-weaker, Each-from_Precedes}
use Rattle.stock_laws.proofs.Enough.{shortage-none}
use Rattle.key_order.specs.Changes.{changes_of, held_with}
use Rattle.posting_order.proofs.Parting.{Fails, find-none, Fails-from_none}
use Rattle.quantity_check.specs.Stretches.{shortage_with_held}
use Rattle.quantity_check.proofs.HeldSums.{held_with-append, held_with-all, held_with-later}
use Rattle.quantity_check.proofs.Members.{AnyOf}
use Rattle.quantity_check.proofs.OwnPlaceLemmas.{Precedes-back}
use Rattle.quantity_check.proofs.PlaceSteps.{false_from_never}

-- fewer units than none are held with the movement, of its item in its warehouse
abbrev pub lacks : List Entry → Entry → Bool
lacks all e = int_lt (held_with (changes_of all) (entry_key e) e.place) (pos 0)

-- what is told of the movement then
abbrev pub told : List Entry → Entry → Shortage
told all e = shortage_with_held e (held_with (changes_of all) (entry_key e) e.place)

-- in posting order the movements up to one do not come after it, and the later ones do
around : (past : List Entry) (e : Entry) (es : List Entry) → Pairwise IsBefore (past ++ e ∷ es)
    → Each (λ f. is_before e.place f.place ≡ false) (past ++ e ∷ []) × Each (λ f. is_before e.place f.place ≡ true) es
around [] e es order = ((is_before-irreflexive e.place, tt), Each-from_Precedes IsBefore e es order.0)
around (f ∷ past) e es order =
    let rest = around past e es order.1 in
    let before : is_before f.place e.place ≡ true = (Precedes-back IsBefore f past (e ∷ es) order.0).0 in
    ((is_before-asymmetric f.place e.place before, rest.0), rest.1)

-- what is held with a movement is what entered less what left with it
held_with-at : (past : List Entry) (e : Entry) (es : List Entry) → Pairwise IsBefore (past ++ e ∷ es)
    → held_with (changes_of (past ++ e ∷ es)) (entry_key e) e.place ≡ pos (entered (past ++ e ∷ []) (entry_key e)) -ℤ pos (departed (past ++ e ∷ []) (entry_key e))
held_with-at past e es order =
    let sides = around past e es order in
    let parts : held_with (changes_of (past ++ e ∷ es)) (entry_key e) e.place ≡ held_with (changes_of (past ++ e ∷ [])) (entry_key e) e.place +ℤ held_with (changes_of es) (entry_key e) e.place =
    ap (λ (l : List Entry). held_with (changes_of l) (entry_key e) e.place) (sym (append_assoc past (e ∷ []) es)) ∙ held_with-append (past ++ e ∷ []) es (entry_key e) e.place in
    omega (arith, ints, parts, held_with-all (past ++ e ∷ []) (entry_key e) e.place sides.0, held_with-later es (entry_key e) e.place sides.1)

-- more left than entered exactly where the difference is below 0
same_test : (i o : ℕ) (h : ℤ) → h ≡ pos i -ℤ pos o → nat_lt i o ≡ int_lt h (pos 0)
same_test i o h is = grind (arith, ints, nat_tests)

-- by as many units
same_lacking : (i o : ℕ) (h : ℤ) → h ≡ pos i -ℤ pos o → nat_lt i o ≡ true → o - i ≡ unsigned_abs h
same_lacking i o h is short = let less : i < o = ltb-true i o short in omega (arith, ints, is, less)

shortage_from-find : (past es : List Entry) → Pairwise IsBefore (past ++ es) → shortage_from past es ≡ option_map (told (past ++ es)) (find (lacks (past ++ es)) es)
shortage_from-find past [] order = refl
shortage_from-find past (e ∷ es) order =
    by_cases (is_short past e) refl
    (subst (λ (l : List Entry). shortage_from (past ++ e ∷ []) es ≡ option_map (told l) (find (lacks l) es)) joined
    (shortage_from-find (past ++ e ∷ []) es (subst (Pairwise IsBefore) (sym joined) order)))
  where
    joined : (past ++ e ∷ []) ++ es ≡ past ++ e ∷ es
    joined = append_assoc past (e ∷ []) es

    held : held_with (changes_of (past ++ e ∷ es)) (entry_key e) e.place ≡ pos (entered (past ++ e ∷ []) (entry_key e)) -ℤ pos (departed (past ++ e ∷ []) (entry_key e))
    held = held_with-at past e es order

    tests : is_short past e ≡ lacks (past ++ e ∷ es) e
    tests = same_test (entered (past ++ e ∷ []) (entry_key e)) (departed (past ++ e ∷ []) (entry_key e)) (held_with (changes_of (past ++ e ∷ es)) (entry_key e) e.place) held

    by_cases : (b : Bool) → is_short past e ≡ b → shortage_from (past ++ e ∷ []) es ≡ option_map (told (past ++ e ∷ es)) (find (lacks (past ++ e ∷ es)) es)
        → cond (is_short past e) (Some (shortage_at past e)) (shortage_from (past ++ e ∷ []) es) ≡ option_map (told (past ++ e ∷ es)) (cond (lacks (past ++ e ∷ es) e) (Some e) (find (lacks (past ++ e ∷ es)) es))
    by_cases true is rest =
        let named : shortage_at past e ≡ told (past ++ e ∷ es) e =
        ap (λ (n : ℕ). record { place = e.place; item = e.item; store = e.store; lacking = record { 0 = n } })
        (same_lacking (entered (past ++ e ∷ []) (entry_key e)) (departed (past ++ e ∷ []) (entry_key e)) (held_with (changes_of (past ++ e ∷ es)) (entry_key e) e.place) held is) in
        ap (λ (b : Bool). cond b (Some (shortage_at past e)) (shortage_from (past ++ e ∷ []) es)) is
        ∙ ap Some named
        ∙ ap (λ (b : Bool). option_map (told (past ++ e ∷ es)) (cond b (Some e) (find (lacks (past ++ e ∷ es)) es))) (sym is ∙ tests)
    by_cases false is rest =
        ap (λ (b : Bool). cond b (Some (shortage_at past e)) (shortage_from (past ++ e ∷ []) es)) is
        ∙ rest
        ∙ ap (λ (b : Bool). option_map (told (past ++ e ∷ es)) (cond b (Some e) (find (lacks (past ++ e ∷ es)) es))) (sym is ∙ tests)

-- the first shortage of a line in posting order
pub shortage-find : (line : List Entry) → Pairwise IsBefore line → shortage line ≡ option_map (told line) (find (lacks line) line)
unfolding shortage
shortage-find line order = shortage_from-find [] line order

-- the first of those that lack, where it is one of the movements and none that lacks comes before it
pub find-first : (all es : List Entry) (s : Shortage) → Pairwise IsBefore es → AnyOf (λ m. (lacks all m ≡ true) × (s ≡ told all m)) es → Each (λ m. lacks all m ≡ true → is_before m.place s.place ≡ false) es
    → option_map (told all) (find (lacks all) es) ≡ Some s
find-first all [] s order some none = absurd some
find-first all (e ∷ es) s order some none = by_cases (lacks all e) refl (λ h. find-first all es s order.1 h none.1) some
  where
    later : (fs : List Entry) → Precedes IsBefore e fs → AnyOf (λ m. (lacks all m ≡ true) × (s ≡ told all m)) fs → is_before e.place s.place ≡ true
    later [] before h = absurd h
    later (f ∷ fs) before h =
        elim h [
          | inl is ↦ subst (λ (t : Shortage). is_before e.place t.place ≡ true) (sym is.1) before.0
          | inr rest ↦ later fs before.1 rest
        ]

    by_cases : (b : Bool) → lacks all e ≡ b → (AnyOf (λ m. (lacks all m ≡ true) × (s ≡ told all m)) es → option_map (told all) (find (lacks all) es) ≡ Some s)
        → AnyOf (λ m. (lacks all m ≡ true) × (s ≡ told all m)) (e ∷ es) → option_map (told all) (cond b (Some e) (find (lacks all) es)) ≡ Some s
    by_cases true is rest h =
        elim h [
          | inl here ↦ ap Some (sym here.1)
          | inr more ↦ absurd (false≢true (sym (none.0 is) ∙ later es order.0 more))
        ]
    by_cases false is rest h = elim h [ inl here ↦ absurd (false≢true (sym is ∙ here.0)) | inr more ↦ rest more ]

-- none is the first where none lacks
pub find-never : (all es : List Entry) → Each (λ m. lacks all m ≡ true → ⊥) es → find (lacks all) es ≡ None
find-never all es never =
    find-none (lacks all) es (Each-weaker (λ m. lacks all m ≡ true → ⊥) (Fails (lacks all)) (λ m h. false_from_never (lacks all m) h) es never)

-- where there is always enough none lacks
pub never_lacks : (line : List Entry) → Pairwise IsBefore line → IsEnough line → Each (λ m. lacks line m ≡ false) line
never_lacks line order enough =
    Fails-from_none (lacks line) line (none (find (lacks line) line) (sym (shortage-find line order) ∙ shortage-none line enough))
  where
    none : (o : Option Entry) → option_map (told line) o ≡ None → o ≡ None
    none None h = refl
    none (Some e) h = cc
