-- In a line in posting order the movements that come before one are those that stand before it.
use Rattle.std.proofs.Common.{◌≡◌, Bool, cond, List, [], ◌∷◌, ◌++◌, filter, refl, sym, ap, ◌∙◌}
use Rattle.std.proofs.lemmas.Bool.{false≢true}
use Rattle.stock_nums.specs.declared.entry.Entry.{Entry}
use Rattle.stock_nums.proofs.PlaceOrder.{is_before-irreflexive, is_before-asymmetric}
use Rattle.stock_model.specs.InOrder.{IsBefore, IsInPostingOrder}
use Rattle.stock_model.proofs.Pairwise.{Precedes, Pairwise, Pairwise-from_AllPairs}
use Rattle.cost_links.specs.Sources.{comes_before}
use Rattle.repost_laws.specs.Valuations.{earlier}

-- of what comes after a movement nothing comes before it
none_earlier : (e : Entry) (rest : List Entry) → Precedes IsBefore e rest → filter (comes_before e.place) rest ≡ []
none_earlier e [] after = refl
none_earlier e (f ∷ rest) after =
    ap (λ (b : Bool). cond b (f ∷ filter (comes_before e.place) rest) (filter (comes_before e.place) rest))
    (is_before-asymmetric e.place f.place after.0)
    ∙ none_earlier e rest after.1

-- what precedes all of a list precedes one in the midst
Precedes-middle : (f : Entry) (past : List Entry) (e : Entry) (rest : List Entry) → Precedes IsBefore f (past ++ e ∷ rest)
    → IsBefore f e
Precedes-middle f [] e rest before = before.0
Precedes-middle f (g ∷ past) e rest before = Precedes-middle f past e rest before.1

earlier-pairwise : (past : List Entry) (e : Entry) (rest : List Entry) → Pairwise IsBefore (past ++ e ∷ rest)
    → filter (comes_before e.place) (past ++ e ∷ rest) ≡ past
earlier-pairwise [] e rest ordered =
    ap (λ (b : Bool). cond b (e ∷ filter (comes_before e.place) rest) (filter (comes_before e.place) rest))
    (is_before-irreflexive e.place)
    ∙ none_earlier e rest ordered.0
earlier-pairwise (f ∷ past) e rest ordered =
    ap (λ (b : Bool). cond b (f ∷ filter (comes_before e.place) (past ++ e ∷ rest))
    (filter (comes_before e.place) (past ++ e ∷ rest))) (Precedes-middle f past e rest ordered.0)
    ∙ ap (λ (es : List Entry). f ∷ es) (earlier-pairwise past e rest ordered.1)

pub earlier-is_past : (past : List Entry) (e : Entry) (rest : List Entry) → IsInPostingOrder (past ++ e ∷ rest)
    → earlier (past ++ e ∷ rest) e ≡ past
earlier-is_past past e rest ordered = earlier-pairwise past e rest (Pairwise-from_AllPairs IsBefore (past ++ e ∷ rest) ordered)

-- of two movements at most one comes before the other
pub never_both : (a b : Entry) → IsBefore a b → IsBefore b a → ⊥
never_both a b h k = false≢true (sym (is_before-asymmetric a.place b.place h) ∙ k)

pub never_itself : (a : Entry) → IsBefore a a → ⊥
never_itself a h = never_both a a h h
