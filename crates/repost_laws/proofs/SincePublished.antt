-- The movements that were not valued since a publication.
use Rattle.std.proofs.Common.{◌≡◌, Bool, true, false, cond, not, List, [], ◌∷◌, filter, refl, sym, ap, ◌∙◌, Contains}
use Rattle.std.proofs.lemmas.Bool.{false≢true}
use Rattle.stock_nums.specs.declared.entry.Entry.{Entry}
use Rattle.stock_model.proofs.Pairwise.{Contains-first, Contains-later}
use Rattle.repost_laws.specs.Builds.{ValuedSince}

-- the movements that were not valued since
abbrev pub is_as_published_at : ValuedSince → Entry → Bool
is_as_published_at valued e = not (valued e.place)

-- where all that pass one test pass another, those that pass both are those that pass the first
pub filter-implied : (p q : Entry → Bool) (es : List Entry) → ((e : Entry) → Contains es e → p e ≡ true → q e ≡ true)
    → filter p (filter q es) ≡ filter p es
filter-implied p q [] implied = refl
filter-implied p q (e ∷ es) implied = by_cases (p e) refl (q e) refl
    (filter-implied p q es (λ f held. implied f (Contains-later e es f held)))
  where
    by_cases : (b : Bool) → p e ≡ b → (c : Bool) → q e ≡ c → filter p (filter q es) ≡ filter p es
        → filter p (cond c (e ∷ filter q es) (filter q es)) ≡ cond b (e ∷ filter p es) (filter p es)
    by_cases true is true has rest = ap (λ (v : Bool). cond v (e ∷ filter p (filter q es)) (filter p (filter q es))) is
        ∙ ap (λ (fs : List Entry). e ∷ fs) rest
    by_cases true is false has rest = absurd (false≢true (sym has ∙ implied e (Contains-first e es) is))
    by_cases false is true has rest = ap (λ (v : Bool). cond v (e ∷ filter p (filter q es)) (filter p (filter q es))) is ∙ rest
    by_cases false is false has rest = rest
