-- The moments of records where a movement is put into a line.
use Rattle.std.proofs.Common.{◌≡◌, ◌≢◌, ℕ, ◌-◌, Bool, true, false, cond, List, [], ◌∷◌, Some, Contains, ◌⊎◌, inl, inr, sym, ap, ◌∙◌, subst, arith}
use Rattle.std.specs.List.{slice_get}
use Rattle.std.proofs.lemmas.Bool.{cases_lt}
use Rattle.std.proofs.lemmas.Option.{slice_get_within}
use Rattle.stock_nums.specs.Places.{is_before}
use Rattle.stock_nums.specs.declared.entry.Entry.{Entry}
use Rattle.stock_nums.specs.declared.moment.Moment.{Moment}
use Rattle.stock_model.specs.PostingOrder.{put}
use Rattle.stock_model.proofs.Pairwise.{Contains-cases, Contains-first, Contains-later}
use Rattle.repost_index.specs.Indexed.{CanBeIndexed}
use Rattle.repost_index.specs.Moments.{IsMomentAt, IsMomentPut}

-- a movement of a line with one more is that one, or was there
Contains-put : (line : List Entry) (e f : Entry) → Contains (put line e) f → (e ≡ f) ⊎ Contains line f
Contains-put [] e f held = Contains-cases e [] f held
Contains-put (g ∷ line) e f held = by_cases (is_before e.place g.place) held (Contains-put line e f)
  where
    later : (e ≡ f) ⊎ Contains line f → (e ≡ f) ⊎ Contains (g ∷ line) f
    later (inl same) = inl same
    later (inr there) = inr (Contains-later g line f there)

    front : (g ≡ f) ⊎ Contains (put line e) f → (Contains (put line e) f → (e ≡ f) ⊎ Contains line f)
        → (e ≡ f) ⊎ Contains (g ∷ line) f
    front (inl same) rest = inr (subst (Contains (g ∷ line)) same (Contains-first g line))
    front (inr there) rest = later (rest there)

    by_cases : (b : Bool) → Contains (cond b (e ∷ g ∷ line) (g ∷ put line e)) f
        → (Contains (put line e) f → (e ≡ f) ⊎ Contains line f) → (e ≡ f) ⊎ Contains (g ∷ line) f
    by_cases true h rest = Contains-cases e (g ∷ line) f h
    by_cases false h rest = front (Contains-cases g (put line e) f h) rest

-- two numbers are one, or not
one-or-other : (a b : ℕ) → (a ≡ b) ⊎ (a ≢ b)
one-or-other a b =
    elim (cases_lt a b) [
      | inl less ↦ inr (λ same. omega (arith, less, same))
      | inr upto ↦ elim (cases_lt b a) [
        | inl more ↦ inr (λ same. omega (arith, more, same))
        | inr also ↦ inl (omega (arith, upto, also))
      ]
    ]

-- the moment of a movement that was there stays
moment-stays : (line : List Entry) (e f : Entry) (old new : List Moment) → CanBeIndexed line e
    → IsMomentPut old new (e.place.voucher.0 - 1) e.place.moment → Contains line f → IsMomentAt old f.place → IsMomentAt new f.place
moment-stays line e f old new can is held at =
    elim (one-or-other f.place.voucher.0 e.place.voucher.0) [
      | inl same ↦ record {
        numbered = at.numbered;
        kept = ap (λ (n : ℕ). slice_get new (n - 1)) same ∙ is.own ∙ ap Some (sym (can.dated f held same));
      }
      | inr other ↦
          let apart : f.place.voucher.0 - 1 ≢ e.place.voucher.0 - 1 =
          λ same. other (omega (arith, same, at.numbered, can.numbered)) in
          record {
            numbered = at.numbered;
            kept = is.others (f.place.voucher.0 - 1)
                (slice_get_within old (f.place.voucher.0 - 1) f.place.moment at.kept) apart ∙ at.kept;
          }
    ]

-- so of each movement of the line with the new one the moment is kept
pub moments-put : (line : List Entry) (e : Entry) (old new : List Moment) → CanBeIndexed line e
    → IsMomentPut old new (e.place.voucher.0 - 1) e.place.moment
    → ((f : Entry) → Contains line f → IsMomentAt old f.place)
    → (f : Entry) → Contains (put line e) f → IsMomentAt new f.place
moments-put line e old new can is all f held =
    elim (Contains-put line e f held) [
      | inl same ↦ subst (λ (g : Entry). IsMomentAt new g.place) same (record { numbered = can.numbered; kept = is.own })
      | inr there ↦ moment-stays line e f old new can is there (all f there)
    ]
