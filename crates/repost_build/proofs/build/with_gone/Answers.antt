-- One more is told, where it was published.
use Rattle.std.proofs.Common.{◌≡◌, ℕ, ◌+◌, ◌<◌, Bool, true, false, cond, List, [], ◌∷◌, ◌++◌, length, get_or, map, drop, filter, refl, sym, ap, ◌∙◌, arith}
use Rattle.std.proofs.lemmas.Bool.Decides.{nat_tests}
use Rattle.std.proofs.lemmas.List.{append-nil, append_assoc, drop_all}
use Rattle.stock_nums.specs.declared.entry.Entry.{Entry}
use Rattle.stock_nums.specs.declared.place.Spot.{Spot}
use Rattle.repost_fetch.specs.Changes.{spot_of_entry}
use Rattle.repost_laws.specs.Touched.{is_old}
use Rattle.repost_laws.proofs.MoreRecords.{is_old-from}
use Rattle.repost_spread.proofs.Puts.{rest-is}
use Rattle.repost_build.proofs.build.with_gone.Goals as goal
use Rattle.repost_build.proofs.build.with_gone.Goals.{then-entry-base+in_ok-push, else-entry-base}

new-from : (n : ℕ) (e : Entry) → n < e.place.voucher.0 → is_old n e ≡ false
new-from n e more = grind (arith, nat_tests)

next-told : (base : ℕ) (gone : List Entry) (i : ℕ) (e : Entry) (told : Bool) (old new all : List Spot) → i < length gone → e ≡ get_or gone i e
    → is_old base e ≡ told → new ≡ old ++ cond told (spot_of_entry e ∷ []) []
    → old ++ map spot_of_entry (filter (is_old base) (drop i gone)) ≡ all
    → new ++ map spot_of_entry (filter (is_old base) (drop (i + 1) gone)) ≡ all
next-told base gone i e told old new all within is tells added so_far =
    let rest = filter (is_old base) (drop (i + 1) gone) in
    let own : List Spot = cond told (spot_of_entry e ∷ []) [] in
    ap (λ (spots : List Spot). spots ++ map spot_of_entry rest) added
    ∙ append_assoc old own (map spot_of_entry rest)
    ∙ ap (λ (spots : List Spot). old ++ spots) (by_cases told)
    ∙ ap (λ (b : Bool). old ++ map spot_of_entry (cond b (e ∷ rest) rest)) (sym tells)
    ∙ ap (λ (es : List Entry). old ++ map spot_of_entry (filter (is_old base) es)) (sym (rest-is gone i e within is))
    ∙ so_far
  where
    by_cases : (b : Bool) → cond b (spot_of_entry e ∷ []) [] ++ map spot_of_entry (filter (is_old base) (drop (i + 1) gone))
        ≡ map spot_of_entry (cond b (e ∷ filter (is_old base) (drop (i + 1) gone)) (filter (is_old base) (drop (i + 1) gone)))
    by_cases true = refl
    by_cases false = refl

pub loop-entry-preserved : goal.loop-entry-preserved
loop-entry-preserved c =
    let base = c.args.base.0 in
    let gone = c.args.gone.now in
    let i = c.loop-entry.entry-index in
    let e = c.entry-item.result in
    elim c.if-entry-base.branch [
      | then-entry-base+in_ok-push w ↦
          next-told base gone i e true c.loop-entry.all.items c.if-entry-base.all.items _ c.loop-entry-test.true c.entry-item.is
          (is_old-from base e w.if-entry-base.true)
          (ap (λ v. v.items) w.all-is ∙ w.in_ok-push.ensures.items ∙ ap (λ (s : Spot). c.loop-entry.all.items ++ s ∷ []) w.spot_of.ensures)
          c.loop-entry.invariant
      | else-entry-base w ↦
          next-told base gone i e false c.loop-entry.all.items c.if-entry-base.all.items _ c.loop-entry-test.true c.entry-item.is
          (new-from base e w.if-entry-base.false)
          (ap (λ v. v.items) w.all-is ∙ sym (append-nil c.loop-entry.all.items))
          c.loop-entry.invariant
    ]

pub returns : goal.returns
returns c =
    let base = c.args.base.0 in
    let none : drop c.loop-entry.entry-index c.args.gone.now ≡ [] = drop_all c.loop-entry.entry-index c.args.gone.now c.loop-entry-test.false in
    sym (ap (λ (es : List Entry). c.loop-entry.all.items ++ map spot_of_entry (filter (is_old base) es)) none ∙ append-nil c.loop-entry.all.items)
    ∙ c.loop-entry.invariant
