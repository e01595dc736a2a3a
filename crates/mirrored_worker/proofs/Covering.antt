-- What a history covers begins with what its beginning does.
use Rattle.std.proofs.Common.{◌≡◌, ℕ, zero, suc, ◌≤◌, List, [], ◌∷◌, ◌++◌, length, take, drop, refl, sym, ap, ◌∙◌, subst, append-nil, arith}
use Rattle.stock_model.specs.History.{records, covered_after, covered, covered_records, IsLegalAfter, IsLegal}
use Rattle.stock_model.specs.declared.deeds.Deed.{Deed}
use Rattle.stock_model.specs.declared.deeds.Deed.TheVariants.{Kept, Published}
use Rattle.stock_model.specs.declared.records.Record.{Record}
use Rattle.stock_laws.proofs.Histories.{records-append, covered_after-append}
use Rattle.turn_lock.specs.Histories.{BeginsWith, past, made_by}
use Rattle.turn_lock.specs.declared.view.View.{View}
use Rattle.turn_lock.proofs.Lists.{begins_is, begins_through}
use Rattle.session_laws.specs.Makers.{with_makers, without_makers}
use Rattle.session_laws.proofs.MakersOf.{without_makers-with_makers}
use Rattle.locked_worker.specs.LockedTurns.{IsStop}
use Rattle.locked_worker.proofs.LockedHistories.{none_published, past-taken, taken-is}

-- the first ones of a longer list begin with fewer first ones of a shorter
front-begins : {A : Type 0} (xs ys : List A) (k m : ℕ) → k ≤ m → BeginsWith (take m (xs ++ ys)) (take k xs)
front-begins [] ys zero m fewer = refl
front-begins [] ys (suc k) m fewer = refl
front-begins (x ∷ xs) ys zero m fewer = refl
front-begins (x ∷ xs) ys (suc k) zero fewer = absurd (omega (arith, fewer))
front-begins {A = A} (x ∷ xs) ys (suc k) (suc m) fewer =
    ap (λ (zs : List A). x ∷ zs) (front-begins xs ys k m (omega (arith, fewer)))

-- what is covered never falls in a legal history
covered-rises : (journal : List Record) (c : ℕ) (more : List Deed) → IsLegalAfter journal c more → c ≤ covered_after c more
covered-rises journal c [] legal = omega arith
covered-rises journal c (Kept item ∷ more) legal = covered-rises (journal ++ item ∷ []) c more legal.1
covered-rises journal c (Published n ∷ more) legal = omega (arith, legal.0, covered-rises journal n.0 more legal.2)

covered-no_less : (journal : List Record) (c : ℕ) (old more : List Deed) → IsLegalAfter journal c (old ++ more)
    → covered_after c old ≤ covered_after c (old ++ more)
covered-no_less journal c [] more legal = covered-rises journal c more legal
covered-no_less journal c (Kept item ∷ old) more legal = covered-no_less (journal ++ item ∷ []) c old more legal.1
covered-no_less journal c (Published n ∷ old) more legal = covered-no_less journal n.0 old more legal.2

-- where no less is covered, the covered records are the same ones and more
covers-more : (old more : List Deed) → covered old ≤ covered (old ++ more)
    → BeginsWith (covered_records (old ++ more)) (covered_records old)
covers-more old more no_less =
    subst (λ (rs : List Record). BeginsWith (take (covered (old ++ more)) rs) (covered_records old)) (sym (records-append old more))
    (front-begins (records old) (records more) (covered old) (covered (old ++ more)) no_less)

pub covered-grows : (early late : List Deed) → IsLegal late → BeginsWith late early
    → BeginsWith (covered_records late) (covered_records early)
covered-grows early late legal begins =
    let is : late ≡ early ++ past early late = begins_is late early begins in
    subst (λ (h : List Deed). BeginsWith (covered_records h) (covered_records early)) (sym is)
    (covers-more early (past early late) (covered-no_less [] 0 early (past early late) (subst IsLegal is legal)))

-- where number 0 has made nothing since, no more is published than was seen
module _ (seen : List (ℕ × Deed)) (taken : List Deed) (begins : BeginsWith (with_makers taken) seen)
    (unpublished : made_by 0 (past seen (with_makers taken)) ≡ []) where
  covered-since : covered (without_makers seen ++ drop (length seen) taken) ≡ covered (without_makers seen)
  covered-since =
      let more = drop (length seen) taken in
      let unmade = sym (ap (made_by 0) (past-taken seen taken begins)) ∙ unpublished in
      covered_after-append 0 (without_makers seen) more ∙ none_published (covered (without_makers seen)) more unmade

  pub covered-taken : covered taken ≡ covered (without_makers seen)
  covered-taken = ap covered (taken-is seen taken begins) ∙ covered-since

  pub covers-taken : BeginsWith (covered_records taken) (covered_records (without_makers seen))
  covers-taken =
      subst (λ (h : List Deed). BeginsWith (covered_records h) (covered_records (without_makers seen))) (sym (taken-is seen taken begins))
      (covers-more (without_makers seen) (drop (length seen) taken) (omega (arith, covered-since)))

-- what is seen after a stop
pub seen-stop : (old new : View Deed) (taken added : List Deed) → IsStop old taken added new → without_makers new.seen ≡ taken ++ added
seen-stop old new taken added stop = ap without_makers stop.seen ∙ without_makers-with_makers (taken ++ added)

pub covers-stop : (old new : View Deed) (taken added : List Deed) → IsStop old taken added new → covered taken ≤ covered (taken ++ added)
    → BeginsWith (covered_records (without_makers new.seen)) (covered_records (without_makers old.seen))
covers-stop old new taken added stop no_less =
    let before = covered_records (without_makers old.seen) in
    subst (λ (h : List Deed). BeginsWith (covered_records h) before) (sym (seen-stop old new taken added stop))
    (begins_through before (covered_records taken) (covered_records (taken ++ added)) (covers-taken old.seen taken stop.begins stop.unpublished)
    (covers-more taken added no_less))

pub covered-none : (history : List Deed) → covered history ≤ covered (history ++ [])
covered-none history = omega (arith, ap covered (append-nil history))
