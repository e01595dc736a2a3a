-- Histories with makers, and what a history has past what was seen where nobody published since.
use Rattle.std.proofs.Common.{Bool, true, false, cond, ◌≡◌, ℕ, List, [], ◌∷◌, ◌++◌, length, drop, refl, sym, ap, ◌∙◌, subst}
use Rattle.std.specs.Prelude.{◌==◌}
use Rattle.std.proofs.lemmas.List.{drop-map}
use Rattle.stock_model.specs.History.{covered_after}
use Rattle.stock_model.specs.declared.deeds.Deed.{Deed}
use Rattle.stock_model.specs.declared.deeds.Deed.TheVariants.{Kept, Published}
use Rattle.turn_lock.specs.Histories.{BeginsWith, past, made_by}
use Rattle.turn_lock.proofs.Lists.{begins_is, begins_more, past_more}
use Rattle.session_laws.specs.Makers.{maker, with_makers, without_makers}
use Rattle.session_laws.proofs.MakersOf.{without_makers-with_makers, with_makers-append, without_makers-append}

-- a history that grew, as the lock sees it
pub with_makers-begins : (old more : List Deed) → BeginsWith (with_makers (old ++ more)) (with_makers old)
with_makers-begins old more = subst (λ (es : List (ℕ × Deed)). BeginsWith es (with_makers old)) (sym (with_makers-append old more)) (begins_more (with_makers old) (with_makers more))

pub past-grown : (old more : List Deed) → past (with_makers old) (with_makers (old ++ more)) ≡ with_makers more
past-grown old more = ap (past (with_makers old)) (with_makers-append old more) ∙ past_more (with_makers old) (with_makers more)

none_after : (kept : Bool) (event : ℕ × Deed) (events : List (ℕ × Deed)) → cond kept (event ∷ events) events ≡ [] → events ≡ []
none_after true event events none = absurd cc
none_after false event events none = none

-- a history of which the number 0 made no event has no publication
pub none_published : (covered : ℕ) (more : List Deed) → made_by 0 (with_makers more) ≡ [] → covered_after covered more ≡ covered
none_published covered [] none = refl
none_published covered (Published n ∷ more) none = absurd cc
none_published covered (Kept item ∷ more) none =
    none_published covered more (none_after (item.desk.0 == 0) (item.desk.0, Kept item) (made_by 0 (with_makers more)) none)

-- what was taken is what was seen, and more, none of which is a publication
module _ (seen : List (ℕ × Deed)) (taken : List Deed) (begins : BeginsWith (with_makers taken) seen) where
  -- what comes past what was seen
  pub past-taken : past seen (with_makers taken) ≡ with_makers (drop (length seen) taken)
  past-taken = drop-map (λ (d : Deed). (maker d, d)) (length seen) taken

  pub taken-is : taken ≡ without_makers seen ++ drop (length seen) taken
  taken-is =
      sym (without_makers-with_makers taken) ∙ ap without_makers (begins_is (with_makers taken) seen begins) ∙ without_makers-append seen (past seen (with_makers taken))
      ∙ ap (λ (more : List Deed). without_makers seen ++ more) (ap without_makers past-taken ∙ without_makers-with_makers (drop (length seen) taken))
