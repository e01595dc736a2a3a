-- What a longer legal journal gives the calls of an extension, and what they make of the build.
use Rattle.std.proofs.Common.{◌≡◌, ℕ, ◌+◌, ◌^◌, ◌<◌, ◌≤◌, Bool, true, ◌||◌, not, List, ◌++◌, length, map, filter, Contains, sym, ap, ◌∙◌, subst, arith}
use Rattle.std.specs.List.Sorted.{IsPermutation}
use Rattle.std.proofs.lemmas.Bool.{false≢true, or_left}
use Rattle.std.proofs.lemmas.List.{length-append}
use Rattle.stock_nums.specs.declared.cause.Target.{Target}
use Rattle.stock_nums.specs.declared.entry.Entry.{Entry}
use Rattle.stock_nums.specs.declared.place.Place.{Place}
use Rattle.stock_nums.specs.declared.place.Spot.{Spot}
use Rattle.stock_model.specs.InOrder.{IsInPostingOrder}
use Rattle.stock_model.specs.Journals.{AreLegal}
use Rattle.stock_model.specs.LandedCost.{added}
use Rattle.stock_model.specs.PostingOrder.{put_all, posting_line}
use Rattle.stock_model.specs.Values.{own_line}
use Rattle.stock_model.specs.declared.records.Record.{Record}
use Rattle.stock_laws.proofs.Legality.{AreSound-from}
use Rattle.cost_links.specs.Charged.{charge_pairs, charged_to}
use Rattle.cost_links.specs.declared.charges.Charge.{Charge}
use Rattle.quantity_check.specs.OwnPlaces.{HaveOwnPlaces}
use Rattle.repost_fetch.specs.Changes.{gone_spots, spot_of_entry}
use Rattle.repost_fetch.specs.Fetched.{going, uncharged_after}
use Rattle.repost_frontier.specs.Readings.{found_of, suspects_of, revalued_of}
use Rattle.repost_frontier.specs.declared.slot.Slot.{Slot}
use Rattle.repost_laws.specs.Changes.{goes_with, coming, both_lines, is_recharged}
use Rattle.repost_laws.specs.Fetches.{AreDated, AreNew, charges_after, is_charged_in}
use Rattle.repost_laws.specs.Touched.{is_new, is_old, is_left, is_changed, is_touched_by, follows_any}
use Rattle.repost_laws.specs.Valuations.{earlier}
use Rattle.repost_laws.specs.WholeBuilds.{IsBuildOf, IsWorthInRange}
use Rattle.repost_laws.proofs.ChangedJournals.{both-left}
use Rattle.repost_laws.proofs.Filtered.{Contains-filtered}
use Rattle.repost_laws.proofs.MoreCharges.{charges-fit}
use Rattle.repost_laws.proofs.WholeSteps.{IsBuildOf-change}
use Rattle.repost_spread.specs.Adding.{put_all_new}
use Rattle.repost_spread.specs.Marks.{AreMarked}
use Rattle.repost_spread.specs.Movements.{AreKept, slots_of, line_of, charged_by}
use Rattle.repost_spread.specs.Removing.{slots_but_all, line_but_all}
use Rattle.repost_spread.specs.Touches.{AreOfRecords, has_record, record_of}
use Rattle.repost_spread.specs.declared.movements.Movements.{Movements}
use Rattle.repost_spread.proofs.Puts.{count-of}
use Rattle.repost_spread.proofs.TouchingLines.{one-at}
use Rattle.repost_build.specs.Builds.{IsOf}
use Rattle.repost_build.specs.Readings.{slots_in, found_in, suspects_in, valued_in, base_of, target_of, fetches_of, turns_of, gone_of}
use Rattle.repost_build.specs.declared.build.Build.{Build}
use Rattle.repost_build.proofs.ComingOnes.{both-ordered, coming-own_places, coming-in_both, coming-new, coming-few, coming-dated}
use Rattle.repost_build.proofs.Extended.{found-all, revalued-all, extended-suspects}
use Rattle.repost_build.proofs.GoneCharges.{added-changed, recharged-named}
use Rattle.repost_build.proofs.GoneOnes.{gone-of_records, gone-own_places, gone-in_both, gone-goes, gone-left, has-goes}
use Rattle.repost_build.proofs.GoneSpots.{more-spots}
use Rattle.repost_build.proofs.SlotsAfter.{StandElsewhere, found-stays, suspect-stays, revalued-stays, range-alike, range-stays, IsBuildOf-alike}
use Rattle.repost_build.proofs.Touched.{touched-alike}

-- these come and go with the further records, and so do these charges
pub record AreFetched (journal more : List Record) (comes gone : List Entry) (charges uncharged : List Charge) : Type 0 where
  pub comes_is : comes ≡ coming journal more
  pub gone_is : gone ≡ going journal more
  pub charges_is : charge_pairs charges ≡ charges_after journal more
  pub uncharged_is : charge_pairs uncharged ≡ uncharged_after journal more

module _ (journal more : List Record) (old : Build) (comes gone : List Entry) (charges uncharged : List Charge)
    (of : IsOf journal old) (are : AreFetched journal more comes gone charges uncharged) (legal : AreLegal (journal ++ more)) where
  abbrev n : ℕ
  n = target_of old

  abbrev goes : ℕ → Bool
  goes = goes_with journal more

  abbrev both : List Entry
  both = both_lines journal more

  -- the movements with those that come
  together : line_of old.movements ++ comes ≡ posting_line journal ++ coming journal more
  together = ap (λ (line : List Entry). line ++ comes) of.line ∙ ap (λ (es : List Entry). posting_line journal ++ es) are.comes_is

  pub apart-of : HaveOwnPlaces (line_of old.movements ++ comes)
  apart-of = subst HaveOwnPlaces (sym together) (coming-own_places journal more)

  pub few-of : length (slots_in old) + length comes ≤ 2 ^ 20
  few-of = omega (
    arith,
    coming-few journal more legal,
    ap (λ (line : List Entry). length line) of.line,
    ap (λ (es : List Entry). length es) are.comes_is,
    count-of (slots_in old),
  )

  pub dated-of : AreDated (line_of old.movements ++ comes)
  dated-of = subst AreDated (sym together) (coming-dated journal more legal)

  charges-are : (line : Target) → charged_to line (charge_pairs charges) ≡ charged_to line (charges_after journal more)
  charges-are line = ap (λ (cs : List (Target × ℕ)). charged_to line cs) are.charges_is

  uncharged-are : (line : Target) → charged_to line (charge_pairs uncharged) ≡ charged_to line (uncharged_after journal more)
  uncharged-are line = ap (λ (cs : List (Target × ℕ)). charged_to line cs) are.uncharged_is

  pub fits-of : (line : Target) → charged_by old.movements line + charged_to line (charge_pairs charges) < 2 ^ 128
  fits-of line = omega (arith, charges-fit journal more line legal, of.charged line, charges-are line)

  -- the movements once those that come are added
  module _ (mid : Movements) (line : line_of mid ≡ put_all (line_of old.movements) comes) where
    pub line-is : line_of mid ≡ both
    line-is = line ∙ ap (λ (l : List Entry). put_all l comes) of.line ∙ ap (put_all (posting_line journal)) are.comes_is

    ordered : IsInPostingOrder (line_of mid)
    ordered = subst IsInPostingOrder (sym line-is) (both-ordered journal more)

    pub new-of : AreNew n (line_of mid) comes
    new-of =
        subst (λ (m : ℕ). AreNew m (line_of mid) comes) (sym of.target)
        (subst (λ (l : List Entry). AreNew (length journal) l comes) (sym line-is)
        (subst (AreNew (length journal) both) (sym are.comes_is) (coming-new journal more)))

    pub held-of : (e : Entry) → Contains comes e → Contains (line_of mid) e
    held-of e held =
        subst (λ (l : List Entry). Contains l e) (sym line-is)
        (coming-in_both journal more e (subst (λ (es : List Entry). Contains es e) are.comes_is held))

    pub going-of : AreOfRecords (line_of mid) gone
    going-of =
        subst (λ (l : List Entry). AreOfRecords l gone) (sym line-is)
        (subst (AreOfRecords both) (sym are.gone_is) (gone-of_records journal more))

    abbrev touches : Entry → Bool
    touches = is_touched_by n (has_record gone) (is_charged_in (charge_pairs charges ++ charge_pairs uncharged)) (line_of mid)

    -- and once what they touch is suspect
    module _ (touched : Movements) (kept : AreKept mid) (slots : slots_of mid ≡ put_all_new (slots_in old) comes)
        (marked : AreMarked mid touched (λ f. touches f ≡ true))
        (charged : (target : Target) → charged_by mid target ≡ charged_by old.movements target + charged_to target (charge_pairs charges)) where
      pub gone-held : (e : Entry) → Contains gone e → Contains (line_of touched) e
      gone-held e held =
          subst (λ (l : List Entry). Contains l e) (sym (marked.alike.entries ∙ line-is))
          (gone-in_both journal more e (subst (λ (es : List Entry). Contains es e) are.gone_is held))

      pub gone-apart : HaveOwnPlaces gone
      gone-apart = subst HaveOwnPlaces (sym are.gone_is) (gone-own_places journal more)

      charges-sum : (target : Target) → added (journal ++ more) target + charged_to target (charge_pairs uncharged) ≡ charged_by touched target
      charges-sum target =
          omega (
            arith,
            added-changed journal more target (AreSound-from (journal ++ more) legal),
            uncharged-are target,
            charges-are target,
            of.charged target,
            charged target,
            marked.alike.charged target,
          )

      pub gone-charged : (target : Target) → charged_to target (charge_pairs uncharged) ≤ charged_by touched target
      gone-charged target = omega (arith, charges-sum target)

      -- and once those that go are taken out
      module _ (made : Build) (kept_now : AreKept made.movements) (slots_now : slots_in made ≡ slots_but_all (slots_of touched) gone)
          (line_now : line_of made.movements ≡ line_but_all (line_of touched) gone)
          (charged_now : (target : Target) → charged_by made.movements target + charged_to target (charge_pairs uncharged) ≡ charged_by touched target) where
        pub line-left : line_of made.movements ≡ posting_line (journal ++ more)
        line-left =
            line_now ∙ ap (λ (l : List Entry). line_but_all l gone) (marked.alike.entries ∙ line-is)
            ∙ ap (line_but_all both) are.gone_is ∙ gone-left journal more

        -- what is left was there, and none that goes stands at its place
        was-there : (e : Entry) → Contains (posting_line (journal ++ more)) e → Contains both e × (is_left goes e ≡ true)
        was-there e held =
            Contains-filtered (is_left goes) both e (subst (λ (l : List Entry). Contains l e) (sym (both-left journal more)) held)

        elsewhere : (e : Entry) → Contains (posting_line (journal ++ more)) e → StandElsewhere gone e.place
        elsewhere e held g goes_out same =
            let there = was-there e held in
            let out = subst (λ (es : List Entry). Contains es g) are.gone_is goes_out in
            let own : e ≡ g = one-at both g e (both-ordered journal more) (gone-in_both journal more g out) there.0 same in
            let leaves : goes (record_of e) ≡ true = subst (λ (f : Entry). goes (record_of f) ≡ true) (sym own) (gone-goes journal more g out) in
            false≢true (ap not (sym leaves) ∙ there.1)

        in-mid : (e : Entry) → Contains (posting_line (journal ++ more)) e → Contains (line_of mid) e
        in-mid e held = subst (λ (l : List Entry). Contains l e) (sym line-is) (was-there e held).0

        pub found-is : (e : Entry) → Contains (posting_line (journal ++ more)) e → found_in made e.place ≡ found_in old e.place
        found-is e held =
            ap (λ (s : List Slot). found_of s e.place) slots_now
            ∙ found-stays (slots_of touched) gone e.place (elsewhere e held)
            ∙ marked.alike.found e.place ∙ ap (λ (s : List Slot). found_of s e.place) slots ∙ found-all (slots_in old) comes apart-of e.place

        pub valued-is : (e : Entry) → Contains (posting_line (journal ++ more)) e → valued_in made e.place ≡ valued_in old e.place
        valued-is e held =
            ap (λ (s : List Slot). revalued_of s e.place) slots_now
            ∙ revalued-stays (slots_of touched) gone e.place (elsewhere e held)
            ∙ marked.alike.revalued e.place ∙ ap (λ (s : List Slot). revalued_of s e.place) slots ∙ revalued-all (slots_in old) comes apart-of e.place

        touches-new : (e : Entry) → Contains comes e → touches e ≡ true
        touches-new e held =
            or_left (is_new n e)
            (is_charged_in (charge_pairs charges ++ charge_pairs uncharged) (own_line e) || follows_any (is_changed n (has_record gone)) (earlier (line_of mid) e) e)
            ((new-of e (held-of e held)).1 held)

        touches-so : (e : Entry) → Contains (line_of mid) e → touches e ≡ is_touched_by n goes (is_recharged journal more) (line_of mid) e
        touches-so e held =
            touched-alike n (line_of mid) ordered (has_record gone) goes (is_charged_in (charge_pairs charges ++ charge_pairs uncharged))
            (is_recharged journal more) e held
            (λ f there. ap (λ (es : List Entry). has_record es (record_of f)) are.gone_is
            ∙ has-goes journal more f (subst (λ (l : List Entry). Contains l f) line-is there))
            (ap (λ (cs : List (Target × ℕ)). is_charged_in (cs ++ charge_pairs uncharged) (own_line e)) are.charges_is
            ∙ ap (λ (cs : List (Target × ℕ)). is_charged_in (charges_after journal more ++ cs) (own_line e)) are.uncharged_is
            ∙ sym (recharged-named journal more (own_line e)))

        pub touched-is : (e : Entry) → Contains (posting_line (journal ++ more)) e
            → suspects_in made e.place ≡ (suspects_in old e.place || is_touched_by n goes (is_recharged journal more) both e)
        touched-is e held =
            ap (λ (s : List Slot). suspects_of s e.place) slots_now
            ∙ suspect-stays (slots_of touched) gone e.place (elsewhere e held)
            ∙ extended-suspects touches (slots_in old) comes mid touched apart-of slots ordered touches-new held-of marked e (in-mid e held)
            ∙ ap (λ (b : Bool). suspects_in old e.place || b) (touches-so e (in-mid e held))
            ∙ ap (λ (l : List Entry). suspects_in old e.place || is_touched_by n goes (is_recharged journal more) l e) line-is

        in-range : (p : Place) → IsWorthInRange (found_in made) p
        in-range p =
            subst (λ (s : List Slot). IsWorthInRange (found_of s) p) (sym slots_now)
            (range-stays (slots_of touched) gone p
            (range-alike (found_in old) (found_of (slots_of touched)) p
            (marked.alike.found p ∙ ap (λ (s : List Slot). found_of s p) slots ∙ found-all (slots_in old) comes apart-of p) (of.built.in_range p)))

        built-then : IsBuildOf (journal ++ more) (base_of old) (found_in made) (suspects_in made) (valued_in made) (fetches_of old + 1) (turns_of old + 1)
        built-then =
            IsBuildOf-alike (journal ++ more) (base_of old) (found_in old) (found_in made) (suspects_in made) (valued_in old)
            (valued_in made) (fetches_of old + 1) (turns_of old + 1)
            (IsBuildOf-change journal more (base_of old) (found_in old) (suspects_in old) (suspects_in made) (valued_in old) (fetches_of old)
            (turns_of old) of.built legal
            (λ e held. touched-is e held
            ∙ ap (λ (m : ℕ). suspects_in old e.place || is_touched_by m goes (is_recharged journal more) both e) of.target))
            found-is in-range valued-is

        -- the spots of those that were published and go
        spots-then : IsPermutation (gone_of old ++ map spot_of_entry (filter (is_old (base_of old)) gone)) (gone_spots (base_of old) (journal ++ more))
        spots-then =
            subst (λ (es : List Entry). IsPermutation (gone_of old ++ map spot_of_entry (filter (is_old (base_of old)) es)) (gone_spots (base_of old) (journal ++ more)))
            (sym are.gone_is) (more-spots journal more (base_of old) (omega (arith, of.fetched, of.target)) (gone_of old) of.gone)

        pub of-extended : 0 < length more → base_of made ≡ base_of old → target_of made ≡ length (journal ++ more)
            → gone_of made ≡ gone_of old ++ map spot_of_entry (filter (is_old (base_of old)) gone) → fetches_of made ≡ fetches_of old + 1
            → turns_of made ≡ turns_of old + 1 → IsOf (journal ++ more) made
        of-extended some base target spots fetches turns =
            record {
              kept = kept_now;
              line = line-left;
              charged = λ line. omega (arith, charged_now line, charges-sum line);
              target = target;
              fetched = omega (arith, of.fetched, of.target, target, base, fetches, length-append journal more, some);
              gone = subst (λ (s : List Spot). IsPermutation s (gone_spots (base_of made) (journal ++ more))) (sym spots)
                  (subst (λ (b : ℕ). IsPermutation (gone_of old ++ map spot_of_entry (filter (is_old (base_of old)) gone)) (gone_spots b (journal ++ more))) (sym base) spots-then);
              built = subst (λ (b : ℕ). IsBuildOf (journal ++ more) b (found_in made) (suspects_in made) (valued_in made) (fetches_of made) (turns_of made)) (sym base)
                  (subst (λ (k : ℕ). IsBuildOf (journal ++ more) (base_of old) (found_in made) (suspects_in made) (valued_in made) k (turns_of made)) (sym fetches)
                  (subst (λ (k : ℕ). IsBuildOf (journal ++ more) (base_of old) (found_in made) (suspects_in made) (valued_in made) (fetches_of old + 1) k) (sym turns) built-then));
            }
