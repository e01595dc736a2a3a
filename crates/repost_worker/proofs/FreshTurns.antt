-- How many turns come before records are published that the build has not taken in.
use Rattle.std.proofs.Common.{◌≡◌, ◌≢◌, ℕ, ◌+◌, ◌<◌, ◌≤◌, Bool, true, false, cond, ◌&&◌, ◌||◌, ◌⊎◌, List, [], ◌∷◌, ◌++◌, length, take, filter, Contains, inl, inr, refl, sym, ap, ◌∙◌, subst, arith}
use Rattle.std.proofs.Math.Seq.{take-length}
use Rattle.std.proofs.lemmas.Bool.{false≢true}
use Rattle.stock_nums.specs.declared.entry.Entry.{Entry}
use Rattle.stock_nums.specs.declared.numbers.RecordNo.{RecordNo}
use Rattle.stock_nums.specs.declared.place.Place.{Place}
use Rattle.stock_nums.proofs.PlaceOrder.{is_before-irreflexive}
use Rattle.stock_nums.specs.Places.{is_before}
use Rattle.stock_model.specs.History.{records, accepted, covered}
use Rattle.stock_model.specs.InOrder.{IsBefore}
use Rattle.stock_model.specs.PostingOrder.{posting_line}
use Rattle.stock_model.specs.declared.deeds.Deed.{Deed}
use Rattle.stock_model.specs.declared.deeds.Deed.TheVariants as deed
use Rattle.stock_model.specs.declared.records.Record.{Record}
use Rattle.stock_model.proofs.Pairwise.{Pairwise, Pairwise-from_AllPairs, Precedes-Contains, Contains-first, Contains-later}
use Rattle.stock_laws.proofs.PostingLine.{IsInPostingOrder-posting_line}
use Rattle.repost_frontier.specs.Readings.{suspects_of}
use Rattle.repost_frontier.specs.declared.slot.Slot.{Slot}
use Rattle.repost_laws.specs.Builds.{Suspects, IsClean}
use Rattle.repost_laws.specs.Touched.{is_new}
use Rattle.repost_build.specs.Builds.{IsTurned}
use Rattle.repost_build.specs.Readings.{suspects_in, target_of, turns_of, IsUnchanged}
use Rattle.repost_build.specs.declared.build.Build.{Build}
use Rattle.repost_worker.specs.Turns.{records_of, IsCleanOf, CanFetch, IsFetched, IsTurnTo}
use Rattle.repost_worker.specs.Runs.{AreTurnsTo, AreAtWork}
use Rattle.repost_worker.specs.declared.turn.Turned.{Turned}
use Rattle.repost_worker.specs.declared.turn.Turned.TheVariants.{Valued, Fetched, Published, Idle}
use Rattle.repost_worker.proofs.Works.{records-published, covered-published}

-- the movement is of a record after the first n ones, and suspect
abbrev pub is_waiting : ℕ → Suspects → Entry → Bool
is_waiting n suspects e = is_new n e && suspects e.place

-- how many of the line are
abbrev pub waiting : ℕ → Suspects → List Entry → ℕ
waiting n suspects line = length (filter (is_waiting n suspects) line)

waiting-cons : (n : ℕ) (suspects : Suspects) (e : Entry) (es : List Entry) (b : Bool) → is_waiting n suspects e ≡ b
    → waiting n suspects (e ∷ es) ≡ cond b (waiting n suspects es + 1) (waiting n suspects es)
waiting-cons n suspects e es true is = rw is (omega arith)
waiting-cons n suspects e es false is = rw is refl

always : (a : Bool) → (a || true) ≡ true
always true = refl
always false = refl

both : (a b : Bool) → a ≡ true → b ≡ true → (a && b) ≡ true
both a b first second = rw first second

none : (a b : Bool) → b ≡ false → (a && b) ≡ false
none true b is = is
none false b is = refl

-- none waits where none is suspect
waiting-clean : (n : ℕ) (suspects : Suspects) (line : List Entry) → IsClean line suspects → waiting n suspects line ≡ 0
waiting-clean n suspects [] clean = refl
waiting-clean n suspects (e ∷ es) clean =
    waiting-cons n suspects e es false (none (is_new n e) (suspects e.place) (clean e (Contains-first e es)))
    ∙ waiting-clean n suspects es (λ f held. clean f (Contains-later e es f held))

-- where more are suspect, more wait
waiting-more : (n : ℕ) (old new : Suspects) (line : List Entry) → ((e : Entry) → Contains line e → old e.place ≡ true → new e.place ≡ true)
    → waiting n old line ≤ waiting n new line
waiting-more n old new [] kept = omega arith
waiting-more n old new (e ∷ es) kept =
    let later = waiting-more n old new es (λ f held. kept f (Contains-later e es f held)) in
    let own = kept e (Contains-first e es) in
    grind (arith, later, own)

-- all but the one at a place, which is one of them at most
less-first : (n : ℕ) (old new : Suspects) (e : Entry) (es : List Entry) (was now : Bool) → old e.place ≡ was → new e.place ≡ now
    → (now ≡ true → waiting n old es ≤ waiting n new es + 1)
    → (was ≡ true → now ≡ false → waiting n old es ≤ waiting n new es)
    → (was ≡ false → waiting n old es ≤ waiting n new es + 1)
    → waiting n old (e ∷ es) ≤ waiting n new (e ∷ es) + 1
less-first n old new e es true true is is' both gone never =
    let later = both refl in
    grind (arith, later, is, is')
less-first n old new e es true false is is' both gone never =
    let later = gone refl refl in
    grind (arith, later, is, is')
less-first n old new e es false now is is' both gone never =
    let later = never refl in
    grind (arith, later, is)

waiting-less : (n : ℕ) (old new : Suspects) (place : Place) (line : List Entry) → Pairwise IsBefore line
    → ((e : Entry) → Contains line e → old e.place ≡ true → e.place ≢ place → new e.place ≡ true)
    → waiting n old line ≤ waiting n new line + 1
waiting-less n old new place [] order kept = omega arith
waiting-less n old new place (e ∷ es) order kept =
    let later : waiting n old es ≤ waiting n new es + 1 = waiting-less n old new place es order.1 (λ f held. kept f (Contains-later e es f held)) in
    less-first n old new e es (old e.place) (new e.place) refl refl (λ now. later)
    (λ was now. waiting-more n old new es (λ f held suspect. kept f (Contains-later e es f held) suspect (λ same.
    false≢true (sym now ∙ kept e (Contains-first e es) was (λ here.
    false≢true (sym (is_before-irreflexive place)
    ∙ subst (λ (p : Place). is_before p place ≡ true) here
    (subst (λ (p : Place). is_before e.place p ≡ true) same (Precedes-Contains IsBefore e es f order.0 held))))))))
    (λ was. later)

-- all of these records wait once they are fetched
waiting-new : (n : ℕ) (suspects : Suspects) (line : List Entry)
    → ((e : Entry) → Contains line e → is_new n e ≡ true → suspects e.place ≡ true)
    → waiting n suspects line ≡ length (filter (is_new n) line)
waiting-new n suspects [] all = refl
waiting-new n suspects (e ∷ es) all =
    let later = waiting-new n suspects es (λ f held. all f (Contains-later e es f held)) in
    let own = all e (Contains-first e es) in
    grind (arith, later, own)

-- ---- turns

-- the records after the first n ones: the build has taken in none of them, or all, which wait in part, or they are covered.
-- Then so many turns come at least until they are
pub record IsNotTaken (n : ℕ) (history : List Deed) (build : Build) (least : ℕ) : Type 0 where
  pub target : target_of build ≡ n
  pub covers : covered history ≤ n
  pub needed : least ≡ length (filter (is_new n) (posting_line (records history))) + 2

pub record IsTaken (n : ℕ) (history : List Deed) (build : Build) (least : ℕ) : Type 0 where
  pub more : n < accepted history
  pub target : target_of build ≡ accepted history
  pub covers : covered history ≤ n
  pub needed : least ≡ waiting n (suspects_in build) (posting_line (records_of history build)) + 1

pub record IsCovered (n : ℕ) (history : List Deed) (least : ℕ) : Type 0 where
  pub covers : n < covered history
  pub needed : least ≡ 0

abbrev pub Needs : ℕ → List Deed → Build → ℕ → Type 0
Needs n history build needed = IsNotTaken n history build needed ⊎ (IsTaken n history build needed ⊎ IsCovered n history needed)

-- after a turn there is no more than one fewer
abbrev pub NeedsThen : ℕ → List Deed → Build → ℕ → Type 0
NeedsThen n history build needed = (then : ℕ) × Needs n history build then × (needed ≤ then + 1)

module _ (n : ℕ) (history : List Deed) (build build' : Build) where
  -- the history is as it was, and the build is of the same records
  not_taken-still : (needed : ℕ) → IsNotTaken n history build needed → target_of build' ≡ target_of build → NeedsThen n history build' needed
  not_taken-still needed is same = (
    needed,
    inl (record { target = same ∙ is.target; covers = is.covers; needed = is.needed }),
    omega arith,
  )

  taken-valued : (needed : ℕ) (place : Place) → IsTaken n history build needed → IsTurned (records_of history build) build build' place
      → NeedsThen n history build' needed
  taken-valued needed place is turned =
      let line = posting_line (records_of history build) in
      let less = waiting-less n (suspects_in build) (suspects_in build') turned.entry.place line
      (Pairwise-from_AllPairs IsBefore line (IsInPostingOrder-posting_line (records_of history build)))
      (λ e held suspect other. (turned.turn.marked e held).1 (inl (suspect, other))) in (
        waiting n (suspects_in build') (posting_line (records_of history build')) + 1,
        inr (inl (record { more = is.more; target = turned.target ∙ is.target; covers = is.covers; needed = refl })),
        subst (λ (t : ℕ). needed ≤ waiting n (suspects_in build') (posting_line (take t (records history))) + 1 + 1) (sym turned.target)
            (omega (arith, less, is.needed)),
      )

  taken-idle : (needed : ℕ) → IsTaken n history build needed → IsUnchanged build build' → NeedsThen n history build' needed
  taken-idle needed is same = (
    waiting n (suspects_in build') (posting_line (records_of history build')) + 1,
    inr (inl (record { more = is.more; target = same.target ∙ is.target; covers = is.covers; needed = refl })),
    subst (λ (t : ℕ). needed ≤ waiting n (suspects_in build') (posting_line (take t (records history))) + 1 + 1) (sym same.target)
        (subst (λ (slots : List Slot). needed ≤ waiting n (suspects_of slots) (posting_line (records_of history build)) + 1 + 1) (sym same.slots)
        (omega (arith, is.needed))),
  )

  not_taken-fetched : (needed : ℕ) → IsNotTaken n history build needed → CanFetch history build → IsFetched history build build' → NeedsThen n history build' needed
  not_taken-fetched needed is can fetched =
      let all = records history in
      let line = posting_line all in
      let fresh : waiting n (suspects_in build') line ≡ length (filter (is_new n) line) = waiting-new n (suspects_in build') line (λ e held new.
      fetched.touched e held
      ∙ rw is.target (rw new (always (suspects_in build e.place)))) in
      let whole : records_of history build' ≡ all = ap (λ (t : ℕ). take t all) fetched.target ∙ take-length all in (
        waiting n (suspects_in build') (posting_line (records_of history build')) + 1,
        inr (inl (record { more = omega (arith, can.0, is.target); target = fetched.target; covers = is.covers; needed = refl })),
        subst (λ (rs : List Record). needed ≤ waiting n (suspects_in build') (posting_line rs) + 1 + 1) (sym whole) (omega (arith, fresh, is.needed)),
      )

covered-needs : (n : ℕ) (history : List Deed) (build : Build) (needed : ℕ) → needed ≡ 0 → n < covered history → NeedsThen n history build needed
covered-needs n history build needed zero more = (0, inr (inr (record { covers = more; needed = refl })), omega (arith, zero))

needs-published : (n : ℕ) (history : List Deed) (m : RecordNo) (build build' : Build) (needed : ℕ) → Needs n history build needed
    → IsCleanOf history build → covered history < target_of build → m.0 ≡ target_of build → target_of build' ≡ target_of build
    → NeedsThen n (history ++ deed.Published m ∷ []) build' needed
needs-published n history m build build' needed (inl is) clean more all same = (
  needed,
  inl (record {
    target = same ∙ is.target;
    covers = omega (arith, covered-published history m, all, is.target);
    needed = is.needed ∙ ap (λ (rs : List Record). length (filter (is_new n) (posting_line rs)) + 2) (sym (records-published history m));
  }),
  omega arith,
)
needs-published n history m build build' needed (inr (inl is)) clean more all same =
    let zero = waiting-clean n (suspects_in build) (posting_line (records_of history build)) clean in (
      0,
      inr (inr (record { covers = omega (arith, covered-published history m, all, is.target, is.more); needed = refl })),
      omega (arith, zero, is.needed),
    )
needs-published n history m build build' needed (inr (inr is)) clean more all same =
    covered-needs n (history ++ deed.Published m ∷ []) build' needed is.needed (omega (arith, covered-published history m, all, more, is.covers))

-- the history stays
needs-still : (n : ℕ) (history : List Deed) (build build' : Build) (needed : ℕ) → Needs n history build needed
    → target_of build' ≡ target_of build
    → (IsTaken n history build needed → NeedsThen n history build' needed) → NeedsThen n history build' needed
needs-still n history build build' needed (inl is) same taken = not_taken-still n history build build' needed is same
needs-still n history build build' needed (inr (inl is)) same taken = taken is
needs-still n history build build' needed (inr (inr is)) same taken = covered-needs n history build' needed is.needed is.covers

needs-fetched : (n : ℕ) (history : List Deed) (build build' : Build) (needed : ℕ) → Needs n history build needed
    → CanFetch history build → IsFetched history build build' → NeedsThen n history build' needed
needs-fetched n history build build' needed (inl is) can fetched = not_taken-fetched n history build build' needed is can fetched
needs-fetched n history build build' needed (inr (inl is)) can fetched = absurd (omega (arith, is.target, can.0))
needs-fetched n history build build' needed (inr (inr is)) can fetched = covered-needs n history build' needed is.needed is.covers

needs-turn : (n : ℕ) (history : List Deed) (build : Build) (turned : Turned) (history' : List Deed) (build' : Build) (needed : ℕ)
    → Needs n history build needed → IsTurnTo history build turned history' build' → NeedsThen n history' build' needed
needs-turn n history build (Valued place) history' build' needed needs turn =
    subst (λ (h : List Deed). NeedsThen n h build' needed) (sym turn.0)
    (needs-still n history build build' needed needs turn.1.target (λ is. taken-valued n history build build' needed place is turn.1))
needs-turn n history build (Fetched m) history' build' needed needs turn =
    subst (λ (h : List Deed). NeedsThen n h build' needed) (sym turn.3)
    (needs-fetched n history build build' needed needs turn.1 turn.4)
needs-turn n history build (Published m) history' build' needed needs turn =
    subst (λ (h : List Deed). NeedsThen n h build' needed) (sym turn.4)
    (needs-published n history m build build' needed needs turn.0 turn.2 turn.3 turn.5.target)
needs-turn n history build Idle history' build' needed needs turn =
    subst (λ (h : List Deed). NeedsThen n h build' needed) (sym turn.2)
    (needs-still n history build build' needed needs turn.3.target (λ is. taken-idle n history build build' needed is turn.3))

needs-turns : (n : ℕ) (turns : List Turned) (history : List Deed) (build : Build) (history' : List Deed) (build' : Build) (needed : ℕ)
    → Needs n history build needed → AreTurnsTo turns history build history' build'
    → (then : ℕ) × Needs n history' build' then × (needed ≤ then + length turns)
needs-turns n [] history build history' build' needed needs run = (
  needed,
  subst (λ (h : List Deed). Needs n h build' needed) (sym run.0) (subst (λ (b : Build). Needs n history b needed) (sym run.1) needs),
  omega arith,
)
needs-turns n (turned ∷ turns) history build history' build' needed needs run =
    let one = needs-turn n history build turned run.0 run.1 needed needs run.2 in
    let rest = needs-turns n turns run.0 run.1 history' build' one.0 one.1 run.3 in
    (rest.0, rest.1, omega (arith, one.2, rest.2))

none-needed : (n : ℕ) (history : List Deed) (build : Build) (needed : ℕ) → Needs n history build needed → n < covered history → needed ≡ 0
none-needed n history build needed (inl is) more = absurd (omega (arith, is.covers, more))
none-needed n history build needed (inr (inl is)) more = absurd (omega (arith, is.covers, more))
none-needed n history build needed (inr (inr is)) more = is.needed

-- Records that the build has not taken in are covered only after a fetch, the valuation of each of their movements, and a publication.
pub fresh-turns : (turns : List Turned) (history : List Deed) (build : Build) (history' : List Deed) (build' : Build)
    → covered history ≤ target_of build → AreTurnsTo turns history build history' build' → target_of build < covered history'
    → length (filter (is_new (target_of build)) (posting_line (records history))) + 2 ≤ length turns
fresh-turns turns history build history' build' low run more =
    let n = target_of build in
    let first : Needs n history build (length (filter (is_new n) (posting_line (records history))) + 2) =
    inl (record { target = refl; covers = low; needed = refl }) in
    let last = needs-turns n turns history build history' build' (length (filter (is_new n) (posting_line (records history))) + 2) first run in
    omega (arith, last.2, none-needed n history' build' last.0 last.1 more)

-- where no movement is suspect no more than a publication is left to come for what was taken in since
needed-clean : (n : ℕ) (history : List Deed) (build : Build) (needed : ℕ) → Needs n history build needed → IsCleanOf history build
    → n < target_of build → needed ≤ 1
needed-clean n history build needed (inl is) clean more = absurd (omega (arith, is.target, more))
needed-clean n history build needed (inr (inl is)) clean more =
    omega (arith, is.needed, waiting-clean n (suspects_in build) (posting_line (records_of history build)) clean)
needed-clean n history build needed (inr (inr is)) clean more = omega (arith, is.needed)

-- Where they were taken in since, and no movement is suspect any more, there was a fetch, and each of their movements was valued.
pub valued-turns : (turns : List Turned) (history : List Deed) (build : Build) (history' : List Deed) (build' : Build)
    → covered history ≤ target_of build → AreTurnsTo turns history build history' build' → IsCleanOf history' build'
    → target_of build < target_of build'
    → length (filter (is_new (target_of build)) (posting_line (records history))) + 1 ≤ length turns
valued-turns turns history build history' build' low run clean more =
    let n = target_of build in
    let first : Needs n history build (length (filter (is_new n) (posting_line (records history))) + 2) =
    inl (record { target = refl; covers = low; needed = refl }) in
    let last = needs-turns n turns history build history' build' (length (filter (is_new n) (posting_line (records history))) + 2) first run in
    omega (arith, last.2, needed-clean n history' build' last.0 last.1 clean more)

-- ---- since the last publication

-- nothing was published since the first history; or those turns were made that do not come any more for what is not covered
pub record IsSince (history : List Deed) (build : Build) : Type 0 where
  pub needed : ℕ
  pub needs : Needs (covered history) history build needed
  pub made : length (filter (is_new (covered history)) (posting_line (records history))) + 2 ≤ needed + turns_of build

abbrev pub IsFirstOrSince : List Deed → List Deed → Build → Type 0
IsFirstOrSince first history build = (history ≡ first) ⊎ IsSince history build

-- a turn that counts
since-counted : (first history : List Deed) (build : Build) (turned : Turned) (build' : Build) → IsFirstOrSince first history build
    → IsTurnTo history build turned history build' → turns_of build' ≡ turns_of build + 1 → IsFirstOrSince first history build'
since-counted first history build turned build' (inl same) turn one = inl same
since-counted first history build turned build' (inr since) turn one =
    let then = needs-turn (covered history) history build turned history build' since.needed since.needs turn in
    inr (record { needed = then.0; needs = then.1; made = omega (arith, since.made, then.2, one) })

since-published : (first history : List Deed) (n : RecordNo) (build' : Build) → target_of build' ≡ n.0
    → IsFirstOrSince first (history ++ deed.Published n ∷ []) build'
since-published first history n build' target =
    let now : List Deed = history ++ deed.Published n ∷ [] in
    let is : target_of build' ≡ covered now = target ∙ sym (covered-published history n) in
    inr (record {
      needed = length (filter (is_new (covered now)) (posting_line (records now))) + 2;
      needs = inl (record { target = is; covers = omega arith; needed = refl });
      made = omega arith;
    })

since-turn : (first history : List Deed) (build : Build) (turned : Turned) (history' : List Deed) (build' : Build)
    → IsFirstOrSince first history build → IsTurnTo history build turned history' build' → turned ≢ Idle
    → IsFirstOrSince first history' build'
since-turn first history build (Valued place) history' build' since turn more =
    subst (λ (h : List Deed). IsFirstOrSince first h build') (sym turn.0)
    (since-counted first history build (Valued place) build' since (refl, turn.1) turn.1.turns)
since-turn first history build (Fetched n) history' build' since turn more =
    subst (λ (h : List Deed). IsFirstOrSince first h build') (sym turn.3)
    (since-counted first history build (Fetched n) build' since (turn.0, turn.1, turn.2, refl, turn.4) turn.4.turns)
since-turn first history build (Published n) history' build' since turn more =
    subst (λ (h : List Deed). IsFirstOrSince first h build') (sym turn.4)
    (since-published first history n build' (turn.5.target ∙ sym turn.3))
since-turn first history build Idle history' build' since turn more = absurd (more refl)

since-turns : (first : List Deed) (turns : List Turned) (history : List Deed) (build : Build) (history' : List Deed) (build' : Build)
    → IsFirstOrSince first history build → AreTurnsTo turns history build history' build' → AreAtWork turns
    → IsFirstOrSince first history' build'
since-turns first [] history build history' build' since run at_work =
    subst (λ (h : List Deed). IsFirstOrSince first h build') (sym run.0)
    (subst (λ (b : Build). IsFirstOrSince first history b) (sym run.1) since)
since-turns first (turned ∷ turns) history build history' build' since run at_work =
    since-turns first turns run.0 run.1 history' build'
    (since-turn first history build turned run.0 run.1 since run.2 (at_work turned (Contains-first turned turns))) run.3
    (λ t held. at_work t (Contains-later turned turns t held))

-- Where some turns published, and no movement is suspect of more records than are covered, each movement of those was valued since.
pub valued-since : (turns : List Turned) (history : List Deed) (build : Build) (history' : List Deed) (build' : Build)
    → AreTurnsTo turns history build history' build' → AreAtWork turns → IsCleanOf history' build' → covered history' < target_of build'
    → (history' ≡ history) ⊎ (length (filter (is_new (covered history')) (posting_line (records history'))) + 1 ≤ turns_of build')
valued-since turns history build history' build' run at_work clean more =
    elim (since-turns history turns history build history' build' (inl refl) run at_work) [
      | inl same ↦ inl same
      | inr since ↦ inr (omega (arith, since.made, needed-clean (covered history') history' build' since.needed since.needs clean more))
    ]
