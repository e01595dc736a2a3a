-- What is charged to lines with further records of a sound journal: what they charge more, less what those charge that they take back.
use Rattle.std.proofs.Common.{◌≡◌, ℕ, ◌+◌, ◌<◌, ◌≤◌, Bool, true, false, cond, ◌&&◌, ◌||◌, not, nat_lt, List, [], ◌∷◌, ◌++◌, length, take, refl, sym, ap, ◌∙◌, arith, append_assoc, length-append}
use Rattle.std.specs.List.{flat_map, enumerate_from, list_any}
use Rattle.std.proofs.lemmas.Bool.{false≢true}
use Rattle.std.proofs.lemmas.Bool.Decides.{nat_tests}
use Rattle.std.proofs.lemmas.List.{append-nil, take-append-le, take_all}
use Rattle.std.proofs.lemmas.List.Folds.{list_any-append}
use Rattle.stock_nums.specs.declared.cause.Target.{Target}
use Rattle.stock_model.specs.Entries.{is_live}
use Rattle.stock_model.specs.Journals.{AreSound, AreSoundAfter}
use Rattle.stock_model.specs.LandedCost.{charged, record_charged, charged_if, is_charge_of, added}
use Rattle.stock_model.specs.declared.records.Record.{Record}
use Rattle.stock_model.proofs.NoFaults.{NoFaults-from}
use Rattle.stock_laws.proofs.LiveEntries.{is_live-newest}
use Rattle.stock_laws.proofs.LiveLines.{is_live-longer}
use Rattle.cost_links.specs.Charged.{charged_to}
use Rattle.cost_links.proofs.ChargeSums.{charged_to-append}
use Rattle.repost_fetch.specs.Fetched.{is_taken, taken_charge, uncharged_after}
use Rattle.repost_laws.specs.Changes.{recharges, is_recharged}
use Rattle.repost_laws.specs.Fetches.{charges_after, is_charged_in}
use Rattle.repost_laws.specs.Touched.{charges_to, is_charged_by}
use Rattle.repost_laws.proofs.MoreCharges.{charged-longer, is_charged_by-more}

-- of the first records one more
take-done : (done rest : List Record) (r : Record) (k : ℕ) → k ≡ length done + 1 → take k (done ++ r ∷ rest) ≡ done ++ r ∷ []
take-done done rest r k count =
    let next = done ++ r ∷ [] in
    let size : k ≡ length next = omega (arith, count, length-append done (r ∷ [])) in
    ap (take k) (sym (append_assoc done (r ∷ []) rest))
    ∙ ap (λ (n : ℕ). take n (next ++ rest)) size
    ∙ take-append-le (length next) next rest (omega arith)
    ∙ take_all (length next) next (omega arith)

-- what charges where one of two tests tells
one-comes : (live : Bool) (line : Target) (charges : List (Target × ℕ))
    → charged_to line (cond live charges []) + charged_to line (cond (not live) charges []) ≡ charged_to line charges
one-comes true line charges = omega arith
one-comes false line charges = omega arith

one-stays : (was live : Bool) (line : Target) (charges : List (Target × ℕ)) → (live ≡ true → was ≡ true)
    → charged_to line (cond live charges []) + charged_to line (cond (was && not live) charges []) ≡ charged_to line (cond was charges [])
one-stays true true line charges before = omega arith
one-stays true false line charges before = omega arith
one-stays false true line charges before = absurd (false≢true (before refl))
one-stays false false line charges before = omega arith

first-holds : (a b : Bool) → b ≡ (a && b) → b ≡ true → a ≡ true
first-holds true b both holds = refl
first-holds false b both holds = sym both ∙ holds

or-nothing : (b : Bool) → (b || false) ≡ b
or-nothing true = refl
or-nothing false = refl

module _ (journal more : List Record) (line : Target) where
  abbrev all : List Record
  all = journal ++ more

  abbrev taken : ℕ → Bool
  taken = is_taken journal more

  -- what the records charge that are in force, and that go, told by their numbers
  abbrev still : ℕ → List Record → List (Target × ℕ)
  still k rs = flat_map (charged_if (is_live all) all) (enumerate_from k rs)

  abbrev off : ℕ → List Record → List (Target × ℕ)
  off k rs = flat_map (taken_charge taken all) (enumerate_from k rs)

  -- a sound record charges the same whatever follows it
  charges-here : (done rest : List Record) (r : Record) → all ≡ done ++ r ∷ rest → AreSoundAfter done (r ∷ rest)
      → record_charged all r ≡ charged done r.what
  charges-here done rest r is sound =
      ap (λ (j : List Record). charged j r.what) is ∙ charged-longer done (r ∷ rest) r.what (NoFaults-from done r.what sound.0)

  charges-then : (done rest : List Record) (r : Record) (k : ℕ) → k ≡ length done + 1 → all ≡ done ++ r ∷ rest
      → AreSoundAfter done (r ∷ rest) → record_charged (take k all) r ≡ charged done r.what
  charges-then done rest r k count is sound =
      ap (λ (j : List Record). charged (take k j) r.what) is
      ∙ ap (λ (j : List Record). charged j r.what) (take-done done rest r k count)
      ∙ charged-longer done (r ∷ []) r.what (NoFaults-from done r.what sound.0)

  newly-taken : (k : ℕ) → length journal < k → taken k ≡ not (is_live all k)
  newly-taken k later = ap (λ (b : Bool). b && not (is_live all k)) (is_live-newest journal k (omega (arith, later)))

  -- of the records that come
  newer : (k : ℕ) (done rest : List Record) → k ≡ length done + 1 → length journal ≤ length done → all ≡ done ++ rest → AreSoundAfter done rest
      → charged_to line (still k rest) + charged_to line (off k rest) ≡ charged_to line (flat_map (record_charged all) rest)
  newer k done [] count later is sound = refl
  newer k done (r ∷ rest) count later is sound =
      let next = done ++ r ∷ [] in
      let own : record_charged (take k all) r ≡ record_charged all r =
      charges-then done rest r k count is sound ∙ sym (charges-here done rest r is sound) in
      let here : charged_to line (taken_charge taken all (k, r)) ≡ charged_to line (cond (not (is_live all k)) (record_charged all r) []) =
      ap (λ (b : Bool). charged_to line (cond b (record_charged (take k all) r) [])) (newly-taken k (omega (arith, count, later)))
      ∙ ap (λ (cs : List (Target × ℕ)). charged_to line (cond (not (is_live all k)) cs [])) own in
      omega (
        arith,
        charged_to-append line (charged_if (is_live all) all (k, r)) (still (k + 1) rest),
        charged_to-append line (taken_charge taken all (k, r)) (off (k + 1) rest),
        charged_to-append line (record_charged all r) (flat_map (record_charged all) rest),
        here,
        one-comes (is_live all k) line (record_charged all r),
        newer (k + 1) next rest (omega (arith, count, length-append done (r ∷ []))) (omega (arith, later, length-append done (r ∷ [])))
            (is ∙ sym (append_assoc done (r ∷ []) rest)) sound.1,
      )

  -- and of those that were there
  older : (k : ℕ) (done rest : List Record) → k ≡ length done + 1 → journal ≡ done ++ rest → AreSoundAfter done (rest ++ more)
      → charged_to line (still k (rest ++ more)) + charged_to line (off k (rest ++ more))
      ≡ charged_to line (flat_map (charged_if (is_live journal) journal) (enumerate_from k rest)) + charged_to line (flat_map (record_charged all) more)
  older k done [] count is sound =
      let whole : journal ≡ done = is ∙ append-nil done in
      let size : length journal ≡ length done = ap (λ (j : List Record). length j) whole in
      omega (arith, newer k done more count (omega (arith, size)) (ap (λ (j : List Record). j ++ more) whole) sound)
  older k done (r ∷ rest) count is sound =
      let next = done ++ r ∷ [] in
      let size : length journal ≡ length (done ++ r ∷ rest) = ap (λ (j : List Record). length j) is in
      let few : k ≤ length journal = omega (arith, count, size, length-append done (r ∷ rest)) in
      let all-is : all ≡ done ++ r ∷ (rest ++ more) = ap (λ (j : List Record). j ++ more) is ∙ append_assoc done (r ∷ rest) more in
      let own : record_charged (take k all) r ≡ record_charged all r =
      charges-then done (rest ++ more) r k count all-is sound ∙ sym (charges-here done (rest ++ more) r all-is sound) in
      let before : record_charged journal r ≡ record_charged all r =
      ap (λ (j : List Record). charged j r.what) is ∙ charged-longer done (r ∷ rest) r.what (NoFaults-from done r.what sound.0)
      ∙ sym (charges-here done (rest ++ more) r all-is sound) in
      let here : charged_to line (taken_charge taken all (k, r)) ≡ charged_to line (cond (taken k) (record_charged all r) []) =
      ap (λ (cs : List (Target × ℕ)). charged_to line (cond (taken k) cs [])) own in
      let was : charged_to line (charged_if (is_live journal) journal (k, r)) ≡ charged_to line (cond (is_live journal k) (record_charged all r) []) =
      ap (λ (cs : List (Target × ℕ)). charged_to line (cond (is_live journal k) cs [])) before in
      omega (
        arith,
        charged_to-append line (charged_if (is_live all) all (k, r)) (still (k + 1) (rest ++ more)),
        charged_to-append line (taken_charge taken all (k, r)) (off (k + 1) (rest ++ more)),
        charged_to-append line (charged_if (is_live journal) journal (k, r)) (flat_map (charged_if (is_live journal) journal) (enumerate_from (k + 1) rest)),
        here,
        was,
        one-stays (is_live journal k) (is_live all k) line (record_charged all r)
            (first-holds (is_live journal k) (is_live all k) (is_live-longer journal more k few)),
        older (k + 1) next rest (omega (arith, count, length-append done (r ∷ []))) (is ∙ sym (append_assoc done (r ∷ []) rest)) sound.1,
      )

  pub added-changed : AreSound all
      → added all line + charged_to line (uncharged_after journal more) ≡ added journal line + charged_to line (charges_after journal more)
  added-changed sound = older 1 [] journal refl refl sound

  -- a record's charges are to the lines that it names
  named-here : (done : List Record) (r : Record) → charges_to line r ≡ is_charged_in (record_charged (done ++ r ∷ []) r) line
  named-here done r =
      sym (or-nothing (charges_to line r))
      ∙ is_charged_by-more done (r ∷ []) line
      ∙ ap (λ (cs : List (Target × ℕ)). is_charged_in cs line) (append-nil (record_charged (done ++ r ∷ []) r))

  named-if : (b : Bool) (done rest : List Record) (r : Record) (k : ℕ) → k ≡ length done + 1 → all ≡ done ++ r ∷ rest
      → is_charged_in (cond b (record_charged (take k all) r) []) line ≡ (b && charges_to line r)
  named-if false done rest r k count is = refl
  named-if true done rest r k count is =
      ap (λ (j : List Record). is_charged_in (record_charged (take k j) r) line) is
      ∙ ap (λ (j : List Record). is_charged_in (record_charged j r) line) (take-done done rest r k count)
      ∙ sym (named-here done r)

  abbrev named : ℕ → List Record → Bool
  named k rs = list_any (recharges (length journal) (is_live journal) (is_live all) line) (enumerate_from k rs)

  comes-or : (c t rest by off_named : Bool) → rest ≡ (by || off_named) → (c || rest) ≡ ((c || by) || ((t && c) || off_named))
  comes-or true t rest by off_named is = refl
  comes-or false true rest by off_named is = is
  comes-or false false rest by off_named is = is

  stays-or : (t c rest by off_named : Bool) → rest ≡ (by || off_named) → ((t && c) || rest) ≡ (by || ((t && c) || off_named))
  stays-or true true rest true off_named is = refl
  stays-or true true rest false off_named is = refl
  stays-or true false rest by off_named is = is
  stays-or false c rest by off_named is = is

  off-next : (k : ℕ) (done rest : List Record) (r : Record) (others : List Record) → k ≡ length done + 1 → all ≡ done ++ r ∷ others
      → is_charged_in (off k (r ∷ rest)) line ≡ ((taken k && charges_to line r) || is_charged_in (off (k + 1) rest) line)
  off-next k done rest r others count is =
      list_any-append (is_charge_of line) (taken_charge taken all (k, r)) (off (k + 1) rest)
      ∙ ap (λ (b : Bool). b || is_charged_in (off (k + 1) rest) line) (named-if (taken k) done others r k count is)

  newer-named : (k : ℕ) (done rest : List Record) → k ≡ length done + 1 → length journal ≤ length done → all ≡ done ++ rest
      → named k rest ≡ (is_charged_by rest line || is_charged_in (off k rest) line)
  newer-named k done [] count later is = refl
  newer-named k done (r ∷ rest) count later is =
      let next = done ++ r ∷ [] in
      let comes : nat_lt (length journal) k ≡ true = let more_than : length journal < k = omega (arith, count, later) in grind (arith, nat_tests) in
      ap (λ (b : Bool). ((b || taken k) && charges_to line r) || named (k + 1) rest) comes
      ∙ comes-or (charges_to line r) (taken k) (named (k + 1) rest) (is_charged_by rest line) (is_charged_in (off (k + 1) rest) line)
      (newer-named (k + 1) next rest (omega (arith, count, length-append done (r ∷ []))) (omega (arith, later, length-append done (r ∷ [])))
      (is ∙ sym (append_assoc done (r ∷ []) rest)))
      ∙ ap (λ (b : Bool). is_charged_by (r ∷ rest) line || b) (sym (off-next k done rest r rest count is))

  older-named : (k : ℕ) (done rest : List Record) → k ≡ length done + 1 → journal ≡ done ++ rest
      → named k (rest ++ more) ≡ (is_charged_by more line || is_charged_in (off k (rest ++ more)) line)
  older-named k done [] count is =
      let whole : journal ≡ done = is ∙ append-nil done in
      let size : length journal ≡ length done = ap (λ (j : List Record). length j) whole in
      newer-named k done more count (omega (arith, size)) (ap (λ (j : List Record). j ++ more) whole)
  older-named k done (r ∷ rest) count is =
      let next = done ++ r ∷ [] in
      let size : length journal ≡ length (done ++ r ∷ rest) = ap (λ (j : List Record). length j) is in
      let few : k ≤ length journal = omega (arith, count, size, length-append done (r ∷ rest)) in
      let all-is : all ≡ done ++ r ∷ (rest ++ more) = ap (λ (j : List Record). j ++ more) is ∙ append_assoc done (r ∷ rest) more in
      let old : nat_lt (length journal) k ≡ false = grind (arith, nat_tests) in
      ap (λ (b : Bool). ((b || taken k) && charges_to line r) || named (k + 1) (rest ++ more)) old
      ∙ stays-or (taken k) (charges_to line r) (named (k + 1) (rest ++ more)) (is_charged_by more line) (is_charged_in (off (k + 1) (rest ++ more)) line)
      (older-named (k + 1) next rest (omega (arith, count, length-append done (r ∷ []))) (is ∙ sym (append_assoc done (r ∷ []) rest)))
      ∙ ap (λ (b : Bool). is_charged_by more line || b) (sym (off-next k done (rest ++ more) r (rest ++ more) count all-is))

  -- another sum is charged to the lines alone that are told
  pub recharged-named : is_recharged journal more line ≡ is_charged_in (charges_after journal more ++ uncharged_after journal more) line
  recharged-named =
      older-named 1 [] journal refl refl
      ∙ ap (λ (b : Bool). b || is_charged_in (uncharged_after journal more) line) (is_charged_by-more journal more line)
      ∙ sym (list_any-append (is_charge_of line) (charges_after journal more) (uncharged_after journal more))
