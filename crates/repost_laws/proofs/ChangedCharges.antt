-- Where records come and others go, the lines alone that they charge something to have another sum of charges.
use Rattle.std.proofs.Common.{◌≡◌, ℕ, ◌+◌, ◌<◌, ◌≤◌, Bool, true, false, cond, ◌&&◌, ◌||◌, not, nat_lt, List, [], ◌∷◌, ◌++◌, length, refl, sym, ap, ◌∙◌, subst, arith, append_assoc}
use Rattle.std.specs.List.{flat_map, enumerate_from, list_any}
use Rattle.std.proofs.lemmas.Bool.{false≢true}
use Rattle.std.proofs.lemmas.Bool.Decides.{nat_tests}
use Rattle.stock_nums.specs.declared.cause.Target.{Target}
use Rattle.stock_model.specs.Entries.{is_live}
use Rattle.stock_model.specs.Journals.{AreSoundAfter, AreSound}
use Rattle.stock_model.specs.LandedCost.{charged, record_charged, charged_if, added}
use Rattle.stock_model.specs.declared.records.Record.{Record}
use Rattle.stock_model.proofs.NoFaults.{NoFaults-from}
use Rattle.stock_model.proofs.Pairwise.{Each}
use Rattle.stock_laws.proofs.LiveLines.{is_live-longer}
use Rattle.cost_links.specs.Charged.{charged_to}
use Rattle.cost_links.proofs.ChargeSums.{charged_to-append}
use Rattle.repost_laws.specs.Changes.{recharges, is_recharged}
use Rattle.repost_laws.specs.Touched.{charges_to}
use Rattle.repost_laws.proofs.Filtered.{or_false}
use Rattle.repost_laws.proofs.MoreCharges.{charged-longer, charged-none}

-- a record charges the same in a longer journal
abbrev ChargesAlike : List Record → List Record → Record → Type 0
ChargesAlike journal all r = charged all r.what ≡ charged journal r.what

charges-alike : (done rest more : List Record) → AreSoundAfter done rest → Each (ChargesAlike (done ++ rest) ((done ++ rest) ++ more)) rest
charges-alike done [] more sound = tt
charges-alike done (r ∷ rest) more sound =
    let own = NoFaults-from done r.what sound.0 in
    let long : charged ((done ++ r ∷ rest) ++ more) r.what ≡ charged done r.what =
    ap (λ (j : List Record). charged j r.what) (append_assoc done (r ∷ rest) more) ∙ charged-longer done (r ∷ rest ++ more) r.what own in
    let short : charged (done ++ r ∷ rest) r.what ≡ charged done r.what = charged-longer done (r ∷ rest) r.what own in (
      long ∙ sym short,
      subst (λ (j : List Record). Each (ChargesAlike j (j ++ more)) rest) (append_assoc done (r ∷ []) rest) (charges-alike (done ++ r ∷ []) rest more sound.1),
    )

-- of two that do not both hold, the one does not or the other does not
and_false : (a b : Bool) → (a && b) ≡ false → b ≡ true → a ≡ false
and_false true b none holds = absurd (false≢true (sym none ∙ holds))
and_false false b none holds = refl

-- a record that was in force, where it is, and does not go, is in force as it was
same-live : (was is : Bool) → (is ≡ true → was ≡ true) → (was && not is) ≡ false → was ≡ is
same-live true true before stays = refl
same-live true false before stays = absurd (false≢true (sym stays))
same-live false true before stays = before refl
same-live false false before stays = refl

-- a record that does not name the line charges nothing to it, in force or not
nothing-if : (b : Bool) (journal : List Record) (r : Record) (line : Target) → charges_to line r ≡ false → charged_to line (cond b (record_charged journal r) []) ≡ 0
nothing-if true journal r line none = charged-none journal r.what line none
nothing-if false journal r line none = refl

module _ (n : ℕ) (live new_live : ℕ → Bool) (line : Target) where
  -- the records that come charge nothing to the line
  newer : (all : List Record) (k : ℕ) (more : List Record) → n < k → list_any (recharges n live new_live line) (enumerate_from k more) ≡ false
      → charged_to line (flat_map (charged_if new_live all) (enumerate_from k more)) ≡ 0
  newer all k [] later none = refl
  newer all k (r ∷ more) later none =
      let parts = or_false (recharges n live new_live line (k, r)) (list_any (recharges n live new_live line) (enumerate_from (k + 1) more)) none in
      let comes : nat_lt n k ≡ true = grind (arith, nat_tests) in
      let own : charges_to line r ≡ false = ap (λ (b : Bool). (b || (live k && not (new_live k))) && charges_to line r) (sym comes) ∙ parts.0 in
      omega (
        arith,
        charged_to-append line (charged_if new_live all (k, r)) (flat_map (charged_if new_live all) (enumerate_from (k + 1) more)),
        nothing-if (new_live k) all r line own,
        newer all (k + 1) more (omega (arith, later)) parts.1,
      )

  -- one that was there charges the line what it did
  older-one : (journal all : List Record) (k : ℕ) (r : Record) → k ≤ n → (new_live k ≡ true → live k ≡ true) → ChargesAlike journal all r
      → recharges n live new_live line (k, r) ≡ false
      → charged_to line (charged_if new_live all (k, r)) ≡ charged_to line (charged_if live journal (k, r))
  older-one journal all k r old before alike none = by_cases (charges_to line r) refl
    where
      by_cases : (b : Bool) → charges_to line r ≡ b → charged_to line (charged_if new_live all (k, r)) ≡ charged_to line (charged_if live journal (k, r))
      by_cases false other = nothing-if (new_live k) all r line other ∙ sym (nothing-if (live k) journal r line other)
      by_cases true names =
          let stays = or_false (nat_lt n k) (live k && not (new_live k)) (and_false (nat_lt n k || (live k && not (new_live k))) (charges_to line r) none names) in
          let same : live k ≡ new_live k = same-live (live k) (new_live k) before stays.1 in
          ap (λ cs. charged_to line (cond (new_live k) cs [])) alike ∙ ap (λ (b : Bool). charged_to line (cond b (record_charged journal r) [])) (sym same)

  older : (journal all : List Record) (k : ℕ) (rest more : List Record) → Each (ChargesAlike journal all) rest → k + length rest ≡ n + 1
      → ((i : ℕ) → i ≤ n → new_live i ≡ true → live i ≡ true)
      → list_any (recharges n live new_live line) (enumerate_from k (rest ++ more)) ≡ false
      → charged_to line (flat_map (charged_if new_live all) (enumerate_from k (rest ++ more))) ≡ charged_to line (flat_map (charged_if live journal) (enumerate_from k rest))
  older journal all k [] more alike count before none = newer all k more (omega (arith, count)) none
  older journal all k (r ∷ rest) more alike count before none =
      let parts = or_false (recharges n live new_live line (k, r)) (list_any (recharges n live new_live line) (enumerate_from (k + 1) (rest ++ more))) none in
      let old : k ≤ n = omega (arith, count) in
      omega (
        arith,
        charged_to-append line (charged_if new_live all (k, r)) (flat_map (charged_if new_live all) (enumerate_from (k + 1) (rest ++ more))),
        charged_to-append line (charged_if live journal (k, r)) (flat_map (charged_if live journal) (enumerate_from (k + 1) rest)),
        older-one journal all k r old (before k old) alike.0 parts.0,
        older journal all (k + 1) rest more alike.1 (omega (arith, count)) before parts.1,
      )

-- where the first of two holds, if both hold
first-holds : (a b : Bool) → b ≡ (a && b) → b ≡ true → a ≡ true
first-holds true b both holds = refl
first-holds false b both holds = sym both ∙ holds

pub added-change : (journal more : List Record) (line : Target) → AreSound journal → is_recharged journal more line ≡ false
    → added (journal ++ more) line ≡ added journal line
added-change journal more line sound none =
    let n = length journal in
    let all = journal ++ more in
    older n (is_live journal) (is_live all) line journal all 1 journal more (charges-alike [] journal more sound) (omega arith)
    (λ i old holds. first-holds (is_live journal i) (is_live all i) (is_live-longer journal more i old) holds) none
