-- What one more record charges goes to the end if it is taken back, and no longer is to come.
use Rattle.std.proofs.Common.{◌≡◌, ℕ, ◌+◌, ◌<◌, Bool, true, false, cond, List, [], ◌∷◌, ◌++◌, length, take, drop, sym, ap, ◌∙◌, append_assoc}
use Rattle.std.specs.List.{flat_map, enumerate_from}
use Rattle.std.proofs.lemmas.List.{append-nil, drop-take, map-append}
use Rattle.stock_nums.specs.declared.cause.Target.{Target}
use Rattle.stock_model.specs.LandedCost.{record_charged}
use Rattle.stock_model.specs.declared.records.Record.{Record}
use Rattle.cost_links.specs.Charged.{charge_pair, charge_pairs}
use Rattle.cost_links.specs.declared.charges.Charge.{Charge}
use Rattle.repost_fetch.specs.Fetched.{taken_charge}
use Rattle.repost_fetch.proofs.FetchSteps.{at-index, rest-next}

module _ (taken : ℕ → Bool) (journal : List Record) (i : ℕ) (within : i < length journal) where
  abbrev to_come : ℕ → List (Target × ℕ)
  to_come k = flat_map (taken_charge taken journal) (enumerate_from (k + 1) (drop k journal))

  -- what the next one charges
  abbrev next_charged : List (Target × ℕ)
  next_charged = record_charged (take (i + 1) journal) (at-index journal i within).0

  next-of : to_come i ≡ cond (taken (i + 1)) next_charged [] ++ to_come (i + 1)
  next-of =
      let here = at-index journal i within in
      ap (λ (rest : List Record). flat_map (taken_charge taken journal) (enumerate_from (i + 1) rest)) (rest-next journal i here.0 within here.1)

  -- of the first ones the rest from the last one on is that one
  last-one : drop i (take (i + 1) journal) ≡ (at-index journal i within).0 ∷ []
  last-one =
      let here = at-index journal i within in
      drop-take i 1 journal ∙ ap (λ (rest : List Record). take 1 rest) (rest-next journal i here.0 within here.1)

  pub charged-next : (old own new : List Charge) (all : List (Target × ℕ)) → taken (i + 1) ≡ true
      → charge_pairs own ≡ flat_map (record_charged (take (i + 1) journal)) (drop i (take (i + 1) journal)) → new ≡ old ++ own
      → charge_pairs old ++ to_come i ≡ all → charge_pairs new ++ to_come (i + 1) ≡ all
  charged-next old own new all is read added so_far =
      let here : charge_pairs own ≡ next_charged =
      read ∙ ap (λ (rs : List Record). flat_map (record_charged (take (i + 1) journal)) rs) last-one ∙ append-nil next_charged in
      ap (λ (cs : List (Target × ℕ)). cs ++ to_come (i + 1))
      (ap charge_pairs added ∙ map-append charge_pair old own ∙ ap (λ (cs : List (Target × ℕ)). charge_pairs old ++ cs) here)
      ∙ append_assoc (charge_pairs old) next_charged (to_come (i + 1))
      ∙ ap (λ (cs : List (Target × ℕ)). charge_pairs old ++ cs)
      (sym (next-of ∙ ap (λ (b : Bool). cond b next_charged [] ++ to_come (i + 1)) is))
      ∙ so_far

  pub nothing-next : (old : List Charge) (all : List (Target × ℕ)) → taken (i + 1) ≡ false → charge_pairs old ++ to_come i ≡ all
      → charge_pairs old ++ to_come (i + 1) ≡ all
  nothing-next old all is so_far =
      ap (λ (cs : List (Target × ℕ)). charge_pairs old ++ cs)
      (sym (next-of ∙ ap (λ (b : Bool). cond b next_charged [] ++ to_come (i + 1)) is))
      ∙ so_far
