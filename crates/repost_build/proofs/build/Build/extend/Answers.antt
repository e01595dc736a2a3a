-- The first records and the further ones are all.
use Rattle.std.proofs.Common.{◌≡◌, ◌+◌, ◌<◌, ◌≤◌, Fits, w32, Contains, ℕ, List, ◌++◌, take, drop, length, map, filter, refl, sym, ap, ◌∙◌, subst, arith}
use Rattle.std.proofs.lemmas.List.{take-append-drop, length-drop}
use Rattle.stock_nums.specs.declared.entry.Entry.{Entry}
use Rattle.stock_nums.specs.declared.limits.TheConstants.{MAX_RECORDS}
use Rattle.stock_nums.specs.declared.place.Spot.{Spot}
use Rattle.stock_model.specs.Journals.{AreLegal}
use Rattle.stock_model.specs.PostingOrder.{posting_line}
use Rattle.stock_model.specs.declared.records.Record.{Record}
use Rattle.stock_laws.proofs.Legality.{IsHeld-legal}
use Rattle.cost_links.specs.Charged.{charge_pairs}
use Rattle.cost_links.specs.declared.charges.Charge.{Charge}
use Rattle.repost_fetch.specs.Changes.{spot_of_entry}
use Rattle.repost_fetch.specs.Fetched.{IsFetchedOf}
use Rattle.repost_fetch.specs.declared.fetch.Fetched.{Fetched}
use Rattle.repost_laws.specs.Touched.{is_old}
use Rattle.repost_build.specs.Builds.{IsOf}
use Rattle.repost_build.specs.Readings.{base_of, target_of}
use Rattle.repost_build.specs.declared.build.Build.{Build}
use Rattle.repost_build.proofs.Extending.{AreFetched, apart-of, few-of, dated-of, fits-of, new-of, held-of, going-of, gone-held, gone-apart, gone-charged, found-is, valued-is, touched-is, of-extended}
use Rattle.repost_build.proofs.Givens.{turns-fit}
use Rattle.repost_build.proofs.build.Build.extend.Goals as goal

-- all records are legal
all-legal : (journal : List Record) (n : ℕ) → AreLegal journal → AreLegal (take n journal ++ drop n journal)
all-legal journal n legal = subst AreLegal (sym (take-append-drop n journal)) legal

-- there is a further one
some-more : (journal : List Record) (n : ℕ) → n < length journal → 0 < length (drop n journal)
some-more journal n later = omega (arith, length-drop n journal, later)

-- what was fetched, by the lists that are lent
fetched-so : (journal more : List Record) (fetched : Fetched) (comes gone : List Entry) (charges uncharged : List Charge)
    → IsFetchedOf journal more fetched → comes ≡ fetched.entries → gone ≡ fetched.gone → charges ≡ fetched.charges → uncharged ≡ fetched.uncharged
    → AreFetched journal more comes gone charges uncharged
fetched-so journal more fetched comes gone charges uncharged is a b c d =
    record {
      comes_is = a ∙ is.entries;
      gone_is = b ∙ is.gone;
      charges_is = ap charge_pairs c ∙ is.charges;
      uncharged_is = ap charge_pairs d ∙ is.uncharged;
    }

pub add-requires-clause-apart : goal.add-requires-clause-apart
add-requires-clause-apart g c =
    let old = c.args.self.now in
    let n = target_of old in
    let front = take n g.journal in
    let rest = drop n g.journal in
    let comes = c.as_slice-coming.result.now in
    let gone = c.as_slice-gone.result.now in
    let charges = c.as_slice-charges.result.now in
    let uncharged = c.as_slice-uncharged.result.now in
    let are = fetched-so front rest c.args.fetched.now comes gone charges uncharged c.requires.1.0 c.as_slice-coming.ensures c.as_slice-gone.ensures
    c.as_slice-charges.ensures c.as_slice-uncharged.ensures in
    let legal = all-legal g.journal n c.requires.1.1.1 in
    apart-of front rest old comes gone charges uncharged c.requires.0 are legal

pub add-requires-clause-few : goal.add-requires-clause-few
add-requires-clause-few g c =
    let old = c.args.self.now in
    let n = target_of old in
    let front = take n g.journal in
    let rest = drop n g.journal in
    let comes = c.as_slice-coming.result.now in
    let gone = c.as_slice-gone.result.now in
    let charges = c.as_slice-charges.result.now in
    let uncharged = c.as_slice-uncharged.result.now in
    let are = fetched-so front rest c.args.fetched.now comes gone charges uncharged c.requires.1.0 c.as_slice-coming.ensures c.as_slice-gone.ensures
    c.as_slice-charges.ensures c.as_slice-uncharged.ensures in
    let legal = all-legal g.journal n c.requires.1.1.1 in
    few-of front rest old comes gone charges uncharged c.requires.0 are legal

pub add-requires-clause-dated : goal.add-requires-clause-dated
add-requires-clause-dated g c =
    let old = c.args.self.now in
    let n = target_of old in
    let front = take n g.journal in
    let rest = drop n g.journal in
    let comes = c.as_slice-coming.result.now in
    let gone = c.as_slice-gone.result.now in
    let charges = c.as_slice-charges.result.now in
    let uncharged = c.as_slice-uncharged.result.now in
    let are = fetched-so front rest c.args.fetched.now comes gone charges uncharged c.requires.1.0 c.as_slice-coming.ensures c.as_slice-gone.ensures
    c.as_slice-charges.ensures c.as_slice-uncharged.ensures in
    let legal = all-legal g.journal n c.requires.1.1.1 in
    dated-of front rest old comes gone charges uncharged c.requires.0 are legal

pub add-requires-clause-fits : goal.add-requires-clause-fits
add-requires-clause-fits g c =
    let old = c.args.self.now in
    let n = target_of old in
    let front = take n g.journal in
    let rest = drop n g.journal in
    let comes = c.as_slice-coming.result.now in
    let gone = c.as_slice-gone.result.now in
    let charges = c.as_slice-charges.result.now in
    let uncharged = c.as_slice-uncharged.result.now in
    let are = fetched-so front rest c.args.fetched.now comes gone charges uncharged c.requires.1.0 c.as_slice-coming.ensures c.as_slice-gone.ensures
    c.as_slice-charges.ensures c.as_slice-uncharged.ensures in
    let legal = all-legal g.journal n c.requires.1.1.1 in
    fits-of front rest old comes gone charges uncharged c.requires.0 are legal

pub touch-requires-clause-new_ones : goal.touch-requires-clause-new_ones
touch-requires-clause-new_ones g c =
    let old = c.args.self.now in
    let n = target_of old in
    let front = take n g.journal in
    let rest = drop n g.journal in
    let comes = c.as_slice-coming.result.now in
    let gone = c.as_slice-gone.result.now in
    let charges = c.as_slice-charges.result.now in
    let uncharged = c.as_slice-uncharged.result.now in
    let are = fetched-so front rest c.args.fetched.now comes gone charges uncharged c.requires.1.0 c.as_slice-coming.ensures c.as_slice-gone.ensures
    c.as_slice-charges.ensures c.as_slice-uncharged.ensures in
    let legal = all-legal g.journal n c.requires.1.1.1 in
    new-of front rest old comes gone charges uncharged c.requires.0 are legal c.add.new.self c.in_ok-add.ensures.line

pub touch-requires-clause-held : goal.touch-requires-clause-held
touch-requires-clause-held g c =
    let old = c.args.self.now in
    let n = target_of old in
    let front = take n g.journal in
    let rest = drop n g.journal in
    let comes = c.as_slice-coming.result.now in
    let gone = c.as_slice-gone.result.now in
    let charges = c.as_slice-charges.result.now in
    let uncharged = c.as_slice-uncharged.result.now in
    let are = fetched-so front rest c.args.fetched.now comes gone charges uncharged c.requires.1.0 c.as_slice-coming.ensures c.as_slice-gone.ensures
    c.as_slice-charges.ensures c.as_slice-uncharged.ensures in
    let legal = all-legal g.journal n c.requires.1.1.1 in
    held-of front rest old comes gone charges uncharged c.requires.0 are legal c.add.new.self c.in_ok-add.ensures.line

pub touch-requires-clause-going : goal.touch-requires-clause-going
touch-requires-clause-going g c =
    let old = c.args.self.now in
    let n = target_of old in
    let front = take n g.journal in
    let rest = drop n g.journal in
    let comes = c.as_slice-coming.result.now in
    let gone = c.as_slice-gone.result.now in
    let charges = c.as_slice-charges.result.now in
    let uncharged = c.as_slice-uncharged.result.now in
    let are = fetched-so front rest c.args.fetched.now comes gone charges uncharged c.requires.1.0 c.as_slice-coming.ensures c.as_slice-gone.ensures
    c.as_slice-charges.ensures c.as_slice-uncharged.ensures in
    let legal = all-legal g.journal n c.requires.1.1.1 in
    going-of front rest old comes gone charges uncharged c.requires.0 are legal c.add.new.self c.in_ok-add.ensures.line

pub remove-requires-clause-held : goal.remove-requires-clause-held
remove-requires-clause-held g c =
    let old = c.args.self.now in
    let n = target_of old in
    let front = take n g.journal in
    let rest = drop n g.journal in
    let comes = c.as_slice-coming.result.now in
    let gone = c.as_slice-gone.result.now in
    let charges = c.as_slice-charges.result.now in
    let uncharged = c.as_slice-uncharged.result.now in
    let are = fetched-so front rest c.args.fetched.now comes gone charges uncharged c.requires.1.0 c.as_slice-coming.ensures c.as_slice-gone.ensures
    c.as_slice-charges.ensures c.as_slice-uncharged.ensures in
    let legal = all-legal g.journal n c.requires.1.1.1 in
    gone-held front rest old comes gone charges uncharged c.requires.0 are legal c.add.new.self c.in_ok-add.ensures.line
    c.touch.new.self c.in_ok-add.ensures.kept c.in_ok-add.ensures.slots c.touch.ensures c.in_ok-add.ensures.charged

pub remove-requires-clause-apart : goal.remove-requires-clause-apart
remove-requires-clause-apart g c =
    let old = c.args.self.now in
    let n = target_of old in
    let front = take n g.journal in
    let rest = drop n g.journal in
    let comes = c.as_slice-coming.result.now in
    let gone = c.as_slice-gone.result.now in
    let charges = c.as_slice-charges.result.now in
    let uncharged = c.as_slice-uncharged.result.now in
    let are = fetched-so front rest c.args.fetched.now comes gone charges uncharged c.requires.1.0 c.as_slice-coming.ensures c.as_slice-gone.ensures
    c.as_slice-charges.ensures c.as_slice-uncharged.ensures in
    let legal = all-legal g.journal n c.requires.1.1.1 in
    gone-apart front rest old comes gone charges uncharged c.requires.0 are legal c.add.new.self c.in_ok-add.ensures.line
    c.touch.new.self c.in_ok-add.ensures.kept c.in_ok-add.ensures.slots c.touch.ensures c.in_ok-add.ensures.charged

pub remove-requires-clause-within : goal.remove-requires-clause-within
remove-requires-clause-within g c =
    let old = c.args.self.now in
    let n = target_of old in
    let front = take n g.journal in
    let rest = drop n g.journal in
    let comes = c.as_slice-coming.result.now in
    let gone = c.as_slice-gone.result.now in
    let charges = c.as_slice-charges.result.now in
    let uncharged = c.as_slice-uncharged.result.now in
    let are = fetched-so front rest c.args.fetched.now comes gone charges uncharged c.requires.1.0 c.as_slice-coming.ensures c.as_slice-gone.ensures
    c.as_slice-charges.ensures c.as_slice-uncharged.ensures in
    let legal = all-legal g.journal n c.requires.1.1.1 in
    gone-charged front rest old comes gone charges uncharged c.requires.0 are legal c.add.new.self c.in_ok-add.ensures.line
    c.touch.new.self c.in_ok-add.ensures.kept c.in_ok-add.ensures.slots c.touch.ensures c.in_ok-add.ensures.charged

-- there are no more fetches than records
fits-next : (fetches base target records : ℕ) → fetches + base ≤ target → target < records → records ≤ MAX_RECORDS → Fits w32 (fetches + 1)
fits-next fetches base target records fetched later few = omega (arith, fetched, later, few)

pub overflow_add-self : goal.overflow_add-self
overflow_add-self g c =
    let old = c.args.self.now in
    fits-next old.fetches old.base.0 (target_of old) (length g.journal) c.requires.0.fetched c.requires.1.1.0
    (IsHeld-legal g.journal c.requires.1.1.1).records

pub overflow_add-self-2 : goal.overflow_add-self-2
overflow_add-self-2 g c = omega (arith, turns-fit (take (target_of c.args.self.now) g.journal) c.args.self.now c.requires.0)

pub returns-clause-found : goal.returns-clause-found
returns-clause-found g c e held =
    let old = c.args.self.now in
    let n = target_of old in
    let front = take n g.journal in
    let rest = drop n g.journal in
    let comes = c.as_slice-coming.result.now in
    let gone = c.as_slice-gone.result.now in
    let charges = c.as_slice-charges.result.now in
    let uncharged = c.as_slice-uncharged.result.now in
    let are = fetched-so front rest c.args.fetched.now comes gone charges uncharged c.requires.1.0 c.as_slice-coming.ensures c.as_slice-gone.ensures
    c.as_slice-charges.ensures c.as_slice-uncharged.ensures in
    let legal = all-legal g.journal n c.requires.1.1.1 in
    let made : Build = record { movements = c.remove.new.self; base = old.base; target = c.args.fetched.now.upto; gone = c.in_ok-spots.spots; fetches = old.fetches + 1; turns = old.turns + 1; published = old.published } in
    let whole : front ++ rest ≡ g.journal = take-append-drop n g.journal in
    found-is front rest old comes gone charges uncharged c.requires.0 are legal c.add.new.self c.in_ok-add.ensures.line
    c.touch.new.self c.in_ok-add.ensures.kept c.in_ok-add.ensures.slots c.touch.ensures c.in_ok-add.ensures.charged
    made c.remove.ensures.kept c.remove.ensures.slots c.remove.ensures.line c.remove.ensures.charged e
    (subst (λ (j : List Record). Contains (posting_line j) e) (sym whole) held)

pub returns-clause-valued : goal.returns-clause-valued
returns-clause-valued g c e held =
    let old = c.args.self.now in
    let n = target_of old in
    let front = take n g.journal in
    let rest = drop n g.journal in
    let comes = c.as_slice-coming.result.now in
    let gone = c.as_slice-gone.result.now in
    let charges = c.as_slice-charges.result.now in
    let uncharged = c.as_slice-uncharged.result.now in
    let are = fetched-so front rest c.args.fetched.now comes gone charges uncharged c.requires.1.0 c.as_slice-coming.ensures c.as_slice-gone.ensures
    c.as_slice-charges.ensures c.as_slice-uncharged.ensures in
    let legal = all-legal g.journal n c.requires.1.1.1 in
    let made : Build = record { movements = c.remove.new.self; base = old.base; target = c.args.fetched.now.upto; gone = c.in_ok-spots.spots; fetches = old.fetches + 1; turns = old.turns + 1; published = old.published } in
    let whole : front ++ rest ≡ g.journal = take-append-drop n g.journal in
    valued-is front rest old comes gone charges uncharged c.requires.0 are legal c.add.new.self c.in_ok-add.ensures.line
    c.touch.new.self c.in_ok-add.ensures.kept c.in_ok-add.ensures.slots c.touch.ensures c.in_ok-add.ensures.charged
    made c.remove.ensures.kept c.remove.ensures.slots c.remove.ensures.line c.remove.ensures.charged e
    (subst (λ (j : List Record). Contains (posting_line j) e) (sym whole) held)

pub returns-clause-touched : goal.returns-clause-touched
returns-clause-touched g c e held =
    let old = c.args.self.now in
    let n = target_of old in
    let front = take n g.journal in
    let rest = drop n g.journal in
    let comes = c.as_slice-coming.result.now in
    let gone = c.as_slice-gone.result.now in
    let charges = c.as_slice-charges.result.now in
    let uncharged = c.as_slice-uncharged.result.now in
    let are = fetched-so front rest c.args.fetched.now comes gone charges uncharged c.requires.1.0 c.as_slice-coming.ensures c.as_slice-gone.ensures
    c.as_slice-charges.ensures c.as_slice-uncharged.ensures in
    let legal = all-legal g.journal n c.requires.1.1.1 in
    let made : Build = record { movements = c.remove.new.self; base = old.base; target = c.args.fetched.now.upto; gone = c.in_ok-spots.spots; fetches = old.fetches + 1; turns = old.turns + 1; published = old.published } in
    let whole : front ++ rest ≡ g.journal = take-append-drop n g.journal in
    touched-is front rest old comes gone charges uncharged c.requires.0 are legal c.add.new.self c.in_ok-add.ensures.line
    c.touch.new.self c.in_ok-add.ensures.kept c.in_ok-add.ensures.slots c.touch.ensures c.in_ok-add.ensures.charged
    made c.remove.ensures.kept c.remove.ensures.slots c.remove.ensures.line c.remove.ensures.charged e
    (subst (λ (j : List Record). Contains (posting_line j) e) (sym whole) held)

pub returns-clause-of : goal.returns-clause-of
returns-clause-of g c =
    let old = c.args.self.now in
    let n = target_of old in
    let front = take n g.journal in
    let rest = drop n g.journal in
    let comes = c.as_slice-coming.result.now in
    let gone = c.as_slice-gone.result.now in
    let charges = c.as_slice-charges.result.now in
    let uncharged = c.as_slice-uncharged.result.now in
    let are = fetched-so front rest c.args.fetched.now comes gone charges uncharged c.requires.1.0 c.as_slice-coming.ensures c.as_slice-gone.ensures
    c.as_slice-charges.ensures c.as_slice-uncharged.ensures in
    let legal = all-legal g.journal n c.requires.1.1.1 in
    let made : Build = record { movements = c.remove.new.self; base = old.base; target = c.args.fetched.now.upto; gone = c.in_ok-spots.spots; fetches = old.fetches + 1; turns = old.turns + 1; published = old.published } in
    let whole : front ++ rest ≡ g.journal = take-append-drop n g.journal in
    let spots : made.gone.items ≡ old.gone.items ++ map spot_of_entry (filter (is_old (base_of old)) gone) =
    c.in_ok-spots.ensures ∙ ap (λ (s : List Spot). s ++ map spot_of_entry (filter (is_old (base_of old)) gone)) c.deref.ensures.value in
    subst (λ (j : List Record). IsOf j made) whole
    (of-extended front rest old comes gone charges uncharged c.requires.0 are legal c.add.new.self c.in_ok-add.ensures.line
    c.touch.new.self c.in_ok-add.ensures.kept c.in_ok-add.ensures.slots c.touch.ensures c.in_ok-add.ensures.charged
    made c.remove.ensures.kept c.remove.ensures.slots c.remove.ensures.line c.remove.ensures.charged
    (some-more g.journal n c.requires.1.1.0) refl c.requires.1.0.upto spots refl refl)
