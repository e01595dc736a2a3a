-- All that was valued is forgotten, and nothing else changes.
use Rattle.std.proofs.Common.{◌≡◌, ℕ, List, [], length, sym, ap, ◌∙◌, subst, arith}
use Rattle.std.specs.List.Sorted.{IsPermutation}
use Rattle.std.proofs.Math.Path.{fun_ext}
use Rattle.std.proofs.lemmas.List.Sorted.{IsPermutation-refl}
use Rattle.stock_nums.specs.declared.place.Spot.{Spot}
use Rattle.repost_fetch.specs.Changes.{gone_spots}
use Rattle.repost_frontier.specs.Readings.{found_of, suspects_of, revalued_of}
use Rattle.repost_frontier.specs.declared.slot.Slot.{Slot}
use Rattle.repost_frontier.proofs.SlotOrder.{entries-published}
use Rattle.repost_frontier.proofs.SlotReadings.{revalued-published, found-published, suspects-published}
use Rattle.repost_laws.specs.Builds.{Suspects, ValuedSince}
use Rattle.repost_laws.specs.Valuations.{Found}
use Rattle.repost_laws.specs.WholeBuilds.{IsBuildOf, none_valued}
use Rattle.repost_laws.proofs.WholeSteps.{IsBuildOf-published}
use Rattle.repost_spread.specs.Movements.{entries_of, slots_of}
use Rattle.repost_build.specs.Readings.{slots_in, found_in, suspects_in, valued_in, base_of, target_of, fetches_of, turns_of}
use Rattle.repost_build.proofs.GoneSpots.{no-spots}
use Rattle.repost_build.proofs.build.Build.published.Goals as goal

pub returns-clause-found : goal.returns-clause-found
returns-clause-found g c place =
    ap (λ (slots : List Slot). found_of slots place) c.forget_revalued.ensures.slots ∙ found-published (slots_in c.args.self.now) place

pub returns-clause-suspects : goal.returns-clause-suspects
returns-clause-suspects g c place =
    ap (λ (slots : List Slot). suspects_of slots place) c.forget_revalued.ensures.slots
    ∙ suspects-published (slots_in c.args.self.now) place

pub returns-clause-valued : goal.returns-clause-valued
returns-clause-valued g c place =
    ap (λ (slots : List Slot). revalued_of slots place) c.forget_revalued.ensures.slots
    ∙ revalued-published (slots_in c.args.self.now) place

pub returns-clause-of : goal.returns-clause-of
returns-clause-of g c =
    let old = c.args.self.now in
    let of = c.requires.0 in
    let slots = slots_of c.forget_revalued.new.self in
    let found : found_of slots ≡ found_in old = fun_ext (returns-clause-found g c) in
    let suspects : suspects_of slots ≡ suspects_in old = fun_ext (returns-clause-suspects g c) in
    let valued : revalued_of slots ≡ none_valued = fun_ext (returns-clause-valued g c) in
    record {
      kept = c.forget_revalued.ensures.kept;
      line = ap entries_of c.forget_revalued.ensures.slots ∙ entries-published (slots_in old) ∙ of.line;
      charged = λ line. c.forget_revalued.ensures.charged line ∙ of.charged line;
      target = of.target;
      fetched = omega arith;
      gone = subst (λ (spots : List Spot). IsPermutation spots (gone_spots (target_of old) g.journal)) (sym c.clear.ensures.items)
          (subst (IsPermutation []) (sym (no-spots g.journal (target_of old) of.target)) (IsPermutation-refl []));
      built = subst (λ (n : ℕ). IsBuildOf g.journal n (found_of slots) (suspects_of slots) (revalued_of slots) 0 0) (sym of.target)
          (subst (λ (f : Found). IsBuildOf g.journal (length g.journal) f (suspects_of slots) (revalued_of slots) 0 0) (sym found)
          (subst (λ (s : Suspects). IsBuildOf g.journal (length g.journal) (found_in old) s (revalued_of slots) 0 0) (sym suspects)
          (subst (λ (v : ValuedSince). IsBuildOf g.journal (length g.journal) (found_in old) (suspects_in old) v 0 0) (sym valued)
          (IsBuildOf-published g.journal (base_of old) (found_in old) (suspects_in old) (valued_in old) (fetches_of old) (turns_of old) of.built c.requires.1))));
    }
