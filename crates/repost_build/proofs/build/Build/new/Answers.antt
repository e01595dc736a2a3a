-- It has no movement, and no record is published.
use Rattle.std.proofs.Common.{◌≡◌, List, [], refl, sym, ap, ◌∙◌, subst, arith}
use Rattle.std.specs.List.Sorted.{IsPermutation}
use Rattle.std.proofs.Math.Path.{fun_ext}
use Rattle.std.proofs.lemmas.List.Sorted.{IsPermutation-refl}
use Rattle.stock_nums.specs.declared.place.Place.{Place}
use Rattle.stock_nums.specs.declared.place.Spot.{Spot}
use Rattle.stock_model.specs.Entries.{all_entries}
use Rattle.stock_model.specs.PostingOrder.{posting_line}
use Rattle.repost_fetch.specs.Changes.{gone_spots}
use Rattle.repost_frontier.specs.Readings.{found_of, suspects_of, revalued_of}
use Rattle.repost_laws.specs.Builds.{Suspects, ValuedSince}
use Rattle.repost_laws.specs.Valuations.{Found, nothing_found}
use Rattle.repost_laws.specs.WholeBuilds.{IsBuildOf, none_suspect, none_valued}
use Rattle.repost_laws.proofs.WholeSteps.{IsBuildOf-start}
use Rattle.repost_spread.specs.Movements.{entries_of, slots_of}
use Rattle.repost_build.proofs.GoneSpots.{no-spots}
use Rattle.repost_build.proofs.build.Build.new.Goals as goal

-- no record has no movement
no-line : posting_line [] ≡ []
unfolding posting_line all_entries
no-line = refl

pub returns : goal.returns
returns c =
    let slots = slots_of c.new.result in
    let none : slots ≡ [] = c.new.ensures.slots in
    let found : found_of slots ≡ nothing_found = ap found_of none ∙ fun_ext (λ (p : Place). refl) in
    let suspects : suspects_of slots ≡ none_suspect = ap suspects_of none ∙ fun_ext (λ (p : Place). refl) in
    let valued : revalued_of slots ≡ none_valued = ap revalued_of none ∙ fun_ext (λ (p : Place). refl) in
    record {
      kept = c.new.ensures.kept;
      line = ap entries_of none ∙ sym no-line;
      charged = c.new.ensures.charged;
      target = refl;
      fetched = omega arith;
      gone = subst (λ (spots : List Spot). IsPermutation spots (gone_spots 0 [])) (sym c.new-2.ensures.items)
          (subst (IsPermutation []) (sym (no-spots [] 0 refl)) (IsPermutation-refl []));
      built = subst (λ (f : Found). IsBuildOf [] 0 f (suspects_of slots) (revalued_of slots) 0 0) (sym found)
          (subst (λ (s : Suspects). IsBuildOf [] 0 nothing_found s (revalued_of slots) 0 0) (sym suspects)
          (subst (λ (v : ValuedSince). IsBuildOf [] 0 nothing_found none_suspect v 0 0) (sym valued) IsBuildOf-start));
    }
