-- Movements are found as before where their index, their line and their returns are as before.
use Rattle.std.proofs.Common.{◌≡◌, List, filter, sym, ap, subst, ◌∙◌}
use Rattle.std.specs.List.Sorted.{IsPermutation}
use Rattle.stock_nums.specs.declared.cause.Target.{Target}
use Rattle.stock_nums.specs.declared.entry.Entry.{Entry}
use Rattle.stock_nums.specs.declared.moment.Moment.{Moment}
use Rattle.stock_model.specs.Returns.{returns_of}
use Rattle.cost_links.specs.Linked.{returns_to}
use Rattle.cost_links.specs.declared.links.Links.{Links}
use Rattle.key_order.specs.Changes.{of_key}
use Rattle.posting_order.specs.KeyLines.{AreOf}
use Rattle.repost_index.specs.IndexState.{IndexState}
use Rattle.repost_index.specs.Indexed.{AreIndexed}
use Rattle.repost_index.specs.Moments.{IsMomentAt}
use Rattle.repost_spread.specs.Movements.{AreFoundBy}

pub AreIndexed-same : (line : List Entry) (old new : IndexState) → new.keys ≡ old.keys → new.entering ≡ old.entering → new.leaving ≡ old.leaving
    → new.moments ≡ old.moments → AreIndexed line old → AreIndexed line new
AreIndexed-same line old new keys entering leaving moments was =
    record {
      in_order = was.in_order;
      few = was.few;
      keys = subst (AreOf line) (sym keys) was.keys;
      entering = λ key. ap (of_key key) entering ∙ was.entering key;
      leaving = λ key. ap (of_key key) leaving ∙ was.leaving key;
      moments = λ e held. subst (λ (ms : List Moment). IsMomentAt ms e.place) (sym moments) (was.moments e held);
    }

pub AreFoundBy-same : (line : List Entry) (index : IndexState) (old new : Links) → ((target : Target) → returns_to new target ≡ returns_to old target)
    → AreFoundBy line index old → AreFoundBy line index new
AreFoundBy-same line index old new same was =
    record {
      indexed = was.indexed;
      returns = λ target. subst (λ (es : List Entry). IsPermutation es (filter (returns_of target) line)) (sym (same target)) (was.returns target);
    }
