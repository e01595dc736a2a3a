-- Which movements are returns of a line, and what is marked of a list by a test.
use Rattle.std.proofs.Common.{◌≡◌, ℕ, ◌+◌, ◌<◌, Bool, true, false, cond, Some, List, [], ◌∷◌, length, drop, get_or, ◌⊎◌, inl, inr, refl, sym, ◌∙◌, IsTrue, Contains, ap, subst, arith}
use Rattle.std.proofs.lemmas.Bool.{false≢true}
use Rattle.std.proofs.lemmas.List.{at_drop_more}
use Rattle.std.proofs.lemmas.Option.{none-some}
use Rattle.stock_nums.specs.declared.cause.Cause.{Cause}
use Rattle.stock_nums.specs.declared.cause.Cause.TheVariants.{Receipt, Issue, TransferLeaves, TransferEnters, CustomerReturn, SupplierReturn}
use Rattle.stock_nums.specs.declared.cause.Target.{Target}
use Rattle.stock_nums.specs.declared.entry.Entry.{Entry}
use Rattle.stock_model.proofs.Pairwise.{Contains-cases, Contains-first, Contains-later}
use Rattle.repost_frontier.specs.Slots.{marks}
use Rattle.repost_frontier.specs.Readings.{found_of, revalued_of, suspects_of}
use Rattle.repost_frontier.specs.declared.slot.Slot.{Slot}
use Rattle.repost_spread.specs.Marks.{AreMarked}
use Rattle.repost_spread.specs.Movements.{AreKept, AreFoundBy, entries_of, slots_of, line_of}
use Rattle.repost_spread.specs.Touches.{mark_passing, passing_marked}
use Rattle.repost_spread.specs.declared.movements.Movements.{Movements}
use Rattle.repost_spread.proofs.TouchingMarks.{marked-as, marked-then, marked-at}
use Rattle.stock_model.specs.Returns.{is_return_of}
use Rattle.stock_laws.proofs.Linked.{is_same_target-true, is_same_target-refl}
use Rattle.cost_links.specs.Linked.{charged_of}
use Rattle.cost_links.specs.Sources.{target_of}

-- a return of a line names it
pub returns-own : (cause : Cause) (target : Target) → target_of cause ≡ Some target → is_return_of target cause ≡ true
returns-own (Receipt amount) target is = absurd (none-some target is)
returns-own (Issue sold) target is = absurd (none-some target is)
returns-own TransferLeaves target is = absurd (none-some target is)
returns-own TransferEnters target is = absurd (none-some target is)
returns-own (CustomerReturn line issued) target is =
    let same : line ≡ target = cc in subst (λ (t : Target). is_return_of t (CustomerReturn line issued) ≡ true) same (is_same_target-refl line)
returns-own (SupplierReturn line amount received) target is =
    let same : line ≡ target = cc in subst (λ (t : Target). is_return_of t (SupplierReturn line amount received) ≡ true) same (is_same_target-refl line)

pub names-own : (cause : Cause) (target : Target) → is_return_of target cause ≡ true → target_of cause ≡ Some target
names-own (Receipt amount) target is = absurd (false≢true is)
names-own (Issue sold) target is = absurd (false≢true is)
names-own TransferLeaves target is = absurd (false≢true is)
names-own TransferEnters target is = absurd (false≢true is)
names-own (CustomerReturn line issued) target is = ap Some (is_same_target-true line target is)
names-own (SupplierReturn line amount received) target is = ap Some (is_same_target-true line target is)

-- it stands where one of these does that passes the test
abbrev pub IsAmong : (Entry → Bool) → List Entry → Entry → Type 0
IsAmong test es f = (one : Entry) × Contains es one × (test one ≡ true) × (f.place ≡ one.place)

-- nothing is marked where the movements are the same
same-marked : (old new : Movements) (p : Entry → Type 0) → AreKept old → slots_of new ≡ slots_of old → new.index ≡ old.index → new.links ≡ old.links
    → ((f : Entry) → p f → ⊥) → AreMarked old new p
same-marked old new p kept made index links none =
    let line : line_of new ≡ line_of old = ap (λ (slots : List Slot). entries_of slots) made in
    record {
      kept = subst (λ i. AreFoundBy (line_of new) i new.links) (sym index) (subst (λ l. AreFoundBy (line_of new) old.index l) (sym links)
          (subst (λ (l : List Entry). AreFoundBy l old.index old.links) (sym line) kept));
      alike = record {
        entries = line;
        found = λ place. ap (λ (slots : List Slot). found_of slots place) made;
        revalued = λ place. ap (λ (slots : List Slot). revalued_of slots place) made;
        charged = λ target. ap (λ l. charged_of l target) links;
      };
      marked = λ f held. (
        λ suspect. inl (subst (λ (slots : List Slot). IsTrue (suspects_of slots f.place)) made suspect),
        λ either. elim either [ inl was ↦ subst (λ (slots : List Slot). IsTrue (suspects_of slots f.place)) (sym made) was | inr now ↦ absurd (none f now) ],
      );
    }

-- one is marked if it passes the test
one-marked : (b : Bool) (old new : Movements) (e : Entry) → AreKept old → slots_of new ≡ cond b (marks (slots_of old) e.place) (slots_of old)
    → new.index ≡ old.index → new.links ≡ old.links → AreMarked old new (λ f. (b ≡ true) × (f.place ≡ e.place))
one-marked true old new e kept made index links =
    marked-as old new (λ f. f.place ≡ e.place) (λ f. (true ≡ true) × (f.place ≡ e.place)) (λ f held is. (refl, is)) (λ f held is. is.1)
    (marked-at old new e.place kept made index links)
one-marked false old new e kept made index links = same-marked old new (λ f. (false ≡ true) × (f.place ≡ e.place)) kept made index links (λ f is. absurd (false≢true is.0))

pub passing-are_marked : (test : Entry → Bool) (es : List Entry) (old new : Movements) → AreKept old
    → slots_of new ≡ passing_marked test (slots_of old) es → new.index ≡ old.index → new.links ≡ old.links → AreMarked old new (IsAmong test es)
passing-are_marked test [] old new kept made index links =
    same-marked old new (IsAmong test []) kept made index links (λ f is. absurd (omega (arith, is.1.1)))
passing-are_marked test (e ∷ es) old new kept made index links =
    let mid : Movements = record old { frontier = record old.frontier { slots = mark_passing test (slots_of old) e } } in
    let first = one-marked (test e) old mid e kept refl refl refl in
    let rest = passing-are_marked test es mid new first.kept made index links in
    marked-as old new (λ f. ((test e ≡ true) × (f.place ≡ e.place)) ⊎ IsAmong test es f) (IsAmong test (e ∷ es))
    (λ f held is. elim is [
      | inl own ↦ (e, Contains-first e es, own.0, own.1)
      | inr other ↦ (other.0, Contains-later e es other.0 other.1, other.2, other.3)
    ])
    (λ f held is. elim (Contains-cases e es is.0 is.1) [
      | inl own ↦ inl (subst (λ (b : Entry). test b ≡ true) (sym own) is.2, subst (λ (b : Entry). f.place ≡ b.place) (sym own) is.3)
      | inr other ↦ inr (is.0, other, is.2, is.3)
    ])
    (marked-then old mid new (λ f. (test e ≡ true) × (f.place ≡ e.place)) (IsAmong test es) first rest)

-- the next one is marked if it passes the test, and then the rest
pub passing-step : (test : Entry → Bool) (slots new old : List Slot) (es : List Entry) (i : ℕ) (e : Entry) (passes : Bool) → i < length es
    → e ≡ get_or es i e → test e ≡ passes → new ≡ cond passes (marks slots e.place) slots
    → passing_marked test slots (drop i es) ≡ passing_marked test old es → passing_marked test new (drop (i + 1) es) ≡ passing_marked test old es
passing-step test slots new old es i e passes within is does made so_far =
    ap (λ (l : List Slot). passing_marked test l (drop (i + 1) es)) (made ∙ ap (λ (b : Bool). cond b (marks slots e.place) slots) (sym does))
    ∙ ap (λ (f : Entry). passing_marked test slots (f ∷ drop (i + 1) es)) is
    ∙ sym (at_drop_more (passing_marked test slots) es i e within)
    ∙ so_far
