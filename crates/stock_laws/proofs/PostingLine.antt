-- The posting line is the one list of all movements in posting order.
use Rattle.std.proofs.Common.{◌≡◌, Bool, true, false, cond, List, [], ◌∷◌, ◌++◌, inl, inr, refl, sym, ap, ◌∙◌, subst}
use Rattle.std.specs.List.Sorted.{IsPermutation}
use Rattle.std.proofs.lemmas.Bool.{false≢true}
use Rattle.std.proofs.lemmas.List.{append-nil}
use Rattle.std.proofs.lemmas.List.Sorted.{IsPermutation-refl, IsPermutation-sym, IsPermutation-trans, IsPermutation-cons, IsPermutation-middle, IsPermutation-append_left, Contains-permutation}
use Rattle.stock_nums.specs.Places.{is_before}
use Rattle.stock_nums.specs.declared.entry.Entry.{Entry}
use Rattle.stock_nums.specs.declared.place.Place.{Place}
use Rattle.stock_nums.proofs.PlaceOrder.{is_before-irreflexive, is_before-transitive, is_before-total}
use Rattle.stock_model.specs.declared.records.Record.{Record}
use Rattle.stock_model.specs.Entries.{all_entries}
use Rattle.stock_model.specs.InOrder.{IsBefore, IsInPostingOrder}
use Rattle.stock_model.specs.PostingOrder.{put, put_all, posting_line}
use Rattle.stock_laws.proofs.Distinct.{Differ, all_entries-Pairwise}
use Rattle.stock_model.proofs.Pairwise.{Precedes, Pairwise, Across, AllPairs-from_Pairwise, Pairwise-from_AllPairs, Pairwise-unique}

-- no movement comes before itself
never_before_itself : (e : Entry) → IsBefore e e → ⊥
never_before_itself e h = false≢true (sym (is_before-irreflexive e.place) ∙ h)

-- of two movements at most one comes before the other
one_way : (a b : Entry) → IsBefore a b → IsBefore b a → ⊥
one_way a b h k = never_before_itself a (is_before-transitive a.place b.place a.place h k)

-- of two different movements the second comes first, where the first does not
IsBefore-turned : (a b : Entry) → Differ a b → is_before a.place b.place ≡ false → IsBefore b a
IsBefore-turned a b differ not_before =
    elim (is_before-total a.place b.place) [
      | inl h ↦ absurd (false≢true (sym not_before ∙ h))
      | inr h ↦ elim h [
        | inl k ↦ k
        | inr same ↦ absurd (differ (ap (λ (p : Place). p.voucher.0) same) (ap (λ (p : Place). p.line) same) (ap (λ (p : Place). p.side) same))
      ]
    ]

-- a movement that comes before the first of those in order comes before all
pub Precedes-along : (e f : Entry) (fs : List Entry) → IsBefore e f → Precedes IsBefore f fs → Precedes IsBefore e fs
Precedes-along e f [] h k = tt
Precedes-along e f (g ∷ gs) h k =
    (is_before-transitive e.place f.place g.place h k.0, Precedes-along e f gs h k.1)

-- what is related to each of a line and to one more is related to each of the line with that one
put-Precedes : (R : Entry → Entry → Type 0) (x : Entry) (line : List Entry) (e : Entry) → Precedes R x line → R x e → Precedes R x (put line e)
put-Precedes R x [] e h r = (r, tt)
put-Precedes R x (f ∷ fs) e h r =
    elim (is_before e.place f.place) as (λ b. Precedes R x (cond b (e ∷ f ∷ fs) (f ∷ put fs e))) [
      | true ↦ (r, h)
      | false ↦ (h.0, put-Precedes R x fs e h.1 r)
    ]

-- a movement put among those in order, from all of which it differs, leaves them in order
pub put-Pairwise : (line : List Entry) (e : Entry) → Pairwise IsBefore line → Precedes Differ e line → Pairwise IsBefore (put line e)
put-Pairwise [] e h d = (tt, tt)
put-Pairwise (f ∷ fs) e h d =
    let step : (b : Bool) → is_before e.place f.place ≡ b → Pairwise IsBefore (cond b (e ∷ f ∷ fs) (f ∷ put fs e)) =
    λ b. elim b as (λ v. is_before e.place f.place ≡ v → Pairwise IsBefore (cond v (e ∷ f ∷ fs) (f ∷ put fs e))) [
      | true ↦ λ is. ((is, Precedes-along e f fs is h.0), h)
      | false ↦ λ is. (put-Precedes IsBefore f fs e h.0 (IsBefore-turned e f d.0 is), put-Pairwise fs e h.1 d.1)
    ] in
    step (is_before e.place f.place) refl

-- further movements that differ from those of a line and from one more differ from those of the line with that one
pub put-Across : (es line : List Entry) (e : Entry) → Across Differ es line → Precedes Differ e es → Across Differ es (put line e)
put-Across [] line e a h = tt
put-Across (f ∷ fs) line e a h = (
  put-Precedes Differ f line e a.0 (λ same_voucher same_line same_side. h.0 (sym same_voucher) (sym same_line) (sym same_side)),
  put-Across fs line e a.1 h.1,
)

pub put_all-Pairwise : (line es : List Entry) → Pairwise IsBefore line → Pairwise Differ es → Across Differ es line → Pairwise IsBefore (put_all line es)
put_all-Pairwise line [] h k a = h
put_all-Pairwise line (e ∷ es) h k a =
    put_all-Pairwise (put line e) es (put-Pairwise line e h a.0) k.1 (put-Across es line e a.1 k.0)

-- no movement is in the empty line
pub Across-nil : (es : List Entry) → Across Differ es []
Across-nil [] = tt
Across-nil (e ∷ es) = (tt, Across-nil es)

-- a movement put into a line is added to its movements
put-IsPermutation : (line : List Entry) (e : Entry) → IsPermutation (e ∷ line) (put line e)
put-IsPermutation [] e = IsPermutation-refl (e ∷ [])
put-IsPermutation (f ∷ fs) e =
    elim (is_before e.place f.place) as (λ b. IsPermutation (e ∷ f ∷ fs) (cond b (e ∷ f ∷ fs) (f ∷ put fs e))) [
      | true ↦ IsPermutation-refl (e ∷ f ∷ fs)
      | false ↦ IsPermutation-trans (e ∷ f ∷ fs) (f ∷ e ∷ fs) (f ∷ put fs e)
          (IsPermutation-sym (f ∷ e ∷ fs) (e ∷ f ∷ fs) (IsPermutation-middle (f ∷ []) e fs))
          (IsPermutation-cons f (e ∷ fs) (put fs e) (put-IsPermutation fs e))
    ]

put_all-IsPermutation : (line es : List Entry) → IsPermutation (line ++ es) (put_all line es)
put_all-IsPermutation line [] =
    subst (λ (l : List Entry). IsPermutation l line) (sym (append-nil line)) (IsPermutation-refl line)
put_all-IsPermutation line (e ∷ es) =
    IsPermutation-trans (line ++ e ∷ es) (e ∷ (line ++ es)) (put_all (put line e) es) (IsPermutation-middle line e es)
    (IsPermutation-trans (e ∷ (line ++ es)) (put line e ++ es) (put_all (put line e) es)
    (IsPermutation-append_left es (e ∷ line) (put line e) (put-IsPermutation line e))
    (put_all-IsPermutation (put line e) es))

-- the posting line is in posting order
pub IsInPostingOrder-posting_line : (journal : List Record) → IsInPostingOrder (posting_line journal)
unfolding posting_line
IsInPostingOrder-posting_line journal =
    AllPairs-from_Pairwise IsBefore (posting_line journal)
    (put_all-Pairwise [] (all_entries journal) tt (all_entries-Pairwise journal) (Across-nil (all_entries journal)))

-- the posting line has the movements of the journal and no others, each as often
pub IsPermutation-posting_line : (journal : List Record) → IsPermutation (all_entries journal) (posting_line journal)
unfolding posting_line
IsPermutation-posting_line journal = put_all-IsPermutation [] (all_entries journal)

-- a list of the movements of the journal that is in posting order is the posting line
pub posting_line-unique : (journal : List Record) (line : List Entry) → IsPermutation (all_entries journal) line → IsInPostingOrder line → line ≡ posting_line journal
posting_line-unique journal line same order =
    let to : IsPermutation line (posting_line journal) =
    IsPermutation-trans line (all_entries journal) (posting_line journal) (IsPermutation-sym (all_entries journal) line same) (IsPermutation-posting_line journal) in
    Pairwise-unique IsBefore never_before_itself one_way line (posting_line journal)
    (Pairwise-from_AllPairs IsBefore line order)
    (Pairwise-from_AllPairs IsBefore (posting_line journal) (IsInPostingOrder-posting_line journal))
    (λ e. Contains-permutation line (posting_line journal) e to)
    (λ e. Contains-permutation (posting_line journal) line e (IsPermutation-sym line (posting_line journal) to))
