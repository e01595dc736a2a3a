-- Which answers are those to a post.
use Rattle.std.proofs.Common.{◌≡◌, ℕ, ◌+◌, List, [], ◌∷◌, ◌++◌, length, refl, sym, ap, ◌∙◌, subst, append-nil, length-append, arith, inl, inr, None, Some, Result, Ok, Err, IfOk}
use Rattle.stock_nums.specs.declared.memory.NoMemory as memory
use Rattle.stock_nums.specs.declared.numbers.RecordNo.{RecordNo}
use Rattle.stock_model.specs.declared.answers.Answer.{Answer}
use Rattle.stock_model.specs.declared.answers.Answer.TheVariants.{Told}
use Rattle.stock_model.specs.declared.deeds.Deed.{Deed}
use Rattle.stock_model.specs.declared.deeds.Deed.TheVariants.{Kept}
use Rattle.stock_model.specs.declared.faults.PostFault.{PostFault}
use Rattle.stock_model.specs.declared.faults.PostFault.TheVariants.{CodeTaken, CodeShape, AccountRange, UnknownItem, UnknownStore, SameStore, UnknownTarget, NotLive, Linked, LinkLater, RepeatedTarget, OverReturn, NoBasis, Frozen, Full, Short, KeeperFailed, NoMemory}
use Rattle.stock_model.specs.declared.records.Record.{Record}
use Rattle.stock_model.specs.declared.replies.Reply.TheVariants.{Accepted}
use Rattle.stock_model.specs.Faults.{fault}
use Rattle.stock_model.specs.History.{records, accepted}
use Rattle.stock_model.specs.PostReplies.{refusal, IsPostAnswer}
use Rattle.stock_laws.proofs.Histories.{records-append}
use Rattle.generation_book.specs.Refusals.{IsRefusalOf}
use Rattle.book_answers.specs.Answers.{HasText}
use Rattle.book_answers.specs.Posts.{Posts}

-- a record without a fault that was kept is accepted under the next number
pub IsPostAnswer-accepted : (old new : List Deed) (item : Record) (n : RecordNo) → fault (records old) item ≡ None
    → new ≡ old ++ Kept item ∷ [] → n.0 ≡ accepted new → IsPostAnswer old item (Told (Accepted n) []) new
IsPostAnswer-accepted old new item n sound kept is =
    let count : n.0 ≡ accepted old + 1 =
    is ∙ ap accepted kept ∙ ap length (records-append old (Kept item ∷ [])) ∙ omega (arith, length-append (records old) (item ∷ [])) in
    rw sound (inl (ap (λ (k : ℕ). Told (Accepted (record { 0 = k })) []) count, kept))

-- a record that was refused has that fault first, and nothing changed
IsPostAnswer-refused : (old new : List Deed) (item : Record) (f : PostFault) → fault (records old) item ≡ Some f
    → new ≡ old → IsPostAnswer old item (refusal (records old) f) new
IsPostAnswer-refused old new item f is same = rw is (refl, same)

-- where a refusal is told, the record has that fault first, or what keeps the records failed; want of memory is not told
pub IsPostAnswer-told : (old new : List Deed) (item : Record) (f : PostFault) → IsRefusalOf (records old) item f → new ≡ old
    → HasText (refusal (records old) f) → IsPostAnswer old item (refusal (records old) f) new
IsPostAnswer-told old new item CodeTaken is same told = IsPostAnswer-refused old new item CodeTaken is same
IsPostAnswer-told old new item CodeShape is same told = IsPostAnswer-refused old new item CodeShape is same
IsPostAnswer-told old new item AccountRange is same told = IsPostAnswer-refused old new item AccountRange is same
IsPostAnswer-told old new item (UnknownItem n) is same told = IsPostAnswer-refused old new item (UnknownItem n) is same
IsPostAnswer-told old new item (UnknownStore n) is same told = IsPostAnswer-refused old new item (UnknownStore n) is same
IsPostAnswer-told old new item (SameStore n) is same told = IsPostAnswer-refused old new item (SameStore n) is same
IsPostAnswer-told old new item (UnknownTarget n) is same told = IsPostAnswer-refused old new item (UnknownTarget n) is same
IsPostAnswer-told old new item (NotLive target) is same told = IsPostAnswer-refused old new item (NotLive target) is same
IsPostAnswer-told old new item (Linked by) is same told = IsPostAnswer-refused old new item (Linked by) is same
IsPostAnswer-told old new item (LinkLater n) is same told = IsPostAnswer-refused old new item (LinkLater n) is same
IsPostAnswer-told old new item (RepeatedTarget n) is same told = IsPostAnswer-refused old new item (RepeatedTarget n) is same
IsPostAnswer-told old new item (OverReturn n asked left) is same told = IsPostAnswer-refused old new item (OverReturn n asked left) is same
IsPostAnswer-told old new item NoBasis is same told = IsPostAnswer-refused old new item NoBasis is same
IsPostAnswer-told old new item (Frozen until) is same told = IsPostAnswer-refused old new item (Frozen until) is same
IsPostAnswer-told old new item (Full held entries) is same told = IsPostAnswer-refused old new item (Full held entries) is same
IsPostAnswer-told old new item (Short place item' store lacking) is same told = IsPostAnswer-refused old new item (Short place item' store lacking) is same
IsPostAnswer-told old new item KeeperFailed none same told = rw none (inr (refl, same))
IsPostAnswer-told old new item NoMemory is same told = absurd told

-- so the desk posted it
pub Posts-accepted : (old new : List Deed) (item : Record) (n : RecordNo) → fault (records old) item ≡ None
    → new ≡ old ++ Kept item ∷ [] → n.0 ≡ accepted new → Posts item.desk.0 old item.what (Told (Accepted n) []) new
Posts-accepted old new item n sound kept is =
    let answers = IsPostAnswer-accepted old (old ++ Kept item ∷ []) item n sound refl (is ∙ ap accepted kept) in
    record {
      kept = Kept item ∷ [];
      posted = record { item = item; of_desk = refl; says = refl; answers = answers };
      grows = kept;
    }

pub Posts-refusal : (old new : List Deed) (item : Record) (f : PostFault) (r : Result Answer memory.NoMemory)
    → IsRefusalOf (records old) item f → new ≡ old → IfOk r (λ answer. answer ≡ refusal (records new) f) → IfOk r HasText
    → IfOk r (λ answer. Posts item.desk.0 old item.what answer new)
Posts-refusal old new item f (Err e) first same is told = tt
Posts-refusal old new item f (Ok answer) first same is told =
    let is_so : answer ≡ refusal (records old) f = is ∙ ap (λ (history : List Deed). refusal (records history) f) same in
    let answers = IsPostAnswer-told old (old ++ []) item f first (append-nil old) (subst HasText is_so told) in
    subst (λ (a : Answer). Posts item.desk.0 old item.what a new) (sym is_so)
    (record {
      kept = [];
      posted = record { item = item; of_desk = refl; says = refl; answers = answers };
      grows = same ∙ sym (append-nil old);
    })
