-- Vouchers that are posted one after another are posted as one list.
use Rattle.std.proofs.Common.{◌≡◌, ◌&&◌, ℕ, Bool, true, false, List, [], ◌∷◌, ◌++◌, inl, inr, refl, sym, ap, ◌∙◌, subst, append_assoc}
use Rattle.std.proofs.lemmas.List.{append-nil}
use Rattle.std.proofs.lemmas.Grind.{flat_map-append}
use Rattle.std.specs.Prelude.{option_to_list}
use Rattle.std.specs.List.{flat_map, list_all}
use Rattle.stock_model.specs.declared.answers.Answer.{Answer}
use Rattle.stock_model.specs.declared.vouchers.What.{What}
use Rattle.repost_worker.specs.Paces.{Pace}
use Rattle.stock_count.specs.declared.plan.CountPlan.{CountPlan}
use Rattle.sheet_io.specs.Lines.{diffs_line}
use Rattle.stock_batch.specs.Answers.{answer_line}
use Rattle.stock_import.specs.Posts.{is_accepted, IsPosted, ArePosted, IsPostCut, ArePostsCut}
use Rattle.stock_import.specs.Steps.{AddsPost, AddsPosts, AddsIf, AddsCount}
use Rattle.stock_import.specs.Vouchers.{vouchers_of}

-- whether all were accepted is told by the first and the others
all-rest : (answers others : List Answer) (answer : Answer) (all accepted : Bool) → answers ≡ answer ∷ others → is_accepted answer ≡ accepted
    → list_all is_accepted answers ≡ all → accepted && list_all is_accepted others ≡ all
all-rest answers others answer all accepted is told whole =
    subst (λ (b : Bool). b && list_all is_accepted others ≡ all) told
    (subst (λ (list : List Answer). list_all is_accepted list ≡ all) is whole)

-- the second vouchers are posted where all of the first were accepted
pub posted-append : (old mid new : Pace) (whats more : List What) (answers further : List Answer) → ArePosted old whats answers mid
    → list_all is_accepted answers ≡ true → ArePosted mid more further new → ArePosted old (whats ++ more) (answers ++ further) new
posted-append old mid new [] more answers further (none, same) all then =
    subst (λ (list : List Answer). ArePosted old more (list ++ further) new) (sym none)
    (subst (λ (p : Pace). ArePosted p more further new) same then)
posted-append old mid new (what ∷ rest) more answers further (answer, next, others, is, posted, inl (accepted, goes_on)) all then = (
  answer,
  next,
  others ++ further,
  ap (λ (list : List Answer). list ++ further) is,
  posted,
  inl (accepted, posted-append next mid new rest more others further goes_on (all-rest answers others answer true true is accepted all) then),
)
posted-append old mid new (what ∷ rest) more answers further (answer, next, others, is, posted, inr (refused, none, same)) all then =
    let clash : false ≡ true = all-rest answers others answer true false is refused all in
    cc

-- and they are not where one was not
pub posted-stopped : (old mid : Pace) (whats more : List What) (answers : List Answer) → ArePosted old whats answers mid
    → list_all is_accepted answers ≡ false → ArePosted old (whats ++ more) answers mid
posted-stopped old mid [] more answers (none, same) not =
    let clash : true ≡ false = subst (λ (list : List Answer). list_all is_accepted list ≡ false) none not in
    cc
posted-stopped old mid (what ∷ rest) more answers (answer, next, others, is, posted, inl (accepted, goes_on)) not = (
  answer,
  next,
  others,
  is,
  posted,
  inl (accepted, posted-stopped next mid rest more others goes_on (all-rest answers others answer false true is accepted not)),
)
posted-stopped old mid (what ∷ rest) more answers (answer, next, others, is, posted, inr stopped) not =
    (answer, next, others, is, posted, inr stopped)

-- memory was wanting for one of the first
pub cut-first : (old new : Pace) (whats more : List What) → ArePostsCut old whats new → ArePostsCut old (whats ++ more) new
cut-first old new [] more cut = absurd cut
cut-first old new (what ∷ rest) more (inl cut) = inl cut
cut-first old new (what ∷ rest) more (inr (answer, next, posted, accepted, cut)) =
    inr (answer, next, posted, accepted, cut-first next new rest more cut)

-- or for one of the second
pub cut-second : (old mid new : Pace) (whats more : List What) (answers : List Answer) → ArePosted old whats answers mid
    → list_all is_accepted answers ≡ true → ArePostsCut mid more new → ArePostsCut old (whats ++ more) new
cut-second old mid new [] more answers (none, same) all cut = subst (λ (p : Pace). ArePostsCut p more new) same cut
cut-second old mid new (what ∷ rest) more answers (answer, next, others, is, posted, inl (accepted, goes_on)) all cut =
    inr (
      answer,
      next,
      posted,
      accepted,
      cut-second next mid new rest more others goes_on (all-rest answers others answer true true is accepted all) cut,
    )
cut-second old mid new (what ∷ rest) more answers (answer, next, others, is, posted, inr (refused, none, same)) all cut =
    let clash : false ≡ true = all-rest answers others answer true false is refused all in
    cc

-- no voucher is posted at once, and one is all of a list of one
pub adds-none : (old : Pace) (waiting : List ℕ) → AddsPosts old [] waiting waiting old true
adds-none old waiting = ([], (refl, refl), sym (append-nil waiting), refl)

one-posted : (old : Pace) (what : What) (answer : Answer) (new : Pace) (accepted : Bool) → is_accepted answer ≡ accepted
    → IsPosted old what answer new → ArePosted old (what ∷ []) (answer ∷ []) new
one-posted old what answer new true told posted = (answer, new, [], refl, posted, inl (told, (refl, refl)))
one-posted old what answer new false told posted = (answer, new, [], refl, posted, inr (told, refl, refl))

and-true : (b : Bool) → b ≡ b && true
and-true true = refl
and-true false = refl

pub adds-one : (old : Pace) (what : What) (waiting waiting' : List ℕ) (new : Pace) (accepted : Bool)
    → AddsPost old what waiting waiting' new accepted → AddsPosts old (what ∷ []) waiting waiting' new accepted
adds-one old what waiting waiting' new accepted (answer, posted, added, told) = (
  answer ∷ [],
  one-posted old what answer new (is_accepted answer) refl posted,
  added ∙ ap (λ (text : List ℕ). waiting ++ text) (sym (append-nil (answer_line answer))),
  told ∙ and-true (is_accepted answer),
)

cut-one : (old : Pace) (what : What) (new : Pace) → IsPostCut old what new → ArePostsCut old (what ∷ []) new
cut-one old what new cut = inl cut

-- what was added one after another was added as a whole
added-whole : (waiting diffs first second one two three : List ℕ) → one ≡ waiting ++ diffs → two ≡ one ++ first → three ≡ two ++ second
    → three ≡ waiting ++ (diffs ++ (first ++ second))
added-whole waiting diffs first second one two three is_one is_two is_three =
    is_three ∙ ap (λ (text : List ℕ). text ++ second) is_two ∙ ap (λ (text : List ℕ). (text ++ first) ++ second) is_one
    ∙ append_assoc (waiting ++ diffs) first second ∙ append_assoc waiting diffs (first ++ second)

-- a count is told, and its vouchers are posted in turn: the receipt where the issue was accepted
pub counted : (old mid new : Pace) (plan : CountPlan) (waiting one two three : List ℕ) (accepted : Bool) → one ≡ waiting ++ diffs_line plan.diffs
    → AddsPosts old (option_to_list plan.issue) one two mid accepted → AddsIf accepted mid (option_to_list plan.receipt) two three new
    → AddsCount old plan waiting three new
counted old mid new plan waiting one two three true diffs (answers, issued, first, all) (last, (further, received, second, some)) = (
  answers ++ further,
  posted-append old mid new (option_to_list plan.issue) (option_to_list plan.receipt) answers further issued (sym all) received,
  added-whole waiting (diffs_line plan.diffs) (flat_map answer_line answers) (flat_map answer_line further) one two three diffs first second
      ∙ ap (λ (text : List ℕ). waiting ++ (diffs_line plan.diffs ++ text)) (sym (flat_map-append answer_line answers further)),
)
counted old mid new plan waiting one two three false diffs (answers, issued, first, not) (nothing, same) = (
  answers,
  subst (ArePosted old (vouchers_of plan) answers) (sym same)
      (posted-stopped old mid (option_to_list plan.issue) (option_to_list plan.receipt) answers issued (sym not)),
  nothing ∙ first ∙ ap (λ (text : List ℕ). text ++ flat_map answer_line answers) diffs
      ∙ append_assoc waiting (diffs_line plan.diffs) (flat_map answer_line answers),
)

-- memory was wanting for the receipt, after the issue was accepted
pub cut-receipt : (old mid new : Pace) (plan : CountPlan) (one two : List ℕ) (accepted : Bool)
    → AddsPosts old (option_to_list plan.issue) one two mid accepted → accepted ≡ true
    → ArePostsCut mid (option_to_list plan.receipt) new → ArePostsCut old (vouchers_of plan) new
cut-receipt old mid new plan one two accepted (answers, issued, first, all) is cut =
    cut-second old mid new (option_to_list plan.issue) (option_to_list plan.receipt) answers issued (sym all ∙ is) cut
