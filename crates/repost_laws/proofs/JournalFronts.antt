-- What holds of a journal holds of its first records, and what a legal one holds.
use Rattle.std.proofs.Common.{ℕ, List, [], ◌∷◌, ◌++◌, ap, sym, subst, ◌∙◌, Contains}
use Rattle.std.specs.List.{All}
use Rattle.stock_nums.specs.declared.cause.Method.{Method}
use Rattle.stock_nums.specs.declared.entry.Entry.{Entry}
use Rattle.stock_nums.specs.declared.entry.Key.{Key}
use Rattle.stock_model.specs.Enough.{IsEnough}
use Rattle.stock_model.specs.Formulas.{HasFormula}
use Rattle.stock_model.specs.Journals.{AreLegalAfter, AreLegal, AreSoundAfter}
use Rattle.stock_model.specs.PostingOrder.{posting_line}
use Rattle.stock_model.specs.declared.records.Record.{Record}
use Rattle.stock_laws.proofs.Formulas.{posting_line-formula}
use Rattle.stock_laws.proofs.Legality.{IsHeld-legal}
use Rattle.repost_laws.specs.Fetches.{HaveOneMethod}

pub AreSoundAfter-first : (done front rest : List Record) → AreSoundAfter done (front ++ rest) → AreSoundAfter done front
AreSoundAfter-first done [] rest sound = tt
AreSoundAfter-first done (r ∷ front) rest sound = (sound.0, AreSoundAfter-first (done ++ r ∷ []) front rest sound.1)

AreLegalAfter-first : (done front rest : List Record) → AreLegalAfter done (front ++ rest) → AreLegalAfter done front
AreLegalAfter-first done [] rest legal = tt
AreLegalAfter-first done (r ∷ front) rest legal = (legal.0, AreLegalAfter-first (done ++ r ∷ []) front rest legal.1)

pub AreLegal-front : (journal more : List Record) → AreLegal (journal ++ more) → AreLegal journal
AreLegal-front journal more legal = AreLegalAfter-first [] journal more legal

pub IsEnough-legal : (journal : List Record) → AreLegal journal → IsEnough (posting_line journal)
IsEnough-legal journal legal = (IsHeld-legal journal legal).enough

-- a movement of those that have the formulas has its item's
HasFormula-held : (formula : ℕ → Method) (es : List Entry) (e : Entry) → All (HasFormula formula) es → Contains es e
    → HasFormula formula e
HasFormula-held formula es e all held = subst (HasFormula formula) held.2 (all held.0 e held.1)

-- movements of one item have one formula
pub HaveOneMethod-posting_line : (journal : List Record) → HaveOneMethod (posting_line journal)
HaveOneMethod-posting_line journal e f own other same =
    let has = posting_line-formula journal in
    HasFormula-held has.0 (posting_line journal) e has.1 own ∙ ap (λ (key : Key). has.0 key.item.0) same
    ∙ sym (HasFormula-held has.0 (posting_line journal) f has.1 other)
