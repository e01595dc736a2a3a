-- The journal's faults go before the want of room.
use Rattle.std.proofs.Common.{◌≡◌, Some, None, refl, sym, ap, ◌∙◌}
use Rattle.stock_model.specs.Faults.{voucher_fault}
use Rattle.generation_book.specs.State.{BookState}
use Rattle.generation_book.specs.Book.{deeds}
use Rattle.generation_book.proofs.Books.{history-records}
use Rattle.generation_book.proofs.book.Book.fault_but_short.Goals as goal

pub full-requires : goal.full-requires
full-requires g c =
    let told : deeds c.self.inside.events.items c.self.inside.journal ≡ c.args.self.now.history = ap (λ (b : BookState). b.history) c.self.view_is in
    let records = history-records _ _ _ _ _ c.args.self.now.history c.self.invariant.0 told in
    rw records (sym c.fault.ensures ∙ c.in-None.is)

pub returns-in-Some : goal.returns-in-Some
returns-in-Some g c =
    let told : deeds c.self.inside.events.items c.self.inside.journal ≡ c.args.self.now.history = ap (λ (b : BookState). b.history) c.self.view_is in
    let records = history-records _ _ _ _ _ c.args.self.now.history c.self.invariant.0 told in
    let is : voucher_fault c.self.inside.journal c.args.item.now.what ≡ Some c.in-Some.fault = sym c.fault.ensures ∙ c.in-Some.is in
    rw (records, is) refl

pub returns-in-None : goal.returns-in-None
returns-in-None g c =
    let told : deeds c.self.inside.events.items c.self.inside.journal ≡ c.args.self.now.history = ap (λ (b : BookState). b.history) c.self.view_is in
    let records = history-records _ _ _ _ _ c.args.self.now.history c.self.invariant.0 told in
    let none : voucher_fault c.self.inside.journal c.args.item.now.what ≡ None = sym c.fault.ensures ∙ c.in-None.is in
    c.full.ensures ∙ rw (records, none) refl
