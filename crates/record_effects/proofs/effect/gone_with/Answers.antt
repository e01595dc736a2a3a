-- A cancel takes back the one record that it names, and no other record takes any back.
use Rattle.std.proofs.Common.{◌≡◌, ℕ, false, refl, sym, ap, ◌∙◌}
use Rattle.std.specs.Prelude.{nat_eq}
use Rattle.std.proofs.lemmas.Result.{IfOk-weaker}
use Rattle.stock_nums.specs.declared.numbers.RecordNo.{RecordNo}
use Rattle.stock_model.specs.declared.vouchers.What.{What}
use Rattle.stock_model.specs.declared.vouchers.What.TheVariants.{Item, Store, Receipt, Issue, Transfer, CustomerReturn, SupplierReturn, Landed, Freeze, Cancel}
use Rattle.stock_model.specs.Entries.{cancels}
use Rattle.record_effects.proofs.GoneWith.{gone_with-none, gone_with-one}
use Rattle.record_effects.proofs.effect.gone_with.Goals as goal

takes-named : (what : What) (target : RecordNo) → what ≡ Cancel target → (k : ℕ) → cancels k what ≡ nat_eq target.0 k
unfolding cancels
takes-named what target is k = ap (cancels k) is

takes-none : (what : What) → ((target : RecordNo) → what ≡ Cancel target → ⊥) → (k : ℕ) → cancels k what ≡ false
unfolding cancels
takes-none (Item code method) other k = refl
takes-none (Store code account) other k = refl
takes-none (Receipt at lines) other k = refl
takes-none (Issue at purpose lines) other k = refl
takes-none (Transfer at lines) other k = refl
takes-none (CustomerReturn at lines) other k = refl
takes-none (SupplierReturn at lines) other k = refl
takes-none (Landed charge basis targets) other k = refl
takes-none (Freeze until) other k = refl
takes-none (Cancel target) other k = absurd (other target refl)

pub returns-in-Cancel : goal.returns-in-Cancel
returns-in-Cancel c =
    let item = c.args.item.now in
    let target = c.in-Cancel.target in
    let one = gone_with-one c.args.journal.now item target.0 (takes-named item.what target c.in-Cancel.is) in
    IfOk-weaker c.live_entries_of.result _ _ (λ es is. is ∙ sym one) c.live_entries_of.ensures

pub returns-in_default : goal.returns-in_default
returns-in_default c =
    let item = c.args.item.now in
    c.new.ensures ∙ sym (gone_with-none c.args.journal.now item (takes-none item.what c.in_default.not-Cancel))
