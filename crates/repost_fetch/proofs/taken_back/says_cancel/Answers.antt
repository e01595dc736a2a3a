-- A cancel takes a record back, and nothing else that is said does.
use Rattle.std.proofs.Common.{◌≡◌, true, false, refl, sym, ap}
use Rattle.stock_nums.specs.declared.numbers.RecordNo.{RecordNo}
use Rattle.stock_model.specs.declared.vouchers.What.{What}
use Rattle.stock_model.specs.declared.vouchers.What.TheVariants.{Item, Store, Receipt, Issue, Transfer, CustomerReturn, SupplierReturn, Landed, Freeze, Cancel}
use Rattle.repost_fetch.specs.Cancels.{says_cancel}
use Rattle.repost_fetch.proofs.taken_back.says_cancel.Goals as goal

is-cancel : (what : What) (target : RecordNo) → what ≡ Cancel target → says_cancel what ≡ true
unfolding says_cancel
is-cancel what target is = ap says_cancel is

is-other : (what : What) → ((target : RecordNo) → what ≡ Cancel target → ⊥) → says_cancel what ≡ false
unfolding says_cancel
is-other (Item code method) other = refl
is-other (Store code account) other = refl
is-other (Receipt at lines) other = refl
is-other (Issue at purpose lines) other = refl
is-other (Transfer at lines) other = refl
is-other (CustomerReturn at lines) other = refl
is-other (SupplierReturn at lines) other = refl
is-other (Landed charge basis targets) other = refl
is-other (Freeze until) other = refl
is-other (Cancel target) other = absurd (other target refl)

pub returns-in-Cancel : goal.returns-in-Cancel
returns-in-Cancel c = sym (is-cancel c.args.what.now c.in-Cancel.target c.in-Cancel.is)

pub returns-in_default : goal.returns-in_default
returns-in_default c = sym (is-other c.args.what.now c.in_default.not-Cancel)
