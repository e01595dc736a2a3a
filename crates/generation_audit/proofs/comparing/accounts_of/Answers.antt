-- The balances over the replay of a legal journal can be told.
use Rattle.std.proofs.Common.{List, sym, ◌∙◌, subst}
use Rattle.stock_nums.specs.declared.entry.Row.{Row}
use Rattle.stock_nums.specs.declared.head.Head.{Head}
use Rattle.stock_model.specs.Books.{HaveBalances}
use Rattle.stock_model.specs.Masters.{heads}
use Rattle.generation_audit.proofs.HeldBalances.{balances-held}
use Rattle.generation_audit.proofs.comparing.accounts_of.Goals as goal

pub balances-requires : goal.balances-requires
balances-requires c =
    let journal = c.args.records.now in
    subst (λ (hs : List Head). HaveBalances hs c.args.rows.now) (sym (c.as_slice.ensures ∙ c.in_ok-heads.ensures))
    (subst (λ (rows : List Row). HaveBalances (heads journal) rows) (sym c.requires.rows) (balances-held journal c.requires.legal))
