-- The balances of all accounts of some lines together are the debits of the lines less their credits.
use Rattle.std.proofs.Common.{◌≡◌, ℕ, ◌+◌, ◌<◌, ◌==◌, ℤ, pos, ◌+ℤ◌, ◌-ℤ◌, Bool, true, false, cond, List, [], ◌∷◌, map, filter, fold, sum_by, refl, sym, ap, ◌∙◌, subst, arith, nat_lt}
use Rattle.std.proofs.lemmas.Bool.Decides.{nat_tests}
use Rattle.std.proofs.lemmas.Int.{ints}
use Rattle.std.proofs.lemmas.List.Sums.{sum_by-cons}
use Rattle.stock_model.specs.declared.ledger_lines.GlLine.{GlLine}
use Rattle.stock_model.specs.Accounts.{put_account, put_account_of, accounts_of, account_row, balances_of}
use Rattle.stock_model.specs.Books.{add_balance, sum_of_balances}
use Rattle.stock_model.specs.LedgerLines.{is_on, debit_of, credit_of, debits, credits}
use Rattle.stock_model.proofs.Pairwise.{Each, Precedes, Pairwise}
use Rattle.stock_laws.proofs.TestedSums.{counted, tested-cons}

abbrev IsLess : ℕ → ℕ → Type 0
IsLess a b = a < b

-- what an amount of an account adds at this one
abbrev amount_at : ℕ → ℕ → ℕ → ℕ
amount_at account n a = counted (account == a) n

-- the account is one of these once, or not at all
abbrev HasOnce : List ℕ → ℕ → Type 0
HasOnce accounts account = (n : ℕ) → sum_by (amount_at account n) accounts ≡ n

abbrev HasNone : List ℕ → ℕ → Type 0
HasNone accounts account = (n : ℕ) → sum_by (amount_at account n) accounts ≡ 0

-- it adds all of itself at its own account, and nothing at another
at-own : (account n : ℕ) → amount_at account n account ≡ n
at-own account n = ap (λ (b : Bool). counted b n) (own account)
  where
    own : (a : ℕ) → (a == a) ≡ true
    own a = grind (arith, nat_tests)

at-other : (account a n : ℕ) → (account ≡ a → ⊥) → amount_at account n a ≡ 0
at-other account a n other = ap (λ (b : Bool). counted b n) (differ account a other)
  where
    differ : (x y : ℕ) → (x ≡ y → ⊥) → (x == y) ≡ false
    differ x y h = grind (arith, nat_tests)

-- an account below all of these is none of them
none-below : (account : ℕ) (accounts : List ℕ) → Precedes IsLess account accounts → HasNone accounts account
none-below account [] below n = refl
none-below account (a ∷ accounts) below n =
    omega (arith, sum_by-cons (amount_at account n) a accounts, at-other account a n (λ same. omega (arith, below.0, same)), none-below account accounts below.1 n)

-- what is below the first of ascending accounts is below all
along : (a b : ℕ) (accounts : List ℕ) → a < b → Precedes IsLess b accounts → Precedes IsLess a accounts
along a b [] less below = tt
along a b (c ∷ accounts) less below = (omega (arith, less, below.0), along a b accounts less below.1)

-- what the tests of two accounts mean
less-from : (a b : ℕ) → nat_lt a b ≡ true → a < b
less-from a b h = grind (arith, nat_tests)

same-from : (a b : ℕ) → nat_lt a b ≡ false → nat_lt b a ≡ false → a ≡ b
same-from a b h k = grind (arith, nat_tests)

-- an account put among ascending ones leaves them ascending
put-Precedes : (a : ℕ) (accounts : List ℕ) (account : ℕ) → Precedes IsLess a accounts → a < account → Precedes IsLess a (put_account accounts account)
put-Precedes a [] account below less = (less, tt)
put-Precedes a (b ∷ accounts) account below less =
    elim (nat_lt account b) as (λ v. Precedes IsLess a (cond v (account ∷ b ∷ accounts) (cond (nat_lt b account) (b ∷ put_account accounts account) (b ∷ accounts)))) [
      | true ↦ (less, below)
      | false ↦ elim (nat_lt b account) as (λ v. Precedes IsLess a (cond v (b ∷ put_account accounts account) (b ∷ accounts))) [
        | true ↦ (below.0, put-Precedes a accounts account below.1 less)
        | false ↦ below
      ]
    ]

put-ascending : (accounts : List ℕ) (account : ℕ) → Pairwise IsLess accounts → Pairwise IsLess (put_account accounts account)
put-ascending [] account order = (tt, tt)
put-ascending (a ∷ accounts) account order =
    let later : (b : Bool) → nat_lt a account ≡ b → Pairwise IsLess (cond b (a ∷ put_account accounts account) (a ∷ accounts)) =
    λ b. elim b as (λ v. nat_lt a account ≡ v → Pairwise IsLess (cond v (a ∷ put_account accounts account) (a ∷ accounts))) [
      | true ↦ λ is. (put-Precedes a accounts account order.0 (less-from a account is), put-ascending accounts account order.1)
      | false ↦ λ is. order
    ] in
    let step : (b : Bool) → nat_lt account a ≡ b → Pairwise IsLess (cond b (account ∷ a ∷ accounts) (cond (nat_lt a account) (a ∷ put_account accounts account) (a ∷ accounts))) =
    λ b. elim b as (λ v. nat_lt account a ≡ v → Pairwise IsLess (cond v (account ∷ a ∷ accounts) (cond (nat_lt a account) (a ∷ put_account accounts account) (a ∷ accounts)))) [
      | true ↦ λ is. let less = less-from account a is in ((less, along account a accounts less order.0), order)
      | false ↦ λ is. later (nat_lt a account) refl
    ] in
    step (nat_lt account a) refl

-- it is one of them once
once-first : (account : ℕ) (accounts : List ℕ) → Precedes IsLess account accounts → HasOnce (account ∷ accounts) account
once-first account accounts below n =
    omega (arith, sum_by-cons (amount_at account n) account accounts, at-own account n, none-below account accounts below n)

once-later : (account a : ℕ) (accounts : List ℕ) → a < account → HasOnce accounts account → HasOnce (a ∷ accounts) account
once-later account a accounts less once n =
    omega (arith, sum_by-cons (amount_at account n) a accounts, at-other account a n (λ same. omega (arith, less, same)), once n)

put-own : (accounts : List ℕ) (account : ℕ) → Pairwise IsLess accounts → HasOnce (put_account accounts account) account
put-own [] account order = once-first account [] tt
put-own (a ∷ accounts) account order =
    let later : nat_lt account a ≡ false → (b : Bool) → nat_lt a account ≡ b → HasOnce (cond b (a ∷ put_account accounts account) (a ∷ accounts)) account =
    λ not_less b. elim b as (λ v. nat_lt a account ≡ v → HasOnce (cond v (a ∷ put_account accounts account) (a ∷ accounts)) account) [
      | true ↦ λ is. once-later account a (put_account accounts account) (less-from a account is) (put-own accounts account order.1)
      | false ↦ λ is. subst (HasOnce (a ∷ accounts)) (same-from a account is not_less) (once-first a accounts order.0)
    ] in
    let step : (b : Bool) → nat_lt account a ≡ b → HasOnce (cond b (account ∷ a ∷ accounts) (cond (nat_lt a account) (a ∷ put_account accounts account) (a ∷ accounts))) account =
    λ b. elim b as (λ v. nat_lt account a ≡ v → HasOnce (cond v (account ∷ a ∷ accounts) (cond (nat_lt a account) (a ∷ put_account accounts account) (a ∷ accounts))) account) [
      | true ↦ λ is. let less = less-from account a is in once-first account (a ∷ accounts) (less, along account a accounts less order.0)
      | false ↦ λ is. later is (nat_lt a account) refl
    ] in
    step (nat_lt account a) refl

-- and each other account as often as before
put-other : (accounts : List ℕ) (account z n : ℕ) → (z ≡ account → ⊥) → sum_by (amount_at z n) (put_account accounts account) ≡ sum_by (amount_at z n) accounts
put-other [] account z n other = omega (arith, sum_by-cons (amount_at z n) account [], at-other z account n other)
put-other (a ∷ accounts) account z n other =
    elim (nat_lt account a) as (λ b. sum_by (amount_at z n) (cond b (account ∷ a ∷ accounts) (cond (nat_lt a account) (a ∷ put_account accounts account) (a ∷ accounts))) ≡ sum_by (amount_at z n) (a ∷ accounts)) [
      | true ↦ omega (arith, sum_by-cons (amount_at z n) account (a ∷ accounts), at-other z account n other)
      | false ↦ elim (nat_lt a account) as (λ b. sum_by (amount_at z n) (cond b (a ∷ put_account accounts account) (a ∷ accounts)) ≡ sum_by (amount_at z n) (a ∷ accounts)) [
        | true ↦ omega (arith, sum_by-cons (amount_at z n) a (put_account accounts account), sum_by-cons (amount_at z n) a accounts, put-other accounts account z n other)
        | false ↦ refl
      ]
    ]

-- the same of the test that they are one
equal-from : (a b : ℕ) → (a == b) ≡ true → a ≡ b
equal-from a b h = grind (arith, nat_tests)

differ-from : (a b : ℕ) → (a == b) ≡ false → a ≡ b → ⊥
differ-from a b h same = grind (arith, nat_tests)

-- what was one of them once still is
put-keeps : (accounts : List ℕ) (account z : ℕ) → Pairwise IsLess accounts → HasOnce accounts z → HasOnce (put_account accounts account) z
put-keeps accounts account z order once =
    let step : (b : Bool) → (z == account) ≡ b → HasOnce (put_account accounts account) z =
    λ b. elim b as (λ v. (z == account) ≡ v → HasOnce (put_account accounts account) z) [
      | true ↦ λ is. subst (HasOnce (put_account accounts account)) (sym (equal-from z account is)) (put-own accounts account order)
      | false ↦ λ is n. put-other accounts account z n (differ-from z account is) ∙ once n
    ] in
    step (z == account) refl

-- the accounts with those of further lines
fold-keeps : (accounts : List ℕ) (lines : List GlLine) (z : ℕ) → Pairwise IsLess accounts → HasOnce accounts z → HasOnce (fold put_account_of accounts lines) z
fold-keeps accounts [] z order once = once
fold-keeps accounts (line ∷ lines) z order once =
    let account = line.account.0 in
    fold-keeps (put_account accounts account) lines z (put-ascending accounts account order) (put-keeps accounts account z order once)

-- the line's account is one of these once
abbrev IsOnOneOf : List ℕ → GlLine → Type 0
IsOnOneOf accounts line = HasOnce accounts line.account.0

-- each further line's account is one of them
fold-once : (accounts : List ℕ) (lines : List GlLine) → Pairwise IsLess accounts → Each (IsOnOneOf (fold put_account_of accounts lines)) lines
fold-once accounts [] order = tt
fold-once accounts (line ∷ lines) order =
    let account = line.account.0 in
    let more = put-ascending accounts account order in
    (fold-keeps (put_account accounts account) lines account more (put-own accounts account order), fold-once (put_account accounts account) lines more)

-- an amount of the lines of an account
abbrev amounts_on : (GlLine → ℕ) → List GlLine → ℕ → ℕ
amounts_on f lines account = sum_by f (filter (is_on account) lines)

-- no lines have no amounts, and one more line has its own at its account
amounts-nil : (f : GlLine → ℕ) (accounts : List ℕ) → sum_by (amounts_on f []) accounts ≡ 0
amounts-nil f [] = refl
amounts-nil f (a ∷ accounts) = omega (arith, sum_by-cons (amounts_on f []) a accounts, amounts-nil f accounts)

amounts-cons : (f : GlLine → ℕ) (line : GlLine) (lines : List GlLine) (accounts : List ℕ)
    → sum_by (amounts_on f (line ∷ lines)) accounts ≡ sum_by (amount_at line.account.0 (f line)) accounts + sum_by (amounts_on f lines) accounts
amounts-cons f line lines [] = refl
amounts-cons f line lines (a ∷ accounts) =
    omega (
      arith,
      sum_by-cons (amounts_on f (line ∷ lines)) a accounts,
      sum_by-cons (amount_at line.account.0 (f line)) a accounts,
      sum_by-cons (amounts_on f lines) a accounts,
      tested-cons f (is_on a) line lines,
      amounts-cons f line lines accounts,
    )

-- the amounts on accounts that have each line once are those of all lines
amounts-all : (f : GlLine → ℕ) (accounts : List ℕ) (lines : List GlLine) → Each (IsOnOneOf accounts) lines → sum_by (amounts_on f lines) accounts ≡ sum_by f lines
amounts-all f accounts [] once = amounts-nil f accounts
amounts-all f accounts (line ∷ lines) once =
    omega (arith, amounts-cons f line lines accounts, once.0 (f line), amounts-all f accounts lines once.1, sum_by-cons f line lines)

-- and so are those on the accounts that have lines
pub accounts_of-all : (f : GlLine → ℕ) (lines : List GlLine) → sum_by (amounts_on f lines) (accounts_of lines) ≡ sum_by f lines
accounts_of-all f lines = amounts-all f (accounts_of lines) lines (fold-once [] lines tt)

-- a difference with one more
difference-more : (d c more less : ℕ) → (pos d -ℤ pos c) +ℤ (pos more -ℤ pos less) ≡ pos (d + more) -ℤ pos (c + less)
difference-more d c more less = omega (arith, ints)

-- the balances of further accounts
balances-more : (lines : List GlLine) (accounts : List ℕ) (d c : ℕ)
    → fold add_balance (pos d -ℤ pos c) (map (account_row lines) accounts) ≡ pos (d + sum_by (debits lines) accounts) -ℤ pos (c + sum_by (credits lines) accounts)
balances-more lines [] d c = omega (arith, ints)
balances-more lines (a ∷ accounts) d c =
    let rows = map (account_row lines) accounts in
    ap (λ (sum : ℤ). fold add_balance sum rows) (difference-more d c (debits lines a) (credits lines a))
    ∙ balances-more lines accounts (d + debits lines a) (c + credits lines a)
    ∙ omega (arith, ints, sum_by-cons (debits lines) a accounts, sum_by-cons (credits lines) a accounts)

-- a difference of the same is nothing
even-nothing : (d c : ℕ) → d ≡ c → pos (0 + d) -ℤ pos (0 + c) ≡ pos 0
even-nothing d c even = omega (arith, ints)

-- where the lines have as much debit as credit, the balances sum to nothing
pub balances_of-nothing : (lines : List GlLine) → sum_by debit_of lines ≡ sum_by credit_of lines → sum_of_balances (balances_of lines) ≡ pos 0
balances_of-nothing lines even =
    balances-more lines (accounts_of lines) 0 0
    ∙ even-nothing (sum_by (debits lines) (accounts_of lines)) (sum_by (credits lines) (accounts_of lines))
    (accounts_of-all debit_of lines ∙ even ∙ sym (accounts_of-all credit_of lines))
