-- The map of totals follows the lines that are added to it, and no total is too large.
use Rattle.std.proofs.Common.{◌≡◌, ℕ, ◌+◌, ◌*◌, ◌^◌, ◌<◌, ◌≤◌, ◌==◌, ℤ, pos, ◌+ℤ◌, ◌-ℤ◌, Bool, true, false, cond, ◌||◌, Option, Some, None, List, [], ◌∷◌, ◌++◌, map, filter, sum_by, fold, length, refl, sym, ap, ◌∙◌, subst, arith, nat_lt, unsigned_abs, unwrap_or}
use Rattle.std.specs.BTreeMap.{BTreeMap, is_at, insert_entry}
use Rattle.std.specs.List.{All}
use Rattle.std.specs.Map.{lookup}
use Rattle.std.specs.Ordering.{match_ordering}
use Rattle.std.proofs.lemmas.Bool.{false≢true}
use Rattle.std.proofs.lemmas.Bool.Decides.{nat_tests}
use Rattle.std.proofs.lemmas.Int.{ints}
use Rattle.std.proofs.lemmas.List.Elements.{All-nil, All-cons, All-head, All-tail, All-append}
use Rattle.std.proofs.lemmas.List.Sums.{sum_by-cons, fold-append}
use Rattle.stock_nums.specs.declared.numbers.AccountNo.{AccountNo}
use Rattle.stock_model.specs.declared.ledger_lines.Balance.{Balance}
use Rattle.stock_model.specs.declared.ledger_lines.GlLine.{GlLine}
use Rattle.stock_model.specs.declared.ledger_lines.TheConstants.{MAX_BALANCE}
use Rattle.stock_model.specs.Accounts.{put_account, put_account_of, accounts_of, account_row, balances_of}
use Rattle.stock_model.specs.LedgerLines.{is_on, debit_of, credit_of, debits, credits, balance_on}
use Rattle.stock_laws.proofs.TestedSums.{tested-snoc}
use Rattle.gl_lines.specs.Totals.{account_cmp, kept_total, IsSmallLine, AreTotals, total_on, entry_balance}

-- accounts compare as their numbers do
by-number : {X : Type 0} (a b : ℕ) (x y z : X) → match_ordering (account_cmp (record { 0 = a }) (record { 0 = b })) x y z ≡ cond (nat_lt a b) x (cond (nat_lt b a) z y)
by-number a b x y z = grind (arith, nat_tests)

at-number : (a b : ℕ) → is_at (account_cmp (record { 0 = a })) (record { 0 = b }) ≡ (b == a)
at-number a b = grind (arith, nat_tests)

-- accounts that ascend, all of them above a number
abbrev AreAbove : ℕ → List ℕ → Type 0
AreAbove k [] = Unit {0}
AreAbove k (a ∷ accounts) = (k < a) × AreAbove a accounts

abbrev AreAscending : List ℕ → Type 0
AreAscending [] = Unit {0}
AreAscending (a ∷ accounts) = AreAbove a accounts

AreAbove-put : (k : ℕ) (accounts : List ℕ) (account : ℕ) → k < account → AreAbove k accounts → AreAbove k (put_account accounts account)
AreAbove-put k [] account less above = (less, tt)
AreAbove-put k (a ∷ accounts) account less above =
    let step : (b c : Bool) → nat_lt account a ≡ b → nat_lt a account ≡ c → AreAbove k (cond b (account ∷ a ∷ accounts) (cond c (a ∷ put_account accounts account) (a ∷ accounts))) =
    λ b c. elim b as (λ v. nat_lt account a ≡ v → nat_lt a account ≡ c → AreAbove k (cond v (account ∷ a ∷ accounts) (cond c (a ∷ put_account accounts account) (a ∷ accounts)))) [
      | true ↦ λ below h. (less, (grind (arith, nat_tests), above.1))
      | false ↦ λ h. elim c as (λ v. nat_lt a account ≡ v → AreAbove k (cond v (a ∷ put_account accounts account) (a ∷ accounts))) [
        | true ↦ λ more. (above.0, AreAbove-put a accounts account (grind (arith, nat_tests)) above.1)
        | false ↦ λ same. above
      ]
    ] in
    step (nat_lt account a) (nat_lt a account) refl refl

AreAscending-put : (accounts : List ℕ) (account : ℕ) → AreAscending accounts → AreAscending (put_account accounts account)
AreAscending-put [] account ascending = tt
AreAscending-put (a ∷ accounts) account ascending =
    let step : (b c : Bool) → nat_lt account a ≡ b → nat_lt a account ≡ c → AreAscending (cond b (account ∷ a ∷ accounts) (cond c (a ∷ put_account accounts account) (a ∷ accounts))) =
    λ b c. elim b as (λ v. nat_lt account a ≡ v → nat_lt a account ≡ c → AreAscending (cond v (account ∷ a ∷ accounts) (cond c (a ∷ put_account accounts account) (a ∷ accounts)))) [
      | true ↦ λ below h. (grind (arith, nat_tests), ascending)
      | false ↦ λ h. elim c as (λ v. nat_lt a account ≡ v → AreAscending (cond v (a ∷ put_account accounts account) (a ∷ accounts))) [
        | true ↦ λ more. AreAbove-put a accounts account (grind (arith, nat_tests)) ascending
        | false ↦ λ same. ascending
      ]
    ] in
    step (nat_lt account a) (nat_lt a account) refl refl

AreAscending-fold : (accounts : List ℕ) (lines : List GlLine) → AreAscending accounts → AreAscending (fold put_account_of accounts lines)
AreAscending-fold accounts [] ascending = ascending
AreAscending-fold accounts (line ∷ lines) ascending =
    AreAscending-fold (put_account accounts line.account.0) lines (AreAscending-put accounts line.account.0 ascending)

after : (a : ℕ) (accounts : List ℕ) → AreAbove a accounts → AreAscending accounts
after a [] above = tt
after a (b ∷ accounts) above = above.1

-- two rules of values that are the same but at one account
abbrev Same : (f g : ℕ → ℤ) → ℕ → Type 0
Same f g account = (b : ℕ) → (b == account) ≡ false → g b ≡ f b

abbrev kept_by : (ℕ → ℤ) → ℕ → AccountNo × ℤ
kept_by f a = (record { 0 = a }, f a)

same-above : (f g : ℕ → ℤ) (account k : ℕ) (accounts : List ℕ) → Same f g account → account ≤ k → AreAbove k accounts → map (kept_by f) accounts ≡ map (kept_by g) accounts
same-above f g account k [] same most above = refl
same-above f g account k (a ∷ accounts) same most above =
    ap (λ (v : ℤ). (record { 0 = a }, v) ∷ map (kept_by f) accounts) (sym (same a (grind (arith, nat_tests))))
    ∙ ap (λ (rest : List (AccountNo × ℤ)). kept_by g a ∷ rest) (same-above f g account a accounts same (omega (arith, most, above.0)) above.1)

-- to insert a value at an account is to put the account, and the value by the new rule
insert-put : (f g : ℕ → ℤ) (account : ℕ) (accounts : List ℕ) → AreAscending accounts → Same f g account
    → insert_entry account_cmp (map (kept_by f) accounts) (record { 0 = account }) (g account) ≡ map (kept_by g) (put_account accounts account)
insert-put f g account [] ascending same = refl
insert-put f g account (a ∷ accounts) ascending same =
    let others = map (kept_by f) accounts in
    let step : (b c : Bool) → nat_lt account a ≡ b → nat_lt a account ≡ c
    → cond b (kept_by g account ∷ kept_by f a ∷ others) (cond c (kept_by f a ∷ insert_entry account_cmp others (record { 0 = account }) (g account)) ((record { 0 = a }, g account) ∷ others))
    ≡ map (kept_by g) (cond b (account ∷ a ∷ accounts) (cond c (a ∷ put_account accounts account) (a ∷ accounts))) =
    λ b c. elim b as (λ v. nat_lt account a ≡ v → nat_lt a account ≡ c
    → cond v (kept_by g account ∷ kept_by f a ∷ others) (cond c (kept_by f a ∷ insert_entry account_cmp others (record { 0 = account }) (g account)) ((record { 0 = a }, g account) ∷ others))
    ≡ map (kept_by g) (cond v (account ∷ a ∷ accounts) (cond c (a ∷ put_account accounts account) (a ∷ accounts)))) [
      | true ↦ λ below h.
          let less : account < a = grind (arith, nat_tests) in
          ap (λ (rest : List (AccountNo × ℤ)). kept_by g account ∷ rest) (same-above f g account account (a ∷ accounts) same (omega arith) (less, ascending))
      | false ↦ λ h. elim c as (λ v. nat_lt a account ≡ v
          → cond v (kept_by f a ∷ insert_entry account_cmp others (record { 0 = account }) (g account)) ((record { 0 = a }, g account) ∷ others)
          ≡ map (kept_by g) (cond v (a ∷ put_account accounts account) (a ∷ accounts))) [
            | true ↦ λ more.
                ap (λ (v : ℤ). (record { 0 = a }, v) ∷ insert_entry account_cmp others (record { 0 = account }) (g account)) (sym (same a (grind (arith, nat_tests))))
                ∙ ap (λ (rest : List (AccountNo × ℤ)). kept_by g a ∷ rest) (insert-put f g account accounts (after a accounts ascending) same)
            | false ↦ λ least.
                let equal : account ≡ a = grind (arith, nat_tests) in
                ap (λ (n : ℕ). (record { 0 = a }, g n) ∷ others) equal
                ∙ ap (λ (rest : List (AccountNo × ℤ)). kept_by g a ∷ rest) (same-above f g account a accounts same (omega (arith, equal)) ascending)
          ]
    ] in
    by-number account a _ _ _ ∙ step (nat_lt account a) (nat_lt a account) refl refl

-- an account is among these
abbrev has_account : ℕ → List ℕ → Bool
has_account account [] = false
has_account account (a ∷ accounts) = (a == account) || has_account account accounts

-- the value that is kept for an account
lookup-kept : (f : ℕ → ℤ) (account : ℕ) (accounts : List ℕ) → lookup (is_at (account_cmp (record { 0 = account }))) (map (kept_by f) accounts) ≡ cond (has_account account accounts) (Some (f account)) None
lookup-kept f account [] = refl
lookup-kept f account (a ∷ accounts) =
    let rest = lookup (is_at (account_cmp (record { 0 = account }))) (map (kept_by f) accounts) in
    let step : (b : Bool) → (a == account) ≡ b → cond b (Some (f a)) rest ≡ cond (b || has_account account accounts) (Some (f account)) None =
    λ b. elim b as (λ v. (a == account) ≡ v → cond v (Some (f a)) rest ≡ cond (v || has_account account accounts) (Some (f account)) None) [
      | true ↦ λ is. let equal : a ≡ account = grind (arith, nat_tests) in ap (λ (n : ℕ). Some (f n)) equal
      | false ↦ λ other. lookup-kept f account accounts
    ] in
    ap (λ (b : Bool). cond b (Some (f a)) rest) (at-number account a) ∙ step (a == account) refl

swap : (a b c : Bool) → (a || (b || c)) ≡ (b || (a || c))
swap true true c = refl
swap true false c = refl
swap false b c = refl

twice : (a b : Bool) → (a || b) ≡ (a || (a || b))
twice true b = refl
twice false b = refl

first-none : (a b : Bool) → (a || b) ≡ false → a ≡ false
first-none true b h = h
first-none false b h = refl

second-none : (a b : Bool) → (a || b) ≡ false → b ≡ false
second-none true b h = absurd (false≢true (sym h))
second-none false b h = h

has-put : (account : ℕ) (accounts : List ℕ) (other : ℕ) → has_account account (put_account accounts other) ≡ ((other == account) || has_account account accounts)
has-put account [] other = refl
has-put account (a ∷ accounts) other =
    let step : (b c : Bool) → nat_lt other a ≡ b → nat_lt a other ≡ c
    → has_account account (cond b (other ∷ a ∷ accounts) (cond c (a ∷ put_account accounts other) (a ∷ accounts))) ≡ ((other == account) || ((a == account) || has_account account accounts)) =
    λ b c. elim b as (λ v. nat_lt other a ≡ v → nat_lt a other ≡ c
    → has_account account (cond v (other ∷ a ∷ accounts) (cond c (a ∷ put_account accounts other) (a ∷ accounts))) ≡ ((other == account) || ((a == account) || has_account account accounts))) [
      | true ↦ λ below h. refl
      | false ↦ λ h. elim c as (λ v. nat_lt a other ≡ v
          → has_account account (cond v (a ∷ put_account accounts other) (a ∷ accounts)) ≡ ((other == account) || ((a == account) || has_account account accounts))) [
            | true ↦ λ more. ap (λ (b : Bool). (a == account) || b) (has-put account accounts other) ∙ swap (a == account) (other == account) (has_account account accounts)
            | false ↦ λ least.
                let equal : other ≡ a = grind (arith, nat_tests) in
                twice (a == account) (has_account account accounts) ∙ ap (λ (n : ℕ). (n == account) || ((a == account) || has_account account accounts)) (sym equal)
          ]
    ] in
    step (nat_lt other a) (nat_lt a other) refl refl

-- what is not among them after more lines was not among them before
kept-none : (account : ℕ) (accounts : List ℕ) (lines : List GlLine) → has_account account (fold put_account_of accounts lines) ≡ false → has_account account accounts ≡ false
kept-none account accounts [] h = h
kept-none account accounts (line ∷ lines) h =
    second-none (line.account.0 == account) (has_account account accounts) (sym (has-put account accounts line.account.0) ∙ kept-none account (put_account accounts line.account.0) lines h)

-- where an account is not among them, no line is on it
none-on : (account : ℕ) (accounts : List ℕ) (lines : List GlLine) → has_account account (fold put_account_of accounts lines) ≡ false → filter (is_on account) lines ≡ []
none-on account accounts [] h = refl
none-on account accounts (line ∷ lines) h =
    let more = kept-none account (put_account accounts line.account.0) lines h in
    let off : is_on account line ≡ false = first-none (line.account.0 == account) (has_account account accounts) (sym (has-put account accounts line.account.0) ∙ more) in
    ap (λ (b : Bool). cond b (line ∷ filter (is_on account) lines) (filter (is_on account) lines)) off ∙ none-on account (put_account accounts line.account.0) lines h

-- the total that is kept for an account is its balance
pub total-is : (by_account : BTreeMap AccountNo ℤ) (lines : List GlLine) (account : AccountNo) → AreTotals by_account lines → total_on by_account account ≡ balance_on lines account.0
total-is by_account lines account are =
    let accounts = accounts_of lines in
    let step : (b : Bool) → has_account account.0 accounts ≡ b → unwrap_or (cond b (Some (balance_on lines account.0)) None) (pos 0) ≡ balance_on lines account.0 =
    λ b. elim b as (λ v. has_account account.0 accounts ≡ v → unwrap_or (cond v (Some (balance_on lines account.0)) None) (pos 0) ≡ balance_on lines account.0) [
      | true ↦ λ is. refl
      | false ↦ λ none.
          let no_line = none-on account.0 [] lines none in
          sym (ap (λ (own : List GlLine). pos (sum_by debit_of own) -ℤ pos (sum_by credit_of own)) no_line)
    ] in
    ap (λ (es : List (AccountNo × ℤ)). unwrap_or (lookup (is_at (account_cmp account)) es) (pos 0)) are.entries
    ∙ ap (λ (o : Option ℤ). unwrap_or o (pos 0)) (lookup-kept (balance_on lines) account.0 accounts)
    ∙ step (has_account account.0 accounts) refl

-- a further line changes the balance of its own account
balance-next : (lines : List GlLine) (line : GlLine) (account : ℕ)
    → balance_on (lines ++ line ∷ []) account ≡ pos (debits lines account + cond (is_on account line) (debit_of line) 0) -ℤ pos (credits lines account + cond (is_on account line) (credit_of line) 0)
balance-next lines line account =
    ap (λ (n : ℕ). pos n -ℤ pos (credits (lines ++ line ∷ []) account)) (tested-snoc debit_of (is_on account) lines line)
    ∙ ap (λ (n : ℕ). pos (debits lines account + cond (is_on account line) (debit_of line) 0) -ℤ pos n) (tested-snoc credit_of (is_on account) lines line)

plain : (n : ℕ) → n + 0 ≡ n
plain n = omega arith

parts : (d c x y : ℕ) → (pos (d + x) -ℤ pos (c + y)) ≡ ((pos d -ℤ pos c) +ℤ (pos x -ℤ pos y))
parts d c x y = omega (arith, ints)

balance-other : (lines : List GlLine) (line : GlLine) → Same (balance_on lines) (balance_on (lines ++ line ∷ [])) line.account.0
balance-other lines line b other =
    let off : is_on b line ≡ false = grind (arith, nat_tests) in
    balance-next lines line b
    ∙ ap (λ (v : Bool). pos (debits lines b + cond v (debit_of line) 0) -ℤ pos (credits lines b + cond v (credit_of line) 0)) off
    ∙ ap (λ (n : ℕ). pos n -ℤ pos (credits lines b + 0)) (plain (debits lines b)) ∙ ap (λ (n : ℕ). pos (debits lines b) -ℤ pos n) (plain (credits lines b))

balance-own : (lines : List GlLine) (line : GlLine) → balance_on (lines ++ line ∷ []) line.account.0 ≡ balance_on lines line.account.0 +ℤ (pos (debit_of line) -ℤ pos (credit_of line))
balance-own lines line =
    let on : is_on line.account.0 line ≡ true = grind (arith, nat_tests) in
    balance-next lines line line.account.0
    ∙ ap (λ (v : Bool). pos (debits lines line.account.0 + cond v (debit_of line) 0) -ℤ pos (credits lines line.account.0 + cond v (credit_of line) 0)) on
    ∙ parts (debits lines line.account.0) (credits lines line.account.0) (debit_of line) (credit_of line)

pub AreTotals-nil : (by_account : BTreeMap AccountNo ℤ) → by_account.entries ≡ [] → AreTotals by_account []
AreTotals-nil by_account none = record { entries = none; small = All-nil IsSmallLine }

-- the map takes a further line
pub AreTotals-next : (old new : BTreeMap AccountNo ℤ) (lines : List GlLine) (line : GlLine) (total : ℤ) → AreTotals old lines → IsSmallLine line
    → total ≡ total_on old line.account +ℤ (pos (debit_of line) -ℤ pos (credit_of line)) → new.entries ≡ insert_entry account_cmp old.entries line.account total → AreTotals new (lines ++ line ∷ [])
AreTotals-next old new lines line total are small is inserts =
    let own = line.account.0 in
    let sum : total ≡ balance_on (lines ++ line ∷ []) own =
    is ∙ ap (λ (z : ℤ). z +ℤ (pos (debit_of line) -ℤ pos (credit_of line))) (total-is old lines line.account are) ∙ sym (balance-own lines line) in
    record {
      entries = inserts
          ∙ ap (λ (es : List (AccountNo × ℤ)). insert_entry account_cmp es line.account total) are.entries
          ∙ ap (λ (z : ℤ). insert_entry account_cmp (map (kept_by (balance_on lines)) (accounts_of lines)) line.account z) sum
          ∙ insert-put (balance_on lines) (balance_on (lines ++ line ∷ [])) own (accounts_of lines) (AreAscending-fold [] lines tt) (balance-other lines line)
          ∙ ap (map (kept_by (balance_on (lines ++ line ∷ [])))) (sym (fold-append put_account_of [] lines (line ∷ [])));
      small = All-append IsSmallLine lines (line ∷ []) are.small (All-cons IsSmallLine line [] small (All-nil IsSmallLine));
    }

-- no total of so few lines is too large
amounts-small : (f : GlLine → ℕ) (account : ℕ) (lines : List GlLine) → All (λ line. f line ≤ 2 ^ 63) lines → sum_by f (filter (is_on account) lines) ≤ length lines * 2 ^ 63
amounts-small f account [] all = omega arith
amounts-small f account (line ∷ lines) all =
    let rest = amounts-small f account lines (All-tail (λ line. f line ≤ 2 ^ 63) line lines all) in
    let first = All-head (λ line. f line ≤ 2 ^ 63) line lines all in
    let step : (b : Bool) → sum_by f (cond b (line ∷ filter (is_on account) lines) (filter (is_on account) lines)) ≤ length (line ∷ lines) * 2 ^ 63 =
    λ b. elim b as (λ v. sum_by f (cond v (line ∷ filter (is_on account) lines) (filter (is_on account) lines)) ≤ length (line ∷ lines) * 2 ^ 63) [
      | true ↦ omega (arith, rest, first, sum_by-cons f line (filter (is_on account) lines))
      | false ↦ omega (arith, rest)
    ] in
    step (is_on account line)

All-debits : (lines : List GlLine) → All IsSmallLine lines → All (λ line. debit_of line ≤ 2 ^ 63) lines
All-debits [] all = All-nil (λ line. debit_of line ≤ 2 ^ 63)
All-debits (line ∷ lines) all = All-cons (λ line. debit_of line ≤ 2 ^ 63) line lines (All-head IsSmallLine line lines all).0 (All-debits lines (All-tail IsSmallLine line lines all))

All-credits : (lines : List GlLine) → All IsSmallLine lines → All (λ line. credit_of line ≤ 2 ^ 63) lines
All-credits [] all = All-nil (λ line. credit_of line ≤ 2 ^ 63)
All-credits (line ∷ lines) all = All-cons (λ line. credit_of line ≤ 2 ^ 63) line lines (All-head IsSmallLine line lines all).1 (All-credits lines (All-tail IsSmallLine line lines all))

pub difference-small : (d c n : ℕ) → d ≤ n → c ≤ n → unsigned_abs (pos d -ℤ pos c) ≤ n
difference-small d c n hd hc = grind (arith, ints)

pub total-small : (by_account : BTreeMap AccountNo ℤ) (lines : List GlLine) (account : AccountNo) → AreTotals by_account lines → length lines ≤ 1_000_002 → unsigned_abs (total_on by_account account) ≤ 2 ^ 90
total-small by_account lines account are few =
    subst (λ (z : ℤ). unsigned_abs z ≤ 2 ^ 90) (sym (total-is by_account lines account are))
    (difference-small (debits lines account.0) (credits lines account.0) (2 ^ 90)
    (omega (arith, few, amounts-small debit_of account.0 lines (All-debits lines are.small)))
    (omega (arith, few, amounts-small credit_of account.0 lines (All-credits lines are.small))))

-- a fact of each entry holds of the one in the middle
All-middle : {X : Type 0} (P : X → Type 0) (done rest : List X) (x : X) → All P (done ++ x ∷ rest) → P x
All-middle P [] rest x all = All-head P x rest all
All-middle P (y ∷ done) rest x all = All-middle P done rest x (All-tail P y (done ++ x ∷ rest) all)

abbrev IsSmallEntry : AccountNo × ℤ → Type 0
IsSmallEntry entry = unsigned_abs entry.1 ≤ MAX_BALANCE

all-small : (f : ℕ → ℤ) (accounts : List ℕ) → ((account : ℕ) → unsigned_abs (f account) ≤ MAX_BALANCE) → All IsSmallEntry (map (kept_by f) accounts)
all-small f [] small = All-nil IsSmallEntry
all-small f (a ∷ accounts) small = All-cons IsSmallEntry (kept_by f a) (map (kept_by f) accounts) (small a) (all-small f accounts small)

-- each total that is kept is small where the balances are
pub entry-small : (by_account : BTreeMap AccountNo ℤ) (lines : List GlLine) (done rest : List (AccountNo × ℤ)) (entry : AccountNo × ℤ) → AreTotals by_account lines
    → ((account : ℕ) → unsigned_abs (balance_on lines account) ≤ MAX_BALANCE) → by_account.entries ≡ done ++ entry ∷ rest → unsigned_abs entry.1 ≤ MAX_BALANCE
entry-small by_account lines done rest entry are small parts =
    All-middle IsSmallEntry done rest entry (subst (All IsSmallEntry) (sym are.entries ∙ parts) (all-small (balance_on lines) (accounts_of lines) small))

balances-kept : (lines : List GlLine) (accounts : List ℕ) → map entry_balance (map (kept_total lines) accounts) ≡ map (account_row lines) accounts
balances-kept lines [] = refl
balances-kept lines (a ∷ accounts) = ap (λ (rest : List Balance). account_row lines a ∷ rest) (balances-kept lines accounts)

-- all entries are the balances
pub all-balances : (by_account : BTreeMap AccountNo ℤ) (lines : List GlLine) → AreTotals by_account lines → map entry_balance by_account.entries ≡ balances_of lines
all-balances by_account lines are = ap (map entry_balance) are.entries ∙ balances-kept lines (accounts_of lines)
