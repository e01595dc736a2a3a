-- Sums of charges.
use Rattle.std.proofs.Common.{◌≡◌, ℕ, suc, inl, inr, subst, Contains, append_assoc, length-take, ◌+◌, ◌-◌, ◌*◌, ◌<◌, ◌≤◌, Bool, true, false, cond, ◌&&◌, List, [], ◌∷◌, ◌++◌, length, take, drop, get_or, map, filter, sum, sum_by, unsigned_abs, refl, sym, ap, ◌∙◌, arith, drop-cons}
use Rattle.std.specs.List.{flat_map, zip, list_all}
use Rattle.std.proofs.lemmas.Bool.Decides.{nat_tests}
use Rattle.std.proofs.lemmas.List.{append-nil, length-map, map-append, take_more}
use Rattle.std.proofs.lemmas.List.Elements.{filter-append, Contains-push_cases}
use Rattle.std.proofs.lemmas.List.Sums.{sum_by-cons, sum_by-append}
use Rattle.std.proofs.lemmas.Grind.{flat_map-append}
use Rattle.stock_nums.specs.Quantities.{is_line_amount}
use Rattle.stock_nums.specs.Shares.{shares_after, shares}
use Rattle.stock_nums.specs.Targets.{is_target, is_same_target}
use Rattle.stock_nums.specs.declared.cause.Target.{Target}
use Rattle.stock_nums.specs.declared.limits.TheConstants.{MAX_AMOUNT, MAX_UNITS, MAX_LINES}
use Rattle.stock_nums.specs.declared.numbers.Minor.{Minor}
use Rattle.stock_nums.proofs.SharesLemmas.{sum-shares_after-none, sum-shares-le}
use Rattle.stock_model.specs.LandedCost.{weight, weights, charged, record_charged, is_charge_of, charge_amount, added}
use Rattle.stock_model.specs.Limits.{is_line_count, is_within_limits}
use Rattle.stock_model.specs.declared.records.Record.{Record}
use Rattle.stock_model.specs.declared.vouchers.Basis.{Basis}
use Rattle.stock_model.specs.declared.vouchers.What.{What}
use Rattle.stock_model.specs.declared.vouchers.What.TheVariants.{Item, Store, Receipt, Issue, Transfer, CustomerReturn, SupplierReturn, Landed, Freeze, Cancel}
use Rattle.stock_laws.proofs.LandedSums.{weight-le}
use Rattle.stock_laws.proofs.Received.{amount-le}
use Rattle.landed_cost.specs.Charges.{minors}
use Rattle.stock_nums.specs.LineSums.{has_room}
use Rattle.stock_nums.specs.declared.line_sums.LineSums.{LineSums}
use Rattle.cost_links.specs.Charged.{HaveRoom, amount, charge_pair, charge_pairs, charged_to, with_nothing}
use Rattle.cost_links.specs.declared.charges.Charge.{Charge}

-- one charge more
pub charged_to-cons : (line target : Target) (n : ℕ) (charges : List (Target × ℕ)) → charged_to line ((target, n) ∷ charges) ≡ cond (is_same_target target line) n 0 + charged_to line charges
charged_to-cons line target n charges = by_cases (is_same_target target line)
  where
    by_cases : (b : Bool) → sum_by charge_amount (cond b ((target, n) ∷ filter (is_charge_of line) charges) (filter (is_charge_of line) charges)) ≡ cond b n 0 + charged_to line charges
    by_cases true = sum_by-cons charge_amount (target, n) (filter (is_charge_of line) charges)
    by_cases false = omega arith

pub charged_to-append : (line : Target) (xs ys : List (Target × ℕ)) → charged_to line (xs ++ ys) ≡ charged_to line xs + charged_to line ys
charged_to-append line xs ys =
    ap (sum_by charge_amount) (filter-append (is_charge_of line) xs ys) ∙ sum_by-append charge_amount (filter (is_charge_of line) xs) (filter (is_charge_of line) ys)

-- a line is charged no more than all are together
charged_to-le : (line : Target) (targets : List Target) (ns : List ℕ) → charged_to line (zip targets ns) ≤ sum ns
charged_to-le line [] ns = omega arith
charged_to-le line (target ∷ targets) [] = omega arith
charged_to-le line (target ∷ targets) (n ∷ ns) =
    let rest = charged_to-le line targets ns in
    let all : sum (n ∷ ns) ≡ n + sum ns = sum_by-cons (λ (m : ℕ). m) n ns in
    let own : cond (is_same_target target line) n 0 ≤ n = elim (is_same_target target line) as (λ b. cond b n 0 ≤ n) [ true ↦ omega arith | false ↦ omega arith ] in
    omega (arith, charged_to-cons line target n (zip targets ns), rest, all, own)

-- a charge charges a line no more than a line's largest amount
pub charged_to-shares-le : (line : Target) (targets : List Target) (charge : Minor) (ws : List ℕ) → is_line_amount charge.0 ≡ true → charged_to line (zip targets (shares (unsigned_abs charge.0) ws)) ≤ MAX_AMOUNT
charged_to-shares-le line targets charge ws small =
    omega (arith, charged_to-le line targets (shares (unsigned_abs charge.0) ws), sum-shares-le (unsigned_abs charge.0) ws, amount-le charge.0 small)

-- by weights that are all 0 it charges nothing
pub charged_to-none : (line : Target) (targets : List Target) (total : ℕ) (ws : List ℕ) → sum ws ≡ 0 → charged_to line (zip targets (shares total ws)) ≡ 0
charged_to-none line targets total ws none = omega (arith, charged_to-le line targets (shares total ws), sum-shares_after-none total 0 (sum ws) ws none)

-- of two tests that both pass the first passes
first_true : (a b : Bool) → (a && b) ≡ true → a ≡ true
first_true true b h = refl
first_true false b h = h

-- so does a voucher
pub charged-le : (journal : List Record) (what : What) (line : Target) → is_within_limits what ≡ true → charged_to line (charged journal what) ≤ MAX_AMOUNT
charged-le journal (Item code method) line limits = omega arith
charged-le journal (Store code account) line limits = omega arith
charged-le journal (Receipt at lines) line limits = omega arith
charged-le journal (Issue at purpose lines) line limits = omega arith
charged-le journal (Transfer at lines) line limits = omega arith
charged-le journal (CustomerReturn at lines) line limits = omega arith
charged-le journal (SupplierReturn at lines) line limits = omega arith
charged-le journal (Landed charge basis targets) line limits =
    charged_to-shares-le line targets charge (weights journal basis targets) (first_true (is_line_amount charge.0) (is_line_count (length targets) && list_all is_target targets) limits)
charged-le journal (Freeze until) line limits = omega arith
charged-le journal (Cancel cancelled) line limits = omega arith

-- what is found of shares as amounts
pub amounts-minors : (ns : List ℕ) → map amount (minors ns) ≡ ns
amounts-minors [] = refl
amounts-minors (n ∷ ns) = ap (λ (rest : List ℕ). n ∷ rest) (amounts-minors ns)

pub length-minors : (total before all : ℕ) (ws : List ℕ) → length (minors (shares_after total before all ws)) ≡ length ws
length-minors total before all [] = refl
length-minors total before all (w ∷ ws) = ap suc (length-minors total (before + w) all ws)

pub length-shares : (total before all : ℕ) (ws : List ℕ) → length (shares_after total before all ws) ≡ length ws
length-shares total before all [] = refl
length-shares total before all (w ∷ ws) = ap suc (length-shares total (before + w) all ws)

pub length-weights : (journal : List Record) (basis : Basis) (targets : List Target) → length (weights journal basis targets) ≡ length targets
length-weights journal basis [] = refl
length-weights journal basis (target ∷ targets) = ap suc (length-weights journal basis targets)

-- the weights of lines are together at most so much
sum-weights-le : (journal : List Record) (basis : Basis) (targets : List Target) → sum (weights journal basis targets) ≤ length targets * MAX_AMOUNT
sum-weights-le journal basis [] = omega arith
sum-weights-le journal basis (target ∷ targets) =
    let all : sum (weights journal basis (target ∷ targets)) ≡ weight journal basis target + sum (weights journal basis targets) = sum_by-cons (λ (m : ℕ). m) (weight journal basis target) (weights journal basis targets) in
    let longer : length (target ∷ targets) ≡ length targets + 1 = omega arith in
    omega (arith, all, longer, weight-le journal basis target, sum-weights-le journal basis targets)

-- the weights of a voucher's lines have room together
pub sum-weights-fits : (journal : List Record) (basis : Basis) (targets : List Target) → length targets ≤ MAX_LINES → sum (weights journal basis targets) ≤ MAX_UNITS
sum-weights-fits journal basis targets few = omega (arith, sum-weights-le journal basis targets, few)

-- lists of one length that are put behind one another
zip-append : (ts : List Target) (ns : List ℕ) (t : Target) (n : ℕ) → length ns ≡ length ts → zip (ts ++ t ∷ []) (ns ++ n ∷ []) ≡ zip ts ns ++ (t, n) ∷ []
zip-append [] [] t n same = refl
zip-append [] (m ∷ ns) t n same = absurd (omega (arith, same))
zip-append (u ∷ ts) [] t n same = absurd (omega (arith, same))
zip-append (u ∷ ts) (m ∷ ns) t n same = ap (λ cs. (u, m) ∷ cs) (zip-append ts ns t n (omega (arith, same)))

-- one more share is charged
pub zip-next : (targets : List Target) (parts : List Minor) (i : ℕ) (t : Target) (m : Minor) → i < length targets → length parts ≡ length targets → t ≡ get_or targets i t → m ≡ get_or parts i m
    → zip (take (i + 1) targets) (map amount (take (i + 1) parts)) ≡ zip (take i targets) (map amount (take i parts)) ++ (t, amount m) ∷ []
zip-next targets parts i t m within same is_t is_m =
    let here : take (i + 1) targets ≡ take i targets ++ t ∷ [] = take_more targets i t within ∙ ap (λ (x : Target). take i targets ++ x ∷ []) (sym is_t) in
    let there : take (i + 1) parts ≡ take i parts ++ m ∷ [] = take_more parts i m (omega (arith, within, same)) ∙ ap (λ (x : Minor). take i parts ++ x ∷ []) (sym is_m) in
    let count : length (map amount (take i parts)) ≡ length (take i targets) =
    omega (arith, length-map (take i parts) amount, length-take i parts, length-take i targets, within, same) in
    ap (λ (ts : List Target). zip ts (map amount (take (i + 1) parts))) here
    ∙ ap (λ (ms : List Minor). zip (take i targets ++ t ∷ []) (map amount ms)) there
    ∙ ap (zip (take i targets ++ t ∷ [])) (map-append amount (take i parts) (m ∷ []))
    ∙ zip-append (take i targets) (map amount (take i parts)) t (amount m) count

-- what is charged to one more line
pub pairs-next : (old charges : List Charge) (charge : Charge) (more front : List (Target × ℕ)) → charges ≡ old ++ charge ∷ [] → charge_pairs old ≡ more ++ front → charge_pairs charges ≡ more ++ (front ++ charge_pair charge ∷ [])
pairs-next old charges charge more front added so_far =
    ap charge_pairs added ∙ map-append charge_pair old (charge ∷ []) ∙ ap (λ cs. cs ++ charge_pair charge ∷ []) so_far ∙ append_assoc more front (charge_pair charge ∷ [])

pub nothing-next : (targets : List Target) (i : ℕ) (t : Target) → i < length targets → t ≡ get_or targets i t → map with_nothing (take (i + 1) targets) ≡ map with_nothing (take i targets) ++ (t, 0) ∷ []
nothing-next targets i t within is =
    ap (map with_nothing) (take_more targets i t within ∙ ap (λ (x : Target). take i targets ++ x ∷ []) (sym is)) ∙ map-append with_nothing (take i targets) (t ∷ [])

-- by weights that are all 0 each line is charged nothing
pub zip-nothing : (targets : List Target) (ns : List ℕ) → length ns ≡ length targets → sum ns ≡ 0 → zip targets ns ≡ map with_nothing targets
zip-nothing [] ns same none = refl
zip-nothing (t ∷ targets) [] same none = absurd (omega (arith, same))
zip-nothing (t ∷ targets) (n ∷ ns) same none =
    let all : sum (n ∷ ns) ≡ n + sum ns = sum_by-cons (λ (m : ℕ). m) n ns in
    let own : n ≡ 0 = omega (arith, all, none) in
    ap (λ (m : ℕ). (t, m) ∷ zip targets ns) own ∙ ap (λ cs. (t, 0) ∷ cs) (zip-nothing targets ns (omega (arith, same)) (omega (arith, all, none)))

-- the rest of the charges begins with the next
charged_to-drop : (line : Target) (charges : List Charge) (i : ℕ) (c : Charge) → i < length charges → c ≡ get_or charges i c
    → charged_to line (charge_pairs (drop i charges)) ≡ cond (is_same_target c.line line) (amount c.amount) 0 + charged_to line (charge_pairs (drop (i + 1) charges))
charged_to-drop line charges i c within is =
    let one_more : suc i ≡ i + 1 = omega arith in
    let rest : drop i charges ≡ c ∷ drop (i + 1) charges = drop-cons charges i c within ∙ ap (λ (x : Charge). x ∷ drop (suc i) charges) (sym is) ∙ ap (λ (k : ℕ). c ∷ drop k charges) one_more in
    ap (λ (cs : List Charge). charged_to line (charge_pairs cs)) rest ∙ charged_to-cons line c.line (amount c.amount) (charge_pairs (drop (i + 1) charges))

-- of charges one more was added, and the rest is still to come
pub charge-next : (line : Target) (charges : List Charge) (i : ℕ) (c : Charge) (start old new : ℕ) → i < length charges → c ≡ get_or charges i c
    → new ≡ old + cond (is_same_target c.line line) (amount c.amount) 0
    → old + charged_to line (charge_pairs (drop i charges)) ≡ start → new + charged_to line (charge_pairs (drop (i + 1) charges)) ≡ start
charge-next line charges i c start old new within is more so_far =
    let next = charged_to-drop line charges i c within is in
    omega (arith, next, more, so_far)

-- the charge that is added next fits
pub charge-fits : (charges : List Charge) (i : ℕ) (c : Charge) (start old : ℕ) → i < length charges → c ≡ get_or charges i c
    → old + charged_to c.line (charge_pairs (drop i charges)) ≡ start → old + amount c.amount ≤ start
charge-fits charges i c start old within is so_far =
    let own : is_same_target c.line c.line ≡ true = grind (arith, nat_tests) in
    let next = charged_to-drop c.line charges i c within is in
    let all : cond (is_same_target c.line c.line) (amount c.amount) 0 ≡ amount c.amount = ap (λ (b : Bool). cond b (amount c.amount) 0) own in
    omega (arith, next, all, so_far)

-- one more charge can be taken off, and is
pub charge-held : (charges : List Charge) (i : ℕ) (c : Charge) (first old : ℕ) → i < length charges → c ≡ get_or charges i c
    → charged_to c.line (charge_pairs charges) ≤ first
    → old + charged_to c.line (charge_pairs charges) ≡ first + charged_to c.line (charge_pairs (drop i charges)) → amount c.amount ≤ old
charge-held charges i c first old within is held so_far =
    let own : is_same_target c.line c.line ≡ true = grind (arith, nat_tests) in
    let next = charged_to-drop c.line charges i c within is in
    let all : cond (is_same_target c.line c.line) (amount c.amount) 0 ≡ amount c.amount = ap (λ (b : Bool). cond b (amount c.amount) 0) own in
    omega (arith, next, all, held, so_far)

pub charge-off : (charges : List Charge) (i : ℕ) (c : Charge) (line : Target) (first old new : ℕ) → i < length charges → c ≡ get_or charges i c
    → charged_to line (charge_pairs charges) ≤ first
    → old + charged_to line (charge_pairs charges) ≡ first + charged_to line (charge_pairs (drop i charges))
    → new ≡ old - cond (is_same_target c.line line) (amount c.amount) 0
    → new + charged_to line (charge_pairs charges) ≡ first + charged_to line (charge_pairs (drop (i + 1) charges))
charge-off charges i c line first old new within is held so_far less =
    let next = charged_to-drop line charges i c within is in
    omega (arith, next, held, so_far, less)

-- there is room for one more charge
pub room-next : (sums : LineSums) (charges : List Charge) (i : ℕ) (c : Charge) → i < length charges → c ≡ get_or charges i c
    → HaveRoom sums (take i charges) → has_room sums c.line ≡ true → HaveRoom sums (take (i + 1) charges)
room-next sums charges i c within is so_far own charge held =
    let one_more : take (i + 1) charges ≡ take i charges ++ c ∷ [] = take_more charges i c within ∙ ap (λ (x : Charge). take i charges ++ x ∷ []) (sym is) in
    elim (Contains-push_cases (take i charges) c charge (subst (λ (cs : List Charge). Contains cs charge) one_more held)) [
      | inl before ↦ so_far charge before
      | inr same ↦ subst (λ (x : Charge). has_room sums x.line ≡ true) same own
    ]

-- what one more record charges
pub record-next : (journal records : List Record) (i : ℕ) (r : Record) → i < length records → r ≡ get_or records i r
    → flat_map (record_charged journal) (take (i + 1) records) ≡ flat_map (record_charged journal) (take i records) ++ record_charged journal r
record-next journal records i r within is =
    let one_more : take (i + 1) records ≡ take i records ++ r ∷ [] = take_more records i r within ∙ ap (λ (x : Record). take i records ++ x ∷ []) (sym is) in
    ap (flat_map (record_charged journal)) one_more ∙ flat_map-append (record_charged journal) (take i records) (r ∷ [])
    ∙ ap (λ cs. flat_map (record_charged journal) (take i records) ++ cs) (append-nil (record_charged journal r))
