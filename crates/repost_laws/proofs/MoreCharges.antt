-- More records change what is charged to the lines alone that they charge something to.
use Rattle.std.proofs.Common.{◌≡◌, ℕ, ◌+◌, ◌*◌, ◌≤◌, Bool, false, cond, List, [], ◌∷◌, ◌++◌, ◌<◌, ◌^◌, ◌||◌, length, map, sum, unsigned_abs, refl, sym, ap, ◌∙◌, arith, length-append}
use Rattle.std.specs.List.{flat_map, zip, list_any}
use Rattle.std.specs.Option.{option_map_or}
use Rattle.std.proofs.lemmas.List.Folds.{list_any-append}
use Rattle.stock_nums.specs.Shares.{shares}
use Rattle.stock_nums.specs.Targets.{is_same_target}
use Rattle.stock_nums.specs.declared.cause.Target.{Target}
use Rattle.stock_nums.specs.declared.limits.TheConstants.{MAX_AMOUNT}
use Rattle.stock_model.specs.Faults.{lacks_target}
use Rattle.stock_model.specs.Journals.{AreLegal}
use Rattle.stock_model.specs.LandedCost.{line_weight, weight, weights, charged, record_charged, is_charge_of, added}
use Rattle.stock_model.specs.TargetLines.{target_line}
use Rattle.stock_model.specs.VoucherLines.{landed_target, charged_targets}
use Rattle.stock_model.specs.declared.records.Record.{Record}
use Rattle.stock_model.specs.declared.vouchers.Basis.{Basis}
use Rattle.stock_model.specs.declared.vouchers.What.{What}
use Rattle.stock_model.specs.declared.vouchers.What.TheVariants.{Item, Store, Receipt, Issue, Transfer, CustomerReturn, SupplierReturn, Landed, Freeze, Cancel}
use Rattle.stock_model.proofs.NoFaults.{NoFaults, held-target}
use Rattle.stock_model.proofs.Numbered.{Fails, first_line-none}
use Rattle.stock_model.proofs.Pairwise.{Each}
use Rattle.stock_model.proofs.TargetItems.{some-from}
use Rattle.stock_laws.proofs.Legality.{IsHeld-legal}
use Rattle.stock_laws.proofs.RecordsAt.{target_line-append}
use Rattle.cost_links.specs.Charged.{charged_to}
use Rattle.cost_links.proofs.ChargeSums.{charged_to-cons, charged_to-append, charged-le, length-shares, length-weights}
use Rattle.cost_links.proofs.LinkSteps.{added-le}
use Rattle.repost_laws.specs.Fetches.{charges_after, is_charged_in}
use Rattle.repost_laws.specs.Touched.{is_the_line, is_charged_by}
use Rattle.repost_laws.proofs.Filtered.{or_false}

-- the weights of lines that a journal has are the same in a longer one
weights-longer : (journal more : List Record) (basis : Basis) (targets : List Target)
    → Each (Fails (lacks_target journal)) (map landed_target targets) → weights (journal ++ more) basis targets
    ≡ weights journal basis targets
weights-longer journal more basis [] known = refl
weights-longer journal more basis (target ∷ targets) known =
    let found = some-from (target_line journal (landed_target target)) (held-target journal (landed_target target) known.0) in
    let own : weight (journal ++ more) basis target ≡ weight journal basis target = ap
    (λ o. option_map_or (line_weight basis) o 0) (target_line-append journal more (landed_target target) found.0 found.1
    ∙ sym found.1) in
    ap (λ (w : ℕ). w ∷ weights (journal ++ more) basis targets) own
    ∙ ap (λ (ws : List ℕ). weight journal basis target ∷ ws) (weights-longer journal more basis targets known.1)

-- and so is what a voucher charges that had no fault
pub charged-longer : (journal more : List Record) (what : What) → NoFaults journal what → charged (journal ++ more) what
    ≡ charged journal what
charged-longer journal more (Item code method) sound = refl
charged-longer journal more (Store code account) sound = refl
charged-longer journal more (Receipt at lines) sound = refl
charged-longer journal more (Issue at purpose lines) sound = refl
charged-longer journal more (Transfer at lines) sound = refl
charged-longer journal more (CustomerReturn at lines) sound = refl
charged-longer journal more (SupplierReturn at lines) sound = refl
charged-longer journal more (Landed charge basis targets) sound =
    ap (λ (ws : List ℕ). zip targets (shares (unsigned_abs charge.0) ws))
    (weights-longer journal more basis targets (first_line-none (lacks_target journal) 1
    (map landed_target targets) sound.known))
charged-longer journal more (Freeze until) sound = refl
charged-longer journal more (Cancel cancelled) sound = refl

-- nothing is charged to a line that is none of the targets
zip-none : (line : Target) (targets : List Target) (ns : List ℕ) → list_any (is_the_line line) targets ≡ false
    → charged_to line (zip targets ns) ≡ 0
zip-none line [] ns none = refl
zip-none line (target ∷ targets) [] none = refl
zip-none line (target ∷ targets) (n ∷ ns) none =
    let other = or_false (is_same_target target line) (list_any (is_the_line line) targets) none in
    let own : charged_to line ((target, n) ∷ zip targets ns) ≡ 0 + charged_to line (zip targets ns) =
    charged_to-cons line target n (zip targets ns) ∙ ap (λ (b : Bool). cond b n 0 + charged_to line (zip targets ns)) other.0 in
    omega (arith, own, zip-none line targets ns other.1)

pub charged-none : (journal : List Record) (what : What) (line : Target) → list_any (is_the_line line) (charged_targets what) ≡ false
    → charged_to line (charged journal what) ≡ 0
charged-none journal (Item code method) line none = refl
charged-none journal (Store code account) line none = refl
charged-none journal (Receipt at lines) line none = refl
charged-none journal (Issue at purpose lines) line none = refl
charged-none journal (Transfer at lines) line none = refl
charged-none journal (CustomerReturn at lines) line none = refl
charged-none journal (SupplierReturn at lines) line none = refl
charged-none journal (Landed charge basis targets) line none = zip-none line targets
    (shares (unsigned_abs charge.0) (weights journal basis targets)) none
charged-none journal (Freeze until) line none = refl
charged-none journal (Cancel cancelled) line none = refl

-- a line is one of the targets exactly where one of as many charges is to it
any-zip : (line : Target) (targets : List Target) (ns : List ℕ) → length ns ≡ length targets
    → list_any (is_the_line line) targets ≡ list_any (is_charge_of line) (zip targets ns)
any-zip line [] ns same = refl
any-zip line (target ∷ targets) [] same = absurd (omega (arith, same))
any-zip line (target ∷ targets) (n ∷ ns) same =
    ap (λ (b : Bool). is_same_target target line || b) (any-zip line targets ns (omega (arith, same)))

charged-named : (journal : List Record) (what : What) (line : Target)
    → list_any (is_the_line line) (charged_targets what) ≡ list_any (is_charge_of line) (charged journal what)
charged-named journal (Item code method) line = refl
charged-named journal (Store code account) line = refl
charged-named journal (Receipt at lines) line = refl
charged-named journal (Issue at purpose lines) line = refl
charged-named journal (Transfer at lines) line = refl
charged-named journal (CustomerReturn at lines) line = refl
charged-named journal (SupplierReturn at lines) line = refl
charged-named journal (Landed charge basis targets) line =
    let ws = weights journal basis targets in
    any-zip line targets (shares (unsigned_abs charge.0) ws)
    (length-shares (unsigned_abs charge.0) 0 (sum ws) ws ∙ length-weights journal basis targets)
charged-named journal (Freeze until) line = refl
charged-named journal (Cancel cancelled) line = refl

charges-named : (journal more : List Record) (line : Target)
    → is_charged_by more line ≡ is_charged_in (flat_map (record_charged journal) more) line
charges-named journal [] line = refl
charges-named journal (r ∷ more) line =
    ap (λ (b : Bool). b || is_charged_by more line) (charged-named journal r.what line)
    ∙ ap (λ (b : Bool). is_charged_in (record_charged journal r) line || b) (charges-named journal more line)
    ∙ sym (list_any-append (is_charge_of line) (record_charged journal r) (flat_map (record_charged journal) more))

-- the records charge something to a line, be it 0, exactly where one of them names it
pub is_charged_by-more : (journal more : List Record) (line : Target)
    → is_charged_by more line ≡ is_charged_in (charges_after journal more) line
is_charged_by-more journal more line = charges-named (journal ++ more) more line

-- what more records charge to a line is at most so much
charges_after-le : (journal more : List Record) (line : Target) → charged_to line (flat_map (record_charged journal) more) ≤ length more * MAX_AMOUNT
charges_after-le journal [] line = omega arith
charges_after-le journal (r ∷ more) line =
    let longer : length (r ∷ more) ≡ length more + 1 = omega arith in
    omega (
      arith,
      longer,
      charged_to-append line (record_charged journal r) (flat_map (record_charged journal) more),
      charged-le journal r.what line r.limits,
      charges_after-le journal more line,
    )

-- all that is charged to a line has room
pub charges-fit : (journal more : List Record) (line : Target) → AreLegal (journal ++ more)
    → added journal line + charged_to line (charges_after journal more) < 2 ^ 128
charges-fit journal more line legal =
    omega (
      arith,
      added-le journal line,
      charges_after-le (journal ++ more) more line,
      length-append journal more,
      (IsHeld-legal (journal ++ more) legal).records,
    )
