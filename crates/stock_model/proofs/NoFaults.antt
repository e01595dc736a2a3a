-- What it means that a record has no fault of its own.
use Rattle.std.proofs.Common.{◌≡◌, Bool, true, false, cond, List, [], Option, Some, None, refl}
use Rattle.std.specs.Prelude.{not, ◌||◌, is_none}
use Rattle.std.specs.Option.{option_map, option_or, option_and_then}
use Rattle.stock_model.specs.declared.faults.PostFault.TheVariants.{NoBasis}
use Rattle.stock_model.specs.declared.records.Record.{Record}
use Rattle.stock_model.specs.declared.targets.NamedTarget.{NamedTarget}
use Rattle.stock_model.specs.declared.vouchers.What.{What}
use Rattle.stock_model.specs.Entries.{is_live}
use Rattle.stock_model.specs.Faults.{first_line, first_repeated, lacks_item, lacks_store, stays, lacks_target, not_live, linked, first_later, asks_more, has_no_basis, master_fault, lines_fault, targets_fault, frozen_fault, unknown_item, unknown_store, same_store, unknown_target, link_later, repeated_target, over_return, no_basis, voucher_fault}
use Rattle.stock_model.specs.TargetLines.{target_line}
use Rattle.stock_model.specs.VoucherLines.{lines_of, targets_of, moment_of}

-- of two faults there is none only where there is neither
pub neither : {X : Type 0} (a b : Option X) → option_or a b ≡ None → (a ≡ None) × (b ≡ None)
neither None b h = (refl, h)
neither (Some x) b h = cc

pub none-map : {X Y : Type 0} (f : X → Y) (a : Option X) → option_map f a ≡ None → a ≡ None
none-map f None h = refl
none-map f (Some x) h = cc

basis-none : (b : Bool) → cond b (Some NoBasis) None ≡ None → b ≡ false
basis-none true h = cc
basis-none false h = refl

-- no line and no target of it has a fault
pub record NoFaults (journal : List Record) (what : What) : Type 0 where
  pub masters : master_fault journal what ≡ None
  pub items : first_line (lacks_item journal) 1 (lines_of what) ≡ None
  pub stores : first_line (lacks_store journal) 1 (lines_of what) ≡ None
  pub moves : first_line stays 1 (lines_of what) ≡ None
  pub known : first_line (lacks_target journal) 1 (targets_of what) ≡ None
  pub live : not_live journal what ≡ None
  pub unlinked : linked journal what ≡ None
  pub earlier : option_and_then (first_later journal what) (moment_of what) ≡ None
  pub once : first_repeated [] 1 (targets_of what) ≡ None
  pub left : first_line (asks_more journal) 1 (lines_of what) ≡ None
  pub basis : has_no_basis journal what ≡ false
  pub unclosed : frozen_fault journal what ≡ None

pub NoFaults-from : (journal : List Record) (what : What) → voucher_fault journal what ≡ None → NoFaults journal what
NoFaults-from journal what none =
    let all = neither (master_fault journal what) (option_or (lines_fault journal what) (option_or (targets_fault journal what) (option_or (frozen_fault journal what) None))) none in
    let more = neither (lines_fault journal what) (option_or (targets_fault journal what) (option_or (frozen_fault journal what) None)) all.1 in
    let last = neither (targets_fault journal what) (option_or (frozen_fault journal what) None) more.1 in
    let closed = neither (frozen_fault journal what) None last.1 in
    let item = neither (unknown_item journal what) _ more.0 in
    let store = neither (unknown_store journal what) _ item.1 in
    let same = neither (same_store what) None store.1 in
    let target = neither (unknown_target journal what) _ last.0 in
    let cancelled = neither (not_live journal what) _ target.1 in
    let free = neither (linked journal what) _ cancelled.1 in
    let later = neither (link_later journal what) _ free.1 in
    let again = neither (repeated_target what) _ later.1 in
    let over = neither (over_return journal what) _ again.1 in
    let base = neither (no_basis journal what) None over.1 in
    record {
      masters = all.0;
      items = none-map _ _ item.0;
      stores = none-map _ _ store.0;
      moves = none-map _ _ same.0;
      known = none-map _ _ target.0;
      live = cancelled.0;
      unlinked = free.0;
      earlier = none-map _ _ later.0;
      once = none-map _ _ again.0;
      left = none-map _ _ over.0;
      basis = basis-none (has_no_basis journal what) base.0;
      unclosed = closed.0;
    }

-- a target that is known is held
pub held-target : (journal : List Record) (named : NamedTarget) → lacks_target journal named ≡ false → is_none (target_line journal named) ≡ false
held-target journal named =
    elim (is_none (target_line journal named)) as (λ b. (b || not (is_live journal named.target.voucher.0)) ≡ false → b ≡ false) [ true ↦ λ h. cc | false ↦ λ h. refl ]

-- and in force
pub live-target : (journal : List Record) (named : NamedTarget) → lacks_target journal named ≡ false → is_live journal named.target.voucher.0 ≡ true
live-target journal named =
    elim (is_none (target_line journal named)) as (λ b. (b || not (is_live journal named.target.voucher.0)) ≡ false → is_live journal named.target.voucher.0 ≡ true) [
      | true ↦ λ h. cc
      | false ↦ not-live (is_live journal named.target.voucher.0)
    ]
  where
    not-live : (b : Bool) → not b ≡ false → b ≡ true
    not-live true h = refl
    not-live false h = cc
