-- What a crash may leave while a ledger's tables are upgraded.
use Rattle.std.proofs.Common.{◌≡◌, refl, sym, subst, arith}
use Rattle.std.specs.Prelude.{⊤, true}
use Rattle.sqlite_trees.specs.Tree.{Trees}
use Rattle.sqlite_trees.specs.declared.store.Store.{Ghosts}
use Rattle.sqlite.specs.Held.{Held, state}
use Rattle.sqlite.specs.State.{Survives}
use Rattle.sqlite.proofs.Callers.{survives_begin}
use Rattle.sqlite.proofs.StateLemmas.{survives_then}
use Rattle.stock_keeper.specs.Changed.{upgraded}
use Rattle.sqlite_tables.specs.Finding.{LeavesUpgraded}
use Rattle.sqlite_tables.specs.Lasting.{restood}
use Rattle.sqlite_tables.specs.Standing.{StandsFor}
use Rattle.sqlite_tables.specs.Turning.{HasTurned}
use Rattle.sqlite_tables.specs.Whole.{whole}

-- the transaction has upgraded the tables, and then its commit leaves them or does not
pub upgrade_left : {S : Type 0} (store : Ghosts S) (old begun done new : Held S) → begun ≡ record old { in_transaction = true } → (state store old).now.schema ≡ whole
    → HasTurned store (λ _. ⊤) upgraded begun done → Survives (state store begun) (state store done) (λ _. ⊥)
    → Survives (state store done) (state store new) (λ db. db ≡ (state store done).now.trees) → Survives (state store old) (state store new) (LeavesUpgraded store old)
upgrade_left store old begun done new is has turned before after =
    let turned_of = subst (λ h. HasTurned store (λ _. ⊤) upgraded h done) is turned in
    let first = subst (λ h. Survives (state store h) (state store done) (λ _. ⊥)) is before in
    survives_then (state store old) (state store done) (state store new) _ _ _ (λ _ db none. absurd none) (λ clean db left.
    let it = turned_of (omega (arith, after.clean, clean)) refl in
    record {
      is_whole = has;
      tried = record {
        was_open = it.shows.was_open;
        stands = λ t stands may.
            subst (λ (ts : Trees). StandsFor (record { schema = whole; trees = ts }) (upgraded t)) (sym left) (restood (state store done).now (upgraded t) (it.stands t stands may));
      };
    }) (survives_begin store old (state store done) _ first) after
