-- The parts of a statement that gave a value, in turn.
use Rattle.std.proofs.Common.{◌≡◌, ◌⊎◌, ℕ, Bool, true, false, cond, None, Ok, Err, Result, refl, ap, inl, inr, arith}
use Rattle.sqlite_value.specs.declared.value.Value.TheVariants.{Null, Int}
use Rattle.sqlite_trees.specs.Tree.{Trees}
use Rattle.sqlite_sql.specs.Ops.{unary}
use Rattle.sqlite_schema.specs.declared.schema.Kind.TheVariants.{Integer}
use Rattle.sqlite_schema.specs.declared.command.Command.{Command}
use Rattle.sqlite_rules.specs.Cast.{cast}
use Rattle.sqlite.specs.declared.run.Mode.{Mode}
use Rattle.sqlite.specs.Does.{Tally, WritesRows, OnRows}
use Rattle.sqlite.specs.Effect.{Database}
use Rattle.sqlite.specs.Rows.{Task, Written}

-- a part that gave a value did not stop on the way
pub went : {B E R : Type 0} {b : B} {Stops : E → Type 0} → ((stop : E) × Stops stop × (Ok b ≡ Err stop)) ⊎ R → R
went (inl stopped) = absurd (let e = stopped.2 in cc)
went (inr on) = on

pub same_value : {B E : Type 0} {a b : B} → ◌≡◌ {A = Result B E} (Ok a) (Ok b) → a ≡ b
same_value e = cc

either : {X : Type 0} (b : Bool) (x : X) → cond b x x ≡ x
either true x = refl
either false x = refl

pub cast-Int : (n : _) → cast Integer (Int n) ≡ Int n
unfolding unary
cast-Int n = either _ (Int n)

pub cast-Null : cast Integer Null ≡ Null
unfolding unary
cast-Null = either _ Null

pub one≢zero : ¬ ◌≡◌ {A = ℕ} 1 0
one≢zero e = omega (arith, e)

pub three≢zero : ¬ ◌≡◌ {A = ℕ} 3 0
three≢zero e = omega (arith, e)

pub zero≢one : ¬ ◌≡◌ {A = ℕ} 0 1
zero≢one e = omega (arith, e)

pub three≢one : ¬ ◌≡◌ {A = ℕ} 3 1
three≢one e = omega (arith, e)

pub zero≢three : ¬ ◌≡◌ {A = ℕ} 0 3
zero≢three e = omega (arith, e)

pub one≢three : ¬ ◌≡◌ {A = ℕ} 1 3
one≢three e = omega (arith, e)

-- a statement on rows that shows none ends with the trees that it wrote
pub concluded : (task : Task) (mode : Mode) (command : Command) (db : Trees) (tally : Tally) (after : Database) → OnRows task mode None command db (Ok (tally, after))
    → (w : Written) × WritesRows task db command (Ok w) × (after ≡ record { schema = task.schema; trees = w.trees })
concluded task mode command db tally after h =
    let it = went h in
    let tested = went it.2 in
    let shown = went tested.2 in
    (it.0, it.1, ap (λ (p : Tally × Database). p.1) (same_value shown.2))
