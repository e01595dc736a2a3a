-- So many empty blocks are enough.
use Rattle.std.proofs.Common.{◌≡◌, ℕ, ◌+◌, ◌*◌, ◌≤◌, ◌⊎◌, List, Result, Ok, Err, OnOk, length, sym, subst, inl, inr, arith, vec_len}
use Rattle.std.specs.List.{All}
use Rattle.block_list.specs.Blocks.{joined, room_for, IsFilled}
use Rattle.block_list.specs.declared.sums.TheConstants.{HALF}
use Rattle.block_list.proofs.Joined.{few_blocks}
use Rattle.block_list.proofs.Pressure.{pressure-most}
use Rattle.block_list.proofs.blocks.supply.Goals as goal

-- half a block for each item but for the pressure
is_enough : {T : Type 0} (bs : List (List T)) (n count enough pool : ℕ) → All IsFilled bs → count ≡ length bs
    → (n ≤ enough) ⊎ (n + HALF * (count + 1) ≤ HALF * enough) → enough ≤ pool → n ≤ room_for bs pool
is_enough bs n count enough pool filled all which there =
    let most = pressure-most bs filled in
    elim which [ inl one ↦ omega (arith, one, there) | inr half ↦ omega (arith, all, half, there, most) ]

on_ok : {X E A B : Type 0} (result : Result X E) → (A → B) → OnOk result A → OnOk result B
on_ok (Ok x) then a = then a
on_ok (Err e) then a = tt

few : {T : Type 0} (bs : List (List T)) → All IsFilled bs → length (joined bs) ≤ 1_048_576 → length bs ≤ 1_048_576
few bs filled most = omega (arith, few_blocks bs filled, most)

pub enough_for-enough-requires : goal.enough_for-enough-requires
enough_for-enough-requires g c = omega (arith, few c.args.blocks.now.items c.requires.filled c.requires.few, c.len.ensures, c.args.blocks.now.ok)

pub returns-then-len-enough-clause-enough : goal.returns-then-len-enough-clause-enough
returns-then-len-enough-clause-enough g c =
    is_enough c.args.blocks.now.items c.args.n c.len.result c.enough_for-enough.result (vec_len c.args.pool.now) c.requires.filled
    (omega (arith, c.len.ensures, c.args.blocks.now.ok)) c.enough_for-enough.ensures.enough (omega (arith, c.if-len-enough.true, c.len-2.ensures))

pub overflow_add-all : goal.overflow_add-all
overflow_add-all g c = omega (arith, few c.args.blocks.now.items c.requires.filled c.requires.few, c.len-3.ensures, c.args.blocks.now.ok, c.enough_for-enough.ensures.bound)

pub returns-clause-enough : goal.returns-clause-enough
returns-clause-enough g c =
    on_ok c.fill.result (λ full.
    subst (λ (xs : List (List g.row.T.Denot)). c.args.n ≤ room_for xs (vec_len c.fill.new.pool)) (sym c.reserve.ensures.items)
    (is_enough c.args.blocks.now.items c.args.n c.len.result c.enough_for-enough.result (vec_len c.fill.new.pool)
    c.requires.filled (omega (arith, c.len.ensures, c.args.blocks.now.ok)) c.enough_for-enough.ensures.enough (omega (arith, full))))
    c.fill.ensures.full
