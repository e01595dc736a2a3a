-- A row of eight fields that are the names, one after another.
use Rattle.std.proofs.Common.{◌≡◌, ℕ, Bool, true, List, [], get_or, length, sym, ◌∙◌, ap}
use Rattle.std.specs.Prelude.{bytes_eq, codes}
use Rattle.std.proofs.lemmas.Bool.{false≢true}
use Rattle.std.proofs.lemmas.Bool.Decides.{Decides-eqb}
use Rattle.std.proofs.lemmas.Slice.Eq.{bytes_eq-Decides}
use Rattle.csv.specs.Records.{fields_of}
use Rattle.voucher_import.specs.Rows.{head_row}
use Rattle.voucher_import.proofs.Columns.{eight_fields}
use Rattle.voucher_import.proofs.rows.is_head.Goals.{After-eq-then-eq-7, then-len-eq-COLUMNS, else-len-eq-COLUMNS, then-eq, else-eq, then-eq-2, else-eq-2, then-eq-3, else-eq-3, then-eq-4, else-eq-4, then-eq-5, else-eq-5, then-eq-6, else-eq-6}
use Rattle.voucher_import.proofs.rows.is_head.Goals as goal

named : (r : Bool) (a b x y : List ℕ) → r ≡ bytes_eq a b → a ≡ x → b ≡ y → r ≡ true → x ≡ y
named r a b x y e f g t = sym f ∙ (bytes_eq-Decides a b).0 (sym e ∙ t) ∙ g

whole : (xs : List (List ℕ)) → length xs ≡ 8 → get_or xs 0 [] ≡ codes "voucher" → get_or xs 1 [] ≡ codes "do" → get_or xs 2 [] ≡ codes "at" → get_or xs 3 [] ≡ codes "item"
    → get_or xs 4 [] ≡ codes "store" → get_or xs 5 [] ≡ codes "to" → get_or xs 6 [] ≡ codes "qty" → get_or xs 7 [] ≡ codes "amount" → xs ≡ head_row
whole xs size a b d e f g h i = eight_fields xs size ∙ cc

sixth : (c : After-eq-then-eq-7) → c.if-eq-6.value ≡ true → (get_or (fields_of c.args.row.now) 6 [] ≡ codes "qty") × (c.if-eq-5.value ≡ true)
sixth c t = elim c.if-eq-6.branch [
  | then-eq-6 w ↦ (named w.eq-then-eq-6.result w.field-then-eq-6.result.now w.as_slice-then-eq-6.result.now (get_or (fields_of c.args.row.now) 6 []) (codes "qty") w.eq-then-eq-6.ensures w.field-then-eq-6.ensures w.as_slice-then-eq-6.ensures (sym w.value-is ∙ t), w.if-eq-6.true)
  | else-eq-6 w ↦ absurd (false≢true (sym w.if-eq-6.false ∙ (sym w.value-is ∙ t)))
]

fifth : (c : After-eq-then-eq-7) → c.if-eq-5.value ≡ true → (get_or (fields_of c.args.row.now) 5 [] ≡ codes "to") × (c.if-eq-4.value ≡ true)
fifth c t = elim c.if-eq-5.branch [
  | then-eq-5 w ↦ (named w.eq-then-eq-5.result w.field-then-eq-5.result.now w.as_slice-then-eq-5.result.now (get_or (fields_of c.args.row.now) 5 []) (codes "to") w.eq-then-eq-5.ensures w.field-then-eq-5.ensures w.as_slice-then-eq-5.ensures (sym w.value-is ∙ t), w.if-eq-5.true)
  | else-eq-5 w ↦ absurd (false≢true (sym w.if-eq-5.false ∙ (sym w.value-is ∙ t)))
]

fourth : (c : After-eq-then-eq-7) → c.if-eq-4.value ≡ true → (get_or (fields_of c.args.row.now) 4 [] ≡ codes "store") × (c.if-eq-3.value ≡ true)
fourth c t = elim c.if-eq-4.branch [
  | then-eq-4 w ↦ (named w.eq-then-eq-4.result w.field-then-eq-4.result.now w.as_slice-then-eq-4.result.now (get_or (fields_of c.args.row.now) 4 []) (codes "store") w.eq-then-eq-4.ensures w.field-then-eq-4.ensures w.as_slice-then-eq-4.ensures (sym w.value-is ∙ t), w.if-eq-4.true)
  | else-eq-4 w ↦ absurd (false≢true (sym w.if-eq-4.false ∙ (sym w.value-is ∙ t)))
]

third : (c : After-eq-then-eq-7) → c.if-eq-3.value ≡ true → (get_or (fields_of c.args.row.now) 3 [] ≡ codes "item") × (c.if-eq-2.value ≡ true)
third c t = elim c.if-eq-3.branch [
  | then-eq-3 w ↦ (named w.eq-then-eq-3.result w.field-then-eq-3.result.now w.as_slice-then-eq-3.result.now (get_or (fields_of c.args.row.now) 3 []) (codes "item") w.eq-then-eq-3.ensures w.field-then-eq-3.ensures w.as_slice-then-eq-3.ensures (sym w.value-is ∙ t), w.if-eq-3.true)
  | else-eq-3 w ↦ absurd (false≢true (sym w.if-eq-3.false ∙ (sym w.value-is ∙ t)))
]

second : (c : After-eq-then-eq-7) → c.if-eq-2.value ≡ true → (get_or (fields_of c.args.row.now) 2 [] ≡ codes "at") × (c.if-eq.value ≡ true)
second c t = elim c.if-eq-2.branch [
  | then-eq-2 w ↦ (named w.eq-then-eq-2.result w.field-then-eq-2.result.now w.as_slice-then-eq-2.result.now (get_or (fields_of c.args.row.now) 2 []) (codes "at") w.eq-then-eq-2.ensures w.field-then-eq-2.ensures w.as_slice-then-eq-2.ensures (sym w.value-is ∙ t), w.if-eq-2.true)
  | else-eq-2 w ↦ absurd (false≢true (sym w.if-eq-2.false ∙ (sym w.value-is ∙ t)))
]

first : (c : After-eq-then-eq-7) → c.if-eq.value ≡ true → (get_or (fields_of c.args.row.now) 1 [] ≡ codes "do") × (c.if-len-eq-COLUMNS.value ≡ true)
first c t = elim c.if-eq.branch [
  | then-eq w ↦ (named w.eq-then-eq.result w.field-then-eq.result.now w.as_slice-then-eq.result.now (get_or (fields_of c.args.row.now) 1 []) (codes "do") w.eq-then-eq.ensures w.field-then-eq.ensures w.as_slice-then-eq.ensures (sym w.value-is ∙ t), w.if-eq.true)
  | else-eq w ↦ absurd (false≢true (sym w.if-eq.false ∙ (sym w.value-is ∙ t)))
]

zeroth : (c : After-eq-then-eq-7) → c.if-len-eq-COLUMNS.value ≡ true → (get_or (fields_of c.args.row.now) 0 [] ≡ codes "voucher") × (length (fields_of c.args.row.now) ≡ 8)
zeroth c t = elim c.if-len-eq-COLUMNS.branch [
  | then-len-eq-COLUMNS w ↦ (named w.eq.result w.field.result.now w.as_slice.result.now (get_or (fields_of c.args.row.now) 0 []) (codes "voucher") w.eq.ensures w.field.ensures w.as_slice.ensures (sym w.value-is ∙ t), sym c.len.ensures ∙ w.if-len-eq-COLUMNS.true)
  | else-len-eq-COLUMNS w ↦ absurd (w.if-len-eq-COLUMNS.false ((Decides-eqb c.len.result 8).0 (sym w.value-is ∙ t)))
]

pub returns-then-eq-7 : goal.returns-then-eq-7
returns-then-eq-7 c =
    let fields = fields_of c.args.row.now in
    let g6 = sixth c c.if-eq-7.true in
    let g5 = fifth c g6.1 in
    let g4 = fourth c g5.1 in
    let g3 = third c g4.1 in
    let g2 = second c g3.1 in
    let g1 = first c g2.1 in
    let g0 = zeroth c g1.1 in
    let last = bytes_eq-Decides (get_or fields 7 []) (codes "amount") in
    let same : c.eq-then-eq-7.result ≡ bytes_eq (get_or fields 7 []) (codes "amount") = rw (← c.field-then-eq-7.ensures, ← c.as_slice-then-eq-7.ensures) c.eq-then-eq-7.ensures in (
      (λ t. whole fields (g0.1) g0.0 g1.0 g2.0 g3.0 g4.0 g5.0 g6.0 (last.0 (sym same ∙ t))),
      (λ e. same ∙ last.1 (ap (λ (row : List (List ℕ)). get_or row 7 []) e)),
    )
