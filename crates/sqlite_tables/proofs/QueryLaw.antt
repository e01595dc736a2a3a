-- What a query of one table shows: its rows that pass the tests, as its terms, in an order that its keys allow.
use Rattle.std.proofs.Common.{◌≡◌, ℕ, Bool, true, List, [], ◌∷◌, map, filter, sym, ap, ◌∙◌, subst}
use Rattle.std.specs.List.{list_all}
use Rattle.std.specs.List.Sorted.{IsPermutation, IsSorted}
use Rattle.std.proofs.lemmas.List.Sorted.{IsPermutation-sym}
use Rattle.sqlite_value.specs.declared.keys.Key.{Key}
use Rattle.sqlite_value.specs.declared.value.Value.TheVariants.{Null}
use Rattle.sqlite_value.specs.Order.{Row}
use Rattle.sqlite_trees.specs.Tree.{Trees}
use Rattle.sqlite_sql.specs.Program.{overlay}
use Rattle.sqlite_sql.specs.Query.{Output, output, output_cmp}
use Rattle.sqlite_sql.specs.Term.{Term, Env, holds, eval_all}
use Rattle.sqlite_rules.specs.Lists.{Has}
use Rattle.sqlite_rules.proofs.ListLemmas.{has_filtered, has_kept}
use Rattle.sqlite.specs.Effect.{Answers}
use Rattle.sqlite_tables.proofs.Members.{has_map, has_mapped, flat_map-filter, has_permutation}
use Rattle.sqlite_tables.proofs.TextLaws.{alone, query_of}

module _ (tree : ℕ) (tests project : List Term) (order : List (Term × Key)) (db : Trees) (params : Row) where
  abbrev pub env_of : Row → Env
  env_of r = params ∷ r ∷ []

  abbrev pub passes : Row → Bool
  passes r = list_all (holds (env_of r)) tests

  abbrev pub shown_as : Row → Row
  shown_as r = eval_all project (env_of r)

  abbrev pub outputs : List Output
  outputs = map (output (query_of tree tests project order)) (map env_of (filter passes (db tree)))

  pub record IsShownOf (rows : List Row) : Type 0 where
    pub ordered : List Output
    pub same : IsPermutation outputs ordered
    pub sorted : IsSorted (output_cmp (query_of tree tests project order)) ordered
    pub shown : rows ≡ map (λ o. o.1) ordered

  module _ (db_schema : _) (rows : List Row) (seen : overlay db [] tree ≡ db tree) (answers : Answers (record { schema = db_schema; trees = db }) (alone (query_of tree tests project order)) params rows) where
    pub shows : IsShownOf rows
    shows =
        let a = answers.answer Null in
        let kept : a.kept ≡ outputs =
        a.distinct ∙ ap (map (output (query_of tree tests project order))) (a.grouped ∙ rw seen (flat_map-filter env_of passes (db tree))) in
        record { ordered = a.ordered; same = subst (λ k. IsPermutation k a.ordered) kept a.same; sorted = a.sorted; shown = a.shown }

    -- what is shown is shown of a row
    pub shown_has : (s : Row) → Has rows s → (r : Row) × Has (db tree) r × (passes r ≡ true) × (s ≡ shown_as r)
    shown_has s h =
        let it = shows in
        let found = has_mapped (λ (o : Output). o.1) it.ordered s (subst (λ l. Has l s) it.shown h) in
        let kept = has_permutation it.ordered outputs found.0 (IsPermutation-sym outputs it.ordered it.same) found.1 in
        let env = has_mapped (output (query_of tree tests project order)) (map env_of (filter passes (db tree))) found.0 kept in
        let row = has_mapped env_of (filter passes (db tree)) env.0 env.1 in
        let was = has_filtered passes (db tree) row.0 row.1 in
        (row.0, was.0, was.1, found.2 ∙ ap (λ (o : Output). o.1) env.2 ∙ ap (λ e. eval_all project e) row.2)

    -- and each row that passes is shown
    pub shown_all : (r : Row) → Has (db tree) r → passes r ≡ true → Has rows (shown_as r)
    shown_all r h pass =
        let it = shows in
        let kept = has_map (output (query_of tree tests project order)) (map env_of (filter passes (db tree))) (env_of r)
        (has_map env_of (filter passes (db tree)) r (has_kept passes (db tree) r h pass)) in
        subst (λ l. Has l (shown_as r)) (sym it.shown) (has_map (λ (o : Output). o.1) it.ordered _ (has_permutation outputs it.ordered _ it.same kept))
