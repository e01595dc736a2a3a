-- What a query in a transaction leaves, whatever it asks, and what one of a known text shows.
use Rattle.std.proofs.Common.{◌≡◌, ◌⊎◌, ℕ, List, [], ◌∷◌, true, false, cond, None, Some, Option, Ok, Err, Result, IsTrue, OnOk, IfOk, IfErr, refl, sym, ap, ◌∙◌, subst, inl, inr}
use Rattle.std.specs.Prelude.{⊤}
use Rattle.sqlite_value.specs.Order.{Row}
use Rattle.sqlite_trees.specs.declared.store.Store.{Ghosts}
use Rattle.sqlite_schema.specs.declared.command.Command.{Command}
use Rattle.sqlite_schema.specs.declared.command.Returning.{Returning}
use Rattle.sqlite_resolve.specs.declared.compiled.Compiled.{Compiled}
use Rattle.sqlite.specs.Clock.{timed}
use Rattle.sqlite.specs.Effect.{Database, Reads, ReadsFirst}
use Rattle.sqlite.specs.Listing.{understood, reads_listing}
use Rattle.sqlite.specs.State.{State, HasCleanDisk, IsUnchanged, IsRolledBack, KeepsCommit, Shows, ShowsRows, Shown, QueriesRow, QueriesRowInside, IsNotRun, FailsToShow, FailsToQuery, IsTooLate}
use Rattle.sqlite.specs.Held.{Held, state}
use Rattle.sqlite.specs.declared.error.Error.{Error}
use Rattle.sqlite.proofs.Callers.{IsPlain, command_of, reads_as, first_as}
use Rattle.sqlite.proofs.InsideLemmas.{unchanged_keeps}
use Rattle.stock_keeper.specs.declared.tables.Tables.{Tables}
use Rattle.sqlite_tables.specs.Finding.{HasLooked}
use Rattle.sqlite_tables.specs.Reading.{HasStayed, HasShown}
use Rattle.sqlite_tables.specs.Standing.{StandsFor}
use Rattle.sqlite_tables.specs.Turning.{HasTurned, HasKept}
use Rattle.sqlite_tables.specs.Whole.{whole}

module _ (sql : List ℕ) (params : Row) (old new : State) where
  -- the transaction goes on, and nothing is committed
  abbrev pub GoesOn : Type 0
  GoesOn = Shows old new new.now old.committed true

  rows_go_on : (c : Compiled) (given : Row) (rows : List Row) (what : Option Returning) → IsTrue old.in_transaction → ShowsRows old new sql c given rows what → GoesOn
  rows_go_on c given rows None inside h =
      let same = h.3.0 in
      record { was_open = same.was_open; is_open = same.is_open; now_is = refl; committed_is = same.committed_is; mode = same.mode ∙ inside }
  rows_go_on c given rows (Some what) inside h =
      let shown = h.1.shown in
      record {
        was_open = shown.was_open;
        is_open = shown.is_open;
        now_is = refl;
        committed_is = shown.committed_is ∙ ap (λ b. cond b old.committed new.now) inside;
        mode = shown.mode ∙ inside;
      }

  pub shown_goes_on : (rows : List Row) → IsTrue old.in_transaction → Shown sql params old new rows → GoesOn
  unfolding Shown
  shown_goes_on rows inside h = rows_go_on h.0 _ rows h.0.returning inside h.2

  pub shown_unchanged : (rows : List Row) → IsPlain (understood old.now.schema sql) → Shown sql params old new rows → IsUnchanged old new
  unfolding Shown
  shown_unchanged rows plain h =
      let none = (subst IsPlain h.1.is plain).0 in
      (subst (ShowsRows old new sql h.0 (timed params h.0.formats h.1.now) rows) none h.2).3

  fails_alone : (c : Compiled) (given : Row) (e : Error) (what : Option Returning) → FailsToShow old new sql c given e what → IsUnchanged old new ⊎ IsRolledBack old new
  fails_alone c given e None h = inl h.3
  fails_alone c given e (Some what) (inl refused) = inl refused.1
  fails_alone c given e (Some what) (inr failed) = inr failed.3

  fails_whole : (e : Error) → FailsToQuery sql params old new e → IsUnchanged old new ⊎ IsRolledBack old new
  unfolding FailsToQuery IsNotRun
  fails_whole e (inl (inl refused)) = inl refused.1
  fails_whole e (inl (inr failed)) = inr failed.3
  fails_whole e (inr h) = fails_alone h.0 _ e h.0.returning h.2

  pub fails_keeps : (e : Error) → FailsToQuery sql params old new e ⊎ IsTooLate sql params old new e → KeepsCommit old new
  fails_keeps e (inl h) = unchanged_keeps old new (fails_whole e h)
  fails_keeps e (inr late) = unchanged_keeps old new (inl late.5)

  keeps : GoesOn → KeepsCommit old new
  keeps h = record { was_open = λ _. h.was_open; committed = λ _. h.committed_is }

  -- one row, or none
  pub row_goes_on : (row : Row) → IsTrue old.in_transaction → QueriesRowInside sql params old new (Ok row) → GoesOn
  unfolding QueriesRow
  row_goes_on row inside (inl h) =
      let same = h.1.0 in
      record { was_open = same.was_open; is_open = same.is_open; now_is = refl; committed_is = same.committed_is; mode = same.mode ∙ inside }
  row_goes_on row inside (inr h) = shown_goes_on h.0 inside h.1

  pub row_keeps : (r : Result Row Error) → IsTrue old.in_transaction → QueriesRowInside sql params old new r → KeepsCommit old new
  unfolding QueriesRow
  row_keeps (Ok row) inside h = keeps (row_goes_on row inside h)
  row_keeps (Err e) inside (inl (inl h)) = fails_keeps e (inl h)
  row_keeps (Err e) inside (inl (inr none)) = keeps (shown_goes_on [] inside none.1)
  row_keeps (Err e) inside (inr late) = fails_keeps e (inr late)

  pub row_unchanged : (row : Row) → IsPlain (understood old.now.schema sql) → QueriesRowInside sql params old new (Ok row) → IsUnchanged old new
  unfolding QueriesRow
  row_unchanged row plain (inl h) = h.1
  row_unchanged row plain (inr h) = shown_unchanged h.0 plain h.1

module _ {S V : Type 0} (store : Ghosts S) (items : V → List Row) (sql : List ℕ) (old new : Held S) where
  -- what `query_all` ensures
  abbrev Answered : Result V Error → Type 0
  Answered result = HasCleanDisk (state store new) → IfOk result (λ rows. Shown sql [] (state store old) (state store new) (items rows))

  abbrev Failed : Result V Error → Type 0
  Failed result =
      HasCleanDisk (state store new) → IfErr result (λ e. FailsToQuery sql [] (state store old) (state store new) e ⊎ IsTooLate sql [] (state store old) (state store new) e)

  pub all_stayed : (result : Result V Error) → Answered result → OnOk result (HasStayed store old new)
  all_stayed (Err e) ok = tt
  all_stayed (Ok rows) ok = λ clean inside. (shown_goes_on sql [] (state store old) (state store new) (items rows) inside (ok clean)).mode

  pub all_kept : (result : Result V Error) → Answered result → Failed result → HasKept store old new
  all_kept (Err e) ok err clean inside = fails_keeps sql [] (state store old) (state store new) e (err clean)
  all_kept (Ok rows) ok err clean inside =
      let h = shown_goes_on sql [] (state store old) (state store new) (items rows) inside (ok clean) in
      record { was_open = λ _. h.was_open; committed = λ _. h.committed_is }

  -- a query that only reads leaves the tables
  pub all_turned : IsPlain (understood whole sql) → (result : Result V Error) → Answered result → OnOk result (HasTurned store (λ _. ⊤) (λ t. t) old new)
  all_turned plain (Err e) ok = tt
  all_turned plain (Ok rows) ok = λ clean inside. record {
    shows = shown_goes_on sql [] (state store old) (state store new) (items rows) inside (ok clean);
    stands = λ t stands _.
        let known = sym (ap (λ s. understood s sql) stands.schema) in
        let same = shown_unchanged sql [] (state store old) (state store new) (items rows) (subst IsPlain known plain) (ok clean) in
        subst (λ db. StandsFor db t) (sym same.0.now_is) stands;
  }

  -- and the database, where its schema is known
  pub all_looked : IsPlain (understood whole sql) → (result : Result V Error) → Answered result → OnOk result (HasLooked store old new)
  all_looked plain (Err e) ok = tt
  all_looked plain (Ok rows) ok = λ clean has.
      shown_unchanged sql [] (state store old) (state store new) (items rows) (subst IsPlain (sym (ap (λ s. understood s sql) has)) plain) (ok clean)

  pub all_shown : (shown : Tables → List Row) (command : Command) → command_of (understood whole sql) ≡ command → IsPlain (understood whole sql) → reads_listing whole sql ≡ false
      → ((db : Database) (t : Tables) (rows : List Row) → StandsFor db t → Reads command db [] rows → rows ≡ shown t)
      → (result : Result V Error) → Answered result → IfOk result (λ rows. HasShown store shown old new (items rows))
  all_shown shown command is plain unlisted law (Err e) ok = tt
  all_shown shown command is plain unlisted law (Ok rows) ok = λ clean t stands.
      let answer = ok clean in
      let known = sym (ap (λ s. understood s sql) stands.schema) in
      let same = shown_unchanged sql [] (state store old) (state store new) (items rows) (subst IsPlain known plain) answer in (
        law (state store old).now t (items rows) stands (reads_as sql [] (state store old) (state store new) whole stands.schema command is plain unlisted (items rows) answer),
        subst (λ db. StandsFor db t) (sym same.0.now_is) stands,
      )

module _ {S : Type 0} (store : Ghosts S) (sql : List ℕ) (old new : Held S) where
  -- what `query_row` ensures
  abbrev AnsweredRow : Result Row Error → Type 0
  AnsweredRow result = HasCleanDisk (state store new) → QueriesRowInside sql [] (state store old) (state store new) result

  pub row_stayed : (result : Result Row Error) → AnsweredRow result → OnOk result (HasStayed store old new)
  row_stayed (Err e) answer = tt
  row_stayed (Ok row) answer = λ clean inside. (row_goes_on sql [] (state store old) (state store new) row inside (answer clean)).mode

  pub row_kept : (result : Result Row Error) → AnsweredRow result → HasKept store old new
  row_kept result answer clean inside = row_keeps sql [] (state store old) (state store new) result inside (answer clean)

  pub row_shown : (shown : Tables → Row) (command : Command) → command_of (understood whole sql) ≡ command → IsPlain (understood whole sql) → reads_listing whole sql ≡ false
      → ((db : Database) (t : Tables) (row : Row) → StandsFor db t → ReadsFirst command db [] (row ∷ []) → row ≡ shown t)
      → (result : Result Row Error) → AnsweredRow result → IfOk result (HasShown store shown old new)
  row_shown shown command is plain unlisted law (Err e) answer = tt
  row_shown shown command is plain unlisted law (Ok row) answer = λ clean t stands.
      let it = answer clean in
      let known = sym (ap (λ s. understood s sql) stands.schema) in
      let same = row_unchanged sql [] (state store old) (state store new) row (subst IsPlain known plain) it in (
        law (state store old).now t row stands (first_as sql [] (state store old) (state store new) whole stands.schema command is plain unlisted row it),
        subst (λ db. StandsFor db t) (sym same.0.now_is) stands,
      )
