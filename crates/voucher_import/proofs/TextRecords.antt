-- The records that are left of a text, and a reader that gives them one after another.
use Rattle.std.proofs.Common.{Bor, ◌≡◌, ◌≤◌, ◌<◌, ◌+◌, ◌++◌, ◌==◌, ℕ, zero, suc, Bool, true, false, List, [], ◌∷◌, length, Option, Some, None, inr, refl, sym, ap, subst, ◌∙◌, arith, add-one}
use Rattle.std.specs.Prelude.{if◌then◌else◌}
use Rattle.std.proofs.lemmas.Bool.{false≢true}
use Rattle.csv.specs.Machine.{Read, after_end, ends_at_end, ends_with, field_after, fields_after, in_field, is_end, next_record, start_field, start_record, step}
use Rattle.csv.specs.Reading.{Reached, ReadRecord, Ready, builder_config, builder_names_headers, builder_trim, default_config, is_bom, names_headers, reader_config, reader_headers, reader_state, reader_trim, records_from, records_next, source_of, strip_bom, with_flexible, with_names_headers}
use Rattle.csv.specs.declared.reader.ReaderBuilder.{ReaderBuilder}
use Rattle.csv.specs.declared.parser.Action.{Action}
use Rattle.csv.specs.declared.parser.Action.TheVariants as act
use Rattle.csv.specs.declared.parser.State.{State}
use Rattle.csv.specs.declared.parser.State.TheVariants as st
use Rattle.csv.specs.declared.parser.Terminator.TheVariants as term
use Rattle.csv.specs.declared.reader.Reader.{Reader}
use Rattle.csv.specs.declared.reader.Trim.TheVariants as trim
use Rattle.csv.proofs.ReadFacts.{rows-end, rows-more}
use Rattle.voucher_import.specs.Rows.{Row, rows_of}

-- nothing is read of a record
abbrev pub IsFresh : State → Type 0
IsFresh s = ends_at_end s ≡ false

-- what ends a record leaves nothing read
abbrev EndsFresh : State × Action → Type 0
EndsFresh p = is_end p.1 ≡ true → ends_at_end p.0 ≡ false

either : (b : Bool) (x y : State × Action) → EndsFresh x → EndsFresh y → EndsFresh (if b then x else y)
either true x y f g = f
either false x y f g = g

after_fresh : (b : Bool) → ends_at_end (if b then st.AfterCr else st.StartRecord) ≡ false
after_fresh true = refl
after_fresh false = refl

in_field_fresh : (c : ℕ) → EndsFresh (in_field default_config c)
in_field_fresh c =
    either (c == 44) (st.StartField, act.EndField) (if ends_with term.CRLF c then (after_end term.CRLF c, act.EndRecord) else (st.InField, act.Copy)) (λ e. absurd (false≢true e))
    (either (ends_with term.CRLF c) (after_end term.CRLF c, act.EndRecord) (st.InField, act.Copy) (λ e. after_fresh (c == 13)) (λ e. absurd (false≢true e)))

start_field_fresh : (c : ℕ) → EndsFresh (start_field default_config c)
start_field_fresh c = either (c == 34) (st.InQuoted, act.Skip) (in_field default_config c) (λ e. absurd (false≢true e)) (in_field_fresh c)

start_record_fresh : (c : ℕ) → EndsFresh (start_record default_config c)
start_record_fresh c = either (ends_with term.CRLF c) (st.StartRecord, act.Skip) (start_field default_config c) (λ e. absurd (false≢true e)) (start_field_fresh c)

step_fresh : (s : State) (c : ℕ) → EndsFresh (step default_config s c)
step_fresh st.StartRecord c = start_record_fresh c
step_fresh st.StartField c = start_field_fresh c
step_fresh st.InField c = in_field_fresh c
step_fresh st.InQuoted c = either (c == 34) (st.AfterQuote, act.Skip) (st.InQuoted, act.Copy) (λ e. absurd (false≢true e)) (λ e. absurd (false≢true e))
step_fresh st.AfterQuote c = either (c == 34) (st.InQuoted, act.Copy) (in_field default_config c) (λ e. absurd (false≢true e)) (in_field_fresh c)
step_fresh st.InEscape c = λ e. absurd (false≢true e)
step_fresh st.InComment c = either (c == 10) (st.StartRecord, act.Skip) (st.InComment, act.Skip) (λ e. absurd (false≢true e)) (λ e. absurd (false≢true e))
step_fresh st.AfterCr c = either (c == 10) (st.StartRecord, act.Skip) (start_record default_config c) (λ e. absurd (false≢true e)) (start_record_fresh c)

-- where a record ends nothing of the next is read, and the text has not grown
record Ends (size : ℕ) (q : Read) : Type 0 where
  within : length q.2 ≤ size
  fresh : IsFresh q.1

next_ends : (s : State) (fields : List (List ℕ)) (field xs : List ℕ) (q : Read) → next_record default_config s fields field xs ≡ Some q → Ends (length xs) q
unfolding next_record
next_ends s fields field [] q e = go (ends_at_end s) refl e
  where
    go : (b : Bool) → ends_at_end s ≡ b → (if ends_at_end s then Some (fields ++ (field ∷ []), st.StartRecord, []) else None) ≡ Some q → Ends 0 q
    go true t h =
        let same : (fields ++ (field ∷ []), st.StartRecord, []) ≡ q = cc (rw t at h) in
        subst (Ends 0) same (record { within = omega arith; fresh = refl })
    go false t h = absurd (cc (rw t at h))
next_ends s fields field (c ∷ rest) q e = go (is_end (step default_config s c).1) refl e (next_ends (step default_config s c).0 _ _ rest q)
  where
    go : (b : Bool) → is_end (step default_config s c).1 ≡ b
        → (if is_end (step default_config s c).1 then Some (fields_after (step default_config s c).1 fields field, (step default_config s c).0, rest)
        else next_record default_config (step default_config s c).0 (fields_after (step default_config s c).1 fields field) (field_after (step default_config s c).1 c field) rest) ≡ Some q
        → (next_record default_config (step default_config s c).0 (fields_after (step default_config s c).1 fields field) (field_after (step default_config s c).1 c field) rest ≡ Some q → Ends (length rest) q)
        → Ends (suc (length rest)) q
    go true t h more =
        let same : (fields_after (step default_config s c).1 fields field, (step default_config s c).0, rest) ≡ q = cc (rw t at h) in
        subst (Ends (suc (length rest))) same (record { within = omega arith; fresh = step_fresh s c t })
    go false t h more =
        let ends = more (rw t at h) in
        record { within = omega (arith, ends.within); fresh = ends.fresh }

-- a record takes a byte at the least
next_takes : (s : State) (xs : List ℕ) (q : Read) → IsFresh s → next_record default_config s [] [] xs ≡ Some q → (length q.2 < length xs) × IsFresh q.1
unfolding next_record
next_takes s [] q f e = absurd (cc (rw f at e))
next_takes s (c ∷ rest) q f e = go (is_end (step default_config s c).1) refl e
  where
    go : (b : Bool) → is_end (step default_config s c).1 ≡ b
        → (if is_end (step default_config s c).1 then Some (fields_after (step default_config s c).1 [] [], (step default_config s c).0, rest)
        else next_record default_config (step default_config s c).0 (fields_after (step default_config s c).1 [] []) (field_after (step default_config s c).1 c []) rest) ≡ Some q
        → (length q.2 < suc (length rest)) × IsFresh q.1
    go true t h =
        let same : (fields_after (step default_config s c).1 [] [], (step default_config s c).0, rest) ≡ q = cc (rw t at h) in
        let P : Read → Type 0 = λ r. (length r.2 < suc (length rest)) × IsFresh r.1 in
        subst P same (omega arith, step_fresh s c t)
    go false t h =
        let ends = next_ends (step default_config s c).0 _ _ rest q (rw t at h) in
        (omega (arith, ends.within), ends.fresh)

-- the records that are left of a text
abbrev pub left_of : State → List ℕ → List Row
left_of s xs = records_from default_config (length xs + 1) s xs

-- more turns than bytes give no more records
enough : (n m : ℕ) (s : State) (xs : List ℕ) → IsFresh s → length xs < n → length xs < m → records_from default_config n s xs ≡ records_from default_config m s xs
unfolding records_from
enough zero m s xs f a b = absurd (omega arith)
enough (suc n) zero s xs f a b = absurd (omega arith)
enough (suc n) (suc m) s xs f a b = go (next_record default_config s [] [] xs) refl (λ q fresh less. enough n m q.1 q.2 fresh (omega arith) (omega arith))
  where
    go : (o : Option Read) → next_record default_config s [] [] xs ≡ o
        → ((q : Read) → IsFresh q.1 → length q.2 < length xs → records_from default_config n q.1 q.2 ≡ records_from default_config m q.1 q.2)
        → records_next (records_from default_config n) (next_record default_config s [] [] xs) ≡ records_next (records_from default_config m) (next_record default_config s [] [] xs)
    go None e more = rw e refl
    go (Some q) e more =
        let takes = next_takes s xs q f e in
        rw e (ap (λ (rows : List Row). q.0 ∷ rows) (more q takes.1 takes.0))

left_none : (s : State) (xs : List ℕ) → next_record default_config s [] [] xs ≡ None → left_of s xs ≡ []
unfolding records_from
left_none s xs e = rw (add-one (length xs), e) refl

left_some : (s : State) (xs : List ℕ) (q : Read) → IsFresh s → next_record default_config s [] [] xs ≡ Some q → left_of s xs ≡ q.0 ∷ left_of q.1 q.2
unfolding records_from
left_some s xs q f e =
    let takes = next_takes s xs q f e in
    rw (add-one (length xs), e) (ap (λ (rows : List Row). q.0 ∷ rows) (enough (length xs) (length q.2 + 1) q.1 q.2 takes.1 takes.0 (omega arith)))

-- a text has no more records than bytes
few_from : (n : ℕ) (s : State) (xs : List ℕ) → IsFresh s → length (records_from default_config n s xs) ≤ length xs
unfolding records_from
few_from zero s xs f = omega arith
few_from (suc n) s xs f = go (next_record default_config s [] [] xs) refl (λ q fresh. few_from n q.1 q.2 fresh)
  where
    go : (o : Option Read) → next_record default_config s [] [] xs ≡ o
        → ((q : Read) → IsFresh q.1 → length (records_from default_config n q.1 q.2) ≤ length q.2)
        → length (records_next (records_from default_config n) (next_record default_config s [] [] xs)) ≤ length xs
    go None e more = rw e (omega arith)
    go (Some q) e more =
        let takes = next_takes s xs q f e in
        let fewer = more q takes.1 in
        rw e (omega (arith, takes.0, fewer))

strip_shorter : (xs : List ℕ) → length (strip_bom xs) ≤ length xs
unfolding strip_bom
strip_shorter [] = omega arith
strip_shorter (a ∷ []) = omega arith
strip_shorter (a ∷ b ∷ []) = omega arith
strip_shorter (a ∷ b ∷ c ∷ rest) = go (is_bom a b c)
  where
    go : (m : Bool) → length (if m then rest else a ∷ b ∷ c ∷ rest) ≤ length (a ∷ b ∷ c ∷ rest)
    go true = omega arith
    go false = omega arith

pub few_rows : (text : List ℕ) → length (rows_of text) ≤ length text
few_rows text =
    let few = few_from (length (strip_bom text) + 1) st.StartRecord (strip_bom text) refl in
    let short = strip_shorter text in
    omega (arith, few, short)

-- the reader has these records still to give
pub record Gives (rdr : Reader (Bor (List ℕ))) (rows : List Row) : Type 0 where
  pub trims : reader_trim rdr ≡ trim.None
  pub ready : Ready rdr
  pub config : reader_config rdr ≡ default_config
  pub source : List ℕ
  pub known : source_of (λ s. Some s.now) rdr ≡ Some source
  pub fresh : IsFresh (reader_state rdr)
  pub are : rows ≡ left_of (reader_state rdr) source

-- what is left after one record more
after_one : (rdr : Reader (Bor (List ℕ))) (rows : List Row) (gives : Gives rdr rows) (fields : Row) (s2 : State) (z : List ℕ)
    → Reached default_config (reader_state rdr) gives.source (fields ∷ []) s2 z → (rows ≡ fields ∷ left_of s2 z) × IsFresh s2
unfolding Reached
after_one rdr rows gives fields s2 z h =
    let takes = next_takes (reader_state rdr) gives.source h.0 gives.fresh h.1 in
    let P : State → List ℕ → Type 0 = λ s xs. (rows ≡ fields ∷ left_of s xs) × IsFresh s in
    let here : P h.0.1 h.0.2 = (gives.are ∙ left_some (reader_state rdr) gives.source h.0 gives.fresh h.1 ∙ ap (λ (f : Row). f ∷ left_of h.0.1 h.0.2) (sym h.2), takes.1) in
    subst (λ s. P s z) h.3.0 (subst (λ xs. P h.0.1 xs) h.3.1 here)

-- a record that is read is the next of them
pub gives_next : (old new : Reader (Bor (List ℕ))) (rows : List Row) (fields : Row) → Gives old rows → ReadRecord (λ s. Some s.now) old new true fields → Ready new
    → (rest : List Row) × (rows ≡ fields ∷ rest) × Gives new rest
unfolding Reached
gives_next old new rows fields gives read ready =
    let m = rows-more (λ (s : Bor (List ℕ)). Some s.now) old new fields default_config (reader_state old) gives.source gives.source [] gives.config gives.known (refl, refl) read in
    let one = after_one old rows gives fields (reader_state new) m.0 m.2 in (
      left_of (reader_state new) m.0,
      one.0,
      record {
        trims = read.3 ∙ gives.trims;
        ready = ready;
        config = read.2 ∙ gives.config;
        source = m.0;
        known = m.1;
        fresh = one.1;
        are = refl;
      },
    )

-- where no record is read there is none
pub gives_none : (old new : Reader (Bor (List ℕ))) (rows : List Row) → Gives old rows → ReadRecord (λ s. Some s.now) old new false [] → rows ≡ []
gives_none old new rows gives read =
    gives.are ∙ left_none (reader_state old) gives.source (rows-end (λ (s : Bor (List ℕ)). Some s.now) old new [] default_config gives.source gives.config gives.known read)

-- a new reader of a text, with no head of its own, gives all of its records
pub opens : (built set : ReaderBuilder) (rdr : Reader (Bor (List ℕ))) (text : List ℕ) → builder_config built ≡ default_config → builder_trim built ≡ trim.None
    → set ≡ with_flexible (with_names_headers built false) true → reader_config rdr ≡ builder_config set → names_headers rdr ≡ builder_names_headers set
    → reader_trim rdr ≡ builder_trim set → reader_headers rdr ≡ None → reader_state rdr ≡ st.StartRecord → source_of (λ s. Some s.now) rdr ≡ Some (strip_bom text)
    → Gives rdr (rows_of text)
opens built set rdr text plain untrimmed is_set config named trims headers state known = record {
  trims = (rw is_set at trims) ∙ untrimmed;
  ready = inr (inr (rw is_set at named, headers));
  config = (rw is_set at config) ∙ plain;
  source = strip_bom text;
  known = known;
  fresh = rw state refl;
  are = rw state refl;
}
