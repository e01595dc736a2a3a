-- What a movement looks at comes before it.
use Rattle.std.proofs.Common.{◌≡◌, ℕ, ◌+◌, ◌-◌, Bool, true, false, cond, List, [], ◌∷◌, map, filter, reverse, Option, Some, None, inl, inr, refl, sym, subst, arith, Contains}
use Rattle.std.specs.List.{find}
use Rattle.std.specs.Option.{option_map}
use Rattle.std.proofs.lemmas.List.{reverse-append}
use Rattle.stock_nums.specs.Places.{is_before}
use Rattle.stock_nums.specs.declared.cause.Cause.{Cause}
use Rattle.stock_nums.specs.declared.cause.Cause.TheVariants.{Receipt, Issue, TransferLeaves, TransferEnters, CustomerReturn, SupplierReturn}
use Rattle.stock_nums.specs.declared.cause.Method.{Method}
use Rattle.stock_nums.specs.declared.cause.Method.TheVariants.{Fifo, Average}
use Rattle.stock_nums.specs.declared.cause.Target.{Target}
use Rattle.stock_nums.specs.declared.entry.Entry.{Entry}
use Rattle.stock_nums.specs.declared.place.Place.{Place}
use Rattle.stock_model.specs.Enough.{entry_key, is_of_key, enters_under, departed, entry_units}
use Rattle.stock_model.specs.Values.{own_line}
use Rattle.stock_model.proofs.Pairwise.{Each, Each-append, Contains-cases}
use Rattle.cost_links.specs.Sources.{comes_before, entry_place}
use Rattle.repost_laws.specs.Pieces.{Piece, pieces, whole, has_units}
use Rattle.repost_laws.specs.Touched.{StartsFrom, TakesFrom, SpreadsTo}
use Rattle.repost_laws.specs.Valuations.{earlier, last_of_key, pieces_taken_by, is_leaving_by, left_by, sources_by, sources}

module _ {X : Type 0} (P : X → Type 0) where
  pub Each-Contains : (xs : List X) (x : X) → Each P xs → Contains xs x → P x
  Each-Contains [] x all held = absurd (omega (arith, held.1))
  Each-Contains (y ∷ xs) x all held =
      elim (Contains-cases y xs x held) [
        | inl same ↦ subst P same all.0
        | inr later ↦ Each-Contains xs x all.1 later
      ]

  pub Each-reverse : (xs : List X) → Each P xs → Each P (reverse xs)
  Each-reverse [] all = tt
  Each-reverse (x ∷ xs) all = subst (Each P) (sym (reverse-append (x ∷ []) xs))
      (Each-append P (reverse xs) (x ∷ []) (Each-reverse xs all.1) (all.0, tt))

  pub Each-filter : (p : X → Bool) (xs : List X) → Each P xs → Each P (filter p xs)
  Each-filter p [] all = tt
  Each-filter p (x ∷ xs) all =
      elim (p x) as (λ b. Each P (cond b (x ∷ filter p xs) (filter p xs))) [
        | true ↦ (all.0, Each-filter p xs all.1)
        | false ↦ Each-filter p xs all.1
      ]

  -- what is found is one of them
  pub Each-find : (p : X → Bool) (xs : List X) (x : X) → Each P xs → find p xs ≡ Some x → P x
  Each-find p [] x all is = cc
  Each-find p (y ∷ xs) x all is = by_cases (p y) is (Each-find p xs x all.1)
    where
      by_cases : (b : Bool) → cond b (Some y) (find p xs) ≡ Some x → (find p xs ≡ Some x → P x) → P x
      by_cases true h rest = let same : y ≡ x = cc in subst P same all.0
      by_cases false h rest = rest h

-- those that pass
pub Each-passes : {X : Type 0} (p : X → Bool) (xs : List X) → Each (λ x. p x ≡ true) (filter p xs)
Each-passes p [] = tt
Each-passes p (x ∷ xs) = by_cases (p x) refl (Each-passes p xs)
  where
    by_cases : (b : Bool) → p x ≡ b → Each (λ y. p y ≡ true) (filter p xs)
        → Each (λ y. p y ≡ true) (cond b (x ∷ filter p xs) (filter p xs))
    by_cases true is rest = (is, rest)
    by_cases false is rest = rest

-- the pieces of elements
Each-pieces : (P : Entry → Type 0) (es : List Entry) (from until : ℕ) → Each P es
    → Each (λ (piece : Piece Entry). P piece.giver) (pieces entry_units es from until)
Each-pieces P [] from until all = tt
Each-pieces P (e ∷ es) from until all = (all.0, Each-pieces P es (from - entry_units e) (until - entry_units e) all.1)

Each-whole : (P : Entry → Type 0) (es : List Entry) → Each P es
    → Each (λ (piece : Piece Entry). P piece.giver) (map (whole entry_units) es)
Each-whole P [] all = tt
Each-whole P (e ∷ es) all = (all.0, Each-whole P es all.1)

Each-left : (P : Entry → Type 0) (past : List Entry) (line : Target) → Each P past
    → Each (λ (piece : Piece Entry). P piece.giver) (left_by past line)
Each-left P past line all = Each-whole P (filter (is_leaving_by line) past) (Each-filter P (is_leaving_by line) past all)

Each-taken : (P : Entry → Type 0) (method : Method) (past : List Entry) (e : Entry) → Each P past
    → Each (λ (piece : Piece Entry). P piece.giver) (pieces_taken_by method past e)
Each-taken P Average past e all = tt
Each-taken P Fifo past e all =
    let key = entry_key e in
    let out = departed past key in
    Each-filter (λ (piece : Piece Entry). P piece.giver) has_units
    (pieces entry_units (filter (enters_under key) past) out (out + e.qty.0))
    (Each-pieces P (filter (enters_under key) past) out (out + e.qty.0) (Each-filter P (enters_under key) past all))

pub Each-sources : (P : Entry → Type 0) (past : List Entry) (e : Entry) (cause : Cause) → Each P past
    → Each (λ (piece : Piece Entry). P piece.giver) (sources_by past e cause)
Each-sources P past e (Receipt amount) all = tt
Each-sources P past e (Issue sold) all = Each-taken P e.method past e all
Each-sources P past e TransferLeaves all = Each-taken P e.method past e all
Each-sources P past e TransferEnters all = Each-left P past (own_line e) all
Each-sources P past e (CustomerReturn target issued) all = Each-left P past target all
Each-sources P past e (SupplierReturn target amount received) all = Each-taken P e.method past e all

-- the last of the key is before
last-before : (line : List Entry) (e : Entry) (f : Entry) → last_of_key (earlier line e) (entry_key e) ≡ Some f
    → is_before f.place e.place ≡ true
last-before line e f is =
    Each-find (λ g. is_before g.place e.place ≡ true) (is_of_key (entry_key e)) (reverse (earlier line e)) f
    (Each-reverse (λ g. is_before g.place e.place ≡ true) (earlier line e) (Each-passes (comes_before e.place) line)) is

starts-before : (line : List Entry) (place : Place) (e : Entry) → StartsFrom line place e → is_before place e.place ≡ true
starts-before line place e starts = by_cases (last_of_key (earlier line e) (entry_key e)) refl starts.1
  where
    by_cases : (o : Option Entry) → last_of_key (earlier line e) (entry_key e) ≡ o → option_map entry_place o ≡ Some place
        → is_before place e.place ≡ true
    by_cases None is h = cc
    by_cases (Some f) is h = let same : f.place ≡ place = cc in subst (λ (p : Place). is_before p e.place ≡ true) same
        (last-before line e f is)

takes-before : (line : List Entry) (place : Place) (e : Entry) → TakesFrom line place e → is_before place e.place ≡ true
takes-before line place e (piece, held, same) =
    subst (λ (p : Place). is_before p e.place ≡ true) same
    (Each-Contains (λ (one : Piece Entry). is_before one.giver.place e.place ≡ true) (sources (earlier line e) e) piece
    (Each-sources (λ g. is_before g.place e.place ≡ true) (earlier line e) e e.cause
    (Each-passes (comes_before e.place) line)) held)

-- what is spread to lies later
pub spread-before : (line : List Entry) (place : Place) (e : Entry) → SpreadsTo line place e → is_before place e.place ≡ true
spread-before line place e (inl starts) = starts-before line place e starts
spread-before line place e (inr takes) = takes-before line place e takes
