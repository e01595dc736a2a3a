-- Each step of a turn keeps the rule, and tells what it is said to tell.
use Rattle.std.proofs.Common.{◌≡◌, ℕ, suc, ◌+◌, ◌-◌, ◌*◌, ◌^◌, ◌%◌, ◌<◌, ◌≤◌, List, [], ◌∷◌, ◌++◌, length, get_or, set, eqb, sym, refl, ap, ◌∙◌, subst, arith, eq-eqb}
use Rattle.std.proofs.Math.Nat.{mod-eq_of_lt}
use Rattle.std.proofs.lemmas.List.{set-get_or}
use Rattle.std.specs.Prelude.{All, Option, Some, None}
use mathlib.Core.Option.{none, some}
use mathlib.Core.Option as maybe
use mathlib.Core.Logic.{dite}
use native.Mathlib.Decide.{ℕ_discrete}
use lib.ListN.{get_elem?}
use prog.Atomic.{either}
use Rattle.atomic_table.specs.Table.{State, Me, step, Act, keeps, takes, gives, Valid, carried_after, put_back, stepped, Allows, rest}
use Rattle.atomic_table.proofs.Lists.{set_here, set_else, set_again, exchanged}
use Rattle.turn_lock.specs.declared.view.Start.{Start}
use Rattle.turn_lock.specs.declared.view.View.{View}
use Rattle.turn_lock.specs.declared.view.Joined.{Joined}
use Rattle.turn_lock.specs.declared.view.Turn.{Turn}
use Rattle.turn_lock.specs.declared.view.Turn.TheVariants.{Rest, Drawn, Served}
use Rattle.turn_lock.specs.Histories.{BeginsWith, past, made_by}
use Rattle.turn_lock.specs.Views.{HasTicket, IsServed, tickets, ticket_of, taken_of, taken_faults_of, all_turns, joined_made, spent, drawn, served, given}
use Rattle.turn_lock.specs.Rule.{InTurn, TakesTurns}
use Rattle.turn_lock.specs.Steps.{KeepsLast, looked, drew, came, raised, rang, checked}
use Rattle.turn_lock.proofs.Lists.{at_below, at_one, sums_within, begins_through, made_through_two, made_in_first, made_by_all}
use Rattle.turn_lock.proofs.Turning.{with_turn}
use Rattle.turn_lock.proofs.Giving.{with_give}

module _ {E : Type 0} where
  no_ticket_spent : (v : View E) → v ≡ spent → (t : ℕ) → ¬ HasTicket v.turn t
  no_ticket_spent v e t h = let P : View E → Type 0 = λ x. HasTicket x.turn t in subst P e h

  none_served_spent : (v : View E) → v ≡ spent → ¬ IsServed v.turn
  none_served_spent v e h = let P : View E → Type 0 = λ x. IsServed x.turn in subst P e h

  -- a pass that is served has the ticket that is served
  served_is : (log : List (ℕ × E)) (count ticket serving : ℕ) (turn : Turn E) → InTurn log count ticket serving turn → IsServed turn → HasTicket turn serving
  served_is log count ticket serving Rest h s = absurd s
  served_is log count ticket serving (Drawn t) h s = absurd s
  served_is log count ticket serving (Served t l c) h s = h.0

  ticket_below : (log : List (ℕ × E)) (count ticket serving : ℕ) (turn : Turn E) (t : ℕ) → InTurn log count ticket serving turn → HasTicket turn t → t < ticket
  ticket_below log count ticket serving Rest t h has = absurd has
  ticket_below log count ticket serving (Drawn n) t h has = omega arith
  ticket_below log count ticket serving (Served n l c) t h has = omega arith

  served_parts : (turn : Turn E) → IsServed turn → turn ≡ Served (ticket_of turn) (taken_of turn) (taken_faults_of turn)
  served_parts Rest s = absurd s
  served_parts (Drawn t) s = absurd s
  served_parts (Served t l c) s = refl

  no_turns_spent : (v : View E) → v ≡ spent → all_turns v + tickets v.turn ≤ v.passes * 2 ^ 57
  no_turns_spent v e = let P : View E → Type 0 = λ x. all_turns x + tickets x.turn ≤ x.passes * 2 ^ 57 in subst P (sym e) (omega arith)

  keeps_last : (views : List (View E)) (v : View E) (js : List (Joined E)) → All (λ (j : Joined E). BeginsWith v.seen j.kept_seen × BeginsWith v.seen j.other_seen) js
      → All (λ (j : Joined E). (j.kept_seen_faults ≤ v.seen_faults) × (j.other_seen_faults ≤ v.seen_faults)) js
      → All (λ (j : Joined E). (u : View E) × (get_elem? views j.number ≡ some u) × (u.passes ≡ 0)) js
      → ((k : ℕ) (u : View E) → get_elem? views k ≡ some u → u.passes ≡ 0 → made_by k (past v.first v.seen) ≡ joined_made k js) → KeepsLast v js
  keeps_last views v [] saw counted gone made = tt
  keeps_last views v (j ∷ js) saw counted gone made =
      let both = saw 0 j (omega arith) in let counts = counted 0 j (omega arith) in let spent_there = gone 0 j (omega arith) in
      let m = rw (eq-eqb j.number j.number refl) at (made j.number spent_there.0 spent_there.1 spent_there.2) in
      (both.0, both.1, m, counts.0, counts.1)

module _ {B E : Type 0} (history : B → List (ℕ × E)) (faults : B → ℕ) (start : B → Start) (follows : Start → B → Type 0) (about : B) where
  abbrev pub Goes : State (Option B) (View E) → ℕ → ℕ → Me (Option B) (View E) → (ℕ → Me (Option B) (View E) → Type 0) → ℕ → Type 0
  Goes s k id me then x = (w : View E) × (a : Act (Option B)) × Valid s.homes me.1 a × TakesTurns history faults start follows about (stepped s k x id me.1 w a) × then (get_or s.words k 0) (w, carried_after me.1 a)

  -- both words stay far below 2^64
  pub below : (s : State (Option B) (View E)) (r : TakesTurns history faults start follows about s) → r.ticket < 2 ^ 62
  below s r = let each = sums_within all_turns (λ (v : View E). tickets v.turn) (λ (v : View E). v.passes) s.views (λ i v at. dite (ℕ_discrete v.passes 0)
      (λ none. no_turns_spent v (r.joined_is_spent i v at none)) (λ some_passes. let f = r.fits i v at (omega arith) in omega (arith, f.few_turns, f.few_joined, f.counts))) in
      omega (arith, each, r.few, r.all_passes_are, r.all_turns_are, r.all_tickets_are)

  -- a pass with a ticket was not joined into another
  lives_by_ticket : (s : State (Option B) (View E)) (r : TakesTurns history faults start follows about s) (j : ℕ) (u : View E) (t : ℕ) → get_elem? s.views j ≡ some u → HasTicket u.turn t → 0 < u.passes
  lives_by_ticket s r j u t at has = dite (ℕ_discrete u.passes 0) (λ none. absurd (no_ticket_spent u (r.joined_is_spent j u at none) t has)) (λ ne. omega arith)

  -- a served pass has the ticket that is served
  served_has : (s : State (Option B) (View E)) (r : TakesTurns history faults start follows about s) (j : ℕ) (u : View E) → get_elem? s.views j ≡ some u → IsServed u.turn → HasTicket u.turn r.serving
  served_has s r j u at is = dite (ℕ_discrete u.passes 0) (λ none. absurd (none_served_spent u (r.joined_is_spent j u at none) is)) (λ ne. served_is r.log r.count r.ticket r.serving u.turn (r.fits j u at (omega arith)).in_turn is)

  ticket_at : (s : State (Option B) (View E)) (r : TakesTurns history faults start follows about s) → get_or s.words 0 0 ≡ r.ticket
  ticket_at s r = ap (λ (ws : List ℕ). get_or ws 0 0) r.words

  serving_at : (s : State (Option B) (View E)) (r : TakesTurns history faults start follows about s) → get_or s.words 1 0 ≡ r.serving
  serving_at s r = ap (λ (ws : List ℕ). get_or ws 1 0) r.words

  -- nothing changes
  stays : (s : State (Option B) (View E)) (r : TakesTurns history faults start follows about s) (k id : ℕ) (me : Me (Option B) (View E)) (then : ℕ → Me (Option B) (View E) → Type 0) → get_elem? s.views id ≡ some me.0 → then (get_or s.words k 0) me → Goes s k id me then (get_or s.words k 0)
  stays s r k id me then at told = (
    me.0,
    keeps,
    tt,
    subst (λ (x : List ℕ × List (View E)). TakesTurns history faults start follows about record { words = x.0; homes = s.homes; views = x.1 }) (λ i. (sym (set-get_or s.words k 0) i, sym (set_again s.views id me.0 at) i)) r,
    told,
  )

  pub looks : (n id : ℕ) (me : Me (Option B) (View E)) → Allows (TakesTurns history faults start follows about) n id me 0 (λ x. x) (looked history faults follows (step n 0 0 0 none) me)
  looks n id me s r wide at _ = stays s r 0 id me (looked history faults follows (step n 0 0 0 none) me) at (refl, omega (arith, ticket_at s r, below s r))

  pub draws : (n id : ℕ) (me : Me (Option B) (View E)) (old new : ℕ) → new ≡ old + 1 → me.0.turn ≡ Rest → 0 < me.0.passes → length me.0.stops < 2 ^ 57
      → Allows (TakesTurns history faults start follows about) n id me 0 (λ x. either (eqb x old) new x) (drew history faults follows (step n 0 old new none) me)
  draws n id me old new next rests lives few s r wide at _ =
      let then = drew history faults follows (step n 0 old new none) me in
      exchanged (get_or s.words 0 0) old new (Goes s 0 id me then)
      (λ hit. let is : r.ticket ≡ old = sym (ticket_at s r) ∙ hit in let none_yet : tickets me.0.turn ≡ 0 = ap tickets rests in (
        drawn me.0 (get_or s.words 0 0),
        keeps,
        tt,
        subst (λ (t : ℕ). TakesTurns history faults start follows about record { words = set s.words 0 new; homes = s.homes; views = set s.views id (drawn me.0 t) }) (sym hit)
            (with_turn history faults start follows about s r id me.0 (Drawn old) new r.home (set s.words 0 new) s.homes at lives (ap (λ (ws : List ℕ). set ws 0 new) r.words) r.slot (omega arith) (omega arith) (omega arith)
            (let h : r.serving ≤ old = omega (arith, r.all_tickets_are) in let l : old < new = omega arith in (h, l))
            (λ t has j u ne at_j other. let f = r.fits j u at_j (lives_by_ticket s r j u t at_j other) in let b = ticket_below r.log r.count r.ticket r.serving u.turn t f.in_turn other in let e : old ≡ t = has in absurd (omega arith))
            (λ not_served. r.at_home (λ j u at_j is_served. dite (ℕ_discrete j id)
            (λ e. let same = at_one s.views id u me.0 (subst (λ (k : ℕ). get_elem? s.views k ≡ some u) e at_j) at in subst IsServed (ap (λ (x : View E). x.turn) same ∙ rests) is_served)
            (λ ne. not_served j u (set_else s.views id j (drawn me.0 old) ne ∙ at_j) is_served)))),
        ((λ _. refl), λ miss. absurd (miss hit)),
      ))
      (λ miss. stays s r 0 id me then at ((λ hit. absurd (miss hit)), λ _. (refl, omega (arith, ticket_at s r, below s r))))

  pub comes : (n id : ℕ) (me : Me (Option B) (View E)) (t : ℕ) → me.0.turn ≡ Drawn t → 0 < me.0.passes
      → Allows (TakesTurns history faults start follows about) n id me 1 (λ x. x) (came history faults follows (step n 1 0 0 none) me)
  comes n id me t waits lives s r wide at _ =
      let then = came history faults follows (step n 1 0 0 none) me in
      let x : ℕ = get_or s.words 1 0 in
      let f = r.fits id me.0 at lives in
      let has : HasTicket me.0.turn t = let P : Turn E → Type 0 = λ z. HasTicket z t in subst P (sym waits) refl in
      let mine : ticket_of me.0.turn ≡ t = ap ticket_of waits in
      dite (ℕ_discrete x (ticket_of me.0.turn))
      (λ hit. let is : r.serving ≡ t = sym (serving_at s r) ∙ hit ∙ mine in
      let has_now : HasTicket me.0.turn r.serving = subst (HasTicket me.0.turn) (sym is) has in
      let book = r.at_home (λ j u at_j is_served.
      let e = r.apart j id u me.0 r.serving at_j at (served_has s r j u at_j is_served) has_now in
      let same = at_one s.views id u me.0 (subst (λ (k : ℕ). get_elem? s.views k ≡ some u) e at_j) at in
      let P : Turn E → Type 0 = IsServed in subst P (ap (λ (z : View E). z.turn) same ∙ waits) is_served) in
      let b : B = book.0 in
      let first_seen : BeginsWith me.0.seen me.0.first = subst (λ (z : List (ℕ × E)). BeginsWith me.0.seen z) (sym f.began) f.from_first in (
        served me.0 x (history b) (faults b),
        takes 0 (Some b),
        ap (λ (hs : List (maybe.Option (Option B))). get_elem? hs 0) r.slot ∙ ap some book.1,
        with_turn history faults start follows about s r id me.0 (Served x (history b) (faults b)) r.ticket none (set s.words 1 x) (set s.homes 0 none) at lives
            (set-get_or s.words 1 0 ∙ r.words) (ap (λ (hs : List (maybe.Option (Option B))). set hs 0 none) r.slot) (omega arith)
            (let one : tickets me.0.turn ≡ 1 = ap tickets waits in ap (λ (k : ℕ). r.ticket + k) one)
            (let one : tickets me.0.turn ≡ 1 = ap tickets waits in omega (arith, f.few_turns))
            (serving_at s r, (let l = ticket_below r.log r.count r.ticket r.serving me.0.turn r.serving f.in_turn has_now in let e = serving_at s r in omega arith), book.2, book.3)
            (λ k has_k j u ne at_j other. let e : x ≡ k = has_k in ne (r.apart j id u me.0 k at_j at other (subst (HasTicket me.0.turn) (sym (serving_at s r) ∙ e) has_now)))
            (λ not_served. absurd (not_served id (served me.0 x (history b) (faults b)) (set_here s.views id _ (at_below s.views id me.0 at)) tt)),
        (
          (λ _. (
            b,
            refl,
            record {
              begins = subst (λ (z : List (ℕ × E)). BeginsWith z me.0.seen) (sym book.2) f.has_seen;
              no_less = subst (λ (z : ℕ). me.0.seen_faults ≤ z) (sym book.3) f.no_more;
              own = subst (λ (z : List (ℕ × E)). made_by me.0.number (past me.0.first z) ≡ me.0.made) (sym book.2)
                  (subst (λ (k : ℕ). made_by k (past me.0.first r.log) ≡ me.0.made) (sym f.numbered)
                  (made_in_first id me.0.first me.0.seen r.log first_seen f.has_seen f.none_past ∙ ap (λ (z : List (ℕ × E)). made_by id (past z me.0.seen)) f.began ∙ f.own));
              none_past = subst (λ (z : List (ℕ × E)). made_by me.0.number (past me.0.seen z) ≡ []) (sym book.2) (subst (λ (k : ℕ). made_by k (past me.0.seen r.log) ≡ []) (sym f.numbered) f.none_past);
            },
            subst (λ (z : Start). follows z b) (sym f.began_start) book.4,
          )),
          λ miss. absurd (miss hit),
        ),
      ))
      (λ miss. stays s r 1 id me then at ((λ hit. absurd (miss hit)), λ _. refl))

  pub raises : (n id : ℕ) (me : Me (Option B) (View E)) (t count : ℕ) (taken : List (ℕ × E)) (b : B) → me.0.turn ≡ Served t taken count → 0 < me.0.passes → me.1 ≡ (0, Some b) ∷ []
      → BeginsWith (history b) taken → made_by me.0.number (past taken (history b)) ≡ past taken (history b) → count ≤ faults b → follows me.0.start b
      → Allows (TakesTurns history faults start follows about) n id me 1 (λ x. (x + 1) % 2 ^ 64) (raised history faults follows (step n 1 1 0 none) me)
  raises n id me t count taken b turn lives holds_it grown own rose kept s r wide at _ =
      let f = r.fits id me.0 at lives in
      let stands = let P : Turn E → Type 0 = λ z. InTurn r.log r.count r.ticket r.serving z in subst P turn f.in_turn in
      let has : HasTicket me.0.turn r.serving = let P : Turn E → Type 0 = λ z. HasTicket z r.serving in subst P (sym turn) stands.0 in
      let took : taken_of me.0.turn ≡ r.log = ap taken_of turn ∙ stands.2 in
      let counted : taken_faults_of me.0.turn ≡ r.count = ap taken_faults_of turn ∙ stands.3 in
      let x : ℕ = get_or s.words 1 0 in
      let is : x ≡ r.serving = serving_at s r in
      let next : (x + 1) % 2 ^ 64 ≡ r.serving + 1 = let small : x + 1 < 2 ^ 64 = omega (arith, below s r, r.all_tickets_are) in mod-eq_of_lt small ∙ ap (λ (k : ℕ). k + 1) is in (
        given me.0 (history b) (faults b),
        gives,
        tt,
        with_give history faults start follows about s r id me.0 b (past (taken_of me.0.turn) (history b)) (length (taken_of me.0.turn)) (faults b - taken_faults_of me.0.turn) (set s.words 1 ((x + 1) % 2 ^ 64)) (put_back s.homes me.1) at lives has (ap tickets turn)
            ((λ i. set (r.words i) 1 (next i)))
            (ap (put_back s.homes) holds_it ∙ ap (λ (hs : List (maybe.Option (Option B))). set hs 0 (some (Some b))) r.slot)
            (subst (λ (z : List (ℕ × E)). BeginsWith (history b) z) stands.2 grown)
            (ap (λ (z : List (ℕ × E)). past z (history b)) took)
            (subst (λ (z : List (ℕ × E)). made_by id (past z (history b)) ≡ past z (history b)) (sym (ap taken_of turn)) (subst (λ (k : ℕ). made_by k (past taken (history b)) ≡ past taken (history b)) f.numbered own))
            (let same : count ≡ r.count = stands.3 in let c : taken_faults_of me.0.turn ≡ r.count = counted in omega arith)
            (subst (λ (z : Start). follows z b) f.began_start kept),
        (
          b,
          holds_it,
          (λ i. (given me.0 (history b) (faults b), rest (holds_it i))),
          (let grown_log : BeginsWith (history b) r.log = subst (λ (z : List (ℕ × E)). BeginsWith (history b) z) stands.2 grown in
              let first_seen : BeginsWith me.0.seen me.0.first = subst (λ (z : List (ℕ × E)). BeginsWith me.0.seen z) (sym f.began) f.from_first in
              let first_log : BeginsWith r.log me.0.first = begins_through me.0.first me.0.seen r.log first_seen f.has_seen in
              let mine : made_by me.0.number (past me.0.first r.log) ≡ me.0.made = subst (λ (k : ℕ). made_by k (past me.0.first r.log) ≡ me.0.made) (sym f.numbered)
              (made_in_first id me.0.first me.0.seen r.log first_seen f.has_seen f.none_past ∙ ap (λ (z : List (ℕ × E)). made_by id (past z me.0.seen)) f.began ∙ f.own) in
              made_through_two me.0.number me.0.first r.log (history b) first_log grown_log
              ∙ (λ i. mine i ++ subst (λ (z : List (ℕ × E)). made_by me.0.number (past z (history b)) ≡ past (taken_of me.0.turn) (history b)) stands.2 (own ∙ ap (λ (z : List (ℕ × E)). past z (history b)) (sym (ap taken_of turn))) i)),
        ),
      )

  -- the same, in the words of a hand
  pub gives_back : (n id : ℕ) (me : Me (Option B) (View E)) (b : B) → IsServed me.0.turn → 0 < me.0.passes → me.1 ≡ (0, Some b) ∷ []
      → BeginsWith (history b) (taken_of me.0.turn) → All (λ (e : ℕ × E). e.0 ≡ me.0.number) (past (taken_of me.0.turn) (history b)) → taken_faults_of me.0.turn ≤ faults b → follows me.0.start b
      → Allows (TakesTurns history faults start follows about) n id me 1 (λ x. (x + 1) % 2 ^ 64) (raised history faults follows (step n 1 1 0 none) me)
  gives_back n id me b is lives holds_it grown own rose kept = raises n id me (ticket_of me.0.turn) (taken_faults_of me.0.turn) (taken_of me.0.turn) b (served_parts me.0.turn is) lives holds_it grown
      (made_by_all me.0.number (past (taken_of me.0.turn) (history b)) own) rose kept

  -- the same, after the value b went into the slot that the seat with the view v holds
  pub hand_gives : (n id : ℕ) (me : Me (Option B) (View E)) (v : View E) (carried : List (ℕ × Option B)) (b held : B) (taken : List (ℕ × E)) (taken_faults number : ℕ) (noted : Start)
      → me ≡ (v, (0, Some b) ∷ rest carried) → carried ≡ (0, None) ∷ [] → IsServed v.turn → 0 < v.passes → taken_of v.turn ≡ taken → taken_faults_of v.turn ≡ taken_faults → v.number ≡ number → v.start ≡ noted → b ≡ held
      → BeginsWith (history held) taken → All (λ (e : ℕ × E). e.0 ≡ number) (past taken (history held)) → taken_faults ≤ faults held → follows noted held
      → Allows (TakesTurns history faults start follows about) n id me 1 (λ x. (x + 1) % 2 ^ 64) (raised history faults follows (step n 1 1 0 none) me)
  hand_gives n id me v carried b held taken taken_faults number noted now had is lives t tf k st same grown own rose kept =
      let P : Me (Option B) (View E) → Type 0 = λ m. Allows (TakesTurns history faults start follows about) n id m 1 (λ x. (x + 1) % 2 ^ 64) (raised history faults follows (step n 1 1 0 none) m) in
      let grown' : BeginsWith (history b) (taken_of v.turn) = subst (λ (x : B × List (ℕ × E)). BeginsWith (history x.0) x.1) (λ i. (sym same i, sym t i)) grown in
      let own' : All (λ (e : ℕ × E). e.0 ≡ v.number) (past (taken_of v.turn) (history b)) = subst (λ (x : B × List (ℕ × E) × ℕ). All (λ (e : ℕ × E). e.0 ≡ x.2) (past x.1 (history x.0))) (λ i. (sym same i, sym t i, sym k i)) own in
      let rose' : taken_faults_of v.turn ≤ faults b = subst (λ (x : B × ℕ). x.1 ≤ faults x.0) (λ i. (sym same i, sym tf i)) rose in
      let kept' : follows v.start b = subst (λ (x : B × Start). follows x.1 x.0) (λ i. (sym same i, sym st i)) kept in
      subst P (sym now) (gives_back n id (v, (0, Some b) ∷ rest carried) b is lives (λ i. (0, Some b) ∷ rest (had i)) grown' own' rose' kept')

  -- what becomes of a bell changes nothing else
  with_bells : (s : State (Option B) (View E)) (r : TakesTurns history faults start follows about s) (words' bells' : List ℕ) → words' ≡ r.ticket ∷ r.serving ∷ bells'
      → TakesTurns history faults start follows about record { words = words'; homes = s.homes; views = s.views }
  with_bells s r words' bells' are = record {
    log = r.log;
    count = r.count;
    ticket = r.ticket;
    serving = r.serving;
    bells = bells';
    home = r.home;
    words = are;
    slot = r.slot;
    fits = r.fits;
    joined_is_spent = r.joined_is_spent;
    zero_fits = r.zero_fits;
    all_passes_are = r.all_passes_are;
    few = r.few;
    apart = r.apart;
    all_turns_are = r.all_turns_are;
    all_tickets_are = r.all_tickets_are;
    latest = r.latest;
    later = r.later;
    at_home = r.at_home;
    none_unmade = r.none_unmade;
    all_faults_are = r.all_faults_are;
  }

  pub rings : (n id : ℕ) (me : Me (Option B) (View E)) (k j : ℕ) → k ≡ suc (suc j) → Allows (TakesTurns history faults start follows about) n id me k (λ x. (x + 1) % 2 ^ 64) (rang history faults follows (step n k 1 0 none) me)
  rings n id me k j is s r wide at _ =
      let y : ℕ = (get_or s.words k 0 + 1) % 2 ^ 64 in (
        me.0,
        keeps,
        tt,
        subst (λ (x : List (View E)). TakesTurns history faults start follows about record { words = set s.words k y; homes = s.homes; views = x }) (sym (set_again s.views id me.0 at))
            (with_bells s r (set s.words k y) (set r.bells j y) (ap (λ (i : ℕ). set s.words i y) is ∙ ap (λ (ws : List ℕ). set ws (suc (suc j)) y) r.words)),
        refl,
      )

  -- after a join
  pub checks : (n id : ℕ) (me : Me (Option B) (View E)) → me.0.number ≡ 0 → 0 < me.0.passes → Allows (TakesTurns history faults start follows about) n id me 0 (λ x. x) (checked history faults follows (step n 0 0 0 none) me)
  checks n id me is_zero lives s r wide at _ =
      let f = r.fits id me.0 at lives in
      let e : id ≡ 0 = sym f.numbered ∙ is_zero in
      let q = r.zero_fits me.0 (subst (λ (k : ℕ). get_elem? s.views k ≡ some me.0) e at) in
      stays s r 0 id me (checked history faults follows (step n 0 0 0 none) me) at (
        refl,
        keeps_last s.views me.0 me.0.joined q.saw_both q.counted_both q.are_spent (λ k u at_k none. (q.keeps_made k u at_k none).0),
        subst (λ (x : List (ℕ × E) × ℕ). made_by x.1 (past x.0 me.0.seen) ≡ me.0.made) (λ i. (sym f.began i, sym f.numbered i)) f.own,
      )
