-- The history of a ledger that was opened: the first records were kept and published, and then the others kept.
use Rattle.std.proofs.Common.{◌≡◌, ℕ, Bool, true, false, nat_lt, if◌then◌else◌, List, [], ◌∷◌, ◌++◌, length, map, take, drop, refl, sym, ap, ◌∙◌, append-nil, append_assoc}
use Rattle.std.proofs.lemmas.List.{map-append}
use Rattle.stock_model.specs.History.{records, accepted, covered, covered_after, settled}
use Rattle.stock_model.specs.declared.deeds.Deed.{Deed}
use Rattle.stock_model.specs.declared.deeds.Deed.TheVariants.{Kept, Published}
use Rattle.stock_model.specs.declared.records.Record.{Record}
use Rattle.stock_laws.proofs.Histories.{records-append}
use Rattle.kept_tables.specs.Openings.{opening}
use Rattle.repost_worker.specs.Openings.{opened_history}
use Rattle.repost_worker.specs.Published.{KeepsAlone}

-- none was
pub keeps-none : (old : List Deed) → KeepsAlone old old
keeps-none old = ([], sym (append-nil old))

-- one more was
pub keeps-more : (old mid new : List Deed) (item : Record) → KeepsAlone old mid → new ≡ mid ++ Kept item ∷ [] → KeepsAlone old new
keeps-more old mid new item keeps grows = (
  keeps.0 ++ item ∷ [],
  grows ∙ ap (λ (h : List Deed). h ++ Kept item ∷ []) keeps.1 ∙ append_assoc old (map Kept keeps.0) (Kept item ∷ [])
      ∙ ap (λ (more : List Deed). old ++ more) (sym (map-append Kept keeps.0 (item ∷ []))),
)

pub records-kept : (items : List Record) → records (map Kept items) ≡ items
records-kept [] = refl
records-kept (item ∷ items) = ap (λ (rest : List Record). item ∷ rest) (records-kept items)

pub covered-kept : (n : ℕ) (items : List Record) → covered_after n (map Kept items) ≡ n
covered-kept n [] = refl
covered-kept n (item ∷ items) = covered-kept n items

pub take-front : (front rest : List Record) → take (length front) (front ++ rest) ≡ front
take-front [] rest = refl
take-front (item ∷ front) rest = ap (λ (items : List Record). item ∷ items) (take-front front rest)

drop-front : (front rest : List Record) → drop (length front) (front ++ rest) ≡ rest
drop-front [] rest = refl
drop-front (item ∷ front) rest = drop-front front rest

abbrev publication : ℕ → List Deed
publication n = Published (record { 0 = n }) ∷ []

if-append : (history more : List Deed) (b : Bool) → (if b then history ++ more else history) ≡ history ++ (if b then more else [])
if-append history more true = refl
if-append history more false = sym (append-nil history)

-- records that were kept and then all published are opened so
settled-kept : (items : List Record) → settled (map Kept items) ≡ opening items (length items)
settled-kept items =
    let history : List Deed = map Kept items in
    let n : ℕ = length items in
    ap (λ (c : ℕ). if nat_lt c (accepted history) then history ++ publication (accepted history) else history) (covered-kept 0 items)
    ∙ ap (λ (a : ℕ). if nat_lt 0 a then history ++ publication a else history) (ap length (records-kept items))
    ∙ if-append history (publication n) (nat_lt 0 n)

-- the first records are kept, all of them are published, and others are kept
pub opened-order : (first mid settled_mid last : List Deed) → first ≡ [] → KeepsAlone first mid → settled_mid ≡ settled mid
    → records settled_mid ≡ records mid → covered settled_mid ≡ accepted mid → KeepsAlone settled_mid last
    → covered last ≡ covered settled_mid → last ≡ opened_history (records last) (covered last)
opened-order first mid settled_mid last none front settles same all rest covers =
    let start : mid ≡ map Kept front.0 = front.1 ∙ ap (λ (h : List Deed). h ++ map Kept front.0) none in
    let front_is : records mid ≡ front.0 = ap records start ∙ records-kept front.0 in
    let records_are : records last ≡ front.0 ++ rest.0 =
    ap records rest.1 ∙ records-append settled_mid (map Kept rest.0)
    ∙ ap (λ (items : List Record). items ++ records (map Kept rest.0)) (same ∙ front_is)
    ∙ ap (λ (items : List Record). front.0 ++ items) (records-kept rest.0) in
    let count : covered last ≡ length front.0 = covers ∙ all ∙ ap length front_is in
    let settled_is : settled_mid ≡ opening front.0 (length front.0) = settles ∙ ap settled start ∙ settled-kept front.0 in
    rest.1 ∙ ap (λ (h : List Deed). h ++ map Kept rest.0) settled_is
    ∙ ap (λ (items : List Record). opening items (length front.0) ++ map Kept rest.0) (sym (take-front front.0 rest.0))
    ∙ ap (λ (items : List Record). opening (take (length front.0) (front.0 ++ rest.0)) (length front.0) ++ map Kept items)
    (sym (drop-front front.0 rest.0))
    ∙ ap (λ (items : List Record). opened_history items (length front.0)) (sym records_are)
    ∙ ap (λ (n : ℕ). opened_history (records last) n) (sym count)
