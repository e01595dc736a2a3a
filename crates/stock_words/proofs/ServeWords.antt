-- Words are the options of `serve` in one way at most.
use Rattle.std.proofs.Common.{◌≡◌, ◌≢◌, ◌↔◌, ℕ, List, [], ◌∷◌, ◌++◌, inl, inr, length, get_or, refl, sym, ap, ◌∙◌, subst, arith, codes, length-append}
use Rattle.std.proofs.lemmas.List.{append_cancel_left}
use Rattle.std.specs.Prelude.{Option, Some, None, MatchOption, ◌==◌, if◌then◌else◌}
use Rattle.stock_words.specs.ServeWords.{Setting, BeginsWithSetting, BeginsWithNone, IsNotFirst, SpellsSettings, Given, none_given, Gives, SpellsGiven, SpellsNotGiven, Service, Means, MeansNothing, TellsNumber, TellsConnections, TellsIdle, SpellsServe, SpellsNoService, given_of, service_of, option_text, value_of, with_value}
use Rattle.std.specs.Str.Parse.{digits_value}
use Rattle.stock_words.specs.declared.serve_words.Options.{Options}
use Rattle.stock_words.specs.declared.serve_words.ServeWords.{ServeWords}
use Rattle.stock_words.specs.declared.serve_words.Name.{Name}
use Rattle.stock_words.specs.declared.serve_words.Name.TheVariants.{File, Port, Desks, Connections, Idle}

-- the byte by which an option is known
abbrev initial : Name → ℕ
initial File = 102
initial Port = 112
initial Desks = 100
initial Connections = 99
initial Idle = 105

-- the option that is known by a byte
abbrev name_by : ℕ → Name
name_by byte =
    if byte == 102 then File else (if byte == 112 then Port else (if byte == 100 then Desks else (if byte == 99 then Connections else Idle)))

known_by : (name : Name) → name_by (initial name) ≡ name
known_by File = refl
known_by Port = refl
known_by Desks = refl
known_by Connections = refl
known_by Idle = refl

one_name : (a b : Name) → initial a ≡ initial b → a ≡ b
one_name a b same = sym (known_by a) ∙ ap name_by same ∙ known_by b

-- the first word, or none
abbrev first_word : List (List ℕ) → List ℕ
first_word [] = []
first_word (word ∷ words) = word

abbrev behind_first : List (List ℕ) → List (List ℕ)
behind_first [] = []
behind_first (word ∷ words) = words

bare : (name : Name) → get_or (option_text name) 2 0 ≡ initial name
bare File = refl
bare Port = refl
bare Desks = refl
bare Connections = refl
bare Idle = refl

behind_it : (name : Name) (more : List ℕ) → get_or (option_text name ++ more) 2 0 ≡ initial name
behind_it File more = refl
behind_it Port more = refl
behind_it Desks more = refl
behind_it Connections more = refl
behind_it Idle more = refl

known : (words : List (List ℕ)) (setting : Setting) (rest : List (List ℕ)) → BeginsWithSetting words setting rest
    → get_or (first_word words) 2 0 ≡ initial setting.0
known words (name, value) rest (inl two) = ap (λ (ws : List (List ℕ)). get_or (first_word ws) 2 0) two.0 ∙ bare name
known words (name, value) rest (inr one) =
    ap (λ (ws : List (List ℕ)). get_or (first_word ws) 2 0) one.0 ∙ behind_it name (codes "=" ++ value)

-- a word that names an option has no value in it
not-both : (name : Name) (value : List ℕ) → option_text name ≢ option_text name ++ (codes "=" ++ value)
not-both name value same =
    omega (arith, ap length same, length-append (option_text name) (codes "=" ++ value), length-append (codes "=") value)

abbrev second_word : List (List ℕ) → List ℕ
second_word words = first_word (behind_first words)

one_value : (words : List (List ℕ)) (name : Name) (a b : List ℕ) (rest rest' : List (List ℕ))
    → BeginsWithSetting words (name, a) rest → BeginsWithSetting words (name, b) rest' → (a ≡ b) × (rest ≡ rest')
one_value words name a b rest rest' (inl two) (inl other) =
    let same = sym two.0 ∙ other.0 in
    (ap second_word same, ap (λ (ws : List (List ℕ)). behind_first (behind_first ws)) same)
one_value words name a b rest rest' (inl two) (inr other) = absurd (not-both name b (ap first_word (sym two.0 ∙ other.0)))
one_value words name a b rest rest' (inr one) (inl other) = absurd (not-both name a (ap first_word (sym other.0 ∙ one.0)))
one_value words name a b rest rest' (inr one) (inr other) =
    let same = sym one.0 ∙ other.0 in (
      append_cancel_left (codes "=") a b
          (append_cancel_left (option_text name) (codes "=" ++ a) (codes "=" ++ b) (ap first_word same)),
      ap behind_first same,
    )

pub one_setting : (words : List (List ℕ)) (a b : Setting) (rest rest' : List (List ℕ))
    → BeginsWithSetting words a rest → BeginsWithSetting words b rest' → (a ≡ b) × (rest ≡ rest')
one_setting words (name, a) (other, b) rest rest' first second =
    let names : name ≡ other = one_name name other (sym (known words (name, a) rest first) ∙ known words (other, b) rest' second) in
    let values = one_value words name a b rest rest' first
    (subst (λ (n : Name). BeginsWithSetting words (n, b) rest') (sym names) second) in
    ((λ i. (names i, values.0 i)), values.1)

no_option : (setting : Setting) (rest : List (List ℕ)) → BeginsWithSetting [] setting rest → ⊥
no_option setting rest (inl two) = cc
no_option setting rest (inr one) = cc

-- the options that words are
pub one_spelling : (words : List (List ℕ)) (xs ys : List Setting) → SpellsSettings words xs → SpellsSettings words ys → xs ≡ ys
one_spelling words [] [] first second = refl
one_spelling words [] (y ∷ ys) first (rest, begins, more) =
    absurd (no_option y rest (subst (λ (ws : List (List ℕ)). BeginsWithSetting ws y rest) first begins))
one_spelling words (x ∷ xs) [] (rest, begins, more) second =
    absurd (no_option x rest (subst (λ (ws : List (List ℕ)). BeginsWithSetting ws x rest) second begins))
one_spelling words (x ∷ xs) (y ∷ ys) (rest, begins, more) (rest', begins', more') =
    let same = one_setting words x y rest rest' begins begins' in
    let others = one_spelling rest xs ys more (subst (λ (ws : List (List ℕ)). SpellsSettings ws ys) (sym same.1) more') in
    λ i. same.0 i ∷ others i

-- a word that begins with none of the five is no option
pub none_of_five : (words : List (List ℕ)) → IsNotFirst words File → IsNotFirst words Port → IsNotFirst words Desks
    → IsNotFirst words Connections → IsNotFirst words Idle → BeginsWithNone words
none_of_five words file port desks connections idle (File, value) rest begins = file value rest begins
none_of_five words file port desks connections idle (Port, value) rest begins = port value rest begins
none_of_five words file port desks connections idle (Desks, value) rest begins = desks value rest begins
none_of_five words file port desks connections idle (Connections, value) rest begins = connections value rest begins
none_of_five words file port desks connections idle (Idle, value) rest begins = idle value rest begins

-- words that don't begin with an option are none
pub none_first : (words : List (List ℕ)) (before : Given) → words ≢ [] → BeginsWithNone words → SpellsNotGiven words before
none_first words before some none after ([], spelled, gives) = some spelled
none_first words before some none after (setting ∷ settings, (rest, begins, more), gives) = none setting rest begins

-- nor are words that begin with an option that was given before
pub given_twice : (words : List (List ℕ)) (before : Given) (first : Setting) (behind : List (List ℕ)) → BeginsWithSetting words first behind
    → value_of first.0 before ≢ None → SpellsNotGiven words before
given_twice words before first behind is twice after ([], spelled, gives) =
    no_option first behind (subst (λ (ws : List (List ℕ)). BeginsWithSetting ws first behind) spelled is)
given_twice words before first behind is twice after (setting ∷ settings, (rest, begins, more), gives) =
    let same = one_setting words first setting behind rest is begins in
    twice (ap (λ (x : Setting). value_of x.0 before) same.0 ∙ gives.0)

-- words that begin with another one are what they are behind it
pub goes_on : (words : List (List ℕ)) (before after : Given) (first : Setting) (behind : List (List ℕ)) → BeginsWithSetting words first behind
    → value_of first.0 before ≡ None → SpellsGiven behind (with_value first before) after → SpellsGiven words before after
goes_on words before after first behind is new (settings, spelled, gives) =
    (first ∷ settings, (behind, is, spelled), (new, gives))

pub none_behind : (words : List (List ℕ)) (before : Given) (first : Setting) (behind : List (List ℕ)) → BeginsWithSetting words first behind
    → SpellsNotGiven behind (with_value first before) → SpellsNotGiven words before
none_behind words before first behind is none after ([], spelled, gives) =
    no_option first behind (subst (λ (ws : List (List ℕ)). BeginsWithSetting ws first behind) spelled is)
none_behind words before first behind is none after (setting ∷ settings, (rest, begins, more), gives) =
    let same = one_setting words first setting behind rest is begins in
    none after (
      settings,
      subst (λ (ws : List (List ℕ)). SpellsSettings ws settings) (sym same.1) more,
      subst (λ (x : Setting). Gives settings (with_value x before) after) (sym same.0) gives.1,
    )

-- so what words that begin with a new one give is what those behind it give
pub with_first : (words : List (List ℕ)) (before more : Given) (first : Setting) (behind : List (List ℕ)) (found : Option Options)
    → BeginsWithSetting words first behind → value_of first.0 before ≡ None → more ≡ with_value first before
    → MatchOption found (SpellsNotGiven behind more) (λ all. SpellsGiven behind more (given_of all))
    → MatchOption found (SpellsNotGiven words before) (λ all. SpellsGiven words before (given_of all))
with_first words before more first behind None is new same none =
    none_behind words before first behind is (subst (SpellsNotGiven behind) same none)
with_first words before more first behind (Some all) is new same spelled =
    goes_on words before (given_of all) first behind is new (subst (λ (given : Given). SpellsGiven behind given (given_of all)) same spelled)

-- options give one lot of values
one_gift : (settings : List Setting) (before a b : Given) → Gives settings before a → Gives settings before b → a ≡ b
one_gift [] before a b first second = first ∙ sym second
one_gift (setting ∷ settings) before a b first second = one_gift settings (with_value setting before) a b first.1 second.1

pub one_given : (words : List (List ℕ)) (before a b : Given) → SpellsGiven words before a → SpellsGiven words before b → a ≡ b
one_given words before a b (xs, first, gives) (ys, second, gives') =
    one_gift ys before a b (subst (λ (settings : List Setting). Gives settings before a) (one_spelling words xs ys first second) gives) gives'

same_some : (a b : List ℕ) → Some a ≡ Some b → a ≡ b
same_some a b same = cc

one_number : (most : ℕ) (value : Option (List ℕ)) (m n : ℕ) → TellsNumber most value m → TellsNumber most value n → m ≡ n
one_number most None m n first second = absurd first
one_number most (Some word) m n first second = sym first.told ∙ second.told

one_count : (value : Option (List ℕ)) (desks m n : ℕ) → TellsConnections value desks m → TellsConnections value desks n → m ≡ n
one_count None desks m n first second = first ∙ sym second
one_count (Some word) desks m n first second = sym first.0.told ∙ second.0.told

one_limit : (value : Option (List ℕ)) (a b : Option ℕ) → TellsIdle value a → TellsIdle value b → a ≡ b
one_limit None None None first second = refl
one_limit None None (Some n) first second = absurd second
one_limit None (Some m) b first second = absurd first
one_limit (Some word) None b first second = absurd first
one_limit (Some word) (Some m) None first second = absurd second
one_limit (Some word) (Some m) (Some n) first second = ap Some (sym first.told ∙ second.told)

-- and they mean one service
one_meaning : (given : Given) (a b : Service) → Means given a → Means given b → a ≡ b
one_meaning given a b first second =
    let path = same_some a.path b.path (sym first.path ∙ second.path) in
    let port = one_number _ given.port a.port b.port first.port second.port in
    let desks = one_number _ given.desks a.desks b.desks first.desks second.desks in
    let connections = one_count given.connections b.desks a.connections b.connections
    (subst (λ (n : ℕ). TellsConnections given.connections n a.connections) desks first.connections) second.connections in
    let idle = one_limit given.idle a.idle b.idle first.idle second.idle in
    λ i. record { path = path i; port = port i; desks = desks i; connections = connections i; idle = idle i }

pub one_service : (words : List (List ℕ)) (a b : Service) → SpellsServe words a → SpellsServe words b → a ≡ b
one_service words a b one other =
    let options : one.options ≡ other.options = ap behind_first (sym one.command ∙ other.command) in
    let given = one_given other.options none_given one.given other.given
    (subst (λ (ws : List (List ℕ)). SpellsGiven ws none_given one.given) options one.spelled) other.spelled in
    one_meaning other.given a b (subst (λ (values : Given). Means values a) given one.means) other.means

-- words behind `serve` that are no options are none of a service
pub no_service : (options : List (List ℕ)) → SpellsNotGiven options none_given → SpellsNoService (codes "serve" ∷ options)
no_service options none service serve =
    let same : options ≡ serve.options = ap behind_first serve.command in
    none serve.given (subst (λ (ws : List (List ℕ)). SpellsGiven ws none_given serve.given) (sym same) serve.spelled)

-- what the options of the words mean is what the words ask for
pub service : (options : List (List ℕ)) (given : Given) (asked : Option ServeWords) → SpellsGiven options none_given given
    → MatchOption asked (MeansNothing given) (λ found. Means given (service_of found))
    → MatchOption asked (SpellsNoService (codes "serve" ∷ options)) (λ found. SpellsServe (codes "serve" ∷ options) (service_of found))
service options given None spelled nothing = λ asked serve.
    let same : options ≡ serve.options = ap behind_first serve.command in
    let one = one_given options none_given serve.given given
    (subst (λ (ws : List (List ℕ)). SpellsGiven ws none_given serve.given) (sym same) serve.spelled) spelled in
    nothing asked (subst (λ (values : Given). Means values asked) one serve.means)
service options given (Some found) spelled means =
    record { options = options; given = given; command = refl; spelled = spelled; means = means }
