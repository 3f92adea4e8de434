-- What the words of a command line ask for, by the parts that clap finds in them.
use Rattle.std.proofs.Common.{MatchOption, ◌≡◌, ◌≢◌, ◌≤◌, ◌<◌, ◌^◌, ◌∙◌, ℕ, List, [], ◌∷◌, ◌++◌, Option, None, Some, option_map, get_or, codes, decimal, false, ◌||◌, arith, sym, refl, ap, ap₂, subst}
use Rattle.std.specs.List.{list_any}
use Rattle.std.proofs.lemmas.Bool.{ne_eqb}
use Rattle.std.proofs.lemmas.List.Folds.{list_any-append}
use Rattle.mn_mini.proofs.Fits.{unsome}
use Rattle.mn_top.specs.CommandLine.{AllPlain, HasFolder, HasNumber, ReadsAs, Split, is_option}
use Rattle.mn_top.specs.Words.{Asked, Asks, MayBeFolder, MayHaveFolder, MayHaveNumber, Text, command_word, folder_words, number_words}
use Rattle.mn_top.specs.declared.words.Command.{Command}
use Rattle.mn_top.specs.declared.words.Command.TheVariants.{Replay, Run, Gen, Check}
use Rattle.mn_top.proofs.WordLemmas.{starts}

-- what is asked for, as parts

number_word : (n : Option ℕ) → number_words n ≡ folder_words (option_map decimal n)
number_word None = refl
number_word (Some n) = refl

has_number : (c : Command) (n : Option ℕ) → MayHaveNumber c n → HasNumber c (option_map decimal n)
has_number Gen None may = absurd may
has_number Gen (Some n) may = tt
has_number Replay None may = tt
has_number Replay (Some n) may = absurd may
has_number Run None may = tt
has_number Run (Some n) may = absurd may
has_number Check None may = tt
has_number Check (Some n) may = absurd may

has_folder : (c : Command) (f : Option Text) → MayHaveFolder c f → HasFolder c f
has_folder Replay f may = tt
has_folder Run f may = tt
has_folder Gen f may = tt
has_folder Check None may = absurd may
has_folder Check (Some f) may = tt

pub asks_split : (words : List Text) (asked : Asked) → Asks words asked → Split words asked.command (decimal asked.nodes) (option_map decimal asked.number) asked.folder
asks_split words asked asks = (
  asks.spelled ∙ ap (λ (l : List Text). command_word asked.command ∷ decimal asked.nodes ∷ (l ++ folder_words asked.folder)) (number_word asked.number),
  has_number asked.command asked.number asks.number,
  has_folder asked.command asked.folder asks.folder,
)

-- no word of it begins with a hyphen

plain_by_first : (word : Text) → get_or word 0 0 ≢ 45 → is_option word ≡ false
plain_by_first [] other = refl
plain_by_first (b ∷ bs) other = ne_eqb b 45 other

plain_number : (n : ℕ) → n < 2 ^ 64 → is_option (decimal n) ≡ false
plain_number n small = plain_by_first (decimal n) (λ e. omega (arith, starts n small, e))

plain_command : (c : Command) → is_option (command_word c) ≡ false
plain_command Replay = refl
plain_command Run = refl
plain_command Gen = refl
plain_command Check = refl

plain_numbers : (c : Command) (n : Option ℕ) → MayHaveNumber c n → list_any is_option (number_words n) ≡ false
plain_numbers c None may = refl
plain_numbers Gen (Some n) may = ap (λ b. b || false) (plain_number n may)
plain_numbers Replay (Some n) may = absurd may
plain_numbers Run (Some n) may = absurd may
plain_numbers Check (Some n) may = absurd may

-- a folder, where a command has one
may_be : (c : Command) (f : Option Text) → MayHaveFolder c f → MayBeFolder f
may_be Replay f may = may
may_be Run f may = may
may_be Gen f may = may
may_be Check None may = absurd may
may_be Check (Some f) may = may

plain_folder : (f : Option Text) → MayBeFolder f → list_any is_option (folder_words f) ≡ false
plain_folder None may = refl
plain_folder (Some []) may = absurd may
plain_folder (Some (b ∷ bs)) may = ap (λ x. x || false) (ne_eqb b 45 may)

below : (n : ℕ) → n ≤ 8 → n < 2 ^ 64
below n few = omega arith

pub asks_plain : (words : List Text) (asked : Asked) → Asks words asked → AllPlain words
asks_plain words asked asks = ap (list_any is_option) asks.spelled ∙ rw (
  plain_command asked.command,
  plain_number asked.nodes (below asked.nodes asks.few),
  list_any-append is_option (number_words asked.number) (folder_words asked.folder),
  plain_numbers asked.command asked.number asks.number,
  plain_folder asked.folder (may_be asked.command asked.folder asks.folder),
) refl

-- where words have no parts, they ask for nothing
pub no_parts : (words texts : List Text) → texts ≡ words → ((c : Command) (a : Text) (k f : Option Text) → AllPlain texts → Split texts c a k f → ⊥) → (asked : Asked) → Asks words asked → ⊥
no_parts words texts same none asked asks = none asked.command (decimal asked.nodes) (option_map decimal asked.number) asked.folder
    (subst AllPlain (sym same) (asks_plain words asked asks))
    (subst (λ (l : List Text). Split l asked.command (decimal asked.nodes) (option_map decimal asked.number) asked.folder) (sym same) (asks_split words asked asks))

-- what parts ask for

number_of : (c : Command) (k : Option Text) (n : Option ℕ) → HasNumber c k → ReadsAs k n → MayHaveNumber c n × (folder_words k ≡ number_words n)
number_of Gen None n h reads = absurd h
number_of Gen (Some w) None h reads = absurd reads
number_of Gen (Some w) (Some n) h reads = (reads.0, ap (λ (x : Text). x ∷ []) reads.1)
number_of Replay None None h reads = (tt, refl)
number_of Replay None (Some n) h reads = absurd reads
number_of Replay (Some w) n h reads = absurd h
number_of Run None None h reads = (tt, refl)
number_of Run None (Some n) h reads = absurd reads
number_of Run (Some w) n h reads = absurd h
number_of Check None None h reads = (tt, refl)
number_of Check None (Some n) h reads = absurd reads
number_of Check (Some w) n h reads = absurd h

folder_of : (c : Command) (f : Option Text) → HasFolder c f → MayBeFolder f → MayHaveFolder c f
folder_of Replay f h may = may
folder_of Run f h may = may
folder_of Gen f h may = may
folder_of Check None h may = absurd h
folder_of Check (Some f) h may = may

pub parts_ask : (words : List Text) (c : Command) (a : Text) (k f : Option Text) (n : ℕ) (number : Option ℕ) → Split words c a k f → a ≡ decimal n → 1 ≤ n → n ≤ 8 → ReadsAs k number → MayBeFolder f
    → (asked : Asked) × Asks words asked × ((c ≡ asked.command) × (n ≡ asked.nodes) × (number ≡ asked.number) × (f ≡ asked.folder))
parts_ask words c a k f n number split nodes some few reads may_folder =
    let is = number_of c k number split.1 reads in (
      record { command = c; nodes = n; number = number; folder = f },
      record {
        spelled = split.0 ∙ ap₂ (λ (x : Text) (l : List Text). command_word c ∷ x ∷ (l ++ folder_words f)) nodes is.1;
        some = some;
        few = few;
        number = is.0;
        folder = folder_of c f split.2 may_folder;
      },
      (refl, refl, refl, refl),
    )

-- where the number is none, they ask for nothing

no_made : (words : List Text) (a w b : Text) (more rest : List Text) → words ≡ codes "gen" ∷ a ∷ w ∷ more → (c : Command) (n : Option ℕ) → words ≡ command_word c ∷ b ∷ (number_words n ++ rest) → MayHaveNumber c n
    → ((number : Option ℕ) → ReadsAs (Some w) number → ⊥) → ⊥
no_made words a w b more rest is Replay n other may none = let e : 103 ≡ 114 = ap (λ (l : List Text). get_or (get_or l 0 []) 0 0) (sym is ∙ other) in absurd (omega (arith, e))
no_made words a w b more rest is Run n other may none = let e : 103 ≡ 114 = ap (λ (l : List Text). get_or (get_or l 0 []) 0 0) (sym is ∙ other) in absurd (omega (arith, e))
no_made words a w b more rest is Check n other may none = let e : 103 ≡ 99 = ap (λ (l : List Text). get_or (get_or l 0 []) 0 0) (sym is ∙ other) in absurd (omega (arith, e))
no_made words a w b more rest is Gen None other may none = may
no_made words a w b more rest is Gen (Some n) other may none = none (Some n) (may, ap (λ (l : List Text). get_or l 2 []) (sym is ∙ other))

pub no_number : (words : List Text) (c : Command) (a : Text) (k f : Option Text) → Split words c a k f → ((number : Option ℕ) → ReadsAs k number → ⊥) → (asked : Asked) → Asks words asked → ⊥
no_number words Gen a None f split none asked asks = split.1
no_number words Gen a (Some w) f split none asked asks = no_made words a w (decimal asked.nodes) (folder_words f) (folder_words asked.folder) split.0 asked.command asked.number asks.spelled asks.number none
no_number words Replay a None f split none asked asks = none None tt
no_number words Replay a (Some w) f split none asked asks = split.1
no_number words Run a None f split none asked asks = none None tt
no_number words Run a (Some w) f split none asked asks = split.1
no_number words Check a None f split none asked asks = none None tt
no_number words Check a (Some w) f split none asked asks = split.1

-- what an answer says where it is nothing, and where it is something

pub none_says : {X : Type 0} (P : Type 0) (Q : X → Type 0) (r : Option X) → r ≡ None → MatchOption r P Q → P
none_says P Q None e says = says
none_says P Q (Some x) e says = cc

pub some_says : {X : Type 0} (P : Type 0) (Q : X → Type 0) (r : Option X) (x : X) → r ≡ Some x → MatchOption r P Q → Q x
some_says P Q None x e says = cc
some_says P Q (Some y) x e says = subst Q (unsome y x e) says
