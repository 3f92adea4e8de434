-- The program's command line as clap reads it: its subcommands, their positionals, and the words
-- that they take.
use Rattle.std.specs.Prelude.{◌≡◌, ◌<◌, ◌^◌, ◌==◌, ℕ, Bool, codes, decimal, true, false, ⊤, List}
use Rattle.std.specs.Prelude.{[], ◌∷◌, ◌++◌, Option, Some, None}
use Rattle.std.specs.List.{list_any}
use Rattle.clap.specs.Words.{App, Rule, new_app, new_rule, with_rule, with_subcommand}
use Rattle.mn_top.specs.Words.{Text, command_word, folder_words}
use Rattle.mn_top.specs.declared.words.Command.{Command}
use Rattle.mn_top.specs.declared.words.Command.TheVariants.{Gen, Check}

-- the positionals
abbrev pub nodes : Rule
nodes = record (new_rule (codes "nodes")) { required = true }

abbrev pub number : Rule
number = record (new_rule (codes "number")) { required = true }

abbrev pub folder : Rule
folder = new_rule (codes "folder")

abbrev pub needed_folder : Rule
needed_folder = record (new_rule (codes "folder")) { required = true }

-- a subcommand that takes nodes, and perhaps a folder
abbrev pub plays : Text → App
plays name = with_rule (with_rule (new_app name) nodes) folder

-- one that takes nodes and a number, and perhaps a folder
abbrev pub makes : Text → App
makes name = with_rule (with_rule (with_rule (new_app name) nodes) number) folder

-- one that takes nodes and a folder
abbrev pub checks : Text → App
checks name = with_rule (with_rule (new_app name) nodes) needed_folder

abbrev pub bare : App
bare =
    record (new_app (codes "minuet")) {
      top = record (new_app (codes "minuet")).top
          { no_binary_name = true; disable_help_flag = true; disable_help_subcommand = true };
    }

abbrev pub minuet : App
minuet =
    with_subcommand (with_subcommand
    (with_subcommand (with_subcommand bare (plays (codes "replay")).top) (plays (codes "run")).top)
    (makes (codes "gen")).top) (checks (codes "check")).top

-- of the commands, gen alone has a number
abbrev pub HasNumber : Command → Option Text → Type 0
HasNumber Gen None = ⊥
HasNumber Gen (Some n) = ⊤
HasNumber _ None = ⊤
HasNumber _ (Some n) = ⊥

-- and check isn't without a folder
abbrev pub HasFolder : Command → Option Text → Type 0
HasFolder Check None = ⊥
HasFolder _ _ = ⊤

-- the words are those of a subcommand and of its positionals
abbrev pub Split : List Text → Command → Text → Option Text → Option Text → Type 0
Split words command nodes number folder =
    (words ≡ command_word command ∷ nodes ∷ (folder_words number ++ folder_words folder))
    × HasNumber command number × HasFolder command folder

-- a word that begins with a hyphen
abbrev pub is_option : Text → Bool
is_option [] = false
is_option (b ∷ bs) = b == 45

abbrev pub AllPlain : List Text → Type 0
AllPlain words = list_any is_option words ≡ false

-- the number of 64 bits that a word spells, where a word stands
abbrev pub ReadsAs : Option Text → Option ℕ → Type 0
ReadsAs None None = ⊤
ReadsAs (Some word) (Some n) = (n < 2 ^ 64) × (word ≡ decimal n)
ReadsAs _ _ = ⊥
