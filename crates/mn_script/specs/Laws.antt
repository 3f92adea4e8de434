-- Laws of scripts and their texts.
use Rattle.std.specs.Prelude.{◌≡◌, ◌≤◌, ◌-◌, ℕ, List, ◌++◌, length, take, Ok, Err}
use Rattle.mn_script.specs.Words.{Text}
use Rattle.mn_script.specs.Script.{Script, IsScript}
use Rattle.mn_script.specs.declared.error.ScriptError.TheVariants.{Refused}
use Rattle.mn_script.specs.Reading.{empty_draft, lines_of, read_from, script_of}
use Rattle.mn_script.specs.Grammar.{script_text}

-- what a text spells meets the rules and limits of a script
abbrev pub ReadIsRight : Type 0
ReadIsRight = (text : Text) (script : Script) → script_of text ≡ Ok script → IsScript script

-- the written text of a script that meets the rules reads as that script, unless it is too long
abbrev pub WrittenIsRead : Type 0
WrittenIsRead =
    (script : Script) → IsScript script → length (script_text script) ≤ 4194304
    → script_of (script_text script) ≡ Ok script

-- these lines begin some script, of whatever length
abbrev pub BeginsScript : List Text → Type 0
BeginsScript lines =
    (more : List Text) × (script : Script)
    × (read_from empty_draft 0 (lines ++ more) ≡ Ok script)

-- where a text is refused at a line, the lines before it begin some script, and each text with the
-- same lines up to it is refused there
abbrev pub RefusalIsFirst : Type 0
RefusalIsFirst =
    (text : Text) (line column : ℕ) → script_of text ≡ Err (Refused line column) → 1 ≤ line
    → BeginsScript (take (line - 1) (lines_of text))
    × ((other : Text) → length other ≤ 4194304
    → take line (lines_of other) ≡ take line (lines_of text)
    → script_of other ≡ Err (Refused line column))
