-- What clap makes of words that begin with no hyphen, for each number of words that a command may
-- have.
use Rattle.std.proofs.Common.{ap, ap₂, sym, refl, codes, false, List, ℕ, Some, None, [], ◌∷◌, ◌≡◌, ◌∙◌, ◌==◌, bytes_eq, ◌++◌, append_assoc, append-nil, fold, is_some}
use Rattle.clap.specs.Words.{App, Row, Rule, Text, first_of, subcommand_of}
use Rattle.clap.specs.Walk.{Held, Walk, Names, idle, settled, rows_after, walked, walk, nothing_held, to_positional, arg_by_index, value, finished}
use Rattle.clap.specs.Lexer.{long_of, short_of}
use Rattle.clap.specs.Simple.{Shape, built_leaf, inherited, built, entered, names_of}
use Rattle.clap.specs.Kinds.{Kinds, or_else}
use Rattle.clap.specs.Faults.{fault_of, turn_fault, walk_fault, step_fault, settle_fault, defaults_fault, check_fault, level_fault, entered_fault}
use Rattle.clap.specs.declared.error.ErrorKind.{ErrorKind}
use Rattle.clap.specs.declared.error.ErrorKind.TheVariants as kind
use Rattle.clap.specs.Takes.{turn_passes, step_passes}
use Rattle.mn_top.specs.CommandLine.{checks, makes, minuet, plays}
use Rattle.mn_top.specs.Words.{command_word}
use Rattle.mn_top.specs.declared.words.Command.{Command}
use Rattle.mn_top.specs.declared.words.Command.TheVariants.{Replay, Run, Gen, Check}

-- a word that begins with no hyphen
pub record IsPlain (word : Text) : Type 0 where
  pub no_long : long_of word ≡ None
  pub no_short : short_of word ≡ None
  pub no_end : bytes_eq word (45 ∷ 45 ∷ []) ≡ false

abbrev at : Held → ℕ → Walk
at h i = record { held = h; waiting = idle; position = i; is_trailing = false; stopped = None }

walked_plain : (c : List Rule) (h : Held) (i : ℕ) (word : Text) → IsPlain word → walked c [] (at h i) word ≡ to_positional c (arg_by_index c i) word (at h i) h
unfolding walked
walked_plain c h i word p = rw (p.no_end, p.no_long, p.no_short) refl

turn_plain : (s : Shape) (h : Held) (i : ℕ) (word : Text) → IsPlain word → turn_passes s [] (at h i) word ≡ step_passes s i h value
unfolding walked
turn_plain s h i word p = rw (p.no_end, p.no_long, p.no_short) refl

pub plain : (b : ℕ) (bs : Text) → (b == 45) ≡ false → IsPlain (b ∷ bs)
plain b bs e = record { no_long = rw e refl; no_short = rw e refl; no_end = rw e refl }

-- what fails

turn_refuses : (s : Shape) (h : Held) (i : ℕ) (word : Text) → IsPlain word → turn_fault s [] (at h i) word ≡ step_fault s i h value
unfolding walked
turn_refuses s h i word p = rw (p.no_end, p.no_long, p.no_short) refl

abbrev pub leaf : App → Shape
leaf app = built_leaf (inherited minuet.top app.top)

abbrev ends : Shape → Walk → Kinds
ends s w = or_else (settle_fault s.rules s.args_override_self w.held) (or_else (defaults_fault (settled s.rules w.held).rows s.rules) (check_fault s (finished s.rules w.held) false))

abbrev by_leaf : Shape → Walk → Kinds → Kinds
by_leaf s w k = or_else k (or_else [] (ends s w))

abbrev pub leaf_fault : Shape → List Text → Kinds
leaf_fault s words = level_fault s [] nothing_held words false []

abbrev pub missing : Kinds
missing = kind.MissingRequiredArgument ∷ []

abbrev pub unknown : Kinds
unknown = kind.UnknownArgument ∷ []

-- A subcommand with nodes, and perhaps a folder

abbrev play_at1 : Text → Text → Walk
play_at1 n a = to_positional (leaf (plays n)).rules (arg_by_index (leaf (plays n)).rules 1) a (at nothing_held 1) (at nothing_held 1).held

play_step1 : (n a : Text) → IsPlain a → walked (leaf (plays n)).rules [] (at nothing_held 1) a ≡ play_at1 n a
play_step1 n a p = walked_plain (leaf (plays n)).rules (at nothing_held 1).held 1 a p

abbrev play_at2 : Text → Text → Text → Walk
play_at2 n a b = to_positional (leaf (plays n)).rules (arg_by_index (leaf (plays n)).rules 2) b (play_at1 n a) (play_at1 n a).held

play_step2 : (n a b : Text) → IsPlain b → walked (leaf (plays n)).rules [] (play_at1 n a) b ≡ play_at2 n a b
play_step2 n a b p = walked_plain (leaf (plays n)).rules (play_at1 n a).held 2 b p

play_end0 : (n : Text) → ends (leaf (plays n)) (at nothing_held 1) ≡ missing
unfolding defaults_fault
play_end0 n = refl

pub play_fault0 : (n : Text) → leaf_fault (leaf (plays n)) [] ≡ missing
unfolding walk_fault
play_fault0 n = play_end0 n

play_walk1 : (n a : Text) → IsPlain a → walk (leaf (plays n)).rules [] nothing_held (a ∷ []) ≡ play_at1 n a
play_walk1 n a pa = rw (play_step1 n a pa) refl

play_none1 : (n a : Text) → IsPlain a → walk_fault (leaf (plays n)) [] (at nothing_held 1) (a ∷ []) ≡ []
unfolding walk_fault
play_none1 n a pa = rw (turn_refuses (leaf (plays n)) (at nothing_held 1).held 1 a pa) refl

play_end1 : (n a : Text) → ends (leaf (plays n)) (play_at1 n a) ≡ []
unfolding defaults_fault
play_end1 n a = refl

pub play_fault1 : (n a : Text) → IsPlain a → leaf_fault (leaf (plays n)) (a ∷ []) ≡ []
play_fault1 n a pa = ap₂ (by_leaf (leaf (plays n))) (play_walk1 n a pa) (play_none1 n a pa) ∙ play_end1 n a

pub play_nodes1 : (n a : Text) → IsPlain a → first_of (codes "nodes") (rows_after (leaf (plays n)).rules [] (a ∷ [])) ≡ Some a
play_nodes1 n a pa = ap (λ (w : Walk). first_of (codes "nodes") (finished (leaf (plays n)).rules w.held)) (play_walk1 n a pa)

pub play_number1 : (n a : Text) → IsPlain a → first_of (codes "number") (rows_after (leaf (plays n)).rules [] (a ∷ [])) ≡ None
play_number1 n a pa = ap (λ (w : Walk). first_of (codes "number") (finished (leaf (plays n)).rules w.held)) (play_walk1 n a pa)

pub play_folder1 : (n a : Text) → IsPlain a → first_of (codes "folder") (rows_after (leaf (plays n)).rules [] (a ∷ [])) ≡ None
play_folder1 n a pa = ap (λ (w : Walk). first_of (codes "folder") (finished (leaf (plays n)).rules w.held)) (play_walk1 n a pa)

play_walk2 : (n a b : Text) → IsPlain a → IsPlain b → walk (leaf (plays n)).rules [] nothing_held (a ∷ b ∷ []) ≡ play_at2 n a b
play_walk2 n a b pa pb = rw (play_step1 n a pa, play_step2 n a b pb) refl

play_none2 : (n a b : Text) → IsPlain a → IsPlain b → walk_fault (leaf (plays n)) [] (at nothing_held 1) (a ∷ b ∷ []) ≡ []
unfolding walk_fault
play_none2 n a b pa pb = rw (turn_refuses (leaf (plays n)) (at nothing_held 1).held 1 a pa, play_step1 n a pa, turn_refuses (leaf (plays n)) (play_at1 n a).held 2 b pb) refl

play_end2 : (n a b : Text) → ends (leaf (plays n)) (play_at2 n a b) ≡ []
unfolding defaults_fault
play_end2 n a b = refl

pub play_fault2 : (n a b : Text) → IsPlain a → IsPlain b → leaf_fault (leaf (plays n)) (a ∷ b ∷ []) ≡ []
play_fault2 n a b pa pb = ap₂ (by_leaf (leaf (plays n))) (play_walk2 n a b pa pb) (play_none2 n a b pa pb) ∙ play_end2 n a b

pub play_nodes2 : (n a b : Text) → IsPlain a → IsPlain b → first_of (codes "nodes") (rows_after (leaf (plays n)).rules [] (a ∷ b ∷ [])) ≡ Some a
play_nodes2 n a b pa pb = ap (λ (w : Walk). first_of (codes "nodes") (finished (leaf (plays n)).rules w.held)) (play_walk2 n a b pa pb)

pub play_number2 : (n a b : Text) → IsPlain a → IsPlain b → first_of (codes "number") (rows_after (leaf (plays n)).rules [] (a ∷ b ∷ [])) ≡ None
play_number2 n a b pa pb = ap (λ (w : Walk). first_of (codes "number") (finished (leaf (plays n)).rules w.held)) (play_walk2 n a b pa pb)

pub play_folder2 : (n a b : Text) → IsPlain a → IsPlain b → first_of (codes "folder") (rows_after (leaf (plays n)).rules [] (a ∷ b ∷ [])) ≡ Some b
play_folder2 n a b pa pb = ap (λ (w : Walk). first_of (codes "folder") (finished (leaf (plays n)).rules w.held)) (play_walk2 n a b pa pb)

play_many : (n a b c : Text) (more : List Text) → IsPlain a → IsPlain b → IsPlain c → walk_fault (leaf (plays n)) [] (at nothing_held 1) (a ∷ b ∷ c ∷ more) ≡ unknown
unfolding walk_fault
play_many n a b c more pa pb pc = rw (turn_refuses (leaf (plays n)) (at nothing_held 1).held 1 a pa, play_step1 n a pa, turn_refuses (leaf (plays n)) (play_at1 n a).held 2 b pb, play_step2 n a b pb, turn_refuses (leaf (plays n)) (play_at2 n a b).held 3 c pc) refl

pub play_fault3 : (n a b c : Text) (more : List Text) → IsPlain a → IsPlain b → IsPlain c → leaf_fault (leaf (plays n)) (a ∷ b ∷ c ∷ more) ≡ unknown
play_fault3 n a b c more pa pb pc = ap (by_leaf (leaf (plays n)) (walk (leaf (plays n)).rules [] nothing_held (a ∷ b ∷ c ∷ more))) (play_many n a b c more pa pb pc)

-- One with nodes and a number, and perhaps a folder

abbrev make_at1 : Text → Text → Walk
make_at1 n a = to_positional (leaf (makes n)).rules (arg_by_index (leaf (makes n)).rules 1) a (at nothing_held 1) (at nothing_held 1).held

make_step1 : (n a : Text) → IsPlain a → walked (leaf (makes n)).rules [] (at nothing_held 1) a ≡ make_at1 n a
make_step1 n a p = walked_plain (leaf (makes n)).rules (at nothing_held 1).held 1 a p

abbrev make_at2 : Text → Text → Text → Walk
make_at2 n a b = to_positional (leaf (makes n)).rules (arg_by_index (leaf (makes n)).rules 2) b (make_at1 n a) (make_at1 n a).held

make_step2 : (n a b : Text) → IsPlain b → walked (leaf (makes n)).rules [] (make_at1 n a) b ≡ make_at2 n a b
make_step2 n a b p = walked_plain (leaf (makes n)).rules (make_at1 n a).held 2 b p

abbrev make_at3 : Text → Text → Text → Text → Walk
make_at3 n a b c = to_positional (leaf (makes n)).rules (arg_by_index (leaf (makes n)).rules 3) c (make_at2 n a b) (make_at2 n a b).held

make_step3 : (n a b c : Text) → IsPlain c → walked (leaf (makes n)).rules [] (make_at2 n a b) c ≡ make_at3 n a b c
make_step3 n a b c p = walked_plain (leaf (makes n)).rules (make_at2 n a b).held 3 c p

make_end0 : (n : Text) → ends (leaf (makes n)) (at nothing_held 1) ≡ missing
unfolding defaults_fault
make_end0 n = refl

pub make_fault0 : (n : Text) → leaf_fault (leaf (makes n)) [] ≡ missing
unfolding walk_fault
make_fault0 n = make_end0 n

make_walk1 : (n a : Text) → IsPlain a → walk (leaf (makes n)).rules [] nothing_held (a ∷ []) ≡ make_at1 n a
make_walk1 n a pa = rw (make_step1 n a pa) refl

make_none1 : (n a : Text) → IsPlain a → walk_fault (leaf (makes n)) [] (at nothing_held 1) (a ∷ []) ≡ []
unfolding walk_fault
make_none1 n a pa = rw (turn_refuses (leaf (makes n)) (at nothing_held 1).held 1 a pa) refl

make_end1 : (n a : Text) → ends (leaf (makes n)) (make_at1 n a) ≡ missing
unfolding defaults_fault
make_end1 n a = refl

pub make_fault1 : (n a : Text) → IsPlain a → leaf_fault (leaf (makes n)) (a ∷ []) ≡ missing
make_fault1 n a pa = ap₂ (by_leaf (leaf (makes n))) (make_walk1 n a pa) (make_none1 n a pa) ∙ make_end1 n a

make_walk2 : (n a b : Text) → IsPlain a → IsPlain b → walk (leaf (makes n)).rules [] nothing_held (a ∷ b ∷ []) ≡ make_at2 n a b
make_walk2 n a b pa pb = rw (make_step1 n a pa, make_step2 n a b pb) refl

make_none2 : (n a b : Text) → IsPlain a → IsPlain b → walk_fault (leaf (makes n)) [] (at nothing_held 1) (a ∷ b ∷ []) ≡ []
unfolding walk_fault
make_none2 n a b pa pb = rw (turn_refuses (leaf (makes n)) (at nothing_held 1).held 1 a pa, make_step1 n a pa, turn_refuses (leaf (makes n)) (make_at1 n a).held 2 b pb) refl

make_end2 : (n a b : Text) → ends (leaf (makes n)) (make_at2 n a b) ≡ []
unfolding defaults_fault
make_end2 n a b = refl

pub make_fault2 : (n a b : Text) → IsPlain a → IsPlain b → leaf_fault (leaf (makes n)) (a ∷ b ∷ []) ≡ []
make_fault2 n a b pa pb = ap₂ (by_leaf (leaf (makes n))) (make_walk2 n a b pa pb) (make_none2 n a b pa pb) ∙ make_end2 n a b

pub make_nodes2 : (n a b : Text) → IsPlain a → IsPlain b → first_of (codes "nodes") (rows_after (leaf (makes n)).rules [] (a ∷ b ∷ [])) ≡ Some a
make_nodes2 n a b pa pb = ap (λ (w : Walk). first_of (codes "nodes") (finished (leaf (makes n)).rules w.held)) (make_walk2 n a b pa pb)

pub make_number2 : (n a b : Text) → IsPlain a → IsPlain b → first_of (codes "number") (rows_after (leaf (makes n)).rules [] (a ∷ b ∷ [])) ≡ Some b
make_number2 n a b pa pb = ap (λ (w : Walk). first_of (codes "number") (finished (leaf (makes n)).rules w.held)) (make_walk2 n a b pa pb)

pub make_folder2 : (n a b : Text) → IsPlain a → IsPlain b → first_of (codes "folder") (rows_after (leaf (makes n)).rules [] (a ∷ b ∷ [])) ≡ None
make_folder2 n a b pa pb = ap (λ (w : Walk). first_of (codes "folder") (finished (leaf (makes n)).rules w.held)) (make_walk2 n a b pa pb)

make_walk3 : (n a b c : Text) → IsPlain a → IsPlain b → IsPlain c → walk (leaf (makes n)).rules [] nothing_held (a ∷ b ∷ c ∷ []) ≡ make_at3 n a b c
make_walk3 n a b c pa pb pc = rw (make_step1 n a pa, make_step2 n a b pb, make_step3 n a b c pc) refl

make_none3 : (n a b c : Text) → IsPlain a → IsPlain b → IsPlain c → walk_fault (leaf (makes n)) [] (at nothing_held 1) (a ∷ b ∷ c ∷ []) ≡ []
unfolding walk_fault
make_none3 n a b c pa pb pc = rw (turn_refuses (leaf (makes n)) (at nothing_held 1).held 1 a pa, make_step1 n a pa, turn_refuses (leaf (makes n)) (make_at1 n a).held 2 b pb, make_step2 n a b pb, turn_refuses (leaf (makes n)) (make_at2 n a b).held 3 c pc) refl

make_end3 : (n a b c : Text) → ends (leaf (makes n)) (make_at3 n a b c) ≡ []
unfolding defaults_fault
make_end3 n a b c = refl

pub make_fault3 : (n a b c : Text) → IsPlain a → IsPlain b → IsPlain c → leaf_fault (leaf (makes n)) (a ∷ b ∷ c ∷ []) ≡ []
make_fault3 n a b c pa pb pc = ap₂ (by_leaf (leaf (makes n))) (make_walk3 n a b c pa pb pc) (make_none3 n a b c pa pb pc) ∙ make_end3 n a b c

pub make_nodes3 : (n a b c : Text) → IsPlain a → IsPlain b → IsPlain c → first_of (codes "nodes") (rows_after (leaf (makes n)).rules [] (a ∷ b ∷ c ∷ [])) ≡ Some a
make_nodes3 n a b c pa pb pc = ap (λ (w : Walk). first_of (codes "nodes") (finished (leaf (makes n)).rules w.held)) (make_walk3 n a b c pa pb pc)

pub make_number3 : (n a b c : Text) → IsPlain a → IsPlain b → IsPlain c → first_of (codes "number") (rows_after (leaf (makes n)).rules [] (a ∷ b ∷ c ∷ [])) ≡ Some b
make_number3 n a b c pa pb pc = ap (λ (w : Walk). first_of (codes "number") (finished (leaf (makes n)).rules w.held)) (make_walk3 n a b c pa pb pc)

pub make_folder3 : (n a b c : Text) → IsPlain a → IsPlain b → IsPlain c → first_of (codes "folder") (rows_after (leaf (makes n)).rules [] (a ∷ b ∷ c ∷ [])) ≡ Some c
make_folder3 n a b c pa pb pc = ap (λ (w : Walk). first_of (codes "folder") (finished (leaf (makes n)).rules w.held)) (make_walk3 n a b c pa pb pc)

make_many : (n a b c d : Text) (more : List Text) → IsPlain a → IsPlain b → IsPlain c → IsPlain d → walk_fault (leaf (makes n)) [] (at nothing_held 1) (a ∷ b ∷ c ∷ d ∷ more) ≡ unknown
unfolding walk_fault
make_many n a b c d more pa pb pc pd = rw (turn_refuses (leaf (makes n)) (at nothing_held 1).held 1 a pa, make_step1 n a pa, turn_refuses (leaf (makes n)) (make_at1 n a).held 2 b pb, make_step2 n a b pb, turn_refuses (leaf (makes n)) (make_at2 n a b).held 3 c pc, make_step3 n a b c pc, turn_refuses (leaf (makes n)) (make_at3 n a b c).held 4 d pd) refl

pub make_fault4 : (n a b c d : Text) (more : List Text) → IsPlain a → IsPlain b → IsPlain c → IsPlain d → leaf_fault (leaf (makes n)) (a ∷ b ∷ c ∷ d ∷ more) ≡ unknown
make_fault4 n a b c d more pa pb pc pd = ap (by_leaf (leaf (makes n)) (walk (leaf (makes n)).rules [] nothing_held (a ∷ b ∷ c ∷ d ∷ more))) (make_many n a b c d more pa pb pc pd)

-- One with nodes and a folder

abbrev check_at1 : Text → Text → Walk
check_at1 n a = to_positional (leaf (checks n)).rules (arg_by_index (leaf (checks n)).rules 1) a (at nothing_held 1) (at nothing_held 1).held

check_step1 : (n a : Text) → IsPlain a → walked (leaf (checks n)).rules [] (at nothing_held 1) a ≡ check_at1 n a
check_step1 n a p = walked_plain (leaf (checks n)).rules (at nothing_held 1).held 1 a p

abbrev check_at2 : Text → Text → Text → Walk
check_at2 n a b = to_positional (leaf (checks n)).rules (arg_by_index (leaf (checks n)).rules 2) b (check_at1 n a) (check_at1 n a).held

check_step2 : (n a b : Text) → IsPlain b → walked (leaf (checks n)).rules [] (check_at1 n a) b ≡ check_at2 n a b
check_step2 n a b p = walked_plain (leaf (checks n)).rules (check_at1 n a).held 2 b p

check_end0 : (n : Text) → ends (leaf (checks n)) (at nothing_held 1) ≡ missing
unfolding defaults_fault
check_end0 n = refl

pub check_fault0 : (n : Text) → leaf_fault (leaf (checks n)) [] ≡ missing
unfolding walk_fault
check_fault0 n = check_end0 n

check_walk1 : (n a : Text) → IsPlain a → walk (leaf (checks n)).rules [] nothing_held (a ∷ []) ≡ check_at1 n a
check_walk1 n a pa = rw (check_step1 n a pa) refl

check_none1 : (n a : Text) → IsPlain a → walk_fault (leaf (checks n)) [] (at nothing_held 1) (a ∷ []) ≡ []
unfolding walk_fault
check_none1 n a pa = rw (turn_refuses (leaf (checks n)) (at nothing_held 1).held 1 a pa) refl

check_end1 : (n a : Text) → ends (leaf (checks n)) (check_at1 n a) ≡ missing
unfolding defaults_fault
check_end1 n a = refl

pub check_fault1 : (n a : Text) → IsPlain a → leaf_fault (leaf (checks n)) (a ∷ []) ≡ missing
check_fault1 n a pa = ap₂ (by_leaf (leaf (checks n))) (check_walk1 n a pa) (check_none1 n a pa) ∙ check_end1 n a

check_walk2 : (n a b : Text) → IsPlain a → IsPlain b → walk (leaf (checks n)).rules [] nothing_held (a ∷ b ∷ []) ≡ check_at2 n a b
check_walk2 n a b pa pb = rw (check_step1 n a pa, check_step2 n a b pb) refl

check_none2 : (n a b : Text) → IsPlain a → IsPlain b → walk_fault (leaf (checks n)) [] (at nothing_held 1) (a ∷ b ∷ []) ≡ []
unfolding walk_fault
check_none2 n a b pa pb = rw (turn_refuses (leaf (checks n)) (at nothing_held 1).held 1 a pa, check_step1 n a pa, turn_refuses (leaf (checks n)) (check_at1 n a).held 2 b pb) refl

check_end2 : (n a b : Text) → ends (leaf (checks n)) (check_at2 n a b) ≡ []
unfolding defaults_fault
check_end2 n a b = refl

pub check_fault2 : (n a b : Text) → IsPlain a → IsPlain b → leaf_fault (leaf (checks n)) (a ∷ b ∷ []) ≡ []
check_fault2 n a b pa pb = ap₂ (by_leaf (leaf (checks n))) (check_walk2 n a b pa pb) (check_none2 n a b pa pb) ∙ check_end2 n a b

pub check_nodes2 : (n a b : Text) → IsPlain a → IsPlain b → first_of (codes "nodes") (rows_after (leaf (checks n)).rules [] (a ∷ b ∷ [])) ≡ Some a
check_nodes2 n a b pa pb = ap (λ (w : Walk). first_of (codes "nodes") (finished (leaf (checks n)).rules w.held)) (check_walk2 n a b pa pb)

pub check_number2 : (n a b : Text) → IsPlain a → IsPlain b → first_of (codes "number") (rows_after (leaf (checks n)).rules [] (a ∷ b ∷ [])) ≡ None
check_number2 n a b pa pb = ap (λ (w : Walk). first_of (codes "number") (finished (leaf (checks n)).rules w.held)) (check_walk2 n a b pa pb)

pub check_folder2 : (n a b : Text) → IsPlain a → IsPlain b → first_of (codes "folder") (rows_after (leaf (checks n)).rules [] (a ∷ b ∷ [])) ≡ Some b
check_folder2 n a b pa pb = ap (λ (w : Walk). first_of (codes "folder") (finished (leaf (checks n)).rules w.held)) (check_walk2 n a b pa pb)

check_many : (n a b c : Text) (more : List Text) → IsPlain a → IsPlain b → IsPlain c → walk_fault (leaf (checks n)) [] (at nothing_held 1) (a ∷ b ∷ c ∷ more) ≡ unknown
unfolding walk_fault
check_many n a b c more pa pb pc = rw (turn_refuses (leaf (checks n)) (at nothing_held 1).held 1 a pa, check_step1 n a pa, turn_refuses (leaf (checks n)) (check_at1 n a).held 2 b pb, check_step2 n a b pb, turn_refuses (leaf (checks n)) (check_at2 n a b).held 3 c pc) refl

pub check_fault3 : (n a b c : Text) (more : List Text) → IsPlain a → IsPlain b → IsPlain c → leaf_fault (leaf (checks n)) (a ∷ b ∷ c ∷ more) ≡ unknown
check_fault3 n a b c more pa pb pc = ap (by_leaf (leaf (checks n)) (walk (leaf (checks n)).rules [] nothing_held (a ∷ b ∷ c ∷ more))) (check_many n a b c more pa pb pc)

-- the words behind the name

abbrev stopped_at : Held → Text → List Text → Walk
stopped_at h n ws = record { held = h; waiting = idle; position = 1; is_trailing = false; stopped = Some (n, ws) }

stop_walk : (c : List Rule) (names : Names) (h : Held) (n : Text) (ws rest : List Text) → fold (walked c names) (stopped_at h n ws) rest ≡ stopped_at h n (ws ++ rest)
unfolding walked
stop_walk c names h n ws [] = ap (stopped_at h n) (sym (append-nil ws))
stop_walk c names h n ws (x ∷ rest) = stop_walk c names h n (ws ++ x ∷ []) rest ∙ ap (stopped_at h n) (append_assoc ws (x ∷ []) rest)

stop_fault : (s : Shape) (names : Names) (h : Held) (n : Text) (ws rest : List Text) → walk_fault s names (stopped_at h n ws) rest ≡ []
unfolding walk_fault walked
stop_fault s names h n ws [] = refl
stop_fault s names h n ws (x ∷ rest) = stop_fault s names h n (ws ++ x ∷ []) rest

abbrev top : Shape
top = (built minuet).top

abbrev names : Names
names = names_of (built minuet)

abbrev fault_by : Walk → Kinds → Kinds
fault_by w k = or_else k (or_else (entered_fault (built minuet) w.stopped) (or_else (settle_fault top.rules top.args_override_self w.held) (or_else (defaults_fault (settled top.rules w.held).rows top.rules) (check_fault top (finished top.rules w.held) (is_some (entered (built minuet) w.stopped))))))

fault_is : (words : List Text) → fault_of minuet words ≡ fault_by (walk top.rules names nothing_held words) (walk_fault top names (at nothing_held 1) words)
fault_is words = refl

abbrev pub app_by : Command → App
app_by Replay = plays (codes "replay")
app_by Run = plays (codes "run")
app_by Gen = makes (codes "gen")
app_by Check = checks (codes "check")

begins : (name : Command) → walked top.rules names (at nothing_held 1) (command_word name) ≡ stopped_at nothing_held (command_word name) []
unfolding walked
begins Replay = refl
begins Run = refl
begins Gen = refl
begins Check = refl

name_walk : (name : Command) (rest : List Text) → walk top.rules names nothing_held (command_word name ∷ rest) ≡ stopped_at nothing_held (command_word name) rest
name_walk name rest = ap (λ (w : Walk). fold (walked top.rules names) w rest) (begins name) ∙ stop_walk top.rules names nothing_held (command_word name) [] rest

name_none : (name : Command) (rest : List Text) → walk_fault top names (at nothing_held 1) (command_word name ∷ rest) ≡ []
unfolding walk_fault walked
name_none Replay rest = stop_fault top names nothing_held (codes "replay") [] rest
name_none Run rest = stop_fault top names nothing_held (codes "run") [] rest
name_none Gen rest = stop_fault top names nothing_held (codes "gen") [] rest
name_none Check rest = stop_fault top names nothing_held (codes "check") [] rest

stopped_fault : (name : Command) (rest : List Text) → fault_by (stopped_at nothing_held (command_word name) rest) [] ≡ or_else (leaf_fault (leaf (app_by name)) rest) []
unfolding defaults_fault
stopped_fault Replay rest = refl
stopped_fault Run rest = refl
stopped_fault Gen rest = refl
stopped_fault Check rest = refl

pub name_fault : (name : Command) (rest : List Text) → fault_of minuet (command_word name ∷ rest) ≡ or_else (leaf_fault (leaf (app_by name)) rest) []
name_fault name rest = ap₂ fault_by (name_walk name rest) (name_none name rest) ∙ stopped_fault name rest

stopped_rows : (name : Command) (rest : List Text) → entered (built minuet) (Some (command_word name, rest)) ≡ Some (command_word name, rows_after (leaf (app_by name)).rules [] rest)
stopped_rows Replay rest = refl
stopped_rows Run rest = refl
stopped_rows Gen rest = refl
stopped_rows Check rest = refl

pub name_rows : (name : Command) (rest : List Text) → subcommand_of minuet (command_word name ∷ rest) ≡ Some (command_word name, rows_after (leaf (app_by name)).rules [] rest)
name_rows name rest = ap (λ (w : Walk). entered (built minuet) w.stopped) (name_walk name rest) ∙ stopped_rows name rest

no_kind : (x : ErrorKind) (ks : Kinds) → x ∷ ks ≡ [] → ⊥
no_kind x ks e = cc

pub not_none : {A : Type 0} (x : A) → None ≡ Some x → ⊥
not_none x e = cc

-- another first word
other_fault : (word : Text) (rest : List Text) → IsPlain word → bytes_eq (codes "replay") word ≡ false → bytes_eq (codes "run") word ≡ false → bytes_eq (codes "gen") word ≡ false → bytes_eq (codes "check") word ≡ false
    → walk_fault top names (at nothing_held 1) (word ∷ rest) ≡ kind.UnknownArgument ∷ kind.InvalidSubcommand ∷ []
unfolding walk_fault
other_fault word rest p e f g h = rw (e, f, g, h, p.no_end, p.no_long, p.no_short) refl

first_fault : (k ks : Kinds) (x : ErrorKind) (w : Walk) → k ≡ x ∷ ks → fault_by w k ≡ [] → ⊥
first_fault k ks x w e f = let g : x ∷ ks ≡ [] = sym (ap (fault_by w) e) ∙ f in no_kind x ks g

pub other_is : (word : Text) (rest : List Text) → IsPlain word → bytes_eq (codes "replay") word ≡ false → bytes_eq (codes "run") word ≡ false → bytes_eq (codes "gen") word ≡ false → bytes_eq (codes "check") word ≡ false → fault_of minuet (word ∷ rest) ≡ [] → ⊥
other_is word rest p e f g h i = first_fault _ _ _ (walk top.rules names nothing_held (word ∷ rest)) (other_fault word rest p e f g h) i

pub nothing_met : (n : Text) (rows : List Row) → subcommand_of minuet [] ≡ Some (n, rows) → ⊥
nothing_met n rows e = not_none (n, rows) e
