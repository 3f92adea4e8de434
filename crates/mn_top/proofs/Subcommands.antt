-- A parse takes exactly the words of a command, and gives their parts.
use Rattle.std.proofs.Common.{◌≡◌, List, [], ◌∷◌, ◌++◌, Option, Some, None, Bool, true, false, bytes_eq, codes, sym, refl, ap, ◌∙◌, subst, true≢false, inl, inr}
use Rattle.std.specs.List.{list_any}
use Rattle.std.specs.Prelude.{⊤}
use Rattle.std.proofs.lemmas.Slice.Eq.{bytes_eq-Decides}
use Rattle.std.specs.Prelude.{option_map}
use Rattle.mn_base.proofs.Booleans.{or_split}
use Rattle.clap.specs.Words.{HasKind, Row, first_of, is_simple, is_simple_and_free, kind_of, subcommand_name_of, subcommand_of, subcommand_rows_of}
use Rattle.clap.specs.declared.error.Error.{Error}
use Rattle.clap.specs.declared.error.ErrorKind.TheVariants.{OutOfMemory}
use Rattle.clap.specs.declared.parser.ArgMatches.{ArgMatches}
use Rattle.clap.specs.declared.parser.ArgMatches.TheViews.{out-ArgMatches}
use Rattle.clap.specs.Kinds.{Kinds, or_else}
use Rattle.clap.specs.Walk.{rows_after}
use Rattle.clap.specs.Faults.{fault_of}
use Rattle.mn_top.specs.CommandLine.{HasFolder, HasNumber, Split, is_option, minuet}
use Rattle.mn_top.specs.Words.{Text, command_word, folder_words}
use Rattle.mn_top.specs.declared.words.Command.{Command}
use Rattle.mn_top.specs.declared.words.Command.TheVariants.{Replay, Run, Gen, Check}
use Rattle.mn_top.proofs.Positionals as p
use Rattle.mn_top.proofs.Positionals.{IsPlain, leaf, leaf_fault, app_by}

abbrev pub ArePlain : List Text → Type 0
ArePlain [] = ⊤
ArePlain (w ∷ ws) = IsPlain w × ArePlain ws

abbrev rows_at : Command → List Text → List Row
rows_at name rest = rows_after (leaf (app_by name)).rules [] rest

abbrev found : Text → Command → List Text → Option Text
found id name rest = first_of id (rows_at name rest)

-- the parts of what the name's command found
record Parts (name : Command) (rest : List Text) : Type 0 where
  pub nodes : Text
  pub nodes_found : found (codes "nodes") name rest ≡ Some nodes
  pub spelled : rest ≡ nodes ∷ (folder_words (found (codes "number") name rest) ++ folder_words (found (codes "folder") name rest))
  pub number : HasNumber name (found (codes "number") name rest)
  pub folder : HasFolder name (found (codes "folder") name rest)

some_fault : {K : Type 0} (x : K) (xs : List K) → x ∷ xs ≡ [] → ⊥
some_fault x xs e = cc

faulty : (k ks : Kinds) → k ≡ ks → k ≡ [] → ks ≡ []
faulty k ks e f = sym e ∙ f

parts : (name : Command) (rest : List Text) → ArePlain rest → leaf_fault (leaf (app_by name)) rest ≡ [] → Parts name rest
parts Replay [] pl e = absurd (some_fault _ _ (sym (p.play_fault0 (codes "replay")) ∙ e))
parts Replay (a ∷ []) (pa, pl) e = let k = p.play_number1 (codes "replay") a pa in let f = p.play_folder1 (codes "replay") a pa in
    record { nodes = a; nodes_found = p.play_nodes1 (codes "replay") a pa; spelled = rw (k, f) refl; number = rw k tt; folder = tt }
parts Replay (a ∷ b ∷ []) (pa, (pb, pl)) e = let k = p.play_number2 (codes "replay") a b pa pb in let f = p.play_folder2 (codes "replay") a b pa pb in
    record { nodes = a; nodes_found = p.play_nodes2 (codes "replay") a b pa pb; spelled = rw (k, f) refl; number = rw k tt; folder = tt }
parts Replay (a ∷ b ∷ c ∷ more) (pa, (pb, (pc, pl))) e = absurd (some_fault _ _ (sym (p.play_fault3 (codes "replay") a b c more pa pb pc) ∙ e))
parts Run [] pl e = absurd (some_fault _ _ (sym (p.play_fault0 (codes "run")) ∙ e))
parts Run (a ∷ []) (pa, pl) e = let k = p.play_number1 (codes "run") a pa in let f = p.play_folder1 (codes "run") a pa in
    record { nodes = a; nodes_found = p.play_nodes1 (codes "run") a pa; spelled = rw (k, f) refl; number = rw k tt; folder = tt }
parts Run (a ∷ b ∷ []) (pa, (pb, pl)) e = let k = p.play_number2 (codes "run") a b pa pb in let f = p.play_folder2 (codes "run") a b pa pb in
    record { nodes = a; nodes_found = p.play_nodes2 (codes "run") a b pa pb; spelled = rw (k, f) refl; number = rw k tt; folder = tt }
parts Run (a ∷ b ∷ c ∷ more) (pa, (pb, (pc, pl))) e = absurd (some_fault _ _ (sym (p.play_fault3 (codes "run") a b c more pa pb pc) ∙ e))
parts Gen [] pl e = absurd (some_fault _ _ (sym (p.make_fault0 (codes "gen")) ∙ e))
parts Gen (a ∷ []) (pa, pl) e = absurd (some_fault _ _ (sym (p.make_fault1 (codes "gen") a pa) ∙ e))
parts Gen (a ∷ b ∷ []) (pa, (pb, pl)) e = let k = p.make_number2 (codes "gen") a b pa pb in let f = p.make_folder2 (codes "gen") a b pa pb in
    record { nodes = a; nodes_found = p.make_nodes2 (codes "gen") a b pa pb; spelled = rw (k, f) refl; number = rw k tt; folder = tt }
parts Gen (a ∷ b ∷ c ∷ []) (pa, (pb, (pc, pl))) e = let k = p.make_number3 (codes "gen") a b c pa pb pc in let f = p.make_folder3 (codes "gen") a b c pa pb pc in
    record { nodes = a; nodes_found = p.make_nodes3 (codes "gen") a b c pa pb pc; spelled = rw (k, f) refl; number = rw k tt; folder = tt }
parts Gen (a ∷ b ∷ c ∷ d ∷ more) (pa, (pb, (pc, (pd, pl)))) e = absurd (some_fault _ _ (sym (p.make_fault4 (codes "gen") a b c d more pa pb pc pd) ∙ e))
parts Check [] pl e = absurd (some_fault _ _ (sym (p.check_fault0 (codes "check")) ∙ e))
parts Check (a ∷ []) (pa, pl) e = absurd (some_fault _ _ (sym (p.check_fault1 (codes "check") a pa) ∙ e))
parts Check (a ∷ b ∷ []) (pa, (pb, pl)) e = let k = p.check_number2 (codes "check") a b pa pb in let f = p.check_folder2 (codes "check") a b pa pb in
    record { nodes = a; nodes_found = p.check_nodes2 (codes "check") a b pa pb; spelled = rw (k, f) refl; number = rw k tt; folder = rw f tt }
parts Check (a ∷ b ∷ c ∷ more) (pa, (pb, (pc, pl))) e = absurd (some_fault _ _ (sym (p.check_fault3 (codes "check") a b c more pa pb pc) ∙ e))

-- what a parse that takes the words gives
pub record Taken (words : List Text) (n : Text) (rows : List Row) : Type 0 where
  pub name : Command
  pub named : n ≡ command_word name
  pub nodes : Text
  pub nodes_found : first_of (codes "nodes") rows ≡ Some nodes
  pub split : Split words name nodes (first_of (codes "number") rows) (first_of (codes "folder") rows)

no_more : (k : Kinds) → or_else k [] ≡ [] → k ≡ []
no_more [] e = refl
no_more (x ∷ xs) e = absurd (some_fault x xs e)

inside : (x y : Text × List Row) → Some x ≡ Some y → x ≡ y
inside x y e = cc

by_name : (name : Command) (rest : List Text) → ArePlain rest → fault_of minuet (command_word name ∷ rest) ≡ [] → (n : Text) (rows : List Row) → subcommand_of minuet (command_word name ∷ rest) ≡ Some (n, rows) → Taken (command_word name ∷ rest) n rows
by_name name rest pl e n rows s =
    let pair = inside (n, rows) (command_word name, rows_at name rest) (sym s ∙ p.name_rows name rest) in
    let named : n ≡ command_word name = ap (λ (x : Text × List Row). x.0) pair in
    let same : rows ≡ rows_at name rest = ap (λ (x : Text × List Row). x.1) pair in
    let got = parts name rest pl (no_more (leaf_fault (leaf (app_by name)) rest) (sym (p.name_fault name rest) ∙ e)) in
    record {
      name = name;
      named = named;
      nodes = got.nodes;
      nodes_found = rw same got.nodes_found;
      split = rw same (ap (λ (l : List Text). command_word name ∷ l) got.spelled, got.number, got.folder);
    }

as_named : (name : Command) (w : Text) (rest : List Text) → true ≡ bytes_eq (command_word name) w → ArePlain rest → fault_of minuet (w ∷ rest) ≡ [] → (n : Text) (rows : List Row) → subcommand_of minuet (w ∷ rest) ≡ Some (n, rows) → Taken (w ∷ rest) n rows
as_named name w rest b pl = subst (λ (x : Text). fault_of minuet (x ∷ rest) ≡ [] → (n : Text) (rows : List Row) → subcommand_of minuet (x ∷ rest) ≡ Some (n, rows) → Taken (x ∷ rest) n rows)
    ((bytes_eq-Decides (command_word name) w).0 (sym b)) (by_name name rest pl)

by_first : (w : Text) (rest : List Text) → IsPlain w → ArePlain rest → fault_of minuet (w ∷ rest) ≡ [] → (n : Text) (rows : List Row) → subcommand_of minuet (w ∷ rest) ≡ Some (n, rows)
    → (a b c d : Bool) → a ≡ bytes_eq (codes "replay") w → b ≡ bytes_eq (codes "run") w → c ≡ bytes_eq (codes "gen") w → d ≡ bytes_eq (codes "check") w → Taken (w ∷ rest) n rows
by_first w rest pw pl e n rows s true b c d i j k l = as_named Replay w rest i pl e n rows s
by_first w rest pw pl e n rows s false true c d i j k l = as_named Run w rest j pl e n rows s
by_first w rest pw pl e n rows s false false true d i j k l = as_named Gen w rest k pl e n rows s
by_first w rest pw pl e n rows s false false false true i j k l = as_named Check w rest l pl e n rows s
by_first w rest pw pl e n rows s false false false false i j k l = absurd (p.other_is w rest pw (sym i) (sym j) (sym k) (sym l) e)

pub sound : (words : List Text) → ArePlain words → fault_of minuet words ≡ [] → (n : Text) (rows : List Row) → subcommand_of minuet words ≡ Some (n, rows) → Taken words n rows
sound [] pl e n rows s = absurd (p.nothing_met n rows s)
sound (w ∷ rest) (pw, pl) e n rows s = by_first w rest pw pl e n rows s _ _ _ _ refl refl refl refl

-- what is taken

met_rest : (name : Command) (a : Text) (k f : Option Text) → HasNumber name k → HasFolder name f → ArePlain (a ∷ (folder_words k ++ folder_words f))
    → (leaf_fault (leaf (app_by name)) (a ∷ (folder_words k ++ folder_words f)) ≡ []) × (found (codes "nodes") name (a ∷ (folder_words k ++ folder_words f)) ≡ Some a)
met_rest Replay a None None h g (pa, pl) = (p.play_fault1 (codes "replay") a pa, p.play_nodes1 (codes "replay") a pa)
met_rest Replay a None (Some f) h g (pa, (pb, pl)) = (p.play_fault2 (codes "replay") a f pa pb, p.play_nodes2 (codes "replay") a f pa pb)
met_rest Replay a (Some k) f h g pl = absurd h
met_rest Run a None None h g (pa, pl) = (p.play_fault1 (codes "run") a pa, p.play_nodes1 (codes "run") a pa)
met_rest Run a None (Some f) h g (pa, (pb, pl)) = (p.play_fault2 (codes "run") a f pa pb, p.play_nodes2 (codes "run") a f pa pb)
met_rest Run a (Some k) f h g pl = absurd h
met_rest Gen a None f h g pl = absurd h
met_rest Gen a (Some k) None h g (pa, (pb, pl)) = (p.make_fault2 (codes "gen") a k pa pb, p.make_nodes2 (codes "gen") a k pa pb)
met_rest Gen a (Some k) (Some f) h g (pa, (pb, (pc, pl))) = (p.make_fault3 (codes "gen") a k f pa pb pc, p.make_nodes3 (codes "gen") a k f pa pb pc)
met_rest Check a None None h g pl = absurd g
met_rest Check a None (Some f) h g (pa, (pb, pl)) = (p.check_fault2 (codes "check") a f pa pb, p.check_nodes2 (codes "check") a f pa pb)
met_rest Check a (Some k) f h g pl = absurd h

pub record Met (words : List Text) (name : Command) (nodes : Text) : Type 0 where
  pub taken : fault_of minuet words ≡ []
  pub rows : List Row
  pub met : subcommand_of minuet words ≡ Some (command_word name, rows)
  pub nodes_found : first_of (codes "nodes") rows ≡ Some nodes

met_name : (name : Command) (a : Text) (rest : List Text) → leaf_fault (leaf (app_by name)) rest ≡ [] → found (codes "nodes") name rest ≡ Some a → Met (command_word name ∷ rest) name a
met_name name a rest e f = record {
  taken = p.name_fault name rest ∙ ap (λ (k : Kinds). or_else k []) e;
  rows = rows_at name rest;
  met = p.name_rows name rest;
  nodes_found = f;
}

behind : (name : Command) (words rest : List Text) → words ≡ command_word name ∷ rest → ArePlain words → ArePlain rest
behind name words rest e pl = (subst ArePlain e pl).1

pub complete : (words : List Text) (name : Command) (a : Text) (k f : Option Text) → ArePlain words → Split words name a k f → Met words name a
complete words name a k f pl (e, h, g) =
    let rest = a ∷ (folder_words k ++ folder_words f) in
    let got = met_rest name a k f h g (behind name words rest e pl) in
    subst (λ (l : List Text). Met l name a) (sym e) (met_name name a rest got.0 got.1)

plain_word : (w : Text) → is_option w ≡ false → IsPlain w
plain_word [] e = record { no_long = refl; no_short = refl; no_end = refl }
plain_word (b ∷ bs) e = p.plain b bs e

pub are_plain : (words : List Text) → list_any is_option words ≡ false → ArePlain words
are_plain [] e = tt
are_plain (w ∷ ws) e = let both = or_split (is_option w) (list_any is_option ws) e in (plain_word w both.0, are_plain ws both.1)

-- the parse

pub is_ready : is_simple minuet ≡ true
is_ready = refl

pub is_free : is_simple_and_free minuet ≡ true
is_free = refl

pub only_memory : (kinds : Kinds) (e : Error) → HasKind kinds e → kinds ≡ [] → kind_of e ≡ OutOfMemory
only_memory [] e h none = elim h [
  | inl is ↦ is
  | inr other ↦ absurd other
]
only_memory (k ∷ ks) e h none = absurd (some_fault k ks none)

abbrev paired : {B : Type 0} → (B → Text) → (B → List Row) → B → Text × List Row
paired name rows_in b = (name b, rows_in b)

one_subcommand : {B : Type 0} (name : B → Text) (rows_in : B → List Row) (o : Option B) (w : Text) (rows : List Row) → Some w ≡ option_map name o
    → Some rows ≡ option_map (λ (x : Text × List Row). x.1) (option_map (paired name rows_in) o) → option_map (paired name rows_in) o ≡ Some (w, rows)
one_subcommand name rows_in None w rows e f = absurd (p.not_none w (sym e))
one_subcommand name rows_in (Some b) w rows e f = cc

pub subcommand_is : (m : ArgMatches) (w : Text) (rows : List Row) → Some w ≡ subcommand_name_of m → Some rows ≡ option_map (λ x. x.1) (subcommand_rows_of m) → subcommand_rows_of m ≡ Some (w, rows)
subcommand_is m w rows e f = one_subcommand _ _ (out-ArgMatches m).subcommand w rows e f

pub not_met : (o : Option (Text × List Row)) (words : List Text) (name : Command) (a : Text) → None ≡ option_map (λ x. x.1) o → o ≡ subcommand_of minuet words → Met words name a → ⊥
not_met o words name a e f m = p.not_none m.rows (e ∙ ap (λ (x : Option (Text × List Row)). option_map (λ y. y.1) x) (f ∙ m.met))

some_is : (x y : Text) → Some x ≡ Some y → x ≡ y
some_is x y e = cc

one_word : (m n : Command) → command_word m ≡ command_word n → m ≡ n
one_word Replay Replay e = refl
one_word Replay Run e = absurd (true≢false (sym ((bytes_eq-Decides (codes "replay") (codes "run")).1 e)))
one_word Replay Gen e = absurd (true≢false (sym ((bytes_eq-Decides (codes "replay") (codes "gen")).1 e)))
one_word Replay Check e = absurd (true≢false (sym ((bytes_eq-Decides (codes "replay") (codes "check")).1 e)))
one_word Run Replay e = absurd (true≢false (sym ((bytes_eq-Decides (codes "run") (codes "replay")).1 e)))
one_word Run Run e = refl
one_word Run Gen e = absurd (true≢false (sym ((bytes_eq-Decides (codes "run") (codes "gen")).1 e)))
one_word Run Check e = absurd (true≢false (sym ((bytes_eq-Decides (codes "run") (codes "check")).1 e)))
one_word Gen Replay e = absurd (true≢false (sym ((bytes_eq-Decides (codes "gen") (codes "replay")).1 e)))
one_word Gen Run e = absurd (true≢false (sym ((bytes_eq-Decides (codes "gen") (codes "run")).1 e)))
one_word Gen Gen e = refl
one_word Gen Check e = absurd (true≢false (sym ((bytes_eq-Decides (codes "gen") (codes "check")).1 e)))
one_word Check Replay e = absurd (true≢false (sym ((bytes_eq-Decides (codes "check") (codes "replay")).1 e)))
one_word Check Run e = absurd (true≢false (sym ((bytes_eq-Decides (codes "check") (codes "run")).1 e)))
one_word Check Gen e = absurd (true≢false (sym ((bytes_eq-Decides (codes "check") (codes "gen")).1 e)))
one_word Check Check e = refl

pub finish : (words : List Text) (w : Text) (rows : List Row) (g : Taken words w rows) (name : Command) (a : Text) (k f : Option Text)
    → w ≡ command_word name → Some a ≡ first_of (codes "nodes") rows → k ≡ first_of (codes "number") rows → f ≡ first_of (codes "folder") rows → Split words name a k f
finish words w rows g name a k f named nodes number folder =
    let same : name ≡ g.name = one_word name g.name (sym named ∙ g.named) in
    let word : a ≡ g.nodes = some_is a g.nodes (nodes ∙ g.nodes_found) in
    rw (same, word, number, folder) g.split
