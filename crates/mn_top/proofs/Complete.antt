-- Where nothing is in the way, whatever is due is a report or want of memory.
use Rattle.std.proofs.Common.{◌≡◌, ◌≤◌, ◌<◌, ◌+◌, ◌-◌, ◌^◌, ◌∙◌, ℕ, zero, suc, true, List, [], ◌∷◌, length, get_or, refl, ap, sym, subst, arith, inl, inr, Ok, Err}
use Rattle.std.specs.Prelude.{◌⊎◌, Option, Result, Some, None, IfSome, bytes_eq, min, slice_get}
use Rattle.std.specs.List.{AllByRecursion}
use Rattle.std.proofs.lemmas.Bool.{false≢true}
use Rattle.std.proofs.lemmas.Fmt.{decimal_injective}
use Rattle.mn_base.proofs.Keys.{bytes_eq-refl}
use Rattle.mn_base.specs.Store.{Store}
use Rattle.mn_base.specs.declared.ids.NodeNo.{NodeNo}
use Rattle.mn_cell.specs.Calls.{numbered}
use Rattle.mn_flat.proofs.Placing.{unfit}
use Rattle.mn_flat.specs.declared.error.VoteError.{VoteError}
use Rattle.mn_flat.specs.declared.error.VoteError.TheVariants as vote
use Rattle.mn_flat.specs.Refusal.{RefusesRecords}
use Rattle.mn_forest.proofs.Holding.{holding_passes}
use Rattle.mn_forest.specs.declared.error.Rule.{Rule}
use Rattle.mn_forest.specs.Refusal.{NamesBroken}
use Rattle.mn_io.specs.DiskModel.{DiskState}
use Rattle.mn_io.specs.Faults.{Rose}
use Rattle.mn_mini.specs.declared.record.Record.{Record}
use Rattle.mn_mini.specs.RecordGrammar.{IsRecord, SpellsNone}
use Rattle.mn_node.specs.Node.{bodies_of}
use Rattle.mn_node.specs.State.{IsFirstBadBody}
use Rattle.mn_page.specs.Holds.{Holds}
use Rattle.mn_plans.proofs.HoldsOne.{same_by_places}
use Rattle.mn_redo.specs.Grammar.{IsDamaged, Stands}
use Rattle.mn_runs.specs.declared.entry.Entry.{Entry}
use Rattle.mn_runs.specs.Protocol.{Start, start_of}
use Rattle.mn_runs.specs.Sound.{opened_memory}
use Rattle.mn_script.specs.declared.error.ScriptError.TheVariants.{Refused as WrongText}
use Rattle.mn_script.specs.Reading.{script_of}
use Rattle.mn_script.specs.Script.{Script}
use Rattle.mn_top.specs.declared.due.DamageRule.{DamageRule}
use Rattle.mn_top.specs.declared.due.DamageRule.TheVariants.{Log, Votes, Both, Forest, Runs, Kept}
use Rattle.mn_top.specs.declared.due.Due.{Due}
use Rattle.mn_top.specs.declared.due.Due.TheVariants.{Report, Usage, Refused, ReadFault, DiskFault, Damaged, NoMemory, Disks}
use Rattle.mn_top.specs.declared.words.Command.{Command}
use Rattle.mn_top.specs.declared.words.Command.TheVariants.{Replay, Run, Gen, Check}
use Rattle.mn_top.specs.Check.{ChecksTo}
use Rattle.mn_top.specs.Complete.{HoldsScript, IsAskedRight, IsComplete, IsRightCall, LeavesNumber, NoneRose}
use Rattle.mn_top.specs.Ending.{ComesTo, Misfits, Replaying}
use Rattle.mn_top.specs.Opening.{Begins, HasNumber, IsDamagedFirst, IsFirstBadLog, IsOpenedAs, ReadsAs, Show}
use Rattle.mn_top.specs.Program.{Finishes, IsDue, IsDueBefore, IsTextOf, status_of}
use Rattle.mn_top.specs.Words.{AskNodes, AskText, Asked, Asks, MayHaveNumber, Text, command_word, plays_script}
use Rattle.mn_top.proofs.Again.{AreOneList}
use Rattle.mn_top.proofs.Gets.{there_at, within}
use Rattle.mn_top.proofs.OnLogs.{bodies_once}

-- Words

by_bytes : (c d : Command) → bytes_eq (command_word c) (command_word d) ≡ true → c ≡ d
by_bytes Replay Replay e = refl
by_bytes Replay Run e = absurd (false≢true e)
by_bytes Replay Gen e = absurd (false≢true e)
by_bytes Replay Check e = absurd (false≢true e)
by_bytes Run Replay e = absurd (false≢true e)
by_bytes Run Run e = refl
by_bytes Run Gen e = absurd (false≢true e)
by_bytes Run Check e = absurd (false≢true e)
by_bytes Gen Replay e = absurd (false≢true e)
by_bytes Gen Run e = absurd (false≢true e)
by_bytes Gen Gen e = refl
by_bytes Gen Check e = absurd (false≢true e)
by_bytes Check Replay e = absurd (false≢true e)
by_bytes Check Run e = absurd (false≢true e)
by_bytes Check Gen e = absurd (false≢true e)
by_bytes Check Check e = refl

first_two : (words : List Text) (a b c d : Text) (more rest : List Text) → words ≡ a ∷ b ∷ more → words ≡ c ∷ d ∷ rest → (a ≡ c) × (b ≡ d)
first_two words a b c d more rest e f = (cc, cc)

-- words ask for one command on one number of disks
pub one_asked : (words : List Text) (a b : Asked) → Asks words a → Asks words b → (a.command ≡ b.command) × (a.nodes ≡ b.nodes)
one_asked words a b asks asks' =
    let same = first_two words _ _ _ _ _ _ asks.spelled asks'.spelled in
    let few = asks.few in let few' = asks'.few in (
      by_bytes a.command b.command (ap (bytes_eq (command_word a.command)) (sym same.0) ∙ bytes_eq-refl (command_word a.command)),
      decimal_injective a.nodes b.nodes (omega (arith, few)) (omega (arith, few')) same.1,
    )

no_numbers : (command : Command) → command ≡ Gen → MayHaveNumber command None → ⊥
no_numbers command is may = subst (λ (c : Command). MayHaveNumber c None) is may

check_plays_none : (command : Command) → command ≡ Check → plays_script command ≡ true → ⊥
check_plays_none command is plays = false≢true (sym (ap plays_script is) ∙ plays)

module _ (words : List Text) (known : Option (List ℕ)) (given : ℕ) where
  -- a command that is asked for right is asked for
  asked_of : (command : Command) → IsAskedRight words known given command → (asked : Asked) × Asks words asked × (asked.command ≡ command) × (asked.nodes ≡ given)
  asked_of Replay right = let asks = right.0.1 in (_, asks.1, refl, refl)
  asked_of Run right = let asks = right.0.1 in (_, asks.1, refl, refl)
  asked_of Gen right = let asks = right.1.1 in (_, asks.1, refl, refl)
  asked_of Check right = (_, right.1, refl, refl)

  -- one that reads a text holds its script
  reads_script : (command : Command) → IsAskedRight words known given command → AskText words given → HoldsScript known given
  reads_script Replay right text = right.1
  reads_script Run right text = right.1
  reads_script Gen right text =
      let of = asked_of Gen right in
      let asks = text.1.1.1 in
      absurd (no_numbers text.0 ((one_asked words _ of.0 asks of.1).0 ∙ of.2) asks.number)
  reads_script Check right text =
      let of = asked_of Check right in
      let asks = text.1.1.1 in
      absurd (check_plays_none text.0 ((one_asked words _ of.0 asks of.1).0 ∙ of.2) text.1.0)

  one_script : (s t : Script) (text : List ℕ) → known ≡ Some text → script_of text ≡ Ok s → IsTextOf known t → t ≡ s
  one_script s t text is spelled told = same (script_of text) spelled (subst (λ (k : Option (List ℕ)). IsTextOf k t) is told)
    where
      same : {E : Type 0} (r : Result Script E) → r ≡ Ok s → r ≡ Ok t → t ≡ s
      same r e f = cc

  not_refused : (s : Script) (row column : ℕ) (text : List ℕ) → known ≡ Some text → script_of text ≡ Ok s → IfSome known (λ told. script_of told ≡ Err (WrongText row column)) → ⊥
  not_refused s row column text is spelled told =
      let refused : script_of text ≡ Err (WrongText row column) = subst (λ (k : Option (List ℕ)). IfSome k (λ told. script_of told ≡ Err (WrongText row column))) is told in
      absurd cc

  module _ (command : Command) (right : IsAskedRight words known given command) where
    asked_nodes : (wanted : ℕ) → AskNodes words wanted → wanted ≡ given
    asked_nodes wanted (inl plays) =
        let of = asked_of command right in
        (one_asked words _ of.0 plays.2.1.1 of.1).1 ∙ of.3
    asked_nodes wanted (inr checks) =
        let of = asked_of command right in
        (one_asked words _ of.0 checks.1 of.1).1 ∙ of.3

    -- nothing is due before a disk is touched, but want of memory
    before_memory : (failed : Type 0) (due : Due) → (failed → ⊥) → IsDueBefore words known failed given due → status_of due ≡ 7
    before_memory failed NoMemory none why = refl
    before_memory failed Usage none why = let of = asked_of command right in absurd (why of.0 of.1)
    before_memory failed ReadFault none why = absurd (none why.1)
    before_memory failed (Refused row column) none why =
        let holds = reads_script command right why.0 in
        absurd (not_refused holds.script row column holds.text holds.known_so holds.spelled why.1)
    before_memory failed (Disks told wanted) none (same, other, inl asked) = absurd (other (sym (asked_nodes wanted asked)))
    before_memory failed (Disks told wanted) none (same, other, inr (text, (script, spelled, wants))) =
        let holds = reads_script command right text in
        let is : script ≡ holds.script = one_script holds.script script holds.text holds.known_so holds.spelled spelled in
        absurd (other (sym (sym wants ∙ ap (λ (s : Script). s.nodes) is ∙ holds.nodes_are)))
    before_memory failed (Report text) none why = absurd why
    before_memory failed (DiskFault n) none why = absurd why
    before_memory failed (Damaged n place rule) none why = absurd why

-- Disks

-- bytes that are damaged stand for no list
abbrev pub NoneDamaged : Type 0
NoneDamaged =
    (node nodes : ℕ) (content : List ℕ) (at : ℕ) (bodies : List (List ℕ)) → IsDamaged node nodes content at → Stands node nodes content bodies → ⊥

-- each body of records in the grammar spells one
spells_some : (list : List Record) (i : ℕ) → AllByRecursion IsRecord list → i < length (bodies_of list) → SpellsNone (get_or (bodies_of list) i []) → ⊥
spells_some [] i sound low none = absurd (omega (arith, low))
spells_some (r ∷ list) zero sound low none = none r (record { may = sound.0; spelled = refl })
spells_some (r ∷ list) (suc i) sound low none = spells_some list i sound.1 (omega (arith, low)) none

rose_once : (by before now : ℕ) → min (before + (by + 1)) (2 ^ 64 - 1) ≤ now → Rose before now
rose_once by before now rose = omega (arith, rose)

unvoted_is_told : (n : NodeNo) (place : ℕ) → vote.Unvoted n place ≡ vote.NoMemory → ⊥
unvoted_is_told n place e = absurd cc

both_is_told : (n : NodeNo) (place : ℕ) → vote.Both n place ≡ vote.NoMemory → ⊥
both_is_told n place e = absurd cc

-- other rules than that of runs
votes_other : {P : Type 0} → Votes ≡ Runs → P
votes_other e = absurd cc

both_other : {P : Type 0} → Both ≡ Runs → P
both_other e = absurd cc

forest_other : {P : Type 0} (rule : Rule) → Forest rule ≡ Runs → P
forest_other rule e = absurd cc

-- where the records fit together, and their memory holds a store
module _ (records : List (List Record)) (store : Store) (opened : IsOpenedAs (start_of records) store) where
  no_votes : (e : VoteError) → (e ≡ vote.NoMemory → ⊥) → RefusesRecords records e → ⊥
  no_votes e other refuses = unfit records e refuses other opened.sound opened.greater

  no_broken : (n place : ℕ) (rule : Rule) → NamesBroken (opened_memory (start_of records)) n place rule → ⊥
  no_broken n place rule broken =
      let h : Holds (opened_memory (start_of records)) store = opened.holds in
      let first = broken.first in
      first.failed (holding_passes (opened_memory (start_of records)) h.forest h.spelled h.sound broken.es broken.says n broken.t first.node first.test)

  -- no rule of records fails but the one of runs, where a number is left
  no_misfit : (n place : ℕ) (rule : DamageRule) → (rule ≡ Runs → HasNumber (start_of records)) → Misfits records n place rule → ⊥
  no_misfit n place Log number misfit = misfit
  no_misfit n place Votes number misfit = no_votes (vote.Unvoted (numbered n) place) (unvoted_is_told (numbered n) place) misfit
  no_misfit n place Both number misfit = no_votes (vote.Both (numbered n) place) (both_is_told (numbered n) place) misfit
  no_misfit n place (Forest rule) number misfit = no_broken n place rule misfit.2
  no_misfit n place Runs number misfit = misfit.2.2 (number refl)
  no_misfit n place Kept number misfit = misfit

module _ (once : AreOneList) (whole : NoneDamaged) {D : Type 0} (state : D → DiskState) (given : List D) (honest : (k : ℕ) (disk : D) → slice_get given k ≡ Some disk → (state disk).honest) where
  -- honest disks show one list of records each
  same_list : (n k : ℕ) (disk : D) (one other : List Record) → slice_get given k ≡ Some disk → ReadsAs n k (state disk) one → ReadsAs n k (state disk) other → one ≡ other
  same_list n k disk one other at reads reads' =
      let h = honest k disk at in
      bodies_once one other reads.sound reads'.sound (once k n (state disk).content (bodies_of one) (bodies_of other) (reads.stands h) (reads'.stands h))

  one_shown : (one other : List (List Record)) → Show state given one → Show state given other → one ≡ other
  one_shown one other shown shown' = same_by_places one other at (omega (arith, shown.count, shown'.count))
    where
      at : (k : ℕ) (list : List Record) → slice_get one k ≡ Some list → slice_get other k ≡ Some list
      at k list is =
          let low = within one k list is in
          let disk = there_at given k (omega (arith, low, shown.count)) in
          let list' = there_at other k (omega (arith, low, shown.count, shown'.count)) in
          let same : list ≡ list'.0 = same_list (length given) k disk.0 list list'.0 disk.1 (shown.read k disk.0 list disk.1 is) (shown'.read k disk.0 list'.0 disk.1 list'.1) in
          list'.1 ∙ ap Some (sym same)

  module _ (records : List (List Record)) (shown : Show state given records) where
    -- no log is bad
    no_bad_log : (k place : ℕ) → IsFirstBadLog state given k place → ⊥
    no_bad_log k place bad = none_bad (bad.bad h)
      where
        content : List ℕ
        content = (state bad.disk).content

        h : (state bad.disk).honest
        h = honest k bad.disk bad.is

        list : (l : List Record) × (slice_get records k ≡ Some l)
        list = let low = within given k bad.disk bad.is in there_at records k (omega (arith, low, shown.count))

        reads : ReadsAs (length given) k (state bad.disk) list.0
        reads = shown.read k bad.disk list.0 bad.is list.1

        stands : Stands k (length given) content (bodies_of list.0)
        stands = reads.stands h

        no_bad_body : (start : ℕ) (bodies : List (List ℕ)) → bodies ≡ bodies_of list.0 → IsFirstBadBody start bodies place → ⊥
        no_bad_body start bodies is first =
            spells_some list.0 first.number reads.sound (subst (λ (l : List (List ℕ)). first.number < length l) is first.within) (subst (λ (l : List (List ℕ)). SpellsNone (get_or l first.number [])) is first.bad)

        not_behind : (start : ℕ) (bodies : List (List ℕ)) → Begins (length given) k content start bodies → IsFirstBadBody start bodies place → ⊥
        not_behind start bodies (inl log) first = no_bad_body start bodies (once k (length given) content bodies (bodies_of list.0) (inr (log.0, (start, log.1))) stands) first
        not_behind start bodies (inr damaged) first = whole k (length given) content damaged.0 (bodies_of list.0) damaged.1.0 stands

        none_bad : IsDamagedFirst (length given) k content place ⊎ ((start : ℕ) × ((bodies : List (List ℕ)) × Begins (length given) k content start bodies × IsFirstBadBody start bodies place)) → ⊥
        none_bad (inl damaged) = whole k (length given) content place (bodies_of list.0) damaged.1.1.0 stands
        none_bad (inr behind) = not_behind behind.0 behind.1.0 behind.1.1 behind.1.2

    -- no rule fails of what the disks show
    no_damage : (store : Store) → IsOpenedAs (start_of records) store → (n place : ℕ) (rule : DamageRule) → (rule ≡ Runs → HasNumber (start_of records)) → (others : List (List Record)) → Show state given others → Misfits others n place rule → ⊥
    no_damage store opened n place rule number others shown' misfit =
        no_misfit records store opened n place rule number (subst (λ (l : List (List Record)). Misfits l n place rule) (one_shown others records shown' shown) misfit)

-- What is due

-- one of these statuses goes with it
abbrev IsEnd : Due → Type 0
IsEnd due = (status_of due ≡ 0) ⊎ (status_of due ≡ 7)

number_left : (command : Command) (start : Start) → plays_script command ≡ true → LeavesNumber command start → HasNumber start
number_left Replay start plays left = left
number_left Run start plays left = left
number_left Gen start plays left = left
number_left Check start plays left = absurd (false≢true plays)

module _ (once : AreOneList) (whole : NoneDamaged) {D : Type 0} (state : D → DiskState) (faults : D → ℕ) (words : List Text) (known : Option (List ℕ)) (failed sink : Type 0) (given left : List D) (command : Command)
    (right : IsRightCall state words known given command) (none : NoneRose faults failed sink given left) where
  not_log : (n place : ℕ) → IsFirstBadLog state given n place → ⊥
  not_log n place bad = no_bad_log once whole state given right.honest right.records right.shown n place bad

  not_damaged : (n place : ℕ) (rule : DamageRule) → (rule ≡ Runs → HasNumber (start_of right.records)) → (records : List (List Record)) → Show state given records → Misfits records n place rule → ⊥
  not_damaged = no_damage once whole state given right.honest right.records right.shown right.store right.opened

  play_ends : (r : Replaying D) → r.given ≡ given → r.left ≡ left → plays_script command ≡ true → (due : Due) → ComesTo state faults r due → IsEnd due
  play_ends r e f plays (Report text) comes = inl refl
  play_ends r e f plays NoMemory comes = inr refl
  play_ends r e f plays (DiskFault n) comes =
      absurd (none.of_disks n (record {
        old = comes.old;
        new = comes.new;
        was = ap (λ (l : List D). slice_get l n) (sym e) ∙ comes.was;
        is = ap (λ (l : List D). slice_get l n) (sym f) ∙ comes.is;
        rose = rose_once _ (faults comes.old) (faults comes.new) comes.rose;
      }))
  play_ends r e f plays (Damaged n place Log) comes = absurd (not_log n place (subst (λ (l : List D). IsFirstBadLog state l n place) e comes.1))
  play_ends r e f plays (Damaged n place Kept) comes = absurd (comes.dishonest (right.honest n comes.old (ap (λ (l : List D). slice_get l n) (sym e) ∙ comes.was)))
  play_ends r e f plays (Damaged n place Votes) comes = absurd (not_damaged n place Votes votes_other comes.1.0 (subst (λ (l : List D). Show state l comes.1.0) e comes.1.1) comes.1.2)
  play_ends r e f plays (Damaged n place Both) comes = absurd (not_damaged n place Both both_other comes.1.0 (subst (λ (l : List D). Show state l comes.1.0) e comes.1.1) comes.1.2)
  play_ends r e f plays (Damaged n place (Forest rule)) comes = absurd (not_damaged n place (Forest rule) (forest_other rule) comes.1.0 (subst (λ (l : List D). Show state l comes.1.0) e comes.1.1) comes.1.2)
  play_ends r e f plays (Damaged n place Runs) comes =
      absurd (not_damaged n place Runs (λ _. number_left command (start_of right.records) plays right.numbered_so) comes.1.0 (subst (λ (l : List D). Show state l comes.1.0) e comes.1.1) comes.1.2)
  play_ends r e f plays Usage comes = absurd comes
  play_ends r e f plays (Refused row column) comes = absurd comes
  play_ends r e f plays ReadFault comes = absurd comes
  play_ends r e f plays (Disks told wanted) comes = absurd comes

  check_ends : (due : Due) → ChecksTo state faults given left due → IsEnd due
  check_ends (Report text) comes = inl refl
  check_ends NoMemory comes = inr refl
  check_ends (DiskFault n) comes = absurd (none.of_disks n comes.0)
  check_ends (Damaged n place Log) comes = absurd (not_log n place comes)
  check_ends (Damaged n place Votes) comes = absurd (not_damaged n place Votes votes_other comes.0 comes.1 comes.2)
  check_ends (Damaged n place Both) comes = absurd (not_damaged n place Both both_other comes.0 comes.1 comes.2)
  check_ends (Damaged n place (Forest rule)) comes = absurd (not_damaged n place (Forest rule) (forest_other rule) comes.0 comes.1 comes.2)
  check_ends (Damaged n place Runs) comes = absurd comes
  check_ends (Damaged n place Kept) comes = absurd comes.2
  check_ends Usage comes = absurd comes
  check_ends (Refused row column) comes = absurd comes
  check_ends ReadFault comes = absurd comes
  check_ends (Disks told wanted) comes = absurd comes

  due_ends : (unread : Option (List ℕ)) (log : List (ℕ × Entry)) (due : Due) → IsDue state faults words known failed unread given left log due → IsEnd due
  due_ends unread log due (inl before) = inr (before_memory words known (length given) command right.asked failed due none.of_source before.0)
  due_ends unread log due (inr (inl meets)) =
      let of = asked_of words known (length given) command right.asked in
      let asks = meets.called.asked in
      let same : meets.command ≡ command = (one_asked words _ of.0 asks.1.1 of.1).0 ∙ of.2 in
      play_ends _ refl refl (sym (ap plays_script same) ∙ asks.0) due meets.so
  due_ends unread log due (inr (inr checked)) = check_ends due checked.so

  status_ends : (due : Due) (status : ℕ) (before now : Option (List ℕ)) → IsEnd due → Finishes due status before now sink → (status ≡ 0) ⊎ (status ≡ 7)
  status_ends due status before now (inl end) (inl finished) = inl (finished.0 ∙ end)
  status_ends due status before now (inr end) (inl finished) = inr (finished.0 ∙ end)
  status_ends due status before now end (inr failed) = absurd (none.of_sink failed.1)

-- a right call in which no count rose comes to its end
pub complete : AreOneList → NoneDamaged → {D : Type 0} (state : D → DiskState) (faults : D → ℕ) (words : List Text) (known : Option (List ℕ)) (failed sink : Type 0) (unread : Option (List ℕ)) (given left : List D) (log : List (ℕ × Entry))
    (due : Due) (status : ℕ) (before now : Option (List ℕ)) → IsDue state faults words known failed unread given left log due → Finishes due status before now sink → IsComplete state faults words known failed sink given left status
complete once whole state faults words known failed sink unread given left log due status before now is finished command right none =
    status_ends once whole state faults words known failed sink given left command right none due status before now
    (due_ends once whole state faults words known failed sink given left command right none unread log due is) finished
