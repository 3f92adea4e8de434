-- Why a restart fails, and what it finds.
use Rattle.std.proofs.Common.{vec_len, ◌≡◌, ◌≢◌, ◌≤◌, ◌*◌, ◌++◌, ◌∷◌, [], ◌∙◌, ℕ, Bool, true, false, List, length, reverse, Option, Some, None, inl, inr, refl, Result, Ok, Err, OnOk, IfOk, IfErr, IsTrue, ◌↔◌, ap, sym, subst}
use Rattle.std.specs.Prelude.{◌⊎◌, IsSome}
use Rattle.std.specs.List.{AllByRecursion}
use Rattle.std.proofs.lemmas.Bool.{false≢true}
use Rattle.mn_io.specs.DiskModel.{DiskState}
use Rattle.mn_io.specs.Faults.{Rose}
use Rattle.mn_redo.specs.Appender.{AppenderState, IsLogOf}
use Rattle.mn_redo.specs.Grammar.{Stands, IsDamaged}
use Rattle.mn_redo.specs.Log.{FrontState}
use Rattle.mn_redo.specs.Redo.{StandsFor}
use Rattle.mn_redo.specs.declared.open.OpenCause.{OpenCause}
use Rattle.mn_redo.specs.declared.open.OpenCause.TheVariants as Cause
use Rattle.mn_redo.specs.declared.redo.Phase.{Phase}
use Rattle.mn_redo.specs.declared.redo.Phase.TheVariants.{Closing, Fresh, Started}
use Rattle.mn_mini.specs.Laws.{PartsAreApart, ShortKeepsGrammar}
use Rattle.mn_mini.specs.Node.{held_parts}
use Rattle.mn_mini.specs.RecordGrammar.{IsRecord}
use Rattle.mn_mini.specs.Short.{short}
use Rattle.mn_mini.specs.declared.record.Record.{Record}
use Rattle.mn_node.specs.declared.memory.Memory.{Memory}
use Rattle.mn_node.specs.declared.restart.RestartError.{RestartError}
use Rattle.mn_node.specs.declared.restart.RestartError.TheVariants.{Fault, Damaged, NoMemory}
use Rattle.mn_node.specs.declared.restart.Found.{Found}
use Rattle.mn_node.specs.declared.restart.Found.TheVariants.{Own, Longer, AllShortened}
use Rattle.mn_node.specs.Memory.{IsMemory, HasDecisionRoom, HasFront}
use Rattle.mn_node.specs.Node.{IsEither, IsNodeUp, IsLogFor, IsUpToWithOrWithout, added_to, bodies_of, listed, on_disk}
use Rattle.mn_node.specs.Restart.{AreBodiesWithOrWithout, AreOtherBodies, FailsRestart, IsDamage, IsNoLog, RestartLeaves, TellsOtherRecords, error_of}
use Rattle.mn_node.specs.State.{MayBeFound, is_longer, list_of, other_list_of}
use Rattle.mn_node.proofs.Listed.{listed_added, listed_more, listed_sound, up_to_either, up_to_short}
use Rattle.mn_node.proofs.Moments.{still_stands}
use Rattle.mn_node.proofs.Steps.{same_on_disk}

-- whether a log is fresh

pub is_fresh_now : (b : Bool) (P : Type 0) → IsTrue b ↔ P → b ≡ true → P
is_fresh_now b P is e = is.0 e

pub is_started : (phase : Phase) (b : Bool) → IsTrue b ↔ (phase ≡ Fresh) → b ≡ false → phase ≢ Closing → phase ≡ Started
is_started Started b is e going = refl
is_started Closing b is e going = absurd (going refl)
is_started Fresh b is e going = absurd (false≢true (sym e ∙ is.1 refl))

-- laws of the log
abbrev pub OneListStandsThere : Type 0
OneListStandsThere = (node nodes : ℕ) (content : List ℕ) (bodies others : List (List ℕ)) → Stands node nodes content bodies → Stands node nodes content others → bodies ≡ others

abbrev pub NoListWhereDamaged : Type 0
NoListWhereDamaged = (node nodes : ℕ) (content : List ℕ) (at : ℕ) (bodies : List (List ℕ)) → IsDamaged node nodes content at → Stands node nodes content bodies → ⊥

pub no_damage : (node nodes : ℕ) (content : List ℕ) (at : ℕ) (bodies others : List (List ℕ)) → NoListWhereDamaged → IsDamaged node nodes content at → Stands node nodes content bodies ⊎ Stands node nodes content others → ⊥
no_damage node nodes content at bodies others law damaged (inl stands) = law node nodes content at bodies damaged stands
no_damage node nodes content at bodies others law damaged (inr stands) = law node nodes content at others damaged stands

pub not_opened : {D : Type 0} (state : D → DiskState) (faults : D → ℕ) (old new : D) (records : List Record) (pending : Option Record) (cause : OpenCause) → (cause ≡ Cause.Fault → Rose (faults old) (faults new))
    → ((at : ℕ) → cause ≡ Cause.Damaged at → (state old).honest → ⊥) → ((at : ℕ) → cause ≡ Cause.Damaged at → IsNoLog at) → FailsRestart state faults old new records pending (error_of cause)
not_opened state faults old new records pending Cause.Fault rose never place = rose refl
not_opened state faults old new records pending (Cause.Damaged at) rose never place = (never at refl, inl ((refl, refl), place at refl))
not_opened state faults old new records pending Cause.NoMemory rose never place = tt

-- What a comparison says, as a list

-- it is one of those that the disk may have
pub found_stands : (node nodes : ℕ) (m : Memory) (pending : Option Record) (cutting : Bool) (found : Found) → MayBeFound cutting found → (c : List ℕ) → Stands node nodes c (bodies_of (list_of m pending found)) → IsEither node nodes (on_disk m) (other_list_of m pending cutting) c
found_stands node nodes m pending cutting Own may c told = inl told
found_stands node nodes m pending false Longer may c told = inr told
found_stands node nodes m pending true Longer may c told = absurd cc
found_stands node nodes m pending true (AllShortened list) may c told = inr told
found_stands node nodes m pending false (AllShortened list) may c told = absurd cc

-- the pending record was found
pub found_longer : (bodies : List (List ℕ)) (m : Memory) (pending : Option Record) (there : Bool) → there ≡ true → AreBodiesWithOrWithout bodies (on_disk m) pending there → (bodies ≡ bodies_of (list_of m pending Longer)) × IsSome pending
found_longer bodies m (Some r) true is told = (told, refl)
found_longer bodies m None true is told = absurd told
found_longer bodies m pending false is told = absurd cc

pub found_own : (bodies : List (List ℕ)) (m : Memory) (pending : Option Record) (there : Bool) → there ≡ false → AreBodiesWithOrWithout bodies (on_disk m) pending there → bodies ≡ bodies_of (on_disk m)
found_own bodies m pending false is told = told
found_own bodies m pending true is told = absurd cc

pub not_longer : (cutting : Bool) (found : Found) → MayBeFound cutting found → cutting ≡ true → is_longer found ≡ false
not_longer cutting Own may is = refl
not_longer true Longer may is = absurd cc
not_longer false Longer may is = absurd cc
not_longer cutting (AllShortened list) may is = refl

pub listed_records_sound : ShortKeepsGrammar → (cut : ℕ) (records : List Record) (pending : Option Record) → cut ≤ length records → AllByRecursion IsRecord (added_to records pending) → AllByRecursion IsRecord (added_to (listed cut records) pending)
listed_records_sound keeps cut records pending within sound =
    subst (λ (l : List Record). AllByRecursion IsRecord l) (listed_added cut records pending within) (listed_sound keeps cut (added_to records pending) sound)

other : (bodies : List (List ℕ)) (records : List Record) (pending : Option Record) → AreOtherBodies bodies records pending → bodies ≡ bodies_of (added_to records pending) → ⊥
other bodies records None told e = told.0 e
other bodies records (Some r) told e = told.1 e

-- a comparison that says damage tells that the list is not the other
pub not_the_other : (log : FrontState) (records : List Record) (pending : Option Record) (e : RestartError) → TellsOtherRecords log records pending e → IsDamage e → log.bodies ≢ bodies_of (added_to records pending)
not_the_other log records pending Fault told is = absurd is
not_the_other log records pending (Damaged at kept found) told is = other log.bodies records pending told.0
not_the_other log records pending NoMemory told is = absurd is

pub found_alone : (bodies : List (List ℕ)) (list : List Record) (there : Bool) → AreBodiesWithOrWithout bodies list None there → bodies ≡ bodies_of list
found_alone bodies list false e = e
found_alone bodies list true e = absurd e

pub always_error : {T E : Type 0} (r : Result T E) (Q : E → Type 0) → ((e : E) → Q e) → IfErr r Q
always_error (Ok x) Q f = tt
always_error (Err x) Q f = f x

if_ok : {T E : Type 0} {P Q : T → Type 0} (r : Result T E) → ((x : T) → P x → Q x) → IfOk r P → IfOk r Q
if_ok (Ok x) f p = f x p
if_ok (Err x) f p = tt

if_error : {T E : Type 0} {P Q : E → Type 0} (r : Result T E) → ((x : E) → P x → Q x) → IfErr r P → IfErr r Q
if_error (Ok x) f p = tt
if_error (Err x) f p = f x p

pub neither_listed : (r : Result Bool RestartError) (log : FrontState) (m : Memory) (pending : Option Record) (cutting : Bool) → cutting ≡ false → IfErr r (TellsOtherRecords log (on_disk m) pending)
    → IfErr r (λ error. IsDamage error → log.bodies ≢ bodies_of (other_list_of m pending cutting))
neither_listed r log m pending false e told = if_error r (not_the_other log (on_disk m) pending) told
neither_listed r log m pending true e told = absurd cc

pub leaves_apart : (records : List Record) (pending : Option Record) (new : List Record) (there : Bool) → RestartLeaves records pending new there → PartsAreApart (held_parts (reverse records)) → PartsAreApart (held_parts (reverse (added_to records pending)))
    → PartsAreApart (held_parts (reverse new))
leaves_apart records pending new false same apart left = subst (λ (l : List Record). PartsAreApart (held_parts (reverse l))) (sym same) apart
leaves_apart records None new true same apart left = absurd same
leaves_apart records (Some r) new true same apart left = subst (λ (l : List Record). PartsAreApart (held_parts (reverse l))) (sym same) left

-- a memory with the same list

pub same_other : (m after : Memory) (pending : Option Record) (cutting : Bool) → after.records.items ≡ m.records.items → after.cut ≡ m.cut → other_list_of after pending cutting ≡ other_list_of m pending cutting
same_other m after pending true records cut = ap short records
same_other m after pending false records cut = ap (λ (l : List Record). added_to l pending) (same_on_disk m after records cut)

-- what the disk of a node that is down has, by the records alone
pub up_to_found : (node nodes : ℕ) (m : Memory) (pending : Option Record) (cutting : Bool) → m.cut ≤ length m.records.items → (c : List ℕ) → IsEither node nodes (on_disk m) (other_list_of m pending cutting) c
    → IsUpToWithOrWithout node nodes m.records.items pending c
up_to_found node nodes m pending true within c told = up_to_short node nodes c m.cut m.records.items pending within told
up_to_found node nodes m pending false within c told = up_to_either node nodes c m.cut m.records.items pending within told

-- one record more in memory

pub pushed_list : (cut : ℕ) (records pushed : List Record) (r copy : Record) → cut ≤ length records → pushed ≡ records ++ copy ∷ [] → copy ≡ r → listed cut pushed ≡ listed cut records ++ r ∷ []
pushed_list cut records pushed r copy within items same =
    ap (λ (l : List Record). listed cut l) items ∙ ap (λ (x : Record). listed cut (records ++ x ∷ [])) same ∙ listed_more cut records r within

pub always_ok : {T E : Type 0} (r : Result T E) (P : Type 0) → P → OnOk r P
always_ok (Ok x) P p = p
always_ok (Err x) P p = tt

pub then_ok : {T E : Type 0} (r : Result T E) (P Q : Type 0) → (P → Q) → OnOk r P → OnOk r Q
then_ok (Ok x) P Q f p = f p
then_ok (Err x) P Q f p = tt

-- Why it fails

pub neither : (node nodes : ℕ) (content : List ℕ) (bodies : List (List ℕ)) (list others : List Record) → OneListStandsThere → bodies ≢ bodies_of list → bodies ≢ bodies_of others → Stands node nodes content bodies
    → IsEither node nodes list others content → ⊥
neither node nodes content bodies list others law first second stands (inl before) = first (law node nodes content bodies (bodies_of list) stands before)
neither node nodes content bodies list others law first second stands (inr after) = second (law node nodes content bodies (bodies_of others) stands after)

pub not_listed : {D : Type 0} (state : D → DiskState) (faults : D → ℕ) (old new : D) (log : FrontState) (records others : List Record) (pending : Option Record) (e : RestartError)
    → (IsDamage e → log.bodies ≢ bodies_of others) → (log.bodies ≢ bodies_of records → log.bodies ≢ bodies_of others → (state old).honest → ⊥)
    → TellsOtherRecords log records pending e → FailsRestart state faults old new records pending e
not_listed state faults old new log records others pending Fault other never told = absurd told
not_listed state faults old new log records others pending (Damaged at kept found) other never told = (never told.0.0 (other tt), inr (log.start, (log.bodies, told.1)))
not_listed state faults old new log records others pending NoMemory other never told = tt

-- a memory that was made of its records is that of a node that is up, where its log is started
pub up_made : {D : Type 0} (state : D → DiskState) (redo : AppenderState D) (m : Memory) (node nodes : ℕ) (list : List Record) → redo.node ≡ node → redo.nodes ≡ nodes → on_disk m ≡ list → HasFront m → IsMemory m → HasDecisionRoom m
    → redo.phase ≡ Started → IsLogOf state redo (bodies_of list) → ((state redo.disk).honest → StandsFor (state redo.disk) node nodes (bodies_of list)) → vec_len m.held ≤ redo.spare_bodies → 11 * vec_len m.held ≤ redo.spare_bytes → IsNodeUp state redo m
up_made state redo m node nodes list e f same front memory room started log stands spare_bodies spare_bytes = record {
  memory = memory;
  room = room;
  started = started;
  log = subst (λ (l : List Record). IsLogFor state redo (bodies_of l)) (sym same) (record {
    log = log;
    stands = λ h c image. still_stands node redo.node nodes redo.nodes (sym e) (sym f) (bodies_of list) (bodies_of list) refl c (stands h c image);
  });
  front = front;
  spare_bodies = spare_bodies;
  spare_bytes = spare_bytes;
}
