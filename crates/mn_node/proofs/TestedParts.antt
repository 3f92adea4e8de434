-- What the test of a part tells.
use Rattle.std.proofs.Common.{◌≡◌, ℕ, Bool, true, false, List, [], ◌∷◌, Option, Some, None, Result, Ok, Err, IsOk, IfOk, MatchResult, refl, ap, sym, subst, ◌∙◌}
use Rattle.mn_base.specs.declared.error.NoMemory.{NoMemory}
use Rattle.mn_base.specs.declared.ids.Tid.{Tid}
use Rattle.mn_base.specs.declared.ids.Range.{Range}
use Rattle.mn_mini.specs.declared.part.PartItem.{PartItem}
use Rattle.mn_mini.specs.declared.record.Record.{Record}
use Rattle.mn_mini.specs.declared.reply.NodeReply.TheVariants as Say
use Rattle.mn_mini.specs.Flat.{Mismatched, part_reads}
use Rattle.mn_mini.specs.Node.{HeldPart, Clash, clash_of, only_reply, after_locks, after_compares, Response}
use Rattle.mn_mini.specs.RecordGrammar.{IsPart}
use Rattle.mn_locks.specs.declared.hold.Hold.{Hold}
use Rattle.mn_locks.specs.declared.hold.Held.{Held}
use Rattle.mn_locks.specs.Locks.{first_held, held_of}
use Rattle.mn_node.specs.declared.part.Mismatch.{Mismatch}
use Rattle.mn_node.specs.declared.memory.Tested.{Tested}
use Rattle.mn_node.specs.declared.memory.Tested.TheVariants.{Yes}
use Rattle.mn_node.specs.Memory.{IsTested, IsTestedFree}
use Rattle.mn_node.specs.Part.{shared_of, alone_of, holds_by, as_clash, IsMismatch}
use Rattle.mn_node.proofs.Ties.{tie}

-- the clash that the table tells
pub clash_is : (hs : List HeldPart) (holds : List Hold) (tid : Tid) (part : List PartItem) (reads writes : List Range) (x : Option Held)
    → IsPart part → reads ≡ shared_of part → writes ≡ alone_of part → held_of holds tid reads writes ≡ x → holds ≡ holds_by hs → clash_of hs tid part ≡ as_clash x
clash_is hs holds tid part reads writes x is e f told h =
    sym (tie hs tid 1 part is.order)
    ∙ ap as_clash
    (sym (ap (λ (l : List Hold). held_of l tid reads writes) h ∙ ap (λ (l : List Range). held_of (holds_by hs) tid l writes) e ∙ ap (λ (l : List Range). held_of (holds_by hs) tid (shared_of part) l) f) ∙ told)

pub differs_is : (space : List ℕ) (part : List PartItem) (added : Option Record) (m : Option Mismatched) (found : Option Mismatch) (d : Mismatch) → IsMismatch m found → found ≡ Some d
    → after_compares space part added m ≡ only_reply (Say.BadCompare d.item d.found)
differs_is space part added m found d is e = of m (let P : Option Mismatch → Type 0 = λ x. IsMismatch m x in subst P e is)
  where
    of : (m : Option Mismatched) → IsMismatch m (Some d) → after_compares space part added m ≡ only_reply (Say.BadCompare d.item d.found)
    of None is = absurd is
    of (Some at) is = sym (ap (λ (n : ℕ). only_reply (Say.BadCompare n d.found)) is.0 ∙ ap (λ (l : List ℕ). only_reply (Say.BadCompare at.item l)) is.1)

pub done_is : (space : List ℕ) (part : List PartItem) (added : Option Record) (m : Option Mismatched) (found : Option Mismatch) (reads : List (List ℕ)) → IsMismatch m found → found ≡ None → reads ≡ part_reads space part
    → after_compares space part added m ≡ record { reply = Say.Done reads; added = added }
done_is space part added m found reads is e same = of m (let P : Option Mismatch → Type 0 = λ x. IsMismatch m x in subst P e is)
  where
    of : (m : Option Mismatched) → IsMismatch m None → after_compares space part added m ≡ record { reply = Say.Done reads; added = added }
    of None is = ap (λ (l : List (List ℕ)). let r : Response = record { reply = Say.Done l; added = added } in r) (sym same)
    of (Some at) is = absurd is

-- Parts that conflict with none that is held

-- where nothing is held no range conflicts
none_first : (tid : Tid) (alone : Bool) (ranges : List Range) (rest : Option Held) → first_held [] tid alone ranges rest ≡ rest
none_first tid alone [] rest = refl
none_first tid alone (range ∷ ranges) rest = none_first tid alone ranges rest

none_held : (tid : Tid) (reads writes : List Range) → held_of [] tid reads writes ≡ None
none_held tid reads writes = none_first tid false reads (first_held [] tid true writes None) ∙ none_first tid true writes None

pub none_clash : (hs : List HeldPart) (holds : List Hold) (tid : Tid) (part : List PartItem) → IsPart part → holds ≡ [] → holds ≡ holds_by hs → clash_of hs tid part ≡ None
none_clash hs holds tid part is none h =
    let told = ap (λ (l : List Hold). held_of l tid (shared_of part) (alone_of part)) none ∙ none_held tid (shared_of part) (alone_of part) in
    clash_is hs holds tid part (shared_of part) (alone_of part) None is refl refl told h

-- there the compares tell alone
pub free_tested : (space : List ℕ) (holds : List Hold) (tid : Tid) (part : List PartItem) (r : Result Tested NoMemory)
    → ((hs : List HeldPart) → holds ≡ holds_by hs → clash_of hs tid part ≡ None) → IfOk r (IsTestedFree space part) → IfOk r (IsTested space holds tid part)
free_tested space holds tid part (Ok tested) free is = λ hs h added. ap (λ (x : Option Clash). after_locks space part added x) (free hs h) ∙ is added
free_tested space holds tid part (Err e) free is = tt

none_is_some : (clash : Clash) → Some clash ≡ None → ⊥
none_is_some clash e = cc

-- a part that conflicts with none that is held is not refused
pub not_held : (hs : List HeldPart) (holds : List Hold) (tid : Tid) (part : List PartItem) (reads writes : List Range) (held : Held)
    → IsPart part → reads ≡ shared_of part → writes ≡ alone_of part → holds ≡ holds_by hs → clash_of hs tid part ≡ None → held_of holds tid reads writes ≡ Some held → ⊥
not_held hs holds tid part reads writes held is e f h free told =
    let clash = clash_is hs holds tid part reads writes (Some held) is e f told h in
    none_is_some (record { range = held.range; holder = held.holder }) (sym clash ∙ free)

pub is_ok_of : (r : Result (Unit {0}) Held) (P : Type 0) (Q : Held → Type 0) → MatchResult r (λ _. P) Q → ((held : Held) → Q held → ⊥) → IsOk r
is_ok_of (Ok x) P Q told never = refl
is_ok_of (Err held) P Q told never = absurd (never held told)

-- a part that was tested with yes conflicts with none that is held
pub free_of : (space : List ℕ) (holds : List Hold) (tid : Tid) (part : List PartItem) (reads : List (List ℕ)) (hs : List HeldPart) → IsTested space holds tid part (Yes reads) → holds ≡ holds_by hs → clash_of hs tid part ≡ None
free_of space holds tid part reads hs tested h = of (clash_of hs tid part) (tested hs h None)
  where
    of : (x : Option Clash) → after_locks space part None x ≡ record { reply = Say.Done reads; added = None } → x ≡ None
    of None e = refl
    of (Some clash) e = let never = ap (λ (r : Response). r.reply) e in cc
