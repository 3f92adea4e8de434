-- Decisions that are owed.
use Rattle.std.proofs.Common.{◌≡◌, ℕ, ◌+◌, ◌<◌, ◌≤◌, ◌⊎◌, ◌^◌, Bool, true, false, not, ◌&&◌, ◌||◌, Option, Some, None, List, [], ◌∷◌, ◌++◌, length, reverse, map, refl, sym, ap, ◌∙◌, subst, inl, inr, ⊎_elim, arith, length-append, if◌then◌else◌}
use Rattle.std.specs.List.{list_any}
use Rattle.std.specs.Option.{option_map_or}
use Rattle.std.proofs.lemmas.List.{reverse-append, map-append}
use Rattle.std.proofs.lemmas.Bool.Decides.{nat_tests}
use Rattle.std.proofs.lemmas.List.Folds.{list_any-append}
use Rattle.mn_base.specs.Ids.{client_same, tid_same}
use Rattle.mn_base.specs.declared.ids.ClientNo.{ClientNo}
use Rattle.mn_base.specs.declared.ids.Tid.{Tid}
use Rattle.mn_base.proofs.Booleans.{or_left, or_right}
use Rattle.mn_mini.specs.declared.request.Request.{Request}
use Rattle.mn_mini.specs.declared.request.Request.TheVariants as Ask
use Rattle.mn_mini.specs.declared.reply.NodeReply.{NodeReply}
use Rattle.mn_runs.specs.declared.entry.Entry.{Entry}
use Rattle.mn_runs.specs.declared.entry.What.{What}
use Rattle.mn_runs.specs.declared.entry.What.TheVariants.{Begin, Issue, Called, Stopped, Restarted, Abandoned, Answered}
use Rattle.mn_runs.specs.Protocol.{entries_of}
use Rattle.mn_cell.specs.declared.owing.Owed.{Owed}
use Rattle.mn_cell.specs.Promises.{is_owed_to, owes, owed_without, is_owed, owed_after, is_id, voted_in, decided_in, voted_by, decided_by, IsOwed, IsOwing, OwesTo}

-- the newest entry of a list that grew
pub newest_entry : (l : List (ℕ × Entry)) (p : ℕ) (e : Entry) → entries_of (l ++ (p, e) ∷ []) ≡ e ∷ entries_of l
newest_entry l p e = ap (λ (m : List Entry). reverse m) (map-append (λ (x : ℕ × Entry). x.1) l ((p, e) ∷ [])) ∙ reverse-append (map (λ (x : ℕ × Entry). x.1) l) (e ∷ [])

-- How many there are

kept_no_longer : (b : Bool) (o : Owed) (os ps : List Owed) → length ps ≤ length os → length (if not b then o ∷ ps else ps) ≤ length (o ∷ os)
kept_no_longer true o os ps le = omega (arith, le)
kept_no_longer false o os ps le = omega (arith, le)

no_longer : (tid : Tid) (c : ClientNo) (os : List Owed) → length (owed_without tid c os) ≤ length os
no_longer tid c [] = omega arith
no_longer tid c (o ∷ os) = kept_no_longer (is_owed_to tid c o) o os (owed_without tid c os) (no_longer tid c os)

kept_shorter : (b w : Bool) (o : Owed) (os ps : List Owed) → (b || w) ≡ true → length ps ≤ length os → (w ≡ true → length ps < length os) → length (if not b then o ∷ ps else ps) < length (o ∷ os)
kept_shorter true w o os ps is le lt = omega (arith, le)
kept_shorter false w o os ps is le lt = omega (arith, lt is)

shorter : (tid : Tid) (c : ClientNo) (os : List Owed) → owes tid c os ≡ true → length (owed_without tid c os) < length os
shorter tid c [] is = absurd (cc)
shorter tid c (o ∷ os) is = kept_shorter (is_owed_to tid c o) (owes tid c os) o os (owed_without tid c os) is (no_longer tid c os) (shorter tid c os)

pub one_more : (c : Option ClientNo) (decided voted : Option Tid) (os : List Owed) → length (owed_after c decided voted os) ≤ length os + 1
one_more None decided voted os = omega arith
one_more (Some c) (Some tid) voted os = omega (arith, no_longer tid c os)
one_more (Some c) None (Some tid) os = omega (arith, length-append os (record { tid = tid; client = c } ∷ []))
one_more (Some c) None None os = omega arith

pub one_less : (c : Option ClientNo) (decided voted : Option Tid) (os : List Owed) → OwesTo c decided os → length (owed_after c decided voted os) < length os
one_less None decided voted os owes = absurd owes
one_less (Some c) None voted os owes = absurd owes
one_less (Some c) (Some tid) voted os owes = shorter tid c os owes

-- Which there are

-- a step that is a vote decides nothing
apart_request : (request : Request) (reply : NodeReply) (t : Tid) → decided_by request ≡ Some t → voted_by request reply ≡ None
apart_request (Ask.Prepare tid participants part) reply t is = absurd (cc)
apart_request (Ask.Exec tid part) reply t is = refl
apart_request (Ask.Decide tid verdict) reply t is = refl
apart_request (Ask.Force tid) reply t is = absurd (cc)
apart_request Ask.List reply t is = refl
apart_request (Ask.Peek start size) reply t is = refl

apart : (what : What) (t : Tid) → decided_in what ≡ Some t → voted_in what ≡ None
apart (Called request reply) t is = apart_request request reply t is
apart (Stopped request asked) t is = refl
apart (Begin number op) t is = refl
apart (Issue tid mini) t is = refl
apart (Restarted kept) t is = refl
apart (Abandoned tid) t is = refl
apart (Answered number answer) t is = refl

-- one that isn't left out stays
kept_stays : (p : Owed → Bool) (w : Bool) (o : Owed) (os ps : List Owed) → (p o ≡ true → w ≡ false) → (p o || list_any p os) ≡ true → (list_any p os ≡ true → list_any p ps ≡ true) → list_any p (if not w then o ∷ ps else ps) ≡ true
kept_stays p w o os ps other is rest = by (p o) w refl refl other is
  where
    by : (b v : Bool) → p o ≡ b → w ≡ v → (b ≡ true → v ≡ false) → (b || list_any p os) ≡ true → list_any p (if not v then o ∷ ps else ps) ≡ true
    by true true b v other is = let no : true ≡ false = other refl in absurd (cc)
    by true false b v other is = rw b refl
    by false true b v other is = rest is
    by false false b v other is = rw b (rest is)

stays : (tid t : Tid) (c d : ClientNo) (os : List Owed) → ((o : Owed) → is_owed_to tid c o ≡ true → is_owed_to t d o ≡ false) → owes tid c os ≡ true → owes tid c (owed_without t d os) ≡ true
stays tid t c d [] other is = is
stays tid t c d (o ∷ os) other is = kept_stays (is_owed_to tid c) (is_owed_to t d o) o os (owed_without t d os) (other o) is (stays tid t c d os other)

by_fields : (o : Owed) (tid t : Tid) (c d : ClientNo) → (tid_same t tid && client_same c d) ≡ false → is_owed_to tid c o ≡ true → is_owed_to t d o ≡ false
by_fields o tid t c d differ is = grind (arith, nat_tests, differ, is)

-- owed before, and not decided by this step
left_over : (same before is : Bool) → (if same then false || (before && not is) else before) ≡ true → (before ≡ true) × ((is && same) ≡ false)
left_over true true true e = absurd (cc)
left_over true true false e = (refl, refl)
left_over true false is e = absurd (cc)
left_over false true true e = (refl, refl)
left_over false true false e = (refl, refl)
left_over false false is e = absurd (cc)

-- owed before, or the vote is this step
voted_now : (same before is : Bool) → (if same then is || (before && true) else before) ≡ true → (before ≡ true) ⊎ ((is ≡ true) × (same ≡ true))
voted_now true true is e = inl refl
voted_now true false true e = inr (refl, refl)
voted_now true false false e = absurd (cc)
voted_now false true is e = inl refl
voted_now false false is e = absurd (cc)

at_end : (tid t : Tid) (c d : ClientNo) → tid_same t tid ≡ true → client_same c d ≡ true → ((tid_same t tid && client_same d c) || false) ≡ true
at_end tid t c d same by = grind (arith, nat_tests, same, by)

after_step : (by : Option ClientNo) (decided voted : Option Tid) → ((t : Tid) → decided ≡ Some t → voted ≡ None) → (before : Bool) (tid : Tid) (c : ClientNo) (os : List Owed) → (before ≡ true → owes tid c os ≡ true)
    → (if option_map_or (client_same c) by false then is_id tid voted || (before && not (is_id tid decided)) else before) ≡ true → owes tid c (owed_after by decided voted os) ≡ true
after_step None decided voted none before tid c os owed is = owed is
after_step (Some d) (Some t) (Some u) none before tid c os owed is = let no : Some u ≡ None = none t refl in absurd (cc)
after_step (Some d) (Some t) None none before tid c os owed is =
    let left = left_over (client_same c d) before (tid_same t tid) is in
    stays tid t c d os (λ o. by_fields o tid t c d left.1) (owed left.0)
after_step (Some d) None (Some t) none before tid c os owed is =
    let more : Owed = record { tid = t; client = d } in
    list_any-append (is_owed_to tid c) os (more ∷ []) ∙ ⊎_elim (λ b. or_left (owes tid c os) (owes tid c (more ∷ [])) (owed b)) (λ v. or_right (owes tid c os) (owes tid c (more ∷ [])) (at_end tid t c d v.0 v.1)) (voted_now (client_same c d) before (tid_same t tid) is)
after_step (Some d) None None none before tid c os owed is = owed (left_over (client_same c d) before false is).0

-- each decision that is owed is there
abbrev pub OwedAreListed : List Entry → List Owed → Type 0
OwedAreListed es os = (tid : Tid) (c : ClientNo) → is_owed tid c es ≡ true → owes tid c os ≡ true

pub covers : (e : Entry) (es : List Entry) (os : List Owed) → OwedAreListed es os → OwedAreListed (e ∷ es) (owed_after e.client (decided_in e.what) (voted_in e.what) os)
covers e es os owed tid c is = after_step e.client (decided_in e.what) (voted_in e.what) (apart e.what) (is_owed tid c es) tid c os (owed tid c) is

-- what is owed a list after one entry more
pub owing_more : (list : List (ℕ × Entry)) (p : ℕ) (e : Entry) (size : ℕ) (os : List Owed) → IsOwing list size os → IsOwing (list ++ (p, e) ∷ []) (size + 1) (owed_after e.client (decided_in e.what) (voted_in e.what) os)
owing_more list p e size os owing = record {
  counted = ap (λ n. n + 1) owing.counted ∙ sym (length-append list ((p, e) ∷ []));
  covered = λ tid c is. covers e (entries_of list) os owing.covered tid c (ap (λ (m : List Entry). is_owed tid c m) (sym (newest_entry list p e)) ∙ is);
}

pub owing_stays : (list : List (ℕ × Entry)) (size size' : ℕ) (os os' : List Owed) → IsOwing list size os → size' ≡ size → os' ≡ os → IsOwing list size' os'
owing_stays list size size' os os' owing is same = subst (λ n. IsOwing list n os') (sym is) (subst (λ (o : List Owed). IsOwing list size o) (sym same) owing)

-- the room after one entry more
pub room_after : (size count count' spare : ℕ) (O : Type 0) → size + count ≤ 2 ^ 57 → count' ≤ count + 1 → (O → count' < count) → ((size + count + 2 ≤ 2 ^ 57) × (0 < spare)) ⊎ O → size + 1 + count' ≤ 2 ^ 57
room_after size count count' spare O short more less (inl room) = omega (arith, room.0)
room_after size count count' spare O short more less (inr o) = omega (arith, less o)

-- a decision that the list owes is among those that are kept
pub owes_what_is_owed : (list : List (ℕ × Entry)) (size : ℕ) (os : List Owed) → IsOwing list size os → (c : ClientNo) (decided : Option Tid) → IsOwed (Some c) decided (entries_of list) → OwesTo (Some c) decided os
owes_what_is_owed list size os owing c None owed = absurd owed
owes_what_is_owed list size os owing c (Some tid) owed = owing.covered tid c owed
