-- What nodes hold, while records are added that are no votes.
use Rattle.std.proofs.Common.{◌≡◌, ℕ, ◌<◌, Bool, true, false, not, ◌&&◌, ◌||◌, List, [], ◌∷◌, ◌++◌, Option, Some, None, is_some, refl, sym, ap, ◌∙◌, subst, inl, inr, if◌then◌else◌}
use Rattle.std.specs.Prelude.{Contains}
use Rattle.std.specs.List.{AllByRecursion}
use Rattle.std.proofs.lemmas.List.{append_assoc}
use Rattle.std.proofs.lemmas.List.Elements.{All-contains, All-from_recursion}
use Rattle.std.proofs.lemmas.Bool.{lt-ltb}
use Rattle.mn_base.specs.Ids.{tid_lt, tid_same}
use Rattle.mn_base.specs.declared.ids.NodeNo.{NodeNo}
use Rattle.mn_base.specs.declared.ids.Tid.{Tid}
use Rattle.mn_base.proofs.Lists.{all_append, weaker}
use Rattle.mn_mini.specs.declared.doubt.Doubt.{Doubt}
use Rattle.mn_mini.specs.declared.record.Record.{Record}
use Rattle.mn_mini.specs.declared.record.Record.TheVariants.{Voted, Executed, Decided, Forced}
use Rattle.mn_mini.specs.declared.request.Request.{Request}
use Rattle.mn_mini.specs.declared.request.Request.TheVariants as Ask
use Rattle.mn_mini.specs.declared.reply.NodeReply.TheVariants as Say
use Rattle.mn_mini.specs.Node.{HeldPart, answer, doubts_of, has_forced, has_voted, held_part_of, held_parts, is_held, is_of, only_reply, with_added, with_doubt, without_tid}
use Rattle.mn_runs.specs.Calls.{lists_doubt}
use Rattle.mn_runs.specs.Sound.{AreInPlace, AreSound, has_record, voted_participants}
use Rattle.mn_runs.proofs.Same.{tid_same-refl, tid_same-true}
use Rattle.mn_callers.specs.Closing.{AreHeldIn, Extends, IsDone, IsNoVote, IsPassedOver, WasFound, WasPassedOver, are_nodes, listed_in}
use Rattle.mn_callers.specs.Desks.{IsRecoveryCall}
use Rattle.mn_callers.proofs.Turns.{by_flag}

-- Records that are no votes

pub extends_none : (records : List Record) → Extends records records
extends_none records = record { added = []; no_votes = tt; is = refl }

pub extends_twice : (a b c : List Record) → Extends a b → Extends b c → Extends a c
extends_twice a b c one two = record {
  added = two.added ++ one.added;
  no_votes = all_append IsNoVote two.added one.added two.no_votes one.no_votes;
  is = two.is ∙ (ap (λ (l : List Record). two.added ++ l) one.is ∙ sym (append_assoc two.added one.added a));
}

pub extends_same : (a b : List Record) → b ≡ a → Extends a b
extends_same a b is = record { added = []; no_votes = tt; is = is }

-- What holds of all that is held

all_without : (P : HeldPart → Type 0) (tid : Tid) (hs : List HeldPart) → AllByRecursion P hs → AllByRecursion P (without_tid tid hs)
all_without P tid [] all = tt
all_without P tid (h ∷ hs) all = either (tid_same h.tid tid) (all_without P tid hs all.1)
  where
    either : (b : Bool) → AllByRecursion P (without_tid tid hs) → AllByRecursion P (if b then without_tid tid hs else h ∷ without_tid tid hs)
    either true rest = rest
    either false rest = (all.0, rest)

still_all : (P : HeldPart → Type 0) (added older : List Record) → AllByRecursion IsNoVote added → AllByRecursion P (held_parts older) → AllByRecursion P (held_parts (added ++ older))
still_all P [] older none all = all
still_all P (Voted tid ps part ∷ added) older none all = absurd none.0
still_all P (Executed tid part ∷ added) older none all = still_all P added older none.1 all
still_all P (Decided tid verdict ∷ added) older none all = all_without P tid (held_parts (added ++ older)) (still_all P added older none.1 all)
still_all P (Forced tid ∷ added) older none all = still_all P added older none.1 all

pub held_still : (P : HeldPart → Type 0) (older newer : List Record) → Extends older newer → AllByRecursion P (held_parts older) → AllByRecursion P (held_parts newer)
held_still P older newer ext all = subst (λ (l : List Record). AllByRecursion P (held_parts l)) (sym ext.is) (still_all P ext.added older ext.no_votes all)

-- An id that isn't held

abbrev IsOther : Tid → HeldPart → Type 0
IsOther tid h = tid_same h.tid tid ≡ false

none_of : (tid : Tid) (hs : List HeldPart) → AllByRecursion (IsOther tid) hs → is_some (held_part_of tid hs) ≡ false
none_of tid [] all = refl
none_of tid (h ∷ hs) all = ap (λ b. is_some (if b then Some h else held_part_of tid hs)) all.0 ∙ none_of tid hs all.1

others_of : (tid : Tid) (hs : List HeldPart) → is_some (held_part_of tid hs) ≡ false → AllByRecursion (IsOther tid) hs
others_of tid [] unheld = tt
others_of tid (h ∷ hs) unheld = either (tid_same h.tid tid) refl unheld (others_of tid hs)
  where
    either : (b : Bool) → tid_same h.tid tid ≡ b → is_some (if b then Some h else held_part_of tid hs) ≡ false → (is_some (held_part_of tid hs) ≡ false → AllByRecursion (IsOther tid) hs) → AllByRecursion (IsOther tid) (h ∷ hs)
    either true is off rest = absurd (cc)
    either false is off rest = (is, rest off)

-- a part of an id that is held
held_gives : (P : HeldPart → Type 0) (tid : Tid) (hs : List HeldPart) → is_some (held_part_of tid hs) ≡ true → AllByRecursion P hs → (h : HeldPart) × (tid_same h.tid tid ≡ true) × P h
held_gives P tid [] held all = absurd (cc)
held_gives P tid (h ∷ hs) held all = either (tid_same h.tid tid) refl held (λ more. held_gives P tid hs more all.1)
  where
    either : (b : Bool) → tid_same h.tid tid ≡ b → is_some (if b then Some h else held_part_of tid hs) ≡ true → (is_some (held_part_of tid hs) ≡ true → (k : HeldPart) × (tid_same k.tid tid ≡ true) × P k) → (k : HeldPart) × (tid_same k.tid tid ≡ true) × P k
    either true is more rest = (h, is, all.0)
    either false is more rest = rest more

pub unheld_still : (tid : Tid) (older newer : List Record) → Extends older newer → is_held older tid ≡ false → is_held newer tid ≡ false
unheld_still tid older newer ext not = none_of tid (held_parts newer) (held_still (IsOther tid) older newer ext (others_of tid (held_parts older) not))

-- a decision ends it
without_other : (tid : Tid) (hs : List HeldPart) → AllByRecursion (IsOther tid) (without_tid tid hs)
without_other tid [] = tt
without_other tid (h ∷ hs) = either (tid_same h.tid tid) refl (without_other tid hs)
  where
    either : (b : Bool) → tid_same h.tid tid ≡ b → AllByRecursion (IsOther tid) (without_tid tid hs) → AllByRecursion (IsOther tid) (if b then without_tid tid hs else h ∷ without_tid tid hs)
    either true is rest = rest
    either false is rest = (is, rest)

pub decided_unheld : (base : List ℕ) (records : List Record) (tid : Tid) (verdict : Bool) → is_held (with_added (answer base records (Ask.Decide tid verdict)).added records) tid ≡ false
decided_unheld base records tid verdict = either (is_held records tid) refl
  where
    either : (b : Bool) → is_held records tid ≡ b → is_held (with_added (if b then Some (Decided tid verdict) else None) records) tid ≡ false
    either true is = none_of tid (without_tid tid (held_parts records)) (without_other tid (held_parts records))
    either false is = is

-- Requests of a recovery

added_extends : (records : List Record) (added : Option Record) → ((r : Record) → added ≡ Some r → IsNoVote r) → Extends records (with_added added records)
added_extends records None no_vote = extends_none records
added_extends records (Some r) no_vote = record { added = r ∷ []; no_votes = (no_vote r refl, tt); is = refl }

-- what it adds is no vote
pub recovery_extends : (base : List ℕ) (records : List Record) (request : Request) → IsRecoveryCall request → Extends records (with_added (answer base records request).added records)
recovery_extends base records (Ask.Prepare tid ps part) is = absurd is
recovery_extends base records (Ask.Exec tid part) is = absurd is
recovery_extends base records (Ask.Decide tid verdict) is = either (is_held records tid)
  where
    either : (b : Bool) → Extends records (with_added (if b then Some (Decided tid verdict) else None) records)
    either true = record { added = Decided tid verdict ∷ []; no_votes = (tt, tt); is = refl }
    either false = extends_none records
recovery_extends base records (Ask.Force tid) is = voted (has_voted records tid)
  where
    forced : (b : Bool) → Extends records (with_added (if b then None else Some (Forced tid)) records)
    forced true = extends_none records
    forced false = record { added = Forced tid ∷ []; no_votes = (tt, tt); is = refl }

    voted : (b : Bool) → Extends records (with_added (if b then only_reply (Say.Vote true) else record { reply = Say.Vote false; added = if has_forced records tid then None else Some (Forced tid) }).added records)
    voted true = extends_none records
    voted false = forced (has_forced records tid)
recovery_extends base records Ask.List is = extends_none records
recovery_extends base records (Ask.Peek from size) is = absurd is

-- a node that answers a Force votes
pub force_votes : (base : List ℕ) (records : List Record) (tid : Tid) → (verdict : Bool) × ((answer base records (Ask.Force tid)).reply ≡ Say.Vote verdict)
force_votes base records tid = either (has_voted records tid)
  where
    either : (b : Bool) → (verdict : Bool) × ((if b then only_reply (Say.Vote true) else record { reply = Say.Vote false; added = if has_forced records tid then None else Some (Forced tid) }).reply ≡ Say.Vote verdict)
    either true = (true, refl)
    either false = (false, refl)

-- Lists of ids

-- each doubt is of a part that is held
with_all : (P : Doubt → Type 0) (d : Doubt) (ds : List Doubt) → P d → AllByRecursion P ds → AllByRecursion P (with_doubt d ds)
with_all P d [] one all = (one, tt)
with_all P d (e ∷ ds) one all = either (tid_lt d.tid e.tid) (with_all P d ds one all.1)
  where
    either : (b : Bool) → AllByRecursion P (with_doubt d ds) → AllByRecursion P (if b then d ∷ (e ∷ ds) else e ∷ with_doubt d ds)
    either true rest = (one, all)
    either false rest = (all.0, rest)

pub all_doubts : (P : Doubt → Type 0) (hs : List HeldPart) → AllByRecursion (λ h. P (record { tid = h.tid; participants = h.participants })) hs → AllByRecursion P (doubts_of hs)
all_doubts P [] all = tt
all_doubts P (h ∷ hs) all = with_all P _ (doubts_of hs) all.0 (all_doubts P hs all.1)

-- and the other way round
all_with : (P : Doubt → Type 0) (d : Doubt) (ds : List Doubt) → AllByRecursion P (with_doubt d ds) → P d × AllByRecursion P ds
all_with P d [] all = (all.0, tt)
all_with P d (e ∷ ds) all = either (tid_lt d.tid e.tid) all (all_with P d ds)
  where
    either : (b : Bool) → AllByRecursion P (if b then d ∷ (e ∷ ds) else e ∷ with_doubt d ds) → (AllByRecursion P (with_doubt d ds) → P d × AllByRecursion P ds) → P d × AllByRecursion P (e ∷ ds)
    either true these rest = (these.0, these.1)
    either false these rest = let more = rest these.1 in (more.0, (these.0, more.1))

pub all_from_doubts : (P : Doubt → Type 0) (hs : List HeldPart) → AllByRecursion P (doubts_of hs) → AllByRecursion (λ h. P (record { tid = h.tid; participants = h.participants })) hs
all_from_doubts P [] all = tt
all_from_doubts P (h ∷ hs) all = let rest = all_with P _ (doubts_of hs) all in (rest.0, all_from_doubts P hs rest.1)

-- an id that is not listed is of no doubt
unlisted : (tid : Tid) (ds : List Doubt) → lists_doubt tid ds ≡ None → AllByRecursion (λ d. tid_same d.tid tid ≡ false) ds
unlisted tid [] none = tt
unlisted tid (d ∷ ds) none = either (tid_same d.tid tid) refl none (unlisted tid ds)
  where
    either : (b : Bool) → tid_same d.tid tid ≡ b → (if b then Some d.participants else lists_doubt tid ds) ≡ None → (lists_doubt tid ds ≡ None → AllByRecursion (λ e. tid_same e.tid tid ≡ false) ds)
        → AllByRecursion (λ e. tid_same e.tid tid ≡ false) (d ∷ ds)
    either true is off rest = absurd (cc)
    either false is off rest = (is, rest off)

-- what is listed for an id holds as far as it does of each of its doubts
pub listed_all : (P : List NodeNo → Type 0) (tid : Tid) (ds : List Doubt) → AllByRecursion (λ d. tid_same d.tid tid ≡ true → P d.participants) ds → (ps : List NodeNo) → lists_doubt tid ds ≡ Some ps → P ps
listed_all P tid [] all ps is = absurd (cc)
listed_all P tid (d ∷ ds) all ps is = either (tid_same d.tid tid) refl is (listed_all P tid ds all.1 ps)
  where
    either : (b : Bool) → tid_same d.tid tid ≡ b → (if b then Some d.participants else lists_doubt tid ds) ≡ Some ps → (lists_doubt tid ds ≡ Some ps → P ps) → P ps
    either true same found rest = let e : d.participants ≡ ps = cc in subst P e (all.0 same)
    either false same found rest = rest found

-- Records in place

module _ (nodes : ℕ) (n : NodeNo) where
  in_place_rest : (added older : List Record) → AreInPlace nodes n (added ++ older) → AreInPlace nodes n older
  in_place_rest [] older place = place
  in_place_rest (r ∷ added) older place = in_place_rest added older place.1

  pub in_place_before : (older newer : List Record) → Extends older newer → AreInPlace nodes n newer → AreInPlace nodes n older
  in_place_before older newer ext place = in_place_rest ext.added older (subst (λ (l : List Record). AreInPlace nodes n l) ext.is place)

  -- each part that is held is of the one vote for its id, whose participants are nodes of the
  -- space, this one among them
  pub record IsVoted (records : List Record) (h : HeldPart) : Type 0 where
    pub recorded : has_record records h.tid ≡ true
    pub voted : voted_participants h.tid records ≡ Some h.participants
    pub own : Contains h.participants n
    pub below : AllByRecursion (λ m. m.0 < nodes) h.participants

  -- a record of another id in front changes nothing of that
  apart : (t : Tid) (older : List Record) (h : HeldPart) → has_record older t ≡ false → has_record older h.tid ≡ true → tid_same t h.tid ≡ false
  apart t older h none some = by_flag (tid_same t h.tid)
      (λ is. let no : true ≡ false = sym some ∙ (ap (λ (u : Tid). has_record older u) (sym (tid_same-true t h.tid is)) ∙ none) in absurd (cc))
      (λ off. off)

  or_right : (a b : Bool) → b ≡ true → (a || b) ≡ true
  or_right true b is = refl
  or_right false b is = is

  -- a record in front that is no vote of the id
  pass : (r : Record) (older : List Record) → (h : HeldPart) → voted_participants h.tid (r ∷ older) ≡ voted_participants h.tid older → IsVoted older h → IsVoted (r ∷ older) h
  pass r older h same is = record { recorded = or_right (is_of h.tid r) (has_record older h.tid) is.recorded; voted = same ∙ is.voted; own = is.own; below = is.below }

  pub held_voted : (records : List Record) → AreInPlace nodes n records → AllByRecursion (IsVoted records) (held_parts records)
  held_voted [] place = tt
  held_voted (Voted t ps part ∷ older) place =
      let h : HeldPart = record { tid = t; participants = ps; part = part } in
      let same = tid_same-refl t in (
        record {
          recorded = ap (λ (b : Bool). b || has_record older t) same;
          voted = ap (λ (b : Bool). if b then Some ps else voted_participants t older) same;
          own = place.0.2;
          below = place.0.1;
        },
        weaker (IsVoted older) (IsVoted (Voted t ps part ∷ older))
            (λ k is. pass (Voted t ps part) older k (ap (λ (b : Bool). if b then Some ps else voted_participants k.tid older) (apart t older k place.0.0 is.recorded)) is)
            (held_parts older) (held_voted older place.1),
      )
  held_voted (Executed t part ∷ older) place = weaker (IsVoted older) (IsVoted (Executed t part ∷ older)) (λ k is. pass (Executed t part) older k refl is) (held_parts older) (held_voted older place.1)
  held_voted (Decided t verdict ∷ older) place =
      weaker (IsVoted older) (IsVoted (Decided t verdict ∷ older)) (λ k is. pass (Decided t verdict) older k refl is) (without_tid t (held_parts older)) (all_without (IsVoted older) t (held_parts older) (held_voted older place.1))
  held_voted (Forced t ∷ older) place = weaker (IsVoted older) (IsVoted (Forced t ∷ older)) (λ k is. pass (Forced t) older k refl is) (held_parts older) (held_voted older place.1)

  -- what records in place list for an id are the participants of its vote
  pub listed_voted : (tid : Tid) (records : List Record) → AreInPlace nodes n records → (ps : List NodeNo) → listed_in tid records ≡ Some ps → voted_participants tid records ≡ Some ps
  listed_voted tid records place ps is =
      listed_all (λ qs. voted_participants tid records ≡ Some qs) tid (doubts_of (held_parts records))
      (all_doubts (λ d. tid_same d.tid tid ≡ true → voted_participants tid records ≡ Some d.participants) (held_parts records)
      (weaker (IsVoted records) (λ h. tid_same h.tid tid ≡ true → voted_participants tid records ≡ Some h.participants)
      (λ h voted same. subst (λ (t : Tid). voted_participants t records ≡ Some h.participants) (tid_same-true h.tid tid same) voted.voted)
      (held_parts records) (held_voted records place)))
      ps is

-- votes stay
vote_stays : (tid : Tid) (added older : List Record) → AllByRecursion IsNoVote added → voted_participants tid (added ++ older) ≡ voted_participants tid older
vote_stays tid [] older none = refl
vote_stays tid (Voted t ps part ∷ added) older none = absurd none.0
vote_stays tid (Executed t part ∷ added) older none = vote_stays tid added older none.1
vote_stays tid (Decided t verdict ∷ added) older none = vote_stays tid added older none.1
vote_stays tid (Forced t ∷ added) older none = vote_stays tid added older none.1

pub votes_stay : (tid : Tid) (older newer : List Record) → Extends older newer → voted_participants tid newer ≡ voted_participants tid older
votes_stay tid older newer ext = ap (λ (l : List Record). voted_participants tid l) ext.is ∙ vote_stays tid ext.added older ext.no_votes

-- How far a recovery has come, while further records are added

module _ (nodes : ℕ) (tid : Tid) (lists lists' : NodeNo → List Record) (ext : (n : NodeNo) → Extends (lists n) (lists' n)) where
  pub passed_still : (n : NodeNo) → WasPassedOver nodes tid (lists n) → WasPassedOver nodes tid (lists' n)
  passed_still n was = record { before = was.before; since = extends_twice was.before (lists n) (lists' n) was.since (ext n); passed = was.passed }

  pub found_still : (ps : List NodeNo) → WasFound nodes tid ps lists → WasFound nodes tid ps lists'
  found_still ps was = record { node = was.node; among = was.among; before = was.before; since = extends_twice was.before (lists was.node) (lists' was.node) was.since (ext was.node); listed = was.listed; there = was.there }

  pub done_still : IsDone nodes tid lists → IsDone nodes tid lists'
  done_still (inl passed) = inl (λ n among. passed_still n (passed n among))
  done_still (inr found) = inr (found.0, found_still found.0 found.1, weaker (λ (n : NodeNo). is_held (lists n) tid ≡ false) (λ (n : NodeNo). is_held (lists' n) tid ≡ false) (λ n not. unheld_still tid (lists n) (lists' n) (ext n) not) found.0 found.2)

-- Nothing is held

all_below : (nodes : ℕ) (ps : List NodeNo) → AllByRecursion (λ m. m.0 < nodes) ps → are_nodes nodes ps ≡ true
all_below nodes [] all = refl
all_below nodes (p ∷ ps) all = ap (λ (b : Bool). b && are_nodes nodes ps) (lt-ltb p.0 nodes all.0) ∙ all_below nodes ps all.1

module _ (nodes : ℕ) (tid : Tid) (lists : NodeNo → List Record) (sound : AreSound nodes lists) (n : NodeNo) (among : n.0 < nodes) where
  -- a node of which a recovery passed the list over doesn't hold the id
  passed_unheld : WasPassedOver nodes tid (lists n) → is_held (lists n) tid ≡ false
  passed_unheld was = unheld_still tid was.before (lists n) was.since (none_of tid (held_parts was.before) (by (listed_in tid was.before) refl was.passed))
    where
      place : AreInPlace nodes n was.before
      place = in_place_before nodes n was.before (lists n) was.since (sound.in_place n among)

      by : (o : Option (List NodeNo)) → listed_in tid was.before ≡ o → IsPassedOver nodes o → AllByRecursion (IsOther tid) (held_parts was.before)
      by None is passed = all_from_doubts (λ d. tid_same d.tid tid ≡ false) (held_parts was.before) (unlisted tid (doubts_of (held_parts was.before)) is)
      by (Some ps) is passed =
          weaker (IsVoted nodes n was.before) (IsOther tid)
          (λ h voted. by_flag (tid_same h.tid tid)
          (λ same. let e : Some h.participants ≡ Some ps = sym voted.voted ∙ (ap (λ (t : Tid). voted_participants t was.before) (tid_same-true h.tid tid same) ∙ listed_voted nodes n tid was.before place ps is) in
          let e' : h.participants ≡ ps = cc in
          let no : true ≡ false = sym (all_below nodes h.participants voted.below) ∙ (ap (λ (qs : List NodeNo). are_nodes nodes qs) e' ∙ passed) in absurd (cc))
          (λ off. off))
          (held_parts was.before) (held_voted nodes n was.before place)

  -- nor does one where none of the participants of the vote does
  found_unheld : (ps : List NodeNo) → WasFound nodes tid ps lists → AllByRecursion (λ m. is_held (lists m) tid ≡ false) ps → is_held (lists n) tid ≡ false
  found_unheld ps was free = by_flag (is_held (lists n) tid)
      (λ held. let it = held_gives (IsVoted nodes n (lists n)) tid (held_parts (lists n)) held (held_voted nodes n (lists n) (sound.in_place n among)) in
      let h = it.0 in
      let voted = it.2 in
      let here = ap (λ (t : Tid). voted_participants t (lists n)) (sym (tid_same-true h.tid tid it.1)) ∙ voted.voted in
      let there = votes_stay tid was.before (lists was.node) was.since ∙ listed_voted nodes was.node tid was.before (in_place_before nodes was.node was.before (lists was.node) was.since (sound.in_place was.node was.among)) ps was.listed in
      let e = sound.same n was.node tid h.participants ps among was.among here there in
      let own : Contains ps n = subst (λ (qs : List NodeNo). Contains qs n) e voted.own in
      All-contains (λ (m : NodeNo). is_held (lists m) tid ≡ false) ps n (All-from_recursion (λ (m : NodeNo). is_held (lists m) tid ≡ false) ps free) own)
      (λ unheld. unheld)

  done_unheld : IsDone nodes tid lists → is_held (lists n) tid ≡ false
  done_unheld (inl passed) = passed_unheld (passed n among)
  done_unheld (inr found) = found_unheld found.0 found.1 found.2

-- where each id that was held is done with, nothing is held, if the records fit together
pub nothing_held : (nodes : ℕ) (lists : NodeNo → List Record) (tids : List Tid) → ((n : NodeNo) → n.0 < nodes → AreHeldIn tids (lists n)) → ((tid : Tid) → Contains tids tid → IsDone nodes tid lists)
    → AreSound nodes lists → (n : NodeNo) → n.0 < nodes → held_parts (lists n) ≡ []
nothing_held nodes lists tids held done sound n among = by (held_parts (lists n)) refl (held n among)
  where
    by : (hs : List HeldPart) → held_parts (lists n) ≡ hs → AllByRecursion (λ h. Contains tids h.tid) hs → held_parts (lists n) ≡ []
    by [] is all = is
    by (h ∷ hs) is all =
        let unheld = done_unheld nodes h.tid lists sound n among (done h.tid all.0) in
        let others = subst (λ (l : List HeldPart). AllByRecursion (IsOther h.tid) l) is (others_of h.tid (held_parts (lists n)) unheld) in
        let no : true ≡ false = sym (tid_same-refl h.tid) ∙ others.0 in absurd (cc)
