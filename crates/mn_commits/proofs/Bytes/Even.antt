-- Each node's space, with the committed parts that it holds, is the flat memory's.
use Rattle.std.proofs.Common.{◌≡◌, ℕ, ◌⊎◌, inl, inr, Bool, true, false, List, [], ◌∷◌, Option, Some, None, refl, subst, sym, ap, ◌∙◌}
use Rattle.std.specs.Option.{option_map_or}
use Rattle.std.specs.List.{AllByRecursion, list_all}
use Rattle.mn_base.specs.declared.ids.NodeNo.{NodeNo}
use Rattle.mn_base.specs.declared.ids.Tid.{Tid}
use Rattle.mn_base.proofs.Lists.{all_both, weaker}
use Rattle.mn_mini.specs.declared.record.Record.{Record}
use Rattle.mn_mini.specs.declared.record.Record.TheVariants.{Voted, Executed, Decided, Forced}
use Rattle.mn_mini.specs.Mini.{Mini, participants_of}
use Rattle.mn_mini.specs.Flat.{space_in, part_mismatch_from, space_after_part}
use Rattle.mn_mini.specs.Node.{HeldPart, held_parts, held_part_of, without_tid, has_voted, space_of, with_held}
use Rattle.mn_mini.specs.Laws.{PartsAreApart}
use Rattle.mn_runs.specs.declared.entry.Entry.{Entry}
use Rattle.mn_runs.specs.Protocol.{Start, start_nodes, base_at, start_records, records_of, KeepsProtocol}
use Rattle.mn_runs.specs.Commits.{flat_after}
use Rattle.mn_runs.specs.Sound.{is_committed, opened_memory}
use Rattle.mn_votes.proofs.Unchanged.{issue_stays}
use Rattle.mn_votes.proofs.Backing.{mini_of, IsOld, PartAt, AllVoted, IsLost, RecordSound, Kept}
use Rattle.mn_votes.specs.Laws.{StartsSound}
use Rattle.mn_votes.proofs.Start.{names_old, start_committed, start_uncommitted, all_pass, all_true}
use Rattle.mn_votes.proofs.Preserved.{new_not_old, issued_or_lost}
use Rattle.mn_commits.proofs.Bytes.Layers.{AreDistinct, same_layers, drop_layer, remove_layer, own_layer}

-- Which ids are committed

-- every participant of the id has voted; an id that this run did not issue is committed as at the
-- start
abbrev pub comm : Start → List Entry → Tid → Bool
comm start past tid = option_map_or (λ mini. list_all (λ n. has_voted (records_of start past n) tid) (participants_of mini)) (mini_of past tid) (is_committed (start_nodes start) (start_records start) tid)

pub comm_is : (start : Start) (past : List Entry) (tid : Tid) (mini : Mini) → mini_of past tid ≡ Some mini → comm start past tid ≡ list_all (λ n. has_voted (records_of start past n) tid) (participants_of mini)
comm_is start past tid mini is = ap (λ (o : Option Mini). option_map_or (λ (m : Mini). list_all (λ n. has_voted (records_of start past n) tid) (participants_of m)) o (is_committed (start_nodes start) (start_records start) tid)) is

pub all_same : (f g : NodeNo → Bool) (xs : List NodeNo) → ((x : NodeNo) → f x ≡ g x) → list_all f xs ≡ list_all g xs
all_same f g [] e = refl
all_same f g (x ∷ xs) e = let h = e x in let r = all_same f g xs e in cc

pub comm_same : (start : Start) (past : List Entry) (e : Entry) (tid : Tid) (mini : Mini) → mini_of past tid ≡ Some mini → mini_of (e ∷ past) tid ≡ Some mini
    → ((n : NodeNo) → has_voted (records_of start (e ∷ past) n) tid ≡ has_voted (records_of start past n) tid) → comm start (e ∷ past) tid ≡ comm start past tid
comm_same start past e tid mini is is' same = comm_is start (e ∷ past) tid mini is' ∙ (all_same _ _ (participants_of mini) same ∙ sym (comm_is start past tid mini is))

-- an id of the start is committed as it was there
pub comm_old : (start : Start) (past : List Entry) (tid : Tid) → Kept start past → IsOld start tid → comm start past tid ≡ is_committed (start_nodes start) (start_records start) tid
comm_old start past tid kept old = by (mini_of past tid) refl
  where
    by : (o : Option Mini) → mini_of past tid ≡ o → comm start past tid ≡ is_committed (start_nodes start) (start_records start) tid
    by None is = ap (λ (o : Option Mini). option_map_or (λ (m : Mini). list_all (λ n. has_voted (records_of start past n) tid) (participants_of m)) o (is_committed (start_nodes start) (start_records start) tid)) is
    by (Some mini) is = absurd (new_not_old start past tid.client tid mini kept is old)

pub voted_comm : (start : Start) (past : List Entry) (tid : Tid) → Kept start past → AllVoted start past tid → comm start past tid ≡ true
voted_comm start past tid kept (inl (ps, (mini, is, all), voted)) = comm_is start past tid mini is ∙ all_pass _ (participants_of mini) (subst (λ (x : List NodeNo). AllByRecursion (λ k. has_voted (records_of start past k) tid ≡ true) x) all voted)
voted_comm start past tid kept (inr old) = comm_old start past tid kept (names_old start tid old.0 old.1) ∙ start_committed start tid old

pub lost_comm : (start : Start) (past : List Entry) (tid : Tid) → StartsSound start → Kept start past → IsLost start past tid → comm start past tid ≡ false
lost_comm start past tid sound kept (inl lost) = by (comm start past tid) refl
  where
    by : (b : Bool) → comm start past tid ≡ b → comm start past tid ≡ false
    by true e = absurd (issued_or_lost start past tid (participants_of lost.2.0, (lost.2.0, lost.2.1, refl), all_true _ (participants_of lost.2.0) (sym (comm_is start past tid lost.2.0 lost.2.1) ∙ e)) lost)
    by false e = e
lost_comm start past tid sound kept (inr old) = comm_old start past tid kept (names_old start tid old.0 old.2) ∙ start_uncommitted start tid sound old

-- What is held

-- a held part is its id's part at the node, or is of the start
abbrev pub PartOf : Start → List Entry → NodeNo → HeldPart → Type 0
PartOf start past k h = PartAt past h.tid k h.part ⊎ IsOld start h.tid

pub held_at : (start : Start) (past : List Entry) (k : NodeNo) (records : List Record) → AllByRecursion (RecordSound start past k) records → AllByRecursion (PartOf start past k) (held_parts records)
held_at start past k [] a = tt
held_at start past k (Voted tid ps part ∷ records) a = (by a.0, held_at start past k records a.1)
  where
    by : RecordSound start past k (Voted tid ps part) → PartAt past tid k part ⊎ IsOld start tid
    by (inl h) = inl h.2
    by (inr h) = inr (names_old start tid ps (k, h))
held_at start past k (Executed tid part ∷ records) a = held_at start past k records a.1
held_at start past k (Decided tid verdict ∷ records) a = Rattle.mn_mini.proofs.Apart.All-without (PartOf start past k) tid (held_parts records) (held_at start past k records a.1)
held_at start past k (Forced tid ∷ records) a = held_at start past k records a.1

-- Agreement at a node

abbrev pub AgreesAt : Start → List Entry → NodeNo → Type 0
AgreesAt start past n = space_in (flat_after (opened_memory start) past) n ≡ with_held (comm start past) (space_of (base_at start n) (records_of start past n)) (held_parts (records_of start past n))

-- the compares of what this run's ids hold and is not committed hold in the flat memory
abbrev pub ComparesAt : Start → List Entry → NodeNo → Type 0
ComparesAt start past n = AllByRecursion (λ h. (IsOld start h.tid → ⊥) → comm start past h.tid ≡ false → part_mismatch_from (space_in (flat_after (opened_memory start) past) n) 0 h.part ≡ None) (held_parts (records_of start past n))

abbrev pub SameComm : Start → List Entry → Entry → NodeNo → Type 0
SameComm start past e n = AllByRecursion (λ h. comm start (e ∷ past) h.tid ≡ comm start past h.tid) (held_parts (records_of start past n))

-- where nothing changes at a node
pub keep_node : (start : Start) (past : List Entry) (e : Entry) (n : NodeNo) → records_of start (e ∷ past) n ≡ records_of start past n
    → space_in (flat_after (opened_memory start) (e ∷ past)) n ≡ space_in (flat_after (opened_memory start) past) n → SameComm start past e n → AgreesAt start past n → ComparesAt start past n
    → AgreesAt start (e ∷ past) n × ComparesAt start (e ∷ past) n
keep_node start past e n same flat commits agrees compares =
    let space = space_of (base_at start n) (records_of start past n) in
    let held = held_parts (records_of start past n) in (
      subst (λ (r : List Record). space_in (flat_after (opened_memory start) (e ∷ past)) n ≡ with_held (comm start (e ∷ past)) (space_of (base_at start n) r) (held_parts r)) (sym same)
          (flat ∙ (agrees ∙ sym (same_layers (comm start (e ∷ past)) (comm start past) space held commits))),
      subst (λ (r : List Record). AllByRecursion (λ h. (IsOld start h.tid → ⊥) → comm start (e ∷ past) h.tid ≡ false → part_mismatch_from (space_in (flat_after (opened_memory start) (e ∷ past)) n) 0 h.part ≡ None) (held_parts r)) (sym same)
          (all_both (λ h. comm start (e ∷ past) h.tid ≡ comm start past h.tid) (λ h. (IsOld start h.tid → ⊥) → comm start past h.tid ≡ false → part_mismatch_from (space_in (flat_after (opened_memory start) past) n) 0 h.part ≡ None) (λ h. (IsOld start h.tid → ⊥) → comm start (e ∷ past) h.tid ≡ false → part_mismatch_from (space_in (flat_after (opened_memory start) (e ∷ past)) n) 0 h.part ≡ None)
          (λ h c o new off. ap (λ (w : List ℕ). part_mismatch_from w 0 h.part) flat ∙ o new (sym c ∙ off)) held commits compares),
    )

-- where no vote is added anywhere, the same ids are committed of what is held
pub same_comm : (start : Start) (past : List Entry) (e : Entry) (n : NodeNo) → Kept start past → Kept start (e ∷ past) → KeepsProtocol start past e
    → ((tid : Tid) (m : NodeNo) → has_voted (records_of start (e ∷ past) m) tid ≡ has_voted (records_of start past m) tid) → SameComm start past e n
same_comm start past e n kept after keeps same =
    weaker (PartOf start past n) (λ h. comm start (e ∷ past) h.tid ≡ comm start past h.tid) by (held_parts (records_of start past n)) (held_at start past n (records_of start past n) (kept.records n))
  where
    by : (h : HeldPart) → PartOf start past n h → comm start (e ∷ past) h.tid ≡ comm start past h.tid
    by h (inl p) = comm_same start past e h.tid p.0 p.1 (issue_stays start past e h.tid.client h.tid p.0 kept keeps p.1) (same h.tid)
    by h (inr old) = comm_old start (e ∷ past) h.tid after old ∙ sym (comm_old start past h.tid kept old)

-- Decisions

-- a decision of an id that is held: yes where all have voted, no where it is lost
pub decide_node : (start : Start) (past : List Entry) (e : Entry) (n : NodeNo) (t : Tid) (verdict : Bool) (g : HeldPart) → records_of start (e ∷ past) n ≡ Decided t verdict ∷ records_of start past n
    → held_part_of t (held_parts (records_of start past n)) ≡ Some g → comm start past t ≡ verdict
    → space_in (flat_after (opened_memory start) (e ∷ past)) n ≡ space_in (flat_after (opened_memory start) past) n → SameComm start past e n → AreDistinct (held_parts (records_of start past n)) → PartsAreApart (held_parts (records_of start past n))
    → AgreesAt start past n → AgreesAt start (e ∷ past) n
decide_node start past e n t true g new is on flat commits distinct apart agrees =
    let space = space_of (base_at start n) (records_of start past n) in
    let held = held_parts (records_of start past n) in
    let less : AllByRecursion (λ h. comm start (e ∷ past) h.tid ≡ comm start past h.tid) (without_tid t held) = Rattle.mn_mini.proofs.Apart.All-without _ t held commits in
    subst (λ (r : List Record). space_in (flat_after (opened_memory start) (e ∷ past)) n ≡ with_held (comm start (e ∷ past)) (space_of (base_at start n) r) (held_parts r)) (sym new) (
    flat ∙ (agrees ∙ (sym (remove_layer (comm start past) space held t g distinct apart is on)
    ∙ (sym (same_layers (comm start (e ∷ past)) (comm start past) (space_after_part space g.part) (without_tid t held) less)
    ∙ ap (λ (l : List ℕ). with_held (comm start (e ∷ past)) l (without_tid t held)) (sym (own_layer space held t g distinct is)))))
    )
decide_node start past e n t false g new is off flat commits distinct apart agrees =
    let space = space_of (base_at start n) (records_of start past n) in
    let held = held_parts (records_of start past n) in
    let less : AllByRecursion (λ h. comm start (e ∷ past) h.tid ≡ comm start past h.tid) (without_tid t held) = Rattle.mn_mini.proofs.Apart.All-without _ t held commits in
    subst (λ (r : List Record). space_in (flat_after (opened_memory start) (e ∷ past)) n ≡ with_held (comm start (e ∷ past)) (space_of (base_at start n) r) (held_parts r)) (sym new) (
    flat ∙ (agrees ∙ (sym (drop_layer (comm start past) space held t off) ∙ sym (same_layers (comm start (e ∷ past)) (comm start past) space (without_tid t held) less)))
    )
