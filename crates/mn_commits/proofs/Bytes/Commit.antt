-- A minitransaction that commits finds its compares in the flat memory, and takes effect on it all
-- at once.
use Rattle.std.proofs.Common.{◌≡◌, ℕ, Bool, true, false, List, [], ◌∷◌, Some, None, subst, sym, ap, ◌∙◌, if◌then◌else◌}
use Rattle.std.specs.List.{AllByRecursion, list_any}
use Rattle.mn_base.specs.Ids.{node_same, tid_same}
use Rattle.mn_base.specs.declared.ids.NodeNo.{NodeNo}
use Rattle.mn_base.specs.declared.ids.Tid.{Tid}
use Rattle.mn_base.proofs.Booleans.{clash}
use Rattle.mn_base.proofs.Lists.{all_both}
use Rattle.mn_mini.specs.declared.part.PartItem.{PartItem}
use Rattle.mn_mini.specs.declared.record.Record.{Record}
use Rattle.mn_mini.specs.declared.record.Record.TheVariants.{Voted, Executed}
use Rattle.mn_mini.specs.Mini.{Mini, item_node, part_of, parts_conflict, has_write}
use Rattle.mn_mini.specs.Flat.{space_in, part_mismatch_from, space_after_part}
use Rattle.mn_mini.specs.Node.{HeldPart, held_parts, space_of, clash_of, with_added, with_held}
use Rattle.mn_mini.proofs.Apart.{no_clash}
use Rattle.mn_mini.proofs.Bytes.{mismatch-after_part, conflict_turned, no_write_leaves}
use Rattle.mn_mini.proofs.Parts.{no_part}
use Rattle.mn_runs.specs.declared.entry.Entry.{Entry}
use Rattle.mn_runs.specs.Protocol.{Start, base_at, records_of}
use Rattle.mn_runs.specs.Commits.{flat_after}
use Rattle.mn_runs.specs.Sound.{opened_memory}
use Rattle.mn_commits.proofs.Bytes.Layers.{IsFree, same_layers, push_layer, mismatch_below}
use Rattle.mn_votes.proofs.Backing.{IsOld}
use Rattle.mn_commits.proofs.Bytes.Even.{comm, AgreesAt, ComparesAt, SameComm, keep_node}

-- the flat memory after an entry that commits the minitransaction
abbrev pub Takes : Start → List Entry → Entry → Mini → Type 0
Takes start past e mini = (n : NodeNo) → space_in (flat_after (opened_memory start) (e ∷ past)) n ≡ space_after_part (space_in (flat_after (opened_memory start) past) n) (part_of mini n)

-- a part that found no clash is free of the parts of other ids
pub free_of : (hs : List HeldPart) (t : Tid) (part : List PartItem) → clash_of hs t part ≡ None → AllByRecursion (λ h. tid_same h.tid t ≡ false) hs → IsFree part hs
free_of hs t part free other = all_both (λ g. tid_same g.tid t ≡ false → parts_conflict part g.part ≡ false) (λ h. tid_same h.tid t ≡ false) (λ g. parts_conflict part g.part ≡ false) (λ g p q. p q) hs (no_clash hs t part free) other

-- its compares, tested on the space, hold in the flat memory
pub holds_flat : (start : Start) (past : List Entry) (k : NodeNo) (part : List PartItem) → IsFree part (held_parts (records_of start past k)) → AgreesAt start past k
    → part_mismatch_from (space_of (base_at start k) (records_of start past k)) 0 part ≡ None → part_mismatch_from (space_in (flat_after (opened_memory start) past) k) 0 part ≡ None
holds_flat start past k part free agrees tested = ap (λ (w : List ℕ). part_mismatch_from w 0 part) agrees ∙ (mismatch_below (comm start past) _ (held_parts (records_of start past k)) part free ∙ tested)

-- what is held and does not conflict with a part that takes effect keeps its compares
pub compares_after : (start : Start) (past : List Entry) (e : Entry) (n : NodeNo) (part : List PartItem) (hs : List HeldPart) → space_in (flat_after (opened_memory start) (e ∷ past)) n ≡ space_after_part (space_in (flat_after (opened_memory start) past) n) part
    → IsFree part hs → AllByRecursion (λ h. comm start (e ∷ past) h.tid ≡ comm start past h.tid) hs
    → AllByRecursion (λ h. (IsOld start h.tid → ⊥) → comm start past h.tid ≡ false → part_mismatch_from (space_in (flat_after (opened_memory start) past) n) 0 h.part ≡ None) hs
    → AllByRecursion (λ h. (IsOld start h.tid → ⊥) → comm start (e ∷ past) h.tid ≡ false → part_mismatch_from (space_in (flat_after (opened_memory start) (e ∷ past)) n) 0 h.part ≡ None) hs
compares_after start past e n part [] takes free commits compares = tt
compares_after start past e n part (h ∷ hs) takes free commits compares = (
  λ new off. ap (λ (w : List ℕ). part_mismatch_from w 0 h.part) takes ∙ (mismatch-after_part (space_in (flat_after (opened_memory start) past) n) h.part part 0 (conflict_turned part h.part free.0) ∙ compares.0 new (sym commits.0 ∙ off)),
  compares_after start past e n part hs takes free.1 commits.1 compares.1,
)

-- An execution

-- at its node, where its part is free of what is held there
pub execute_node : (start : Start) (past : List Entry) (e : Entry) (k : NodeNo) (t : Tid) (part : List PartItem) (mini : Mini) (writes : Bool) → has_write part ≡ writes → part ≡ part_of mini k
    → records_of start (e ∷ past) k ≡ with_added (if writes then Some (Executed t part) else None) (records_of start past k)
    → Takes start past e mini → IsFree part (held_parts (records_of start past k)) → SameComm start past e k → AgreesAt start past k → ComparesAt start past k
    → AgreesAt start (e ∷ past) k × ComparesAt start (e ∷ past) k
execute_node start past e k t part mini true w is new takes free commits agrees compares =
    let space = space_of (base_at start k) (records_of start past k) in
    let held = held_parts (records_of start past k) in
    let flat : space_in (flat_after (opened_memory start) (e ∷ past)) k ≡ space_after_part (space_in (flat_after (opened_memory start) past) k) part = takes k ∙ ap (λ (p : List PartItem). space_after_part (space_in (flat_after (opened_memory start) past) k) p) (sym is) in (
      subst (λ (r : List Record). space_in (flat_after (opened_memory start) (e ∷ past)) k ≡ with_held (comm start (e ∷ past)) (space_of (base_at start k) r) (held_parts r)) (sym new) (
          flat ∙ (ap (λ (x : List ℕ). space_after_part x part) agrees ∙ (sym (push_layer (comm start past) space held part free) ∙ sym (same_layers (comm start (e ∷ past)) (comm start past) (space_after_part space part) held commits)))
          ),
      subst (λ (r : List Record). AllByRecursion (λ h. (IsOld start h.tid → ⊥) → comm start (e ∷ past) h.tid ≡ false → part_mismatch_from (space_in (flat_after (opened_memory start) (e ∷ past)) k) 0 h.part ≡ None) (held_parts r)) (sym new)
          (compares_after start past e k part held flat free commits compares),
    )
execute_node start past e k t part mini false w is new takes free commits agrees compares =
    let flat : space_in (flat_after (opened_memory start) (e ∷ past)) k ≡ space_after_part (space_in (flat_after (opened_memory start) past) k) part = takes k ∙ ap (λ (p : List PartItem). space_after_part (space_in (flat_after (opened_memory start) past) k) p) (sym is) in
    keep_node start past e k new (flat ∙ no_write_leaves (space_in (flat_after (opened_memory start) past) k) part w) commits agrees compares

-- a node that the minitransaction does not name
pub other_node : (start : Start) (past : List Entry) (e : Entry) (n : NodeNo) (mini : Mini) → list_any (λ i. node_same (item_node i) n) mini.items ≡ false → records_of start (e ∷ past) n ≡ records_of start past n
    → Takes start past e mini → SameComm start past e n → AgreesAt start past n → ComparesAt start past n → AgreesAt start (e ∷ past) n × ComparesAt start (e ∷ past) n
other_node start past e n mini none same takes commits agrees compares =
    keep_node start past e n same (takes n ∙ ap (λ (p : List PartItem). space_after_part (space_in (flat_after (opened_memory start) past) n) p) (no_part mini n none)) commits agrees compares

-- A vote

-- at its node, where it completes nothing
pub vote_node : (start : Start) (past : List Entry) (e : Entry) (k : NodeNo) (t : Tid) (ps : List NodeNo) (part : List PartItem) → records_of start (e ∷ past) k ≡ Voted t ps part ∷ records_of start past k
    → comm start (e ∷ past) t ≡ false → space_in (flat_after (opened_memory start) (e ∷ past)) k ≡ space_in (flat_after (opened_memory start) past) k
    → part_mismatch_from (space_in (flat_after (opened_memory start) past) k) 0 part ≡ None → SameComm start past e k → AgreesAt start past k → ComparesAt start past k
    → AgreesAt start (e ∷ past) k × ComparesAt start (e ∷ past) k
vote_node start past e k t ps part new off flat holds commits agrees compares =
    let space = space_of (base_at start k) (records_of start past k) in
    let held = held_parts (records_of start past k) in (
      subst (λ (r : List Record). space_in (flat_after (opened_memory start) (e ∷ past)) k ≡ with_held (comm start (e ∷ past)) (space_of (base_at start k) r) (held_parts r)) (sym new) (
          flat ∙ (agrees ∙ (sym (same_layers (comm start (e ∷ past)) (comm start past) space held commits)
          ∙ sym (ap (λ (b : Bool). if b then space_after_part (with_held (comm start (e ∷ past)) space held) part else with_held (comm start (e ∷ past)) space held) off)))
          ),
      subst (λ (r : List Record). AllByRecursion (λ h. (IsOld start h.tid → ⊥) → comm start (e ∷ past) h.tid ≡ false → part_mismatch_from (space_in (flat_after (opened_memory start) (e ∷ past)) k) 0 h.part ≡ None) (held_parts r)) (sym new) (
        (λ _ _. ap (λ (w : List ℕ). part_mismatch_from w 0 part) flat ∙ holds),
        all_both (λ h. comm start (e ∷ past) h.tid ≡ comm start past h.tid) (λ h. (IsOld start h.tid → ⊥) → comm start past h.tid ≡ false → part_mismatch_from (space_in (flat_after (opened_memory start) past) k) 0 h.part ≡ None) (λ h. (IsOld start h.tid → ⊥) → comm start (e ∷ past) h.tid ≡ false → part_mismatch_from (space_in (flat_after (opened_memory start) (e ∷ past)) k) 0 h.part ≡ None)
            (λ h c o new off'. ap (λ (w : List ℕ). part_mismatch_from w 0 h.part) flat ∙ o new (sym c ∙ off')) held commits compares,
      ),
    )

-- at its node, where it is the last
pub last_vote_node : (start : Start) (past : List Entry) (e : Entry) (k : NodeNo) (t : Tid) (ps : List NodeNo) (part : List PartItem) (mini : Mini) → records_of start (e ∷ past) k ≡ Voted t ps part ∷ records_of start past k
    → comm start (e ∷ past) t ≡ true → part ≡ part_of mini k → Takes start past e mini → IsFree part (held_parts (records_of start past k)) → SameComm start past e k → AgreesAt start past k → ComparesAt start past k
    → AgreesAt start (e ∷ past) k × ComparesAt start (e ∷ past) k
last_vote_node start past e k t ps part mini new on is takes free commits agrees compares =
    let space = space_of (base_at start k) (records_of start past k) in
    let held = held_parts (records_of start past k) in
    let flat : space_in (flat_after (opened_memory start) (e ∷ past)) k ≡ space_after_part (space_in (flat_after (opened_memory start) past) k) part = takes k ∙ ap (λ (p : List PartItem). space_after_part (space_in (flat_after (opened_memory start) past) k) p) (sym is) in (
      subst (λ (r : List Record). space_in (flat_after (opened_memory start) (e ∷ past)) k ≡ with_held (comm start (e ∷ past)) (space_of (base_at start k) r) (held_parts r)) (sym new) (
          flat ∙ (ap (λ (x : List ℕ). space_after_part x part) (agrees ∙ sym (same_layers (comm start (e ∷ past)) (comm start past) space held commits))
          ∙ sym (ap (λ (b : Bool). if b then space_after_part (with_held (comm start (e ∷ past)) space held) part else with_held (comm start (e ∷ past)) space held) on))
          ),
      subst (λ (r : List Record). AllByRecursion (λ h. (IsOld start h.tid → ⊥) → comm start (e ∷ past) h.tid ≡ false → part_mismatch_from (space_in (flat_after (opened_memory start) (e ∷ past)) k) 0 h.part ≡ None) (held_parts r)) (sym new) (
        (λ _ off. absurd (clash _ on off)),
        compares_after start past e k part held flat free commits compares,
      ),
    )
