-- One entry keeps the agreement of the spaces with the flat memory, and commits only what holds
-- there.
use Rattle.std.proofs.Common.{◌≡◌, ℕ, ◌<◌, ◌⊎◌, inl, inr, Bool, true, false, not, ◌&&◌, ◌||◌, List, [], ◌∷◌, length, Option, Some, None, refl, subst, sym, ap, ◌∙◌, arith, if◌then◌else◌, Contains}
use Rattle.std.specs.Bool.{⊤}
use Rattle.std.specs.List.{AllByRecursion, list_any, list_all}
use Rattle.std.proofs.lemmas.List.Elements.{All-contains, All-from_recursion}
use Rattle.mn_base.specs.Ids.{node_same, tid_same}
use Rattle.mn_base.specs.declared.ids.NodeNo.{NodeNo}
use Rattle.mn_base.specs.declared.ids.Tid.{Tid}
use Rattle.mn_base.proofs.Booleans.{clash, or_cases}
use Rattle.mn_base.proofs.Lists.{all_both, weaker}
use Rattle.mn_mini.specs.declared.item.Item.{Item}
use Rattle.mn_mini.specs.declared.part.PartItem.{PartItem}
use Rattle.mn_mini.specs.declared.record.Record.{Record}
use Rattle.mn_mini.specs.declared.record.Record.TheVariants.{Voted, Executed, Decided, Forced}
use Rattle.mn_mini.specs.declared.request.Request.{Request}
use Rattle.mn_mini.specs.declared.request.Request.TheVariants as Ask
use Rattle.mn_mini.specs.Mini.{Mini, item_node, participants_of, part_of, parts_conflict, has_write, IsSoundItem, IsSound, is_read}
use Rattle.mn_mini.specs.Flat.{space_in, mismatch_from, part_mismatch_from, space_after_part}
use Rattle.mn_mini.specs.Node.{HeldPart, held_parts, held_part_of, without_tid, is_held, space_of, clash_of, has_voted, has_decided_yes, has_decided_no, with_added, with_held}
use Rattle.mn_mini.specs.Laws.{PartsAreApart}
use Rattle.mn_mini.proofs.Bytes.{mismatch-after_part, conflict_turned}
use Rattle.mn_mini.proofs.Parts.{AreIn, space-after_mini, mini_holds, no_part, named_takes_part, same_self, same_true}
use Rattle.mn_runs.specs.declared.entry.Entry.{Entry}
use Rattle.mn_runs.specs.Calls.{Issued, issue_named, issues_of}
use Rattle.std.specs.Prelude.{IsTrue}
use Rattle.mn_runs.specs.Clients.{is_plan}
use Rattle.mn_runs.specs.Protocol.{Start, start_nodes, base_at, records_of, KeepsProtocol}
use Rattle.mn_runs.specs.Commits.{has_vote, issued_as, committed_with, committed_by, flat_after, memory_after_commit}
use Rattle.mn_runs.specs.Sound.{opened_memory}
use Rattle.mn_runs.proofs.Same.{tid_same-true, tid_same-refl}
use Rattle.mn_votes.proofs.Unchanged.{issue_stays}
use Rattle.mn_votes.specs.Laws.{StartsSound}
use Rattle.mn_votes.proofs.Backing.{mini_of, IsOld, ExecAt, RecordSound, Kept}
use Rattle.mn_votes.proofs.Lost.{IsLost_stays}
use Rattle.mn_votes.proofs.Preserved.{new_not_old, decided_yes_voted, decided_no_lost, same_mini}
use Rattle.mn_commits.proofs.Bytes.Layers.{AreDistinct, IsFree, same_layers, flip_layer, held_fact, same_part}
use Rattle.mn_votes.proofs.Acts.{Act, IsIdle, idle, votes, executes, decides, forces}
use Rattle.mn_commits.proofs.Bytes.Even.{comm, comm_is, PartOf, comm_same, comm_old, voted_comm, lost_comm, all_same, held_at, AgreesAt, ComparesAt, SameComm, keep_node, same_comm, decide_node}
use Rattle.mn_commits.proofs.Bytes.Commit.{Takes, free_of, holds_flat, execute_node, other_node, vote_node, last_vote_node}
use Rattle.mn_runs.proofs.Alone.{item_below}

abbrev pub flat : Start → List Entry → List (List ℕ)
flat start past = flat_after (opened_memory start) past

-- Facts of lists

by_node : (P : NodeNo → Type 0) (k : NodeNo) → P k → ((n : NodeNo) → node_same n k ≡ false → P n) → (n : NodeNo) → P n
by_node P k here there n = elim (node_same n k) as (λ b. node_same n k ≡ b → P n) [ true ↦ λ e. subst P (sym (same_true n k e)) here | false ↦ λ e. there n e ] refl

same_turned : (n k : NodeNo) → node_same n k ≡ false → node_same k n ≡ false
same_turned n k e = elim (node_same k n) as (λ b. node_same k n ≡ b → node_same k n ≡ false) [
  | true ↦ λ h. absurd (clash _ (subst (λ (m : NodeNo). node_same m k ≡ true) (same_true k n h) (same_self k)) e)
  | false ↦ λ h. h
] refl

pub tid_turned : (t u : Tid) → tid_same t u ≡ false → tid_same u t ≡ false
tid_turned t u e = elim (tid_same u t) as (λ b. tid_same u t ≡ b → tid_same u t ≡ false) [
  | true ↦ λ h. absurd (clash _ (subst (λ (v : Tid). tid_same v u ≡ true) (tid_same-true u t h) (tid_same-refl u)) e)
  | false ↦ λ h. h
] refl

contained : (f : NodeNo → Bool) (ps : List NodeNo) (n : NodeNo) → AllByRecursion (λ m. f m ≡ true) ps → Contains ps n → f n ≡ true
contained f ps n all has = All-contains (λ m. f m ≡ true) ps n (All-from_recursion (λ m. f m ≡ true) ps all) has

-- What is held of an id

held_without : (t u : Tid) (hs : List HeldPart) → tid_same u t ≡ false → held_part_of t (without_tid u hs) ≡ held_part_of t hs
held_without t u [] other = refl
held_without t u (h ∷ hs) other =
    elim (tid_same h.tid u) as (λ b. tid_same h.tid u ≡ b → held_part_of t (if b then without_tid u hs else h ∷ without_tid u hs) ≡ held_part_of t (h ∷ hs)) [
      | true ↦ λ e.
          let not : tid_same h.tid t ≡ false = subst (λ (v : Tid). tid_same v t ≡ false) (sym (tid_same-true h.tid u e)) other in
          held_without t u hs other ∙ sym (ap (λ (b : Bool). if b then Some h else held_part_of t hs) not)
      | false ↦ λ _. ap (λ (o : Option HeldPart). if tid_same h.tid t then Some h else o) (held_without t u hs other)
    ] refl

-- a vote is held or decided
pub voted_held : (t : Tid) (records : List Record) → has_voted records t ≡ true
    → ((g : HeldPart) × (held_part_of t (held_parts records) ≡ Some g)) ⊎ ((has_decided_yes records t ≡ true) ⊎ (has_decided_no records t ≡ true))
voted_held t [] e = absurd cc
voted_held t (Voted u ps part ∷ records) e =
    elim (tid_same u t) as (λ b. (b || has_voted records t) ≡ true → ((g : HeldPart) × ((if b then Some (record { tid = u; participants = ps; part = part }) else held_part_of t (held_parts records)) ≡ Some g)) ⊎ ((has_decided_yes records t ≡ true) ⊎ (has_decided_no records t ≡ true))) [
      | true ↦ λ _. inl (record { tid = u; participants = ps; part = part }, refl)
      | false ↦ λ h. voted_held t records h
    ] e
voted_held t (Executed u part ∷ records) e = voted_held t records e
voted_held t (Forced u ∷ records) e = voted_held t records e
voted_held t (Decided u true ∷ records) e =
    elim (tid_same u t) as (λ b. tid_same u t ≡ b → ((g : HeldPart) × (held_part_of t (without_tid u (held_parts records)) ≡ Some g)) ⊎ (((b || has_decided_yes records t) ≡ true) ⊎ (has_decided_no records t ≡ true))) [
      | true ↦ λ _. inr (inl refl)
      | false ↦ λ other. older other (voted_held t records e)
    ] refl
  where
    older : tid_same u t ≡ false → ((g : HeldPart) × (held_part_of t (held_parts records) ≡ Some g)) ⊎ ((has_decided_yes records t ≡ true) ⊎ (has_decided_no records t ≡ true)) → ((g : HeldPart) × (held_part_of t (without_tid u (held_parts records)) ≡ Some g)) ⊎ ((has_decided_yes records t ≡ true) ⊎ (has_decided_no records t ≡ true))
    older other (inl (g, is)) = inl (g, held_without t u (held_parts records) other ∙ is)
    older other (inr h) = inr h
voted_held t (Decided u false ∷ records) e =
    elim (tid_same u t) as (λ b. tid_same u t ≡ b → ((g : HeldPart) × (held_part_of t (without_tid u (held_parts records)) ≡ Some g)) ⊎ ((has_decided_yes records t ≡ true) ⊎ ((b || has_decided_no records t) ≡ true))) [
      | true ↦ λ _. inr (inr refl)
      | false ↦ λ other. older other (voted_held t records e)
    ] refl
  where
    older : tid_same u t ≡ false → ((g : HeldPart) × (held_part_of t (held_parts records) ≡ Some g)) ⊎ ((has_decided_yes records t ≡ true) ⊎ (has_decided_no records t ≡ true)) → ((g : HeldPart) × (held_part_of t (without_tid u (held_parts records)) ≡ Some g)) ⊎ ((has_decided_yes records t ≡ true) ⊎ (has_decided_no records t ≡ true))
    older other (inl (g, is)) = inl (g, held_without t u (held_parts records) other ∙ is)
    older other (inr h) = inr h

-- what is held was voted
pub held_voted : (records : List Record) → AllByRecursion (λ h. has_voted records h.tid ≡ true) (held_parts records)
held_voted [] = tt
held_voted (Voted u ps part ∷ records) = (
  ap (λ (b : Bool). b || has_voted records u) (tid_same-refl u),
  weaker (λ h. has_voted records h.tid ≡ true) (λ h. (tid_same u h.tid || has_voted records h.tid) ≡ true) (λ h v. right (tid_same u h.tid) _ v) (held_parts records) (held_voted records),
)
  where
    right : (a b : Bool) → b ≡ true → (a || b) ≡ true
    right true b e = refl
    right false b e = e
held_voted (Executed u part ∷ records) = held_voted records
held_voted (Decided u verdict ∷ records) = Rattle.mn_mini.proofs.Apart.All-without (λ h. has_voted records h.tid ≡ true) u (held_parts records) (held_voted records)
held_voted (Forced u ∷ records) = held_voted records

-- an id that has not voted is not held
pub unvoted_unheld : (records : List Record) (t : Tid) → has_voted records t ≡ false → AllByRecursion (λ h. tid_same h.tid t ≡ false) (held_parts records)
unvoted_unheld records t none = weaker (λ h. has_voted records h.tid ≡ true) (λ h. tid_same h.tid t ≡ false) (λ h v. differs h v) (held_parts records) (held_voted records)
  where
    differs : (h : HeldPart) → has_voted records h.tid ≡ true → tid_same h.tid t ≡ false
    differs h v = elim (tid_same h.tid t) as (λ b. tid_same h.tid t ≡ b → tid_same h.tid t ≡ false) [
      | true ↦ λ e. absurd (clash _ (subst (λ (u : Tid). has_voted records u ≡ true) (tid_same-true h.tid t e) v) none)
      | false ↦ λ e. e
    ] refl

none_held : (t : Tid) (hs : List HeldPart) → held_part_of t hs ≡ None → AllByRecursion (λ h. tid_same h.tid t ≡ false) hs
none_held t [] e = tt
none_held t (h ∷ hs) e =
    elim (tid_same h.tid t) as (λ b. tid_same h.tid t ≡ b → (if b then Some h else held_part_of t hs) ≡ None → (tid_same h.tid t ≡ false) × AllByRecursion (λ h. tid_same h.tid t ≡ false) hs) [
      | true ↦ λ _ h. absurd cc
      | false ↦ λ f h. (f, none_held t hs h)
    ] refl e

-- the other held parts are apart from the one of the id
pub apart_from_held : (t : Tid) (hs : List HeldPart) (g : HeldPart) → AreDistinct hs → PartsAreApart hs → held_part_of t hs ≡ Some g → AllByRecursion (λ h. tid_same h.tid t ≡ false → parts_conflict h.part g.part ≡ false) hs
apart_from_held t [] g d a is = tt
apart_from_held t (h ∷ hs) g d a is =
    elim (tid_same h.tid t) as (λ b. tid_same h.tid t ≡ b → (if b then Some h else held_part_of t hs) ≡ Some g → (tid_same h.tid t ≡ false → parts_conflict h.part g.part ≡ false) × AllByRecursion (λ h. tid_same h.tid t ≡ false → parts_conflict h.part g.part ≡ false) hs) [
      | true ↦ λ e here.
          let eq : h.tid ≡ t = tid_same-true h.tid t e in
          let one : h ≡ g = same_part h g here in (
            λ other. absurd (clash _ e other),
            subst (λ (x : HeldPart). AllByRecursion (λ y. tid_same y.tid t ≡ false → parts_conflict y.part x.part ≡ false) hs) one
                (subst (λ (u : Tid). AllByRecursion (λ y. tid_same y.tid u ≡ false → parts_conflict y.part h.part ≡ false) hs) eq
                (weaker (λ y. tid_same y.tid h.tid ≡ false → parts_conflict h.part y.part ≡ false) (λ y. tid_same y.tid h.tid ≡ false → parts_conflict y.part h.part ≡ false) (λ y p other. conflict_turned h.part y.part (p other)) hs a.0)),
          )
      | false ↦ λ other there.
          let held = held_fact (λ x. tid_same x.tid h.tid ≡ false → parts_conflict h.part x.part ≡ false) t hs g a.0 there in
          let apart' = held_fact (λ x. tid_same x.tid h.tid ≡ false) t hs g d.0 there in
          (λ _. held.0 apart'.0, apart_from_held t hs g d.1 a.1 there)
    ] refl is

-- Minitransactions of the run

abbrev pub IsMade : Start → Mini → Type 0
IsMade start mini = (mini.nodes ≡ start_nodes start) × IsSound mini × IsTrue (is_read mini.items || is_plan mini.items)

pub items_below : (nodes : ℕ) (items : List Item) → AllByRecursion (IsSoundItem nodes) items → AreIn nodes items
items_below nodes [] a = tt
items_below nodes (i ∷ is) a = (item_below nodes i a.0, items_below nodes is a.1)

named_below : (nodes : ℕ) (items : List Item) (n : NodeNo) → AreIn nodes items → list_any (λ i. node_same (item_node i) n) items ≡ true → n.0 < nodes
named_below nodes [] n a e = absurd cc
named_below nodes (i ∷ is) n a e =
    elim (or_cases (node_same (item_node i) n) (list_any (λ i. node_same (item_node i) n) is) e) as (λ _. n.0 < nodes) [
      | inl here ↦ subst (λ (m : NodeNo). m.0 < nodes) (same_true (item_node i) n here) a.0
      | inr there ↦ named_below nodes is n a.1 there
    ]

-- a node that is named is a participant
any_contains : (ps : List NodeNo) (n : NodeNo) (f : NodeNo → Bool) → AllByRecursion (λ m. f m ≡ true) ps → list_any (λ m. node_same m n) ps ≡ true → f n ≡ true
any_contains [] n f all e = absurd cc
any_contains (p ∷ ps) n f all e =
    elim (or_cases (node_same p n) (list_any (λ m. node_same m n) ps) e) as (λ _. f n ≡ true) [
      | inl here ↦ subst (λ (m : NodeNo). f m ≡ true) (same_true p n here) all.0
      | inr there ↦ any_contains ps n f all.1 there
    ]

pub named_part : (start : Start) (mini : Mini) (n : NodeNo) → IsMade start mini → list_any (λ i. node_same (item_node i) n) mini.items ≡ true → list_any (λ m. node_same m n) (participants_of mini) ≡ true
named_part start mini n made e = named_takes_part mini n (named_below mini.nodes mini.items n (items_below mini.nodes mini.items made.1.inside) e) e

-- A step

-- what every place of a run keeps
pub record Even (start : Start) (past : List Entry) : Type 0 where
  pub agrees : (n : NodeNo) → AgreesAt start past n
  pub compares : (n : NodeNo) → ComparesAt start past n
  pub distinct : (n : NodeNo) → AreDistinct (held_parts (records_of start past n))
  pub apart : (n : NodeNo) → PartsAreApart (held_parts (records_of start past n))
  pub spaces : length (flat start past) ≡ start_nodes start
  pub minis : (tid : Tid) (mini : Mini) → mini_of past tid ≡ Some mini → IsMade start mini

-- an entry at a node, with what takes effect and the record that it adds
pub record Step (start : Start) (past : List Entry) (e : Entry) (k : NodeNo) (eff : Option Request) (added : Option Record) : Type 0 where
  pub here : records_of start (e ∷ past) k ≡ with_added added (records_of start past k)
  pub elsewhere : (n : NodeNo) → node_same n k ≡ false → records_of start (e ∷ past) n ≡ records_of start past n
  pub commits : committed_by past e ≡ committed_with past k eff
  pub keeps : KeepsProtocol start past e
  pub kept : Kept start past
  pub kept_after : Kept start (e ∷ past)
  pub sound : StartsSound start
  pub even : Even start past
  pub in_log : (n : NodeNo) (tid : Tid) (mini : Mini) → mini_of past tid ≡ Some mini → has_vote tid n past ≡ has_voted (records_of start past n) tid
  pub issued : (tid : Tid) → issue_named tid (issues_of past) ≡ mini_of past tid

-- what the step shows
abbrev pub Goes : Start → List Entry → Entry → Type 0
Goes start past e = ((n : NodeNo) → AgreesAt start (e ∷ past) n × ComparesAt start (e ∷ past) n) × ((i : Issued) → committed_by past e ≡ Some i → mismatch_from (flat start past) 0 i.mini.items ≡ None)

-- an entry that commits nothing
flat_stays : (start : Start) (past : List Entry) (e : Entry) → committed_by past e ≡ None → (n : NodeNo) → space_in (flat start (e ∷ past)) n ≡ space_in (flat start past) n
flat_stays start past e none n = ap (λ (o : Option Issued). space_in (memory_after_commit (flat start past) o) n) none

commits_none : (past : List Entry) (e : Entry) (P : Issued → Type 0) → committed_by past e ≡ None → (i : Issued) → committed_by past e ≡ Some i → P i
commits_none past e P none i is = absurd cc

-- an entry that commits a minitransaction whose compares hold
flat_takes : (start : Start) (past : List Entry) (e : Entry) (i : Issued) → committed_by past e ≡ Some i → mismatch_from (flat start past) 0 i.mini.items ≡ None → AreIn (length (flat start past)) i.mini.items → Takes start past e i.mini
flat_takes start past e i is holds inside n =
    ap (λ (o : Option Issued). space_in (memory_after_commit (flat start past) o) n) is
    ∙ (ap (λ o. space_in (Rattle.mn_runs.specs.Commits.memory_of_outcome (flat start past) (Rattle.mn_mini.specs.Flat.unless_mismatched (flat start past) i.mini o)) n) holds
    ∙ space-after_mini (flat start past) i.mini n inside)

commits_that : (past : List Entry) (e : Entry) (P : Issued → Type 0) (j : Issued) → committed_by past e ≡ Some j → P j → (i : Issued) → committed_by past e ≡ Some i → P i
commits_that past e P j is p i is' = let same : j ≡ i = cc in subst P same p

pub inside_flat : (start : Start) (past : List Entry) (mini : Mini) → Even start past → IsMade start mini → AreIn (length (flat start past)) mini.items
inside_flat start past mini even made = subst (λ (k : ℕ). AreIn k mini.items) (made.0 ∙ sym even.spaces) (items_below mini.nodes mini.items made.1.inside)

pub idle_commits : (past : List Entry) (k : NodeNo) (eff : Option Request) → IsIdle eff → committed_with past k eff ≡ None
idle_commits past k None none = refl
idle_commits past k (Some (Ask.Prepare tid ps part)) none = absurd none
idle_commits past k (Some (Ask.Exec tid part)) none = absurd none
idle_commits past k (Some (Ask.Decide tid verdict)) none = refl
idle_commits past k (Some (Ask.Force tid)) none = refl
idle_commits past k (Some Ask.List) none = refl
idle_commits past k (Some (Ask.Peek at n)) none = refl

-- an entry that adds no vote
abbrev pub IsNoVote : Option Record → Type 0
IsNoVote None = ⊤
IsNoVote (Some (Voted tid ps part)) = ⊥
IsNoVote (Some r) = ⊤

no_vote_added : (o : Option Record) (old : List Record) (tid : Tid) → IsNoVote o → has_voted (with_added o old) tid ≡ has_voted old tid
no_vote_added None old tid quiet = refl
no_vote_added (Some (Voted t ps part)) old tid quiet = absurd quiet
no_vote_added (Some (Executed t part)) old tid quiet = refl
no_vote_added (Some (Decided t verdict)) old tid quiet = refl
no_vote_added (Some (Forced t)) old tid quiet = refl

pub votes_stay : (start : Start) (past : List Entry) (e : Entry) (k : NodeNo) (eff : Option Request) (added : Option Record) → Step start past e k eff added → IsNoVote added
    → (tid : Tid) (m : NodeNo) → has_voted (records_of start (e ∷ past) m) tid ≡ has_voted (records_of start past m) tid
votes_stay start past e k eff added s quiet tid =
    by_node (λ m. has_voted (records_of start (e ∷ past) m) tid ≡ has_voted (records_of start past m) tid) k
    (ap (λ (r : List Record). has_voted r tid) s.here ∙ no_vote_added added (records_of start past k) tid quiet)
    (λ n other. ap (λ (r : List Record). has_voted r tid) (s.elsewhere n other))

comm_stays : (start : Start) (past : List Entry) (e : Entry) (k : NodeNo) (eff : Option Request) (added : Option Record) → Step start past e k eff added → IsNoVote added → (n : NodeNo) → SameComm start past e n
comm_stays start past e k eff added s quiet n = same_comm start past e n s.kept s.kept_after s.keeps (votes_stay start past e k eff added s quiet)

-- a node that takes no part in the entry
away : (start : Start) (past : List Entry) (e : Entry) (k : NodeNo) (eff : Option Request) (added : Option Record) → Step start past e k eff added → committed_by past e ≡ None → (n : NodeNo) → SameComm start past e n → node_same n k ≡ false
    → AgreesAt start (e ∷ past) n × ComparesAt start (e ∷ past) n
away start past e k eff added s none n commits other = keep_node start past e n (s.elsewhere n other) (flat_stays start past e none n) commits (s.even.agrees n) (s.even.compares n)

-- Nothing, or a Forced

goes_idle : (start : Start) (past : List Entry) (e : Entry) (k : NodeNo) (eff : Option Request) → IsIdle eff → Step start past e k eff None → Goes start past e
goes_idle start past e k eff none s =
    let nothing : committed_by past e ≡ None = s.commits ∙ idle_commits past k eff none in
    let same = comm_stays start past e k eff None s tt in (
      by_node (λ n. AgreesAt start (e ∷ past) n × ComparesAt start (e ∷ past) n) k
          (keep_node start past e k s.here (flat_stays start past e nothing k) (same k) (s.even.agrees k) (s.even.compares k))
          (λ n other. away start past e k eff None s nothing n (same n) other),
      commits_none past e (λ i. mismatch_from (flat start past) 0 i.mini.items ≡ None) nothing,
    )

forced_node : (start : Start) (past : List Entry) (e : Entry) (k : NodeNo) (t : Tid) → records_of start (e ∷ past) k ≡ Forced t ∷ records_of start past k
    → space_in (flat start (e ∷ past)) k ≡ space_in (flat start past) k → SameComm start past e k → AgreesAt start past k → ComparesAt start past k
    → AgreesAt start (e ∷ past) k × ComparesAt start (e ∷ past) k
forced_node start past e k t new still commits agrees compares =
    let space = space_of (base_at start k) (records_of start past k) in
    let held = held_parts (records_of start past k) in (
      subst (λ (r : List Record). space_in (flat start (e ∷ past)) k ≡ with_held (comm start (e ∷ past)) (space_of (base_at start k) r) (held_parts r)) (sym new)
          (still ∙ (agrees ∙ sym (same_layers (comm start (e ∷ past)) (comm start past) space held commits))),
      subst (λ (r : List Record). AllByRecursion (λ h. (IsOld start h.tid → ⊥) → comm start (e ∷ past) h.tid ≡ false → part_mismatch_from (space_in (flat start (e ∷ past)) k) 0 h.part ≡ None) (held_parts r)) (sym new)
          (all_both (λ h. comm start (e ∷ past) h.tid ≡ comm start past h.tid) (λ h. (IsOld start h.tid → ⊥) → comm start past h.tid ≡ false → part_mismatch_from (space_in (flat start past) k) 0 h.part ≡ None) (λ h. (IsOld start h.tid → ⊥) → comm start (e ∷ past) h.tid ≡ false → part_mismatch_from (space_in (flat start (e ∷ past)) k) 0 h.part ≡ None)
          (λ h c o new off. ap (λ (w : List ℕ). part_mismatch_from w 0 h.part) still ∙ o new (sym c ∙ off)) held commits compares),
    )

goes_forced : (start : Start) (past : List Entry) (e : Entry) (k : NodeNo) (eff : Option Request) (t : Tid) → IsIdle eff → Step start past e k eff (Some (Forced t)) → Goes start past e
goes_forced start past e k eff t none s =
    let nothing : committed_by past e ≡ None = s.commits ∙ idle_commits past k eff none in
    let same = comm_stays start past e k eff (Some (Forced t)) s tt in (
      by_node (λ n. AgreesAt start (e ∷ past) n × ComparesAt start (e ∷ past) n) k
          (forced_node start past e k t s.here (flat_stays start past e nothing k) (same k) (s.even.agrees k) (s.even.compares k))
          (λ n other. away start past e k eff (Some (Forced t)) s nothing n (same n) other),
      commits_none past e (λ i. mismatch_from (flat start past) 0 i.mini.items ≡ None) nothing,
    )

-- A decision

pub held_there : (records : List Record) (t : Tid) → is_held records t ≡ true → (g : HeldPart) × (held_part_of t (held_parts records) ≡ Some g)
held_there records t is = some (held_part_of t (held_parts records)) refl is
  where
    some : (o : Option HeldPart) → held_part_of t (held_parts records) ≡ o → Rattle.std.proofs.Common.is_some o ≡ true → (g : HeldPart) × (held_part_of t (held_parts records) ≡ Some g)
    some None e h = absurd cc
    some (Some g) e h = (g, e)

pub decided_comm : (start : Start) (past : List Entry) (k : NodeNo) (t : Tid) (verdict : Bool) → StartsSound start → Kept start past → RecordSound start past k (Decided t verdict) → comm start past t ≡ verdict
decided_comm start past k t true fit kept sound = voted_comm start past t kept sound
decided_comm start past k t false fit kept sound = lost_comm start past t fit kept sound

goes_decided : (start : Start) (past : List Entry) (e : Entry) (k : NodeNo) (eff : Option Request) (t : Tid) (verdict : Bool) → IsIdle eff → is_held (records_of start past k) t ≡ true → Step start past e k eff (Some (Decided t verdict)) → Goes start past e
goes_decided start past e k eff t verdict none is s =
    let nothing : committed_by past e ≡ None = s.commits ∙ idle_commits past k eff none in
    let same = comm_stays start past e k eff (Some (Decided t verdict)) s tt in
    let held = held_parts (records_of start past k) in
    let g = held_there (records_of start past k) t is in
    let sound : AllByRecursion (RecordSound start (e ∷ past) k) (Decided t verdict ∷ records_of start past k) = subst (λ (r : List Record). AllByRecursion (RecordSound start (e ∷ past) k) r) s.here (s.kept_after.records k) in
    let one = held_fact (λ h. comm start (e ∷ past) h.tid ≡ comm start past h.tid) t held g.0 (same k) g.1 in
    let named : comm start (e ∷ past) t ≡ comm start past t = subst (λ (u : Tid). comm start (e ∷ past) u ≡ comm start past u) (tid_same-true g.0.tid t one.1) one.0 in
    let on : comm start past t ≡ verdict = sym named ∙ decided_comm start (e ∷ past) k t verdict s.sound s.kept_after sound.0 in
    let still = flat_stays start past e nothing k in (
      by_node (λ n. AgreesAt start (e ∷ past) n × ComparesAt start (e ∷ past) n) k (
        decide_node start past e k t verdict g.0 s.here g.1 on still (same k) (s.even.distinct k) (s.even.apart k) (s.even.agrees k),
        subst (λ (r : List Record). AllByRecursion (λ h. (IsOld start h.tid → ⊥) → comm start (e ∷ past) h.tid ≡ false → part_mismatch_from (space_in (flat start (e ∷ past)) k) 0 h.part ≡ None) (held_parts r)) (sym s.here)
            (Rattle.mn_mini.proofs.Apart.All-without (λ h. (IsOld start h.tid → ⊥) → comm start (e ∷ past) h.tid ≡ false → part_mismatch_from (space_in (flat start (e ∷ past)) k) 0 h.part ≡ None) t held
            (all_both (λ h. comm start (e ∷ past) h.tid ≡ comm start past h.tid) (λ h. (IsOld start h.tid → ⊥) → comm start past h.tid ≡ false → part_mismatch_from (space_in (flat start past) k) 0 h.part ≡ None) (λ h. (IsOld start h.tid → ⊥) → comm start (e ∷ past) h.tid ≡ false → part_mismatch_from (space_in (flat start (e ∷ past)) k) 0 h.part ≡ None)
            (λ h c o new off. ap (λ (w : List ℕ). part_mismatch_from w 0 h.part) still ∙ o new (sym c ∙ off)) held (same k) (s.even.compares k))),
      )
          (λ n other. away start past e k eff (Some (Decided t verdict)) s nothing n (same n) other),
      commits_none past e (λ i. mismatch_from (flat start past) 0 i.mini.items ≡ None) nothing,
    )

-- An execution

pub issued_is : (start : Start) (past : List Entry) (t : Tid) (mini : Mini) → issue_named t (issues_of past) ≡ mini_of past t → mini_of past t ≡ Some mini → issued_as t past ≡ Some (record { tid = t; mini = mini })
issued_is start past t mini agree is = ap (λ (o : Option Mini). Rattle.std.specs.Option.option_map (λ (m : Mini). let i : Issued = record { tid = t; mini = m } in i) o) (agree ∙ is)

-- an id with one participant is not held
pub exec_unheld : (start : Start) (past : List Entry) (k : NodeNo) (t : Tid) (mini : Mini) (n : NodeNo) → (IsOld start t → ⊥) → mini_of past t ≡ Some mini → participants_of mini ≡ n ∷ [] → (hs : List HeldPart)
    → AllByRecursion (PartOf start past k) hs → AllByRecursion (λ h. tid_same h.tid t ≡ false) hs
exec_unheld start past k t mini n new is alone hs parts = weaker (PartOf start past k) (λ h. tid_same h.tid t ≡ false) (λ h p. differs h p) hs parts
  where
    differs : (h : HeldPart) → PartOf start past k h → tid_same h.tid t ≡ false
    differs h (inl (other, is', own, has, several)) = elim (tid_same h.tid t) as (λ b. tid_same h.tid t ≡ b → tid_same h.tid t ≡ false) [
      | true ↦ λ e.
          let same : mini ≡ other = same_mini mini other (sym is ∙ (ap (λ (u : Tid). mini_of past u) (sym (tid_same-true h.tid t e)) ∙ is')) in
          let few : length (participants_of other) ≡ 1 = ap (λ (m : Mini). length (participants_of m)) (sym same) ∙ ap (λ (ps : List NodeNo). length ps) alone in
          absurd (omega (arith, few, several))
      | false ↦ λ e. e
    ] refl
    differs h (inr old) = elim (tid_same h.tid t) as (λ b. tid_same h.tid t ≡ b → tid_same h.tid t ≡ false) [
      | true ↦ λ e. absurd (new (subst (λ (u : Tid). IsOld start u) (tid_same-true h.tid t e) old))
      | false ↦ λ e. e
    ] refl

-- where the one participant is another node, a node is not named
pub unnamed : (start : Start) (mini : Mini) (k n : NodeNo) → IsMade start mini → participants_of mini ≡ k ∷ [] → node_same n k ≡ false → list_any (λ i. node_same (item_node i) n) mini.items ≡ false
unnamed start mini k n made alone other = elim (list_any (λ i. node_same (item_node i) n) mini.items) as (λ b. list_any (λ i. node_same (item_node i) n) mini.items ≡ b → list_any (λ i. node_same (item_node i) n) mini.items ≡ false) [
  | true ↦ λ e.
      let part : (node_same k n || false) ≡ true = subst (λ (ps : List NodeNo). list_any (λ m. node_same m n) ps ≡ true) alone (named_part start mini n made e) in
      let far : (node_same k n || false) ≡ false = ap (λ (b : Bool). b || false) (same_turned n k other) in
      absurd (clash _ part far)
  | false ↦ λ e. e
] refl

goes_executed : (start : Start) (past : List Entry) (e : Entry) (k : NodeNo) (t : Tid) (part : List PartItem) → clash_of (held_parts (records_of start past k)) t part ≡ None
    → part_mismatch_from (space_of (base_at start k) (records_of start past k)) 0 part ≡ None → ExecAt past t k part → Step start past e k (Some (Ask.Exec t part)) (if has_write part then Some (Executed t part) else None) → Goes start past e
goes_executed start past e k t part free tested (mini, is, own, alone) s =
    let i : Issued = record { tid = t; mini = mini } in
    let that : committed_by past e ≡ Some i = s.commits ∙ issued_is start past t mini (s.issued t) is in
    let made : IsMade start mini = s.even.minis t mini is in
    let held = held_parts (records_of start past k) in
    let clear : IsFree part held = free_of held t part free (exec_unheld start past k t mini k (new_not_old start past t.client t mini s.kept is) is alone held (held_at start past k (records_of start past k) (s.kept.records k))) in
    let holds_here : part_mismatch_from (space_in (flat start past) k) 0 (part_of mini k) ≡ None = subst (λ (p : List PartItem). part_mismatch_from (space_in (flat start past) k) 0 p ≡ None) own (holds_flat start past k part clear (s.even.agrees k) tested) in
    let all : (n : NodeNo) → part_mismatch_from (space_in (flat start past) n) 0 (part_of mini n) ≡ None =
    by_node (λ n. part_mismatch_from (space_in (flat start past) n) 0 (part_of mini n) ≡ None) k holds_here
    (λ n other. ap (λ (p : List PartItem). part_mismatch_from (space_in (flat start past) n) 0 p) (no_part mini n (unnamed start mini k n made alone other))) in
    let holds : mismatch_from (flat start past) 0 mini.items ≡ None = mini_holds (flat start past) mini all in
    let takes : Takes start past e mini = flat_takes start past e i that holds (inside_flat start past mini s.even made) in
    let same : (n : NodeNo) → SameComm start past e n = comm_stays start past e k (Some (Ask.Exec t part)) (if has_write part then Some (Executed t part) else None) s (quiet (has_write part)) in (
      by_node (λ n. AgreesAt start (e ∷ past) n × ComparesAt start (e ∷ past) n) k
          (execute_node start past e k t part mini (has_write part) refl own s.here takes clear (same k) (s.even.agrees k) (s.even.compares k))
          (λ n other. other_node start past e n mini (unnamed start mini k n made alone other) (s.elsewhere n other) takes (same n) (s.even.agrees n) (s.even.compares n)),
      commits_that past e (λ j. mismatch_from (flat start past) 0 j.mini.items ≡ None) i that holds,
    )
  where
    quiet : (b : Bool) → IsNoVote (if b then Some (Executed t part) else None)
    quiet true = tt
    quiet false = tt

-- A vote

-- who has voted after it
votes_after : (start : Start) (past : List Entry) (e : Entry) (k : NodeNo) (t : Tid) (ps : List NodeNo) (part : List PartItem) → Step start past e k (Some (Ask.Prepare t ps part)) (Some (Voted t ps part))
    → (tid : Tid) (n : NodeNo) → has_voted (records_of start (e ∷ past) n) tid ≡ ((node_same n k && tid_same t tid) || has_voted (records_of start past n) tid)
votes_after start past e k t ps part s tid =
    by_node (λ n. has_voted (records_of start (e ∷ past) n) tid ≡ ((node_same n k && tid_same t tid) || has_voted (records_of start past n) tid)) k
    (ap (λ (r : List Record). has_voted r tid) s.here ∙ sym (ap (λ (b : Bool). (b && tid_same t tid) || has_voted (records_of start past k) tid) (same_self k)))
    (λ n other. ap (λ (r : List Record). has_voted r tid) (s.elsewhere n other) ∙ sym (ap (λ (b : Bool). (b && tid_same t tid) || has_voted (records_of start past n) tid) other))

-- of other ids the same are committed
pub comm_other : (start : Start) (past : List Entry) (e : Entry) (k : NodeNo) (t : Tid) (ps : List NodeNo) (part : List PartItem) → Step start past e k (Some (Ask.Prepare t ps part)) (Some (Voted t ps part))
    → (n : NodeNo) (h : HeldPart) → PartOf start past n h → tid_same h.tid t ≡ false → comm start (e ∷ past) h.tid ≡ comm start past h.tid
comm_other start past e k t ps part s n h (inl (mini, is, own, has, several)) other =
    comm_same start past e h.tid mini is (issue_stays start past e h.tid.client h.tid mini s.kept s.keeps is)
    (λ m. votes_after start past e k t ps part s h.tid m ∙ ap (λ (b : Bool). (node_same m k && b) || has_voted (records_of start past m) h.tid) (tid_turned h.tid t other) ∙ none (node_same m k) _)
  where
    none : (a b : Bool) → ((a && false) || b) ≡ b
    none true b = refl
    none false b = refl
comm_other start past e k t ps part s n h (inr old) other = comm_old start (e ∷ past) h.tid s.kept_after old ∙ sym (comm_old start past h.tid s.kept old)

-- whether the vote is the last
abbrev pub is_complete : List Entry → NodeNo → Tid → List NodeNo → Bool
is_complete past k t ps = list_all (λ m. node_same m k || has_vote t m past) ps

pub comm_complete : (start : Start) (past : List Entry) (e : Entry) (k : NodeNo) (t : Tid) (ps : List NodeNo) (part : List PartItem) (mini : Mini) → Step start past e k (Some (Ask.Prepare t ps part)) (Some (Voted t ps part))
    → mini_of past t ≡ Some mini → ps ≡ participants_of mini → comm start (e ∷ past) t ≡ is_complete past k t ps
comm_complete start past e k t ps part mini s is all =
    comm_is start (e ∷ past) t mini (issue_stays start past e t.client t mini s.kept s.keeps is)
    ∙ (all_same (λ n. has_voted (records_of start (e ∷ past) n) t) (λ m. node_same m k || has_vote t m past) (participants_of mini)
    (λ m. votes_after start past e k t ps part s t m ∙ (ap (λ (b : Bool). (node_same m k && b) || has_voted (records_of start past m) t) (tid_same-refl t) ∙ (whole (node_same m k) _ ∙ ap (λ (b : Bool). node_same m k || b) (sym (s.in_log m t mini is)))))
    ∙ ap (λ (x : List NodeNo). is_complete past k t x) (sym all))
  where
    whole : (a b : Bool) → ((a && true) || b) ≡ (a || b)
    whole true b = refl
    whole false b = refl

-- before it the id is not committed
pub comm_before : (start : Start) (past : List Entry) (k : NodeNo) (t : Tid) (mini : Mini) → mini_of past t ≡ Some mini → Contains (participants_of mini) k → has_voted (records_of start past k) t ≡ false → comm start past t ≡ false
comm_before start past k t mini is has unvoted = elim (comm start past t) as (λ b. comm start past t ≡ b → comm start past t ≡ false) [
  | true ↦ λ e.
      let all : AllByRecursion (λ n. has_voted (records_of start past n) t ≡ true) (participants_of mini) = Rattle.mn_votes.proofs.Start.all_true (λ n. has_voted (records_of start past n) t) (participants_of mini) (sym (comm_is start past t mini is) ∙ e) in
      absurd (clash _ (contained (λ n. has_voted (records_of start past n) t) (participants_of mini) k all has) unvoted)
  | false ↦ λ e. e
] refl

-- a vote that is not the last
goes_voted : (start : Start) (past : List Entry) (e : Entry) (k : NodeNo) (t : Tid) (ps : List NodeNo) (part : List PartItem) (mini : Mini) → mini_of past t ≡ Some mini → ps ≡ participants_of mini → part ≡ part_of mini k
    → Contains (participants_of mini) k → has_voted (records_of start past k) t ≡ false → IsFree part (held_parts (records_of start past k))
    → part_mismatch_from (space_of (base_at start k) (records_of start past k)) 0 part ≡ None
    → Step start past e k (Some (Ask.Prepare t ps part)) (Some (Voted t ps part)) → is_complete past k t ps ≡ false → Goes start past e
goes_voted start past e k t ps part mini is all own has unvoted clear tested s last =
    let nothing : committed_by past e ≡ None = s.commits ∙ ap (λ (b : Bool). if b then issued_as t past else None) last in
    let off : comm start (e ∷ past) t ≡ false = comm_complete start past e k t ps part mini s is all ∙ last in
    let before : comm start past t ≡ false = comm_before start past k t mini is has unvoted in
    let same : (n : NodeNo) → SameComm start past e n = λ n.
    weaker (PartOf start past n) (λ h. comm start (e ∷ past) h.tid ≡ comm start past h.tid) (λ h p. stays off before n h p) (held_parts (records_of start past n)) (held_at start past n (records_of start past n) (s.kept.records n)) in (
      by_node (λ n. AgreesAt start (e ∷ past) n × ComparesAt start (e ∷ past) n) k
          (vote_node start past e k t ps part s.here off (flat_stays start past e nothing k) (holds_flat start past k part clear (s.even.agrees k) tested) (same k) (s.even.agrees k) (s.even.compares k))
          (λ n other. away start past e k (Some (Ask.Prepare t ps part)) (Some (Voted t ps part)) s nothing n (same n) other),
      commits_none past e (λ i. mismatch_from (flat start past) 0 i.mini.items ≡ None) nothing,
    )
  where
    stays : comm start (e ∷ past) t ≡ false → comm start past t ≡ false → (n : NodeNo) (h : HeldPart) → PartOf start past n h → comm start (e ∷ past) h.tid ≡ comm start past h.tid
    stays off before n h p = elim (tid_same h.tid t) as (λ b. tid_same h.tid t ≡ b → comm start (e ∷ past) h.tid ≡ comm start past h.tid) [
      | true ↦ λ eq. subst (λ (u : Tid). comm start (e ∷ past) u ≡ comm start past u) (sym (tid_same-true h.tid t eq)) (off ∙ sym before)
      | false ↦ λ other. comm_other start past e k t ps part s n h p other
    ] refl

-- at the last vote each other participant still holds its part
voter_holds : (start : Start) (past : List Entry) (e : Entry) (k : NodeNo) (eff : Option Request) (added : Option Record) (t : Tid) (mini : Mini) → Step start past e k eff added → mini_of past t ≡ Some mini → comm start past t ≡ false → comm start (e ∷ past) t ≡ true
    → (n : NodeNo) → has_voted (records_of start past n) t ≡ true → (g : HeldPart) × (held_part_of t (held_parts (records_of start past n)) ≡ Some g)
voter_holds start past e k eff added t mini s is off on n voted = by (voted_held t (records_of start past n) voted)
  where
    by : ((g : HeldPart) × (held_part_of t (held_parts (records_of start past n)) ≡ Some g)) ⊎ ((has_decided_yes (records_of start past n) t ≡ true) ⊎ (has_decided_no (records_of start past n) t ≡ true))
        → (g : HeldPart) × (held_part_of t (held_parts (records_of start past n)) ≡ Some g)
    by (inl h) = h
    by (inr (inl agreed)) = absurd (clash _ (voted_comm start past t s.kept (decided_yes_voted start past n t (records_of start past n) (s.kept.records n) agreed)) off)
    by (inr (inr against)) = absurd (clash _ on (lost_comm start (e ∷ past) t s.sound s.kept_after (IsLost_stays start past e t s.kept s.keeps (decided_no_lost start past n t (records_of start past n) (s.kept.records n) against))))

-- what is held of an id is its part
held_own : (start : Start) (past : List Entry) (t : Tid) (mini : Mini) (n : NodeNo) (hs : List HeldPart) (g : HeldPart) → (IsOld start t → ⊥) → mini_of past t ≡ Some mini → AllByRecursion (PartOf start past n) hs → held_part_of t hs ≡ Some g → g.part ≡ part_of mini n
held_own start past t mini n hs g new is parts there = let p = held_fact (PartOf start past n) t hs g parts there in by (tid_same-true g.tid t p.1) p.0
  where
    by : g.tid ≡ t → PartOf start past n g → g.part ≡ part_of mini n
    by eq (inl (other, is', own, has, several)) = let same : mini ≡ other = same_mini mini other (sym is ∙ (ap (λ (u : Tid). mini_of past u) (sym eq) ∙ is')) in own ∙ ap (λ (m : Mini). part_of m n) (sym same)
    by eq (inr old) = absurd (new (subst (λ (u : Tid). IsOld start u) eq old))

-- at a node that has its part, the last vote makes it committed
flip_node : (start : Start) (past : List Entry) (e : Entry) (n : NodeNo) (t : Tid) (mini : Mini) (g : HeldPart) → records_of start (e ∷ past) n ≡ records_of start past n → Takes start past e mini → g.part ≡ part_of mini n
    → held_part_of t (held_parts (records_of start past n)) ≡ Some g → AreDistinct (held_parts (records_of start past n)) → PartsAreApart (held_parts (records_of start past n))
    → comm start past t ≡ false → comm start (e ∷ past) t ≡ true → AllByRecursion (λ h. tid_same h.tid t ≡ false → comm start (e ∷ past) h.tid ≡ comm start past h.tid) (held_parts (records_of start past n))
    → AgreesAt start past n → ComparesAt start past n → AgreesAt start (e ∷ past) n × ComparesAt start (e ∷ past) n
flip_node start past e n t mini g same takes own there distinct apart off on others agrees compares =
    let space = space_of (base_at start n) (records_of start past n) in
    let held = held_parts (records_of start past n) in
    let taken : space_in (flat start (e ∷ past)) n ≡ space_after_part (space_in (flat start past) n) g.part = takes n ∙ ap (λ (p : List PartItem). space_after_part (space_in (flat start past) n) p) (sym own) in (
      subst (λ (r : List Record). space_in (flat start (e ∷ past)) n ≡ with_held (comm start (e ∷ past)) (space_of (base_at start n) r) (held_parts r)) (sym same)
          (taken ∙ (ap (λ (w : List ℕ). space_after_part w g.part) agrees ∙ sym (flip_layer (comm start past) (comm start (e ∷ past)) space held t g distinct apart there off on others))),
      subst (λ (r : List Record). AllByRecursion (λ h. (IsOld start h.tid → ⊥) → comm start (e ∷ past) h.tid ≡ false → part_mismatch_from (space_in (flat start (e ∷ past)) n) 0 h.part ≡ None) (held_parts r)) (sym same)
          (left taken held others (apart_from_held t held g distinct apart there) compares),
    )
  where
    left : space_in (flat start (e ∷ past)) n ≡ space_after_part (space_in (flat start past) n) g.part → (hs : List HeldPart)
        → AllByRecursion (λ h. tid_same h.tid t ≡ false → comm start (e ∷ past) h.tid ≡ comm start past h.tid) hs → AllByRecursion (λ h. tid_same h.tid t ≡ false → parts_conflict h.part g.part ≡ false) hs
        → AllByRecursion (λ h. (IsOld start h.tid → ⊥) → comm start past h.tid ≡ false → part_mismatch_from (space_in (flat start past) n) 0 h.part ≡ None) hs
        → AllByRecursion (λ h. (IsOld start h.tid → ⊥) → comm start (e ∷ past) h.tid ≡ false → part_mismatch_from (space_in (flat start (e ∷ past)) n) 0 h.part ≡ None) hs
    left taken [] o a c = tt
    left taken (h ∷ hs) o a c = (
      λ new still. elim (tid_same h.tid t) as (λ b. tid_same h.tid t ≡ b → part_mismatch_from (space_in (flat start (e ∷ past)) n) 0 h.part ≡ None) [
        | true ↦ λ eq. absurd (clash _ (subst (λ (u : Tid). comm start (e ∷ past) u ≡ true) (sym (tid_same-true h.tid t eq)) on) still)
        | false ↦ λ other. ap (λ (w : List ℕ). part_mismatch_from w 0 h.part) taken ∙ (mismatch-after_part (space_in (flat start past) n) h.part g.part 0 (a.0 other) ∙ c.0 new (sym (o.0 other) ∙ still))
      ] refl,
      left taken hs o.1 a.1 c.1,
    )

-- the last vote
goes_completed : (start : Start) (past : List Entry) (e : Entry) (k : NodeNo) (t : Tid) (ps : List NodeNo) (part : List PartItem) (mini : Mini) → mini_of past t ≡ Some mini → ps ≡ participants_of mini → part ≡ part_of mini k
    → Contains (participants_of mini) k → has_voted (records_of start past k) t ≡ false → IsFree part (held_parts (records_of start past k))
    → part_mismatch_from (space_of (base_at start k) (records_of start past k)) 0 part ≡ None
    → Step start past e k (Some (Ask.Prepare t ps part)) (Some (Voted t ps part)) → is_complete past k t ps ≡ true → Goes start past e
goes_completed start past e k t ps part mini is all own has unvoted clear tested s last =
    let i : Issued = record { tid = t; mini = mini } in
    let that : committed_by past e ≡ Some i = s.commits ∙ (ap (λ (b : Bool). if b then issued_as t past else None) last ∙ issued_is start past t mini (s.issued t) is) in
    let on : comm start (e ∷ past) t ≡ true = comm_complete start past e k t ps part mini s is all ∙ last in
    let off : comm start past t ≡ false = comm_before start past k t mini is has unvoted in
    let made : IsMade start mini = s.even.minis t mini is in
    let holds_here : part_mismatch_from (space_in (flat start past) k) 0 (part_of mini k) ≡ None = subst (λ (p : List PartItem). part_mismatch_from (space_in (flat start past) k) 0 p ≡ None) own (holds_flat start past k part clear (s.even.agrees k) tested) in
    let each : (n : NodeNo) → node_same n k ≡ false → (o : Option HeldPart) → held_part_of t (held_parts (records_of start past n)) ≡ o → part_mismatch_from (space_in (flat start past) n) 0 (part_of mini n) ≡ None = λ n other o there. compared off on made n other o there in
    let all_hold : (n : NodeNo) → part_mismatch_from (space_in (flat start past) n) 0 (part_of mini n) ≡ None =
    by_node (λ n. part_mismatch_from (space_in (flat start past) n) 0 (part_of mini n) ≡ None) k holds_here (λ n other. each n other (held_part_of t (held_parts (records_of start past n))) refl) in
    let holds : mismatch_from (flat start past) 0 mini.items ≡ None = mini_holds (flat start past) mini all_hold in
    let takes : Takes start past e mini = flat_takes start past e i that holds (inside_flat start past mini s.even made) in (
      by_node (λ n. AgreesAt start (e ∷ past) n × ComparesAt start (e ∷ past) n) k
          (last_vote_node start past e k t ps part mini s.here on own takes clear (same_if k (unvoted_unheld (records_of start past k) t unvoted)) (s.even.agrees k) (s.even.compares k))
          (λ n other. far off on made takes n other (held_part_of t (held_parts (records_of start past n))) refl),
      commits_that past e (λ j. mismatch_from (flat start past) 0 j.mini.items ≡ None) i that holds,
    )
  where
    new_id : IsOld start t → ⊥
    new_id = new_not_old start past t.client t mini s.kept is

    parts_at : (n : NodeNo) → AllByRecursion (PartOf start past n) (held_parts (records_of start past n))
    parts_at n = held_at start past n (records_of start past n) (s.kept.records n)

    others_at : (n : NodeNo) → AllByRecursion (λ h. tid_same h.tid t ≡ false → comm start (e ∷ past) h.tid ≡ comm start past h.tid) (held_parts (records_of start past n))
    others_at n = weaker (PartOf start past n) (λ h. tid_same h.tid t ≡ false → comm start (e ∷ past) h.tid ≡ comm start past h.tid) (λ h p other. comm_other start past e k t ps part s n h p other) (held_parts (records_of start past n)) (parts_at n)

    same_if : (n : NodeNo) → AllByRecursion (λ h. tid_same h.tid t ≡ false) (held_parts (records_of start past n)) → SameComm start past e n
    same_if n none = all_both (λ h. tid_same h.tid t ≡ false) (λ h. tid_same h.tid t ≡ false → comm start (e ∷ past) h.tid ≡ comm start past h.tid) (λ h. comm start (e ∷ past) h.tid ≡ comm start past h.tid) (λ h p q. q p) (held_parts (records_of start past n)) none (others_at n)

    -- a node that is named and is not the one that votes holds its part
    unnamed_there : comm start past t ≡ false → comm start (e ∷ past) t ≡ true → IsMade start mini → (n : NodeNo) → node_same n k ≡ false → held_part_of t (held_parts (records_of start past n)) ≡ None → list_any (λ i. node_same (item_node i) n) mini.items ≡ false
    unnamed_there off on made n other none = elim (list_any (λ i. node_same (item_node i) n) mini.items) as (λ b. list_any (λ i. node_same (item_node i) n) mini.items ≡ b → list_any (λ i. node_same (item_node i) n) mini.items ≡ false) [
      | true ↦ λ named.
          let issued' = issue_stays start past e t.client t mini s.kept s.keeps is in
          let voted : AllByRecursion (λ m. has_voted (records_of start (e ∷ past) m) t ≡ true) (participants_of mini) = Rattle.mn_votes.proofs.Start.all_true (λ m. has_voted (records_of start (e ∷ past) m) t) (participants_of mini) (sym (comm_is start (e ∷ past) t mini issued') ∙ on) in
          let now : has_voted (records_of start (e ∷ past) n) t ≡ true = any_contains (participants_of mini) n (λ m. has_voted (records_of start (e ∷ past) m) t) voted (named_part start mini n made named) in
          let then' : has_voted (records_of start past n) t ≡ true = sym (ap (λ (r : List Record). has_voted r t) (s.elsewhere n other)) ∙ now in
          let g = voter_holds start past e k (Some (Ask.Prepare t ps part)) (Some (Voted t ps part)) t mini s is off on n then' in
          absurd (differ (sym none ∙ g.1))
      | false ↦ λ named. named
    ] refl
      where
        differ : {g : HeldPart} → None ≡ Some g → ⊥
        differ h = absurd cc

    compared : comm start past t ≡ false → comm start (e ∷ past) t ≡ true → IsMade start mini → (n : NodeNo) → node_same n k ≡ false → (o : Option HeldPart) → held_part_of t (held_parts (records_of start past n)) ≡ o → part_mismatch_from (space_in (flat start past) n) 0 (part_of mini n) ≡ None
    compared off on made n other None none = ap (λ (p : List PartItem). part_mismatch_from (space_in (flat start past) n) 0 p) (no_part mini n (unnamed_there off on made n other none))
    compared off on made n other (Some g) there =
        let fact = held_fact (λ h. (IsOld start h.tid → ⊥) → comm start past h.tid ≡ false → part_mismatch_from (space_in (flat start past) n) 0 h.part ≡ None) t (held_parts (records_of start past n)) g (s.even.compares n) there in
        let off' : comm start past g.tid ≡ false = ap (λ (u : Tid). comm start past u) (tid_same-true g.tid t fact.1) ∙ off in
        subst (λ (p : List PartItem). part_mismatch_from (space_in (flat start past) n) 0 p ≡ None) (held_own start past t mini n (held_parts (records_of start past n)) g new_id is (parts_at n) there) (fact.0 (λ old. new_id (subst (λ (u : Tid). IsOld start u) (tid_same-true g.tid t fact.1) old)) off')

    far : comm start past t ≡ false → comm start (e ∷ past) t ≡ true → IsMade start mini → Takes start past e mini → (n : NodeNo) → node_same n k ≡ false → (o : Option HeldPart) → held_part_of t (held_parts (records_of start past n)) ≡ o
        → AgreesAt start (e ∷ past) n × ComparesAt start (e ∷ past) n
    far off on made takes n other None none =
        other_node start past e n mini (unnamed_there off on made n other none) (s.elsewhere n other) takes (same_if n (none_held t (held_parts (records_of start past n)) none)) (s.even.agrees n) (s.even.compares n)
    far off on made takes n other (Some g) there =
        flip_node start past e n t mini g (s.elsewhere n other) takes (held_own start past t mini n (held_parts (records_of start past n)) g new_id is (parts_at n) there) there (s.even.distinct n) (s.even.apart n) off on (others_at n) (s.even.agrees n) (s.even.compares n)

-- Any step

pub goes : (start : Start) (past : List Entry) (e : Entry) (k : NodeNo) (eff : Option Request) (added : Option Record) → Act start past k eff added → Step start past e k eff added → Goes start past e
goes start past e k eff added (idle q none) s = goes_idle start past e k q none s
goes start past e k eff added (votes t ps part unforced free tested (unvoted, (mini, is, all), (mini', is', own, has, several))) s =
    let same : mini' ≡ mini = same_mini mini' mini (sym is' ∙ is) in
    let own' : part ≡ part_of mini k = own ∙ ap (λ (m : Mini). part_of m k) same in
    let has' : Contains (participants_of mini) k = subst (λ (m : Mini). Contains (participants_of m) k) same has in
    let clear : IsFree part (held_parts (records_of start past k)) = free_of (held_parts (records_of start past k)) t part free (unvoted_unheld (records_of start past k) t unvoted) in
    elim (is_complete past k t ps) as (λ b. is_complete past k t ps ≡ b → Goes start past e) [
      | true ↦ λ last. goes_completed start past e k t ps part mini is all own' has' unvoted clear tested s last
      | false ↦ λ last. goes_voted start past e k t ps part mini is all own' has' unvoted clear tested s last
    ] refl
goes start past e k eff added (executes t part free tested first) s = goes_executed start past e k t part free tested first.1 s
goes start past e k eff added (decides q t verdict none is) s = goes_decided start past e k q t verdict none is s
goes start past e k eff added (forces q t none unvoted unforced ps may) s = goes_forced start past e k q t none s
