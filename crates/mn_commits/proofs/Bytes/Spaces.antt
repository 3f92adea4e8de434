-- Runs agree with the flat memory.
use Rattle.std.proofs.Common.{◌≡◌, ℕ, ◌<◌, ◌≤◌, ◌⊎◌, inl, inr, Bool, true, false, ◌||◌, List, [], ◌∷◌, length, Option, Some, None, refl, subst, sym, ap, ◌∙◌, arith, if◌then◌else◌, get_or}
use Rattle.std.specs.Option.{option_map_or}
use Rattle.std.specs.List.{AllByRecursion, list_any, range_with_len}
use Rattle.std.proofs.lemmas.List.{get_or_past, ext_get_or}
use Rattle.std.proofs.lemmas.List.{get_or-map}
use Rattle.std.proofs.lemmas.List.FromFn.{get_or-map-range_with_len, length-range_with_len}
use Rattle.mn_base.specs.Ids.{tid_same, node_numbers}
use Rattle.mn_base.specs.declared.ids.NodeNo.{NodeNo}
use Rattle.mn_base.specs.declared.ids.Tid.{Tid}
use Rattle.mn_base.proofs.Booleans.{clash, falsely, or_cases}
use Rattle.mn_base.proofs.Naturals.{below_or}
use Rattle.mn_base.proofs.Lists.{weaker}
use Rattle.mn_mini.specs.declared.part.PartItem.{PartItem}
use Rattle.mn_mini.specs.declared.record.Record.{Record}
use Rattle.mn_mini.specs.declared.record.Record.TheVariants.{Voted, Executed, Decided, Forced}
use Rattle.mn_mini.specs.Mini.{Mini, participants_of}
use Rattle.mn_mini.specs.Flat.{space_in, reads_in, memory_after, unless_mismatched}
use Rattle.mn_mini.specs.Node.{HeldPart, held_parts, has_voted, has_executed, space_of, with_held}
use Rattle.mn_runs.specs.declared.entry.Entry.{Entry}
use Rattle.mn_runs.specs.Protocol.{Start, start_nodes, base_at, start_records, records_of, FollowsProtocol}
use Rattle.mn_runs.specs.Sound.{voted_participants, have_voted, is_committed, memory_in, opened_memory}
use Rattle.mn_votes.specs.Laws.{StartsSound}
use Rattle.mn_commits.specs.Laws.{CommitsAreFlat, SpacesAgree, MemoryIsFlat}
use Rattle.mn_runs.proofs.Same.{tid_same-true}
use Rattle.mn_votes.proofs.Backing.{IsOld, IssuedTo, PartAt, ExecAt, RecordSound, Kept}
use Rattle.mn_votes.proofs.Start.{names_old, no_records, voted_old, all_false, is_true_at, in_numbers}
use Rattle.mn_runs.proofs.Records.{vote_names, named_record, in_place_apart}
use Rattle.mn_runs.specs.Sound.{AreInPlace}
use Rattle.mn_mini.specs.Laws.{PartsAreApart}
use Rattle.mn_runs.proofs.Bases.{no_base}
use Rattle.mn_commits.proofs.Bytes.Layers.{AreDistinct}
use Rattle.mn_votes.proofs.Preserved.{kept_run, new_not_old}
use Rattle.mn_commits.proofs.Commits.Told.{votes_agree, issues_agree}
use Rattle.mn_commits.proofs.Bytes.Even.{comm, comm_is, comm_old, PartOf, held_at, AgreesAt}
use Rattle.mn_commits.proofs.Bytes.Step.{flat, Even, held_voted, unvoted_unheld}
use Rattle.mn_commits.proofs.Bytes.Through.{Whole, AreDistinct-without, pending_unvoted, pending_unexecuted, even_step, commit_holds}
use Rattle.mn_commits.proofs.Bytes.EachByte.{byte_of_layers, same_pending}

-- The opened memory

length-numbers : (nodes : ℕ) → length (node_numbers nodes) ≡ nodes
length-numbers nodes = Rattle.std.proofs.lemmas.List.length-map (range_with_len 0 nodes) (λ k. let r : NodeNo = record { 0 = k } in r) ∙ length-range_with_len 0 nodes

pub length-memory_in : (nodes : ℕ) (bases : NodeNo → List ℕ) (lists : NodeNo → List Record) → length (memory_in nodes bases lists) ≡ nodes
length-memory_in nodes bases lists = Rattle.std.proofs.lemmas.List.length-map (node_numbers nodes) (λ n. with_held (is_committed nodes lists) (space_of (bases n) (lists n)) (held_parts (lists n))) ∙ length-numbers nodes

pub space-memory_in : (nodes : ℕ) (bases : NodeNo → List ℕ) (lists : NodeNo → List Record) (n : NodeNo) → n.0 < nodes
    → space_in (memory_in nodes bases lists) n ≡ with_held (is_committed nodes lists) (space_of (bases n) (lists n)) (held_parts (lists n))
space-memory_in nodes bases lists n low =
    let F : NodeNo → List ℕ = λ m. with_held (is_committed nodes lists) (space_of (bases m) (lists m)) (held_parts (lists m)) in
    let within : n.0 < length (node_numbers nodes) = subst (λ (k : ℕ). n.0 < k) (sym (length-numbers nodes)) low in
    get_or-map F (node_numbers nodes) n.0 n [] within ∙ ap F (get_or-map-range_with_len (λ k. let r : NodeNo = record { 0 = k } in r) 0 nodes n.0 n.0 n low (omega arith))

-- The start

distinct_in_place : (nodes : ℕ) (n : NodeNo) (records : List Record) → AreInPlace nodes n records → AreDistinct (held_parts records)
distinct_in_place nodes n [] place = tt
distinct_in_place nodes n (Voted tid ps part ∷ older) place =
    (unvoted_unheld older tid (falsely _ (λ v. let named = vote_names tid older v in clash _ (named_record tid named.0 older named.1) place.0.0)), distinct_in_place nodes n older place.1)
distinct_in_place nodes n (Executed tid part ∷ older) place = distinct_in_place nodes n older place.1
distinct_in_place nodes n (Decided tid verdict ∷ older) place = AreDistinct-without tid (held_parts older) (distinct_in_place nodes n older place.1)
distinct_in_place nodes n (Forced tid ∷ older) place = distinct_in_place nodes n older place.1

even_start : (start : Start) → StartsSound start → Even start []
even_start start sound = record {
  agrees = λ n. agrees n (below_or n.0 (start_nodes start));
  compares = λ n.
      weaker (λ h. has_voted (start_records start n) h.tid ≡ true) (λ h. (IsOld start h.tid → ⊥) → comm start [] h.tid ≡ false → Rattle.mn_mini.specs.Flat.part_mismatch_from (space_in (flat start []) n) 0 h.part ≡ None)
      (λ h v new. absurd (new (voted_old start n h.tid v))) (held_parts (start_records start n)) (held_voted (start_records start n));
  distinct = λ n. distinct n (below_or n.0 (start_nodes start));
  apart = λ n. apart n (below_or n.0 (start_nodes start));
  spaces = length-memory_in (start_nodes start) (base_at start) (start_records start);
  minis = λ tid mini is. absurd cc;
}
  where
    agrees : (n : NodeNo) → (n.0 < start_nodes start) ⊎ (start_nodes start ≤ n.0) → AgreesAt start [] n
    agrees n (inl low) = space-memory_in (start_nodes start) (base_at start) (start_records start) n low
    agrees n (inr high) =
        let none : space_in (opened_memory start) n ≡ [] = get_or_past (opened_memory start) n.0 [] (subst (λ (k : ℕ). k ≤ n.0) (sym (length-memory_in (start_nodes start) (base_at start) (start_records start))) high) in
        none ∙ sym (ap (λ (r : List Record). with_held (comm start []) (space_of (base_at start n) r) (held_parts r)) (no_records start n high) ∙ no_base start n high)

    distinct : (n : NodeNo) → (n.0 < start_nodes start) ⊎ (start_nodes start ≤ n.0) → AreDistinct (held_parts (start_records start n))
    distinct n (inl low) = distinct_in_place (start_nodes start) n (start_records start n) (sound.in_place n low)
    distinct n (inr high) = subst (λ (r : List Record). AreDistinct (held_parts r)) (sym (no_records start n high)) tt

    apart : (n : NodeNo) → (n.0 < start_nodes start) ⊎ (start_nodes start ≤ n.0) → PartsAreApart (held_parts (start_records start n))
    apart n (inl low) = in_place_apart (start_nodes start) n (start_records start n) (sound.in_place n low)
    apart n (inr high) = subst (λ (r : List Record). PartsAreApart (held_parts r)) (sym (no_records start n high)) tt

pub whole_run : (start : Start) (past : List Entry) → StartsSound start → FollowsProtocol start past → Whole start past
whole_run start [] sound run = record {
  sound = sound;
  kept = kept_run start [] sound run;
  even = even_start start sound;
  pending = λ k t ps part down is. absurd cc;
  once = λ k t part down is. absurd cc;
  in_log = λ n tid mini is. absurd cc;
  issued = λ tid. refl;
}
whole_run start (e ∷ past) sound run =
    let w = whole_run start past sound run.0 in
    let after = kept_run start (e ∷ past) sound run in record {
      sound = sound;
      kept = after;
      even = even_step start past e w after run.1;
      pending = pending_unvoted start past e w.kept run.1 w.pending;
      once = pending_unexecuted start past e w.kept run.1 w.once;
      in_log = λ n tid mini is. votes_agree start (e ∷ past) n tid (falsely _ (λ v. new_not_old start (e ∷ past) tid.client tid mini after is (voted_old start n tid v))) run;
      issued = λ tid. issues_agree start (e ∷ past) tid run;
    }

pub commits_are_flat : CommitsAreFlat
commits_are_flat start past e i sound run is =
    let holds = commit_holds start past e i (whole_run start past sound run.0) (kept_run start (e ∷ past) sound run) run.1 is in
    (reads_in (flat start past) i.mini.items, memory_after (flat start past) i.mini.items, ap (λ o. unless_mismatched (flat start past) i.mini o) holds)

-- Which held ids are committed

pub executed_exec : (start : Start) (past : List Entry) (k : NodeNo) (tid : Tid) (records : List Record) → (IsOld start tid → ⊥) → AllByRecursion (RecordSound start past k) records → has_executed records tid ≡ true → (part : List PartItem) × ExecAt past tid k part
executed_exec start past k tid [] new a e = absurd cc
executed_exec start past k tid (Executed t part ∷ records) new a e =
    elim (or_cases (tid_same t tid) (has_executed records tid) e) as (λ _. (part : List PartItem) × ExecAt past tid k part) [
      | inl same ↦ (part, by (tid_same-true t tid same) a.0)
      | inr older ↦ executed_exec start past k tid records new a.1 older
    ]
  where
    by : t ≡ tid → RecordSound start past k (Executed t part) → ExecAt past tid k part
    by eq (inl h) = subst (λ (x : Tid). ExecAt past x k part) eq h.1
    by eq (inr old) = absurd (new (subst (λ (x : Tid). IsOld start x) eq old))
executed_exec start past k tid (Voted t ps part ∷ records) new a e = executed_exec start past k tid records new a.1 e
executed_exec start past k tid (Decided t verdict ∷ records) new a e = executed_exec start past k tid records new a.1 e
executed_exec start past k tid (Forced t ∷ records) new a e = executed_exec start past k tid records new a.1 e

pub named_issued : (start : Start) (past : List Entry) (k : NodeNo) (tid : Tid) (ps : List NodeNo) (records : List Record) → (IsOld start tid → ⊥) → AllByRecursion (RecordSound start past k) records → voted_participants tid records ≡ Some ps → IssuedTo past tid ps
named_issued start past k tid ps [] new a e = absurd cc
named_issued start past k tid ps (Voted t qs part ∷ records) new a e =
    elim (tid_same t tid) as (λ b. tid_same t tid ≡ b → (if b then Some qs else voted_participants tid records) ≡ Some ps → IssuedTo past tid ps) [
      | true ↦ λ same here. let eq : qs ≡ ps = cc in by (tid_same-true t tid same) eq a.0
      | false ↦ λ _ there. named_issued start past k tid ps records new a.1 there
    ] refl e
  where
    by : t ≡ tid → qs ≡ ps → RecordSound start past k (Voted t qs part) → IssuedTo past tid ps
    by eq all (inl h) = subst (λ (x : Tid). IssuedTo past x ps) eq (subst (λ (x : List NodeNo). IssuedTo past t x) all h.0)
    by eq all (inr h) = absurd (new (subst (λ (x : Tid). IsOld start x) eq (names_old start t qs (k, h))))
named_issued start past k tid ps (Executed t part ∷ records) new a e = named_issued start past k tid ps records new a.1 e
named_issued start past k tid ps (Decided t verdict ∷ records) new a e = named_issued start past k tid ps records new a.1 e
named_issued start past k tid ps (Forced t ∷ records) new a e = named_issued start past k tid ps records new a.1 e

abbrev shows_committed : (NodeNo → List Record) → Tid → NodeNo → Bool
shows_committed lists tid m = has_executed (lists m) tid || option_map_or (have_voted lists tid) (voted_participants tid (lists m)) false

any_same : (f g : NodeNo → Bool) (xs : List NodeNo) → ((x : NodeNo) → f x ≡ g x) → list_any f xs ≡ list_any g xs
any_same f g [] e = refl
any_same f g (x ∷ xs) e = let h = e x in let r = any_same f g xs e in cc

-- an id of the start is committed as it was there
pub old_committed : (start : Start) (past : List Entry) (tid : Tid) → Kept start past → IsOld start tid → is_committed (start_nodes start) (records_of start past) tid ≡ is_committed (start_nodes start) (start_records start) tid
old_committed start past tid kept old = any_same (shows_committed (records_of start past) tid) (shows_committed (start_records start) tid) (node_numbers (start_nodes start)) same
  where
    voted : (o : Option (List NodeNo)) → option_map_or (have_voted (records_of start past) tid) o false ≡ option_map_or (have_voted (start_records start) tid) o false
    voted None = refl
    voted (Some ps) = Rattle.mn_commits.proofs.Bytes.Even.all_same (λ n. has_voted (records_of start past n) tid) (λ n. has_voted (start_records start n) tid) ps (λ n. (kept.old n tid old).0)

    same : (m : NodeNo) → shows_committed (records_of start past) tid m ≡ shows_committed (start_records start) tid m
    same m =
        ap (λ (b : Bool). b || option_map_or (have_voted (records_of start past) tid) (voted_participants tid (records_of start past m)) false) (kept.old m tid old).1
        ∙ (ap (λ (o : Option (List NodeNo)). has_executed (start_records start m) tid || option_map_or (have_voted (records_of start past) tid) o false) (kept.old m tid old).2
        ∙ ap (λ (b : Bool). has_executed (start_records start m) tid || b) (voted (voted_participants tid (start_records start m))))

-- an id that is held is committed where every participant has voted
new_committed : (start : Start) (past : List Entry) (n : NodeNo) (h : HeldPart) → Kept start past → n.0 < start_nodes start → PartAt past h.tid n h.part → has_voted (records_of start past n) h.tid ≡ true
    → is_committed (start_nodes start) (records_of start past) h.tid ≡ comm start past h.tid
new_committed start past n h kept low (mini, is, own, has, several) voted = whole (comm start past h.tid) refl
  where
    new : IsOld start h.tid → ⊥
    new = new_not_old start past h.tid.client h.tid mini kept is

    unexecuted : (m : NodeNo) → has_executed (records_of start past m) h.tid ≡ false
    unexecuted m = falsely _ (λ e.
        let x = executed_exec start past m h.tid (records_of start past m) new (kept.records m) e in
        let same : mini ≡ x.1.0 = let q = sym is ∙ x.1.1 in cc in
        let few : length (participants_of mini) ≡ 1 = ap (λ (y : Mini). length (participants_of y)) same ∙ ap (λ (ps : List NodeNo). length ps) x.1.3 in
        absurd (omega (arith, few, several)))

    names : (m : NodeNo) (ps : List NodeNo) → voted_participants h.tid (records_of start past m) ≡ Some ps → have_voted (records_of start past) h.tid ps ≡ comm start past h.tid
    names m ps e =
        let to = named_issued start past m h.tid ps (records_of start past m) new (kept.records m) e in
        let same : to.0 ≡ mini = let q = sym to.1 ∙ is in cc in
        ap (λ (x : List NodeNo). have_voted (records_of start past) h.tid x) (to.2 ∙ ap participants_of same) ∙ sym (comm_is start past h.tid mini is)

    at_node : (m : NodeNo) (o : Option (List NodeNo)) → voted_participants h.tid (records_of start past m) ≡ o → shows_committed (records_of start past) h.tid m ≡ option_map_or (have_voted (records_of start past) h.tid) o false
    at_node m o e = ap (λ (b : Bool). b || option_map_or (have_voted (records_of start past) h.tid) (voted_participants h.tid (records_of start past m)) false) (unexecuted m)
        ∙ ap (λ (x : Option (List NodeNo)). option_map_or (have_voted (records_of start past) h.tid) x false) e

    off : comm start past h.tid ≡ false → (m : NodeNo) (o : Option (List NodeNo)) → voted_participants h.tid (records_of start past m) ≡ o → shows_committed (records_of start past) h.tid m ≡ false
    off none m None e = at_node m None e
    off none m (Some ps) e = at_node m (Some ps) e ∙ (names m ps e ∙ none)

    whole : (b : Bool) → comm start past h.tid ≡ b → is_committed (start_nodes start) (records_of start past) h.tid ≡ comm start past h.tid
    whole false e = all_false (shows_committed (records_of start past) h.tid) (node_numbers (start_nodes start)) (λ m. off e m (voted_participants h.tid (records_of start past m)) refl) ∙ sym e
    whole true e =
        let v = vote_names h.tid (records_of start past n) voted in
        is_true_at (shows_committed (records_of start past) h.tid) (node_numbers (start_nodes start)) n (at_node n (Some v.0) v.1 ∙ (names n v.0 v.1 ∙ e)) (in_numbers (start_nodes start) n low) ∙ sym e

pub held_committed : (start : Start) (past : List Entry) (n : NodeNo) (h : HeldPart) → Kept start past → n.0 < start_nodes start → PartOf start past n h → has_voted (records_of start past n) h.tid ≡ true
    → is_committed (start_nodes start) (records_of start past) h.tid ≡ comm start past h.tid
held_committed start past n h kept low (inl p) voted = new_committed start past n h kept low p voted
held_committed start past n h kept low (inr old) voted = old_committed start past h.tid kept old ∙ sym (comm_old start past h.tid kept old)

pub spaces_agree : SpacesAgree
spaces_agree start past n place sound run low none =
    let w = whole_run start past sound run in
    let records = records_of start past n in
    let held = held_parts records in
    let same : AllByRecursion (λ h. is_committed (start_nodes start) (records_of start past) h.tid ≡ comm start past h.tid) held =
    Rattle.mn_base.proofs.Lists.all_both (PartOf start past n) (λ h. has_voted records h.tid ≡ true) (λ h. is_committed (start_nodes start) (records_of start past) h.tid ≡ comm start past h.tid)
    (λ h p v. held_committed start past n h w.kept low p v) held (held_at start past n records (w.kept.records n)) (held_voted records) in
    let none' = sym (same_pending (is_committed (start_nodes start) (records_of start past)) (comm start past) place held same) ∙ none in
    sym (ap (λ (x : List ℕ). Rattle.std.specs.List.slice_get x place) (w.even.agrees n) ∙ byte_of_layers (comm start past) (space_of (base_at start n) records) held place none')

-- The memory of the records

pub memory_is_flat : MemoryIsFlat
memory_is_flat start past sound run =
    let w = whole_run start past sound run in
    let one : length (memory_in (start_nodes start) (base_at start) (records_of start past)) ≡ start_nodes start = length-memory_in (start_nodes start) (base_at start) (records_of start past) in
    ext_get_or [] (memory_in (start_nodes start) (base_at start) (records_of start past)) (flat start past) (one ∙ sym w.even.spaces) (λ i low. at w i (subst (λ (k : ℕ). i < k) one low))
  where
    at : Whole start past → (i : ℕ) → i < start_nodes start → get_or (memory_in (start_nodes start) (base_at start) (records_of start past)) i [] ≡ get_or (flat start past) i []
    at w i low =
        let n : NodeNo = record { 0 = i } in
        let records = records_of start past n in
        let held = held_parts records in
        let same : AllByRecursion (λ h. is_committed (start_nodes start) (records_of start past) h.tid ≡ comm start past h.tid) held =
        Rattle.mn_base.proofs.Lists.all_both (PartOf start past n) (λ h. has_voted records h.tid ≡ true) (λ h. is_committed (start_nodes start) (records_of start past) h.tid ≡ comm start past h.tid)
        (λ h p v. held_committed start past n h w.kept low p v) held (held_at start past n records (w.kept.records n)) (held_voted records) in
        space-memory_in (start_nodes start) (base_at start) (records_of start past) n low
        ∙ (Rattle.mn_commits.proofs.Bytes.Layers.same_layers (is_committed (start_nodes start) (records_of start past)) (comm start past) (space_of (base_at start n) records) held same ∙ sym (w.even.agrees n))
