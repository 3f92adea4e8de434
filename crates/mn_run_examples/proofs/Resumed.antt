-- A worked run from records in place: an id that all have voted for is decided by a recovery
-- coordinator.
use Rattle.std.proofs.Common.{◌≡◌, ℕ, zero, suc, ◌<◌, true, false, List, [], ◌∷◌, Some, None, refl, sym, ap, ◌∙◌, inr, arith, lit<, lit≤, if◌then◌else◌}
use Rattle.mn_base.specs.Ids.{tid_same}
use Rattle.mn_base.specs.declared.ids.NodeNo.{NodeNo}
use Rattle.mn_base.specs.declared.ids.Tid.{Tid}
use Rattle.mn_mini.specs.declared.part.PartItem.{PartItem}
use Rattle.mn_mini.specs.declared.part.PartItem.TheVariants.{Write}
use Rattle.mn_mini.specs.declared.record.Record.{Record}
use Rattle.mn_mini.specs.declared.record.Record.TheVariants.{Voted, Decided}
use Rattle.mn_mini.specs.declared.request.Request.{Request}
use Rattle.mn_mini.specs.declared.request.Request.TheVariants as Ask
use Rattle.mn_mini.specs.declared.reply.NodeReply.TheVariants as Say
use Rattle.mn_mini.specs.Flat.{overwritten}
use Rattle.mn_mini.specs.Node.{has_executed, has_decided_yes, has_decided_no, answer}
use Rattle.mn_page.specs.Base.{base_of}
use Rattle.mn_runs.specs.declared.entry.Entry.{Entry}
use Rattle.mn_runs.specs.declared.entry.What.TheVariants.{Called}
use Rattle.mn_runs.specs.Calls.{Call}
use Rattle.mn_runs.specs.Protocol.{Start, start_records, base_at, records_of, run_number, FollowsProtocol, start_of}
use Rattle.mn_runs.specs.Commits.{flat_after}
use Rattle.mn_runs.specs.Sound.{AreInPlace, voted_participants, is_committed, memory_in, opened_memory}
use Rattle.mn_votes.specs.Laws.{StartsSound}
use Rattle.mn_run_examples.proofs.TwoNodes.{node, client, id}

abbrev two : List NodeNo
two = node 0 ∷ node 1 ∷ []

abbrev part : List PartItem
part = Write 20 (97 ∷ []) ∷ []

abbrev vote : Record
vote = Voted (id 0 1) two part

abbrev start : Start
start = start_of ((vote ∷ []) ∷ (vote ∷ []) ∷ [])

-- a fact of the two nodes
both : (P : NodeNo → Type 0) → P (node 0) → P (node 1) → (n : NodeNo) → n.0 < 2 → P n
both P a b n low = by n.0 low
  where
    by : (k : ℕ) → k < 2 → P (node k)
    by zero l = a
    by (suc zero) l = b
    by (suc (suc k)) l = absurd (omega (arith, l))

votes_are : (n : NodeNo) → n.0 < 2 → start_records start n ≡ vote ∷ []
votes_are = both (λ n. start_records start n ≡ vote ∷ []) refl refl

named_two : (tid : Tid) (ps : List NodeNo) → voted_participants tid (vote ∷ []) ≡ Some ps → two ≡ ps
named_two tid ps e = elim (tid_same (id 0 1) tid) as (λ b. (if b then Some two else None) ≡ Some ps → two ≡ ps) [ true ↦ λ h. cc | false ↦ λ h. absurd cc ] e

start_sound : StartsSound start
start_sound = record {
  in_place = both (λ n. AreInPlace 2 n (start_records start n)) ((refl, (lit< tt, (lit< tt, tt)), (0, lit< tt, refl), refl), tt) ((refl, (lit< tt, (lit< tt, tt)), (1, lit< tt, refl), refl), tt);
  same = λ n m tid one other bn bm p q.
      sym (named_two tid one (sym (ap (voted_participants tid) (votes_are n bn)) ∙ p)) ∙ named_two tid other (sym (ap (voted_participants tid) (votes_are m bm)) ∙ q);
  alone = λ n m tid bn bm p q. let none : has_executed (start_records start n) tid ≡ false = ap (λ (r : List Record). has_executed r tid) (votes_are n bn) in absurd (cc (none, p));
  yes = λ n tid ps bn p q. let none : has_decided_yes (start_records start n) tid ≡ false = ap (λ (r : List Record). has_decided_yes r tid) (votes_are n bn) in absurd (cc (none, p));
  no = λ n m tid bn bm p. let none : has_decided_no (start_records start n) tid ≡ false = ap (λ (r : List Record). has_decided_no r tid) (votes_are n bn) in absurd (cc (none, p));
}

abbrev call : ℕ → ℕ → Request → List Entry → List Entry
call c n request past =
    record { node = Some (node n); client = Some (client c); what = Called request (answer (base_at start (node n)) (records_of start past (node n)) request).reply } ∷ past

abbrev listed : List Entry
listed = call 17 0 Ask.List []

abbrev forced : List Entry
forced = call 17 1 (Ask.Force (id 0 1)) (call 17 0 (Ask.Force (id 0 1)) listed)

abbrev decided : List Entry
decided = call 17 0 (Ask.Decide (id 0 1) true) forced

abbrev listing : Call
listing = record { node = node 0; request = Ask.List; reply = Say.Listed (record { tid = id 0 1; participants = two } ∷ []) }

keeps_list : FollowsProtocol start listed
keeps_list = (tt, record { actor = lit≤ tt; at_node = (lit< tt, refl); by_client = tt; of_run = tt })

keeps_forced : FollowsProtocol start forced
keeps_forced = (
  (keeps_list, record { actor = lit≤ tt; at_node = (lit< tt, refl); by_client = (refl, (two, (listing, (0, lit< tt, refl), refl), (0, lit< tt, refl))); of_run = tt }),
  record { actor = lit≤ tt; at_node = (lit< tt, refl); by_client = (refl, (two, (listing, (1, lit< tt, refl), refl), (1, lit< tt, refl))); of_run = tt },
)

keeps_decision : FollowsProtocol start decided
keeps_decision = (
  keeps_forced,
  record { actor = lit≤ tt; at_node = (lit< tt, refl); by_client = (refl, (two, inr (listing, (2, lit< tt, refl), refl), (refl, (refl, tt)))); of_run = tt },
)

-- this run's number is above that of the start's ids
run_example : run_number start ≡ 2
run_example = refl

-- the id is committed from the start on: the opened memory has its writes, and a decision changes
-- nothing of it
committed_example : is_committed 2 (start_records start) (id 0 1) ≡ true
committed_example = refl

opened_example : opened_memory start ≡ overwritten (base_of 2 0) 20 (97 ∷ []) ∷ overwritten (base_of 2 1) 20 (97 ∷ []) ∷ []
opened_example = refl

flat_example : flat_after (opened_memory start) decided ≡ opened_memory start
flat_example = refl

memory_example : memory_in 2 (base_at start) (records_of start decided) ≡ opened_memory start
memory_example = refl

records_example : records_of start decided (node 0) ≡ Decided (id 0 1) true ∷ vote ∷ []
records_example = refl
