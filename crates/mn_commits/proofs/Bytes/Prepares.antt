-- A Prepare that is done answers no reads.
use Rattle.std.proofs.Common.{◌≡◌, ℕ, ◌≤◌, inl, inr, true, ◌||◌, List, [], ◌∷◌, ◌++◌, length, Option, Some, None, refl, ap, ◌∙◌, arith}
use Rattle.std.specs.List.{flat_map}
use Rattle.mn_base.specs.declared.ids.NodeNo.{NodeNo}
use Rattle.mn_base.specs.declared.ids.ClientNo.{ClientNo}
use Rattle.mn_base.specs.declared.ids.Tid.{Tid}
use Rattle.mn_base.proofs.Booleans.{or_cases}
use Rattle.mn_mini.specs.declared.item.Item.{Item}
use Rattle.mn_mini.specs.declared.item.Item.TheVariants.{Compare, Read, Write}
use Rattle.mn_mini.specs.declared.part.PartItem.{PartItem}
use Rattle.mn_mini.specs.declared.request.Request.TheVariants as Ask
use Rattle.mn_mini.specs.declared.reply.NodeReply.TheVariants as Say
use Rattle.mn_mini.specs.Mini.{Mini, participants_of, compare_at, read_at, write_at, part_of, is_read}
use Rattle.mn_mini.specs.Flat.{space_in, part_reads}
use Rattle.mn_mini.proofs.Parts.{reads-append, reads-compares, reads-writes}
use Rattle.mn_runs.specs.declared.entry.Entry.{Entry}
use Rattle.mn_runs.specs.declared.entry.What.TheVariants.{Called}
use Rattle.mn_runs.specs.Clients.{is_plan}
use Rattle.mn_runs.specs.Protocol.{Start, KeepsProtocol}
use Rattle.mn_commits.specs.Laws.{PreparesReadNothing}
use Rattle.mn_votes.proofs.Acts.{sent_unvoted}
use Rattle.mn_commits.proofs.Bytes.Step.{flat, IsMade}
use Rattle.mn_commits.proofs.Bytes.Through.{Whole}
use Rattle.mn_commits.proofs.Bytes.Spaces.{whole_run}
use Rattle.mn_commits.proofs.Bytes.Reads.{call_reads, said_so}
use Rattle.mn_runs.proofs.Alone.{read_alone}

-- a plan has no reads

no_reads : (n : NodeNo) (items : List Item) → is_plan items ≡ true → flat_map (read_at n) items ≡ []
no_reads n [] e = refl
no_reads n (Compare node start bytes ∷ items) e = no_reads n items e
no_reads n (Read node start k ∷ items) e = absurd cc
no_reads n (Write node start bytes ∷ items) e = no_reads n items e

plan_reads : (space : List ℕ) (mini : Mini) (n : NodeNo) → is_plan mini.items ≡ true → part_reads space (part_of mini n) ≡ []
plan_reads space mini n plan =
    reads-append space (flat_map (compare_at n) mini.items ++ flat_map (read_at n) mini.items) (flat_map (write_at n) mini.items)
    ∙ (ap (λ (x : List (List ℕ)). part_reads space (flat_map (compare_at n) mini.items ++ flat_map (read_at n) mini.items) ++ x) (reads-writes space n mini.items)
    ∙ (ap (λ (x : List PartItem). part_reads space (flat_map (compare_at n) mini.items ++ x) ++ []) (no_reads n mini.items plan)
    ∙ (ap (λ (x : List (List ℕ)). x ++ []) (reads-append space (flat_map (compare_at n) mini.items) [] ∙ ap (λ (x : List (List ℕ)). x ++ []) (reads-compares space n mini.items)))))

prepared_reads : (start : Start) (past : List Entry) (by : Option ClientNo) (k : NodeNo) (tid : Tid) (ps : List NodeNo) (part : List PartItem) (reads : List (List ℕ)) → Whole start past
    → KeepsProtocol start past (record { node = Some k; client = by; what = Called (Ask.Prepare tid ps part) (Say.Done reads) }) → reads ≡ []
prepared_reads start past None k tid ps part reads w keeps = absurd keeps.by_client
prepared_reads start past (Some c) k tid ps part reads w keeps =
    let first = (sent_unvoted start past c k (Ask.Prepare tid ps part) w.kept keeps.by_client).unvoted tid ps part refl in
    let mini : Mini = first.2.0 in
    let made : IsMade start mini = w.even.minis tid mini first.2.1 in
    by first.2.0 first.2.2 first.2.4 made.2
  where
    by : (mini : Mini) → part ≡ Rattle.mn_mini.specs.Mini.part_of mini k → 2 ≤ length (participants_of mini) → (is_read mini.items || is_plan mini.items) ≡ true → reads ≡ []
    by mini own several kind = elim (or_cases (is_read mini.items) (is_plan mini.items) kind) as (λ _. reads ≡ []) [
      | inl read ↦ let few = read_alone mini.nodes mini.items read in absurd (omega (arith, few, several))
      | inr plan ↦ call_reads start past (Some c) k (Ask.Prepare tid ps part) part reads w keeps refl ∙ (ap (λ (p : List PartItem). part_reads (space_in (flat start past) k) p) own ∙ plan_reads (space_in (flat start past) k) mini k plan)
    ]

pub prepares_read_nothing : PreparesReadNothing
prepares_read_nothing start past e k tid ps part reads sound run at is =
    prepared_reads start past e.client k tid ps part reads (whole_run start past sound run.0) (said_so start past e k (Called (Ask.Prepare tid ps part) (Say.Done reads)) at is run.1)
