-- What is kept tells what commits.
use Rattle.std.proofs.Common.{◌≡◌, Bool, true, false, ◌||◌, List, Option, Some, None, refl, sym, ap, ◌∙◌, if◌then◌else◌}
use Rattle.std.specs.List.{list_all}
use Rattle.std.specs.Option.{option_map}
use Rattle.mn_base.specs.Ids.{node_same}
use Rattle.mn_base.specs.declared.ids.NodeNo.{NodeNo}
use Rattle.mn_base.specs.declared.ids.Tid.{Tid}
use Rattle.mn_mini.specs.declared.part.PartItem.{PartItem}
use Rattle.mn_mini.specs.declared.request.Request.{Request}
use Rattle.mn_mini.specs.declared.request.Request.TheVariants as Ask
use Rattle.mn_mini.specs.Mini.{Mini}
use Rattle.mn_runs.specs.declared.entry.Entry.{Entry}
use Rattle.mn_commits.specs.declared.flat.Standing.{Standing}
use Rattle.mn_runs.specs.Calls.{Issued, issues_of, issue_named}
use Rattle.mn_runs.specs.Commits.{has_vote, issued_as, committed_with}
use Rattle.mn_commits.specs.Standing.{kept_mini, keeps_vote, StandingTells}
use Rattle.mn_runs.proofs.Records.{all_same}

mini_in : (tid : Tid) (o : Option Mini) → option_map (λ (i : Issued). i.mini) (option_map (λ mini. record { tid = tid; mini = mini }) o) ≡ o
mini_in tid None = refl
mini_in tid (Some mini) = refl

-- the minitransaction that is kept is the one that was issued
pub kept_issued : (s : Standing) (past : List Entry) (tid : Tid) → StandingTells s past → kept_mini s tid ≡ option_map (λ (i : Issued). i.mini) (issued_as tid past)
kept_issued s past tid t = t.issued tid ∙ sym (mini_in tid (issue_named tid (issues_of past)))

-- it commits by the last vote
abbrev AllVoted : Standing → Tid → NodeNo → List NodeNo → Bool
AllVoted s tid n participants = list_all (λ m. node_same m n || keeps_vote s tid m) participants

votes_told : (s : Standing) (past : List Entry) (tid : Tid) (n : NodeNo) (participants : List NodeNo) → StandingTells s past → list_all (λ m. node_same m n || has_vote tid m past) participants ≡ AllVoted s tid n participants
votes_told s past tid n participants t = all_same (λ m. node_same m n || has_vote tid m past) (λ m. node_same m n || keeps_vote s tid m) (λ m. ap (λ b. node_same m n || b) (sym (t.voted tid m))) participants

pub commits_by_vote : (s : Standing) (past : List Entry) (n : NodeNo) (tid : Tid) (participants : List NodeNo) (part : List PartItem) (request : Request) → StandingTells s past → request ≡ Ask.Prepare tid participants part
    → list_all (λ m. node_same m n || keeps_vote s tid m) participants ≡ true → kept_mini s tid ≡ option_map (λ (i : Issued). i.mini) (committed_with past n (Some request))
commits_by_vote s past n tid participants part request t is all =
    kept_issued s past tid t
    ∙ (sym (ap (λ b. option_map (λ (i : Issued). i.mini) (if b then issued_as tid past else None)) (votes_told s past tid n participants t ∙ all))
    ∙ ap (λ (r : Request). option_map (λ (i : Issued). i.mini) (committed_with past n (Some r))) (sym is))

pub lacks_vote : (s : Standing) (past : List Entry) (n : NodeNo) (tid : Tid) (participants : List NodeNo) (part : List PartItem) (request : Request) → StandingTells s past → request ≡ Ask.Prepare tid participants part
    → list_all (λ m. node_same m n || keeps_vote s tid m) participants ≡ false → None ≡ option_map (λ (i : Issued). i.mini) (committed_with past n (Some request))
lacks_vote s past n tid participants part request t is some =
    sym (ap (λ b. option_map (λ (i : Issued). i.mini) (if b then issued_as tid past else None)) (votes_told s past tid n participants t ∙ some))
    ∙ ap (λ (r : Request). option_map (λ (i : Issued). i.mini) (committed_with past n (Some r))) (sym is)
