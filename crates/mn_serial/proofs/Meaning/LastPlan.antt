-- An operation that was replied to by its last plan: that plan is committed before the answer, and
-- no other one.
use Rattle.std.proofs.Common.{◌≡◌, ℕ, ◌<◌, ◌⊎◌, inl, inr, true, false, List, [], ◌∷◌, ◌++◌, length, Some, refl, subst, sym, ap, ◌∙◌, arith, if◌then◌else◌}
use Rattle.std.proofs.lemmas.List.{append_assoc, append_cancel_right, length-append}
use Rattle.mn_base.specs.declared.ids.ClientNo.{ClientNo}
use Rattle.mn_base.specs.declared.op.Op.{Op}
use Rattle.mn_base.specs.declared.answer.Answer.{Answer}
use Rattle.mn_runs.specs.declared.entry.Entry.{Entry}
use Rattle.mn_runs.specs.Calls.{Issued, issue_in, issues_of, is_by, client_entries, since_begin, under_way}
use Rattle.mn_law.specs.Answers.{LastIssue}
use Rattle.mn_runs.specs.Protocol.{Start, FollowsProtocol}
use Rattle.mn_votes.specs.Laws.{StartsSound}
use Rattle.mn_runs.proofs.NewCalls.{by_of}
use Rattle.mn_serial.proofs.Meaning.Splits.{SameSplit, same_split}
use Rattle.mn_serial.proofs.Meaning.Clients.{Allowed, Still, Ended, since_op, behind_answer}
use Rattle.mn_serial.proofs.Meaning.Positions.{Inner, inner_split, OwnAt, AnswerAt, allowed_at, older_own, answered_op, issue_before_answer, behind_issue, ordered}
use Rattle.mn_serial.proofs.Meaning.Plans.{PlanIn, followed_never}

-- an entry of a client's list stands in the log
pub record Lifted (c : ClientNo) (past : List Entry) (y : Entry) (older : List Entry) : Type 0 where
  pub later : List Entry
  pub before : List Entry
  pub split : past ≡ later ++ y ∷ before
  pub list : client_entries c before ≡ older
  pub by : y.client ≡ Some c

pub lift : (c : ClientNo) (past newer : List Entry) (y : Entry) (older : List Entry)
    → client_entries c past ≡ newer ++ y ∷ older → Lifted c past y older
lift c [] newer y older same = absurd (none newer same)
  where
    none : (newer : List Entry) → [] ≡ newer ++ y ∷ older → ⊥
    none [] e = cc
    none (x ∷ newer) e = cc
lift c (e ∷ past) newer y older same =
    elim (is_by c e) as (λ b. is_by c e ≡ b → (if b then e ∷ client_entries c past else client_entries c past) ≡ newer ++ y ∷ older → Lifted c (e ∷ past) y older) [
      | true ↦ λ by h. own by newer h (λ rest f. lift c past rest y older f)
      | false ↦ λ _ h. further (lift c past newer y older h)
    ] refl same
  where
    further : Lifted c past y older → Lifted c (e ∷ past) y older
    further l = record { later = e ∷ l.later; before = l.before; split = ap (λ (es : List Entry). e ∷ es) l.split; list = l.list; by = l.by }

    own : is_by c e ≡ true → (newer : List Entry) → e ∷ client_entries c past ≡ newer ++ y ∷ older
        → ((rest : List Entry) → client_entries c past ≡ rest ++ y ∷ older → Lifted c past y older)
        → Lifted c (e ∷ past) y older
    own by [] h deeper =
        let here : e ≡ y = cc in
        let list : client_entries c past ≡ older = cc in
        record { later = []; before = past; split = ap (λ (x : Entry). x ∷ past) here; list = list; by = ap (λ (x : Entry). x.client) (sym here) ∙ by_of c e.client e.node e.what by }
    own by (x ∷ newer) h deeper = let rest : client_entries c past ≡ newer ++ y ∷ older = cc in further (deeper newer rest)

none_issued : (newer : List Entry) (x : Entry) (older : List Entry) (i : Issued)
    → issue_in x.what ≡ i ∷ [] → issues_of (newer ++ x ∷ older) ≡ [] → ⊥
none_issued [] x older i is none = let e : i ∷ issues_of older ≡ [] = ap (λ (js : List Issued). js ++ issues_of older) (sym is) ∙ none in cc
none_issued (e ∷ newer) x older i is none = none_issued newer x older i is (behind (issue_in e.what) (issues_of (newer ++ x ∷ older)) none)
  where
    behind : (a b : List Issued) → a ++ b ≡ [] → b ≡ []
    behind [] b h = h
    behind (j ∷ a) b h = absurd cc

-- the committed plan of an answered operation is its last issue
pub record IsLast (past : List Entry) (a : ℕ) (c : ClientNo) (number : ℕ) (x : PlanIn past a c number) (i : Issued) (before : List Entry) : Type 0 where
  pub issued : x.issued ≡ i
  pub list : client_entries c x.issue.at.before ≡ before

pub last_is : (start : Start) (past : List Entry) → StartsSound start → FollowsProtocol start past
    → (c : ClientNo) (number : ℕ) (answer : Answer) (e : AnswerAt past c number answer) (a : ℕ) (x : PlanIn past a c number) (i : Issued) (before : List Entry)
    → LastIssue (client_entries c e.at.before) (since_begin (client_entries c e.at.before)) i before
    → IsLast past a c number x i before
last_is start past sound run c number answer e a x i before last = by (ordered (length (client_entries c x.issue.at.before)) (length before))
  where
    es : List Entry
    es = client_entries c e.at.before

    inner : Inner x.issue.at.entry (client_entries c x.issue.at.before) (client_entries c e.at.before)
    inner = older_own past c x.issue.at e.at (issue_before_answer start past c (record { number = number; op = x.op }) x.issued number answer x.issue e run refl)

    parts : client_entries c e.at.before ≡ last.later ++ last.entry ∷ before
    parts = last.split ∙ append_assoc last.later (last.entry ∷ []) before

    both : inner.between ++ x.issue.at.entry ∷ client_entries c x.issue.at.before ≡ last.later ++ last.entry ∷ before
    both = sym inner.split ∙ parts

    same_issue : (j k : Issued) → j ∷ [] ≡ k ∷ [] → j ≡ k
    same_issue j k h = cc

    -- the last issue in the log
    lifted : Lifted c e.at.before last.entry before
    lifted = lift c e.at.before last.later last.entry before parts

    newer : List Entry
    newer = e.at.later ++ (e.at.entry ∷ lifted.later)

    y : OwnAt past c
    y = record {
      entry = last.entry;
      later = e.at.later ++ (e.at.entry ∷ lifted.later);
      before = lifted.before;
      split = e.at.split ∙ (ap (λ (l : List Entry). e.at.later ++ e.at.entry ∷ l) lifted.split ∙ sym (append_assoc e.at.later (e.at.entry ∷ lifted.later) (last.entry ∷ lifted.before)));
      by = lifted.by;
    }

    -- where the plan's issue is older, the operation is under way at the last issue
    older_case : length (client_entries c x.issue.at.before) < length before → ⊥
    older_case less = by_op (since_op c (record { number = number; op = x.op }) deeper.between (x.issue.at.entry ∷ client_entries c x.issue.at.before) (subst (Allowed c) (lifted.list ∙ deeper.split) (allowed_at start past c y run).0) (behind_issue past c (record { number = number; op = x.op }) x.issued x.issue))
      where
        deeper : Inner x.issue.at.entry (client_entries c x.issue.at.before) before
        deeper = inner_split inner.between last.later x.issue.at.entry last.entry (client_entries c x.issue.at.before) before both less

        now : (op : Op)
            × (under_way (client_entries c e.at.before) ≡ Some (record { number = number; op = op }))
        now = answered_op start past c number answer e run

        lower : length x.issue.at.before < length y.before
        lower = by_place (ordered (length x.issue.at.before) (length y.before))
          where
            lists : client_entries c y.before ≡ before
            lists = lifted.list

            by_place : (length x.issue.at.before < length y.before)
                ⊎ ((length x.issue.at.before ≡ length y.before) ⊎ (length y.before < length x.issue.at.before)) → length x.issue.at.before < length y.before
            by_place (inl h) = h
            by_place (inr (inl equal)) =
                let here : SameSplit x.issue.at.entry y.entry x.issue.at.before y.before = same_split x.issue.at.later y.later x.issue.at.entry y.entry x.issue.at.before y.before (sym x.issue.at.split ∙ y.split) equal in
                let long : length (client_entries c x.issue.at.before) ≡ length before = ap (λ (l : List Entry). length (client_entries c l)) here.older ∙ ap (λ (l : List Entry). length l) lists in absurd (omega arith)
            by_place (inr (inr more)) =
                let i2 = older_own past c y x.issue.at more in
                let long : length (client_entries c x.issue.at.before) ≡ length (i2.between ++ y.entry ∷ client_entries c y.before) = ap (λ (l : List Entry). length l) i2.split in
                let sum = length-append i2.between (y.entry ∷ client_entries c y.before) in
                let own : length (client_entries c y.before) ≡ length before = ap (λ (l : List Entry). length l) lists in absurd (omega arith)

        by_op : Still (record { number = number; op = x.op }) deeper.between (x.issue.at.entry ∷ client_entries c x.issue.at.before) ⊎ Ended (record { number = number; op = x.op }) deeper.between (x.issue.at.entry ∷ client_entries c x.issue.at.before) → ⊥
        by_op (inl still) =
            followed_never start past sound run c number a x (record { number = number; op = x.op }) i
            (record { at = y; issues = last.here; of = ap under_way (lifted.list ∙ deeper.split) ∙ still.under_way }) refl lower
        by_op (inr ended) =
            let rest : List Entry = ended.between ++ x.issue.at.entry ∷ client_entries c x.issue.at.before in
            let old : before ≡ ended.newest ++ ended.entry ∷ (ended.between ++ x.issue.at.entry ∷ client_entries c x.issue.at.before) =
            deeper.split ∙ (ap (λ (l : List Entry). l ++ x.issue.at.entry ∷ client_entries c x.issue.at.before) ended.split ∙ append_assoc ended.newest (ended.entry ∷ ended.between) (x.issue.at.entry ∷ client_entries c x.issue.at.before)) in
            let whole : client_entries c e.at.before ≡ (last.later ++ (last.entry ∷ ended.newest)) ++ ended.entry ∷ (ended.between ++ x.issue.at.entry ∷ client_entries c x.issue.at.before) =
            parts ∙ (ap (λ (l : List Entry). last.later ++ last.entry ∷ l) old ∙ sym (append_assoc last.later (last.entry ∷ ended.newest) (ended.entry ∷ (ended.between ++ x.issue.at.entry ∷ client_entries c x.issue.at.before)))) in
            let higher : number < number =
            behind_answer c (last.later ++ (last.entry ∷ ended.newest)) ended.entry (ended.between ++ x.issue.at.entry ∷ client_entries c x.issue.at.before) number ended.answer (record { number = number; op = now.0 })
            (subst (Allowed c) whole (allowed_at start past c e.at run).0) ended.answers (ap under_way (sym whole) ∙ now.1) in
            absurd (omega arith)

    by : (length (client_entries c x.issue.at.before) < length before)
        ⊎ ((length (client_entries c x.issue.at.before) ≡ length before) ⊎ (length before < length (client_entries c x.issue.at.before))) → IsLast past a c number x i before
    by (inl less) = absurd (older_case less)
    by (inr (inl equal)) =
        let here : SameSplit x.issue.at.entry last.entry (client_entries c x.issue.at.before) before = same_split inner.between last.later x.issue.at.entry last.entry (client_entries c x.issue.at.before) before both equal in
        record { issued = same_issue x.issued i (sym x.issue.issues ∙ (ap (λ (z : Entry). issue_in z.what) here.here ∙ last.here)); list = here.older }
    by (inr (inr more)) =
        let deeper : Inner last.entry before (client_entries c x.issue.at.before) = inner_split last.later inner.between last.entry x.issue.at.entry before (client_entries c x.issue.at.before) (sym both) more in
        let newest : (inner.between ++ x.issue.at.entry ∷ deeper.between) ++ last.entry ∷ before ≡ last.later ++ last.entry ∷ before =
        append_assoc inner.between (x.issue.at.entry ∷ deeper.between) (last.entry ∷ before) ∙ (ap (λ (l : List Entry). inner.between ++ x.issue.at.entry ∷ l) (sym deeper.split) ∙ both) in
        let later_is : inner.between ++ x.issue.at.entry ∷ deeper.between ≡ last.later = append_cancel_right (inner.between ++ x.issue.at.entry ∷ deeper.between) last.later (last.entry ∷ before) newest in
        absurd (none_issued inner.between x.issue.at.entry deeper.between x.issued x.issue.issues (ap issues_of later_is ∙ last.none_later))
