-- Where an id that is held becomes committed, the entry commits its minitransaction.
use Rattle.std.proofs.Common.{◌≡◌, ℕ, ◌⊎◌, inl, inr, Bool, true, false, ◌&&◌, ◌||◌, List, [], ◌∷◌, Option, Some, None, refl, subst, sym, ap, ◌∙◌, if◌then◌else◌}
use Rattle.mn_base.specs.Ids.{tid_same}
use Rattle.mn_base.specs.declared.ids.NodeNo.{NodeNo}
use Rattle.mn_base.specs.declared.ids.ClientNo.{ClientNo}
use Rattle.mn_base.specs.declared.ids.Tid.{Tid}
use Rattle.mn_mini.specs.declared.part.PartItem.{PartItem}
use Rattle.mn_mini.specs.declared.record.Record.{Record}
use Rattle.mn_mini.specs.declared.record.Record.TheVariants.{Voted, Executed, Decided, Forced}
use Rattle.mn_mini.specs.declared.request.Request.{Request}
use Rattle.mn_mini.specs.declared.request.Request.TheVariants as Ask
use Rattle.mn_mini.specs.Mini.{Mini, part_of, participants_of, has_write}
use Rattle.mn_mini.specs.Node.{HeldPart}
use Rattle.mn_runs.specs.declared.entry.Entry.{Entry}
use Rattle.mn_runs.specs.declared.entry.What.{What}
use Rattle.mn_runs.specs.Calls.{Issued}
use Rattle.mn_runs.specs.Protocol.{Start, KeepsProtocol}
use Rattle.mn_runs.specs.Commits.{issued_as, committed_by}
use Rattle.mn_runs.proofs.Same.{tid_same-true}
use Rattle.mn_votes.proofs.Unchanged.{issue_stays}
use Rattle.mn_votes.proofs.Backing.{mini_of, PartAt, Kept}
use Rattle.mn_votes.proofs.Preserved.{same_mini}
use Rattle.mn_votes.proofs.Acts.{Act, idle, votes, executes, decides, forces, act_here}
use Rattle.mn_commits.proofs.Bytes.Even.{comm, PartOf, comm_same, comm_old}
use Rattle.mn_commits.proofs.Bytes.Step.{Step, IsNoVote, votes_stay, comm_other, comm_complete, is_complete, issued_is}
use Rattle.mn_commits.proofs.Bytes.Through.{Whole, eff_at, added_at, step_at}

-- the entry commits a minitransaction whose part at the node this is
pub record Commits (past : List Entry) (e : Entry) (n : NodeNo) (part : List PartItem) : Type 0 where
  pub issued : Issued
  pub commits : committed_by past e ≡ Some issued
  pub own : part ≡ part_of issued.mini n

abbrev Grows : Start → List Entry → Entry → NodeNo → HeldPart → Type 0
Grows start past e n h = (comm start past h.tid ≡ true) ⊎ Commits past e n h.part

quiet_grows : (start : Start) (past : List Entry) (e : Entry) (k : NodeNo) (eff : Option Request) (added : Option Record) → Step start past e k eff added → IsNoVote added
    → (n : NodeNo) (h : HeldPart) → PartAt past h.tid n h.part → comm start (e ∷ past) h.tid ≡ true → Grows start past e n h
quiet_grows start past e k eff added s quiet n h (mini, is, own, has, several) on =
    inl (sym (comm_same start past e h.tid mini is (issue_stays start past e h.tid.client h.tid mini s.kept s.keeps is) (votes_stay start past e k eff added s quiet h.tid)) ∙ on)

vote_grows : (start : Start) (past : List Entry) (e : Entry) (k : NodeNo) (t : Tid) (ps : List NodeNo) (part : List PartItem) → Step start past e k (Some (Ask.Prepare t ps part)) (Some (Voted t ps part))
    → (mini : Mini) → mini_of past t ≡ Some mini → ps ≡ participants_of mini
    → (n : NodeNo) (h : HeldPart) → PartAt past h.tid n h.part → comm start (e ∷ past) h.tid ≡ true → Grows start past e n h
vote_grows start past e k t ps part s mini is all n h p on = by (tid_same h.tid t) refl
  where
    last : h.tid ≡ t → is_complete past k t ps ≡ true
    last eq = sym (comm_complete start past e k t ps part mini s is all) ∙ subst (λ (u : Tid). comm start (e ∷ past) u ≡ true) eq on

    that : h.tid ≡ t → committed_by past e ≡ Some (record { tid = t; mini = mini })
    that eq = s.commits ∙ (ap (λ (b : Bool). if b then issued_as t past else None) (last eq) ∙ issued_is start past t mini (s.issued t) is)

    own : h.tid ≡ t → h.part ≡ part_of mini n
    own eq = let same : p.0 ≡ mini = same_mini p.0 mini (sym p.1 ∙ (ap (λ (u : Tid). mini_of past u) eq ∙ is)) in p.2 ∙ ap (λ (m : Mini). part_of m n) same

    by : (b : Bool) → tid_same h.tid t ≡ b → Grows start past e n h
    by true e' = let eq = tid_same-true h.tid t e' in inr (record { issued = record { tid = t; mini = mini }; commits = that eq; own = own eq })
    by false other = inl (sym (comm_other start past e k t ps part s n h (inl p) other) ∙ on)

act_grows : (start : Start) (past : List Entry) (e : Entry) (k : NodeNo) (eff : Option Request) (added : Option Record) → Act start past k eff added → Step start past e k eff added
    → (n : NodeNo) (h : HeldPart) → PartAt past h.tid n h.part → comm start (e ∷ past) h.tid ≡ true → Grows start past e n h
act_grows start past e k eff added (idle q none) s = quiet_grows start past e k q None s tt
act_grows start past e k eff added (votes t ps part unforced free tested (unvoted, (mini, is, all), first)) s = vote_grows start past e k t ps part s mini is all
act_grows start past e k eff added (executes t part free tested first) s = quiet_grows start past e k (Some (Ask.Exec t part)) (if has_write part then Some (Executed t part) else None) s (quiet (has_write part))
  where
    quiet : (b : Bool) → IsNoVote (if b then Some (Executed t part) else None)
    quiet true = tt
    quiet false = tt
act_grows start past e k eff added (decides q t verdict none is) s = quiet_grows start past e k q (Some (Decided t verdict)) s tt
act_grows start past e k eff added (forces q t none unvoted unforced ps may) s = quiet_grows start past e k q (Some (Forced t)) s tt

entry_grows : (start : Start) (past : List Entry) (by : Option ClientNo) (at : Option NodeNo) (what : What) → Whole start past → Kept start (record { node = at; client = by; what = what } ∷ past) → KeepsProtocol start past (record { node = at; client = by; what = what })
    → (n : NodeNo) (h : HeldPart) → PartAt past h.tid n h.part → comm start (record { node = at; client = by; what = what } ∷ past) h.tid ≡ true → Grows start past (record { node = at; client = by; what = what }) n h
entry_grows start past by None what w after keeps n h (mini, is, own, has, several) on =
    let e : Entry = record { node = None; client = by; what = what } in
    inl (sym (comm_same start past e h.tid mini is (issue_stays start past e h.tid.client h.tid mini w.kept keeps is) (λ m. refl)) ∙ on)
entry_grows start past by (Some k) what w after keeps n h p on =
    act_grows start past (record { node = Some k; client = by; what = what }) k (eff_at past k what) (added_at start past k what) (act_here start past by k what w.kept w.pending w.once keeps) (step_at start past by k what w after keeps) n h p on

-- what is held and committed after the entry was so before, or the entry commits it
pub comm_grows : (start : Start) (past : List Entry) (e : Entry) → Whole start past → Kept start (e ∷ past) → KeepsProtocol start past e
    → (n : NodeNo) (h : HeldPart) → PartOf start past n h → comm start (e ∷ past) h.tid ≡ true → (comm start past h.tid ≡ true) ⊎ Commits past e n h.part
comm_grows start past e w after keeps n h (inl p) on = entry_grows start past e.client e.node e.what w after keeps n h p on
comm_grows start past e w after keeps n h (inr old) on = inl (comm_old start past h.tid w.kept old ∙ (sym (comm_old start (e ∷ past) h.tid after old) ∙ on))
