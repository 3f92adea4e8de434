-- A transaction for a child, read after read and write after write, and what its plan tells.
use Rattle.std.proofs.Common.{◌≡◌, ℕ, List, Some, None, Result, Ok, Err, IfOk, IfErr, subst, ap, ◌∙◌, slice_get}
use Rattle.std.proofs.lemmas.Result.{IfErr-weaker}
use Rattle.mn_base.specs.declared.ids.NodeNo.{NodeNo}
use Rattle.mn_base.specs.declared.ids.VersionNo.{VersionNo}
use Rattle.mn_mini.specs.Mini.{Mini}
use Rattle.mn_page.specs.declared.entry.CatEntry.{CatEntry}
use Rattle.mn_txn.specs.declared.error.PlanError.{PlanError}
use Rattle.mn_txn.specs.State.{State, image, joined}
use Rattle.mn_txn.specs.Order.{in_item_order}
use Rattle.mn_txn.specs.Plan.{RefusesPlan, first_worn, plan_of}
use Rattle.mn_txn.specs.ChildPlan.{IsPlanOf}

-- one more that was read
abbrev pub read_in : State → NodeNo → ℕ → List ℕ → State
read_in t node start bytes = record {
  nodes = t.nodes;
  dirty = t.dirty;
  reads = joined t.reads (image node start bytes);
  writes = t.writes;
}

-- one more to be written
abbrev pub written_in : State → NodeNo → ℕ → List ℕ → State
written_in t node start bytes = record {
  nodes = t.nodes;
  dirty = t.dirty;
  reads = t.reads;
  writes = joined t.writes (image node start bytes);
}

pub read_on : (t u a : State) (node : NodeNo) (s r : ℕ) (b d : List ℕ) → t ≡ read_in u node s b
    → u ≡ a → s ≡ r → b ≡ d → t ≡ read_in a node r d
read_on t u a node s r b d is before start bytes =
    is ∙ (ap (λ x. read_in x node s b) before ∙ (ap (λ x. read_in a node x b) start ∙ ap (λ x. read_in a node r x) bytes))

pub written_on : (t u a : State) (node : NodeNo) (s r : ℕ) (b d : List ℕ)
    → t ≡ written_in u node s b → u ≡ a → s ≡ r → b ≡ d → t ≡ written_in a node r d
written_on t u a node s r b d is before start bytes =
    is ∙ (ap (λ x. written_in x node s b) before ∙ (ap (λ x. written_in a node x b) start ∙ ap (λ x. written_in a node r x) bytes))

-- What a plan tells

both_ok : (r : Result Mini PlanError) (P Q S : Mini → Type 0)
    → ((mini : Mini) → P mini → Q mini → S mini) → IfOk r P → IfOk r Q → IfOk r S
both_ok (Ok x) P Q S more p q = more x p q
both_ok (Err y) P Q S more p q = tt

-- what a plan tells of the transaction, over an equal one
pub plan_tells : (used : List CatEntry) (version : VersionNo) (u : State) (t : CatEntry → State)
    (r : Result Mini PlanError) → ((e : CatEntry) → slice_get used version.0 ≡ Some e → u ≡ t e)
    → IfOk r (λ mini. mini ≡ plan_of u)
    → IfOk r (λ mini. first_worn u (in_item_order u.writes) ≡ None)
    → IfOk r (λ mini. (e : CatEntry) → slice_get used version.0 ≡ Some e → IsPlanOf (t e) mini)
plan_tells used version u t r same plans unworn =
    both_ok r (λ mini. mini ≡ plan_of u) (λ mini. first_worn u (in_item_order u.writes) ≡ None) _
    (λ mini p q e there. subst (λ (x : State). IsPlanOf x mini) (same e there) (p, q)) plans unworn

pub refusal_tells : (used : List CatEntry) (version : VersionNo) (u : State) (t : CatEntry → State)
    (r : Result Mini PlanError) → ((e : CatEntry) → slice_get used version.0 ≡ Some e → u ≡ t e)
    → IfErr r (RefusesPlan u)
    → IfErr r (λ error. (e : CatEntry) → slice_get used version.0 ≡ Some e → RefusesPlan (t e) error)
refusal_tells used version u t r same refuses =
    IfErr-weaker r (RefusesPlan u) _ (λ error p e there. subst (λ (x : State). RefusesPlan x error) (same e there) p) refuses
