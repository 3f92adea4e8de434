use Rattle.std.proofs.Common.{◌≡◌, ℕ, List, IfOk, subst, sym}
use Rattle.std.specs.declared.result.Result.{Result}
use Rattle.std.proofs.lemmas.Result.{IfOk-weaker}
use Rattle.mn_base.specs.declared.ids.Addr.{Addr}
use Rattle.mn_base.specs.declared.op.Op.{Op}
use Rattle.mn_base.specs.declared.op.Op.TheVariants.{Snapshot, Branch}
use Rattle.mn_catalog.specs.Grammar.{IsCatalog}
use Rattle.mn_mini.specs.Mini.{Mini}
use Rattle.mn_page.specs.declared.entry.CatEntry.{CatEntry}
use Rattle.mn_page.specs.declared.page.Page.{Page}
use Rattle.mn_txn.specs.declared.error.PlanError.{PlanError}
use Rattle.mn_txn.specs.ChildPlan.{SnapshotPlanned, BranchPlanned}
use Rattle.mn_work.specs.Children.{DoesChild, MayPlan}
use Rattle.mn_work.proofs.Planned.{branch_does, snapshot_does}
use Rattle.mn_work.proofs.child.plan_for.Goals as goal

of_snapshot : (r : Result Mini PlanError) (nodes : ℕ) (entries : List CatEntry) (op : Op) (version child : List ℕ) (root : Page) (slot : Addr)
    → op ≡ Snapshot version child → IsCatalog entries → MayPlan nodes entries op root slot
    → IfOk r (SnapshotPlanned entries nodes version child root slot) → IfOk r (DoesChild entries op root)
of_snapshot r nodes entries op version child root slot is right may ok =
    subst (λ (o : Op). IfOk r (DoesChild entries o root)) (sym is)
    (IfOk-weaker r (SnapshotPlanned entries nodes version child root slot) (DoesChild entries (Snapshot version child) root)
    (λ mini p. snapshot_does nodes entries version child root slot right (subst (λ (o : Op). MayPlan nodes entries o root slot) is may).0 (subst (λ (o : Op). MayPlan nodes entries o root slot) is may).1 mini p) ok)

of_branch : (r : Result Mini PlanError) (nodes : ℕ) (entries : List CatEntry) (op : Op) (version child : List ℕ) (root : Page) (slot : Addr)
    → op ≡ Branch version child → IsCatalog entries → MayPlan nodes entries op root slot
    → IfOk r (BranchPlanned entries nodes version child root slot) → IfOk r (DoesChild entries op root)
of_branch r nodes entries op version child root slot is right may ok =
    subst (λ (o : Op). IfOk r (DoesChild entries o root)) (sym is)
    (IfOk-weaker r (BranchPlanned entries nodes version child root slot) (DoesChild entries (Branch version child) root)
    (λ mini p. branch_does nodes entries version child root slot right (subst (λ (o : Op). MayPlan nodes entries o root slot) is may).0 (subst (λ (o : Op). MayPlan nodes entries o root slot) is may).1 mini p) ok)

pub returns-in-Snapshot-clause-planned : goal.returns-in-Snapshot-clause-planned
returns-in-Snapshot-clause-planned c =
    of_snapshot c.snapshot_plan.result c.args.nodes c.args.catalog.now c.args.op.now _ _ c.args.root.now c.args.slot c.in-Snapshot.is c.entries.ensures.right c.requires.may c.snapshot_plan.ensures.planned

pub returns-in-Branch-clause-planned : goal.returns-in-Branch-clause-planned
returns-in-Branch-clause-planned c =
    of_branch c.branch_plan.result c.args.nodes c.args.catalog.now c.args.op.now _ _ c.args.root.now c.args.slot c.in-Branch.is c.entries.ensures.right c.requires.may c.branch_plan.ensures.planned
