use Rattle.std.proofs.Common.{◌≡◌, ◌⊎◌, inl, inr, Bool, false, ℕ, List, Option, Some, None, refl, sym, subst, ◌∙◌}
use Rattle.std.specs.Prelude.{MatchOption}
use Rattle.std.specs.Option.{is_some, option_map}
use Rattle.mn_base.specs.declared.ids.Addr.{Addr}
use Rattle.mn_base.specs.declared.ids.VersionNo.{VersionNo}
use Rattle.mn_base.specs.declared.op.Op.{Op}
use Rattle.mn_base.specs.declared.op.Op.TheVariants.{Tx, Snapshot, Branch}
use Rattle.mn_base.specs.declared.op.Step.{Step}
use Rattle.mn_page.specs.declared.entry.CatEntry.{CatEntry}
use Rattle.mn_work.specs.declared.work.Job.{Job}
use Rattle.mn_work.specs.declared.child.Child.{Child}
use Rattle.mn_work.specs.declared.work.Job.TheVariants as at
use Rattle.mn_work.specs.Works.{BeginsOn, BeginsSteps, IsNewChild, lone_key}
use Rattle.mn_work.proofs.work.Work.begin_on.Goals as goal

begins_steps : (entries : List CatEntry) (op : Op) (spoiled : Bool) (version : VersionNo) (root : Addr) (name : List ℕ)
    (steps : List Step) (job : Job) (o : Option (List ℕ)) → op ≡ Tx name steps → lone_key steps ≡ o → o ≡ None
    → BeginsSteps entries version root job → BeginsOn entries op spoiled version root job
begins_steps entries op spoiled version root name steps job o is key none begins =
    subst (λ (p : Op). BeginsOn entries p spoiled version root job) (sym is)
    (subst (λ (k : Option (List ℕ)). MatchOption k (BeginsSteps entries version root job) (λ key. job ≡ at.Get (record { version = version; addr = root; above = None })))
    (sym (key ∙ none)) begins)

not_lone : {X : Type 0} (f : X → List ℕ) (o : Option X) (k : Option (List ℕ)) → is_some o ≡ false
    → option_map f o ≡ k → k ≡ None
not_lone f None k e is = sym is
not_lone f (Some x) k e is = absurd cc

-- a Snapshot or a Branch
abbrev MakesChild : Op → Type 0
MakesChild op = ((x : List ℕ) × (y : List ℕ) × (op ≡ Snapshot x y)) ⊎ ((x : List ℕ) × (y : List ℕ) × (op ≡ Branch x y))

begins_child : (entries : List CatEntry) (op : Op) (spoiled : Bool) (version : VersionNo) (root : Addr) (c : Child)
    → MakesChild op
    → IsNewChild version root c → BeginsOn entries op spoiled version root (at.Child c)
begins_child entries op spoiled version root c (inl is) new =
    subst (λ (p : Op). BeginsOn entries p spoiled version root (at.Child c)) (sym is.2) (c, refl, new)
begins_child entries op spoiled version root c (inr is) new =
    subst (λ (p : Op). BeginsOn entries p spoiled version root (at.Child c)) (sym is.2) (c, refl, new)

pub returns-in_ok-begin_steps-in-Tx-clause-begins : goal.returns-in_ok-begin_steps-in-Tx-clause-begins
returns-in_ok-begin_steps-in-Tx-clause-begins c =
    begins_steps c.args.kept.now c.args.self.now.op c.args.self.now.spoiled c.args.version c.args.root c.in-Tx.version c.in-Tx.steps c.begin_steps.new.self.job _ (sym c.get.ensures ∙ c.in-Tx.is) refl
    (not_lone (λ k. k.now) c.lone_get.result (lone_key c.in-Tx.steps) (sym c.is_some.ensures ∙ c.if-is_some.false) c.lone_get.ensures)
    c.in_ok-begin_steps-in-Tx.ensures.begins

pub returns-in-Snapshot-clause-begins : goal.returns-in-Snapshot-clause-begins
returns-in-Snapshot-clause-begins c =
    begins_child c.args.kept.now c.args.self.now.op c.args.self.now.spoiled c.args.version c.args.root c.new-in-Snapshot.result (subst MakesChild c.get.ensures c.in-Snapshot.is)
    (record {
      version_is = c.new-in-Snapshot.ensures.version;
      root_is = c.new-in-Snapshot.ensures.root;
      page = c.new-in-Snapshot.ensures.page;
      counts = c.new-in-Snapshot.ensures.counts;
    })
