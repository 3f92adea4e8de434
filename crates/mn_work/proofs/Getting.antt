-- A lone Get whose path is current begins at its root, and comes to its leaf at once.
use Rattle.std.proofs.Common.{◌≡◌, ℕ, Bool, true, false, List, [], ◌∷◌, Option, Some, None, sym, subst, ap, ◌∙◌, inl, inr, not, ◌&&◌}
use Rattle.std.specs.Prelude.{MatchOption, slice_get}
use Rattle.std.specs.Option.{is_some}
use Rattle.mn_base.specs.Store.{refusal}
use Rattle.mn_base.specs.declared.ids.Addr.{Addr}
use Rattle.mn_base.specs.declared.ids.VersionNo.{VersionNo}
use Rattle.mn_base.specs.declared.op.Op.{Op}
use Rattle.mn_base.specs.declared.op.Op.TheVariants.{Tx}
use Rattle.mn_base.specs.declared.op.Step.TheVariants.{Get}
use Rattle.mn_page.specs.declared.entry.CatEntry.{CatEntry}
use Rattle.mn_page.specs.Forest.{heads_in}
use Rattle.mn_work.specs.declared.get.Descent.{Descent}
use Rattle.mn_work.specs.declared.known.Known.{Known}
use Rattle.mn_work.specs.declared.work.Job.TheVariants as at
use Rattle.mn_work.specs.declared.work.Started.{Started}
use Rattle.mn_work.specs.declared.work.Work.{Work}
use Rattle.mn_work.specs.declared.next.Next.TheVariants as Next
use Rattle.mn_work.specs.Descents.{may_be_leaf, wanted}
use Rattle.mn_work.specs.Knows as knows
use Rattle.mn_work.specs.Paths.{GetsAt, HasCurrentPath, IsAtLeaf, at_root}
use Rattle.mn_work.specs.Walks.{Admits}
use Rattle.mn_work.specs.Works.{GoesOnFrom, KeepsOp, StartsBy, StartsOn, new_work}

-- a catalog gives a name one version, and that one root
same_version : (entries : List CatEntry) (op : Op) (v w : VersionNo) (a b : Addr) → Admits entries op v a
    → Admits entries op w b → (v ≡ w) × (a ≡ b)
same_version entries op v w a b first second = (same, sym first.root_is ∙ (ap (λ (e : CatEntry). e.root) entry ∙ second.root_is))
  where
    numbers : Some v.0 ≡ Some w.0
    numbers = sym first.named ∙ second.named

    number : v.0 ≡ w.0
    number = cc

    same : v ≡ w
    same = ap (λ (n : ℕ). record { 0 = n }) number

    entry : first.entry ≡ second.entry
    entry =
        let both : Some first.entry ≡ Some second.entry = sym first.there ∙ (ap (λ (n : ℕ). slice_get entries n) number ∙ second.there) in
        cc

-- it need not read the catalog first
pub has_catalog : (known : Known) (op : Op) (leaf : Descent) → HasCurrentPath known op leaf
    → knows.lacks_catalog known.catalog op ≡ false
has_catalog known op leaf path =
    subst (λ (o : Op). knows.lacks_catalog known.catalog o ≡ false) (sym path.get)
    (subst (λ (c : Option (List CatEntry)). knows.lacks_catalog c (Tx path.name (Get path.key ∷ [])) ≡ false) (sym path.leads.catalog)
    (ap is_some (subst (λ (o : Op). refusal (heads_in path.leads.entries) o ≡ None) path.get path.admits.admitted)))

-- it begins at the root from which its walk leads to the leaf
pub begins_there : (known : Known) (op : Op) (leaf : Descent) (before after : Work) → before ≡ new_work op
    → (path : HasCurrentPath known op leaf) → StartsBy known before after Started.On → KeepsOp before after
    → GetsAt after path.key (at_root path.version path.root) × (after.failed ≡ 0)
begins_there known op leaf before after new path starts keeps = (
  record {
    name = path.name;
    op_is = keeps.0 ∙ (ap (λ (w : Work). w.op) new ∙ path.get);
    job_is = job (goes_from starts.1);
  },
  keeps.1 ∙ ap (λ (w : Work). w.failed) new,
)
  where
    goes_from : MatchOption known.catalog ⊥ (λ entries. StartsOn entries before after Started.On)
        → GoesOnFrom path.leads.entries (new_work (Tx path.name (Get path.key ∷ []))) at.Start after.job
    goes_from on =
        subst (λ (o : Op). GoesOnFrom path.leads.entries (new_work o) at.Start after.job) path.get
        (subst (λ (w : Work). StartsOn path.leads.entries w after Started.On) new
        (subst (λ (c : Option (List CatEntry)). MatchOption c ⊥ (λ entries. StartsOn entries before after Started.On)) path.leads.catalog on))

    job : GoesOnFrom path.leads.entries (new_work (Tx path.name (Get path.key ∷ []))) at.Start after.job
        → after.job ≡ at.Get (at_root path.version path.root)
    job (version, root, admits, is) =
        let same = same_version path.leads.entries op version path.version root path.root
        (subst (λ (o : Op). Admits path.leads.entries o version root) (sym path.get) admits) path.admits in
        is ∙ (ap (λ (v : VersionNo). at.Get (at_root v root)) same.0 ∙ ap (λ (a : Addr). at.Get (at_root path.version a)) same.1)

-- a leaf is wanted by an Exec
pub wants_leaf : (known : Known) (leaf : Descent) → IsAtLeaf known.cache leaf → wanted false leaf ≡ Next.Page leaf.addr false
wants_leaf known leaf at = ap (λ (b : Bool). Next.Page leaf.addr (not false && not b)) (by at)
  where
    by : IsAtLeaf known.cache leaf → may_be_leaf leaf.above ≡ true
    by (inl low) = ap may_be_leaf low
    by (inr (root, none)) = ap may_be_leaf root
