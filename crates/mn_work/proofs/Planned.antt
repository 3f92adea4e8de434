-- The plan of a Snapshot or a Branch does what the operation does, for a client whose list has shown
-- last the catalog and the root page.
use Rattle.std.proofs.Common.{◌≡◌, ◌∙◌, ℕ, ◌<◌, Bool, true, false, List, Option, Some, None, ap, arith, subst, sym, slice_get, length, if◌then◌else◌}
use Rattle.std.proofs.lemmas.List.{length-map}
use Rattle.std.proofs.lemmas.Option.{slice_get_within}
use Rattle.mn_base.specs.Store.{Head, child_refusal, head_named, max_versions, op_version, refusal, refusal_at}
use Rattle.mn_base.specs.declared.reply.Reply.TheVariants.{Frozen, NotFrozen}
use Rattle.mn_base.proofs.VersionTree.{child_admitted}
use Rattle.mn_base.specs.declared.ids.Addr.{Addr}
use Rattle.mn_base.specs.declared.ids.VersionNo.{VersionNo}
use Rattle.mn_base.specs.declared.op.Op.{Op}
use Rattle.mn_base.specs.declared.op.Op.TheVariants.{Snapshot, Branch}
use Rattle.mn_catalog.specs.Grammar.{IsCatalog}
use Rattle.mn_mini.specs.Mini.{Mini}
use Rattle.mn_page.specs.declared.entry.CatEntry.{CatEntry}
use Rattle.mn_page.specs.declared.page.Page.{Page}
use Rattle.mn_page.specs.Forest.{entry_head, heads_in}
use Rattle.mn_page.specs.Grammar.{IsEntry}
use Rattle.mn_runs.specs.declared.entry.Entry.{Entry}
use Rattle.mn_law.specs.Places.{catalog_node}
use Rattle.mn_txn.specs.Laws.{ReadsAreShown}
use Rattle.mn_txn.specs.Children.{child_reads}
use Rattle.mn_txn.specs.ChildPlan.{BranchPlanned, IsVersion, MayHaveChild, SnapshotPlanned, child_try}
use Rattle.mn_work.specs.Children.{DoesChild}
use Rattle.mn_work.specs.Last.{CatalogIsLast, PageIsLast}
use Rattle.mn_work.specs.Walks.{Admits}
use Rattle.std.proofs.lemmas.List.Elements.{recursion_from_All}
use Rattle.mn_page.proofs.Grid.{all_at_place}
use Rattle.mn_work.proofs.Last.{count_last, entry_last, page_last, unused_last}

-- a catalog that admits a child has room for it
has_room : (es : List CatEntry) (child : List ℕ) → child_refusal (heads_in es) child ≡ None → length es < max_versions
has_room es child free = subst (λ (k : ℕ). k < max_versions) (length-map es entry_head) (child_admitted (heads_in es) child free).1

snapshot_room : (es : List CatEntry) (name child : List ℕ) → refusal (heads_in es) (Snapshot name child) ≡ None
    → length es < max_versions
snapshot_room es name child admitted = has_room es child (by_head (head_named (heads_in es) name) admitted)
  where
    writable : (b : Bool) → (if b then Some Frozen else child_refusal (heads_in es) child) ≡ None → child_refusal (heads_in es) child ≡ None
    writable true e = absurd cc
    writable false e = e

    by_head : (o : Option Head) → refusal_at (heads_in es) (Snapshot name child) o ≡ None → child_refusal (heads_in es) child ≡ None
    by_head None e = absurd cc
    by_head (Some h) e = writable h.frozen e

branch_room : (es : List CatEntry) (name child : List ℕ) → refusal (heads_in es) (Branch name child) ≡ None
    → length es < max_versions
branch_room es name child admitted = has_room es child (by_head (head_named (heads_in es) name) admitted)
  where
    frozen : (b : Bool) → (if b then child_refusal (heads_in es) child else Some NotFrozen) ≡ None → child_refusal (heads_in es) child ≡ None
    frozen true e = e
    frozen false e = absurd cc

    by_head : (o : Option Head) → refusal_at (heads_in es) (Branch name child) o ≡ None → child_refusal (heads_in es) child ≡ None
    by_head None e = absurd cc
    by_head (Some h) e = frozen h.frozen e

-- what such a plan compares
reads_last : (es : List Entry) (nodes : ℕ) (entries : List CatEntry) (op : Op) (child : List ℕ) (root : Page)
    (slot : Addr) → IsCatalog entries → MayHaveChild entries nodes (op_version op) root slot
    → length entries < max_versions → (version' : VersionNo) (addr : Addr)
    → Admits entries op version' addr → CatalogIsLast es entries → PageIsLast es addr root
    → (version : VersionNo) (entry : CatEntry) → IsVersion entries (op_version op) version entry
    → ReadsAreShown es (child_reads (child_try entries nodes (op_version op) child version entry root slot))
reads_last es nodes entries op child root slot right may room version' addr admits catalog last version entry is =
    let numbers : Some version'.0 ≡ Some version.0 = sym admits.named ∙ is.named in
    let number : version'.0 ≡ version.0 = cc in
    let both : Some admits.entry ≡ Some entry = sym admits.there ∙ (ap (λ (n : ℕ). slice_get entries n) number ∙ is.there) in
    let same : admits.entry ≡ entry = cc in
    let at : addr ≡ entry.root = sym admits.root_is ∙ ap (λ (e : CatEntry). e.root) same in
    let it : IsEntry entry = is_one entries version.0 entry right is.there in
    let low = slice_get_within entries version.0 entry is.there in
    let early : version.0 < max_versions = omega (arith, room) in (
      page_last es entry.root root may.page it.root (subst (λ (a : Addr). PageIsLast es a root) at last),
      (
        entry_last es entries catalog_node version.0 entry catalog early is.there it,
        (unused_last es entries catalog room, (count_last es slot.node.0 slot.slot, tt)),
      ),
    )
  where
    is_one : (entries : List CatEntry) (v : ℕ) (e : CatEntry) → IsCatalog entries → slice_get entries v ≡ Some e → IsEntry e
    is_one entries v e right there = all_at_place IsEntry entries v e (recursion_from_All IsEntry entries right.1) there

pub snapshot_does : (nodes : ℕ) (entries : List CatEntry) (name child : List ℕ) (root : Page) (slot : Addr)
    → IsCatalog entries → MayHaveChild entries nodes name root slot
    → refusal (heads_in entries) (Snapshot name child) ≡ None → (mini : Mini)
    → SnapshotPlanned entries nodes name child root slot mini → DoesChild entries (Snapshot name child) root mini
snapshot_does nodes entries name child root slot right may admitted mini planned = record {
  planned = λ es version addr admits catalog last.
      planned.3 es
      (reads_last es nodes entries (Snapshot name child) child root slot right may (snapshot_room entries name child admitted) version addr admits catalog last planned.0 planned.1 planned.2);
}

pub branch_does : (nodes : ℕ) (entries : List CatEntry) (name child : List ℕ) (root : Page) (slot : Addr)
    → IsCatalog entries → MayHaveChild entries nodes name root slot
    → refusal (heads_in entries) (Branch name child) ≡ None → (mini : Mini)
    → BranchPlanned entries nodes name child root slot mini → DoesChild entries (Branch name child) root mini
branch_does nodes entries name child root slot right may admitted mini planned = record {
  planned = λ es version addr admits catalog last.
      planned.3 es
      (reads_last es nodes entries (Branch name child) child root slot right may (branch_room entries name child admitted) version addr admits catalog last planned.0 planned.1 planned.2);
}
