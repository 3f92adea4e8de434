-- A version that is added to a tree as the child of another one: the entries and the pages then,
-- and what they show.
use Rattle.std.specs.Prelude.{◌≡◌, ℕ, true, false, nat_lt, IsTrue, List, [], ◌∷◌, ◌++◌, length}
use Rattle.std.specs.Prelude.{Some, None, slice_get, slice_set}
use Rattle.std.specs.List.{list_all}
use Rattle.mn_base.specs.Store.{Store, heads_of, number_named, refusal, applied}
use Rattle.mn_base.specs.Tree.{versions_in}
use Rattle.mn_base.specs.declared.ids.Addr.{Addr}
use Rattle.mn_base.specs.declared.ids.VersionNo.{VersionNo}
use Rattle.mn_base.specs.declared.op.Op.TheVariants.{Snapshot, Branch}
use Rattle.mn_page.specs.declared.entry.CatEntry.{CatEntry}
use Rattle.mn_page.specs.declared.page.Page.{Page}
use Rattle.mn_page.specs.Holds.{PagesAt, IsTree, ShowsStore}
use Rattle.mn_page.specs.Overlay.{next_number}
use Rattle.mn_page.specs.Copies.{marked_for, copy_for}

-- Entries

-- an entry as a Snapshot writes it again: frozen, with the next sequence number, where the last one
-- stays
abbrev pub frozen_entry : CatEntry → CatEntry
frozen_entry e = record {
  seq = next_number e.seq;
  frozen = true;
  parent = e.parent;
  root = e.root;
  name = e.name;
}

-- the entry of a new writable version: its parent, its name, and where its root stands
abbrev pub child_entry : VersionNo → List ℕ → Addr → CatEntry
child_entry parent name root = record {
  seq = 1;
  frozen = false;
  parent = Some parent;
  root = root;
  name = name;
}

-- A version to be added

-- its parent with the entry and the root page; its own number and name, and the address of its root
pub record Addition : Type 0 where
  pub parent : VersionNo
  pub entry : CatEntry
  pub root : Page
  pub number : VersionNo
  pub child : List ℕ
  pub slot : Addr

-- the parent has this entry and this root, which was copied for later versions alone; the number is
-- the first unused one, and no page stands at the address yet
pub record MayBeAdded (entries : List CatEntry) (was : PagesAt) (a : Addition) : Type 0 where
  pub entry : slice_get entries a.parent.0 ≡ Some a.entry
  pub root : was a.entry.root ≡ Some a.root
  pub above : IsTrue (list_all (nat_lt a.root.made.0) (versions_in a.root.copied))
  pub number : a.number.0 ≡ length entries
  pub free : was a.slot ≡ None

-- the parent's root is marked for the new version, its copy stands at the address, and each other
-- page stands as before
pub record HasCopy (a : Addition) (was now : PagesAt) : Type 0 where
  pub marked : now a.entry.root ≡ Some (marked_for a.number a.root)
  pub copy : now a.slot ≡ Some (copy_for a.number a.root)
  pub others : (x : Addr) → (x ≡ a.entry.root → ⊥) → (x ≡ a.slot → ⊥) → now x ≡ was x

-- the new version's entry
abbrev pub entry_of : Addition → CatEntry
entry_of a = child_entry a.parent a.child a.slot

-- the entries after a Snapshot, which freezes the parent
abbrev pub after_snapshot : List CatEntry → Addition → List CatEntry
after_snapshot entries a = slice_set entries a.parent.0 (frozen_entry a.entry) ++ entry_of a ∷ []

-- and after a Branch, which finds it frozen
abbrev pub after_branch : List CatEntry → Addition → List CatEntry
after_branch entries a = entries ++ entry_of a ∷ []

-- a tree that shows a store, and the pages once the version has its root
pub record Adds (entries : List CatEntry) (was now : PagesAt) (store : Store) (name : List ℕ)
    (a : Addition) : Type 0 where
  pub tree : IsTree entries was
  pub shows : ShowsStore entries was store
  pub may : MayBeAdded entries was a
  pub copy : HasCopy a was now
  pub named : number_named (heads_of store) name ≡ Some a.parent.0

-- entries and pages are a tree that shows the store
pub record AreShown (entries : List CatEntry) (at : PagesAt) (store : Store) : Type 0 where
  pub tree : IsTree entries at
  pub shows : ShowsStore entries at store

-- they show what a Snapshot that isn't refused makes of the store
abbrev pub SnapshotIsShown : Type 0
SnapshotIsShown =
    (entries : List CatEntry) (was now : PagesAt) (store : Store) (name : List ℕ) (a : Addition)
    → Adds entries was now store name a → refusal (heads_of store) (Snapshot name a.child) ≡ None
    → AreShown (after_snapshot entries a) now (applied store (Snapshot name a.child)).store

-- and what a Branch does
abbrev pub BranchIsShown : Type 0
BranchIsShown =
    (entries : List CatEntry) (was now : PagesAt) (store : Store) (name : List ℕ) (a : Addition)
    → Adds entries was now store name a → refusal (heads_of store) (Branch name a.child) ≡ None
    → AreShown (after_branch entries a) now (applied store (Branch name a.child)).store
