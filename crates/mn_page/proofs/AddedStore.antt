-- A version is added: the tree shows what a Snapshot or a Branch makes of the store.
use Rattle.std.proofs.Common.{◌≡◌, ℕ, ◌+◌, ◌<◌, inl, inr, true, false, List, [], ◌∷◌, ◌++◌, length, Option, Some, None, refl, subst, sym, ap, ◌∙◌, arith, slice_get, slice_set}
use Rattle.std.specs.Prelude.{filter, IsTrue}
use Rattle.std.specs.Option.{option_map}
use Rattle.std.proofs.lemmas.Bool.{cases_eq}
use Rattle.std.proofs.lemmas.List.{length-map, length-append, length-set, map-append, map-set}
use Rattle.std.proofs.lemmas.Option.{slice_get-map, slice_get_within}
use Rattle.mn_base.specs.Order.{covers_key}
use Rattle.mn_base.specs.Store.{Head, Store, StoreVersion, heads_of, frozen_head, child_of, child_refusal, refusal_at, unless_refused, applied, is_ascending}
use Rattle.mn_base.specs.Tree.{IsVersionTree, parents_of}
use Rattle.mn_base.specs.declared.ids.Addr.{Addr}
use Rattle.mn_base.specs.declared.op.Op.TheVariants.{Snapshot, Branch}
use Rattle.mn_base.specs.declared.reply.Pair.{Pair}
use Rattle.mn_page.specs.declared.entry.CatEntry.{CatEntry}
use Rattle.mn_page.specs.declared.page.Page.{Page}
use Rattle.mn_page.specs.Grammar.{height_of}
use Rattle.mn_page.specs.Forest.{heads_in, entry_head}
use Rattle.mn_page.specs.Holds.{PagesAt, page_covers, page_serves, pairs_in, IsTree, ShowsStore}
use Rattle.mn_page.specs.Added.{Addition, MayBeAdded, HasCopy, frozen_entry, child_entry, after_snapshot, after_branch, SnapshotIsShown, BranchIsShown}
use Rattle.mn_page.proofs.Alike.{all-set}
use Rattle.mn_page.proofs.Grid.{all_at_place}
use Rattle.mn_base.proofs.Named.{NamedVersion, named}
use Rattle.mn_base.proofs.Lists.{set_at, set_beside, set_same, before_last, last_at, all_append}
use Rattle.mn_base.proofs.VersionTree.{child_head, heads_after, child_admitted, parents_after, tree_after}
use Rattle.mn_base.proofs.AddedVersion.{shut, kid_of, stored, version_same, head_same, frozen_is, child_is, writable, frozen, frozen_still}
use Rattle.mn_page.proofs.Added.{Longer, before, is_copy, is_old, for_new, root_serves, added_tree}

-- The tree shows it

module _ (entries after : List CatEntry) (was now : PagesAt) (store : Store) (a : Addition) (x : StoreVersion) (tree : IsTree entries was) (shows : ShowsStore entries was store) (may : MayBeAdded entries was a) (copy : HasCopy a was now)
    (at : slice_get store a.parent.0 ≡ Some x) (refused : child_refusal (heads_in entries) a.child ≡ None) (heads : heads_in after ≡ heads_after (heads_in entries) a.parent.0 (entry_head a.entry) a.child)
    (older : (u : ℕ) (e : CatEntry) → slice_get entries u ≡ Some e → (d : CatEntry) × (slice_get after u ≡ Some d) × (d.root ≡ e.root)) (newest : slice_get after (length entries) ≡ Some (child_entry a.parent a.child a.slot)) where
  abbrev n : ℕ
  n = length entries

  abbrev v : ℕ
  v = a.parent.0

  head_at : slice_get (heads_in entries) v ≡ Some (entry_head a.entry)
  head_at = slice_get-map entry_head entries v ∙ ap (option_map entry_head) may.entry

  head_is : x.head ≡ entry_head a.entry
  head_is = head_same x.head (entry_head a.entry) (sym (slice_get-map (λ (y : StoreVersion). y.head) store v ∙ ap (option_map (λ (y : StoreVersion). y.head)) at) ∙ (ap (λ hs. slice_get hs v) shows.heads ∙ head_at))

  as_many : length store ≡ n
  as_many = sym (length-map store (λ (y : StoreVersion). y.head)) ∙ (ap (λ (hs : List Head). length hs) shows.heads ∙ length-map entries entry_head)

  many_heads : length (heads_in entries) ≡ n
  many_heads = length-map entries entry_head

  many_after : length after ≡ n + 1
  many_after =
      sym (length-map after entry_head)
      ∙ (ap (λ (hs : List Head). length hs) heads
      ∙ (length-append (slice_set (heads_in entries) v (frozen_head (entry_head a.entry))) (child_head v a.child ∷ []) ∙ ap (λ k. k + 1) (length-set (heads_in entries) v (frozen_head (entry_head a.entry)) ∙ many_heads)))

  longer_is : Longer entries after a
  longer_is = record {
    versions = subst IsVersionTree (sym heads) (tree_after (heads_in entries) v (entry_head a.entry) a.child tree.versions head_at refused);
    parents = ap parents_of heads ∙ parents_after (heads_in entries) v (entry_head a.entry) a.child tree.versions head_at refused;
    many = many_after;
    older = older;
    newest = newest;
    few = subst (λ k. k < 64) many_heads (child_admitted (heads_in entries) a.child refused).1;
  }

  pub tree_is : IsTree after now
  tree_is = added_tree entries after was now a tree may copy longer_is

  -- an older version has its pairs
  older_pairs : (u : ℕ) (w : StoreVersion) → u < n → slice_get (stored store v x a.child) u ≡ Some w → (y : StoreVersion) × (slice_get store u ≡ Some y) × (w.pairs ≡ y.pairs)
  older_pairs u w low there = elim (cases_eq u v) as (λ _. (y : StoreVersion) × (slice_get store u ≡ Some y) × (w.pairs ≡ y.pairs)) [
    | inl e ↦ (x, ap (slice_get store) e ∙ at, ap (λ (z : StoreVersion). z.pairs) (version_same w (shut x) (sym there' ∙ (ap (slice_get (slice_set store v (shut x))) e ∙ set_at store v x (shut x) at))))
    | inr off ↦ (w, sym (set_beside store v (shut x) u off) ∙ there', refl)
  ]
    where
      there' : slice_get (slice_set store v (shut x)) u ≡ Some w
      there' = sym (before_last (slice_set store v (shut x)) (kid_of v a.child x.pairs ∷ []) u (subst (λ k. u < k) (sym (length-set store v (shut x) ∙ as_many)) low)) ∙ there

  newest_pairs : (w : StoreVersion) → slice_get (stored store v x a.child) n ≡ Some w → w.pairs ≡ x.pairs
  newest_pairs w there =
      ap (λ (z : StoreVersion). z.pairs)
      (version_same w (kid_of v a.child x.pairs)
      (sym there ∙ (ap (slice_get (stored store v x a.child)) (sym (length-set store v (shut x) ∙ as_many)) ∙ last_at (slice_set store v (shut x)) (kid_of v a.child x.pairs))))

  abbrev Tells : List Pair → Page → Type 0
  Tells pairs p = filter (λ (pair : Pair). page_covers pair.key p) pairs ≡ pairs_in p.body

  -- a leaf in place of one with its fences and its body
  same_tells : (pairs : List Pair) (p q : Page) → p.low ≡ q.low → p.high ≡ q.high → p.body ≡ q.body → Tells pairs q → Tells pairs p
  same_tells pairs p q e f g told =
      ap (λ (l : List ℕ). filter (λ (pair : Pair). covers_key l p.high pair.key) pairs) e
      ∙ (ap (λ (h : Option (List ℕ)). filter (λ (pair : Pair). covers_key q.low h pair.key) pairs) f ∙ (told ∙ ap pairs_in (sym g)))

  leaves : (u : ℕ) (w : StoreVersion) (addr : Addr) (p : Page) → slice_get (stored store v x a.child) u ≡ Some w → now addr ≡ Some p → height_of p.body ≡ 0 → IsTrue (page_serves after u p) → Tells w.pairs p
  leaves u w addr p there stands leaf serving = elim (cases_eq u n) as (λ _. Tells w.pairs p) [
    | inl e ↦
        subst (λ (ps : List Pair). Tells ps p) (sym (newest_pairs w (ap (slice_get (stored store v x a.child)) (sym e) ∙ there)))
        (elim (for_new entries after was now a tree may copy longer_is addr p stands (ap (λ k. page_serves after k p) (sym e) ∙ serving)) as (λ _. Tells x.pairs p) [
          | is_copy _ f ↦
              same_tells x.pairs p a.root (ap (λ (q : Page). q.low) f) (ap (λ (q : Page). q.high) f) (ap (λ (q : Page). q.body) f)
              (shows.leaves v x a.entry.root a.root at may.root (ap (λ (q : Page). height_of q.body) (sym f) ∙ leaf) (root_serves entries after was now a tree may copy longer_is))
          | is_old _ before s ↦ shows.leaves v x addr p at before leaf s
        ])
    | inr off ↦
        let low = below u (subst (λ k. u < k) (length-append (slice_set store v (shut x)) (kid_of v a.child x.pairs ∷ []) ∙ ap (λ k. k + 1) (length-set store v (shut x) ∙ as_many)) (slice_get_within (stored store v x a.child) u w there)) off in
        let old = older_pairs u w low there in
        let b = before entries after was now a tree may copy longer_is addr p u low stands serving in
        subst (λ (ps : List Pair). Tells ps p) (sym old.2) (same_tells (old.0).pairs p b.old b.low b.high b.body (shows.leaves u old.0 addr b.old old.1 b.there (ap height_of (sym b.body) ∙ leaf) b.serves))
  ]
    where
      below : (m : ℕ) → m < n + 1 → (m ≡ n → ⊥) → m < n
      below m low off = elim (cases_eq m n) as (λ _. m < n) [ inl e ↦ absurd (off e) | inr apart ↦ omega (arith, apart) ]

  pub shows_is : ShowsStore after now (stored store v x a.child)
  shows_is = record {
    heads = map-append (λ (y : StoreVersion). y.head) (slice_set store v (shut x)) (kid_of v a.child x.pairs ∷ [])
        ∙ (ap (λ (hs : List Head). hs ++ child_head v a.child ∷ [])
        (map-set (λ (y : StoreVersion). y.head) store v (shut x) ∙ (ap (λ (hs : List Head). slice_set hs v (frozen_head x.head)) shows.heads ∙ ap (λ (h : Head). slice_set (heads_in entries) v (frozen_head h)) head_is)) ∙ sym heads);
    ascending = all_append (λ (y : StoreVersion). IsTrue (is_ascending y.pairs)) (slice_set store v (shut x)) (kid_of v a.child x.pairs ∷ [])
        (all-set (λ (y : StoreVersion). IsTrue (is_ascending y.pairs)) store v (shut x) shows.ascending up) (up, tt);
    leaves = leaves;
  }
    where
      up : IsTrue (is_ascending x.pairs)
      up = all_at_place (λ (y : StoreVersion). IsTrue (is_ascending y.pairs)) store v x shows.ascending at

-- The laws

pub snapshot_is_shown : SnapshotIsShown
snapshot_is_shown entries was now store name a adds refused = record {
  tree = tree_is entries (after_snapshot entries a) was now store a s.version adds.tree adds.shows adds.may adds.copy s.there admitted heads older newest;
  shows = subst (ShowsStore (after_snapshot entries a) now) (sym stored_is)
      (shows_is entries (after_snapshot entries a) was now store a s.version adds.tree adds.shows adds.may adds.copy s.there admitted heads older newest);
}
  where
    s : NamedVersion store name a.parent.0
    s = named store name a.parent.0 adds.named

    may_be : (s.version.head.frozen ≡ false) × (child_refusal (heads_of store) a.child ≡ None)
    may_be = writable s.version.head.frozen (sym (ap (refusal_at (heads_of store) (Snapshot name a.child)) s.head) ∙ refused)

    admitted : child_refusal (heads_in entries) a.child ≡ None
    admitted = ap (λ (hs : List Head). child_refusal hs a.child) (sym adds.shows.heads) ∙ may_be.1

    heads : heads_in (after_snapshot entries a) ≡ heads_after (heads_in entries) a.parent.0 (entry_head a.entry) a.child
    heads =
        map-append entry_head (slice_set entries a.parent.0 (frozen_entry a.entry)) (child_entry a.parent a.child a.slot ∷ [])
        ∙ ap (λ (hs : List Head). hs ++ child_head a.parent.0 a.child ∷ []) (map-set entry_head entries a.parent.0 (frozen_entry a.entry))

    many : length (slice_set entries a.parent.0 (frozen_entry a.entry)) ≡ length entries
    many = length-set entries a.parent.0 (frozen_entry a.entry)

    entry_same : (d e : CatEntry) → Some d ≡ Some e → d ≡ e
    entry_same d e f = cc

    older : (u : ℕ) (e : CatEntry) → slice_get entries u ≡ Some e → (d : CatEntry) × (slice_get (after_snapshot entries a) u ≡ Some d) × (d.root ≡ e.root)
    older u e at = elim (cases_eq u a.parent.0) as (λ _. (d : CatEntry) × (slice_get (after_snapshot entries a) u ≡ Some d) × (d.root ≡ e.root)) [
      | inl same ↦ (
        frozen_entry a.entry,
        first ∙ (ap (slice_get (slice_set entries a.parent.0 (frozen_entry a.entry))) same ∙ set_at entries a.parent.0 a.entry (frozen_entry a.entry) adds.may.entry),
        ap (λ (c : CatEntry). c.root) (entry_same a.entry e (sym adds.may.entry ∙ (ap (slice_get entries) (sym same) ∙ at))),
      )
      | inr off ↦ (e, first ∙ (set_beside entries a.parent.0 (frozen_entry a.entry) u off ∙ at), refl)
    ]
      where
        first : slice_get (after_snapshot entries a) u ≡ slice_get (slice_set entries a.parent.0 (frozen_entry a.entry)) u
        first = before_last (slice_set entries a.parent.0 (frozen_entry a.entry)) (child_entry a.parent a.child a.slot ∷ []) u (subst (λ k. u < k) (sym many) (slice_get_within entries u e at))

    newest : slice_get (after_snapshot entries a) (length entries) ≡ Some (child_entry a.parent a.child a.slot)
    newest = ap (slice_get (after_snapshot entries a)) (sym many) ∙ last_at (slice_set entries a.parent.0 (frozen_entry a.entry)) (child_entry a.parent a.child a.slot)

    stored_is : (applied store (Snapshot name a.child)).store ≡ stored store a.parent.0 s.version a.child
    stored_is =
        ap (λ r. (unless_refused store (Snapshot name a.child) r).store) refused
        ∙ (ap (λ (t : Store). t ++ child_of store name a.child ∷ []) (frozen_is store name a.parent.0 s.version adds.named s.there)
        ∙ ap (λ (y : StoreVersion). slice_set store a.parent.0 (shut s.version) ++ y ∷ []) (child_is store name a.parent.0 a.child s.version.pairs adds.named s.pairs))

pub branch_is_shown : BranchIsShown
branch_is_shown entries was now store name a adds refused = record {
  tree = tree_is entries (after_branch entries a) was now store a s.version adds.tree adds.shows adds.may adds.copy s.there admitted heads older newest;
  shows = subst (ShowsStore (after_branch entries a) now) (sym stored_is)
      (shows_is entries (after_branch entries a) was now store a s.version adds.tree adds.shows adds.may adds.copy s.there admitted heads older newest);
}
  where
    s : NamedVersion store name a.parent.0
    s = named store name a.parent.0 adds.named

    may_be : (s.version.head.frozen ≡ true) × (child_refusal (heads_of store) a.child ≡ None)
    may_be = frozen s.version.head.frozen (sym (ap (refusal_at (heads_of store) (Branch name a.child)) s.head) ∙ refused)

    admitted : child_refusal (heads_in entries) a.child ≡ None
    admitted = ap (λ (hs : List Head). child_refusal hs a.child) (sym adds.shows.heads) ∙ may_be.1

    head_at : slice_get (heads_in entries) a.parent.0 ≡ Some (entry_head a.entry)
    head_at = slice_get-map entry_head entries a.parent.0 ∙ ap (option_map entry_head) adds.may.entry

    head_is : s.version.head ≡ entry_head a.entry
    head_is =
        head_same s.version.head (entry_head a.entry)
        (sym (slice_get-map (λ (y : StoreVersion). y.head) store a.parent.0 ∙ ap (option_map (λ (y : StoreVersion). y.head)) s.there) ∙ (ap (λ hs. slice_get hs a.parent.0) adds.shows.heads ∙ head_at))

    heads : heads_in (after_branch entries a) ≡ heads_after (heads_in entries) a.parent.0 (entry_head a.entry) a.child
    heads =
        map-append entry_head entries (child_entry a.parent a.child a.slot ∷ [])
        ∙ ap (λ (hs : List Head). hs ++ child_head a.parent.0 a.child ∷ [])
        (sym (ap (slice_set (heads_in entries) a.parent.0) (frozen_still (entry_head a.entry) (ap (λ (h : Head). h.frozen) (sym head_is) ∙ may_be.0)) ∙ set_same (heads_in entries) a.parent.0 (entry_head a.entry) head_at))

    older : (u : ℕ) (e : CatEntry) → slice_get entries u ≡ Some e → (d : CatEntry) × (slice_get (after_branch entries a) u ≡ Some d) × (d.root ≡ e.root)
    older u e at = (e, before_last entries (child_entry a.parent a.child a.slot ∷ []) u (slice_get_within entries u e at) ∙ at, refl)

    stored_is : (applied store (Branch name a.child)).store ≡ stored store a.parent.0 s.version a.child
    stored_is =
        ap (λ r. (unless_refused store (Branch name a.child) r).store) refused
        ∙ (ap (λ (y : StoreVersion). store ++ y ∷ []) (child_is store name a.parent.0 a.child s.version.pairs adds.named s.pairs)
        ∙ ap (λ (t : Store). t ++ kid_of a.parent.0 a.child s.version.pairs ∷ [])
        (sym (ap (λ (h : Head). slice_set store a.parent.0 (record { head = h; pairs = s.version.pairs })) (frozen_still s.version.head may_be.0) ∙ set_same store a.parent.0 s.version s.there)))

    newest : slice_get (after_branch entries a) (length entries) ≡ Some (child_entry a.parent a.child a.slot)
    newest = last_at entries (child_entry a.parent a.child a.slot)
