-- The laws of walks, and of the trees that steps leave.
use Rattle.std.specs.Prelude.{ℕ, ◌≡◌, ◌≤◌, ◌+◌, ◌++◌, ◌&&◌, false, List, [], ◌∷◌, Option, Some}
use Rattle.std.specs.Prelude.{None, slice_get, slice_set, if◌then◌else◌, length, map, true, ⊤}
use Rattle.std.specs.List.{AllByRecursion}
use Rattle.std.specs.Option.{option_map_or, option_and_then}
use Rattle.mn_base.specs.Store.{Store, StoreVersion, heads_of, number_named, value_at, is_unmet}
use Rattle.mn_base.specs.Store.{is_change, step_key, pairs_after_step, noted_by, refusal, applied}
use Rattle.mn_base.specs.declared.ids.Addr.{Addr}
use Rattle.mn_base.specs.declared.ids.VersionNo.{VersionNo}
use Rattle.mn_base.specs.declared.op.Step.{Step}
use Rattle.mn_base.specs.declared.op.Op.TheVariants.{Tx}
use Rattle.mn_base.specs.declared.reply.Reply.{Reply}
use Rattle.mn_base.specs.declared.reply.Reply.TheVariants.{Values, Unmet}
use Rattle.mn_page.specs.declared.entry.CatEntry.{CatEntry}
use Rattle.mn_page.specs.declared.page.Page.{Page}
use Rattle.mn_page.specs.Grammar.{height_of}
use Rattle.mn_page.specs.Forest.{page_at}
use Rattle.mn_page.specs.Holds.{PagesAt, Holds, IsTree}
use Rattle.mn_page.specs.Overlay.{Held, Overlay, overlay_of, held_at, held_with, max_path, path_to}
use Rattle.mn_page.specs.Overlay.{path_pairs, step_on, steps_on, is_new, placed_pages}
use Rattle.mn_path.specs.Walk.{max_height}
use Rattle.mn_tree.specs.Walk.{Reached, walk}
use Rattle.mn_tree.specs.State.{Drafted, drafted_after, TreeState, stepped}
use Rattle.mn_tree.specs.Order.{placed}
use Rattle.mn_tree.specs.Trees.{laid_over, is_noted, ShowsTree, IsDraft}

-- where a walk reaches a leaf under a root that isn't too high, its path is the one of the plain
-- model
abbrev pub WalksArePaths : Type 0
WalksArePaths =
    (parents : List (Option ℕ)) (v : ℕ) (pages : List Held) (root : Addr) (key : List ℕ)
    (path : List Held) → walk parents v pages root key ≡ Reached path
    → option_map_or (λ p. height_of p.body) (held_at pages root) 0 ≤ max_height
    → path_to max_path pages root key [] ≡ Some path

-- pages that were read from a memory that holds a store are a draft of it
abbrev pub ReadsAreDraft : Type 0
ReadsAreDraft =
    (memory : List (List ℕ)) (store : Store) (holds : Holds memory store) (pages : List Held)
    → AllByRecursion (λ h. page_at holds.forest h.addr ≡ Some h.page) pages
    → IsDraft holds.forest.entries (page_at holds.forest) store (overlay_of pages)

-- and a further page that is read leaves it one
abbrev pub AddKeepsDraft : Type 0
AddKeepsDraft =
    (entries : List CatEntry) (at : PagesAt) (store : Store) (o : Overlay) (addr : Addr)
    (page : Page) → IsDraft entries at store o → laid_over o.pages at addr ≡ Some page
    → IsDraft entries at store (record
    { pages = held_with o.pages addr page; changed = o.changed; fresh = o.fresh })

-- the leaf of a key's path has the version's value of the key
abbrev pub PathTells : Type 0
PathTells =
    (entries : List CatEntry) (at : PagesAt) (store : Store) (o : Overlay) (v : VersionNo)
    (version : StoreVersion) (entry : CatEntry) (key : List ℕ) (path : List Held)
    → IsDraft entries at store o → slice_get store v.0 ≡ Some version
    → slice_get entries v.0 ≡ Some entry → path_to max_path o.pages entry.root key [] ≡ Some path
    → value_at (path_pairs path) key ≡ value_at version.pairs key

-- a step on the pages of its path, in a version that it may change, leaves a tree that shows the
-- store with the step done
abbrev pub StepKeepsTree : Type 0
StepKeepsTree =
    (entries : List CatEntry) (at : PagesAt) (store : Store) (o : Overlay) (v : VersionNo)
    (version : StoreVersion) (entry : CatEntry) (step : Step) (path : List Held)
    → IsDraft entries at store o → slice_get store v.0 ≡ Some version
    → slice_get entries v.0 ≡ Some entry → (entry.frozen && is_change step) ≡ false
    → path_to max_path o.pages entry.root (step_key step) [] ≡ Some path
    → IsDraft entries at (slice_set store v.0
    (record version { pairs = pairs_after_step version.pairs step })) (step_on v o step path)

-- so does a step of the tree in memory that reaches its leaf, where the root isn't too high
abbrev pub SteppedKeepsTree : Type 0
SteppedKeepsTree =
    (entries : List CatEntry) (at : PagesAt) (store : Store) (s : TreeState)
    (version : StoreVersion) (entry : CatEntry) (step : Step) (path : List Held)
    → IsDraft entries at store s.draft.overlay → slice_get store s.version.0 ≡ Some version
    → slice_get entries s.version.0 ≡ Some entry → s.root ≡ entry.root
    → (entry.frozen && is_change step) ≡ false
    → walk s.parents s.version.0 s.draft.overlay.pages s.root (step_key step) ≡ Reached path
    → option_map_or (λ p. height_of p.body) (held_at s.draft.overlay.pages s.root) 0 ≤ max_height
    → IsDraft entries at (slice_set store s.version.0
    (record version { pairs = pairs_after_step version.pairs step }))
    (stepped s step).state.draft.overlay

-- all steps of a transaction that isn't refused leave a tree that shows the store after it
abbrev pub TransactionKeepsTree : Type 0
TransactionKeepsTree =
    (entries : List CatEntry) (at : PagesAt) (store : Store) (pages : List Held) (name : List ℕ)
    (v : VersionNo) (entry : CatEntry) (steps : List Step) (after : Overlay)
    → IsDraft entries at store (overlay_of pages)
    → number_named (heads_of store) name ≡ Some v.0 → slice_get entries v.0 ≡ Some entry
    → refusal (heads_of store) (Tx name steps) ≡ None
    → steps_on v entry.root (overlay_of pages) (overlay_of pages) steps ≡ Some after
    → IsDraft entries at (applied store (Tx name steps)).store after

-- what the steps find on the leaves of their paths, from the n-th on; none where a page of a path
-- isn't there
abbrev pub found_on : VersionNo → Addr → Overlay → ℕ → List (Option (List ℕ)) → List Step
    → Option Reply
found_on v root o n found [] = Some (Values found)
found_on v root o n found (step ∷ steps) =
    option_and_then
    (λ path. if is_unmet (path_pairs path) step
    then Some (Unmet n (value_at (path_pairs path) (step_key step)))
    else found_on v root (step_on v o step path) (n + 1)
    (found ++ noted_by (path_pairs path) step) steps)
    (path_to max_path o.pages root (step_key step) [])

-- and that is the store's reply
abbrev pub TransactionTells : Type 0
TransactionTells =
    (entries : List CatEntry) (at : PagesAt) (store : Store) (pages : List Held) (name : List ℕ)
    (v : VersionNo) (entry : CatEntry) (steps : List Step) (reply : Reply)
    → IsDraft entries at store (overlay_of pages)
    → number_named (heads_of store) name ≡ Some v.0 → slice_get entries v.0 ≡ Some entry
    → refusal (heads_of store) (Tx name steps) ≡ None
    → found_on v entry.root (overlay_of pages) 1 [] steps ≡ Some reply
    → reply ≡ (applied store (Tx name steps)).reply

-- slots that the memory has free, each once, on nodes that there may be
abbrev pub AreFreeSlots : List Addr → PagesAt → Type 0
AreFreeSlots [] at = ⊤
AreFreeSlots (s ∷ slots) at =
    (at s ≡ None) × (is_new s ≡ false) × AllByRecursion (λ a. a ≡ s → ⊥) slots
    × AreFreeSlots slots at

-- once the changed pages of a draft are written back and the new ones have free slots, the memory's
-- pages are a tree that shows the store
abbrev pub PlacingKeepsTree : Type 0
PlacingKeepsTree =
    (entries : List CatEntry) (at : PagesAt) (store : Store) (o : Overlay) (slots : List Addr)
    → IsTree entries at → IsDraft entries at store o → length slots ≡ o.fresh
    → AreFreeSlots slots at
    → ShowsTree entries (laid_over (placed_pages slots o) at) store

-- the read set has each changed page
abbrev pub ReadsChanged : Drafted → Type 0
ReadsChanged d = (x : Addr) → is_noted d.overlay.changed x ≡ true → is_noted d.read x ≡ true

-- it still does after a step
abbrev pub StepReadsChanged : Type 0
StepReadsChanged =
    (v : VersionNo) (d : Drafted) (step : Step) (path : List Held) → ReadsChanged d
    → ReadsChanged (drafted_after v d step path)

abbrev pub held_pair : Addr × Page → Held
held_pair h = record { addr = h.0; page = h.1 }

-- and so the pages in the order of a plan are a tree that shows the store too
abbrev pub PlacedKeepsTree : Type 0
PlacedKeepsTree =
    (entries : List CatEntry) (at : PagesAt) (store : Store) (d : Drafted) (slots : List Addr)
    → IsTree entries at → IsDraft entries at store d.overlay → ReadsChanged d
    → length slots ≡ d.overlay.fresh → AreFreeSlots slots at
    → ShowsTree entries (laid_over (map held_pair (placed slots d)) at) store
