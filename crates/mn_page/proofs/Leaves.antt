-- Just one leaf serves a version and covers a key, and it tells the key's value.
use Rattle.std.proofs.Common.{◌≡◌, ℕ, ◌<◌, false, List, [], ◌∷◌, length, Some, refl, sym, ap, ◌∙◌, arith, slice_get}
use Rattle.std.proofs.lemmas.Bool.{and_right}
use Rattle.std.proofs.lemmas.List.{length-map}
use Rattle.std.proofs.lemmas.Option.{slice_get_within}
use Rattle.mn_base.specs.Store.{Store, StoreVersion, heads_of, value_at, unless_refused}
use Rattle.mn_base.specs.declared.ids.Addr.{Addr}
use Rattle.mn_base.specs.declared.reply.Pair.{Pair}
use Rattle.mn_base.specs.declared.op.Step.TheVariants.{Get}
use Rattle.mn_base.specs.declared.op.Op.TheVariants.{Tx}
use Rattle.mn_base.specs.declared.reply.Reply.TheVariants as Say
use Rattle.mn_page.specs.declared.page.Page.{Page}
use Rattle.mn_page.specs.Forest.{Forest, page_at}
use Rattle.mn_page.specs.Holds.{IsForest, ShowsStore, page_covers, pairs_in}
use Rattle.mn_page.specs.Laws.{IsLeafFor, OneLeaf, LeafTells, LeafTellsGet}
use Rattle.mn_base.proofs.Keys.{value_at-filter}
use Rattle.mn_base.proofs.Named.{named, not_refused}

-- the versions of the store are the forest's entries
pub version_in : (f : Forest) (store : Store) (v : ℕ) (version : StoreVersion) → ShowsStore f.entries (page_at f) store → slice_get store v ≡ Some version → v < length f.entries
version_in f store v version shown at =
    let in' = slice_get_within store v version at in
    let same : length store ≡ length f.entries = sym (length-map store (λ (x : StoreVersion). x.head)) ∙ ap length shown.heads ∙ length-map f.entries _ in
    omega arith

pub leaf_tells_value : (f : Forest) (store : Store) (v : ℕ) (version : StoreVersion) (key : List ℕ) (addr : Addr) (page : Page) → ShowsStore f.entries (page_at f) store → slice_get store v ≡ Some version
    → IsLeafFor f.entries (page_at f) v key addr page → value_at version.pairs key ≡ value_at (pairs_in page.body) key
leaf_tells_value f store v version key addr page shown at is =
    sym (value_at-filter (λ k. page_covers k page) version.pairs key is.covers)
    ∙ ap (λ (ps : List Pair). value_at ps key) (shown.leaves v version addr page at is.there is.level is.serves)

-- the path at height 0
pub one_leaf : (f : Forest) (store : Store) (v : ℕ) (version : StoreVersion) (key : List ℕ) → IsForest f → ShowsStore f.entries (page_at f) store → slice_get store v ≡ Some version
    → OneLeaf f.entries (page_at f) v version key
one_leaf f store v version key sound shown at = record {
  one = sound.tree.partition v 0 (version_in f store v version shown at) (omega arith) key;
  tells = λ addr page is. leaf_tells_value f store v version key addr page shown at is;
}

pub leaf_tells : LeafTells
leaf_tells memory store holds v version key at = one_leaf holds.forest store v version key holds.sound holds.shown at

pub leaf_tells_get : LeafTellsGet
leaf_tells_get memory store holds v name key addr page is leaf =
    let at = named store name v is in
    ap (λ r. (unless_refused store (Tx name (Get key ∷ [])) r).reply) (not_refused (heads_of store) name (Get key ∷ []) at.version.head at.head (and_right _ false refl))
    ∙ ap (λ (ps : List Pair). Say.Values (value_at ps key ∷ [])) at.pairs
    ∙ ap (λ o. Say.Values (o ∷ [])) (leaf_tells_value holds.forest store v at.version key addr page holds.shown at.there leaf)
