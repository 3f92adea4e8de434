-- A reply that a read shows is the store's at the read's place, and leaves the store.
use Rattle.std.proofs.Common.{◌≡◌, ℕ, inl, inr, List, [], ◌∷◌, ◌++◌, length, refl, subst, sym, ap, ◌∙◌, arith, Contains}
use Rattle.mn_base.specs.Store.{Head, Store, heads_of, applied}
use Rattle.mn_base.specs.declared.ids.ClientNo.{ClientNo}
use Rattle.mn_base.specs.declared.op.Step.TheVariants.{Get, Put, Del, Check}
use Rattle.mn_base.specs.declared.op.Op.{Op}
use Rattle.mn_base.specs.declared.op.Op.TheVariants.{Tx, Snapshot, Branch, Scan, Versions}
use Rattle.mn_base.specs.declared.reply.Reply.{Reply}
use Rattle.mn_page.specs.Holds.{Holds}
use Rattle.mn_page.specs.Forest.{heads_in}
use Rattle.mn_page.proofs.Leaves.{leaf_tells_get}
use Rattle.mn_runs.specs.declared.entry.Entry.{Entry}
use Rattle.mn_runs.specs.Calls.{client_entries}
use Rattle.mn_runs.specs.Seen.{Seen, seen_at}
use Rattle.mn_law.specs.Shown.{LeafShows, CatalogShows, ReadShows, CatalogReplies}
use Rattle.mn_serial.specs.History.{Placed, ShowsHere, LastShown}
use Rattle.mn_runs.specs.Protocol.{Start}
use Rattle.mn_commits.proofs.Bytes.Step.{flat}
use Rattle.mn_commits.proofs.Bytes.Spaces.{whole_run}
use Rattle.mn_commits.proofs.Bytes.Seen.{StandsIn, here_seen}
use Rattle.mn_plans.proofs.Compares.{still_named}
use Rattle.mn_serial.proofs.Meaning.Continued.{get_leaves, catalog_replies}
use Rattle.mn_runs.proofs.Prefixes.{follows_before}
use Rattle.mn_serial.proofs.Meaning.Kept.{Known, catalog_heads, page_seen, catalog_continued, serves_there}

-- the reply is the store's, which stays as it is
abbrev pub Leaves : Store → Op → Reply → Type 0
Leaves s op reply = (reply ≡ (applied s op).reply) × ((applied s op).store ≡ s)

-- an entry that shows a reply, with its place
pub record ShownAt (past : List Entry) (c : ClientNo) (op : Op) (reply : Reply) (place : ℕ) : Type 0 where
  pub entry : Entry
  pub later : List Entry
  pub before : List Entry
  pub split : past ≡ later ++ entry ∷ before
  pub is_place : place ≡ length before
  pub here : ShowsHere c before entry op reply

pub last_shown_at : (past : List Entry) (c : ClientNo) (op : Op) (reply : Reply) (place : ℕ)
    → LastShown c op reply past place → ShownAt past c op reply place
last_shown_at [] c op reply place none = absurd none
last_shown_at (e ∷ past) c op reply place (inl (here, is)) = record { entry = e; later = []; before = past; split = refl; is_place = is; here = here }
last_shown_at (e ∷ past) c op reply place (inr (not_here, since, older)) =
    let at = last_shown_at past c op reply place older in
    record { entry = at.entry; later = e ∷ at.later; before = at.before; split = ap (λ (l : List Entry). e ∷ l) at.split; is_place = at.is_place; here = at.here }

-- where the read stands, the flat memory has its bytes
pub stands_at : (start : Start) (store : Store) (past : List Entry) (placed : List Placed)
    → Known start store past placed → (later : List Entry) (x : Entry) (before : List Entry)
    → past ≡ later ++ x ∷ before → (seen : Seen) → Contains (seen_at x) seen
    → StandsIn (flat start before) seen
stands_at start store past placed known later x before split seen has =
    let run = follows_before start past later (x ∷ before) split known.follows in
    here_seen start before x.client x.node x.what seen (whole_run start before known.sound run.0) run.1 has

-- a catalog shows it
catalog_shows : (start : Start) (before : List Entry) (seen : Seen) (op : Op) (reply : Reply) (s : Store) → StandsIn (flat start before) seen → CatalogShows seen op reply → Holds (flat start before) s → Leaves s op reply
catalog_shows start before seen op reply s stands (entries, sees, replies) holds =
    catalog_replies s op reply (subst (λ (hs : List Head). CatalogReplies hs op reply) (catalog_heads (flat start before) s seen entries holds stands sees) replies)

-- a leaf shows it, by a catalog that was read before
leaf_shows : (start : Start) (store : Store) (past : List Entry) (placed : List Placed)
    → Known start store past placed → (later before : List Entry) → past ≡ later ++ before
    → (c : ClientNo) (seen : Seen) (op : Op) (reply : Reply) (s : Store)
    → StandsIn (flat start before) seen → LeafShows (client_entries c before) seen op reply
    → Holds (flat start before) s → Leaves s op reply
leaf_shows start store past placed known later before split c seen (Tx name []) reply s stands shows holds = absurd shows
leaf_shows start store past placed known later before split c seen (Tx name (Put key value ∷ steps)) reply s stands shows holds = absurd shows
leaf_shows start store past placed known later before split c seen (Tx name (Del key ∷ steps)) reply s stands shows holds = absurd shows
leaf_shows start store past placed known later before split c seen (Tx name (Check key want ∷ steps)) reply s stands shows holds = absurd shows
leaf_shows start store past placed known later before split c seen (Tx name (Get key ∷ (step ∷ steps))) reply s stands shows holds = absurd shows
leaf_shows start store past placed known later before split c seen (Snapshot name child) reply s stands shows holds = absurd shows
leaf_shows start store past placed known later before split c seen (Branch name child) reply s stands shows holds = absurd shows
leaf_shows start store past placed known later before split c seen (Scan name low high limit) reply s stands shows holds = absurd shows
leaf_shows start store past placed known later before split c seen Versions reply s stands shows holds = absurd shows
leaf_shows start store past placed known later before split c seen (Tx name (Get key ∷ [])) reply s stands (entries, addr, page, catalog, sees, flat_page, (v, named, serves), covers, is) holds =
    let on = catalog_continued start store past placed known later before later before split split (omega arith) c entries catalog s holds in
    let there = page_seen (flat start before) s holds seen addr page stands sees in
    let serves_now = serves_there entries (flat start before) s holds name page v on named serves in
    let tells = leaf_tells_get (flat start before) s holds v name key addr page (still_named (heads_in entries) (heads_of s) name v on named) (record { there = there; level = flat_page; serves = serves_now; covers = covers }) in
    (is ∙ sym tells, get_leaves s name key)

pub read_leaves_store : (start : Start) (store : Store) (past : List Entry) (placed : List Placed)
    → Known start store past placed → (c : ClientNo) (op : Op) (reply : Reply) (place : ℕ)
    → (at : ShownAt past c op reply place)
    → (s : Store) → Holds (flat start at.before) s → Leaves s op reply
read_leaves_store start store past placed known c op reply place at s holds = by at.here.1.2
  where
    older : List Entry
    older = at.later ++ at.entry ∷ []

    split : past ≡ older ++ at.before
    split = at.split ∙ sym (Rattle.std.proofs.lemmas.List.append_assoc at.later (at.entry ∷ []) at.before)

    stands : StandsIn (flat start at.before) at.here.1.0
    stands = stands_at start store past placed known at.later at.entry at.before at.split at.here.1.0 at.here.1.1

    by : ReadShows (client_entries c at.before) at.here.1.0 op reply → Leaves s op reply
    by (inl leaf) = leaf_shows start store past placed known older at.before split c at.here.1.0 op reply s stands leaf holds
    by (inr catalog) = catalog_shows start at.before at.here.1.0 op reply s stands catalog holds
