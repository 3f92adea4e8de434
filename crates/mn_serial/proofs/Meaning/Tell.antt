-- Whether an entry of a run shows a reply can be told: the memory there holds a store.
use Rattle.std.proofs.Common.{◌≡◌, ℕ, zero, suc, ◌+◌, ◌*◌, ◌≤◌, ◌⊎◌, inl, inr, true, false, List, [], ◌∷◌, ◌++◌, length, Option, Some, None, refl, subst, sym, ap, ◌∙◌, arith, if◌then◌else◌, Contains}
use Rattle.std.proofs.lemmas.List.{append_assoc, length-map}
use Rattle.std.proofs.lemmas.List.Elements.{Contains-append_left, Contains-append_right, Contains-append_cases}
use Rattle.mn_base.specs.Store.{Head, Store, number_named, value_at, refusal, listing_of}
use Rattle.mn_base.specs.declared.ids.ClientNo.{ClientNo}
use Rattle.mn_base.specs.declared.ids.Addr.{Addr}
use Rattle.mn_base.specs.declared.op.Step.TheVariants.{Get, Put, Del, Check}
use Rattle.mn_base.specs.declared.op.Op.{Op}
use Rattle.mn_base.specs.declared.op.Op.TheVariants.{Tx, Snapshot, Branch, Scan, Versions}
use Rattle.mn_base.specs.declared.reply.Reply.{Reply}
use Rattle.mn_base.specs.declared.reply.Reply.TheVariants as Say
use Rattle.mn_mini.specs.Flat.{bytes_in, space_in}
use Rattle.mn_page.specs.declared.page.Page.{Page}
use Rattle.mn_page.specs.declared.entry.CatEntry.{CatEntry}
use Rattle.mn_page.specs.Grammar.{height_of}
use Rattle.mn_page.specs.Forest.{page_at, heads_in}
use Rattle.mn_page.specs.Holds.{Holds, page_covers, page_serves, pairs_in}
use Rattle.mn_page.proofs.Counted.{counted, IsCounted}
use Rattle.mn_runs.specs.declared.entry.Entry.{Entry}
use Rattle.mn_runs.specs.Calls.{is_by, client_entries}
use Rattle.mn_runs.specs.Seen.{Place, Seen, seen_in, seen_at}
use Rattle.mn_law.specs.Places.{page_place, catalog_place}
use Rattle.mn_law.specs.Shown.{SeesCatalog, SeesPage, ShowsCatalog, ServesNamed, LeafShows, CatalogReplies, CatalogShows, ReadShows}
use Rattle.mn_serial.specs.History.{Placed, ShowsHere}
use Rattle.mn_runs.specs.Protocol.{Start, FollowsProtocol}
use Rattle.mn_law.proofs.Sees.{seen_in-cons}
use Rattle.mn_commits.proofs.Bytes.Step.{flat}
use Rattle.mn_commits.proofs.Bytes.Spaces.{whole_run}
use Rattle.mn_commits.proofs.Bytes.Seen.{StandsIn, here_seen}
use Rattle.mn_runs.proofs.Seen.{nothing}
use Rattle.mn_plans.proofs.Spaces.{memory_by_pages, page_read, page_node, node_0}
use Rattle.mn_plans.proofs.Laying.{laid_is}
use Rattle.mn_plans.proofs.SplitRoot.{page_places_apart}
use Rattle.mn_plans.proofs.Catalogs.{catalog_stands, catalog_tells}
use Rattle.mn_serial.proofs.Meaning.Kept.{Known, at_place, page_seen, some_store}
use Rattle.mn_serial.proofs.Meaning.Replies.{stands_at}
use Rattle.mn_serial.proofs.Meaning.Scanned.{brings_one}
use Rattle.mn_serial.proofs.Meaning.Decide.{Decided, dec_nat, dec_bool, dec_option, dec_reply, dec_place, dec_slot}

-- Catalogs

-- where the catalog was read, it is the forest's
pub sees_entries : (memory : List (List ℕ)) (store : Store) (holds : Holds memory store) (seen : Seen) → StandsIn memory seen → seen.place ≡ catalog_place → SeesCatalog seen holds.forest.entries
sees_entries memory store holds seen stands is = (is, few, sound.entries, bytes)
  where
    sound : IsCounted holds.forest
    sound = counted holds.forest holds.sound

    few : length holds.forest.entries ≤ 64
    few = subst (λ k. k ≤ 64) (length-map holds.forest.entries _) sound.tree.count

    spelled : memory ≡ memory_by_pages holds.forest
    spelled = holds.spelled ∙ laid_is holds.forest

    bytes : seen.bytes ≡ Rattle.mn_page.specs.Grammar.padded 4096 (Rattle.std.specs.List.flat_map Rattle.mn_page.specs.Grammar.entry_bytes holds.forest.entries)
    bytes = at_place memory seen catalog_place is stands ∙ (ap (λ (m : List (List ℕ)). bytes_in (space_in m node_0) 64 4096) spelled ∙ catalog_stands holds.forest sound node_0 sound.nodes.0)

-- a catalog that was seen there is the forest's
pub sees_those : (memory : List (List ℕ)) (store : Store) (holds : Holds memory store) (seen : Seen) (entries : List CatEntry) → StandsIn memory seen → SeesCatalog seen entries → entries ≡ holds.forest.entries
sees_those memory store holds seen entries stands sees = catalog_tells memory store holds entries sees.2 (sym (at_place memory seen catalog_place sees.0 stands) ∙ sees.3)

dec_replies : (heads : List Head) (op : Op) (reply : Reply)
    → Decided (CatalogReplies heads op reply)
dec_replies heads Versions reply = dec_reply reply (Say.Listing (listing_of heads))
dec_replies heads (Tx name steps) reply = dec_option dec_reply (refusal heads (Tx name steps)) (Some reply)
dec_replies heads (Snapshot name child) reply = dec_option dec_reply (refusal heads (Snapshot name child)) (Some reply)
dec_replies heads (Branch name child) reply = dec_option dec_reply (refusal heads (Branch name child)) (Some reply)
dec_replies heads (Scan name low high limit) reply = dec_option dec_reply (refusal heads (Scan name low high limit)) (Some reply)

dec_catalog : (memory : List (List ℕ)) (store : Store) → Holds memory store
    → (seen : Seen) (op : Op) (reply : Reply) → StandsIn memory seen
    → Decided (CatalogShows seen op reply)
dec_catalog memory store holds seen op reply stands = by (dec_place seen.place catalog_place)
  where
    replies : seen.place ≡ catalog_place
        → Decided (CatalogReplies (heads_in holds.forest.entries) op reply)
        → Decided (CatalogShows seen op reply)
    replies is (inl r) = inl (holds.forest.entries, sees_entries memory store holds seen stands is, r)
    replies is (inr none) = inr (λ shown. none (subst (λ (es : List CatEntry). CatalogReplies (heads_in es) op reply) (sees_those memory store holds seen shown.0 stands shown.1) shown.2))

    by : Decided (seen.place ≡ catalog_place) → Decided (CatalogShows seen op reply)
    by (inl is) = replies is (dec_replies (heads_in holds.forest.entries) op reply)
    by (inr other) = inr (λ shown. other shown.1.0)

-- Which catalogs a list shows

-- some catalog of the list serves the version of this name by the page
abbrev ServesBy : List Entry → List ℕ → Page → Type 0
ServesBy es name page = (entries : List CatEntry) × ShowsCatalog es entries × ServesNamed entries name page

dec_serves_by : (entries : List CatEntry) (name : List ℕ) (page : Page)
    → Decided (ServesNamed entries name page)
dec_serves_by entries name page = by (number_named (heads_in entries) name) refl
  where
    none_some : (v : ℕ) → ◌≡◌ {A = Option ℕ} None (Some v) → ⊥
    none_some v e = cc

    same : (v w : ℕ) → Some v ≡ Some w → v ≡ w
    same v w e = cc

    tell : (v : ℕ) → number_named (heads_in entries) name ≡ Some v
        → Decided (page_serves entries v page ≡ true) → Decided (ServesNamed entries name page)
    tell v e (inl serves) = inl (v, e, serves)
    tell v e (inr none) = inr (λ s. none (subst (λ (k : ℕ). page_serves entries k page ≡ true) (same s.0 v (sym s.1 ∙ e)) s.2))

    by : (o : Option ℕ) → number_named (heads_in entries) name ≡ o
        → Decided (ServesNamed entries name page)
    by None e = inr (λ s. none_some s.0 (sym e ∙ s.1))
    by (Some v) e = tell v e (dec_bool (page_serves entries v page) true)

-- what an entry brought: nothing, or one read
pub one_read : (e : Entry) → (seen_at e ≡ []) ⊎ ((seen : Seen) × (seen_at e ≡ seen ∷ []))
one_read e = by (seen_at e) refl
  where
    by : (l : List Seen) → seen_at e ≡ l
        → (seen_at e ≡ []) ⊎ ((seen : Seen) × (seen_at e ≡ seen ∷ []))
    by [] is = inl is
    by (s ∷ rest) is = inr (s, brings_one e.client e.node e.what s (subst (λ (l : List Seen). Contains l s) (sym is) (0, omega arith, refl)))

pub only : (s x : Seen) → Contains (s ∷ []) x → s ≡ x
only s x (zero, in', is) = is
only s x (suc k, in', is) = absurd (omega arith)

dec_shown : (start : Start) (store : Store) (past : List Entry) (placed : List Placed)
    → Known start store past placed
    → (c : ClientNo) (name : List ℕ) (page : Page) (later before : List Entry)
    → past ≡ later ++ before → Decided (ServesBy (client_entries c before) name page)
dec_shown start store past placed known c name page later [] split = inr (λ s. nothing s.1.0 s.1.1)
dec_shown start store past placed known c name page later (x ∷ before) split =
    let rest = dec_shown start store past placed known c name page (later ++ x ∷ []) before (split ∙ sym (append_assoc later (x ∷ []) before)) in
    elim (is_by c x) as (λ b. Decided (ServesBy (if b then x ∷ client_entries c before else client_entries c before) name page)) [
      | true ↦ own rest (one_read x)
      | false ↦ rest
    ]
  where
    s : (s : Store) × Holds (flat start before) s
    s = some_store start store past placed known (later ++ x ∷ []) before (split ∙ sym (append_assoc later (x ∷ []) before))

    -- an older catalog
    older : ServesBy (client_entries c before) name page
        → ServesBy (x ∷ client_entries c before) name page
    older (entries, (seen, has, sees), serves) =
        (entries, (seen, subst (λ (l : List Seen). Contains l seen) (sym (seen_in-cons x (client_entries c before))) (Contains-append_right (seen_at x) (seen_in (client_entries c before)) seen has), sees), serves)

    parts : (seen : Seen) → Contains (seen_in (x ∷ client_entries c before)) seen
        → Contains (seen_at x) seen ⊎ Contains (seen_in (client_entries c before)) seen
    parts seen has = Contains-append_cases (seen_at x) (seen_in (client_entries c before)) seen (subst (λ (l : List Seen). Contains l seen) (seen_in-cons x (client_entries c before)) has)

    here : (seen : Seen) → seen_at x ≡ seen ∷ [] → (entries : List CatEntry)
        → SeesCatalog seen entries → ServesNamed entries name page
        → ServesBy (x ∷ client_entries c before) name page
    here seen is entries sees serves =
        (entries, (seen, subst (λ (l : List Seen). Contains l seen) (sym (seen_in-cons x (client_entries c before))) (Contains-append_left (seen_at x) (seen_in (client_entries c before)) seen (subst (λ (l : List Seen). Contains l seen) (sym is) (0, omega arith, refl))), sees), serves)

    stands : (seen : Seen) → seen_at x ≡ seen ∷ [] → StandsIn (flat start before) seen
    stands seen is = stands_at start store past placed known later x before split seen (subst (λ (l : List Seen). Contains l seen) (sym is) (0, omega arith, refl))

    tell : (seen : Seen) → seen_at x ≡ seen ∷ []
        → (ServesBy (client_entries c before) name page → ⊥) → Decided (seen.place ≡ catalog_place)
        → Decided (ServesNamed s.1.forest.entries name page)
        → Decided (ServesBy (x ∷ client_entries c before) name page)
    tell seen is none (inl place) (inl serves) = inl (here seen is s.1.forest.entries (sees_entries (flat start before) s.0 s.1 seen (stands seen is) place) serves)
    tell seen is none (inl place) (inr not_served) = inr (λ shown. by shown (parts shown.1.0 shown.1.1))
      where
        by : (shown : ServesBy (x ∷ client_entries c before) name page)
            → Contains (seen_at x) shown.1.0
            ⊎ Contains (seen_in (client_entries c before)) shown.1.0 → ⊥
        by (entries, (seen', has, sees), serves) (inr there) = none (entries, (seen', there, sees), serves)
        by (entries, (seen', has, sees), serves) (inl at) =
            let same : seen ≡ seen' = only seen seen' (subst (λ (l : List Seen). Contains l seen') is at) in
            not_served (subst (λ (es : List CatEntry). ServesNamed es name page) (sees_those (flat start before) s.0 s.1 seen entries (stands seen is) (subst (λ (z : Seen). SeesCatalog z entries) (sym same) sees)) serves)
    tell seen is none (inr other) d = inr (λ shown. by shown (parts shown.1.0 shown.1.1))
      where
        by : (shown : ServesBy (x ∷ client_entries c before) name page)
            → Contains (seen_at x) shown.1.0
            ⊎ Contains (seen_in (client_entries c before)) shown.1.0 → ⊥
        by (entries, (seen', has, sees), serves) (inr there) = none (entries, (seen', there, sees), serves)
        by (entries, (seen', has, sees), serves) (inl at) = other (ap (λ (z : Seen). z.place) (only seen seen' (subst (λ (l : List Seen). Contains l seen') is at)) ∙ sees.0)

    own : Decided (ServesBy (client_entries c before) name page)
        → (seen_at x ≡ []) ⊎ ((seen : Seen) × (seen_at x ≡ seen ∷ []))
        → Decided (ServesBy (x ∷ client_entries c before) name page)
    own (inl shown) one = inl (older shown)
    own (inr none) (inl empty) = inr (λ shown. by shown (parts shown.1.0 shown.1.1))
      where
        by : (shown : ServesBy (x ∷ client_entries c before) name page)
            → Contains (seen_at x) shown.1.0
            ⊎ Contains (seen_in (client_entries c before)) shown.1.0 → ⊥
        by (entries, (seen', has, sees), serves) (inr there) = none (entries, (seen', there, sees), serves)
        by (entries, (seen', has, sees), serves) (inl at) = nothing seen' (subst (λ (l : List Seen). Contains l seen') empty at)
    own (inr none) (inr (seen, is)) = tell seen is none (dec_place seen.place catalog_place) (dec_serves_by s.1.forest.entries name page)

-- Leaves

-- where a page's place was read, the page of the forest, or that there is none
data PageHere (memory : List (List ℕ)) (store : Store) (holds : Holds memory store) (seen : Seen) : Type 0 where
  a_page : (addr : Addr) (p : Page) → SeesPage seen addr p → page_at holds.forest addr ≡ Some p
      → PageHere memory store holds seen
  no_page : ((addr : Addr) (p : Page) → SeesPage seen addr p → ⊥) → PageHere memory store holds seen

page_here : (memory : List (List ℕ)) (store : Store) (holds : Holds memory store) (seen : Seen)
    → StandsIn memory seen → PageHere memory store holds seen
page_here memory store holds seen stands = by (dec_slot seen.place.start)
  where
    sound : IsCounted holds.forest
    sound = counted holds.forest holds.sound

    spelled : memory ≡ memory_by_pages holds.forest
    spelled = holds.spelled ∙ laid_is holds.forest

    none_some : (p : Page) → ◌≡◌ {A = Option Page} None (Some p) → ⊥
    none_some p e = cc

    there : (addr : Addr) → seen.place ≡ page_place addr → (o : Option Page)
        → page_at holds.forest addr ≡ o → PageHere memory store holds seen
    there addr is None at = no_page (λ addr' p sees. none_some p (sym at ∙ subst (λ (a : Addr). page_at holds.forest a ≡ Some p) (page_places_apart addr' addr (sym sees.0 ∙ is)) (page_seen memory store holds seen addr' p stands sees)))
    there addr is (Some p) at =
        a_page addr p
        (is, (holds.sound.laid.pages addr p at, at_place memory seen (page_place addr) is stands ∙ (ap (λ (m : List (List ℕ)). bytes_in (space_in m addr.node) (20480 + 1024 * addr.slot) 1024) spelled ∙ page_read holds.forest sound addr p (page_node holds.forest addr p at) at))) at

    place : (k : ℕ) → 20480 + 1024 * k ≡ seen.place.start
        → Decided (seen.place ≡ page_place (record { node = seen.place.node; slot = k }))
        → PageHere memory store holds seen
    place k e (inl is) = there (record { node = seen.place.node; slot = k }) is (page_at holds.forest (record { node = seen.place.node; slot = k })) refl
    place k e (inr other) = no_page (λ addr p sees. other (sees.0 ∙ same addr sees.0))
      where
        slots : (a b : ℕ) → 20480 + 1024 * a ≡ 20480 + 1024 * b → a ≡ b
        slots a b h = omega arith

        same : (addr : Addr) → seen.place ≡ page_place addr
            → page_place addr ≡ page_place (record { node = seen.place.node; slot = k })
        same addr is = λ i. page_place (record { node = ap (λ (p : Place). p.node) (sym is) i; slot = slots addr.slot k (ap (λ (p : Place). p.start) (sym is) ∙ sym e) i })

    by : Decided ((k : ℕ) × (20480 + 1024 * k ≡ seen.place.start))
        → PageHere memory store holds seen
    by (inl (k, e)) = place k e (dec_place seen.place (page_place (record { node = seen.place.node; slot = k })))
    by (inr none) = no_page (λ addr p sees. none (addr.slot, ap (λ (q : Place). q.start) (sym sees.0)))

dec_leaf : (start : Start) (store : Store) (past : List Entry) (placed : List Placed)
    → Known start store past placed → (c : ClientNo) (seen : Seen) (op : Op) (reply : Reply)
    → StandsIn (flat start past) seen → Decided (LeafShows (client_entries c past) seen op reply)
dec_leaf start store past placed known c seen (Tx name []) reply stands = inr (λ shown. shown)
dec_leaf start store past placed known c seen (Tx name (Put key value ∷ steps)) reply stands = inr (λ shown. shown)
dec_leaf start store past placed known c seen (Tx name (Del key ∷ steps)) reply stands = inr (λ shown. shown)
dec_leaf start store past placed known c seen (Tx name (Check key want ∷ steps)) reply stands = inr (λ shown. shown)
dec_leaf start store past placed known c seen (Tx name (Get key ∷ (step ∷ steps))) reply stands = inr (λ shown. shown)
dec_leaf start store past placed known c seen (Snapshot name child) reply stands = inr (λ shown. shown)
dec_leaf start store past placed known c seen (Branch name child) reply stands = inr (λ shown. shown)
dec_leaf start store past placed known c seen (Scan name low high limit) reply stands = inr (λ shown. shown)
dec_leaf start store past placed known c seen Versions reply stands = inr (λ shown. shown)
dec_leaf start store past placed known c seen (Tx name (Get key ∷ [])) reply stands = by (page_here (flat start past) s.0 s.1 seen stands)
  where
    s : (s : Store) × Holds (flat start past) s
    s = some_store start store past placed known [] past refl

    page_is : (addr : Addr) (p : Page) → SeesPage seen addr p → page_at s.1.forest addr ≡ Some p
        → (shown : LeafShows (client_entries c past) seen (Tx name (Get key ∷ [])) reply)
        → p ≡ shown.2
    page_is addr p sees at shown =
        let there = page_seen (flat start past) s.0 s.1 seen shown.1 shown.2 stands shown.4 in
        same_page p shown.2 (sym at ∙ (ap (page_at s.1.forest) (page_places_apart addr shown.1 (sym sees.0 ∙ shown.4.0)) ∙ there))
      where
        same_page : (p q : Page) → Some p ≡ Some q → p ≡ q
        same_page p q e = cc

    tell : (addr : Addr) (p : Page) → SeesPage seen addr p → page_at s.1.forest addr ≡ Some p
        → Decided (height_of p.body ≡ 0) → Decided (page_covers key p ≡ true)
        → Decided (reply ≡ Say.Values (value_at (pairs_in p.body) key ∷ []))
        → Decided (ServesBy (client_entries c past) name p)
        → Decided (LeafShows (client_entries c past) seen (Tx name (Get key ∷ [])) reply)
    tell addr p sees at (inl leaf) (inl covers) (inl is) (inl (entries, catalog, serves)) = inl (entries, addr, p, catalog, sees, leaf, serves, covers, is)
    tell addr p sees at (inr none) covers is serves = inr (λ shown. none (ap (λ (q : Page). height_of q.body) (page_is addr p sees at shown) ∙ shown.5))
    tell addr p sees at (inl leaf) (inr none) is serves = inr (λ shown. none (ap (page_covers key) (page_is addr p sees at shown) ∙ shown.7))
    tell addr p sees at (inl leaf) (inl covers) (inr none) serves = inr (λ shown. none (shown.8 ∙ ap (λ (q : Page). Say.Values (value_at (pairs_in q.body) key ∷ [])) (sym (page_is addr p sees at shown))))
    tell addr p sees at (inl leaf) (inl covers) (inl is) (inr none) = inr (λ shown. none (shown.0, shown.3, subst (λ (q : Page). ServesNamed shown.0 name q) (sym (page_is addr p sees at shown)) shown.6))

    by : PageHere (flat start past) s.0 s.1 seen
        → Decided (LeafShows (client_entries c past) seen (Tx name (Get key ∷ [])) reply)
    by (no_page none) = inr (λ shown. none shown.1 shown.2 shown.4)
    by (a_page addr p sees at) = tell addr p sees at (dec_nat (height_of p.body) 0) (dec_bool (page_covers key p) true) (dec_reply reply (Say.Values (value_at (pairs_in p.body) key ∷ []))) (dec_shown start store past placed known c name p [] past refl)

-- Entries

pub dec_shows : (start : Start) (store : Store) (past : List Entry) (placed : List Placed)
    → Known start store past placed → (e : Entry) → FollowsProtocol start (e ∷ past)
    → (c : ClientNo) (op : Op) (reply : Reply) → Decided (ShowsHere c past e op reply)
dec_shows start store past placed known e run c op reply = own (dec_bool (is_by c e) true) (one_read e)
  where
    stands : (seen : Seen) → seen_at e ≡ seen ∷ [] → StandsIn (flat start past) seen
    stands seen is = here_seen start past e.client e.node e.what seen (whole_run start past known.sound known.follows) run.1 (subst (λ (l : List Seen). Contains l seen) (sym is) (0, omega arith, refl))

    s : (s : Store) × Holds (flat start past) s
    s = some_store start store past placed known [] past refl

    shows : is_by c e ≡ true → (seen : Seen) → seen_at e ≡ seen ∷ []
        → Decided (LeafShows (client_entries c past) seen op reply)
        → Decided (CatalogShows seen op reply) → Decided (ShowsHere c past e op reply)
    shows by seen is (inl leaf) d = inl (by, (seen, subst (λ (l : List Seen). Contains l seen) (sym is) (0, omega arith, refl), inl leaf))
    shows by seen is (inr none) (inl catalog) = inl (by, (seen, subst (λ (l : List Seen). Contains l seen) (sym is) (0, omega arith, refl), inr catalog))
    shows by seen is (inr none) (inr none2) = inr (λ shown. refuse shown.1.0 shown.1.2 (only seen shown.1.0 (subst (λ (l : List Seen). Contains l shown.1.0) is shown.1.1)))
      where
        refuse : (x : Seen) → ReadShows (client_entries c past) x op reply → seen ≡ x → ⊥
        refuse x (inl leaf) same = none (subst (λ (z : Seen). LeafShows (client_entries c past) z op reply) (sym same) leaf)
        refuse x (inr catalog) same = none2 (subst (λ (z : Seen). CatalogShows z op reply) (sym same) catalog)

    own : Decided (is_by c e ≡ true) → (seen_at e ≡ []) ⊎ ((seen : Seen) × (seen_at e ≡ seen ∷ []))
        → Decided (ShowsHere c past e op reply)
    own (inr other) one = inr (λ shown. other shown.0)
    own (inl by) (inl empty) = inr (λ shown. nothing shown.1.0 (subst (λ (l : List Seen). Contains l shown.1.0) empty shown.1.1))
    own (inl by) (inr (seen, is)) =
        shows by seen is (dec_leaf start store past placed known c seen op reply (stands seen is)) (dec_catalog (flat start past) s.0 s.1 seen op reply (stands seen is))
