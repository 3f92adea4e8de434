-- The reply that the leaves of a scan show is the store's where its first catalog was read.
use Rattle.std.proofs.Common.{◌≡◌, ℕ, ◌≤◌, ◌⊎◌, inl, inr, true, false, List, [], ◌∷◌, ◌++◌, length, take, Option, Some, None, refl, subst, sym, ap, ◌∙◌, arith, if◌then◌else◌, slice_get, Contains}
use Rattle.std.specs.Prelude.{IsTrue}
use Rattle.std.specs.List.{AllByRecursion}
use Rattle.std.proofs.lemmas.List.{append_assoc}
use Rattle.std.proofs.lemmas.List.Elements.{Contains-append_cases}
use Rattle.mn_base.specs.Store.{Head, Store, StoreVersion, heads_of, head_named, number_named, pairs_named, pairs_within, refusal, refusal_at, unless_refused, applied, is_ascending}
use Rattle.mn_base.specs.declared.ids.NodeNo.{NodeNo}
use Rattle.mn_base.specs.declared.ids.ClientNo.{ClientNo}
use Rattle.mn_base.specs.declared.ids.Addr.{Addr}
use Rattle.mn_base.specs.declared.reply.Pair.{Pair}
use Rattle.mn_base.specs.declared.reply.Reply.TheVariants as Say
use Rattle.mn_base.specs.declared.op.Op.TheVariants.{Scan}
use Rattle.mn_base.proofs.Frozen.{frozen_stays}
use Rattle.mn_page.specs.declared.page.Page.{Page}
use Rattle.mn_page.specs.declared.entry.CatEntry.{CatEntry}
use Rattle.mn_page.specs.Grammar.{height_of}
use Rattle.mn_page.specs.Forest.{heads_in}
use Rattle.mn_page.specs.Holds.{Holds, page_covers, pairs_in}
use Rattle.mn_page.proofs.Grid.{all_at_place}
use Rattle.mn_base.proofs.Named.{NamedVersion, named}
use Rattle.mn_runs.specs.declared.entry.Entry.{Entry}
use Rattle.mn_runs.specs.declared.entry.What.{What}
use Rattle.mn_law.specs.Planned.{ContinuesCatalog}
use Rattle.mn_runs.specs.Calls.{is_by, client_entries, since_begin}
use Rattle.mn_runs.specs.Seen.{Seen, seen_in, seen_at}
use Rattle.mn_law.specs.Shown.{SeesCatalog, SeesPage, ServesNamed, IsCatalogRead, ShowsPairs, FirstCatalog, ScanShows, IsChain, BeginsAt, ReachesEnd}
use Rattle.mn_serial.specs.History.{Placed, FirstCatalogAt}
use Rattle.mn_runs.specs.Protocol.{Start, FollowsProtocol}
use Rattle.mn_votes.specs.Laws.{StartsSound}
use Rattle.mn_law.proofs.Sees.{seen_in-cons, seen_in-split}
use Rattle.mn_commits.proofs.Bytes.Step.{flat}
use Rattle.mn_commits.proofs.Bytes.Spaces.{whole_run}
use Rattle.mn_commits.proofs.Bytes.Seen.{StandsIn, here_seen}
use Rattle.mn_runs.proofs.Seen.{nothing}
use Rattle.mn_serial.proofs.Meaning.Continued.{continues_after}
use Rattle.mn_serial.proofs.Meaning.Effects.{ReadCall, read_call}
use Rattle.mn_runs.proofs.Prefixes.{follows_before}
use Rattle.mn_serial.proofs.Meaning.Kept.{Known, Later, catalog_heads, page_seen, stores_go_on, some_store, serves_there}
use Rattle.mn_serial.proofs.Meaning.Replies.{Leaves, stands_at}
use Rattle.mn_serial.proofs.Meaning.Ranges.{LeafOf, leaves_have}

-- The oldest catalog read

all_mid : {X : Type 0} (P : X → Type 0) (xs : List X) (x : X) (ys : List X)
    → AllByRecursion P (xs ++ x ∷ ys) → P x
all_mid P [] x ys all = all.0
all_mid P (z ∷ xs) x ys all = all_mid P xs x ys all.1

pub record SameOldest {X : Type 0} (newer later : List X) (x y : X) : Type 0 where
  pub parts : later ≡ newer
  pub here : x ≡ y

pub oldest_one : {X : Type 0} (P : X → Type 0) (newer later : List X) (x y : X) (older earlier : List X) → newer ++ x ∷ older ≡ later ++ y ∷ earlier → P x → P y
    → AllByRecursion (λ z. P z → ⊥) older → AllByRecursion (λ z. P z → ⊥) earlier
    → SameOldest newer later x y
oldest_one P [] [] x y older earlier same px py none none' = record { parts = refl; here = cc }
oldest_one {X} P [] (z ∷ later) x y older earlier same px py none none' = absurd (all_mid (λ z. P z → ⊥) later y earlier (subst (AllByRecursion (λ z. P z → ⊥)) rest none) py)
  where
    rest : older ≡ later ++ y ∷ earlier
    rest = cc
oldest_one {X} P (w ∷ newer) [] x y older earlier same px py none none' = absurd (all_mid (λ z. P z → ⊥) newer x older (subst (AllByRecursion (λ z. P z → ⊥)) (sym rest) none') px)
  where
    rest : newer ++ x ∷ older ≡ earlier
    rest = cc
oldest_one {X} P (w ∷ newer) (z ∷ later) x y older earlier same px py none none' =
    let more = oldest_one P newer later x y older earlier rest px py none none' in
    let parts = more.parts in
    record { parts = cc; here = more.here }
  where
    rest : newer ++ x ∷ older ≡ later ++ y ∷ earlier
    rest = cc

-- an entry that brought a read brought just it
pub brings_one : (by : Option ClientNo) (at : Option NodeNo) (what : What) (seen : Seen)
    → Contains (seen_at (record { node = at; client = by; what = what })) seen
    → seen_at (record { node = at; client = by; what = what }) ≡ seen ∷ []
brings_one by at what seen has =
    let call : ReadCall at what seen = read_call by at what seen has in
    ap (λ (o : Option NodeNo). seen_at (record { node = o; client = by; what = what })) call.here
    ∙ (ap (λ (w : What). seen_at (record { node = Some call.node; client = by; what = w })) call.call ∙ ap (λ (s : Seen). s ∷ []) (sym call.is))

-- the first catalog of the operation's reads is the one at this entry, and the reads behind it are
-- those of the newer entries
record IsFirst (c : ClientNo) (past : List Entry) (place : ℕ) (first : FirstCatalogAt c past place) (seen : Seen) (later : List Seen) : Type 0 where
  here : first.here.1.0 ≡ seen
  newer : later ≡ seen_in (client_entries c first.later)

is_first : (c : ClientNo) (past : List Entry) (place : ℕ) (first : FirstCatalogAt c past place) (seen : Seen) (later : List Seen) → FirstCatalog (seen_in (since_begin (client_entries c past))) seen later → IsFirst c past place first seen later
is_first c past place first seen later cat =
    let same = oldest_one IsCatalogRead (seen_in (client_entries c first.later)) later first.here.1.0 seen (seen_in (since_begin (client_entries c first.before))) cat.earlier parts first.here.1.2 cat.catalog first.first cat.none_before in
    record { here = same.here; newer = same.parts }
  where
    parts : seen_in (client_entries c first.later) ++ first.here.1.0 ∷ seen_in (since_begin (client_entries c first.before)) ≡ later ++ seen ∷ cat.earlier
    parts =
        ap (λ (l : List Seen). seen_in (client_entries c first.later) ++ (l ++ seen_in (since_begin (client_entries c first.before)))) (sym (brings_one first.entry.client first.entry.node first.entry.what first.here.1.0 first.here.1.1))
        ∙ (sym (seen_in-split (client_entries c first.later) first.entry (since_begin (client_entries c first.before)))
        ∙ (ap seen_in (sym first.since) ∙ (cat.split ∙ append_assoc later (seen ∷ []) cat.earlier)))

-- Reads after a place

pub record SeenAfter (start : Start) (later before : List Entry) (seen : Seen) : Type 0 where
  pub entry : Entry
  pub newer : List Entry
  pub older : List Entry
  pub split : later ≡ newer ++ entry ∷ older
  pub here : Contains (seen_at entry) seen
  pub stands : StandsIn (flat start (older ++ before)) seen

pub seen_after : (start : Start) (later before : List Entry) (c : ClientNo) (seen : Seen)
    → StartsSound start → FollowsProtocol start (later ++ before)
    → Contains (seen_in (client_entries c later)) seen → SeenAfter start later before seen
seen_after start [] before c seen sound run has = absurd (nothing seen has)
seen_after start (e ∷ later) before c seen sound run has =
    let rest = seen_after start later before c seen sound run.0 in
    elim (is_by c e) as (λ b. Contains (seen_in (if b then e ∷ client_entries c later else client_entries c later)) seen → SeenAfter start (e ∷ later) before seen) [
      | true ↦ λ h. cases rest (Contains-append_cases (seen_at e) (seen_in (client_entries c later)) seen (subst (λ (l : List Seen). Contains l seen) (seen_in-cons e (client_entries c later)) h))
      | false ↦ λ h. further (rest h)
    ] has
  where
    further : SeenAfter start later before seen → SeenAfter start (e ∷ later) before seen
    further s = record { entry = s.entry; newer = e ∷ s.newer; older = s.older; split = ap (λ (l : List Entry). e ∷ l) s.split; here = s.here; stands = s.stands }

    cases : (Contains (seen_in (client_entries c later)) seen → SeenAfter start later before seen)
        → Contains (seen_at e) seen ⊎ Contains (seen_in (client_entries c later)) seen
        → SeenAfter start (e ∷ later) before seen
    cases rest (inl here) = record {
      entry = e;
      newer = [];
      older = later;
      split = refl;
      here = here;
      stands = here_seen start (later ++ before) e.client e.node e.what seen (whole_run start (later ++ before) sound run.0) run.1 here;
    }
    cases rest (inr there) = further (rest there)

-- The reply

same_number : (a b : ℕ) (o : Option ℕ) → o ≡ Some a → o ≡ Some b → a ≡ b
same_number a b o p q = let e : Some a ≡ Some b = sym p ∙ q in cc

-- each leaf that was read after the catalog has the pairs of its range, as the version has them
-- where the catalog was read
leaf_of : (start : Start) (store : Store) (past : List Entry) (placed : List Placed)
    → Known start store past placed
    → (c : ClientNo) (later : List Entry) (x : Entry) (before : List Entry)
    → past ≡ later ++ x ∷ before
    → (name : List ℕ) (entries : List CatEntry) (s : Store) → Holds (flat start before) s
    → heads_in entries ≡ heads_of s → (v : ℕ) (version : StoreVersion)
    → number_named (heads_in entries) name ≡ Some v → slice_get s v ≡ Some version
    → version.head.frozen ≡ true
    → (seen : Seen) (addr : Addr) (p : Page) → Contains (seen_in (client_entries c later)) seen
    → SeesPage seen addr p → height_of p.body ≡ 0 → ServesNamed entries name p
    → LeafOf version.pairs p
leaf_of start store past placed known c later x before split name entries s holds heads v version number at frozen seen addr p has sees leaf (w, names, serves) =
    let run = follows_before start past [] past refl known.follows in
    let r = seen_after start later (x ∷ before) c seen known.sound (subst (FollowsProtocol start) split known.follows) has in
    let target : List Entry = r.older ++ x ∷ before in
    let newer : List Entry = r.newer ++ r.entry ∷ [] in
    let to_target : past ≡ newer ++ (r.older ++ x ∷ before) = split ∙ (ap (λ (l : List Entry). l ++ x ∷ before) r.split ∙ (append_assoc r.newer (r.entry ∷ r.older) (x ∷ before) ∙ sym (append_assoc r.newer (r.entry ∷ []) (r.older ++ x ∷ before)))) in
    let to_before : past ≡ (later ++ x ∷ []) ++ before = split ∙ sym (append_assoc later (x ∷ []) before) in
    let t = some_store start store past placed known newer (r.older ++ x ∷ before) to_target in
    let on : Later s t.0 = stores_go_on start store past placed known (later ++ x ∷ []) before newer (r.older ++ x ∷ before) to_before to_target (up r.older) s t.0 holds t.1 in
    let kept : slice_get t.0 v ≡ Some version = subst (λ (y : Store). slice_get y v ≡ Some version) on.is (frozen_stays s on.history v version at frozen) in
    let continued : ContinuesCatalog (heads_in entries) (heads_of t.0) = subst (λ (hs : List Head). ContinuesCatalog hs (heads_of t.0)) (sym heads) (subst (λ (y : Store). ContinuesCatalog (heads_of s) (heads_of y)) on.is (continues_after s on.history)) in
    let there = page_seen (flat start (r.older ++ x ∷ before)) t.0 t.1 seen addr p r.stands sees in
    let number_is : w ≡ v = same_number w v (number_named (heads_in entries) name) names number in
    let serves_now = subst (λ k. Rattle.mn_page.specs.Holds.page_serves t.1.forest.entries k p ≡ true) number_is (serves_there entries (flat start (r.older ++ x ∷ before)) t.0 t.1 name p w continued names serves) in
    record { pairs = sym (t.1.shown.leaves v version addr p kept there leaf serves_now); fences = sees.1.0.fences }
  where
    up : (older : List Entry) → length before ≤ length (older ++ x ∷ before)
    up older = let parts = Rattle.std.proofs.lemmas.List.length-append older (x ∷ before) in omega arith

scan_is : (s : Store) (name : List ℕ) (low high : Option (List ℕ)) (limit : ℕ) (head : Head)
    → head_named (heads_of s) name ≡ Some head → head.frozen ≡ true
    → applied s (Scan name low high limit) ≡ record { store = s; reply = Say.Pairs (take limit (pairs_within (pairs_named s name) low high)) }
scan_is s name low high limit head is frozen =
    ap (unless_refused s (Scan name low high limit)) (ap (λ o. refusal_at (heads_of s) (Scan name low high limit) o) is ∙ ap (λ b. if b then None else Some Say.NotFrozen) frozen)

pub scan_leaves : (start : Start) (store : Store) (past : List Entry) (placed : List Placed)
    → Known start store past placed
    → (c : ClientNo) (place : ℕ) (first : FirstCatalogAt c past place)
    → (name : List ℕ) (low high : Option (List ℕ)) (limit : ℕ) (pairs : List Pair)
    → ScanShows (seen_in (since_begin (client_entries c past))) (Scan name low high limit) (Say.Pairs pairs)
    → (s : Store) → Holds (flat start first.before) s
    → Leaves s (Scan name low high limit) (Say.Pairs pairs)
scan_leaves start store past placed known c place first name low high limit pairs (seen, later, entries, head, cat, sees, head_is, frozen, shown) s holds = answer shown.leaves shown.seen shown.chain shown.first shown.enough shown.pairs_are
  where
    is : IsFirst c past place first seen later
    is = is_first c past place first seen later cat

    heads : heads_in entries ≡ heads_of s
    heads =
        catalog_heads (flat start first.before) s seen entries holds
        (subst (StandsIn (flat start first.before)) is.here (stands_at start store past placed known first.later first.entry first.before first.split first.here.1.0 first.here.1.1)) sees

    head_there : head_named (heads_of s) name ≡ Some head
    head_there = subst (λ (hs : List Head). head_named hs name ≡ Some head) heads head_is

    same_head : (a b : Head) (o : Option Head) → o ≡ Some a → o ≡ Some b → a ≡ b
    same_head a b o p q = let e : Some a ≡ Some b = sym p ∙ q in cc

    all_leaves : (v : ℕ) → number_named (heads_in entries) name ≡ Some v
        → (n : NamedVersion s name v) → (leaves : List Page)
        → AllByRecursion (λ p. (sn : Seen) × (addr : Addr) × Contains later sn × SeesPage sn addr p × (height_of p.body ≡ 0) × ServesNamed entries name p) leaves → AllByRecursion (LeafOf n.version.pairs) leaves
    all_leaves v number n [] all = tt
    all_leaves v number n (p ∷ leaves) ((sn, addr, has, page, leaf, serves), all) = (
      leaf_of start store past placed known c first.later first.entry first.before first.split name entries s holds heads v n.version number n.there
          (ap (λ (h : Head). h.frozen) (same_head n.version.head head (head_named (heads_of s) name) n.head head_there) ∙ frozen) sn addr p (subst (λ (l : List Seen). Contains l sn) is.newer has) page leaf serves,
      all_leaves v number n leaves all,
    )

    answer : (leaves : List Page)
        → AllByRecursion (λ p. (sn : Seen) × (addr : Addr) × Contains later sn × SeesPage sn addr p × (height_of p.body ≡ 0) × ServesNamed entries name p) leaves
        → IsChain leaves → BeginsAt low leaves
        → (limit ≤ length (pairs_within (Rattle.mn_law.specs.Shown.leaf_pairs leaves) low high))
        ⊎ ReachesEnd high leaves
        → pairs ≡ take limit (pairs_within (Rattle.mn_law.specs.Shown.leaf_pairs leaves) low high)
        → Leaves s (Scan name low high limit) (Say.Pairs pairs)
    answer [] all chain begins enough pairs_are = absurd chain
    answer (p ∷ leaves) all chain begins enough pairs_are =
        let serves : ServesNamed entries name p = all.0.5 in
        let v = serves.0 in
        let n = named s name v (subst (λ (hs : List Head). number_named hs name ≡ Some v) heads serves.1) in
        let leaf = all_leaves v serves.1 n (p ∷ leaves) all in
        let asc : is_ascending n.version.pairs ≡ true = all_at_place (λ (x : StoreVersion). IsTrue (is_ascending x.pairs)) s v n.version holds.shown.ascending n.there in
        let same = leaves_have n.version.pairs asc low high limit (p ∷ leaves) leaf chain begins enough in
        let applies = scan_is s name low high limit head head_there frozen in (
          ap Say.Pairs (pairs_are ∙ (same ∙ ap (λ (ps : List Pair). take limit (pairs_within ps low high)) (sym n.pairs))) ∙ sym (ap (λ (r : Rattle.mn_base.specs.Store.Applied). r.reply) applies),
          ap (λ (r : Rattle.mn_base.specs.Store.Applied). r.store) applies,
        )
