-- Entries that may bring reads, and the reads among them.
use Rattle.std.proofs.Common.{◌≡◌, ℕ, ◌+◌, ◌<◌, ◌≤◌, ◌⊎◌, inl, inr, Bool, true, false, ◌&&◌, List, [], ◌∷◌, ◌++◌, map, take, drop, reverse, slice_index_or, length, Option, Some, None, refl, subst, sym, ap, ◌∙◌, arith, nat_eq, if◌then◌else◌, Contains}
use Rattle.std.specs.Prelude.{flat_map}
use Rattle.std.specs.List.{AllByRecursion}
use Rattle.std.proofs.lemmas.Grind.{flat_map-append}
use Rattle.std.proofs.lemmas.List.{append-nil, reverse-append}
use Rattle.mn_base.specs.declared.ids.NodeNo.{NodeNo}
use Rattle.mn_base.specs.declared.op.Op.{Op}
use Rattle.mn_base.specs.declared.reply.Reply.{Reply}
use Rattle.mn_base.proofs.Lists.{all_append}
use Rattle.mn_mini.specs.declared.reply.NodeReply.TheVariants as Say
use Rattle.mn_runs.specs.declared.entry.Entry.{Entry}
use Rattle.mn_runs.specs.declared.entry.What.{What}
use Rattle.mn_runs.specs.declared.entry.What.TheVariants.{Begin, Issue, Called, Stopped, Restarted, Abandoned, Answered}
use Rattle.mn_runs.specs.Calls.{Begun, Call, call_in}
use Rattle.mn_runs.specs.Seen.{Seen, seen_at, seen_by}
use Rattle.mn_runs.proofs.Seen.{nothing, seen_by_is}
use Rattle.mn_serial.proofs.Meaning.Tell.{one_read}
use Rattle.mn_hist.specs.History.{CallerState, IsOnlyNote, Note, Noting, TellsCatalogRead, TellsNoteShows, noted_in, notes_in, with_catalog, with_seen}
use Rattle.mn_hist.specs.Shown.{IsShownBy, IsUnshownBy, TellsShown, is_of_catalog}
use Rattle.mn_hist.proofs.Loops.{reverse_at}

-- The reads of a list of entries

-- a list of entries seen from one that has a read
pub notes_at : (ns : List Noting) (i : ℕ) (n : Noting) (seen : Seen) → i < length ns → n ≡ slice_index_or ns i n → n.seens ≡ seen ∷ []
    → notes_in (reverse ns) ≡ notes_in (reverse (drop (i + 1) ns)) ++ record { place = n.place; seen = seen; catalog = n.catalog } ∷ notes_in (reverse (take i ns))
notes_at ns i n seen lt is one =
    ap notes_in (reverse_at ns i n lt is)
    ∙ (flat_map-append noted_in (reverse (drop (i + 1) ns)) (n ∷ reverse (take i ns))
    ∙ ap (λ (l : List Seen). notes_in (reverse (drop (i + 1) ns)) ++ (map (λ (s : Seen). let note : Note = record { place = n.place; seen = s; catalog = n.catalog } in note) l ++ notes_in (reverse (take i ns)))) one)

-- what holds of what the entries brought holds of the reads
pub all_noted : (P : Option (List ℕ) → Seen → Type 0) (ns : List Noting) → AllByRecursion (λ (n : Noting). AllByRecursion (P n.catalog) n.seens) ns → AllByRecursion (λ (n : Note). P n.catalog n.seen) (notes_in ns)
all_noted P [] all = tt
all_noted P (n ∷ ns) all = all_append (λ (m : Note). P m.catalog m.seen) (noted_in n) (notes_in ns) (each n.seens all.0) (all_noted P ns all.1)
  where
    each : (seens : List Seen) → AllByRecursion (P n.catalog) seens → AllByRecursion (λ (m : Note). P m.catalog m.seen) (map (λ (s : Seen). let note : Note = record { place = n.place; seen = s; catalog = n.catalog } in note) seens)
    each [] all = tt
    each (s ∷ seens) all = (all.0, each seens all.1)

pub lone : (ns : List Noting) (n : Noting) → 1 ≤ length ns → length ns < 2 → n ≡ slice_index_or ns 0 n → ns ≡ n ∷ []
lone [] n some few is = absurd (omega (arith, some))
lone (a ∷ []) n some few is = ap (λ (x : Noting). x ∷ []) (sym is)
lone (a ∷ (b ∷ ns)) n some few is = absurd (omega (arith, few))

-- the only entry has at most one read
pub one_noting : (n : Noting) (e : Entry) → n.seens ≡ seen_at e → IsOnlyNote (notes_in (n ∷ [])) n.place
one_noting n e is = by (one_read e)
  where
    by : (seen_at e ≡ []) ⊎ ((seen : Seen) × (seen_at e ≡ seen ∷ [])) → IsOnlyNote (notes_in (n ∷ [])) n.place
    by (inl none) = inl (ap (λ (l : List Seen). map (λ (s : Seen). let note : Note = record { place = n.place; seen = s; catalog = n.catalog } in note) l ++ []) (is ∙ none))
    by (inr (x, one)) = inr (record { place = n.place; seen = x; catalog = n.catalog }, ap (λ (l : List Seen). map (λ (s : Seen). let note : Note = record { place = n.place; seen = s; catalog = n.catalog } in note) l ++ []) (is ∙ one), refl)

-- One more

pub noted_more : (items : List Noting) (place : ℕ) (e : Entry) (begun : Option Begun) (catalog : Option (List ℕ))
    → with_catalog (seen_at e) (record { begun = begun; notes = notes_in (reverse (items ++ record { place = place; seens = seen_at e; catalog = catalog } ∷ [])); catalog = catalog })
    ≡ with_seen place (seen_at e) (record { begun = begun; notes = notes_in (reverse items); catalog = catalog })
noted_more items place e begun catalog =
    ap (λ (l : List Noting). with_catalog (seen_at e) (state (notes_in l))) (reverse-append items (record { place = place; seens = seen_at e; catalog = catalog } ∷ []))
    ∙ by (seen_at e) (one_read e)
  where
    state : List Note → CallerState
    state notes = record { begun = begun; notes = notes; catalog = catalog }

    by : (seens : List Seen) → (seens ≡ []) ⊎ ((seen : Seen) × (seens ≡ seen ∷ []))
        → with_catalog seens (state (map (λ (s : Seen). let note : Note = record { place = place; seen = s; catalog = catalog } in note) seens ++ notes_in (reverse items))) ≡ with_seen place seens (state (notes_in (reverse items)))
    by [] one = refl
    by (x ∷ []) one = refl
    by (x ∷ (y ∷ ys)) (inl none) = absurd cc
    by (x ∷ (y ∷ ys)) (inr (z, one)) = absurd cc

pub noted_pushed : (old new : List Noting) (x : Noting) (place : ℕ) (e : Entry) (begun : Option Begun) (catalog : Option (List ℕ)) → new ≡ old ++ x ∷ []
    → x ≡ record { place = place; seens = seen_at e; catalog = catalog }
    → with_catalog (seen_at e) (record { begun = begun; notes = notes_in (reverse new); catalog = catalog }) ≡ with_seen place (seen_at e) (record { begun = begun; notes = notes_in (reverse old); catalog = catalog })
noted_pushed old new x place e begun catalog push is =
    ap (λ (l : List Noting). with_catalog (seen_at e) (record { begun = begun; notes = notes_in (reverse l); catalog = catalog })) (push ∙ ap (λ (n : Noting). old ++ n ∷ []) is)
    ∙ noted_more old place e begun catalog

-- where the catalog was not read, that which was read last is as before
pub catalog_same : (seens : List Seen) (s : CallerState) → AllByRecursion (λ (x : Seen). is_of_catalog x ≡ false) seens → with_catalog seens s ≡ s
catalog_same [] s none = refl
catalog_same (x ∷ seens) s none = ap (λ b. let t : CallerState = record { begun = s.begun; notes = s.notes; catalog = if b then Some x.bytes else s.catalog } in t) none.0

-- The catalog's node

seen_node : (at : Option NodeNo) (what : What) (x : Seen) → Contains (flat_map (λ (k : Call). seen_by k.node k.request k.reply) (call_in at what)) x → at ≡ Some x.place.node
seen_node None what x has = absurd (nothing x has)
seen_node (Some n) (Called request reply) x has =
    let is = seen_by_is n request reply x (subst (λ (l : List Seen). Contains l x) (append-nil (seen_by n request reply)) has) in
    ap (λ (s : Seen). Some s.place.node) (sym is.6)
seen_node (Some n) (Stopped (Some request) asked) x has =
    let is = seen_by_is n request Say.Stopped x (subst (λ (l : List Seen). Contains l x) (append-nil (seen_by n request Say.Stopped)) has) in
    ap (λ (s : Seen). Some s.place.node) (sym is.6)
seen_node (Some n) (Stopped None asked) x has = absurd (nothing x has)
seen_node (Some n) (Begin number op) x has = absurd (nothing x has)
seen_node (Some n) (Issue tid mini) x has = absurd (nothing x has)
seen_node (Some n) (Restarted kept) x has = absurd (nothing x has)
seen_node (Some n) (Abandoned tid) x has = absurd (nothing x has)
seen_node (Some n) (Answered number answer) x has = absurd (nothing x has)

-- an entry at another node doesn't bring the catalog
pub none_of_catalog : (e : Entry) → ((n : NodeNo) → e.node ≡ Some n → nat_eq n.0 0 ≡ false) → AllByRecursion (λ (x : Seen). is_of_catalog x ≡ false) (seen_at e)
none_of_catalog e other = by (one_read e)
  where
    by : (seen_at e ≡ []) ⊎ ((seen : Seen) × (seen_at e ≡ seen ∷ [])) → AllByRecursion (λ (x : Seen). is_of_catalog x ≡ false) (seen_at e)
    by (inl none) = subst (AllByRecursion (λ (x : Seen). is_of_catalog x ≡ false)) (sym none) tt
    by (inr (x, one)) =
        let at : e.node ≡ Some x.place.node = seen_node e.node e.what x (subst (λ (l : List Seen). Contains l x) (sym one) (0, omega arith, refl)) in
        let off : is_of_catalog x ≡ false = ap (λ b. b && (nat_eq x.place.start 64 && nat_eq x.place.length 4096)) (other x.place.node at) in
        subst (AllByRecursion (λ (x : Seen). is_of_catalog x ≡ false)) (sym one) (off, tt)

-- whether a read is one of the catalog
pub told_read : (b : Bool) (seen : Seen) (seens : List Seen) → seens ≡ seen ∷ [] → b ≡ is_of_catalog seen → TellsCatalogRead b seens
told_read true seen seens is same = (seen, is, sym same)
told_read false seen seens is same = subst (AllByRecursion (λ (x : Seen). is_of_catalog x ≡ false)) (sym is) (sym same, tt)

-- whether the read shows the reply
pub told_shows : (b : Bool) (n : Noting) (catalog : Option (List ℕ)) (seen : Seen) (op : Op) (reply : Reply) → n.seens ≡ seen ∷ [] → n.catalog ≡ catalog
    → TellsShown b catalog seen op reply → TellsNoteShows b n op reply
told_shows true n catalog seen op reply is same shown = (seen, is, subst (λ (o : Option (List ℕ)). IsShownBy o seen op reply) (sym same) shown)
told_shows false n catalog seen op reply is same shown =
    subst (AllByRecursion (λ (s : Seen). IsUnshownBy n.catalog s op reply)) (sym is) (subst (λ (o : Option (List ℕ)). IsUnshownBy o seen op reply) (sym same) shown, tt)
