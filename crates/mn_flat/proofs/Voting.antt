-- The greater numbers of what is held, as they are computed and as they are said.
use Rattle.std.proofs.Common.{◌≡◌, ◌<◌, ◌⊎◌, inl, inr, ℕ, zero, suc, Bool, true, false, not, ◌&&◌, ◌||◌, List, [], ◌∷◌, length, map, reverse, refl, ap, sym, subst, ◌∙◌, arith, Contains, if◌then◌else◌}
use Rattle.std.specs.Prelude.{MatchBool, nat_lt, IsPermutation}
use Rattle.std.specs.List.{list_all, list_any, AllByRecursion}
use Rattle.std.proofs.lemmas.List.{reverse-reverse}
use Rattle.std.proofs.lemmas.List.Elements.{All-contains, All-from_recursion}
use Rattle.std.proofs.lemmas.List.Sorted.{IsPermutation-reverse, Contains-permutation}
use Rattle.mn_base.specs.Ids.{node_same, tid_same}
use Rattle.mn_base.specs.Store.{max_versions}
use Rattle.mn_base.specs.declared.ids.NodeNo.{NodeNo}
use Rattle.mn_base.specs.declared.ids.Tid.{Tid}
use Rattle.mn_base.proofs.Booleans.{both_parts, both_true, clash, not_true, not_false, or_cases, or_left, or_right, or_split}
use Rattle.mn_mini.specs.declared.part.PartItem.{PartItem}
use Rattle.mn_mini.specs.declared.part.PartItem.TheVariants.{Compare, Read, Write}
use Rattle.mn_mini.specs.declared.record.Record.{Record}
use Rattle.mn_mini.specs.declared.record.Record.TheVariants.{Voted, Executed, Decided, Forced}
use Rattle.mn_mini.specs.Node.{HeldPart, held_parts, space_of, without_tid}
use Rattle.mn_page.specs.Base.{base_of}
use Rattle.mn_page.specs.Space.{catalog_start, entry_size, slots_start, slot_size, max_slots, space_length}
use Rattle.mn_runs.specs.Seen.{Place}
use Rattle.mn_law.specs.Places.{IsNumbered, WritesWhole, content_in, number_in, page_place, entry_place}
use Rattle.mn_runs.specs.Protocol.{start_of, base_at}
use Rattle.mn_law.specs.Opened.{HeldAreGreater}
use Rattle.mn_runs.specs.Sound.{is_committed, is_free}
use Rattle.mn_runs.proofs.Bases.{base_there}
use Rattle.mn_runs.proofs.Same.{tid_same-refl, tid_same-true}
use Rattle.mn_flat.specs.declared.held.Held.{Held}
use Rattle.mn_flat.specs.declared.votes.Told.{Told}
use Rattle.mn_flat.specs.declared.votes.Past.{Past}
use Rattle.mn_flat.specs.Known.{held_seen, parts_seen, known_at, says_committed}
use Rattle.mn_flat.specs.Numbers.{PartRises, item_rises}
use Rattle.mn_flat.specs.Told.{IsTold, IsPast, IsEnd}
use Rattle.mn_flat.specs.Votes.{AreRight, KeepsVotes, HeldRises, all_of, lists_of}
use Rattle.mn_flat.proofs.Rising.{rises_there, rises_each}
use Rattle.mn_flat.proofs.Telling.{VoteFits, vote_in, commit_of}

-- One item

item_words : (space : List ℕ) (n : NodeNo) (item : PartItem) → item_rises space item ≡ true → (place : Place) → IsNumbered place → place.node ≡ n → WritesWhole place (λ bytes. number_in (content_in space place) < number_in bytes) item
item_words space n (Compare start bytes) e place num at = tt
item_words space n (Read start size) e place num at = tt
item_words space n (Write start bytes) e place (inl (addr, low, is)) at =
    subst (λ (q : Place). WritesWhole q (λ new. number_in (content_in space q) < number_in new) (Write start bytes)) (sym is)
    (rises_there space addr.node slots_start max_slots slot_size start bytes (both_parts _ _ e).0 addr.slot low)
item_words space n (Write start bytes) e place (inr (m, v, low, is)) at =
    subst (λ (q : Place). WritesWhole q (λ new. number_in (content_in space q) < number_in new) (Write start bytes)) (sym is)
    (rises_there space m catalog_start max_versions entry_size start bytes (both_parts _ _ e).1 v low)

words_item : (space : List ℕ) (n : NodeNo) (item : PartItem) → length space ≡ space_length → ((place : Place) → IsNumbered place → place.node ≡ n → WritesWhole place (λ bytes. number_in (content_in space place) < number_in bytes) item) → item_rises space item ≡ true
words_item space n (Compare start bytes) whole f = refl
words_item space n (Read start size) whole f = refl
words_item space n (Write start bytes) whole f =
    both_true _ _
    (rises_each space n slots_start max_slots slot_size start bytes (omega arith) (omega arith) (omega (arith, whole)) (λ k low. f (page_place (record { node = n; slot = k })) (inl (record { node = n; slot = k }, low, refl)) refl))
    (rises_each space n catalog_start max_versions entry_size start bytes (omega arith) (omega arith) (omega (arith, whole)) (λ k low. f (entry_place n k) (inr (n, k, low, refl)) refl))

-- One part

part_words : (space : List ℕ) (n : NodeNo) (part : List PartItem) → list_all (item_rises space) part ≡ true → PartRises n space part
part_words space n [] e = λ place num at. tt
part_words space n (i ∷ part) e = λ place num at. let s = both_parts _ _ e in (item_words space n i s.0 place num at, part_words space n part s.1 place num at)

words_part : (space : List ℕ) (n : NodeNo) (part : List PartItem) → length space ≡ space_length → PartRises n space part → list_all (item_rises space) part ≡ true
words_part space n [] whole f = refl
words_part space n (i ∷ part) whole f = both_true _ _ (words_item space n i whole (λ place num at. (f place num at).0)) (words_part space n part whole (λ place num at. (f place num at).1))

-- What is held

abbrev rises_for : List ℕ → Tid → Held → Bool
rises_for space tid h = not (tid_same h.tid tid) || list_all (item_rises space) h.part.now

later : {X : Type 0} (y : X) (xs : List X) (x : X) → Contains xs x → Contains (y ∷ xs) x
later y xs x (k, low, is) = (suc k, omega arith, is)

held_words : (space : List ℕ) (n : NodeNo) (tid : Tid) (held : List Held) → list_all (rises_for space tid) held ≡ true → (h : HeldPart) → Contains (map held_seen held) h → h.tid ≡ tid → PartRises n space h.part
held_words space n tid [] e h (k, low, is) same = absurd (omega arith)
held_words space n tid (x ∷ held) e h (zero, low, is) same = subst (λ (q : HeldPart). PartRises n space q.part) is (by (or_cases _ _ (both_parts _ _ e).0))
  where
    own : tid_same x.tid tid ≡ true
    own = ap (λ (t : Tid). tid_same t tid) (ap (λ (q : HeldPart). q.tid) is ∙ same) ∙ tid_same-refl tid

    by : (not (tid_same x.tid tid) ≡ true) ⊎ (list_all (item_rises space) x.part.now ≡ true) → PartRises n space x.part.now
    by (inl other) = absurd (clash _ own (not_true _ other))
    by (inr all) = part_words space n x.part.now all
held_words space n tid (x ∷ held) e h (suc k, low, is) same = held_words space n tid held (both_parts _ _ e).1 h (k, omega arith, is) same

words_held : (space : List ℕ) (n : NodeNo) (tid : Tid) (held : List Held) → length space ≡ space_length → ((h : HeldPart) → Contains (map held_seen held) h → h.tid ≡ tid → PartRises n space h.part) → list_all (rises_for space tid) held ≡ true
words_held space n tid [] whole f = refl
words_held space n tid (x ∷ held) whole f = both_true _ _ (one (tid_same x.tid tid) refl) (words_held space n tid held whole (λ h there. f h (later (held_seen x) (map held_seen held) h there)))
  where
    one : (b : Bool) → tid_same x.tid tid ≡ b → (not (tid_same x.tid tid) || list_all (item_rises space) x.part.now) ≡ true
    one true e = or_right _ _ (words_part space n x.part.now whole (f (held_seen x) (0, omega arith, refl) (tid_same-true x.tid tid e)))
    one false e = or_left _ _ (ap not e)

turned : (xs : List HeldPart) → IsPermutation (reverse xs) xs
turned xs = subst (λ (l : List HeldPart). IsPermutation (reverse xs) l) (reverse-reverse xs) (IsPermutation-reverse (reverse xs))

pub rises_in : (told : Told) (records : List (List Record)) (held : List Held) (space : List ℕ) (n : NodeNo) (tid : Tid) → IsTold told records → IsEnd held space records n → (b : Bool)
    → b ≡ (not (list_any (says_committed told.nodes.items tid) told.nodes.items) || list_all (λ h. not (tid_same h.tid tid) || list_all (item_rises space) h.part.now) held)
    → MatchBool b (HeldRises records n tid) (HeldRises records n tid → ⊥)
rises_in told records held space n tid is end b e = by b e
  where
    said : Bool
    said = list_any (says_committed told.nodes.items tid) told.nodes.items

    meant : said ≡ is_committed (length records) (lists_of records) tid
    meant = commit_of told records is tid

    from : (h : HeldPart) → Contains (held_parts (lists_of records n)) h → Contains (map held_seen held) h
    from h there = Contains-permutation (reverse (map held_seen held)) (map held_seen held) h (turned (map held_seen held)) (subst (λ (l : List HeldPart). Contains l h) (sym end.held) there)

    to : (h : HeldPart) → Contains (map held_seen held) h → Contains (held_parts (lists_of records n)) h
    to h there = subst (λ (l : List HeldPart). Contains l h) end.held (Contains-permutation (map held_seen held) (reverse (map held_seen held)) h (IsPermutation-reverse (map held_seen held)) there)

    by : (b : Bool) → b ≡ (not said || list_all (rises_for space tid) held) → MatchBool b (HeldRises records n tid) (HeldRises records n tid → ⊥)
    by true e = elim (or_cases (not said) (list_all (rises_for space tid) held) (sym e)) as (λ _. HeldRises records n tid) [
      | inl none ↦ λ committed. absurd (clash said (meant ∙ committed) (not_true said none))
      | inr all ↦ λ committed h there same. subst (λ (s : List ℕ). PartRises n s h.part) end.space (held_words space n tid held all h (from h there) same)
    ]
    by false e = λ rises.
        let s = or_split (not said) (list_all (rises_for space tid) held) (sym e) in
        let committed : is_committed (length records) (lists_of records) tid ≡ true = sym meant ∙ not_false said s.0 in
        clash (list_all (rises_for space tid) held) (words_held space n tid held end.whole (λ h there same. subst (λ (s : List ℕ). PartRises n s h.part) (sym end.space) (rises committed h (to h there) same))) s.1

pub voted_in : (told : Told) (past : Past) (records : List (List Record)) (older : List Record) (n : NodeNo) (r : Record) (tid : Tid) (ps : List NodeNo) (part : List PartItem) (held : List Held) (space : List ℕ)
    → IsTold told records → IsPast past older → IsEnd held space records n → Contains (all_of records) r → r ≡ Voted tid ps part → (b : Bool)
    → b ≡ ((not (known_at past.known tid).seen && (list_all (λ m. nat_lt m.0 (length told.nodes.items)) ps && (list_any (λ m. node_same m n) ps && (is_free (parts_seen past.held.items) part && not (known_at told.all tid).differ))))
    && (not (list_any (says_committed told.nodes.items tid) told.nodes.items) || list_all (λ h. not (tid_same h.tid tid) || list_all (item_rises space) h.part.now) held))
    → MatchBool b (KeepsVotes records n older r) (KeepsVotes records n older r → ⊥)
voted_in told past records older n r tid ps part held space is before end there e b f =
    subst (λ (q : Record). MatchBool b (KeepsVotes records n older q) (KeepsVotes records n older q → ⊥)) (sym e)
    (subst (λ (x : Bool). MatchBool x (KeepsVotes records n older (Voted tid ps part)) (KeepsVotes records n older (Voted tid ps part) → ⊥)) (sym f)
    (by _ _ (vote_in told past records older n r tid ps part _ is before there e refl) (rises_in told records held space n tid is end _ refl)))
  where
    by : (x y : Bool) → MatchBool x (VoteFits records n older tid ps part) (VoteFits records n older tid ps part → ⊥) → MatchBool y (HeldRises records n tid) (HeldRises records n tid → ⊥)
        → MatchBool (x && y) (KeepsVotes records n older (Voted tid ps part)) (KeepsVotes records n older (Voted tid ps part) → ⊥)
    by true true fits rises = (fits.0, fits.1, rises)
    by true false fits low = λ k. low k.2
    by false y unfit rises = λ k. unfit (k.0, k.1)

-- From all held parts to those of one id, and back

pub held_rises : (records : List (List Record)) → HeldAreGreater (length records) (base_at (start_of records)) (lists_of records) → (n : NodeNo) → n.0 < length records → (tid : Tid) → HeldRises records n tid
held_rises records greater n low tid = λ committed h there same place num at.
    let sure : is_committed (length records) (lists_of records) h.tid ≡ true = ap (λ (t : Tid). is_committed (length records) (lists_of records) t) same ∙ committed in
    subst (λ (m : NodeNo). AllByRecursion (WritesWhole place (λ bytes. number_in (content_in (space_of (base_of (length records) m.0) (lists_of records m)) place) < number_in bytes)) h.part) at
    (here place num (subst (λ (m : NodeNo). m.0 < length records) (sym at) low) h sure (subst (λ (m : NodeNo). Contains (held_parts (lists_of records m)) h) (sym at) there))
  where
    here : (place : Place) → IsNumbered place → place.node.0 < length records → (h : HeldPart) → is_committed (length records) (lists_of records) h.tid ≡ true → Contains (held_parts (lists_of records place.node)) h
        → AllByRecursion (WritesWhole place (λ bytes. number_in (content_in (space_of (base_of (length records) place.node.0) (lists_of records place.node)) place) < number_in bytes)) h.part
    here place num low h sure there =
        subst (λ (base : List ℕ). AllByRecursion (WritesWhole place (λ bytes. number_in (content_in (space_of base (lists_of records place.node)) place) < number_in bytes)) h.part) (base_there (start_of records) place.node low)
        (All-contains each_rises (held_parts (lists_of records place.node)) h (All-from_recursion each_rises (held_parts (lists_of records place.node)) (greater place num low)) there sure)
      where
        each_rises : HeldPart → Type 0
        each_rises q = is_committed (length records) (lists_of records) q.tid ≡ true
            → AllByRecursion (WritesWhole place (λ bytes. number_in (content_in (space_of (base_at (start_of records) place.node) (lists_of records place.node)) place) < number_in bytes)) q.part

without_in : (t : Tid) (hs : List HeldPart) (h : HeldPart) → Contains (without_tid t hs) h → Contains hs h
without_in t [] h there = there
without_in t (x ∷ hs) h there = by (without_in t hs h) (tid_same x.tid t) there
  where
    by : (Contains (without_tid t hs) h → Contains hs h) → (b : Bool) → Contains (if b then without_tid t hs else x ∷ without_tid t hs) h → Contains (x ∷ hs) h
    by ih true there = later x hs h (ih there)
    by ih false (zero, low, is) = (0, omega arith, is)
    by ih false (suc k, low, is) = later x hs h (ih (k, omega arith, is))

rises_of : (records : List (List Record)) (n : NodeNo) (l : List Record) → AreRight records n l → (h : HeldPart) → Contains (held_parts l) h → HeldRises records n h.tid
rises_of records n [] a h (k, low, is) = absurd (omega arith)
rises_of records n (Voted tid ps part ∷ older) a h (zero, low, is) = subst (λ (q : HeldPart). HeldRises records n q.tid) is a.0.0.2
rises_of records n (Voted tid ps part ∷ older) a h (suc k, low, is) = rises_of records n older a.1 h (k, omega arith, is)
rises_of records n (Executed tid part ∷ older) a h there = rises_of records n older a.1 h there
rises_of records n (Decided tid verdict ∷ older) a h there = rises_of records n older a.1 h (without_in tid (held_parts older) h there)
rises_of records n (Forced tid ∷ older) a h there = rises_of records n older a.1 h there

each_there : (P : HeldPart → Type 0) (hs : List HeldPart) → ((h : HeldPart) → Contains hs h → P h) → AllByRecursion P hs
each_there P [] f = tt
each_there P (h ∷ hs) f = (f h (0, omega arith, refl), each_there P hs (λ q there. f q (later h hs q there)))

pub greater_of : (records : List (List Record)) → ((n : NodeNo) → n.0 < length records → AreRight records n (lists_of records n)) → HeldAreGreater (length records) (base_at (start_of records)) (lists_of records)
greater_of records right = λ place num low.
    each_there (λ (h : HeldPart). is_committed (length records) (lists_of records) h.tid ≡ true
    → AllByRecursion (WritesWhole place (λ bytes. number_in (content_in (space_of (base_at (start_of records) place.node) (lists_of records place.node)) place) < number_in bytes)) h.part)
    (held_parts (lists_of records place.node))
    (λ h there committed.
    subst (λ (base : List ℕ). AllByRecursion (WritesWhole place (λ bytes. number_in (content_in (space_of base (lists_of records place.node)) place) < number_in bytes)) h.part) (sym (base_there (start_of records) place.node low))
    (rises_of records place.node (lists_of records place.node) (right place.node low) h there committed h there refl place num refl))
