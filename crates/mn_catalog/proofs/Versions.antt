-- Versions by name among entries, and what a new version's entries make of them.
use Rattle.std.proofs.Common.{◌≡◌, ℕ, zero, suc, ◌+◌, ◌<◌, ◌≤◌, Bool, true, false, List, [], ◌∷◌, ◌++◌, length, set, get_or, slice_get, Option, Some, None, is_some, if◌then◌else◌, nat_lt, nat_le, bytes_eq, refl, sym, ap, ◌∙◌, subst, add-one, ◌-◌, ◌^◌, nat_eq, arith, rules, All, ◌⊎◌, inl, inr}
use Rattle.std.proofs.lemmas.Bool.Decides.{nat_tests}
use Rattle.std.proofs.lemmas.List.{length-map, length-set, map-append}
use Rattle.std.proofs.lemmas.Option.{slice_get_within, get_or_from_slice_get}
use Rattle.std.specs.Option.{option_map, option_to_list}
use Rattle.mn_base.specs.Store.{Head, Store, StoreVersion, heads_of, head_named, number_named, refusal, refusal_at, child_refusal, applied, unless_refused, with_frozen, frozen_head, child_of}
use Rattle.mn_base.specs.declared.ids.Addr.{Addr}
use Rattle.mn_base.specs.declared.ids.VersionNo.{VersionNo}
use Rattle.mn_base.specs.declared.op.Op.TheVariants.{Snapshot, Branch}
use Rattle.mn_base.specs.Name.{IsName}
use Rattle.mn_base.specs.declared.reply.Reply.{Reply}
use Rattle.mn_base.specs.declared.reply.Reply.TheVariants.{Frozen, NotFrozen, NameTaken, VersionsFull}
use Rattle.mn_base.proofs.Keys.{bytes_eq-true, bytes_eq-refl}
use Rattle.mn_page.specs.declared.entry.CatEntry.{CatEntry}
use Rattle.mn_page.specs.Forest.{heads_in, entry_head}
use Rattle.mn_page.specs.Grammar.{IsEntry, IsAddr}
use Rattle.mn_page.specs.Overlay.{next_number}
use Rattle.mn_catalog.specs.Grammar.{IsCatalog, IsFirstNamed, max_entries}
use Rattle.mn_catalog.specs.Versions.{numbered, branch_entries, snapshot_entries, entries_with, AreEntries}
use Rattle.mn_page.specs.Added.{frozen_entry, child_entry}

-- Names

abbrev behind : (e : CatEntry) (es : List CatEntry) (name : List ℕ) (v : ℕ)
    → IsFirstNamed (e ∷ es) name (suc v) → IsFirstNamed es name v
behind e es name v f = record {
  entry = f.entry;
  there = f.there;
  named = f.named;
  first = λ w d lt at. f.first (suc w) d (omega (arith, lt)) at;
}

pub first_is_named : (es : List CatEntry) (name : List ℕ) (v : ℕ) (f : IsFirstNamed es name v)
    → (number_named (heads_in es) name ≡ Some v)
    × (head_named (heads_in es) name ≡ Some (entry_head f.entry))
first_is_named [] name v f = let there = f.there in absurd cc
first_is_named (e ∷ es) name zero f =
    let same : e ≡ f.entry = let there = f.there in cc in
    let named : bytes_eq e.name name ≡ true = ap (λ (x : CatEntry). bytes_eq x.name name) same ∙ ap (λ (n : List ℕ). bytes_eq n name) f.named ∙ bytes_eq-refl name in
    (rw named refl, rw named (ap (λ (x : CatEntry). Some (entry_head x)) same))
first_is_named (e ∷ es) name (suc v) f = go (bytes_eq e.name name) refl (first_is_named es name v (behind e es name v f))
  where
    go : (b : Bool) → bytes_eq e.name name ≡ b
        → (number_named (heads_in es) name ≡ Some v)
        × (head_named (heads_in es) name ≡ Some (entry_head f.entry))
        → (number_named (heads_in (e ∷ es)) name ≡ Some (suc v))
        × (head_named (heads_in (e ∷ es)) name ≡ Some (entry_head f.entry))
    go true t rest = absurd (f.first 0 e (omega arith) refl (bytes_eq-true e.name name t))
    go false t rest =
        let number = rest.0 in
        (rw (t, number) (ap (λ (n : ℕ). Some n) (add-one v)), rw t rest.1)

pub none_is_named : (es : List CatEntry) (name : List ℕ)
    → ((v : ℕ) (e : CatEntry) → slice_get es v ≡ Some e → e.name ≡ name → ⊥)
    → (number_named (heads_in es) name ≡ None) × (head_named (heads_in es) name ≡ None)
none_is_named [] name none = (refl, refl)
none_is_named (e ∷ es) name none = go (bytes_eq e.name name) refl (none_is_named es name (λ v d at. none (suc v) d at))
  where
    go : (b : Bool) → bytes_eq e.name name ≡ b
        → (number_named (heads_in es) name ≡ None) × (head_named (heads_in es) name ≡ None)
        → (number_named (heads_in (e ∷ es)) name ≡ None)
        × (head_named (heads_in (e ∷ es)) name ≡ None)
    go true t rest = absurd (none 0 e refl (bytes_eq-true e.name name t))
    go false t rest =
        let number = rest.0 in
        (rw (t, number) refl, rw t rest.1)

-- no entry has the name
pub no_such : (es : List CatEntry) (name : List ℕ) → All (λ e. e.name ≡ name → ⊥) es
    → (v : ℕ) (e : CatEntry) → slice_get es v ≡ Some e → e.name ≡ name → ⊥
no_such es name all v e at named =
    let is : get_or es v e ≡ e = get_or_from_slice_get es v e e at in
    all v e (slice_get_within es v e at) (ap (λ (x : CatEntry). x.name) is ∙ named)

-- A version frozen

-- where a name is the first one's, and where it is one behind
number_cases : (b : Bool) (rest : Option ℕ) (v : ℕ)
    → (if b then Some 0 else option_map (λ n. n + 1) rest) ≡ Some v
    → ((b ≡ true) × (v ≡ 0)) ⊎ ((b ≡ false) × ((w : ℕ) × (rest ≡ Some w) × (v ≡ w + 1)))
number_cases true rest v is = inl (refl, cc)
number_cases false None v is = absurd cc
number_cases false (Some w) v is = inr (refl, (w, refl, cc))

-- freezing a version in a store freezes its entry
pub frozen_heads : (store : Store) (es : List CatEntry) (v : ℕ) (e : CatEntry) (name : List ℕ)
    → heads_of store ≡ heads_in es → slice_get es v ≡ Some e
    → number_named (heads_in es) name ≡ Some v
    → heads_of (with_frozen store name) ≡ heads_in (set es v (frozen_entry e))
frozen_heads store [] v e name same at named = absurd cc
frozen_heads [] (d ∷ es) v e name same at named = absurd cc
frozen_heads (s ∷ ss) (d ∷ es) v e name same at named =
    go v at (number_cases (bytes_eq d.name name) (number_named (heads_in es) name) v named)
    (λ w below number. frozen_heads ss es w e name rest below number)
  where
    head : s.head ≡ entry_head d
    head = cc

    rest : heads_of ss ≡ heads_in es
    rest = cc

    of_store : bytes_eq s.head.name name ≡ bytes_eq d.name name
    of_store = ap (λ (h : Head). bytes_eq h.name name) head

    go : (v : ℕ) → slice_get (d ∷ es) v ≡ Some e
        → ((bytes_eq d.name name ≡ true) × (v ≡ 0))
        ⊎ ((bytes_eq d.name name ≡ false) × ((w : ℕ) × (number_named (heads_in es) name ≡ Some w) × (v ≡ w + 1)))
        → ((w : ℕ) → slice_get es w ≡ Some e → number_named (heads_in es) name ≡ Some w → heads_of (with_frozen ss name) ≡ heads_in (set es w (frozen_entry e)))
        → heads_of (with_frozen (s ∷ ss) name) ≡ heads_in (set (d ∷ es) v (frozen_entry e))
    go zero at (inl c) more =
        let t : bytes_eq s.head.name name ≡ true = of_store ∙ c.0 in
        let is : d ≡ e = cc in
        let frozen : frozen_head s.head ≡ entry_head (frozen_entry e) = ap frozen_head head ∙ ap (λ (x : CatEntry). entry_head (frozen_entry x)) is in
        rw t (cc)
    go (suc v) at (inl c) more = absurd (omega (arith, c.1))
    go zero at (inr c) more = absurd (omega (arith, c.1.2))
    go (suc v) at (inr c) more =
        let t : bytes_eq s.head.name name ≡ false = of_store ∙ c.0 in
        let is : c.1.0 ≡ v = omega (arith, c.1.2) in
        let below = more v at (c.1.1 ∙ ap (λ (n : ℕ). Some n) is) in
        rw t (cc)

-- the head of a version's new child
abbrev child_head : Store → List ℕ → List ℕ → Head
child_head store name child = (child_of store name child).head

-- What admits a child

room_behind : (taken : Bool) (full : Bool)
    → (if taken then Some NameTaken else (if full then Some VersionsFull else None)) ≡ None
    → full ≡ false
room_behind true full is = absurd cc
room_behind false true is = absurd cc
room_behind false false is = refl

-- where a child is not refused, the catalog has room
pub child_room : (es : List CatEntry) (child : List ℕ) → child_refusal (heads_in es) child ≡ None
    → length es < max_entries
child_room es child none =
    let few = room_behind (is_some (head_named (heads_in es) child)) (nat_le 64 (length (heads_in es))) none in
    let long = length-map es entry_head in
    let below : length (heads_in es) < 64 = grind (arith, nat_tests) in
    omega (arith, below, long)

unfrozen : (b : Bool) (hs : List Head) (child : List ℕ)
    → (if b then Some Frozen else child_refusal hs child) ≡ None → child_refusal hs child ≡ None
unfrozen true hs child is = absurd cc
unfrozen false hs child is = is

-- a snapshot that is not refused has room for its child
pub snapshot_room : (es : List CatEntry) (name child : List ℕ)
    → refusal (heads_in es) (Snapshot name child) ≡ None → length es < max_entries
snapshot_room es name child none = go (head_named (heads_in es) name) none
  where
    go : (h : Option Head) → refusal_at (heads_in es) (Snapshot name child) h ≡ None
        → length es < max_entries
    go None is = absurd cc
    go (Some h) is = child_room es child (unfrozen h.frozen (heads_in es) child is)

refrozen : (b : Bool) (hs : List Head) (child : List ℕ)
    → (if b then child_refusal hs child else Some NotFrozen) ≡ None → child_refusal hs child ≡ None
refrozen false hs child is = absurd cc
refrozen true hs child is = is

pub branch_room : (es : List CatEntry) (name child : List ℕ)
    → refusal (heads_in es) (Branch name child) ≡ None → length es < max_entries
branch_room es name child none = go (head_named (heads_in es) name) none
  where
    go : (h : Option Head) → refusal_at (heads_in es) (Branch name child) h ≡ None
        → length es < max_entries
    go None is = absurd cc
    go (Some h) is = child_room es child (refrozen h.frozen (heads_in es) child is)

-- What a new version's entries make

-- an entry written behind the last
pub child_behind : (es : List CatEntry) (e : CatEntry)
    → entries_with es (numbered (length es) e ∷ []) ≡ es ++ e ∷ []
child_behind es e =
    let no : nat_lt (length es) (length es) ≡ false = grind (arith, nat_tests) in
    rw no refl

-- an entry written in its place, and one behind the last
pub child_after : (es : List CatEntry) (v : ℕ) (d e : CatEntry) → v < length es
    → entries_with es (numbered v d ∷ numbered (length es) e ∷ []) ≡ set es v d ++ e ∷ []
child_after es v d e lt =
    let yes : nat_lt v (length es) ≡ true = grind (arith, nat_tests) in
    let long = length-set es v d in
    let no : nat_lt (length es) (length (set es v d)) ≡ false = grind (arith, nat_tests) in
    rw (yes, no) refl

-- the entries of a snapshot are the versions that it makes
pub snapshot_makes : (es : List CatEntry) (v : VersionNo) (child : List ℕ) (root : Addr) (e : CatEntry) (store : Store) → slice_get es v.0 ≡ Some e
    → number_named (heads_in es) e.name ≡ Some v.0 → heads_of store ≡ heads_in es
    → refusal (heads_in es) (Snapshot e.name child) ≡ None
    → heads_of (applied store (Snapshot e.name child)).store ≡ heads_in (entries_with es (snapshot_entries es v child root))
snapshot_makes es v child root e store at named same none =
    let open_ : refusal (heads_of store) (Snapshot e.name child) ≡ None = ap (λ (hs : List Head). refusal hs (Snapshot e.name child)) same ∙ none in
    let number : number_named (heads_of store) e.name ≡ Some v.0 = ap (λ (hs : List Head). number_named hs e.name) same ∙ named in
    let c = child_entry v child root in
    let written : entries_with es (snapshot_entries es v child root) ≡ set es v.0 (frozen_entry e) ++ c ∷ [] = rw at (child_after es v.0 (frozen_entry e) c (slice_get_within es v.0 e at)) in
    let head : child_head store e.name child ≡ entry_head c = ap (λ (n : Option ℕ). let h : Head = record { name = child; parent = n; frozen = false } in h) number in
    ap (λ (r : Option Reply). heads_of (unless_refused store (Snapshot e.name child) r).store) open_
    ∙ map-append (λ (x : StoreVersion). x.head) (with_frozen store e.name) (child_of store e.name child ∷ [])
    ∙ ap (λ (hs : List Head). hs ++ child_head store e.name child ∷ []) (frozen_heads store es v.0 e e.name same at named)
    ∙ ap (λ (h : Head). heads_in (set es v.0 (frozen_entry e)) ++ h ∷ []) head
    ∙ sym (map-append entry_head (set es v.0 (frozen_entry e)) (c ∷ []))
    ∙ ap heads_in (sym written)

-- that of a branch too
pub branch_makes : (es : List CatEntry) (v : VersionNo) (child : List ℕ) (root : Addr) (e : CatEntry) (store : Store)
    → number_named (heads_in es) e.name ≡ Some v.0 → heads_of store ≡ heads_in es
    → refusal (heads_in es) (Branch e.name child) ≡ None
    → heads_of (applied store (Branch e.name child)).store ≡ heads_in (entries_with es (branch_entries es v child root))
branch_makes es v child root e store named same none =
    let open_ : refusal (heads_of store) (Branch e.name child) ≡ None = ap (λ (hs : List Head). refusal hs (Branch e.name child)) same ∙ none in
    let number : number_named (heads_of store) e.name ≡ Some v.0 = ap (λ (hs : List Head). number_named hs e.name) same ∙ named in
    let c = child_entry v child root in
    let head : child_head store e.name child ≡ entry_head c = ap (λ (n : Option ℕ). let h : Head = record { name = child; parent = n; frozen = false } in h) number in
    ap (λ (r : Option Reply). heads_of (unless_refused store (Branch e.name child) r).store) open_
    ∙ map-append (λ (x : StoreVersion). x.head) store (child_of store e.name child ∷ [])
    ∙ ap (λ (hs : List Head). hs ++ child_head store e.name child ∷ []) same
    ∙ ap (λ (h : Head). heads_in es ++ h ∷ []) head
    ∙ sym (map-append entry_head es (c ∷ []))
    ∙ ap heads_in (sym (child_behind es c))

-- Their grammar

next_below : (seq : ℕ) → seq < 2 ^ 64 → next_number seq < 2 ^ 64
next_below seq low = go (nat_eq seq (2 ^ 64 - 1)) refl
  where
    go : (b : Bool) → nat_eq seq (2 ^ 64 - 1) ≡ b → next_number seq < 2 ^ 64
    go true t = rw t low
    go false t = rw t (grind (arith, nat_tests))

next_from_one : (seq : ℕ) → 1 ≤ seq → 1 ≤ next_number seq
next_from_one seq low = go (nat_eq seq (2 ^ 64 - 1)) refl
  where
    go : (b : Bool) → nat_eq seq (2 ^ 64 - 1) ≡ b → 1 ≤ next_number seq
    go true t = rw t low
    go false t = rw t (omega arith)

frozen_is_entry : (e : CatEntry) → IsEntry e → IsEntry (frozen_entry e)
frozen_is_entry e is = record {
  seq_low = next_from_one e.seq is.seq_low;
  seq_high = next_below e.seq is.seq_high;
  parent = is.parent;
  root = is.root;
  name = is.name;
}

child_is_entry : (v : VersionNo) (child : List ℕ) (root : Addr) → v.0 < 64 → IsName child
    → IsAddr root → IsEntry (child_entry v child root)
child_is_entry v child root few name addr = record {
  seq_low = omega arith;
  seq_high = search rules;
  parent = few;
  root = addr;
  name = name;
}

pub branch_are_entries : (es : List CatEntry) (v : VersionNo) (child : List ℕ) (root : Addr)
    → v.0 < length es → length es < max_entries → IsName child → IsAddr root
    → AreEntries (branch_entries es v child root)
branch_are_entries es v child root there room name addr = ((room, child_is_entry v child root (omega (arith, there, room)) name addr), tt)

pub snapshot_are_entries : (es : List CatEntry) (v : VersionNo) (child : List ℕ) (root : Addr) (e : CatEntry) → slice_get es v.0 ≡ Some e → IsEntry e → length es < max_entries → IsName child → IsAddr root
    → AreEntries (snapshot_entries es v child root)
snapshot_are_entries es v child root e at is room name addr =
    let there = slice_get_within es v.0 e at in
    rw at ((omega (arith, there, room), frozen_is_entry e is), branch_are_entries es v child root there room name addr)

-- Places

pub entry_there : (es : List CatEntry) (v : ℕ) → v < length es
    → (e : CatEntry) × (slice_get es v ≡ Some e)
entry_there [] v lt = absurd (omega (arith, lt))
entry_there (e ∷ es) zero lt = (e, refl)
entry_there (e ∷ es) (suc v) lt = entry_there es v (omega (arith, lt))

-- the entry of a version is one
pub entry_right : (es : List CatEntry) (v : ℕ) (e : CatEntry) → IsCatalog es
    → slice_get es v ≡ Some e → IsEntry e
entry_right es v e is at =
    let found = get_or_from_slice_get es v e e at in
    subst IsEntry found (is.1 v e (slice_get_within es v e at))

-- Refusals, as the code comes to them

both_named : (hs : List Head) (name : List ℕ)
    → is_some (head_named hs name) ≡ is_some (number_named hs name)
both_named [] name = refl
both_named (h ∷ hs) name = go (bytes_eq h.name name) (both_named hs name)
  where
    mapped : (o : Option ℕ) → is_some (option_map (λ n. n + 1) o) ≡ is_some o
    mapped None = refl
    mapped (Some n) = refl

    go : (b : Bool) → is_some (head_named hs name) ≡ is_some (number_named hs name)
        → is_some (if b then Some h else head_named hs name) ≡ is_some (if b then Some 0 else option_map (λ n. n + 1) (number_named hs name))
    go true rest = refl
    go false rest = rest ∙ sym (mapped (number_named hs name))

numbers_some : (found : Option VersionNo) → is_some (option_map (λ v. v.0) found) ≡ is_some found
numbers_some None = refl
numbers_some (Some v) = refl

-- why no child of this name can be made, where its name was looked up
pub child_refused : (es : List CatEntry) (child : List ℕ) (found : Option VersionNo)
    → option_map (λ v. v.0) found ≡ number_named (heads_in es) child
    → child_refusal (heads_in es) child ≡ (if is_some found then Some NameTaken else (if nat_le 64 (length es) then Some VersionsFull else None))
child_refused es child found number =
    let taken : is_some (head_named (heads_in es) child) ≡ is_some found =
    both_named (heads_in es) child ∙ ap is_some (sym number) ∙ numbers_some found in
    let long = length-map es entry_head in
    let reply : Bool → ℕ
    → Option Reply = λ b n. if b then Some NameTaken else (if nat_le 64 n then Some VersionsFull else None) in
    ap (λ b. reply b (length (heads_in es))) taken ∙ ap (λ n. reply (is_some found) n) long

-- the state of the first entry of a name
pub frozen_state : (es : List CatEntry) (name : List ℕ) (v : ℕ) (d : CatEntry)
    → IsFirstNamed es name v → slice_get es v ≡ Some d
    → Some d.frozen ≡ option_map (λ (h : Head). h.frozen) (head_named (heads_in es) name)
frozen_state es name v d f at =
    let both : Some f.entry ≡ Some d = sym f.there ∙ at in
    let same : f.entry ≡ d = cc in
    sym (ap (λ (o : Option Head). option_map (λ (h : Head). h.frozen) o) (first_is_named es name v f).1 ∙ ap (λ (e : CatEntry). Some e.frozen) same)

-- the entries of a snapshot, as the code puts them together
pub snapshot_is : (es : List CatEntry) (v : VersionNo) (child : List ℕ) (root : Addr) (e written made : CatEntry) (n : ℕ) → slice_get es v.0 ≡ Some e → written ≡ frozen_entry e
    → made ≡ child_entry v child root → n ≡ length es
    → numbered v.0 written ∷ numbered n made ∷ [] ≡ snapshot_entries es v child root
snapshot_is es v child root e written made n at is child_is number =
    ap (λ (x : CatEntry). numbered v.0 x ∷ numbered n made ∷ []) is
    ∙ ap (λ (x : CatEntry). numbered v.0 (frozen_entry e) ∷ numbered n x ∷ []) child_is
    ∙ ap (λ (m : ℕ). numbered v.0 (frozen_entry e) ∷ numbered m (child_entry v child root) ∷ []) number
    ∙ sym (ap (λ (o : Option CatEntry). option_to_list (option_map (λ (x : CatEntry). numbered v.0 (frozen_entry x)) o) ++ branch_entries es v child root) at)
