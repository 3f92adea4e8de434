-- Versions that share tables: one more table, a version with another one, and one table changed.
use Rattle.std.proofs.Common.{◌≡◌, ◌≢◌, ◌<◌, ◌≤◌, ◌+◌, inl, inr, ℕ, zero, suc, Bool, true, List, [], ◌∷◌, ◌++◌, Option, Some, refl, ap, sym, ◌∙◌, subst, slice_get, set, length, get_or, arith, if◌then◌else◌}
use Rattle.std.specs.Prelude.{MatchOption}
use Rattle.std.specs.List.{AllByRecursion}
use Rattle.std.proofs.lemmas.Bool.{eq-eqb, ne_eqb, cases_eq}
use Rattle.std.proofs.lemmas.List.{get_or-set_same, get_or-set_other, get_or_append_left, length-append, length-map, length-set, get_or_push}
use Rattle.std.proofs.lemmas.Option.{slice_get_read}
use Rattle.mn_base.specs.declared.reply.Pair.{Pair}
use Rattle.mn_base.specs.Store.{Store, StoreVersion, frozen_head}
use Rattle.mn_plain.specs.declared.version.Held.{Held}
use Rattle.mn_plain.specs.Kept.{all_shown, AreHeld, held_head, held_version, held_store, sharers, IsAlone, Freezes}
use Rattle.mn_plain.specs.Table.{Table, shown}
use Rattle.mn_plain.proofs.ApplyLemmas.{set_same}

-- One more table

pub push_table : (tables : List (List Pair)) (t : List Pair) (held : List Held) → AreHeld tables held → held_store (tables ++ t ∷ []) held ≡ held_store tables held
push_table tables t [] are = refl
push_table tables t (h ∷ held) are =
    let same : get_or (tables ++ t ∷ []) h.table [] ≡ get_or tables h.table [] = get_or_append_left tables (t ∷ []) [] h.table are.0 in
    λ k. (record { head = held_head h; pairs = same k }) ∷ push_table tables t held are.1 k

pub held_more : (tables : List (List Pair)) (t : List Pair) (held : List Held) → AreHeld tables held → AreHeld (tables ++ t ∷ []) held
held_more tables t [] are = tt
held_more tables t (h ∷ held) are = (omega (arith, are.0, length-append tables (t ∷ [])), held_more tables t held are.1)

-- as many tables
pub held_as_many : (one other : List (List Pair)) (held : List Held) → length one ≡ length other → AreHeld one held → AreHeld other held
held_as_many one other held same are = subst (λ (n : ℕ). AllByRecursion (λ h. h.table < n) held) same are

-- A version with another table

pub held_set : (tables : List (List Pair)) (held : List Held) (at : ℕ) (h : Held) → AreHeld tables held → h.table < length tables → AreHeld tables (set held at h)
held_set tables [] at h are there = tt
held_set tables (x ∷ held) zero h are there = (there, are.1)
held_set tables (x ∷ held) (suc at) h are there = (are.0, held_set tables held at h are.1 there)

pub set_version : (tables : List (List Pair)) (held : List Held) (at : ℕ) (h : Held) → held_store tables (set held at h) ≡ set (held_store tables held) at (held_version tables h)
set_version tables [] at h = refl
set_version tables (x ∷ held) zero h = refl
set_version tables (x ∷ held) (suc at) h = ap (λ (l : Store). held_version tables x ∷ l) (set_version tables held at h)

-- the table of a version that is there
pub table_there : (tables : List (List Pair)) (held : List Held) (at : ℕ) (h : Held) → AreHeld tables held → at < length held → h ≡ get_or held at h → h.table < length tables
table_there tables [] at h are there is = absurd (omega (arith, there))
table_there tables (x ∷ held) zero h are there is = subst (λ (y : Held). y.table < length tables) (sym is) are.0
table_there tables (x ∷ held) (suc at) h are there is = table_there tables held at h are.1 (omega (arith, there)) is

pub store_there : (tables : List (List Pair)) (held : List Held) (at : ℕ) (h : Held) → at < length held → h ≡ get_or held at h → slice_get (held_store tables held) at ≡ Some (held_version tables h)
store_there tables [] at h there is = absurd (omega (arith, there))
store_there tables (x ∷ held) zero h there is = ap (λ (y : Held). Some (held_version tables y)) (sym is)
store_there tables (x ∷ held) (suc at) h there is = store_there tables held at h (omega (arith, there)) is

pub length-held_store : (tables : List (List Pair)) (held : List Held) → length (held_store tables held) ≡ length held
length-held_store tables [] = refl
length-held_store tables (h ∷ held) = ap suc (length-held_store tables held)

-- How many share

one_more : (h : Held) (held : List Held) (table : ℕ) → h.table ≡ table → sharers (h ∷ held) table ≡ sharers held table + 1
one_more h held table is = ap (λ (b : Bool). if b then sharers held table + 1 else sharers held table) (eq-eqb h.table table is)

no_more : (h : Held) (held : List Held) (table : ℕ) → h.table ≢ table → sharers (h ∷ held) table ≡ sharers held table
no_more h held table off = ap (λ (b : Bool). if b then sharers held table + 1 else sharers held table) (ne_eqb h.table table off)

none_share : (held : List Held) (table : ℕ) → AllByRecursion (λ h. h.table < table) held → sharers held table ≡ 0
none_share [] table below = refl
none_share (h ∷ held) table below = no_more h held table (λ e. omega (arith, e, below.0)) ∙ none_share held table below.1

-- a version that gets a new table has it alone
pub new_alone : (held : List Held) (at : ℕ) (h : Held) → AllByRecursion (λ x. x.table < h.table) held → sharers (set held at h) h.table < 2
new_alone [] at h below = omega arith
new_alone (x ∷ held) zero h below =
    let one = one_more h held h.table refl in let none = none_share held h.table below.1 in omega (arith, one, none)
new_alone (x ∷ held) (suc at) h below =
    let same = no_more x (set held at h) h.table (λ e. omega (arith, e, below.0)) in let rest = new_alone held at h below.1 in omega (arith, same, rest)

-- One table changed

set_unshared : (tables : List (List Pair)) (table : ℕ) (t : List Pair) (held : List Held) → sharers held table ≡ 0 → held_store (set tables table t) held ≡ held_store tables held
set_unshared tables table t [] none = refl
set_unshared tables table t (h ∷ held) none = elim (cases_eq h.table table) as (λ _. held_store (set tables table t) (h ∷ held) ≡ held_store tables (h ∷ held)) [
  | inl e ↦ let one = one_more h held table e in absurd (omega (arith, one, none))
  | inr off ↦ let same = no_more h held table off in
      let kept = get_or-set_other tables table h.table t [] off in
      λ k. (record { head = held_head h; pairs = kept k }) ∷ set_unshared tables table t held (omega (arith, same, none)) k
]

pub set_alone : (tables : List (List Pair)) (held : List Held) (at : ℕ) (h : Held) (t : List Pair) → at < length held → h ≡ get_or held at h → h.table < length tables → sharers held h.table < 2
    → held_store (set tables h.table t) held ≡ set (held_store tables held) at (record { head = held_head h; pairs = t })
set_alone tables [] at h t there is within alone = absurd (omega (arith, there))
set_alone tables (x ∷ held) zero h t there is within alone =
    let one = one_more x held h.table (ap (λ (y : Held). y.table) (sym is)) in
    let rest = set_unshared tables h.table t held (omega (arith, one, alone)) in
    let mine : get_or (set tables h.table t) x.table [] ≡ t = ap (λ (y : Held). get_or (set tables h.table t) y.table []) (sym is) ∙ get_or-set_same tables h.table t [] within in
    λ k. (record { head = held_head (sym is k); pairs = mine k }) ∷ rest k
set_alone tables (x ∷ held) (suc at) h t there is within alone = elim (cases_eq x.table h.table) as (λ _. held_store (set tables h.table t) (x ∷ held) ≡ set (held_store tables (x ∷ held)) (suc at) (record { head = held_head h; pairs = t })) [
  | inl e ↦ let one = one_more x held h.table e in let more = shares held at h (omega (arith, there)) is in absurd (omega (arith, one, more, alone))
  | inr off ↦ let same = no_more x held h.table off in
      let kept = get_or-set_other tables h.table x.table t [] off in
      let rest = set_alone tables held at h t (omega (arith, there)) is within (omega (arith, same, alone)) in
      λ k. (record { head = held_head x; pairs = kept k }) ∷ rest k
]
  where
    shares : (held : List Held) (at : ℕ) (h : Held) → at < length held → h ≡ get_or held at h → 1 ≤ sharers held h.table
    shares [] at h there is = absurd (omega (arith, there))
    shares (y ∷ held) zero h there is = let one = one_more y held h.table (ap (λ (z : Held). z.table) (sym is)) in omega (arith, one)
    shares (y ∷ held) (suc at) h there is = let rest = shares held at h (omega (arith, there)) is in elim (cases_eq y.table h.table) as (λ _. 1 ≤ sharers (y ∷ held) h.table) [
      | inl e ↦ let one = one_more y held h.table e in omega (arith, one)
      | inr off ↦ let same = no_more y held h.table off in omega (arith, same, rest)
    ]

-- Tables

pub shown_at : (tables : List Table) (n : ℕ) (t : Table) → n < length tables → t ≡ get_or tables n t → get_or (all_shown tables) n [] ≡ shown t.entries
shown_at [] n t within is = absurd (omega (arith, within))
shown_at (x ∷ tables) zero t within is = ap (λ (y : Table). shown y.entries) (sym is)
shown_at (x ∷ tables) (suc n) t within is = shown_at tables n t (omega (arith, within)) is

set_shown : (tables : List Table) (n : ℕ) (t : Table) → all_shown (set tables n t) ≡ set (all_shown tables) n (shown t.entries)
set_shown [] n t = refl
set_shown (x ∷ tables) zero t = refl
set_shown (x ∷ tables) (suc n) t = ap (λ (l : List (List Pair)). shown x.entries ∷ l) (set_shown tables n t)

push_shown : (tables : List Table) (t : Table) → all_shown (tables ++ t ∷ []) ≡ all_shown tables ++ shown t.entries ∷ []
push_shown [] t = refl
push_shown (x ∷ tables) t = ap (λ (l : List (List Pair)). shown x.entries ∷ l) (push_shown tables t)

push_store : (tables : List (List Pair)) (held : List Held) (h : Held) → held_store tables (held ++ h ∷ []) ≡ held_store tables held ++ held_version tables h ∷ []
push_store tables [] h = refl
push_store tables (x ∷ held) h = ap (λ (l : Store). held_version tables x ∷ l) (push_store tables held h)

pushed : (P : Held → Type 0) (held : List Held) (h : Held) → AllByRecursion P held → P h → AllByRecursion P (held ++ h ∷ [])
pushed P [] h all there = (there, tt)
pushed P (x ∷ held) h all there = (all.0, pushed P held h all.1 there)

-- What each change comes to

-- the version at a place
is_version : (tables : List (List Pair)) (held : List Held) (at : ℕ) (h : Held) (version : StoreVersion) → at < length held → h ≡ get_or held at h → slice_get (held_store tables held) at ≡ Some version → held_version tables h ≡ version
is_version tables held at h version there is got = let same : Some (held_version tables h) ≡ Some version = sym (store_there tables held at h there is) ∙ got in cc

pub frozen_in : (tables : List (List Pair)) (held : List Held) (at : ℕ) (h : Held) → at < length held → h ≡ get_or held at h
    → Freezes (held_store tables held) at (held_store tables (set held at (record h { frozen = true })))
frozen_in tables held at h there is = λ version got.
    let same = is_version tables held at h version there is got in
    set_version tables held at (record h { frozen = true }) ∙ ap (λ (v : StoreVersion). set (held_store tables held) at (record v { head = frozen_head v.head })) same

pub table_unused : (tables : List Table) (held : List Held) (t : Table) → AreHeld (all_shown tables) held → held_store (all_shown (tables ++ t ∷ [])) held ≡ held_store (all_shown tables) held
table_unused tables held t are = ap (λ (l : List (List Pair)). held_store l held) (push_shown tables t) ∙ push_table (all_shown tables) (shown t.entries) held are

pub pushed_held : (tables : List Table) (held : List Held) (h : Held) (t : Table) → AreHeld (all_shown tables) held → h.table ≡ length tables → AreHeld (all_shown (tables ++ t ∷ [])) (held ++ h ∷ [])
pushed_held tables held h t are own =
    let all : AreHeld (all_shown (tables ++ t ∷ [])) held = subst (λ (l : List (List Pair)). AreHeld l held) (sym (push_shown tables t)) (held_more (all_shown tables) (shown t.entries) held are) in
    let long = ap (λ (l : List (List Pair)). length l) (push_shown tables t) in
    pushed (λ (x : Held). x.table < length (all_shown (tables ++ t ∷ []))) held h all
    (omega (arith, own, long, length-append (all_shown tables) (shown t.entries ∷ []), length-map tables (λ (x : Table). shown x.entries)))

pub pushed_store : (tables : List Table) (held : List Held) (h : Held) (t : Table) → AreHeld (all_shown tables) held → h.table ≡ length tables
    → held_store (all_shown (tables ++ t ∷ [])) (held ++ h ∷ []) ≡ held_store (all_shown tables) held ++ record { head = held_head h; pairs = shown t.entries } ∷ []
pushed_store tables held h t are own =
    let mine : get_or (all_shown tables ++ shown t.entries ∷ []) h.table [] ≡ shown t.entries = get_or_push (all_shown tables) (shown t.entries) [] h.table (length-map tables (λ (x : Table). shown x.entries) ∙ sym own) in
    ap (λ (l : List (List Pair)). held_store l (held ++ h ∷ [])) (push_shown tables t)
    ∙ push_store (all_shown tables ++ shown t.entries ∷ []) held h
    ∙ (λ k. push_table (all_shown tables) (shown t.entries) held are k ++ (record { head = held_head h; pairs = mine k }) ∷ [])

pub child_pushed : (tables : List (List Pair)) (held : List Held) (at : ℕ) (h child : Held) → at < length held → h ≡ get_or held at h → child.table ≡ h.table
    → (version : StoreVersion) → slice_get (held_store tables held) at ≡ Some version
    → held_store tables (held ++ child ∷ []) ≡ held_store tables held ++ record { head = held_head child; pairs = version.pairs } ∷ []
child_pushed tables held at h child there is shares version got =
    let same = is_version tables held at h version there is got in
    let pairs : get_or tables child.table [] ≡ version.pairs = ap (λ (n : ℕ). get_or tables n []) shares ∙ ap (λ (v : StoreVersion). v.pairs) same in
    push_store tables held child ∙ (λ k. held_store tables held ++ (record { head = held_head child; pairs = pairs k }) ∷ [])

-- what is read twice at a place
pub same_read : (held : List Held) (at : ℕ) (one other : Held) → at < length held → one ≡ get_or held at one → other ≡ get_or held at other → one ≡ other
same_read [] at one other there is other_is = absurd (omega (arith, there))
same_read (x ∷ held) zero one other there is other_is = is ∙ sym other_is
same_read (x ∷ held) (suc at) one other there is other_is = same_read held at one other (omega (arith, there)) is other_is

-- a version gets a table of its own with the same pairs
pub apart_same : (tables : List Table) (held : List Held) (at : ℕ) (h : Held) (own : ℕ) (old new : Table) → AreHeld (all_shown tables) held → at < length held → h ≡ get_or held at h → own ≡ length tables
    → old ≡ get_or tables h.table old → shown new.entries ≡ shown old.entries
    → held_store (all_shown (tables ++ new ∷ [])) (set held at (record h { table = own })) ≡ held_store (all_shown tables) held
apart_same tables held at h own old new are there is own_is old_is same =
    let all = all_shown tables ++ shown new.entries ∷ [] in
    let counted = length-map tables (λ (x : Table). shown x.entries) in
    let within = table_there (all_shown tables) held at h are there is in
    let mine : get_or all own [] ≡ shown new.entries = get_or_push (all_shown tables) (shown new.entries) [] own (counted ∙ sym own_is) in
    let before : get_or (all_shown tables) h.table [] ≡ shown old.entries = shown_at tables h.table old (omega (arith, within, counted)) old_is in
    let kept = push_table (all_shown tables) (shown new.entries) held are in
    let version : held_version all (record h { table = own }) ≡ held_version (all_shown tables) h = λ k. record { head = held_head h; pairs = (mine ∙ same ∙ sym before) k } in
    ap (λ (l : List (List Pair)). held_store l (set held at (record h { table = own }))) (push_shown tables new)
    ∙ set_version all held at (record h { table = own })
    ∙ (λ k. set (kept k) at (version k))
    ∙ set_same (held_store (all_shown tables) held) at (held_version (all_shown tables) h) (store_there (all_shown tables) held at h there is)

pub apart_alone : (tables : List Table) (held : List Held) (at : ℕ) (h : Held) (own : ℕ) → AreHeld (all_shown tables) held → at < length held → own ≡ length tables → IsAlone (set held at (record h { table = own })) at
apart_alone tables held at h own are there own_is =
    let new : Held = record h { table = own } in
    let counted = length-map tables (λ (x : Table). shown x.entries) in
    let below : AllByRecursion (λ x. x.table < own) held = subst (λ (n : ℕ). AllByRecursion (λ x. x.table < n) held) (counted ∙ sym own_is) are in
    let got : slice_get (set held at new) at ≡ Some new = slice_get_read (set held at new) (length (set held at new)) at new refl (omega (arith, there, length-set held at new)) (sym (get_or-set_same held at new new there)) in
    subst (λ (o : Option Held). MatchOption o ⊥ (λ x. sharers (set held at new) x.table < 2)) (sym got) (new_alone held at new below)

-- steps are done in a table that no other version has
pub taken_alone : (tables : List Table) (held : List Held) (at : ℕ) (h : Held) (old new : Table) (change : List Pair → List Pair) → AreHeld (all_shown tables) held → at < length held → h ≡ get_or held at h → IsAlone held at
    → old ≡ get_or tables (get_or held at h).table old → shown new.entries ≡ change (shown old.entries)
    → (version : StoreVersion) → slice_get (held_store (all_shown tables) held) at ≡ Some version
    → held_store (all_shown (set tables (get_or held at h).table new)) held ≡ set (held_store (all_shown tables) held) at (record version { pairs = change version.pairs })
taken_alone tables held at h old new change are there is alone old_is does version got =
    let counted = length-map tables (λ (x : Table). shown x.entries) in
    let within = table_there (all_shown tables) held at h are there is in
    let mine : slice_get held at ≡ Some h = slice_get_read held (length held) at h refl there is in
    let few : sharers held h.table < 2 = subst (λ (o : Option Held). MatchOption o ⊥ (λ x. sharers held x.table < 2)) mine alone in
    let before : get_or (all_shown tables) h.table [] ≡ shown old.entries = shown_at tables h.table old (omega (arith, within, counted)) (old_is ∙ ap (λ (x : Held). get_or tables x.table old) (sym is)) in
    let same = is_version (all_shown tables) held at h version there is got in
    let new_version : (record { head = held_head h; pairs = shown new.entries }) ≡ (record version { pairs = change version.pairs }) =
    λ k. record { head = (same k).head; pairs = (does ∙ ap change (sym before ∙ ap (λ (v : StoreVersion). v.pairs) same)) k } in
    ap (λ (x : Held). held_store (all_shown (set tables x.table new)) held) (sym is)
    ∙ ap (λ (l : List (List Pair)). held_store l held) (set_shown tables h.table new)
    ∙ set_alone (all_shown tables) held at h (shown new.entries) there is within few
    ∙ ap (λ (v : StoreVersion). set (held_store (all_shown tables) held) at v) new_version

-- nothing is done there
pub same_table : (tables : List Table) (held : List Held) (n : ℕ) (old new : Table) → old ≡ get_or tables n old → shown new.entries ≡ shown old.entries → held_store (all_shown (set tables n new)) held ≡ held_store (all_shown tables) held
same_table tables held n old new is same = ap (λ (l : List (List Pair)). held_store l held) (keeps tables n is)
  where
    keeps : (tables : List Table) (n : ℕ) → old ≡ get_or tables n old → all_shown (set tables n new) ≡ all_shown tables
    keeps [] n is = refl
    keeps (x ∷ tables) zero is = ap (λ (ps : List Pair). ps ∷ all_shown tables) (same ∙ ap (λ (y : Table). shown y.entries) is)
    keeps (x ∷ tables) (suc n) is = ap (λ (l : List (List Pair)). shown x.entries ∷ l) (keeps tables n is)
