-- The tests of headers, counts, entries and roots.
use Rattle.std.proofs.Common.{◌≡◌, ◌<◌, ◌≤◌, inl, inr, ℕ, suc, Bool, true, false, not, ◌&&◌, List, [], ◌∷◌, length, arith, Option, Some, None, refl, ap, sym, subst, ◌∙◌}
use Rattle.std.specs.Prelude.{MatchBool, nat_eq, is_some}
use Rattle.std.proofs.lemmas.Bool.{eqb-true, eq-eqb}
use Rattle.mn_mini.specs.Flat.{bytes_in}
use Rattle.mn_page.specs.declared.entry.CatEntry.{CatEntry}
use Rattle.mn_page.specs.declared.page.Page.{Page}
use Rattle.mn_page.specs.Forest.{header_bytes}
use Rattle.mn_base.specs.declared.ids.Addr.{Addr}
use Rattle.mn_base.proofs.Booleans.{both_parts}
use Rattle.mn_page.specs.Grammar.{IsUnused, IsFree}
use Rattle.mn_page.specs.Holds.{HasVersions}
use Rattle.mn_page.proofs.Spelled.{page_spelled_once}
use Rattle.mn_forest.specs.Rules.{HasHeader, HasEntry, HasRootAt, EntryFits, IsReadable, ReadsAs, IsRootAt, StandsAt, entry_place, entry_of, space_at, zeros, HasPage, count_at, slot_place}

-- both hold, or one does not
pub both_hold : (P Q : Type 0) (a b : Bool) → MatchBool a P (P → ⊥) → MatchBool b Q (Q → ⊥) → MatchBool (a && b) (P × Q) (P × Q → ⊥)
both_hold P Q true true p q = (p, q)
both_hold P Q true false p q = λ w. q w.1
both_hold P Q false b p q = λ w. p w.0

pub means : (P Q : Type 0) (b : Bool) → (P → Q) → (Q → P) → MatchBool b P (P → ⊥) → MatchBool b Q (Q → ⊥)
means P Q true f g p = f p
means P Q false f g p = λ q. p (g q)

pub header_parts : (memory : List (List ℕ)) (n : ℕ) (a b c : Bool)
    → MatchBool a (bytes_in (space_at memory n) 0 16 ≡ header_bytes (length memory) n) (bytes_in (space_at memory n) 0 16 ≡ header_bytes (length memory) n → ⊥)
    → MatchBool b (bytes_in (space_at memory n) 24 40 ≡ zeros 40) (bytes_in (space_at memory n) 24 40 ≡ zeros 40 → ⊥)
    → MatchBool c (bytes_in (space_at memory n) 4160 16320 ≡ zeros 16320) (bytes_in (space_at memory n) 4160 16320 ≡ zeros 16320 → ⊥)
    → MatchBool (a && (b && c)) (HasHeader memory n) (HasHeader memory n → ⊥)
header_parts memory n a b c p q r =
    let sp = space_at memory n in
    means _ (HasHeader memory n) (a && (b && c)) (λ w. record { front = w.0; behind = w.1.0; kept = w.1.1 }) (λ h. (h.front, (h.behind, h.kept)))
    (both_hold (bytes_in sp 0 16 ≡ header_bytes (length memory) n) ((bytes_in sp 24 40 ≡ zeros 40) × (bytes_in sp 4160 16320 ≡ zeros 16320)) a (b && c) p
    (both_hold (bytes_in sp 24 40 ≡ zeros 40) (bytes_in sp 4160 16320 ≡ zeros 16320) b c q r))

pub entry_parts : (memory : List (List ℕ)) (es : List (Option CatEntry)) (w : ℕ) (a b : Bool) → MatchBool a (IsReadable (entry_place memory 0 w)) (IsReadable (entry_place memory 0 w) → ⊥)
    → MatchBool b (EntryFits es w (entry_of es w)) (EntryFits es w (entry_of es w) → ⊥) → MatchBool (a && b) (HasEntry memory es w) (HasEntry memory es w → ⊥)
entry_parts memory es w a b p q =
    means _ (HasEntry memory es w) (a && b) (λ w. record { grammar = w.0; fits = w.1 }) (λ h. (h.grammar, h.fits)) (both_hold (IsReadable (entry_place memory 0 w)) (EntryFits es w (entry_of es w)) a b p q)

-- a place that says nothing can be read just where it is unused
pub unused_readable : (place : List ℕ) (b : Bool) → ReadsAs place None → MatchBool b (IsUnused place) (IsUnused place → ⊥) → MatchBool b (IsReadable place) (IsReadable place → ⊥)
unused_readable place b none = means (IsUnused place) (IsReadable place) b (λ u. inl u) (λ r. elim r as (λ _. IsUnused place) [ inl u ↦ u | inr s ↦ absurd (none s.0 s.1) ])

-- one page stands at an address
pub one_page : (memory : List (List ℕ)) (addr : Addr) (p q : Page) → StandsAt memory addr p → StandsAt memory addr q → p ≡ q
one_page memory addr p q a b = page_spelled_once p q a.1.0 b.1.0 (sym a.1.1 ∙ b.1.1)

-- Roots

no_length : (l : List ℕ) → nat_eq (length l) 0 ≡ true → l ≡ []
no_length [] e = refl
no_length (x ∷ l) e = absurd (let h : suc (length l) ≡ 0 = eqb-true (suc (length l)) 0 e in omega arith)

no_bound : (o : Option (List ℕ)) → not (is_some o) ≡ true → o ≡ None
no_bound None e = refl
no_bound (Some x) e = absurd cc

pub root_in : (memory : List (List ℕ)) (w : ℕ) (e : CatEntry) (p : Page) (b : Bool) → StandsAt memory e.root p → b ≡ (nat_eq p.made.0 w && (nat_eq (length p.low) 0 && not (is_some p.high))) → MatchBool b (IsRootAt memory w e) (IsRootAt memory w e → ⊥)
root_in memory w e p true stands is =
    let one = both_parts _ _ (sym is) in
    let two = both_parts _ _ one.1 in
    record { page = p; there = stands; made = eqb-true p.made.0 w one.0; low = no_length p.low two.0; high = no_bound p.high two.1 }
root_in memory w e p false stands is = λ r.
    let same : r.page ≡ p = one_page memory e.root r.page p r.there stands in
    let made : nat_eq p.made.0 w ≡ true = eq-eqb p.made.0 w (ap (λ (q : Page). q.made.0) (sym same) ∙ r.made) in
    let low : nat_eq (length p.low) 0 ≡ true = ap (λ (l : List ℕ). nat_eq (length l) 0) (ap (λ (q : Page). q.low) (sym same) ∙ r.low) in
    let high : not (is_some p.high) ≡ true = ap (λ (o : Option (List ℕ)). not (is_some o)) (ap (λ (q : Page). q.high) (sym same) ∙ r.high) in
    absurd (cc (made, low, high, is))

pub no_root : (memory : List (List ℕ)) (w : ℕ) (e : CatEntry) → ((p : Page) → StandsAt memory e.root p → ⊥) → IsRootAt memory w e → ⊥
no_root memory w e none r = none r.page r.there

pub root_of_entry : (memory : List (List ℕ)) (es : List (Option CatEntry)) (w : ℕ) (e : CatEntry) (b : Bool) → entry_of es w ≡ Some e → MatchBool b (IsRootAt memory w e) (IsRootAt memory w e → ⊥) → MatchBool b (HasRootAt memory es 0 w) (HasRootAt memory es 0 w → ⊥)
root_of_entry memory es w e b is =
    means (IsRootAt memory w e) (HasRootAt memory es 0 w) b (λ r f at. let same : e ≡ f = cc in subst (λ (x : CatEntry). IsRootAt memory w x) same r) (λ h. h e is)

pub root_of_none : (memory : List (List ℕ)) (es : List (Option CatEntry)) (w : ℕ) → entry_of es w ≡ None → HasRootAt memory es 0 w
root_of_none memory es w is = λ f at. absurd cc

-- Pages

-- from the count on a slot is free, or the rule fails
pub page_behind : (memory : List (List ℕ)) (entries : List CatEntry) (addr : Addr) (b : Bool) → count_at memory addr.node.0 ≤ addr.slot → MatchBool b (IsFree (slot_place memory addr.node.0 addr.slot)) (IsFree (slot_place memory addr.node.0 addr.slot) → ⊥)
    → MatchBool b (HasPage memory entries addr) (HasPage memory entries addr → ⊥)
page_behind memory entries addr b high = means (IsFree (slot_place memory addr.node.0 addr.slot)) (HasPage memory entries addr) b (λ f. record { below = λ low. absurd (omega arith); behind = λ _. f }) (λ h. h.behind high)

-- below it a page stands there whose versions fit, or the rule fails
pub page_below : (memory : List (List ℕ)) (entries : List CatEntry) (addr : Addr) (p : Page) (b : Bool) → addr.slot < count_at memory addr.node.0 → StandsAt memory addr p → MatchBool b (HasVersions entries p) (HasVersions entries p → ⊥)
    → MatchBool b (HasPage memory entries addr) (HasPage memory entries addr → ⊥)
page_below memory entries addr p b low stands =
    means (HasVersions entries p) (HasPage memory entries addr) b (λ v. record { below = λ _. (p, stands.1, v); behind = λ high. absurd (omega arith) })
    (λ h. let q = h.below low in let same : q.0 ≡ p = one_page memory addr q.0 p (low, q.1) stands in subst (λ (x : Page). HasVersions entries x) same q.2)

pub page_missing : (memory : List (List ℕ)) (entries : List CatEntry) (addr : Addr) → addr.slot < count_at memory addr.node.0 → ((p : Page) → StandsAt memory addr p → ⊥) → HasPage memory entries addr → ⊥
page_missing memory entries addr low none h = let q = h.below low in none q.0 (low, q.1)
