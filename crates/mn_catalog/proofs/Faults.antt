-- What the places that were read say of the catalog.
use Rattle.std.proofs.Common.{◌≡◌, ◌⊎◌, ℕ, Bool, true, ◌*◌, ◌-◌, drop, zero, suc, ◌+◌, ◌<◌, ◌≤◌, List, [], ◌∷◌, ◌++◌, length, slice_get, Option, Some, None, MatchOption, refl, sym, ap, subst, ◌∙◌, inl, inr, arith, length-append}
use Rattle.std.specs.Prelude.{nat_eq}
use Rattle.std.specs.List.{list_all}
use Rattle.std.proofs.lemmas.List.{drop-drop, length-drop, length-take-le}
use Rattle.mn_base.proofs.Booleans.{right_true}
use Rattle.mn_base.proofs.Naturals.{below_or}
use Rattle.mn_page.proofs.PageText.{free_zeros}
use Rattle.mn_page.proofs.Scanned.{all_take}
use Rattle.mn_page.specs.Grammar.{IsUnused, SpellsEntry, SpellsNoEntry}
use Rattle.mn_page.specs.declared.entry.CatEntry.{CatEntry}
use Rattle.mn_catalog.specs.Grammar.{place_bytes, IsAtFault, IsFirstAtFault, SpellsCatalog, SpellsNoCatalog, RefusesCatalog, IsWantOfMemory}
use Rattle.mn_catalog.specs.Places.{IsEntryRead, AreRead, RefusesPlace}
use Rattle.mn_catalog.specs.declared.error.CatError.{CatError}
use Rattle.mn_catalog.specs.declared.error.CatError.TheVariants.{BadCatalog, NoMemory}
use Rattle.mn_catalog.proofs.Spread.{told_at, spelled, within, catalog_length}

past : (es : List CatEntry) (w : ℕ) → length es ≤ w → slice_get es w ≡ None
past [] w h = refl
past (e ∷ es) zero h = absurd (omega (arith, h))
past (e ∷ es) (suc w) h = past es w (omega (arith, h))

past_none : (es : List CatEntry) (w : ℕ) → slice_get es w ≡ None → length es ≤ w
past_none [] w h = omega arith
past_none (e ∷ es) zero h = cc
past_none (e ∷ es) (suc w) h = omega (arith, past_none es w h)

none_some : {P : Type 0} (e : CatEntry) → None ≡ Some e → P
none_some e h = cc

-- Reading on

pub none_read : (bytes : List ℕ) → AreRead 0 bytes []
none_read bytes = (omega arith, λ w lt. absurd (omega (arith, lt)))

pub unused_read : (bytes : List ℕ) (m : ℕ) (es : List CatEntry) → AreRead m bytes es
    → IsEntryRead (place_bytes m bytes) None → AreRead (m + 1) bytes es
unused_read bytes m es a r = (omega (arith, a.0), λ w lt. by w lt (below_or w m))
  where
    by : (w : ℕ) → w < m + 1 → (w < m) ⊎ (m ≤ w) → IsEntryRead (place_bytes w bytes) (slice_get es w)
    by w lt (inl low) = a.1 w low
    by w lt (inr high) =
        let here : m ≡ w = omega (arith, lt, high) in
        subst (λ k. IsEntryRead (place_bytes k bytes) (slice_get es k)) here (subst (IsEntryRead (place_bytes m bytes)) (sym (past es m a.0)) r)

all_drop : (p : ℕ → Bool) (n : ℕ) (bs : List ℕ) → list_all p bs ≡ true
    → list_all p (drop n bs) ≡ true
all_drop p zero bs h = h
all_drop p (suc n) [] h = h
all_drop p (suc n) (b ∷ bs) h = all_drop p n bs (right_true (p b) (list_all p bs) h)

rest_unused : (bytes : List ℕ) (m w : ℕ) → length bytes ≡ 4096 → m ≤ w → w < 64
    → list_all (λ b. nat_eq b 0) (drop (64 * m) bytes) ≡ true → IsUnused (place_bytes w bytes)
rest_unused bytes m w whole high lt h =
    let here : 64 * m + 64 * (w - m) ≡ 64 * w = omega (arith, high) in
    let further = drop-drop (64 * (w - m)) (64 * m) bytes ∙ ap (λ n. drop n bytes) here in
    let behind = subst (λ (l : List ℕ). list_all (λ b. nat_eq b 0) l ≡ true) further (all_drop (λ b. nat_eq b 0) (64 * (w - m)) (drop (64 * m) bytes) h) in
    let size = length-take-le 64 (drop (64 * w) bytes) (omega (arith, whole, lt, length-drop (64 * w) bytes)) in
    (free_zeros 64 (place_bytes w bytes) size).0 (all_take (λ b. nat_eq b 0) 64 (drop (64 * w) bytes) behind)

-- an unused place with nothing but zeros behind it is the end of what is used
pub rest_read : (bytes : List ℕ) (m : ℕ) (es : List CatEntry) → length bytes ≡ 4096 → m < 64
    → AreRead m bytes es → IsEntryRead (place_bytes m bytes) None
    → list_all (λ b. nat_eq b 0) (drop (64 * m) bytes) ≡ true → AreRead 64 bytes es
rest_read bytes m es whole there a r h = (omega (arith, a.0, there), λ w lt. by w lt (below_or w m))
  where
    by : (w : ℕ) → w < 64 → (w < m) ⊎ (m ≤ w) → IsEntryRead (place_bytes w bytes) (slice_get es w)
    by w lt (inl low) = a.1 w low
    by w lt (inr high) =
        let same = rest_unused bytes m m whole (omega arith) there h ∙ sym (rest_unused bytes m w whole high lt h) in
        subst (IsEntryRead (place_bytes w bytes)) (sym (past es w (omega (arith, a.0, high)))) (subst (λ (p : List ℕ). IsEntryRead p None) same r)

pushed_old : (es : List CatEntry) (e : CatEntry) (w : ℕ) → w < length es
    → slice_get (es ++ e ∷ []) w ≡ slice_get es w
pushed_old [] e w h = absurd (omega (arith, h))
pushed_old (x ∷ es) e zero h = refl
pushed_old (x ∷ es) e (suc w) h = pushed_old es e w (omega (arith, h))

pushed_new : (es : List CatEntry) (e : CatEntry) → slice_get (es ++ e ∷ []) (length es) ≡ Some e
pushed_new [] e = refl
pushed_new (x ∷ es) e = pushed_new es e

pub used_read : (bytes : List ℕ) (m : ℕ) (es : List CatEntry) (e : CatEntry) → AreRead m bytes es
    → m ≤ length es → IsEntryRead (place_bytes m bytes) (Some e) → AreRead (m + 1) bytes (es ++ e ∷ [])
used_read bytes m es e a full r =
    let all : length es ≡ m = omega (arith, a.0, full) in
    (omega (arith, all, length-append es (e ∷ [])), λ w lt. by all w lt (below_or w m))
  where
    by : length es ≡ m → (w : ℕ) → w < m + 1 → (w < m) ⊎ (m ≤ w)
        → IsEntryRead (place_bytes w bytes) (slice_get (es ++ e ∷ []) w)
    by all w lt (inl low) = subst (IsEntryRead (place_bytes w bytes)) (sym (pushed_old es e w (omega (arith, all, low)))) (a.1 w low)
    by all w lt (inr high) =
        let here : m ≡ w = omega (arith, lt, high) in
        let new : slice_get (es ++ e ∷ []) m ≡ Some e = subst (λ k. slice_get (es ++ e ∷ []) k ≡ Some e) all (pushed_new es e) in
        subst (λ k. IsEntryRead (place_bytes k bytes) (slice_get (es ++ e ∷ []) k)) here (subst (IsEntryRead (place_bytes m bytes)) (sym new) r)

-- Faults

-- no place that was read is at fault
sound : (bytes : List ℕ) (m : ℕ) (es : List CatEntry) → AreRead m bytes es → (w : ℕ) → w < m
    → IsAtFault bytes w → ⊥
sound bytes m es a w lt (inl none) = by (slice_get es w) (a.1 w lt).told
  where
    by : (o : Option CatEntry)
        → MatchOption o (IsUnused (place_bytes w bytes)) (SpellsEntry (place_bytes w bytes)) → ⊥
    by None t = none.0 t
    by (Some e) t = none.1 e t
sound bytes m es a w lt (inr behind) =
    let gap = behind.1 in
    let ended = past_none es gap.0 ((a.1 gap.0 (omega (arith, lt, gap.1))).unused gap.2) in
    let none : slice_get es w ≡ None = past es w (omega (arith, ended, gap.1)) in
    behind.0 (subst (λ o. MatchOption o (IsUnused (place_bytes w bytes)) (SpellsEntry (place_bytes w bytes))) none (a.1 w lt).told)

-- the next place is outside the grammar of entries
pub bad_place : (bytes : List ℕ) (m : ℕ) (es : List CatEntry) → AreRead m bytes es → m < 64
    → SpellsNoEntry (place_bytes m bytes) → IsFirstAtFault bytes m
bad_place bytes m es a lt none = record { place = lt; fault = inl none; first = sound bytes m es a }

-- the next place is used behind an unused one
pub used_behind : (bytes : List ℕ) (m : ℕ) (es : List CatEntry) (e : CatEntry) → AreRead m bytes es
    → m < 64 → length es < m → IsEntryRead (place_bytes m bytes) (Some e) → IsFirstAtFault bytes m
used_behind bytes m es e a lt gap r =
    record { place = lt; fault = inr ((λ u. none_some e (sym (r.unused u))), (length es, gap, hole)); first = sound bytes m es a }
  where
    hole : IsUnused (place_bytes (length es) bytes)
    hole = subst (λ o. MatchOption o (IsUnused (place_bytes (length es) bytes)) (SpellsEntry (place_bytes (length es) bytes))) (past es (length es) (omega arith)) (a.1 (length es) gap).told

-- no catalog has a place outside the grammar of entries
pub none_with : (bytes : List ℕ) (w : ℕ) → w < 64 → SpellsNoEntry (place_bytes w bytes)
    → SpellsNoCatalog bytes
none_with bytes w lt none es s = by (slice_get es w) (told_at bytes es w s lt)
  where
    by : (o : Option CatEntry)
        → MatchOption o (IsUnused (place_bytes w bytes)) (SpellsEntry (place_bytes w bytes)) → ⊥
    by None t = none.0 t
    by (Some e) t = none.1 e t

-- nor one that is used behind an unused one
pub none_behind : (bytes : List ℕ) (m : ℕ) (es : List CatEntry) (e : CatEntry) → AreRead m bytes es
    → m < 64 → length es < m → IsEntryRead (place_bytes m bytes) (Some e) → SpellsNoCatalog bytes
none_behind bytes m es e a lt gap r others s = used (slice_get others m) refl (told_at bytes others m s lt)
  where
    unused : (o : Option CatEntry) → slice_get others (length es) ≡ o
        → MatchOption o (IsUnused (place_bytes (length es) bytes)) (SpellsEntry (place_bytes (length es) bytes)) → m < length others → ⊥
    unused None h t more = let ended = past_none others (length es) h in absurd (omega (arith, ended, gap, more))
    unused (Some x) h t more = none_some x (sym (past es (length es) (omega arith)) ∙ (a.1 (length es) gap).entry x t)

    used : (o : Option CatEntry) → slice_get others m ≡ o
        → MatchOption o (IsUnused (place_bytes m bytes)) (SpellsEntry (place_bytes m bytes)) → ⊥
    used None h t = none_some e (sym (r.unused t))
    used (Some x) h t = unused (slice_get others (length es)) refl (told_at bytes others (length es) s (omega (arith, gap, lt))) (within others m x h)

-- Whole catalogs

pub whole : (bytes : List ℕ) (es : List CatEntry) → length bytes ≡ 4096 → AreRead 64 bytes es
    → SpellsCatalog bytes es
whole bytes es long a = spelled bytes es long a.0 (λ w lt. (a.1 w lt).told)

same_places : (n : ℕ) (xs ys : List CatEntry) → length xs ≤ n → length ys ≤ n
    → ((w : ℕ) → w < n → slice_get xs w ≡ slice_get ys w) → xs ≡ ys
same_places n [] [] h k f = refl
same_places zero (x ∷ xs) ys h k f = absurd (omega (arith, h))
same_places zero [] (y ∷ ys) h k f = absurd (omega (arith, k))
same_places (suc n) [] (y ∷ ys) h k f = none_some y (f 0 (omega arith))
same_places (suc n) (x ∷ xs) [] h k f = none_some x (sym (f 0 (omega arith)))
same_places (suc n) (x ∷ xs) (y ∷ ys) h k f =
    let first : x ≡ y = some_same (f 0 (omega arith)) in
    ap (λ e. e ∷ xs) first ∙ ap (λ l. y ∷ l) (same_places n xs ys (omega (arith, h)) (omega (arith, k)) (λ w lt. f (suc w) (omega (arith, lt))))
  where
    some_same : {a b : CatEntry} → Some a ≡ Some b → a ≡ b
    some_same e = cc

pub one_catalog : (bytes : List ℕ) (es others : List CatEntry) → AreRead 64 bytes es
    → SpellsCatalog bytes others → es ≡ others
one_catalog bytes es others a s = same_places 64 es others a.0 s.0.0 (λ w lt. by w lt (slice_get others w) refl (told_at bytes others w s lt))
  where
    by : (w : ℕ) → w < 64 → (o : Option CatEntry) → slice_get others w ≡ o
        → MatchOption o (IsUnused (place_bytes w bytes)) (SpellsEntry (place_bytes w bytes))
        → slice_get es w ≡ slice_get others w
    by w lt None h t = (a.1 w lt).unused t ∙ sym h
    by w lt (Some e) h t = (a.1 w lt).entry e t ∙ sym h

-- Answers

pub refused : (bytes : List ℕ) (m : ℕ) (es : List CatEntry) → length bytes ≡ 4096
    → AreRead m bytes es → m < 64 → (e : CatError) → RefusesPlace m (place_bytes m bytes) e
    → RefusesCatalog bytes e
refused bytes m es long a lt (BadCatalog entry) r = inl (long, subst (IsFirstAtFault bytes) (sym r.0) (bad_place bytes m es a lt r.1))
refused bytes m es long a lt NoMemory r = tt

pub outside : (bytes : List ℕ) (m : ℕ) → m < 64 → (e : CatError)
    → RefusesPlace m (place_bytes m bytes) e → (IsWantOfMemory e → ⊥) → SpellsNoCatalog bytes
outside bytes m lt (BadCatalog entry) r other = none_with bytes m lt r.1
outside bytes m lt NoMemory r other = absurd (other refl)

-- no catalog has another length
pub other_length : (bytes : List ℕ) → (length bytes ≡ 4096 → ⊥) → SpellsNoCatalog bytes
other_length bytes other es s = other (ap length s.1 ∙ catalog_length es s.0)
