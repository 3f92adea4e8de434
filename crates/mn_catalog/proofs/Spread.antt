-- The bytes of a catalog, place by place.
use Rattle.std.proofs.Common.{◌≡◌, ℕ, zero, suc, ◌+◌, ◌-◌, ◌*◌, ◌<◌, ◌≤◌, List, [], ◌∷◌, ◌++◌, length, take, drop, replicate, slice_get, Option, Some, None, MatchOption, All, refl, sym, ap, subst, ◌∙◌, arith, length-append}
use Rattle.std.specs.List.{flat_map}
use Rattle.std.proofs.Math.Seq.{take-append_seam, drop-append-add}
use Rattle.std.proofs.lemmas.List.{replicate-append-replicate, append_assoc, length-replicate, take-append-drop, length-drop, length-take-le}
use Rattle.std.proofs.lemmas.List.Elements.{All-nil, All-cons, All-head, All-tail}
use Rattle.mn_page.specs.Grammar.{padded, entry_bytes, IsEntry, IsUnused, SpellsEntry}
use Rattle.mn_page.specs.declared.entry.CatEntry.{CatEntry}
use Rattle.mn_page.proofs.Spelled.{entry_length, length-padded}
use Rattle.mn_catalog.specs.Grammar.{place_bytes, catalog_bytes, IsCatalog, SpellsCatalog}

-- the bytes of one place
abbrev pub block : Option CatEntry → List ℕ
block None = replicate 64 0
block (Some e) = entry_bytes e

-- the bytes of so many places
abbrev pub spread : ℕ → List CatEntry → List ℕ
spread zero es = []
spread (suc m) es = block (slice_get es 0) ++ spread m (drop 1 es)

later : (es : List CatEntry) (w : ℕ) → slice_get (drop 1 es) w ≡ slice_get es (suc w)
later [] w = refl
later (e ∷ es) w = refl

all_later : (es : List CatEntry) → All IsEntry es → All IsEntry (drop 1 es)
all_later [] a = a
all_later (e ∷ es) a = All-tail IsEntry e es a

block_length : (es : List CatEntry) → All IsEntry es → length (block (slice_get es 0)) ≡ 64
block_length [] a = length-replicate {A = ℕ} 64 0
block_length (e ∷ es) a = entry_length e (All-head IsEntry e es a)

first_place : (a b : List ℕ) → length a ≡ 64 → place_bytes 0 (a ++ b) ≡ a
first_place a b h = ap (λ n. take n (a ++ b)) (sym h) ∙ take-append_seam a b

next_place : (a b : List ℕ) (w : ℕ) → length a ≡ 64 → place_bytes (suc w) (a ++ b) ≡ place_bytes w b
next_place a b w h =
    let at : 64 * suc w ≡ length a + 64 * w = omega (arith, h) in
    ap (take 64) (ap (λ n. drop n (a ++ b)) at ∙ drop-append-add a b (64 * w))

-- each place has the bytes of its entry
place_of : (m : ℕ) (es : List CatEntry) (w : ℕ) → All IsEntry es → w < m
    → place_bytes w (spread m es) ≡ block (slice_get es w)
place_of zero es w a lt = absurd (omega (arith, lt))
place_of (suc m) es zero a lt = first_place (block (slice_get es 0)) (spread m (drop 1 es)) (block_length es a)
place_of (suc m) es (suc w) a lt =
    next_place (block (slice_get es 0)) (spread m (drop 1 es)) w (block_length es a)
    ∙ place_of m (drop 1 es) w (all_later es a) (omega (arith, lt))
    ∙ ap block (later es w)

no_bytes : (bytes : List ℕ) → length bytes ≡ 0 → bytes ≡ []
no_bytes [] h = refl
no_bytes (b ∷ bytes) h = absurd (omega (arith, h))

-- bytes whose places are those of the entries
built : (m : ℕ) (bytes : List ℕ) (es : List CatEntry) → length bytes ≡ 64 * m
    → ((w : ℕ) → w < m → place_bytes w bytes ≡ block (slice_get es w)) → bytes ≡ spread m es
built zero bytes es h f = no_bytes bytes (omega (arith, h))
built (suc m) bytes es h f =
    let long : 64 ≤ length bytes = omega (arith, h) in let front = length-take-le 64 bytes long in
    let behind : length (drop 64 bytes) ≡ 64 * m = omega (arith, h, length-drop 64 bytes) in
    let next = λ (w : ℕ) (lt : w < m).
    sym (ap (λ l. place_bytes (suc w) l) (sym (take-append-drop 64 bytes)) ∙ next_place (take 64 bytes) (drop 64 bytes) w front)
    ∙ f (suc w) (omega (arith, lt))
    ∙ ap block (sym (later es w)) in
    sym (take-append-drop 64 bytes)
    ∙ ap (λ l. l ++ drop 64 bytes) (f 0 (omega arith))
    ∙ ap (λ l. block (slice_get es 0) ++ l) (built m (drop 64 bytes) (drop 1 es) behind next)

spread_none : (m : ℕ) → spread m [] ≡ replicate (64 * m) 0
spread_none zero = refl
spread_none (suc m) =
    let whole : 64 + 64 * m ≡ 64 * suc m = omega arith in
    ap (λ l. replicate 64 0 ++ l) (spread_none m) ∙ replicate-append-replicate 64 (64 * m) 0 ∙ ap (λ n. replicate n 0) whole

-- the places are the entries, then zeros
spread_is : (m : ℕ) (es : List CatEntry) → All IsEntry es → length es ≤ m
    → spread m es ≡ padded (64 * m) (flat_map entry_bytes es)
spread_is m [] a h = let all : 64 * m ≡ 64 * m - 0 = omega arith in spread_none m ∙ ap (λ n. replicate n 0) all
spread_is zero (e ∷ es) a h = absurd (omega (arith, h))
spread_is (suc m) (e ∷ es) a h =
    let own = entry_bytes e in let others = flat_map entry_bytes es in
    let left : 64 * m - length others ≡ 64 * suc m - length (own ++ others) = omega (arith, entry_length e (All-head IsEntry e es a), length-append own others) in
    ap (λ l. own ++ l) (spread_is m es (All-tail IsEntry e es a) (omega (arith, h)))
    ∙ sym (append_assoc own others (replicate (64 * m - length others) 0))
    ∙ ap (λ n. (own ++ others) ++ replicate n 0) left

-- The catalog

-- what a catalog has at a place
pub told_at : (bytes : List ℕ) (es : List CatEntry) (w : ℕ) → SpellsCatalog bytes es → w < 64
    → MatchOption (slice_get es w) (IsUnused (place_bytes w bytes)) (SpellsEntry (place_bytes w bytes))
told_at bytes es w s lt = by (slice_get es w) refl (ap (place_bytes w) (s.1 ∙ sym (spread_is 64 es s.0.1 s.0.0)) ∙ place_of 64 es w s.0.1 lt)
  where
    entry_at : (xs : List CatEntry) (k : ℕ) (e : CatEntry) → All IsEntry xs
        → slice_get xs k ≡ Some e → IsEntry e
    entry_at [] k e a h = cc
    entry_at (x ∷ xs) zero e a h = let same : x ≡ e = cc in subst IsEntry same (All-head IsEntry x xs a)
    entry_at (x ∷ xs) (suc k) e a h = entry_at xs k e (All-tail IsEntry x xs a) h

    by : (o : Option CatEntry) → slice_get es w ≡ o → place_bytes w bytes ≡ block (slice_get es w)
        → MatchOption o (IsUnused (place_bytes w bytes)) (SpellsEntry (place_bytes w bytes))
    by None h p = p ∙ ap block h
    by (Some e) h p = (entry_at es w e s.0.1 h, p ∙ ap block h)

all_from : (es : List CatEntry) → ((w : ℕ) (e : CatEntry) → slice_get es w ≡ Some e → IsEntry e)
    → All IsEntry es
all_from [] f = All-nil IsEntry
all_from (e ∷ es) f = All-cons IsEntry e es (f 0 e refl) (all_from es (λ w x h. f (suc w) x h))

pub within : (es : List CatEntry) (w : ℕ) (e : CatEntry) → slice_get es w ≡ Some e → w < length es
within [] w e h = cc
within (x ∷ es) zero e h = omega arith
within (x ∷ es) (suc w) e h = omega (arith, within es w e h)

-- bytes that have at each place what a catalog of these entries has
pub spelled : (bytes : List ℕ) (es : List CatEntry) → length bytes ≡ 4096 → length es ≤ 64
    → ((w : ℕ) → w < 64 → MatchOption (slice_get es w) (IsUnused (place_bytes w bytes)) (SpellsEntry (place_bytes w bytes))) → SpellsCatalog bytes es
spelled bytes es long few told =
    let all = all_from es (λ w e h. (subst (λ o. MatchOption o (IsUnused (place_bytes w bytes)) (SpellsEntry (place_bytes w bytes))) h (told w (omega (arith, few, within es w e h)))).0) in
    ((few, all), built 64 bytes es long (λ w lt. by w (slice_get es w) refl (told w lt)) ∙ spread_is 64 es all few)
  where
    by : (w : ℕ) (o : Option CatEntry) → slice_get es w ≡ o
        → MatchOption o (IsUnused (place_bytes w bytes)) (SpellsEntry (place_bytes w bytes))
        → place_bytes w bytes ≡ block (slice_get es w)
    by w None h t = t ∙ sym (ap block h)
    by w (Some e) h t = t.1 ∙ sym (ap block h)

fits : (m : ℕ) (es : List CatEntry) → All IsEntry es → length es ≤ m
    → length (flat_map entry_bytes es) ≤ 64 * m
fits m [] a h = omega arith
fits zero (e ∷ es) a h = absurd (omega (arith, h))
fits (suc m) (e ∷ es) a h =
    let own = entry_length e (All-head IsEntry e es a) in let others = fits m es (All-tail IsEntry e es a) (omega (arith, h)) in
    omega (arith, own, others, length-append (entry_bytes e) (flat_map entry_bytes es))

pub catalog_length : (es : List CatEntry) → IsCatalog es → length (catalog_bytes es) ≡ 4096
catalog_length es s = length-padded 4096 (flat_map entry_bytes es) (fits 64 es s.1 s.0)
