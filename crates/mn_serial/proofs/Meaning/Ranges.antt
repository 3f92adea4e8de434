-- Ascending pairs cut at keys, and the pairs of leaves one after another.
use Rattle.std.proofs.Common.{◌≡◌, ℕ, ◌≤◌, ◌⊎◌, inl, inr, Bool, true, false, cond, not, ◌&&◌, List, [], ◌∷◌, ◌++◌, length, take, Option, Some, None, refl, subst, sym, ap, ◌∙◌}
use Rattle.std.specs.Prelude.{filter, unwrap_or}
use Rattle.std.specs.List.{AllByRecursion}
use Rattle.std.proofs.lemmas.List.{take-append-le}
use Rattle.mn_base.specs.Order.{key_lt, key_le, below_bound, covers_key}
use Rattle.mn_base.specs.Store.{is_ascending, pairs_within}
use Rattle.mn_base.specs.declared.reply.Pair.{Pair}
use Rattle.mn_page.specs.declared.page.Page.{Page}
use Rattle.mn_page.specs.Holds.{page_covers, pairs_in}
use Rattle.mn_page.proofs.Grid.{filter_both}
use Rattle.mn_base.proofs.Keys.{key_lt-trans}
use Rattle.mn_base.proofs.PairsWith.{AllAbove, all_above, ascending_parts}
use Rattle.mn_base.proofs.Booleans.{and_false, clash}
use Rattle.mn_law.specs.Shown.{IsChain, EndsAtOrAbove, ReachesEnd, BeginsAt, leaf_pairs}
use Rattle.mn_plans.proofs.Spaces.{lt_le}

-- Keys

not_lower : (a b c : List ℕ) → key_lt a b ≡ true → key_lt a c ≡ false → key_lt b c ≡ false
not_lower a b c less e = by (key_lt b c) refl
  where
    by : (t : Bool) → key_lt b c ≡ t → key_lt b c ≡ false
    by true f = absurd (clash (key_lt a c) (key_lt-trans a b c less f) e)
    by false f = f

-- Filters

none_left : (t : Pair → Bool) (xs : List Pair) → AllByRecursion (λ p. t p ≡ false) xs
    → filter t xs ≡ []
none_left t [] all = refl
none_left t (x ∷ xs) all = ap (λ b. cond b (x ∷ filter t xs) (filter t xs)) all.0 ∙ none_left t xs all.1

same_left : (t u : Pair → Bool) (xs : List Pair) → AllByRecursion (λ p. t p ≡ u p) xs
    → filter t xs ≡ filter u xs
same_left t u [] all = refl
same_left t u (x ∷ xs) all = ap (λ b. cond b (x ∷ filter t xs) (filter t xs)) all.0 ∙ ap (λ (ys : List Pair). cond (u x) (x ∷ ys) ys) (same_left t u xs all.1)

every : (P : Pair → Type 0) → ((p : Pair) → P p) → (xs : List Pair) → AllByRecursion P xs
every P f [] = tt
every P f (x ∷ xs) = (f x, every P f xs)

-- what a test passes is what one passes below the key and then what another passes above it
record Cuts (m : List ℕ) (a b w : Pair → Bool) : Type 0 where
  low : (p : Pair) → key_lt p.key m ≡ true → (a p ≡ w p) × (b p ≡ false)
  high : (p : Pair) → key_lt p.key m ≡ false → (a p ≡ false) × (b p ≡ w p)

cut : (m : List ℕ) (a b w : Pair → Bool) → Cuts m a b w → (ps : List Pair) → is_ascending ps ≡ true
    → filter a ps ++ filter b ps ≡ filter w ps
cut m a b w cuts [] asc = refl
cut m a b w cuts (x ∷ xs) asc = by (key_lt x.key m) refl (cut m a b w cuts xs (ascending_parts x xs asc).1)
  where
    join : (t : Bool) → filter a xs ++ filter b xs ≡ filter w xs
        → cond t (x ∷ filter a xs) (filter a xs) ++ filter b xs ≡ cond t (x ∷ filter w xs) (filter w xs)
    join true rest = ap (λ (l : List Pair). x ∷ l) rest
    join false rest = rest

    above : (ys : List Pair) → key_lt x.key m ≡ false → AllAbove x.key ys
        → AllByRecursion (λ p. a p ≡ false) ys × AllByRecursion (λ p. b p ≡ w p) ys
    above [] e all = (tt, tt)
    above (y ∷ ys) e all =
        let here = cuts.high y (not_lower x.key y.key m all.0 e) in
        let rest = above ys e all.1 in
        ((here.0, rest.0), (here.1, rest.1))

    by : (t : Bool) → key_lt x.key m ≡ t → filter a xs ++ filter b xs ≡ filter w xs
        → filter a (x ∷ xs) ++ filter b (x ∷ xs) ≡ filter w (x ∷ xs)
    by true e rest =
        let here = cuts.low x e in
        ap (λ t. cond (a x) (x ∷ filter a xs) (filter a xs) ++ cond t (x ∷ filter b xs) (filter b xs)) here.1
        ∙ (ap (λ t. cond t (x ∷ filter a xs) (filter a xs) ++ filter b xs) here.0 ∙ join (w x) rest)
    by false e rest =
        let parts = ascending_parts x xs asc in
        let behind = above xs e (all_above x.key xs parts.0 parts.1) in
        let here = cuts.high x e in
        ap (λ (l : List Pair). l ++ filter b (x ∷ xs)) (none_left a (x ∷ xs) (here.0, behind.0)) ∙ same_left b w (x ∷ xs) (here.1, behind.1)

-- Ranges

abbrev between : List ℕ → Option (List ℕ) → List Pair → List Pair
between low high ps = filter (λ p. covers_key low high p.key) ps

below_trans : (a b : List ℕ) (high : Option (List ℕ)) → key_lt a b ≡ true
    → below_bound b high ≡ true → below_bound a high ≡ true
below_trans a b None e f = refl
below_trans a b (Some h) e f = key_lt-trans a b h e f

join_ranges : (ps : List Pair) → is_ascending ps ≡ true → (low m : List ℕ) (high : Option (List ℕ))
    → key_lt low m ≡ true → below_bound m high ≡ true
    → between low (Some m) ps ++ between m high ps ≡ between low high ps
join_ranges ps asc low m high less fits = cut m (λ p. covers_key low (Some m) p.key) (λ p. covers_key m high p.key) (λ p. covers_key low high p.key) (record { low = λ p e. below p e; high = λ p e. above p e }) ps asc
  where
    below : (p : Pair) → key_lt p.key m ≡ true
        → (covers_key low (Some m) p.key ≡ covers_key low high p.key)
        × (covers_key m high p.key ≡ false)
    below p e = (ap (λ t. key_le low p.key && t) (e ∙ sym (below_trans p.key m high e fits)), ap (λ t. not t && below_bound p.key high) e)

    not_under : (p : Pair) → key_lt p.key m ≡ false → (t : Bool) → key_lt p.key low ≡ t
        → key_lt p.key low ≡ false
    not_under p e true f = absurd (clash (key_lt p.key m) (key_lt-trans p.key low m f less) e)
    not_under p e false f = f

    above : (p : Pair) → key_lt p.key m ≡ false
        → (covers_key low (Some m) p.key ≡ false)
        × (covers_key m high p.key ≡ covers_key low high p.key)
    above p e = (
      ap (λ t. key_le low p.key && t) e ∙ and_false (key_le low p.key),
      ap (λ t. not t && below_bound p.key high) e ∙ sym (ap (λ t. not t && below_bound p.key high) (not_under p e (key_lt p.key low) refl)),
    )

-- Leaves one after another

-- the leaf has the pairs of its range
pub record LeafOf (ps : List Pair) (p : Page) : Type 0 where
  pub pairs : pairs_in p.body ≡ filter (λ pair. page_covers pair.key p) ps
  pub fences : below_bound p.low p.high ≡ true

record Joined (ps : List Pair) (low : List ℕ) (leaves : List Page) : Type 0 where
  high : Option (List ℕ)
  all : leaf_pairs leaves ≡ between low high ps
  fits : below_bound low high ≡ true
  ends : (bound : Option (List ℕ)) → ReachesEnd bound leaves → EndsAtOrAbove bound high

append_none : (xs : List Pair) → xs ++ [] ≡ xs
append_none [] = refl
append_none (x ∷ xs) = ap (λ (l : List Pair). x ∷ l) (append_none xs)

joined : (ps : List Pair) → is_ascending ps ≡ true → (p : Page) (leaves : List Page)
    → AllByRecursion (LeafOf ps) (p ∷ leaves) → IsChain (p ∷ leaves) → Joined ps p.low (p ∷ leaves)
joined ps asc p [] all chain = record { high = p.high; all = append_none (pairs_in p.body) ∙ all.0.pairs; fits = all.0.fences; ends = λ bound e. e }
joined ps asc p (q ∷ leaves) all chain =
    let rest = joined ps asc q leaves all.1 chain.1 in
    let less : key_lt p.low q.low ≡ true = subst (λ (h : Option (List ℕ)). below_bound p.low h ≡ true) chain.0 all.0.fences in
    let own : pairs_in p.body ≡ between p.low (Some q.low) ps = subst (λ (h : Option (List ℕ)). pairs_in p.body ≡ between p.low h ps) chain.0 all.0.pairs in
    record {
      high = rest.high;
      all = ap (λ (l : List Pair). l ++ leaf_pairs (q ∷ leaves)) own ∙ (ap (λ (l : List Pair). between p.low (Some q.low) ps ++ l) rest.all ∙ join_ranges ps asc p.low q.low rest.high less rest.fits);
      fits = below_trans p.low q.low rest.high less rest.fits;
      ends = λ bound e. rest.ends bound e;
    }

-- The bounds of a scan

in_front : (low from : List ℕ) (high bound : Option (List ℕ)) (p : Pair) → key_le low from ≡ true
    → (covers_key low high p.key && covers_key from bound p.key) ≡ (below_bound p.key high && covers_key from bound p.key)
in_front low from high bound p le = by (key_lt p.key from) refl (key_lt p.key low) refl
  where
    not_true : (t : Bool) → not t ≡ true → t ≡ false
    not_true true e = absurd cc
    not_true false e = refl

    by : (t : Bool) → key_lt p.key from ≡ t → (u : Bool) → key_lt p.key low ≡ u
        → (covers_key low high p.key && covers_key from bound p.key) ≡ (below_bound p.key high && covers_key from bound p.key)
    by true e u f =
        ap (λ t. covers_key low high p.key && (not t && below_bound p.key bound)) e ∙ (and_false (covers_key low high p.key) ∙ sym (ap (λ t. below_bound p.key high && (not t && below_bound p.key bound)) e ∙ and_false (below_bound p.key high)))
    by false e true f = absurd (clash (key_lt p.key from) (lt_le p.key low from f (not_true (key_lt from low) le)) e)
    by false e false f = ap (λ t. (not t && below_bound p.key high) && covers_key from bound p.key) f

at_end : (from : List ℕ) (high bound : Option (List ℕ)) (p : Pair) → EndsAtOrAbove bound high
    → (below_bound p.key high && covers_key from bound p.key) ≡ covers_key from bound p.key
at_end from None bound p ends = refl
at_end from (Some fence) None p ends = absurd ends
at_end from (Some fence) (Some bound) p ends = by (key_lt p.key bound) refl
  where
    not_true : (t : Bool) → not t ≡ true → t ≡ false
    not_true true e = absurd cc
    not_true false e = refl

    by : (t : Bool) → key_lt p.key bound ≡ t
        → (key_lt p.key fence && covers_key from (Some bound) p.key) ≡ covers_key from (Some bound) p.key
    by true e = ap (λ t. t && covers_key from (Some bound) p.key) (lt_le p.key bound fence e (not_true (key_lt fence bound) ends))
    by false e =
        ap (λ t. key_lt p.key fence && (key_le from p.key && t)) e ∙ (ap (λ t. key_lt p.key fence && t) (and_false (key_le from p.key)) ∙ (and_false (key_lt p.key fence) ∙ sym (ap (λ t. key_le from p.key && t) e ∙ and_false (key_le from p.key))))

-- what stands in front of a fence are the first of the pairs that a test passes
record FirstOf (t : Pair → Bool) (high : Option (List ℕ)) (ps : List Pair) : Type 0 where
  rest : List Pair
  all : filter (λ p. below_bound p.key high && t p) ps ++ rest ≡ filter t ps

first_of_all : (t : Pair → Bool) (high : Option (List ℕ)) (ps : List Pair) → is_ascending ps ≡ true
    → FirstOf t high ps
first_of_all t None ps asc = record { rest = []; all = append_none (filter t ps) }
first_of_all t (Some h) ps asc = record {
  rest = filter (λ p. not (key_lt p.key h) && t p) ps;
  all = cut h (λ p. key_lt p.key h && t p) (λ p. not (key_lt p.key h) && t p) t (record { low = λ p e. (ap (λ b. b && t p) e, ap (λ b. not b && t p) e); high = λ p e. (ap (λ b. b && t p) e, ap (λ b. not b && t p) e) }) ps asc;
}

-- a chain of leaves that begins at a scan's lower bound has its first pairs, and all where it
-- reaches the upper one
pub leaves_have : (ps : List Pair) → is_ascending ps ≡ true
    → (low high : Option (List ℕ)) (limit : ℕ) (leaves : List Page)
    → AllByRecursion (LeafOf ps) leaves → IsChain leaves → BeginsAt low leaves
    → (limit ≤ length (pairs_within (leaf_pairs leaves) low high)) ⊎ ReachesEnd high leaves
    → take limit (pairs_within (leaf_pairs leaves) low high) ≡ take limit (pairs_within ps low high)
leaves_have ps asc low high limit [] all chain begins enough = absurd chain
leaves_have ps asc low high limit (p ∷ leaves) all chain begins enough = by enough
  where
    whole : Joined ps p.low (p ∷ leaves)
    whole = joined ps asc p leaves all chain

    and_first : (a b : Bool) → (a && b) ≡ true → a ≡ true
    and_first true b e = refl
    and_first false b e = absurd cc

    starts : key_le p.low (unwrap_or low []) ≡ true
    starts = and_first (key_le p.low (unwrap_or low [])) (below_bound (unwrap_or low []) p.high) begins

    found : pairs_within (leaf_pairs (p ∷ leaves)) low high ≡ filter (λ pair. below_bound pair.key whole.high && covers_key (unwrap_or low []) high pair.key) ps
    found =
        ap (λ (l : List Pair). pairs_within l low high) whole.all
        ∙ (filter_both (λ pair. covers_key (unwrap_or low []) high pair.key) (λ pair. covers_key p.low whole.high pair.key) ps
        ∙ same_left (λ pair. covers_key p.low whole.high pair.key && covers_key (unwrap_or low []) high pair.key) (λ pair. below_bound pair.key whole.high && covers_key (unwrap_or low []) high pair.key) ps
        (every (λ pair. (covers_key p.low whole.high pair.key && covers_key (unwrap_or low []) high pair.key) ≡ (below_bound pair.key whole.high && covers_key (unwrap_or low []) high pair.key)) (λ pair. in_front p.low (unwrap_or low []) whole.high high pair starts) ps))

    by : (limit ≤ length (pairs_within (leaf_pairs (p ∷ leaves)) low high))
        ⊎ ReachesEnd high (p ∷ leaves)
        → take limit (pairs_within (leaf_pairs (p ∷ leaves)) low high) ≡ take limit (pairs_within ps low high)
    by (inr reaches) =
        ap (take limit) (found ∙ same_left (λ pair. below_bound pair.key whole.high && covers_key (unwrap_or low []) high pair.key) (λ pair. covers_key (unwrap_or low []) high pair.key) ps
        (every (λ pair. (below_bound pair.key whole.high && covers_key (unwrap_or low []) high pair.key) ≡ covers_key (unwrap_or low []) high pair.key) (λ pair. at_end (unwrap_or low []) whole.high high pair (whole.ends high reaches)) ps))
    by (inl many) =
        let first = first_of_all (λ pair. covers_key (unwrap_or low []) high pair.key) whole.high ps asc in
        let long : limit ≤ length (filter (λ pair. below_bound pair.key whole.high && covers_key (unwrap_or low []) high pair.key) ps) = subst (λ (l : List Pair). limit ≤ length l) found many in
        ap (take limit) found ∙ (sym (take-append-le limit (filter (λ pair. below_bound pair.key whole.high && covers_key (unwrap_or low []) high pair.key) ps) first.rest long) ∙ ap (take limit) first.all)
