-- The leaves that a scan takes one by one show its reply.
use Rattle.std.proofs.Common.{◌≡◌, ℕ, zero, suc, ◌≤◌, ◌⊎◌, inl, inr, List, [], ◌∷◌, ◌++◌, length, take, Option, refl, sym, ap, ◌∙◌, arith}
use Rattle.std.specs.Prelude.{unwrap_or}
use Rattle.std.specs.List.{AllByRecursion}
use Rattle.std.proofs.lemmas.Grind.{flat_map-append}
use Rattle.std.proofs.lemmas.List.{append-nil}
use Rattle.std.proofs.lemmas.List.Elements.{Contains-append_right, filter-append}
use Rattle.mn_base.specs.Order.{covers_key}
use Rattle.mn_base.specs.Store.{pairs_within}
use Rattle.mn_base.specs.declared.reply.Pair.{Pair}
use Rattle.mn_page.specs.declared.page.Page.{Page}
use Rattle.mn_page.specs.declared.entry.CatEntry.{CatEntry}
use Rattle.mn_page.specs.Holds.{pairs_in}
use Rattle.mn_runs.specs.Seen.{Seen}
use Rattle.mn_law.specs.Shown.{IsChain, BeginsAt, ReachesEnd, leaf_pairs, ShowsPairs}
use Rattle.mn_law.specs.Scans.{IsLeafRead, MayFollow, AreInTurn, GatheredStays, LeavesAreGathered, GatheredIsShown}

-- Lists

all_reads : (entries : List CatEntry) (reads more : List Seen) (name : List ℕ) (leaves : List Page)
    → AllByRecursion (IsLeafRead entries reads name) leaves → AllByRecursion (IsLeafRead entries (more ++ reads) name) leaves
all_reads entries reads more name [] all = tt
all_reads entries reads more name (p ∷ leaves) all =
    let r = all.0 in
    ((r.0, r.1, Contains-append_right more reads r.0 r.2, r.3, r.4, r.5), all_reads entries reads more name leaves all.1)

all_more : (P : Page → Type 0) (xs : List Page) (p : Page) → AllByRecursion P xs → P p → AllByRecursion P (xs ++ p ∷ [])
all_more P [] p all one = (one, tt)
all_more P (x ∷ xs) p all one = (all.0, all_more P xs p all.1 one)

chain_more : (low : Option (List ℕ)) (leaves : List Page) (p : Page) → AreInTurn low leaves → MayFollow low leaves p → AreInTurn low (leaves ++ p ∷ [])
chain_more low [] p turn follows = (tt, follows)
chain_more low (q ∷ leaves) p turn follows = (goes q leaves turn.0 follows, turn.1)
  where
    goes : (q : Page) (leaves : List Page) → IsChain (q ∷ leaves) → MayFollow low (q ∷ leaves) p → IsChain (q ∷ (leaves ++ p ∷ []))
    goes q [] chain follows = (follows, tt)
    goes q (r ∷ leaves) chain follows = (chain.0, goes r leaves chain.1 follows)

take_taken : (n : ℕ) (xs ys : List Pair) → take n (take n xs ++ ys) ≡ take n (xs ++ ys)
take_taken zero xs ys = refl
take_taken (suc n) [] ys = refl
take_taken (suc n) (x ∷ xs) ys = ap (λ (l : List Pair). x ∷ l) (take_taken n xs ys)

long_taken : (n : ℕ) (xs : List Pair) → length (take n xs) ≤ length xs
long_taken zero xs = omega arith
long_taken (suc n) [] = omega arith
long_taken (suc n) (x ∷ xs) = let rest = long_taken n xs in omega (arith, rest)

-- Leaves

within_more : (leaves : List Page) (p : Page) (low high : Option (List ℕ))
    → pairs_within (leaf_pairs (leaves ++ p ∷ [])) low high ≡ pairs_within (leaf_pairs leaves) low high ++ pairs_within (pairs_in p.body) low high
within_more leaves p low high =
    ap (λ (ps : List Pair). pairs_within ps low high)
    (flat_map-append (λ (q : Page). pairs_in q.body) leaves (p ∷ []) ∙ ap (λ (l : List Pair). leaf_pairs leaves ++ l) (append-nil (pairs_in p.body)))
    ∙ filter-append (λ (q : Pair). covers_key (unwrap_or low []) high q.key) (leaf_pairs leaves) (pairs_in p.body)

both_turn : (low : Option (List ℕ)) (leaves : List Page) (p : Page) → AreInTurn low (leaves ++ p ∷ []) → IsChain (leaves ++ p ∷ []) × BeginsAt low (leaves ++ p ∷ [])
both_turn low [] p turn = turn
both_turn low (q ∷ leaves) p turn = turn

pub gathered_stays : GatheredStays
gathered_stays entries reads more name low high limit leaves pairs g = record {
  read = all_reads entries reads more name leaves g.read;
  in_turn = g.in_turn;
  pairs_are = g.pairs_are;
}

pub leaves_are_gathered : LeavesAreGathered
leaves_are_gathered entries reads name low high limit leaves pairs p g is follows = record {
  read = all_more (IsLeafRead entries reads name) leaves p g.read is;
  in_turn = chain_more low leaves p g.in_turn follows;
  pairs_are = ap (λ (l : List Pair). take limit (l ++ pairs_within (pairs_in p.body) low high)) g.pairs_are
      ∙ take_taken limit (pairs_within (leaf_pairs leaves) low high) (pairs_within (pairs_in p.body) low high)
      ∙ ap (take limit) (sym (within_more leaves p low high));
}

pub gathered_is_shown : GatheredIsShown
gathered_is_shown seens catalog later entries head name low high limit leaves p pairs first sees named frozen g enough =
    (catalog, later, entries, head, first, sees, named, frozen, shows)
  where
    long : limit ≤ length pairs → limit ≤ length (pairs_within (leaf_pairs (leaves ++ p ∷ [])) low high)
    long most =
        let same = ap (λ (l : List Pair). length l) g.pairs_are in
        let less = long_taken limit (pairs_within (leaf_pairs (leaves ++ p ∷ [])) low high) in
        omega (arith, most, same, less)

    by : (limit ≤ length pairs) ⊎ ReachesEnd high (leaves ++ p ∷ []) → (limit ≤ length (pairs_within (leaf_pairs (leaves ++ p ∷ [])) low high)) ⊎ ReachesEnd high (leaves ++ p ∷ [])
    by (inl most) = inl (long most)
    by (inr end) = inr end

    shows : ShowsPairs entries later name low high limit pairs
    shows = record {
      leaves = leaves ++ p ∷ [];
      seen = g.read;
      chain = (both_turn low leaves p g.in_turn).0;
      first = (both_turn low leaves p g.in_turn).1;
      pairs_are = g.pairs_are;
      enough = by enough;
    }
