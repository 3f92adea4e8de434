-- The lengths of the nodes' lists of pages, where a page is written over another one or behind
-- them.
use Rattle.std.proofs.Common.{◌≡◌, ℕ, zero, suc, ◌+◌, ◌<◌, ◌≤◌, List, [], ◌∷◌, ◌++◌, length, map, refl, ap, ◌∙◌, arith, slice_set, slice_index_or, get_or-set_same}
use Rattle.std.specs.List.{AllByRecursion}
use Rattle.std.proofs.lemmas.List.{length-append, length-set}
use Rattle.mn_page.specs.declared.page.Page.{Page}
use Rattle.mn_page.proofs.Grid.{set_in, add_in}

pub index-set_in : (xss : List (List Page)) (m t : ℕ) (x : Page) (n : ℕ) → length (slice_index_or (set_in xss m t x) n []) ≡ length (slice_index_or xss n [])
index-set_in [] m t x n = refl
index-set_in (xs ∷ xss) zero t x zero = length-set xs t x
index-set_in (xs ∷ xss) zero t x (suc n) = refl
index-set_in (xs ∷ xss) (suc m) t x zero = refl
index-set_in (xs ∷ xss) (suc m) t x (suc n) = index-set_in xss m t x n

pub index-add_in : (xss : List (List Page)) (n : ℕ) (x : Page) → n < length xss → length (slice_index_or (add_in xss n x) n []) ≡ length (slice_index_or xss n []) + 1
index-add_in xss n x in' = ap (λ (ps : List Page). length ps) (get_or-set_same xss n (slice_index_or xss n [] ++ x ∷ []) [] in') ∙ length-append (slice_index_or xss n []) (x ∷ [])

abbrev pub sizes_of : List (List Page) → List ℕ
sizes_of xss = map (λ ps. length ps) xss

pub sizes-set_in : (xss : List (List Page)) (m t : ℕ) (x : Page) → sizes_of (set_in xss m t x) ≡ sizes_of xss
sizes-set_in [] m t x = refl
sizes-set_in (xs ∷ xss) zero t x = ap (λ k. k ∷ sizes_of xss) (length-set xs t x)
sizes-set_in (xs ∷ xss) (suc m) t x = ap (λ (ks : List ℕ). length xs ∷ ks) (sizes-set_in xss m t x)

pub sizes-add_in : (xss : List (List Page)) (n : ℕ) (x : Page) → sizes_of (add_in xss n x) ≡ slice_set (sizes_of xss) n (length (slice_index_or xss n []) + 1)
sizes-add_in [] n x = refl
sizes-add_in (xs ∷ xss) zero x = ap (λ k. k ∷ sizes_of xss) (length-append xs (x ∷ []))
sizes-add_in (xs ∷ xss) (suc n) x = ap (λ (ks : List ℕ). length xs ∷ ks) (sizes-add_in xss n x)

pub index_below : (xss : List (List Page)) (n : ℕ) → AllByRecursion (λ ps. length ps ≤ 4096) xss → length (slice_index_or xss n []) ≤ 4096
index_below [] n all = omega arith
index_below (xs ∷ xss) zero all = all.0
index_below (xs ∷ xss) (suc n) all = index_below xss n all.1

pub index-set-all : (Q : List Page → Type 0) (xss : List (List Page)) (m : ℕ) (ys : List Page) → ((n : ℕ) → Q (slice_index_or xss n [])) → Q ys → (n : ℕ) → Q (slice_index_or (slice_set xss m ys) n [])
index-set-all Q [] m ys all new n = all n
index-set-all Q (xs ∷ xss) zero ys all new zero = new
index-set-all Q (xs ∷ xss) zero ys all new (suc n) = all (suc n)
index-set-all Q (xs ∷ xss) (suc m) ys all new zero = all 0
index-set-all Q (xs ∷ xss) (suc m) ys all new (suc n) = index-set-all Q xss m ys (λ k. all (suc k)) new n
