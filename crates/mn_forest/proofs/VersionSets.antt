-- The versions of a page, tested one after the other.
use Rattle.std.proofs.Common.{◌≡◌, ◌<◌, ℕ, Bool, true, false, not, ◌&&◌, ◌||◌, List, [], ◌∷◌, length, map, filter, Option, refl, ap, sym, ◌∙◌, cond}
use Rattle.std.specs.Prelude.{MatchBool, nat_lt, IsTrue}
use Rattle.std.specs.List.{list_all, range_with_len, AllByRecursion}
use Rattle.mn_base.specs.Tree.{has_version, is_ancestor, parents_of, versions_in}
use Rattle.mn_base.proofs.Naturals.{lt_from, lt_true}
use Rattle.mn_base.proofs.Booleans.{both_parts}
use Rattle.mn_page.specs.declared.entry.CatEntry.{CatEntry}
use Rattle.mn_page.specs.declared.page.Page.{Page}
use Rattle.mn_page.specs.Forest.{heads_in}
use Rattle.mn_page.specs.Holds.{HasVersions}
use Rattle.mn_forest.specs.declared.pages.Versions.{Versions}
use Rattle.mn_forest.specs.Trees.{AreVersions}

filtered : (has fits : ℕ → Bool) (xs : List ℕ) → list_all (λ w. not (has w) || fits w) xs ≡ list_all fits (filter has xs)
filtered has fits [] = refl
filtered has fits (x ∷ xs) = by (has x) (filtered has fits xs)
  where
    by : (b : Bool) → list_all (λ w. not (has w) || fits w) xs ≡ list_all fits (filter has xs) → ((not b || fits x) && list_all (λ w. not (has w) || fits w) xs) ≡ list_all fits (cond b (x ∷ filter has xs) (filter has xs))
    by true ih = ap (λ (y : Bool). fits x && y) ih
    by false ih = ih

same_length : (entries : List CatEntry) → length (map (λ (e : CatEntry). e.root) entries) ≡ length entries
same_length [] = refl
same_length (e ∷ es) = ap Rattle.std.proofs.Common.suc (same_length es)

all_fit : (ps : List (Option ℕ)) (n made : ℕ) (ws : List ℕ) → list_all (λ w. nat_lt w n && is_ancestor ps made w) ws ≡ true → AllByRecursion (λ w. (w < n) × IsTrue (is_ancestor ps made w)) ws
all_fit ps n made [] e = tt
all_fit ps n made (w ∷ ws) e =
    let s = both_parts (nat_lt w n && is_ancestor ps made w) (list_all (λ w. nat_lt w n && is_ancestor ps made w) ws) e in
    let t = both_parts (nat_lt w n) (is_ancestor ps made w) s.0 in
    ((lt_from w n t.0, t.1), all_fit ps n made ws s.1)

fit_all : (ps : List (Option ℕ)) (n made : ℕ) (ws : List ℕ) → AllByRecursion (λ w. (w < n) × IsTrue (is_ancestor ps made w)) ws → list_all (λ w. nat_lt w n && is_ancestor ps made w) ws ≡ true
fit_all ps n made [] a = refl
fit_all ps n made (w ∷ ws) a = let h = lt_true w n a.0.0 in let k : is_ancestor ps made w ≡ true = a.0.1 in let ih = fit_all ps n made ws a.1 in cc

abbrev says : List (Option ℕ) → ℕ → Page → Bool
says ps n p = nat_lt p.made.0 n && list_all (λ w. not (has_version p.copied w) || (nat_lt w n && is_ancestor ps p.made.0 w)) (range_with_len 0 64)

neither : (x y : Bool) → x ≡ true → y ≡ true → false ≡ (x && y) → ⊥
neither x y p q e = absurd cc

decided : (entries : List CatEntry) (p : Page) (b : Bool) → b ≡ says (parents_of (heads_in entries)) (length entries) p → MatchBool b (HasVersions entries p) (HasVersions entries p → ⊥)
decided entries p true e =
    let ps = parents_of (heads_in entries) in
    let n = length entries in
    let s = both_parts _ _ (sym e) in
    record { made = lt_from p.made.0 n s.0; copied = all_fit ps n p.made.0 (versions_in p.copied) (sym (filtered (has_version p.copied) (λ w. nat_lt w n && is_ancestor ps p.made.0 w) (range_with_len 0 64)) ∙ s.1) }
decided entries p false e = λ h.
    let ps = parents_of (heads_in entries) in
    let n = length entries in
    let one = lt_true p.made.0 n h.made in
    let two = filtered (has_version p.copied) (λ w. nat_lt w n && is_ancestor ps p.made.0 w) (range_with_len 0 64) ∙ fit_all ps n p.made.0 (versions_in p.copied) h.copied in
    neither _ _ one two e

pub versions_decided : (versions : Versions) (entries : List CatEntry) (p : Page) (b : Bool) → AreVersions versions entries
    → b ≡ (nat_lt p.made.0 (length versions.roots.items) && list_all (λ w. not (has_version p.copied w) || (nat_lt w (length versions.roots.items) && is_ancestor versions.tree p.made.0 w)) (range_with_len 0 64))
    → MatchBool b (HasVersions entries p) (HasVersions entries p → ⊥)
versions_decided versions entries p b are e =
    decided entries p b (e ∙ ap (λ (ps : List (Option ℕ)). says ps (length versions.roots.items) p) are.tree ∙ ap (λ (n : ℕ). says (parents_of (heads_in entries)) n p) (ap length are.roots ∙ same_length entries))
