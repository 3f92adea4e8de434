-- What a kept catalog says of its versions holds in each store that continues it.
use Rattle.std.proofs.Common.{◌≡◌, ℕ, ◌+◌, ◌<◌, Bool, false, not, ◌&&◌, ◌||◌, List, [], ◌∷◌, ◌++◌, length, reverse, Option, refl, subst, sym, ap, ◌∙◌, arith, if◌then◌else◌}
use Rattle.std.specs.Prelude.{nat_eq}
use Rattle.std.specs.List.{list_any}
use Rattle.std.specs.Option.{option_map_or}
use Rattle.std.proofs.lemmas.Bool.{ne_eqb}
use Rattle.std.proofs.lemmas.List.{reverse-append, length-append, length-reverse, length-map}
use Rattle.mn_base.specs.Store.{Head}
use Rattle.mn_base.specs.Tree.{is_above, is_ancestor, parents_of, versions_in, serves}
use Rattle.mn_law.specs.Planned.{ContinuesCatalog}

-- newer versions do not change who is above an older one
above_older : (newer older : List (Option ℕ)) (a v : ℕ) → v < length older → is_above (newer ++ older) a v ≡ is_above older a v
above_older [] older a v in' = refl
above_older (p ∷ newer) older a v in' =
    let long = length-append newer older in
    ap (λ b. if b then nat_eq a v || option_map_or (λ q. is_above (newer ++ older) a q) p false else is_above (newer ++ older) a v) (ne_eqb v (length (newer ++ older)) (λ e. absurd (behind v (length newer) (length older) (e ∙ long) in')))
    ∙ above_older newer older a v in'
  where
    behind : (v n m : ℕ) → v ≡ n + m → v < m → ⊥
    behind v n m e h = absurd (omega arith)

more_parents : (kept heads : List Head) → ContinuesCatalog kept heads → (more : List (Option ℕ)) × (parents_of heads ≡ parents_of kept ++ more)
more_parents [] heads on = (parents_of heads, refl)
more_parents (k ∷ kept) [] on = absurd on
more_parents (k ∷ kept) (h ∷ heads) on =
    let rest = more_parents kept heads on.3 in
    (rest.0, ap (λ (p : Option ℕ). p ∷ parents_of heads) on.1 ∙ ap (λ (ps : List (Option ℕ)). k.parent ∷ ps) rest.1)

pub ancestor_kept : (kept heads : List Head) → ContinuesCatalog kept heads → (a v : ℕ) → v < length kept → is_ancestor (parents_of heads) a v ≡ is_ancestor (parents_of kept) a v
ancestor_kept kept heads on a v in' =
    let more = more_parents kept heads on in
    let long : length (reverse (parents_of kept)) ≡ length kept = length-reverse (parents_of kept) ∙ length-map kept (λ (h : Head). h.parent) in
    ap (λ (ps : List (Option ℕ)). is_above (reverse ps) a v) more.1 ∙ (ap (λ (ps : List (Option ℕ)). is_above ps a v) (reverse-append (parents_of kept) more.0)
    ∙ above_older (reverse more.0) (reverse (parents_of kept)) a v (subst (λ k. v < k) (sym long) in'))

any_kept : (t u : ℕ → Bool) → ((w : ℕ) → t w ≡ u w) → (ws : List ℕ) → list_any t ws ≡ list_any u ws
any_kept t u same [] = refl
any_kept t u same (w ∷ ws) = ap (λ b. b || list_any t ws) (same w) ∙ ap (λ b. u w || b) (any_kept t u same ws)

-- a page serves a version of the kept catalog exactly where it does by the store's own
pub serves_kept : (kept heads : List Head) → ContinuesCatalog kept heads → (made copied v : ℕ) → v < length kept → serves (parents_of heads) made copied v ≡ serves (parents_of kept) made copied v
serves_kept kept heads on made copied v in' =
    ap (λ b. b && not (list_any (λ w. is_ancestor (parents_of heads) w v) (versions_in copied))) (ancestor_kept kept heads on made v in')
    ∙ ap (λ b. is_ancestor (parents_of kept) made v && not b) (any_kept (λ w. is_ancestor (parents_of heads) w v) (λ w. is_ancestor (parents_of kept) w v) (λ w. ancestor_kept kept heads on w v in') (versions_in copied))
