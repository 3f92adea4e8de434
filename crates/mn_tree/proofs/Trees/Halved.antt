-- What the halves of a body have of it.
use Rattle.std.proofs.Common.{◌≡◌, ℕ, ◌+◌, Bool, true, false, not, List, [], ◌∷◌, ◌++◌, length, Option, Some, None, refl, subst, ap, ◌∙◌, if◌then◌else◌}
use Rattle.std.specs.Prelude.{filter, nat_le, bytes_eq}
use Rattle.std.specs.List.{AllByRecursion}
use Rattle.std.proofs.lemmas.Bool.{and_parts}
use Rattle.mn_base.specs.Order.{key_lt, below_bound, covers_key}
use Rattle.mn_base.specs.Store.{is_ascending}
use Rattle.mn_base.specs.declared.ids.Addr.{Addr}
use Rattle.mn_base.specs.declared.reply.Pair.{Pair}
use Rattle.mn_page.specs.declared.page.Body.{Body}
use Rattle.mn_page.specs.declared.page.Body.TheVariants.{Leaf, Inner}
use Rattle.mn_page.specs.declared.page.Child.{Child}
use Rattle.mn_page.specs.Grammar.{height_of}
use Rattle.mn_page.specs.Forest.{body_children}
use Rattle.mn_page.specs.Holds.{pairs_in}
use Rattle.mn_page.specs.Overlay.{Halves, halves_of, leaf_halves, inner_halves}
use Rattle.mn_base.proofs.Keys.{bytes_eq-true, key_lt-trans, key_lt-else}
use Rattle.mn_base.proofs.PairsWith.{filter-below, two_parts}
use Rattle.mn_base.proofs.Booleans.{not_true}
use Rattle.mn_tree.specs.Trees.{AreRising, children_after}
use Rattle.mn_tree.proofs.Trees.Ranges.{rising_below}

pub record Halved (low : List ℕ) (high : Option (List ℕ)) (b : Body) (h : Halves) : Type 0 where
  pub above : key_lt low h.separator ≡ true
  pub below : below_bound h.separator high ≡ true
  pub left_level : height_of h.left ≡ height_of b
  pub right_level : height_of h.right ≡ height_of b
  pub left_rising : AreRising low (children_after h.left) (Some h.separator)
  pub right_rising : AreRising h.separator (children_after h.right) high
  pub children : body_children low high b ≡ body_children low (Some h.separator) h.left ++ body_children h.separator high h.right
  pub left_pairs : filter (λ p. key_lt p.key h.separator) (pairs_in b) ≡ pairs_in h.left
  pub right_pairs : filter (λ p. not (key_lt p.key h.separator)) (pairs_in b) ≡ pairs_in h.right

-- the pairs of a leaf ascend within its fences
pub record PairsFit (low : List ℕ) (high : Option (List ℕ)) (ps : List Pair) : Type 0 where
  pub ascending : is_ascending ps ≡ true
  pub within : AllByRecursion (λ p. covers_key low high p.key ≡ true) ps

halves_same : (g h : Halves) → Some g ≡ Some h → g ≡ h
halves_same g h e = cc

not_none : (h : Halves) → None ≡ Some h → ⊥
not_none h e = absurd cc

-- m isn't below l, and s is above m
over : (l m s : List ℕ) → key_lt m l ≡ false → key_lt m s ≡ true → key_lt l s ≡ true
over l m s f g = cases (bytes_eq l m) refl
  where
    cases : (t : Bool) → bytes_eq l m ≡ t → key_lt l s ≡ true
    cases true e = ap (λ (k : List ℕ). key_lt k s) (bytes_eq-true l m e) ∙ g
    cases false e = key_lt-trans l m s (key_lt-else m l f e) g

leaf_halved : (low : List ℕ) (high : Option (List ℕ)) (a b c d e : Pair) (rest : List Pair) → PairsFit low high (a ∷ b ∷ c ∷ d ∷ e ∷ rest)
    → Halved low high (Leaf (a ∷ b ∷ c ∷ d ∷ e ∷ rest)) (record { left = Leaf (a ∷ b ∷ c ∷ d ∷ []); separator = e.key; right = Leaf (e ∷ rest) })
leaf_halved low high a b c d e rest fit =
    let lows : List Pair = a ∷ b ∷ c ∷ d ∷ [] in
    let cut = filter-below (a ∷ b ∷ c ∷ d ∷ []) e rest fit.ascending in
    let parts = two_parts (a ∷ b ∷ c ∷ d ∷ []) e rest fit.ascending in
    let first : key_lt a.key low ≡ false = not_true (key_lt a.key low) (and_parts _ _ (fit.within).0).0 in
    let fifth : below_bound e.key high ≡ true = (and_parts _ _ ((((((fit.within).1).1).1).1).0)).1 in
    let below = parts.below in
    record {
      above = over low a.key e.key first below.0;
      below = fifth;
      left_level = refl;
      right_level = refl;
      left_rising = over low a.key e.key first below.0;
      right_rising = fifth;
      children = refl;
      left_pairs = cut.0;
      right_pairs = cut.1;
    }

inner_halved : (low : List ℕ) (high : Option (List ℕ)) (height : ℕ) (first : Addr) (b c d e : Child) (rest : List Child) → AreRising low (b ∷ c ∷ d ∷ e ∷ rest) high
    → Halved low high (Inner height first (b ∷ c ∷ d ∷ e ∷ rest)) (record { left = Inner height first (b ∷ c ∷ d ∷ []); separator = e.separator; right = Inner height e.addr rest })
inner_halved low high height first b c d e rest (l, (m, (n, (o, r)))) = record {
  above = key_lt-trans low b.separator e.separator l (key_lt-trans b.separator c.separator e.separator m (key_lt-trans c.separator d.separator e.separator n o));
  below = rising_below e.separator rest high r;
  left_level = refl;
  right_level = refl;
  left_rising = (l, (m, (n, o)));
  right_rising = r;
  children = refl;
  left_pairs = refl;
  right_pairs = refl;
}

pub halved : (low : List ℕ) (high : Option (List ℕ)) (b : Body) (h : Halves) → halves_of b ≡ Some h → AreRising low (children_after b) high → PairsFit low high (pairs_in b) → Halved low high b h
halved low high (Leaf pairs) h is r fit = by_length (nat_le (length pairs) 8) is
  where
    by_count : (ps : List Pair) → PairsFit low high ps → leaf_halves ps ≡ Some h → Halved low high (Leaf ps) h
    by_count (a ∷ (b ∷ (c ∷ (d ∷ (e ∷ rest))))) fits e' = subst (Halved low high (Leaf (a ∷ b ∷ c ∷ d ∷ e ∷ rest))) (halves_same _ h e') (leaf_halved low high a b c d e rest fits)
    by_count [] fits e' = absurd (not_none h e')
    by_count (a ∷ []) fits e' = absurd (not_none h e')
    by_count (a ∷ (b ∷ [])) fits e' = absurd (not_none h e')
    by_count (a ∷ (b ∷ (c ∷ []))) fits e' = absurd (not_none h e')
    by_count (a ∷ (b ∷ (c ∷ (d ∷ [])))) fits e' = absurd (not_none h e')

    by_length : (t : Bool) → (if t then None else leaf_halves pairs) ≡ Some h → Halved low high (Leaf pairs) h
    by_length true e = absurd (not_none h e)
    by_length false e = by_count pairs fit e
halved low high (Inner height first rest) h is r fit = by_length (nat_le (length rest + 1) 8) is
  where
    by_count : (cs : List Child) → AreRising low cs high → inner_halves height first cs ≡ Some h → Halved low high (Inner height first cs) h
    by_count (b ∷ (c ∷ (d ∷ (e ∷ rest)))) rising e' = subst (Halved low high (Inner height first (b ∷ c ∷ d ∷ e ∷ rest))) (halves_same _ h e') (inner_halved low high height first b c d e rest rising)
    by_count [] rising e' = absurd (not_none h e')
    by_count (b ∷ []) rising e' = absurd (not_none h e')
    by_count (b ∷ (c ∷ [])) rising e' = absurd (not_none h e')
    by_count (b ∷ (c ∷ (d ∷ []))) rising e' = absurd (not_none h e')

    by_length : (t : Bool) → (if t then None else inner_halves height first rest) ≡ Some h → Halved low high (Inner height first rest) h
    by_length true e = absurd (not_none h e)
    by_length false e = by_count rest r e
