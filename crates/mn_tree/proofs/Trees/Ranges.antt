-- The ranges of a page's children: their order, and what a child in another one's place makes of
-- them.
use Rattle.std.proofs.Common.{◌≡◌, ℕ, Bool, true, false, not, ◌&&◌, List, [], ◌∷◌, ◌++◌, Option, Some, None, refl, subst, sym, ap, ◌∙◌, if◌then◌else◌}
use Rattle.std.specs.Prelude.{⊤}
use Rattle.std.specs.List.{AllByRecursion}
use Rattle.std.specs.Option.{option_to_list}
use Rattle.std.proofs.lemmas.Bool.{and_from, and_right}
use Rattle.mn_base.specs.Ids.{addr_same}
use Rattle.mn_base.specs.Order.{key_lt, key_le, below_bound, covers_key}
use Rattle.mn_base.specs.declared.ids.Addr.{Addr}
use Rattle.mn_page.specs.declared.page.Body.{Body}
use Rattle.mn_page.specs.declared.page.Body.TheVariants.{Leaf, Inner}
use Rattle.mn_page.specs.declared.page.Child.{Child}
use Rattle.mn_page.specs.Forest.{ChildRange, ranges_from, body_children}
use Rattle.mn_page.specs.Overlay.{rest_with, body_with}
use Rattle.mn_base.proofs.Keys.{key_lt-trans, not_below}
use Rattle.mn_base.proofs.Lists.{all_append}
use Rattle.mn_base.proofs.Booleans.{clash}
use Rattle.mn_tree.specs.Trees.{AreRising, children_after}
use Rattle.mn_tree.proofs.Trees.Puts.{addr_is, same_itself}

-- Keys and bounds

pub below_trans : (a b : List ℕ) (bound : Option (List ℕ)) → key_lt a b ≡ true → below_bound b bound ≡ true → below_bound a bound ≡ true
below_trans a b None e f = refl
below_trans a b (Some bound) e f = key_lt-trans a b bound e f

-- what lies below the lesser one does not lie above
pub not_under : (a b c : List ℕ) → key_lt a b ≡ true → key_lt c b ≡ false → key_lt c a ≡ false
not_under a b c e f = cases (key_lt c a) refl
  where
    cases : (t : Bool) → key_lt c a ≡ t → key_lt c a ≡ false
    cases true g = absurd (clash (key_lt c b) (key_lt-trans c a b g e) f)
    cases false g = g

-- m isn't below l, and c is above m
pub still_above : (l m c : List ℕ) → key_lt m l ≡ false → key_lt m c ≡ true → key_lt c l ≡ false
still_above l m c e f = cases (key_lt c l) refl
  where
    cases : (t : Bool) → key_lt c l ≡ t → key_lt c l ≡ false
    cases true g = absurd (clash (key_lt m l) (key_lt-trans m c l f g) e)
    cases false g = g

-- a range cut in two

pub left_covers : (low sep : List ℕ) (high : Option (List ℕ)) (key : List ℕ) → below_bound sep high ≡ true → covers_key low (Some sep) key ≡ (covers_key low high key && key_lt key sep)
left_covers low sep high key below = cases (key_lt key sep) refl
  where
    cases : (t : Bool) → key_lt key sep ≡ t → (key_le low key && t) ≡ ((key_le low key && below_bound key high) && t)
    cases true e = ap (λ b. key_le low key && b) (sym (below_trans key sep high e below)) ∙ sym (twice (key_le low key && below_bound key high))
      where
        twice : (b : Bool) → (b && true) ≡ b
        twice true = refl
        twice false = refl
    cases false e = and_right (key_le low key) false refl ∙ sym (and_right (key_le low key && below_bound key high) false refl)

pub right_covers : (low sep : List ℕ) (high : Option (List ℕ)) (key : List ℕ) → key_lt low sep ≡ true → covers_key sep high key ≡ (covers_key low high key && not (key_lt key sep))
right_covers low sep high key above = cases (key_lt key sep) refl
  where
    cases : (t : Bool) → key_lt key sep ≡ t → (not t && below_bound key high) ≡ ((key_le low key && below_bound key high) && not t)
    cases true e = sym (and_right (key_le low key && below_bound key high) false refl)
    cases false e = sym (ap (λ b. (not b && below_bound key high) && true) (not_under low sep key above e) ∙ twice (below_bound key high))
      where
        twice : (b : Bool) → (b && true) ≡ b
        twice true = refl
        twice false = refl

-- Ranges in parts

abbrev pub range : Addr → List ℕ → Option (List ℕ) → ChildRange
range addr low high = record { addr = addr; low = low; high = high }

-- where the first range ends, and the ranges behind it
abbrev pub next_low : List Child → Option (List ℕ) → Option (List ℕ)
next_low [] high = high
next_low (c ∷ cs) high = Some c.separator

abbrev pub tail_ranges : List Child → Option (List ℕ) → List ChildRange
tail_ranges [] high = []
tail_ranges (c ∷ cs) high = ranges_from c.addr c.separator cs high

pub ranges_are : (x : Addr) (low : List ℕ) (cs : List Child) (high : Option (List ℕ)) → ranges_from x low cs high ≡ range x low (next_low cs high) ∷ tail_ranges cs high
ranges_are x low [] high = refl
ranges_are x low (c ∷ cs) high = refl

-- Rising

pub rising_below : (low : List ℕ) (cs : List Child) (high : Option (List ℕ)) → AreRising low cs high → below_bound low high ≡ true
rising_below low [] high r = r
rising_below low (c ∷ cs) high r = below_trans low c.separator high r.0 (rising_below c.separator cs high r.1)

pub rising_next : (low : List ℕ) (cs : List Child) (high : Option (List ℕ)) → AreRising low cs high → below_bound low (next_low cs high) ≡ true
rising_next low [] high r = r
rising_next low (c ∷ cs) high r = r.0

pub rising_from : (low sep : List ℕ) (cs : List Child) (high : Option (List ℕ)) → AreRising low cs high → below_bound sep (next_low cs high) ≡ true → AreRising sep cs high
rising_from low sep [] high r e = e
rising_from low sep (c ∷ cs) high r e = (e, r.1)

-- ranges behind the first begin above it
ranges_above : (key : List ℕ) (x : Addr) (low : List ℕ) (cs : List Child) (high : Option (List ℕ)) → key_lt key low ≡ true → AreRising low cs high → AllByRecursion (λ r. key_lt key r.low ≡ true) (ranges_from x low cs high)
ranges_above key x low [] high e r = (e, tt)
ranges_above key x low (c ∷ cs) high e r = (e, ranges_above key c.addr c.separator cs high (key_lt-trans key low c.separator e r.0) r.1)

pub tail_above : (low : List ℕ) (cs : List Child) (high : Option (List ℕ)) → AreRising low cs high → AllByRecursion (λ r. key_lt low r.low ≡ true) (tail_ranges cs high)
tail_above low [] high r = tt
tail_above low (c ∷ cs) high r = ranges_above low c.addr c.separator cs high r.0 r.1

-- each range begins within the page's
ranges_within : (low : List ℕ) (high : Option (List ℕ)) (x : Addr) (from : List ℕ) (cs : List Child) → key_lt from low ≡ false → AreRising from cs high → AllByRecursion (λ r. covers_key low high r.low ≡ true) (ranges_from x from cs high)
ranges_within low high x from [] e r = (and_from _ _ (ap not e) r, tt)
ranges_within low high x from (c ∷ cs) e r =
    (and_from _ _ (ap not e) (below_trans from c.separator high r.0 (rising_below c.separator cs high r.1)), ranges_within low high c.addr c.separator cs (still_above low from c.separator e r.0) r.1)

pub children_within : (low : List ℕ) (high : Option (List ℕ)) (b : Body) → AreRising low (children_after b) high → AllByRecursion (λ r. covers_key low high r.low ≡ true) (body_children low high b)
children_within low high (Leaf pairs) r = tt
children_within low high (Inner height first rest) r = ranges_within low high first low rest (not_below low) r

-- A child in another one's place, and perhaps a further one behind it

-- what becomes of the range of that child
abbrev pub cut_range : Addr → Option Child → ChildRange → List ChildRange
cut_range now None r = range now r.low r.high ∷ []
cut_range now (Some c) r = range now r.low (Some c.separator) ∷ (range c.addr c.separator r.high ∷ [])

-- the further child begins within it
abbrev pub CutsIn : Option Child → ChildRange → Type 0
CutsIn None r = ⊤
CutsIn (Some c) r = (key_lt r.low c.separator ≡ true) × (below_bound c.separator r.high ≡ true)

pub ranges_cut : (now : Addr) (more : Option Child) (x : Addr) (low : List ℕ) (cs : List Child) (high : Option (List ℕ))
    → ranges_from now low (option_to_list more ++ cs) high ≡ cut_range now more (range x low (next_low cs high)) ++ tail_ranges cs high
ranges_cut now None x low cs high = ranges_are now low cs high
ranges_cut now (Some c) x low cs high = ap (λ (rs : List ChildRange). range now low (Some c.separator) ∷ rs) (ranges_are c.addr c.separator cs high)

rising_more : (more : Option Child) (x : Addr) (low : List ℕ) (cs : List Child) (high : Option (List ℕ)) → AreRising low cs high → CutsIn more (range x low (next_low cs high)) → AreRising low (option_to_list more ++ cs) high
rising_more None x low cs high r cuts = r
rising_more (Some c) x low cs high r cuts = (cuts.0, rising_from low c.separator cs high r cuts.1)

-- where the range of that child can be cut
abbrev pub Cuts : Addr → Option Child → ChildRange → Type 0
Cuts addr more r = r.addr ≡ addr → CutsIn more r

rest_rising : (addr now : Addr) (more : Option Child) (low : List ℕ) (cs : List Child) (high : Option (List ℕ)) → AreRising low cs high → AllByRecursion (Cuts addr more) (tail_ranges cs high) → AreRising low (rest_with cs addr now more) high
rest_rising addr now more low [] high r cuts = r
rest_rising addr now more low (c ∷ cs) high r cuts =
    let two : Cuts addr more (range c.addr c.separator (next_low cs high)) × AllByRecursion (Cuts addr more) (tail_ranges cs high) = subst (AllByRecursion (Cuts addr more)) (ranges_are c.addr c.separator cs high) cuts in
    cases (addr_same c.addr addr) refl two.0 (rest_rising addr now more c.separator cs high r.1 two.1)
  where
    cases : (t : Bool) → addr_same c.addr addr ≡ t → Cuts addr more (range c.addr c.separator (next_low cs high)) → AreRising c.separator (rest_with cs addr now more) high
        → AreRising low (if t then record { separator = c.separator; addr = now } ∷ option_to_list more ++ cs else c ∷ rest_with cs addr now more) high
    cases true e here rest = (r.0, rising_more more c.addr c.separator cs high r.1 (here (addr_is c.addr addr e)))
    cases false e here rest = (r.0, rest)

pub body_rising : (addr now : Addr) (more : Option Child) (low : List ℕ) (high : Option (List ℕ)) (b : Body) → AreRising low (children_after b) high → AllByRecursion (Cuts addr more) (body_children low high b)
    → AreRising low (children_after (body_with b addr now more)) high
body_rising addr now more low high (Leaf pairs) r cuts = r
body_rising addr now more low high (Inner height first rest) r cuts =
    let two : Cuts addr more (range first low (next_low rest high)) × AllByRecursion (Cuts addr more) (tail_ranges rest high) = subst (AllByRecursion (Cuts addr more)) (ranges_are first low rest high) cuts in
    cases (addr_same first addr) refl two.0 (rest_rising addr now more low rest high r two.1)
  where
    cases : (t : Bool) → addr_same first addr ≡ t → Cuts addr more (range first low (next_low rest high)) → AreRising low (rest_with rest addr now more) high
        → AreRising low (children_after (if t then Inner height now (option_to_list more ++ rest) else Inner height first (rest_with rest addr now more))) high
    cases true e here later = rising_more more first low rest high r (here (addr_is first addr e))
    cases false e here later = later

-- what holds of the ranges before and after
pub record Recut (addr now : Addr) (more : Option Child) (P Q : ChildRange → Type 0) : Type 0 where
  pub stays : (r : ChildRange) → (r.addr ≡ addr → ⊥) → P r → Q r
  pub cut : (r : ChildRange) → r.addr ≡ addr → P r → AllByRecursion Q (cut_range now more r)
  -- that child has one range
  pub one : (r s : ChildRange) → P r → P s → r.addr ≡ addr → s.addr ≡ addr → r.low ≡ s.low

-- the ranges behind that child's stay
behind : (addr now : Addr) (more : Option Child) (P Q : ChildRange → Type 0) → Recut addr now more P Q → (r : ChildRange) → r.addr ≡ addr → P r → (rs : List ChildRange) → AllByRecursion (λ s. key_lt r.low s.low ≡ true) rs → AllByRecursion P rs
    → AllByRecursion Q rs
behind addr now more P Q by r at p [] above all = tt
behind addr now more P Q by r at p (s ∷ rs) above all =
    (by.stays s (λ e. clash (key_lt r.low r.low) (ap (key_lt r.low) (by.one r s p all.0 at e) ∙ above.0) (not_below r.low)) all.0, behind addr now more P Q by r at p rs above.1 all.1)

here_cut : (addr now : Addr) (more : Option Child) (P Q : ChildRange → Type 0) → Recut addr now more P Q → (x : Addr) (low : List ℕ) (cs : List Child) (high : Option (List ℕ)) → x ≡ addr → AreRising low cs high
    → AllByRecursion P (ranges_from x low cs high) → AllByRecursion Q (ranges_from now low (option_to_list more ++ cs) high)
here_cut addr now more P Q by x low cs high at r all =
    let two : P (range x low (next_low cs high)) × AllByRecursion P (tail_ranges cs high) = subst (AllByRecursion P) (ranges_are x low cs high) all in
    subst (AllByRecursion Q) (sym (ranges_cut now more x low cs high))
    (all_append Q (cut_range now more (range x low (next_low cs high))) (tail_ranges cs high) (by.cut (range x low (next_low cs high)) at two.0)
    (behind addr now more P Q by (range x low (next_low cs high)) at two.0 (tail_ranges cs high) (tail_above low cs high r) two.1))

rest_cut : (addr now : Addr) (more : Option Child) (P Q : ChildRange → Type 0) → Recut addr now more P Q → (x : Addr) (low : List ℕ) (cs : List Child) (high : Option (List ℕ)) → (x ≡ addr → ⊥) → AreRising low cs high
    → AllByRecursion P (ranges_from x low cs high) → AllByRecursion Q (ranges_from x low (rest_with cs addr now more) high)
rest_cut addr now more P Q by x low [] high apart r all = (by.stays (range x low high) apart all.0, tt)
rest_cut addr now more P Q by x low (c ∷ cs) high apart r all = cases (addr_same c.addr addr) refl (λ off. rest_cut addr now more P Q by c.addr c.separator cs high off r.1 all.1)
  where
    cases : (t : Bool) → addr_same c.addr addr ≡ t → ((c.addr ≡ addr → ⊥) → AllByRecursion Q (ranges_from c.addr c.separator (rest_with cs addr now more) high))
        → AllByRecursion Q (ranges_from x low (if t then record { separator = c.separator; addr = now } ∷ option_to_list more ++ cs else c ∷ rest_with cs addr now more) high)
    cases true e rest = (by.stays (range x low (Some c.separator)) apart all.0, here_cut addr now more P Q by c.addr c.separator cs high (addr_is c.addr addr e) r.1 all.1)
    cases false e rest = (by.stays (range x low (Some c.separator)) apart all.0, rest (λ same. clash (addr_same c.addr addr) (ap (λ (y : Addr). addr_same c.addr y) (sym same) ∙ same_itself c.addr) e))

pub body_cut : (addr now : Addr) (more : Option Child) (P Q : ChildRange → Type 0) → Recut addr now more P Q → (low : List ℕ) (high : Option (List ℕ)) (b : Body) → AreRising low (children_after b) high
    → AllByRecursion P (body_children low high b) → AllByRecursion Q (body_children low high (body_with b addr now more))
body_cut addr now more P Q by low high (Leaf pairs) r all = tt
body_cut addr now more P Q by low high (Inner height first rest) r all = cases (addr_same first addr) refl
  where
    cases : (t : Bool) → addr_same first addr ≡ t → AllByRecursion Q (body_children low high (if t then Inner height now (option_to_list more ++ rest) else Inner height first (rest_with rest addr now more)))
    cases true e = here_cut addr now more P Q by first low rest high (addr_is first addr e) r all
    cases false e = rest_cut addr now more P Q by first low rest high (λ same. clash (addr_same first addr) (ap (λ (y : Addr). addr_same first y) (sym same) ∙ same_itself first) e) r all
