-- A walk that goes on at a page that came in needs none above that page's children.
use Rattle.std.proofs.Common.{◌≡◌, ◌∙◌, ◌≤◌, ℕ, zero, suc, Bool, true, false, List, [], ◌∷◌, Option, Some, None, refl, sym, ap, arith, if◌then◌else◌}
use Rattle.std.specs.Option.{option_map_or}
use Rattle.std.proofs.lemmas.Bool.{eqb-true}
use Rattle.mn_base.specs.declared.ids.Addr.{Addr}
use Rattle.mn_base.proofs.Booleans.{both_parts}
use Rattle.mn_page.specs.declared.page.Page.{Page}
use Rattle.mn_page.specs.Forest.{children_of}
use Rattle.mn_page.specs.Grammar.{height_of}
use Rattle.mn_page.specs.Overlay.{Held, child_for, held_at, held_with}
use Rattle.mn_tree.specs.Walk.{Walk, Missing, Wrong, goes_on, held, is_met, walk, walk_down}
use Rattle.mn_tree.proofs.Trees.Puts.{nothing}
use Rattle.mn_tree.proofs.Trees.StepWrites.{held_past}
use Rattle.mn_tree.proofs.Trees.Tidy.{held_here}

-- named by a page of this height at most
abbrev pub IsLow : Option ℕ → ℕ → Type 0
IsLow above n = (x : ℕ) × (above ≡ Some x) × (x ≤ n)

-- and it isn't held
abbrev pub NeedsLow : List Held → Addr → Option ℕ → ℕ → Type 0
NeedsLow pages addr above n = (x : ℕ) × (above ≡ Some x) × (x ≤ n) × (held_at pages addr ≡ None)

module _ (parents : List (Option ℕ)) (v : ℕ) (key : List ℕ) where
  -- how a walk goes on below a page of this height, where this is held of the child
  abbrev pub below_by : List Held → ℕ → List Held → Addr → Option Page → Walk
  below_by pages n passed a o =
      option_map_or (λ p. if goes_on parents v n key p then walk_down parents v n pages key (held a p) passed else Wrong a) o (Missing a (Some (suc n)))

  -- what it needs is named by a page no higher
  needs_low : (pages : List Held) (n : ℕ) (h : Held) (passed : List Held) (addr : Addr) (above : Option ℕ)
      → walk_down parents v n pages key h passed ≡ Missing addr above
      → NeedsLow pages addr above n
  needs_low pages zero h passed addr above is = absurd cc
  needs_low pages (suc n) h passed addr above is =
      by (λ a q e. needs_low pages n (held a q) (h ∷ passed) addr above e) (child_for (children_of h.page) key) is
    where
      met : (a : Addr) (q : Page) (goes : Bool)
          → (walk_down parents v n pages key (held a q) (h ∷ passed) ≡ Missing addr above → NeedsLow pages addr above n)
          → (if goes then walk_down parents v n pages key (held a q) (h ∷ passed) else Wrong a) ≡ Missing addr above
          → NeedsLow pages addr above (suc n)
      met a q true rest e = let (x, at, low, none) = rest e in (x, at, omega arith, none)
      met a q false rest e = absurd cc

      at : ((a : Addr) (q : Page) → walk_down parents v n pages key (held a q) (h ∷ passed) ≡ Missing addr above → NeedsLow pages addr above n)
          → (a : Addr) (o : Option Page) → held_at pages a ≡ o → below_by pages n (h ∷ passed) a o ≡ Missing addr above
          → NeedsLow pages addr above (suc n)
      at rest a None none e =
          let named : Some (suc n) ≡ above = cc in
          let same : a ≡ addr = cc in
          (suc n, sym named, omega arith, ap (held_at pages) (sym same) ∙ none)
      at rest a (Some q) there e = met a q (goes_on parents v n key q) (rest a q) e

      by : ((a : Addr) (q : Page) → walk_down parents v n pages key (held a q) (h ∷ passed) ≡ Missing addr above → NeedsLow pages addr above n)
          → (o : Option Addr) → option_map_or (λ a. below_by pages n (h ∷ passed) a (held_at pages a)) o (Wrong h.addr) ≡ Missing addr above
          → NeedsLow pages addr above (suc n)
      by rest None e = absurd cc
      by rest (Some a) e = at rest a (held_at pages a) refl e

  module _ (pages : List Held) (addr : Addr) (page : Page) where
    abbrev pub more : List Held
    more = held_with pages addr page

    -- whatever page it goes on at
    abbrev pub GoesLow : ℕ → List Held → Option ℕ → Addr → Option ℕ → Type 0
    GoesLow n passed above next later =
        (a : Addr) (q : Page) → walk_down parents v n pages key (held a q) passed ≡ Missing addr above
        → walk_down parents v n more key (held a q) passed ≡ Missing next later → IsLow later (height_of page.body)

    -- below the page that came in
    goes_low : (n : ℕ) (a : Addr) (passed : List Held) (goes : Bool) (next : Addr) (above : Option ℕ)
        → goes ≡ goes_on parents v n key page
        → (if goes then walk_down parents v n more key (held a page) passed else Wrong a) ≡ Missing next above
        → IsLow above (height_of page.body)
    goes_low n a passed true next above on e =
        let high = eqb-true (height_of page.body) n (both_parts _ (is_met parents v key page) (sym on)).0 in
        let (x, at, low, none) = needs_low more n (held a page) passed next above e in
        (x, at, omega arith)
    goes_low n a passed false next above on e = absurd cc

    down_low : (n : ℕ) (h : Held) (passed : List Held) (above : Option ℕ) (next : Addr) (later : Option ℕ)
        → walk_down parents v n pages key h passed ≡ Missing addr above
        → walk_down parents v n more key h passed ≡ Missing next later
        → IsLow later (height_of page.body)
    down_low zero h passed above next later was is = absurd cc
    down_low (suc n) h passed above next later was is =
        by (λ a q e f. down_low n (held a q) (h ∷ passed) above next later e f) (child_for (children_of h.page) key) was is
      where
        met : GoesLow n (h ∷ passed) above next later → (a : Addr) (q : Page) (goes : Bool)
            → (if goes then walk_down parents v n pages key (held a q) (h ∷ passed) else Wrong a) ≡ Missing addr above
            → (if goes then walk_down parents v n more key (held a q) (h ∷ passed) else Wrong a) ≡ Missing next later
            → IsLow later (height_of page.body)
        met rest a q true e f = rest a q e f
        met rest a q false e f = absurd cc

        absent : (a : Addr) (q : Page) (goes : Bool)
            → (if goes then walk_down parents v n pages key (held a q) (h ∷ passed) else Wrong a) ≡ Missing addr above
            → held_at pages addr ≡ None
        absent a q true e = let (x, at, low, none) = needs_low pages n (held a q) (h ∷ passed) addr above e in none
        absent a q false e = absurd cc

        at : GoesLow n (h ∷ passed) above next later → (a : Addr) (o : Option Page) → held_at pages a ≡ o → below_by pages n (h ∷ passed) a o ≡ Missing addr above
            → below_by more n (h ∷ passed) a (held_at more a) ≡ Missing next later → IsLow later (height_of page.body)
        at rest a None none e f =
            let same : a ≡ addr = cc in
            let here : held_at more a ≡ Some page = ap (held_at more) same ∙ held_here pages addr page in
            goes_low n a (h ∷ passed) (goes_on parents v n key page) next later refl
            (sym (ap (below_by more n (h ∷ passed) a) here) ∙ f)
        at rest a (Some q) there e f =
            let none = absent a q (goes_on parents v n key q) e in
            let still : held_at more a ≡ Some q = held_past pages addr page a (λ same. nothing q (held_at pages addr) none (ap (held_at pages) same ∙ there)) ∙ there in
            met rest a q (goes_on parents v n key q) e (sym (ap (below_by more n (h ∷ passed) a) still) ∙ f)

        by : GoesLow n (h ∷ passed) above next later → (o : Option Addr) → option_map_or (λ a. below_by pages n (h ∷ passed) a (held_at pages a)) o (Wrong h.addr) ≡ Missing addr above
            → option_map_or (λ a. below_by more n (h ∷ passed) a (held_at more a)) o (Wrong h.addr) ≡ Missing next later → IsLow later (height_of page.body)
        by rest None e f = absurd cc
        by rest (Some a) e f = at rest a (held_at pages a) refl e f

    -- from the root
    abbrev pub from_by : List Held → Addr → Option Page → Walk
    from_by held_pages root o =
        option_map_or (λ p. if is_met parents v key p then walk_down parents v (height_of p.body) held_pages key (held root p) [] else Wrong root) o (Missing root None)

    pub walk_low : (root : Addr) (above : Option ℕ) (next : Addr) (later : Option ℕ)
        → walk parents v pages root key ≡ Missing addr above → walk parents v more root key ≡ Missing next later
        → IsLow later (height_of page.body)
    walk_low root above next later was is = at (held_at pages root) refl was is
      where
        first : (goes : Bool) → (if goes then walk_down parents v (height_of page.body) more key (held root page) [] else Wrong root) ≡ Missing next later
            → IsLow later (height_of page.body)
        first true f = let (x, named, low, none) = needs_low more (height_of page.body) (held root page) [] next later f in (x, named, low)
        first false f = absurd cc

        met : (q : Page) (goes : Bool)
            → (if goes then walk_down parents v (height_of q.body) pages key (held root q) [] else Wrong root) ≡ Missing addr above
            → (if goes then walk_down parents v (height_of q.body) more key (held root q) [] else Wrong root) ≡ Missing next later
            → IsLow later (height_of page.body)
        met q true e f = down_low (height_of q.body) (held root q) [] above next later e f
        met q false e f = absurd cc

        absent : (q : Page) (goes : Bool)
            → (if goes then walk_down parents v (height_of q.body) pages key (held root q) [] else Wrong root) ≡ Missing addr above
            → held_at pages addr ≡ None
        absent q true e = let (x, named, low, none) = needs_low pages (height_of q.body) (held root q) [] addr above e in none
        absent q false e = absurd cc

        at : (o : Option Page) → held_at pages root ≡ o → from_by pages root o ≡ Missing addr above
            → from_by more root (held_at more root) ≡ Missing next later
            → IsLow later (height_of page.body)
        at None none e f =
            let same : root ≡ addr = cc in
            let here : held_at more root ≡ Some page = ap (held_at more) same ∙ held_here pages addr page in
            first (is_met parents v key page) (sym (ap (from_by more root) here) ∙ f)
        at (Some q) there e f =
            let none = absent q (is_met parents v key q) e in
            let still : held_at more root ≡ Some q = held_past pages addr page root (λ same. nothing q (held_at pages addr) none (ap (held_at pages) same ∙ there)) ∙ there in
            met q (is_met parents v key q) e (sym (ap (from_by more root) still) ∙ f)
