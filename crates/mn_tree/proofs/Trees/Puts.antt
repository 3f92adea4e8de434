-- Pages with one more, or with another one in its place.
use Rattle.std.proofs.Common.{◌≡◌, inl, inr, Bool, true, false, List, [], ◌∷◌, Option, Some, None, refl, sym, ap, ◌∙◌, if◌then◌else◌}
use Rattle.std.specs.Prelude.{nat_eq}
use Rattle.std.specs.Option.{option_or}
use Rattle.std.proofs.lemmas.Bool.{eqb-true, eq-eqb, and_parts, and_from}
use Rattle.mn_base.specs.Ids.{addr_same}
use Rattle.mn_base.specs.declared.ids.Addr.{Addr}
use Rattle.mn_base.specs.declared.ids.NodeNo.{NodeNo}
use Rattle.mn_base.proofs.Booleans.{clash}
use Rattle.mn_page.specs.declared.page.Page.{Page}
use Rattle.mn_page.specs.Holds.{PagesAt}
use Rattle.mn_page.specs.Overlay.{Held, held_at, held_with}
use Rattle.mn_page.proofs.Added.{addr_cases}
use Rattle.mn_page.proofs.Copy.{page_same}
use Rattle.mn_tree.specs.Trees.{laid_over}

-- What is told apart

pub nothing : (p : Page) (o : Option Page) → o ≡ None → o ≡ Some p → ⊥
nothing p o e f = absurd cc

-- Addresses

pub addr_is : (a b : Addr) → addr_same a b ≡ true → a ≡ b
addr_is a b e =
    let parts = and_parts (nat_eq a.node.0 b.node.0) (nat_eq a.slot b.slot) e in
    let nodes : a.node ≡ b.node = ap (λ k. let n : NodeNo = record { 0 = k } in n) (eqb-true a.node.0 b.node.0 parts.0) in
    ap (λ (n : NodeNo). let r : Addr = record { node = n; slot = a.slot } in r) nodes
    ∙ ap (λ s. let r : Addr = record { node = b.node; slot = s } in r) (eqb-true a.slot b.slot parts.1)

pub same_itself : (a : Addr) → addr_same a a ≡ true
same_itself a = and_from _ _ (eq-eqb a.node.0 a.node.0 refl) (eq-eqb a.slot a.slot refl)

pub differs : (a b : Addr) → (a ≡ b → ⊥) → addr_same a b ≡ false
differs a b apart = cases (addr_same a b) refl
  where
    cases : (t : Bool) → addr_same a b ≡ t → addr_same a b ≡ false
    cases true e = absurd (apart (addr_is a b e))
    cases false e = e

-- One page

abbrev pub put : PagesAt → Addr → Page → PagesAt
put at a p = λ x. if addr_same a x then Some p else at x

pub put_here : (at : PagesAt) (a : Addr) (p : Page) → put at a p a ≡ Some p
put_here at a p = ap (λ b. if b then Some p else at a) (same_itself a)

pub put_else : (at : PagesAt) (a : Addr) (p : Page) (x : Addr) → (a ≡ x → ⊥) → put at a p x ≡ at x
put_else at a p x apart = ap (λ b. if b then Some p else at x) (differs a x apart)

-- what stands there is this page, or was there
pub data Stood (at : PagesAt) (a : Addr) (p : Page) (x : Addr) (y : Page) : Type 0 where
  now : a ≡ x → y ≡ p → Stood at a p x y
  still : (a ≡ x → ⊥) → at x ≡ Some y → Stood at a p x y

pub stood : (at : PagesAt) (a : Addr) (p : Page) (x : Addr) (y : Page) → put at a p x ≡ Some y → Stood at a p x y
stood at a p x y there = elim (addr_cases a x) as (λ _. Stood at a p x y) [
  | inl e ↦ now e (page_same y p (sym there ∙ (ap (put at a p) (sym e) ∙ put_here at a p)))
  | inr apart ↦ still apart (sym (put_else at a p x apart) ∙ there)
]

-- The pages of an overlay

pub held_with_is : (pages : List Held) (a : Addr) (p : Page) (x : Addr) → held_at (held_with pages a p) x ≡ (if addr_same a x then Some p else held_at pages x)
held_with_is [] a p x = refl
held_with_is (h ∷ hs) a p x = cases (addr_same h.addr a) refl (held_with_is hs a p x)
  where
    swap : (b c : Bool) → (b ≡ true → c ≡ true → ⊥) → (if b then Some h.page else (if c then Some p else held_at hs x)) ≡ (if c then Some p else (if b then Some h.page else held_at hs x))
    swap true true both = absurd (both refl refl)
    swap true false both = refl
    swap false c both = refl

    fold : (c d : Bool) → c ≡ d → (if c then Some p else held_at hs x) ≡ (if c then Some p else (if d then Some h.page else held_at hs x))
    fold true d e = refl
    fold false true e = absurd cc
    fold false false e = refl

    cases : (t : Bool) → addr_same h.addr a ≡ t → held_at (held_with hs a p) x ≡ (if addr_same a x then Some p else held_at hs x)
        → held_at (if t then record { addr = a; page = p } ∷ hs else h ∷ held_with hs a p) x ≡ (if addr_same a x then Some p else held_at (h ∷ hs) x)
    cases true e rest = fold (addr_same a x) (addr_same h.addr x) (ap (λ (y : Addr). addr_same y x) (sym (addr_is h.addr a e)))
    cases false e rest =
        ap (λ o. if addr_same h.addr x then Some h.page else o) rest
        ∙ swap (addr_same h.addr x) (addr_same a x) (λ f g. clash (addr_same h.addr a) (ap (addr_same h.addr) (addr_is a x g) ∙ f) e)

pub laid_with : (pages : List Held) (at : PagesAt) (a : Addr) (p : Page) → laid_over (held_with pages a p) at ≡ put (laid_over pages at) a p
laid_with pages at a p = λ i x. (pointwise x) i
  where
    split : (b : Bool) (o r : Option Page) → option_or (if b then Some p else o) r ≡ (if b then Some p else option_or o r)
    split true o r = refl
    split false o r = refl

    pointwise : (x : Addr) → laid_over (held_with pages a p) at x ≡ put (laid_over pages at) a p x
    pointwise x = ap (λ o. option_or o (at x)) (held_with_is pages a p x) ∙ split (addr_same a x) (held_at pages x) (at x)

-- Pages put one after another

pub put_swap : (at : PagesAt) (a b : Addr) (p q : Page) → (a ≡ b → ⊥) → put (put at a p) b q ≡ put (put at b q) a p
put_swap at a b p q apart = λ i x. (pointwise x) i
  where
    both : (s t : Bool) (o : Option Page) → (s ≡ true → t ≡ true → ⊥) → (if t then Some q else (if s then Some p else o)) ≡ (if s then Some p else (if t then Some q else o))
    both true true o off = absurd (off refl refl)
    both true false o off = refl
    both false t o off = refl

    pointwise : (x : Addr) → put (put at a p) b q x ≡ put (put at b q) a p x
    pointwise x = both (addr_same a x) (addr_same b x) (at x) (λ e f. apart (addr_is a x e ∙ sym (addr_is b x f)))

pub put_twice : (at : PagesAt) (a : Addr) (p q : Page) → put (put at a p) a q ≡ put at a q
put_twice at a p q = λ i x. (once (addr_same a x) (at x)) i
  where
    once : (s : Bool) (o : Option Page) → (if s then Some q else (if s then Some p else o)) ≡ (if s then Some q else o)
    once true o = refl
    once false o = refl

pub put_same : (at : PagesAt) (a : Addr) (p : Page) → at a ≡ Some p → put at a p ≡ at
put_same at a p there = λ i x. (pointwise x) i
  where
    cases : (x : Addr) (s : Bool) → addr_same a x ≡ s → (if s then Some p else at x) ≡ at x
    cases x true e = sym (ap at (sym (addr_is a x e)) ∙ there)
    cases x false e = refl

    pointwise : (x : Addr) → put at a p x ≡ at x
    pointwise x = cases x (addr_same a x) refl
