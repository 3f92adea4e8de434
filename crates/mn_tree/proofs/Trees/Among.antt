-- The addresses of a body's children.
use Rattle.std.proofs.Common.{◌≡◌, ℕ, suc, ◌⊎◌, inl, inr, Bool, true, false, List, [], ◌∷◌, ◌++◌, map, Option, Some, None, refl, sym, ap, ◌∙◌, if◌then◌else◌, slice_get}
use Rattle.std.specs.Option.{option_to_list}
use Rattle.mn_base.specs.Ids.{addr_same}
use Rattle.mn_base.specs.declared.ids.Addr.{Addr}
use Rattle.mn_base.proofs.Booleans.{clash}
use Rattle.mn_page.specs.declared.page.Page.{Page}
use Rattle.mn_page.specs.declared.page.Body.{Body}
use Rattle.mn_page.specs.declared.page.Body.TheVariants.{Leaf, Inner}
use Rattle.mn_page.specs.declared.page.Child.{Child}
use Rattle.mn_page.specs.Forest.{ChildRange, ranges_from, body_children}
use Rattle.mn_page.specs.Overlay.{rest_with, body_with}
use Rattle.mn_tree.proofs.Trees.Puts.{same_itself, differs}
use Rattle.mn_tree.proofs.Trees.SplitBelow.{HasChild}

abbrev pub Among : Addr → List Addr → Type 0
Among a [] = ⊥
Among a (x ∷ xs) = (x ≡ a) ⊎ Among a xs

abbrev pub rest_addrs : List Child → List Addr
rest_addrs cs = map (λ c. c.addr) cs

abbrev pub body_addrs : Body → List Addr
body_addrs (Leaf pairs) = []
body_addrs (Inner height first rest) = first ∷ rest_addrs rest

-- a child's place among the ranges
record Placed (rs : List ChildRange) (a : Addr) : Type 0 where
  place : ℕ
  range : ChildRange
  there : slice_get rs place ≡ Some range
  is : range.addr ≡ a

placed : (x : Addr) (low : List ℕ) (cs : List Child) (high : Option (List ℕ)) (a : Addr) → Among a (x ∷ rest_addrs cs) → Placed (ranges_from x low cs high) a
placed x low [] high a (inl e) = record { place = 0; range = record { addr = x; low = low; high = high }; there = refl; is = e }
placed x low [] high a (inr among) = absurd among
placed x low (c ∷ cs) high a (inl e) = record { place = 0; range = record { addr = x; low = low; high = Some c.separator }; there = refl; is = e }
placed x low (c ∷ cs) high a (inr among) =
    let r = placed c.addr c.separator cs high a among in
    record { place = suc r.place; range = r.range; there = r.there; is = r.is }

pub has_child : (p : Page) (a : Addr) → Among a (body_addrs p.body) → HasChild p a
has_child p a among = by_body p.body refl among
  where
    by_body : (b : Body) → p.body ≡ b → Among a (body_addrs b) → HasChild p a
    by_body (Leaf pairs) is among = absurd among
    by_body (Inner height first rest) is among =
        let r = placed first p.low rest p.high a among in
        record { place = r.place; range = r.range; there = ap (λ b. slice_get (body_children p.low p.high b) r.place) is ∙ r.there; is = r.is }

-- the child that takes another one's place is among them
rest_among : (a to : Addr) (more : Option Child) (cs : List Child) → Among a (rest_addrs cs) → Among to (rest_addrs (rest_with cs a to more))
rest_among a to more [] among = among
rest_among a to more (c ∷ cs) among = cases (addr_same c.addr a) refl among (rest_among a to more cs)
  where
    cases : (t : Bool) → addr_same c.addr a ≡ t → (c.addr ≡ a) ⊎ Among a (rest_addrs cs) → (Among a (rest_addrs cs) → Among to (rest_addrs (rest_with cs a to more)))
        → Among to (rest_addrs (if t then record { separator = c.separator; addr = to } ∷ option_to_list more ++ cs else c ∷ rest_with cs a to more))
    cases true e among later = inl refl
    cases false e (inl same) later = absurd (clash (addr_same c.addr a) (ap (λ (y : Addr). addr_same c.addr y) (sym same) ∙ same_itself c.addr) e)
    cases false e (inr among) later = inr (later among)

pub among_with : (a to : Addr) (more : Option Child) (b : Body) → Among a (body_addrs b) → Among to (body_addrs (body_with b a to more))
among_with a to more (Leaf pairs) among = absurd among
among_with a to more (Inner height first rest) among = cases (addr_same first a) refl among
  where
    cases : (t : Bool) → addr_same first a ≡ t → (first ≡ a) ⊎ Among a (rest_addrs rest) → Among to (body_addrs (if t then Inner height to (option_to_list more ++ rest) else Inner height first (rest_with rest a to more)))
    cases true e among = inl refl
    cases false e (inl same) = absurd (clash (addr_same first a) (ap (λ (y : Addr). addr_same first y) (sym same) ∙ same_itself first) e)
    cases false e (inr among) = inr (rest_among a to more rest among)

-- a new child first, and then a further one behind it

rest_twice : (a n : Addr) (c : Child) (cs : List Child) → (Among n (rest_addrs cs) → ⊥) → rest_with (rest_with cs a n None) n n (Some c) ≡ rest_with cs a n (Some c)
rest_twice a n c [] off = refl
rest_twice a n c (d ∷ cs) off = cases (addr_same d.addr a) (rest_twice a n c cs (λ e. off (inr e)))
  where
    cases : (t : Bool) → rest_with (rest_with cs a n None) n n (Some c) ≡ rest_with cs a n (Some c)
        → rest_with (if t then record { separator = d.separator; addr = n } ∷ cs else d ∷ rest_with cs a n None) n n (Some c) ≡ (if t then record { separator = d.separator; addr = n } ∷ c ∷ cs else d ∷ rest_with cs a n (Some c))
    cases true later =
        let first : Child = record { separator = d.separator; addr = n } in
        ap (λ t. if t then first ∷ c ∷ cs else first ∷ rest_with cs n n (Some c)) (same_itself n)
    cases false later =
        ap (λ t. if t then record { separator = d.separator; addr = n } ∷ c ∷ rest_with cs a n None else d ∷ rest_with (rest_with cs a n None) n n (Some c)) (differs d.addr n (λ e. off (inl e)))
        ∙ ap (λ (l : List Child). d ∷ l) later

pub body_twice : (a n : Addr) (c : Child) (b : Body) → (Among n (body_addrs b) → ⊥) → body_with (body_with b a n None) n n (Some c) ≡ body_with b a n (Some c)
body_twice a n c (Leaf pairs) off = refl
body_twice a n c (Inner height first rest) off = cases (addr_same first a)
  where
    cases : (t : Bool) → body_with (if t then Inner height n rest else Inner height first (rest_with rest a n None)) n n (Some c) ≡ (if t then Inner height n (c ∷ rest) else Inner height first (rest_with rest a n (Some c)))
    cases true = ap (λ t. if t then Inner height n (c ∷ rest) else Inner height n (rest_with rest n n (Some c))) (same_itself n)
    cases false =
        ap (λ t. if t then Inner height n (c ∷ rest_with rest a n None) else Inner height first (rest_with (rest_with rest a n None) n n (Some c))) (differs first n (λ e. off (inl e)))
        ∙ ap (Inner height first) (rest_twice a n c rest (λ e. off (inr e)))
