-- What the writes of a leaf's new body are: the leaf or its halves, or those of its copy, and inner
-- pages above.
use Rattle.std.proofs.Common.{◌≡◌, ◌⊎◌, inl, inr, ℕ, ◌+◌, Bool, true, false, List, [], ◌∷◌, ◌++◌, length, Option, Some, None, refl, subst, sym, ap, ◌∙◌, arith, if◌then◌else◌}
use Rattle.std.specs.Prelude.{nat_le, nat_eq}
use Rattle.std.specs.List.{AllByRecursion}
use Rattle.mn_base.specs.Ids.{addr_same}
use Rattle.mn_base.specs.declared.ids.Addr.{Addr}
use Rattle.mn_base.specs.declared.ids.VersionNo.{VersionNo}
use Rattle.mn_base.specs.declared.reply.Pair.{Pair}
use Rattle.mn_base.proofs.Lists.{all_append, weaker}
use Rattle.mn_page.specs.declared.page.Page.{Page}
use Rattle.mn_page.specs.declared.page.Body.{Body}
use Rattle.mn_page.specs.declared.page.Body.TheVariants.{Leaf, Inner}
use Rattle.mn_page.specs.declared.page.Child.{Child}
use Rattle.mn_page.specs.Grammar.{height_of}
use Rattle.mn_page.specs.Overlay.{Held, Overlay, Halves, Asked, Nothing, Child_is, held_at, is_new, new_addr, halves_of, inner_halves, copied_for, body_with, placed_addr}
use Rattle.mn_page.proofs.Added.{addr_cases}
use Rattle.mn_page.proofs.Copy.{page_same}
use Rattle.mn_tree.specs.declared.write.Write.{Write}
use Rattle.mn_tree.specs.Writes.{own_writes, other_writes, root_writes, page_writes, page_asks, origins_in, writes_if, writes_up, joined, all_joined, written, all_written}
use Rattle.mn_tree.specs.Trees.{is_noted}
use Rattle.mn_tree.proofs.Trees.Puts.{held_with_is, addr_is, same_itself}
use Rattle.mn_tree.proofs.Trees.SplitBelow.{same_level}
use Rattle.mn_tree.proofs.Trees.Placed.{joined_back}

-- Where a page of the written ones comes from

pub from_written : (P : Addr → Page → Type 0) (ws : List Write) (o : Overlay) (a : Addr) (p : Page) → AllByRecursion (λ w. P w.addr w.page) ws → held_at (all_written o ws).pages a ≡ Some p
    → P a p ⊎ ((held_at o.pages a ≡ Some p) × AllByRecursion (λ w. w.addr ≡ a → ⊥) ws)
from_written P [] o a p all there = inr (there, tt)
from_written P (w ∷ ws) o a p all there = elim (from_written P ws (written o w) a p all.1 there) as (λ _. P a p ⊎ ((held_at o.pages a ≡ Some p) × ((w.addr ≡ a → ⊥) × AllByRecursion (λ x. x.addr ≡ a → ⊥) ws))) [
  | inl is ↦ inl is
  | inr was ↦ by_addr (addr_cases w.addr a) was
]
  where
    by_addr : (w.addr ≡ a) ⊎ (w.addr ≡ a → ⊥) → (held_at (written o w).pages a ≡ Some p) × AllByRecursion (λ x. x.addr ≡ a → ⊥) ws → P a p ⊎ ((held_at o.pages a ≡ Some p) × ((w.addr ≡ a → ⊥) × AllByRecursion (λ x. x.addr ≡ a → ⊥) ws))
    by_addr (inl is) was =
        let here : w.page ≡ p = page_same w.page p (sym (held_with_is o.pages w.addr w.page a ∙ ap (λ b. if b then Some w.page else held_at o.pages a) (ap (addr_same w.addr) (sym is) ∙ same_itself w.addr)) ∙ was.0) in
        inl (subst (λ (q : Page). P a q) here (subst (λ (x : Addr). P x w.page) is all.0))
    by_addr (inr off) was = inr (by_same (addr_same w.addr a) refl (sym (held_with_is o.pages w.addr w.page a) ∙ was.0), (off, was.1))
      where
        by_same : (t : Bool) → addr_same w.addr a ≡ t → (if addr_same w.addr a then Some w.page else held_at o.pages a) ≡ Some p → held_at o.pages a ≡ Some p
        by_same true e f = absurd (off (addr_is w.addr a e))
        by_same false e f = sym (ap (λ b. if b then Some w.page else held_at o.pages a) e) ∙ f

-- what has joined was there, or is an old page among the written ones
pub all_joined_back : (P : Addr → Type 0) (addrs : List Addr) (ws : List Write) (a : Addr) → AllByRecursion (λ w. P w.addr) ws → is_noted (all_joined addrs ws) a ≡ true → (is_noted addrs a ≡ true) ⊎ ((is_new a ≡ false) × P a)
all_joined_back P addrs [] a all noted = inl noted
all_joined_back P addrs (w ∷ ws) a all noted = elim (all_joined_back P (joined addrs w.addr) ws a all.1 noted) as (λ _. (is_noted addrs a ≡ true) ⊎ ((is_new a ≡ false) × P a)) [
  | inr is ↦ inr is
  | inl there ↦ elim (joined_back addrs w.addr a there) as (λ _. (is_noted addrs a ≡ true) ⊎ ((is_new a ≡ false) × P a)) [
    | inl was ↦ inl was
    | inr is ↦ inr (ap is_new (sym is.1) ∙ is.0, subst P is.1 all.0)
  ]
]

-- Where writes go

page_places : (P : Addr → Type 0) (v : VersionNo) (n : ℕ) (origin : Addr) (h : Held) (body : Body) → ((m : ℕ) → P (new_addr m)) → P h.addr → AllByRecursion (λ w. P w.addr) (page_writes v n origin h body)
page_places P v n origin h body news own = by_own (nat_eq h.page.made.0 v.0) (halves_of body)
  where
    by_own : (t : Bool) (x : Option Halves) → AllByRecursion (λ w. P w.addr) (if t then own_writes v n origin h body x else other_writes v n origin h body x)
    by_own true None = (own, tt)
    by_own true (Some halves) = (news n, (own, tt))
    by_own false None = (news n, (own, tt))
    by_own false (Some halves) = (news n, (news (n + 1), (own, tt)))

-- to new addresses, and to those of the path
pub up_places : (P : Addr → Type 0) (v : VersionNo) (n : ℕ) (origins : List Addr) (h : Held) (above : List Held) (body : Body) → ((m : ℕ) → P (new_addr m)) → P h.addr → AllByRecursion (λ g. P g.addr) above
    → AllByRecursion (λ w. P w.addr) (writes_up v n origins h above body)
up_places P v n origins h [] body news own all = by_halves (halves_of body)
  where
    by_halves : (x : Option Halves) → AllByRecursion (λ w. P w.addr) (root_writes v n (placed_addr origins h.addr) h body x)
    by_halves None = (own, tt)
    by_halves (Some halves) = (news n, (news (n + 1), (own, tt)))
up_places P v n origins h (parent ∷ above) body news own all =
    all_append (λ w. P w.addr) (page_writes v n (placed_addr origins h.addr) h body) _ (page_places P v n (placed_addr origins h.addr) h body news own)
    (by_asked (page_asks v n h body) (λ now more.
    up_places P v (n + length (origins_in (page_writes v n (placed_addr origins h.addr) h body))) origins parent above (body_with parent.page.body h.addr now more) news all.0 all.1))
  where
    later : Addr → Option Child → List Write
    later now more = writes_up v (n + length (origins_in (page_writes v n (placed_addr origins h.addr) h body))) origins parent above (body_with parent.page.body h.addr now more)

    by_asked : (a : Asked) → ((now : Addr) (more : Option Child) → AllByRecursion (λ w. P w.addr) (later now more)) → AllByRecursion (λ w. P w.addr) (writes_if a later)
    by_asked Nothing rest = tt
    by_asked (Child_is now more) rest = rest now more

-- Inner pages

abbrev pub IsHigh : Body → Type 0
IsHigh body = height_of body ≡ 0 → ⊥

with_high : (b : Body) (a now : Addr) (more : Option Child) → IsHigh b → IsHigh (body_with b a now more)
with_high b a now more high e = high (sym (same_level b a now more) ∙ e)

halves_high : (b : Body) (hs : Halves) → IsHigh b → halves_of b ≡ Some hs → IsHigh hs.left × IsHigh hs.right
halves_high (Leaf pairs) hs high e = absurd (high refl)
halves_high (Inner height first rest) hs high e = by_count (nat_le (length rest + 1) 8) e
  where
    by_rest : (cs : List Child) → inner_halves height first cs ≡ Some hs → IsHigh hs.left × IsHigh hs.right
    by_rest [] f = absurd cc
    by_rest (b ∷ []) f = absurd cc
    by_rest (b ∷ (c ∷ [])) f = absurd cc
    by_rest (b ∷ (c ∷ (d ∷ []))) f = absurd cc
    by_rest (b ∷ (c ∷ (d ∷ (g ∷ cs)))) f =
        let same = halves_same (record { left = Inner height first (b ∷ c ∷ d ∷ []); separator = g.separator; right = Inner height g.addr cs }) hs f in
        (subst (λ (x : Halves). IsHigh x.left) same high, subst (λ (x : Halves). IsHigh x.right) same high)
      where
        halves_same : (x y : Halves) → Some x ≡ Some y → x ≡ y
        halves_same x y s = cc

    by_count : (t : Bool) → (if t then None else inner_halves height first rest) ≡ Some hs → IsHigh hs.left × IsHigh hs.right
    by_count true f = absurd cc
    by_count false f = by_rest rest f

more_high : (n : ℕ) → n + 1 ≡ 0 → ⊥
more_high n e = absurd (omega arith)

page_high : (v : VersionNo) (n : ℕ) (origin : Addr) (h : Held) (body : Body) → IsHigh h.page.body → IsHigh body → AllByRecursion (λ w. IsHigh w.page.body) (page_writes v n origin h body)
page_high v n origin h body was high = by_own (nat_eq h.page.made.0 v.0) (halves_of body) refl
  where
    by_own : (t : Bool) (x : Option Halves) → halves_of body ≡ x → AllByRecursion (λ w. IsHigh w.page.body) (if t then own_writes v n origin h body x else other_writes v n origin h body x)
    by_own true None e = (high, tt)
    by_own true (Some hs) e = let parts = halves_high body hs high e in (parts.1, (parts.0, tt))
    by_own false None e = (high, (was, tt))
    by_own false (Some hs) e = let parts = halves_high body hs high e in (parts.0, (parts.1, (was, tt)))

pub up_high : (v : VersionNo) (n : ℕ) (origins : List Addr) (h : Held) (above : List Held) (body : Body) → AllByRecursion (λ g. IsHigh g.page.body) (h ∷ above) → IsHigh body → AllByRecursion (λ w. IsHigh w.page.body) (writes_up v n origins h above body)
up_high v n origins h [] body all high = by_halves (halves_of body) refl
  where
    by_halves : (x : Option Halves) → halves_of body ≡ x → AllByRecursion (λ w. IsHigh w.page.body) (root_writes v n (placed_addr origins h.addr) h body x)
    by_halves None e = (high, tt)
    by_halves (Some hs) e = let parts = halves_high body hs high e in (parts.0, (parts.1, (more_high (height_of body), tt)))
up_high v n origins h (parent ∷ above) body all high =
    all_append (λ w. IsHigh w.page.body) (page_writes v n (placed_addr origins h.addr) h body) _ (page_high v n (placed_addr origins h.addr) h body all.0 high)
    (by_asked (page_asks v n h body) (λ now more.
    up_high v (n + length (origins_in (page_writes v n (placed_addr origins h.addr) h body))) origins parent above (body_with parent.page.body h.addr now more) all.1 (with_high parent.page.body h.addr now more (all.1).0)))
  where
    later : Addr → Option Child → List Write
    later now more = writes_up v (n + length (origins_in (page_writes v n (placed_addr origins h.addr) h body))) origins parent above (body_with parent.page.body h.addr now more)

    by_asked : (a : Asked) → ((now : Addr) (more : Option Child) → AllByRecursion (λ w. IsHigh w.page.body) (later now more)) → AllByRecursion (λ w. IsHigh w.page.body) (writes_if a later)
    by_asked Nothing rest = tt
    by_asked (Child_is now more) rest = rest now more

-- so are those above a page that changes
upper_high : (v : VersionNo) (n : ℕ) (origins : List Addr) (h parent : Held) (above : List Held) (body : Body) → AllByRecursion (λ g. IsHigh g.page.body) (parent ∷ above)
    → AllByRecursion (λ w. IsHigh w.page.body) (writes_if (page_asks v n h body) (λ now more. writes_up v (n + length (origins_in (page_writes v n (placed_addr origins h.addr) h body))) origins parent above (body_with parent.page.body h.addr now more)))
upper_high v n origins h parent above body all = by_asked (page_asks v n h body)
  where
    later : Addr → Option Child → List Write
    later now more = writes_up v (n + length (origins_in (page_writes v n (placed_addr origins h.addr) h body))) origins parent above (body_with parent.page.body h.addr now more)

    by_asked : (a : Asked) → AllByRecursion (λ w. IsHigh w.page.body) (writes_if a later)
    by_asked Nothing = tt
    by_asked (Child_is now more) = up_high v (n + length (origins_in (page_writes v n (placed_addr origins h.addr) h body))) origins parent above (body_with parent.page.body h.addr now more) all (with_high parent.page.body h.addr now more all.0)

-- The leaf

-- leaves are written to new addresses and in the leaf's place alone
abbrev pub IsLeafPlace : Held → Addr → Type 0
IsLeafPlace h a = (is_new a ≡ true) ⊎ (a ≡ h.addr)

pub leaf_places : (v : VersionNo) (n : ℕ) (origins : List Addr) (h : Held) (above : List Held) (body : Body) → AllByRecursion (λ g. IsHigh g.page.body) above
    → AllByRecursion (λ w. height_of w.page.body ≡ 0 → IsLeafPlace h w.addr) (writes_up v n origins h above body)
leaf_places v n origins h [] body all = by_halves (halves_of body)
  where
    by_halves : (x : Option Halves) → AllByRecursion (λ w. height_of w.page.body ≡ 0 → IsLeafPlace h w.addr) (root_writes v n (placed_addr origins h.addr) h body x)
    by_halves None = (λ e. inr refl, tt)
    by_halves (Some halves) = (λ e. inl refl, (λ e. inl refl, (λ e. inr refl, tt)))
leaf_places v n origins h (parent ∷ above) body all =
    all_append (λ w. height_of w.page.body ≡ 0 → IsLeafPlace h w.addr) (page_writes v n (placed_addr origins h.addr) h body) _
    (weaker (λ w. IsLeafPlace h w.addr) (λ w. height_of w.page.body ≡ 0 → IsLeafPlace h w.addr) (λ w is e. is) (page_writes v n (placed_addr origins h.addr) h body)
    (page_places (IsLeafPlace h) v n (placed_addr origins h.addr) h body (λ m. inl refl) (inr refl)))
    (weaker (λ w. IsHigh w.page.body) (λ w. height_of w.page.body ≡ 0 → IsLeafPlace h w.addr) (λ w high e. absurd (high e)) _ (upper_high v n origins h parent above body all))

-- the leaf with its new pairs, whole
abbrev pub IsWhole : Addr → Page → List Pair → Addr → Page → Type 0
IsWhole x h new a p = (a ≡ x) × (p.low ≡ h.low) × (p.high ≡ h.high) × (p.body ≡ Leaf new)

-- its halves, at these addresses
abbrev pub IsLeft : Addr → Page → Halves → Addr → Page → Type 0
IsLeft l h hs a p = (a ≡ l) × (p.low ≡ h.low) × (p.high ≡ Some hs.separator) × (p.body ≡ hs.left)

abbrev pub IsRight : Addr → Page → Halves → Addr → Page → Type 0
IsRight r h hs a p = (a ≡ r) × (p.low ≡ hs.separator) × (p.high ≡ h.high) × (p.body ≡ hs.right)

abbrev pub IsHalf : Addr → Addr → Page → Halves → Addr → Page → Type 0
IsHalf l r h hs a p = IsLeft l h hs a p ⊎ IsRight r h hs a p

-- the leaves among the writes of a leaf's new pairs, but for those that are out of use, as the old
-- page of a copy
pub data LeafWrites (IsLive : Page → Type 0) (h : Held) (new : List Pair) (ws : List Write) : Type 0 where
  stays : (x : Addr) → (is_new x ≡ false → x ≡ h.addr) → AllByRecursion (λ w. height_of w.page.body ≡ 0 → IsLive w.page → IsWhole x h.page new w.addr w.page) ws → LeafWrites IsLive h new ws
  splits : (hs : Halves) (l r : Addr) → halves_of (Leaf new) ≡ Some hs → (is_new l ≡ false → l ≡ h.addr) → is_new r ≡ true
      → AllByRecursion (λ w. height_of w.page.body ≡ 0 → IsLive w.page → IsHalf l r h.page hs w.addr w.page) ws → LeafWrites IsLive h new ws

module _ (IsLive : Page → Type 0) (v : VersionNo) (off : (p : Page) → IsLive (copied_for v p) → ⊥) where
  never : (Q : Write → Type 0) (ws : List Write) → AllByRecursion (λ w. IsHigh w.page.body) ws → AllByRecursion (λ w. height_of w.page.body ≡ 0 → IsLive w.page → Q w) ws
  never Q [] all = tt
  never Q (w ∷ ws) all = (λ e live. absurd (all.0 e), never Q ws all.1)

  pub leaf_writes : (n : ℕ) (origins : List Addr) (h : Held) (above : List Held) (new : List Pair) → AllByRecursion (λ g. IsHigh g.page.body) above → LeafWrites IsLive h new (writes_up v n origins h above (Leaf new))
  leaf_writes n origins h [] new all = by_halves (halves_of (Leaf new)) refl
    where
      by_halves : (x : Option Halves) → halves_of (Leaf new) ≡ x → LeafWrites IsLive h new (root_writes v n (placed_addr origins h.addr) h (Leaf new) x)
      by_halves None e = stays h.addr (λ f. refl) (λ level live. (refl, refl, refl, refl), tt)
      by_halves (Some hs) e =
          splits hs (new_addr n) (new_addr (n + 1)) e (λ f. absurd cc) refl
          (λ level live. inl (refl, refl, refl, refl), (λ level live. inr (refl, refl, refl, refl), (λ level live. absurd (more_high 0 level), tt)))
  leaf_writes n origins h (parent ∷ above) new all = by_own (nat_eq h.page.made.0 v.0) (halves_of (Leaf new)) refl (upper_high v n origins h parent above (Leaf new) all)
    where
      ws : List Write
      ws = page_writes v n (placed_addr origins h.addr) h (Leaf new)

      higher : List Write
      higher = writes_if (page_asks v n h (Leaf new)) (λ now more. writes_up v (n + length (origins_in ws)) origins parent above (body_with parent.page.body h.addr now more))

      mine : Bool → Option Halves → List Write
      mine t x = if t then own_writes v n (placed_addr origins h.addr) h (Leaf new) x else other_writes v n (placed_addr origins h.addr) h (Leaf new) x

      by_own : (t : Bool) (x : Option Halves) → halves_of (Leaf new) ≡ x → AllByRecursion (λ w. IsHigh w.page.body) higher → LeafWrites IsLive h new (mine t x ++ higher)
      by_own true None e rest =
          stays h.addr (λ f. refl)
          (all_append (λ w. height_of w.page.body ≡ 0 → IsLive w.page → IsWhole h.addr h.page new w.addr w.page) (mine true None) higher (λ level live. (refl, refl, refl, refl), tt) (never (λ w. IsWhole h.addr h.page new w.addr w.page) higher rest))
      by_own true (Some hs) e rest =
          splits hs h.addr (new_addr n) e (λ f. refl) refl
          (all_append (λ w. height_of w.page.body ≡ 0 → IsLive w.page → IsHalf h.addr (new_addr n) h.page hs w.addr w.page) (mine true (Some hs)) higher
          (λ level live. inr (refl, refl, refl, refl), (λ level live. inl (refl, refl, refl, refl), tt)) (never (λ w. IsHalf h.addr (new_addr n) h.page hs w.addr w.page) higher rest))
      by_own false None e rest =
          stays (new_addr n) (λ f. absurd cc)
          (all_append (λ w. height_of w.page.body ≡ 0 → IsLive w.page → IsWhole (new_addr n) h.page new w.addr w.page) (mine false None) higher
          (λ level live. (refl, refl, refl, refl), (λ level live. absurd (off h.page live), tt)) (never (λ w. IsWhole (new_addr n) h.page new w.addr w.page) higher rest))
      by_own false (Some hs) e rest =
          splits hs (new_addr n) (new_addr (n + 1)) e (λ f. absurd cc) refl
          (all_append (λ w. height_of w.page.body ≡ 0 → IsLive w.page → IsHalf (new_addr n) (new_addr (n + 1)) h.page hs w.addr w.page) (mine false (Some hs)) higher
          (λ level live. inl (refl, refl, refl, refl), (λ level live. inr (refl, refl, refl, refl), (λ level live. absurd (off h.page live), tt)))
          (never (λ w. IsHalf (new_addr n) (new_addr (n + 1)) h.page hs w.addr w.page) higher rest))
