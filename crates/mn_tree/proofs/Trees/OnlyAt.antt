-- The pages of a draft at some addresses alone.
use Rattle.std.proofs.Common.{◌≡◌, Bool, true, false, cond, ◌||◌, List, [], ◌∷◌, Some, None, refl, subst, sym, ap, ◌∙◌, if◌then◌else◌}
use Rattle.std.specs.Prelude.{filter}
use Rattle.std.specs.List.{AllByRecursion}
use Rattle.mn_base.specs.Ids.{addr_same}
use Rattle.mn_base.specs.declared.ids.Addr.{Addr}
use Rattle.mn_page.specs.declared.page.Page.{Page}
use Rattle.mn_page.specs.Overlay.{Held, Overlay, held_at, held_with, is_new}
use Rattle.mn_tree.specs.declared.write.Write.{Write}
use Rattle.mn_tree.specs.Writes.{written, all_written}
use Rattle.mn_tree.specs.Trees.{is_noted}
use Rattle.mn_tree.specs.Moves.{only_at}
use Rattle.mn_tree.proofs.Trees.Puts.{addr_is}

-- the address is new, or among these
abbrev pub is_kept : List Addr → Addr → Bool
is_kept addrs x = is_new x || is_noted addrs x

module _ (addrs : List Addr) where
  abbrev pub kept : List Held → List Held
  kept pages = filter (λ h. is_kept addrs h.addr) pages

  pub held_kept : (pages : List Held) (x : Addr) → is_kept addrs x ≡ true → held_at (kept pages) x ≡ held_at pages x
  held_kept [] x keep = refl
  held_kept (h ∷ hs) x keep = cases (is_kept addrs h.addr) (addr_same h.addr x) refl refl (held_kept hs x keep)
    where
      cases : (s t : Bool) → is_kept addrs h.addr ≡ s → addr_same h.addr x ≡ t → held_at (kept hs) x ≡ held_at hs x → held_at (cond s (h ∷ kept hs) (kept hs)) x ≡ (if t then Some h.page else held_at hs x)
      cases true true e f rest = ap (λ b. if b then Some h.page else held_at (kept hs) x) f
      cases true false e f rest = ap (λ b. if b then Some h.page else held_at (kept hs) x) f ∙ rest
      cases false true e f rest = let same = addr_is h.addr x f in let off : is_kept addrs x ≡ false = subst (λ (y : Addr). is_kept addrs y ≡ false) same e in absurd cc
      cases false false e f rest = rest

  pub held_left : (pages : List Held) (x : Addr) → is_kept addrs x ≡ false → held_at (kept pages) x ≡ None
  held_left [] x off = refl
  held_left (h ∷ hs) x off = cases (is_kept addrs h.addr) refl (held_left hs x off)
    where
      cases : (s : Bool) → is_kept addrs h.addr ≡ s → held_at (kept hs) x ≡ None → held_at (cond s (h ∷ kept hs) (kept hs)) x ≡ None
      cases true e rest = by_same (addr_same h.addr x) refl
        where
          by_same : (t : Bool) → addr_same h.addr x ≡ t → (if t then Some h.page else held_at (kept hs) x) ≡ None
          by_same true f = let same = addr_is h.addr x f in let on : is_kept addrs x ≡ true = subst (λ (y : Addr). is_kept addrs y ≡ true) same e in absurd cc
          by_same false f = rest
      cases false e rest = rest

  pub with_kept : (pages : List Held) (a : Addr) (p : Page) → is_kept addrs a ≡ true → kept (held_with pages a p) ≡ held_with (kept pages) a p
  with_kept [] a p keep = ap (λ b. cond b (record { addr = a; page = p } ∷ []) []) keep
  with_kept (h ∷ hs) a p keep = cases (is_kept addrs h.addr) (addr_same h.addr a) refl refl (with_kept hs a p keep)
    where
      now : Held
      now = record { addr = a; page = p }

      cases : (s t : Bool) → is_kept addrs h.addr ≡ s → addr_same h.addr a ≡ t → kept (held_with hs a p) ≡ held_with (kept hs) a p
          → kept (if t then now ∷ hs else h ∷ held_with hs a p) ≡ held_with (cond s (h ∷ kept hs) (kept hs)) a p
      cases true true e f rest = ap (λ b. cond b (now ∷ kept hs) (kept hs)) keep ∙ ap (λ b. if b then now ∷ kept hs else h ∷ held_with (kept hs) a p) (sym f)
      cases true false e f rest =
          ap (λ b. cond b (h ∷ kept (held_with hs a p)) (kept (held_with hs a p))) e ∙ (ap (λ (l : List Held). h ∷ l) rest ∙ ap (λ b. if b then now ∷ kept hs else h ∷ held_with (kept hs) a p) (sym f))
      cases false true e f rest = let same = addr_is h.addr a f in let off : is_kept addrs a ≡ false = subst (λ (y : Addr). is_kept addrs y ≡ false) same e in absurd cc
      cases false false e f rest = ap (λ b. cond b (h ∷ kept (held_with hs a p)) (kept (held_with hs a p))) e ∙ rest

  pub with_left : (pages : List Held) (a : Addr) (p : Page) → is_kept addrs a ≡ false → kept (held_with pages a p) ≡ kept pages
  with_left [] a p off = ap (λ b. cond b (record { addr = a; page = p } ∷ []) []) off
  with_left (h ∷ hs) a p off = cases (is_kept addrs h.addr) (addr_same h.addr a) refl refl (with_left hs a p off)
    where
      now : Held
      now = record { addr = a; page = p }

      cases : (s t : Bool) → is_kept addrs h.addr ≡ s → addr_same h.addr a ≡ t → kept (held_with hs a p) ≡ kept hs → kept (if t then now ∷ hs else h ∷ held_with hs a p) ≡ cond s (h ∷ kept hs) (kept hs)
      cases true true e f rest = let same = addr_is h.addr a f in let on : is_kept addrs a ≡ true = subst (λ (y : Addr). is_kept addrs y ≡ true) same e in absurd cc
      cases true false e f rest = ap (λ b. cond b (h ∷ kept (held_with hs a p)) (kept (held_with hs a p))) e ∙ ap (λ (l : List Held). h ∷ l) rest
      cases false true e f rest = ap (λ b. cond b (now ∷ kept hs) (kept hs)) off
      cases false false e f rest = ap (λ b. cond b (h ∷ kept (held_with hs a p)) (kept (held_with hs a p))) e ∙ rest

  -- writes at these addresses
  pub written_kept : (ws : List Write) (o : Overlay) → AllByRecursion (λ w. is_kept addrs w.addr ≡ true) ws → only_at addrs (all_written o ws) ≡ all_written (only_at addrs o) ws
  written_kept [] o all = refl
  written_kept (w ∷ ws) o all = written_kept ws (written o w) all.1 ∙ ap (λ (x : Overlay). all_written x ws) one
    where
      one : only_at addrs (written o w) ≡ written (only_at addrs o) w
      one = ap (λ (l : List Held). let r : Overlay = record { pages = l; changed = (written o w).changed; fresh = (written o w).fresh } in r) (with_kept o.pages w.addr w.page all.0)
