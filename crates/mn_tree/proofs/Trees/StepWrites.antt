-- What a step writes: pages that are held, each with the number that it had, and pages at the next
-- new addresses.
use Rattle.std.proofs.Common.{◌≡◌, ℕ, ◌+◌, ◌≤◌, inl, inr, Bool, true, false, cond, List, [], ◌∷◌, ◌++◌, Option, Some, None, is_some, refl, subst, sym, ap, ◌∙◌, arith, nat_eq, if◌then◌else◌}
use Rattle.std.specs.Prelude.{⊤}
use Rattle.std.specs.List.{AllByRecursion}
use Rattle.mn_base.specs.Store.{value_at, pairs_with, pairs_without}
use Rattle.mn_base.specs.declared.ids.Addr.{Addr}
use Rattle.mn_base.specs.declared.ids.VersionNo.{VersionNo}
use Rattle.mn_base.specs.declared.op.Step.{Step}
use Rattle.mn_base.specs.declared.op.Step.TheVariants.{Get, Put, Del, Check}
use Rattle.mn_page.specs.declared.page.Page.{Page}
use Rattle.mn_page.specs.declared.page.Body.{Body}
use Rattle.mn_page.specs.declared.page.Body.TheVariants.{Leaf, Inner}
use Rattle.mn_page.specs.declared.page.Child.{Child}
use Rattle.mn_page.specs.Grammar.{height_of}
use Rattle.mn_page.specs.Holds.{pairs_in}
use Rattle.mn_page.specs.Overlay.{Held, Overlay, Halves, Asked, Nothing, Child_is, held_at, held_with, new_addr, halves_of, page_with, new_page, copied_for, child_at, body_with, placed_addr}
use Rattle.mn_page.proofs.Copy.{page_same}
use Rattle.mn_page.proofs.Added.{addr_cases}
use Rattle.mn_tree.specs.declared.write.Write.{Write}
use Rattle.mn_tree.specs.Writes.{change, creation, own_writes, other_writes, root_writes, page_writes, page_asks, writes_if, writes_up, step_writes, joined, written, all_written}
use Rattle.mn_tree.proofs.Changes.{fresh_after}
use Rattle.mn_tree.proofs.Trees.Puts.{nothing, differs, held_with_is}
use Rattle.mn_tree.proofs.Trees.Tidy.{held_here}

-- elsewhere the pages stay
pub held_past : (pages : List Held) (a : Addr) (p : Page) (x : Addr) → (a ≡ x → ⊥) → held_at (held_with pages a p) x ≡ held_at pages x
held_past pages a p x apart = held_with_is pages a p x ∙ ap (λ b. if b then Some p else held_at pages x) (differs a x apart)

-- what stands there is this page, or was there
pub data HeldNow (pages : List Held) (a : Addr) (p : Page) (x : Addr) (y : Page) : Type 0 where
  is_now : a ≡ x → y ≡ p → HeldNow pages a p x y
  is_still : (a ≡ x → ⊥) → held_at pages x ≡ Some y → HeldNow pages a p x y

pub held_now : (pages : List Held) (a : Addr) (p : Page) (x : Addr) (y : Page) → held_at (held_with pages a p) x ≡ Some y → HeldNow pages a p x y
held_now pages a p x y there = elim (addr_cases a x) as (λ _. HeldNow pages a p x y) [
  | inl e ↦ is_now e (page_same y p (sym there ∙ (ap (held_at (held_with pages a p)) (sym e) ∙ held_here pages a p)))
  | inr apart ↦ is_still apart (sym (held_past pages a p x apart) ∙ there)
]

-- Writes

abbrev pub IsWriteOf : Overlay → Addr → Page → Option Addr → Type 0
IsWriteOf o x p None = (q : Page) × (held_at o.pages x ≡ Some q) × (p.seq ≡ q.seq)
IsWriteOf o x p (Some origin) = (x ≡ new_addr o.fresh) × (p.seq ≡ 1)

-- a page that is held, with the number that it had, or a page at the next new address
abbrev pub IsWrite : Overlay → Write → Type 0
IsWrite o w = IsWriteOf o w.addr w.page w.origin

abbrev pub AreWrites : Overlay → List Write → Type 0
AreWrites o [] = ⊤
AreWrites o (w ∷ ws) = IsWrite o w × AreWrites (written o w) ws

are_append : (o : Overlay) (ws more : List Write) → AreWrites o ws → AreWrites (all_written o ws) more → AreWrites o (ws ++ more)
are_append o [] more are rest = rest
are_append o (w ∷ ws) more are rest = (are.0, are_append (written o w) ws more are.1 rest)

-- Pages that a step is about to change

-- what stands at the address has this page's number
abbrev HasNumber : Overlay → Held → Type 0
HasNumber o h = (q : Page) × (held_at o.pages h.addr ≡ Some q) × (q.seq ≡ h.page.seq)

pub record IsReady (o : Overlay) (hs : List Held) : Type 0 where
  pub fresh : (n : ℕ) → o.fresh ≤ n → held_at o.pages (new_addr n) ≡ None
  pub held : AllByRecursion (HasNumber o) hs

-- writes leave them so
ready_written : (o : Overlay) (w : Write) (hs : List Held) → IsReady o hs → IsWrite o w → IsReady (written o w) hs
ready_written o w hs ready is = by_origin w.origin is
  where
    each : (o' : Overlay) → o'.pages ≡ held_with o.pages w.addr w.page → ((h : Held) → HasNumber o h → w.addr ≡ h.addr → w.page.seq ≡ h.page.seq) → (xs : List Held) → AllByRecursion (HasNumber o) xs → AllByRecursion (HasNumber o') xs
    each o' is same [] all = tt
    each o' is same (h ∷ xs) all = (
      elim (addr_cases w.addr h.addr) as (λ _. HasNumber o' h) [
        | inl e ↦ (w.page, ap (λ (hs : List Held). held_at hs h.addr) is ∙ (ap (held_at (held_with o.pages w.addr w.page)) (sym e) ∙ held_here o.pages w.addr w.page), same h all.0 e)
        | inr apart ↦ ((all.0).0, ap (λ (hs : List Held). held_at hs h.addr) is ∙ (held_past o.pages w.addr w.page h.addr apart ∙ (all.0).1), (all.0).2)
      ],
      each o' is same xs all.1,
    )

    by_origin : (origin : Option Addr) → IsWriteOf o w.addr w.page origin
        → IsReady (record { pages = held_with o.pages w.addr w.page; changed = if is_some origin then o.changed else joined o.changed w.addr; fresh = if is_some origin then o.fresh + 1 else o.fresh }) hs
    by_origin None (q, there, number) = record {
      fresh = λ n low. held_past o.pages w.addr w.page (new_addr n) (λ e. nothing q (held_at o.pages w.addr) (ap (held_at o.pages) e ∙ ready.fresh n low) there) ∙ ready.fresh n low;
      held = each (record { pages = held_with o.pages w.addr w.page; changed = joined o.changed w.addr; fresh = o.fresh }) refl
          (λ h was e. number ∙ (ap (λ (p : Page). p.seq) (page_same q was.0 (sym there ∙ (ap (held_at o.pages) e ∙ was.1))) ∙ was.2)) hs ready.held;
    }
    by_origin (Some origin) (at_new, number) = record {
      fresh = λ n low. held_past o.pages w.addr w.page (new_addr n) (λ e. let same : o.fresh ≡ n = ap (λ (a : Addr). a.slot) (sym at_new ∙ e) in absurd (omega arith)) ∙ ready.fresh n (omega arith);
      held = each (record { pages = held_with o.pages w.addr w.page; changed = o.changed; fresh = o.fresh + 1 }) refl
          (λ h was e. absurd (nothing was.0 (held_at o.pages h.addr) (ap (held_at o.pages) (sym e ∙ at_new) ∙ ready.fresh o.fresh (omega arith)) was.1)) hs ready.held;
    }

all_ready : (o : Overlay) (ws : List Write) (hs : List Held) → IsReady o hs → AreWrites o ws → IsReady (all_written o ws) hs
all_ready o [] hs ready are = ready
all_ready o (w ∷ ws) hs ready are = all_ready (written o w) ws hs (ready_written o w hs ready are.0) are.1

-- Changes of one page

change_of : (o : Overlay) (h : Held) (hs : List Held) (p : Page) → IsReady o (h ∷ hs) → p.seq ≡ h.page.seq → IsWriteOf o h.addr p None
change_of o h hs p ready same = let r = (ready.held).0 in (r.0, r.1, same ∙ sym r.2)

-- one new page before it, or two
one_new : (o : Overlay) (h : Held) (hs : List Held) (a b : Page) (origin : Addr) → IsReady o (h ∷ hs) → a.seq ≡ 1 → b.seq ≡ h.page.seq → AreWrites o (creation o.fresh a origin ∷ change h.addr b ∷ [])
one_new o h hs a b origin ready first same =
    let w : Write = creation o.fresh a origin in
    let is : IsWrite o w = (refl, first) in
    (is, (change_of (written o w) h hs b (ready_written o w (h ∷ hs) ready is) same, tt))

two_new : (o : Overlay) (h : Held) (hs : List Held) (a b c : Page) (origin : Addr) → IsReady o (h ∷ hs) → a.seq ≡ 1 → b.seq ≡ 1 → c.seq ≡ h.page.seq
    → AreWrites o (creation o.fresh a origin ∷ creation (o.fresh + 1) b origin ∷ change h.addr c ∷ [])
two_new o h hs a b c origin ready first second same =
    let w : Write = creation o.fresh a origin in
    let is : IsWrite o w = (refl, first) in
    (is, one_new (written o w) h hs b c origin (ready_written o w (h ∷ hs) ready is) second same)

own_are : (v : VersionNo) (o : Overlay) (origin : Addr) (h : Held) (hs : List Held) (body : Body) (halves : Option Halves) → IsReady o (h ∷ hs) → AreWrites o (own_writes v o.fresh origin h body halves)
own_are v o origin h hs body None ready = (change_of o h hs (page_with h.page h.page.low h.page.high body) ready refl, tt)
own_are v o origin h hs body (Some halves) ready =
    one_new o h hs (new_page v halves.separator h.page.high halves.right) (page_with h.page h.page.low (Some halves.separator) halves.left) origin ready refl refl

other_are : (v : VersionNo) (o : Overlay) (origin : Addr) (h : Held) (hs : List Held) (body : Body) (halves : Option Halves) → IsReady o (h ∷ hs) → AreWrites o (other_writes v o.fresh origin h body halves)
other_are v o origin h hs body None ready = one_new o h hs (new_page v h.page.low h.page.high body) (copied_for v h.page) origin ready refl refl
other_are v o origin h hs body (Some halves) ready =
    two_new o h hs (new_page v h.page.low (Some halves.separator) halves.left) (new_page v halves.separator h.page.high halves.right) (copied_for v h.page) origin ready refl refl refl

root_are : (v : VersionNo) (o : Overlay) (origin : Addr) (h : Held) (hs : List Held) (body : Body) (halves : Option Halves) → IsReady o (h ∷ hs) → AreWrites o (root_writes v o.fresh origin h body halves)
root_are v o origin h hs body None ready = (change_of o h hs (page_with h.page h.page.low h.page.high body) ready refl, tt)
root_are v o origin h hs body (Some halves) ready =
    two_new o h hs (new_page v h.page.low (Some halves.separator) halves.left) (new_page v halves.separator h.page.high halves.right)
    (page_with h.page h.page.low h.page.high (Inner (height_of body + 1) (new_addr o.fresh) (child_at halves.separator (new_addr (o.fresh + 1)) ∷ []))) origin ready refl refl refl

page_are : (v : VersionNo) (o : Overlay) (origin : Addr) (h : Held) (hs : List Held) (body : Body) → IsReady o (h ∷ hs) → AreWrites o (page_writes v o.fresh origin h body)
page_are v o origin h hs body ready = by_made (nat_eq h.page.made.0 v.0)
  where
    by_made : (b : Bool) → AreWrites o (cond b (own_writes v o.fresh origin h body (halves_of body)) (other_writes v o.fresh origin h body (halves_of body)))
    by_made true = own_are v o origin h hs body (halves_of body) ready
    by_made false = other_are v o origin h hs body (halves_of body) ready

-- Changes up a path

asked_are : (o : Overlay) (asked : Asked) (writes : Addr → Option Child → List Write) → ((now : Addr) (more : Option Child) → AreWrites o (writes now more)) → AreWrites o (writes_if asked writes)
asked_are o Nothing writes all = tt
asked_are o (Child_is now more) writes all = all now more

up_are : (v : VersionNo) (o : Overlay) (origins : List Addr) (h : Held) (above : List Held) (body : Body) → IsReady o (h ∷ above) → AreWrites o (writes_up v o.fresh origins h above body)
up_are v o origins h [] body ready = root_are v o (placed_addr origins h.addr) h [] body (halves_of body) ready
up_are v o origins h (parent ∷ above) body ready =
    let ws : List Write = page_writes v o.fresh (placed_addr origins h.addr) h body in
    let are : AreWrites o ws = page_are v o (placed_addr origins h.addr) h (parent ∷ above) body ready in
    let later = all_ready o ws (h ∷ parent ∷ above) ready are in
    are_append o ws _ are (asked_are (all_written o ws) (page_asks v o.fresh h body) _ (λ now more. subst (λ n. AreWrites (all_written o ws) (writes_up v n origins parent above (body_with parent.page.body h.addr now more))) (fresh_after o ws)
    (up_are v (all_written o ws) origins parent above (body_with parent.page.body h.addr now more) (record { fresh = later.fresh; held = (later.held).1 }))))

-- what a step writes
pub step_are : (v : VersionNo) (o : Overlay) (origins : List Addr) (step : Step) (path : List Held) → IsReady o path → AreWrites o (step_writes v o.fresh origins step path)
step_are v o origins (Get key) [] ready = tt
step_are v o origins (Put key value) [] ready = tt
step_are v o origins (Del key) [] ready = tt
step_are v o origins (Check key want) [] ready = tt
step_are v o origins (Put key value) (h ∷ above) ready = up_are v o origins h above (Leaf (pairs_with (pairs_in h.page.body) key value)) ready
step_are v o origins (Del key) (h ∷ above) ready = by_value (is_some (value_at (pairs_in h.page.body) key))
  where
    by_value : (b : Bool) → AreWrites o (cond b (writes_up v o.fresh origins h above (Leaf (pairs_without (pairs_in h.page.body) key))) [])
    by_value true = up_are v o origins h above (Leaf (pairs_without (pairs_in h.page.body) key)) ready
    by_value false = tt
step_are v o origins (Get key) (h ∷ above) ready = tt
step_are v o origins (Check key want) (h ∷ above) ready = tt
