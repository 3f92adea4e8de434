-- The read set of moves: each of its pages came in, and is a leaf that a step touched or was
-- changed.
use Rattle.std.proofs.Common.{◌≡◌, ℕ, ◌+◌, ◌<◌, ◌≤◌, ◌⊎◌, inl, inr, Bool, true, false, ◌||◌, List, [], ◌∷◌, ◌++◌, Option, Some, None, is_some, refl, subst, sym, ap, ◌∙◌, arith, append_assoc, ne_eqb, if◌then◌else◌}
use Rattle.std.specs.List.{AllByRecursion}
use Rattle.std.specs.Option.{option_or}
use Rattle.std.proofs.lemmas.Bool.{cases_eq}
use Rattle.mn_base.specs.Ids.{addr_same}
use Rattle.mn_base.specs.Store.{step_key}
use Rattle.mn_base.specs.declared.ids.Addr.{Addr}
use Rattle.mn_base.specs.declared.ids.VersionNo.{VersionNo}
use Rattle.mn_base.specs.declared.op.Step.{Step}
use Rattle.mn_base.proofs.Booleans.{clash}
use Rattle.mn_page.specs.declared.page.Page.{Page}
use Rattle.mn_page.specs.Grammar.{IsPage, IsAddr, height_of}
use Rattle.mn_page.specs.Overlay.{Held, Overlay, held_at, held_with, is_new, new_addr}
use Rattle.mn_page.proofs.Copy.{page_same}
use Rattle.mn_page.proofs.Added.{addr_cases}
use Rattle.mn_tree.specs.declared.write.Write.{Write}
use Rattle.mn_tree.specs.Writes.{step_writes, joined, all_joined, written, all_written}
use Rattle.mn_tree.specs.State.{Drafted, drafted_after, leaf_joined, no_pages}
use Rattle.mn_tree.specs.Trees.{is_noted}
use Rattle.mn_tree.specs.Moves.{Move, Comes, Does, MayCome, LeadsTo, comes_in}
use Rattle.mn_tree.specs.MoveLaws.{AreOnce, MovesRead}
use Rattle.mn_tree.proofs.Changes.{step_is}
use Rattle.mn_tree.proofs.Trees.Puts.{nothing, same_itself, differs}
use Rattle.mn_tree.proofs.Trees.Tidy.{noted_more, held_kept, held_here}
use Rattle.mn_tree.proofs.Trees.Placing.{held_append}
use Rattle.mn_tree.proofs.Trees.Placed.{joined_has, joined_itself, joined_back}
use Rattle.mn_tree.proofs.Trees.Reached.{AreHeld, LeafFirst, reached}
use Rattle.mn_tree.proofs.Trees.StepWrites.{is_now, is_still, held_past, held_now, IsWriteOf, IsWrite, AreWrites, step_are}

-- Addresses

-- a slot's address isn't that of a new page
pub old_addr : (a : Addr) → IsAddr a → is_new a ≡ false
old_addr a is = let low = is.0 in ne_eqb a.node.0 8 (λ e. absurd (omega arith))

-- an address that joins keeps them apart
once_joined : (addrs : List Addr) (a : Addr) → AreOnce addrs → AreOnce (joined addrs a)
once_joined addrs a once = cases (is_new a) (is_noted addrs a) refl
  where
    turned : (x : Addr) → addr_same x a ≡ false → addr_same a x ≡ false
    turned x off = differs a x (λ e. clash (addr_same x a) (ap (λ (y : Addr). addr_same y a) (sym e) ∙ same_itself a) off)

    neither : (s t : Bool) → (s || t) ≡ false → (s ≡ false) × (t ≡ false)
    neither true t e = absurd cc
    neither false t e = (refl, e)

    behind : (xs : List Addr) → is_noted xs a ≡ false → AreOnce xs → AreOnce (xs ++ a ∷ [])
    behind [] off all = (refl, tt)
    behind (x ∷ xs) off all =
        let parts = neither (addr_same x a) (is_noted xs a) off in
        (noted_more xs a x ∙ both (is_noted xs x) (addr_same a x) all.0 (turned x parts.0), behind xs parts.1 all.1)
      where
        both : (s t : Bool) → s ≡ false → t ≡ false → (s || t) ≡ false
        both true t e f = absurd cc
        both false t e f = f

    cases : (s t : Bool) → is_noted addrs a ≡ t → AreOnce (if s || t then addrs else addrs ++ a ∷ [])
    cases true t e = once
    cases false true e = once
    cases false false e = behind addrs e once

-- What holds between moves

-- an old page that is held came in; it has the number with which it came, and is as it was unless
-- it was changed
pub record IsOld (came : List Held) (changed : List Addr) (x : Addr) (page : Page) : Type 0 where
  pub was : Page
  pub there : held_at came x ≡ Some was
  pub is : IsPage was
  pub addr : IsAddr x
  pub number : page.seq ≡ was.seq
  pub same : (page ≡ was) ⊎ (is_noted changed x ≡ true)

-- a page of the read set
abbrev pub IsRead : List Held → List Addr → Addr → Type 0
IsRead came changed x = (page : Page) × (held_at came x ≡ Some page) × IsPage page × IsAddr x × ((height_of page.body ≡ 0) ⊎ (is_noted changed x ≡ true))

pub record Reads (came : List Held) (o : Overlay) (read : List Addr) : Type 0 where
  pub once : AreOnce read
  pub each : (x : Addr) → is_noted read x ≡ true → IsRead came o.changed x
  pub changed : (x : Addr) → is_noted o.changed x ≡ true → is_noted read x ≡ true
  pub kept : (x : Addr) → is_noted o.changed x ≡ true → (page : Page) × (held_at o.pages x ≡ Some page)
  pub old : (x : Addr) (page : Page) → is_new x ≡ false → held_at o.pages x ≡ Some page → IsOld came o.changed x page
  pub new : (n : ℕ) → n < o.fresh → (page : Page) × (held_at o.pages (new_addr n) ≡ Some page) × (page.seq ≡ 1)
  pub fresh : (n : ℕ) → o.fresh ≤ n → held_at o.pages (new_addr n) ≡ None
  -- what came in is held
  pub absent : (x : Addr) → held_at o.pages x ≡ None → held_at came x ≡ None

-- more pages are changed
old_more : (came : List Held) (changed : List Addr) (a x : Addr) (page : Page) → IsOld came changed x page → IsOld came (joined changed a) x page
old_more came changed a x page is = record {
  was = is.was;
  there = is.there;
  is = is.is;
  addr = is.addr;
  number = is.number;
  same = elim is.same as (λ _. (page ≡ is.was) ⊎ (is_noted (joined changed a) x ≡ true)) [ inl e ↦ inl e | inr e ↦ inr (joined_has changed a x e) ];
}

read_more : (came : List Held) (changed : List Addr) (a x : Addr) → IsRead came changed x → IsRead came (joined changed a) x
read_more came changed a x is =
    (is.0, is.1, is.2, is.3, elim is.4 as (λ _. (height_of (is.0).body ≡ 0) ⊎ (is_noted (joined changed a) x ≡ true)) [ inl e ↦ inl e | inr e ↦ inr (joined_has changed a x e) ])

-- a page that isn't there now wasn't before
pub was_absent : (pages : List Held) (a : Addr) (p : Page) (x : Addr) → held_at (held_with pages a p) x ≡ None → held_at pages x ≡ None
was_absent pages a p x none = elim (addr_cases a x) as (λ _. held_at pages x ≡ None) [
  | inl e ↦ absurd (nothing p (held_at (held_with pages a p) x) none (ap (held_at (held_with pages a p)) (sym e) ∙ held_here pages a p))
  | inr apart ↦ sym (held_past pages a p x apart) ∙ none
]

-- One write

-- a new page
created : (came : List Held) (o : Overlay) (read : List Addr) (p : Page) → Reads came o read → p.seq ≡ 1 → Reads came (record { pages = held_with o.pages (new_addr o.fresh) p; changed = o.changed; fresh = o.fresh + 1 }) read
created came o read p r number = record {
  once = r.once;
  each = r.each;
  changed = r.changed;
  kept = λ x noted. held_kept o.pages (new_addr o.fresh) p x (r.kept x noted);
  old = λ x page is there. elim (held_now o.pages (new_addr o.fresh) p x page there) as (λ _. IsOld came o.changed x page) [
    | is_now e f ↦ absurd (clash (is_new x) (ap is_new (sym e)) is)
    | is_still apart f ↦ r.old x page is f
  ];
  new = λ n low. at n low (cases_eq o.fresh n);
  fresh = λ n low. held_past o.pages (new_addr o.fresh) p (new_addr n) (other n (λ e. absurd (omega arith))) ∙ r.fresh n (omega arith);
  absent = λ x none. r.absent x (was_absent o.pages (new_addr o.fresh) p x none);
}
  where
    other : (n : ℕ) → (o.fresh ≡ n → ⊥) → new_addr o.fresh ≡ new_addr n → ⊥
    other n off e = off (ap (λ (a : Addr). a.slot) e)

    at : (n : ℕ) → n < o.fresh + 1 → (o.fresh ≡ n) ⊎ (o.fresh ≡ n → ⊥) → (page : Page) × (held_at (held_with o.pages (new_addr o.fresh) p) (new_addr n) ≡ Some page) × (page.seq ≡ 1)
    at n low (inl e) = (p, ap (λ k. held_at (held_with o.pages (new_addr o.fresh) p) (new_addr k)) (sym e) ∙ held_here o.pages (new_addr o.fresh) p, number)
    at n low (inr off) = let was = r.new n (omega (arith, off)) in (was.0, held_past o.pages (new_addr o.fresh) p (new_addr n) (other n off) ∙ was.1, was.2)

-- a page that is held, changed in its place
changed_one : (came : List Held) (o : Overlay) (read : List Addr) (a : Addr) (p q : Page) → Reads came o read → held_at o.pages a ≡ Some q → p.seq ≡ q.seq
    → Reads came (record { pages = held_with o.pages a p; changed = joined o.changed a; fresh = o.fresh }) (joined read a)
changed_one came o read a p q r there number = record {
  once = once_joined read a r.once;
  each = λ x noted. elim (joined_back read a x noted) as (λ _. IsRead came (joined o.changed a) x) [
    | inl e ↦ read_more came o.changed a x (r.each x e)
    | inr e ↦ subst (λ (y : Addr). IsRead came (joined o.changed a) y) e.1 (here e.0)
  ];
  changed = λ x noted. elim (joined_back o.changed a x noted) as (λ _. is_noted (joined read a) x ≡ true) [
    | inl e ↦ joined_has read a x (r.changed x e)
    | inr e ↦ subst (λ (y : Addr). is_noted (joined read a) y ≡ true) e.1 (joined_itself read a e.0)
  ];
  kept = λ x noted. elim (joined_back o.changed a x noted) as (λ _. (page : Page) × (held_at (held_with o.pages a p) x ≡ Some page)) [
    | inl e ↦ held_kept o.pages a p x (r.kept x e)
    | inr e ↦ (p, ap (held_at (held_with o.pages a p)) (sym e.1) ∙ held_here o.pages a p)
  ];
  old = λ x page is found. elim (held_now o.pages a p x page found) as (λ _. IsOld came (joined o.changed a) x page) [
    | is_now e f ↦ subst (λ (y : Addr). IsOld came (joined o.changed a) y page) e (itself page (ap is_new e ∙ is) f)
    | is_still apart f ↦ old_more came o.changed a x page (r.old x page is f)
  ];
  new = λ n low. let was = r.new n low in elim (addr_cases a (new_addr n)) as (λ _. (page : Page) × (held_at (held_with o.pages a p) (new_addr n) ≡ Some page) × (page.seq ≡ 1)) [
    | inl e ↦ (p, ap (held_at (held_with o.pages a p)) (sym e) ∙ held_here o.pages a p, number ∙ (ap (λ (y : Page). y.seq) (page_same q was.0 (sym there ∙ (ap (held_at o.pages) e ∙ was.1))) ∙ was.2))
    | inr apart ↦ (was.0, held_past o.pages a p (new_addr n) apart ∙ was.1, was.2)
  ];
  fresh = λ n low. held_past o.pages a p (new_addr n) (λ e. nothing q (held_at o.pages a) (ap (held_at o.pages) e ∙ r.fresh n low) there) ∙ r.fresh n low;
  absent = λ x none. r.absent x (was_absent o.pages a p x none);
}
  where
    here : is_new a ≡ false → IsRead came (joined o.changed a) a
    here is = let old = r.old a q is there in (old.was, old.there, old.is, old.addr, inr (joined_itself o.changed a is))

    itself : (page : Page) → is_new a ≡ false → page ≡ p → IsOld came (joined o.changed a) a page
    itself page is same =
        let old = r.old a q is there in
        record { was = old.was; there = old.there; is = old.is; addr = old.addr; number = ap (λ (y : Page). y.seq) same ∙ (number ∙ old.number); same = inr (joined_itself o.changed a is) }

-- a step's writes keep what holds
reads_written : (came : List Held) (o : Overlay) (read : List Addr) (w : Write) → Reads came o read → IsWrite o w → Reads came (written o w) (joined read w.addr)
reads_written came o read w r is = by_origin w.origin is
  where
    by_origin : (origin : Option Addr) → IsWriteOf o w.addr w.page origin
        → Reads came (record { pages = held_with o.pages w.addr w.page; changed = if is_some origin then o.changed else joined o.changed w.addr; fresh = if is_some origin then o.fresh + 1 else o.fresh }) (joined read w.addr)
    by_origin None (q, there, number) = changed_one came o read w.addr w.page q r there number
    by_origin (Some origin) (at_new, number) =
        subst (λ (a : Addr). Reads came (record { pages = held_with o.pages a w.page; changed = o.changed; fresh = o.fresh + 1 }) (joined read a)) (sym at_new) (created came o read w.page r number)

all_reads : (came : List Held) (ws : List Write) (o : Overlay) (read : List Addr) → Reads came o read → AreWrites o ws → Reads came (all_written o ws) (all_joined read ws)
all_reads came [] o read r are = r
all_reads came (w ∷ ws) o read r are = all_reads came ws (written o w) (joined read w.addr) (reads_written came o read w r are.0) are.1

-- Moves

-- a leaf that is touched
touched : (came : List Held) (o : Overlay) (read : List Addr) (a : Addr) (q : Page) → Reads came o read → held_at o.pages a ≡ Some q → height_of q.body ≡ 0 → Reads came o (joined read a)
touched came o read a q r there level = record {
  once = once_joined read a r.once;
  each = λ x noted. elim (joined_back read a x noted) as (λ _. IsRead came o.changed x) [
    | inl e ↦ r.each x e
    | inr e ↦ subst (λ (y : Addr). IsRead came o.changed y) e.1 (here e.0)
  ];
  changed = λ x noted. joined_has read a x (r.changed x noted);
  kept = r.kept;
  old = r.old;
  new = r.new;
  fresh = r.fresh;
  absent = r.absent;
}
  where
    here : is_new a ≡ false → IsRead came o.changed a
    here is =
        let old = r.old a q is there in (
          old.was,
          old.there,
          old.is,
          old.addr,
          elim old.same as (λ _. (height_of (old.was).body ≡ 0) ⊎ (is_noted o.changed a ≡ true)) [
            | inl e ↦ inl (ap (λ (y : Page). height_of y.body) (sym e) ∙ level)
            | inr e ↦ inr e
          ],
        )

-- a step
pub step_reads : (v : VersionNo) (came : List Held) (d : Drafted) (step : Step) (path : List Held) → Reads came d.overlay d.read → AreHeld d.overlay.pages path → LeafFirst (step_key step) path
    → Reads came (drafted_after v d step path).overlay (drafted_after v d step path).read
step_reads v came d step path r held leaf =
    subst (λ (o : Overlay). Reads came o (all_joined (leaf_joined d.read path) (step_writes v d.overlay.fresh d.origins step path))) (sym (step_is v d.overlay d.origins step path))
    (all_reads came (step_writes v d.overlay.fresh d.origins step path) d.overlay (leaf_joined d.read path) (with_leaf path held leaf)
    (step_are v d.overlay d.origins step path (record { fresh = r.fresh; held = numbers path held })))
  where
    numbers : (hs : List Held) → AreHeld d.overlay.pages hs → AllByRecursion (λ h. (q : Page) × (held_at d.overlay.pages h.addr ≡ Some q) × (q.seq ≡ h.page.seq)) hs
    numbers [] all = tt
    numbers (h ∷ hs) all = ((h.page, all.0, refl), numbers hs all.1)

    with_leaf : (hs : List Held) → AreHeld d.overlay.pages hs → LeafFirst (step_key step) hs → Reads came d.overlay (leaf_joined d.read hs)
    with_leaf [] all first = absurd first
    with_leaf (h ∷ hs) all first = touched came d.overlay d.read h.addr h.page r all.0 first.0

-- a page that comes in
pub came_more : (came : List Held) (h : Held) (x : Addr) (p : Page) → held_at came x ≡ Some p → held_at (came ++ h ∷ []) x ≡ Some p
came_more came h x p there = held_append came (h ∷ []) x ∙ ap (λ (o : Option Page). option_or o (held_at (h ∷ []) x)) there

pub comes_reads : (parents : List (Option ℕ)) (v : VersionNo) (came : List Held) (d : Drafted) (h : Held) → Reads came d.overlay d.read → MayCome parents v d h
    → Reads (came ++ h ∷ []) (record { pages = held_with d.overlay.pages h.addr h.page; changed = d.overlay.changed; fresh = d.overlay.fresh }) d.read
comes_reads parents v came d h r may = record {
  once = r.once;
  each = λ x noted. let is = r.each x noted in (is.0, came_more came h x is.0 is.1, is.2, is.3, is.4);
  changed = r.changed;
  kept = λ x noted. held_kept d.overlay.pages h.addr h.page x (r.kept x noted);
  old = λ x page is there. elim (held_now d.overlay.pages h.addr h.page x page there) as (λ _. IsOld (came ++ h ∷ []) d.overlay.changed x page) [
    | is_now e f ↦ subst (λ (y : Addr). IsOld (came ++ h ∷ []) d.overlay.changed y page) e (itself page f)
    | is_still apart f ↦ let old = r.old x page is f in record { was = old.was; there = came_more came h x old.was old.there; is = old.is; addr = old.addr; number = old.number; same = old.same }
  ];
  new = λ n low. let was = r.new n low in (was.0, held_past d.overlay.pages h.addr h.page (new_addr n) (other n) ∙ was.1, was.2);
  fresh = λ n low. held_past d.overlay.pages h.addr h.page (new_addr n) (other n) ∙ r.fresh n low;
  absent = λ x none. absent x none (addr_cases h.addr x);
}
  where
    other : (n : ℕ) → h.addr ≡ new_addr n → ⊥
    other n e = clash (is_new h.addr) (ap is_new e) (old_addr h.addr may.addr)

    at_end : (x : Addr) → held_at came x ≡ None → held_at (came ++ h ∷ []) x ≡ held_at (h ∷ []) x
    at_end x none = held_append came (h ∷ []) x ∙ ap (λ (o : Option Page). option_or o (held_at (h ∷ []) x)) none

    itself : (page : Page) → page ≡ h.page → IsOld (came ++ h ∷ []) d.overlay.changed h.addr page
    itself page same = record {
      was = h.page;
      there = at_end h.addr (r.absent h.addr may.absent) ∙ ap (λ b. if b then Some h.page else None) (same_itself h.addr);
      is = may.page;
      addr = may.addr;
      number = ap (λ (y : Page). y.seq) same;
      same = inl same;
    }

    absent : (x : Addr) → held_at (held_with d.overlay.pages h.addr h.page) x ≡ None → (h.addr ≡ x) ⊎ (h.addr ≡ x → ⊥) → held_at (came ++ h ∷ []) x ≡ None
    absent x none (inl e) = absurd (nothing h.page (held_at (held_with d.overlay.pages h.addr h.page) x) none (ap (held_at (held_with d.overlay.pages h.addr h.page)) (sym e) ∙ held_here d.overlay.pages h.addr h.page))
    absent x none (inr apart) = at_end x (r.absent x (was_absent d.overlay.pages h.addr h.page x none)) ∙ ap (λ b. if b then Some h.page else None) (differs h.addr x apart)

pub append_nil : (xs : List Held) → xs ++ [] ≡ xs
append_nil [] = refl
append_nil (x ∷ xs) = ap (λ (l : List Held). x ∷ l) (append_nil xs)

-- all moves, after pages that came in before
pub all_moves : (parents : List (Option ℕ)) (v : VersionNo) (root : Addr) (moves : List Move) (came : List Held) (d after : Drafted) → Reads came d.overlay d.read → LeadsTo parents v root d moves after → Reads (came ++ comes_in moves) after.overlay after.read
all_moves parents v root [] came d after r leads = subst (λ (e : Drafted). Reads (came ++ []) e.overlay e.read) leads (subst (λ (hs : List Held). Reads hs d.overlay d.read) (sym (append_nil came)) r)
all_moves parents v root (Comes h ∷ moves) came d after r (may, leads) =
    subst (λ (hs : List Held). Reads hs after.overlay after.read) (append_assoc came (h ∷ []) (comes_in moves))
    (all_moves parents v root moves (came ++ h ∷ []) _ after (comes_reads parents v came d h r may) leads)
all_moves parents v root (Does step ∷ moves) came d after r (path, way, leads) =
    let on = reached parents v.0 d.overlay.pages root (step_key step) path way in
    all_moves parents v root moves came (drafted_after v d step path) after (step_reads v came d step path r on.0 on.1) leads

pub no_reads : Reads [] no_pages.overlay no_pages.read
no_reads = record {
  once = tt;
  each = λ x noted. absurd cc;
  changed = λ x noted. absurd cc;
  kept = λ x noted. absurd cc;
  old = λ x page is there. absurd cc;
  new = λ n low. absurd (omega arith);
  fresh = λ n low. refl;
  absent = λ x none. refl;
}

-- the read set of a transaction
pub moves_read : MovesRead
moves_read parents v root moves d leads = record {
  once = r.once;
  came = r.each;
  changed = r.changed;
  held = λ x noted.
      let is = r.each x (r.changed x noted) in
      let at = r.kept x noted in
      let old = r.old x at.0 (old_addr x is.3) at.1 in
      (old.was, at.0, old.there, at.1, old.number);
  new = r.new;
}
  where
    r : Reads (comes_in moves) d.overlay d.read
    r = all_moves parents v root moves [] no_pages d no_reads leads
