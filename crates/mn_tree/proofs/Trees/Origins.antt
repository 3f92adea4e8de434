-- Where a page that is at fault was read: a walk ends at a page that is held, and each new page was
-- made of one that came in.
use Rattle.std.proofs.Common.{◌≡◌, inl, inr, ℕ, zero, suc, ◌+◌, ◌<◌, Bool, true, false, List, [], ◌∷◌, ◌++◌, length, length-append, append_assoc, Option, Some, None, is_some, refl, subst, sym, ap, ◌∙◌, arith, if◌then◌else◌, slice_index_or}
use Rattle.std.specs.Prelude.{⊤, nat_eq}
use Rattle.std.specs.List.{AllByRecursion}
use Rattle.std.specs.Option.{option_map_or, option_to_list}
use Rattle.std.proofs.lemmas.Bool.{cases_lt, eqb-true}
use Rattle.mn_base.specs.Store.{value_at, is_unmet, pairs_with, pairs_without, step_key}
use Rattle.mn_base.specs.declared.ids.Addr.{Addr}
use Rattle.mn_base.specs.declared.ids.VersionNo.{VersionNo}
use Rattle.mn_base.specs.declared.op.Step.{Step}
use Rattle.mn_base.specs.declared.op.Step.TheVariants.{Get, Put, Del, Check}
use Rattle.mn_base.specs.declared.reply.Pair.{Pair}
use Rattle.mn_base.proofs.Lists.{all_append, weaker}
use Rattle.mn_page.specs.declared.page.Page.{Page}
use Rattle.mn_page.specs.declared.page.Body.{Body}
use Rattle.mn_page.specs.declared.page.Body.TheVariants.{Leaf}
use Rattle.mn_page.specs.declared.page.Child.{Child}
use Rattle.mn_page.specs.Grammar.{height_of}
use Rattle.mn_page.specs.Forest.{children_of}
use Rattle.mn_page.specs.Holds.{pairs_in}
use Rattle.mn_page.specs.Overlay.{Held, Overlay, Halves, Asked, Nothing, Child_is, held_at, is_new, new_addr, halves_of, path_pairs, child_for, body_with, placed_addr}
use Rattle.mn_page.proofs.Grid.{all_at_place}
use Rattle.mn_tree.specs.declared.stepped.Stepped.TheVariants as Tell
use Rattle.mn_tree.specs.declared.write.Write.{Write}
use Rattle.mn_tree.specs.Walk.{held, is_met, goes_on, Walk, Missing, Wrong, Reached, walk_down, walk}
use Rattle.mn_tree.specs.Writes.{own_writes, other_writes, root_writes, page_writes, page_asks, origins_in, writes_if, writes_up, step_writes}
use Rattle.mn_tree.specs.State.{Drafted, TreeState, drafted_with, drafted_after, no_pages, stepping, told}
use Rattle.mn_tree.specs.Moves.{Move, Comes, Does, LeadsTo, comes_in}
use Rattle.mn_tree.specs.Tries.{BadPathsCame}
use Rattle.mn_tree.proofs.Changes.{step_is, fresh_after}
use Rattle.mn_tree.proofs.Trees.Puts.{nothing}
use Rattle.mn_tree.proofs.Trees.Placing.{some_slot}
use Rattle.mn_tree.proofs.Trees.MoveReads.{Reads, came_more, comes_reads, step_reads, append_nil, all_moves, no_reads}
use Rattle.mn_tree.proofs.Trees.Reached.{AreHeld, reached}

-- The origins of writes

abbrev HasOrigin : (Addr → Type 0) → Option Addr → Type 0
HasOrigin P None = ⊤
HasOrigin P (Some a) = P a

origins_all : (P : Addr → Type 0) (ws : List Write) → AllByRecursion (λ w. HasOrigin P w.origin) ws
    → AllByRecursion P (origins_in ws)
origins_all P [] all = tt
origins_all P (w ∷ ws) all = by_origin w.origin all.0 (origins_all P ws all.1)
  where
    by_origin : (o : Option Addr) → HasOrigin P o → AllByRecursion P (origins_in ws)
        → AllByRecursion P (option_to_list o ++ origins_in ws)
    by_origin None is rest = rest
    by_origin (Some a) is rest = (is, rest)

page_origins : (P : Addr → Type 0) (v : VersionNo) (n : ℕ) (origin : Addr) (h : Held) (body : Body)
    → P origin → AllByRecursion (λ w. HasOrigin P w.origin) (page_writes v n origin h body)
page_origins P v n origin h body is = by_own (nat_eq h.page.made.0 v.0) (halves_of body)
  where
    by_own : (t : Bool) (x : Option Halves)
        → AllByRecursion (λ w. HasOrigin P w.origin) (if t then own_writes v n origin h body x else other_writes v n origin h body x)
    by_own true None = (tt, tt)
    by_own true (Some halves) = (is, (tt, tt))
    by_own false None = (is, (tt, tt))
    by_own false (Some halves) = (is, (is, (tt, tt)))

up_origins : (P : Addr → Type 0) (v : VersionNo) (n : ℕ) (origins : List Addr) (h : Held) (above : List Held) (body : Body) → AllByRecursion (λ g. P (placed_addr origins g.addr)) (h ∷ above)
    → AllByRecursion (λ w. HasOrigin P w.origin) (writes_up v n origins h above body)
up_origins P v n origins h [] body all = by_halves (halves_of body)
  where
    by_halves : (x : Option Halves)
        → AllByRecursion (λ w. HasOrigin P w.origin) (root_writes v n (placed_addr origins h.addr) h body x)
    by_halves None = (tt, tt)
    by_halves (Some halves) = (all.0, (all.0, (tt, tt)))
up_origins P v n origins h (parent ∷ above) body all =
    all_append (λ w. HasOrigin P w.origin) (page_writes v n (placed_addr origins h.addr) h body) _ (page_origins P v n (placed_addr origins h.addr) h body all.0)
    (by_asked (page_asks v n h body) (λ now more.
    up_origins P v (n + length (origins_in (page_writes v n (placed_addr origins h.addr) h body))) origins parent above (body_with parent.page.body h.addr now more) all.1))
  where
    later : Addr → Option Child → List Write
    later now more = writes_up v (n + length (origins_in (page_writes v n (placed_addr origins h.addr) h body))) origins parent above (body_with parent.page.body h.addr now more)

    by_asked : (a : Asked)
        → ((now : Addr) (more : Option Child) → AllByRecursion (λ w. HasOrigin P w.origin) (later now more)) → AllByRecursion (λ w. HasOrigin P w.origin) (writes_if a later)
    by_asked Nothing rest = tt
    by_asked (Child_is now more) rest = rest now more

step_origins : (P : Addr → Type 0) (v : VersionNo) (n : ℕ) (origins : List Addr) (step : Step) (path : List Held) → AllByRecursion (λ g. P (placed_addr origins g.addr)) path → AllByRecursion (λ w. HasOrigin P w.origin) (step_writes v n origins step path)
step_origins P v n origins (Get key) [] all = tt
step_origins P v n origins (Put key value) [] all = tt
step_origins P v n origins (Del key) [] all = tt
step_origins P v n origins (Check key want) [] all = tt
step_origins P v n origins (Get key) (h ∷ above) all = tt
step_origins P v n origins (Put key value) (h ∷ above) all = up_origins P v n origins h above (Leaf (pairs_with (pairs_in h.page.body) key value)) all
step_origins P v n origins (Del key) (h ∷ above) all = by_found (is_some (value_at (pairs_in h.page.body) key))
  where
    by_found : (t : Bool)
        → AllByRecursion (λ w. HasOrigin P w.origin) (if t then writes_up v n origins h above (Leaf (pairs_without (pairs_in h.page.body) key)) else [])
    by_found true = up_origins P v n origins h above (Leaf (pairs_without (pairs_in h.page.body) key)) all
    by_found false = tt
step_origins P v n origins (Check key want) (h ∷ above) all = tt

-- What holds between moves

abbrev IsCame : List Held → Addr → Type 0
IsCame came a = (page : Page) × (held_at came a ≡ Some page)

record HasOrigins (came : List Held) (d : Drafted) : Type 0 where
  many : d.overlay.fresh ≡ length d.origins
  each : AllByRecursion (IsCame came) d.origins

-- the page at an address that is held was read where the address leads
was_read : (came : List Held) (d : Drafted) (x : Addr) (p : Page) → Reads came d.overlay d.read
    → HasOrigins came d → held_at d.overlay.pages x ≡ Some p → IsCame came (placed_addr d.origins x)
was_read came d x p r has there = by_new (is_new x) refl
  where
    numbered : (node slot : ℕ) → node ≡ 8
        → ◌≡◌ {A = Addr} (record { node = record { 0 = node }; slot = slot }) (new_addr slot)
    numbered node slot is = ap (λ k. let a : Addr = record { node = record { 0 = k }; slot = slot } in a) is

    by_new : (t : Bool) → is_new x ≡ t
        → IsCame came (if t then slice_index_or d.origins x.slot x else x)
    by_new false e = let old = r.old x p e there in (old.was, old.there)
    by_new true e =
        let long = has.many in
        let low : x.slot < d.overlay.fresh = elim (cases_lt x.slot d.overlay.fresh) as (λ _. x.slot < d.overlay.fresh) [
          | inl less ↦ less
          | inr more ↦ absurd (nothing p (held_at d.overlay.pages x) (ap (held_at d.overlay.pages) (numbered x.node.0 x.slot (eqb-true x.node.0 8 e)) ∙ r.fresh x.slot more) there)
        ] in
        let s = some_slot d.origins x.slot (omega arith) in
        subst (IsCame came) (sym (s.2 x)) (all_at_place (IsCame came) d.origins x.slot s.0 has.each s.1)

came_all : (came : List Held) (h : Held) (addrs : List Addr) → AllByRecursion (IsCame came) addrs
    → AllByRecursion (IsCame (came ++ h ∷ [])) addrs
came_all came h addrs all = weaker (IsCame came) (IsCame (came ++ h ∷ [])) (λ a is. (is.0, came_more came h a is.0 is.1)) addrs all

origins_step : (came : List Held) (v : VersionNo) (d : Drafted) (step : Step) (path : List Held)
    → Reads came d.overlay d.read → HasOrigins came d → AreHeld d.overlay.pages path
    → HasOrigins came (drafted_after v d step path)
origins_step came v d step path r has held_up = record {
  many = ap (λ (o : Overlay). o.fresh) (step_is v d.overlay d.origins step path) ∙ (let a = fresh_after d.overlay ws in let b = has.many in let c = length-append d.origins (origins_in ws) in omega arith);
  each = all_append (IsCame came) d.origins (origins_in ws) has.each (origins_all (IsCame came) ws (step_origins (IsCame came) v d.overlay.fresh d.origins step path (each path held_up)));
}
  where
    ws : List Write
    ws = step_writes v d.overlay.fresh d.origins step path

    each : (hs : List Held) → AreHeld d.overlay.pages hs
        → AllByRecursion (λ g. IsCame came (placed_addr d.origins g.addr)) hs
    each [] all = tt
    each (h ∷ hs) all = (was_read came d h.addr h.page r has all.0, each hs all.1)

-- all moves, after pages that came in before
all_origins : (parents : List (Option ℕ)) (v : VersionNo) (root : Addr) (moves : List Move) (came : List Held) (d after : Drafted) → Reads came d.overlay d.read → HasOrigins came d → LeadsTo parents v root d moves after → HasOrigins (came ++ comes_in moves) after
all_origins parents v root [] came d after r has leads = subst (λ (e : Drafted). HasOrigins (came ++ []) e) leads (subst (λ (hs : List Held). HasOrigins hs d) (sym (append_nil came)) has)
all_origins parents v root (Comes h ∷ moves) came d after r has (may, leads) =
    subst (λ (hs : List Held). HasOrigins hs after) (append_assoc came (h ∷ []) (comes_in moves))
    (all_origins parents v root moves (came ++ h ∷ []) (drafted_with d h.addr h.page) after (comes_reads parents v came d h r may) (record { many = has.many; each = came_all came h d.origins has.each }) leads)
all_origins parents v root (Does step ∷ moves) came d after r has (path, way, leads) =
    let on = reached parents v.0 d.overlay.pages root (step_key step) path way in
    all_origins parents v root moves came (drafted_after v d step path) after (step_reads v came d step path r on.0 on.1) (origins_step came v d step path r has on.0) leads

-- A walk that ends at a page

module _ (parents : List (Option ℕ)) (v : ℕ) (pages : List Held) (root : Addr) (key : List ℕ) (addr : Addr) where
  wrong_same : (a b : Addr) → Wrong a ≡ Wrong b → a ≡ b
  wrong_same a b e = cc

  at_wrong : (a : Addr) (p : Page) → held_at pages a ≡ Some p → Wrong a ≡ Wrong addr
      → (q : Page) × (held_at pages addr ≡ Some q)
  at_wrong a p there e = (p, ap (held_at pages) (sym (wrong_same a addr e)) ∙ there)

  down_wrong : (height : ℕ) (h : Held) (hs : List Held) → held_at pages h.addr ≡ Some h.page
      → walk_down parents v height pages key h hs ≡ Wrong addr
      → (q : Page) × (held_at pages addr ≡ Some q)
  down_wrong zero h hs there e = absurd cc
  down_wrong (suc height) h hs there e = by_child (child_for (children_of h.page) key) e (λ next p at f. down_wrong height (held next p) (h ∷ hs) at f)
    where
      Further : Type 0
      Further = (next : Addr) (p : Page) → held_at pages next ≡ Some p → walk_down parents v height pages key (held next p) (h ∷ hs) ≡ Wrong addr → (q : Page) × (held_at pages addr ≡ Some q)

      by_goes : (next : Addr) (p : Page) (t : Bool) → held_at pages next ≡ Some p
          → (if t then walk_down parents v height pages key (held next p) (h ∷ hs) else Wrong next) ≡ Wrong addr → Further → (q : Page) × (held_at pages addr ≡ Some q)
      by_goes next p true at f rest = rest next p at f
      by_goes next p false at f rest = at_wrong next p at f

      by_page : (next : Addr) (o : Option Page) → held_at pages next ≡ o
          → option_map_or (λ p. if goes_on parents v height key p then walk_down parents v height pages key (held next p) (h ∷ hs) else Wrong next) o (Missing next (Some (suc height))) ≡ Wrong addr → Further → (q : Page) × (held_at pages addr ≡ Some q)
      by_page next None at f rest = absurd cc
      by_page next (Some p) at f rest = by_goes next p (goes_on parents v height key p) at f rest

      by_child : (o : Option Addr)
          → option_map_or
          (λ next. option_map_or (λ p. if goes_on parents v height key p then walk_down parents v height pages key (held next p) (h ∷ hs) else Wrong next) (held_at pages next) (Missing next (Some (suc height)))) o (Wrong h.addr)
          ≡ Wrong addr → Further → (q : Page) × (held_at pages addr ≡ Some q)
      by_child None f rest = at_wrong h.addr h.page there f
      by_child (Some next) f rest = by_page next (held_at pages next) refl f rest

  walk_wrong : walk parents v pages root key ≡ Wrong addr
      → (q : Page) × (held_at pages addr ≡ Some q)
  walk_wrong e = by_page (held_at pages root) refl e
    where
      by_met : (p : Page) (t : Bool) → held_at pages root ≡ Some p
          → (if t then walk_down parents v (height_of p.body) pages key (held root p) [] else Wrong root) ≡ Wrong addr → (q : Page) × (held_at pages addr ≡ Some q)
      by_met p true at f = down_wrong (height_of p.body) (held root p) [] at f
      by_met p false at f = at_wrong root p at f

      by_page : (o : Option Page) → held_at pages root ≡ o
          → option_map_or (λ p. if is_met parents v key p then walk_down parents v (height_of p.body) pages key (held root p) [] else Wrong root) o (Missing root None) ≡ Wrong addr
          → (q : Page) × (held_at pages addr ≡ Some q)
      by_page None at f = absurd cc
      by_page (Some p) at f = by_met p (is_met parents v key p) at f

-- a step that meets a bad page has come to it
record Faults (s : TreeState) (step : Step) (addr : Addr) : Type 0 where
  at : Addr
  way : walk s.parents s.version.0 s.draft.overlay.pages s.root (step_key step) ≡ Wrong at
  named : placed_addr s.draft.origins at ≡ addr

faults : (s : TreeState) (step : Step) (addr : Addr)
    → (stepping s step (walk s.parents s.version.0 s.draft.overlay.pages s.root (step_key step))).answer ≡ Tell.BadPath addr → Faults s step addr
faults s step addr e = by_walk (walk s.parents s.version.0 s.draft.overlay.pages s.root (step_key step)) refl e
  where
    bad_same : (a b : Addr) → Tell.BadPath a ≡ Tell.BadPath b → a ≡ b
    bad_same a b f = cc

    no_told : (st : Step) (ps : List Pair) → told st ps ≡ Tell.BadPath addr → ⊥
    no_told (Get key) ps f = absurd cc
    no_told (Put key value) ps f = absurd cc
    no_told (Del key) ps f = by_some (is_some (value_at ps key)) f
      where
        by_some : (t : Bool) → (if t then Tell.Changed else Tell.Same) ≡ Tell.BadPath addr → ⊥
        by_some true g = absurd cc
        by_some false g = absurd cc
    no_told (Check key want) ps f = by_unmet (is_unmet ps (Check key want)) f
      where
        by_unmet : (t : Bool)
            → (if t then Tell.Unmet (value_at ps key) else Tell.Same) ≡ Tell.BadPath addr → ⊥
        by_unmet true g = absurd cc
        by_unmet false g = absurd cc

    by_walk : (w : Walk)
        → walk s.parents s.version.0 s.draft.overlay.pages s.root (step_key step) ≡ w
        → (stepping s step w).answer ≡ Tell.BadPath addr → Faults s step addr
    by_walk (Missing at above) is f = absurd cc
    by_walk (Wrong at) is f = record { at = at; way = is; named = bad_same (placed_addr s.draft.origins at) addr f }
    by_walk (Reached path) is f = absurd (no_told step (path_pairs path) f)

pub bad_paths_came : BadPathsCame
bad_paths_came s step moves addr leads e =
    let f = faults s step addr e in
    let there = walk_wrong s.parents s.version.0 s.draft.overlay.pages s.root (step_key step) f.at f.way in
    subst (IsCame (comes_in moves)) f.named
    (was_read (comes_in moves) s.draft f.at there.0 (all_moves s.parents s.version s.root moves [] no_pages s.draft no_reads leads)
    (all_origins s.parents s.version s.root moves [] no_pages s.draft no_reads (record { many = refl; each = tt }) leads) there.1)
