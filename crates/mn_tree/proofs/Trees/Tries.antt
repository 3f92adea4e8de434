-- A try that is made move by move.
use Rattle.std.proofs.Common.{◌≡◌, inl, inr, ℕ, suc, zero, ◌+◌, ◌≤◌, Bool, true, false, ◌&&◌, List, [], ◌∷◌, ◌++◌, length, map, Option, Some, None, refl, subst, sym, ap, ◌∙◌, arith, if◌then◌else◌}
use Rattle.std.specs.Prelude.{nat_le, is_some}
use Rattle.std.specs.List.{AllByRecursion, flat_map}
use Rattle.std.specs.Option.{option_map, option_map_or, option_to_list}
use Rattle.std.proofs.lemmas.Bool.{and_parts, leb-true, eqb-true}
use Rattle.std.proofs.lemmas.List.{append-nil}
use Rattle.mn_base.specs.Order.{covers_key}
use Rattle.mn_base.specs.Store.{value_at, is_unmet, step_key, noted_by}
use Rattle.mn_base.specs.declared.ids.Addr.{Addr}
use Rattle.mn_base.specs.declared.ids.VersionNo.{VersionNo}
use Rattle.mn_base.specs.declared.op.Step.{Step}
use Rattle.mn_base.specs.declared.op.Step.TheVariants.{Get, Put, Del, Check}
use Rattle.mn_base.specs.declared.reply.Pair.{Pair}
use Rattle.mn_base.specs.declared.reply.Reply.TheVariants as Say
use Rattle.mn_base.proofs.Lists.{all_append, weaker}
use Rattle.mn_page.specs.declared.page.Page.{Page}
use Rattle.mn_page.specs.declared.page.Body.{Body}
use Rattle.mn_page.specs.declared.page.Body.TheVariants.{Leaf, Inner}
use Rattle.mn_page.specs.declared.page.Child.{Child}
use Rattle.mn_page.specs.Grammar.{IsPage, IsAddr, count_in, height_of}
use Rattle.mn_page.specs.Forest.{children_of, ranges_from, body_children}
use Rattle.mn_page.specs.Holds.{page_covers}
use Rattle.mn_page.specs.Overlay.{Held, held_at, new_addr, path_pairs, child_for, child_at, placed_addr, placed_body, placed_page, placed_old, placed_new, next_number}
use Rattle.mn_path.specs.Walk.{is_below, max_height}
use Rattle.mn_tree.specs.declared.stepped.Stepped.TheVariants as Tell
use Rattle.mn_tree.specs.Walk.{held, is_live, is_met, goes_on, Walk, Missing, Wrong, Reached, walk_down, walk}
use Rattle.mn_tree.specs.State.{Drafted, TreeState, drafted_with, drafted_after, no_pages, fits, with_page, stepping, told}
use Rattle.mn_tree.specs.Order.{new_order, changed_order, slots_by_number, pair_of}
use Rattle.mn_tree.specs.Moves.{Move, Comes, Does, MayCome, LeadsTo, comes_in, done_in, AreAnswered}
use Rattle.mn_tree.specs.Tries.{HaveFound, ComeTo, EndsUnmet, TryGoesOn, MovesTakePages, MovesTakeSteps, MovesAreMet, NeedsAreAbsent, NeedsAreSlots, NeedsMayCome, PlacedHaveRoom}
use Rattle.mn_tree.proofs.Trees.Puts.{nothing}
use Rattle.mn_tree.proofs.Trees.MoveReads.{moves_read}
use Rattle.mn_tree.proofs.Trees.Filled.{IsPlace, IsBranch, IsFilled, IsSized}
use Rattle.mn_tree.proofs.Trees.Sizes.{AreSized, moves_sized}

-- Moves one by one

path_same : (xs ys : List Held) → Reached xs ≡ Reached ys → xs ≡ ys
path_same xs ys e = cc

module _ (parents : List (Option ℕ)) (v : VersionNo) (root : Addr) where
  -- moves behind moves
  leads_on : (moves more : List Move) (d mid after : Drafted) → LeadsTo parents v root d moves mid
      → LeadsTo parents v root mid more after → LeadsTo parents v root d (moves ++ more) after
  leads_on [] more d mid after leads rest = subst (λ (x : Drafted). LeadsTo parents v root x more after) (sym leads) rest
  leads_on (Comes h ∷ moves) more d mid after leads rest = (leads.0, leads_on moves more (drafted_with d h.addr h.page) mid after leads.1 rest)
  leads_on (Does step ∷ moves) more d mid after leads rest = (leads.0, leads.1, leads_on moves more (drafted_after v d step leads.0) mid after leads.2 rest)

  found_on : (moves more : List Move) (d mid : Drafted) (before found last : List (Option (List ℕ)))
      → LeadsTo parents v root d moves mid → HaveFound parents v root d moves before found
      → HaveFound parents v root mid more found last
      → HaveFound parents v root d (moves ++ more) before last
  found_on [] more d mid before found last leads have rest =
      subst (λ (l : List (Option (List ℕ))). HaveFound parents v root d more l last) (sym have) (subst (λ (x : Drafted). HaveFound parents v root x more found last) (sym leads) rest)
  found_on (Comes h ∷ moves) more d mid before found last leads have rest = found_on moves more (drafted_with d h.addr h.page) mid before found last leads.1 have rest
  found_on (Does step ∷ moves) more d mid before found last leads have rest = λ path way.
      let same : leads.0 ≡ path = path_same leads.0 path (sym leads.1 ∙ way) in
      let now = have path way in
      (now.0, found_on moves more (drafted_after v d step path) mid (before ++ noted_by (path_pairs path) step) found last (subst (λ (p : List Held). LeadsTo parents v root (drafted_after v d step p) moves mid) same leads.2) now.1 rest)

  -- what was found is the answer
  met : (moves : List Move) (d after : Drafted) (n : ℕ) (before found : List (Option (List ℕ)))
      → LeadsTo parents v root d moves after → HaveFound parents v root d moves before found
      → AreAnswered parents v root d moves n before (done_in moves) (Say.Values found)
  met [] d after n before found leads have = (refl, ap Say.Values (sym have))
  met (Comes h ∷ moves) d after n before found leads have = met moves (drafted_with d h.addr h.page) after n before found leads.1 have
  met (Does step ∷ moves) d after n before found leads have = (
    refl,
    λ path way.
        let same : leads.0 ≡ path = path_same leads.0 path (sym leads.1 ∙ way) in
        let now = have path way in
        inr (now.0, met moves (drafted_after v d step path) after (n + 1) (before ++ noted_by (path_pairs path) step) found (subst (λ (p : List Held). LeadsTo parents v root (drafted_after v d step p) moves after) same leads.2) now.1),
  )

  -- up to an unmet Check
  unmet : (moves : List Move) (d mid : Drafted) (n k : ℕ) (before found : List (Option (List ℕ))) (step : Step) (path : List Held) (later : List Step) → n + length (done_in moves) ≡ k → LeadsTo parents v root d moves mid
      → HaveFound parents v root d moves before found
      → walk parents v.0 mid.overlay.pages root (step_key step) ≡ Reached path
      → is_unmet (path_pairs path) step ≡ true
      → AreAnswered parents v root d (moves ++ Does step ∷ []) n before (done_in moves ++ step ∷ later) (Say.Unmet k (value_at (path_pairs path) (step_key step)))
  unmet [] d mid n k before found step path later count leads have way fails = (
    refl,
    λ other way'.
        let here : walk parents v.0 d.overlay.pages root (step_key step) ≡ Reached path = ap (λ (x : Drafted). walk parents v.0 x.overlay.pages root (step_key step)) leads ∙ way in
        let same : path ≡ other = path_same path other (sym here ∙ way') in
        let number : k ≡ n = omega arith in
        inl (
          ap (λ (p : List Held). is_unmet (path_pairs p) step) (sym same) ∙ fails,
          refl,
          ap (λ m. Say.Unmet m (value_at (path_pairs path) (step_key step))) number ∙ ap (λ (p : List Held). Say.Unmet n (value_at (path_pairs p) (step_key step))) same,
        ),
  )
  unmet (Comes h ∷ moves) d mid n k before found step path later count leads have way fails = unmet moves (drafted_with d h.addr h.page) mid n k before found step path later count leads.1 have way fails
  unmet (Does first ∷ moves) d mid n k before found step path later count leads have way fails = (
    refl,
    λ other way'.
        let same : leads.0 ≡ other = path_same leads.0 other (sym leads.1 ∙ way') in
        let now = have other way' in
        let next : n + 1 + length (done_in moves) ≡ k = omega arith in
        inr (
          now.0,
          unmet moves (drafted_after v d first other) mid (n + 1) k (before ++ noted_by (path_pairs other) first) found step path later next
              (subst (λ (p : List Held). LeadsTo parents v root (drafted_after v d first p) moves mid) same leads.2) now.1 way fails,
        ),
  )

  -- what came in, and what is done
  comes_on : (moves more : List Move) → comes_in (moves ++ more) ≡ comes_in moves ++ comes_in more
  comes_on [] more = refl
  comes_on (Comes h ∷ moves) more = ap (λ (l : List Held). h ∷ l) (comes_on moves more)
  comes_on (Does step ∷ moves) more = comes_on moves more

  done_on : (moves more : List Move) → done_in (moves ++ more) ≡ done_in moves ++ done_in more
  done_on [] more = refl
  done_on (Comes h ∷ moves) more = done_on moves more
  done_on (Does step ∷ moves) more = ap (λ (l : List Step). step ∷ l) (done_on moves more)

  module _ (moves : List Move) (d : Drafted) (came : List Held) (done : List Step) (found : List (Option (List ℕ))) (come : ComeTo parents v root moves d came done found) where
    takes_page : (h : Held) → MayCome parents v d h
        → ComeTo parents v root (moves ++ Comes h ∷ []) (drafted_with d h.addr h.page) (came ++ h ∷ []) done found
    takes_page h may = record {
      leads = leads_on moves (Comes h ∷ []) no_pages d (drafted_with d h.addr h.page) come.leads (may, refl);
      have = found_on moves (Comes h ∷ []) no_pages d [] found found come.leads come.have refl;
      pages = comes_on moves (Comes h ∷ []) ∙ ap (λ (l : List Held). l ++ h ∷ []) come.pages;
      steps = done_on moves (Comes h ∷ []) ∙ (append-nil (done_in moves) ∙ come.steps);
    }

    module _ (step : Step) (path : List Held) (way : walk parents v.0 d.overlay.pages root (step_key step) ≡ Reached path) where
      takes_step : is_unmet (path_pairs path) step ≡ false → (more : List (Option (List ℕ)))
          → noted_by (path_pairs path) step ≡ more
          → ComeTo parents v root (moves ++ Does step ∷ []) (drafted_after v d step path) came (done ++ step ∷ []) (found ++ more)
      takes_step met more noted = record {
        leads = leads_on moves (Does step ∷ []) no_pages d (drafted_after v d step path) come.leads (path, way, refl);
        have = found_on moves (Does step ∷ []) no_pages d [] found (found ++ more) come.leads come.have last;
        pages = comes_on moves (Does step ∷ []) ∙ (append-nil (comes_in moves) ∙ come.pages);
        steps = done_on moves (Does step ∷ []) ∙ ap (λ (l : List Step). l ++ step ∷ []) come.steps;
      }
        where
          last : (other : List Held)
              → walk parents v.0 d.overlay.pages root (step_key step) ≡ Reached other
              → (is_unmet (path_pairs other) step ≡ false)
              × (found ++ noted_by (path_pairs other) step ≡ found ++ more)
          last other way' =
              let same : path ≡ other = path_same path other (sym way ∙ way') in
              (ap (λ (p : List Held). is_unmet (path_pairs p) step) (sym same) ∙ met, ap (λ (p : List Held). found ++ noted_by (path_pairs p) step) (sym same) ∙ ap (λ (l : List (Option (List ℕ))). found ++ l) noted)

      ends_unmet : is_unmet (path_pairs path) step ≡ true → (x : Option (List ℕ))
          → value_at (path_pairs path) (step_key step) ≡ x
          → EndsUnmet parents v root (moves ++ Does step ∷ []) (drafted_after v d step path) came done step x
      ends_unmet fails x value = record {
        leads = leads_on moves (Does step ∷ []) no_pages d (drafted_after v d step path) come.leads (path, way, refl);
        answered = λ later.
            subst (λ (y : Option (List ℕ)). AreAnswered parents v root no_pages (moves ++ Does step ∷ []) 1 [] (done ++ step ∷ later) (Say.Unmet (1 + length done) y)) value
            (subst (λ (l : List Step). AreAnswered parents v root no_pages (moves ++ Does step ∷ []) 1 [] (l ++ step ∷ later) (Say.Unmet (1 + length l) (value_at (path_pairs path) (step_key step)))) come.steps
            (unmet moves no_pages d 1 (1 + length (done_in moves)) [] found step path later refl come.leads come.have way fails));
        pages = comes_on moves (Does step ∷ []) ∙ (append-nil (comes_in moves) ∙ come.pages);
      }

pub moves_take_pages : MovesTakePages
moves_take_pages parents v root moves d came done found h come may = takes_page parents v root moves d came done found come h may

pub moves_take_steps : MovesTakeSteps
moves_take_steps s step moves came done found come = by_walk (walk s.parents s.version.0 s.draft.overlay.pages s.root (step_key step)) refl
  where
    takes : (st : Step) (path : List Held)
        → walk s.parents s.version.0 s.draft.overlay.pages s.root (step_key st) ≡ Reached path
        → is_unmet (path_pairs path) st ≡ false → (more : List (Option (List ℕ)))
        → noted_by (path_pairs path) st ≡ more
        → ComeTo s.parents s.version s.root (moves ++ Does st ∷ []) (drafted_after s.version s.draft st path) came (done ++ st ∷ []) (found ++ more)
    takes st path way met more noted = takes_step s.parents s.version s.root moves s.draft came done found come st path way met more noted

    -- a step that finds nothing
    plain : (st : Step) (path : List Held)
        → walk s.parents s.version.0 s.draft.overlay.pages s.root (step_key st) ≡ Reached path
        → is_unmet (path_pairs path) st ≡ false → noted_by (path_pairs path) st ≡ []
        → ComeTo s.parents s.version s.root (moves ++ Does st ∷ []) (drafted_after s.version s.draft st path) came (done ++ st ∷ []) found
    plain st path way met noted =
        subst (λ (l : List (Option (List ℕ))). ComeTo s.parents s.version s.root (moves ++ Does st ∷ []) (drafted_after s.version s.draft st path) came (done ++ st ∷ []) l) (append-nil found) (takes st path way met [] noted)

    by_step : (st : Step) (path : List Held)
        → walk s.parents s.version.0 s.draft.overlay.pages s.root (step_key st) ≡ Reached path
        → TryGoesOn s st moves came done found (drafted_after s.version s.draft st path) (told st (path_pairs path))
    by_step (Get key) path way = takes (Get key) path way refl (value_at (path_pairs path) key ∷ []) refl
    by_step (Put key value) path way = plain (Put key value) path way refl refl
    by_step (Del key) path way = by_some (is_some (value_at (path_pairs path) key))
      where
        by_some : (t : Bool)
            → TryGoesOn s (Del key) moves came done found (drafted_after s.version s.draft (Del key) path) (if t then Tell.Changed else Tell.Same)
        by_some true = plain (Del key) path way refl refl
        by_some false = plain (Del key) path way refl refl
    by_step (Check key want) path way = by_unmet (is_unmet (path_pairs path) (Check key want)) refl
      where
        by_unmet : (t : Bool) → is_unmet (path_pairs path) (Check key want) ≡ t
            → TryGoesOn s (Check key want) moves came done found (drafted_after s.version s.draft (Check key want) path) (if t then Tell.Unmet (value_at (path_pairs path) key) else Tell.Same)
        by_unmet true e = ends_unmet s.parents s.version s.root moves s.draft came done found come (Check key want) path way e (value_at (path_pairs path) key) refl
        by_unmet false e = plain (Check key want) path way e refl

    by_walk : (w : Walk)
        → walk s.parents s.version.0 s.draft.overlay.pages s.root (step_key step) ≡ w
        → TryGoesOn s step moves came done found (stepping s step w).state.draft (stepping s step w).answer
    by_walk (Missing addr above) is = refl
    by_walk (Wrong addr) is = refl
    by_walk (Reached path) is = by_step step path is

pub moves_are_met : MovesAreMet
moves_are_met parents v root moves d came done found come =
    subst (λ (l : List Step). AreAnswered parents v root no_pages moves 1 [] l (Say.Values found)) come.steps (met parents v root moves no_pages d 1 [] found come.leads come.have)

-- What a step asks for

-- where a walk ends before a page that isn't held
module _ (parents : List (Option ℕ)) (v : ℕ) (pages : List Held) (root : Addr) (key : List ℕ) (addr : Addr) (above : Option ℕ) where
  addr_same' : (a b : Addr) (x y : Option ℕ) → Missing a x ≡ Missing b y → a ≡ b
  addr_same' a b x y e = cc

  down_absent : (height : ℕ) (h : Held) (hs : List Held)
      → walk_down parents v height pages key h hs ≡ Missing addr above → held_at pages addr ≡ None
  down_absent zero h hs e = absurd cc
  down_absent (suc height) h hs e = by_child (child_for (children_of h.page) key) e (λ next p f. down_absent height (held next p) (h ∷ hs) f)
    where
      Further : Type 0
      Further = (next : Addr) (p : Page) → walk_down parents v height pages key (held next p) (h ∷ hs) ≡ Missing addr above → held_at pages addr ≡ None

      by_goes : (next : Addr) (p : Page) (t : Bool)
          → (if t then walk_down parents v height pages key (held next p) (h ∷ hs) else Wrong next) ≡ Missing addr above → Further → held_at pages addr ≡ None
      by_goes next p true f rest = rest next p f
      by_goes next p false f rest = absurd cc

      by_page : (next : Addr) (o : Option Page) → held_at pages next ≡ o
          → option_map_or (λ p. if goes_on parents v height key p then walk_down parents v height pages key (held next p) (h ∷ hs) else Wrong next) o (Missing next (Some (suc height))) ≡ Missing addr above → Further → held_at pages addr ≡ None
      by_page next None there f rest = ap (held_at pages) (sym (addr_same' next addr (Some (suc height)) above f)) ∙ there
      by_page next (Some p) there f rest = by_goes next p (goes_on parents v height key p) f rest

      by_child : (o : Option Addr)
          → option_map_or
          (λ next. option_map_or (λ p. if goes_on parents v height key p then walk_down parents v height pages key (held next p) (h ∷ hs) else Wrong next) (held_at pages next) (Missing next (Some (suc height)))) o (Wrong h.addr)
          ≡ Missing addr above → Further → held_at pages addr ≡ None
      by_child None f rest = absurd cc
      by_child (Some next) f rest = by_page next (held_at pages next) refl f rest

  walk_absent : walk parents v pages root key ≡ Missing addr above → held_at pages addr ≡ None
  walk_absent e = by_page (held_at pages root) refl e
    where
      by_met : (p : Page) (t : Bool)
          → (if t then walk_down parents v (height_of p.body) pages key (held root p) [] else Wrong root) ≡ Missing addr above → held_at pages addr ≡ None
      by_met p true f = down_absent (height_of p.body) (held root p) [] f
      by_met p false f = absurd cc

      by_page : (o : Option Page) → held_at pages root ≡ o
          → option_map_or (λ p. if is_met parents v key p then walk_down parents v (height_of p.body) pages key (held root p) [] else Wrong root) o (Missing root None) ≡ Missing addr above
          → held_at pages addr ≡ None
      by_page None there f = ap (held_at pages) (sym (addr_same' root addr None above f)) ∙ there
      by_page (Some p) there f = by_met p (is_met parents v key p) f

-- and what holds of the root's address and of those of children holds of it
module _ (parents : List (Option ℕ)) (v : ℕ) (pages : List Held) (root : Addr) (key : List ℕ) (addr : Addr) (above : Option ℕ) (P : Addr → Type 0) (at_root : P root)
    (each : (x : Addr) (p : Page) (next : Addr) → held_at pages x ≡ Some p → child_for (children_of p) key ≡ Some next → P next) where
  same_addr : (a b : Addr) (x y : Option ℕ) → Missing a x ≡ Missing b y → a ≡ b
  same_addr a b x y e = cc

  down_place : (height : ℕ) (h : Held) (hs : List Held) → held_at pages h.addr ≡ Some h.page
      → walk_down parents v height pages key h hs ≡ Missing addr above → P addr
  down_place zero h hs there e = absurd cc
  down_place (suc height) h hs there e = by_child (child_for (children_of h.page) key) refl e (λ next p at f. down_place height (held next p) (h ∷ hs) at f)
    where
      Further : Type 0
      Further = (next : Addr) (p : Page) → held_at pages next ≡ Some p → walk_down parents v height pages key (held next p) (h ∷ hs) ≡ Missing addr above → P addr

      by_goes : (next : Addr) (p : Page) (t : Bool) → held_at pages next ≡ Some p
          → (if t then walk_down parents v height pages key (held next p) (h ∷ hs) else Wrong next) ≡ Missing addr above → Further → P addr
      by_goes next p true at f rest = rest next p at f
      by_goes next p false at f rest = absurd cc

      by_page : (next : Addr) (o : Option Page) → child_for (children_of h.page) key ≡ Some next
          → held_at pages next ≡ o
          → option_map_or (λ p. if goes_on parents v height key p then walk_down parents v height pages key (held next p) (h ∷ hs) else Wrong next) o (Missing next (Some (suc height))) ≡ Missing addr above → Further → P addr
      by_page next None chosen at f rest = subst P (same_addr next addr (Some (suc height)) above f) (each h.addr h.page next there chosen)
      by_page next (Some p) chosen at f rest = by_goes next p (goes_on parents v height key p) at f rest

      by_child : (o : Option Addr) → child_for (children_of h.page) key ≡ o
          → option_map_or
          (λ next. option_map_or (λ p. if goes_on parents v height key p then walk_down parents v height pages key (held next p) (h ∷ hs) else Wrong next) (held_at pages next) (Missing next (Some (suc height)))) o (Wrong h.addr)
          ≡ Missing addr above → Further → P addr
      by_child None chosen f rest = absurd cc
      by_child (Some next) chosen f rest = by_page next (held_at pages next) chosen refl f rest

  walk_place : walk parents v pages root key ≡ Missing addr above → P addr
  walk_place e = by_page (held_at pages root) refl e
    where
      by_met : (p : Page) (t : Bool) → held_at pages root ≡ Some p
          → (if t then walk_down parents v (height_of p.body) pages key (held root p) [] else Wrong root) ≡ Missing addr above → P addr
      by_met p true at f = down_place (height_of p.body) (held root p) [] at f
      by_met p false at f = absurd cc

      by_page : (o : Option Page) → held_at pages root ≡ o
          → option_map_or (λ p. if is_met parents v key p then walk_down parents v (height_of p.body) pages key (held root p) [] else Wrong root) o (Missing root None) ≡ Missing addr above → P addr
      by_page None at f = subst P (same_addr root addr None above f) at_root
      by_page (Some p) at f = by_met p (is_met parents v key p) at f

-- a step that needs a page has come to its place
record Needs (s : TreeState) (step : Step) (addr : Addr) : Type 0 where
  above : Option ℕ
  way : walk s.parents s.version.0 s.draft.overlay.pages s.root (step_key step) ≡ Missing addr above

needs : (s : TreeState) (step : Step) (addr : Addr)
    → (stepping s step (walk s.parents s.version.0 s.draft.overlay.pages s.root (step_key step))).answer ≡ Tell.Need addr → Needs s step addr
needs s step addr e = by_walk (walk s.parents s.version.0 s.draft.overlay.pages s.root (step_key step)) refl e
  where
    need_same : (a b : Addr) → Tell.Need a ≡ Tell.Need b → a ≡ b
    need_same a b f = cc

    no_told : (st : Step) (ps : List Pair) → told st ps ≡ Tell.Need addr → ⊥
    no_told (Get key) ps f = absurd cc
    no_told (Put key value) ps f = absurd cc
    no_told (Del key) ps f = by_some (is_some (value_at ps key)) f
      where
        by_some : (t : Bool) → (if t then Tell.Changed else Tell.Same) ≡ Tell.Need addr → ⊥
        by_some true g = absurd cc
        by_some false g = absurd cc
    no_told (Check key want) ps f = by_unmet (is_unmet ps (Check key want)) f
      where
        by_unmet : (t : Bool)
            → (if t then Tell.Unmet (value_at ps key) else Tell.Same) ≡ Tell.Need addr → ⊥
        by_unmet true g = absurd cc
        by_unmet false g = absurd cc

    by_walk : (w : Walk)
        → walk s.parents s.version.0 s.draft.overlay.pages s.root (step_key step) ≡ w
        → (stepping s step w).answer ≡ Tell.Need addr → Needs s step addr
    by_walk (Missing at above) is f = record { above = above; way = is ∙ ap (λ (a : Addr). Missing a above) (need_same at addr f) }
    by_walk (Wrong at) is f = absurd cc
    by_walk (Reached path) is f = absurd (no_told step (path_pairs path) f)

pub needs_are_absent : NeedsAreAbsent
needs_are_absent s step addr e = let n = needs s step addr e in walk_absent s.parents s.version.0 s.draft.overlay.pages s.root (step_key step) addr n.above n.way

-- Slots

-- the child that a key goes to is one of the children
child_place : (P : Addr → Type 0) (first : Addr) (low : List ℕ) (cs : List Child) (high : Option (List ℕ)) (key : List ℕ) (next : Addr) → P first → AllByRecursion (λ c. P c.addr) cs → child_for (ranges_from first low cs high) key ≡ Some next → P next
child_place P first low [] high key next one all e = by_cover (covers_key low high key) e
  where
    same : (a b : Addr) → Some a ≡ Some b → a ≡ b
    same a b f = cc

    by_cover : (t : Bool) → (if t then Some first else None) ≡ Some next → P next
    by_cover true f = subst P (same first next f) one
    by_cover false f = absurd cc
child_place P first low (c ∷ cs) high key next one all e = by_cover (covers_key low (Some c.separator) key) e (λ f. child_place P c.addr c.separator cs high key next all.0 all.1 f)
  where
    same : (a b : Addr) → Some a ≡ Some b → a ≡ b
    same a b f = cc

    by_cover : (t : Bool)
        → (if t then Some first else child_for (ranges_from c.addr c.separator cs high) key) ≡ Some next → (child_for (ranges_from c.addr c.separator cs high) key ≡ Some next → P next) → P next
    by_cover true f rest = subst P (same first next f) one
    by_cover false f rest = rest f

filled_child : (most fresh top : ℕ) (low : List ℕ) (high : Option (List ℕ)) (b : Body) (key : List ℕ) (next : Addr) → IsFilled most fresh top low high b → child_for (body_children low high b) key ≡ Some next → IsPlace fresh next
filled_child most fresh top low high (Leaf pairs) key next is e = absurd cc
filled_child most fresh top low high (Inner height first rest) key next is e = child_place (IsPlace fresh) first low rest high key next is.4 (weaker (IsBranch fresh) (λ c. IsPlace fresh c.addr) (λ c b. b.1) rest is.5) e

pub needs_are_slots : NeedsAreSlots
needs_are_slots s step moves addr few root steps leads e =
    let n = needs s step addr e in
    by_place (walk_place s.parents s.version.0 s.draft.overlay.pages s.root (step_key step) addr n.above (IsPlace s.draft.overlay.fresh) (inl root) (λ x p next there chosen. filled_child 8 s.draft.overlay.fresh top p.low p.high p.body (step_key step) next (sized.each x p there).1.body chosen) n.way)
    (needs_are_absent s step addr e)
  where
    top : ℕ
    top = max_height + length (done_in moves)

    sized : AreSized top s.draft.overlay
    sized = moves_sized s.parents s.version s.root moves s.draft few steps leads

    numbered : (node slot : ℕ) → node ≡ 8
        → ◌≡◌ {A = Addr} (record { node = record { 0 = node }; slot = slot }) (new_addr slot)
    numbered node slot is = ap (λ k. let a : Addr = record { node = record { 0 = k }; slot = slot } in a) is

    by_place : IsPlace s.draft.overlay.fresh addr → held_at s.draft.overlay.pages addr ≡ None
        → IsAddr addr
    by_place (inl is) none = is
    by_place (inr fresh) none =
        let new = (moves_read s.parents s.version s.root moves s.draft leads).new addr.slot fresh.1 in
        absurd (nothing new.0 (held_at s.draft.overlay.pages addr) none (ap (held_at s.draft.overlay.pages) (numbered addr.node.0 addr.slot (eqb-true addr.node.0 8 fresh.0)) ∙ new.1))

-- and so, where it fits, it may come in
may_come : (s : TreeState) (step : Step) (h : Held) (above : Option ℕ)
    → walk s.parents s.version.0 s.draft.overlay.pages s.root (step_key step) ≡ Missing h.addr above
    → fits (stepping s step (walk s.parents s.version.0 s.draft.overlay.pages s.root (step_key step))).state h.page ≡ true → IsPage h.page → IsAddr h.addr → held_at s.draft.overlay.pages h.addr ≡ None → MayCome s.parents s.version s.draft h
unfolding is_live
may_come s step h above way fit page addr absent =
    let fits' = subst (λ (w : Walk). fits (stepping s step w).state h.page ≡ true) way fit in
    let first = and_parts (is_live s.parents s.version.0 h.page) (page_covers (step_key step) h.page && (is_below above (height_of h.page.body) && nat_le (height_of h.page.body) max_height)) fits' in
    let second = and_parts (page_covers (step_key step) h.page) (is_below above (height_of h.page.body) && nat_le (height_of h.page.body) max_height) first.1 in
    let third = and_parts (is_below above (height_of h.page.body)) (nat_le (height_of h.page.body) max_height) second.1 in
    record { page = page; addr = addr; live = first.0; height = leb-true (height_of h.page.body) max_height third.1; absent = absent }

pub needs_may_come : NeedsMayCome
needs_may_come s step h e fit page addr =
    let n = needs s step h.addr e in
    (may_come s step h n.above n.way fit page addr (needs_are_absent s step h.addr e), ap (λ (w : Walk). (with_page (stepping s step w).state h.addr h.page).draft) n.way)

-- What may be written

placed_count : (by : List Addr) (b : Body) → count_in (placed_body by b) ≡ count_in b
placed_count by (Leaf pairs) = refl
placed_count by (Inner height first rest) = ap (λ n. n + 1) (mapped rest)
  where
    mapped : (cs : List Child)
        → length (map (λ c. child_at c.separator (placed_addr by c.addr)) cs) ≡ length cs
    mapped [] = refl
    mapped (c ∷ cs) = ap suc (mapped cs)

filled_count : (most fresh top : ℕ) (low : List ℕ) (high : Option (List ℕ)) (b : Body)
    → IsFilled most fresh top low high b → count_in b ≤ most
filled_count most fresh top low high (Leaf pairs) is = is.0
filled_count most fresh top low high (Inner height first rest) is = is.3

abbrev HasRoom : Addr × Page → Type 0
HasRoom h = (count_in h.1.body ≤ 8) × (length h.1.low ≤ 32)

room_of : (fresh top seq : ℕ) (by : List Addr) (x : Addr) (p : Page) → IsSized fresh top p
    → HasRoom (x, placed_page by seq p)
room_of fresh top seq by x p is = (subst (λ n. n ≤ 8) (sym (placed_count by p.body)) (filled_count 8 fresh top p.low p.high p.body is.body), is.low.0)

pub placed_have_room : PlacedHaveRoom
placed_have_room parents v root moves d slots few steps leads = all_append HasRoom (map pair_of (flat_map (placed_old by d.overlay.pages) (changed_order d))) (map pair_of (flat_map (placed_new by d.overlay.pages) (new_order d))) (olds (changed_order d)) (news (new_order d))
  where
    by : List Addr
    by = slots_by_number (new_order d) slots d.overlay.fresh

    top : ℕ
    top = max_height + length (done_in moves)

    sized : AreSized top d.overlay
    sized = moves_sized parents v root moves d few steps leads

    olds : (xs : List Addr)
        → AllByRecursion HasRoom (map pair_of (flat_map (placed_old by d.overlay.pages) xs))
    olds [] = tt
    olds (x ∷ xs) = cases (held_at d.overlay.pages x) refl (olds xs)
      where
        cases : (o : Option Page) → held_at d.overlay.pages x ≡ o
            → AllByRecursion HasRoom (map pair_of (flat_map (placed_old by d.overlay.pages) xs))
            → AllByRecursion HasRoom (map pair_of (option_to_list (option_map (λ p. record { addr = x; page = placed_page by (next_number p.seq) p }) o) ++ flat_map (placed_old by d.overlay.pages) xs))
        cases None there rest = rest
        cases (Some p) there rest = (room_of d.overlay.fresh top (next_number p.seq) by x p (sized.each x p there).1, rest)

    news : (ns : List ℕ)
        → AllByRecursion HasRoom (map pair_of (flat_map (placed_new by d.overlay.pages) ns))
    news [] = tt
    news (n ∷ ns) = cases (held_at d.overlay.pages (new_addr n)) refl (news ns)
      where
        cases : (o : Option Page) → held_at d.overlay.pages (new_addr n) ≡ o
            → AllByRecursion HasRoom (map pair_of (flat_map (placed_new by d.overlay.pages) ns))
            → AllByRecursion HasRoom (map pair_of (option_to_list (option_map (λ p. record { addr = placed_addr by (new_addr n); page = placed_page by p.seq p }) o) ++ flat_map (placed_new by d.overlay.pages) ns))
        cases None there rest = rest
        cases (Some p) there rest = (room_of d.overlay.fresh top p.seq by (placed_addr by (new_addr n)) p (sized.each (new_addr n) p there).1, rest)
