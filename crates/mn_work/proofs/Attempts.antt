-- How a transaction of several steps goes on.
use Rattle.std.proofs.Common.{◌≡◌, ◌⊎◌, inl, inr, ℕ, zero, suc, ◌+◌, ◌<◌, ◌≤◌, Bool, true, false}
use Rattle.std.proofs.Common.{◌&&◌, ◌||◌, List, [], ◌∷◌, ◌++◌, map, length, Option, Some, None, refl, subst}
use Rattle.std.proofs.Common.{sym, ap, ◌∙◌, arith, get_or, slice_get, if◌then◌else◌, Vec, Global, Contains, Result}
use Rattle.std.specs.Prelude.{MatchOption, OnOk, drop, nat_eq, take}
use Rattle.std.specs.List.{AllByRecursion, list_any}
use Rattle.std.specs.Option.{is_some, option_map}
use Rattle.std.specs.Prelude.{bytes_eq}
use Rattle.std.proofs.lemmas.List.{length-take-le, map-append}
use Rattle.std.proofs.lemmas.Option.{slice_get_within}
use Rattle.mn_alloc.specs.Plan.{free_slots, new_slots, one_given}
use Rattle.mn_base.specs.Store.{Head, head_named, is_change, max_versions, number_named, op_version}
use Rattle.mn_base.specs.Store.{is_unmet, refusal, refusal_at, step_key, value_at}
use Rattle.mn_base.specs.Tree.{parents_of}
use Rattle.mn_base.specs.declared.error.NoMemory.{NoMemory}
use Rattle.mn_base.specs.declared.ids.Addr.{Addr}
use Rattle.mn_base.specs.declared.ids.VersionNo.{VersionNo}
use Rattle.mn_base.specs.declared.op.Op.{Op}
use Rattle.mn_base.specs.declared.op.Op.TheVariants.{Tx}
use Rattle.mn_base.specs.declared.op.Step.{Step}
use Rattle.mn_base.specs.declared.op.Step.TheVariants.{Get, Put, Del, Check}
use Rattle.mn_base.specs.declared.reply.Pair.{Pair}
use Rattle.mn_base.specs.declared.reply.Reply.{Reply}
use Rattle.mn_base.specs.declared.reply.Reply.TheVariants.{Frozen, Values, Unmet}
use Rattle.mn_base.proofs.Lists.{all_append}
use Rattle.mn_mini.specs.declared.item.Item.TheVariants.{Compare}
use Rattle.mn_mini.specs.Mini.{Mini}
use Rattle.mn_runs.specs.Clients.{is_plan}
use Rattle.mn_plans.specs.Growth.{AreNextSlots}
use Rattle.mn_page.specs.declared.page.Page.{Page}
use Rattle.mn_page.specs.declared.entry.CatEntry.{CatEntry}
use Rattle.mn_page.specs.Forest.{entry_head, heads_in}
use Rattle.mn_page.specs.Grammar.{IsAddr, IsEntry, IsPage, SpellsPage, height_of}
use Rattle.mn_page.specs.Overlay.{Held, path_pairs}
use Rattle.mn_page.specs.Space.{entry_start, max_slots}
use Rattle.mn_tree.specs.MoveLaws.{IsStep}
use Rattle.mn_tree.specs.Moves.{AreAnswered, Move, Comes, Does, LeadsTo, MayCome, comes_in}
use Rattle.mn_tree.specs.Order.{placed}
use Rattle.mn_tree.specs.State.{IsWanted, Stepping, Drafted, TreeState, drafted_with, fits, no_pages, stepped, stepping, told, with_page}
use Rattle.mn_tree.specs.Tries.{ComeTo, EndsUnmet, MovesAreMet, MovesTakePages, MovesTakeSteps, NeedsAreSlots, NeedsMayCome, TryGoesOn}
use Rattle.mn_tree.specs.Walk.{Walk, Missing, Wrong, Reached, walk}
use Rattle.mn_tree.specs.declared.stepped.Stepped.{Stepped}
use Rattle.mn_tree.specs.declared.stepped.Stepped.TheVariants as steps
use Rattle.mn_txn.specs.declared.seen.SeenPage.{SeenPage}
use Rattle.mn_txn.specs.Seen.{seen_as, seen_at}
use Rattle.mn_txn.specs.Attempt.{Attempt as Tried, IsAttempt, done_reads, done_writes, unmet_reads}
use Rattle.mn_txn.specs.AttemptPlan.{DonePlanned, HasTried, IsDonePlan, IsUnmetPlan, MayBeDone, MayBeUnmet, RefusesDone}
use Rattle.mn_txn.specs.AttemptPlan.{UnmetPlanned, done_items, unmet_items}
use Rattle.mn_txn.specs.Tries.{IsWornPage}
use Rattle.mn_txn.specs.declared.error.PlanError.TheVariants.{Worn}
use Rattle.mn_base.specs.declared.ids.NodeNo.{NodeNo}
use Rattle.mn_work.specs.Attempts.{tried, HasAll, StaysOnItsWay, WantsNext}
use Rattle.mn_work.specs.Answers.{full_by, worn_by}
use Rattle.mn_work.specs.Knows.{ArePages}
use Rattle.mn_base.specs.declared.answer.Answer.TheVariants as answer
use Rattle.mn_txn.specs.Slots.{NewSlotsAreNext}
use Rattle.mn_txn.specs.declared.attempt.Placing.{Placing}
use Rattle.mn_txn.specs.declared.attempt.Tried.{Tried as Told}
use Rattle.mn_work.specs.declared.attempt.Attempt.{Attempt}
use Rattle.mn_work.specs.declared.known.Known.{Known}
use Rattle.mn_work.specs.Attempts.{Asks, ComesIn, DoesSteps, HasCounts, HasUnmet, IsNextStep, IsOnItsWay, IsTold, IsUnderWay, IsUnmet}
use Rattle.mn_work.specs.Attempts.{IsMadeOf, IsPlanWanted, IsReadAt, KeepsSteps, KeepsVersion, SameButFound, was_read}
use Rattle.mn_work.proofs.Compares.{done_read, items_plan, of_items, of_reads, reads_plan, unmet_read}
use Rattle.mn_base.specs.declared.answer.Busy.{Busy}
use Rattle.mn_work.specs.declared.next.Next.{Next}
use Rattle.mn_work.specs.declared.next.Taken.{Taken}
use Rattle.mn_work.specs.Among.{FaultIsMet}
use Rattle.mn_work.specs.Attempts.{HasCome, IsCause, IsFault, IsShort, IsStuck, IsUnfit, TakesBytes, TakesNone, TakesPage}
use Rattle.mn_work.specs.Attempts.{MayFail, TakesRead, WantsBy}
use Rattle.mn_work.specs.Seen.{SpellsNone}
use Rattle.mn_work.specs.Knows.{KeepsKnown}
use Rattle.mn_work.specs.Last.{AreReadAs, IsLast, PagesAreLast}
use Rattle.mn_work.specs.Attempts.{StaysLast}
use Rattle.mn_work.proofs.Last.{done_last, found_last, on_any, unmet_last, used_last}
use Rattle.mn_work.proofs.Compares.{mapped_back}
use Rattle.mn_work.specs.Cached.{AreUsed}
use Rattle.mn_cache.specs.Pages.{page_at}
use Rattle.mn_page.specs.Grammar.{page_bytes}
use Rattle.mn_page.specs.Overlay.{held_at}
use Rattle.mn_tree.specs.MoveLaws.{MovesComeOnce}
use Rattle.mn_law.specs.Places.{page_place}
use Rattle.mn_plans.proofs.Told.{all_there}
use Rattle.mn_work.specs.Walks.{Admits}

-- Lists

pub take_next : {X : Type 0} (xs : List X) (i : ℕ) (x : X) → slice_get xs i ≡ Some x
    → take (i + 1) xs ≡ take i xs ++ x ∷ []
take_next [] i x e = absurd cc
take_next (y ∷ ys) zero x e = let is : y ≡ x = cc in ap (λ z. z ∷ []) is
take_next (y ∷ ys) (suc i) x e =
    let same : suc i + 1 ≡ suc (i + 1) = omega arith in
    ap (λ n. take n (y ∷ ys)) same ∙ ap (λ l. y ∷ l) (take_next ys i x e)

pub all_taken : {X : Type 0} (P : X → Type 0) (xs : List X) (i : ℕ) → AllByRecursion P xs
    → AllByRecursion P (take i xs)
all_taken P xs zero all = tt
all_taken P [] (suc i) all = tt
all_taken P (x ∷ xs) (suc i) all = (all.0, all_taken P xs i all.1)

pub take_all : {X : Type 0} (xs : List X) (i : ℕ) → i ≡ length xs → take i xs ≡ xs
take_all [] zero e = refl
take_all [] (suc i) e = absurd cc
take_all (x ∷ xs) zero e = absurd cc
take_all (x ∷ xs) (suc i) e = ap (λ l. x ∷ l) (take_all xs i cc)

pub split_at : {X : Type 0} (xs : List X) (i : ℕ) (x : X) → slice_get xs i ≡ Some x
    → xs ≡ take i xs ++ x ∷ drop (i + 1) xs
split_at [] i x e = absurd cc
split_at (y ∷ ys) zero x e = let is : y ≡ x = cc in ap (λ z. z ∷ ys) is
split_at (y ∷ ys) (suc i) x e =
    let same : suc (i + 1) ≡ suc i + 1 = omega arith in
    ap (λ l. y ∷ l) (split_at ys i x e) ∙ ap (λ n. take (suc i) (y ∷ ys) ++ x ∷ drop n (y ∷ ys)) same

-- A step

-- a step leaves the version and its tree
pub record StaysOn (before after : TreeState) : Type 0 where
  pub parents : after.parents ≡ before.parents
  pub version : after.version ≡ before.version
  pub root : after.root ≡ before.root

stays_on : (s : TreeState) (step : Step) → StaysOn s (stepped s step).state
stays_on s step = by (walk s.parents s.version.0 s.draft.overlay.pages s.root (step_key step))
  where
    by : (w : Walk) → StaysOn s (stepping s step w).state
    by (Missing addr above) = record { parents = refl; version = refl; root = refl }
    by (Wrong addr) = record { parents = refl; version = refl; root = refl }
    by (Reached path) = record { parents = refl; version = refl; root = refl }

-- a step that reaches its leaf asks for nothing
pub no_need : (addr : Addr) (step : Step) (ps : List Pair) → told step ps ≡ steps.Need addr → ⊥
no_need addr (Get key) ps e = absurd cc
no_need addr (Put key value) ps e = absurd cc
no_need addr (Del key) ps e = by (is_some (value_at ps key)) e
  where
    by : (b : Bool) → (if b then steps.Changed else steps.Same) ≡ steps.Need addr → ⊥
    by true f = absurd cc
    by false f = absurd cc
no_need addr (Check key want) ps e = by (is_unmet ps (Check key want)) e
  where
    by : (b : Bool) → (if b then steps.Unmet (value_at ps key) else steps.Same) ≡ steps.Need addr → ⊥
    by true f = absurd cc
    by false f = absurd cc

-- nor does it meet a bad page
no_bad : (addr : Addr) (step : Step) (ps : List Pair) → told step ps ≡ steps.BadPath addr → ⊥
no_bad addr (Get key) ps e = absurd cc
no_bad addr (Put key value) ps e = absurd cc
no_bad addr (Del key) ps e = by (is_some (value_at ps key)) e
  where
    by : (b : Bool) → (if b then steps.Changed else steps.Same) ≡ steps.BadPath addr → ⊥
    by true f = absurd cc
    by false f = absurd cc
no_bad addr (Check key want) ps e = by (is_unmet ps (Check key want)) e
  where
    by : (b : Bool) → (if b then steps.Unmet (value_at ps key) else steps.Same) ≡ steps.BadPath addr → ⊥
    by true f = absurd cc
    by false f = absurd cc

-- what a step that stops leaves is stepped alike
pub asked_again : (s : TreeState) (step : Step) (addr : Addr)
    → (stepped s step).answer ≡ steps.Need addr
    → stepped (stepped s step).state step ≡ stepped s step
asked_again s step addr e = by (walk s.parents s.version.0 s.draft.overlay.pages s.root (step_key step)) refl e
  where
    by : (w : Walk) → walk s.parents s.version.0 s.draft.overlay.pages s.root (step_key step) ≡ w
        → (stepping s step w).answer ≡ steps.Need addr
        → stepped (stepping s step w).state step ≡ stepping s step w
    by (Missing at above) is need = ap (λ w. stepping s step w) is
    by (Wrong at) is need = absurd cc
    by (Reached path) is need = absurd (no_need addr step (path_pairs path) need)

-- so is one that meets a bad page
pub bad_again : (s : TreeState) (step : Step) (addr : Addr)
    → (stepped s step).answer ≡ steps.BadPath addr
    → stepped (stepped s step).state step ≡ stepped s step
bad_again s step addr e = by (walk s.parents s.version.0 s.draft.overlay.pages s.root (step_key step)) refl e
  where
    by : (w : Walk) → walk s.parents s.version.0 s.draft.overlay.pages s.root (step_key step) ≡ w
        → (stepping s step w).answer ≡ steps.BadPath addr
        → stepped (stepping s step w).state step ≡ stepping s step w
    by (Missing at above) is bad = absurd cc
    by (Wrong at) is bad = ap (λ w. stepping s step w) is
    by (Reached path) is bad = absurd (no_bad addr step (path_pairs path) bad)

-- How a try goes on

-- the same catalog admits the transaction
abbrev pub admits_after : (entries : List CatEntry) (op : Op) (before after : Attempt) → KeepsVersion before after
    → Admits entries op before.version before.root → Admits entries op after.version after.root
admits_after entries op before after keeps a = record {
  entry = a.entry;
  admitted = a.admitted;
  named = subst (λ (v : VersionNo). number_named (heads_in entries) (op_version op) ≡ Some v.0) (sym keeps.0) a.named;
  there = subst (λ (v : VersionNo). slice_get entries v.0 ≡ Some a.entry) (sym keeps.0) a.there;
  root_is = a.root_is ∙ sym keeps.1;
}

module _ (nodes : ℕ) (entries : List CatEntry) (all : List Step) (before after : Attempt)
    (way : IsUnderWay nodes entries all before) (keeps : KeepsVersion before after)
    (tree : StaysOn before.overlay after.overlay) (counts : after.counts ≡ before.counts) where
  abbrev pub parents : List (Option ℕ)
  parents = parents_of (heads_in entries)

  pub goes_on : (moves : List Move) (came : List Held)
      → ComeTo parents before.version before.root moves after.overlay.draft came (take after.done all) after.found.items
      → after.pages.items ≡ map seen_as came
      → AllByRecursion (λ h. h.addr.node.0 < nodes) came
      → after.done ≤ length all
      → IsUnderWay nodes entries all after
  goes_on moves came come pages within low =
      record {
        name = way.name;
        admits = admits_after entries (Tx way.name all) before after keeps way.admits;
        entry = way.entry;
        early = subst (λ (v : VersionNo). v.0 < max_versions) (sym keeps.0) way.early;
        right = way.right;
        some = way.some;
        many = way.many;
        parents = tree.parents ∙ way.parents;
        version = tree.version ∙ way.version ∙ sym keeps.0;
        root = tree.root ∙ way.root ∙ sym keeps.1;
        moves = moves;
        came = came;
        come = subst (λ (v : VersionNo). ComeTo parents v after.root moves after.overlay.draft came (take after.done all) after.found.items) (sym keeps.0)
            (subst (λ (r : Addr). ComeTo parents before.version r moves after.overlay.draft came (take after.done all) after.found.items) (sym keeps.1) come);
        pages = pages;
        within = within;
        low = low;
        few = subst (λ (v : Vec ℕ Global). length v.items ≤ nodes) (sym counts) way.few;
        given = subst (λ (v : Vec ℕ Global). AllByRecursion (λ count. count ≤ max_slots) v.items) (sym counts) way.given;
      }

-- the step of a try that has come so far
module _ (nodes : ℕ) (entries : List CatEntry) (all : List Step) (before after : Attempt)
    (way : IsUnderWay nodes entries all before) (keeps : KeepsVersion before after)
    (step : Step) (next : IsNextStep all before step)
    (state : after.overlay ≡ (stepped before.overlay step).state)
    (pages : after.pages ≡ before.pages) (counts : after.counts ≡ before.counts)
    (law : MovesTakeSteps) where
  abbrev pub heads : List (Option ℕ)
  heads = parents_of (heads_in entries)

  tree : StaysOn before.overlay after.overlay
  tree = subst (λ (s : TreeState). StaysOn before.overlay s) (sym state) (stays_on before.overlay step)

  its : ComeTo before.overlay.parents before.overlay.version before.overlay.root way.moves before.overlay.draft way.came (take before.done all) before.found.items
  its =
      subst (λ (p : List (Option ℕ)). ComeTo p before.overlay.version before.overlay.root way.moves before.overlay.draft way.came (take before.done all) before.found.items) (sym way.parents)
      (subst (λ (v : VersionNo). ComeTo heads v before.overlay.root way.moves before.overlay.draft way.came (take before.done all) before.found.items) (sym way.version)
      (subst (λ (r : Addr). ComeTo heads before.version r way.moves before.overlay.draft way.came (take before.done all) before.found.items) (sym way.root) way.come))

  on_answer : (answer : Stepped) → (stepped before.overlay step).answer ≡ answer
      → TryGoesOn before.overlay step way.moves way.came (take before.done all) before.found.items after.overlay.draft answer
  on_answer answer e =
      subst (λ (s : TreeState). TryGoesOn before.overlay step way.moves way.came (take before.done all) before.found.items s.draft answer) (sym state)
      (subst (λ (x : Stepped). TryGoesOn before.overlay step way.moves way.came (take before.done all) before.found.items (stepped before.overlay step).state.draft x) e
      (law before.overlay step way.moves way.came (take before.done all) before.found.items its))

  seen : after.pages.items ≡ map seen_as way.came
  seen = ap (λ (v : Vec SeenPage Global). v.items) pages ∙ way.pages

  -- one more step is done, and has found this
  done_on : (found : List (Option (List ℕ)))
      → ComeTo before.overlay.parents before.overlay.version before.overlay.root (way.moves ++ Does step ∷ []) after.overlay.draft way.came (take before.done all ++ step ∷ []) found
      → after.done ≡ before.done + 1 → after.found.items ≡ found
      → IsUnderWay nodes entries all after
  done_on found come more has =
      goes_on nodes entries all before after way keeps tree counts (way.moves ++ Does step ∷ []) way.came
      (subst (λ (f : List (Option (List ℕ))). ComeTo heads before.version before.root (way.moves ++ Does step ∷ []) after.overlay.draft way.came (take after.done all) f) (sym has)
      (subst (λ (l : List Step). ComeTo heads before.version before.root (way.moves ++ Does step ∷ []) after.overlay.draft way.came l found) (sym (ap (λ (n : ℕ). take n all) more ∙ take_next all before.done step next))
      (subst (λ (p : List (Option ℕ)). ComeTo p before.version before.root (way.moves ++ Does step ∷ []) after.overlay.draft way.came (take before.done all ++ step ∷ []) found) way.parents
      (subst (λ (v : VersionNo). ComeTo before.overlay.parents v before.root (way.moves ++ Does step ∷ []) after.overlay.draft way.came (take before.done all ++ step ∷ []) found) way.version
      (subst (λ (r : Addr). ComeTo before.overlay.parents before.overlay.version r (way.moves ++ Does step ∷ []) after.overlay.draft way.came (take before.done all ++ step ∷ []) found) way.root come)))))
      seen way.within
      (let low = slice_get_within all before.done step next in omega (arith, more))

  pub found_on : (value : Option (List ℕ)) → (stepped before.overlay step).answer ≡ steps.Found value
      → after.done ≡ before.done + 1 → after.found.items ≡ before.found.items ++ value ∷ []
      → IsUnderWay nodes entries all after
  found_on value e more has = done_on (before.found.items ++ value ∷ []) (on_answer (steps.Found value) e) more has

  changed_on : (stepped before.overlay step).answer ≡ steps.Changed
      → after.done ≡ before.done + 1 → after.found ≡ before.found
      → IsUnderWay nodes entries all after
  changed_on e more has = done_on before.found.items (on_answer steps.Changed e) more (ap (λ (v : Vec (Option (List ℕ)) Global). v.items) has)

  same_on : (stepped before.overlay step).answer ≡ steps.Same
      → after.done ≡ before.done + 1 → after.found ≡ before.found
      → IsUnderWay nodes entries all after
  same_on e more has = done_on before.found.items (on_answer steps.Same e) more (ap (λ (v : Vec (Option (List ℕ)) Global). v.items) has)

  pub changed_or_same : (answer : Stepped) → (stepped before.overlay step).answer ≡ answer
      → (answer ≡ steps.Changed) ⊎ (answer ≡ steps.Same)
      → after.done ≡ before.done + 1 → after.found ≡ before.found
      → IsUnderWay nodes entries all after
  changed_or_same answer e (inl changed) more has = changed_on (e ∙ changed) more has
  changed_or_same answer e (inr same) more has = same_on (e ∙ same) more has

  -- it stops, and its draft stays
  stopped_on : after.overlay.draft ≡ before.overlay.draft → after.done ≡ before.done
      → after.found ≡ before.found → IsUnderWay nodes entries all after
  stopped_on draft done has =
      goes_on nodes entries all before after way keeps tree counts way.moves way.came
      (subst (λ (v : Vec (Option (List ℕ)) Global). ComeTo heads before.version before.root way.moves after.overlay.draft way.came (take after.done all) v.items) (sym has)
      (subst (λ (n : ℕ). ComeTo heads before.version before.root way.moves after.overlay.draft way.came (take n all) before.found.items) (sym done)
      (subst (λ (d : Drafted). ComeTo heads before.version before.root way.moves d way.came (take before.done all) before.found.items) (sym draft) way.come)))
      seen way.within (subst (λ (n : ℕ). n ≤ length all) (sym done) way.low)

  pub needs_on : (addr : Addr) → (stepped before.overlay step).answer ≡ steps.Need addr
      → after.done ≡ before.done → after.found ≡ before.found → IsUnderWay nodes entries all after
  needs_on addr e done has = stopped_on (on_answer (steps.Need addr) e) done has

  pub bad_on : (addr : Addr) → (stepped before.overlay step).answer ≡ steps.BadPath addr
      → after.done ≡ before.done → after.found ≡ before.found → IsUnderWay nodes entries all after
  bad_on addr e done has = stopped_on (on_answer (steps.BadPath addr) e) done has

  -- it is a Check that is unmet
  pub unmet_on : (found : Option (List ℕ)) → (stepped before.overlay step).answer ≡ steps.Unmet found
      → after.done ≡ before.done → IsUnmet nodes entries all after found
  unmet_on found e done = record {
    name = way.name;
    admits = admits_after entries (Tx way.name all) before after keeps way.admits;
    entry = way.entry;
    early = subst (λ (v : VersionNo). v.0 < max_versions) (sym keeps.0) way.early;
    right = way.right;
    some = way.some;
    many = way.many;
    step = step;
    next = ap (λ (n : ℕ). slice_get all n) done ∙ next;
    moves = way.moves ++ Does step ∷ [];
    came = way.came;
    ends = subst (λ (n : ℕ). EndsUnmet heads after.version after.root (way.moves ++ Does step ∷ []) after.overlay.draft way.came (take n all) step found) (sym done)
        (subst (λ (v : VersionNo). EndsUnmet heads v after.root (way.moves ++ Does step ∷ []) after.overlay.draft way.came (take before.done all) step found) (way.version ∙ sym keeps.0)
        (subst (λ (r : Addr). EndsUnmet heads before.overlay.version r (way.moves ++ Does step ∷ []) after.overlay.draft way.came (take before.done all) step found) (way.root ∙ sym keeps.1)
        (subst (λ (p : List (Option ℕ)). EndsUnmet p before.overlay.version before.overlay.root (way.moves ++ Does step ∷ []) after.overlay.draft way.came (take before.done all) step found) way.parents (on_answer (steps.Unmet found) e))));
    pages = seen;
    within = way.within;
  }

-- A page that comes in

-- a page that fits, for the step that asked for it
module _ (nodes : ℕ) (entries : List CatEntry) (all : List Step) (before after : Attempt)
    (way : IsUnderWay nodes entries all before) (addr : Addr) (asks : Asks all before addr)
    (low : addr.node.0 < nodes) (page : Page) (is : IsPage page)
    (pages : MovesTakePages) (slots : NeedsAreSlots) (come : NeedsMayCome) where
  abbrev pub parents' : List (Option ℕ)
  parents' = parents_of (heads_in entries)

  abbrev pub h : Held
  h = record { addr = addr; page = page }

  leads : LeadsTo before.overlay.parents before.overlay.version before.overlay.root no_pages way.moves before.overlay.draft
  leads =
      subst (λ (p : List (Option ℕ)). LeadsTo p before.overlay.version before.overlay.root no_pages way.moves before.overlay.draft) (sym way.parents)
      (subst (λ (v : VersionNo). LeadsTo parents' v before.overlay.root no_pages way.moves before.overlay.draft) (sym way.version)
      (subst (λ (r : Addr). LeadsTo parents' before.version r no_pages way.moves before.overlay.draft) (sym way.root) way.come.leads))

  is_addr : IsAddr addr
  is_addr =
      slots before.overlay asks.step way.moves addr
      (subst (λ (v : VersionNo). v.0 < 64) (sym way.version) way.early)
      (subst IsAddr (way.admits.root_is ∙ sym way.root) way.entry.root)
      (subst (AllByRecursion IsStep) (sym way.come.steps) (all_taken IsStep all before.done way.right))
      leads asks.answer

  may : fits before.overlay page ≡ true
      → MayCome before.overlay.parents before.overlay.version before.overlay.draft h
      × ((with_page before.overlay addr page).draft ≡ drafted_with before.overlay.draft addr page)
  may fit =
      let got = come before.overlay asks.step h asks.answer (subst (λ (s : TreeState). fits s page ≡ true) (sym asks.state) fit) is is_addr in
      (got.0, refl)

  pub comes_on : KeepsSteps before after → ComesIn before addr page after true
      → IsUnderWay nodes entries all after
  comes_on keeps comes =
      let overlay = comes.2 refl in
      let m = (may comes.1).0 in
      goes_on nodes entries all before after way keeps.0
      (subst (λ (s : TreeState). StaysOn before.overlay s) (sym overlay) (record { parents = refl; version = refl; root = refl }))
      keeps.3 (way.moves ++ Comes h ∷ []) (way.came ++ h ∷ [])
      (subst (λ (f : Vec (Option (List ℕ)) Global). ComeTo parents' before.version before.root (way.moves ++ Comes h ∷ []) after.overlay.draft (way.came ++ h ∷ []) (take after.done all) f.items) (sym keeps.1)
      (subst (λ (n : ℕ). ComeTo parents' before.version before.root (way.moves ++ Comes h ∷ []) after.overlay.draft (way.came ++ h ∷ []) (take n all) before.found.items) (sym keeps.2)
      (subst (λ (s : TreeState). ComeTo parents' before.version before.root (way.moves ++ Comes h ∷ []) s.draft (way.came ++ h ∷ []) (take before.done all) before.found.items) (sym overlay)
      (pages parents' before.version before.root way.moves before.overlay.draft way.came (take before.done all) before.found.items h way.come
      (subst (λ (p : List (Option ℕ)). MayCome p before.version before.overlay.draft h) way.parents
      (subst (λ (v : VersionNo). MayCome before.overlay.parents v before.overlay.draft h) way.version m))))))
      (comes.0 ∙ ap (λ (l : List SeenPage). l ++ seen_as h ∷ []) way.pages ∙ sym (map-append seen_as way.came (h ∷ [])))
      (all_append (λ x. x.addr.node.0 < nodes) way.came (h ∷ []) way.within (low, tt))
      (subst (λ (n : ℕ). n ≤ length all) (sym keeps.2) way.low)

-- What is kept

module _ (known new : Known) (all : List Step) (keeps : KeepsKnown known new) where
  -- by the catalog that is kept
  pub by_kept : (before after : Attempt)
      → ((entries : List CatEntry) → known.catalog ≡ Some entries → IsUnderWay known.nodes entries all before → IsUnderWay known.nodes entries all after)
      → IsOnItsWay known all before → IsOnItsWay new all after
  by_kept before after on way = by known.catalog refl way
    where
      by : (o : Option (List CatEntry)) → known.catalog ≡ o
          → MatchOption o ⊥ (λ entries. IsUnderWay known.nodes entries all before)
          → IsOnItsWay new all after
      by None is told = absurd told
      by (Some entries) is told =
          subst (λ (o : Option (List CatEntry)). MatchOption o ⊥ (λ es. IsUnderWay new.nodes es all after)) (sym (keeps.1 ∙ is))
          (subst (λ (n : ℕ). IsUnderWay n entries all after) (sym keeps.0) (on entries is told))

-- Its plan

pub slots_are_many : (need : ℕ) (counts : List ℕ) → length (new_slots need counts) ≡ need
slots_are_many zero counts = refl
slots_are_many (suc need) counts = ap suc (slots_are_many need (one_given counts))

pub all_unread : (pages : List SeenPage) (slots : List Addr) → was_read pages slots ≡ false
    → AllByRecursion (λ slot. seen_at pages slot ≡ None) slots
all_unread pages [] e = tt
all_unread pages (slot ∷ slots) e = by (seen_at pages slot) refl e (λ f. all_unread pages slots f)
  where
    by : (o : Option SeenPage) → seen_at pages slot ≡ o → (is_some o || was_read pages slots) ≡ false
        → (was_read pages slots ≡ false → AllByRecursion (λ s. seen_at pages s ≡ None) slots)
        → AllByRecursion (λ s. seen_at pages s ≡ None) (slot ∷ slots)
    by None is f rest = (is, rest f)
    by (Some p) is f rest = absurd cc

-- the version of a name, by its number
head_found : (hs : List Head) (name : List ℕ) (v : ℕ) (h : Head) → number_named hs name ≡ Some v
    → slice_get hs v ≡ Some h → head_named hs name ≡ Some h
head_found [] name v h e at = absurd cc
head_found (g ∷ hs) name v h e at = by_name (bytes_eq g.name name) e (λ k f there. head_found hs name k h f there)
  where
    below : (o : Option ℕ) → number_named hs name ≡ o → option_map (λ k. k + 1) o ≡ Some v
        → (k : ℕ) × (number_named hs name ≡ Some k) × (k + 1 ≡ v)
    below None f r = absurd cc
    below (Some k) f r = (k, f, cc)

    by_name : (t : Bool) → (if t then Some 0 else option_map (λ k. k + 1) (number_named hs name)) ≡ Some v
        → ((k : ℕ) → number_named hs name ≡ Some k → slice_get hs k ≡ Some h → head_named hs name ≡ Some h)
        → (if t then Some g else head_named hs name) ≡ Some h
    by_name true f rest = let here : 0 ≡ v = cc in ap (slice_get (g ∷ hs)) here ∙ at
    by_name false f rest =
        let k = below (number_named hs name) refl f in
        let after : suc k.0 ≡ v = omega (arith, k.2) in
        rest k.0 k.1 (ap (slice_get (g ∷ hs)) after ∙ at)

head_at : (entries : List CatEntry) (v : ℕ) (e : CatEntry) → slice_get entries v ≡ Some e
    → slice_get (heads_in entries) v ≡ Some (entry_head e)
head_at [] v e is = absurd cc
head_at (x ∷ entries) zero e is = let same : x ≡ e = cc in ap (λ y. Some (entry_head y)) same
head_at (x ∷ entries) (suc v) e is = head_at entries v e is

-- a transaction that isn't refused may write its version
may_write : (h : Head) (version : List ℕ) (steps : List Step) (heads : List Head) (o : Option Head)
    → o ≡ Some h → refusal_at heads (Tx version steps) o ≡ None
    → (h.frozen && list_any is_change steps) ≡ false
may_write h version steps heads None is none = absurd cc
may_write h version steps heads (Some g) is none =
    let same : g ≡ h = cc in by (h.frozen && list_any is_change steps) refl (subst (λ (x : Head). refusal_at heads (Tx version steps) (Some x) ≡ None) same none)
  where
    by : (t : Bool) → (h.frozen && list_any is_change steps) ≡ t → (if t then Some Frozen else None) ≡ None
        → (h.frozen && list_any is_change steps) ≡ false
    by true e f = absurd cc
    by false e f = e

pub entry_may : (entries : List CatEntry) (name : List ℕ) (all : List Step) (v : ℕ) (e : CatEntry)
    → refusal (heads_in entries) (Tx name all) ≡ None → number_named (heads_in entries) name ≡ Some v
    → slice_get entries v ≡ Some e → (e.frozen && list_any is_change all) ≡ false
entry_may entries name all v e admitted named there =
    may_write (entry_head e) name all (heads_in entries) (head_named (heads_in entries) name)
    (head_found (heads_in entries) name v (entry_head e) named (head_at entries v e there)) admitted

-- what a try has read, of which a plan is made
module _ (nodes : ℕ) (entries : List CatEntry) (all : List Step) (a : Attempt) (name : List ℕ)
    (entry : CatEntry) (is_entry : IsEntry entry) (early : a.version.0 < max_versions)
    (admits : Admits entries (Tx name all) a.version a.root)
    (there : slice_get entries a.version.0 ≡ Some entry) (root : entry.root ≡ a.root)
    (right : AllByRecursion IsStep all) (some : 1 ≤ length all) (many : length all ≤ 16)
    (few : nodes ≤ 8) (r : Told) (told : IsTold nodes entry all a r)
    (moves : List Move) (came : List Held) (pages : a.pages.items ≡ map seen_as came)
    (came_is : comes_in moves ≡ came)
    (within : AllByRecursion (λ h. h.addr.node.0 < nodes) came)
    (leads : LeadsTo (parents_of (heads_in entries)) a.version a.root no_pages moves a.overlay.draft)
  where
    abbrev pub its_tree : List (Option ℕ)
    its_tree = parents_of (heads_in entries)

    abbrev pub attempt : Reply → List ℕ → List Addr → Tried
    attempt reply counts slots = record {
      name = name;
      version = a.version;
      entry = entry;
      steps = all;
      moves = moves;
      draft = a.overlay.draft;
      reply = reply;
      counts = counts;
      slots = slots;
    }

    pub has_tried : (reply : Reply) (counts : List ℕ) (slots : List Addr)
        → AreAnswered its_tree a.version a.root no_pages moves 1 [] all reply
        → HasTried (heads_in entries) r (attempt reply counts slots)
    has_tried reply counts slots answered = record {
      is = subst (λ (n : ℕ). IsAttempt (heads_in entries) n (attempt reply counts slots)) (sym told.0) (record {
        named = admits.named;
        few = early;
        entry = is_entry;
        may = entry_may entries name all a.version.0 entry admits.admitted admits.named there;
        steps = right;
        many = many;
        leads = subst (λ (x : Addr). LeadsTo its_tree a.version x no_pages moves a.overlay.draft) (sym root) leads;
        answered = subst (λ (x : Addr). AreAnswered its_tree a.version x no_pages moves 1 [] all reply) (sym root) answered;
        within = subst (AllByRecursion (λ h. h.addr.node.0 < nodes)) (sym came_is) within;
      });
      version = sym told.1;
      entry = sym told.2;
      steps = sym told.3;
      some = some;
      few = subst (λ (n : ℕ). n ≤ 8) (sym told.0) few;
      came = told.4 ∙ pages ∙ ap (map seen_as) (sym came_is);
      read = told.5;
    }

    -- all its Checks are met: with these counts and slots its pages are to be written
    pub may_be_done : (found : List (Option (List ℕ))) (counts : List ℕ) (slots : List Addr) (p : Placing)
        → AreAnswered its_tree a.version a.root no_pages moves 1 [] all (Values found)
        → length counts ≡ nodes → AllByRecursion (λ count. count ≤ max_slots) counts
        → AreNextSlots counts slots → length slots ≡ a.overlay.draft.overlay.fresh
        → AllByRecursion (λ slot. seen_at a.pages.items slot ≡ None) slots
        → p.slots.now ≡ slots → p.pages.now ≡ placed slots a.overlay.draft
        → ((p.counts.now ≡ counts) ⊎ ((p.counts.now ≡ []) × (slots ≡ [])))
        → MayBeDone (heads_in entries) r p (attempt (Values found) counts slots)
    may_be_done found counts slots p answered all_read small next long unread are placed_are counted = record {
      tried = has_tried (Values found) counts slots answered;
      found = found;
      reply = refl;
      counted = all_read ∙ sym told.0;
      small = small;
      next = next;
      long = long;
      unread = subst (λ (l : List SeenPage). AllByRecursion (λ slot. seen_at l slot ≡ None) slots) (sym told.4) unread;
      slots = are;
      pages = placed_are;
      counts = counted;
    }

    -- its last step is a Check that is unmet
    pub may_be_unmet : (n : ℕ) (found : Option (List ℕ))
        → AreAnswered its_tree a.version a.root no_pages moves 1 [] all (Unmet n found)
        → MayBeUnmet (heads_in entries) r (attempt (Unmet n found) [] [])
    may_be_unmet n found answered = record {
      tried = has_tried (Unmet n found) [] [] answered;
      unmet = record { step = n; found = found; reply = refl };
    }

no_length : {X : Type 0} (xs : List X) → length xs ≡ 0 → xs ≡ []
no_length [] e = refl
no_length (x ∷ xs) e = absurd cc

-- no counts were read, where no slots are to be taken
abbrev pub no_counts : ℕ → List ℕ
no_counts zero = []
no_counts (suc n) = 0 ∷ no_counts n

pub none_long : (n : ℕ) → length (no_counts n) ≡ n
none_long zero = refl
none_long (suc n) = ap suc (none_long n)

pub none_small : (n : ℕ) → AllByRecursion (λ count. count ≤ max_slots) (no_counts n)
none_small zero = tt
none_small (suc n) = (omega arith, none_small n)

-- the plan of a try whose steps are all done, made of what it has read and is to write
module _ (known : Known) (all : List Step) (a : Attempt) (entry : CatEntry) (r : Told)
    (p : Placing) (met : MovesAreMet)
    (next : NewSlotsAreNext) (done : a.done ≡ length all) (few : known.nodes ≤ 8)
    (slots : p.slots.now ≡ new_slots a.overlay.draft.overlay.fresh a.counts.items)
    (counts : HasCounts known a p.counts.now p.slots.now)
    (unread : was_read a.pages.items p.slots.now ≡ false)
    (pages : p.pages.now ≡ placed p.slots.now a.overlay.draft) where
  module _ (entries : List CatEntry) (way : IsUnderWay known.nodes entries all a)
      (there : slice_get entries a.version.0 ≡ Some entry)
      (told : IsTold known.nodes entry all a r) where
    abbrev pub tree_of : List (Option ℕ)
    tree_of = parents_of (heads_in entries)

    answered : AreAnswered tree_of a.version a.root no_pages way.moves 1 [] all (Values a.found.items)
    answered =
        subst (λ (l : List Step). AreAnswered tree_of a.version a.root no_pages way.moves 1 [] l (Values a.found.items)) (take_all all a.done done)
        (met tree_of a.version a.root way.moves a.overlay.draft way.came (take a.done all) a.found.items way.come)

    same : way.admits.entry ≡ entry
    same = let e = sym way.admits.there ∙ there in cc

    by_counts : (name : List ℕ) → Admits entries (Tx name all) a.version a.root
        → HasCounts known a p.counts.now p.slots.now
        → (counts : List ℕ) × (ss : List Addr) × MayBeDone (heads_in entries) r p (record { name = name; version = a.version; entry = entry; steps = all; moves = way.moves; draft = a.overlay.draft; reply = Values a.found.items; counts = counts; slots = ss })
    by_counts name admits (inl (read, long, enough)) = (
      a.counts.items,
      new_slots a.overlay.draft.overlay.fresh a.counts.items,
      may_be_done known.nodes entries all a name entry (subst IsEntry same way.entry) way.early admits there
          (subst (λ (e : CatEntry). e.root ≡ a.root) same way.admits.root_is) way.right way.some way.many few r told way.moves way.came way.pages way.come.pages way.within way.come.leads
          a.found.items a.counts.items (new_slots a.overlay.draft.overlay.fresh a.counts.items) p answered
          (sym (ap length read) ∙ long) way.given
          (next a.overlay.draft.overlay.fresh a.counts.items (subst (λ (l : List ℕ). a.overlay.draft.overlay.fresh ≤ free_slots l) read enough))
          (slots_are_many a.overlay.draft.overlay.fresh a.counts.items)
          (all_unread a.pages.items (new_slots a.overlay.draft.overlay.fresh a.counts.items) (subst (λ (l : List Addr). was_read a.pages.items l ≡ false) slots unread))
          slots (subst (λ (l : List Addr). p.pages.now ≡ placed l a.overlay.draft) slots pages) (inl read),
    )
    by_counts name admits (inr (none, zero_need)) =
        let empty : p.slots.now ≡ [] = slots ∙ ap (λ (n : ℕ). new_slots n a.counts.items) zero_need in (
          no_counts known.nodes,
          [],
          may_be_done known.nodes entries all a name entry (subst IsEntry same way.entry) way.early admits there
              (subst (λ (e : CatEntry). e.root ≡ a.root) same way.admits.root_is) way.right way.some way.many few r told way.moves way.came way.pages way.come.pages way.within way.come.leads
              a.found.items (no_counts known.nodes) [] p answered
              (none_long known.nodes) (none_small known.nodes) tt (sym zero_need) tt
              empty (subst (λ (l : List Addr). p.pages.now ≡ placed l a.overlay.draft) empty pages) (inr (none, refl)),
        )

    pub done_may : (kept : List Head) × (t : Tried) × MayBeDone kept r p t
    done_may = let m = by_counts way.name way.admits counts in (heads_in entries, _, m.2)

    -- a page that is worn, whichever way it came
    pub worn_page : (node : NodeNo) (start : ℕ) → RefusesDone r p (Worn node start)
        → IsWornPage (tried known.nodes entries all a way) node start
    worn_page node start refuses =
        let m = by_counts way.name way.admits counts in
        let w = refuses (heads_in entries) _ m.2 in
        record {
          addr = w.addr;
          page = w.page;
          changed = w.changed;
          came = w.came;
          last = w.last;
          number = w.number;
          node_is = w.node_is;
          start_is = w.start_is;
        }

    does_steps : (mini : Mini) → DonePlanned r p mini
        → DoesSteps entries all a (Values a.found.items) mini
    does_steps mini planned name es admits catalog last =
        let m = by_counts name admits counts in
        let t : Tried = record {
          name = name;
          version = a.version;
          entry = entry;
          steps = all;
          moves = way.moves;
          draft = a.overlay.draft;
          reply = Values a.found.items;
          counts = m.0;
          slots = m.1;
        } in
        planned (heads_in entries) t m.2 es
        (done_last es entries t a.pages.items way.came no_pages a.overlay.draft tree_of a.root way.pages way.come.pages way.come.leads way.early there (subst IsEntry same way.entry) catalog last)

    -- its counts are those that were read, or it takes no slots
    its_counts : (kept : List Head) (t : Tried) → MayBeDone kept r p t
        → t.draft.overlay.fresh ≡ a.overlay.draft.overlay.fresh
        → (t.counts ≡ a.counts.items) ⊎ (t.slots ≡ [])
    its_counts kept t may fresh = by may.counts counts
      where
        by : ((p.counts.now ≡ t.counts) ⊎ ((p.counts.now ≡ []) × (t.slots ≡ [])))
            → HasCounts known a p.counts.now p.slots.now
            → (t.counts ≡ a.counts.items) ⊎ (t.slots ≡ [])
        by (inl are) (inl has) = inl (sym are ∙ has.0)
        by (inl are) (inr has) = inr (no_length t.slots (may.long ∙ fresh ∙ has.1))
        by (inr none) has = inr none.1

    abbrev pub its_done : List ℕ → List Addr → Tried
    its_done counts slots = record {
      name = way.name;
      version = a.version;
      entry = entry;
      steps = all;
      moves = way.moves;
      draft = a.overlay.draft;
      reply = Values a.found.items;
      counts = counts;
      slots = slots;
    }

    pub plan_wanted : (mini : Mini) → DonePlanned r p mini → IsDonePlan r p mini
        → IsPlanWanted known.nodes entries all a (Values a.found.items) mini
    plan_wanted mini planned made =
        let m = by_counts way.name way.admits counts in
        let t = its_done m.0 m.1 in
        let items = made (heads_in entries) t m.2 in
        let read = done_read entries a t way.came way.pages way.come.pages refl there (its_counts (heads_in entries) t m.2 refl) in
        record {
          made = record {
            tried = t;
            is = subst (λ (n : ℕ). IsAttempt (heads_in entries) n t) told.0 m.2.tried.is;
            version = refl;
            entry = there;
            steps = refl;
            reply_is = refl;
            came = way.pages ∙ ap (map seen_as) (sym way.come.pages);
            made = (
              (sym m.2.slots ∙ slots, its_counts (heads_in entries) t m.2 refl),
              items ∙ ap (λ (n : ℕ). done_items n t) told.0,
            );
          };
          does = does_steps mini planned;
          compares = λ n start bytes has.
              of_items (IsReadAt entries a) (done_reads t) (done_writes t) read n start bytes (subst (λ (x : Mini). Contains x.items (Compare n start bytes)) items has);
          nodes_are = ap (λ (x : Mini). x.nodes) items ∙ told.0;
          plan = ap (λ (x : Mini). is_plan x.items) items ∙ items_plan (done_reads t) (done_writes t);
        }

-- the plan of a try whose next step is a Check that is unmet
module _ (nodes : ℕ) (entries : List CatEntry) (all : List Step) (a : Attempt)
    (found : Option (List ℕ)) (unmet : IsUnmet nodes entries all a found) (entry : CatEntry)
    (there : slice_get entries a.version.0 ≡ Some entry) (few : nodes ≤ 8)
    (r : Told) (told : IsTold nodes entry all a r) where
  abbrev pub tree_is : List (Option ℕ)
  tree_is = parents_of (heads_in entries)

  entry_is : unmet.admits.entry ≡ entry
  entry_is = let e = sym unmet.admits.there ∙ there in cc

  low : a.done < length all
  low = slice_get_within all a.done unmet.step unmet.next

  answers : AreAnswered tree_is a.version a.root no_pages unmet.moves 1 [] all (Unmet (a.done + 1) found)
  answers =
      subst (λ (n : ℕ). AreAnswered tree_is a.version a.root no_pages unmet.moves 1 [] all (Unmet n found))
      (let long = length-take-le a.done all (let l = low in omega arith) in omega arith)
      (subst (λ (l : List Step). AreAnswered tree_is a.version a.root no_pages unmet.moves 1 [] l (Unmet (1 + length (take a.done all)) found))
      (sym (split_at all a.done unmet.step unmet.next)) (unmet.ends.answered (drop (a.done + 1) all)))

  abbrev pub its_try : List ℕ → Tried
  its_try name = record {
    name = name;
    version = a.version;
    entry = entry;
    steps = all;
    moves = unmet.moves;
    draft = a.overlay.draft;
    reply = Unmet (a.done + 1) found;
    counts = [];
    slots = [];
  }

  its_unmet : (name : List ℕ) → Admits entries (Tx name all) a.version a.root
      → MayBeUnmet (heads_in entries) r (its_try name)
  its_unmet name admits =
      may_be_unmet nodes entries all a name entry (subst IsEntry entry_is unmet.entry) unmet.early admits there
      (subst (λ (e : CatEntry). e.root ≡ a.root) entry_is unmet.admits.root_is) unmet.right unmet.some unmet.many few r told unmet.moves unmet.came unmet.pages unmet.ends.pages unmet.within unmet.ends.leads
      (a.done + 1) found answers

  pub unmet_wanted : (mini : Mini) → UnmetPlanned r mini → IsUnmetPlan r mini
      → IsPlanWanted nodes entries all a (Unmet (a.done + 1) found) mini
  unmet_wanted mini planned made =
      let t = its_try unmet.name in
      let items = made (heads_in entries) t (its_unmet unmet.name unmet.admits) in
      let read = unmet_read entries a t unmet.came unmet.pages unmet.ends.pages refl there in
      let may = its_unmet unmet.name unmet.admits in
      record {
        made = record {
          tried = t;
          is = subst (λ (n : ℕ). IsAttempt (heads_in entries) n t) told.0 may.tried.is;
          version = refl;
          entry = there;
          steps = refl;
          reply_is = refl;
          came = unmet.pages ∙ ap (map seen_as) (sym unmet.ends.pages);
          made = items ∙ ap (λ (n : ℕ). unmet_items n t) told.0;
        };
        does = λ name es admits catalog last.
            planned (heads_in entries) (its_try name) (its_unmet name admits) es
            (unmet_last es entries (its_try name) a.pages.items unmet.came no_pages a.overlay.draft tree_is a.root unmet.pages unmet.ends.pages unmet.ends.leads unmet.early there (subst IsEntry entry_is unmet.entry) catalog last);
        compares = λ n start bytes has.
            of_reads (IsReadAt entries a) (unmet_reads t) read n start bytes (subst (λ (x : Mini). Contains x.items (Compare n start bytes)) items has);
        nodes_are = ap (λ (x : Mini). x.nodes) items ∙ told.0;
        plan = ap (λ (x : Mini). is_plan x.items) items ∙ reads_plan (unmet_reads t);
      }

-- Causes

-- by the catalog that there is
pub with_catalog : (o : Option (List CatEntry)) (P Q : List CatEntry → Type 0) → MatchOption o ⊥ P
    → ((entries : List CatEntry) → o ≡ Some entries → P entries → Q entries) → MatchOption o ⊥ Q
with_catalog None P Q told on = absurd told
with_catalog (Some entries) P Q told on = on entries refl told

-- by the catalog that was found
pub of_kept : (o : Option (List CatEntry)) (entries : List CatEntry) (P : List CatEntry → Type 0)
    → o ≡ Some entries → MatchOption o ⊥ P → P entries
of_kept o entries P is told = subst (λ (x : Option (List CatEntry)). MatchOption x ⊥ P) is told

pub to_kept : (o : Option (List CatEntry)) (entries : List CatEntry) (P : List CatEntry → Type 0)
    → o ≡ Some entries → P entries → MatchOption o ⊥ P
to_kept o entries P is told = subst (λ (x : Option (List CatEntry)). MatchOption x ⊥ P) (sym is) told

-- a fault that was found is the cause
pub cause_is : (known : Known) (later : Bool) (all : List Step) (a : Attempt) (step : Step)
    (entries : List CatEntry) (busy : Busy) → IsNextStep all a step → known.catalog ≡ Some entries
    → IsFault known later a (step_key step) (Some busy)
    → (later ≡ true) × IsCause known.nodes entries all a busy
cause_is known later all a step entries busy next is fault = (
  fault.0,
  record {
    step = step;
    next = next;
    met = subst (λ (o : Option (List CatEntry)). MatchOption o ⊥ (λ es. FaultIsMet known.nodes es a.version (step_key step) a.root a.pages.items (Some busy))) is fault.1;
  },
)

pub takes_none : (known : Known) (later : Bool) (all : List Step) (a : Attempt) (step : Step)
    (entries : List CatEntry) (cause : Option Busy) → IsNextStep all a step → known.catalog ≡ Some entries
    → IsFault known later a (step_key step) cause
    → TakesNone known.nodes entries later all a (Taken.Fails cause)
takes_none known later all a step entries None next is fault = tt
takes_none known later all a step entries (Some busy) next is fault = cause_is known later all a step entries busy next is fault

pub takes_bad : (known : Known) (later : Bool) (all : List Step) (before a : Attempt) (addr : Addr) (page : Page) (step : Step)
    (entries : List CatEntry) (cause : Option Busy) → IsNextStep all a step → known.catalog ≡ Some entries
    → fits before.overlay page ≡ false → IsFault known later a (step_key step) cause
    → TakesPage known.nodes entries later all before addr page a (Taken.Fails cause)
takes_bad known later all before a addr page step entries None next is off fault = off
takes_bad known later all before a addr page step entries (Some busy) next is off fault =
    let c = cause_is known later all a step entries busy next is fault in (off, c.0, c.1)

-- a step that is stuck
pub stuck_fails : (known : Known) (later : Bool) (all : List Step) (a : Attempt) (step : Step)
    (entries : List CatEntry) (cause : Option Busy) → IsNextStep all a step → known.catalog ≡ Some entries
    → IsStuck known.nodes all a → IsFault known later a (step_key step) cause
    → WantsBy known.nodes entries later all a (Next.Fails cause)
stuck_fails known later all a step entries None next is stuck fault = inl (inl stuck)
stuck_fails known later all a step entries (Some busy) next is stuck fault =
    let c = cause_is known later all a step entries busy next is fault in (c.0, stuck, c.1)

-- a page at a place of a list is the one that an index finds
pub at_index : {X : Type 0} (xs : List X) (i : ℕ) (x y d : X) → slice_get xs i ≡ Some x
    → y ≡ get_or xs i d → y ≡ x
at_index [] i x y d at is = absurd cc
at_index (z ∷ xs) zero x y d at is = let e : z ≡ x = cc in is ∙ e
at_index (z ∷ xs) (suc i) x y d at is = at_index xs i x y d at is

-- What was read

-- bytes that spell no page
pub none_read : (known : Known) (later : Bool) (all : List Step) (before after : Attempt) (addr : Addr)
    (bytes : List ℕ) (cause : Option Busy) (step : Step) (key : List ℕ) → IsOnItsWay known all before
    → IsNextStep all after step → key ≡ step_key step → SpellsNone bytes
    → HasCome before addr bytes false after → IsFault known later after key cause
    → TakesRead known later all before addr bytes after (Taken.Fails cause)
none_read known later all before after addr bytes cause step key way next is none come fault =
    with_catalog known.catalog (λ es. IsUnderWay known.nodes es all before)
    (λ es. TakesBytes known.nodes es later all before addr bytes after (Taken.Fails cause)) way
    (λ entries at its.
    inl (none, come, takes_none known later all after step entries cause next at (subst (λ (k : List ℕ). IsFault known later after k cause) is fault)))

-- a page at which the step goes on
pub page_read : (known : Known) (later : Bool) (all : List Step) (before after : Attempt) (addr : Addr)
    (bytes : List ℕ) (page : Page) → IsOnItsWay known all before → SpellsPage bytes page
    → ComesIn before addr page after true
    → TakesRead known later all before addr bytes after Taken.GoesOn
page_read known later all before after addr bytes page way spells comes =
    with_catalog known.catalog (λ es. IsUnderWay known.nodes es all before)
    (λ es. TakesBytes known.nodes es later all before addr bytes after Taken.GoesOn) way
    (λ entries at its.
    inr (page, spells, subst (λ (b : List ℕ). HasCome before addr b (nat_eq (height_of page.body) 0) after) (sym spells.1) comes.0, (comes.1, comes.2 refl)))

-- and one at fault
pub page_off : (known : Known) (later : Bool) (all : List Step) (before after : Attempt) (addr : Addr)
    (bytes : List ℕ) (page : Page) (cause : Option Busy) (step : Step) (key : List ℕ)
    → IsOnItsWay known all before → IsNextStep all after step → key ≡ step_key step
    → SpellsPage bytes page → ComesIn before addr page after false → IsFault known later after key cause
    → TakesRead known later all before addr bytes after (Taken.Fails cause)
page_off known later all before after addr bytes page cause step key way next is spells comes fault =
    with_catalog known.catalog (λ es. IsUnderWay known.nodes es all before)
    (λ es. TakesBytes known.nodes es later all before addr bytes after (Taken.Fails cause)) way
    (λ entries at its.
    inr (
      page,
      spells,
      subst (λ (b : List ℕ). HasCome before addr b (nat_eq (height_of page.body) 0) after) (sym spells.1) comes.0,
      takes_bad known later all before after addr page step entries cause next at comes.1 (subst (λ (k : List ℕ). IsFault known later after k cause) is fault),
    ))

-- the same by what was kept before
pub fault_kept : (known new : Known) (later : Bool) (a : Attempt) (key : List ℕ) (cause : Option Busy)
    → KeepsKnown known new → IsFault new later a key cause → IsFault known later a key cause
fault_kept known new later a key None keeps fault = tt
fault_kept known new later a key (Some busy) keeps fault = (
  fault.0,
  subst (λ (n : ℕ). MatchOption known.catalog ⊥ (λ es. FaultIsMet n es a.version key a.root a.pages.items (Some busy))) keeps.0
      (subst (λ (o : Option (List CatEntry)). MatchOption o ⊥ (λ es. FaultIsMet new.nodes es a.version key a.root a.pages.items (Some busy))) keeps.1 fault.1),
)

-- What became of a step

-- it is stuck
pub stuck_may : (known : Known) (later : Bool) (all : List Step) (a : Attempt) → IsOnItsWay known all a
    → IsStuck known.nodes all a → MayFail known later all a
stuck_may known later all a way stuck = λ step cause next fault.
    with_catalog known.catalog (λ es. IsUnderWay known.nodes es all a)
    (λ es. WantsBy known.nodes es later all a (Next.Fails cause)) way
    (λ entries at its. stuck_fails known later all a step entries cause next at stuck fault)

-- a first try fails by a kept page, without a cause
untold : (known : Known) (entries : List CatEntry) (all : List Step) (a : Attempt) (key : List ℕ) (cause : Option Busy)
    → IsUnfit all a → IsFault known false a key cause → WantsBy known.nodes entries false all a (Next.Fails cause)
untold known entries all a key None unfit fault = inr (refl, inl unfit)
untold known entries all a key (Some busy) unfit fault = let off = fault.0 in absurd cc

pub is_unfit : (all : List Step) (before after : Attempt) (addr : Addr) (page : Page) → Asks all before addr
    → KeepsSteps before after → ComesIn before addr page after false → IsUnfit all after
is_unfit all before after addr page asks keeps comes = record {
  step = asks.step;
  next = subst (λ (n : ℕ). slice_get all n ≡ Some asks.step) (sym keeps.2) asks.next;
  addr = addr;
  need = subst (λ (s : TreeState). (stepped s asks.step).answer ≡ steps.Need addr) (sym (comes.3 refl)) asks.answer;
  page = page;
  unfit = subst (λ (s : TreeState). fits s page ≡ false) (sym (comes.3 refl)) comes.1;
  older = before.pages.items;
  leaf = nat_eq (height_of page.body) 0;
  last = comes.0;
}

has_all : (known : Known) (all : List Step) (a : Attempt) (counts : List ℕ) (slots : List Addr)
    → a.done ≡ length all → HasCounts known a counts slots → HasAll known.nodes all a
has_all known all a counts slots done (inl (read, long, enough)) = (done, λ some. sym (ap length read) ∙ long)
has_all known all a counts slots done (inr (none, zero_need)) = (done, λ some. absurd (omega (arith, zero_need)))

-- a page was read at a slot that is free
pub slot_fails : (known : Known) (all : List Step) (a : Attempt) (later : Bool) (counts : List ℕ) (slots : List Addr)
    → IsOnItsWay known all a → a.done ≡ length all → HasCounts known a counts slots
    → slots ≡ new_slots a.overlay.draft.overlay.fresh a.counts.items → was_read a.pages.items slots ≡ true
    → WantsNext known later all a (Next.Fails None)
slot_fails known all a later counts slots way done has are read =
    with_catalog known.catalog (λ es. IsUnderWay known.nodes es all a)
    (λ es. WantsBy known.nodes es later all a (Next.Fails None)) way
    (λ entries at its. inl (inr (has_all known all a counts slots done has, subst (λ (l : List Addr). was_read a.pages.items l ≡ true) are read)))

all_counted : (known : Known) (entries : List CatEntry) (all : List Step) (a : Attempt)
    → IsUnderWay known.nodes entries all a → a.done ≡ length all → known.nodes ≤ length a.counts.items
    → HasAll known.nodes all a
all_counted known entries all a way done read = (done, λ some. (let few = way.few in omega arith))

-- there are too few slots
pub full_wants : (known : Known) (all : List Step) (a : Attempt) (later : Bool) (need free : ℕ)
    → IsOnItsWay known all a → a.done ≡ length all → known.nodes ≤ length a.counts.items
    → IsShort a need free → WantsNext known later all a (full_by later need free)
full_wants known all a true need free way done read short =
    with_catalog known.catalog (λ es. IsUnderWay known.nodes es all a)
    (λ es. WantsBy known.nodes es true all a (Next.Answers (answer.Full need free))) way
    (λ entries at its. (refl, all_counted known entries all a its done read, short))
full_wants known all a false need free way done read short =
    with_catalog known.catalog (λ es. IsUnderWay known.nodes es all a)
    (λ es. WantsBy known.nodes es false all a (Next.Fails None)) way
    (λ entries at its. inr (refl, inr (all_counted known entries all a its done read, (answer.Full need free, short))))

pub unfit_may : (known new : Known) (all : List Step) (before a : Attempt) → KeepsKnown known new
    → IsOnItsWay known all before → IsUnfit all a → MayFail new false all a
unfit_may known new all before a keeps way unfit = λ step cause next fault.
    with_catalog new.catalog (λ es. IsUnderWay known.nodes es all before)
    (λ es. WantsBy new.nodes es false all a (Next.Fails cause))
    (subst (λ (o : Option (List CatEntry)). MatchOption o ⊥ (λ es. IsUnderWay known.nodes es all before)) (sym keeps.1) way)
    (λ entries at its. untold new entries all a (step_key step) cause unfit fault)

-- it has asked for a page
pub asks_for : (all : List Step) (before after : Attempt) (step : Step) (addr : Addr)
    → IsNextStep all after step → (stepped before.overlay step).answer ≡ steps.Need addr
    → after.overlay ≡ (stepped before.overlay step).state → IsWanted after.overlay addr
    → Asks all after addr
asks_for all before after step addr next need state wanted =
    let again : stepped after.overlay step ≡ stepped before.overlay step = ap (λ (s : TreeState). stepped s step) state ∙ asked_again before.overlay step addr need in
    record {
      step = step;
      next = next;
      answer = ap (λ (t : Stepping). t.answer) again ∙ need;
      state = ap (λ (t : Stepping). t.state) again ∙ sym state;
      wanted = wanted;
    }

-- it has met a bad page
pub stuck_at : (nodes : ℕ) (all : List Step) (before after : Attempt) (step : Step) (addr : Addr)
    → IsNextStep all after step → (stepped before.overlay step).answer ≡ steps.BadPath addr
    → after.overlay ≡ (stepped before.overlay step).state → IsStuck nodes all after
stuck_at nodes all before after step addr next bad state =
    let again : stepped after.overlay step ≡ stepped before.overlay step = ap (λ (s : TreeState). stepped s step) state ∙ bad_again before.overlay step addr bad in
    record { step = step; next = next; addr = addr; met = inl (ap (λ (t : Stepping). t.answer) again ∙ bad) }

-- by the kept catalog, which stays
pub on_its_way : (known : Known) (all : List Step) (before after : Attempt)
    → ((entries : List CatEntry) → IsUnderWay known.nodes entries all before → IsUnderWay known.nodes entries all after)
    → IsOnItsWay known all before → IsOnItsWay known all after
on_its_way known all before after on way =
    by_kept known known all (refl, refl, λ are. are) before after (λ entries is its. on entries its) way

pub has_unmet : (known : Known) (all : List Step) (before after : Attempt) (found : Option (List ℕ))
    → ((entries : List CatEntry) → IsUnderWay known.nodes entries all before → IsUnmet known.nodes entries all after found)
    → IsOnItsWay known all before → HasUnmet known all after found
has_unmet known all before after found on way =
    with_catalog known.catalog (λ es. IsUnderWay known.nodes es all before)
    (λ es. IsUnmet known.nodes es all after found) way (λ entries is its. on entries its)

-- it may be planned where its next step is an unmet Check
pub unmet_may : (nodes : ℕ) (entries : List CatEntry) (all : List Step) (a : Attempt)
    (found : Option (List ℕ)) (unmet : IsUnmet nodes entries all a found) (entry : CatEntry)
    (there : slice_get entries a.version.0 ≡ Some entry) (few : nodes ≤ 8) (r : Told)
    → IsTold nodes entry all a r
    → (kept : List Head) × (t : Tried) × MayBeUnmet kept r t
unmet_may nodes entries all a found unmet entry there few r told = (
  heads_in entries,
  _,
  may_be_unmet nodes entries all a unmet.name entry (subst IsEntry same unmet.entry) unmet.early unmet.admits there
      (subst (λ (e : CatEntry). e.root ≡ a.root) same unmet.admits.root_is) unmet.right unmet.some unmet.many few r told unmet.moves unmet.came unmet.pages unmet.ends.pages unmet.within unmet.ends.leads
      (a.done + 1) found (answers nodes entries all a found unmet entry there few r told),
)
  where
    same : unmet.admits.entry ≡ entry
    same = let e = sym unmet.admits.there ∙ there in cc

-- what it has found aside
pub wanted_kept : (nodes : ℕ) (entries : List CatEntry) (all : List Step) (a b : Attempt) (reply : Reply)
    (mini : Mini) → SameButFound a b → IsPlanWanted nodes entries all a reply mini
    → IsPlanWanted nodes entries all b reply mini
wanted_kept nodes entries all a b reply mini same wanted = record {
  made = record {
    tried = wanted.made.tried;
    is = wanted.made.is;
    version = wanted.made.version ∙ sym same.0.0;
    entry = subst (λ (v : VersionNo). slice_get entries v.0 ≡ Some wanted.made.tried.entry) (sym same.0.0) wanted.made.entry;
    steps = wanted.made.steps;
    reply_is = wanted.made.reply_is;
    came = ap (λ (v : Vec SeenPage Global). v.items) same.2 ∙ wanted.made.came;
    made = made_kept reply wanted.made.made;
  };
  does = λ name es admits catalog last.
      wanted.does name es (admits_after entries (Tx name all) b a (sym same.0.0, sym same.0.1) admits) catalog
      (subst (λ (v : Vec SeenPage Global). PagesAreLast es v.items) same.2 last);
  compares = λ n start bytes has. on n start bytes (wanted.compares n start bytes has);
  nodes_are = wanted.nodes_are;
  plan = wanted.plan;
}
  where
    made_kept : (r : Reply) → IsMadeOf nodes a wanted.made.tried r mini → IsMadeOf nodes b wanted.made.tried r mini
    made_kept (Values found) made =
        (subst (λ (v : Vec ℕ Global). (wanted.made.tried.slots ≡ new_slots wanted.made.tried.draft.overlay.fresh v.items) × ((wanted.made.tried.counts ≡ v.items) ⊎ (wanted.made.tried.slots ≡ []))) (sym same.3) made.0, made.1)
    made_kept (Unmet step found) made = made
    made_kept other made = absurd made

    on : (n : NodeNo) (start : ℕ) (bytes : List ℕ) → IsReadAt entries a n start bytes
        → IsReadAt entries b n start bytes
    on n start bytes (inl read) =
        inl (record {
          page = read.page;
          among = subst (λ (v : Vec SeenPage Global). Contains v.items read.page) (sym same.2) read.among;
          node_is = read.node_is;
          start_is = read.start_is;
          bytes_are = read.bytes_are;
        })
    on n start bytes (inr (inl read)) =
        inr (inl (record {
          entry = read.entry;
          there = subst (λ (v : VersionNo). slice_get entries v.0 ≡ Some read.entry) (sym same.0.0) read.there;
          start_is = ap (λ (v : VersionNo). entry_start v.0) same.0.0 ∙ read.start_is;
          bytes_are = read.bytes_are;
        }))
    on n start bytes (inr (inr read)) =
        inr (inr (record {
          count = read.count;
          there = subst (λ (v : Vec ℕ Global). slice_get v.items n.0 ≡ Some read.count) (sym same.3) read.there;
          start_is = read.start_is;
          bytes_are = read.bytes_are;
        }))

-- what it wants where a page is worn
pub worn_way : (known : Known) (all : List Step) (a : Attempt) (later : Bool) (node : NodeNo) (start : ℕ)
    → IsOnItsWay known all a → StaysOnItsWay known all a (worn_by later node start)
worn_way known all a true node start way = way
worn_way known all a false node start way = tt

enough_slots : (known : Known) (a : Attempt) (counts : List ℕ) (slots : List Addr)
    → HasCounts known a counts slots → 1 ≤ a.overlay.draft.overlay.fresh
    → a.overlay.draft.overlay.fresh ≤ free_slots a.counts.items
enough_slots known a counts slots (inl (read, long, enough)) some =
    subst (λ (l : List ℕ). a.overlay.draft.overlay.fresh ≤ free_slots l) read enough
enough_slots known a counts slots (inr (none, zero_need)) some = absurd (omega (arith, zero_need))

pub worn_wants : (known : Known) (all : List Step) (a : Attempt) (counts : List ℕ) (slots : List Addr)
    (later : Bool) (node : NodeNo) (start : ℕ) (kept : List CatEntry) → known.catalog ≡ Some kept
    → IsOnItsWay known all a → a.done ≡ length all → HasCounts known a counts slots
    → ((way : IsUnderWay known.nodes kept all a) → IsWornPage (tried known.nodes kept all a way) node start)
    → WantsNext known later all a (worn_by later node start)
worn_wants known all a counts slots true node start kept at way done has worn =
    to_kept known.catalog kept (λ es. WantsBy known.nodes es true all a (Next.Answers (answer.Worn node start))) at
    (refl, has_all known all a counts slots done has, (enough_slots known a counts slots has, worn))
worn_wants known all a counts slots false node start kept at way done has worn =
    to_kept known.catalog kept (λ es. WantsBy known.nodes es false all a (Next.Fails None)) at
    (inr (refl, inr (has_all known all a counts slots done has, (answer.Worn node start, (enough_slots known a counts slots has, worn)))))

-- Runs of steps

-- so far
pub record RunsSo (before now : Known) (later : Bool) (all : List Step) (a b : Attempt) : Type 0 where
  pub kept : KeepsKnown before now
  pub cached : ArePages now.cache
  pub stays : KeepsVersion a b
  pub counts : b.counts ≡ a.counts
  pub same : later ≡ true → b.pages ≡ a.pages
  pub way : IsOnItsWay now all b

pub runs_on : (k1 k2 k3 : Known) (later : Bool) (all : List Step) (a b c : Attempt)
    → RunsSo k1 k2 later all a b → KeepsKnown k2 k3 → KeepsVersion b c → c.counts ≡ b.counts
    → (later ≡ true → c.pages ≡ b.pages) → IsOnItsWay k3 all c → RunsSo k1 k3 later all a c
runs_on k1 k2 k3 later all a b c so kept stays counts same way = record {
  kept = (kept.0 ∙ so.kept.0, kept.1 ∙ so.kept.1, λ are. kept.2 (so.kept.2 are));
  cached = kept.2 so.cached;
  stays = (stays.0 ∙ so.stays.0, stays.1 ∙ so.stays.1);
  counts = counts ∙ so.counts;
  same = λ l. same l ∙ so.same l;
  way = way;
}

-- What was shown last

-- where no page came in
pub same_last : (pages : List (Addr × Page)) (a b : Attempt) → b.pages ≡ a.pages → StaysLast pages a b
same_last pages a b same es cached last = subst (λ (v : Vec SeenPage Global). PagesAreLast es v.items) (sym same) last

-- where one did that is cached
pub comes_last : (pages : List (Addr × Page)) (a b : Attempt) (addr : Addr) (page : Page) (goes : Bool)
    → page_at addr pages ≡ Some page → ComesIn a addr page b goes → StaysLast pages a b
comes_last pages a b addr page goes at comes es cached last =
    subst (PagesAreLast es) (sym comes.0)
    (all_append (λ p. IsLast es (page_place p.addr) p.bytes) a.pages.items _ last (found_last es addr pages page cached at, tt))

-- where the rest of a call brought none
pub ends_last : {T : Type 0} (result : Result T NoMemory) (pages : List (Addr × Page)) (a b c : Attempt)
    → StaysLast pages a b → c.pages ≡ b.pages → OnOk result (StaysLast pages a c)
ends_last result pages a b c stays same =
    on_any result (StaysLast pages a c) (λ es cached last. same_last pages b c same es cached (stays es cached last))

-- one after another
pub then_last : (before middle : List (Addr × Page)) (a b c : Attempt) → AreUsed before middle
    → StaysLast before a b → StaysLast middle b c → StaysLast before a c
then_last before middle a b c used first second es cached last =
    second es (used_last es before middle used cached) (first es cached last)

-- no page comes in with other bytes
read_so : (came : List Held) (x : Addr) (q : Page) → held_at came x ≡ Some q → (hs : List Held)
    → AllByRecursion (λ h. held_at came h.addr ≡ Some h.page) hs
    → AreReadAs x (page_bytes q) (map seen_as hs)
read_so came x q at [] all = tt
read_so came x q at (h ∷ hs) all = (
  λ same.
      let there : Some h.page ≡ Some q = sym all.0 ∙ (ap (λ (y : Addr). held_at came y) same ∙ at) in
      let is : h.page ≡ q = cc in
      ap page_bytes is,
  read_so came x q at hs all.1,
)

some_way : (o : Option (List CatEntry)) (P : List CatEntry → Type 0) (Q : Type 0)
    → MatchOption o ⊥ P → ((entries : List CatEntry) → P entries → Q) → Q
some_way None P Q told on = absurd told
some_way (Some entries) P Q told on = on entries told

last_in : {X : Type 0} (xs : List X) (x : X) → Contains (xs ++ x ∷ []) x
last_in [] x = (0, omega arith, refl)
last_in (y ∷ xs) x = let rest = last_in xs x in (suc rest.0, (let l = rest.1 in omega arith), rest.2)

pub read_as : (known : Known) (all : List Step) (before after : Attempt) (addr : Addr) (page : Page)
    (leaf : Bool) → MovesComeOnce → HasCome before addr (page_bytes page) leaf after
    → IsOnItsWay known all after → AreReadAs addr (page_bytes page) after.pages.items
read_as known all before after addr page leaf once come way =
    some_way known.catalog (λ entries. IsUnderWay known.nodes entries all after) _ way by
  where
    by : (entries : List CatEntry) → IsUnderWay known.nodes entries all after
        → AreReadAs addr (page_bytes page) after.pages.items
    by entries w =
        let one = once (parents_of (heads_in entries)) after.version after.root w.moves after.overlay.draft w.come.leads in
        let all_are : AllByRecursion (λ h. held_at w.came h.addr ≡ Some h.page) w.came =
        subst (λ (l : List Held). AllByRecursion (λ h. held_at l h.addr ≡ Some h.page) l) w.come.pages one in
        let new : SeenPage = record { addr = addr; bytes = page_bytes page; leaf = leaf } in
        let among : Contains (map seen_as w.came) new = subst (λ (l : List SeenPage). Contains l new) (sym come ∙ w.pages) (last_in before.pages.items new) in
        let from = mapped_back seen_as w.came new among in
        let there : held_at w.came from.0.addr ≡ Some from.0.page = all_there (λ h. held_at w.came h.addr ≡ Some h.page) w.came from.0 all_are from.1 in
        let addrs : from.0.addr ≡ addr = ap (λ (p : SeenPage). p.addr) from.2 in
        let bytes : page_bytes from.0.page ≡ page_bytes page = ap (λ (p : SeenPage). p.bytes) from.2 in
        subst (AreReadAs addr (page_bytes page)) (sym w.pages)
        (subst (λ (b : List ℕ). AreReadAs addr b (map seen_as w.came)) bytes
        (read_so w.came addr from.0.page (ap (λ (y : Addr). held_at w.came y) (sym addrs) ∙ there) w.came all_are))
