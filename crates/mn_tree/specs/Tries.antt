-- The laws of a try that is made move by move: each page that comes in and each step that is done
-- follows the moves before it.
use Rattle.std.specs.Prelude.{ℕ, ◌≡◌, ◌+◌, ◌<◌, ◌≤◌, true, false, List, [], ◌∷◌, ◌++◌, length}
use Rattle.std.specs.Prelude.{Option, Some, None}
use Rattle.std.specs.List.{AllByRecursion}
use Rattle.mn_base.specs.Store.{is_unmet, step_key, noted_by}
use Rattle.mn_base.specs.declared.ids.Addr.{Addr}
use Rattle.mn_base.specs.declared.ids.VersionNo.{VersionNo}
use Rattle.mn_base.specs.declared.op.Step.{Step}
use Rattle.mn_base.specs.declared.reply.Reply.TheVariants as reply
use Rattle.mn_page.specs.declared.page.Page.{Page}
use Rattle.mn_page.specs.Grammar.{IsPage, IsAddr, count_in}
use Rattle.mn_page.specs.Overlay.{Held, held_at, path_pairs}
use Rattle.mn_tree.specs.declared.stepped.Stepped.{Stepped}
use Rattle.mn_tree.specs.declared.stepped.Stepped.TheVariants as answer
use Rattle.mn_tree.specs.Walk.{Reached, walk}
use Rattle.mn_tree.specs.State.{Drafted, TreeState, drafted_with, drafted_after, no_pages, fits}
use Rattle.mn_tree.specs.State.{with_page, stepped}
use Rattle.mn_tree.specs.Order.{placed}
use Rattle.mn_tree.specs.Moves.{Move, Comes, Does, MayCome, LeadsTo, comes_in, done_in, AreAnswered}
use Rattle.mn_tree.specs.Moves.{came_at}
use Rattle.mn_tree.specs.MoveLaws.{IsStep}

-- Moves one by one

-- the Checks among the steps that are done are met; this was found before, and that is found behind
-- them
abbrev pub HaveFound : List (Option ℕ) → VersionNo → Addr → Drafted → List Move
    → List (Option (List ℕ)) → List (Option (List ℕ)) → Type 0
HaveFound parents v root d [] before found = before ≡ found
HaveFound parents v root d (Comes h ∷ moves) before found =
    HaveFound parents v root (drafted_with d h.addr h.page) moves before found
HaveFound parents v root d (Does step ∷ moves) before found =
    (path : List Held) → walk parents v.0 d.overlay.pages root (step_key step) ≡ Reached path
    → (is_unmet (path_pairs path) step ≡ false)
    × HaveFound parents v root (drafted_after v d step path) moves
    (before ++ noted_by (path_pairs path) step) found

-- a try so far: its moves lead to the draft; these pages came in, these steps are done, and have
-- found this
pub record ComeTo (parents : List (Option ℕ)) (v : VersionNo) (root : Addr) (moves : List Move)
    (d : Drafted) (came : List Held) (done : List Step) (found : List (Option (List ℕ)))
    : Type 0 where
  pub leads : LeadsTo parents v root no_pages moves d
  pub have : HaveFound parents v root no_pages moves [] found
  pub pages : comes_in moves ≡ came
  pub steps : done_in moves ≡ done

-- a try that ends with an unmet Check, whatever steps were to follow
pub record EndsUnmet (parents : List (Option ℕ)) (v : VersionNo) (root : Addr) (moves : List Move)
    (d : Drafted) (came : List Held) (done : List Step) (step : Step) (x : Option (List ℕ))
    : Type 0 where
  pub leads : LeadsTo parents v root no_pages moves d
  pub answered : (later : List Step)
      → AreAnswered parents v root no_pages moves 1 [] (done ++ step ∷ later)
      (reply.Unmet (1 + length done) x)
  pub pages : comes_in moves ≡ came

-- a page may come in next
abbrev pub MovesTakePages : Type 0
MovesTakePages =
    (parents : List (Option ℕ)) (v : VersionNo) (root : Addr) (moves : List Move) (d : Drafted)
    (came : List Held) (done : List Step) (found : List (Option (List ℕ))) (h : Held)
    → ComeTo parents v root moves d came done found → MayCome parents v d h
    → ComeTo parents v root (moves ++ Comes h ∷ []) (drafted_with d h.addr h.page)
    (came ++ h ∷ []) done found

-- how a try goes on with a step, by the step's answer and the draft that it leaves
abbrev pub TryGoesOn : TreeState → Step → List Move → List Held → List Step → List (Option (List ℕ))
    → Drafted → Stepped → Type 0
TryGoesOn s step moves came done found d (answer.Need addr) = d ≡ s.draft
TryGoesOn s step moves came done found d (answer.BadPath addr) = d ≡ s.draft
TryGoesOn s step moves came done found d (answer.Found value) =
    ComeTo s.parents s.version s.root (moves ++ Does step ∷ []) d came (done ++ step ∷ [])
    (found ++ value ∷ [])
TryGoesOn s step moves came done found d answer.Changed =
    ComeTo s.parents s.version s.root (moves ++ Does step ∷ []) d came (done ++ step ∷ []) found
TryGoesOn s step moves came done found d answer.Same =
    ComeTo s.parents s.version s.root (moves ++ Does step ∷ []) d came (done ++ step ∷ []) found
TryGoesOn s step moves came done found d (answer.Unmet x) =
    EndsUnmet s.parents s.version s.root (moves ++ Does step ∷ []) d came done step x

abbrev pub MovesTakeSteps : Type 0
MovesTakeSteps =
    (s : TreeState) (step : Step) (moves : List Move) (came : List Held) (done : List Step)
    (found : List (Option (List ℕ)))
    → ComeTo s.parents s.version s.root moves s.draft came done found
    → TryGoesOn s step moves came done found (stepped s step).state.draft (stepped s step).answer

-- where all steps are done, what they have found is the answer
abbrev pub MovesAreMet : Type 0
MovesAreMet =
    (parents : List (Option ℕ)) (v : VersionNo) (root : Addr) (moves : List Move) (d : Drafted)
    (came : List Held) (done : List Step) (found : List (Option (List ℕ)))
    → ComeTo parents v root moves d came done found
    → AreAnswered parents v root no_pages moves 1 [] done (reply.Values found)

-- What a step asks for

-- the page that a step needs isn't held
abbrev pub NeedsAreAbsent : Type 0
NeedsAreAbsent =
    (s : TreeState) (step : Step) (addr : Addr) → (stepped s step).answer ≡ answer.Need addr
    → held_at s.draft.overlay.pages addr ≡ None

-- it stands in a slot, where the root does
abbrev pub NeedsAreSlots : Type 0
NeedsAreSlots =
    (s : TreeState) (step : Step) (moves : List Move) (addr : Addr) → s.version.0 < 64
    → IsAddr s.root → AllByRecursion IsStep (done_in moves)
    → LeadsTo s.parents s.version s.root no_pages moves s.draft
    → (stepped s step).answer ≡ answer.Need addr
    → IsAddr addr

-- and so, where it fits, it may come in
abbrev pub NeedsMayCome : Type 0
NeedsMayCome =
    (s : TreeState) (step : Step) (h : Held) → (stepped s step).answer ≡ answer.Need h.addr
    → fits (stepped s step).state h.page ≡ true → IsPage h.page → IsAddr h.addr
    → MayCome s.parents s.version s.draft h
    × ((with_page (stepped s step).state h.addr h.page).draft ≡ drafted_with s.draft h.addr h.page)

-- the page at fault was read at the address that a step names
abbrev pub BadPathsCame : Type 0
BadPathsCame =
    (s : TreeState) (step : Step) (moves : List Move) (addr : Addr)
    → LeadsTo s.parents s.version s.root no_pages moves s.draft
    → (stepped s step).answer ≡ answer.BadPath addr
    → (page : Page) × (came_at moves addr ≡ Some page)

-- What may be written

-- the pages of a plan are no larger than a slot, whatever pages they were made of
abbrev pub PlacedHaveRoom : Type 0
PlacedHaveRoom =
    (parents : List (Option ℕ)) (v : VersionNo) (root : Addr) (moves : List Move) (d : Drafted)
    (slots : List Addr) → v.0 < 64 → AllByRecursion IsStep (done_in moves)
    → LeadsTo parents v root no_pages moves d
    → AllByRecursion (λ h. (count_in h.1.body ≤ 8) × (length h.1.low ≤ 32)) (placed slots d)
