-- A lone Get at its leaf: it reads the leaf alone, by one call, and what was read ends it.
use Rattle.std.specs.Prelude.{ℕ, ◌≡◌, ◌<◌, true, List, [], ◌∷◌, Option}
use Rattle.std.specs.Prelude.{Some, Result, IfOk}
use Rattle.mn_base.specs.declared.answer.Answer.{Answer}
use Rattle.mn_base.specs.declared.answer.Answer.TheVariants as answers
use Rattle.mn_base.specs.declared.error.NoMemory.{NoMemory}
use Rattle.mn_base.specs.declared.op.Op.{Op}
use Rattle.mn_base.specs.declared.ids.Tid.{Tid}
use Rattle.mn_coord.specs.Coordination.{Coordination, after_step, fed, new_coordination, step_of}
use Rattle.mn_coord.specs.declared.step.CoordStep.TheVariants.{Committed, Send}
use Rattle.mn_mini.specs.declared.part.PartItem.TheVariants as Bare
use Rattle.mn_mini.specs.declared.reply.NodeReply.TheVariants as Say
use Rattle.mn_mini.specs.declared.request.Request.{Request}
use Rattle.mn_mini.specs.declared.request.Request.TheVariants as Ask
use Rattle.mn_page.specs.declared.page.Page.{Page}
use Rattle.mn_page.specs.Grammar.{SpellsPage, height_of}
use Rattle.mn_runs.specs.Seen.{Place}
use Rattle.mn_law.specs.Places.{page_place}
use Rattle.mn_page.specs.declared.entry.CatEntry.{CatEntry}
use Rattle.mn_path.specs.Walk.{front_of}
use Rattle.mn_proxy.specs.declared.errand.Errand.{Errand}
use Rattle.mn_proxy.specs.declared.errand.Purpose.{Purpose}
use Rattle.mn_proxy.specs.declared.errand.Purpose.TheVariants as by
use Rattle.mn_work.specs.declared.get.Descent.{Descent}
use Rattle.mn_work.specs.declared.known.Known.{Known}
use Rattle.mn_proxy.specs.Turn.{Turn}
use Rattle.mn_proxy.specs.Turn as turns
use Rattle.mn_proxy.specs.declared.step.ProxyStep.{ProxyStep}
use Rattle.mn_proxy.specs.declared.step.ProxyStep.TheVariants as steps
use Rattle.mn_work.specs.declared.work.Job.TheVariants as at
use Rattle.mn_work.specs.declared.work.Work.{Work}
use Rattle.mn_work.specs.Descents.{is_on_way, values_at}
use Rattle.mn_work.specs.Paths.{GetsAt}
use Rattle.mn_proxy.specs.Kept.{Issues, read_by}
use Rattle.mn_proxy.specs.State.{ProxyState}
use Rattle.mn_proxy.specs.Turns.{read_mini}

-- it has read its leaf, which serves its version, covers its key, and stands where a leaf may
pub record HasLeaf (known : Known) (w : Work) (read : Option (Purpose × List ℕ)) : Type 0 where
  pub key : List ℕ
  pub d : Descent
  pub gets : GetsAt w key d
  pub bytes : List ℕ
  pub read_is : read ≡ Some (by.Page d.addr, bytes)
  pub page : Page
  pub spells : SpellsPage bytes page
  pub low : height_of page.body ≡ 0
  pub entries : List CatEntry
  pub catalog : known.catalog ≡ Some entries
  pub on : is_on_way entries d key (front_of page) ≡ true

-- the answer that the leaf shows
abbrev pub shown_by : (known : Known) (w : Work) (read : Option (Purpose × List ℕ))
    → HasLeaf known w read → Answer
shown_by known w read leaf = answers.Replied (values_at leaf.page leaf.key)

-- so it is answered
abbrev pub LeafTurns : Known → Work → Option (Purpose × List ℕ) → Result Turn NoMemory → Type 0
LeafTurns known w read result =
    (leaf : HasLeaf known w read)
    → IfOk result (λ turn. turn ≡ turns.Ends (shown_by known w read leaf))

-- the same as a step, by what is on its way
abbrev pub LeafGoes : ProxyState → Result ProxyStep NoMemory → Type 0
LeafGoes p result =
    (w : Work) (errand : Errand) → p.work ≡ Some (w, errand)
    → (leaf : HasLeaf p.known w (read_by errand))
    → IfOk result (λ step. step ≡ steps.Done (shown_by p.known w (read_by errand) leaf))

-- it issues the read of its leaf alone
pub record ReadsLeaf (nodes : ℕ) (op : Op) (leaf : Descent) (turn : Turn) : Type 0 where
  pub w : Work
  pub op_is : w.op ≡ op
  pub job_is : w.job ≡ at.Get leaf
  pub issues : Issues w (by.Page leaf.addr) (read_mini nodes (page_place leaf.addr)) turn

-- the same as a step, and what is on its way then
abbrev pub StepReadsLeaf : ℕ → Op → Descent → ProxyState → ProxyStep → Type 0
StepReadsLeaf nodes op leaf after step =
    (w : Work) × (errand : Errand) × (after.work ≡ Some (w, errand))
    × ReadsLeaf nodes op leaf (turns.Goes step w errand)

-- the Exec of a place
abbrev pub read_request : Tid → Place → Request
read_request tid place = Ask.Exec tid (Bare.Read place.start place.length ∷ [])

-- once it was called, and these bytes were the answer
abbrev pub with_bytes : Tid → Place → Coordination → List ℕ → Coordination
with_bytes tid place c bytes =
    fed (after_step c (Send place.node (read_request tid place))) (Say.Done (bytes ∷ []))

-- the coordinator calls the place's node with one Exec, and once that is Done it is committed, with
-- the bytes as read
pub record IsOneCall (tid : Tid) (place : Place) (c : Coordination) : Type 0 where
  pub calls : step_of c ≡ Send place.node (read_request tid place)
  pub commits : (bytes : List ℕ) → step_of (with_bytes tid place c bytes) ≡ Committed
  pub reads : (bytes : List ℕ) → (with_bytes tid place c bytes).reads ≡ (bytes ∷ []) ∷ []

-- so does each minitransaction that reads a place
abbrev pub ReadsTakeOneCall : Type 0
ReadsTakeOneCall =
    (nodes : ℕ) (place : Place) (tid : Tid) → place.node.0 < nodes
    → IsOneCall tid place (new_coordination tid (read_mini nodes place))
