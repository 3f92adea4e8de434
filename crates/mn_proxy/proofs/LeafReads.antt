-- A lone Get whose path is current reads its leaf alone, which ends it.
use Rattle.std.proofs.Common.{◌≡◌, ℕ, Bool, true, false, List, [], ◌∷◌, Option, Some, sym, subst, ap, ◌∙◌, inl, inr, arith}
use Rattle.std.specs.Prelude.{IfOk, MatchOption, Result, Ok, Err}
use Rattle.mn_base.specs.declared.answer.Answer.{Answer}
use Rattle.mn_base.specs.declared.ids.Addr.{Addr}
use Rattle.mn_base.specs.declared.op.Op.{Op}
use Rattle.mn_base.specs.declared.op.Op.TheVariants.{Tx}
use Rattle.mn_base.specs.declared.op.Step.TheVariants.{Get}
use Rattle.mn_page.specs.declared.entry.CatEntry.{CatEntry}
use Rattle.mn_page.specs.declared.page.Page.{Page}
use Rattle.mn_page.specs.Grammar.{SpellsPage, height_of}
use Rattle.mn_page.proofs.Spelled.{page_spelled_once}
use Rattle.mn_mini.specs.Mini.{Mini}
use Rattle.mn_path.specs.Walk.{front_of}
use Rattle.mn_runs.specs.Seen.{Place}
use Rattle.mn_law.specs.Places.{page_place}
use Rattle.mn_proxy.specs.declared.errand.Errand.{Errand}
use Rattle.mn_proxy.specs.declared.errand.Errand.TheVariants as out
use Rattle.mn_proxy.specs.declared.errand.Purpose.{Purpose}
use Rattle.mn_proxy.specs.declared.errand.Purpose.TheVariants as by
use Rattle.mn_work.specs.declared.next.Taken.{Taken}
use Rattle.mn_proxy.specs.Turn.{Turn}
use Rattle.mn_proxy.specs.Kept.{Issues, Reads, read_by}
use Rattle.mn_proxy.specs.State.{ProxyState}
use Rattle.mn_proxy.specs.Turns.{CameOf, read_mini}
use Rattle.mn_work.specs.declared.get.Descent.{Descent}
use Rattle.mn_work.specs.declared.known.Known.{Known}
use Rattle.mn_work.specs.declared.work.Job.{Job}
use Rattle.mn_work.specs.declared.work.Job.TheVariants as at
use Rattle.mn_work.specs.declared.work.Work.{Work}
use Rattle.mn_work.specs.declared.next.Next.TheVariants as Next
use Rattle.mn_work.specs.Descents.{DescentTakes, TakesLeaf, TakesPage, is_on_way, values_at}
use Rattle.mn_work.specs.Paths.{GetsAt, HasCurrentPath}
use Rattle.mn_proxy.specs.LeafReads.{HasLeaf, ReadsLeaf, shown_by}
use Rattle.mn_work.specs.Walks.{is_later}
use Rattle.mn_work.specs.Works.{JobTakes, new_work}

some_same : (a b : Purpose × List ℕ) → Some a ≡ Some b → a ≡ b
some_same a b e = cc

-- where it was led to its leaf, it issues the read of the leaf alone
pub reads_leaf : {E : Type 0} (result : Result Turn E) (nodes there : ℕ) (op : Op) (leaf : Descent) (w : Work) (addr : Addr) (peek : Bool)
    (place : Place) → w.op ≡ op → w.job ≡ at.Get leaf → Next.Page addr peek ≡ Next.Page leaf.addr false
    → place ≡ page_place addr → there ≡ nodes → IfOk result (Reads peek w (by.Page addr) (read_mini there place))
    → IfOk result (ReadsLeaf nodes op leaf)
reads_leaf (Err e) nodes there op leaf w addr peek place op_is job_is next place_is same reads = tt
reads_leaf (Ok turn) nodes there op leaf w addr peek place op_is job_is next place_is same reads =
    record { w = w; op_is = op_is; job_is = job_is; issues = by_read }
  where
    addr_is : addr ≡ leaf.addr
    addr_is = cc

    peek_is : peek ≡ false
    peek_is = cc

    at_leaf : place ≡ page_place leaf.addr
    at_leaf = place_is ∙ ap page_place addr_is

    by_read : Issues w (by.Page leaf.addr) (read_mini nodes (page_place leaf.addr)) turn
    by_read =
        subst (λ (a : Addr). Issues w (by.Page a) (read_mini nodes (page_place leaf.addr)) turn) addr_is
        (subst (λ (m : Mini). Issues w (by.Page addr) m turn) (ap (λ (n : ℕ). read_mini n place) same ∙ ap (read_mini nodes) at_leaf)
        (subst (λ (b : Bool). Reads b w (by.Page addr) (read_mini there place) turn) peek_is reads))

-- its leaf shows the reply
module _ (known new : Known) (w after : Work) (taken : Taken) (key : List ℕ) (d : Descent) (gets : GetsAt w key d)
    (bytes : List ℕ) (page : Page) (spells : SpellsPage bytes page) (low : height_of page.body ≡ 0) (entries : List CatEntry)
    (catalog : known.catalog ≡ Some entries) (on : is_on_way entries d key (front_of page) ≡ true) where
  leaf_takes : (p : Page) (t : Taken) → p ≡ page → TakesLeaf entries d key p t → t ≡ Taken.Replies (values_at page key)
  leaf_takes p Taken.GoesOn same takes = absurd takes
  leaf_takes p Taken.Leaf same takes = absurd takes
  leaf_takes p (Taken.Replies reply) same takes = ap Taken.Replies (takes.1 ∙ ap (λ (q : Page). values_at q key) same)
  leaf_takes p (Taken.Fails cause) same takes =
      let off : is_on_way entries d key (front_of page) ≡ false = subst (λ (q : Page). is_on_way entries d key (front_of q) ≡ false) same takes.0 in
      let both : true ≡ false = sym on ∙ off in
      absurd cc

  bytes_take : (e : Descent) → DescentTakes entries d key bytes e taken → taken ≡ Taken.Replies (values_at page key)
  bytes_take e (inl (none, fails)) = absurd (none page spells)
  bytes_take e (inr (p, is, takes)) = by takes
    where
      same : p ≡ page
      same = page_spelled_once p page is.0 spells.0 (sym is.1 ∙ spells.1)

      by : TakesPage entries d key p e taken → taken ≡ Taken.Replies (values_at page key)
      by (inl (high, inner)) =
          let same_height : height_of p.body ≡ height_of page.body = ap (λ (q : Page). height_of q.body) same in absurd (omega arith)
      by (inr (flat, leaf)) = leaf_takes p taken same leaf

  job_takes : (later : Bool) (name : List ℕ) (job : Job) → JobTakes known later d.addr bytes (Tx name (Get key ∷ [])) (at.Get d) job taken
      → taken ≡ Taken.Replies (values_at page key)
  job_takes later name (at.Get e) takes =
      bytes_take e (subst (λ (o : Option (List CatEntry)). MatchOption o ⊥ (λ l. DescentTakes l d key bytes e taken)) catalog takes.takes)
  job_takes later name at.Start takes = absurd takes
  job_takes later name (at.Transaction a) takes = absurd takes
  job_takes later name (at.Child c) takes = absurd takes
  job_takes later name (at.Scan s) takes = absurd takes

  page_replies : CameOf known new w after (by.Page d.addr) bytes taken → taken ≡ Taken.Replies (values_at page key)
  page_replies came =
      job_takes (is_later w.failed) gets.name after.job
      (subst (λ (o : Op). JobTakes known (is_later w.failed) d.addr bytes o (at.Get d) after.job taken) gets.op_is
      (subst (λ (j : Job). JobTakes known (is_later w.failed) d.addr bytes w.op j after.job taken) gets.job_is came.2.1))

pub leaf_came : (known new : Known) (w after : Work) (purpose : Purpose) (bytes : List ℕ) (taken : Taken)
    (leaf : HasLeaf known w (Some (purpose, bytes))) → CameOf known new w after purpose bytes taken
    → taken ≡ Taken.Replies (values_at leaf.page leaf.key)
leaf_came known new w after purpose bytes taken leaf came =
    page_replies known new w after taken leaf.key leaf.d leaf.gets leaf.bytes leaf.page leaf.spells leaf.low leaf.entries leaf.catalog leaf.on
    (subst (λ (r : Purpose × List ℕ). CameOf known new w after r.0 r.1 taken) (some_same (purpose, bytes) (by.Page leaf.d.addr, leaf.bytes) leaf.read_is) came)

-- the same under the proxy's own names
pub leaf_next : (q p : ProxyState) → q ≡ p → (before after : Work) (purpose : Purpose) (bytes : List ℕ) (taken : Taken) (new : Known)
    → CameOf q.known new before after purpose bytes taken → (leaf : HasLeaf p.known before (Some (purpose, bytes)))
    → taken ≡ Taken.Replies (values_at leaf.page leaf.key)
leaf_next q p same before after purpose bytes taken new came leaf =
    leaf_came p.known new before after purpose bytes taken leaf
    (subst (λ (x : ProxyState). CameOf x.known new before after purpose bytes taken) same came)

-- Steps

pub pair_same : (a b : Work × Errand) → Some a ≡ Some b → a ≡ b
pair_same a b e = cc

module _ (q p : ProxyState) (same : q ≡ p) (w : Work) (e : Errand) (under : q.work ≡ Some (w, e)) where
  -- what is on its way
  pub under_as : (v : Work) (f : Errand) → p.work ≡ Some (v, f) → (w ≡ v) × (e ≡ f)
  under_as v f is =
      let pairs = pair_same (w, e) (v, f) (sym under ∙ (ap (λ (x : ProxyState). x.work) same ∙ is)) in
      (ap (λ (x : Work × Errand). x.0) pairs, ap (λ (x : Work × Errand). x.1) pairs)

  -- its leaf ends the operation
  pub leaf_ends : (P : Answer → Type 0) → ((leaf : HasLeaf q.known w (read_by e)) → P (shown_by q.known w (read_by e) leaf))
      → (v : Work) (f : Errand) → p.work ≡ Some (v, f)
      → (leaf : HasLeaf p.known v (read_by f)) → P (shown_by p.known v (read_by f) leaf)
  leaf_ends P ends v f is =
      subst (λ (x : ProxyState). (leaf : HasLeaf x.known v (read_by f)) → P (shown_by x.known v (read_by f) leaf)) same
      (subst (λ (g : Errand). (leaf : HasLeaf q.known v (read_by g)) → P (shown_by q.known v (read_by g) leaf)) (under_as v f is).1
      (subst (λ (x : Work). (leaf : HasLeaf q.known x (read_by e)) → P (shown_by q.known x (read_by e) leaf)) (under_as v f is).0 ends))

  -- where its path is current it reads its leaf
  pub path_reads : (P : ℕ → Op → Descent → Type 0)
      → ((op : Op) (leaf : Descent) → w ≡ new_work op → e ≡ out.Nothing → HasCurrentPath q.known op leaf → P q.known.nodes op leaf)
      → (op : Op) (leaf : Descent) → p.work ≡ Some (new_work op, out.Nothing) → HasCurrentPath p.known op leaf
      → P p.known.nodes op leaf
  path_reads P reads op leaf is path =
      let begun = under_as (new_work op) out.Nothing is in
      subst (λ (x : ProxyState). P x.known.nodes op leaf) same
      (reads op leaf begun.0 begun.1 (subst (λ (x : ProxyState). HasCurrentPath x.known op leaf) (sym same) path))
