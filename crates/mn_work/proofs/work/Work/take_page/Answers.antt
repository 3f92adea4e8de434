use Rattle.std.proofs.Common.{◌≡◌, ◌≢◌, ◌<◌, inl, inr, Bool, true, ℕ, List, Option, Some, None, refl, sym, ap, subst, ◌∙◌, Result, Ok, Err, IfOk}
use Rattle.std.specs.Prelude.{MatchOption, ⊤}
use Rattle.std.specs.Option.{option_map}
use Rattle.mn_base.specs.declared.error.NoMemory.{NoMemory}
use Rattle.std.proofs.lemmas.Result.{IfOk-weaker}
use Rattle.mn_base.specs.declared.ids.Addr.{Addr}
use Rattle.mn_base.specs.declared.op.Op.{Op}
use Rattle.mn_base.specs.declared.op.Op.TheVariants.{Tx, Snapshot, Branch, Scan, Versions}
use Rattle.mn_base.specs.declared.ids.VersionNo.{VersionNo}
use Rattle.mn_page.specs.declared.page.Page.{Page}
use Rattle.mn_page.specs.Grammar.{IsPage}
use Rattle.mn_work.specs.declared.attempt.Attempt.{Attempt}
use Rattle.mn_work.specs.declared.child.Child.{Child}
use Rattle.mn_work.specs.Attempts as attempts
use Rattle.mn_work.specs.Children.{IsOnItsWay, KeepsTry, TakesRoot, TakesRootBytes, may_copy, may_copy_by}
use Rattle.mn_work.proofs.Children.{way_to}
use Rattle.mn_base.specs.declared.op.Step.{Step}
use Rattle.mn_page.specs.declared.entry.CatEntry.{CatEntry}
use Rattle.mn_work.specs.declared.get.Descent.{Descent}
use Rattle.mn_work.specs.declared.known.Known.{Known}
use Rattle.mn_work.specs.declared.next.Taken.{Taken}
use Rattle.mn_work.specs.declared.work.Job.{Job}
use Rattle.mn_work.specs.declared.work.Job.TheVariants as at
use Rattle.mn_scan.specs.Scan.{ScanState}
use Rattle.mn_work.specs.Scans.{ScanGoesOn, StaysBefore}
use Rattle.mn_work.specs.Descents.{DescentGoesOn, DescentTakes}
use Rattle.mn_work.specs.Walks.{IsAbove, is_later}
use Rattle.mn_work.specs.Works.{AsksPageFor, ChildTakes, GetTakes, IsJobIn, JobTakes, ScanTakes, StepsTake, lone_key}
use Rattle.mn_work.specs.Cached.{Puts}
use Rattle.mn_work.specs.Knows.{ArePages}
use Rattle.mn_work.proofs.Cached.{kept_without, replaces, without}
use Rattle.mn_work.proofs.Works.{get_asks, read_any}
use Rattle.mn_work.proofs.work.Work.take_page.Goals as goal

takes_by : (o : Option (List CatEntry)) (d : Descent) (key bytes : List ℕ) (e : Descent) (taken : Taken)
    → o ≢ None → ((entries : List CatEntry) → o ≡ Some entries → DescentTakes entries d key bytes e taken)
    → MatchOption o ⊥ (λ entries. DescentTakes entries d key bytes e taken)
takes_by None d key bytes e taken some on = some refl
takes_by (Some entries) d key bytes e taken some on = on entries refl

get_takes : (known : Known) (d e : Descent) (key bytes : List ℕ) (result : Result Taken NoMemory)
    → known.catalog ≢ None → IsAbove e.above → e.version ≡ d.version → DescentGoesOn known.catalog d key bytes e result
    → IfOk result (GetTakes known.catalog key bytes d e)
get_takes known d e key bytes (Ok taken) some above version on =
    record { above = above; version = version; takes = takes_by known.catalog d key bytes e taken some on }
get_takes known d e key bytes (Err error) some above version on = tt

-- a lone Get goes by a kept catalog
get_kept : (known : Known) (op : Op) (job : Job) (name : List ℕ) (steps : List Step) (d : Descent)
    → op ≡ Tx name steps → job ≡ at.Get d → IsJobIn known op job → known.catalog ≢ None
get_kept known op job name steps d is from right =
    (subst (IsJobIn known (Tx name steps)) from (subst (λ (o : Op). IsJobIn known o job) is right)).2

of_get : (known : Known) (later : Bool) (addr : Addr) (bytes : List ℕ) (op : Op) (job : Job) (name : List ℕ)
    (steps : List Step) (d e : Descent) (key : List ℕ) (taken : Taken) → op ≡ Tx name steps → job ≡ at.Get d
    → lone_key steps ≡ Some key → GetTakes known.catalog key bytes d e taken
    → JobTakes known later addr bytes op job (at.Get e) taken
of_get known later addr bytes op job name steps d e key taken is from lone takes =
    subst (λ (o : Op). JobTakes known later addr bytes o job (at.Get e) taken) (sym is)
    (subst (λ (j : Job). JobTakes known later addr bytes (Tx name steps) j (at.Get e) taken) (sym from)
    (subst (λ (k : Option (List ℕ)). MatchOption k ⊥ (λ key. GetTakes known.catalog key bytes d e taken)) (sym lone) takes))

pub returns-in-Some-clause-taken : goal.returns-in-Some-clause-taken
returns-in-Some-clause-taken c =
    let key = c.in-Some.key.now in
    let lone : lone_key c.in-Get-Tx.steps ≡ Some key = sym c.lone_get.ensures ∙ ap (option_map (λ k. k.now)) c.in-Some.is in
    IfOk-weaker c.take_page.result (GetTakes c.args.known.now.catalog key c.args.bytes c.in-Get-Tx.descent c.take_page.new.self) _
    (λ taken takes. (refl, of_get c.args.known.now _ c.args.addr c.args.bytes c.args.self.now.op c.args.self.now.job _ c.in-Get-Tx.steps c.in-Get-Tx.descent c.take_page.new.self key taken (sym c.get.ensures ∙ c.in-Get-Tx.is-1) c.in-Get-Tx.is-0 lone takes))
    (get_takes c.args.known.now c.in-Get-Tx.descent c.take_page.new.self key c.args.bytes c.take_page.result
    (get_kept c.args.known.now c.args.self.now.op c.args.self.now.job _ c.in-Get-Tx.steps c.in-Get-Tx.descent (sym c.get.ensures ∙ c.in-Get-Tx.is-1) c.in-Get-Tx.is-0 c.requires.job)
    c.take_page.ensures.above c.take_page.ensures.version
    c.take_page.ensures.taken)

-- a transaction goes on by the same catalog

steps_take : (known new : Known) (later : Bool) (steps : List Step) (addr : Addr) (bytes : List ℕ) (a b : Attempt)
    (result : Result Taken NoMemory) → new.nodes ≡ known.nodes → new.catalog ≡ known.catalog
    → attempts.KeepsVersion a b → b.counts ≡ a.counts
    → IfOk result (attempts.TakesRead known later steps a addr bytes b)
    → IfOk result (attempts.CameBySteps new steps b) → IfOk result (StepsTake known later steps addr bytes a b)
steps_take known new later steps addr bytes a b (Ok taken) nodes catalog keeps counts takes way =
    record { keeps = keeps; counts = counts; takes = takes; way = came taken way }
  where
    on : attempts.IsOnItsWay new steps b → attempts.IsOnItsWay known steps b
    on w =
        subst (λ (n : ℕ). MatchOption known.catalog ⊥ (λ entries. attempts.IsUnderWay n entries steps b)) nodes
        (subst (λ (o : Option (List CatEntry)). MatchOption o ⊥ (λ entries. attempts.IsUnderWay new.nodes entries steps b)) catalog w)

    came : (t : Taken) → attempts.CameBySteps new steps b t → attempts.CameBySteps known steps b t
    came Taken.GoesOn w = on w
    came Taken.Leaf w = tt
    came (Taken.Replies reply) w = tt
    came (Taken.Fails cause) w = tt
steps_take known new later steps addr bytes a b (Err error) nodes catalog keeps counts takes way = tt

of_steps : (known : Known) (later : Bool) (addr : Addr) (bytes : List ℕ) (op : Op) (job : Job) (name : List ℕ)
    (steps : List Step) (a b : Attempt) (taken : Taken) → op ≡ Tx name steps → job ≡ at.Transaction a
    → StepsTake known later steps addr bytes a b taken → JobTakes known later addr bytes op job (at.Transaction b) taken
of_steps known later addr bytes op job name steps a b taken is from takes =
    subst (λ (o : Op). JobTakes known later addr bytes o job (at.Transaction b) taken) (sym is)
    (subst (λ (j : Job). JobTakes known later addr bytes (Tx name steps) j (at.Transaction b) taken) (sym from) takes)

pub returns-in-Transaction-Tx-clause-taken : goal.returns-in-Transaction-Tx-clause-taken
returns-in-Transaction-Tx-clause-taken c =
    let known = c.args.known.now in
    let steps = c.in-Transaction-Tx.steps in
    let before = c.in-Transaction-Tx.attempt in
    let after = c.take_page-in-Transaction-Tx.new.self in
    let told = c.take_page-in-Transaction-Tx.ensures in
    let later = is_later c.args.self.now.failed in
    IfOk-weaker c.take_page-in-Transaction-Tx.result (StepsTake known later steps c.args.addr c.args.bytes before after) _
    (λ taken takes. (refl, of_steps known later c.args.addr c.args.bytes c.args.self.now.op c.args.self.now.job _ steps before after taken (sym c.get.ensures ∙ c.in-Transaction-Tx.is-1) c.in-Transaction-Tx.is-0 takes))
    (steps_take known c.take_page-in-Transaction-Tx.new.known later steps c.args.addr c.args.bytes before after c.take_page-in-Transaction-Tx.result told.kept.0 told.kept.1 told.stays told.counts
    (subst (λ (l : Bool). IfOk c.take_page-in-Transaction-Tx.result (attempts.TakesRead known l steps before c.args.addr c.args.bytes after)) c.is_later-later.ensures told.taken) told.way)

-- a Snapshot or a Branch stays on its way with its root page, or where it failed
child_takes : (known : Known) (op : Op) (bytes : List ℕ) (c d : Child) (taken : Taken)
    → IsOnItsWay known op c → KeepsTry c d → c.root.node.0 < known.nodes → c.page ≡ None
    → TakesRootBytes known.catalog c bytes d taken → ChildTakes known op bytes c d taken
child_takes known op bytes c d taken way keeps low none takes =
    record { keeps = keeps; takes = takes; way = way_to known known op c d refl refl keeps known.catalog refl way (page takes) }
  where
    page : TakesRootBytes known.catalog c bytes d taken → (entries : List CatEntry) → known.catalog ≡ Some entries
        → MatchOption d.page ⊤ (λ p. IsPage p × (may_copy entries d.version.0 p ≡ true) × (d.root.node.0 < known.nodes))
    page (inl bad) entries is = without (bad.2 ∙ none)
      where
        without : d.page ≡ None → MatchOption d.page ⊤ (λ p. IsPage p × (may_copy entries d.version.0 p ≡ true) × (d.root.node.0 < known.nodes))
        without e = subst (λ (o : Option Page). MatchOption o ⊤ (λ p. IsPage p × (may_copy entries d.version.0 p ≡ true) × (d.root.node.0 < known.nodes))) (sym e) tt
    page (inr (p, spells, root)) entries is = by taken root
      where
        without : d.page ≡ None → MatchOption d.page ⊤ (λ p. IsPage p × (may_copy entries d.version.0 p ≡ true) × (d.root.node.0 < known.nodes))
        without e = subst (λ (o : Option Page). MatchOption o ⊤ (λ p. IsPage p × (may_copy entries d.version.0 p ≡ true) × (d.root.node.0 < known.nodes))) (sym e) tt

        by : (t : Taken) → TakesRoot known.catalog c p d t
            → MatchOption d.page ⊤ (λ p. IsPage p × (may_copy entries d.version.0 p ≡ true) × (d.root.node.0 < known.nodes))
        by Taken.GoesOn (may, there) =
            subst (λ (o : Option Page). MatchOption o ⊤ (λ p. IsPage p × (may_copy entries d.version.0 p ≡ true) × (d.root.node.0 < known.nodes))) (sym there) (
              spells.0,
              subst (λ (v : VersionNo). may_copy entries v.0 p ≡ true) (sym keeps.0) (sym (ap (λ (o : Option (List CatEntry)). may_copy_by o c.version.0 p) is) ∙ may),
              subst (λ (r : Addr). r.node.0 < known.nodes) (sym keeps.1) low,
            )
        by Taken.Leaf root = absurd root
        by (Taken.Replies reply) root = absurd root
        by (Taken.Fails None) root = absurd root
        by (Taken.Fails (Some cause)) root = without (root.2 ∙ none)

-- its operation and its job, as they were
of_child : (known : Known) (later : Bool) (addr : Addr) (bytes : List ℕ) (op : Op) (job : Job) (c d : Child) (taken : Taken)
    → job ≡ at.Child c → ChildTakes known op bytes c d taken → JobTakes known later addr bytes op job (at.Child d) taken
of_child known later addr bytes op job c d taken from takes =
    subst (λ (j : Job). JobTakes known later addr bytes op j (at.Child d) taken) (sym from) (by op takes)
  where
    by : (o : Op) → ChildTakes known o bytes c d taken → JobTakes known later addr bytes o (at.Child c) (at.Child d) taken
    by (Tx name steps) t = t
    by (Snapshot name child) t = t
    by (Branch name child) t = t
    by (Scan name low high limit) t = t
    by Versions t = t

child_way : (known : Known) (op : Op) (job : Job) (c : Child) → job ≡ at.Child c → IsJobIn known op job → IsOnItsWay known op c
child_way known op job c from right = by op (subst (IsJobIn known op) from right)
  where
    by : (o : Op) → IsJobIn known o (at.Child c) → IsOnItsWay known o c
    by (Tx name steps) way = way
    by (Snapshot name child) way = way
    by (Branch name child) way = way
    by (Scan name low high limit) way = way
    by Versions way = way

child_asks : (known : Known) (op : Op) (job : Job) (c : Child) (addr : Addr) → job ≡ at.Child c → AsksPageFor known op job addr
    → (c.root ≡ addr) × (c.page ≡ None) × (addr.node.0 < known.nodes)
child_asks known op job c addr from asks = by op (subst (λ (j : Job). AsksPageFor known op j addr) from asks)
  where
    by : (o : Op) → AsksPageFor known o (at.Child c) addr → (c.root ≡ addr) × (c.page ≡ None) × (addr.node.0 < known.nodes)
    by (Tx name steps) a = a
    by (Snapshot name child) a = a
    by (Branch name child) a = a
    by (Scan name low high limit) a = a
    by Versions a = a

pub returns-in-Child-default-clause-taken : goal.returns-in-Child-default-clause-taken
returns-in-Child-default-clause-taken c =
    let known = c.args.known.now in
    let op = c.args.self.now.op in
    let child = c.in-Child-default.child in
    let after = c.take_page-in-Child-default.new.self in
    let asks = child_asks known op c.args.self.now.job child c.args.addr c.in-Child-default.is-0 c.requires.asks in
    IfOk-weaker c.take_page-in-Child-default.result (TakesRootBytes known.catalog child c.args.bytes after) _
    (λ taken takes. (
      refl,
      of_child known _ c.args.addr c.args.bytes op c.args.self.now.job child after taken c.in-Child-default.is-0
          (child_takes known op c.args.bytes child after taken (child_way known op c.args.self.now.job child c.in-Child-default.is-0 c.requires.job) c.take_page-in-Child-default.ensures.stays
          (subst (λ (a : Addr). a.node.0 < known.nodes) (sym asks.0) asks.2) asks.1 takes),
    ))
    c.take_page-in-Child-default.ensures.taken

-- a scan goes on, or stands before the same leaf

scan_takes : (known : Known) (name : List ℕ) (addr : Addr) (bytes : List ℕ) (s t : ScanState) (result : Result Taken NoMemory)
    → IsAbove t.above → IfOk result (ScanGoesOn known name s addr bytes t) → IfOk result (StaysBefore s t)
    → IfOk result (ScanTakes known name addr bytes s t)
scan_takes known name addr bytes s t (Ok taken) above goes stays = record { above = above; takes = goes; stays = stays }
scan_takes known name addr bytes s t (Err error) above goes stays = tt

of_scan : (known : Known) (later : Bool) (addr : Addr) (bytes : List ℕ) (op : Op) (job : Job) (name : List ℕ) (low high : Option (List ℕ))
    (limit : ℕ) (s t : ScanState) (taken : Taken) → op ≡ Scan name low high limit → job ≡ at.Scan s
    → ScanTakes known name addr bytes s t taken → JobTakes known later addr bytes op job (at.Scan t) taken
of_scan known later addr bytes op job name low high limit s t taken is from takes =
    subst (λ (o : Op). JobTakes known later addr bytes o job (at.Scan t) taken) (sym is)
    (subst (λ (j : Job). JobTakes known later addr bytes (Scan name low high limit) j (at.Scan t) taken) (sym from) takes)

pub returns-in-Scan-Scan-clause-taken : goal.returns-in-Scan-Scan-clause-taken
returns-in-Scan-Scan-clause-taken c =
    let scan = c.in-Scan-Scan.scan in
    let after = c.take_page-in-Scan-Scan.new.scan in
    let name = c.in-Scan-Scan.version in
    IfOk-weaker c.take_page-in-Scan-Scan.result (ScanTakes c.args.known.now name c.args.addr c.args.bytes scan after) _
    (λ taken takes. (refl, of_scan c.args.known.now _ c.args.addr c.args.bytes c.args.self.now.op c.args.self.now.job name _ _ _ scan after taken (sym c.get.ensures ∙ c.in-Scan-Scan.is-1) c.in-Scan-Scan.is-0 takes))
    (scan_takes c.args.known.now name c.args.addr c.args.bytes scan after c.take_page-in-Scan-Scan.result c.take_page-in-Scan-Scan.ensures.above
    c.take_page-in-Scan-Scan.ensures.taken
    c.take_page-in-Scan-Scan.ensures.stays)

-- the page of the address leaves first

pub take_page-requires-clause-pages : goal.take_page-requires-clause-pages
take_page-requires-clause-pages c = subst ArePages (sym c.drop_page.ensures.pages) (without c.args.addr c.args.known.now.cache c.requires.pages)

pub returns-in-Some-clause-kept : goal.returns-in-Some-clause-kept
returns-in-Some-clause-kept c = kept_without c.args.known.now c.take_page.new.known c.args.addr c.drop_page.new.self c.drop_page.ensures.pages c.take_page.ensures.kept

pub returns-in-Transaction-Tx-clause-kept : goal.returns-in-Transaction-Tx-clause-kept
returns-in-Transaction-Tx-clause-kept c = kept_without c.args.known.now c.take_page-in-Transaction-Tx.new.known c.args.addr c.drop_page.new.self c.drop_page.ensures.pages c.take_page-in-Transaction-Tx.ensures.kept

pub returns-in-Child-default-clause-kept : goal.returns-in-Child-default-clause-kept
returns-in-Child-default-clause-kept c = kept_without c.args.known.now c.take_page-in-Child-default.new.known c.args.addr c.drop_page.new.self c.drop_page.ensures.pages c.take_page-in-Child-default.ensures.kept

pub returns-in-Scan-Scan-clause-kept : goal.returns-in-Scan-Scan-clause-kept
returns-in-Scan-Scan-clause-kept c = kept_without c.args.known.now c.take_page-in-Scan-Scan.new.known c.args.addr c.drop_page.new.self c.drop_page.ensures.pages c.take_page-in-Scan-Scan.ensures.kept

pub returns-in-Some-clause-cache : goal.returns-in-Some-clause-cache
returns-in-Some-clause-cache c =
    let at = get_asks c.args.known.now c.args.self.now.op c.args.self.now.job _ c.in-Get-Tx.steps c.in-Get-Tx.descent c.args.addr (sym c.get.ensures ∙ c.in-Get-Tx.is-1) c.in-Get-Tx.is-0 c.requires.asks in
    replaces c.args.addr c.args.bytes c.args.known.now.cache c.drop_page.new.self c.take_page.new.known.cache c.take_page.result c.drop_page.ensures.pages c.drop_page.ensures.gone
    (subst (λ (a : Addr). Puts a c.args.bytes c.drop_page.new.self c.take_page.new.known.cache c.take_page.result) at c.take_page.ensures.cache)

pub returns-in-Transaction-Tx-clause-cache : goal.returns-in-Transaction-Tx-clause-cache
returns-in-Transaction-Tx-clause-cache c =
    replaces c.args.addr c.args.bytes c.args.known.now.cache c.drop_page.new.self c.take_page-in-Transaction-Tx.new.known.cache c.take_page-in-Transaction-Tx.result c.drop_page.ensures.pages c.drop_page.ensures.gone c.take_page-in-Transaction-Tx.ensures.cache

pub returns-in-Child-default-clause-cache : goal.returns-in-Child-default-clause-cache
returns-in-Child-default-clause-cache c =
    let asks = child_asks c.args.known.now c.args.self.now.op c.args.self.now.job c.in-Child-default.child c.args.addr c.in-Child-default.is-0 c.requires.asks in
    replaces c.args.addr c.args.bytes c.args.known.now.cache c.drop_page.new.self c.take_page-in-Child-default.new.known.cache c.take_page-in-Child-default.result c.drop_page.ensures.pages c.drop_page.ensures.gone
    (subst (λ (a : Addr). Puts a c.args.bytes c.drop_page.new.self c.take_page-in-Child-default.new.known.cache c.take_page-in-Child-default.result) asks.0 c.take_page-in-Child-default.ensures.cache)

pub returns-in-Scan-Scan-clause-cache : goal.returns-in-Scan-Scan-clause-cache
returns-in-Scan-Scan-clause-cache c =
    replaces c.args.addr c.args.bytes c.args.known.now.cache c.drop_page.new.self c.take_page-in-Scan-Scan.new.known.cache c.take_page-in-Scan-Scan.result c.drop_page.ensures.pages c.drop_page.ensures.gone c.take_page-in-Scan-Scan.ensures.cache

-- of what a job goes by only a transaction's pages may be of the address

pub returns-in-Some-clause-read : goal.returns-in-Some-clause-read
returns-in-Some-clause-read c = read_any c.take_page.result c.args.addr c.args.bytes (at.Get c.take_page.new.self) tt

pub returns-in-Transaction-Tx-clause-read : goal.returns-in-Transaction-Tx-clause-read
returns-in-Transaction-Tx-clause-read c = c.take_page-in-Transaction-Tx.ensures.read

pub returns-in-Child-default-clause-read : goal.returns-in-Child-default-clause-read
returns-in-Child-default-clause-read c =
    read_any c.take_page-in-Child-default.result c.args.addr c.args.bytes (at.Child c.take_page-in-Child-default.new.self) tt

pub returns-in-Scan-Scan-clause-read : goal.returns-in-Scan-Scan-clause-read
returns-in-Scan-Scan-clause-read c =
    read_any c.take_page-in-Scan-Scan.result c.args.addr c.args.bytes (at.Scan c.take_page-in-Scan-Scan.new.scan) tt
