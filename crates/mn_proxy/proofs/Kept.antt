-- What a turn makes of what is kept, from the clauses of what it calls.
use Rattle.std.proofs.Common.{◌≡◌, ℕ, ◌+◌, ◌⊎◌, Bool, true, false, List, Option, Some, None, Result, Ok, Err, refl, sym, subst, ap, ◌∙◌, inl, inr, arith}
use Rattle.std.specs.Prelude.{IfOk, IsErr, IsOk, OnErr}
use Rattle.std.specs.Option.{option_map}
use Rattle.std.proofs.lemmas.Bool.Decides.{nat_tests}
use Rattle.mn_base.specs.declared.answer.Answer.{Answer}
use Rattle.mn_base.specs.declared.ids.Addr.{Addr}
use Rattle.mn_base.specs.declared.reply.Reply.{Reply}
use Rattle.mn_base.specs.declared.error.NoMemory.{NoMemory}
use Rattle.mn_cache.specs.Pages.{page_at, pages_without}
use Rattle.mn_mini.specs.Mini.{Mini}
use Rattle.mn_page.specs.declared.page.Page.{Page}
use Rattle.mn_page.specs.declared.entry.CatEntry.{CatEntry}
use Rattle.mn_proxy.specs.declared.errand.Errand.{Errand}
use Rattle.mn_proxy.specs.declared.errand.Purpose.{Purpose}
use Rattle.mn_proxy.specs.declared.errand.Purpose.TheVariants as reads_for
use Rattle.mn_work.specs.declared.known.Known.{Known}
use Rattle.mn_work.specs.declared.next.Next.{Next}
use Rattle.mn_work.specs.declared.next.Next.TheVariants as wants_next
use Rattle.mn_work.specs.declared.next.Taken.{Taken}
use Rattle.mn_proxy.specs.Turn.{Turn}
use Rattle.mn_proxy.specs.Turn as turns
use Rattle.mn_proxy.specs.declared.step.ProxyStep.{ProxyStep}
use Rattle.mn_work.specs.declared.work.Work.{Work}
use Rattle.mn_work.specs.Cached.{AreUsed, Walks, without_next}
use Rattle.mn_proxy.specs.Kept.{BeginsLater, CacheGoes, CacheTurns, CatalogGoes, CatalogTurns, Forgets, Issues, KeepsOrForgets, KeepsRead, LeavesBy, LeavesFor, PutsRead, Reads}
use Rattle.mn_proxy.specs.Kept.{StepLeaves, TurnLeaves, is_later_in, read_by, read_for, read_in}
use Rattle.mn_proxy.specs.LeafReads.{HasLeaf, shown_by}
use Rattle.mn_proxy.specs.State.{ProxyState}
use Rattle.mn_proxy.specs.Turns.{CameOf, IsReadFor, Leaves, read_alone}
use Rattle.mn_work.specs.Knows.{ArePages, LearnsOrForgets}
use Rattle.mn_work.specs.Walks.{is_later}
use Rattle.mn_work.proofs.Cached.{none_used, without}
use Rattle.mn_proxy.proofs.Taking.{came_keeps}

-- The cache

-- where nothing was read, some are used
pub used_turns : (later : Bool) (before after : List (Addr × Page)) (result : Result Turn NoMemory)
    → AreUsed before after → CacheTurns None later before after result
used_turns later before after result used =
    record { put = before; puts = refl; used = after; are_used = used; leaves = inl refl }

pub same_turns : (later : Bool) (before after : List (Addr × Page)) (result : Result Turn NoMemory)
    → after ≡ before → CacheTurns None later before after result
same_turns later before after result same =
    record { put = before; puts = refl; used = before; are_used = none_used before; leaves = inl same }

-- a try that is to read no page
IsNoPage : Next → Type 0
IsNoPage next = (pages : List (Addr × Page)) → without_next (Some next) pages ≡ pages

pub no_page_turns : (later : Bool) (next : Next) (before middle after : List (Addr × Page)) (result : Result Turn NoMemory)
    → ((pages : List (Addr × Page)) → without_next (Some next) pages ≡ pages) → Walks later (Some next) before middle
    → after ≡ middle → CacheTurns None later before after result
no_page_turns later next before middle after result stay walks same = record {
  put = before;
  puts = refl;
  used = walks.used;
  are_used = walks.are_used;
  leaves = inl (same ∙ by walks.leaves);
}
  where
    by : ((middle ≡ walks.used) ⊎ ((later ≡ true) × (middle ≡ without_next (Some next) walks.used))) → middle ≡ walks.used
    by (inl is) = is
    by (inr (late, is)) = is ∙ stay walks.used

-- one that reads the page that it wants
pub page_turns : (later : Bool) (addr : Addr) (peek : Bool) (before middle after : List (Addr × Page)) (w : Work) (mini : Mini)
    (result : Result Turn NoMemory) → Walks later (Some (wants_next.Page addr peek)) before middle → after ≡ middle
    → is_later w.failed ≡ later → IfOk result (Reads peek w (reads_for.Page addr) mini)
    → CacheTurns None later before after result
page_turns later addr true before middle after w mini result walks same is reads =
    no_page_turns later (wants_next.Page addr true) before middle after result (λ pages. refl) walks same
page_turns later addr false before middle after w mini result walks same is reads = record {
  put = before;
  puts = refl;
  used = walks.used;
  are_used = walks.are_used;
  leaves = by walks.leaves;
}
  where
    leave : (r : Result Turn NoMemory) → later ≡ true → after ≡ pages_without addr walks.used
        → IfOk r (Reads false w (reads_for.Page addr) mini) → TurnLeaves later r walks.used after
    leave (Ok turn) late gone (tid, goes) =
        subst (λ (t : Turn). TurnLeaves later (Ok t) walks.used after) (sym goes) (is ∙ late, gone)
    leave (Err none) late gone told = (late, (addr, gone))

    by : ((middle ≡ walks.used) ⊎ ((later ≡ true) × (middle ≡ pages_without addr walks.used)))
        → (after ≡ walks.used) ⊎ TurnLeaves later result walks.used after
    by (inl there) = inl (same ∙ there)
    by (inr (late, gone)) = inr (leave result late (same ∙ gone) reads)

-- what was read was put in, whatever comes of it
pub puts_on : (read : Option (Purpose × List ℕ)) (before after : List (Addr × Page)) (taken : Taken) (result : Result Turn NoMemory)
    → PutsRead read before after (Ok taken) → PutsRead read before after result
puts_on None before after taken result puts = puts
puts_on (Some (reads_for.Catalog, bytes)) before after taken result puts = puts
puts_on (Some (reads_for.Count, bytes)) before after taken result puts = puts
puts_on (Some (reads_for.Plan reply, bytes)) before after taken result puts = puts
puts_on (Some (reads_for.Page addr, bytes)) before after taken (Ok turn) puts =
    record { gone = puts.gone; puts = puts.puts }
puts_on (Some (reads_for.Page addr, bytes)) before after taken (Err none) puts =
    record { gone = puts.gone; puts = inr puts.puts }

-- or there was no memory for it
pub puts_not : (read : Option (Purpose × List ℕ)) (before after : List (Addr × Page)) (taken : Result Taken NoMemory) (result : Result Turn NoMemory)
    → IsErr result → PutsRead read before after taken → PutsRead read before after result
puts_not None before after taken result err puts = puts
puts_not (Some (reads_for.Catalog, bytes)) before after taken result err puts = puts
puts_not (Some (reads_for.Count, bytes)) before after taken result err puts = puts
puts_not (Some (reads_for.Plan reply, bytes)) before after taken result err puts = puts
puts_not (Some (reads_for.Page addr, bytes)) before after taken (Ok turn) err puts = absurd cc
puts_not (Some (reads_for.Page addr, bytes)) before after (Ok taken) (Err e) err puts =
    record { gone = puts.gone; puts = inr puts.puts }
puts_not (Some (reads_for.Page addr, bytes)) before after (Err none) (Err e) err puts =
    record { gone = puts.gone; puts = puts.puts }

-- a turn after it
pub turns_then : (read : Option (Purpose × List ℕ)) (later late_then : Bool) (before middle after : List (Addr × Page))
    (taken : Taken) (result : Result Turn NoMemory) → PutsRead read before middle (Ok taken)
    → (late_then ≡ true → later ≡ true) → CacheTurns None late_then middle after result
    → CacheTurns read later before after result
turns_then read later late_then before middle after taken result puts late turn = record {
  put = turn.put;
  puts = subst (λ (l : List (Addr × Page)). PutsRead read before l result) (sym turn.puts) (puts_on read before middle taken result puts);
  used = turn.used;
  are_used = turn.are_used;
  leaves = by turn.leaves;
}
  where
    leave : (r : Result Turn NoMemory) → TurnLeaves late_then r turn.used after → TurnLeaves later r turn.used after
    leave (Ok (turns.Goes step work errand)) leaves = leaves
    leave (Ok (turns.Ends answer)) leaves = absurd leaves
    leave (Ok turns.Stops) leaves = absurd leaves
    leave (Err none) (is, gone) = (late is, gone)

    by : ((after ≡ turn.used) ⊎ TurnLeaves late_then result turn.used after)
        → (after ≡ turn.used) ⊎ TurnLeaves later result turn.used after
    by (inl same) = inl same
    by (inr leaves) = inr (leave result leaves)

-- and none, where it was put in
pub turns_no_more : (read : Option (Purpose × List ℕ)) (later : Bool) (before middle after : List (Addr × Page)) (result : Result Turn NoMemory)
    → PutsRead read before middle result → after ≡ middle → CacheTurns read later before after result
turns_no_more read later before middle after result puts same =
    record { put = middle; puts = puts; used = middle; are_used = none_used middle; leaves = inl same }

-- The catalog

-- where none was read it stays
pub catalog_stays : {E : Type 0} (before after : Option (List CatEntry)) (result : Result Turn E) → after ≡ before
    → IfOk result (CatalogTurns None before after)
catalog_stays before after (Ok (turns.Goes step work errand)) same = inl same
catalog_stays before after (Ok (turns.Ends answer)) same = same
catalog_stays before after (Ok turns.Stops) same = same
catalog_stays before after (Err none) same = tt

-- as it was, or as it was read, before a turn
pub catalog_then : {E : Type 0} (read : Option (Purpose × List ℕ)) (before middle after : Option (List CatEntry)) (result : Result Turn E)
    → KeepsRead read before middle → IfOk result (CatalogTurns None middle after)
    → IfOk result (CatalogTurns read before after)
catalog_then read before middle after (Err none) keeps goes = tt
catalog_then read before middle after (Ok (turns.Ends answer)) keeps same = subst (KeepsRead read before) (sym same) keeps
catalog_then read before middle after (Ok turns.Stops) keeps same = subst (KeepsRead read before) (sym same) keeps
catalog_then read before middle after (Ok (turns.Goes step work errand)) keeps (inl same) = inl (subst (KeepsRead read before) (sym same) keeps)
catalog_then read before middle after (Ok (turns.Goes step work errand)) keeps (inr later) = inr later

-- it is gone where a later try begins
pub catalog_gone : {E : Type 0} (before after : Option (List CatEntry)) (w : Work) (mini : Mini) (result : Result Turn E)
    → after ≡ None → is_later w.failed ≡ true → IfOk result (Issues w reads_for.Catalog mini)
    → IfOk result (CatalogTurns None before after)
catalog_gone before after w mini (Err none) gone late issues = tt
catalog_gone before after w mini (Ok turn) gone late (tid, goes) =
    subst (CatalogTurns None before after) (sym goes) (inr (gone, late))

pub later_now : (failed : ℕ) → is_later (failed + 1) ≡ true
later_now failed = grind (arith, nat_tests)

-- the catalog that was read is kept now
pub keeps_read : (old new : Known) (before after : Work) (purpose : Purpose) (bytes : List ℕ) (taken : Taken)
    → CameOf old new before after purpose bytes taken → KeepsRead (Some (purpose, bytes)) old.catalog new.catalog
keeps_read old new before after reads_for.Catalog bytes taken (nodes, keeps, inl bad, goes) =
    subst (λ (o : Option (List CatEntry)). KeepsRead (Some (reads_for.Catalog, bytes)) old.catalog o) (sym bad.1) bad.0
keeps_read old new before after reads_for.Catalog bytes taken (nodes, keeps, inr (entries, spells, is, takes), goes) =
    subst (λ (o : Option (List CatEntry)). KeepsRead (Some (reads_for.Catalog, bytes)) old.catalog o) (sym is) spells
keeps_read old new before after (reads_for.Page addr) bytes taken came = came.0.1
keeps_read old new before after reads_for.Count bytes taken came = ap (λ (k : Known). k.catalog) came.0
keeps_read old new before after (reads_for.Plan reply) bytes taken came = absurd came

-- Where memory ran out

pub err_then : {R E : Type 0} (result : Result R E) (P Q : Type 0) → (P → Q) → OnErr result P → OnErr result Q
err_then (Ok made) P Q on is = tt
err_then (Err none) P Q on is = on is

-- where none was read it stays
pub left_unread : (read : Option (Purpose × List ℕ)) (before after : Option (List CatEntry)) → read ≡ None
    → after ≡ before → KeepsOrForgets read before after
left_unread None before after none same = same
left_unread (Some of) before after none same = absurd cc

pub left_as : {R : Type 0} (result : Result R NoMemory) (read other : Option (Purpose × List ℕ))
    (before after : Option (List CatEntry)) → read ≡ other → OnErr result (KeepsOrForgets other before after)
    → OnErr result (KeepsOrForgets read before after)
left_as result read other before after is left =
    subst (λ (r : Option (Purpose × List ℕ)). OnErr result (KeepsOrForgets r before after)) (sym is) left

-- as what was read left it
pub left_taken : (old new : Known) (purpose : Purpose) (bytes : List ℕ) (after : Option (List CatEntry))
    → Leaves old new purpose bytes → after ≡ new.catalog → KeepsOrForgets (Some (purpose, bytes)) old.catalog after
left_taken old new reads_for.Catalog bytes after leaves same = subst (LearnsOrForgets bytes) (sym same) leaves.1
left_taken old new (reads_for.Page addr) bytes after leaves same = same ∙ leaves.1
left_taken old new reads_for.Count bytes after leaves same = same ∙ leaves.1
left_taken old new (reads_for.Plan reply) bytes after leaves same = same ∙ leaves.1

-- Under the proxy's own names

pub never_later : is_later 0 ≡ true → ⊥
never_later late = grind (arith, nat_tests)

pub came_op : (old new : Known) (before after : Work) (purpose : Purpose) (bytes : List ℕ) (taken : Taken)
    → CameOf old new before after purpose bytes taken → after.failed ≡ before.failed
came_op old new before after purpose bytes taken came = (came_keeps old new before after purpose bytes taken came).1

module _ (q p : ProxyState) (same : q ≡ p) where
  -- there was no memory for what was read
  pub cache_left : (read : Option (Purpose × List ℕ)) (later : Bool) (middle : List (Addr × Page)) (taken : Result Taken NoMemory)
      (result : Result Turn NoMemory) → IsErr result → PutsRead read q.known.cache middle taken
      → CacheTurns read later p.known.cache middle result
  cache_left read later middle taken result err puts =
      subst (λ (x : ProxyState). CacheTurns read later x.known.cache middle result) same
      (turns_no_more read later q.known.cache middle middle result (puts_not read q.known.cache middle taken result err puts) refl)

  -- it goes on with what was read
  pub cache_then : (read : Option (Purpose × List ℕ)) (later late_then : Bool) (middle after : List (Addr × Page)) (taken : Taken)
      (result : Result Turn NoMemory) → PutsRead read q.known.cache middle (Ok taken) → (late_then ≡ true → later ≡ true)
      → CacheTurns None late_then middle after result → CacheTurns read later p.known.cache after result
  cache_then read later late_then middle after taken result puts late turn =
      subst (λ (x : ProxyState). CacheTurns read later x.known.cache after result) same
      (turns_then read later late_then q.known.cache middle after taken result puts late turn)

  -- or ends with it
  pub cache_last : (read : Option (Purpose × List ℕ)) (later : Bool) (middle after : List (Addr × Page)) (taken : Taken)
      (result : Result Turn NoMemory) → PutsRead read q.known.cache middle (Ok taken) → after ≡ middle
      → CacheTurns read later p.known.cache after result
  cache_last read later middle after taken result puts stays =
      subst (λ (x : ProxyState). CacheTurns read later x.known.cache after result) same
      (turns_no_more read later q.known.cache middle after result (puts_on read q.known.cache middle taken result puts) stays)

  pub catalog_next : {E : Type 0} (before after : Work) (purpose : Purpose) (bytes : List ℕ) (taken : Taken) (new : Known)
      (last : Option (List CatEntry)) (result : Result Turn E) → CameOf q.known new before after purpose bytes taken
      → IfOk result (CatalogTurns None new.catalog last)
      → IfOk result (CatalogTurns (Some (purpose, bytes)) p.known.catalog last)
  catalog_next before after purpose bytes taken new last result came goes =
      subst (λ (x : ProxyState). IfOk result (CatalogTurns (Some (purpose, bytes)) x.known.catalog last)) same
      (catalog_then (Some (purpose, bytes)) q.known.catalog new.catalog last result
      (keeps_read q.known new before after purpose bytes taken came) goes)

  pub left_next : {R : Type 0} (result : Result R NoMemory) (new : Known) (purpose : Purpose) (bytes : List ℕ)
      (last : Option (List CatEntry)) → Leaves q.known new purpose bytes → OnErr result (last ≡ new.catalog)
      → OnErr result (KeepsOrForgets (Some (purpose, bytes)) p.known.catalog last)
  left_next result new purpose bytes last leaves left =
      subst (λ (x : ProxyState). OnErr result (KeepsOrForgets (Some (purpose, bytes)) x.known.catalog last)) same
      (err_then result (last ≡ new.catalog) (KeepsOrForgets (Some (purpose, bytes)) q.known.catalog last)
      (left_taken q.known new purpose bytes last leaves) left)

-- What was read

-- what is no plan is read
pub reads_unless : (purpose : Purpose) → ((reply : Reply) → purpose ≡ reads_for.Plan reply → ⊥) → IsReadFor purpose
reads_unless reads_for.Catalog not = tt
reads_unless (reads_for.Page addr) not = tt
reads_unless reads_for.Count not = tt
reads_unless (reads_for.Plan reply) not = not reply refl

pub read_some : (purpose : Purpose) (reads : List (List (List ℕ))) (bytes : List ℕ) → ((reply : Reply) → purpose ≡ reads_for.Plan reply → ⊥)
    → read_alone reads ≡ Some bytes → read_for purpose reads ≡ Some (purpose, bytes)
read_some reads_for.Catalog reads bytes not alone = ap (option_map (λ (b : List ℕ). (reads_for.Catalog, b))) alone
read_some (reads_for.Page addr) reads bytes not alone = ap (option_map (λ (b : List ℕ). (reads_for.Page addr, b))) alone
read_some reads_for.Count reads bytes not alone = ap (option_map (λ (b : List ℕ). (reads_for.Count, b))) alone
read_some (reads_for.Plan reply) reads bytes not alone = absurd (not reply refl)

pub read_none : (purpose : Purpose) (reads : List (List (List ℕ))) → read_alone reads ≡ None → read_for purpose reads ≡ None
read_none reads_for.Catalog reads alone = ap (option_map (λ (b : List ℕ). (reads_for.Catalog, b))) alone
read_none (reads_for.Page addr) reads alone = ap (option_map (λ (b : List ℕ). (reads_for.Page addr, b))) alone
read_none reads_for.Count reads alone = ap (option_map (λ (b : List ℕ). (reads_for.Count, b))) alone
read_none (reads_for.Plan reply) reads alone = refl

-- where nothing was

pub unread_cache : (read : Option (Purpose × List ℕ)) (later : Bool) (before after : List (Addr × Page)) (result : Result Turn NoMemory)
    → read ≡ None → after ≡ before → CacheTurns read later before after result
unread_cache read later before after result none same =
    subst (λ (r : Option (Purpose × List ℕ)). CacheTurns r later before after result) (sym none) (same_turns later before after result same)

-- there was no memory for what was read
pub forgets_puts : (purpose : Purpose) (bytes : List ℕ) (old new : Known) (none : NoMemory) → Forgets purpose old new
    → let failed : Result Turn NoMemory = Err none in PutsRead (Some (purpose, bytes)) old.cache new.cache failed
forgets_puts reads_for.Catalog bytes old new none is = ap (λ (k : Known). k.cache) is
forgets_puts (reads_for.Page addr) bytes old new none is = record {
  gone = subst (λ (pages : List (Addr × Page)). page_at addr pages ≡ None) (ap (λ (k : Known). k.cache) is.1) is.0;
  puts = inl (ap (λ (k : Known). k.cache) is.1);
}
forgets_puts reads_for.Count bytes old new none is = ap (λ (k : Known). k.cache) is
forgets_puts (reads_for.Plan reply) bytes old new none is = ap (λ (k : Known). k.cache) is

pub forgets_leaves : (purpose : Purpose) (bytes : List ℕ) (old new : Known) → Forgets purpose old new
    → Leaves old new purpose bytes
forgets_leaves reads_for.Catalog bytes old new is =
    (ap (λ (k : Known). k.nodes) is, inl (ap (λ (k : Known). k.catalog) is))
forgets_leaves (reads_for.Page addr) bytes old new is =
    (ap (λ (k : Known). k.nodes) is.1, ap (λ (k : Known). k.catalog) is.1)
forgets_leaves reads_for.Count bytes old new is =
    (ap (λ (k : Known). k.nodes) is, ap (λ (k : Known). k.catalog) is)
forgets_leaves (reads_for.Plan reply) bytes old new is =
    (ap (λ (k : Known). k.nodes) is, ap (λ (k : Known). k.catalog) is)

pub forgets_pages : (purpose : Purpose) (old new : Known) → Forgets purpose old new → ArePages old.cache → ArePages new.cache
forgets_pages reads_for.Catalog old new is are = subst ArePages (sym (ap (λ (k : Known). k.cache) is)) are
forgets_pages (reads_for.Page addr) old new is are =
    subst ArePages (sym (ap (λ (k : Known). k.cache) is.1)) (without addr old.cache are)
forgets_pages reads_for.Count old new is are = subst ArePages (sym (ap (λ (k : Known). k.cache) is)) are
forgets_pages (reads_for.Plan reply) old new is are = subst ArePages (sym (ap (λ (k : Known). k.cache) is)) are

pub unread_catalog : {E : Type 0} (read : Option (Purpose × List ℕ)) (before after : Option (List CatEntry)) (result : Result Turn E)
    → read ≡ None → IfOk result (CatalogTurns None before after) → IfOk result (CatalogTurns read before after)
unread_catalog read before after result none goes =
    subst (λ (r : Option (Purpose × List ℕ)). IfOk result (CatalogTurns r before after)) (sym none) goes

pub unread_leaf : (known : Known) (w : Work) (read : Option (Purpose × List ℕ)) → read ≡ None → HasLeaf known w read → ⊥
unread_leaf known w read none leaf = nothing read none leaf.read_is
  where
    nothing : (r : Option (Purpose × List ℕ)) {x : Purpose × List ℕ} → r ≡ None → r ≡ Some x → ⊥
    nothing r e f = cc

pub cache_forgets : (q p : ProxyState) (same : q ≡ p) (purpose : Purpose) (bytes : List ℕ) (later : Bool) (new : Known) (none : NoMemory)
    → Forgets purpose q.known new → CacheTurns (Some (purpose, bytes)) later p.known.cache new.cache (Err none)
cache_forgets q p same purpose bytes later new none forgets =
    subst (λ (x : ProxyState). CacheTurns (Some (purpose, bytes)) later x.known.cache new.cache (Err none)) same
    (turns_no_more (Some (purpose, bytes)) later q.known.cache new.cache new.cache (Err none)
    (forgets_puts purpose bytes q.known new none forgets) refl)

-- it was read so
pub leaf_as : {E : Type 0} (known : Known) (w : Work) (read as_is : Option (Purpose × List ℕ)) (result : Result Turn E) → read ≡ as_is
    → ((leaf : HasLeaf known w as_is) → IfOk result (λ t. t ≡ turns.Ends (shown_by known w as_is leaf)))
    → (leaf : HasLeaf known w read) → IfOk result (λ t. t ≡ turns.Ends (shown_by known w read leaf))
leaf_as known w read as_is result same shown =
    subst (λ (r : Option (Purpose × List ℕ)). (leaf : HasLeaf known w r) → IfOk result (λ t. t ≡ turns.Ends (shown_by known w r leaf))) (sym same) shown

pub cache_as : (read as_is : Option (Purpose × List ℕ)) (later : Bool) (before after : List (Addr × Page)) (result : Result Turn NoMemory)
    → read ≡ as_is → CacheTurns as_is later before after result → CacheTurns read later before after result
cache_as read as_is later before after result same turn =
    subst (λ (r : Option (Purpose × List ℕ)). CacheTurns r later before after result) (sym same) turn

pub catalog_as : {E : Type 0} (read as_is : Option (Purpose × List ℕ)) (before after : Option (List CatEntry)) (result : Result Turn E)
    → read ≡ as_is → IfOk result (CatalogTurns as_is before after) → IfOk result (CatalogTurns read before after)
catalog_as read as_is before after result same goes =
    subst (λ (r : Option (Purpose × List ℕ)). IfOk result (CatalogTurns r before after)) (sym same) goes

-- Steps

-- where a turn went on, or ended
puts_ok : (read : Option (Purpose × List ℕ)) (before after : List (Addr × Page)) (turn : Result Turn NoMemory) (step : Result ProxyStep NoMemory)
    → IsOk turn → IsOk step → PutsRead read before after turn → PutsRead read before after step
puts_ok None before after turn step one two puts = puts
puts_ok (Some (reads_for.Catalog, bytes)) before after turn step one two puts = puts
puts_ok (Some (reads_for.Count, bytes)) before after turn step one two puts = puts
puts_ok (Some (reads_for.Plan reply, bytes)) before after turn step one two puts = puts
puts_ok (Some (reads_for.Page addr, bytes)) before after (Ok turn) (Ok step) one two puts =
    record { gone = puts.gone; puts = puts.puts }
puts_ok (Some (reads_for.Page addr, bytes)) before after (Ok turn) (Err none) one two puts = absurd cc
puts_ok (Some (reads_for.Page addr, bytes)) before after (Err none) step one two puts = absurd cc

-- where memory ran out
puts_err : (read : Option (Purpose × List ℕ)) (before after : List (Addr × Page)) (turn : Result Turn NoMemory) (step : Result ProxyStep NoMemory)
    → IsErr step → PutsRead read before after turn → PutsRead read before after step
puts_err None before after turn step err puts = puts
puts_err (Some (reads_for.Catalog, bytes)) before after turn step err puts = puts
puts_err (Some (reads_for.Count, bytes)) before after turn step err puts = puts
puts_err (Some (reads_for.Plan reply, bytes)) before after turn step err puts = puts
puts_err (Some (reads_for.Page addr, bytes)) before after turn (Ok step) err puts = absurd cc
puts_err (Some (reads_for.Page addr, bytes)) before after (Ok turn) (Err e) err puts =
    record { gone = puts.gone; puts = inr puts.puts }
puts_err (Some (reads_for.Page addr, bytes)) before after (Err none) (Err e) err puts =
    record { gone = puts.gone; puts = puts.puts }

module _ (p q : ProxyState) (w : Work) (errand : Errand) (under : p.work ≡ Some (w, errand)) where
  goes_by : (put used : List (Addr × Page)) (step : Result ProxyStep NoMemory) → PutsRead (read_by errand) p.known.cache put step
      → AreUsed put used → (q.known.cache ≡ used) ⊎ StepLeaves (is_later w.failed) step q.work used q.known.cache
      → CacheGoes p q step
  goes_by put used step puts are leaves = record {
    put = put;
    puts = subst (λ (o : Option (Work × Errand)). PutsRead (read_in o) p.known.cache put step) (sym under) puts;
    used = used;
    are_used = are;
    leaves = subst (λ (o : Option (Work × Errand)). (q.known.cache ≡ used) ⊎ StepLeaves (is_later_in o) step q.work used q.known.cache) (sym under) leaves;
  }

  -- the turn went on by this step
  pub cache_goes : (v : Work) (now : Errand) (step : ProxyStep) (turn : Turn) → q.work ≡ Some (v, now) → turn ≡ turns.Goes step v now
      → CacheTurns (read_by errand) (is_later w.failed) p.known.cache q.known.cache (Ok turn) → CacheGoes p q (Ok step)
  cache_goes v now step turn work is cache =
      goes_by cache.put cache.used (Ok step) (puts_ok (read_by errand) p.known.cache cache.put (Ok turn) (Ok step) refl refl cache.puts)
      cache.are_used (by cache.leaves)
    where
      by : ((q.known.cache ≡ cache.used) ⊎ TurnLeaves (is_later w.failed) (Ok turn) cache.used q.known.cache)
          → (q.known.cache ≡ cache.used) ⊎ StepLeaves (is_later w.failed) (Ok step) q.work cache.used q.known.cache
      by (inl same) = inl same
      by (inr leaves) =
          inr (subst (λ (o : Option (Work × Errand)). LeavesBy step o cache.used q.known.cache) (sym work)
          (subst (λ (t : Turn). TurnLeaves (is_later w.failed) (Ok t) cache.used q.known.cache) is leaves))

  -- or ended
  pub cache_ends : (answer : Answer) (step : ProxyStep) (turn : Turn) → turn ≡ turns.Ends answer
      → CacheTurns (read_by errand) (is_later w.failed) p.known.cache q.known.cache (Ok turn) → CacheGoes p q (Ok step)
  cache_ends answer step turn is cache =
      goes_by cache.put cache.used (Ok step) (puts_ok (read_by errand) p.known.cache cache.put (Ok turn) (Ok step) refl refl cache.puts)
      cache.are_used (by cache.leaves)
    where
      by : ((q.known.cache ≡ cache.used) ⊎ TurnLeaves (is_later w.failed) (Ok turn) cache.used q.known.cache)
          → (q.known.cache ≡ cache.used) ⊎ StepLeaves (is_later w.failed) (Ok step) q.work cache.used q.known.cache
      by (inl same) = inl same
      by (inr leaves) = absurd (subst (λ (t : Turn). TurnLeaves (is_later w.failed) (Ok t) cache.used q.known.cache) is leaves)

  -- or there was no memory
  pub cache_fails : (none : NoMemory) (step : Result ProxyStep NoMemory) → IsErr step
      → CacheTurns (read_by errand) (is_later w.failed) p.known.cache q.known.cache (Err none) → CacheGoes p q step
  cache_fails none step err cache =
      goes_by cache.put cache.used step (puts_err (read_by errand) p.known.cache cache.put (Err none) step err cache.puts)
      cache.are_used (by step err cache.leaves)
    where
      by : (s : Result ProxyStep NoMemory) → IsErr s
          → ((q.known.cache ≡ cache.used) ⊎ LeavesFor (is_later w.failed) cache.used q.known.cache)
          → (q.known.cache ≡ cache.used) ⊎ StepLeaves (is_later w.failed) s q.work cache.used q.known.cache
      by (Ok s) is leaves = absurd cc
      by (Err e) is leaves = leaves

  pub catalog_goes : (v : Work) (now : Errand) (step : ProxyStep) (turn : Turn) → q.work ≡ Some (v, now) → turn ≡ turns.Goes step v now
      → CatalogTurns (read_by errand) p.known.catalog q.known.catalog turn → CatalogGoes p q step
  catalog_goes v now step turn work is goes =
      subst (λ (o : Option (Work × Errand)). KeepsRead (read_in o) p.known.catalog q.known.catalog ⊎ ((q.known.catalog ≡ None) × BeginsLater step q.work)) (sym under)
      (subst (λ (o : Option (Work × Errand)). KeepsRead (read_by errand) p.known.catalog q.known.catalog ⊎ ((q.known.catalog ≡ None) × BeginsLater step o)) (sym work)
      (subst (CatalogTurns (read_by errand) p.known.catalog q.known.catalog) is goes))

  pub catalog_ends : (answer : Answer) (step : ProxyStep) (turn : Turn) → turn ≡ turns.Ends answer
      → CatalogTurns (read_by errand) p.known.catalog q.known.catalog turn → CatalogGoes p q step
  catalog_ends answer step turn is goes =
      subst (λ (o : Option (Work × Errand)). KeepsRead (read_in o) p.known.catalog q.known.catalog ⊎ ((q.known.catalog ≡ None) × BeginsLater step q.work)) (sym under)
      (inl (subst (CatalogTurns (read_by errand) p.known.catalog q.known.catalog) is goes))
