-- In a run the catalog that a client has read last serves all that its list shows.
use Rattle.std.proofs.Common.{◌≡◌, ℕ, zero, suc, ◌<◌, ◌⊎◌, inl, inr, true, false, List, [], ◌∷◌, ◌++◌, length, reverse, Option, Some, None, refl, subst, sym, ap, ◌∙◌, arith, if◌then◌else◌, Contains}
use Rattle.std.specs.Prelude.{slice_get}
use Rattle.std.proofs.lemmas.List.{append_assoc, length-reverse, reverse-append, reverse-reverse}
use Rattle.std.proofs.lemmas.List.Elements.{All-from_recursion, Contains-append_cases}
use Rattle.mn_base.specs.Store.{Head, Store, heads_of, number_named}
use Rattle.mn_base.specs.Tree.{parents_of, HaveParents}
use Rattle.mn_base.specs.declared.ids.ClientNo.{ClientNo}
use Rattle.mn_page.specs.declared.entry.CatEntry.{CatEntry}
use Rattle.mn_page.specs.Forest.{heads_in}
use Rattle.mn_page.specs.Grammar.{IsEntry}
use Rattle.mn_page.specs.Holds.{Holds}
use Rattle.mn_vtree.specs.Parents.{AreLess}
use Rattle.mn_runs.specs.declared.entry.Entry.{Entry}
use Rattle.mn_runs.specs.declared.entry.What.{What}
use Rattle.mn_runs.specs.declared.entry.What.TheVariants.{Begin, Issue, Called, Stopped, Restarted, Abandoned, Answered}
use Rattle.mn_runs.specs.Calls.{is_by, client_entries}
use Rattle.mn_runs.specs.Protocol.{Start}
use Rattle.mn_runs.specs.Seen.{Seen, seen_at, seen_in}
use Rattle.mn_runs.proofs.Seen.{nothing}
use Rattle.mn_commits.proofs.Bytes.Step.{flat}
use Rattle.mn_commits.proofs.Bytes.Seen.{StandsIn}
use Rattle.mn_law.specs.Planned.{ContinuesCatalog}
use Rattle.mn_law.specs.Shown.{IsCatalogRead, SeesCatalog}
use Rattle.mn_law.proofs.Sees.{seen_in-cons}
use Rattle.mn_plans.proofs.Compares.{still_named}
use Rattle.mn_serial.specs.History.{Placed, IsHistory}
use Rattle.mn_serial.specs.Meaning.{OpenedRun}
use Rattle.mn_serial.proofs.Meaning.Kept.{Known, catalog_continued, serves_there, some_store}
use Rattle.mn_serial.proofs.Meaning.Legal.{known_run}
use Rattle.mn_serial.proofs.Meaning.Replies.{stands_at}
use Rattle.mn_serial.proofs.Meaning.Tell.{one_read, only, sees_entries, sees_those}
use Rattle.mn_hist.specs.History.{CallerState, LastCatalogsServe, caller_state, state_after, with_seen}
use Rattle.mn_hist.specs.Shown.{LastServesAll, ServesAll, is_of_catalog}
use Rattle.mn_hist.proofs.Noted.{answered_sees, begin_sees}
use Rattle.mn_hist.proofs.Places.{catalog_read, no_catalog_read}

-- Parents

-- what stands at a place of a list with one more: that of the list, or the one more
pushed_at : (ys : List (Option ℕ)) (x o : Option ℕ) (i : ℕ) → slice_get (ys ++ x ∷ []) i ≡ Some o → (slice_get ys i ≡ Some o) ⊎ ((i ≡ length ys) × (x ≡ o))
pushed_at [] x o zero e = inr (refl, cc)
pushed_at [] x o (suc i) e = absurd cc
pushed_at (y ∷ ys) x o zero e = inl e
pushed_at (y ∷ ys) x o (suc i) e = by (pushed_at ys x o i e)
  where
    by : (slice_get ys i ≡ Some o) ⊎ ((i ≡ length ys) × (x ≡ o)) → (slice_get (y ∷ ys) (suc i) ≡ Some o) ⊎ ((suc i ≡ length (y ∷ ys)) × (x ≡ o))
    by (inl at) = inl at
    by (inr (last, same)) = inr (ap suc last, same)

less_by : (older : List (Option ℕ)) → HaveParents older → AreLess (reverse older)
less_by [] have v p at = absurd have
less_by (None ∷ []) have v p at = by (pushed_at [] None (Some p) v at)
  where
    by : (slice_get [] v ≡ Some (Some p)) ⊎ ((v ≡ 0) × (None ≡ Some p)) → p < v
    by (inl none) = absurd cc
    by (inr (last, none)) = absurd cc
less_by (None ∷ (parent ∷ older)) have v p at = absurd have
less_by (Some q ∷ older) have v p at =
    by (pushed_at (reverse older) (Some q) (Some p) v (sym (ap (λ (l : List (Option ℕ)). slice_get l v) (reverse-append (Some q ∷ []) older)) ∙ at)) (less_by older have.1 v p)
  where
    by : (slice_get (reverse older) v ≡ Some (Some p)) ⊎ ((v ≡ length (reverse older)) × (Some q ≡ Some p)) → (slice_get (reverse older) v ≡ Some (Some p) → p < v) → p < v
    by (inl front) rest = rest front
    by (inr (last, same)) rest =
        let is : q ≡ p = cc in
        let low = have.0 in
        let long = length-reverse older in omega arith

-- the parents of a tree of versions have lower numbers
parents_less : (parents : List (Option ℕ)) → HaveParents (reverse parents) → AreLess parents
parents_less parents have = subst AreLess (reverse-reverse parents) (less_by (reverse parents) have)

-- What serves

-- what a catalog serves, one that continues it serves
serves_on : (entries : List CatEntry) (memory : List (List ℕ)) (store : Store) (holds : Holds memory store) → ContinuesCatalog (heads_in entries) (heads_of store) → ServesAll entries holds.forest.entries
serves_on entries memory store holds on name page (v, named, serves) = (
  v,
  subst (λ (hs : List Head). number_named hs name ≡ Some v) holds.shown.heads (still_named (heads_in entries) (heads_of store) name v on named),
  serves_there entries memory store holds name page v on named serves,
)

-- One more entry

-- an entry that has read has neither begun nor answered an operation
read_after : (n : ℕ) (e : Entry) (x : Seen) (s : CallerState) → seen_at e ≡ x ∷ [] → (what : What) → e.what ≡ what → state_after n what (seen_at e) s ≡ with_seen n (x ∷ []) s
read_after n e x s is (Begin number op) what = let void : x ∷ [] ≡ [] = sym is ∙ begin_sees e number op what in absurd cc
read_after n e x s is (Answered number answer) what = let void : x ∷ [] ≡ [] = sym is ∙ answered_sees e number answer what in absurd cc
read_after n e x s is (Issue tid mini) what = ap (λ (l : List Seen). with_seen n l s) is
read_after n e x s is (Called request reply) what = ap (λ (l : List Seen). with_seen n l s) is
read_after n e x s is (Stopped request asked) what = ap (λ (l : List Seen). with_seen n l s) is
read_after n e x s is (Restarted kept) what = ap (λ (l : List Seen). with_seen n l s) is
read_after n e x s is (Abandoned tid) what = ap (λ (l : List Seen). with_seen n l s) is

none_after : (n : ℕ) (what : What) (s : CallerState) → (state_after n what [] s).catalog ≡ s.catalog
none_after n (Begin number op) s = refl
none_after n (Answered number answer) s = refl
none_after n (Issue tid mini) s = refl
none_after n (Called request reply) s = refl
none_after n (Stopped request asked) s = refl
none_after n (Restarted kept) s = refl
none_after n (Abandoned tid) s = refl

parts : (e : Entry) (es : List Entry) (seen : Seen) → Contains (seen_in (e ∷ es)) seen → Contains (seen_at e) seen ⊎ Contains (seen_in es) seen
parts e es seen has = Contains-append_cases (seen_at e) (seen_in es) seen (subst (λ (l : List Seen). Contains l seen) (seen_in-cons e es) has)

-- that has read no catalog
still_serves : (e : Entry) (es : List Entry) (o : Option (List ℕ)) → ((x : Seen) → Contains (seen_at e) x → IsCatalogRead x → ⊥) → LastServesAll es o → LastServesAll (e ∷ es) o
still_serves e es None none serves = λ entries shows. by entries shows.0 shows.2 (parts e es shows.0 shows.1)
  where
    by : (entries : List CatEntry) (seen : Seen) → SeesCatalog seen entries → Contains (seen_at e) seen ⊎ Contains (seen_in es) seen → ⊥
    by entries seen sees (inl here) = none seen here sees.0
    by entries seen sees (inr there) = serves entries (seen, there, sees)
still_serves e es (Some bytes) none (last, tree, all) = (last, tree, λ entries shows. by entries shows.0 shows.2 (parts e es shows.0 shows.1))
  where
    by : (entries : List CatEntry) (seen : Seen) → SeesCatalog seen entries → Contains (seen_at e) seen ⊎ Contains (seen_in es) seen → ServesAll entries last
    by entries seen sees (inl here) = absurd (none seen here sees.0)
    by entries seen sees (inr there) = all entries (seen, there, sees)

-- A run

serves_at : (start : Start) (store : Store) (past : List Entry) (placed : List Placed) → Known start store past placed → (c : ClientNo) (later before : List Entry) → past ≡ later ++ before
    → LastServesAll (client_entries c before) (caller_state c before).catalog
serves_at start store past placed known c later [] split = λ entries shows. nothing shows.0 shows.1
serves_at start store past placed known c later (x ∷ before) split =
    let rest = serves_at start store past placed known c (later ++ x ∷ []) before deeper in
    elim (is_by c x) as (λ b. LastServesAll (if b then x ∷ es else es) (if b then state_after (length before) x.what (seen_at x) s else s).catalog) [
      | true ↦ own rest (one_read x)
      | false ↦ rest
    ]
  where
    es : List Entry
    es = client_entries c before

    s : CallerState
    s = caller_state c before

    deeper : past ≡ (later ++ x ∷ []) ++ before
    deeper = split ∙ sym (append_assoc later (x ∷ []) before)

    at : (t : Store) × Holds (flat start before) t
    at = some_store start store past placed known (later ++ x ∷ []) before deeper

    -- the catalog that was read here
    read : (seen : Seen) → seen_at x ≡ seen ∷ [] → is_of_catalog seen ≡ true → LastServesAll (x ∷ es) (Some seen.bytes)
    read seen is catalog = (
      at.1.forest.entries,
      (((sees.1, All-from_recursion IsEntry at.1.forest.entries sees.2), sees.3), parents_less (parents_of (heads_in at.1.forest.entries)) at.1.sound.tree.versions.parents),
      λ entries shows. by entries shows.0 shows.2 (parts x es shows.0 shows.1),
    )
      where
        stands : StandsIn (flat start before) seen
        stands = stands_at start store past placed known later x before split seen (subst (λ (l : List Seen). Contains l seen) (sym is) (0, omega arith, refl))

        sees : SeesCatalog seen at.1.forest.entries
        sees = sees_entries (flat start before) at.0 at.1 seen stands (catalog_read seen catalog)

        by : (entries : List CatEntry) (y : Seen) → SeesCatalog y entries → Contains (seen_at x) y ⊎ Contains (seen_in es) y → ServesAll entries at.1.forest.entries
        by entries y those (inl here) =
            let same : seen ≡ y = only seen y (subst (λ (l : List Seen). Contains l y) is here) in
            let are : entries ≡ at.1.forest.entries = sees_those (flat start before) at.0 at.1 seen entries stands (subst (λ (z : Seen). SeesCatalog z entries) (sym same) those) in
            subst (λ (l : List CatEntry). ServesAll entries l) are (λ name page serves. serves)
        by entries y those (inr there) =
            serves_on entries (flat start before) at.0 at.1 (catalog_continued start store past placed known (later ++ x ∷ []) before (later ++ x ∷ []) before deeper deeper (omega arith) c entries (y, there, those) at.0 at.1)

    own : LastServesAll es s.catalog → (seen_at x ≡ []) ⊎ ((seen : Seen) × (seen_at x ≡ seen ∷ [])) → LastServesAll (x ∷ es) (state_after (length before) x.what (seen_at x) s).catalog
    own rest (inl none) =
        subst (λ (l : List Seen). LastServesAll (x ∷ es) (state_after (length before) x.what l s).catalog) (sym none)
        (subst (LastServesAll (x ∷ es)) (sym (none_after (length before) x.what s)) (still_serves x es s.catalog (λ y has is. nothing y (subst (λ (l : List Seen). Contains l y) none has)) rest))
    own rest (inr (seen, is)) =
        subst (λ (t : CallerState). LastServesAll (x ∷ es) t.catalog) (sym (read_after (length before) x seen s is x.what refl))
        (elim (is_of_catalog seen) as (λ b. is_of_catalog seen ≡ b → LastServesAll (x ∷ es) (if b then Some seen.bytes else s.catalog)) [
          | true ↦ λ catalog. read seen is catalog
          | false ↦ λ other. still_serves x es s.catalog (λ y has place. no_catalog_read seen other (subst IsCatalogRead (sym (only seen y (subst (λ (l : List Seen). Contains l y) is has))) place)) rest
        ] refl)

pub last_serves : (start : Start) (store : Store) (past : List Entry) (placed : List Placed) → OpenedRun start store past → IsHistory past placed → LastCatalogsServe past
last_serves start store past placed run history = serves_at start store past placed (known_run start store past placed run.opened.sound run.opened run.run history)
