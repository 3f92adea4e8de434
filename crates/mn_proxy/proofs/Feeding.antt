-- What is on its way goes on by a reply, as the client's own list shows it: a Peek, and a
-- minitransaction.
use Rattle.std.proofs.Common.{◌≡◌, ◌≢◌, ◌⊎◌, inl, inr, ℕ, zero, suc, ◌+◌, ◌<◌, ◌≤◌, Bool, true, false, not, ◌&&◌, ◌||◌, List, [], ◌∷◌, ◌++◌, length, Option, Some, None, refl, sym, ap, subst, ◌∙◌, arith, Contains, slice_get}
use Rattle.std.specs.Prelude.{MatchOption, cond, filter, if◌then◌else◌, nat_eq, nat_lt, slice_index_or, slice_set}
use Rattle.std.specs.Option.{option_map, option_to_list}
use Rattle.std.specs.List.{AllByRecursion, flat_map, list_all, list_any}
use Rattle.std.proofs.lemmas.Bool.{eq-eqb, eqb-true, ltb-true}
use Rattle.std.proofs.lemmas.List.Elements.{Contains-append_left, Contains-append_right, Contains-push}
use Rattle.std.proofs.lemmas.List.Folds.{list_all-append, list_any-append}
use Rattle.mn_base.specs.Ids.{node_numbers, node_same, tid_same}
use Rattle.mn_base.specs.declared.ids.Addr.{Addr}
use Rattle.mn_base.specs.declared.ids.NodeNo.{NodeNo}
use Rattle.mn_base.specs.declared.ids.Tid.{Tid}
use Rattle.mn_base.specs.declared.op.Op.{Op}
use Rattle.mn_base.specs.declared.op.Op.TheVariants.{Tx, Snapshot, Branch, Scan, Versions}
use Rattle.mn_base.specs.declared.answer.Busy.{Busy}
use Rattle.mn_base.specs.declared.answer.Busy.TheVariants.{Moved}
use Rattle.mn_base.specs.declared.reply.Reply.{Reply}
use Rattle.mn_base.proofs.Booleans.{both_true, clash}
use Rattle.mn_mini.specs.declared.item.Item.{Item}
use Rattle.mn_mini.specs.declared.item.Item.TheVariants.{Compare, Read, Write}
use Rattle.mn_mini.specs.declared.part.PartItem.{PartItem}
use Rattle.mn_mini.specs.declared.part.PartItem.TheVariants as Bare
use Rattle.mn_mini.specs.declared.reply.NodeReply.{NodeReply}
use Rattle.mn_mini.specs.declared.reply.NodeReply.TheVariants as Say
use Rattle.mn_mini.specs.declared.request.Request.{Request}
use Rattle.mn_mini.specs.declared.request.Request.TheVariants as Ask
use Rattle.mn_mini.specs.Mini.{Mini, compare_at, is_named, part_of, participants_of, read_at, write_at}
use Rattle.mn_mini.specs.Sound.{AreReadsOf, Fits}
use Rattle.mn_mini.proofs.Parts.{same_self, same_true}
use Rattle.mn_mini.specs.Mini.{is_read}
use Rattle.mn_page.specs.declared.entry.CatEntry.{CatEntry}
use Rattle.mn_page.specs.Space.{catalog_size, catalog_start}
use Rattle.mn_runs.specs.declared.entry.Entry.{Entry}
use Rattle.mn_law.specs.Answers.{DiffersAs, LastIssue, RefusedAs, ShowsExpected, asks_at_first, asks_catalog}
use Rattle.mn_law.specs.Answers.{is_any_decide, is_catalog_call, is_down_cause, is_peek, is_refusal}
use Rattle.mn_law.specs.Answers.{nodes_of, part_compares}
use Rattle.mn_runs.specs.Calls.{Call, Issued, call_in, calls_of, is_done, issue_in, issues_of, since_begin}
use Rattle.mn_runs.specs.Clients.{is_plan}
use Rattle.mn_runs.specs.Seen.{Place, Seen, seen_at, seen_by, seen_in}
use Rattle.mn_law.specs.Places.{catalog_place, page_place}
use Rattle.mn_law.specs.Shown.{items_shown, shown_by}
use Rattle.mn_runs.proofs.Alone.{read_alone}
use Rattle.mn_coord.specs.Coordination.{Coordination, after_reply, fed, fed_at, is_stopped_at_last, participant, stage_in, stage_of, step_at, step_of, try_request}
use Rattle.mn_coord.specs.Legal.{Agrees as CoordAgrees, IsAnswered}
use Rattle.mn_coord.specs.declared.stage.Stage.{Stage}
use Rattle.mn_coord.specs.declared.stage.Stage.TheVariants as At
use Rattle.mn_coord.specs.declared.step.CoordStep.TheVariants.{Send}
use Rattle.mn_coord.proofs.Stages.{asking}
use Rattle.mn_proxy.specs.declared.errand.Errand.{Errand}
use Rattle.mn_proxy.specs.declared.errand.Errand.TheVariants as out
use Rattle.mn_proxy.specs.declared.errand.Purpose.{Purpose}
use Rattle.mn_proxy.specs.declared.errand.Purpose.TheVariants as by
use Rattle.mn_work.specs.declared.known.Known.{Known}
use Rattle.mn_work.specs.declared.work.Job.{Job}
use Rattle.mn_work.specs.declared.work.Job.TheVariants as at
use Rattle.mn_work.specs.declared.work.Work.{Work}
use Rattle.mn_proxy.specs.Agrees.{Agrees, ErrandAgrees, HasOut, HasOutIn, WorksBy}
use Rattle.mn_proxy.specs.Agrees.{AreComparesShown, AreOverNodes, IsAtRest, IsMadeFor}
use Rattle.mn_work.specs.Works.{HasBegun}
use Rattle.mn_proxy.specs.Agrees.{IsOpen, IsOwn, IsPlaceFor, IsUnderWay, JobAsked, KeptIsLast, MayPeekFor, MiniAgrees}
use Rattle.mn_proxy.specs.Agrees.{MiniFailed, MiniGoesOn, PeekedAgrees, ReadGoesOn}
use Rattle.mn_proxy.specs.Issues.{are_closed}
use Rattle.mn_proxy.specs.Jobs.{ScanShown}
use Rattle.mn_work.specs.Refusals.{compares_at, refusal_of}
use Rattle.mn_work.specs.Places.{place_of}
use Rattle.mn_proxy.specs.State.{IsOutIn, ProxyState}
use Rattle.mn_proxy.specs.Tries.{HasAsked, HasSentNone, Origin, WasRefused}
use Rattle.mn_proxy.specs.Turns.{AnswersPeek, IsFed, IsSoundErrand, IsSoundUnderWay, IsSoundWork, OwesNoDecide, OwesNone}
use Rattle.mn_proxy.specs.Turns.{OwesNoneIn, WaitsFor, with_work}
use Rattle.mn_work.specs.Works.{AsksCountFor, AsksPageFor, IsStartable, IsToAsk}
use Rattle.mn_work.specs.Walks.{IfLater}
use Rattle.mn_proxy.proofs.CatalogsShow.{has_asked}
use Rattle.mn_proxy.proofs.Issues.{GoesOn, IsLater, TriesNone, called_later, closed_later, closed_since, earlier_differ, fresh_peeked, fresh_step, last_stays, last_tid, no_issue, peek_recovers_none, peek_tries_none, since_on, step_recovers_none, step_tries_none}
use Rattle.mn_proxy.proofs.Issuing.{own_with}
use Rattle.mn_proxy.proofs.Last.{kept_still_last, shown_at}
use Rattle.mn_proxy.proofs.Opens.{IsQuiet, SendsNone, asked_on, began_on, open_on, own_on, scan_shown_quiet, under_way_still}
use Rattle.mn_proxy.proofs.Tries.{NoPeek, decided_on, first_on, refused_on, spares_on}
use Rattle.mn_work.proofs.Works.{startable}

-- Later tries

pub later_told : (failed : ℕ) (P : Type 0) → P → IfLater failed P
later_told zero P p = tt
later_told (suc n) P p = p

pub later_by : (failed : ℕ) (P Q : Type 0) → (P → Q) → IfLater failed P → IfLater failed Q
later_by zero P Q f p = tt
later_by (suc n) P Q f p = f p

later_both : (failed : ℕ) (P Q R : Type 0) → (P → Q → R) → IfLater failed P → IfLater failed Q
    → IfLater failed R
later_both zero P Q R f p q = tt
later_both (suc n) P Q R f p q = f p q

-- A call

-- what is so of a call is so of all calls of its entry
call_all : (f : Call → Bool) (e : Entry) (n : NodeNo) (request : Request) (reply : NodeReply)
    → IsAnswered e n request reply
    → f (record { node = n; request = request; reply = reply }) ≡ true
    → list_all f (call_in e.node e.what) ≡ true
call_all f e n request reply a is = ap (list_all f) a ∙ ap (λ b. b && true) is

call_any : (f : Call → Bool) (e : Entry) (es : List Entry) (n : NodeNo) (request : Request)
    (reply : NodeReply) → IsAnswered e n request reply
    → f (record { node = n; request = request; reply = reply }) ≡ true
    → list_any f (calls_of (e ∷ es)) ≡ true
call_any f e es n request reply a is =
    list_any-append f (call_in e.node e.what) (calls_of es)
    ∙ ap (λ (l : List Call). list_any f l || list_any f (calls_of es)) a
    ∙ ap (λ b. (b || false) || list_any f (calls_of es)) is

call_seen : (e : Entry) (n : NodeNo) (request : Request) (reply : NodeReply)
    → IsAnswered e n request reply → seen_by n request reply ≡ [] → seen_at e ≡ []
call_seen e n request reply a none =
    ap (flat_map (λ (c : Call). seen_by c.node c.request c.reply)) a
    ∙ ap (λ (l : List Seen). l ++ []) none

call_gives : (e : Entry) (n : NodeNo) (request : Request) (reply : NodeReply)
    → IsAnswered e n request reply → shown_by n request reply ≡ [] → shown_at e ≡ []
call_gives e n request reply a none =
    ap (flat_map (λ (c : Call). shown_by c.node c.request c.reply)) a
    ∙ ap (λ (l : List Seen). l ++ []) none

-- a reply that isn't Done brings nothing
undone_unseen : (n : NodeNo) (request : Request) (reply : NodeReply) → is_done reply ≡ false
    → seen_by n request reply ≡ []
undone_unseen n (Ask.Exec tid part) (Say.Done reads) f = absurd cc
undone_unseen n (Ask.Exec tid []) reply f = refl
undone_unseen n (Ask.Exec tid (Bare.Compare s b ∷ part)) reply f = refl
undone_unseen n (Ask.Exec tid (Bare.Write s b ∷ part)) reply f = refl
undone_unseen n (Ask.Exec tid (Bare.Read s k ∷ (item ∷ part))) reply f = refl
undone_unseen n (Ask.Exec tid (Bare.Read s k ∷ [])) reply f = refl
undone_unseen n (Ask.Prepare tid ps part) reply f = refl
undone_unseen n (Ask.Decide tid verdict) reply f = refl
undone_unseen n (Ask.Force tid) reply f = refl
undone_unseen n Ask.List reply f = refl
undone_unseen n (Ask.Peek s k) reply f = refl

-- nor does it give anything, unless it answers a Peek
undone_ungiven : (n : NodeNo) (request : Request) (reply : NodeReply) → is_done reply ≡ false
    → is_peek request ≡ false → shown_by n request reply ≡ []
undone_ungiven n (Ask.Exec tid part) (Say.Done reads) f g = absurd cc
undone_ungiven n (Ask.Exec tid part) reply f g = refl
undone_ungiven n (Ask.Prepare tid ps part) reply f g = refl
undone_ungiven n (Ask.Decide tid verdict) reply f g = refl
undone_ungiven n (Ask.Force tid) reply f g = refl
undone_ungiven n Ask.List reply f g = refl
undone_ungiven n (Ask.Peek s k) reply f g = absurd cc

-- a refusal isn't Done
refusal_undone : (reply : NodeReply) → is_refusal reply ≡ true → is_done reply ≡ false
refusal_undone (Say.Done reads) f = absurd cc
refusal_undone (Say.BadLock s k h) f = refl
refusal_undone (Say.BadCompare i found) f = refl
refusal_undone Say.BadForced f = refl
refusal_undone (Say.Vote v) f = refl
refusal_undone Say.Decided f = refl
refusal_undone (Say.Listed d) f = refl
refusal_undone (Say.Peeked b) f = refl
refusal_undone Say.Down f = refl
refusal_undone Say.Stopped f = refl
refusal_undone Say.NoMemory f = refl

-- Parts

is_no_read : PartItem → Bool
is_no_read (Bare.Read s k) = false
is_no_read item = true

reads_none : List PartItem → Bool
reads_none part = list_all is_no_read part

-- an Exec of a part with no reads brings nothing
unread_unseen : (n : NodeNo) (tid : Tid) (part : List PartItem) (reply : NodeReply)
    → reads_none part ≡ true → seen_by n (Ask.Exec tid part) reply ≡ []
unfolding reads_none is_no_read
unread_unseen n tid [] reply f = refl
unread_unseen n tid (Bare.Compare s b ∷ part) reply f = refl
unread_unseen n tid (Bare.Write s b ∷ part) reply f = refl
unread_unseen n tid (Bare.Read s k ∷ part) reply f = absurd cc

-- nor gives anything
items_ungiven : (n : NodeNo) (part : List PartItem) (reads : List (List ℕ)) → reads_none part ≡ true
    → items_shown n part reads ≡ []
unfolding reads_none is_no_read
items_ungiven n [] reads f = refl
items_ungiven n (Bare.Compare s b ∷ part) reads f = items_ungiven n part reads f
items_ungiven n (Bare.Write s b ∷ part) reads f = items_ungiven n part reads f
items_ungiven n (Bare.Read s k ∷ part) reads f = absurd cc

unread_ungiven : (n : NodeNo) (tid : Tid) (part : List PartItem) (reply : NodeReply)
    → reads_none part ≡ true → shown_by n (Ask.Exec tid part) reply ≡ []
unread_ungiven n tid part (Say.Done reads) f = items_ungiven n part reads f
unread_ungiven n tid part reply f = refl

compares_unread : (n : NodeNo) (items : List Item) → reads_none (flat_map (compare_at n) items) ≡ true
unfolding reads_none is_no_read
compares_unread n [] = refl
compares_unread n (Compare node start bytes ∷ items) =
    elim (node_same node n) as (λ b. list_all is_no_read ((if b then Bare.Compare start bytes ∷ [] else []) ++ flat_map (compare_at n) items) ≡ true) [ true ↦ compares_unread n items | false ↦ compares_unread n items ]
compares_unread n (Read node start k ∷ items) = compares_unread n items
compares_unread n (Write node start bytes ∷ items) = compares_unread n items

writes_unread : (n : NodeNo) (items : List Item) → reads_none (flat_map (write_at n) items) ≡ true
unfolding reads_none is_no_read
writes_unread n [] = refl
writes_unread n (Write node start bytes ∷ items) =
    elim (node_same node n) as (λ b. list_all is_no_read ((if b then Bare.Write start bytes ∷ [] else []) ++ flat_map (write_at n) items) ≡ true) [ true ↦ writes_unread n items | false ↦ writes_unread n items ]
writes_unread n (Read node start k ∷ items) = writes_unread n items
writes_unread n (Compare node start bytes ∷ items) = writes_unread n items

plan_unread : (n : NodeNo) (items : List Item) → is_plan items ≡ true → flat_map (read_at n) items ≡ []
plan_unread n [] e = refl
plan_unread n (Compare node start bytes ∷ items) e = plan_unread n items e
plan_unread n (Read node start k ∷ items) e = absurd cc
plan_unread n (Write node start bytes ∷ items) e = plan_unread n items e

joined_unread : (xs ys : List PartItem) → reads_none xs ≡ true → reads_none ys ≡ true
    → reads_none (xs ++ ys) ≡ true
unfolding reads_none
joined_unread xs ys p q = list_all-append is_no_read xs ys ∙ both_true _ _ p q

-- the part of a plan has no reads
plan_part_unread : (mini : Mini) (n : NodeNo) → is_plan mini.items ≡ true
    → reads_none (part_of mini n) ≡ true
unfolding reads_none
plan_part_unread mini n plan =
    joined_unread (flat_map (compare_at n) mini.items ++ flat_map (read_at n) mini.items) (flat_map (write_at n) mini.items)
    (joined_unread (flat_map (compare_at n) mini.items) (flat_map (read_at n) mini.items) (compares_unread n mini.items) (ap (list_all is_no_read) (plan_unread n mini.items plan)))
    (writes_unread n mini.items)

plan_unseen : (tid : Tid) (mini : Mini) (n : NodeNo) (reply : NodeReply) → is_plan mini.items ≡ true
    → seen_by n (try_request tid mini n) reply ≡ []
plan_unseen tid mini n reply plan = by (nat_eq (length (participants_of mini)) 1)
  where
    by : (b : Bool)
        → seen_by n (if b then Ask.Exec tid (part_of mini n) else Ask.Prepare tid (participants_of mini) (part_of mini n)) reply ≡ []
    by true = unread_unseen n tid (part_of mini n) reply (plan_part_unread mini n plan)
    by false = refl

plan_ungiven : (tid : Tid) (mini : Mini) (n : NodeNo) (reply : NodeReply) → is_plan mini.items ≡ true
    → shown_by n (try_request tid mini n) reply ≡ []
plan_ungiven tid mini n reply plan = by (nat_eq (length (participants_of mini)) 1)
  where
    by : (b : Bool)
        → shown_by n (if b then Ask.Exec tid (part_of mini n) else Ask.Prepare tid (participants_of mini) (part_of mini n)) reply ≡ []
    by true = unread_ungiven n tid (part_of mini n) reply (plan_part_unread mini n plan)
    by false = refl

-- a try is no Peek
try_no_peek : (tid : Tid) (mini : Mini) (n : NodeNo) → is_peek (try_request tid mini n) ≡ false
try_no_peek tid mini n = by (nat_eq (length (participants_of mini)) 1)
  where
    by : (b : Bool)
        → is_peek (if b then Ask.Exec tid (part_of mini n) else Ask.Prepare tid (participants_of mini) (part_of mini n)) ≡ false
    by true = refl
    by false = refl

-- Compares

compares_joined : (xs ys : List PartItem)
    → part_compares (xs ++ ys) ≡ part_compares xs ++ part_compares ys
compares_joined [] ys = refl
compares_joined (Bare.Compare s b ∷ xs) ys = ap (λ (l : List (ℕ × List ℕ)). (s, b) ∷ l) (compares_joined xs ys)
compares_joined (Bare.Read s k ∷ xs) ys = compares_joined xs ys
compares_joined (Bare.Write s b ∷ xs) ys = compares_joined xs ys

of_compares : (n : NodeNo) (items : List Item)
    → part_compares (flat_map (compare_at n) items) ≡ compares_at n items
of_compares n [] = refl
of_compares n (Compare node start bytes ∷ items) =
    elim (node_same node n) as (λ b. part_compares ((if b then Bare.Compare start bytes ∷ [] else []) ++ flat_map (compare_at n) items) ≡ option_to_list (if b then Some (start, bytes) else None) ++ compares_at n items) [ true ↦ ap (λ (l : List (ℕ × List ℕ)). (start, bytes) ∷ l) (of_compares n items) | false ↦ of_compares n items ]
of_compares n (Read node start k ∷ items) = of_compares n items
of_compares n (Write node start bytes ∷ items) = of_compares n items

of_reads : (n : NodeNo) (items : List Item) → part_compares (flat_map (read_at n) items) ≡ []
of_reads n [] = refl
of_reads n (Compare node start bytes ∷ items) = of_reads n items
of_reads n (Read node start k ∷ items) =
    elim (node_same node n) as (λ b. part_compares ((if b then Bare.Read start k ∷ [] else []) ++ flat_map (read_at n) items) ≡ []) [ true ↦ of_reads n items | false ↦ of_reads n items ]
of_reads n (Write node start bytes ∷ items) = of_reads n items

of_writes : (n : NodeNo) (items : List Item) → part_compares (flat_map (write_at n) items) ≡ []
of_writes n [] = refl
of_writes n (Compare node start bytes ∷ items) = of_writes n items
of_writes n (Read node start k ∷ items) = of_writes n items
of_writes n (Write node start bytes ∷ items) =
    elim (node_same node n) as (λ b. part_compares ((if b then Bare.Write start bytes ∷ [] else []) ++ flat_map (write_at n) items) ≡ []) [ true ↦ of_writes n items | false ↦ of_writes n items ]

none_more : (xs ys : List (ℕ × List ℕ)) → ys ≡ [] → xs ++ ys ≡ xs
none_more [] ys none = none
none_more (x ∷ xs) ys none = ap (λ (l : List (ℕ × List ℕ)). x ∷ l) (none_more xs ys none)

-- a part compares what its minitransaction compares there
compares_of_part : (mini : Mini) (n : NodeNo)
    → part_compares (part_of mini n) ≡ compares_at n mini.items
compares_of_part mini n =
    compares_joined (flat_map (compare_at n) mini.items ++ flat_map (read_at n) mini.items) (flat_map (write_at n) mini.items)
    ∙ (none_more (part_compares (flat_map (compare_at n) mini.items ++ flat_map (read_at n) mini.items)) _ (of_writes n mini.items)
    ∙ (compares_joined (flat_map (compare_at n) mini.items) (flat_map (read_at n) mini.items)
    ∙ (none_more (part_compares (flat_map (compare_at n) mini.items)) _ (of_reads n mini.items)
    ∙ of_compares n mini.items)))

-- a compare at a node is one of the items
compare_there : (n : NodeNo) (items : List Item) (i : ℕ) (at : ℕ × List ℕ)
    → slice_get (compares_at n items) i ≡ Some at → Contains items (Compare n at.0 at.1)
compare_there n [] i at is = absurd cc
compare_there n (Read node start k ∷ items) i at is =
    Contains-append_right (Read node start k ∷ []) items (Compare n at.0 at.1) (compare_there n items i at is)
compare_there n (Write node start bytes ∷ items) i at is =
    Contains-append_right (Write node start bytes ∷ []) items (Compare n at.0 at.1) (compare_there n items i at is)
compare_there n (Compare node start bytes ∷ items) i at is =
    here (node_same node n) refl i is (λ j e. compare_there n items j at e)
  where
    more : (j : ℕ) → slice_get (compares_at n items) j ≡ Some at
        → ((j : ℕ) → slice_get (compares_at n items) j ≡ Some at → Contains items (Compare n at.0 at.1))
        → Contains (Compare node start bytes ∷ items) (Compare n at.0 at.1)
    more j e rest =
        Contains-append_right (Compare node start bytes ∷ []) items (Compare n at.0 at.1) (rest j e)

    here : (b : Bool) → node_same node n ≡ b → (j : ℕ)
        → slice_get (option_to_list (if b then Some (start, bytes) else None) ++ compares_at n items) j ≡ Some at
        → ((j : ℕ) → slice_get (compares_at n items) j ≡ Some at → Contains items (Compare n at.0 at.1))
        → Contains (Compare node start bytes ∷ items) (Compare n at.0 at.1)
    here true same zero e rest =
        let first : (start, bytes) ≡ at = cc in
        let is : Compare node start bytes ≡ Compare n at.0 at.1 = ap (λ (m : NodeNo). Compare m start bytes) (same_true node n same)
        ∙ ap (λ (x : ℕ × List ℕ). Compare n x.0 x.1) first in
        subst (λ (x : Item). Contains (Compare node start bytes ∷ items) x) is
        (Contains-append_left (Compare node start bytes ∷ []) items (Compare node start bytes) (Contains-push [] (Compare node start bytes)))
    here true same (suc j) e rest = more j e rest
    here false same j e rest = more j e rest

-- Why a participant refused

module _ (seens : List Seen) (tid : Tid) (mini : Mini) (n : NodeNo) (busy : Busy)
    (shown : (item : ℕ) (at : ℕ × List ℕ) → slice_get (compares_at n mini.items) item ≡ Some at
    → ShowsExpected seens n at.0 at.1) where
  differs_by : (item : ℕ) (found : List ℕ) (o : Option (ℕ × List ℕ))
      → slice_get (compares_at n mini.items) item ≡ o
      → option_map (λ c. Moved n c.0 c.1 found) o ≡ Some busy
      → DiffersAs seens n (part_of mini n) item found busy
  differs_by item found None is told = absurd cc
  differs_by item found (Some at) is told =
      (at.0, at.1, ap (λ (l : List (ℕ × List ℕ)). slice_get l item) (compares_of_part mini n) ∙ is, shown item at is, cc)

  refused_as : (b : Bool) (reply : NodeReply)
      → Fits (if b then Ask.Exec tid (part_of mini n) else Ask.Prepare tid (participants_of mini) (part_of mini n)) reply
      → is_refusal reply ≡ true → refusal_of tid mini n reply ≡ Some busy
      → RefusedAs seens n (if b then Ask.Exec tid (part_of mini n) else Ask.Prepare tid (participants_of mini) (part_of mini n)) reply busy
  refused_as true (Say.BadLock s k h) fits is told = cc
  refused_as false (Say.BadLock s k h) fits is told = cc
  refused_as true (Say.BadCompare item found) fits is told =
      differs_by item found (slice_get (compares_at n mini.items) item) refl told
  refused_as false (Say.BadCompare item found) fits is told =
      differs_by item found (slice_get (compares_at n mini.items) item) refl told
  refused_as true Say.BadForced fits is told = absurd fits
  refused_as false Say.BadForced fits is told = cc
  refused_as b (Say.Done reads) fits is told = absurd cc
  refused_as b (Say.Vote v) fits is told = absurd cc
  refused_as b Say.Decided fits is told = absurd cc
  refused_as b (Say.Listed d) fits is told = absurd cc
  refused_as b (Say.Peeked bytes) fits is told = absurd cc
  refused_as b Say.Down fits is told = absurd cc
  refused_as b Say.Stopped fits is told = absurd cc
  refused_as b Say.NoMemory fits is told = absurd cc

-- A read has one participant

-- each participant is at an item
named_at : (t : NodeNo → Bool) (ns : List NodeNo) (i : ℕ) (d : NodeNo) → i < length (filter t ns)
    → t (slice_index_or (filter t ns) i d) ≡ true
named_at t [] i d low = absurd (omega arith)
named_at t (n ∷ ns) i d low = at (t n) refl i low (λ j less. named_at t ns j d less)
  where
    at : (b : Bool) → t n ≡ b → (j : ℕ) → j < length (cond b (n ∷ filter t ns) (filter t ns))
        → ((j : ℕ) → j < length (filter t ns) → t (slice_index_or (filter t ns) j d) ≡ true)
        → t (slice_index_or (cond b (n ∷ filter t ns) (filter t ns)) j d) ≡ true
    at true is zero less rest = is
    at true is (suc j) less rest = rest j (omega arith)
    at false is j less rest = rest j less

-- the minitransaction reads this place alone
abbrev pub ReadsPlace : Mini → Place → Type 0
ReadsPlace mini place = mini.items ≡ Read place.node place.start place.length ∷ []

pub read_few : (mini : Mini) (place : Place) → ReadsPlace mini place
    → length (participants_of mini) ≤ 1
read_few mini place is = read_alone mini.nodes mini.items (ap is_read is)

pub read_one : (mini : Mini) (place : Place) → ReadsPlace mini place
    → 1 ≤ length (participants_of mini) → nat_eq (length (participants_of mini)) 1 ≡ true
read_one mini place is some =
    let few = read_few mini place is in eq-eqb (length (participants_of mini)) 1 (omega arith)

-- the read of its participant
pub record AsksRead (c : Coordination) (place : Place) : Type 0 where
  pub none : c.done ≡ 0
  pub node : participant c c.done ≡ place.node
  pub request : try_request c.tid c.mini (participant c c.done)
      ≡ Ask.Exec c.tid (Bare.Read place.start place.length ∷ [])

read_part : (mini : Mini) (place : Place) (n : NodeNo) → ReadsPlace mini place
    → node_same place.node n ≡ true → part_of mini n ≡ Bare.Read place.start place.length ∷ []
read_part mini place n is same =
    ap (λ (items : List Item). flat_map (compare_at n) items ++ flat_map (read_at n) items ++ flat_map (write_at n) items) is
    ∙ ap (λ b. ((if b then Bare.Read place.start place.length ∷ [] else []) ++ []) ++ []) same

-- what a coordinator asks next
pub record IsAsked (c : Coordination) (node : NodeNo) (request : Request) : Type 0 where
  pub unrefused : c.refused ≡ None
  pub next : c.done < length (participants_of c.mini)
  pub node_is : participant c c.done ≡ node
  pub request_is : try_request c.tid c.mini (participant c c.done) ≡ request

pub asked_of : (c : Coordination) (node : NodeNo) (request : Request) → stage_in c ≡ At.Ask
    → step_of c ≡ Send node request → IsAsked c node request
asked_of c node request stage step =
    let parts = asking (length (participants_of c.mini)) c.done c.refused c.told c.decided stage in
    let sent : Send (participant c c.done) (try_request c.tid c.mini (participant c c.done)) ≡ Send node request = subst (λ (s : Stage). step_at c s ≡ Send node request) stage step in
    record { unrefused = parts.0; next = parts.1; node_is = cc; request_is = cc }

pub asks_read : (c : Coordination) (place : Place) → ReadsPlace c.mini place
    → c.done < length (participants_of c.mini) → AsksRead c place
asks_read c place is next =
    let few = read_few c.mini place is in
    let named : is_named c.mini.items (participant c c.done) ≡ true = named_at (is_named c.mini.items) (node_numbers c.mini.nodes) c.done (record { 0 = 0 }) next in
    let same : node_same place.node (participant c c.done) ≡ true = alone (node_same place.node (participant c c.done)) (sym (ap (λ (items : List Item). is_named items (participant c c.done)) is) ∙ named) in
    record {
      none = omega arith;
      node = sym (same_true place.node (participant c c.done) same);
      request = ap (λ b. if b then Ask.Exec c.tid (part_of c.mini (participant c c.done)) else Ask.Prepare c.tid (participants_of c.mini) (part_of c.mini (participant c c.done))) (read_one c.mini place is (omega arith))
          ∙ ap (Ask.Exec c.tid) (read_part c.mini place (participant c c.done) is same);
    }
  where
    alone : (b : Bool) → (b || false) ≡ true → b ≡ true
    alone true e = refl
    alone false e = absurd cc

-- its one string of bytes
pub record IsOneRead (reads : List (List ℕ)) (size : ℕ) : Type 0 where
  pub bytes : List ℕ
  pub reads_are : reads ≡ bytes ∷ []
  pub long : length bytes ≡ size

one_read : (reads : List (List ℕ)) (start size : ℕ) → AreReadsOf reads (Bare.Read start size ∷ [])
    → IsOneRead reads size
one_read [] start size fits = absurd fits
one_read (bytes ∷ []) start size fits = record { bytes = bytes; reads_are = refl; long = fits.0 }
one_read (bytes ∷ (other ∷ reads)) start size fits = absurd (fits.1)

-- the reads of one participant
pub only_reads : (all : List (List (List ℕ))) (reads : List (List ℕ)) → length all ≡ 1
    → slice_set all 0 reads ≡ reads ∷ []
only_reads [] reads e = absurd (omega arith)
only_reads (first ∷ []) reads e = refl
only_reads (first ∷ (second ∷ rest)) reads e = absurd (omega arith)

-- A request for the catalog

-- it goes to node 0
abbrev pub asks_there : NodeNo → Request → Bool
asks_there n request = nat_eq n.0 0 && asks_catalog request

-- a job that has begun, by a kept catalog, is not to ask for one
begun_not : (entries : List CatEntry) (job : Job) → job ≢ at.Start → IsToAsk (Some entries) job → ⊥
begun_not entries job begun (inl start) = begun start
begun_not entries job begun (inr none) = absurd cc

-- with the call its try has asked for the catalog, where it had to, and with no other than its first
abbrev pub AsksAtFirst : ℕ → Op → Origin → List Entry → Type 0
AsksAtFirst failed op from try =
    HasAsked failed op from try × (asks_at_first (calls_of try) ≡ true)

asked_by : (nodes failed : ℕ) (op : Op) (now : List Entry) (from : Origin) (try : List Entry)
    (e : Entry) (n : NodeNo) (request : Request) (reply : NodeReply)
    (catalog : Option (List CatEntry)) (job : Job) → IsAnswered e n request reply
    → (IsToAsk catalog job → asks_there n request ≡ true)
    → ((IsToAsk catalog job → ⊥) → asks_there n request ≡ false)
    → asks_at_first (calls_of try) ≡ true
    → JobAsked nodes failed op now from try catalog job → AsksAtFirst failed op from (e ∷ try)
asked_by nodes failed op now from try e n request reply catalog job a start spare first asked =
    by catalog job start spare asked
  where
    asks : asks_there n request ≡ true → HasSentNone try → AsksAtFirst failed op from (e ∷ try)
    asks is sent = (
      has_asked failed op from (e ∷ try) (call_any (λ (c : Call). asks_there c.node c.request) e try n request reply a is),
      first_on e try (record { node = n; request = request; reply = reply }) a sent,
    )

    spares : asks_there n request ≡ false → HasAsked failed op from try → AsksAtFirst failed op from (e ∷ try)
    spares is asked = (
      asked_on failed op from try e asked,
      spares_on e try (call_all (λ (c : Call). not (asks_there c.node c.request)) e n request reply a (ap not is)) first,
    )

    by : (o : Option (List CatEntry)) (j : Job) → (IsToAsk o j → asks_there n request ≡ true)
        → ((IsToAsk o j → ⊥) → asks_there n request ≡ false) → JobAsked nodes failed op now from try o j
        → AsksAtFirst failed op from (e ∷ try)
    by None j start spare asked = asks (start (inr refl)) asked
    by (Some entries) at.Start start spare asked = asks (start (inl refl)) asked
    by (Some entries) (at.Get d) start spare asked = spares (spare (begun_not entries (at.Get d) (λ e. absurd cc))) asked.0
    by (Some entries) (at.Transaction t) start spare asked = spares (spare (begun_not entries (at.Transaction t) (λ e. absurd cc))) asked.0
    by (Some entries) (at.Child t) start spare asked = spares (spare (begun_not entries (at.Child t) (λ e. absurd cc))) asked.0
    by (Some entries) (at.Scan s) start spare asked = spares (spare (begun_not entries (at.Scan s) (λ e. absurd cc))) asked.0

catalog_there : (n : NodeNo) (tid : Tid) (place : Place) (request : Request) → place ≡ catalog_place
    → n ≡ place.node → request ≡ Ask.Exec tid (Bare.Read place.start place.length ∷ [])
    → asks_there n request ≡ true
catalog_there n tid place request is at asks =
    ap (λ (m : NodeNo). asks_there m request) at
    ∙ (ap (λ (r : Request). asks_there place.node r) asks
    ∙ ap (λ (p : Place). asks_there p.node (Ask.Exec tid (Bare.Read p.start p.length ∷ []))) is)

-- a page, a count and a plan are no catalog
abbrev pub IsApart : Place → Type 0
IsApart place = (nat_eq place.start catalog_start && nat_eq place.length catalog_size) ≡ false

pub and_false : (b : Bool) → (b && false) ≡ false
and_false true = refl
and_false false = refl

pub page_is_apart : (place : Place) (addr : Addr) → place ≡ page_place addr → IsApart place
page_is_apart place addr is =
    ap (λ (p : Place). nat_eq p.start catalog_start && nat_eq p.length catalog_size) is
    ∙ and_false (nat_eq (page_place addr).start catalog_start)

pub count_is_apart : (job : Job) (place : Place) → IsPlaceFor job by.Count place → IsApart place
count_is_apart at.Start place is = absurd is
count_is_apart (at.Get d) place is = absurd is
count_is_apart (at.Transaction a) place is =
    ap (λ (p : Place). nat_eq p.start catalog_start && nat_eq p.length catalog_size) is
count_is_apart (at.Child c) place is =
    ap (λ (p : Place). nat_eq p.start catalog_start && nat_eq p.length catalog_size) is
count_is_apart (at.Scan s) place is = absurd is

unread_asks_none : (tid : Tid) (part : List PartItem) → reads_none part ≡ true
    → asks_catalog (Ask.Exec tid part) ≡ false
unfolding reads_none is_no_read
unread_asks_none tid [] none = refl
unread_asks_none tid (Bare.Compare s b ∷ part) none = refl
unread_asks_none tid (Bare.Read s k ∷ part) none = absurd cc
unread_asks_none tid (Bare.Write s b ∷ part) none = refl

plan_spared : (tid : Tid) (mini : Mini) (n : NodeNo) → is_plan mini.items ≡ true
    → asks_there n (try_request tid mini n) ≡ false
plan_spared tid mini n plan = by (nat_eq (length (participants_of mini)) 1)
  where
    by : (b : Bool)
        → asks_there n (if b then Ask.Exec tid (part_of mini n) else Ask.Prepare tid (participants_of mini) (part_of mini n)) ≡ false
    by true =
        ap (λ (b : Bool). nat_eq n.0 0 && b) (unread_asks_none tid (part_of mini n) (plan_part_unread mini n plan)) ∙ and_false (nat_eq n.0 0)
    by false = and_false (nat_eq n.0 0)

pub place_spared : (n : NodeNo) (tid : Tid) (place : Place) (request : Request) → IsApart place
    → request ≡ Ask.Exec tid (Bare.Read place.start place.length ∷ []) → asks_there n request ≡ false
place_spared n tid place request apart asks =
    ap (λ (r : Request). asks_there n r) asks ∙ (ap (λ b. nat_eq n.0 0 && b) apart ∙ and_false (nat_eq n.0 0))

-- A participant that was asked

-- the try goes on that asked it; a plan's compares are shown; and a try that hasn't begun, or has no
-- catalog, asks for the catalog, and no other does
pub record IsAskedBy (es : List Entry) (known : Known) (w : Work) (c : Coordination) : Type 0 where
  pub going : IsOpen es known w
  pub shown : IfLater w.failed ((item : ℕ) (at : ℕ × List ℕ)
      → slice_get (compares_at (participant c c.done) c.mini.items) item ≡ Some at
      → ShowsExpected (seen_in going.try) (participant c c.done) at.0 at.1)
  pub begins : IsToAsk known.catalog w.job
      → asks_there (participant c c.done) (try_request c.tid c.mini (participant c c.done)) ≡ true
  pub spares : (IsToAsk known.catalog w.job → ⊥)
      → asks_there (participant c c.done) (try_request c.tid c.mini (participant c c.done)) ≡ false

read_compares_none : (n : NodeNo) (items : List Item) (place : Place) (item : ℕ) (at : ℕ × List ℕ)
    → items ≡ Read place.node place.start place.length ∷ []
    → slice_get (compares_at n items) item ≡ Some at → ⊥
read_compares_none n items place item at is e =
    let none : slice_get {X = ℕ × List ℕ} [] item ≡ Some at = subst (λ (l : List Item). slice_get (compares_at n l) item ≡ Some at) is e in
    absurd cc

-- a read that was asked
read_asked : (es : List Entry) (known : Known) (w : Work) (purpose : Purpose) (c : Coordination)
    (place : Place) → ReadGoesOn es known w purpose c.done c.reads → ReadsPlace c.mini place
    → c.done < length (participants_of c.mini)
    → (IsToAsk known.catalog w.job → place ≡ catalog_place)
    → ((IsToAsk known.catalog w.job → ⊥) → IsApart place) → IsAskedBy es known w c
read_asked es known w purpose c place goes is next begins spares =
    let asks = asks_read c place is next in
    record {
      going = subst (λ (done : ℕ). ReadGoesOn es known w purpose done c.reads) asks.none goes;
      shown = later_told w.failed _ (λ item at e. absurd (read_compares_none (participant c c.done) c.mini.items place item at is e));
      begins = λ start. catalog_there (participant c c.done) c.tid place (try_request c.tid c.mini (participant c c.done)) (begins start) asks.node asks.request;
      spares = λ begun. place_spared (participant c c.done) c.tid place (try_request c.tid c.mini (participant c c.done)) (spares begun) asks.request;
    }

page_begun : (known : Known) (w : Work) (addr : Addr) → WaitsFor known w (by.Page addr)
    → IsToAsk known.catalog w.job → ⊥
page_begun known w addr waits (inl start) =
    unasked w.op (subst (λ (j : Job). AsksPageFor known w.op j addr) start (waits.1).0)
  where
    unasked : (op : Op) → AsksPageFor known op at.Start addr → ⊥
    unasked (Tx name steps) asks = absurd asks
    unasked (Snapshot name child) asks = absurd asks
    unasked (Branch name child) asks = absurd asks
    unasked (Scan name low high limit) asks = absurd asks
    unasked Versions asks = absurd asks
page_begun known w addr waits (inr none) =
    by w.op w.job (startable known w.op w.job none waits.0) (waits.1).0
  where
    by : (op : Op) (job : Job) → IsStartable op job → AsksPageFor known op job addr → ⊥
    by (Tx name steps) at.Start starts asks = absurd asks
    by (Snapshot name child) at.Start starts asks = absurd asks
    by (Branch name child) at.Start starts asks = absurd asks
    by (Scan name low high limit) at.Start starts asks = absurd asks
    by Versions at.Start starts asks = absurd asks
    by (Scan name low high limit) (at.Scan s) starts asks = asks.1 none
    by op job starts asks = absurd starts

count_begun : (known : Known) (w : Work) → WaitsFor known w by.Count
    → IsToAsk known.catalog w.job → ⊥
count_begun known w waits (inl start) =
    unasked w.op (subst (λ (j : Job). AsksCountFor w.op j) start waits.1.0)
  where
    unasked : (op : Op) → AsksCountFor op at.Start → ⊥
    unasked (Tx name steps) asks = absurd asks
    unasked (Snapshot name child) asks = absurd asks
    unasked (Branch name child) asks = absurd asks
    unasked (Scan name low high limit) asks = absurd asks
    unasked Versions asks = absurd asks
count_begun known w waits (inr none) =
    by w.op w.job (startable known w.op w.job none waits.0) waits.1.0
  where
    by : (op : Op) (job : Job) → IsStartable op job → AsksCountFor op job → ⊥
    by (Tx name steps) at.Start starts asks = absurd asks
    by (Snapshot name child) at.Start starts asks = absurd asks
    by (Branch name child) at.Start starts asks = absurd asks
    by (Scan name low high limit) at.Start starts asks = absurd asks
    by Versions at.Start starts asks = absurd asks
    by (Scan name low high limit) (at.Scan s) starts asks = absurd asks
    by op job starts asks = absurd starts

plan_begun : (known : Known) (w : Work) (reply : Reply) → HasBegun w.job
    → WaitsFor known w (by.Plan reply) → IsToAsk known.catalog w.job → ⊥
plan_begun known w reply begun waits (inl start) = subst HasBegun start begun
plan_begun known w reply begun waits (inr none) = waits.1 none

pub asked_by_purpose : (es before : List Entry) (known : Known) (w : Work) (purpose : Purpose)
    (c : Coordination) → MiniGoesOn es known w c purpose → IsMadeFor before w.op w.job purpose c.mini
    → WaitsFor known w purpose → c.done < length (participants_of c.mini) → IsAskedBy es known w c
asked_by_purpose es before known w by.Catalog c goes (place, at, is) waits next =
    read_asked es known w by.Catalog c place goes is next (λ start. at) (λ begun. absurd (begun waits.1.1))
asked_by_purpose es before known w (by.Page addr) c goes (place, at, is) waits next =
    read_asked es known w (by.Page addr) c place goes is next (λ start. absurd (page_begun known w addr waits start))
    (λ begun. page_is_apart place addr at)
asked_by_purpose es before known w by.Count c goes (place, at, is) waits next =
    read_asked es known w by.Count c place goes is next (λ start. absurd (count_begun known w waits start))
    (λ begun. count_is_apart w.job place at)
asked_by_purpose es before known w (by.Plan reply) c (going, shown) (plan, made, begun) waits next =
    record {
      going = going;
      shown = later_by w.failed _ _ (λ (all : AreComparesShown (seen_in going.try) c.mini) item at e.
          all (participant c c.done) at.0 at.1 (compare_there (participant c c.done) c.mini.items item at e)) shown;
      begins = λ start. absurd (plan_begun known w reply begun waits start);
      spares = λ has_begun. plan_spared c.tid c.mini (participant c c.done) plan;
    }

-- A participant that refused

over_on : (e : Entry) (now : List Entry) (nodes failed : ℕ) → issue_in e.what ≡ []
    → AreOverNodes nodes failed now → AreOverNodes nodes failed (e ∷ now)
over_on e now nodes failed none over =
    subst (λ (l : List Issued). IfLater failed (nodes_of l ≡ nodes)) (sym (no_issue e now none)) over

not_peeked : (failed : ℕ) (e : Entry) (n : NodeNo) (request : Request) (reply : NodeReply)
    → IsAnswered e n request reply → is_peek request ≡ false → NoPeek failed e
not_peeked failed e n request reply a none =
    later_told failed _ (call_all (λ (c : Call). not (is_peek c.request)) e n request reply a (ap not none))

-- what it read stays
scan_since : (e : Entry) (es : List Entry) (w : Work) → GoesOn e.what → seen_at e ≡ []
    → ScanShown (since_begin es) w.spoiled w.op w.job
    → ScanShown (since_begin (e ∷ es)) w.spoiled w.op w.job
scan_since e es w goes none shown =
    subst (λ (l : List Entry). ScanShown l w.spoiled w.op w.job) (sym (since_on e es goes))
    (scan_shown_quiet e (since_begin es) w.spoiled w.op w.job none shown)

-- the call that it answered
abbrev pub TryAnswered : Entry → Coordination → NodeReply → Type 0
TryAnswered e c reply =
    IsAnswered e (participant c c.done) (try_request c.tid c.mini (participant c c.done)) reply

was_refused_now : (es : List Entry) (e : Entry) (known : Known) (w : Work) (c : Coordination)
    (reply : NodeReply) (busy : Busy) (asked : IsAskedBy es known w c) → TryAnswered e c reply
    → Fits (try_request c.tid c.mini (participant c c.done)) reply → is_refusal reply ≡ true
    → IfLater w.failed (refusal_of c.tid c.mini (participant c c.done) reply ≡ Some busy)
    → WasRefused known.nodes w.op asked.going.began.from w.failed (since_begin (e ∷ es)) busy
was_refused_now es e known w c reply busy asked a fits is told =
    let n = participant c c.done in
    let request = try_request c.tid c.mini n in
    let o = asked.going in
    let first = asked_by known.nodes w.failed w.op (since_begin es) o.began.from o.try e n request reply known.catalog w.job a asked.begins asked.spares o.trying.asks_first o.asked in
    subst (λ (l : List Entry). WasRefused known.nodes w.op o.began.from w.failed l busy) (sym (since_on e es (called_later e n request reply a).goes))
    (refused_on known.nodes w.op o.began.from w.failed (since_begin es) o.try e (record { node = n; request = request; reply = reply }) busy o.trying o.leafless a is
    (not_peeked w.failed e n request reply a (try_no_peek c.tid c.mini n))
    first.1 first.0
    (later_both w.failed _ _ (RefusedAs (seen_in o.try) n request reply busy)
    (λ shown cause. refused_as (seen_in o.try) c.tid c.mini n busy shown (nat_eq (length (participants_of c.mini)) 1) reply fits is cause) asked.shown told))

-- it refused, or didn't do it for another cause
pub failed_now : (es : List Entry) (e : Entry) (known : Known) (w : Work) (c : Coordination)
    (reply : NodeReply) → IsAskedBy es known w c → TryAnswered e c reply
    → Fits (try_request c.tid c.mini (participant c c.done)) reply → is_done reply ≡ false
    → MiniFailed (e ∷ es) known w c reply
failed_now es e known w c reply asked a fits undone = (
  fits,
  (
    began_on e es w.op w.job (called_later e (participant c c.done) (try_request c.tid c.mini (participant c c.done)) reply a).goes asked.going.began,
    λ is busy told. was_refused_now es e known w c reply busy asked a fits is told,
  ),
  scan_since e es w (called_later e (participant c c.done) (try_request c.tid c.mini (participant c c.done)) reply a).goes
      (call_seen e (participant c c.done) (try_request c.tid c.mini (participant c c.done)) reply a (undone_unseen (participant c c.done) (try_request c.tid c.mini (participant c c.done)) reply undone))
      asked.going.shows.0,
  undone,
  kept_still_last e es known
      (call_gives e (participant c c.done) (try_request c.tid c.mini (participant c c.done)) reply a
      (undone_ungiven (participant c c.done) (try_request c.tid c.mini (participant c c.done)) reply undone (try_no_peek c.tid c.mini (participant c c.done))))
      asked.going.last.0,
)

-- there was no memory to ask it: nothing entered the list
pub unasked_now : (es : List Entry) (known : Known) (w : Work) (c : Coordination)
    → IsAskedBy es known w c → MiniFailed es known w c Say.NoMemory
unasked_now es known w c asked =
    (tt, (asked.going.began, λ is. absurd cc), asked.going.shows.0, refl, asked.going.last.0)

-- A participant that was done

-- a plan that goes on
abbrev pub PlanGoesOn : List Entry → Known → Work → Mini → Type 0
PlanGoesOn es known w mini =
    (o : IsOpen es known w) × IfLater w.failed (AreComparesShown (seen_in o.try) mini)

plan_on : (es : List Entry) (e : Entry) (known : Known) (w : Work) (mini : Mini)
    → IsQuiet w.failed e → SendsNone known.catalog w.job e → issue_in e.what ≡ []
    → PlanGoesOn es known w mini → PlanGoesOn (e ∷ es) known w mini
plan_on es e known w mini quiet sends none (o, shown) =
    let on = open_on es known w e o quiet sends (over_on e (since_begin es) known.nodes w.failed none) in
    (on.is, subst (λ (seens : List Seen). IfLater w.failed (AreComparesShown seens mini)) (sym on.seens_are) shown)

abbrev one_call : NodeNo → Request → NodeReply → List Call
one_call n request reply = record { node = n; request = request; reply = reply } ∷ []

same_call : (n m : NodeNo) (r q : Request) (s t : NodeReply) → n ≡ m → r ≡ q → s ≡ t
    → one_call n r s ≡ one_call m q t
same_call n m r q s t e f g =
    ap (λ (x : NodeNo). one_call x r s) e
    ∙ (ap (λ (x : Request). one_call m x s) f ∙ ap (λ (x : NodeReply). one_call m q x) g)

read_done : (es : List Entry) (e : Entry) (known : Known) (w : Work) (purpose : Purpose)
    (c : Coordination) (place : Place) (reads : List (List ℕ))
    → ReadGoesOn es known w purpose c.done c.reads → IsPlaceFor w.job purpose place
    → ReadsPlace c.mini place → CoordAgrees es c → c.done < length (participants_of c.mini)
    → TryAnswered e c (Say.Done reads)
    → Fits (try_request c.tid c.mini (participant c c.done)) (Say.Done reads)
    → ReadGoesOn (e ∷ es) known w purpose (c.done + 1) (slice_set c.reads c.done reads)
read_done es e known w purpose c place reads goes for is a next call fits =
    let asks = asks_read c place is next in
    let one = one_read reads place.start place.length (subst (λ (r : Request). Fits r (Say.Done reads)) asks.request fits) in
    let few = read_few c.mini place is in
    let single : length (participants_of c.mini) ≡ 1 = omega arith in
    subst (λ (done : ℕ). ReadGoesOn (e ∷ es) known w purpose done (slice_set c.reads c.done reads)) (sym (ap (λ (d : ℕ). d + 1) asks.none)) (
      one.bytes,
      ap (λ (d : ℕ). slice_set c.reads d reads) asks.none
          ∙ (only_reads c.reads reads (a.answers.long ∙ single) ∙ ap (λ (r : List (List ℕ)). r ∷ []) one.reads_are),
      record {
        e = e;
        before = es;
        split = refl;
        open_before = subst (λ (done : ℕ). ReadGoesOn es known w purpose done c.reads) asks.none goes;
        place = place;
        is = for;
        came = inl (c.tid, one.long, call ∙ same_call (participant c c.done) place.node (try_request c.tid c.mini (participant c c.done)) (Ask.Exec c.tid (Bare.Read place.start place.length ∷ [])) (Say.Done reads) (Say.Done (one.bytes ∷ [])) asks.node asks.request (ap Say.Done one.reads_are));
      },
    )

done_quiet : (e : Entry) (w : Work) (c : Coordination) (reads : List (List ℕ))
    → is_plan c.mini.items ≡ true → TryAnswered e c (Say.Done reads) → IsQuiet w.failed e
done_quiet e w c reads plan call =
    let n = participant c c.done in
    let request = try_request c.tid c.mini n in
    record {
      goes = (called_later e n request (Say.Done reads) call).goes;
      spares = call_all (λ (k : Call). not (is_catalog_call k)) e n request (Say.Done reads) call (ap not (plan_spared c.tid c.mini n plan));
      reads = call_seen e n request (Say.Done reads) call (plan_unseen c.tid c.mini n (Say.Done reads) plan);
      gives = call_gives e n request (Say.Done reads) call (plan_ungiven c.tid c.mini n (Say.Done reads) plan);
      good = call_all (λ (k : Call). not (is_refusal k.reply)) e n request (Say.Done reads) call refl;
      peeks = not_peeked w.failed e n request (Say.Done reads) call (try_no_peek c.tid c.mini n);
    }

pub done_now : (es before : List Entry) (e : Entry) (known : Known) (w : Work) (purpose : Purpose)
    (c : Coordination) (reads : List (List ℕ)) → MiniGoesOn es known w c purpose
    → IsMadeFor before w.op w.job purpose c.mini → WaitsFor known w purpose → CoordAgrees es c
    → c.done < length (participants_of c.mini) → TryAnswered e c (Say.Done reads)
    → Fits (try_request c.tid c.mini (participant c c.done)) (Say.Done reads)
    → MiniGoesOn (e ∷ es) known w (after_reply c (Say.Done reads)) purpose
done_now es before e known w by.Catalog c reads goes (place, for, is) waits a next call fits =
    read_done es e known w by.Catalog c place reads goes for is a next call fits
done_now es before e known w (by.Page addr) c reads goes (place, for, is) waits a next call fits =
    read_done es e known w (by.Page addr) c place reads goes for is a next call fits
done_now es before e known w by.Count c reads goes (place, for, is) waits a next call fits =
    read_done es e known w by.Count c place reads goes for is a next call fits
done_now es before e known w (by.Plan reply) c reads goes made waits a next call fits =
    plan_on es e known w c.mini (done_quiet e w c reads made.0 call)
    (λ start. absurd (plan_begun known w reply made.2 waits start))
    (called_later e (participant c c.done) (try_request c.tid c.mini (participant c c.done)) (Say.Done reads) call).issues goes

-- Decisions

match_map : (o : Option NodeReply) (A B : Type 0) (P Q : NodeReply → Type 0) → (A → B)
    → ((reply : NodeReply) → P reply → Q reply) → MatchOption o A P → MatchOption o B Q
match_map None A B P Q f g m = f m
match_map (Some reply) A B P Q f g m = g reply m

-- an entry that ends no try, reads nothing and gives nothing
pub failed_on : (es : List Entry) (e : Entry) (known : Known) (w : Work) (c : Coordination)
    (reply : NodeReply) → GoesOn e.what → seen_at e ≡ [] → shown_at e ≡ []
    → list_all (λ k. is_any_decide k.request) (call_in e.node e.what) ≡ true
    → list_all (λ k. not (is_refusal k.reply)) (call_in e.node e.what) ≡ true
    → MiniFailed es known w c reply → MiniFailed (e ∷ es) known w c reply
failed_on es e known w c reply goes none gives decides good (fits, (began, refused), scan, undone, last) = (
  fits,
  (
    began_on e es w.op w.job goes began,
    λ is busy told. subst (λ (l : List Entry). WasRefused known.nodes w.op began.from w.failed l busy) (sym (since_on e es goes))
        (decided_on known.nodes w.op began.from w.failed (since_begin es) e busy (refused is busy told) decides good),
  ),
  scan_since e es w goes none scan,
  undone,
  kept_still_last e es known gives last,
)

-- what fits a Decide is no refusal
decide_fits : (tid : Tid) (verdict : Bool) (reply : NodeReply) → Fits (Ask.Decide tid verdict) reply
    → not (is_refusal reply) ≡ true
decide_fits tid verdict (Say.Done reads) f = refl
decide_fits tid verdict (Say.BadLock s k h) f = absurd f
decide_fits tid verdict (Say.BadCompare i found) f = absurd f
decide_fits tid verdict Say.BadForced f = absurd f
decide_fits tid verdict (Say.Vote v) f = refl
decide_fits tid verdict Say.Decided f = refl
decide_fits tid verdict (Say.Listed d) f = refl
decide_fits tid verdict (Say.Peeked b) f = refl
decide_fits tid verdict Say.Down f = refl
decide_fits tid verdict Say.Stopped f = refl
decide_fits tid verdict Say.NoMemory f = refl

-- only several participants are told
told_several : (n done : ℕ) (refused : Option NodeReply) (told : Bool) (decided : ℕ)
    → (stage_of n done refused told decided ≡ At.Commit) ⊎ (stage_of n done refused told decided ≡ At.Cancel)
    → nat_eq n 1 ≡ true → ⊥
told_several n done None told decided (inl e) one = all (nat_lt done n) (nat_lt decided n) (nat_lt 1 n) refl e
  where
    all : (a b c : Bool) → nat_lt 1 n ≡ c → (if a then At.Ask else (if c && b then At.Commit else At.Committed)) ≡ At.Commit → ⊥
    all true b c is f = absurd cc
    all false b false is f = absurd cc
    all false b true is f = let up = ltb-true 1 n is in let same = eqb-true n 1 one in absurd (omega arith)
told_several n done None told decided (inr e) one = all (nat_lt done n) (nat_lt 1 n && nat_lt decided n) e
  where
    all : (a b : Bool) → (if a then At.Ask else (if b then At.Commit else At.Committed)) ≡ At.Cancel → ⊥
    all true b f = absurd cc
    all false true f = absurd cc
    all false false f = absurd cc
told_several n done (Some reply) told decided (inl e) one = all (is_stopped_at_last n done reply) (nat_eq n 1) (not told) (nat_lt decided done) e
  where
    all : (a b c d : Bool) → (if a then At.Doubt else (if b then At.Failed else (if c then At.Abandon else (if d then At.Cancel else At.Failed)))) ≡ At.Commit → ⊥
    all true b c d f = absurd cc
    all false true c d f = absurd cc
    all false false true d f = absurd cc
    all false false false true f = absurd cc
    all false false false false f = absurd cc
told_several n done (Some reply) told decided (inr e) one = all (is_stopped_at_last n done reply) (not told) (nat_lt decided done)
    (subst (λ b. (if is_stopped_at_last n done reply then At.Doubt else (if b then At.Failed else (if not told then At.Abandon else (if nat_lt decided done then At.Cancel else At.Failed)))) ≡ At.Cancel) one e)
  where
    all : (a c d : Bool) → (if a then At.Doubt else At.Failed) ≡ At.Cancel → ⊥
    all true c d f = absurd cc
    all false c d f = absurd cc

-- a read's coordinator tells none
read_untold : (es before : List Entry) (w : Work) (purpose : Purpose) (c : Coordination)
    → CoordAgrees es c → IsMadeFor before w.op w.job purpose c.mini
    → (stage_in c ≡ At.Commit) ⊎ (stage_in c ≡ At.Cancel)
    → ((reply : Reply) × (purpose ≡ by.Plan reply)) × (is_plan c.mini.items ≡ true)
read_untold es before w by.Catalog c a (place, for, is) tells =
    absurd (told_several (length (participants_of c.mini)) c.done c.refused c.told c.decided tells (read_one c.mini place is a.some))
read_untold es before w (by.Page addr) c a (place, for, is) tells =
    absurd (told_several (length (participants_of c.mini)) c.done c.refused c.told c.decided tells (read_one c.mini place is a.some))
read_untold es before w by.Count c a (place, for, is) tells =
    absurd (told_several (length (participants_of c.mini)) c.done c.refused c.told c.decided tells (read_one c.mini place is a.some))
read_untold es before w (by.Plan reply) c a made tells = ((reply, refl), made.0)

-- a participant was told
pub decided_now : (es before : List Entry) (e : Entry) (known : Known) (w : Work) (purpose : Purpose)
    (c d : Coordination) (n : NodeNo) (verdict : Bool) (reply : NodeReply) → CoordAgrees es c
    → IsMadeFor before w.op w.job purpose c.mini
    → (stage_in c ≡ At.Commit) ⊎ (stage_in c ≡ At.Cancel)
    → IsAnswered e n (Ask.Decide c.tid verdict) reply → Fits (Ask.Decide c.tid verdict) reply
    → MatchOption c.refused (MiniGoesOn es known w c purpose) (MiniFailed es known w c)
    → d ≡ record c { decided = c.decided + 1; asked = false }
    → MatchOption d.refused (MiniGoesOn (e ∷ es) known w d purpose) (MiniFailed (e ∷ es) known w d)
decided_now es before e known w purpose c d n verdict reply a made tells call fits goes is =
    let plan = read_untold es before w purpose c a made tells in
    subst (λ (x : Coordination). MatchOption x.refused (MiniGoesOn (e ∷ es) known w x purpose) (MiniFailed (e ∷ es) known w x)) (sym is)
    (subst (λ (q : Purpose). MatchOption c.refused (MiniGoesOn (e ∷ es) known w (record c { decided = c.decided + 1; asked = false }) q) (MiniFailed (e ∷ es) known w c)) (sym (plan.0).1)
    (match_map c.refused (PlanGoesOn es known w c.mini) (PlanGoesOn (e ∷ es) known w c.mini) (MiniFailed es known w c) (MiniFailed (e ∷ es) known w c)
    (plan_on es e known w c.mini quiet (λ start. decides) later.issues)
    (λ r. failed_on es e known w c r later.goes none gives decides good)
    (subst (λ (q : Purpose). MatchOption c.refused (MiniGoesOn es known w c q) (MiniFailed es known w c)) (plan.0).1 goes)))
  where
    later : IsLater e.what
    later = called_later e n (Ask.Decide c.tid verdict) reply call

    none : seen_at e ≡ []
    none = call_seen e n (Ask.Decide c.tid verdict) reply call refl

    gives : shown_at e ≡ []
    gives = call_gives e n (Ask.Decide c.tid verdict) reply call refl

    good : list_all (λ k. not (is_refusal k.reply)) (call_in e.node e.what) ≡ true
    good = call_all (λ (k : Call). not (is_refusal k.reply)) e n (Ask.Decide c.tid verdict) reply call (decide_fits c.tid verdict reply fits)

    decides : list_all (λ k. is_any_decide k.request) (call_in e.node e.what) ≡ true
    decides = call_all (λ (k : Call). is_any_decide k.request) e n (Ask.Decide c.tid verdict) reply call refl

    quiet : IsQuiet w.failed e
    quiet = record {
      goes = later.goes;
      spares = call_all (λ (k : Call). not (is_catalog_call k)) e n (Ask.Decide c.tid verdict) reply call (ap not (and_false (nat_eq n.0 0)));
      reads = none;
      gives = gives;
      good = good;
      peeks = not_peeked w.failed e n (Ask.Decide c.tid verdict) reply call refl;
    }

-- The minitransaction that is on its way

-- with an entry that tries none of the older ones
pub mini_on : (es : List Entry) (e : Entry) (known : Known) (w : Work) (tid : Tid)
    (c d : Coordination) (purpose : Purpose) (m : MiniAgrees es known w tid c purpose)
    → IsLater e.what → TriesNone e m.last.earlier → CoordAgrees (e ∷ es) d → d.tid ≡ c.tid
    → d.mini ≡ c.mini
    → MatchOption d.refused (MiniGoesOn (e ∷ es) known w d purpose) (MiniFailed (e ∷ es) known w d)
    → MiniAgrees (e ∷ es) known w tid d purpose
mini_on es e known w tid c d purpose m later none agrees id same goes = record {
  of = under_way_still e es w.op later.goes m.of;
  coordinates = agrees;
  id = id ∙ m.id;
  before = m.before;
  last = now.0;
  older = ap (are_closed (since_begin (e ∷ es))) now.1 ∙ closed_since e es m.last.earlier later.goes none m.older;
  made = subst (IsMadeFor m.before w.op w.job purpose) (sym same) m.made;
  goes = goes;
}
  where
    now : (l : LastIssue (e ∷ es) (since_begin (e ∷ es)) (record { tid = tid; mini = d.mini }) m.before) × (l.earlier ≡ m.last.earlier)
    now =
        subst (λ (mini : Mini). (l : LastIssue (e ∷ es) (since_begin (e ∷ es)) (record { tid = tid; mini = mini }) m.before) × (l.earlier ≡ m.last.earlier)) (sym same)
        (last_stays e es (record { tid = tid; mini = c.mini }) m.before later m.last)

-- with no entry
pub mini_same : (es : List Entry) (known : Known) (w : Work) (tid : Tid)
    (c d : Coordination) (purpose : Purpose) (m : MiniAgrees es known w tid c purpose)
    → CoordAgrees es d → d.tid ≡ c.tid → d.mini ≡ c.mini
    → MatchOption d.refused (MiniGoesOn es known w d purpose) (MiniFailed es known w d)
    → MiniAgrees es known w tid d purpose
mini_same es known w tid c d purpose m agrees id same goes = record {
  of = m.of;
  coordinates = agrees;
  id = id ∙ m.id;
  before = m.before;
  last = now.0;
  older = ap (are_closed (since_begin es)) now.1 ∙ m.older;
  made = subst (IsMadeFor m.before w.op w.job purpose) (sym same) m.made;
  goes = goes;
}
  where
    now : (l : LastIssue es (since_begin es) (record { tid = tid; mini = d.mini }) m.before) × (l.earlier ≡ m.last.earlier)
    now =
        subst (λ (mini : Mini). (l : LastIssue es (since_begin es) (record { tid = tid; mini = mini }) m.before) × (l.earlier ≡ m.last.earlier)) (sym same)
        (m.last, refl)

-- By the reply of its participant

module _ (es : List Entry) (e : Entry) (known : Known) (w : Work) (tid : Tid) (c : Coordination)
    (purpose : Purpose) (n : NodeNo) (request : Request) (reply : NodeReply)
    (m : MiniAgrees es known w tid c purpose) (waits : WaitsFor known w purpose)
    (step : step_of c ≡ Send n request) (fits : Fits request reply)
    (a : IsAnswered e n request reply) (none : TriesNone e m.last.earlier) where
  -- the coordinator has this state
  abbrev GoesOnBy : Coordination → Type 0
  GoesOnBy d = CoordAgrees (e ∷ es) d → MiniAgrees (e ∷ es) known w tid d purpose

  later : IsLater e.what
  later = called_later e n request reply a

  try_answered : IsAsked c n request → TryAnswered e c reply
  try_answered asked =
      a ∙ sym (same_call (participant c c.done) n (try_request c.tid c.mini (participant c c.done)) request reply reply asked.node_is asked.request_is refl)

  try_fits : IsAsked c n request → Fits (try_request c.tid c.mini (participant c c.done)) reply
  try_fits asked = subst (λ (r : Request). Fits r reply) (sym asked.request_is) fits

  goes_on : IsAsked c n request → MiniGoesOn es known w c purpose
  goes_on asked =
      subst (λ (o : Option NodeReply). MatchOption o (MiniGoesOn es known w c purpose) (MiniFailed es known w c)) asked.unrefused m.goes

  by_undone : IsAsked c n request → is_done reply ≡ false
      → GoesOnBy (record c { refused = Some reply; asked = false })
  by_undone asked undone agrees =
      mini_on es e known w tid c (record c { refused = Some reply; asked = false }) purpose m later none agrees refl refl
      (failed_now es e known w c reply (asked_by_purpose es m.before known w purpose c (goes_on asked) m.made waits asked.next) (try_answered asked) (try_fits asked) undone)

  by_done : (reads : List (List ℕ)) → reply ≡ Say.Done reads → IsAsked c n request
      → GoesOnBy (after_reply c (Say.Done reads))
  by_done reads is asked agrees =
      mini_on es e known w tid c (after_reply c (Say.Done reads)) purpose m later none agrees refl refl
      (subst (λ (o : Option NodeReply). MatchOption o (MiniGoesOn (e ∷ es) known w (after_reply c (Say.Done reads)) purpose) (MiniFailed (e ∷ es) known w (after_reply c (Say.Done reads)))) (sym asked.unrefused)
      (done_now es m.before e known w purpose c reads (goes_on asked) m.made waits m.coordinates asked.next
      (subst (λ (r : NodeReply). TryAnswered e c r) is (try_answered asked))
      (subst (λ (r : NodeReply). Fits (try_request c.tid c.mini (participant c c.done)) r) is (try_fits asked))))

  by_reply : (r : NodeReply) → reply ≡ r → IsAsked c n request → GoesOnBy (after_reply c r)
  by_reply (Say.Done reads) is asked = by_done reads is asked
  by_reply (Say.BadLock s k h) is asked = subst (λ (x : NodeReply). GoesOnBy (record c { refused = Some x; asked = false })) is (by_undone asked (ap is_done is))
  by_reply (Say.BadCompare i found) is asked = subst (λ (x : NodeReply). GoesOnBy (record c { refused = Some x; asked = false })) is (by_undone asked (ap is_done is))
  by_reply Say.BadForced is asked = subst (λ (x : NodeReply). GoesOnBy (record c { refused = Some x; asked = false })) is (by_undone asked (ap is_done is))
  by_reply (Say.Vote v) is asked = subst (λ (x : NodeReply). GoesOnBy (record c { refused = Some x; asked = false })) is (by_undone asked (ap is_done is))
  by_reply Say.Decided is asked = subst (λ (x : NodeReply). GoesOnBy (record c { refused = Some x; asked = false })) is (by_undone asked (ap is_done is))
  by_reply (Say.Listed d) is asked = subst (λ (x : NodeReply). GoesOnBy (record c { refused = Some x; asked = false })) is (by_undone asked (ap is_done is))
  by_reply (Say.Peeked b) is asked = subst (λ (x : NodeReply). GoesOnBy (record c { refused = Some x; asked = false })) is (by_undone asked (ap is_done is))
  by_reply Say.Down is asked = subst (λ (x : NodeReply). GoesOnBy (record c { refused = Some x; asked = false })) is (by_undone asked (ap is_done is))
  by_reply Say.Stopped is asked = subst (λ (x : NodeReply). GoesOnBy (record c { refused = Some x; asked = false })) is (by_undone asked (ap is_done is))
  by_reply Say.NoMemory is asked = subst (λ (x : NodeReply). GoesOnBy (record c { refused = Some x; asked = false })) is (by_undone asked (ap is_done is))

  by_decide : (verdict : Bool) → request ≡ Ask.Decide c.tid verdict
      → (stage_in c ≡ At.Commit) ⊎ (stage_in c ≡ At.Cancel)
      → GoesOnBy (record c { decided = c.decided + 1; asked = false })
  by_decide verdict is tells agrees =
      mini_on es e known w tid c (record c { decided = c.decided + 1; asked = false }) purpose m later none agrees refl refl
      (decided_now es m.before e known w purpose c (record c { decided = c.decided + 1; asked = false }) n verdict reply m.coordinates m.made tells
      (subst (λ (r : Request). IsAnswered e n r reply) is a) (subst (λ (r : Request). Fits r reply) is fits) m.goes refl)

  decide_sent : (k : NodeNo) (verdict : Bool) → Send k (Ask.Decide c.tid verdict) ≡ Send n request
      → request ≡ Ask.Decide c.tid verdict
  decide_sent k verdict e = cc

  by_stage : (stage : Stage) → stage_in c ≡ stage → step_at c stage ≡ Send n request
      → GoesOnBy (fed_at c stage reply)
  by_stage At.Ask is sent = by_reply reply refl (asked_of c n request is step)
  by_stage At.Commit is sent =
      by_decide true (decide_sent (participant c c.decided) true sent) (inl is)
  by_stage At.Cancel is sent =
      by_decide false (decide_sent (participant c c.decided) false sent) (inr is)
  by_stage At.Abandon is sent = absurd cc
  by_stage At.Committed is sent = absurd cc
  by_stage At.Failed is sent = absurd cc
  by_stage At.Doubt is sent = absurd cc

  pub mini_fed : GoesOnBy (fed c reply)
  mini_fed = by_stage (stage_in c) refl step

-- with no entry, for want of memory
pub mini_unasked : (es : List Entry) (known : Known) (w : Work) (tid : Tid) (c : Coordination)
    (purpose : Purpose) → MiniAgrees es known w tid c purpose → WaitsFor known w purpose
    → stage_in c ≡ At.Ask → CoordAgrees es (fed c Say.NoMemory)
    → MiniAgrees es known w tid (fed c Say.NoMemory) purpose
mini_unasked es known w tid c purpose m waits stage agrees =
    subst (λ (s : Stage). CoordAgrees es (fed_at c s Say.NoMemory) → MiniAgrees es known w tid (fed_at c s Say.NoMemory) purpose) (sym stage)
    (λ asks. mini_same es known w tid c (after_reply c Say.NoMemory) purpose m asks refl refl
    (unasked_now es known w c (asked_by_purpose es m.before known w purpose c
    (subst (λ (o : Option NodeReply). MatchOption o (MiniGoesOn es known w c purpose) (MiniFailed es known w c)) parts.0 m.goes) m.made waits parts.1)))
    agrees
  where
    parts : (c.refused ≡ None) × (c.done < length (participants_of c.mini))
    parts = asking (length (participants_of c.mini)) c.done c.refused c.told c.decided stage

-- A Peek

peek_under_way : (es : List Entry) (e : Entry) (known : Known) (w : Work) (place : Place)
    (reply : NodeReply) → IsAtRest es known w
    → IsAnswered e place.node (Ask.Peek place.start place.length) reply → IsUnderWay (e ∷ es) w.op
peek_under_way es e known w place reply rest a =
    under_way_still e es w.op (called_later e place.node (Ask.Peek place.start place.length) reply a).goes rest.0.of

-- one that gives nothing
peek_kept : (es : List Entry) (e : Entry) (known : Known) (w : Work) (place : Place)
    (reply : NodeReply) → IsAtRest es known w
    → shown_by place.node (Ask.Peek place.start place.length) reply ≡ []
    → IsAnswered e place.node (Ask.Peek place.start place.length) reply → KeptIsLast (e ∷ es) known
peek_kept es e known w place reply rest none a =
    kept_still_last e es known
    (call_gives e place.node (Ask.Peek place.start place.length) reply a none) rest.0.last.0

peek_nothing : (es : List Entry) (e : Entry) (known : Known) (w : Work) (place : Place)
    (reply : NodeReply) → IsAtRest es known w
    → shown_by place.node (Ask.Peek place.start place.length) reply ≡ []
    → IsAnswered e place.node (Ask.Peek place.start place.length) reply
    → IsUnderWay (e ∷ es) w.op × KeptIsLast (e ∷ es) known
peek_nothing es e known w place reply rest none a =
    (peek_under_way es e known w place reply rest a, peek_kept es e known w place reply rest none a)

-- with its reply
pub peek_answered : (es : List Entry) (e : Entry) (known : Known) (w : Work) (purpose : Purpose)
    (place : Place) (reply : NodeReply) → IsAtRest es known w → IsPlaceFor w.job purpose place
    → w.failed ≡ 0 → MayPeekFor w.job purpose → Fits (Ask.Peek place.start place.length) reply
    → IsAnswered e place.node (Ask.Peek place.start place.length) reply
    → PeekedAgrees (e ∷ es) known w place purpose reply
peek_answered es e known w purpose place (Say.Peeked bytes) rest for first may fits a = record {
  e = e;
  before = es;
  split = refl;
  open_before = rest.0;
  place = place;
  is = for;
  came = inr ((fits, a), first, may);
}
peek_answered es e known w purpose place Say.Down rest for first may fits a = (
  peek_under_way es e known w place Say.Down rest a,
  subst (λ (l : List Entry). list_any (is_down_cause place.node) (calls_of l) ≡ true)
      (sym (since_on e es (called_later e place.node (Ask.Peek place.start place.length) Say.Down a).goes))
      (call_any (is_down_cause place.node) e (since_begin es) place.node (Ask.Peek place.start place.length) Say.Down a
      (ap (λ b. b && true) (same_self place.node))),
  peek_kept es e known w place Say.Down rest refl a,
)
peek_answered es e known w purpose place (Say.Done reads) rest for first may fits a = peek_nothing es e known w place (Say.Done reads) rest refl a
peek_answered es e known w purpose place (Say.BadLock s k h) rest for first may fits a = peek_nothing es e known w place (Say.BadLock s k h) rest refl a
peek_answered es e known w purpose place (Say.BadCompare i found) rest for first may fits a = peek_nothing es e known w place (Say.BadCompare i found) rest refl a
peek_answered es e known w purpose place Say.BadForced rest for first may fits a = peek_nothing es e known w place Say.BadForced rest refl a
peek_answered es e known w purpose place (Say.Vote v) rest for first may fits a = peek_nothing es e known w place (Say.Vote v) rest refl a
peek_answered es e known w purpose place Say.Decided rest for first may fits a = peek_nothing es e known w place Say.Decided rest refl a
peek_answered es e known w purpose place (Say.Listed d) rest for first may fits a = peek_nothing es e known w place (Say.Listed d) rest refl a
peek_answered es e known w purpose place Say.Stopped rest for first may fits a = peek_nothing es e known w place Say.Stopped rest refl a
peek_answered es e known w purpose place Say.NoMemory rest for first may fits a = peek_nothing es e known w place Say.NoMemory rest refl a

-- The whole

-- it goes on with other work
pub own_as : (es : List Entry) (p : ProxyState) (w : Work) (errand : Errand) → IsOwn es p
    → IsOwn es (with_work p w errand)
own_as es p w errand own = own_with es p (Some (w, errand)) own

-- the id of what is on its way was issued
pub id_issued : (es : List Entry) (p : ProxyState) (w : Work) (tid : Tid) (c : Coordination)
    (purpose : Purpose) → IsOwn es p → MiniAgrees es p.known w tid c purpose
    → tid.serial ≤ length (issues_of es)
id_issued es p w tid c purpose own m =
    let last = last_tid p.client p.run p.known.nodes es (record { tid = tid; mini = c.mini }) m.last.earlier own.issues m.last.of_operation in
    let serial : tid.serial ≡ length (issues_of es) = ap (λ (t : Tid). t.serial) last.0 in
    omega arith

-- with the reply in the list
pub answered_agrees : (es : List Entry) (e : Entry) (p : ProxyState) (w : Work)
    (errand after : Errand) (node : NodeNo) (request : Request) (reply : NodeReply) → IsOwn es p
    → ErrandAgrees es p.known w errand → IsSoundErrand p.known w errand
    → HasOutIn (Some (w, errand)) node request → Fits request reply → IsAnswered e node request reply
    → IsFed errand reply after → Agrees (e ∷ es) (with_work p w after)
answered_agrees es e p w out.Nothing after node request reply own errands sound has fits a fed =
    absurd fed
answered_agrees es e p w (out.Peeked place said purpose) after node request reply own errands sound has fits a fed =
    absurd fed
answered_agrees es e p w (out.Peek place purpose) after node request reply own (rest, for, first, may) sound (at, is) fits a fed = (
  own_as (e ∷ es) p w after (own_on e es p own later.issues
      (fresh_peeked p.client p.run e es place.node place.start place.length reply own.fresh call)
      (peek_recovers_none e es place.node place.start place.length reply call own.recovers)),
  subst (ErrandAgrees (e ∷ es) p.known w) (sym fed) (
    peek_answered es e p.known w purpose (place_of place) reply rest for first may
        (subst (λ (r : Request). Fits r reply) is fits) call,
    closed_later e es later (peek_tries_none e (issues_of (since_begin es)) place.node place.start place.length reply call) rest.1,
    first,
  ),
)
  where
    call : IsAnswered e place.node (Ask.Peek place.start place.length) reply
    call = a ∙ sym (same_call place.node node (Ask.Peek place.start place.length) request reply reply at (sym is) refl)

    later : IsLater e.what
    later = called_later e node request reply a
answered_agrees es e p w (out.Mini tid c purpose) after node request reply own m sound (out, step) fits a (d, is, takes) = (
  own_as (e ∷ es) p w after (own_on e es p own later.issues
      (fresh_step p.client p.run e es c node request reply own.fresh low step a)
      (step_recovers_none e es c node request reply step a own.recovers)),
  subst (ErrandAgrees (e ∷ es) p.known w) (sym is)
      (subst (λ (x : Coordination). CoordAgrees (e ∷ es) x → MiniAgrees (e ∷ es) p.known w tid x purpose) (sym takes.fed_is)
      (mini_fed es e p.known w tid c purpose node request reply m sound.1 step fits a none)
      (takes.agrees es e node request m.coordinates step a)),
)
  where
    later : IsLater e.what
    later = called_later e node request reply a

    low : c.tid.serial ≤ length (issues_of es)
    low = subst (λ (t : Tid). t.serial ≤ length (issues_of es)) (sym m.id) (id_issued es p w tid c purpose own m)

    none : TriesNone e m.last.earlier
    none = step_tries_none e m.last.earlier c node request reply step a
        (subst (λ (t : Tid). AllByRecursion (λ (j : Issued). tid_same t j.tid ≡ false) m.last.earlier) (sym m.id)
        (earlier_differ p.client p.run p.known.nodes es (record { tid = tid; mini = c.mini }) m.last.earlier own.issues m.last.of_operation))

-- want of memory is no entry
pub unanswered_agrees : (es : List Entry) (p : ProxyState) (w : Work) (errand after : Errand)
    (reply : NodeReply) → IsOwn es p → ErrandAgrees es p.known w errand
    → IsSoundErrand p.known w errand → reply ≡ Say.NoMemory → OwesNone errand
    → IsFed errand reply after → Agrees es (with_work p w after)
unanswered_agrees es p w out.Nothing after reply own errands sound none owes fed = absurd fed
unanswered_agrees es p w (out.Peeked place said purpose) after reply own errands sound none owes fed =
    absurd fed
unanswered_agrees es p w (out.Peek place purpose) after reply own (rest, for, first, may) sound none owes fed = (
  own_as es p w after own,
  subst (ErrandAgrees es p.known w) (sym (fed ∙ ap (λ (r : NodeReply). out.Peeked place r purpose) none)) ((rest.0.of, rest.0.last.0), rest.1, first),
)
unanswered_agrees es p w (out.Mini tid c purpose) after reply own m sound none owes (d, is, takes) = (
  own_as es p w after own,
  subst (ErrandAgrees es p.known w) (sym is)
      (subst (λ (x : Coordination). MiniAgrees es p.known w tid x purpose) (sym (takes.fed_is ∙ ap (fed c) none))
      (mini_unasked es p.known w tid c purpose m sound.1 owes
      (subst (CoordAgrees es) (takes.fed_is ∙ ap (fed c) none) (takes.no_entry none owes es m.coordinates)))),
)

-- so a Peek is answered
peek_answers : (start length : ℕ) (reply : NodeReply) → Fits (Ask.Peek start length) reply
    → AnswersPeek reply
peek_answers start length (Say.Done reads) fits = absurd fits
peek_answers start length (Say.BadLock s k h) fits = absurd fits
peek_answers start length (Say.BadCompare i found) fits = absurd fits
peek_answers start length Say.BadForced fits = absurd fits
peek_answers start length (Say.Vote v) fits = absurd fits
peek_answers start length Say.Decided fits = absurd fits
peek_answers start length (Say.Listed l) fits = absurd fits.0
peek_answers start length (Say.Peeked bytes) fits = tt
peek_answers start length Say.Down fits = tt
peek_answers start length Say.Stopped fits = absurd fits
peek_answers start length Say.NoMemory fits = tt

-- it is sound as before
pub fed_sound : (known : Known) (w : Work) (errand after : Errand) (reply : NodeReply)
    → ((node : NodeNo) (request : Request) → HasOutIn (Some (w, errand)) node request → Fits request reply)
    → IsSoundErrand known w errand → IsFed errand reply after → IsSoundErrand known w after
fed_sound known w out.Nothing after reply fits sound fed = absurd fed
fed_sound known w (out.Peeked place said purpose) after reply fits sound fed = absurd fed
fed_sound known w (out.Peek place purpose) after reply fits sound is =
    subst (IsSoundErrand known w) (sym is)
    (sound.0, sound.1, peek_answers place.start place.length reply (fits place.node (Ask.Peek place.start place.length) (refl, refl)))
fed_sound known w (out.Mini tid c purpose) after reply fits sound (d, is, takes) =
    subst (IsSoundErrand known w) (sym is)
    (ap (λ (x : Coordination). x.mini.nodes) takes.fed_is ∙ (nodes_stay (stage_in c) reply ∙ sound.0), sound.1)
  where
    replied : (r : NodeReply) → (after_reply c r).mini.nodes ≡ c.mini.nodes
    replied (Say.Done reads) = refl
    replied (Say.BadLock s k h) = refl
    replied (Say.BadCompare i found) = refl
    replied Say.BadForced = refl
    replied (Say.Vote v) = refl
    replied Say.Decided = refl
    replied (Say.Listed l) = refl
    replied (Say.Peeked b) = refl
    replied Say.Down = refl
    replied Say.Stopped = refl
    replied Say.NoMemory = refl

    nodes_stay : (stage : Stage) (r : NodeReply) → (fed_at c stage r).mini.nodes ≡ c.mini.nodes
    nodes_stay At.Ask r = replied r
    nodes_stay At.Commit r = refl
    nodes_stay At.Cancel r = refl
    nodes_stay At.Abandon r = refl
    nodes_stay At.Committed r = refl
    nodes_stay At.Failed r = refl
    nodes_stay At.Doubt r = refl

-- none is out for it any more
pub fed_in : (w : Work) (errand after : Errand) (reply : NodeReply) → IsFed errand reply after
    → IsOutIn (Some (w, after)) → ⊥
fed_in w out.Nothing after reply fed is = absurd fed
fed_in w (out.Peeked place said purpose) after reply fed is = absurd fed
fed_in w (out.Peek place purpose) after reply fed is =
    subst (λ (x : Errand). IsOutIn (Some (w, x))) fed is
fed_in w (out.Mini tid c purpose) after reply (d, at, takes) is =
    clash d.asked (subst (λ (x : Errand). IsOutIn (Some (w, x))) at is) takes.quiet

-- A proxy that is fed

-- what was under way is sound
pub sound_of : (known : Known) (o : Option (Work × Errand)) (w : Work) (errand : Errand)
    → o ≡ Some (w, errand) → IsSoundUnderWay known o → IsSoundWork known w errand
sound_of known o w errand is sound = subst (IsSoundUnderWay known) is sound

-- with the reply it is
pub fed_work : (known : Known) (w : Work) (errand after : Errand) (reply : NodeReply)
    → ((node : NodeNo) (request : Request) → HasOutIn (Some (w, errand)) node request → Fits request reply)
    → IsSoundWork known w errand → IsFed errand reply after → IsSoundWork known w after
fed_work known w errand after reply fits sound fed = record {
  few = sound.few;
  errand_is = fed_sound known w errand after reply fits sound.errand_is fed;
}

-- it agrees with the list that has the reply
pub feed_agrees : (p : ProxyState) (w : Work) (errand after : Errand) (reply : NodeReply)
    → p.work ≡ Some (w, errand) → IsSoundUnderWay p.known p.work → IsFed errand reply after
    → (es : List Entry) (e : Entry) (node : NodeNo) (request : Request) → Agrees es p
    → HasOut p node request → Fits request reply → IsAnswered e node request reply
    → Agrees (e ∷ es) (with_work p w after)
feed_agrees p w errand after reply is sound fed es e node request agrees has fits a =
    answered_agrees es e p w errand after node request reply agrees.0
    (subst (WorksBy es p) is agrees.1) (sound_of p.known p.work w errand is sound).errand_is
    (subst (λ (o : Option (Work × Errand)). HasOutIn o node request) is has) fits a fed

-- and with the same list, where there was no memory
pub feed_unanswered : (p : ProxyState) (w : Work) (errand after : Errand) (reply : NodeReply)
    → p.work ≡ Some (w, errand) → IsSoundUnderWay p.known p.work → IsFed errand reply after
    → (es : List Entry) → Agrees es p → reply ≡ Say.NoMemory → OwesNoDecide p
    → Agrees es (with_work p w after)
feed_unanswered p w errand after reply is sound fed es agrees none owes =
    unanswered_agrees es p w errand after reply agrees.0
    (subst (WorksBy es p) is agrees.1) (sound_of p.known p.work w errand is sound).errand_is none
    (subst OwesNoneIn is owes) fed
