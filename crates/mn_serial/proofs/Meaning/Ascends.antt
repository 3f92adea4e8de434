-- The places of a history ascend: no two operations have one place.
use Rattle.std.proofs.Common.{◌≡◌, ℕ, ◌<◌, ◌⊎◌, inl, inr, Bool, true, false, List, [], ◌∷◌, ◌++◌, length, Option, Some, None, refl, subst, sym, ap, ◌∙◌, arith, if◌then◌else◌, Contains}
use Rattle.std.specs.Prelude.{nat_lt}
use Rattle.std.specs.List.{AllByRecursion}
use Rattle.std.proofs.lemmas.List.{append_assoc}
use Rattle.std.proofs.lemmas.Bool.Decides.{nat_tests}
use Rattle.mn_base.specs.declared.ids.ClientNo.{ClientNo}
use Rattle.mn_base.specs.declared.op.Op.{Op}
use Rattle.mn_base.specs.declared.op.Op.TheVariants.{Scan}
use Rattle.mn_base.specs.declared.reply.Reply.{Reply}
use Rattle.mn_base.specs.declared.reply.Reply.TheVariants as Say
use Rattle.mn_base.proofs.Lists.{all_append}
use Rattle.mn_runs.specs.declared.entry.Entry.{Entry}
use Rattle.mn_runs.specs.declared.entry.What.{What}
use Rattle.mn_runs.specs.declared.entry.What.TheVariants.{Begin, Issue, Called, Stopped, Restarted, Abandoned, Answered}
use Rattle.mn_runs.specs.Calls.{Begun, begun_in, under_way, under_way_after, since_begin, is_by, client_entries}
use Rattle.mn_runs.specs.Seen.{Seen, seen_at}
use Rattle.mn_serial.specs.History.{Placed, placed_in, FirstCatalogAt, LastShown, ReadPlace, IsHistory}
use Rattle.mn_runs.specs.Protocol.{Start, FollowsProtocol}
use Rattle.mn_votes.specs.Laws.{StartsSound}
use Rattle.mn_serial.specs.OneHistory.{Ascend}
use Rattle.mn_runs.proofs.NewCalls.{by_of}
use Rattle.mn_serial.proofs.Meaning.Splits.{SameSplit, same_split, shorter_by}
use Rattle.mn_runs.proofs.Prefixes.{follows_before}
use Rattle.mn_serial.proofs.Meaning.Effects.{read_call, no_plan_at_read}
use Rattle.mn_serial.proofs.Meaning.Positions.{client_split}
use Rattle.mn_serial.proofs.Meaning.Origins.{RepliedAt, Origin, by_plan, by_answer, Puts, nothing_new, read_new, plan_new, all_put, puts_of, origin_more, origins, begun_as}
use Rattle.mn_serial.proofs.Meaning.Once.{Differs, none_past}
use Rattle.mn_serial.proofs.Meaning.Between.{none_begun, read_low}
use Rattle.mn_serial.proofs.Meaning.Clients.{same_begun}

-- Lists

above_all : (m n : ℕ) → m < n → (ps : List Placed) → AllByRecursion (λ q. n < q.place) ps
    → AllByRecursion (λ q. m < q.place) ps
above_all m n less [] all = tt
above_all m n less (q ∷ qs) all = let high : n < q.place = all.0 in (omega arith, above_all m n less qs all.1)

ascend_put : (p : Placed) (ps : List Placed) → AllByRecursion (λ q. p.place ≡ q.place → ⊥) ps
    → Ascend ps → Ascend (placed_in p ps)
ascend_put p [] other up = (tt, tt)
ascend_put p (x ∷ xs) other up = by (nat_lt p.place x.place) refl (ascend_put p xs other.1 up.1)
  where
    by : (b : Bool) → nat_lt p.place x.place ≡ b → Ascend (placed_in p xs)
        → Ascend (if b then p ∷ x ∷ xs else x ∷ placed_in p xs)
    by true e rest = let low : p.place < x.place = grind (arith, nat_tests) in ((low, above_all p.place x.place low xs up.0), up)
    by false e rest =
        let differs : p.place ≡ x.place → ⊥ = other.0 in
        let high : x.place < p.place = grind (arith, nat_tests) in
        (all_put (λ q. x.place < q.place) p xs high up.0, rest)

ascend_push : (ps : List Placed) (p : Placed) → AllByRecursion (λ q. q.place < p.place) ps
    → Ascend ps → Ascend (ps ++ p ∷ [])
ascend_push [] p low up = (tt, tt)
ascend_push (x ∷ xs) p low up = (all_append (λ q. x.place < q.place) xs (p ∷ []) up.0 (low.0, tt), ascend_push xs p low.1 up.1)

-- Where a reply was read, its operation was under way

no_begin_under : (what : What) (u : Option Begun) (b : Begun) → begun_in what ≡ []
    → under_way_after what u ≡ Some b → u ≡ Some b
no_begin_under (Begin number op) u b none now = absurd (some none)
  where
    some : ◌≡◌ {A = List Begun} (record { number = number; op = op } ∷ []) [] → ⊥
    some e = cc
no_begin_under (Answered number answer) u b none now = absurd (some now)
  where
    some : ◌≡◌ {A = Option Begun} None (Some b) → ⊥
    some e = cc
no_begin_under (Issue tid mini) u b none now = now
no_begin_under (Called request reply) u b none now = now
no_begin_under (Stopped request asked) u b none now = now
no_begin_under (Restarted kept) u b none now = now
no_begin_under (Abandoned tid) u b none now = now

pub under_since : (xs ys : List Entry) (b : Begun)
    → AllByRecursion (λ (e : Entry). begun_in e.what ≡ []) xs → under_way (xs ++ ys) ≡ Some b
    → under_way ys ≡ Some b
under_since [] ys b none now = now
under_since (x ∷ xs) ys b none now = under_since xs ys b none.1 (no_begin_under x.what (under_way (xs ++ ys)) b none.0 now)

-- an entry of the client that read something, with its operation under way
record ReadThere (past : List Entry) (c : ClientNo) (b : Begun) (place : ℕ) : Type 0 where
  later : List Entry
  entry : Entry
  before : List Entry
  split : past ≡ later ++ entry ∷ before
  is_place : place ≡ length before
  by : is_by c entry ≡ true
  seen : Seen
  has : Contains (seen_at entry) seen
  under : under_way (client_entries c before) ≡ Some b

there_more : (e : Entry) (past : List Entry) (c : ClientNo) (b : Begun) (place : ℕ)
    → ReadThere past c b place → ReadThere (e ∷ past) c b place
there_more e past c b place t = record { later = e ∷ t.later; entry = t.entry; before = t.before; split = ap (λ (l : List Entry). e ∷ l) t.split; is_place = t.is_place; by = t.by; seen = t.seen; has = t.has; under = t.under }

under_read : (x : Entry) (seen : Seen) (u : Option Begun) (b : Begun) → Contains (seen_at x) seen
    → under_way_after x.what u ≡ Some b → u ≡ Some b
under_read x seen u b has now = sym (ap (λ (w : What). under_way_after w u) (read_call x.client x.node x.what seen has).call) ∙ now

under_older : (c : ClientNo) (e : Entry) (past : List Entry) (b : Begun)
    → (is_by c e ≡ false) ⊎ (begun_in e.what ≡ [])
    → under_way (client_entries c (e ∷ past)) ≡ Some b → under_way (client_entries c past) ≡ Some b
under_older c e past b since now =
    elim (is_by c e) as (λ x. (x ≡ false) ⊎ (begun_in e.what ≡ []) → under_way (if x then e ∷ client_entries c past else client_entries c past) ≡ Some b → under_way (client_entries c past) ≡ Some b) [
      | true ↦ λ s h. own s h
      | false ↦ λ s h. h
    ] since now
  where
    own : (true ≡ false) ⊎ (begun_in e.what ≡ []) → under_way (e ∷ client_entries c past) ≡ Some b
        → under_way (client_entries c past) ≡ Some b
    own (inl never) h = absurd cc
    own (inr none) h = no_begin_under e.what (under_way (client_entries c past)) b none h

shown_there : (c : ClientNo) (op : Op) (reply : Reply) (past : List Entry) (place : ℕ) (b : Begun)
    → LastShown c op reply past place → under_way (client_entries c past) ≡ Some b
    → ReadThere past c b place
shown_there c op reply [] place b none now = absurd none
shown_there c op reply (e ∷ past) place b (inl (here, at)) now = record {
  later = [];
  entry = e;
  before = past;
  split = refl;
  is_place = at;
  by = here.0;
  seen = here.1.0;
  has = here.1.1;
  under = under_read e here.1.0 (under_way (client_entries c past)) b here.1.1 (subst (λ (x : Bool). under_way (if x then e ∷ client_entries c past else client_entries c past) ≡ Some b) here.0 now);
}
shown_there c op reply (e ∷ past) place b (inr (not_here, since, older)) now = there_more e past c b place (shown_there c op reply past place b older (under_older c e past b since now))

pub all_front : (P : Entry → Type 0) (xs ys : List Entry) → AllByRecursion P (xs ++ ys)
    → AllByRecursion P xs
all_front P [] ys all = tt
all_front P (x ∷ xs) ys all = (all.0, all_front P xs ys all.1)

catalog_there : (c : ClientNo) (past : List Entry) (place : ℕ) (b : Begun)
    → FirstCatalogAt c past place → under_way (client_entries c past) ≡ Some b
    → ReadThere past c b place
catalog_there c past place b first now =
    let none : AllByRecursion (λ (e : Entry). begun_in e.what ≡ []) (client_entries c first.later) =
    all_front (λ (e : Entry). begun_in e.what ≡ []) (client_entries c first.later) (first.entry ∷ since_begin (client_entries c first.before)) (subst (AllByRecursion (λ (e : Entry). begun_in e.what ≡ [])) first.since (none_begun (client_entries c past))) in
    let list = client_split c past first.later first.entry first.before first.split first.here.0 in
    let here = under_since (client_entries c first.later) (first.entry ∷ client_entries c first.before) b none (ap under_way (sym list) ∙ now) in
    record {
      later = first.later;
      entry = first.entry;
      before = first.before;
      split = first.split;
      is_place = first.is_place;
      by = first.here.0;
      seen = first.here.1.0;
      has = first.here.1.1;
      under = under_read first.entry first.here.1.0 (under_way (client_entries c first.before)) b first.here.1.1 here;
    }

read_there : (c : ClientNo) (past : List Entry) (op : Op) (reply : Reply) (place : ℕ) (b : Begun)
    → ReadPlace c past op reply place → under_way (client_entries c past) ≡ Some b
    → ReadThere past c b place
read_there c past (Scan name low high limit) (Say.Pairs pairs) place b at now = catalog_there c past place b at now
read_there c past op reply place b at now = shown_there c op reply past place b at now

-- in the whole log
replied_there : (past : List Entry) (p : Placed) → RepliedAt past p
    → ReadThere past p.past.client (begun_as p.past) p.place
replied_there past p r =
    let t = read_there p.past.client r.answer.at.before p.past.op p.past.reply p.place (begun_as p.past) r.read r.of in
    record {
      later = r.answer.at.later ++ (r.answer.at.entry ∷ t.later);
      entry = t.entry;
      before = t.before;
      split = r.answer.at.split ∙ (ap (λ (l : List Entry). r.answer.at.later ++ r.answer.at.entry ∷ l) t.split ∙ sym (append_assoc r.answer.at.later (r.answer.at.entry ∷ t.later) (t.entry ∷ t.before)));
      is_place = t.is_place;
      by = t.by;
      seen = t.seen;
      has = t.has;
      under = t.under;
    }

-- Apart

same_client : (a b : ClientNo) → Some a ≡ Some b → a ≡ b
same_client a b e = cc

apart : (start : Start) (past : List Entry) → StartsSound start
    → FollowsProtocol start past → (p q : Placed) → RepliedAt past p → Origin past q → Differs q p
    → p.place ≡ q.place → ⊥
apart start past sound run p q r (by_plan a) differs same =
    let t = replied_there past p r in
    let equal : length t.before ≡ length a.before = sym t.is_place ∙ (same ∙ a.is_place) in
    let here : SameSplit t.entry a.entry t.before a.before = same_split t.later a.later t.entry a.entry t.before a.before (sym t.split ∙ a.split) equal in
    no_plan_at_read start a.before a.entry t.seen a.issued sound (follows_before start past a.later (a.entry ∷ a.before) a.split run) (subst (λ (x : Entry). Contains (seen_at x) t.seen) here.here t.has) a.commits a.no_read
apart start past sound run p q r (by_answer s) differs same =
    let t = replied_there past p r in
    let u = replied_there past q s in
    let equal : length t.before ≡ length u.before = sym t.is_place ∙ (same ∙ u.is_place) in
    let here : SameSplit t.entry u.entry t.before u.before = same_split t.later u.later t.entry u.entry t.before u.before (sym t.split ∙ u.split) equal in
    let one : t.entry.client ≡ Some p.past.client = by_of p.past.client t.entry.client t.entry.node t.entry.what t.by in
    let two : u.entry.client ≡ Some q.past.client = by_of q.past.client u.entry.client u.entry.node u.entry.what u.by in
    let client : p.past.client ≡ q.past.client = same_client p.past.client q.past.client (sym one ∙ (ap (λ (x : Entry). x.client) here.here ∙ two)) in
    let under : under_way (client_entries p.past.client u.before) ≡ Some (begun_as p.past) = ap (λ (l : List Entry). under_way (client_entries p.past.client l)) (sym here.older) ∙ t.under in
    let begun = same_begun (begun_as p.past) (begun_as q.past) (sym under ∙ (ap (λ (d : ClientNo). under_way (client_entries d u.before)) client ∙ u.under)) in
    differs (sym client) (ap (λ (b : Begun). b.number) (sym begun))

all_apart : (P Q : Placed → Type 0) (R : Placed → Type 0) → ((q : Placed) → P q → Q q → R q)
    → (ps : List Placed) → AllByRecursion P ps → AllByRecursion Q ps → AllByRecursion R ps
all_apart P Q R f [] p q = tt
all_apart P Q R f (x ∷ xs) p q = (f x p.0 q.0, all_apart P Q R f xs p.1 q.1)

all_map : (P R : Placed → Type 0) → ((q : Placed) → P q → R q) → (ps : List Placed)
    → AllByRecursion P ps → AllByRecursion R ps
all_map P R f [] p = tt
all_map P R f (x ∷ xs) p = (f x p.0, all_map P R f xs p.1)

-- each place is one of the log
origin_low : (past : List Entry) (q : Placed) → Origin past q → q.place < length past
origin_low past q (by_plan a) =
    let low = shorter_by past a.later a.entry a.before a.split in
    let is : q.place ≡ length a.before = a.is_place in omega arith
origin_low past q (by_answer r) =
    let low = read_low q.past.client r.answer.at.before q.past.op q.past.reply q.place r.read in
    let less = shorter_by past r.answer.at.later r.answer.at.entry r.answer.at.before r.answer.at.split in omega arith

pub ascending : (start : Start) (past : List Entry) (placed : List Placed) → StartsSound start
    → FollowsProtocol start past → IsHistory past placed → Ascend placed
ascending start [] placed sound run none = subst Ascend (sym none) tt
ascending start (e ∷ past) placed sound run history = by (puts_of start past e placed run history) (ascending start past history.0 sound run.0 history.1) (origins start past history.0 run.0 history.1)
  where
    by : Puts past e history.0 placed → Ascend history.0 → AllByRecursion (Origin past) history.0
        → Ascend placed
    by (nothing_new same) up all = subst Ascend (sym same) up
    by (read_new p replied none same) up all =
        subst Ascend (sym same)
        (ascend_put p history.0
        (all_apart (Origin past) (λ q. Differs q p) (λ q. p.place ≡ q.place → ⊥) (λ q o d. apart start (e ∷ past) sound run p q replied (origin_more e past q o) d) history.0 all (none_past p history.0 none)) up)
    by (plan_new p plan same) up all =
        subst Ascend (sym same) (ascend_push history.0 (record { place = length past; past = p }) (all_map (Origin past) (λ q. q.place < length past) (origin_low past) history.0 all) up)
