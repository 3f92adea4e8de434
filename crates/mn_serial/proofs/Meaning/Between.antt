-- An operation stands between its Begin and its answer.
use Rattle.std.proofs.Common.{◌≡◌, ℕ, ◌<◌, ◌⊎◌, inl, inr, Bool, true, false, List, [], ◌∷◌, ◌++◌, length, Option, Some, None, refl, subst, sym, ap, ◌∙◌, arith, Contains}
use Rattle.mn_serial.specs.Meaning.{HistoryRun}
use Rattle.mn_base.specs.Store.{Store}
use Rattle.std.specs.List.{AllByRecursion}
use Rattle.std.proofs.lemmas.List.{append_assoc}
use Rattle.std.proofs.lemmas.List.Elements.{All-contains, All-from_recursion}
use Rattle.mn_base.specs.declared.ids.NodeNo.{NodeNo}
use Rattle.mn_base.specs.declared.ids.ClientNo.{ClientNo}
use Rattle.mn_base.specs.declared.op.Op.{Op}
use Rattle.mn_base.specs.declared.op.Op.TheVariants.{Scan}
use Rattle.mn_base.specs.declared.reply.Reply.{Reply}
use Rattle.mn_base.specs.declared.reply.Reply.TheVariants as Say
use Rattle.mn_base.specs.declared.answer.Answer.{Answer}
use Rattle.mn_base.specs.declared.answer.Answer.TheVariants.{Replied}
use Rattle.mn_runs.specs.declared.entry.Entry.{Entry}
use Rattle.mn_runs.specs.declared.entry.What.{What}
use Rattle.mn_runs.specs.declared.entry.What.TheVariants.{Begin, Issue, Called, Stopped, Restarted, Abandoned, Answered}
use Rattle.mn_runs.specs.Calls.{Issued, issue_in, Begun, begun_in, under_way, under_way_after, since_begin, since_begin_after, is_by, client_entries}
use Rattle.mn_runs.specs.Seen.{Seen, seen_at}
use Rattle.mn_serial.specs.History.{Placed, FirstCatalogAt, LastShown, ReadPlace}
use Rattle.mn_runs.specs.Protocol.{Start, FollowsProtocol}
use Rattle.mn_law.specs.Run.{IsRun}
use Rattle.mn_votes.specs.Laws.{StartsSound}
use Rattle.mn_serial.specs.Meaning.{StandsAt, BeginsOp, AnswersOp, CommitsPlanAt, OnlyThoseStand, PlansLieBehind}
use Rattle.mn_law.proofs.MakeRun.{runs_follow_protocol}
use Rattle.mn_serial.proofs.Meaning.Splits.{SameSplit, same_split, shorter_by}
use Rattle.mn_serial.proofs.Meaning.Effects.{read_call}
use Rattle.mn_serial.proofs.Meaning.Replies.{last_shown_at}
use Rattle.mn_serial.proofs.Meaning.Positions.{inner_split, OwnAt, BeginAt, AnswerAt, begin_before, answered_once, is_own, client_split, ordered}
use Rattle.mn_serial.proofs.Meaning.Origins.{Origin, by_plan, by_answer, origins, issue_of, issue_low, begun_as}
use Rattle.mn_serial.proofs.Meaning.Plans.{plan_in}
use Rattle.mn_serial.proofs.Meaning.Answered.{plan_replied}
use Rattle.mn_serial.proofs.Meaning.LastPlan.{Lifted, lift}
use Rattle.mn_serial.proofs.Meaning.Once.{answer_at, plan_of}
use Rattle.mn_serial.proofs.Meaning.Clients.{same_begun}

-- A read is no Begin

brings_no_begin : (x : Entry) (seen : Seen) (number : ℕ) (op : Op) → Contains (seen_at x) seen
    → x.what ≡ Begin number op → ⊥
brings_no_begin x seen number op has is = clash (sym (read_call x.client x.node x.what seen has).call ∙ is)
  where
    clash : {q : Rattle.mn_mini.specs.declared.request.Request.Request} {r : Rattle.mn_mini.specs.declared.reply.NodeReply.NodeReply} → Called q r ≡ Begin number op → ⊥
    clash e = cc

begun_there : (x : Entry) (number : ℕ) (op : Op) → x.what ≡ Begin number op → begun_in x.what ≡ []
    → ⊥
begun_there x number op is none = some (ap begun_in (sym is) ∙ none)
  where
    some : ◌≡◌ {A = List Begun} (record { number = number; op = op } ∷ []) [] → ⊥
    some e = cc

-- the last read that shows a reply stands behind the operation's Begin
shown_behind : (c : ClientNo) (op : Op) (reply : Reply) (past : List Entry) (place : ℕ)
    → LastShown c op reply past place
    → (later : List Entry) (f : Entry) (before : List Entry) (number : ℕ) (begun : Op)
    → past ≡ later ++ f ∷ before → is_by c f ≡ true → f.what ≡ Begin number begun
    → length before < place
shown_behind c op reply [] place none later f before number begun split by is = absurd none
shown_behind c op reply (e ∷ past) place (inl (here, at)) [] f before number begun split by is =
    let same : e ≡ f = cc in absurd (brings_no_begin e here.1.0 number begun here.1.1 (ap (λ (x : Entry). x.what) same ∙ is))
shown_behind c op reply (e ∷ past) place (inl (here, at)) (x ∷ later) f before number begun split by is =
    let rest : past ≡ later ++ f ∷ before = cc in
    let less = shorter_by past later f before rest in omega arith
shown_behind c op reply (e ∷ past) place (inr (not_here, since, older)) [] f before number begun split by is = absurd (neither since)
  where
    same : e ≡ f
    same = cc

    clash : (b : Bool) → b ≡ true → b ≡ false → ⊥
    clash b p q = cc

    neither : (is_by c e ≡ false) ⊎ (begun_in e.what ≡ []) → ⊥
    neither (inl other) = clash (is_by c e) (ap (is_by c) same ∙ by) other
    neither (inr none) = begun_there e number begun (ap (λ (x : Entry). x.what) same ∙ is) none
shown_behind c op reply (e ∷ past) place (inr (not_here, since, older)) (x ∷ later) f before number begun split by is =
    let rest : past ≡ later ++ f ∷ before = cc in shown_behind c op reply past place older later f before number begun rest by is

-- no entry since Begin begins anything
none_step : (at : Option NodeNo) (by : Option ClientNo) (what : What) (es : List Entry)
    → AllByRecursion (λ (e : Entry). begun_in e.what ≡ []) es
    → AllByRecursion (λ (e : Entry). begun_in e.what ≡ []) (since_begin_after what (record { node = at; client = by; what = what }) es)
none_step at by (Begin number op) es all = tt
none_step at by (Answered number answer) es all = tt
none_step at by (Issue tid mini) es all = (refl, all)
none_step at by (Called request reply) es all = (refl, all)
none_step at by (Stopped request asked) es all = (refl, all)
none_step at by (Restarted kept) es all = (refl, all)
none_step at by (Abandoned tid) es all = (refl, all)

pub none_begun : (es : List Entry)
    → AllByRecursion (λ (e : Entry). begun_in e.what ≡ []) (since_begin es)
none_begun [] = tt
none_begun (e ∷ es) = none_step e.node e.client e.what (since_begin es) (none_begun es)

pub all_mid : (P : Entry → Type 0) (xs : List Entry) (x : Entry) (ys : List Entry)
    → AllByRecursion P (xs ++ x ∷ ys) → P x
all_mid P [] x ys all = all.0
all_mid P (z ∷ xs) x ys all = all_mid P xs x ys all.1

catalog_behind : (c : ClientNo) (past : List Entry) (place : ℕ) (first : FirstCatalogAt c past place) (later : List Entry) (f : Entry) (before : List Entry) (number : ℕ) (begun : Op) → past ≡ later ++ f ∷ before → is_by c f ≡ true → f.what ≡ Begin number begun → length before < place
catalog_behind c past place first later f before number begun split by is = cases (ordered (length before) (length first.before))
  where
    at : place ≡ length first.before
    at = first.is_place

    cases : (length before < length first.before)
        ⊎ ((length before ≡ length first.before) ⊎ (length first.before < length before))
        → length before < place
    cases (inl less) = omega arith
    cases (inr (inl equal)) =
        let here : SameSplit f first.entry before first.before = same_split later first.later f first.entry before first.before (sym split ∙ first.split) equal in
        absurd (brings_no_begin first.entry first.here.1.0 number begun first.here.1.1 (ap (λ (x : Entry). x.what) (sym here.here) ∙ is))
    cases (inr (inr more)) =
        let inner = inner_split first.later later first.entry f first.before before (sym first.split ∙ split) more in
        let parts : first.later ≡ later ++ f ∷ inner.between =
        Rattle.std.proofs.lemmas.List.append_cancel_right first.later (later ++ f ∷ inner.between) (first.entry ∷ first.before)
        (sym first.split ∙ (split ∙ (ap (λ (l : List Entry). later ++ f ∷ l) inner.split ∙ sym (append_assoc later (f ∷ inner.between) (first.entry ∷ first.before))))) in
        let own : client_entries c first.later ≡ client_entries c later ++ f ∷ client_entries c inner.between = client_split c first.later later f inner.between parts by in
        let since : since_begin (client_entries c past) ≡ client_entries c later ++ f ∷ (client_entries c inner.between ++ first.entry ∷ since_begin (client_entries c first.before)) =
        first.since ∙ (ap (λ (l : List Entry). l ++ first.entry ∷ since_begin (client_entries c first.before)) own ∙ append_assoc (client_entries c later) (f ∷ client_entries c inner.between) (first.entry ∷ since_begin (client_entries c first.before))) in
        absurd (begun_there f number begun is (all_mid (λ (e : Entry). begun_in e.what ≡ []) (client_entries c later) f (client_entries c inner.between ++ first.entry ∷ since_begin (client_entries c first.before))
        (subst (AllByRecursion (λ (e : Entry). begun_in e.what ≡ [])) since (none_begun (client_entries c past)))))

read_behind : (c : ClientNo) (past : List Entry) (op : Op) (reply : Reply) (place : ℕ)
    → ReadPlace c past op reply place
    → (later : List Entry) (f : Entry) (before : List Entry) (number : ℕ) (begun : Op)
    → past ≡ later ++ f ∷ before → is_by c f ≡ true → f.what ≡ Begin number begun
    → length before < place
read_behind c past (Scan name low high limit) (Say.Pairs pairs) place at later f before number begun split by is = catalog_behind c past place at later f before number begun split by is
read_behind c past op reply place at later f before number begun split by is = shown_behind c op reply past place at later f before number begun split by is

-- and it stands before the answer
shown_low : (past : List Entry) (c : ClientNo) (op : Op) (reply : Reply) (place : ℕ)
    → LastShown c op reply past place → place < length past
shown_low past c op reply place shown =
    let at = last_shown_at past c op reply place shown in
    let less = shorter_by past at.later at.entry at.before at.split in
    let is : place ≡ length at.before = at.is_place in omega arith

pub read_low : (c : ClientNo) (past : List Entry) (op : Op) (reply : Reply) (place : ℕ)
    → ReadPlace c past op reply place → place < length past
read_low c past (Scan name low high limit) (Say.Pairs pairs) place at =
    let less = shorter_by past at.later at.entry at.before at.split in
    let is : place ≡ length at.before = at.is_place in omega arith
read_low c past op reply place at = shown_low past c op reply place at

-- Places

pub issue_no_begin : (what : What) (i : Issued) (number : ℕ) (op : Op) → issue_in what ≡ i ∷ []
    → what ≡ Begin number op → ⊥
issue_no_begin what i number op is begins = none (ap issue_in (sym begins) ∙ is)
  where
    none : [] ≡ i ∷ [] → ⊥
    none e = cc

answer_no_begin : (what : What) (number k : ℕ) (answer : Answer) (op : Op)
    → what ≡ Answered number answer → what ≡ Begin k op → ⊥
answer_no_begin what number k answer op is begins = none (sym is ∙ begins)
  where
    none : Answered number answer ≡ Begin k op → ⊥
    none e = cc

pub begins_before : (start : Start) (past : List Entry) → FollowsProtocol start past → (p : Placed)
    → Origin past p → (op : Op) (f : BeginAt past p.past.client p.past.number op)
    → length f.at.before < p.place
begins_before start past run p (by_plan a) op f =
    let x = issue_of past p.place p.past a in
    let before = begin_before start past p.past.client p.past.number op f x.at (begun_as p.past) run x.of refl (issue_no_begin x.at.entry.what a.issued p.past.number op x.issues) in
    let low = issue_low past p.place p.past a in omega arith
begins_before start past run p (by_answer r) op f =
    let before = begin_before start past p.past.client p.past.number op f r.answer.at (begun_as p.past) run r.of refl (answer_no_begin r.answer.at.entry.what p.past.number p.past.number (Replied p.past.reply) op r.answer.answers) in
    let inner = inner_split f.at.later r.answer.at.later f.at.entry r.answer.at.entry f.at.before r.answer.at.before (sym f.at.split ∙ r.answer.at.split) before in
    read_behind p.past.client r.answer.at.before p.past.op p.past.reply p.place r.read inner.between f.at.entry f.at.before p.past.number op inner.split (is_own p.past.client f.at.entry f.at.by) f.begins

pub answered_behind : (start : Start) (past : List Entry) → StartsSound start
    → IsRun start past → (p : Placed) → Origin past p
    → (reply : Reply) (e : AnswerAt past p.past.client p.past.number (Replied reply))
    → p.place < length e.at.before
answered_behind start past sound run p (by_plan a) reply e = (plan_replied start past sound run p.past.client p.past.number reply e p.place (plan_in past p.place p.past a)).before
answered_behind start past sound run p (by_answer r) reply e =
    let same = answered_once start past p.past.client p.past.number (Replied reply) (Replied p.past.reply) e r.answer (runs_follow_protocol start past run) in
    let equal : length e.at.before ≡ length r.answer.at.before = same.0 in
    let low = read_low p.past.client r.answer.at.before p.past.op p.past.reply p.place r.read in omega arith

abbrev pub begin_at : (past : List Entry) (place : ℕ) (e : Entry) (c : ClientNo) (number : ℕ) (op : Op) → StandsAt past place e → BeginsOp e c number op → BeginAt past c number op
begin_at past place e c number op (later, before, split, is) begins = record { at = record { entry = e; later = later; before = before; split = split; by = begins.0 }; begins = begins.1 }

pub origin_of : (start : Start) (past : List Entry) (placed : List Placed) (p : Placed)
    → IsRun start past → Rattle.mn_serial.specs.History.IsHistory past placed → Contains placed p
    → Origin past p
origin_of start past placed p run history has = All-contains (Origin past) placed p (All-from_recursion (Origin past) placed (origins start past placed (runs_follow_protocol start past run) history)) has

-- an operation takes its place after its Begin and, where it is replied to, before its answer
abbrev PlacesLieBetween : Type 0
PlacesLieBetween =
    (start : Start) (store : Store) (past : List Entry) (placed : List Placed) (p : Placed)
    (place : ℕ) (e : Entry) → HistoryRun start store past placed
    → Contains placed p → StandsAt past place e
    → ((op : Op) → BeginsOp e p.past.client p.past.number op → place < p.place)
    × ((reply : Reply) → AnswersOp e p.past.client p.past.number (Replied reply) → p.place < place)

pub places_lie_between : PlacesLieBetween
places_lie_between start store past placed p place e h has stands = (begins, answers)
  where
    origin : Origin past p
    origin = origin_of start past placed p h.opened.run h.history has

    begins : (op : Op) → BeginsOp e p.past.client p.past.number op → place < p.place
    begins op is =
        let less = begins_before start past (runs_follow_protocol start past h.opened.run) p origin op (begin_at past place e p.past.client p.past.number op stands is) in
        let at : place ≡ length stands.1 = stands.3 in omega arith

    answers : (reply : Reply) → AnswersOp e p.past.client p.past.number (Replied reply)
        → p.place < place
    answers reply is =
        let less = answered_behind start past h.opened.opened.sound h.opened.run p origin reply (answer_at past place e p.past.client p.past.number (Replied reply) stands is) in
        let at : place ≡ length stands.1 = stands.3 in omega arith

-- an operation that was replied to before another one's Begin has the lower place
abbrev SeenFirst : Type 0
SeenFirst =
    (start : Start) (store : Store) (past : List Entry) (placed : List Placed) (p q : Placed)
    (answered begun : ℕ) (e f : Entry) (reply : Reply) (op : Op)
    → HistoryRun start store past placed
    → Contains placed p → Contains placed q → StandsAt past answered e
    → AnswersOp e p.past.client p.past.number (Replied reply)
    → StandsAt past begun f → BeginsOp f q.past.client q.past.number op → answered < begun
    → p.place < q.place

pub seen_first : SeenFirst
seen_first start store past placed p q answered begun e f reply op h has has' stands answers stands' begins less =
    let low : p.place < answered = (places_lie_between start store past placed p answered e h has stands).1 reply answers in
    let high : begun < q.place = (places_lie_between start store past placed q begun f h has' stands').0 op begins in omega arith

-- Nothing else stands in the history

record Began (es : List Entry) (b : Begun) : Type 0 where
  newer : List Entry
  entry : Entry
  older : List Entry
  split : es ≡ newer ++ entry ∷ older
  begins : entry.what ≡ Begin b.number b.op

began_more : (e : Entry) (es : List Entry) (b : Begun) → Began es b → Began (e ∷ es) b
began_more e es b g = record { newer = e ∷ g.newer; entry = g.entry; older = g.older; split = ap (λ (l : List Entry). e ∷ l) g.split; begins = g.begins }

no_begun : (b : Begun) → None ≡ Some b → ⊥
no_begun b e = cc

began_step : (at : Option NodeNo) (by : Option ClientNo) (what : What) (es : List Entry) (b : Begun)
    → (under_way es ≡ Some b → Began es b) → under_way_after what (under_way es) ≡ Some b
    → Began (record { node = at; client = by; what = what } ∷ es) b
began_step at by (Begin number op) es b older is =
    let same : record { number = number; op = op } ≡ b = same_begun _ b is in
    record { newer = []; entry = record { node = at; client = by; what = Begin number op }; older = es; split = refl; begins = ap (λ (x : Begun). Begin x.number x.op) same }
began_step at by (Answered number answer) es b older is = absurd (no_begun b is)
began_step at by (Issue tid mini) es b older is = began_more (record { node = at; client = by; what = Issue tid mini }) es b (older is)
began_step at by (Called request reply) es b older is = began_more (record { node = at; client = by; what = Called request reply }) es b (older is)
began_step at by (Stopped request asked) es b older is = began_more (record { node = at; client = by; what = Stopped request asked }) es b (older is)
began_step at by (Restarted kept) es b older is = began_more (record { node = at; client = by; what = Restarted kept }) es b (older is)
began_step at by (Abandoned tid) es b older is = began_more (record { node = at; client = by; what = Abandoned tid }) es b (older is)

began : (es : List Entry) (b : Begun) → under_way es ≡ Some b → Began es b
began [] b is = absurd (no_begun b is)
began (e ∷ es) b is = began_step e.node e.client e.what es b (began es b) is

-- the Begin of an operation under way, in the whole log
begin_of : (past : List Entry) (c : ClientNo) (y : OwnAt past c) (b : Begun)
    → under_way (client_entries c y.before) ≡ Some b → BeginAt past c b.number b.op
begin_of past c y b is =
    let g = began (client_entries c y.before) b is in
    let l : Lifted c y.before g.entry g.older = lift c y.before g.newer g.entry g.older g.split in
    record {
      at = record {
        entry = g.entry;
        later = y.later ++ (y.entry ∷ l.later);
        before = l.before;
        split = y.split ∙ (ap (λ (es : List Entry). y.later ++ y.entry ∷ es) l.split ∙ sym (append_assoc y.later (y.entry ∷ l.later) (g.entry ∷ l.before)));
        by = l.by;
      };
      begins = g.begins;
    }

pub only_those_stand : OnlyThoseStand
only_those_stand start store past placed p h has = (begun (origin_of start past placed p h.opened.run h.history has), source (origin_of start past placed p h.opened.run h.history has))
  where
    run : FollowsProtocol start past
    run = runs_follow_protocol start past h.opened.run

    stands : (f : BeginAt past p.past.client p.past.number p.past.op) → Origin past p
        → (place : ℕ) × (e : Entry) × StandsAt past place e
        × BeginsOp e p.past.client p.past.number p.past.op × (place < p.place)
    stands f origin = (length f.at.before, f.at.entry, (f.at.later, f.at.before, f.at.split, refl), (f.at.by, f.begins), begins_before start past run p origin p.past.op f)

    begun : Origin past p
        → (place : ℕ) × (e : Entry) × StandsAt past place e
        × BeginsOp e p.past.client p.past.number p.past.op × (place < p.place)
    begun (by_plan a) = let x = issue_of past p.place p.past a in stands (begin_of past p.past.client x.at (begun_as p.past) x.of) (by_plan a)
    begun (by_answer r) = stands (begin_of past p.past.client r.answer.at (begun_as p.past) r.of) (by_answer r)

    source : Origin past p → CommitsPlanAt past p.place p.past.client p.past.number
        ⊎ ((place : ℕ) × (e : Entry) × StandsAt past place e × AnswersOp e p.past.client p.past.number (Replied p.past.reply) × (p.place < place))
    source (by_plan a) = inl (a.later, a.entry, a.before, a.issued, a.split, a.is_place, a.commits, a.no_read, (p.past, a.plan, refl, refl))
    source (by_answer r) =
        inr (
          length r.answer.at.before,
          r.answer.at.entry,
          (r.answer.at.later, r.answer.at.before, r.answer.at.split, refl),
          (r.answer.at.by, r.answer.answers),
          answered_behind start past h.opened.opened.sound h.opened.run p (by_answer r) p.past.reply r.answer,
        )

pub plans_lie_behind : PlansLieBehind
plans_lie_behind start store past place begun e c number op h plan stands begins =
    let x = plan_of past place c number plan in
    let before = begin_before start past c number op (begin_at past begun e c number op stands begins) x.issue.at (record { number = number; op = x.op }) (runs_follow_protocol start past h.run) x.issue.of refl
    (issue_no_begin x.issue.at.entry.what x.issued number op x.issue.issues) in
    let low = x.low in
    let at : begun ≡ length stands.1 = stands.3 in omega arith
