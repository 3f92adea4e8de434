-- How the tries of an operation go on in its client's own list.
use Rattle.std.proofs.Common.{◌≡◌, inl, inr, ℕ, zero, suc, Bool, true, false, not}
use Rattle.std.proofs.Common.{◌&&◌, ◌||◌, List, [], ◌∷◌, ◌++◌, Option, refl, subst}
use Rattle.std.proofs.Common.{sym, ap, ◌∙◌, arith, Contains}
use Rattle.std.specs.List.{AllByRecursion, flat_map, list_all, list_any}
use Rattle.std.proofs.lemmas.List.{append_assoc, append-nil}
use Rattle.std.proofs.lemmas.List.Folds.{list_all-append}
use Rattle.std.proofs.lemmas.List.Elements.{Contains-append_left}
use Rattle.mn_base.specs.declared.ids.Addr.{Addr}
use Rattle.mn_base.specs.declared.ids.NodeNo.{NodeNo}
use Rattle.mn_base.specs.declared.op.Op.{Op}
use Rattle.mn_base.specs.declared.op.Op.TheVariants.{Tx, Snapshot, Branch, Scan, Versions}
use Rattle.mn_base.specs.declared.answer.Busy.{Busy}
use Rattle.mn_base.specs.declared.answer.Busy.TheVariants.{Lock, Path, Moved, Forced}
use Rattle.mn_base.proofs.Booleans.{both_parts}
use Rattle.mn_mini.specs.declared.request.Request.{Request}
use Rattle.mn_mini.specs.declared.request.Request.TheVariants as Ask
use Rattle.mn_mini.specs.declared.reply.NodeReply.{NodeReply}
use Rattle.mn_mini.specs.declared.reply.NodeReply.TheVariants as Say
use Rattle.mn_page.specs.declared.entry.CatEntry.{CatEntry}
use Rattle.mn_runs.specs.declared.entry.Entry.{Entry}
use Rattle.mn_runs.specs.Calls.{Call, call_in, calls_of}
use Rattle.mn_runs.specs.Seen.{Seen, seen_by, seen_in}
use Rattle.mn_law.specs.Answers.{BeginsAfter, BringsLeaf, BringsNone, FailedTries}
use Rattle.mn_law.specs.Answers.{FailsAs, IsKeyOf, IsWhole, LastTry, LeafIsNewest, MayBeKept, MeetsFault}
use Rattle.mn_law.specs.Answers.{Reached, ReachesAddr}
use Rattle.mn_law.specs.Answers.Reached.{by_root, by_child}
use Rattle.mn_law.proofs.Sees.{seen_in-append}
use Rattle.mn_law.specs.Answers.{RefusedAs, asks_at_first, asks_for_catalog, is_any_decide}
use Rattle.mn_law.specs.Answers.{is_catalog_call, is_one_try, is_peek, is_refusal, none_refused, reads_anew}
use Rattle.mn_proxy.specs.Tries.{FirstFailed, HasAsked, HasNoLeaf, HasSentNone, HaveFailed, IsTrying, Origin}
use Rattle.mn_proxy.specs.Tries.{MayPeek, ShowsCause, WasRefused, peeks_at_nothing}
use Rattle.mn_work.specs.Walks.{IfLater, MeetsFor}

-- Lists

both : (a b : Bool) → a ≡ true → b ≡ true → (a && b) ≡ true
both a b p q = let e = ap (λ x. x && b) p in e ∙ q

-- lists that are joined
to_left : (ws xs ys zs : List Entry) → ws ++ (xs ++ ys ++ zs) ≡ ws ++ xs ++ ys ++ zs
to_left ws xs ys zs =
    sym (append_assoc ws (xs ++ ys) zs) ∙ ap (λ (l : List Entry). l ++ zs) (sym (append_assoc ws xs ys))

-- one more entry
unrefused_on : (e : Entry) (es : List Entry)
    → list_all (λ c. not (is_refusal c.reply)) (call_in e.node e.what) ≡ true → none_refused es ≡ true
    → none_refused (e ∷ es) ≡ true
unrefused_on e es one rest =
    list_all-append (λ (c : Call). not (is_refusal c.reply)) (call_in e.node e.what) (calls_of es)
    ∙ both (list_all (λ (c : Call). not (is_refusal c.reply)) (call_in e.node e.what)) (none_refused es) one rest

peeks_on : (e : Entry) (es : List Entry)
    → list_all (λ c. not (is_peek c.request)) (call_in e.node e.what) ≡ true → peeks_at_nothing es ≡ true
    → peeks_at_nothing (e ∷ es) ≡ true
peeks_on e es one rest =
    list_all-append (λ (c : Call). not (is_peek c.request)) (call_in e.node e.what) (calls_of es)
    ∙ both (list_all (λ (c : Call). not (is_peek c.request)) (call_in e.node e.what)) (peeks_at_nothing es) one rest

pub decides_on : (e : Entry) (es : List Entry)
    → list_all (λ c. is_any_decide c.request) (call_in e.node e.what) ≡ true
    → list_all (λ c. is_any_decide c.request) (calls_of es) ≡ true
    → list_all (λ c. is_any_decide c.request) (calls_of (e ∷ es)) ≡ true
decides_on e es one rest =
    list_all-append (λ (c : Call). is_any_decide c.request) (call_in e.node e.what) (calls_of es)
    ∙ both (list_all (λ (c : Call). is_any_decide c.request) (call_in e.node e.what)) (list_all (λ (c : Call). is_any_decide c.request) (calls_of es)) one rest

-- either is so
or_left : (a b : Bool) → a ≡ true → (a || b) ≡ true
or_left true b e = refl
or_left false b e = absurd cc

pub or_right : (a b : Bool) → b ≡ true → (a || b) ≡ true
or_right true b e = refl
or_right false b e = e

-- calls that don't ask for the catalog leave the first one the first
spare_calls : (xs cs : List Call) → list_all (λ c. not (is_catalog_call c)) xs ≡ true
    → asks_at_first cs ≡ true → asks_at_first (xs ++ cs) ≡ true
spare_calls [] cs spared first = first
spare_calls (x ∷ xs) cs spared first =
    let parts = both_parts (not (is_catalog_call x)) (list_all (λ (c : Call). not (is_catalog_call c)) xs) spared in
    both (not (is_catalog_call x) || list_all (λ (d : Call). is_any_decide d.request) (xs ++ cs)) (asks_at_first (xs ++ cs))
    (or_left (not (is_catalog_call x)) (list_all (λ (d : Call). is_any_decide d.request) (xs ++ cs)) parts.0) (spare_calls xs cs parts.1 first)

pub spares_on : (e : Entry) (es : List Entry)
    → list_all (λ c. not (is_catalog_call c)) (call_in e.node e.what) ≡ true
    → asks_at_first (calls_of es) ≡ true → asks_at_first (calls_of (e ∷ es)) ≡ true
spares_on e es one rest = spare_calls (call_in e.node e.what) (calls_of es) one rest

-- decisions ask for nothing
none_asked : (cs : List Call) → list_all (λ c. is_any_decide c.request) cs ≡ true
    → asks_at_first cs ≡ true
none_asked [] sent = refl
none_asked (c ∷ cs) sent =
    let parts = both_parts (is_any_decide c.request) (list_all (λ (d : Call). is_any_decide d.request) cs) sent in
    both (not (is_catalog_call c) || list_all (λ (d : Call). is_any_decide d.request) cs) (asks_at_first cs)
    (or_right (not (is_catalog_call c)) (list_all (λ (d : Call). is_any_decide d.request) cs) parts.1) (none_asked cs parts.1)

-- behind them any call is the first
pub first_on : (e : Entry) (es : List Entry) (call : Call) → call_in e.node e.what ≡ call ∷ []
    → HasSentNone es → asks_at_first (calls_of (e ∷ es)) ≡ true
first_on e es call is sent =
    ap (λ cs. asks_at_first (cs ++ calls_of es)) is
    ∙ both (not (is_catalog_call call) || list_all (λ (d : Call). is_any_decide d.request) (calls_of es)) (asks_at_first (calls_of es))
    (or_right (not (is_catalog_call call)) (list_all (λ (d : Call). is_any_decide d.request) (calls_of es)) sent) (none_asked (calls_of es) sent)

-- the entry peeks only where it may
abbrev pub NoPeek : ℕ → Entry → Type 0
NoPeek failed e = IfLater failed (list_all (λ c. not (is_peek c.request)) (call_in e.node e.what) ≡ true)

may_peek_on : (failed : ℕ) (e : Entry) (es : List Entry) → NoPeek failed e → MayPeek failed es
    → MayPeek failed (e ∷ es)
may_peek_on zero e es one rest = tt
may_peek_on (suc n) e es one rest = peeks_on e es one rest

newest_on : (op : Op) (e : Entry) (es : List Entry) → HasNoLeaf op es → LeafIsNewest op (e ∷ es)
newest_on (Tx name steps) e es none = tt
newest_on (Snapshot name child) e es none = tt
newest_on (Branch name child) e es none = tt
newest_on (Scan name low high limit) e es none = none
newest_on Versions e es none = tt

-- The try goes on

pub trying_on : (nodes : ℕ) (op : Op) (from : Origin) (failed : ℕ) (now try : List Entry) (e : Entry)
    → IsTrying nodes op from failed now try → HasNoLeaf op try
    → list_all (λ c. not (is_refusal c.reply)) (call_in e.node e.what) ≡ true → NoPeek failed e
    → asks_at_first (calls_of (e ∷ try)) ≡ true
    → IsTrying nodes op from failed (e ∷ now) (e ∷ try)
trying_on nodes op from failed now try e t none good peek first = record {
  before = t.before;
  split = ap (λ l. e ∷ l) t.split;
  have_failed = t.have_failed;
  unrefused = unrefused_on e try good t.unrefused;
  asks_first = first;
  peeks = may_peek_on failed e try peek t.peeks;
  leaf = newest_on op e try none;
}

-- it is refused
pub refused_on : (nodes : ℕ) (op : Op) (from : Origin) (failed : ℕ) (now try : List Entry) (e : Entry)
    (call : Call) (busy : Busy) (t : IsTrying nodes op from failed now try) → HasNoLeaf op try
    → call_in e.node e.what ≡ call ∷ [] → is_refusal call.reply ≡ true → NoPeek failed e
    → asks_at_first (calls_of (e ∷ try)) ≡ true → HasAsked failed op from (e ∷ try)
    → IfLater failed (RefusedAs (seen_in try) call.node call.request call.reply busy)
    → WasRefused nodes op from failed (e ∷ now) busy
refused_on nodes op from failed now try e call busy t none is refusal peek first asked told = record {
  rest = [];
  last = e ∷ try;
  before = t.before;
  split = ap (λ l. e ∷ l) t.split;
  over = refl;
  quiet = refl;
  have_failed = t.have_failed;
  single = both (none_refused try) (asks_at_first (calls_of (e ∷ try))) t.unrefused first;
  peeks = may_peek_on failed e try peek t.peeks;
  asked = asked;
  leaf = newest_on op e try none;
  cause = by failed told;
  ends = ap (list_any (λ (c : Call). is_refusal c.reply)) is ∙ ap (λ b. b || false) refusal;
}
  where
    by : (n : ℕ) → IfLater n (RefusedAs (seen_in try) call.node call.request call.reply busy)
        → ShowsCause nodes op from.taken n (e ∷ try) busy
    by zero told = tt
    by (suc n) told = inl (call, is, told)

-- decisions are sent, or an entry is no call
pub decided_on : (nodes : ℕ) (op : Op) (from : Origin) (failed : ℕ) (now : List Entry) (e : Entry)
    (busy : Busy) → WasRefused nodes op from failed now busy
    → list_all (λ c. is_any_decide c.request) (call_in e.node e.what) ≡ true
    → list_all (λ c. not (is_refusal c.reply)) (call_in e.node e.what) ≡ true
    → WasRefused nodes op from failed (e ∷ now) busy
decided_on nodes op from failed now e busy r decides good = record {
  rest = e ∷ r.rest;
  last = r.last;
  before = r.before;
  split = ap (λ l. e ∷ l) r.split;
  over = decides_on e r.rest decides r.over;
  quiet = unrefused_on e r.rest good r.quiet;
  have_failed = r.have_failed;
  single = r.single;
  peeks = r.peeks;
  asked = r.asked;
  leaf = r.leaf;
  cause = r.cause;
  ends = r.ends;
}

-- A try failed

anew : (try : List Entry) → asks_for_catalog try ≡ true → peeks_at_nothing try ≡ true
    → reads_anew try ≡ true
anew try asked peeks = both (asks_for_catalog try) (peeks_at_nothing try) asked peeks

-- one more has failed
have_failed_on : (nodes : ℕ) (op : Op) (from : Origin) (failed : ℕ) (last before : List Entry)
    (busy : Busy) → HaveFailed nodes op from failed before → is_one_try last ≡ true
    → MayPeek failed last → HasAsked failed op from last → LeafIsNewest op last
    → ShowsCause nodes op from.taken failed last busy
    → HaveFailed nodes op from (suc failed) (last ++ before)
have_failed_on nodes op from zero last before busy h single peeks asked leaf cause = record {
  tries = [];
  first = last;
  split = ap (λ l. last ++ l) h.0;
  many = refl;
  later_failed = record { causes = tt; single = refl; anew = refl; leaves = tt };
  single = single;
  leaf = leaf;
  kept = asked;
  whole = h.1;
  took = h.2;
}
have_failed_on nodes op from (suc n) last before busy h single peeks asked leaf cause = record {
  tries = last ∷ h.tries;
  first = h.first;
  split = ap (λ l. last ++ l) h.split ∙ to_left last (flat_map (λ try. try) h.tries) h.first from.taken;
  many = ap suc h.many;
  later_failed = record {
    causes = ((busy, cause), h.later_failed.causes);
    single = both (is_one_try last) (list_all is_one_try h.tries) single h.later_failed.single;
    anew = both (reads_anew last) (list_all reads_anew h.tries) (anew last asked peeks) h.later_failed.anew;
    leaves = (leaf, h.later_failed.leaves);
  };
  single = h.single;
  leaf = h.leaf;
  kept = h.kept;
  whole = h.whole;
  took = h.took;
}

-- decisions peek at nothing, and bring nothing
no_peeks : (cs : List Call) → list_all (λ c. is_any_decide c.request) cs ≡ true
    → list_all (λ c. not (is_peek c.request)) cs ≡ true
no_peeks [] all = refl
no_peeks (c ∷ cs) all =
    let parts = both_parts (is_any_decide c.request) (list_all (λ (x : Call). is_any_decide x.request) cs) all in
    both (not (is_peek c.request)) (list_all (λ (x : Call). not (is_peek x.request)) cs) (by c.request parts.0) (no_peeks cs parts.1)
  where
    by : (r : Request) → is_any_decide r ≡ true → not (is_peek r) ≡ true
    by (Ask.Decide tid verdict) e = refl
    by (Ask.Prepare tid ps part) e = absurd cc
    by (Ask.Exec tid part) e = absurd cc
    by (Ask.Force tid) e = absurd cc
    by Ask.List e = absurd cc
    by (Ask.Peek s k) e = absurd cc

seen_none : (cs : List Call) → list_all (λ c. is_any_decide c.request) cs ≡ true
    → flat_map (λ c. seen_by c.node c.request c.reply) cs ≡ []
seen_none [] all = refl
seen_none (c ∷ cs) all =
    let parts = both_parts (is_any_decide c.request) (list_all (λ (x : Call). is_any_decide x.request) cs) all in
    ap (λ (l : List Seen). l ++ flat_map (λ (x : Call). seen_by x.node x.request x.reply) cs) (by c.request parts.0) ∙ seen_none cs parts.1
  where
    by : (r : Request) → is_any_decide r ≡ true → seen_by c.node r c.reply ≡ []
    by (Ask.Decide tid verdict) e = refl
    by (Ask.Prepare tid ps part) e = refl
    by (Ask.Exec tid part) e = absurd cc
    by (Ask.Force tid) e = refl
    by Ask.List e = refl
    by (Ask.Peek s k) e = refl

pub decided_seen : (try : List Entry) → HasSentNone try → seen_in try ≡ []
decided_seen try sent = seen_none (calls_of try) sent

no_leaf : (e : Entry) → list_all (λ c. is_any_decide c.request) (call_in e.node e.what) ≡ true
    → BringsLeaf e → ⊥
no_leaf e decides brings =
    let none = subst (λ (l : List Seen). Contains l brings.0) (seen_none (call_in e.node e.what) decides) brings.3 in
    let low = none.1 in omega arith

no_leaves : (es : List Entry) → list_all (λ c. is_any_decide c.request) (calls_of es) ≡ true
    → AllByRecursion (λ e. BringsLeaf e → ⊥) es
no_leaves [] all = tt
no_leaves (e ∷ es) all =
    let parts = both_parts (list_all (λ (x : Call). is_any_decide x.request) (call_in e.node e.what)) (list_all (λ (x : Call). is_any_decide x.request) (calls_of es))
    (sym (list_all-append (λ (x : Call). is_any_decide x.request) (call_in e.node e.what) (calls_of es)) ∙ all) in
    (no_leaf e parts.0, no_leaves es parts.1)

has_no_leaf : (op : Op) (es : List Entry) → AllByRecursion (λ e. BringsLeaf e → ⊥) es → HasNoLeaf op es
has_no_leaf (Tx name steps) es none = tt
has_no_leaf (Snapshot name child) es none = tt
has_no_leaf (Branch name child) es none = tt
has_no_leaf (Scan name low high limit) es none = none
has_no_leaf Versions es none = tt

brings_none : (es : List Entry) → AllByRecursion (λ e. BringsLeaf e → ⊥) es → BringsNone es
brings_none [] all = tt
brings_none (e ∷ es) all = all.1

newest_of_none : (op : Op) (es : List Entry) → AllByRecursion (λ e. BringsLeaf e → ⊥) es → LeafIsNewest op es
newest_of_none (Tx name steps) es none = tt
newest_of_none (Snapshot name child) es none = tt
newest_of_none (Branch name child) es none = tt
newest_of_none (Scan name low high limit) es none = brings_none es none
newest_of_none Versions es none = tt

-- after a refusal the next try goes on, with the decisions that were sent
pub retries_refused : (nodes : ℕ) (op : Op) (from : Origin) (failed : ℕ) (now : List Entry)
    (busy : Busy) (r : WasRefused nodes op from failed now busy)
    → IsTrying nodes op from (suc failed) now r.rest × HasNoLeaf op r.rest × HasSentNone r.rest
retries_refused nodes op from failed now busy r = (
  record {
    before = r.last ++ r.before;
    split = r.split ∙ append_assoc r.rest r.last r.before;
    have_failed = have_failed_on nodes op from failed r.last r.before busy r.have_failed r.single r.peeks r.asked r.leaf r.cause;
    unrefused = r.quiet;
    asks_first = none_asked (calls_of r.rest) r.over;
    peeks = no_peeks (calls_of r.rest) r.over;
    leaf = newest_of_none op r.rest (no_leaves r.rest r.over);
  },
  has_no_leaf op r.rest (no_leaves r.rest r.over),
  r.over,
)

one_of_none : (try : List Entry) → none_refused try ≡ true → asks_at_first (calls_of try) ≡ true
    → is_one_try try ≡ true
one_of_none [] none first = refl
one_of_none (e ∷ es) none first =
    both (none_refused es) (asks_at_first (calls_of (e ∷ es)))
    (both_parts (list_all (λ (c : Call). not (is_refusal c.reply)) (call_in e.node e.what)) (none_refused es)
    (sym (list_all-append (λ (c : Call). not (is_refusal c.reply)) (call_in e.node e.what) (calls_of es)) ∙ none)).1
    first

none_seen : (seen : Seen) → Contains {X = Seen} [] seen → ⊥
none_seen seen has = let low = has.1 in omega arith

-- where nothing was read no fault was met
fault_read : (nodes : ℕ) (op : Op) (IsKey : List ℕ → Type 0) (busy : Busy)
    → MeetsFault nodes [] op IsKey busy → ⊥
fault_read nodes op IsKey (Path addr seq) (inl bad) = none_seen bad.0 bad.4
fault_read nodes op IsKey (Path addr seq) (inr (inl off)) = none_seen off.3.0 off.3.1
fault_read nodes op IsKey (Path addr seq) (inr (inr place)) = none_seen place.0 place.1
fault_read nodes op IsKey (Lock node start len holder) fault = absurd fault
fault_read nodes op IsKey (Moved node start expected found) fault = absurd fault
fault_read nodes op IsKey (Forced tid) fault = absurd fault

fails_by_fault : (nodes : ℕ) (op : Op) (taken try : List Entry) (busy : Busy)
    → MeetsFault nodes (seen_in try) op (IsKeyOf op taken) busy → FailsAs nodes op taken try busy
fails_by_fault nodes op taken [] busy fault = fault_read nodes op (IsKeyOf op taken) busy fault
fails_by_fault nodes op taken (e ∷ es) busy fault = inr fault

shows_fault : (nodes : ℕ) (op : Op) (taken : List Entry) (failed : ℕ) (try : List Entry) (busy : Busy)
    → IfLater failed (MeetsFault nodes (seen_in try) op (IsKeyOf op taken) busy)
    → ShowsCause nodes op taken failed try busy
shows_fault nodes op taken zero try busy fault = tt
shows_fault nodes op taken (suc n) try busy fault = fails_by_fault nodes op taken try busy fault

-- after a fault the next try has no entry yet; a first one may have failed by what was kept
pub retries_fault : (nodes : ℕ) (op : Op) (from : Origin) (failed : ℕ) (now try : List Entry)
    (busy : Busy) (t : IsTrying nodes op from failed now try) → HasAsked failed op from try
    → IfLater failed (MeetsFault nodes (seen_in try) op (IsKeyOf op from.taken) busy)
    → IsTrying nodes op from (suc failed) now [] × HasNoLeaf op [] × HasSentNone []
retries_fault nodes op from failed now try busy t asked fault = (
  record {
    before = now;
    split = refl;
    have_failed = subst (HaveFailed nodes op from (suc failed)) (sym t.split)
        (have_failed_on nodes op from failed try t.before busy t.have_failed (one_of_none try t.unrefused t.asks_first) t.peeks asked t.leaf (shows_fault nodes op from.taken failed try busy fault));
    unrefused = refl;
    asks_first = refl;
    peeks = refl;
    leaf = newest_of_none op [] tt;
  },
  has_no_leaf op [] tt,
  refl,
)

-- The last try

eight : (nodes : ℕ) (op : Op) (from : Origin) (es now rest last before : List Entry) (busy : Busy)
    → es ≡ now ++ from.older
    → now ≡ rest ++ last ++ before → list_all (λ c. is_any_decide c.request) (calls_of rest) ≡ true
    → HaveFailed nodes op from 7 before → is_one_try last ≡ true → MayPeek 7 last
    → HasAsked 7 op from last → LeafIsNewest op last → FailsAs nodes op from.taken last busy
    → FailedTries nodes op es now busy
eight nodes op from es now rest last before busy all split over h single peeks asked leaf fails = record {
  older = from.older;
  all = all;
  rest = rest;
  last = last;
  middle = h.tries;
  first = h.first;
  taken = from.taken;
  split = split ∙ ap (λ (l : List Entry). rest ++ last ++ l) h.split ∙ to_left (rest ++ last) (flat_map (λ try. try) h.tries) h.first from.taken;
  over = over;
  six = h.many;
  last_fails = fails;
  others_fail = h.later_failed.causes;
  tries = both (is_one_try last) (list_all is_one_try h.tries && is_one_try h.first) single
      (both (list_all is_one_try h.tries) (is_one_try h.first) h.later_failed.single h.single);
  anew = both (reads_anew last) (list_all reads_anew h.tries) (anew last asked peeks) h.later_failed.anew;
  whole = h.whole;
  took = h.took;
  leaves = (leaf, h.later_failed.leaves, h.leaf);
  may_be_kept = h.kept;
}

-- the eighth was refused, or met a fault
pub gives_up_refused : (nodes : ℕ) (op : Op) (from : Origin) (es now : List Entry) (busy : Busy)
    → es ≡ now ++ from.older → WasRefused nodes op from 7 now busy
    → FailedTries nodes op es now busy
gives_up_refused nodes op from es now busy all r =
    eight nodes op from es now r.rest r.last r.before busy all r.split r.over r.have_failed r.single r.peeks r.asked r.leaf r.cause

pub gives_up_fault : (nodes : ℕ) (op : Op) (from : Origin) (es now try : List Entry) (busy : Busy)
    → es ≡ now ++ from.older → IsTrying nodes op from 7 now try → HasAsked 7 op from try
    → MeetsFault nodes (seen_in try) op (IsKeyOf op from.taken) busy
    → FailedTries nodes op es now busy
gives_up_fault nodes op from es now try busy all t asked fault =
    eight nodes op from es now [] try t.before busy all t.split refl t.have_failed (one_of_none try t.unrefused t.asks_first) t.peeks asked t.leaf
    (fails_by_fault nodes op from.taken try busy fault)

-- What more reads show

module _ (seens more : List Seen) (op : Op)
    (on : (s : Seen) → Contains seens s → Contains more s) where
  pub reached_on : (key : List ℕ) (addr : Addr) (height : Option ℕ) → Reached seens op key addr height
      → Reached more op key addr height
  reached_on key _ _ (by_root seen entries v e has sees named there) =
      Reached.by_root seen entries v e (on seen has) sees named there
  reached_on key _ _ (by_child addr height seen page child above has sees of covers) =
      Reached.by_child addr height seen page child (reached_on key addr height above) (on seen has) sees of covers

  pub reaches_on : (entries : List CatEntry) (key : List ℕ) (addr : Addr) (height : Option ℕ)
      → ReachesAddr seens op entries key addr height → ReachesAddr more op entries key addr height
  reaches_on entries key addr height r = (r.0, on r.0 r.1, r.2, reached_on key addr height r.3)

  -- also for more keys
  pub fault_on : (nodes : ℕ) (IsKey IsMore : List ℕ → Type 0) (busy : Busy)
      → ((key : List ℕ) → IsKey key → IsMore key) → MeetsFault nodes seens op IsKey busy
      → MeetsFault nodes more op IsMore busy
  fault_on nodes IsKey IsMore (Path addr seq) keys (inl bad) =
      inl (bad.0, bad.1, bad.2, bad.3, on bad.0 bad.4, reaches_on bad.3 bad.1 addr bad.2 bad.5, bad.6, bad.7, keys bad.1 bad.8)
  fault_on nodes IsKey IsMore (Path addr seq) keys (inr (inl off)) =
      inr (inl (off.0, off.1, off.2, reaches_on off.2 off.0 addr off.1 off.3, off.4, off.5, keys off.0 off.6))
  fault_on nodes IsKey IsMore (Path addr seq) keys (inr (inr place)) =
      inr (inr (place.0, on place.0 place.1, place.2, place.3, place.4))
  fault_on nodes IsKey IsMore (Lock node start len holder) keys fault = absurd fault
  fault_on nodes IsKey IsMore (Moved node start expected found) keys fault = absurd fault
  fault_on nodes IsKey IsMore (Forced tid) keys fault = absurd fault

-- a fault on the way of one key is one of these keys
pub fault_for : (nodes : ℕ) (seens : List Seen) (op : Op) (key : List ℕ) (IsKey : List ℕ → Type 0)
    (busy : Busy) → IsKey key → MeetsFor nodes seens op key busy
    → MeetsFault nodes seens op IsKey busy
fault_for nodes seens op key IsKey busy is fault =
    fault_on seens seens op (λ s has. has) nodes (λ other. other ≡ key) IsKey busy (λ other same. subst IsKey (sym same) is) fault

-- the reads of a try are those of a longer list
seen_more : (try older : List Entry) (s : Seen) → Contains (seen_in try) s
    → Contains (seen_in (try ++ older)) s
seen_more try older s has =
    subst (λ (l : List Seen). Contains l s) (sym (seen_in-append try older)) (Contains-append_left (seen_in try) (seen_in older) s has)

-- a call by which a try failed was refused
was_refused : (seens : List Seen) (n : NodeNo) (request : Request) (reply : NodeReply) (busy : Busy)
    → RefusedAs seens n request reply busy → is_refusal reply ≡ true
was_refused seens n request (Say.BadLock start len holder) busy told = refl
was_refused seens n request (Say.BadCompare item found) busy told = refl
was_refused seens n request Say.BadForced busy told = refl
was_refused seens n request Say.Decided busy told = elim told [ ]
was_refused seens n request (Say.Listed ids) busy told = elim told [ ]
was_refused seens n request (Say.Peeked bytes) busy told = elim told [ ]
was_refused seens n request Say.Down busy told = elim told [ ]
was_refused seens n request Say.Stopped busy told = elim told [ ]
was_refused seens n request Say.NoMemory busy told = elim told [ ]
was_refused seens n (Ask.Prepare tid ps part) (Say.Done reads) busy told = absurd told
was_refused seens n (Ask.Exec tid part) (Say.Done reads) busy told = absurd told
was_refused seens n (Ask.Decide tid verdict) (Say.Done reads) busy told = absurd told
was_refused seens n (Ask.Force tid) (Say.Done reads) busy told = absurd told
was_refused seens n Ask.List (Say.Done reads) busy told = absurd told
was_refused seens n (Ask.Peek start len) (Say.Done reads) busy told = absurd told
was_refused seens n (Ask.Prepare tid ps part) (Say.Vote vote) busy told = absurd told
was_refused seens n (Ask.Exec tid part) (Say.Vote vote) busy told = absurd told
was_refused seens n (Ask.Decide tid verdict) (Say.Vote vote) busy told = absurd told
was_refused seens n (Ask.Force tid) (Say.Vote vote) busy told = absurd told
was_refused seens n Ask.List (Say.Vote vote) busy told = absurd told
was_refused seens n (Ask.Peek start len) (Say.Vote vote) busy told = absurd told

-- some call was refused, or none
some_refused : (cs : List Call) → list_all (λ (c : Call). not (is_refusal c.reply)) cs ≡ false
    → list_any (λ (c : Call). is_refusal c.reply) cs ≡ true
some_refused [] f = absurd cc
some_refused (c ∷ cs) f = at (is_refusal c.reply) f (λ g. some_refused cs g)
  where
    at : (b : Bool) → (not b && list_all (λ (c : Call). not (is_refusal c.reply)) cs) ≡ false
        → (list_all (λ (c : Call). not (is_refusal c.reply)) cs ≡ false → list_any (λ (c : Call). is_refusal c.reply) cs ≡ true)
        → (b || list_any (λ (c : Call). is_refusal c.reply) cs) ≡ true
    at true g rest = refl
    at false g rest = rest g

-- a later try begins after one that failed
begins_after : (nodes : ℕ) (op : Op) (from : Origin) (later : ℕ) (before : List Entry)
    → FirstFailed nodes op from later before
    → ((taken : List Entry) → IsWhole op taken → taken ≡ [])
    → BeginsAfter nodes op from.older before
begins_after nodes op from later before f whole = by f.tries f.split f.later_failed.causes
  where
    none : from.taken ≡ []
    none = whole from.taken f.whole

    kept : MayBeKept from.older op [] f.first
    kept = subst (λ (l : List Entry). MayBeKept from.older op l f.first) none f.kept

    first_alone : (first : List Entry) → is_one_try first ≡ true → MayBeKept from.older op [] first
        → BeginsAfter nodes op from.older first
    first_alone [] single may = inr (inr (refl, may))
    first_alone (e ∷ es) single may = on (list_all (λ (c : Call). not (is_refusal c.reply)) (call_in e.node e.what)) refl
      where
        parts : (none_refused es ≡ true) × (asks_at_first (calls_of (e ∷ es)) ≡ true)
        parts = both_parts (none_refused es) (asks_at_first (calls_of (e ∷ es))) single

        on : (b : Bool) → list_all (λ (c : Call). not (is_refusal c.reply)) (call_in e.node e.what) ≡ b
            → BeginsAfter nodes op from.older (e ∷ es)
        on true good =
            inr (inr (both (none_refused (e ∷ es)) (is_one_try (e ∷ es)) (unrefused_on e es good parts.0) single, may))
        on false bad = inl (some_refused (call_in e.node e.what) bad)

    by_cause : (t older : List Entry) (busy : Busy) → FailsAs nodes op from.taken t busy
        → BeginsAfter nodes op from.older (t ++ older)
    by_cause [] older busy fails = absurd fails
    by_cause (e ∷ es) older busy (inl refused) =
        inl (ap (list_any (λ (c : Call). is_refusal c.reply)) refused.1 ∙ ap (λ b. b || false) (was_refused (seen_in es) refused.0.node refused.0.request refused.0.reply busy refused.2))
    by_cause (e ∷ es) older busy (inr fault) =
        inr (inl (
          busy,
          fault_on (seen_in (e ∷ es)) (seen_in (e ∷ es ++ older)) op (seen_more (e ∷ es) older) nodes (IsKeyOf op from.taken) (IsKeyOf op []) busy
              (λ key is. subst (λ (l : List Entry). IsKeyOf op l key) none is) fault,
        ))

    by : (tries : List (List Entry)) → before ≡ flat_map (λ try. try) tries ++ f.first ++ from.taken
        → AllByRecursion (λ try. (cause : Busy) × FailsAs nodes op from.taken try cause) tries
        → BeginsAfter nodes op from.older before
    by [] split causes =
        subst (BeginsAfter nodes op from.older)
        (sym (split ∙ ap (λ (l : List Entry). f.first ++ l) none ∙ append-nil f.first)) (first_alone f.first f.single kept)
    by (t ∷ ts) split causes =
        subst (BeginsAfter nodes op from.older)
        (sym (split ∙ sym (to_left t (flat_map (λ try. try) ts) f.first from.taken)))
        (by_cause t (flat_map (λ try. try) ts ++ f.first ++ from.taken) causes.0.0 causes.0.1)

-- a later try that was not refused is the operation's last
pub last_try : (nodes : ℕ) (op : Op) (from : Origin) (later : ℕ) (es now try : List Entry)
    → es ≡ now ++ from.older → IsTrying nodes op from (suc later) now try
    → asks_for_catalog try ≡ true → ((taken : List Entry) → IsWhole op taken → taken ≡ [])
    → LastTry nodes op es now try
last_try nodes op from later es now try all t asked whole = record {
  older = from.older;
  all = all;
  rest = [];
  earlier = t.before;
  split = t.split;
  over = refl;
  begins = begins_after nodes op from later t.before t.have_failed whole;
  is_try = both (reads_anew try) (none_refused try && is_one_try try) (anew try asked t.peeks)
      (both (none_refused try) (is_one_try try) t.unrefused (one_of_none try t.unrefused t.asks_first));
}

-- an operation begins
pub begins_trying : (nodes : ℕ) (op : Op) (older : List Entry)
    → IsTrying nodes op (record { taken = []; older = older }) 0 [] [] × HasNoLeaf op []
begins_trying nodes op older = (
  record {
    before = [];
    split = refl;
    have_failed = (refl, whole op, tt);
    unrefused = refl;
    asks_first = refl;
    peeks = tt;
    leaf = newest_of_none op [] tt;
  },
  has_no_leaf op [] tt,
)
  where
    whole : (op : Op) → IsWhole op []
    whole (Tx name steps) = refl
    whole (Snapshot name child) = refl
    whole (Branch name child) = refl
    whole (Scan name low high limit) = tt
    whole Versions = refl
