-- What the entries since a Begin tell, the whole list tells.
use Rattle.std.proofs.Common.{◌≡◌, inl, inr, true, ◌||◌, List, [], ◌∷◌, Option, ◌⊎◌, Bool, ◌++◌}
use Rattle.mn_base.specs.Ids.{tid_same}
use Rattle.mn_base.specs.declared.ids.NodeNo.{NodeNo}
use Rattle.mn_base.specs.declared.ids.ClientNo.{ClientNo}
use Rattle.mn_base.specs.declared.ids.Tid.{Tid}
use Rattle.mn_base.proofs.Booleans.{or_cases, or_left, or_right}
use Rattle.mn_runs.specs.declared.entry.Entry.{Entry}
use Rattle.mn_runs.specs.declared.entry.What.{What}
use Rattle.mn_runs.specs.declared.entry.What.TheVariants.{Begin, Issue, Called, Stopped, Restarted, Abandoned, Answered}
use Rattle.mn_runs.specs.Calls.{is_abandonment, was_abandoned, since_begin, since_begin_after, Call, call_in, calls_of}
use Rattle.std.specs.List.{list_any}

-- Given up at the answer

-- what a client's list since Begin shows, the whole list shows
since_step : (es : List Entry) (tid : Tid) (at : Option NodeNo) (by : Option ClientNo) (what : What) → (was_abandoned tid (since_begin es) ≡ true → was_abandoned tid es ≡ true)
    → was_abandoned tid (since_begin_after what (record { node = at; client = by; what = what }) (since_begin es)) ≡ true → (is_abandonment tid what || was_abandoned tid es) ≡ true
since_step es tid at by (Begin number op) older h = absurd cc
since_step es tid at by (Answered number answer) older h = absurd cc
since_step es tid at by (Issue t m) older h = older h
since_step es tid at by (Called request reply) older h = older h
since_step es tid at by (Stopped request asked) older h = older h
since_step es tid at by (Restarted restored) older h = older h
since_step es tid at by (Abandoned t) older h = elim (or_cases (tid_same t tid) (was_abandoned tid (since_begin es)) h) as (λ _. (tid_same t tid || was_abandoned tid es) ≡ true) [
  | inl here ↦ or_left (tid_same t tid) (was_abandoned tid es) here
  | inr there ↦ or_right (tid_same t tid) (was_abandoned tid es) (older there)
]

pub since_abandoned : (es : List Entry) (tid : Tid) → was_abandoned tid (since_begin es) ≡ true → was_abandoned tid es ≡ true
since_abandoned [] tid e = e
since_abandoned (x ∷ es) tid e = since_step es tid x.node x.client x.what (since_abandoned es tid) e

-- what the entries since Begin tell, the list tells
pub more : (f : Call → Bool) (new old since : List Call)
    → (list_any f since ≡ true → list_any f old ≡ true) → list_any f (new ++ since) ≡ true
    → list_any f (new ++ old) ≡ true
more f [] old since g e = g e
more f (c ∷ cs) old since g e = two (or_cases (f c) (list_any f (cs ++ since)) e) (more f cs old since g)
  where
    two : (f c ≡ true) ⊎ (list_any f (cs ++ since) ≡ true)
        → (list_any f (cs ++ since) ≡ true → list_any f (cs ++ old) ≡ true)
        → (f c || list_any f (cs ++ old)) ≡ true
    two (inl h) rest = or_left (f c) (list_any f (cs ++ old)) h
    two (inr h) rest = or_right (f c) (list_any f (cs ++ old)) (rest h)

told_step : (f : Call → Bool) (es : List Entry) (at : Option NodeNo) (by : Option ClientNo) (what : What) → (list_any f (calls_of (since_begin es)) ≡ true → list_any f (calls_of es) ≡ true)
    → list_any f (calls_of (since_begin_after what (record { node = at; client = by; what = what }) (since_begin es))) ≡ true → list_any f (call_in at what ++ calls_of es) ≡ true
told_step f es at by (Begin number op) older h = absurd cc
told_step f es at by (Answered number answer) older h = absurd cc
told_step f es at by (Issue tid mini) older h = more f (call_in at (Issue tid mini)) (calls_of es) (calls_of (since_begin es)) older h
told_step f es at by (Called request reply) older h = more f (call_in at (Called request reply)) (calls_of es) (calls_of (since_begin es)) older h
told_step f es at by (Stopped request asked) older h = more f (call_in at (Stopped request asked)) (calls_of es) (calls_of (since_begin es)) older h
told_step f es at by (Restarted kept) older h = more f (call_in at (Restarted kept)) (calls_of es) (calls_of (since_begin es)) older h
told_step f es at by (Abandoned tid) older h = more f (call_in at (Abandoned tid)) (calls_of es) (calls_of (since_begin es)) older h

pub since_told : (f : Call → Bool) (es : List Entry) → list_any f (calls_of (since_begin es)) ≡ true
    → list_any f (calls_of es) ≡ true
since_told f [] h = h
since_told f (e ∷ es) h = told_step f es e.node e.client e.what (since_told f es) h
