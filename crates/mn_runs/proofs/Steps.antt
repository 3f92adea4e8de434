-- What an entry changes: at its node at most one record that a request adds, and elsewhere nothing.
use Rattle.std.proofs.Common.{◌≡◌, ℕ, ◌⊎◌, inl, inr, Bool, true, false, List, ◌∷◌, Option, Some, None, refl, if◌then◌else◌}
use Rattle.mn_base.specs.declared.ids.NodeNo.{NodeNo}
use Rattle.mn_mini.specs.declared.record.Record.{Record}
use Rattle.mn_mini.specs.declared.request.Request.{Request}
use Rattle.mn_mini.specs.Node.{answer, with_added}
use Rattle.mn_runs.specs.declared.entry.Entry.{Entry}
use Rattle.mn_runs.specs.declared.entry.What.{What}
use Rattle.mn_runs.specs.declared.entry.What.TheVariants.{Begin, Issue, Called, Stopped, Restarted, Abandoned, Answered}
use Rattle.mn_runs.specs.Calls.{is_at, node_entries}
use Rattle.mn_runs.specs.Nodes.{is_down, stopped_request, entry_adds, node_records}
use Rattle.mn_runs.specs.Protocol.{Start, base_at, start_records, records_of}

-- the records after are those before, or those and what a request adds
abbrev pub Grows : List ℕ → List Record → List Record → Type 0
Grows base old new = (new ≡ old) ⊎ ((request : Request) × (new ≡ with_added (answer base old request).added old))

adds_grows : (base : List ℕ) (old : List Record) (down : Bool) (stopped : Option Request) (what : What) → Grows base old (with_added (entry_adds base old down stopped what) old)
adds_grows base old true stopped (Called request reply) = inl refl
adds_grows base old false stopped (Called request reply) = inr (request, refl)
adds_grows base old down (Some request) (Restarted true) = inr (request, refl)
adds_grows base old down None (Restarted true) = inl refl
adds_grows base old down stopped (Restarted false) = inl refl
adds_grows base old down stopped (Stopped request asked) = inl refl
adds_grows base old down stopped (Begin number op) = inl refl
adds_grows base old down stopped (Issue tid mini) = inl refl
adds_grows base old down stopped (Abandoned tid) = inl refl
adds_grows base old down stopped (Answered number answer) = inl refl

pub records_grow : (start : Start) (past : List Entry) (e : Entry) (n : NodeNo) → Grows (base_at start n) (records_of start past n) (records_of start (e ∷ past) n)
records_grow start past e n =
    elim (is_at n e) as (λ b. Grows (base_at start n) (records_of start past n) (node_records (base_at start n) (start_records start n) (if b then e ∷ node_entries n past else node_entries n past))) [
      | true ↦ adds_grows (base_at start n) (records_of start past n) (is_down (node_entries n past)) (stopped_request (node_entries n past)) e.what
      | false ↦ inl refl
    ]
