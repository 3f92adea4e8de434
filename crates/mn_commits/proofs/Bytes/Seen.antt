-- What a client has seen stood in the flat memory where it was read.
use Rattle.std.proofs.Common.{◌≡◌, ℕ, ◌⊎◌, inl, inr, true, false, List, [], ◌∷◌, ◌++◌, Option, Some, None, refl, subst, sym, ap, if◌then◌else◌, Contains}
use Rattle.std.specs.Prelude.{IsTrue}
use Rattle.std.proofs.lemmas.Grind.{flat_map-append}
use Rattle.std.proofs.lemmas.List.Elements.{Contains-append_cases}
use Rattle.mn_base.specs.declared.ids.NodeNo.{NodeNo}
use Rattle.mn_base.specs.declared.ids.ClientNo.{ClientNo}
use Rattle.mn_mini.specs.declared.part.PartItem.TheVariants as Bare
use Rattle.mn_mini.specs.declared.request.Request.{Request}
use Rattle.mn_mini.specs.declared.request.Request.TheVariants as Ask
use Rattle.mn_mini.specs.declared.reply.NodeReply.{NodeReply}
use Rattle.mn_mini.specs.declared.reply.NodeReply.TheVariants as Say
use Rattle.mn_mini.specs.Flat.{bytes_in, space_in}
use Rattle.mn_runs.specs.declared.entry.Entry.{Entry}
use Rattle.mn_runs.specs.declared.entry.What.{What}
use Rattle.mn_runs.specs.declared.entry.What.TheVariants.{Begin, Issue, Called, Stopped, Restarted, Abandoned, Answered}
use Rattle.mn_runs.specs.Calls.{Call, is_by, client_entries, call_in, calls_of}
use Rattle.mn_runs.specs.Seen.{Seen, seen_by, seen_in, seen_at}
use Rattle.mn_runs.specs.Protocol.{Start, KeepsProtocol}
use Rattle.mn_commits.specs.Laws.{SeenIsFlat}
use Rattle.mn_commits.proofs.Bytes.Step.{flat}
use Rattle.mn_commits.proofs.Bytes.Through.{Whole}
use Rattle.mn_commits.proofs.Bytes.Spaces.{whole_run}
use Rattle.mn_commits.proofs.Bytes.Reads.{call_reads}
use Rattle.mn_runs.proofs.Seen.{IsSeenBy, nothing, seen_by_is}

abbrev pub StandsIn : List (List ℕ) → Seen → Type 0
StandsIn memory seen = seen.bytes ≡ bytes_in (space_in memory seen.place.node) seen.place.start seen.place.length

called_seen : (start : Start) (past : List Entry) (by : Option ClientNo) (k : NodeNo) (request : Request) (reply : NodeReply) (seen : Seen) → Whole start past → KeepsProtocol start past (record { node = Some k; client = by; what = Called request reply })
    → IsSeenBy k request reply seen → StandsIn (flat start past) seen
called_seen start past by k request reply seen w keeps (tid, at, length, bytes, asked, said, is) =
    let reads = call_reads start past by k (Ask.Exec tid (Bare.Read at length ∷ [])) (Bare.Read at length ∷ []) (bytes ∷ []) w
    (subst (λ (q : Request). KeepsProtocol start past (record { node = Some k; client = by; what = Called q (Say.Done (bytes ∷ [])) })) asked (subst (λ (r : NodeReply). KeepsProtocol start past (record { node = Some k; client = by; what = Called request r })) said keeps)) refl in
    subst (λ (s : Seen). StandsIn (flat start past) s) (sym is) (head bytes (bytes_in (space_in (flat start past) k) at length) reads)
  where
    head : (a b : List ℕ) → a ∷ [] ≡ b ∷ [] → a ≡ b
    head a b h = cc

pub stopped_unseen : (k : NodeNo) (request : Request) (seen : Seen) → IsSeenBy k request Say.Stopped seen → ⊥
stopped_unseen k request seen (tid, at, length, bytes, asked, said, is) = absurd cc

pub lone : (n : NodeNo) (request : Request) (reply : NodeReply) (seen : Seen) → Contains (seen_by n request reply ++ []) seen → IsSeenBy n request reply seen
lone n request reply seen h = by (Contains-append_cases (seen_by n request reply) [] seen h)
  where
    by : Contains (seen_by n request reply) seen ⊎ Contains [] seen → IsSeenBy n request reply seen
    by (inl here) = seen_by_is n request reply seen here
    by (inr none) = absurd (nothing seen none)

pub here_seen : (start : Start) (past : List Entry) (by : Option ClientNo) (at : Option NodeNo) (what : What) (seen : Seen) → Whole start past → KeepsProtocol start past (record { node = at; client = by; what = what })
    → Contains (seen_at (record { node = at; client = by; what = what })) seen → StandsIn (flat start past) seen
here_seen start past by None what seen w keeps h = absurd (nothing seen h)
here_seen start past by (Some k) (Called request reply) seen w keeps h = called_seen start past by k request reply seen w keeps (lone k request reply seen h)
here_seen start past by (Some k) (Stopped (Some request) asked) seen w keeps h = absurd (stopped_unseen k request seen (lone k request Say.Stopped seen h))
here_seen start past by (Some k) (Stopped None asked) seen w keeps h = absurd (nothing seen h)
here_seen start past by (Some k) (Restarted restored) seen w keeps h = absurd (nothing seen h)
here_seen start past by (Some k) (Begin number op) seen w keeps h = absurd (nothing seen h)
here_seen start past by (Some k) (Issue t mini) seen w keeps h = absurd (nothing seen h)
here_seen start past by (Some k) (Abandoned t) seen w keeps h = absurd (nothing seen h)
here_seen start past by (Some k) (Answered number answer) seen w keeps h = absurd (nothing seen h)

-- where a read was seen
abbrev WasSeen : Start → List Entry → ClientNo → Seen → Type 0
WasSeen start past c seen =
    (e : Entry) × (later : List Entry) × (before : List Entry) × (past ≡ later ++ e ∷ before) × IsTrue (is_by c e) × Contains (seen_at e) seen × StandsIn (flat start before) seen

older_seen : (start : Start) (past : List Entry) (x : Entry) (c : ClientNo) (seen : Seen) → WasSeen start past c seen → WasSeen start (x ∷ past) c seen
older_seen start past x c seen (e, later, before, split, by, has, stands) = (e, x ∷ later, before, ap (λ (es : List Entry). x ∷ es) split, by, has, stands)

pub seen_is_flat : SeenIsFlat
seen_is_flat start [] c seen sound run has = absurd (nothing seen has)
seen_is_flat start (e ∷ past) c seen sound run has =
    let older = seen_is_flat start past c seen sound run.0 in
    elim (is_by c e) as (λ b. is_by c e ≡ b → Contains (seen_in (if b then e ∷ client_entries c past else client_entries c past)) seen → WasSeen start (e ∷ past) c seen) [
      | true ↦ λ by h.
          elim (Contains-append_cases (seen_at e) (seen_in (client_entries c past)) seen
          (subst (λ (xs : List Seen). Contains xs seen) (flat_map-append (λ (call : Call). seen_by call.node call.request call.reply) (call_in e.node e.what) (calls_of (client_entries c past))) h)) as (λ _. WasSeen start (e ∷ past) c seen) [
            | inl here ↦ (e, [], past, refl, by, here, here_seen start past e.client e.node e.what seen (whole_run start past sound run.0) run.1 here)
            | inr there ↦ older_seen start past e c seen (older there)
          ]
      | false ↦ λ _ h. older_seen start past e c seen (older h)
    ] refl has
