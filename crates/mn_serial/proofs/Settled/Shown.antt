-- What a list shows of a place stood in the node's own space.
use Rattle.std.proofs.Common.{◌≡◌, ℕ, zero, suc, ◌+◌, ◌-◌, ◌≤◌, ◌⊎◌, inl, inr, Bool, true, false, List, [], ◌∷◌, ◌++◌, length, take, drop, Option, Some, None, refl, subst, sym, ap, ◌∙◌, arith, if◌then◌else◌, Contains}
use Rattle.std.specs.Prelude.{bytes_eq, nat_le}
use Rattle.std.specs.List.{flat_map}
use Rattle.std.proofs.lemmas.Bool.Decides.{nat_tests}
use Rattle.std.proofs.lemmas.List.{drop-drop}
use Rattle.std.proofs.lemmas.Grind.{flat_map-append}
use Rattle.std.proofs.lemmas.List.Elements.{Contains-append_left, Contains-append_right, Contains-append_cases}
use Rattle.mn_base.specs.Ids.{node_same}
use Rattle.mn_base.specs.declared.ids.NodeNo.{NodeNo}
use Rattle.mn_base.specs.declared.ids.ClientNo.{ClientNo}
use Rattle.mn_base.proofs.Booleans.{clash}
use Rattle.mn_base.proofs.Keys.{bytes_eq-true, bytes_eq-refl}
use Rattle.mn_mini.specs.declared.part.PartItem.{PartItem}
use Rattle.mn_mini.specs.declared.part.PartItem.TheVariants as Bare
use Rattle.mn_mini.specs.declared.record.Record.{Record}
use Rattle.mn_mini.specs.declared.record.Record.TheVariants.{Executed}
use Rattle.mn_mini.specs.declared.request.Request.{Request}
use Rattle.mn_mini.specs.declared.request.Request.TheVariants as Ask
use Rattle.mn_mini.specs.declared.reply.NodeReply.{NodeReply}
use Rattle.mn_mini.specs.declared.reply.NodeReply.TheVariants as Say
use Rattle.mn_mini.specs.Mini.{has_write}
use Rattle.mn_mini.specs.Flat.{bytes_in, part_reads}
use Rattle.mn_mini.specs.Node.{space_of, answer}
use Rattle.mn_mini.proofs.Parts.{same_true, same_self}
use Rattle.mn_runs.specs.declared.entry.Entry.{Entry}
use Rattle.mn_runs.specs.declared.entry.What.{What}
use Rattle.mn_runs.specs.declared.entry.What.TheVariants.{Begin, Issue, Called, Stopped, Restarted, Abandoned, Answered}
use Rattle.mn_runs.specs.Calls.{Call, is_by, call_in, calls_of, node_entries, client_entries}
use Rattle.mn_runs.specs.Nodes.{is_down}
use Rattle.mn_runs.specs.Seen.{Place, Seen}
use Rattle.mn_law.specs.Shown.{items_shown, shown_by, shown_in, GivesPlace, GivesFrom, FirstGives, ShowsLast, ShowsNumber}
use Rattle.mn_runs.specs.Protocol.{Start, base_at, records_of, KeepsProtocol, FollowsProtocol}
use Rattle.mn_serial.specs.Settled.{own_content}
use Rattle.mn_commits.proofs.Bytes.Reads.{tested_done, up}
use Rattle.mn_runs.proofs.Seen.{nothing}
use Rattle.mn_law.proofs.Last.{one_there}

-- What was shown stood in the node's space

abbrev StandsAt : List ℕ → NodeNo → Seen → Type 0
StandsAt space n seen = (seen.place.node ≡ n) × (seen.bytes ≡ bytes_in space seen.place.start seen.place.length)

abbrev Stands : Start → List Entry → Seen → Type 0
Stands start past seen = seen.bytes ≡ bytes_in (space_of (base_at start seen.place.node) (records_of start past seen.place.node)) seen.place.start seen.place.length

items_stand : (space : List ℕ) (n : NodeNo) (part : List PartItem) (seen : Seen) → Contains (items_shown n part (part_reads space part)) seen → StandsAt space n seen
items_stand space n [] seen has = absurd (nothing seen has)
items_stand space n (Bare.Compare start bytes ∷ part) seen has = items_stand space n part seen has
items_stand space n (Bare.Write start bytes ∷ part) seen has = items_stand space n part seen has
items_stand space n (Bare.Read start k ∷ part) seen has =
    by (items_stand space n part seen) (Contains-append_cases (record { place = record { node = n; start = start; length = k }; bytes = bytes_in space start k } ∷ []) (items_shown n part (part_reads space part)) seen has)
  where
    by : (Contains (items_shown n part (part_reads space part)) seen → StandsAt space n seen)
        → Contains (record { place = record { node = n; start = start; length = k }; bytes = bytes_in space start k } ∷ []) seen ⊎ Contains (items_shown n part (part_reads space part)) seen → StandsAt space n seen
    by rest (inl first) = subst (StandsAt space n) (sym (one_there (record { place = record { node = n; start = start; length = k }; bytes = bytes_in space start k }) seen first)) (refl, refl)
    by rest (inr later) = rest later

stands_from : (start : Start) (past : List Entry) (k : NodeNo) (seen : Seen) → StandsAt (space_of (base_at start k) (records_of start past k)) k seen → Stands start past seen
stands_from start past k seen (node, is) = is ∙ ap (λ (n : NodeNo). bytes_in (space_of (base_at start n) (records_of start past n)) seen.place.start seen.place.length) (sym node)

exec_stands : (start : Start) (past : List Entry) (k : NodeNo) (request : Request) (part : List PartItem) (reads : List (List ℕ)) (added : Option Record) → reads ≡ part_reads (space_of (base_at start k) (records_of start past k)) part
    → (seen : Seen) → Contains (items_shown k part reads) seen → Stands start past seen
exec_stands start past k request part reads added is seen has =
    stands_from start past k seen (items_stand (space_of (base_at start k) (records_of start past k)) k part seen (subst (λ (rs : List (List ℕ)). Contains (items_shown k part rs) seen) is has))

peek_said : (base : List ℕ) (records : List Record) (start n : ℕ) (bytes : List ℕ) (down : Bool) → Say.Peeked bytes ≡ (if down then Say.Down else (answer base records (Ask.Peek start n)).reply) → bytes ≡ bytes_in (space_of base records) start n
peek_said base records start n bytes true e = absurd cc
peek_said base records start n bytes false e = cc

call_stands : (start : Start) (past : List Entry) (k : NodeNo) (request : Request) (reply : NodeReply) → reply ≡ (if is_down (node_entries k past) then Say.Down else (answer (base_at start k) (records_of start past k) request).reply)
    → (seen : Seen) → Contains (shown_by k request reply) seen → Stands start past seen
call_stands start past k (Ask.Exec tid part) (Say.Done reads) said seen has =
    let answered = up start past k (Ask.Exec tid part) reads (is_down (node_entries k past)) said in
    let done = tested_done (base_at start k) (records_of start past k) tid part (if has_write part then Some (Executed tid part) else None) reads answered in
    exec_stands start past k (Ask.Exec tid part) part reads None done.1 seen has
call_stands start past k (Ask.Peek at n) (Say.Peeked bytes) said seen has =
    let here : Seen = record { place = record { node = k; start = at; length = n }; bytes = bytes } in
    subst (Stands start past) (sym (one_there here seen has)) (peek_said (base_at start k) (records_of start past k) at n bytes (is_down (node_entries k past)) said)
call_stands start past k (Ask.Exec tid part) (Say.BadLock at n holder) said seen has = absurd (nothing seen has)
call_stands start past k (Ask.Exec tid part) (Say.BadCompare item found) said seen has = absurd (nothing seen has)
call_stands start past k (Ask.Exec tid part) Say.BadForced said seen has = absurd (nothing seen has)
call_stands start past k (Ask.Exec tid part) (Say.Vote vote) said seen has = absurd (nothing seen has)
call_stands start past k (Ask.Exec tid part) Say.Decided said seen has = absurd (nothing seen has)
call_stands start past k (Ask.Exec tid part) (Say.Listed doubts) said seen has = absurd (nothing seen has)
call_stands start past k (Ask.Exec tid part) (Say.Peeked bytes) said seen has = absurd (nothing seen has)
call_stands start past k (Ask.Exec tid part) Say.Down said seen has = absurd (nothing seen has)
call_stands start past k (Ask.Exec tid part) Say.Stopped said seen has = absurd (nothing seen has)
call_stands start past k (Ask.Exec tid part) Say.NoMemory said seen has = absurd (nothing seen has)
call_stands start past k (Ask.Peek at n) (Say.Done reads) said seen has = absurd (nothing seen has)
call_stands start past k (Ask.Peek at n) (Say.BadLock t m holder) said seen has = absurd (nothing seen has)
call_stands start past k (Ask.Peek at n) (Say.BadCompare item found) said seen has = absurd (nothing seen has)
call_stands start past k (Ask.Peek at n) Say.BadForced said seen has = absurd (nothing seen has)
call_stands start past k (Ask.Peek at n) (Say.Vote vote) said seen has = absurd (nothing seen has)
call_stands start past k (Ask.Peek at n) Say.Decided said seen has = absurd (nothing seen has)
call_stands start past k (Ask.Peek at n) (Say.Listed doubts) said seen has = absurd (nothing seen has)
call_stands start past k (Ask.Peek at n) Say.Down said seen has = absurd (nothing seen has)
call_stands start past k (Ask.Peek at n) Say.Stopped said seen has = absurd (nothing seen has)
call_stands start past k (Ask.Peek at n) Say.NoMemory said seen has = absurd (nothing seen has)
call_stands start past k (Ask.Prepare tid ps part) reply said seen has = absurd (nothing seen has)
call_stands start past k (Ask.Decide tid verdict) reply said seen has = absurd (nothing seen has)
call_stands start past k (Ask.Force tid) reply said seen has = absurd (nothing seen has)
call_stands start past k Ask.List reply said seen has = absurd (nothing seen has)

-- a request inside which the node stopped shows nothing
stop_shows : (k : NodeNo) (request : Request) (seen : Seen) → Contains (shown_by k request Say.Stopped) seen → ⊥
stop_shows k (Ask.Exec tid part) seen has = nothing seen has
stop_shows k (Ask.Peek at n) seen has = nothing seen has
stop_shows k (Ask.Prepare tid ps part) seen has = nothing seen has
stop_shows k (Ask.Decide tid verdict) seen has = nothing seen has
stop_shows k (Ask.Force tid) seen has = nothing seen has
stop_shows k Ask.List seen has = nothing seen has

lone : (xs : List Seen) (seen : Seen) → Contains (xs ++ []) seen → Contains xs seen
lone xs seen has = by (Contains-append_cases xs [] seen has)
  where
    by : Contains xs seen ⊎ Contains [] seen → Contains xs seen
    by (inl here) = here
    by (inr none) = absurd (nothing seen none)

entry_stands : (start : Start) (past : List Entry) (by : Option ClientNo) (at : Option NodeNo) (what : What) → KeepsProtocol start past (record { node = at; client = by; what = what })
    → (seen : Seen) → Contains (flat_map (λ (c : Call). shown_by c.node c.request c.reply) (call_in at what)) seen → Stands start past seen
entry_stands start past by None what keeps seen has = absurd (nothing seen has)
entry_stands start past by (Some k) (Called request reply) keeps seen has = call_stands start past k request reply keeps.at_node.1 seen (lone (shown_by k request reply) seen has)
entry_stands start past by (Some k) (Stopped (Some request) asked) keeps seen has = absurd (stop_shows k request seen (lone (shown_by k request Say.Stopped) seen has))
entry_stands start past by (Some k) (Stopped None asked) keeps seen has = absurd (nothing seen has)
entry_stands start past by (Some k) (Restarted kept) keeps seen has = absurd (nothing seen has)
entry_stands start past by (Some k) (Begin number op) keeps seen has = absurd (nothing seen has)
entry_stands start past by (Some k) (Issue t mini) keeps seen has = absurd (nothing seen has)
entry_stands start past by (Some k) (Abandoned t) keeps seen has = absurd (nothing seen has)
entry_stands start past by (Some k) (Answered number answer) keeps seen has = absurd (nothing seen has)

-- where it was shown
pub record WasShown (start : Start) (past : List Entry) (seen : Seen) : Type 0 where
  pub later : List Entry
  pub before : List Entry
  pub split : past ≡ later ++ before
  pub stood : seen.bytes ≡ bytes_in (space_of (base_at start seen.place.node) (records_of start before seen.place.node)) seen.place.start seen.place.length

pub shown_stood : (start : Start) (past : List Entry) (c : ClientNo) (seen : Seen) → FollowsProtocol start past → Contains (shown_in (client_entries c past)) seen → WasShown start past seen
shown_stood start [] c seen run has = absurd (nothing seen has)
shown_stood start (e ∷ past) c seen run has =
    let older = shown_stood start past c seen run.0 in
    let on : WasShown start past seen → WasShown start (e ∷ past) seen = λ w. record { later = e ∷ w.later; before = w.before; split = ap (λ (es : List Entry). e ∷ es) w.split; stood = w.stood } in
    elim (is_by c e) as (λ b. Contains (shown_in (if b then e ∷ client_entries c past else client_entries c past)) seen → WasShown start (e ∷ past) seen) [
      | true ↦ λ h.
          elim (Contains-append_cases (flat_map (λ (d : Call). shown_by d.node d.request d.reply) (call_in e.node e.what)) (shown_in (client_entries c past)) seen
          (subst (λ (xs : List Seen). Contains xs seen) (flat_map-append (λ (d : Call). shown_by d.node d.request d.reply) (call_in e.node e.what) (calls_of (client_entries c past))) h)) as (λ _. WasShown start (e ∷ past) seen) [
            | inl here ↦ record { later = e ∷ []; before = past; split = refl; stood = entry_stands start past e.client e.node e.what run.1 seen here }
            | inr there ↦ on (older there)
          ]
      | false ↦ λ h. on (older h)
    ] has

-- A part of what was shown

nested : (xs : List ℕ) (n a m : ℕ) → a + m ≤ length (take n xs) → take m (drop a (take n xs)) ≡ take m (drop a xs)
nested [] zero a m fits = refl
nested [] (suc n) a m fits = refl
nested (x ∷ xs) zero zero zero fits = refl
nested (x ∷ xs) zero zero (suc m) fits = absurd (omega arith)
nested (x ∷ xs) zero (suc a) m fits = absurd (omega arith)
nested (x ∷ xs) (suc n) zero zero fits = refl
nested (x ∷ xs) (suc n) zero (suc m) fits = ap (λ (l : List ℕ). x ∷ l) (nested xs n zero m (omega arith))
nested (x ∷ xs) (suc n) (suc a) m fits = nested xs n a m (omega arith)

pub given_content : (space : List ℕ) (seen : Seen) (place : Place) (bytes : List ℕ) → seen.bytes ≡ bytes_in space seen.place.start seen.place.length → GivesPlace seen place bytes → bytes ≡ bytes_in space place.start place.length
given_content space seen place bytes stood gives =
    let inner : (place.start - seen.place.start) + place.length ≤ length seen.bytes = let a = gives.begins in let b = gives.ends in omega (arith, a, b) in
    let at : seen.place.start + (place.start - seen.place.start) ≡ place.start = let a = gives.begins in omega (arith, a) in
    sym gives.part
    ∙ (ap (λ (l : List ℕ). bytes_in l (place.start - seen.place.start) place.length) stood
    ∙ (nested (drop seen.place.start space) seen.place.length (place.start - seen.place.start) place.length (subst (λ (l : List ℕ). (place.start - seen.place.start) + place.length ≤ length l) stood inner)
    ∙ (ap (take place.length) (drop-drop (place.start - seen.place.start) seen.place.start space) ∙ ap (λ (k : ℕ). bytes_in space k place.length) at)))
