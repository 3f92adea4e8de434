-- Where an operation was answered that bytes had moved, some did: they are as many, lie inside a
-- space, and differ.
use Rattle.std.proofs.Common.{◌≡◌, ℕ, zero, suc, ◌+◌, ◌<◌, ◌≤◌, Bool, true, false, List, [], ◌∷◌, ◌++◌, length, map, drop, Option, Some, None, refl, subst, sym, ap, ◌∙◌, arith, if◌then◌else◌, slice_get, Contains, length-drop}
use Rattle.std.specs.Prelude.{bytes_eq}
use Rattle.std.specs.List.{range_with_len, AllByRecursion}
use Rattle.std.proofs.lemmas.List.{length-take-le}
use Rattle.mn_base.specs.Ids.{node_numbers}
use Rattle.mn_base.specs.Store.{Store}
use Rattle.mn_base.specs.declared.ids.NodeNo.{NodeNo}
use Rattle.mn_base.specs.declared.ids.ClientNo.{ClientNo}
use Rattle.mn_base.specs.declared.ids.Tid.{Tid}
use Rattle.mn_base.specs.declared.answer.Busy.TheVariants.{Moved}
use Rattle.mn_base.specs.declared.answer.Answer.TheVariants.{Busy as GaveUp}
use Rattle.mn_base.proofs.Keys.{bytes_eq-refl}
use Rattle.mn_base.proofs.Lists.{range_at}
use Rattle.mn_mini.specs.declared.part.PartItem.{PartItem}
use Rattle.mn_mini.specs.declared.part.PartItem.TheVariants as Bare
use Rattle.mn_mini.specs.declared.record.Record.{Record}
use Rattle.mn_mini.specs.declared.record.Record.TheVariants.{Voted, Executed}
use Rattle.mn_mini.specs.declared.request.Request.{Request}
use Rattle.mn_mini.specs.declared.request.Request.TheVariants as Ask
use Rattle.mn_mini.specs.declared.reply.NodeReply.TheVariants as Say
use Rattle.mn_mini.specs.Mini.{Mini, has_write, part_of, participants_of, space_size}
use Rattle.mn_mini.specs.Flat.{Mismatched, bytes_in, overwritten, part_mismatch_from, space_after_part}
use Rattle.mn_mini.specs.Node.{HeldPart, held_parts, has_forced, Clash, clash_of, only_reply, after_compares, after_locks, tested, answer, space_of, with_held}
use Rattle.mn_mini.specs.RecordGrammar.{IsPartItem}
use Rattle.mn_mini.specs.Laws.{TakesPart}
use Rattle.mn_mini.proofs.Bytes.{length-overwritten}
use Rattle.mn_mini.proofs.Fits.{length-space_of}
use Rattle.mn_mini.proofs.SoundParts.{parts_are_sound}
use Rattle.mn_report.specs.Answers.{IsMove}
use Rattle.mn_runs.specs.declared.entry.Entry.{Entry}
use Rattle.mn_runs.specs.declared.entry.What.{What}
use Rattle.mn_runs.specs.declared.entry.What.TheVariants.{Called}
use Rattle.mn_runs.specs.Calls.{client_entries}
use Rattle.mn_runs.specs.Clients.{Sends}
use Rattle.mn_law.specs.Answers.{part_compares}
use Rattle.mn_runs.specs.Protocol.{Start, FollowsProtocol, AllowedAt, AllowedBy, base_at, start_nodes, start_records, records_of}
use Rattle.mn_runs.specs.Sound.{is_committed, opened_memory}
use Rattle.mn_commits.specs.Laws.{part_of_request}
use Rattle.mn_serial.specs.Meaning.{OpenedRun, StandsAt, AnswersOp}
use Rattle.mn_causes.specs.Causes.{WasMoved}
use Rattle.mn_law.proofs.MakeRun.{runs_follow_protocol}
use Rattle.mn_votes.proofs.Acts.{sent_unvoted}
use Rattle.mn_commits.proofs.Bytes.Through.{Whole}
use Rattle.mn_commits.proofs.Bytes.Spaces.{whole_run}
use Rattle.mn_plans.proofs.Told.{all_there}
use Rattle.mn_plans.proofs.Catalogs.{holds_sizes}
use Rattle.mn_causes.proofs.Held.{call_answer}
use Rattle.mn_causes.proofs.LastTry.{in_log}
use Rattle.mn_causes.proofs.Moved.{moved_by_other}
use Rattle.mn_runs.proofs.Prefixes.{follows_before}
use Rattle.mn_serial.proofs.Meaning.Stands.{contains_here}

-- The compare that differs

-- the compare of this number, with the bytes that stand in its place
record DiffersBy (space : List ℕ) (part : List PartItem) (number : ℕ) (found : List ℕ) : Type 0 where
  pub begins : ℕ
  pub expected : List ℕ
  pub there : slice_get (part_compares part) number ≡ Some (begins, expected)
  pub found_is : bytes_in space begins (length expected) ≡ found

mismatch_at : (space : List ℕ) (i : ℕ) (part : List PartItem) (at : Mismatched) → part_mismatch_from space i part ≡ Some at → (number : ℕ) × (at.item ≡ i + number) × DiffersBy space part number at.found
mismatch_at space i [] at is = absurd cc
mismatch_at space i (Bare.Read begins size ∷ part) at is =
    let m = mismatch_at space i part at is in
    (m.0, m.1, record { begins = m.2.begins; expected = m.2.expected; there = m.2.there; found_is = m.2.found_is })
mismatch_at space i (Bare.Write begins bytes ∷ part) at is =
    let m = mismatch_at space i part at is in
    (m.0, m.1, record { begins = m.2.begins; expected = m.2.expected; there = m.2.there; found_is = m.2.found_is })
mismatch_at space i (Bare.Compare begins bytes ∷ part) at is = by (bytes_eq (bytes_in space begins (length bytes)) bytes) is (λ e. mismatch_at space (i + 1) part at e)
  where
    some : (a b : Mismatched) → Some a ≡ Some b → a ≡ b
    some a b e = cc

    by : (b : Bool) → (if b then part_mismatch_from space (i + 1) part else Some (record { item = i; found = bytes_in space begins (length bytes) })) ≡ Some at
        → (part_mismatch_from space (i + 1) part ≡ Some at → (number : ℕ) × (at.item ≡ i + 1 + number) × DiffersBy space part number at.found)
        → (number : ℕ) × (at.item ≡ i + number) × DiffersBy space (Bare.Compare begins bytes ∷ part) number at.found
    by true f rest =
        let m = rest f in
        let is : at.item ≡ i + 1 + m.0 = m.1 in
        (suc m.0, omega arith, record { begins = m.2.begins; expected = m.2.expected; there = m.2.there; found_is = m.2.found_is })
    by false f rest =
        let this : record { item = i; found = bytes_in space begins (length bytes) } ≡ at = some _ at f in
        let item : i ≡ at.item = ap (λ (x : Mismatched). x.item) this in
        (0, omega arith, record { begins = begins; expected = bytes; there = refl; found_is = ap (λ (x : Mismatched). x.found) this })

-- what a node's BadCompare says
tested_compare : (base : List ℕ) (records : List Record) (tid : Tid) (part : List PartItem) (added : Option Record) (item : ℕ) (found : List ℕ) → (tested base records tid part added).reply ≡ Say.BadCompare item found
    → part_mismatch_from (space_of base records) 0 part ≡ Some (record { item = item; found = found })
tested_compare base records tid part added item found is = locks (clash_of (held_parts records) tid part) is
  where
    compares : (o : Option Mismatched) → part_mismatch_from (space_of base records) 0 part ≡ o → (after_compares (space_of base records) part added o).reply ≡ Say.BadCompare item found
        → part_mismatch_from (space_of base records) 0 part ≡ Some (record { item = item; found = found })
    compares (Some at) e f = e ∙ same at.item item at.found found f
      where
        same : (a b : ℕ) (x y : List ℕ) → Say.BadCompare a x ≡ Say.BadCompare b y → ◌≡◌ {A = Option Mismatched} (Some (record { item = a; found = x })) (Some (record { item = b; found = y }))
        same a b x y h = let p : a ≡ b = cc in let q : x ≡ y = cc in λ i. Some (record { item = p i; found = q i })
    compares None e f = absurd cc

    locks : (o : Option Clash) → (after_locks (space_of base records) part added o).reply ≡ Say.BadCompare item found → part_mismatch_from (space_of base records) 0 part ≡ Some (record { item = item; found = found })
    locks (Some at) f = absurd cc
    locks None f = compares (part_mismatch_from (space_of base records) 0 part) refl f

call_compare : (base : List ℕ) (records : List Record) (request : Request) (part : List PartItem) (item : ℕ) (found : List ℕ) → part_of_request request ≡ Some part → (answer base records request).reply ≡ Say.BadCompare item found
    → part_mismatch_from (space_of base records) 0 part ≡ Some (record { item = item; found = found })
call_compare base records (Ask.Prepare t ps own) part item found is said =
    let same : own ≡ part = cc in
    subst (λ (p : List PartItem). part_mismatch_from (space_of base records) 0 p ≡ Some (record { item = item; found = found })) same (by (has_forced records t) said)
  where
    by : (b : Bool) → (if b then only_reply Say.BadForced else tested base records t own (Some (Voted t ps own))).reply ≡ Say.BadCompare item found → part_mismatch_from (space_of base records) 0 own ≡ Some (record { item = item; found = found })
    by true e = absurd cc
    by false e = tested_compare base records t own (Some (Voted t ps own)) item found e
call_compare base records (Ask.Exec t own) part item found is said =
    let same : own ≡ part = cc in
    subst (λ (p : List PartItem). part_mismatch_from (space_of base records) 0 p ≡ Some (record { item = item; found = found })) same
    (tested_compare base records t own (if has_write own then Some (Executed t own) else None) item found said)
call_compare base records (Ask.Decide t verdict) part item found is said = absurd cc
call_compare base records (Ask.Force t) part item found is said = absurd cc
call_compare base records Ask.List part item found is said = absurd cc
call_compare base records (Ask.Peek at size) part item found is said = absurd cc

-- It lies inside the space

part_inside : (mini : Mini) (n : NodeNo) → AllByRecursion (TakesPart mini) (participants_of mini) → Contains (participants_of mini) n → AllByRecursion IsPartItem (part_of mini n)
part_inside mini n all there = (all_there (TakesPart mini) (participants_of mini) n all there).part.inside

sent_inside : (start : Start) (past : List Entry) (c : ClientNo) (n : NodeNo) (request : Request) (part : List PartItem) → Whole start past → Sends (client_entries c past) (Some n) request → part_of_request request ≡ Some part
    → AllByRecursion IsPartItem part
sent_inside start past c n (Ask.Prepare t ps own) part w sends is =
    let first = ((sent_unvoted start past c n (Ask.Prepare t ps own) w.kept sends).unvoted t ps own refl).2 in
    let mini = first.0 in
    let made = w.even.minis t mini first.1 in
    let same : own ≡ part = cc in
    subst (AllByRecursion IsPartItem) (sym first.2 ∙ same) (part_inside mini n (parts_are_sound mini made.1).0 first.3)
sent_inside start past c n (Ask.Exec t own) part w sends is =
    let first = ((sent_unvoted start past c n (Ask.Exec t own) w.kept sends).exec t own refl).1 in
    let mini = first.0 in
    let made = w.even.minis t mini first.1 in
    let same : own ≡ part = cc in
    subst (AllByRecursion IsPartItem) (sym first.2 ∙ same) (part_inside mini n (parts_are_sound mini made.1).0 (subst (λ (l : List NodeNo). Contains l n) (sym first.3) (contains_here n [])))
sent_inside start past c n (Ask.Decide t verdict) part w sends is = absurd cc
sent_inside start past c n (Ask.Force t) part w sends is = absurd cc
sent_inside start past c n Ask.List part w sends is = absurd cc
sent_inside start past c n (Ask.Peek at size) part w sends is = absurd cc

pair_is : (a b : ℕ) (x y : List ℕ) → ◌≡◌ {A = Option (ℕ × List ℕ)} (Some (a, x)) (Some (b, y)) → (a ≡ b) × (x ≡ y)
pair_is a b x y e =
    let pairs : ◌≡◌ {A = ℕ × List ℕ} (a, x) (b, y) = cc in
    (ap (λ (p : ℕ × List ℕ). p.0) pairs, ap (λ (p : ℕ × List ℕ). p.1) pairs)

compare_inside : (part : List PartItem) (number begins : ℕ) (expected : List ℕ) → AllByRecursion IsPartItem part → slice_get (part_compares part) number ≡ Some (begins, expected) → begins + length expected ≤ space_size
compare_inside [] number begins expected all is = absurd cc
compare_inside (Bare.Read at size ∷ part) number begins expected all is = compare_inside part number begins expected all.1 is
compare_inside (Bare.Write at bytes ∷ part) number begins expected all is = compare_inside part number begins expected all.1 is
compare_inside (Bare.Compare at bytes ∷ part) zero begins expected all is =
    let same = pair_is at begins bytes expected is in
    subst (λ (x : List ℕ). begins + length x ≤ space_size) same.1 (subst (λ (b : ℕ). b + length bytes ≤ space_size) same.0 all.0.2)
compare_inside (Bare.Compare at bytes ∷ part) (suc number) begins expected all is = compare_inside part number begins expected all.1 is

-- Spaces

length-part : (space : List ℕ) (part : List PartItem) → length (space_after_part space part) ≡ length space
length-part space [] = refl
length-part space (Bare.Compare start bytes ∷ part) = length-part space part
length-part space (Bare.Read start size ∷ part) = length-part space part
length-part space (Bare.Write start bytes ∷ part) = length-part (overwritten space start bytes) part ∙ length-overwritten space start bytes

length-held : (is_so : Tid → Bool) (space : List ℕ) (held : List HeldPart) → length (with_held is_so space held) ≡ length space
length-held is_so space [] = refl
length-held is_so space (h ∷ hs) =
    elim (is_so h.tid) as (λ b. length (if b then space_after_part (with_held is_so space hs) h.part else with_held is_so space hs) ≡ length space) [
      | true ↦ length-part (with_held is_so space hs) h.part ∙ length-held is_so space hs
      | false ↦ length-held is_so space hs
    ]

all_of : {X Y : Type 0} (P : Y → Type 0) (f : X → Y) (xs : List X) (i : ℕ) (x : X) → AllByRecursion P (map f xs) → slice_get xs i ≡ Some x → P (f x)
all_of P f [] i x all is = absurd cc
all_of P f (y ∷ xs) zero x all is = let same : y ≡ x = cc in subst (λ z. P (f z)) same all.0
all_of P f (y ∷ xs) (suc i) x all is = all_of P f xs i x all.1 is

node_at : (nodes : ℕ) (n : NodeNo) → n.0 < nodes → slice_get (node_numbers nodes) n.0 ≡ Some n
node_at nodes n low = mapped (λ (k : ℕ). let m : NodeNo = record { 0 = k } in m) (range_with_len 0 nodes) n.0 n.0 (range_at 0 nodes n.0 low ∙ ap Some (none n.0))
  where
    none : (k : ℕ) → 0 + k ≡ k
    none k = omega arith

    mapped : {X Y : Type 0} (f : X → Y) (xs : List X) (i : ℕ) (x : X) → slice_get xs i ≡ Some x → slice_get (map f xs) i ≡ Some (f x)
    mapped f [] i x is = absurd cc
    mapped f (y ∷ xs) zero x is = let same : y ≡ x = cc in ap (λ z. Some (f z)) same
    mapped f (y ∷ xs) (suc i) x is = mapped f xs i x is

-- the space of a node of a run has a space's length
base_size : (start : Start) (store : Store) (past : List Entry) (n : NodeNo) → OpenedRun start store past → n.0 < start_nodes start → length (base_at start n) ≡ space_size
base_size start store past n h low =
    let space : NodeNo → List ℕ = λ k. with_held (is_committed (start_nodes start) (start_records start)) (space_of (base_at start k) (start_records start k)) (held_parts (start_records start k)) in
    sym (length-held (is_committed (start_nodes start) (start_records start)) (space_of (base_at start n) (start_records start n)) (held_parts (start_records start n)) ∙ length-space_of (base_at start n) (start_records start n))
    ∙ all_of (λ (s : List ℕ). length s ≡ space_size) space (node_numbers (start_nodes start)) n.0 n (holds_sizes (opened_memory start) store h.opened.holds) (node_at (start_nodes start) n low)

-- The answer

bytes_long : (space : List ℕ) (begins size : ℕ) → begins + size ≤ length space → length (bytes_in space begins size) ≡ size
bytes_long space begins size within = length-take-le size (drop begins space) (omega (arith, within, length-drop begins space))

-- an answer that bytes had moved tells of a move
pub moved_is_move : (start : Start) (store : Store) (past : List Entry) (place : ℕ) (e : Entry) (c : ClientNo) (number : ℕ) (n : NodeNo) (begins : ℕ) (expected found : List ℕ) → OpenedRun start store past → StandsAt past place e
    → AnswersOp e c number (GaveUp (Moved n begins expected found)) → IsMove begins expected found
moved_is_move start store past place e c number n begins expected found h stands answers = record {
  differ = λ same. clash (bytes_eq found expected) (ap (λ (b : List ℕ). bytes_eq b expected) (sym same) ∙ bytes_eq-refl expected) w.differ;
  same_length = sym (ap length (sym is_found) ∙ bytes_long space begins (length expected) (subst (λ (k : ℕ). begins + length expected ≤ k) (sym size) inside));
  inside = inside;
}
  where
    w : WasMoved past c number place n begins expected found
    w = moved_by_other start store past place e c number n begins expected found h stands answers

    x : Entry
    x = w.call.entry

    before : List Entry
    before = w.call.there.before

    space : List ℕ
    space = space_of (base_at start n) (records_of start before n)

    to_call : FollowsProtocol start (x ∷ before)
    to_call = follows_before start past (w.tries.later ++ (w.tries.answer ∷ w.call.there.later)) (x ∷ before) (in_log w.tries w.call.there) (runs_follow_protocol start past h.run)

    at_node : AllowedAt start before (Some n) (Called w.request (Say.BadCompare w.item found))
    at_node = subst (λ (a : What). AllowedAt start before (Some n) a) w.call.what (subst (λ (o : Option NodeNo). AllowedAt start before o x.what) w.call.node to_call.1.at_node)

    sends : Sends (client_entries c before) (Some n) w.request
    sends =
        subst (λ (a : What). AllowedBy before (Some c) (Some n) a) w.call.what
        (subst (λ (o : Option NodeNo). AllowedBy before (Some c) o x.what) w.call.node (subst (λ (o : Option ClientNo). AllowedBy before o x.node x.what) w.call.there.client to_call.1.by_client))

    not_down : Say.BadCompare w.item found ≡ Say.Down → ⊥
    not_down is = cc

    mismatch : part_mismatch_from space 0 w.part ≡ Some (record { item = w.item; found = found })
    mismatch = call_compare (base_at start n) (records_of start before n) w.request w.part w.item found w.asked (call_answer start before x n w.request (Say.BadCompare w.item found) to_call.1 w.call.node w.call.what not_down)

    size : length space ≡ space_size
    size = length-space_of (base_at start n) (records_of start before n) ∙ base_size start store past n h at_node.0

    inside : begins + length expected ≤ space_size
    inside = compare_inside w.part w.item begins expected (sent_inside start before c n w.request w.part (whole_run start before h.opened.sound to_call.0) sends w.asked) w.compares

    is_found : bytes_in space begins (length expected) ≡ found
    is_found =
        let m = mismatch_at space 0 w.part (record { item = w.item; found = found }) mismatch in
        let item_is : w.item ≡ 0 + m.0 = m.1 in
        let number_is : m.0 ≡ w.item = omega arith in
        let same = pair_is m.2.begins begins m.2.expected expected (sym m.2.there ∙ (ap (slice_get (part_compares w.part)) number_is ∙ w.compares)) in
        (λ i. bytes_in space (sym same.0 i) (length (sym same.1 i))) ∙ m.2.found_is

    clash : (b : Bool) → b ≡ true → b ≡ false → ⊥
    clash b p q = cc
