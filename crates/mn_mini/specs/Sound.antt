-- Which requests a node may be sent, and which replies fit a request.
use Rattle.std.specs.Prelude.{◌≡◌, ◌≢◌, ◌<◌, ◌⊎◌, ℕ, zero, suc, List, [], ◌∷◌, length, ⊤}
use Rattle.std.specs.List.{AllByRecursion}
use Rattle.mn_mini.specs.declared.part.PartItem.{PartItem}
use Rattle.mn_mini.specs.declared.part.PartItem.TheVariants.{Compare, Read, Write}
use Rattle.mn_mini.specs.declared.doubt.Doubt.{Doubt}
use Rattle.mn_mini.specs.declared.request.Request.{Request}
use Rattle.mn_mini.specs.declared.request.Request.TheVariants.{Prepare, Exec, Decide, Force}
use Rattle.mn_mini.specs.declared.request.Request.TheVariants.{List as ListHeld, Peek}
use Rattle.mn_mini.specs.declared.reply.NodeReply.{NodeReply}
use Rattle.mn_mini.specs.declared.reply.NodeReply.TheVariants as Say
use Rattle.mn_mini.specs.Mini.{IsInSpace, range_of}
use Rattle.mn_mini.specs.RecordGrammar.{IsTid, IsPart, AreParticipants}

-- its id, its participants, its part and its range are such as there may be, each as far as the
-- request has it
abbrev pub IsSoundRequest : Request → Type 0
IsSoundRequest (Prepare tid participants part) =
    IsTid tid × AreParticipants participants × AllByRecursion (λ n. n.0 < 8) participants
    × IsPart part
IsSoundRequest (Exec tid part) = IsTid tid × IsPart part
IsSoundRequest (Decide tid verdict) = IsTid tid
IsSoundRequest (Force tid) = IsTid tid
IsSoundRequest ListHeld = ⊤
IsSoundRequest (Peek start length) = IsInSpace start length

-- Kinds of requests

-- it brings a part, of which this holds
abbrev pub OfPart : (List PartItem → Type 0) → Request → Type 0
OfPart P (Prepare tid participants part) = P part
OfPart P (Exec tid part) = P part
OfPart P request = ⊥

abbrev pub IsPrepare : Request → Type 0
IsPrepare (Prepare tid participants part) = ⊤
IsPrepare request = ⊥

abbrev pub IsDecide : Request → Type 0
IsDecide (Decide tid verdict) = ⊤
IsDecide request = ⊥

abbrev pub IsForce : Request → Type 0
IsForce (Force tid) = ⊤
IsForce request = ⊥

abbrev pub IsList : Request → Type 0
IsList ListHeld = ⊤
IsList request = ⊥

-- it asks for so many bytes
abbrev pub IsPeekOf : ℕ → Request → Type 0
IsPeekOf n (Peek start size) = n ≡ size
IsPeekOf n request = ⊥

abbrev pub IsNoPeek : Request → Type 0
IsNoPeek (Peek start size) = ⊥
IsNoPeek request = ⊤

-- What a reply says of a part

-- one byte string for each read item, in order, as long as the item asks for
abbrev pub AreReadsOf : List (List ℕ) → List PartItem → Type 0
AreReadsOf [] [] = ⊤
AreReadsOf (bytes ∷ reads) [] = ⊥
AreReadsOf reads (Compare start bytes ∷ part) = AreReadsOf reads part
AreReadsOf [] (Read start size ∷ part) = ⊥
AreReadsOf (bytes ∷ reads) (Read start size ∷ part) = (length bytes ≡ size) × AreReadsOf reads part
AreReadsOf reads (Write start bytes ∷ part) = AreReadsOf reads part

-- the range of one of the items
abbrev pub IsRangeIn : ℕ → ℕ → List PartItem → Type 0
IsRangeIn start size [] = ⊥
IsRangeIn start size (item ∷ part) =
    ((start ≡ (range_of item).start) × (size ≡ (range_of item).length)) ⊎ IsRangeIn start size part

-- the compare item of this number, from 0, has other bytes than these, and as many
abbrev pub IsOtherThan : ℕ → List ℕ → List PartItem → Type 0
IsOtherThan n found [] = ⊥
IsOtherThan zero found (Compare start bytes ∷ part) =
    (length found ≡ length bytes) × (found ≢ bytes)
IsOtherThan (suc n) found (Compare start bytes ∷ part) = IsOtherThan n found part
IsOtherThan n found (Read start size ∷ part) = IsOtherThan n found part
IsOtherThan n found (Write start bytes ∷ part) = IsOtherThan n found part

-- an id and participants such as there may be
abbrev pub IsDoubt : Doubt → Type 0
IsDoubt d = IsTid d.tid × AreParticipants d.participants

-- The reply may answer the request: that the node is down or has no memory may answer any, and that
-- it stopped any but a Peek. Else it is of a kind that the records may give the request, with as
-- many bytes as that asks for: the range of a lock and the compare item that differs are those of
-- the part, and the ids are such as there may be.
abbrev pub Fits : Request → NodeReply → Type 0
Fits request (Say.Done reads) = OfPart (AreReadsOf reads) request
Fits request (Say.BadLock start size holder) = OfPart (IsRangeIn start size) request
Fits request (Say.BadCompare item found) = OfPart (IsOtherThan item found) request
Fits request Say.BadForced = IsPrepare request
Fits request (Say.Vote verdict) = IsForce request
Fits request Say.Decided = IsDecide request
Fits request (Say.Listed doubts) = IsList request × AllByRecursion IsDoubt doubts
Fits request (Say.Peeked bytes) = IsPeekOf (length bytes) request
Fits request Say.Down = ⊤
Fits request Say.Stopped = IsNoPeek request
Fits request Say.NoMemory = ⊤
