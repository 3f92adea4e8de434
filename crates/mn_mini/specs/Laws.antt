-- Laws of minitransactions and of a single node.
use Rattle.std.specs.Prelude.{ℕ, ◌≡◌, ◌≤◌, true, false, List, [], ◌∷◌, ◌++◌, length, reverse, ⊤}
use Rattle.std.specs.List.{AllByRecursion}
use Rattle.mn_base.specs.Ids.{tid_same}
use Rattle.mn_mini.specs.declared.record.Record.{Record}
use Rattle.mn_mini.specs.declared.request.Request.{Request}
use Rattle.mn_base.specs.declared.ids.NodeNo.{NodeNo}
use Rattle.mn_mini.specs.Mini.{Mini, IsNodeOf, IsSound, parts_conflict, part_of, participants_of}
use Rattle.mn_mini.specs.Mini.{space_size}
use Rattle.mn_base.specs.declared.ids.Tid.{Tid}
use Rattle.mn_mini.specs.Node.{HeldPart, held_parts, answer, with_added, space_of, has_voted}
use Rattle.mn_mini.specs.Node.{has_forced, has_executed, has_decided_yes, has_decided_no}
use Rattle.mn_mini.specs.Short.{short}
use Rattle.mn_mini.specs.RecordGrammar.{AreParticipants, IsPart, IsRecord}
use Rattle.mn_mini.specs.Sound.{Fits, IsSoundRequest}

-- the node is one of those that it was made for, and its part is such as there may be
pub record TakesPart (mini : Mini) (n : NodeNo) : Type 0 where
  pub node : IsNodeOf mini.nodes n
  pub part : IsPart (part_of mini n)

-- each participant of a sound minitransaction is such a node, and where there are several, they are
-- such as may vote together
abbrev pub PartsAreSound : Type 0
PartsAreSound =
    (mini : Mini) → IsSound mini
    → AllByRecursion (TakesPart mini) (participants_of mini)
    × (2 ≤ length (participants_of mini) → AreParticipants (participants_of mini))

-- the records after these requests, the newest first, in a node that began with these records
abbrev pub records_after : List ℕ → List Record → List Request → List Record
records_after base start [] = start
records_after base start (request ∷ requests) =
    with_added (answer base (records_after base start requests) request).added
    (records_after base start requests)

-- no part conflicts with one of another id
abbrev pub PartsAreApart : List HeldPart → Type 0
PartsAreApart [] = ⊤
PartsAreApart (h ∷ hs) =
    AllByRecursion (λ g. tid_same g.tid h.tid ≡ false → parts_conflict h.part g.part ≡ false) hs
    × PartsAreApart hs

-- whatever is asked, the held parts of different ids do not conflict
abbrev pub HeldPartsStayApart : Type 0
HeldPartsStayApart =
    (base : List ℕ) (start : List Record) (requests : List Request)
    → PartsAreApart (held_parts start)
    → PartsAreApart (held_parts (records_after base start requests))

-- what the records answer to a sound request fits it
abbrev pub AnswersFit : Type 0
AnswersFit =
    (base : List ℕ) (records : List Record) (request : Request) → length base ≡ space_size
    → AllByRecursion IsRecord records → IsSoundRequest request
    → Fits request (answer base records request).reply

-- Behind the one list a node is as behind the other. Some executions may be left out; the votes,
-- the decisions, what is forced and what is held are the same, and so are the space and all
-- answers.
pub record IsLikeWhole (base : List ℕ) (shorter whole : List Record) : Type 0 where
  pub space : space_of base shorter ≡ space_of base whole
  pub held : held_parts shorter ≡ held_parts whole
  pub voted : (tid : Tid) → has_voted shorter tid ≡ has_voted whole tid
  pub forced : (tid : Tid) → has_forced shorter tid ≡ has_forced whole tid
  pub decided_yes : (tid : Tid) → has_decided_yes shorter tid ≡ has_decided_yes whole tid
  pub decided_no : (tid : Tid) → has_decided_no shorter tid ≡ has_decided_no whole tid
  pub executed : (tid : Tid) → has_executed shorter tid ≡ true → has_executed whole tid ≡ true
  pub answers : (request : Request) → answer base shorter request ≡ answer base whole request

-- whatever is logged behind it, a shortened list is as good as the whole one
abbrev pub ShortIsLikeWhole : Type 0
ShortIsLikeWhole =
    (base : List ℕ) (p q : List Record)
    → IsLikeWhole base (reverse (short p ++ q)) (reverse (p ++ q))

-- its records are in the grammar where those of the whole list are
abbrev pub ShortKeepsGrammar : Type 0
ShortKeepsGrammar =
    (p : List Record) → AllByRecursion IsRecord p → AllByRecursion IsRecord (short p)

-- it has no more records
abbrev pub ShortIsNoLonger : Type 0
ShortIsNoLonger = (p : List Record) → length (short p) ≤ length p
