-- Bytes that a client read: a range of a node's space, and what a lone read brought of it.
use Rattle.std.specs.Prelude.{ℕ, length, List, [], ◌∷◌}
use Rattle.mn_base.specs.declared.ids.NodeNo.{NodeNo}
use Rattle.std.specs.List.{flat_map}
use Rattle.mn_mini.specs.declared.part.PartItem.TheVariants as Bare
use Rattle.mn_mini.specs.declared.request.Request.{Request}
use Rattle.mn_mini.specs.declared.request.Request.TheVariants as Ask
use Rattle.mn_mini.specs.declared.reply.NodeReply.{NodeReply}
use Rattle.mn_mini.specs.declared.reply.NodeReply.TheVariants as Say
use Rattle.mn_runs.specs.declared.entry.Entry.{Entry}
use Rattle.mn_runs.specs.Calls.{call_in, calls_of}

-- the range of a page, an entry, a count or the catalog
pub record Place : Type 0 where
  pub node : NodeNo
  pub start : ℕ
  pub length : ℕ

-- the bytes of a place, as a read brought them
pub record Seen : Type 0 where
  pub place : Place
  pub bytes : List ℕ

-- an Exec of one read item that was done
abbrev pub seen_by : NodeNo → Request → NodeReply → List Seen
seen_by n (Ask.Exec tid (Bare.Read start length ∷ [])) (Say.Done (bytes ∷ [])) =
    record { place = record { node = n; start = start; length = length }; bytes = bytes } ∷ []
seen_by n request reply = []

-- the reads of a list that were done, the newest first
abbrev pub seen_in : List Entry → List Seen
seen_in es = flat_map (λ c. seen_by c.node c.request c.reply) (calls_of es)

-- the reads of an entry
abbrev pub seen_at : Entry → List Seen
seen_at e = flat_map (λ c. seen_by c.node c.request c.reply) (call_in e.node e.what)
