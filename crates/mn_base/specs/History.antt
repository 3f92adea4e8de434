-- Histories: operations with their replies, one after another.
use Rattle.std.specs.Prelude.{ℕ, ◌≡◌, true, List, [], ◌∷◌, ◌++◌, Some, ⊤, slice_get}
use Rattle.mn_base.specs.Store.{Store, StoreVersion, applied}
use Rattle.mn_base.specs.declared.op.Op.{Op}
use Rattle.mn_base.specs.declared.reply.Reply.{Reply}
use Rattle.mn_base.specs.declared.history.Past.{Past}

-- the store after these operations
abbrev pub store_after : Store → List Past → Store
store_after start [] = start
store_after start (past ∷ history) = store_after (applied start past.op).store history

-- each reply is the store's, in the state that the operations before it leave
abbrev pub IsLegal : Store → List Past → Type 0
IsLegal start [] = ⊤
IsLegal start (past ∷ history) =
    (past.reply ≡ (applied start past.op).reply) × IsLegal (applied start past.op).store history

-- the replies to operations that are done one after another, and the store that they leave
abbrev pub replies_of : Store → List Op → List Reply
replies_of start [] = []
replies_of start (op ∷ ops) = (applied start op).reply ∷ replies_of (applied start op).store ops

abbrev pub store_after_ops : Store → List Op → Store
store_after_ops start [] = start
store_after_ops start (op ∷ ops) = store_after_ops (applied start op).store ops

-- a legal history goes on with what the store replies next
abbrev pub HistoryGoesOn : Type 0
HistoryGoesOn =
    (start : Store) (history : List Past) (past : Past) → IsLegal start history
    → past.reply ≡ (applied (store_after start history) past.op).reply
    → IsLegal start (history ++ past ∷ [])

-- a frozen version stays as it is, whatever is done
abbrev pub FrozenStays : Type 0
FrozenStays =
    (start : Store) (history : List Past) (v : ℕ) (version : StoreVersion)
    → slice_get start v ≡ Some version → version.head.frozen ≡ true
    → slice_get (store_after start history) v ≡ Some version
