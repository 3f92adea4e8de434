-- Operations without their replies.
use Rattle.std.specs.Prelude.{ℕ, ◌≡◌, List, [], ◌∷◌}
use Rattle.mn_base.specs.Store.{Store, applied}
use Rattle.mn_base.specs.declared.history.Past.{Past}
use Rattle.mn_base.specs.declared.ids.ClientNo.{ClientNo}
use Rattle.mn_base.specs.declared.op.Op.{Op}

pub record Act : Type 0 where
  pub client : ClientNo
  pub number : ℕ
  pub op : Op

-- the operation leaves every store as it is
abbrev pub ChangesNothing : Op → Type 0
ChangesNothing op = (store : Store) → (applied store op).store ≡ store

abbrev pub act_of : Past → Act
act_of p = record { client = p.client; number = p.number; op = p.op }

-- Replies

-- the operation as the store does it
abbrev pub done_by : Store → Act → Past
done_by store a =
    record { client = a.client; number = a.number; op = a.op; reply = (applied store a.op).reply }

-- one after another
abbrev pub done_from : Store → List Act → List Past
done_from store [] = []
done_from store (a ∷ acts) = done_by store a ∷ done_from (applied store a.op).store acts
