-- The accounts of clients, and steps on them.
use Rattle.std.specs.Prelude.{ℕ, ◌+◌, ◌-◌, List, [], ◌∷◌, Some, decimal, slice_index}
use Rattle.mn_base.specs.declared.op.Step.{Step}
use Rattle.mn_base.specs.declared.op.Step.TheVariants.{Put, Check}
use Rattle.mn_gen.specs.declared.draws.Transfer.{Transfer}

-- the key of an account of a client: `c`, the client's digit, `a`, the account's digit
abbrev pub key_of : ℕ → ℕ → List ℕ
key_of client account = 99 ∷ (48 + client) ∷ 97 ∷ (48 + account) ∷ []

-- sets the balance of an account, written out
abbrev pub put_of : ℕ → ℕ → ℕ → Step
put_of client account balance = Put (key_of client account) (decimal balance)

-- checks the balance of an account
abbrev pub check_of : ℕ → ℕ → ℕ → Step
check_of client account balance = Check (key_of client account) (Some (decimal balance))

-- checks both balances and moves the amount
abbrev pub steps_of : ℕ → Transfer → List ℕ → List Step
steps_of client t balances =
    check_of client t.from (slice_index balances t.from)
    ∷ check_of client t.to (slice_index balances t.to)
    ∷ put_of client t.from (slice_index balances t.from - t.amount)
    ∷ put_of client t.to (slice_index balances t.to + t.amount) ∷ []
