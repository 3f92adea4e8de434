-- Draws, and the transfer that three of them make.
use Rattle.std.specs.Prelude.{ℕ, ◌+◌, ◌*◌, ◌/◌, ◌%◌, ◌^◌, List, min, slice_index, slice_set}
use Rattle.std.specs.Prelude.{◌-◌}
use Rattle.mn_gen.specs.declared.draws.Transfer.{Transfer}

-- the state behind the next draw
unfoldable pub next_state : ℕ → ℕ
next_state state = (state * 6364136223846793005 + 1442695040888963407) % 2 ^ 64

-- what the draw gives that led to this state
unfoldable pub drawn : ℕ → ℕ
drawn state = state / 2 ^ 33

-- the state behind three draws
abbrev pub third_state : ℕ → ℕ
third_state state = next_state (next_state (next_state state))

-- the account that a draw gives, and one of the seven others
abbrev pub first_account : ℕ → ℕ
first_account draw = draw % 8

abbrev pub other_account : ℕ → ℕ → ℕ
other_account account draw = (account + 1 + draw % 7) % 8

-- an amount from 1 to 10, but at most the balance
abbrev pub amount_of : ℕ → ℕ → ℕ
amount_of draw balance = min (1 + draw % 10) balance

-- a transfer by three draws, where the accounts have these balances
abbrev pub transfer_by : ℕ → ℕ → ℕ → List ℕ → Transfer
transfer_by p q r balances = record {
  from = first_account p;
  to = other_account (first_account p) q;
  amount = amount_of r (slice_index balances (first_account p));
}

-- the transfer that the next three draws make
abbrev pub transfer_of : ℕ → List ℕ → Transfer
transfer_of state balances =
    transfer_by (drawn (next_state state)) (drawn (next_state (next_state state)))
    (drawn (third_state state)) balances

-- the balances behind a transfer
abbrev pub moved : Transfer → List ℕ → List ℕ
moved t balances =
    slice_set (slice_set balances t.from (slice_index balances t.from - t.amount)) t.to
    (slice_index balances t.to + t.amount)
