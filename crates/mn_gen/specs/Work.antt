-- What a client does that moves between its accounts.
use Rattle.std.specs.Prelude.{ℕ, zero, suc, ◌+◌, ◌%◌, Bool, ◌&&◌, ◌==◌, nat_lt, List, [], ◌∷◌}
use Rattle.std.specs.Prelude.{◌++◌, ◌≤◌, slice_index, None, codes, replicate, if◌then◌else◌}
use Rattle.mn_base.specs.declared.op.Op.{Op}
use Rattle.mn_base.specs.declared.op.Op.TheVariants.{Tx, Branch, Scan}
use Rattle.mn_gen.specs.declared.work.Books.{Books}
use Rattle.mn_gen.specs.Draws.{third_state, transfer_of, moved}
use Rattle.mn_gen.specs.Accounts.{steps_of}

-- no balance is above this
abbrev pub AreAtMost : ℕ → List ℕ → Type 0
AreAtMost most balances = (k : ℕ) → slice_index balances k ≤ most

-- the scan of all pairs of a version
abbrev pub scan_of : List ℕ → Op
scan_of version = Scan version None None 64

-- an operation, and the books behind it
pub record Done : Type 0 where
  pub op : Op
  pub books : Books

-- the next transfer in `w`, and in `x`
abbrev pub in_main : ℕ → Books → Done
in_main client b = record {
  op = Tx (codes "w") (steps_of client (transfer_of b.state b.main) b.main);
  books = record {
    state = third_state b.state;
    main = moved (transfer_of b.state b.main) b.main;
    aside = b.aside;
  };
}

abbrev pub in_aside : ℕ → Books → Done
in_aside client b = record {
  op = Tx (codes "x") (steps_of client (transfer_of b.state b.aside) b.aside);
  books = record {
    state = third_state b.state;
    main = b.main;
    aside = moved (transfer_of b.state b.aside) b.aside;
  };
}

-- the first client makes the branch
abbrev pub is_branch : ℕ → ℕ → Bool
is_branch client number = client == 0 && number == 101

-- the branch of the first version
abbrev pub branch_of : Op
branch_of = Branch (codes "main") (codes "x")

-- of the first client's operations behind its branch each odd one goes to the branch
abbrev pub is_aside : ℕ → ℕ → Bool
is_aside client number = client == 0 && (nat_lt 101 number && number % 2 == 1)

-- the operation of this number, and the books behind it
unfoldable pub done : ℕ → ℕ → Books → Done
done client number books =
    if number % 50 == 0 then record { op = scan_of (codes "main"); books = books }
    else (if is_branch client number then record { op = branch_of; books = books }
    else (if is_aside client number then in_aside client books else in_main client books))

-- the first operations of a client, and the books behind them
pub record Work : Type 0 where
  pub ops : List Op
  pub books : Books

-- the books where a client begins: 100 in each account
abbrev pub fresh_books : ℕ → Books
fresh_books state = record { state = state; main = replicate 8 100; aside = replicate 8 100 }

abbrev pub one_more : ℕ → ℕ → Work → Work
one_more client number w = record {
  ops = w.ops ++ (done client number w.books).op ∷ [];
  books = (done client number w.books).books;
}

-- the first n operations of a client that begins at this state of the draws
unfoldable pub worked : ℕ → ℕ → ℕ → Work
worked client state zero = record { ops = []; books = fresh_books state }
worked client state (suc n) = one_more client (n + 1) (worked client state n)
