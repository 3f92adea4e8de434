-- Held pages, and addresses, as the lists that contracts see.
use Rattle.std.specs.Prelude.{ℕ, List, nat_eq, if◌then◌else◌}
use Rattle.mn_base.specs.declared.ids.Addr.{Addr}
use Rattle.mn_tree.specs.declared.held.HeldPage.{HeldPage}

-- the pages in the order in which they joined, and for how many more there is room
pub record PageList : Type 0 where
  pub items : List HeldPage
  pub room : ℕ

-- addresses in the order in which they joined, and for how many more there is room
pub record AddrList : Type 0 where
  pub items : List Addr
  pub room : ℕ

-- a list lies in place while its vector has no memory
abbrev pub list_in : ℕ → AddrList → AddrList → AddrList
list_in capacity few many = if nat_eq capacity 0 then few else many
