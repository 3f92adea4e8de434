-- The counts of slots given out, as a try reads them from node 0 on.
use Rattle.std.specs.Prelude.{ℕ, ◌≡◌, ◌≤◌, List, [], ◌∷◌, ◌++◌, length, Some}
use Rattle.byteorder.specs.Endian.{big_bytes}
use Rattle.mn_base.specs.declared.ids.Addr.{Addr}
use Rattle.mn_base.specs.declared.answer.Busy.TheVariants.{Path}
use Rattle.mn_page.specs.Space.{count_size, max_slots}
use Rattle.mn_work.specs.declared.next.Taken.{Taken}

-- the bytes spell the count
abbrev pub IsCountOf : List ℕ → ℕ → Type 0
IsCountOf bytes count = (count ≤ max_slots) × (bytes ≡ big_bytes count_size count)

-- they spell none
abbrev pub SpellsNoCount : List ℕ → Type 0
SpellsNoCount bytes = (count : ℕ) → IsCountOf bytes count → ⊥

-- slot 0 of the next node stands for its count
abbrev pub count_addr : List ℕ → Addr
count_addr counts = record { node = record { 0 = length counts }; slot = 0 }

-- what the bytes of the next node's count made of those before it
abbrev pub TakesCount : List ℕ → List ℕ → List ℕ → Taken → Type 0
TakesCount before bytes after Taken.GoesOn =
    (count : ℕ) × IsCountOf bytes count × (after ≡ before ++ count ∷ [])
TakesCount before bytes after (Taken.Fails cause) =
    SpellsNoCount bytes × (cause ≡ Some (Path (count_addr before) 0)) × (after ≡ before)
TakesCount before bytes after taken = ⊥
