-- Worked examples of versions that are added: a Snapshot and then a Branch of `main`, whose root
-- has split.
use Rattle.std.proofs.Common.{◌≡◌, ℕ, true, false, Some, [], ◌∷◌, refl}
use Rattle.mn_base.specs.declared.ids.VersionNo.{VersionNo}
use Rattle.mn_page.specs.Forest.{main_entry}
use Rattle.mn_page.specs.Copies.{marked_for, copy_for}
use Rattle.mn_page.specs.Added.{Addition, frozen_entry, after_snapshot, after_branch}
use Rattle.mn_page.proofs.Examples.Spelling.{at, split_root}

abbrev version : ℕ → VersionNo
version v = record { 0 = v }

-- the child `m` of `main`, and then `x`
abbrev m : Addition
m = record { parent = version 0; entry = main_entry; root = split_root; number = version 1; child = 109 ∷ []; slot = at 1 1 }

abbrev x : Addition
x = record { parent = version 0; entry = frozen_entry main_entry; root = marked_for (version 1) split_root; number = version 2; child = 120 ∷ []; slot = at 0 2 }

-- the root has been copied for both, and written twice
root_example : marked_for (version 2) (marked_for (version 1) split_root) ≡ record split_root { seq = 12; copied = 6 }
root_example = refl

-- the copy for `x` is copied for none
copy_example : copy_for (version 2) (marked_for (version 1) split_root) ≡ record split_root { seq = 1; made = version 2 }
copy_example = refl

-- `main` is frozen once
entries_example : after_branch (after_snapshot (main_entry ∷ []) m) x
    ≡ record main_entry { seq = 2; frozen = true } ∷ record { seq = 1; frozen = false; parent = Some (version 0); root = at 1 1; name = 109 ∷ [] }
    ∷ record { seq = 1; frozen = false; parent = Some (version 0); root = at 0 2; name = 120 ∷ [] } ∷ []
entries_example = refl
