-- Worked examples: operations and their replies, and which pages serve which versions, computed.
use Rattle.std.proofs.Common.{◌+◌, ◌++◌, ◌≡◌, ℕ, true, false, List, [], ◌∷◌, Option, Some, None, refl}
use Rattle.mn_base.specs.Tree.{serves}
use Rattle.mn_base.specs.Store.{empty_store}
use Rattle.mn_base.specs.History.{replies_of}
use Rattle.mn_base.specs.declared.op.Step.TheVariants.{Get, Put, Del, Check}
use Rattle.mn_base.specs.declared.op.Op.{Op}
use Rattle.mn_base.specs.declared.op.Op.TheVariants.{Tx, Snapshot, Branch, Scan, Versions}
use Rattle.mn_base.specs.declared.reply.Reply.TheVariants.{VersionsFull, Values, Unmet, Made, Pairs, Listing, NoVersion, Frozen, NotFrozen, NameTaken}

abbrev main : List ℕ
main = 109 ∷ 97 ∷ 105 ∷ 110 ∷ []

abbrev m2 : List ℕ
m2 = 109 ∷ 50 ∷ []

abbrev y : List ℕ
y = 121 ∷ []

abbrev k1 : List ℕ
k1 = 107 ∷ 49 ∷ []

abbrev put : List ℕ → List ℕ → ℕ → Op
put version key value = Tx version (Put key (value ∷ []) ∷ [])

abbrev get : List ℕ → List ℕ → Op
get version key = Tx version (Get key ∷ [])

-- one client writes, takes snapshots and reads, and meets each refusal but those of names and room
replies_to_versions : replies_of empty_store (
    put main k1 1
    ∷ Snapshot main m2
    ∷ Scan main None None 10
    ∷ put m2 k1 2
    ∷ Scan main None None 10
    ∷ put main k1 3
    ∷ get m2 k1
    ∷ Scan m2 None None 10
    ∷ Branch m2 y
    ∷ get y k1
    ∷ Versions
    ∷ Branch main m2
    ∷ Tx m2 (Check k1 (Some (1 ∷ [])) ∷ (Put k1 (9 ∷ []) ∷ []))
    ∷ Tx m2 (Put k1 (9 ∷ []) ∷ (Get k1 ∷ (Check k1 None ∷ [])))
    ∷ Tx m2 (Put k1 (9 ∷ []) ∷ (Get k1 ∷ (Del k1 ∷ (Get k1 ∷ []))))
    ∷ [])
    ≡ (Values []
    ∷ (Made
    ∷ (Pairs (record { key = k1; value = 1 ∷ [] } ∷ [])
    ∷ (Values []
    ∷ (Pairs (record { key = k1; value = 1 ∷ [] } ∷ [])
    ∷ (Frozen
    ∷ (Values (Some (2 ∷ []) ∷ [])
    ∷ (NotFrozen
    ∷ (NotFrozen
    ∷ (NoVersion
    ∷ (Listing (record { name = main; parent = None; frozen = true } ∷ (record { name = m2; parent = Some main; frozen = false } ∷ []))
    ∷ (NameTaken
    ∷ (Unmet 1 (Some (2 ∷ []))
    ∷ (Unmet 3 (Some (9 ∷ []))
    ∷ (Values (Some (9 ∷ []) ∷ (None ∷ []))
    ∷ [])))))))))))))))
replies_to_versions = refl

-- versions 0 to 3: 1 and 2 are children of 0, and 3 is a child of 1
abbrev tree : List (Option ℕ)
tree = None ∷ Some 0 ∷ Some 0 ∷ Some 1 ∷ []

-- a page of version 0 that was copied for 1 serves 0 and 2, and no longer 1 and 3
serving_by_ancestry : serves tree 0 2 0 ∷ serves tree 0 2 1 ∷ serves tree 0 2 2 ∷ serves tree 0 2 3 ∷ serves tree 1 0 3 ∷ serves tree 2 0 3 ∷ []
    ≡ true ∷ false ∷ true ∷ false ∷ true ∷ false ∷ []
serving_by_ancestry = refl

-- branches of a frozen version until there are 64 versions: then a new name meets no room, and a
-- known one is taken
abbrev branches : List Op
branches = Rattle.std.specs.Prelude.map (λ n. Branch main (120 ∷ ((48 + n) ∷ []))) (Rattle.std.specs.List.range_with_len 0 62)

no_room_before_name_taken : replies_of empty_store (Snapshot main m2 ∷ branches ++ Branch main y ∷ Branch main m2 ∷ []) ≡ Rattle.std.specs.Prelude.replicate 63 Made ++ VersionsFull ∷ NameTaken ∷ []
no_room_before_name_taken = refl
