-- The images of blocks: the bytes that were last written to each of them as a whole.
use Rattle.std.specs.Prelude.{◌≡◌, ◌≤◌, ◌+◌, ◌*◌, ◌⊎◌, ℕ, suc, List, [], ◌∷◌, length}
use Rattle.std.specs.Prelude.{Option, Some, None, slice_index_or}
use Rattle.mn_mini.specs.Flat.{overwritten}

-- how many bytes a block has
abbrev pub block_size : ℕ
block_size = 1024

-- a space with the image over the block, if there is one
abbrev pub with_image : ℕ → Option (List ℕ) → List ℕ → List ℕ
with_image block None space = space
with_image block (Some image) space = overwritten space (block_size * block) image

-- a space with the images over its blocks, from this block on
abbrev pub with_images : ℕ → List (Option (List ℕ)) → List ℕ → List ℕ
with_images block [] space = space
with_images block (image ∷ images) space =
    with_images (suc block) images (with_image block image space)

-- each image is as long as a block
abbrev pub AreBlocks : List (Option (List ℕ)) → Type 0
AreBlocks images =
    (block : ℕ) (image : List ℕ) → slice_index_or images block None ≡ Some image
    → length image ≡ block_size

-- no image is one of a block that the range meets
abbrev pub AreApart : ℕ → ℕ → List (Option (List ℕ)) → Type 0
AreApart start count images =
    (block : ℕ) (image : List ℕ) → slice_index_or images block None ≡ Some image
    → (block_size * block + block_size ≤ start) ⊎ (start + count ≤ block_size * block)
