-- A space with images over its blocks.
use Rattle.std.proofs.Common.{◌≡◌, ◌≤◌, ◌<◌, ◌+◌, ◌-◌, ◌*◌, ◌⊎◌, inl, inr, ℕ, zero, suc, List, [], ◌∷◌, ◌++◌, length, take, drop, replicate, get_or, set, Bool, false, true, ◌&&◌, ◌||◌, Option, Some, None, refl, sym, ap, ◌∙◌, arith}
use Rattle.std.specs.Prelude.{nat_lt, min, max}
use Rattle.std.proofs.lemmas.Bool.Decides.{nat_tests}
use Rattle.std.proofs.lemmas.List.{append-nil, drop-drop, drop-take, length-drop, length-take-le, take-take}
use Rattle.mn_mini.specs.declared.part.PartItem.TheVariants.{Write}
use Rattle.mn_mini.specs.Flat.{bytes_in, overwritten}
use Rattle.mn_mini.proofs.Bytes.{parts-commute, range-after_part}
use Rattle.mn_page.specs.Grammar.{padded}
use Rattle.mn_node.specs.Images.{AreApart, AreBlocks, block_size, with_image, with_images}
use Rattle.mn_space.proofs.Spaces.{overwritten_long, padded_long}

-- Bytes put over a range

-- the bytes of a range that is written
range_written : (space : List ℕ) (start : ℕ) (bytes : List ℕ) → start + length bytes ≤ length space → bytes_in (overwritten space start bytes) start (length bytes) ≡ bytes
range_written [] zero [] within = refl
range_written [] zero (b ∷ bytes) within = absurd (omega (arith, within))
range_written [] (suc start) bytes within = absurd (omega (arith, within))
range_written (x ∷ space) zero [] within = refl
range_written (x ∷ space) zero (b ∷ bytes) within = ap (λ (l : List ℕ). b ∷ l) (range_written space zero bytes (omega (arith, within)))
range_written (x ∷ space) (suc start) bytes within = range_written space start bytes (omega (arith, within))

-- bytes put over others
twice : (space : List ℕ) (start : ℕ) (first bytes : List ℕ) → length first ≡ length bytes → overwritten (overwritten space start first) start bytes ≡ overwritten space start bytes
twice [] start first bytes long = refl
twice (x ∷ space) zero [] [] long = refl
twice (x ∷ space) zero [] (b ∷ bytes) long = absurd (omega (arith, long))
twice (x ∷ space) zero (a ∷ first) [] long = absurd (omega (arith, long))
twice (x ∷ space) zero (a ∷ first) (b ∷ bytes) long = ap (λ (l : List ℕ). b ∷ l) (twice space zero first bytes (omega (arith, long)))
twice (x ∷ space) (suc start) first bytes long = ap (λ (l : List ℕ). x ∷ l) (twice space start first bytes long)

-- ranges that lie one below the other don't meet
no_meeting : (s n t m : ℕ) → (s + n ≤ t) ⊎ (t + m ≤ s) → nat_lt (max s t) (min (s + n) (t + m)) ≡ false
no_meeting s n t m (inl below) = grind (arith, nat_tests)
no_meeting s n t m (inr above) = grind (arith, nat_tests)

never : (meet : Bool) → meet ≡ false → ((meet && true) || false) ≡ false
never meet e = cc

-- the bytes of a range that a write doesn't meet
range_apart : (space : List ℕ) (start : ℕ) (bytes : List ℕ) (s n : ℕ) → (s + n ≤ start) ⊎ (start + length bytes ≤ s) → bytes_in (overwritten space start bytes) s n ≡ bytes_in space s n
range_apart space start bytes s n lie = range-after_part space (record { start = s; length = n }) (Write start bytes ∷ []) (never (nat_lt (max s start) (min (s + n) (start + length bytes))) (no_meeting s n start (length bytes) lie))

-- writes that don't meet
swapped : (space : List ℕ) (a : ℕ) (first : List ℕ) (b : ℕ) (bytes : List ℕ) → (a + length first ≤ b) ⊎ (b + length bytes ≤ a)
    → overwritten (overwritten space a first) b bytes ≡ overwritten (overwritten space b bytes) a first
swapped space a first b bytes lie = parts-commute space (Write a first ∷ []) (Write b bytes ∷ []) (none (nat_lt (max a b) (min (a + length first) (b + length bytes))) (no_meeting a (length first) b (length bytes) lie))
  where
    none : (meet : Bool) → meet ≡ false → (((meet && true) || false) || false) ≡ false
    none meet e = cc

-- Images over a space. They stand from a block on: the one at i is the image of the block there plus i

image_long : (block : ℕ) (image : Option (List ℕ)) (space : List ℕ) → length (with_image block image space) ≡ length space
image_long block None space = refl
image_long block (Some image) space = overwritten_long space (block_size * block) image

pub images_long : (block : ℕ) (images : List (Option (List ℕ))) (space : List ℕ) → length (with_images block images space) ≡ length space
images_long block [] space = refl
images_long block (image ∷ images) space = images_long (suc block) images (with_image block image space) ∙ image_long block image space

-- the range meets the block of no image
abbrev Apart : ℕ → ℕ → ℕ → List (Option (List ℕ)) → Type 0
Apart block start count images = (i at : ℕ) (image : List ℕ) → at ≡ block + i → get_or images i None ≡ Some image
    → (block_size * at + block_size ≤ start) ⊎ (start + count ≤ block_size * at)

rest_apart : (block start count : ℕ) (image : Option (List ℕ)) (images : List (Option (List ℕ))) → Apart block start count (image ∷ images) → Apart (suc block) start count images
rest_apart block start count image images apart i at other e is = apart (suc i) at other (omega (arith, e)) is

-- its bytes
range_free : (block : ℕ) (images : List (Option (List ℕ))) (space : List ℕ) (start count : ℕ) → AreBlocks images → Apart block start count images
    → bytes_in (with_images block images space) start count ≡ bytes_in space start count
range_free block [] space start count blocks apart = refl
range_free block (None ∷ images) space start count blocks apart = range_free (suc block) images space start count (λ i image is. blocks (suc i) image is) (rest_apart block start count None images apart)
range_free block (Some image ∷ images) space start count blocks apart =
    range_free (suc block) images (overwritten space (block_size * block) image) start count (λ i image is. blocks (suc i) image is) (rest_apart block start count (Some image) images apart)
    ∙ range_apart space (block_size * block) image start count (lies (apart zero block image (omega arith) refl))
  where
    lies : (block_size * block + block_size ≤ start) ⊎ (start + count ≤ block_size * block) → (start + count ≤ block_size * block) ⊎ (block_size * block + length image ≤ start)
    lies (inl above) = inr (omega (arith, above, blocks zero image refl))
    lies (inr below) = inl below

-- bytes put over it
write_free : (block : ℕ) (images : List (Option (List ℕ))) (space : List ℕ) (start : ℕ) (bytes : List ℕ) → AreBlocks images → Apart block start (length bytes) images
    → with_images block images (overwritten space start bytes) ≡ overwritten (with_images block images space) start bytes
write_free block [] space start bytes blocks apart = refl
write_free block (None ∷ images) space start bytes blocks apart = write_free (suc block) images space start bytes (λ i image is. blocks (suc i) image is) (rest_apart block start (length bytes) None images apart)
write_free block (Some image ∷ images) space start bytes blocks apart =
    ap (λ (l : List ℕ). with_images (suc block) images l) (swapped space start bytes (block_size * block) image (lies (apart zero block image (omega arith) refl)))
    ∙ write_free (suc block) images (overwritten space (block_size * block) image) start bytes (λ i image is. blocks (suc i) image is) (rest_apart block start (length bytes) (Some image) images apart)
  where
    lies : (block_size * block + block_size ≤ start) ⊎ (start + length bytes ≤ block_size * block) → (start + length bytes ≤ block_size * block) ⊎ (block_size * block + length image ≤ start)
    lies (inl above) = inr (omega (arith, above, blocks zero image refl))
    lies (inr below) = inl below

-- the images of the blocks behind one don't lie in it
behind : (block : ℕ) (images : List (Option (List ℕ))) (count : ℕ) → count ≡ block_size → Apart (suc block) (block_size * block) count images
behind block images count long i at image e is = inr (omega (arith, e, long))

-- the bytes of a block with an image
image_there : (block : ℕ) (images : List (Option (List ℕ))) (space : List ℕ) (i at : ℕ) (image : List ℕ) → at ≡ block + i → AreBlocks images → get_or images i None ≡ Some image
    → block_size * at + block_size ≤ length space → bytes_in (with_images block images space) (block_size * at) block_size ≡ image
image_there block [] space zero at image e blocks is within = absurd cc
image_there block [] space (suc i) at image e blocks is within = absurd cc
image_there block (None ∷ images) space zero at image e blocks is within = absurd cc
image_there block (Some first ∷ images) space zero at image e blocks is within =
    let here : at ≡ block = omega (arith, e) in
    let same : first ≡ image = cc in
    let long = blocks zero first refl in
    let inside : block_size * block + length first ≤ length space = omega (arith, within, here, long) in
    ap (λ (n : ℕ). bytes_in (with_images (suc block) images (overwritten space (block_size * block) first)) (block_size * n) block_size) here
    ∙ range_free (suc block) images (overwritten space (block_size * block) first) (block_size * block) block_size (λ i image is. blocks (suc i) image is) (behind block images block_size refl)
    ∙ ap (λ (n : ℕ). bytes_in (overwritten space (block_size * block) first) (block_size * block) n) (sym long)
    ∙ range_written space (block_size * block) first inside
    ∙ same
image_there block (first ∷ images) space (suc i) at image e blocks is within =
    image_there (suc block) images (with_image block first space) i at image (omega (arith, e)) (λ i image is. blocks (suc i) image is) is (omega (arith, within, image_long block first space))

-- an image that goes to the bytes below it
flattened : (block : ℕ) (images : List (Option (List ℕ))) (space : List ℕ) (i at : ℕ) (image : List ℕ) → at ≡ block + i → AreBlocks images → get_or images i None ≡ Some image
    → with_images block (set images i None) (overwritten space (block_size * at) image) ≡ with_images block images space
flattened block [] space zero at image e blocks is = absurd cc
flattened block [] space (suc i) at image e blocks is = absurd cc
flattened block (None ∷ images) space zero at image e blocks is = absurd cc
flattened block (Some first ∷ images) space zero at image e blocks is =
    let here : at ≡ block = omega (arith, e) in
    let same : image ≡ first = cc in
    ap (λ (n : ℕ). with_images (suc block) images (overwritten space (block_size * n) image)) here
    ∙ ap (λ (l : List ℕ). with_images (suc block) images (overwritten space (block_size * block) l)) same
flattened block (None ∷ images) space (suc i) at image e blocks is = flattened (suc block) images space i at image (omega (arith, e)) (λ i image is. blocks (suc i) image is) is
flattened block (Some first ∷ images) space (suc i) at image e blocks is =
    let long = blocks zero first refl in
    let below : block_size * block + length first ≤ block_size * at = omega (arith, e, long) in
    ap (λ (l : List ℕ). with_images (suc block) (set images i None) l) (sym (swapped space (block_size * block) first (block_size * at) image (inl below)))
    ∙ flattened (suc block) images (overwritten space (block_size * block) first) i at image (omega (arith, e)) (λ i image is. blocks (suc i) image is) is

-- an image that comes over a block
image_put : (block : ℕ) (images : List (Option (List ℕ))) (space : List ℕ) (i at : ℕ) (image : List ℕ) → at ≡ block + i → i < length images → AreBlocks images → length image ≡ block_size
    → with_images block (set images i (Some image)) space ≡ overwritten (with_images block images space) (block_size * at) image
image_put block [] space i at image e lt blocks long = absurd (omega (arith, lt))
image_put block (first ∷ images) space zero at image e lt blocks long =
    let here : block ≡ at = omega (arith, e) in
    ap (λ (l : List ℕ). with_images (suc block) images l) (sym (over first (blocks zero)))
    ∙ write_free (suc block) images (with_image block first space) (block_size * block) image (λ i image is. blocks (suc i) image is) (behind block images (length image) long)
    ∙ ap (λ (n : ℕ). overwritten (with_images (suc block) images (with_image block first space)) (block_size * n) image) here
  where
    over : (first : Option (List ℕ)) → ((other : List ℕ) → first ≡ Some other → length other ≡ block_size) → overwritten (with_image block first space) (block_size * block) image ≡ overwritten space (block_size * block) image
    over None blocks = refl
    over (Some other) blocks = twice space (block_size * block) other image (blocks other refl ∙ sym long)
image_put block (first ∷ images) space (suc i) at image e lt blocks long =
    image_put (suc block) images (with_image block first space) i at image (omega (arith, e)) (omega (arith, lt)) (λ i image is. blocks (suc i) image is) long

-- where the same blocks have the same images, the space is the same
pub same_images : (block : ℕ) (xs ys : List (Option (List ℕ))) (space : List ℕ) → ((i : ℕ) → get_or xs i None ≡ get_or ys i None) → with_images block xs space ≡ with_images block ys space
same_images block [] [] space same = refl
same_images block [] (y ∷ ys) space same = same_images (suc block) [] ys space (λ i. same (suc i)) ∙ ap (λ (image : Option (List ℕ)). with_images (suc block) ys (with_image block image space)) (same zero)
same_images block (x ∷ xs) [] space same = ap (λ (image : Option (List ℕ)). with_images (suc block) xs (with_image block image space)) (same zero) ∙ same_images (suc block) xs [] space (λ i. same (suc i))
same_images block (x ∷ xs) (y ∷ ys) space same =
    ap (λ (image : Option (List ℕ)). with_images (suc block) xs (with_image block image space)) (same zero) ∙ same_images (suc block) xs ys (with_image block y space) (λ i. same (suc i))

-- What the code needs of them

-- the blocks from one on, up to another, have no image, and the range lies in these
pub free_apart : (images : List (Option (List ℕ))) (start count first end : ℕ) → ((other : ℕ) → first ≤ other → other < end → get_or images other None ≡ None)
    → block_size * first ≤ start → start + count ≤ block_size * end → AreApart start count images
free_apart images start count first end none from to block image is = by (nat_lt block first) refl (nat_lt block end) refl
  where
    by : (a : Bool) → nat_lt block first ≡ a → (b : Bool) → nat_lt block end ≡ b → (block_size * block + block_size ≤ start) ⊎ (start + count ≤ block_size * block)
    by true e b f = let below : block < first = grind (arith, nat_tests, e) in inl (omega (arith, below, from))
    by false e false f = let above : end ≤ block = grind (arith, nat_tests, f) in inr (omega (arith, above, to))
    by false e true f = let gone : get_or images block None ≡ None = none block (grind (arith, nat_tests, e)) (grind (arith, nat_tests, f)) in absurd cc

turned_apart : (start count : ℕ) (images : List (Option (List ℕ))) → AreApart start count images → Apart 0 start count images
turned_apart start count images apart i at image e is = by (apart i image is)
  where
    by : (block_size * i + block_size ≤ start) ⊎ (start + count ≤ block_size * i) → (block_size * at + block_size ≤ start) ⊎ (start + count ≤ block_size * at)
    by (inl below) = inl (omega (arith, below, e))
    by (inr above) = inr (omega (arith, above, e))

pub bytes_free : (images : List (Option (List ℕ))) (space : List ℕ) (start count : ℕ) → AreBlocks images → AreApart start count images
    → bytes_in (with_images 0 images space) start count ≡ bytes_in space start count
bytes_free images space start count blocks apart = range_free 0 images space start count blocks (turned_apart start count images apart)

pub put_free : (images : List (Option (List ℕ))) (space : List ℕ) (start : ℕ) (bytes : List ℕ) → AreBlocks images → AreApart start (length bytes) images
    → with_images 0 images (overwritten space start bytes) ≡ overwritten (with_images 0 images space) start bytes
put_free images space start bytes blocks apart = write_free 0 images space start bytes blocks (turned_apart start (length bytes) images apart)

pub image_is : (images : List (Option (List ℕ))) (space : List ℕ) (block : ℕ) (image : List ℕ) → AreBlocks images → get_or images block None ≡ Some image
    → block_size * block + block_size ≤ length space → bytes_in (with_images 0 images space) (block_size * block) block_size ≡ image
image_is images space block image blocks is within = image_there 0 images space block block image (omega arith) blocks is within

pub image_flat : (images : List (Option (List ℕ))) (space : List ℕ) (block : ℕ) (image : List ℕ) → AreBlocks images → get_or images block None ≡ Some image
    → with_images 0 (set images block None) (overwritten space (block_size * block) image) ≡ with_images 0 images space
image_flat images space block image blocks is = flattened 0 images space block block image (omega arith) blocks is

pub image_kept : (was images before : List (Option (List ℕ))) (space : List ℕ) (block : ℕ) (image : List ℕ) → ((i : ℕ) → get_or images i None ≡ get_or was i None) → block < length images → was ≡ before → AreBlocks before → length image ≡ block_size
    → with_images 0 (set images block (Some image)) space ≡ overwritten (with_images 0 before space) (block_size * block) image
image_kept was images before space block image same lt is blocks long =
    let stood : (i : ℕ) → get_or images i None ≡ get_or before i None = λ i. same i ∙ ap (λ (l : List (Option (List ℕ))). get_or l i None) is in
    image_put 0 images space block block image (omega arith) lt (λ i image there. blocks i image (sym (stood i) ∙ there)) long
    ∙ ap (λ (l : List ℕ). overwritten l (block_size * block) image) (same_images 0 images before space stood)

-- a part of an image
pub part_is : (space image : List ℕ) (block from start count : ℕ) → start ≡ block_size * block + from → from + count ≤ block_size → length image ≡ block_size
    → bytes_in space (block_size * block) block_size ≡ image → padded count (take count (drop from image)) ≡ bytes_in space start count
part_is space image block from start count at within long is =
    let whole : from + (block_size - from) ≡ block_size = omega (arith, within) in
    let fits : count ≤ block_size - from = omega (arith, within) in
    let size : length (take count (drop from image)) ≡ count = length-take-le count (drop from image) (omega (arith, length-drop from image, long, within)) in
    let none : count - length (take count (drop from image)) ≡ 0 = omega (arith, size) in
    ap (λ (n : ℕ). take count (drop from image) ++ replicate n 0) none
    ∙ append-nil (take count (drop from image))
    ∙ ap (λ (l : List ℕ). take count (drop from l)) (sym is)
    ∙ ap (λ (n : ℕ). take count (drop from (take n (drop (block_size * block) space)))) (sym whole)
    ∙ ap (λ (l : List ℕ). take count l) (drop-take from (block_size - from) (drop (block_size * block) space))
    ∙ take-take count (block_size - from) (drop from (drop (block_size * block) space)) fits
    ∙ ap (λ (l : List ℕ). take count l) (drop-drop from (block_size * block) space ∙ ap (λ (n : ℕ). drop n space) (sym at))

-- an image goes, or comes
pub blocks_set : (images : List (Option (List ℕ))) (block : ℕ) (image : Option (List ℕ)) → AreBlocks images → ((bytes : List ℕ) → image ≡ Some bytes → length bytes ≡ block_size) → AreBlocks (set images block image)
blocks_set [] block image blocks long at bytes is = blocks at bytes is
blocks_set (x ∷ images) zero image blocks long zero bytes is = long bytes is
blocks_set (x ∷ images) zero image blocks long (suc at) bytes is = blocks (suc at) bytes is
blocks_set (x ∷ images) (suc block) image blocks long zero bytes is = blocks zero bytes is
blocks_set (x ∷ images) (suc block) image blocks long (suc at) bytes is = blocks_set images block image (λ i bytes is. blocks (suc i) bytes is) long at bytes is

-- a part of the image that the range begins in
pub piece_is : (images : List (Option (List ℕ))) (flat space image : List ℕ) (block from start count size : ℕ) → with_images 0 images flat ≡ space → AreBlocks images → get_or images block None ≡ Some image
    → start ≡ block_size * block + from → from + count ≤ block_size → start + count ≤ length flat → length flat ≡ block_size * size
    → padded count (take count (drop from image)) ≡ bytes_in space start count
piece_is images flat space image block from start zero size is blocks there at fits within long = refl
piece_is images flat space image block from start (suc n) size is blocks there at fits within long =
    part_is space image block from start (suc n) at fits (blocks block image there)
    (sym (ap (λ (l : List ℕ). bytes_in l (block_size * block) block_size) is) ∙ image_is images flat block image blocks there (omega (arith, at, within, long)))

-- how long the space is
pub space_long : (images : List (Option (List ℕ))) (kept space : List ℕ) (size : ℕ) → with_images 0 images (padded size kept) ≡ space → length kept ≤ size → length space ≡ size
space_long images kept space size is short = sym (ap (λ (l : List ℕ). length l) is) ∙ images_long 0 images (padded size kept) ∙ padded_long kept size short
