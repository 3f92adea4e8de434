-- What a transaction has read and is to write.
use Rattle.std.specs.Prelude.{◌≡◌, ℕ, Bool, false, ◌&&◌, nat_eq, List, [], ◌∷◌, Option, Some}
use Rattle.std.specs.Prelude.{None, ⊤, if◌then◌else◌}
use Rattle.std.specs.List.{AllByRecursion}
use Rattle.mn_base.specs.declared.ids.NodeNo.{NodeNo}
use Rattle.mn_txn.specs.declared.image.Image.{Image}

-- over so many nodes: the pages that were read dirty, the read set, and the writes, each in the
-- order in which its places came in
pub record State : Type 0 where
  pub nodes : ℕ
  pub dirty : List Image
  pub reads : List Image
  pub writes : List Image

abbrev pub image : NodeNo → ℕ → List ℕ → Image
image node start bytes = record { node = node; start = start; bytes = bytes }

-- the image stands at the place
abbrev pub is_at : NodeNo → ℕ → Image → Bool
is_at node start i = nat_eq node.0 i.node.0 && nat_eq start i.start

-- with the bytes of this image: at its place where one stands there, and else last
abbrev pub joined : List Image → Image → List Image
joined [] i = i ∷ []
joined (x ∷ xs) i =
    if is_at i.node i.start x then image x.node x.start i.bytes ∷ xs else x ∷ joined xs i

-- the bytes at a place, if an image stands there
abbrev pub bytes_at : NodeNo → ℕ → List Image → Option (List ℕ)
bytes_at node start [] = None
bytes_at node start (x ∷ xs) = if is_at node start x then Some x.bytes else bytes_at node start xs

-- no two stand at one place
abbrev pub ImagesAreApart : List Image → Type 0
ImagesAreApart [] = ⊤
ImagesAreApart (x ∷ xs) =
    AllByRecursion (λ y. is_at x.node x.start y ≡ false) xs × ImagesAreApart xs
