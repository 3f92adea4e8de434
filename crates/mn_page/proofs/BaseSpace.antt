-- The base space, put together from its pieces; it is what the base forest lays out.
use Rattle.std.proofs.Common.{◌≡◌, ◌<◌, ℕ, zero, suc, List, [], ◌∷◌, ◌++◌, length, map, replicate, refl, ap, sym, ◌∙◌, append-nil, arith, get_or}
use Rattle.std.specs.List.{flat_map}
use Rattle.byteorder.specs.Endian.{big_bytes}
use Rattle.mn_page.specs.declared.page.Page.{Page}
use Rattle.mn_page.specs.declared.entry.CatEntry.{CatEntry}
use Rattle.mn_page.specs.Grammar.{padded, entry_bytes, page_bytes}
use Rattle.mn_page.specs.Forest.{front_of, main_entry, empty_leaf, base_space, front_laid, laid_of, base_forest}
use Rattle.mn_page.specs.Space.{space_length}
use Rattle.mn_page.specs.Base.{base_catalog, base_count, base_front, base_of, base_slots}

abbrev pub header : ℕ → ℕ → List ℕ
header nodes node = 77 ∷ 73 ∷ 78 ∷ 85 ∷ 69 ∷ 84 ∷ 1 ∷ nodes ∷ node ∷ []

laid : (nodes node count : ℕ) (catalog : List ℕ) → padded 20480 (padded 64 (padded 16 (header nodes node) ++ big_bytes 8 count) ++ padded 4096 catalog) ≡ front_of nodes node count catalog
laid nodes node count catalog = refl

pub front_is : (nodes node count : ℕ) (entries catalog named counted head whole all : List ℕ) → entries ≡ base_catalog → catalog ≡ padded 4096 entries → named ≡ padded 16 (header nodes node)
    → count ≡ base_count node → counted ≡ named ++ big_bytes 8 count → head ≡ padded 64 counted → whole ≡ head ++ catalog → all ≡ padded 20480 whole → all ≡ base_front nodes node
unfolding base_front
front_is nodes node count entries catalog named counted head whole all e f g n h i j k =
    let first : head ≡ padded 64 (padded 16 (header nodes node) ++ big_bytes 8 (base_count node)) =
    i ∙ ap (λ (l : List ℕ). padded 64 l) (h ∙ ap (λ (l : List ℕ). l ++ big_bytes 8 count) g ∙ ap (λ (c : ℕ). padded 16 (header nodes node) ++ big_bytes 8 c) n) in
    let second : catalog ≡ padded 4096 base_catalog = f ∙ ap (λ (l : List ℕ). padded 4096 l) e in
    k ∙ ap (λ (l : List ℕ). padded 20480 l) (j ∙ ap (λ (l : List ℕ). l ++ catalog) first ∙ ap (λ (l : List ℕ). padded 64 (padded 16 (header nodes node) ++ big_bytes 8 (base_count node)) ++ l) second)
    ∙ laid nodes node (base_count node) base_catalog

pub base_is : (nodes node : ℕ) (front slots whole all : List ℕ) → front ≡ base_front nodes node → slots ≡ base_slots node → whole ≡ front ++ slots → all ≡ padded space_length whole → all ≡ base_of nodes node
unfolding base_of
base_is nodes node front slots whole all e f g h =
    h ∙ ap (λ (l : List ℕ). padded space_length l) (g ∙ ap (λ (l : List ℕ). l ++ slots) e ∙ ap (λ (l : List ℕ). base_front nodes node ++ l) f)

-- The spaces of the base forest: each node has its catalog, the first one its page

no_pages : (k n : ℕ) → get_or (replicate k (let none : List Page = [] in none)) n [] ≡ []
no_pages zero n = refl
no_pages (suc k) zero = refl
no_pages (suc k) (suc n) = no_pages k n

no_count : (k n : ℕ) → get_or (map (λ (pages : List Page). length pages) (replicate k (let none : List Page = [] in none))) n 0 ≡ 0
no_count zero n = refl
no_count (suc k) zero = refl
no_count (suc k) (suc n) = no_count k n

same_catalog : (entries : List CatEntry) (k n : ℕ) → n < k → get_or (map (λ (pages : List Page). entries) (replicate k (let none : List Page = [] in none))) n [] ≡ entries
same_catalog entries zero n low = absurd (omega arith)
same_catalog entries (suc k) zero low = refl
same_catalog entries (suc k) (suc n) low = same_catalog entries k n (omega arith)

so_many : (k : ℕ) → length (replicate k (let none : List Page = [] in none)) ≡ k
so_many zero = refl
so_many (suc k) = ap suc (so_many k)

one_entry : flat_map entry_bytes (main_entry ∷ []) ≡ base_catalog
one_entry = append-nil (entry_bytes main_entry)

front_on : (nodes node : ℕ) → node < nodes → front_laid (laid_of (base_forest nodes)) node ≡ front_of nodes node (base_count node) base_catalog
front_on zero node in' = absurd (omega arith)
front_on (suc k) zero in' = ap (λ (n : ℕ). front_of (suc n) 0 1 (flat_map entry_bytes (main_entry ∷ []))) (so_many k) ∙ ap (λ (l : List ℕ). front_of (suc k) 0 1 l) one_entry
front_on (suc k) (suc m) in' =
    let catalog : List CatEntry = get_or (map (λ (pages : List Page). main_entry ∷ []) (replicate k (let none : List Page = [] in none))) m [] in
    let count : ℕ = get_or (map (λ (pages : List Page). length pages) (replicate k (let none : List Page = [] in none))) m 0 in
    ap (λ (n : ℕ). front_of (suc n) (suc m) count (flat_map entry_bytes catalog)) (so_many k)
    ∙ (ap (λ (n : ℕ). front_of (suc k) (suc m) n (flat_map entry_bytes catalog)) (no_count k m)
    ∙ ap (λ (l : List ℕ). front_of (suc k) (suc m) 0 l) (ap (flat_map entry_bytes) (same_catalog (main_entry ∷ []) k m (omega (arith, in'))) ∙ one_entry))

slots_on : (nodes node : ℕ) → node < nodes → flat_map page_bytes (get_or (laid_of (base_forest nodes)).pages node []) ≡ base_slots node
slots_on zero node in' = absurd (omega arith)
slots_on (suc k) zero in' = append-nil (page_bytes empty_leaf)
slots_on (suc k) (suc m) in' = ap (λ (l : List Page). flat_map page_bytes l) (no_pages k m)

-- the base space of a node is the space that the base forest lays out there
pub base_laid : (nodes node : ℕ) → node < nodes → base_of nodes node ≡ base_space nodes node
unfolding base_of base_front
base_laid nodes node in' =
    ap (λ (l : List ℕ). padded space_length (l ++ base_slots node)) (sym (front_on nodes node in'))
    ∙ ap (λ (l : List ℕ). padded space_length (front_laid (laid_of (base_forest nodes)) node ++ l)) (sym (slots_on nodes node in'))

-- kind, height, made version, copied set, fences and count of the empty leaf
abbrev pub leaf_rest : List ℕ
leaf_rest = 1 ∷ 0 ∷ 0 ∷ 0 ∷ 0 ∷ 0 ∷ 0 ∷ 0 ∷ 0 ∷ 0 ∷ 0 ∷ 0 ∷ 0 ∷ 0 ∷ 0 ∷ []

leaf_laid : padded 1024 (big_bytes 8 1 ++ leaf_rest) ≡ page_bytes empty_leaf
leaf_laid = refl

pub leaf_is : (bytes all : List ℕ) → bytes ≡ big_bytes 8 1 ++ leaf_rest → all ≡ padded 1024 bytes → all ≡ page_bytes empty_leaf
leaf_is bytes all e f = f ∙ ap (λ (l : List ℕ). padded 1024 l) e ∙ leaf_laid
