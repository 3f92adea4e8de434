-- A range, piece by piece.
use Rattle.std.proofs.Common.{◌≡◌, ◌≤◌, ◌+◌, ◌-◌, ℕ, zero, suc, Bool, true, false, ◌&&◌, nat_eq, List, [], ◌∷◌, ◌++◌, length, take, drop, replicate, refl, sym, ap, ◌∙◌, arith}
use Rattle.std.specs.Prelude.{bytes_eq}
use Rattle.std.proofs.lemmas.List.{append_assoc, drop-drop, length-append, length-drop, length-take-le, take-append-drop, take_all}
use Rattle.mn_mini.specs.Flat.{bytes_in}
use Rattle.mn_page.specs.Grammar.{padded}

take_sum : (a b : ℕ) (l : List ℕ) → take (a + b) l ≡ take a l ++ take b (drop a l)
take_sum zero b l = let on : zero + b ≡ b = omega arith in ap (λ (n : ℕ). take n l) on
take_sum (suc a) b [] = take_all (suc a + b) [] (omega arith) ∙ sym (take_all b [] (omega arith))
take_sum (suc a) b (x ∷ l) = let on : suc a + b ≡ suc (a + b) = omega arith in ap (λ (n : ℕ). take n (x ∷ l)) on ∙ ap (λ (m : List ℕ). x ∷ m) (take_sum a b l)

-- two pieces that meet
joined : (space : List ℕ) (start a b : ℕ) → bytes_in space start (a + b) ≡ bytes_in space start a ++ bytes_in space (start + a) b
joined space start a b = take_sum a b (drop start space) ∙ ap (λ (l : List ℕ). take a (drop start space) ++ take b l) (drop-drop a start space)

bytes_long : (space : List ℕ) (start count : ℕ) → start + count ≤ length space → length (bytes_in space start count) ≡ count
bytes_long space start count within = length-take-le count (drop start space) (omega (arith, length-drop start space, within))

-- a piece is put behind those before it
pub piece_copied : (copy kept space : List ℕ) (start at count long : ℕ) → copy ≡ bytes_in space start at → padded count kept ≡ bytes_in space (start + at) count → length kept ≤ count → start + (at + count) ≤ length space → long ≡ length (copy ++ kept)
    → take (at + count) (copy ++ kept) ++ replicate (at + count - long) 0 ≡ bytes_in space start (at + count)
piece_copied copy kept space start at count long is there short within sum =
    let size : length copy ≡ at = ap (λ (l : List ℕ). length l) is ∙ bytes_long space start at (omega (arith, within)) in
    let both = length-append copy kept in
    let left : at + count - long ≡ count - length kept = omega (arith, sum, both, size, short) in
    ap (λ (l : List ℕ). l ++ replicate (at + count - long) 0) (take_all (at + count) (copy ++ kept) (omega (arith, both, size, short)))
    ∙ ap (λ (n : ℕ). (copy ++ kept) ++ replicate n 0) left
    ∙ append_assoc copy kept (replicate (count - length kept) 0)
    ∙ ap (λ (l : List ℕ). copy ++ l) there
    ∙ ap (λ (l : List ℕ). l ++ bytes_in space (start + at) count) is
    ∙ sym (joined space start at count)

further : (a b c d : Bool) → (b && c) ≡ d → ((a && b) && c) ≡ (a && d)
further true b c d e = e
further false b c d e = refl

equal_parts : (xs ys us vs : List ℕ) → length xs ≡ length us → bytes_eq (xs ++ ys) (us ++ vs) ≡ (bytes_eq xs us && bytes_eq ys vs)
equal_parts [] ys [] vs long = refl
equal_parts [] ys (u ∷ us) vs long = absurd (omega (arith, long))
equal_parts (x ∷ xs) ys [] vs long = absurd (omega (arith, long))
equal_parts (x ∷ xs) ys (u ∷ us) vs long = sym (further (nat_eq x u) (bytes_eq xs us) (bytes_eq ys vs) (bytes_eq (xs ++ ys) (us ++ vs)) (sym (equal_parts xs ys us vs (omega (arith, long)))))

-- a piece of the bytes, and their rest
piece_stands : (space bytes : List ℕ) (start count : ℕ) → start + length bytes ≤ length space → count ≤ length bytes
    → bytes_eq (bytes_in space start (length bytes)) bytes
    ≡ (bytes_eq (bytes_in space start count) (take count bytes) && bytes_eq (bytes_in space (start + count) (length (drop count bytes))) (drop count bytes))
piece_stands space bytes start count within fits =
    let sum : length bytes ≡ count + length (drop count bytes) = omega (arith, length-drop count bytes, fits) in
    let long : length (bytes_in space start count) ≡ length (take count bytes) = bytes_long space start count (omega (arith, within, fits)) ∙ sym (length-take-le count bytes fits) in
    ap (λ (n : ℕ). bytes_eq (bytes_in space start n) bytes) sum
    ∙ ap (λ (l : List ℕ). bytes_eq l bytes) (joined space start count (length (drop count bytes)))
    ∙ ap (λ (l : List ℕ). bytes_eq (bytes_in space start count ++ bytes_in space (start + count) (length (drop count bytes))) l) (sym (take-append-drop count bytes))
    ∙ equal_parts (bytes_in space start count) (bytes_in space (start + count) (length (drop count bytes))) (take count bytes) (drop count bytes) long

pub piece_decides : (space bytes kept : List ℕ) (start count : ℕ) (stands : Bool) → start + length bytes ≤ length space → count ≤ length bytes → padded count kept ≡ bytes_in space start count
    → stands ≡ bytes_eq (padded (length (take count bytes)) kept) (take count bytes)
    → bytes_eq (bytes_in space start (length bytes)) bytes ≡ (stands && bytes_eq (bytes_in space (start + count) (length (drop count bytes))) (drop count bytes))
piece_decides space bytes kept start count stands within fits there is =
    let rest = bytes_eq (bytes_in space (start + count) (length (drop count bytes))) (drop count bytes) in
    let held : bytes_eq (bytes_in space start count) (take count bytes) ≡ stands =
    ap (λ (l : List ℕ). bytes_eq l (take count bytes)) (sym there) ∙ ap (λ (n : ℕ). bytes_eq (padded n kept) (take count bytes)) (sym (length-take-le count bytes fits)) ∙ sym is in
    piece_stands space bytes start count within fits ∙ ap (λ (b : Bool). b && rest) held
