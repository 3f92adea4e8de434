-- What each moment of writing a header leaves.
use Rattle.std.proofs.Common.{◌≡◌, inl, inr, ℕ, ◌-◌, List, [], ◌∷◌, ◌++◌, length, take, drop, get_or, replicate, refl, sym, ◌∙◌, ap, subst, arith, length-take}
use Rattle.std.proofs.lemmas.Bool.{cases_eq}
use Rattle.mn_io.specs.DiskModel.{Torn, Cut, written_at}
use Rattle.mn_redo.specs.Grammar.{header, IsFresh, IsLead, IsLogAt, Stands}
use Rattle.mn_redo.proofs.Pieces.{torn_gate}

head_is : (x : ℕ) (xs : List ℕ) (y : ℕ) (ys : List ℕ) → x ∷ xs ≡ y ∷ ys → x ≡ y
head_is x xs y ys e = ap (λ (l : List ℕ). get_or l 0 0) e

-- the front of a fresh content is fresh
pub cut_fresh : (content c : List ℕ) → IsFresh content → Cut 0 content c → IsFresh c
cut_fresh content [] fresh cut = inl (omega arith)
cut_fresh [] (y ∷ c) fresh cut = absurd (omega (arith, ap length cut.front))
cut_fresh (x ∷ content) (y ∷ c) (inl short) cut = inl (omega (arith, short, ap length cut.front, length-take (length (y ∷ c)) (x ∷ content)))
cut_fresh (x ∷ content) (y ∷ c) (inr other) cut = inr (λ one. other (head_is x _ y c cut.front ∙ one))

first_zero : (n : ℕ) (c : List ℕ) → Torn 1 n (0 ∷ []) c → IsFresh c
first_zero n [] torn = inl (omega arith)
first_zero n (y ∷ c) torn = let zero_first : y ≡ 0 = head_is y [] 0 [] torn.before in inr (λ one. absurd (omega (arith, zero_first, one)))

pub first_zero_of : (n : ℕ) (content c : List ℕ) → content ≡ 0 ∷ [] → Torn 1 n content c → IsFresh c
first_zero_of n content c is torn = first_zero n c (subst (λ (l : List ℕ). Torn 1 n l c) is torn)

pub one_byte : (c : List ℕ) → Torn 0 1 [] c → IsFresh c
one_byte c torn = inl (omega (arith, torn.no_longer))

-- bytes 1 to 80
abbrev pub behind : ℕ → ℕ → List ℕ
behind node nodes = 77 ∷ 78 ∷ 76 ∷ 79 ∷ 71 ∷ 2 ∷ node ∷ nodes ∷ replicate 72 0

pub behind_is : (node nodes : ℕ) (bytes : List ℕ) → bytes ≡ header node nodes ++ replicate 65 0 → take (length bytes - 1) (drop 1 bytes) ≡ behind node nodes
behind_is node nodes bytes is = ap (λ (b : List ℕ). take (length b - 1) (drop 1 b)) is

pub with_behind : (node nodes : ℕ) (content new piece : List ℕ) → content ≡ 0 ∷ [] → piece ≡ behind node nodes → new ≡ written_at content 1 piece → new ≡ 0 ∷ behind node nodes
with_behind node nodes content new piece is p done = done ∙ ap (λ (l : List ℕ). written_at l 1 piece) is ∙ ap (λ (l : List ℕ). written_at (0 ∷ []) 1 l) p

-- the header and two closed areas
first_lead : (node nodes : ℕ) → IsLead node nodes (header node nodes ++ replicate 64 0)
first_lead node nodes = record {
  head = refl;
  first = λ one. absurd (omega (arith, one));
  second = λ one. absurd (omega (arith, one));
  long = omega arith;
  begins = refl;
}

no_bodies : (node nodes : ℕ) (c : List ℕ) → c ≡ 1 ∷ behind node nodes → IsLogAt node nodes c 0 80 []
no_bodies node nodes c is = record {
  before = header node nodes ++ replicate 64 0;
  lead = first_lead node nodes;
  log = record { gate = 0; tail = []; closed = omega arith; sizes = tt; bytes = is };
  number_is = refl;
  start_is = refl;
}

pub opened_header : (node nodes : ℕ) (content c : List ℕ) → content ≡ 0 ∷ behind node nodes → Torn 0 1 content c → Stands node nodes c []
opened_header node nodes content c is torn =
    let some = torn_gate [] (behind node nodes) c 0 0 refl (subst (λ (l : List ℕ). Torn 0 1 l c) is torn) in
    elim (cases_eq some.0 1) [
      | inl one ↦ inr (0, (80, no_bodies node nodes c (some.1 ∙ ap (λ (x : ℕ). x ∷ behind node nodes) one)))
      | inr other ↦ inl (inr (λ one. other (sym (ap (λ (l : List ℕ). get_or l 0 0) some.1) ∙ one)), refl)
    ]

pub header_done : (node nodes : ℕ) (content new : List ℕ) → content ≡ 0 ∷ behind node nodes → new ≡ written_at content 0 (1 ∷ []) → IsLogAt node nodes new 0 80 []
header_done node nodes content new is done = no_bodies node nodes new (done ∙ ap (λ (l : List ℕ). written_at l 0 (1 ∷ [])) is)
