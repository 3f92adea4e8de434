-- A page by its parts, and its text.
use Rattle.std.proofs.Common.{◌≡◌, ℕ, zero, suc, ◌+◌, ◌-◌, ◌<◌, ◌≤◌, Bool, true, false, List, [], ◌∷◌, ◌++◌, length, Option, refl, subst, sym, ap, ◌∙◌, arith, append_assoc, length-append, replicate, take}
use Rattle.std.specs.Prelude.{nat_eq, ◌↔◌, cond}
use Rattle.std.specs.List.{flat_map, list_all}
use Rattle.std.proofs.lemmas.Bool.Decides.{nat_tests}
use Rattle.byteorder.specs.Endian.{big_bytes}
use Rattle.mn_base.specs.declared.ids.Addr.{Addr}
use Rattle.mn_base.specs.declared.reply.Pair.{Pair}
use Rattle.mn_page.specs.declared.page.Body.{Body}
use Rattle.mn_page.specs.declared.page.Body.TheVariants.{Leaf, Inner}
use Rattle.mn_page.specs.declared.page.Child.{Child}
use Rattle.mn_page.specs.declared.page.Page.{Page}
use Rattle.mn_page.specs.declared.page_ref.Head.{Head}
use Rattle.mn_page.proofs.Spelled.{big_bytes-inj}
use Rattle.mn_base.specs.declared.ids.VersionNo.{VersionNo}
use Rattle.mn_base.proofs.Booleans.{left_true, right_true}
use Rattle.mn_page.specs.Grammar.{count_in, body_bytes, height_of, kind_of, high_bytes, pair_bytes, page_bytes, padded, IsBody, IsPage, IsFree, SpellsPage}
use Rattle.mn_page.specs.Reading.{IsBodyAt, ArePairsOf, AreChildrenOf, children_text, body_text, head_text, fences_text, page_text, head_of, page_seen, IsHead, AreFences, are_above, eight, kind_at, Begins}
use Rattle.mn_page.proofs.FrontBodies.{is_flat}

-- a body of height 0 is a leaf
pub leaf_parts : (height count : ℕ) (low : List ℕ) (high : Option (List ℕ)) (behind more : List ℕ) (body : Body) → height ≡ 0 → IsBodyAt height low high body → count ≡ count_in body → behind ≡ body_bytes body ++ more
    → (pairs : List Pair) × (body ≡ Leaf pairs) × ArePairsOf low high count pairs × (behind ≡ flat_map pair_bytes pairs ++ more)
leaf_parts height count low high behind more (Leaf pairs) least is e s = let few = is.1 in (pairs, refl, (sym e, omega (arith, e, few.0), few.1, few.2), s)
leaf_parts height count low high behind more (Inner h first rest) least is e s = let at = is.0 in let low = is.1 in absurd (omega (arith, least, at, low.0))

-- a body of another height is an inner page
pub inner_parts : (height count : ℕ) (low : List ℕ) (high : Option (List ℕ)) (behind more : List ℕ) (body : Body) → 1 ≤ height → IsBodyAt height low high body → count + 1 ≡ count_in body → behind ≡ body_bytes body ++ more
    → (children : Addr × List Child) × (body ≡ Inner height children.0 children.1) × AreChildrenOf low high count children × (behind ≡ children_text children ++ more)
inner_parts height count low high behind more (Leaf pairs) up is e s = let at = is.0 in absurd (omega (arith, up, at))
inner_parts height count low high behind more (Inner h first rest) up is e s =
    let b = is.1 in
    let many : length rest ≡ count = omega (arith, e) in
    ((first, rest), ap (λ n. Inner n first rest) (sym is.0), (many, omega (arith, many, b.2), omega (arith, many, b.3), b.4, b.5, b.6), s)

pub leaf_body : (count : ℕ) (low : List ℕ) (high : Option (List ℕ)) (pairs : List Pair) → ArePairsOf low high count pairs → IsBodyAt 0 low high (Leaf pairs)
leaf_body count low high pairs are = let n = are.0 in let few = are.1 in (refl, (omega (arith, n, few), are.2, are.3))

pub inner_body : (height count : ℕ) (low : List ℕ) (high : Option (List ℕ)) (children : Addr × List Child) → 1 ≤ height → height < 65536 → AreChildrenOf low high count children → IsBodyAt height low high (Inner height children.0 children.1)
inner_body height count low high children up top are =
    let n = are.0 in
    let some = are.1 in
    let few = are.2 in
    (refl, (up, top, omega (arith, n, some), omega (arith, n, few), are.3, are.4, are.5))

-- Pages

-- the parts, one behind the other
pub text_parts : (a b c more : List ℕ) → (a ++ (b ++ c)) ++ more ≡ a ++ (b ++ (c ++ more))
text_parts a b c more = append_assoc a (b ++ c) more ∙ ap (λ (l : List ℕ). a ++ l) (append_assoc b c more)

body_height : (low : List ℕ) (high : Option (List ℕ)) (b : Body) → IsBody low high b → height_of b < 65536
body_height low high (Leaf pairs) is = omega arith
body_height low high (Inner height first rest) is = is.1

-- what stands before the fences of a page may stand there
pub page_head : (p : Page) → IsPage p → IsHead (head_of p)
unfolding are_above
page_head p is = record {
  seq = (is.seq_low, is.seq_high);
  height = body_height p.low p.high p.body is.body;
  versions = (is.made, is.copied, is.copied_above);
}

pub page_fences : (p : Page) → IsPage p → AreFences (p.low, p.high)
page_fences p is = ((omega arith, is.low.0, is.low.1), is.high, is.fences)

-- parts that may stand there make a page
pub page_is : (head : Head) (low : List ℕ) (high : Option (List ℕ)) (body : Body) → IsHead head → AreFences (low, high) → IsBodyAt head.height low high body → IsPage (page_seen head low high body)
unfolding are_above
page_is head low high body h f b = record {
  seq_low = h.seq.0;
  seq_high = h.seq.1;
  made = h.versions.0;
  copied = h.versions.1;
  copied_above = h.versions.2;
  low = ((f.0).1, (f.0).2);
  high = f.1;
  fences = f.2;
  body = b.1;
}

same_head : (h g : Head) → h.seq ≡ g.seq → h.height ≡ g.height → h.made ≡ g.made → h.copied ≡ g.copied → h ≡ g
same_head h g e0 e1 e2 e3 =
    ap (λ (x : ℕ). let r : Head = record { seq = x; height = h.height; made = h.made; copied = h.copied } in r) e0
    ∙ (ap (λ (x : ℕ). let r : Head = record { seq = g.seq; height = x; made = h.made; copied = h.copied } in r) e1
    ∙ (ap (λ (x : VersionNo). let r : Head = record { seq = g.seq; height = g.height; made = x; copied = h.copied } in r) e2
    ∙ ap (λ (x : ℕ). let r : Head = record { seq = g.seq; height = g.height; made = g.made; copied = x } in r) e3))

-- they are read one behind the other
pub page_spelled : (head : Head) (low : List ℕ) (high : Option (List ℕ)) (body : Body) (bytes one two rest : List ℕ) → head.height ≡ height_of body → bytes ≡ head_text head ++ one → one ≡ fences_text (low, high) ++ two → two ≡ body_text body ++ rest
    → bytes ≡ page_text (page_seen head low high body) ++ rest
page_spelled head low high body bytes one two rest h e f g =
    let same : head ≡ head_of (page_seen head low high body) = same_head head (head_of (page_seen head low high body)) refl h refl refl in
    e ∙ (ap (λ (l : List ℕ). head_text head ++ l) (f ∙ ap (λ (l : List ℕ). fences_text (low, high) ++ l) g)
    ∙ (sym (text_parts (head_text head) (fences_text (low, high)) (body_text body) rest)
    ∙ ap (λ (x : Head). (head_text x ++ (fences_text (low, high) ++ body_text body)) ++ rest) same))

-- its body may stand behind what is read as its head and its fences
pub page_body_at : (p : Page) (head : Head) (low : List ℕ) (high : Option (List ℕ)) → IsPage p → head ≡ head_of p → low ≡ p.low → high ≡ p.high → IsBodyAt head.height low high p.body
page_body_at p head low high is e0 e1 e2 =
    (ap (λ (h : Head). h.height) e0, subst (λ (l : List ℕ). IsBody l high p.body) (sym e1) (subst (λ (h : Option (List ℕ)). IsBody p.low h p.body) (sym e2) is.body))

-- a page is that of its parts
pub page_back : (head : Head) (low : List ℕ) (high : Option (List ℕ)) (body : Body) (p : Page) → head ≡ head_of p → low ≡ p.low → high ≡ p.high → body ≡ p.body → page_seen head low high body ≡ p
page_back head low high body p e0 e1 e2 e3 =
    ap (λ (x : Head). page_seen x low high body) e0
    ∙ (ap (λ (x : List ℕ). page_seen (head_of p) x high body) e1
    ∙ (ap (λ (x : Option (List ℕ)). page_seen (head_of p) p.low x body) e2
    ∙ ap (λ (x : Body). page_seen (head_of p) p.low p.high x) e3))

-- Zeros

pub zeros_are : (bs : List ℕ) → list_all (λ b. nat_eq b 0) bs ≡ true → bs ≡ replicate (length bs) 0
zeros_are [] h = refl
zeros_are (b ∷ bs) h =
    ap (λ (l : List ℕ). b ∷ l) (zeros_are bs (right_true (nat_eq b 0) (list_all (λ c. nat_eq c 0) bs) h))
    ∙ ap (λ (x : ℕ). x ∷ replicate (length bs) 0) (is_flat b (left_true (nat_eq b 0) (list_all (λ c. nat_eq c 0) bs) h))

pub are_zeros : (n : ℕ) → list_all (λ b. nat_eq b 0) (replicate n 0) ≡ true
are_zeros zero = refl
are_zeros (suc n) = are_zeros n

pub free_zeros : (n : ℕ) (bytes : List ℕ) → length bytes ≡ n → (list_all (λ b. nat_eq b 0) bytes ≡ true) ↔ (bytes ≡ replicate n 0)
free_zeros n bytes e = (λ h. zeros_are bytes h ∙ ap (λ k. replicate k 0) e, λ h. ap (list_all (λ b. nat_eq b 0)) h ∙ are_zeros n)

-- The text with zeros behind it

kinds : (low : List ℕ) (high : Option (List ℕ)) (b : Body) → IsBody low high b → kind_of b ≡ kind_at (height_of b)
kinds low high (Leaf pairs) is = refl
kinds low high (Inner height first rest) is = ap (λ (t : Bool). cond t 1 2) (sym (not_zero height is.0))
  where
    not_zero : (n : ℕ) → 1 ≤ n → nat_eq n 0 ≡ false
    not_zero n h = grind (arith, nat_tests)

-- the fields as they are listed, with the kind and what stands behind the low fence's length left
-- open
abbrev cells : Page → ℕ → List ℕ → List ℕ
cells p kind behind = big_bytes 8 p.seq ++ (kind ∷ (big_bytes 2 (height_of p.body) ++ (p.made.0 ∷ (big_bytes 8 p.copied ++ (length p.low ∷ behind)))))

abbrev listed : Page → List ℕ
listed p = cells p (kind_of p.body) (((p.low ++ high_bytes p.high) ++ count_in p.body ∷ []) ++ body_bytes p.body)

listed_text : (p : Page) → IsPage p → listed p ≡ page_text p
unfolding eight
listed_text p is =
    ap (λ (k : ℕ). cells p k (((p.low ++ high_bytes p.high) ++ count_in p.body ∷ []) ++ body_bytes p.body)) (kinds p.low p.high p.body is.body)
    ∙ ap (λ (l : List ℕ). cells p (kind_at (height_of p.body)) l) (append_assoc (p.low ++ high_bytes p.high) (count_in p.body ∷ []) (body_bytes p.body))

pub page_padded : (p : Page) → IsPage p → page_bytes p ≡ page_text p ++ replicate (1024 - length (page_text p)) 0
page_padded p is = ap (λ (l : List ℕ). padded 1024 l) (listed_text p is)

pub filled : (n : ℕ) (bytes text rest : List ℕ) → bytes ≡ text ++ rest → length bytes ≡ n → length rest ≡ n - length text
filled n bytes text rest e l = let both = ap (λ (x : List ℕ). length x) e ∙ length-append text rest in omega (arith, both, l)

-- a page and zeros behind it, to the end of the slot
pub whole_found : (bytes rest : List ℕ) (p : Page) → length bytes ≡ 1024 → Begins IsPage page_text bytes p rest → list_all (λ b. nat_eq b 0) rest ≡ true → SpellsPage bytes p
whole_found bytes rest p l b z =
    (b.may, b.spelled ∙ (ap (λ (x : List ℕ). page_text p ++ x) (zeros_are rest z ∙ ap (λ n. replicate n 0) (filled 1024 bytes (page_text p) rest b.spelled l)) ∙ sym (page_padded p b.may)))

pub whole_front : (bytes : List ℕ) (p : Page) → SpellsPage bytes p → bytes ≡ page_text p ++ replicate (1024 - length (page_text p)) 0
whole_front bytes p s = s.1 ∙ page_padded p s.0

-- a free slot is no page: its sequence number would be 0
pub free_no_page : (bytes : List ℕ) (p : Page) → IsFree bytes → SpellsPage bytes p → ⊥
free_no_page bytes p free s =
    let seqs : big_bytes 8 p.seq ≡ big_bytes 8 0 = ap (take 8) (sym s.1 ∙ free) in
    let is = s.0 in
    let high = is.seq_high in
    let low = is.seq_low in
    let none : p.seq ≡ 0 = big_bytes-inj 8 p.seq 0 (omega (arith, high)) (omega arith) seqs in
    omega (arith, none, low)
