-- A page and an entry have one spelling, of the length of a slot and of an entry's place.
use Rattle.std.proofs.Common.{◌≡◌, ℕ, zero, suc, ◌+◌, ◌-◌, ◌*◌, ◌^◌, ◌<◌, ◌≤◌, Bool, true, false, List, [], ◌∷◌, ◌++◌, length, take, drop, get_or, replicate, Option, Some, None, refl, subst, sym, ap, ◌∙◌, arith}
use Rattle.std.specs.Prelude.{IsTrue}
use Rattle.std.specs.List.{AllByRecursion, flat_map}
use Rattle.std.proofs.lemmas.List.{length-append, length-replicate, append_assoc}
use Rattle.byteorder.specs.Endian.{big_bytes, big_from}
use Rattle.byteorder.specs.Numbers.{big_number-reads_back}
use Rattle.mn_base.specs.declared.ids.Addr.{Addr}
use Rattle.mn_base.specs.declared.ids.NodeNo.{NodeNo}
use Rattle.mn_base.specs.declared.ids.VersionNo.{VersionNo}
use Rattle.mn_base.specs.declared.reply.Pair.{Pair}
use Rattle.mn_base.proofs.Lists.{weaker}
use Rattle.mn_page.specs.declared.page.Page.{Page}
use Rattle.mn_page.specs.declared.page.Body.{Body}
use Rattle.mn_page.specs.declared.page.Body.TheVariants.{Leaf, Inner}
use Rattle.mn_page.specs.declared.page.Child.{Child}
use Rattle.mn_page.specs.declared.entry.CatEntry.{CatEntry}
use Rattle.mn_page.specs.Grammar.{padded, counted, addr_bytes, IsValue, high_bytes, pair_bytes, child_bytes, kind_of, height_of, count_in, body_bytes, page_bytes, IsKey, IsBound, IsAddr, IsBody, IsPage, state_byte, parent_byte, entry_bytes, IsParent, IsEntry}

-- Padding

refill : (a n : ℕ) → a ≤ n → a + (n - a) ≡ n
refill a n h = omega arith

pub length-padded : (n : ℕ) (bytes : List ℕ) → length bytes ≤ n → length (padded n bytes) ≡ n
length-padded n bytes fits = length-append bytes (replicate (n - length bytes) 0) ∙ (ap (λ k. length bytes + k) (length-replicate (n - length bytes) 0) ∙ refill (length bytes) n fits)

-- Numbers

pub big_bytes-inj : (n x y : ℕ) → x < 256 ^ n → y < 256 ^ n → big_bytes n x ≡ big_bytes n y → x ≡ y
big_bytes-inj n x y p q e = sym (big_number-reads_back n x [] p) ∙ (ap (λ (l : List ℕ). big_from 0 n (l ++ [])) e ∙ big_number-reads_back n y [] q)

-- Cutting

pub cut : {X : Type 0} (a b c d : List X) → length a ≡ length b → a ++ c ≡ b ++ d → (a ≡ b) × (c ≡ d)
cut [] [] c d l e = (refl, e)
cut [] (y ∷ b) c d l e = absurd (omega arith)
cut (x ∷ a) [] c d l e = absurd (omega arith)
cut {X} (x ∷ a) (y ∷ b) c d l e =
    let heads : x ≡ y = cc in
    let tails : a ++ c ≡ b ++ d = cc in
    let rest = cut a b c d (omega arith) tails in (let r = rest.0 in cc, rest.1)

pub counted_cut : (a b : List ℕ) (c d : List ℕ) → counted a ++ c ≡ counted b ++ d → (a ≡ b) × (c ≡ d)
counted_cut a b c d e = let l : length a ≡ length b = cc in let t : a ++ c ≡ b ++ d = cc in cut a b c d l t

zero_one : zero ≡ suc zero → ⊥
zero_one e = absurd (omega arith)

pub high_cut : (a b : Option (List ℕ)) (c d : List ℕ) → high_bytes a ++ c ≡ high_bytes b ++ d → (a ≡ b) × (c ≡ d)
high_cut None None c d e = (refl, cc)
high_cut None (Some y) c d e = absurd (zero_one (ap (λ (x : List ℕ). get_or x 0 0) e))
high_cut (Some x) None c d e = absurd (zero_one (sym (ap (λ (x : List ℕ). get_or x 0 0) e)))
high_cut (Some x) (Some y) c d e = let t : counted x ++ c ≡ counted y ++ d = cc in let r = counted_cut x y c d t in (ap Some r.0, r.1)

pair_cut : (p q : Pair) (c d : List ℕ) → pair_bytes p ++ c ≡ pair_bytes q ++ d → (p ≡ q) × (c ≡ d)
pair_cut p q c d e =
    let f : counted p.key ++ (counted p.value ++ c) ≡ counted q.key ++ (counted q.value ++ d) = sym (append_assoc (counted p.key) (counted p.value) c) ∙ (e ∙ append_assoc (counted q.key) (counted q.value) d) in
    let k = counted_cut p.key q.key (counted p.value ++ c) (counted q.value ++ d) f in
    let v = counted_cut p.value q.value c d k.1 in
    (ap (λ (x : List ℕ). let r : Pair = record { key = x; value = p.value } in r) k.0 ∙ ap (λ (x : List ℕ). let r : Pair = record { key = q.key; value = x } in r) v.0, v.1)

pairs_cut : (ps qs : List Pair) (c d : List ℕ) → length ps ≡ length qs → flat_map pair_bytes ps ++ c ≡ flat_map pair_bytes qs ++ d → ps ≡ qs
pairs_cut [] [] c d l e = refl
pairs_cut [] (q ∷ qs) c d l e = absurd (omega arith)
pairs_cut (p ∷ ps) [] c d l e = absurd (omega arith)
pairs_cut (p ∷ ps) (q ∷ qs) c d l e =
    let f : pair_bytes p ++ (flat_map pair_bytes ps ++ c) ≡ pair_bytes q ++ (flat_map pair_bytes qs ++ d) = sym (append_assoc (pair_bytes p) (flat_map pair_bytes ps) c) ∙ (e ∙ append_assoc (pair_bytes q) (flat_map pair_bytes qs) d) in
    let r = pair_cut p q (flat_map pair_bytes ps ++ c) (flat_map pair_bytes qs ++ d) f in
    let first = r.0 in
    let rest = pairs_cut ps qs c d (omega arith) r.1 in cc

pub same_addr : (a b : Addr) → a.node.0 ≡ b.node.0 → a.slot ≡ b.slot → a ≡ b
same_addr a b e f =
    let nodes : a.node ≡ b.node = ap (λ k. let n : NodeNo = record { 0 = k } in n) e in
    ap (λ (n : NodeNo). let r : Addr = record { node = n; slot = a.slot } in r) nodes ∙ ap (λ s. let r : Addr = record { node = b.node; slot = s } in r) f

pub addr_cut : (a b : Addr) (c d : List ℕ) → IsAddr a → IsAddr b → addr_bytes a ++ c ≡ addr_bytes b ++ d → (a ≡ b) × (c ≡ d)
addr_cut a b c d is iq e =
    let nodes : a.node.0 ≡ b.node.0 = ap (λ (l : List ℕ). get_or l 0 0) e in
    let slots : big_bytes 2 a.slot ≡ big_bytes 2 b.slot = ap (λ (l : List ℕ). take 2 (drop 1 l)) e in
    let one = is.1 in
    let two = iq.1 in
    let slot : a.slot ≡ b.slot = big_bytes-inj 2 a.slot b.slot (omega arith) (omega arith) slots in
    (same_addr a b nodes slot, ap (drop 3) e)

child_cut : (a b : Child) (c d : List ℕ) → IsAddr a.addr → IsAddr b.addr → child_bytes a ++ c ≡ child_bytes b ++ d → (a ≡ b) × (c ≡ d)
child_cut a b c d is iq e =
    let f : counted a.separator ++ (addr_bytes a.addr ++ c) ≡ counted b.separator ++ (addr_bytes b.addr ++ d) = sym (append_assoc (counted a.separator) (addr_bytes a.addr) c) ∙ (e ∙ append_assoc (counted b.separator) (addr_bytes b.addr) d) in
    let k = counted_cut a.separator b.separator (addr_bytes a.addr ++ c) (addr_bytes b.addr ++ d) f in
    let v = addr_cut a.addr b.addr c d is iq k.1 in
    (ap (λ (x : List ℕ). let r : Child = record { separator = x; addr = a.addr } in r) k.0 ∙ ap (λ (x : Addr). let r : Child = record { separator = b.separator; addr = x } in r) v.0, v.1)

children_cut : (ps qs : List Child) (c d : List ℕ) → AllByRecursion (λ x. IsAddr x.addr) ps → AllByRecursion (λ x. IsAddr x.addr) qs → length ps ≡ length qs
    → flat_map child_bytes ps ++ c ≡ flat_map child_bytes qs ++ d → ps ≡ qs
children_cut [] [] c d is iq l e = refl
children_cut [] (q ∷ qs) c d is iq l e = absurd (omega arith)
children_cut (p ∷ ps) [] c d is iq l e = absurd (omega arith)
children_cut (p ∷ ps) (q ∷ qs) c d is iq l e =
    let f : child_bytes p ++ (flat_map child_bytes ps ++ c) ≡ child_bytes q ++ (flat_map child_bytes qs ++ d) = sym (append_assoc (child_bytes p) (flat_map child_bytes ps) c) ∙ (e ∙ append_assoc (child_bytes q) (flat_map child_bytes qs) d) in
    let r = child_cut p q (flat_map child_bytes ps ++ c) (flat_map child_bytes qs ++ d) is.0 iq.0 f in
    let first = r.0 in
    let rest = children_cut ps qs c d is.1 iq.1 (omega arith) r.1 in cc

child_addrs : (low : List ℕ) (high : Option (List ℕ)) (height : ℕ) (first : Addr) (rest : List Child) → IsBody low high (Inner height first rest) → AllByRecursion (λ x. IsAddr x.addr) rest
child_addrs low high height first rest body = weaker _ (λ (x : Child). IsAddr x.addr) (λ x is. is.1) rest body.6

body_cut : (low low' : List ℕ) (high high' : Option (List ℕ)) (a b : Body) (c d : List ℕ) → IsBody low high a → IsBody low' high' b → kind_of a ≡ kind_of b → big_bytes 2 (height_of a) ≡ big_bytes 2 (height_of b) → count_in a ≡ count_in b
    → body_bytes a ++ c ≡ body_bytes b ++ d → a ≡ b
body_cut low low' high high' (Leaf ps) (Leaf qs) c d is iq kind height count e = ap Leaf (pairs_cut ps qs c d count e)
body_cut low low' high high' (Leaf ps) (Inner h first rest) c d is iq kind height count e = absurd (omega arith)
body_cut low low' high high' (Inner h first rest) (Leaf qs) c d is iq kind height count e = absurd (omega arith)
body_cut low low' high high' (Inner h first rest) (Inner k other more) c d is iq kind height count e =
    let hp = is.1 in
    let hq = iq.1 in
    let heights : h ≡ k = big_bytes-inj 2 h k (omega arith) (omega arith) height in
    let f : addr_bytes first ++ (flat_map child_bytes rest ++ c) ≡ addr_bytes other ++ (flat_map child_bytes more ++ d) = sym (append_assoc (addr_bytes first) (flat_map child_bytes rest) c) ∙ (e ∙ append_assoc (addr_bytes other) (flat_map child_bytes more) d) in
    let r = addr_cut first other (flat_map child_bytes rest ++ c) (flat_map child_bytes more ++ d) is.4 iq.4 f in
    let firsts = r.0 in
    let rests : rest ≡ more = children_cut rest more c d (child_addrs low high h first rest is) (child_addrs low' high' k other more iq) (omega arith) r.1 in
    cc

-- the bytes before the zeros
abbrev pub page_text : Page → List ℕ
page_text p =
    big_bytes 8 p.seq ++ kind_of p.body ∷ [] ++ big_bytes 2 (height_of p.body) ++ p.made.0 ∷ [] ++ big_bytes 8 p.copied
    ++ counted p.low ++ high_bytes p.high ++ count_in p.body ∷ [] ++ body_bytes p.body

-- the bytes after the low fence's length
abbrev tail_bytes : Page → List ℕ
tail_bytes p = p.low ++ high_bytes p.high ++ count_in p.body ∷ [] ++ body_bytes p.body ++ replicate (1024 - length (page_text p)) 0

tail_split : (a b : List ℕ) (k : ℕ) (c d : List ℕ) → a ++ b ++ k ∷ [] ++ c ++ d ≡ a ++ (b ++ (k ∷ (c ++ d)))
tail_split a b k c d = append_assoc (a ++ b ++ k ∷ []) c d ∙ (append_assoc (a ++ b) (k ∷ []) (c ++ d) ∙ append_assoc a b (k ∷ (c ++ d)))

same_page : (p q : Page) → p.seq ≡ q.seq → p.made ≡ q.made → p.copied ≡ q.copied → p.low ≡ q.low → p.high ≡ q.high → p.body ≡ q.body → p ≡ q
same_page p q e0 e1 e2 e3 e4 e5 =
    ap (λ (x : ℕ). let r : Page = record { seq = x; made = p.made; copied = p.copied; low = p.low; high = p.high; body = p.body } in r) e0
    ∙ (ap (λ (x : VersionNo). let r : Page = record { seq = q.seq; made = x; copied = p.copied; low = p.low; high = p.high; body = p.body } in r) e1
    ∙ (ap (λ (x : ℕ). let r : Page = record { seq = q.seq; made = q.made; copied = x; low = p.low; high = p.high; body = p.body } in r) e2
    ∙ (ap (λ (x : List ℕ). let r : Page = record { seq = q.seq; made = q.made; copied = q.copied; low = x; high = p.high; body = p.body } in r) e3
    ∙ (ap (λ (x : Option (List ℕ)). let r : Page = record { seq = q.seq; made = q.made; copied = q.copied; low = q.low; high = x; body = p.body } in r) e4
    ∙ (ap (λ (x : Body). let r : Page = record { seq = q.seq; made = q.made; copied = q.copied; low = q.low; high = q.high; body = x } in r) e5)))))

pub page_spelled_once : (p q : Page) → IsPage p → IsPage q → page_bytes p ≡ page_bytes q → p ≡ q
page_spelled_once p q is iq e =
    let seqs : big_bytes 8 p.seq ≡ big_bytes 8 q.seq = ap (take 8) e in
    let sp = is.seq_high in
    let sq = iq.seq_high in
    let seq : p.seq ≡ q.seq = big_bytes-inj 8 p.seq q.seq (omega arith) (omega arith) seqs in
    let kind : kind_of p.body ≡ kind_of q.body = ap (λ (l : List ℕ). get_or l 8 0) e in
    let height : big_bytes 2 (height_of p.body) ≡ big_bytes 2 (height_of q.body) = ap (λ (l : List ℕ). take 2 (drop 9 l)) e in
    let made : p.made.0 ≡ q.made.0 = ap (λ (l : List ℕ). get_or l 11 0) e in
    let copies : big_bytes 8 p.copied ≡ big_bytes 8 q.copied = ap (λ (l : List ℕ). take 8 (drop 12 l)) e in
    let cp = is.copied in
    let cq = iq.copied in
    let copied : p.copied ≡ q.copied = big_bytes-inj 8 p.copied q.copied (omega arith) (omega arith) copies in
    let lows : length p.low ≡ length q.low = ap (λ (l : List ℕ). get_or l 20 0) e in
    let tails : tail_bytes p ≡ tail_bytes q = ap (drop 21) e in
    let zp = replicate (1024 - length (page_text p)) 0 in
    let zq = replicate (1024 - length (page_text q)) 0 in
    let t : p.low ++ (high_bytes p.high ++ (count_in p.body ∷ (body_bytes p.body ++ zp))) ≡ q.low ++ (high_bytes q.high ++ (count_in q.body ∷ (body_bytes q.body ++ zq))) =
    sym (tail_split p.low (high_bytes p.high) (count_in p.body) (body_bytes p.body) zp) ∙ (tails ∙ tail_split q.low (high_bytes q.high) (count_in q.body) (body_bytes q.body) zq) in
    let l = cut p.low q.low _ _ lows t in
    let low = l.0 in
    let h = high_cut p.high q.high _ _ l.1 in
    let high = h.0 in
    let count : count_in p.body ≡ count_in q.body = ap (λ (x : List ℕ). get_or x 0 0) h.1 in
    let rest : body_bytes p.body ++ zp ≡ body_bytes q.body ++ zq = ap (drop 1) h.1 in
    let body : p.body ≡ q.body = body_cut p.low q.low p.high q.high p.body q.body zp zq is.body iq.body kind height count rest in
    let maker : p.made ≡ q.made = ap (λ k. let v : VersionNo = record { 0 = k } in v) made in
    same_page p q seq maker copied low high body

-- Lengths

pub text_parts : (a b : List ℕ) (k : ℕ) (c : List ℕ) → length (a ++ b ++ k ∷ [] ++ c) ≡ length a + length b + 1 + length c
text_parts a b k c =
    length-append (a ++ b ++ k ∷ []) c ∙ ap (λ n. n + length c) (length-append (a ++ b) (k ∷ []) ∙ ap (λ n. n + 1) (length-append a b))

pub high_length : (h : Option (List ℕ)) → IsBound h → length (high_bytes h) ≤ 34
high_length None is = omega arith
high_length (Some key) is = let low = is.1 in omega arith

pair_length : (p : Pair) → IsKey p.key → IsValue p.value → length (pair_bytes p) ≤ 98
pair_length p k v =
    let both : length (pair_bytes p) ≡ length (counted p.key) + length (counted p.value) = length-append (counted p.key) (counted p.value) in
    let one = k.1 in
    let two = v.0 in subst (λ n. n ≤ 98) (sym both) (omega arith)

pairs_length : (low : List ℕ) (high : Option (List ℕ)) (ps : List Pair) → AllByRecursion (λ p. IsKey p.key × IsValue p.value × IsTrue (Rattle.mn_base.specs.Order.covers_key low high p.key)) ps → length (flat_map pair_bytes ps) ≤ 98 * length ps
pairs_length low high [] all = omega arith
pairs_length low high (p ∷ ps) all =
    let one = pair_length p (all.0).0 (all.0).1 in
    let rest = pairs_length low high ps all.1 in
    subst (λ n. n ≤ 98 * suc (length ps)) (sym (length-append (pair_bytes p) (flat_map pair_bytes ps))) (omega arith)

children_length : (P : Child → Type 0) (cs : List Child) → ((c : Child) → P c → IsKey c.separator) → AllByRecursion P cs → length (flat_map child_bytes cs) ≤ 36 * length cs
children_length P [] keyed all = omega arith
children_length P (c ∷ cs) keyed all =
    let k = (keyed c all.0).1 in
    let rest = children_length P cs keyed all.1 in
    let one : length (child_bytes c) ≡ length (counted c.separator) + 3 = length-append (counted c.separator) (addr_bytes c.addr) in
    subst (λ n. n ≤ 36 * suc (length cs)) (sym (length-append (child_bytes c) (flat_map child_bytes cs))) (omega arith)

body_length : (low : List ℕ) (high : Option (List ℕ)) (b : Body) → IsBody low high b → length (body_bytes b) ≤ 784
body_length low high (Leaf ps) is = let few = is.0 in let all = pairs_length low high ps is.2 in omega arith
body_length low high (Inner height first rest) is =
    let few = is.3 in
    let all = children_length _ rest (λ c k. k.0) is.6 in
    subst (λ n. n ≤ 784) (sym (length-append (addr_bytes first) (flat_map child_bytes rest))) (omega arith)

pub page_length : (p : Page) → IsPage p → length (page_bytes p) ≡ 1024
page_length p is =
    let low = is.low.0 in
    let high = high_length p.high is.high in
    let body = body_length p.low p.high p.body is.body in
    let parts = text_parts p.low (high_bytes p.high) (count_in p.body) (body_bytes p.body) in
    length-padded 1024 (page_text p) (fits (length (p.low ++ high_bytes p.high ++ count_in p.body ∷ [] ++ body_bytes p.body)) (subst (λ n. n ≤ 851) (sym parts) (omega arith)))
  where
    fits : (n : ℕ) → n ≤ 851 → suc (suc (suc (suc (suc (suc (suc (suc (suc (suc (suc (suc (suc (suc (suc (suc (suc (suc (suc (suc (suc n)))))))))))))))))))) ≤ 1024
    fits n h = omega arith

-- Entries

abbrev pub entry_text : CatEntry → List ℕ
entry_text e = big_bytes 8 e.seq ++ state_byte e.frozen ∷ [] ++ parent_byte e.parent ∷ [] ++ addr_bytes e.root ++ counted e.name

pub entry_length : (e : CatEntry) → IsEntry e → length (entry_bytes e) ≡ 64
entry_length e is = let low = is.name.1 in length-padded 64 (entry_text e) (omega arith)

same_state : (a b : Bool) → state_byte a ≡ state_byte b → a ≡ b
same_state true true e = refl
same_state true false e = absurd (omega arith)
same_state false true e = absurd (omega arith)
same_state false false e = refl

same_parent : (a b : Option VersionNo) → IsParent a → IsParent b → parent_byte a ≡ parent_byte b → a ≡ b
same_parent None None is iq e = refl
same_parent None (Some v) is iq e = absurd (omega arith)
same_parent (Some v) None is iq e = absurd (omega arith)
same_parent (Some v) (Some w) is iq e = ap (λ k. let x : VersionNo = record { 0 = k } in Some x) e

pub same_catentry : (p q : CatEntry) → p.seq ≡ q.seq → p.frozen ≡ q.frozen → p.parent ≡ q.parent → p.root ≡ q.root → p.name ≡ q.name → p ≡ q
same_catentry p q e0 e1 e2 e3 e4 =
    ap (λ (x : ℕ). let r : CatEntry = record { seq = x; frozen = p.frozen; parent = p.parent; root = p.root; name = p.name } in r) e0
    ∙ (ap (λ (x : Bool). let r : CatEntry = record { seq = q.seq; frozen = x; parent = p.parent; root = p.root; name = p.name } in r) e1
    ∙ (ap (λ (x : Option VersionNo). let r : CatEntry = record { seq = q.seq; frozen = q.frozen; parent = x; root = p.root; name = p.name } in r) e2
    ∙ (ap (λ (x : Addr). let r : CatEntry = record { seq = q.seq; frozen = q.frozen; parent = q.parent; root = x; name = p.name } in r) e3
    ∙ (ap (λ (x : List ℕ). let r : CatEntry = record { seq = q.seq; frozen = q.frozen; parent = q.parent; root = q.root; name = x } in r) e4))))

pub entry_spelled_once : (p q : CatEntry) → IsEntry p → IsEntry q → entry_bytes p ≡ entry_bytes q → p ≡ q
entry_spelled_once p q is iq e =
    let seqs : big_bytes 8 p.seq ≡ big_bytes 8 q.seq = ap (take 8) e in
    let sp = is.seq_high in
    let sq = iq.seq_high in
    let seq : p.seq ≡ q.seq = big_bytes-inj 8 p.seq q.seq (omega arith) (omega arith) seqs in
    let frozen : p.frozen ≡ q.frozen = same_state p.frozen q.frozen (ap (λ (l : List ℕ). get_or l 8 0) e) in
    let parent : p.parent ≡ q.parent = same_parent p.parent q.parent is.parent iq.parent (ap (λ (l : List ℕ). get_or l 9 0) e) in
    let nodes : p.root.node.0 ≡ q.root.node.0 = ap (λ (l : List ℕ). get_or l 10 0) e in
    let slots : big_bytes 2 p.root.slot ≡ big_bytes 2 q.root.slot = ap (λ (l : List ℕ). take 2 (drop 11 l)) e in
    let rp = is.root.1 in
    let rq = iq.root.1 in
    let root : p.root ≡ q.root = same_addr p.root q.root nodes (big_bytes-inj 2 p.root.slot q.root.slot (omega arith) (omega arith) slots) in
    let lengths : length p.name ≡ length q.name = ap (λ (l : List ℕ). get_or l 13 0) e in
    let rests : p.name ++ replicate (64 - length (entry_text p)) 0 ≡ q.name ++ replicate (64 - length (entry_text q)) 0 = ap (drop 14) e in
    let name : p.name ≡ q.name = (cut p.name q.name _ _ lengths rests).0 in
    same_catentry p q seq frozen parent root name
