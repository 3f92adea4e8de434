-- The lines of a report, as loops make them.
use Rattle.std.proofs.Common.{◌≡◌, ℕ, zero, suc, ◌+◌, ◌<◌, ◌≤◌, Bool, List, [], ◌∷◌, ◌++◌, Some, length, map, take, drop, slice_get, slice_index_or, refl, subst, sym, ap, ◌∙◌, arith}
use Rattle.std.specs.Prelude.{IsSomeAnd, flat_map}
use Rattle.std.specs.List.{range_with_len}
use Rattle.std.proofs.lemmas.List.{append_assoc}
use Rattle.mn_base.specs.declared.ids.ClientNo.{ClientNo}
use Rattle.mn_base.specs.declared.reply.Version.{Version}
use Rattle.mn_base.specs.Store.{Store, StoreVersion, heads_of, listed, listing_of}
use Rattle.mn_report.specs.declared.lines.AnswerLine.{AnswerLine}
use Rattle.mn_report.specs.declared.lines.DoubtLine.{DoubtLine}
use Rattle.mn_report.specs.declared.lines.LineAnswer.{LineAnswer}
use Rattle.mn_report.specs.declared.lines.VersionLine.{VersionLine}
use Rattle.mn_script.specs.declared.elements.ScriptClient.{ScriptClient}
use Rattle.mn_hist.specs.Audit.{answer_line_at, answers_from, doubt_at, doubts_from, op_numbers, told_with, version_told, versions_told}
use Rattle.mn_hist.proofs.Joining.{take_whole}
use Rattle.mn_hist.proofs.Loops.{drop_here, map_map, map_more}

-- One more number

range_last : (from n : ℕ) → range_with_len from (suc n) ≡ range_with_len from n ++ (from + n) ∷ []
range_last from zero = ap (λ (m : ℕ). m ∷ []) (none from)
  where
    none : (from : ℕ) → from ≡ from + 0
    none from = omega arith
range_last from (suc n) = ap (λ (l : List ℕ). from ∷ l) (range_last (from + 1) n ∙ ap (λ (m : ℕ). range_with_len (from + 1) n ++ m ∷ []) (further from n))
  where
    further : (from n : ℕ) → from + 1 + n ≡ from + suc n
    further from n = omega arith

next_range : (i : ℕ) → range_with_len 1 (i + 1) ≡ range_with_len 1 i ++ (i + 1) ∷ []
next_range i = ap (range_with_len 1) (sym (plus i)) ∙ (range_last 1 i ∙ ap (λ (m : ℕ). range_with_len 1 i ++ m ∷ []) (turned i))
  where
    plus : (i : ℕ) → suc i ≡ i + 1
    plus i = omega arith

    turned : (i : ℕ) → 1 + i ≡ i + 1
    turned i = omega arith

map_last : {X Y : Type 0} (f : X → Y) (xs : List X) (x : X) → map f (xs ++ x ∷ []) ≡ map f xs ++ f x ∷ []
map_last f [] x = refl
map_last f (y ∷ xs) x = ap (λ l. f y ∷ l) (map_last f xs x)

flat_last : {X Y : Type 0} (f : X → List Y) (xs : List X) (x : X) → flat_map f (xs ++ x ∷ []) ≡ flat_map f xs ++ f x
flat_last f [] x = ends (f x)
  where
    ends : {Y : Type 0} (ys : List Y) → ys ++ [] ≡ ys
    ends [] = refl
    ends (y ∷ ys) = ap (λ l. y ∷ l) (ends ys)
flat_last f (y ∷ xs) x = ap (λ l. f y ++ l) (flat_last f xs x) ∙ sym (append_assoc (f y) (flat_map f xs) (f x))

pub line_more : {Y : Type 0} (f : ℕ → Y) (first old new : List Y) (i : ℕ) (y : Y) → y ≡ f (i + 1) → new ≡ old ++ y ∷ [] → old ≡ first ++ map f (range_with_len 1 i) → new ≡ first ++ map f (range_with_len 1 (i + 1))
line_more f first old new i y is push before =
    push ∙ (ap (λ l. l ++ y ∷ []) before ∙ (ap (λ z. (first ++ map f (range_with_len 1 i)) ++ z ∷ []) is
    ∙ (append_assoc first (map f (range_with_len 1 i)) (f (i + 1) ∷ [])
    ∙ ap (λ l. first ++ l) (sym (ap (map f) (next_range i) ∙ map_last f (range_with_len 1 i) (i + 1))))))

pub lines_more : {Y : Type 0} (f : ℕ → List Y) (first old new : List Y) (i : ℕ) → new ≡ old ++ f (i + 1) → old ≡ first ++ flat_map f (range_with_len 1 i) → new ≡ first ++ flat_map f (range_with_len 1 (i + 1))
lines_more f first old new i push before =
    push ∙ (ap (λ l. l ++ f (i + 1)) before
    ∙ (append_assoc first (flat_map f (range_with_len 1 i)) (f (i + 1))
    ∙ ap (λ l. first ++ l) (sym (ap (flat_map f) (next_range i) ∙ flat_last f (range_with_len 1 i) (i + 1)))))

-- One more client

drop_next : {X : Type 0} (xs : List X) (i : ℕ) (x : X) → i < length xs → x ≡ slice_index_or xs i x → drop i xs ≡ x ∷ drop (i + 1) xs
drop_next xs i x lt is = drop_here xs i x lt is ∙ ap (λ (n : ℕ). x ∷ drop n xs) (plus i)
  where
    plus : (i : ℕ) → suc i ≡ i + 1
    plus i = omega arith

pub answers_more : (said : ClientNo → ℕ → LineAnswer) (clients : List ScriptClient) (i : ℕ) (client : ScriptClient) (old new : List AnswerLine) → i < length clients → client ≡ slice_index_or clients i client
    → new ≡ old ++ map (answer_line_at said (record { 0 = i }) client) (op_numbers client) → old ++ answers_from said i (drop i clients) ≡ answers_from said 0 clients
    → new ++ answers_from said (i + 1) (drop (i + 1) clients) ≡ answers_from said 0 clients
answers_more said clients i client old new lt is push before =
    ap (λ l. l ++ answers_from said (i + 1) (drop (i + 1) clients)) push
    ∙ (append_assoc old (map (answer_line_at said (record { 0 = i }) client) (op_numbers client)) (answers_from said (i + 1) (drop (i + 1) clients))
    ∙ (sym (ap (λ l. old ++ answers_from said i l) (drop_next clients i client lt is)) ∙ before))

pub doubts_more : (said : ClientNo → ℕ → LineAnswer) (committed : ClientNo → ℕ → Bool) (clients : List ScriptClient) (i : ℕ) (client : ScriptClient) (old new : List DoubtLine) → i < length clients → client ≡ slice_index_or clients i client
    → new ≡ old ++ flat_map (doubt_at said committed (record { 0 = i }) client) (op_numbers client) → old ++ doubts_from said committed i (drop i clients) ≡ doubts_from said committed 0 clients
    → new ++ doubts_from said committed (i + 1) (drop (i + 1) clients) ≡ doubts_from said committed 0 clients
doubts_more said committed clients i client old new lt is push before =
    ap (λ l. l ++ doubts_from said committed (i + 1) (drop (i + 1) clients)) push
    ∙ (append_assoc old (flat_map (doubt_at said committed (record { 0 = i }) client) (op_numbers client)) (doubts_from said committed (i + 1) (drop (i + 1) clients))
    ∙ (sym (ap (λ l. old ++ doubts_from said committed i l) (drop_next clients i client lt is)) ∙ before))

-- After all clients

drop_all : {X : Type 0} (xs : List X) (i : ℕ) → length xs ≤ i → drop i xs ≡ []
drop_all [] zero le = refl
drop_all [] (suc i) le = refl
drop_all (x ∷ xs) zero le = absurd (omega (arith, le))
drop_all (x ∷ xs) (suc i) le = drop_all xs i (omega (arith, le))

nothing_more : {X : Type 0} (xs : List X) → xs ++ [] ≡ xs
nothing_more [] = refl
nothing_more (x ∷ xs) = ap (λ l. x ∷ l) (nothing_more xs)

pub all_answers : (said : ClientNo → ℕ → LineAnswer) (clients : List ScriptClient) (i : ℕ) (lines : List AnswerLine) → length clients ≤ i
    → lines ++ answers_from said i (drop i clients) ≡ answers_from said 0 clients → lines ≡ answers_from said 0 clients
all_answers said clients i lines le is =
    sym (nothing_more lines) ∙ (sym (ap (λ l. lines ++ answers_from said i l) (drop_all clients i le)) ∙ is)

pub all_doubts : (said : ClientNo → ℕ → LineAnswer) (committed : ClientNo → ℕ → Bool) (clients : List ScriptClient) (i : ℕ) (lines : List DoubtLine) → length clients ≤ i
    → lines ++ doubts_from said committed i (drop i clients) ≡ doubts_from said committed 0 clients → lines ≡ doubts_from said committed 0 clients
all_doubts said committed clients i lines le is =
    sym (nothing_more lines) ∙ (sym (ap (λ l. lines ++ doubts_from said committed i l) (drop_all clients i le)) ∙ is)

-- Versions

-- what a list has at a place, where it is made of another
record MadeAt {X Y : Type 0} (g : X → Y) (xs : List X) (i : ℕ) (y : Y) : Type 0 where
  pub from : X
  pub there : slice_get xs i ≡ Some from
  pub below : i < length xs
  pub at : from ≡ slice_index_or xs i from
  pub made : y ≡ g from

made_at : {X Y : Type 0} (g : X → Y) (xs : List X) (i : ℕ) (y : Y) → i < length (map g xs) → y ≡ slice_index_or (map g xs) i y → MadeAt g xs i y
made_at g [] i y lt is = absurd (omega (arith, lt))
made_at g (x ∷ xs) zero y lt is = record { from = x; there = refl; below = omega arith; at = refl; made = is }
made_at g (x ∷ xs) (suc i) y lt is =
    let m = made_at g xs i y (omega (arith, lt)) is in
    let low : i < length xs = m.below in
    record { from = m.from; there = m.there; below = omega (arith, low); at = m.at; made = m.made }

-- one more line
pub told_more : (store : Store) (listing : List Version) (i : ℕ) (version : Version) (line : VersionLine) (old new : List VersionLine) → listing ≡ listing_of (heads_of store) → i < length listing → version ≡ slice_index_or listing i version
    → IsSomeAnd (slice_get store i) (λ v. line ≡ told_with version v) → new ≡ old ++ line ∷ [] → old ≡ map (version_told store) (take i store) → new ≡ map (version_told store) (take (i + 1) store)
told_more store listing i version line old new are lt is told push before =
    let f : StoreVersion → Version = λ v. listed (heads_of store) v.head in
    let made : listing ≡ map f store = are ∙ sym (map_map (listed (heads_of store)) (λ (v : StoreVersion). v.head) store) in
    let m = made_at f store i version (subst (λ (l : List Version). i < length l) made lt) (is ∙ ap (λ (l : List Version). slice_index_or l i version) made) in
    let here : line ≡ told_with version m.from = subst (λ o. IsSomeAnd o (λ v. line ≡ told_with version v)) m.there told in
    let line_is : line ≡ version_told store m.from = here ∙ ap (λ (l : Version). told_with l m.from) m.made in
    map_more (version_told store) store i m.from m.below m.at old new (push ∙ ap (λ (l : VersionLine). old ++ l ∷ []) line_is) before

-- all lines
pub told_whole : (store : Store) (listing : List Version) (i : ℕ) (lines : List VersionLine) → listing ≡ listing_of (heads_of store) → length listing ≤ i → lines ≡ map (version_told store) (take i store) → lines ≡ versions_told store
told_whole store listing i lines are le is =
    let same : length listing ≡ length store = ap length are ∙ (long (listed (heads_of store)) (heads_of store) ∙ long (λ (v : StoreVersion). v.head) store) in
    is ∙ ap (map (version_told store)) (take_whole store i (omega (arith, same, le)))
  where
    long : {X Y : Type 0} (f : X → Y) (xs : List X) → length (map f xs) ≡ length xs
    long f [] = refl
    long f (x ∷ xs) = ap suc (long f xs)
