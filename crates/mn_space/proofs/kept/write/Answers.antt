use Rattle.std.proofs.Common.{◌≡◌, ◌≤◌, ◌+◌, ◌-◌, ◌++◌, ℕ, List, length, take, drop, replicate, max, vec_len, ap, sym, ◌∙◌, arith}
use Rattle.std.proofs.lemmas.List.{drop-drop, take_at}
use Rattle.mn_mini.specs.Flat.{overwritten}
use Rattle.mn_mini.specs.Mini.{space_size}
use Rattle.mn_page.specs.Grammar.{padded}
use Rattle.mn_space.proofs.Spaces.{overwritten-inside, overwritten_long, put_kept, reached}
use Rattle.mn_space.proofs.kept.write.Goals as goal

pub returns-clause-bytes : goal.returns-clause-bytes
returns-clause-bytes c =
    let old = c.args.kept.now.items in
    let kept = c.resize.new.self.items in
    let s = c.deref_mut.result.now in
    let start = c.args.start in
    let bytes = c.args.bytes.now in
    let count : vec_len c.args.kept.now ≡ length old = omega (arith, c.args.kept.now.ok.0) in
    let far : c.max-length.result ≡ max (length old) (start + length bytes) = c.max-length.ensures ∙ ap (λ (n : ℕ). max n (start + length bytes)) (c.len.ensures ∙ count) in
    let items : kept ≡ take c.max-length.result old ++ replicate (c.max-length.result - vec_len c.args.kept.now) 0 = rw c.unwrap.ensures at c.resize.ensures.items in
    let whole : kept ≡ take (max (length old) (start + length bytes)) old ++ replicate (max (length old) (start + length bytes) - length old) 0 =
    items
    ∙ ap (λ (n : ℕ). take c.max-length.result old ++ replicate (c.max-length.result - n) 0) count
    ∙ ap (λ (n : ℕ). take n old ++ replicate (n - length old) 0) far in
    let there = reached old kept space_size (start + length bytes) c.requires.short c.requires.within whole in
    let value : s ≡ kept = c.deref_mut.ensures.value in
    let inside : start + length bytes ≤ length s = omega (arith, there.1, ap (λ (l : List ℕ). length l) value) in
    let end : start + (start + length bytes - start) ≡ start + length bytes = omega arith in
    let over : take start s ++ (bytes ++ drop (start + length bytes - start) (drop start s)) ≡ overwritten kept start bytes =
    ap (λ (l : List ℕ). take start s ++ (bytes ++ l)) (drop-drop (start + length bytes - start) start s ∙ ap (λ (n : ℕ). drop n s) end)
    ∙ sym (overwritten-inside s start bytes inside)
    ∙ ap (λ (l : List ℕ). overwritten l start bytes) value in
    let new = take start s ++ (bytes ++ drop (start + length bytes - start) (drop start s)) in
    let same : length new ≡ c.resize.new.self.len = ap (λ (l : List ℕ). length l) over ∙ overwritten_long kept start bytes ∙ omega (arith, c.resize.new.self.ok.0) in
    rw c.copy_from_slice.ensures.after (ap (λ (l : List ℕ). padded space_size l) (take_at new (drop (length new) kept) c.resize.new.self.len same) ∙ put_kept kept new space_size start bytes there.1 over)
    ∙ ap (λ (l : List ℕ). overwritten l start bytes) there.0
