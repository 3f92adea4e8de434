-- The spaces of the nodes are the memory that a run begins with.
use Rattle.std.proofs.Common.{◌≡◌, ◌<◌, ◌+◌, ℕ, zero, suc, List, [], ◌∷◌, ◌++◌, length, map, refl, ap, sym, ◌∙◌, arith}
use Rattle.std.specs.List.{range_with_len}
use Rattle.std.proofs.lemmas.List.{map_push}
use Rattle.std.proofs.lemmas.List.FromFn.{map-range_with_len_more}
use Rattle.mn_base.specs.Ids.{node_numbers}
use Rattle.mn_base.specs.declared.ids.NodeNo.{NodeNo}
use Rattle.mn_mini.specs.declared.record.Record.{Record}
use Rattle.mn_mini.specs.Node.{held_parts, space_of, with_held}
use Rattle.mn_runs.specs.Protocol.{base_at, start_of}
use Rattle.mn_runs.specs.Sound.{is_committed, opened_memory}
use Rattle.mn_page.specs.Base.{base_of}
use Rattle.mn_runs.proofs.Bases.{base_there}
use Rattle.mn_flat.specs.Votes.{lists_of, numbered}

-- the space of a node by its base
abbrev pub opened_space : List (List Record) → (NodeNo → List ℕ) → NodeNo → List ℕ
opened_space records bases n = with_held (is_committed (length records) (lists_of records)) (space_of (bases n) (lists_of records n)) (held_parts (lists_of records n))

pub one_more : (f : NodeNo → List ℕ) (spaces : List (List ℕ)) (n : ℕ) (space : List ℕ) → spaces ≡ map f (node_numbers n) → space ≡ f (numbered n) → spaces ++ space ∷ [] ≡ map f (node_numbers (n + 1))
one_more f spaces n space e s =
    ap (λ (x : List (List ℕ)). x ++ space ∷ []) e ∙ ap (λ (x : List ℕ). map f (node_numbers n) ++ x ∷ []) s
    ∙ sym (map_push f (node_numbers n) (numbered n)) ∙ sym (ap (λ (l : List NodeNo). map f l) (map-range_with_len_more numbered 0 n n (omega arith)))

same_map : (f g : NodeNo → List ℕ) (a k : ℕ) → ((i : ℕ) → i < a + k → f (numbered i) ≡ g (numbered i)) → map f (map numbered (range_with_len a k)) ≡ map g (map numbered (range_with_len a k))
same_map f g a zero same = refl
same_map f g a (suc k) same =
    let here : f (numbered a) ≡ g (numbered a) = same a (omega arith) in
    let rest = same_map f g (a + 1) k (λ i low. same i (omega arith)) in cc

pub opened : (records : List (List Record)) → map (opened_space records (λ n. base_of (length records) n.0)) (node_numbers (length records)) ≡ opened_memory (start_of records)
opened records =
    same_map (opened_space records (λ n. base_of (length records) n.0)) (opened_space records (base_at (start_of records))) 0 (length records)
    (λ i low. ap (λ (b : List ℕ). with_held (is_committed (length records) (lists_of records)) (space_of b (lists_of records (numbered i))) (held_parts (lists_of records (numbered i)))) (sym (base_there (start_of records) (numbered i) (omega arith))))
