use Rattle.std.proofs.Common.{◌≡◌, ◌++◌, ◌∷◌, [], ℕ, List, map, ap, sym, subst, ◌∙◌, arith}
use Rattle.std.specs.List.{range_with_len}
use Rattle.std.proofs.lemmas.List.FromFn.{map-range_with_len_more}
use Rattle.mn_base.specs.Store.{empty_store}
use Rattle.mn_page.specs.Holds.{Holds}
use Rattle.mn_page.specs.Base.{base_of}
use Rattle.mn_forest.specs.Base.{base_memory}
use Rattle.mn_forest.proofs.BaseStore.{spaces_are, base_holds}
use Rattle.mn_forest.proofs.base.base_spaces.Goals as goal

pub loop-node-preserved : goal.loop-node-preserved
loop-node-preserved c =
    let node = c.loop-node.node in
    let made = base_of c.args.nodes in
    c.in_ok-push.ensures.items ∙ ap (λ (x : List ℕ). c.loop-node.spaces.items ++ x ∷ []) c.in_ok-base.ensures.base
    ∙ ap (λ (l : List (List ℕ)). l ++ made node ∷ []) c.loop-node.invariant ∙ sym (map-range_with_len_more made 0 node node (omega arith))

pub returns-clause-memory : goal.returns-clause-memory
returns-clause-memory c =
    let last : c.loop-node.node ≡ c.args.nodes = omega arith in
    c.from_vec.ensures ∙ c.loop-node.invariant ∙ ap (λ (k : ℕ). map (base_of c.args.nodes) (range_with_len 0 k)) last ∙ spaces_are c.args.nodes

pub returns-clause-store : goal.returns-clause-store
returns-clause-store c =
    let last : c.loop-node.node ≡ c.args.nodes = omega arith in
    let is : c.from_vec.result ≡ base_memory c.args.nodes =
    c.from_vec.ensures ∙ c.loop-node.invariant ∙ ap (λ (k : ℕ). map (base_of c.args.nodes) (range_with_len 0 k)) last ∙ spaces_are c.args.nodes in
    subst (λ (m : List (List ℕ)). Holds m empty_store) (sym is) (base_holds c.args.nodes c.requires.some c.requires.few)
