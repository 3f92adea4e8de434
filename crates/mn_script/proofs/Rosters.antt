-- The map of the clients' numbers by their names.
use Rattle.std.proofs.Common.{◌≡◌, ◌<◌, ℕ, suc, ◌+◌, Bool, true, false, cond, List, [], ◌∷◌, ◌++◌, Option, Some, None, length, refl, sym, ap, ◌∙◌, bytes_eq, add-one, arith, if◌then◌else◌}
use Rattle.std.specs.Prelude.{option_map, IfSome}
use Rattle.std.specs.BTreeMap.{BTreeMap, insert_entry, is_at}
use Rattle.std.specs.Map.{lookup}
use Rattle.std.specs.Cmp.Lexicographic.{slice_cmp}
use Rattle.std.specs.Ordering.{nat_cmp, is_eq, match_ordering}
use Rattle.std.specs.declared.cmp.Ordering.{Ordering}
use Rattle.std.specs.declared.cmp.Ordering.TheVariants.{Less, Equal, Greater}
use Rattle.std.proofs.lemmas.Map.Text.{is_eq-slice_cmp}
use Rattle.std.proofs.lemmas.Bool.{false_from_ne_true}
use Rattle.mn_base.specs.declared.op.Op.{Op}
use Rattle.mn_base.proofs.Keys.{bytes_eq-refl, bytes_eq-true}
use Rattle.mn_script.specs.declared.elements.ScriptClient.{ScriptClient}
use Rattle.mn_script.specs.Lines.{client_named}
use Rattle.mn_script.specs.Reading.{with_op}
use Rattle.mn_script.specs.Roster.{AreNumbered}

apart : (xs ys : List ℕ) → (xs ≡ ys → ⊥) → bytes_eq xs ys ≡ false
apart xs ys not = false_from_ne_true (bytes_eq xs ys) (λ is. not (bytes_eq-true xs ys is))

turned : (xs ys : List ℕ) (b : Bool) → bytes_eq xs ys ≡ b → bytes_eq ys xs ≡ b
turned xs ys true is = ap (λ (l : List ℕ). bytes_eq ys l) (bytes_eq-true xs ys is) ∙ bytes_eq-refl ys
turned xs ys false is = apart ys xs (λ e. let no : true ≡ false = sym (bytes_eq-refl xs) ∙ (ap (λ (l : List ℕ). bytes_eq xs l) (sym e) ∙ is) in absurd (cc))

-- One entry more

module _ {K : Type 0} (bytes : K → List ℕ) where
  abbrev test : List ℕ → K → Bool
  test name = is_at (λ k. slice_cmp nat_cmp name (bytes k))

  here : (name : List ℕ) (k : K) → test name k ≡ bytes_eq name (bytes k)
  here name k = is_eq-slice_cmp name (bytes k)

  at_same : (b : Bool) (v : ℕ) (old rest : Option ℕ) → cond b (Some v) rest ≡ (if b then Some v else cond b old rest)
  at_same true v old rest = refl
  at_same false v old rest = refl

  at_other : (b t : Bool) (v : ℕ) (old rest more : Option ℕ) → (t ≡ true → b ≡ true → ⊥) → more ≡ (if b then Some v else rest) → cond t old more ≡ (if b then Some v else cond t old rest)
  at_other true true v old rest more not is = absurd (not refl refl)
  at_other true false v old rest more not is = is
  at_other false true v old rest more not is = refl
  at_other false false v old rest more not is = is

  in_place : (e : K × ℕ) (es : List (K × ℕ)) (k : K) (v : ℕ) (name : List ℕ) (more : List (K × ℕ)) (o : Ordering) → slice_cmp nat_cmp (bytes k) (bytes e.0) ≡ o
      → lookup (test name) more ≡ (if bytes_eq name (bytes k) then Some v else lookup (test name) es)
      → lookup (test name) (match_ordering o ((k, v) ∷ e ∷ es) ((e.0, v) ∷ es) (e ∷ more)) ≡ (if bytes_eq name (bytes k) then Some v else lookup (test name) (e ∷ es))
  in_place e es k v name more Less is rest = ap (λ (b : Bool). cond b (Some v) (lookup (test name) (e ∷ es))) (here name k) ∙ at_head (bytes_eq name (bytes k)) (lookup (test name) (e ∷ es))
    where
      at_head : (b : Bool) (rest : Option ℕ) → cond b (Some v) rest ≡ (if b then Some v else rest)
      at_head true rest = refl
      at_head false rest = refl
  in_place e es k v name more Equal is rest =
      let one : bytes k ≡ bytes e.0 = bytes_eq-true (bytes k) (bytes e.0) (sym (is_eq-slice_cmp (bytes k) (bytes e.0)) ∙ ap is_eq is) in
      let both : test name e.0 ≡ bytes_eq name (bytes k) = here name e.0 ∙ ap (λ (l : List ℕ). bytes_eq name l) (sym one) in
      ap (λ (b : Bool). cond b (Some v) (lookup (test name) es)) both ∙ at_same (bytes_eq name (bytes k)) v (Some e.1) (lookup (test name) es)
      ∙ ap (λ (b : Bool). if bytes_eq name (bytes k) then Some v else cond b (Some e.1) (lookup (test name) es)) (sym both)
  in_place e es k v name more Greater is rest =
      at_other (bytes_eq name (bytes k)) (test name e.0) v (Some e.1) (lookup (test name) es) (lookup (test name) more)
      (λ t b. let one : bytes k ≡ bytes e.0 = sym (bytes_eq-true name (bytes k) b) ∙ bytes_eq-true name (bytes e.0) (sym (here name e.0) ∙ t) in
      let equal : is_eq (slice_cmp nat_cmp (bytes k) (bytes e.0)) ≡ true = is_eq-slice_cmp (bytes k) (bytes e.0) ∙ (ap (λ (l : List ℕ). bytes_eq l (bytes e.0)) one ∙ bytes_eq-refl (bytes e.0)) in
      let no : false ≡ true = ap is_eq (sym is) ∙ equal in absurd (cc))
      rest

  inserted : (es : List (K × ℕ)) (k : K) (v : ℕ) (name : List ℕ) → lookup (test name) (insert_entry (λ x y. slice_cmp nat_cmp (bytes x) (bytes y)) es k v) ≡ (if bytes_eq name (bytes k) then Some v else lookup (test name) es)
  inserted [] k v name = ap (λ (b : Bool). cond b (Some v) None) (here name k) ∙ alone (bytes_eq name (bytes k))
    where
      alone : (b : Bool) → cond b (Some v) None ≡ (if b then Some v else None)
      alone true = refl
      alone false = refl
  inserted (e ∷ es) k v name = in_place e es k v name (insert_entry (λ x y. slice_cmp nat_cmp (bytes x) (bytes y)) es k v) (slice_cmp nat_cmp (bytes k) (bytes e.0)) refl (inserted es k v name)

-- One client more

some_not : {A : Type 0} (x : A) → Some x ≡ None → ⊥
some_not x is = absurd (cc)

first_step : (b : Bool) (rest : Option ℕ) → (if b then Some 0 else option_map (λ n. n + 1) rest) ≡ None → (b ≡ false) × (rest ≡ None)
first_step true rest is = absurd (some_not 0 is)
first_step false None is = (refl, refl)
first_step false (Some n) is = absurd (some_not (n + 1) is)

later_step : (t b : Bool) (at : ℕ) (rest more : Option ℕ) → (t ≡ true → b ≡ true → ⊥) → more ≡ (if b then Some at else rest)
    → (if t then Some 0 else option_map (λ n. n + 1) more) ≡ (if b then Some (suc at) else (if t then Some 0 else option_map (λ n. n + 1) rest))
later_step true true at rest more not is = absurd (not refl refl)
later_step true false at rest more not is = refl
later_step false true at rest more not is = ap (option_map (λ n. n + 1)) is ∙ ap (λ (n : ℕ). Some n) (add-one at)
later_step false false at rest more not is = ap (option_map (λ n. n + 1)) is

named_more : (cs : List ScriptClient) (c : ScriptClient) (name : List ℕ) → client_named cs c.name ≡ None → client_named (cs ++ c ∷ []) name ≡ (if bytes_eq name c.name then Some (length cs) else client_named cs name)
named_more [] c name new = ap (λ (b : Bool). if b then Some 0 else None) (turned name c.name (bytes_eq name c.name) refl)
named_more (x ∷ cs) c name new =
    let other = first_step (bytes_eq x.name c.name) (client_named cs c.name) new in
    later_step (bytes_eq x.name name) (bytes_eq name c.name) (length cs) (client_named cs name) (client_named (cs ++ c ∷ []) name)
    (λ t b. let no : true ≡ false = sym (bytes_eq-refl x.name) ∙ (ap (λ (l : List ℕ). bytes_eq x.name l) (bytes_eq-true x.name name t ∙ bytes_eq-true name c.name b) ∙ other.0) in absurd (cc))
    (named_more cs c name other.1)

pub numbered_push : {K : Type 0} (bytes : K → List ℕ) (old new : BTreeMap K ℕ) (k : K) (cs : List ScriptClient) (c : ScriptClient) → AreNumbered bytes old cs → client_named cs c.name ≡ None → bytes k ≡ c.name
    → new.entries ≡ insert_entry (λ x y. slice_cmp nat_cmp (bytes x) (bytes y)) old.entries k (length cs) → AreNumbered bytes new (cs ++ c ∷ [])
numbered_push {K} bytes old new k cs c are fresh key entries name =
    ap (λ (es : List (K × ℕ)). lookup (is_at (λ k. slice_cmp nat_cmp name (bytes k))) es) entries
    ∙ inserted bytes old.entries k (length cs) name
    ∙ ap (λ (l : List ℕ). if bytes_eq name l then Some (length cs) else lookup (is_at (λ k. slice_cmp nat_cmp name (bytes k))) old.entries) key
    ∙ ap (λ (o : Option ℕ). if bytes_eq name c.name then Some (length cs) else o) (are name)
    ∙ sym (named_more cs c name fresh)

-- an operation more changes no name
named_with_op : (cs : List ScriptClient) (op : Op) (name : List ℕ) → client_named (with_op cs op) name ≡ client_named cs name
named_with_op [] op name = refl
named_with_op (c ∷ []) op name = refl
named_with_op (c ∷ d ∷ cs) op name = ap (λ (o : Option ℕ). if bytes_eq c.name name then Some 0 else option_map (λ n. n + 1) o) (named_with_op (d ∷ cs) op name)

pub numbered_with_op : {K : Type 0} (bytes : K → List ℕ) (numbers : BTreeMap K ℕ) (cs new : List ScriptClient) (op : Op) → new ≡ with_op cs op → AreNumbered bytes numbers cs → AreNumbered bytes numbers new
numbered_with_op bytes numbers cs new op is are name = are name ∙ sym (ap (λ (l : List ScriptClient). client_named l name) is ∙ named_with_op cs op name)

-- a client that is found is there
one_in : (b : Bool) (rest : Option ℕ) (count : ℕ) → IfSome rest (λ n. n < count) → IfSome (if b then Some 0 else option_map (λ n. n + 1) rest) (λ n. n < suc count)
one_in true rest count is = omega arith
one_in false None count is = tt
one_in false (Some n) count is = omega (arith, is)

pub named_within : (cs : List ScriptClient) (name : List ℕ) → IfSome (client_named cs name) (λ n. n < length cs)
named_within [] name = tt
named_within (c ∷ cs) name = one_in (bytes_eq c.name name) (client_named cs name) (length cs) (named_within cs name)
