-- Generated scripts are in the grammar.
use Rattle.std.proofs.Common.{◌≡◌, ℕ, ◌+◌, ◌≤◌, ◌<◌, Bool, true, false, ◌&&◌, not, List, [], ◌∷◌, ◌++◌, map, flat_map, refl, arith, rules, bytes_eq, codes, sym, subst, ap, ◌∙◌}
use Rattle.std.specs.List.{AllByRecursion, IsDistinct}
use Rattle.mn_base.specs.Name.{IsName}
use Rattle.mn_base.specs.declared.op.Op.TheVariants.{Snapshot}
use Rattle.mn_script.specs.declared.elements.ScriptClient.{ScriptClient}
use Rattle.mn_script.specs.declared.elements.Point.{Point}
use Rattle.mn_script.specs.declared.elements.Act.{Act}
use Rattle.mn_script.specs.Script.{Script, IsOp, IsClient, IsScript, AreClients, IsPoint}
use Rattle.mn_gen.specs.Generated.{eight, opening, openings, opener, mover, closer, clients_of, points_of, generated, state_at}
use Rattle.mn_gen.proofs.Doing.{key-right, value-right}
use Rattle.mn_gen.proofs.Worked.{worked-length, worked-steps, worked-limits, worked-right}

-- Names

apart : List ℕ → List (List ℕ) → Bool
apart x [] = true
apart x (y ∷ ys) = not (bytes_eq x y) && apart x ys

all_apart : List (List ℕ) → Bool
all_apart [] = true
all_apart (x ∷ xs) = apart x xs && all_apart xs

not-true : (b : Bool) → not b ≡ true → b ≡ false
not-true true e = absurd cc
not-true false e = refl

both : (a b : Bool) → (a && b) ≡ true → (a ≡ true) × (b ≡ true)
both true b e = (refl, e)
both false b e = absurd cc

apart-is : (x : List ℕ) (ys : List (List ℕ)) → apart x ys ≡ true → AllByRecursion (λ y. bytes_eq x y ≡ false) ys
unfolding apart
apart-is x [] e = tt
apart-is x (y ∷ ys) e =
    let parts = both (not (bytes_eq x y)) (apart x ys) e in
    (not-true (bytes_eq x y) parts.0, apart-is x ys parts.1)

all_apart-is : (xs : List (List ℕ)) → all_apart xs ≡ true → IsDistinct bytes_eq xs
unfolding all_apart IsDistinct
all_apart-is [] e = tt
all_apart-is (x ∷ xs) e =
    let parts = both (apart x xs) (all_apart xs) e in
    (apart-is x xs parts.0, all_apart-is xs parts.1)

names-apart : (number : ℕ) → all_apart (map (λ c. c.name) (clients_of number)) ≡ true
unfolding all_apart apart
names-apart number = refl

-- Clients

each-append : {X : Type 0} (P : X → Type 0) (xs ys : List X) → AllByRecursion P xs → AllByRecursion P ys → AllByRecursion P (xs ++ ys)
each-append P [] ys p q = q
each-append P (x ∷ xs) ys p q = (p.0, each-append P xs ys p.1 q)

each-flat : {X Y : Type 0} (P : Y → Type 0) (f : X → List Y) (xs : List X) → AllByRecursion (λ x. AllByRecursion P (f x)) xs → AllByRecursion P (flat_map f xs)
each-flat P f [] all = tt
each-flat P f (x ∷ xs) all = each-append P (f x) (flat_map f xs) all.0 (each-flat P f xs all.1)

opening-right : (client account : ℕ) → client < 8 → account < 8 → IsOp (opening client account)
opening-right client account c a = (search rules, omega arith, omega arith, ((key-right client account c a, value-right 100 (omega arith)), tt))

openings-right : (client : ℕ) → client < 8 → AllByRecursion IsOp (openings client)
openings-right client c =
    let one = λ (account : ℕ) (a : account < 8). opening-right client account c a in (
      one 0 (omega arith),
      (
        one 1 (omega arith),
        (
          one 2 (omega arith),
          (
            one 3 (omega arith),
            (one 4 (omega arith), (one 5 (omega arith), (one 6 (omega arith), (one 7 (omega arith), tt)))),
          ),
        ),
      ),
    )

all-openings : AllByRecursion (λ client. AllByRecursion IsOp (openings client)) eight
all-openings = (
  openings-right 0 (omega arith),
  (
    openings-right 1 (omega arith),
    (
      openings-right 2 (omega arith),
      (
        openings-right 3 (omega arith),
        (openings-right 4 (omega arith), (openings-right 5 (omega arith), (openings-right 6 (omega arith), (openings-right 7 (omega arith), tt)))),
      ),
    ),
  ),
)

opener-right : IsClient opener
opener-right = (search rules, omega arith, each-append IsOp (flat_map openings eight) (Snapshot (codes "main") (codes "w") ∷ []) (each-flat IsOp openings eight all-openings) (search rules, tt))

mover-right : (number client : ℕ) → client < 8 → IsName (99 ∷ (48 + client) ∷ []) → IsClient (mover number client)
mover-right number client few named =
    let state = state_at number client in
    (named, omega (arith, worked-length client state 400), worked-right client state few 400 (omega arith))

closer-right : IsClient closer
closer-right = (search rules, omega arith, (search rules, (search rules, tt)))

all-right : (number : ℕ) → AllByRecursion IsClient (clients_of number)
all-right number = (
  opener-right,
  (
    mover-right number 0 (omega arith) (search rules),
    (
      mover-right number 1 (omega arith) (search rules),
      (
        mover-right number 2 (omega arith) (search rules),
        (
          mover-right number 3 (omega arith) (search rules),
          (
            mover-right number 4 (omega arith) (search rules),
            (
              mover-right number 5 (omega arith) (search rules),
              (mover-right number 6 (omega arith) (search rules), (mover-right number 7 (omega arith) (search rules), (closer-right, tt))),
            ),
          ),
        ),
      ),
    ),
  ),
)

clients-right : (number : ℕ) → AreClients (clients_of number)
clients-right number =
    let l = λ (client : ℕ). worked-length client (state_at number client) 400 in
    let s = λ (client : ℕ). worked-steps client (state_at number client) 400 in
    let p = λ (client : ℕ). worked-limits client (state_at number client) 400 in
    record {
      count = omega arith;
      names = all_apart-is (map (λ c. c.name) (clients_of number)) (names-apart number);
      each = all-right number;
      ops = omega (arith, l 0, l 1, l 2, l 3, l 4, l 5, l 6, l 7);
      steps = omega (arith, s 0, s 1, s 2, s 3, s 4, s 5, s 6, s 7);
      limits = omega (arith, p 0, p 1, p 2, p 3, p 4, p 5, p 6, p 7);
    }

points-right : (nodes number : ℕ) → 1 ≤ nodes → AllByRecursion (IsPoint nodes (clients_of number)) (points_of nodes)
points-right nodes number some =
    let l = λ (client : ℕ). worked-length client (state_at number client) 400 in (
      (omega arith, (omega arith, omega arith, omega (arith, l 1))),
      (
        (omega arith, (omega arith, omega arith, omega (arith, l 2))),
        ((omega arith, (omega arith, omega arith, omega (arith, l 3))), tt),
      ),
    )

pub generated-right : (nodes number : ℕ) → 1 ≤ nodes → nodes ≤ 8 → IsScript (generated nodes number)
unfolding generated
generated-right nodes number some few = record {
  some_nodes = some;
  few_nodes = few;
  recoverers = omega arith;
  clients = clients-right number;
  few_points = omega arith;
  points = points-right nodes number some;
  few_acts = omega arith;
  acts = tt;
}

-- a script by its parts
abbrev pub script_by : ℕ → List ScriptClient → List Point → List Act → Script
script_by nodes clients points acts = record { nodes = nodes; recoverers = 2; clients = clients; points = points; schedule = acts }

pub parts-are : (nodes number : ℕ) (clients : List ScriptClient) (points : List Point) (acts : List Act) → clients ≡ clients_of number → points ≡ points_of nodes
    → acts ≡ [] → script_by nodes clients points acts ≡ generated nodes number
unfolding generated
parts-are nodes number clients points acts a b c =
    ap (λ (cs : List ScriptClient). script_by nodes cs points acts) a
    ∙ ap (λ (ps : List Point). script_by nodes (clients_of number) ps acts) b
    ∙ ap (λ (as' : List Act). script_by nodes (clients_of number) (points_of nodes) as') c

pub parts-right : (nodes number : ℕ) (clients : List ScriptClient) (points : List Point) (acts : List Act) → clients ≡ clients_of number → points ≡ points_of nodes
    → acts ≡ [] → 1 ≤ nodes → nodes ≤ 8 → IsScript (script_by nodes clients points acts)
parts-right nodes number clients points acts a b c some few =
    subst IsScript (sym (parts-are nodes number clients points acts a b c)) (generated-right nodes number some few)
