use Rattle.std.proofs.Common.{◌≡◌, Bool, true, false, cond, Option, Some, refl, ap, ◌∙◌}
use Rattle.std.specs.Option.{option_map}
use Rattle.std.specs.HashMap.{get}
use Rattle.mn_base.specs.Ids.{tid_same}
use Rattle.mn_commits.specs.declared.flat.IdKey.{IdKey}
use Rattle.mn_commits.specs.Standing.{id_key, keys_same}
use Rattle.mn_commits.proofs.flat.note_issue.Goals as goal

map_cond : {X Y : Type 0} (f : X → Y) (b : Bool) (x : X) (o : Option X) → option_map f (cond b (Some x) o) ≡ cond b (Some (f x)) (option_map f o)
map_cond f true x o = refl
map_cond f false x o = refl

pub returns-clause-issued : goal.returns-clause-issued
returns-clause-issued c = λ q.
    let h = c.in_ok-insert.ensures.updates in
    let before = get keys_same c.args.standing.now.issued (id_key q) in
    ap (option_map (λ m. m.now)) (h.0 (id_key q) ∙ ap (λ (k : IdKey). cond (keys_same k (id_key q)) (Some c.args.mini) before) c.id_key.ensures)
    ∙ map_cond (λ m. m.now) (tid_same c.args.tid q) c.args.mini before
