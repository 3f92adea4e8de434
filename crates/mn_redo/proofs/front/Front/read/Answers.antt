use Rattle.std.proofs.Common.{◌≡◌, ◌⊎◌, ◌∷◌, ◌++◌, [], ℕ, List, Err, Bool, true, false, inl, inr, refl, take, sym, ◌∙◌, ap, subst}
use Rattle.std.proofs.lemmas.Result.{err_from_is_err_and}
use Rattle.mn_redo.specs.Grammar.{AreInFront, IsFresh, IsLogAt}
use Rattle.mn_redo.specs.Log.{IsNoLog}
use Rattle.mn_redo.specs.declared.open.OpenCause.TheVariants as causes
use Rattle.mn_redo.proofs.Causes.{cause_in}
use Rattle.mn_redo.proofs.Unique.{in_front, whole_in_front}
use Rattle.mn_redo.proofs.front.Front.read.Goals as goal

stands : (node nodes : ℕ) (content : List ℕ) (number start : ℕ) (bodies : List (List ℕ)) (fresh : Bool) → (fresh ≡ true → IsFresh content) → (fresh ≡ true → IsNoLog start number bodies) → (fresh ≡ false → IsLogAt node nodes content number start bodies) → (IsFresh content × (bodies ≡ [])) ⊎ IsLogAt node nodes content number start bodies
stands node nodes content number start bodies true fresh none log = inl (fresh refl, (none refl).none)
stands node nodes content number start bodies false fresh none log = inr (log refl)

pub returns-clause-front : goal.returns-clause-front
returns-clause-front g c honest damaged =
    let content = (g.D.Disk.state c.args.disk.now).content in
    let found = c.in_ok-found.found in
    let read = c.in_ok-found.ensures in
    let kept = c.in_ok-push.ensures.items ∙ ap (λ (l : List ℕ). l ++ 0 ∷ []) (c.truncate.ensures.items ∙ ap (λ (l : List ℕ). take c.args.at l) (c.in_ok-bytes.ensures.content honest)) in
    subst (λ (n : ℕ). AreInFront c.args.node.0 c.args.nodes content c.args.at n c.of.result.bodies) (sym c.of.ensures.start)
    (subst (λ (l : List (List ℕ)). AreInFront c.args.node.0 c.args.nodes content c.args.at found.start l) (sym c.of.ensures.bodies)
    (in_front c.args.node.0 c.args.nodes content _ c.args.at found.number found.start _ damaged kept (stands c.args.node.0 c.args.nodes _ found.number found.start _ found.is_fresh read.fresh read.none read.log)))

pub returns-in_err-found-clause-damaged : goal.returns-in_err-found-clause-damaged
returns-in_err-found-clause-damaged g c honest damaged other is =
    let r = err_from_is_err_and c.from_residual-in_err-found.result c.from_residual-in_err-found.ensures.1 in
    let content = (g.D.Disk.state c.args.disk.now).content in
    let told : r.0 ≡ causes.Damaged other = ap cause_in (sym r.1 ∙ is) in
    let again = c.in_err-found.was ∙ ap Err (sym r.2 ∙ told) in
    let kept = c.in_ok-push.ensures.items ∙ ap (λ (l : List ℕ). l ++ 0 ∷ []) (c.truncate.ensures.items ∙ ap (λ (l : List ℕ). take c.args.at l) (c.in_ok-bytes.ensures.content honest)) in
    whole_in_front c.args.node.0 c.args.nodes content _ c.args.at other damaged kept (c.read_log.ensures.damaged other again)
