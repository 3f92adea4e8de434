use Rattle.std.proofs.Common.{◌∷◌, [], List, inl, ap, reverse, subst, sym}
use Rattle.mn_hist.specs.History.{IsOnlyNote, Noting, notes_in}
use Rattle.mn_hist.proofs.Notings.{lone, one_noting}
use Rattle.mn_hist.proofs.callers.only_or_last.Goals as goal

pub returns-in-len1 : goal.returns-in-len1
returns-in-len1 c = inl
    (subst (λ (l : List Noting). IsOnlyNote (notes_in (reverse l)) c.only.inside.place) (sym (lone c.args.notes.now c.only-item.result c.in-len1.len_at_least c.in-len1.len_below c.only-item.is))
    (subst (IsOnlyNote (notes_in (c.only-item.result ∷ []))) (sym (ap (λ (n : Noting). n.place) c.only.view_is))
    (one_noting c.only-item.result c.only.inside.entry.now (sym (ap (λ (n : Noting). n.seens) c.only.view_is)))))
