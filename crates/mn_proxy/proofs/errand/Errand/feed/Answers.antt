use Rattle.std.proofs.Common.{refl, subst, sym}
use Rattle.mn_proxy.specs.declared.errand.Errand.{Errand}
use Rattle.mn_proxy.specs.declared.errand.Errand.TheVariants as out
use Rattle.mn_proxy.specs.Turns.{IsFed}
use Rattle.mn_proxy.proofs.errand.Errand.feed.Goals as goal

pub returns-in-Mini : goal.returns-in-Mini
returns-in-Mini c =
    subst (λ (x : Errand). IsFed x c.args.reply (out.Mini c.in-Mini.tid c.feed.new.self c.in-Mini.purpose)) (sym c.in-Mini.is) (
      c.feed.new.self,
      refl,
      record {
        fed_is = c.feed.ensures.fed;
        quiet = c.feed.ensures.idle;
        agrees = c.feed.ensures.agrees;
        no_entry = c.feed.ensures.no_entry;
      },
    )
