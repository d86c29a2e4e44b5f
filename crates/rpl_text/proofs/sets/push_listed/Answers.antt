use Rattle.std.proofs.Common.{◌≡◌, ◌++◌, sym, subst, ℕ, List}
use Rattle.std.specs.Prelude.{IfOk}
use Rattle.rpl_text.proofs.Texts.{listed_text}
use Rattle.rpl_text.proofs.sets.push_listed.Goals as goal

pub returns : goal.returns
returns g c =
    subst (λ (t : List ℕ). IfOk c.push_things.result (λ _. c.push_things.new.out.items ≡ c.args.out.now.items ++ t)) (sym (listed_text g.W.PutsWords.phrase c.args.first.now c.args.others.now)) c.push_things.ensures
