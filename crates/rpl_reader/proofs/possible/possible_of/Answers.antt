use Rattle.std.proofs.Common.{sym, subst, ap, ◌∙◌, List}
use Rattle.step_search.specs.Found.{IsIn, IsFound}
use Rattle.rpl_calls.specs.Arguments.{ArgumentParts}
use Rattle.rpl_calls.specs.Givens.{next_givens, HandsNoneOn}
use Rattle.rpl_calls.specs.declared.given.Given.{Given}
use Rattle.rpl_reader.specs.Givens.{first_givens}
use Rattle.rpl_reader.specs.Known.{known_facts, known_policy}
use Rattle.rpl_reader.specs.Possible.{HoldsGivens}
use Rattle.rpl_reader.proofs.Started.{hand_none_on}
use Rattle.rpl_reader.proofs.possible.possible_of.Goals as goal

pub givens-requires : goal.givens-requires
givens-requires c =
    subst (λ (gs : List Given). HandsNoneOn c.args.arguments.now gs)
    (sym (c.as_slice-start.ensures ∙ c.in_ok-row.ensures ∙ ap (λ (xs : List ArgumentParts). first_givens (known_facts c.args.known.now) (known_policy c.args.known.now) 0 xs) c.as_slice-all.ensures))
    (hand_none_on (known_facts c.args.known.now) (known_policy c.args.known.now) c.args.arguments.now)

pub returns : goal.returns
returns c = record {
  found = c.in_ok-set.set.keys;
  sound = λ g here. subst (λ (gs : List Given). IsFound (next_givens c.args.arguments.now) gs g)
      (c.as_slice-start.ensures ∙ c.in_ok-row.ensures ∙ ap (λ (xs : List ArgumentParts). first_givens (known_facts c.args.known.now) (known_policy c.args.known.now) 0 xs) c.as_slice-all.ensures)
      (c.in_ok-set.ensures.sound g here);
  whole = λ g found. c.in_ok-set.ensures.whole g (subst (λ (gs : List Given). IsFound (next_givens c.args.arguments.now) gs g)
      (sym (c.as_slice-start.ensures ∙ c.in_ok-row.ensures ∙ ap (λ (xs : List ArgumentParts). first_givens (known_facts c.args.known.now) (known_policy c.args.known.now) 0 xs) c.as_slice-all.ensures)) found);
  holds = subst (λ (gs : List Given). HoldsGivens c.args.arguments.now gs c.in_ok-possible.possible) c.as_slice-found.ensures.keys c.in_ok-possible.ensures;
}
