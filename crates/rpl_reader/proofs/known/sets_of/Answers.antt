use Rattle.std.proofs.Common.{ap, ◌∙◌, ◌||◌, List}
use Rattle.std.specs.List.{list_any}
use Rattle.policy_text.specs.NameSets.{has_name}
use Rattle.rpl_calls.specs.Policies.{Spoken}
use Rattle.rpl_facts.specs.Spoken.{spoken_in}
use Rattle.rpl_reader.specs.Sets.{uses_named}
use Rattle.rpl_reader.proofs.Repeats.{no_names, put_both}
use Rattle.rpl_reader.proofs.known.sets_of.Goals as goal

pub returns : goal.returns
returns c = λ q s n. put_both _ _ _ _ _ (c.in_ok-note_all_given.ensures q s n)
    (c.in_ok-note_named.ensures q s n
    ∙ ap (λ (ss : List Spoken). list_any (uses_named (λ p. has_name c.args.policies.now p 0 0) q s n) ss || has_name c.new-sets.result q s n) (ap spoken_in c.as_slice-spoken.ensures ∙ c.in_ok-statements.ensures))
    (no_names c.new-sets.result c.new-sets.ensures.empty q s n)
