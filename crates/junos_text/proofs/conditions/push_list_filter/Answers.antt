use Rattle.std.proofs.Common.{◌≡◌, ◌++◌, ◌∷◌, [], subst, ℕ, List}
use Rattle.std.specs.Prelude.{IfOk, codes}
use Rattle.text_words.specs.Pieces.{words_text}
use Rattle.junos_text.proofs.conditions.push_list_filter.Goals as goal

pub returns : goal.returns
returns c =
    subst (λ (w : List ℕ). IfOk c.push_three.result (λ _. c.push_three.new.out.items ≡ c.args.out.now.items ++ words_text (codes "prefix-list-filter" ∷ c.args.name.now ∷ w ∷ []))) c.filter_word.ensures c.push_three.ensures
