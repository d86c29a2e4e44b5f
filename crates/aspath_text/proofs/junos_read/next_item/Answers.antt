use Rattle.std.proofs.Common.{sym, ap, ◌∙◌, false, take, ◌∷◌, length, List, ℕ, ◌<◌, subst}
use Rattle.std.proofs.lemmas.List.{take_rest}
use Rattle.aspath_text.specs.JunosRead.{items_of, behind_blanks}
use Rattle.aspath_text.proofs.JunosCut.{first_item}
use Rattle.aspath_text.proofs.junos_read.next_item.Goals as goal

pub returns-clause-parted : goal.returns-clause-parted
returns-clause-parted c =
    (first_item c.in_ok-end.end c.args.text.now (sym c.in_ok-end.ensures.value)).items
    ∙ ap (λ (t : List ℕ). take c.in_ok-end.end c.args.text.now ∷ items_of false t) (sym (c.behind_blanks.ensures ∙ ap (λ (t : List ℕ). behind_blanks t) (take_rest c.args.text.now c.in_ok-end.end)))

pub returns-clause-shorter : goal.returns-clause-shorter
returns-clause-shorter c =
    subst (λ (t : List ℕ). length t < length c.args.text.now) (sym (c.behind_blanks.ensures ∙ ap (λ (t : List ℕ). behind_blanks t) (take_rest c.args.text.now c.in_ok-end.end)))
    (first_item c.in_ok-end.end c.args.text.now (sym c.in_ok-end.ensures.value)).shorter
