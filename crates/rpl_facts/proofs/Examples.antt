-- Small blocks and statements, which the checker computes.
use Rattle.std.proofs.Common.{◌≡◌, refl, ℕ, true, false, List, [], ◌∷◌}
use Rattle.std.specs.Prelude.{codes, map}
use Rattle.rpl_words.specs.declared.element.Element.TheVariants.{Community as CommunityElement}
use Rattle.rpl_words.specs.declared.number.RplNumber.TheVariants.{Parameter as GivenNumber}
use Rattle.rpl_words.specs.declared.number.RplSet.TheVariants.{Named}
use Rattle.rpl_forms.specs.declared.item.Action.TheVariants.{SetCommunity, Prepend}
use Rattle.rpl_forms.specs.declared.item.Header.TheVariants.{CommunitySet, PrefixSet}
use Rattle.rpl_forms.specs.declared.item.PolicyStatement.TheVariants.{Act}
use Rattle.rpl_forms.specs.declared.item.RplForm.{RplForm}
use Rattle.rpl_forms.specs.declared.item.RplForm.TheVariants.{Header as HeaderForm, Element as ElementForm, Statement, End}
use Rattle.rpl_forms.specs.declared.item.RplItem.{RplItem}
use Rattle.rpl_calls.specs.declared.ask.SetSort.TheVariants.{Community}
use Rattle.rpl_facts.specs.Blocks.{has_wide}
use Rattle.rpl_facts.specs.Uses.{UsesSet, UsesParameter, uses_of}

abbrev item : RplForm → RplItem
item form = record { form = form; span = record { start = 0; end = 1 }; tests = [] }

-- a set of the communities 65000:1 up to this one
abbrev communities : ℕ → RplForm
communities most = ElementForm (CommunityElement (record { high_least = 65000; high_most = 65000; low_least = 1; low_most = most }))

abbrev set_of : ℕ → List RplItem
set_of most = map item (HeaderForm (CommunitySet (codes "C")) ∷ communities most ∷ End ∷ HeaderForm (PrefixSet (codes "D")) ∷ End ∷ [])

-- a set with a range is wide, under its own name alone
wide : has_wide (codes "C") false (set_of 2) ∷ has_wide (codes "C") false (set_of 1) ∷ has_wide (codes "D") false (set_of 2) ∷ [] ≡ true ∷ false ∷ false ∷ []
unfolding has_wide
wide = refl

uses : uses_of (Statement (Act (SetCommunity (record { set = Named (codes "C"); additive = false })))) ≡ UsesSet (Community, codes "C") ∷ []
unfolding uses_of
uses = refl

both_numbers : uses_of (Statement (Act (Prepend (record { number = GivenNumber (codes "n"); count = GivenNumber (codes "k") })))) ≡ UsesParameter (codes "n") ∷ UsesParameter (codes "k") ∷ []
unfolding uses_of
both_numbers = refl
