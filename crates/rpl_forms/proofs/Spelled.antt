-- What is found in statements is what is spelled, for headers and for statements within blocks.
use Rattle.std.proofs.Common.{◌≡◌, List, Some}
use Rattle.text_words.specs.declared.rpl_blocks.BlockKind.{BlockKind}
use Rattle.rpl_words.specs.Tokens.{Token}
use Rattle.rpl_forms.specs.Statements.{SpellWithin, form_in}
use Rattle.rpl_forms.specs.declared.item.RplForm.{RplForm}
use Rattle.rpl_forms.proofs.Agree.Found.{condition_agrees}
use Rattle.rpl_forms.proofs.Agree.Statements.{within_found, within_only}

pub form_found : (kind : BlockKind) (ts : List Token) (form : RplForm) → form_in kind ts ≡ Some form → SpellWithin kind ts form
form_found kind ts form e = within_found condition_agrees kind ts form e

pub form_only : (kind : BlockKind) (ts : List Token) (form : RplForm) → SpellWithin kind ts form → form_in kind ts ≡ Some form
form_only kind ts form h = within_only condition_agrees kind ts form h
