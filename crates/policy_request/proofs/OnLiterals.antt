-- What a proof unfolds to compute the request of words that are written out.
use Rattle.std.specs.Prelude.{⊤}
use Rattle.clap.proofs.OnLiterals.{clap_on_literals}
use Rattle.policy_request.specs.Words.{app_of_verb}
use Rattle.policy_request.specs.Spelled.{asked, asked_in, request_in, rows_in}

unfoldable pub words_on_literals : ⊤
unfolding request_in asked asked_in rows_in app_of_verb clap_on_literals
words_on_literals = tt
