use Rattle.std.proofs.Common.{◌≡◌, refl, ◌∙◌, Bool, true, false, ◌||◌, ◌∷◌, []}
use Rattle.policy_calls.specs.Calls.{leads}
use Rattle.policy_calls.specs.Callees.{links_of}
use Rattle.policy_calls.proofs.Closures.{closure_is}
use Rattle.policy_calls.proofs.turning.leads.Goals as goal

alone : (b : Bool) → (b || false) ≡ b
alone true = refl
alone false = refl

pub returns : goal.returns
returns c =
    c.has_name.ensures
    ∙ closure_is c.args.callees.now c.args.calls.now (c.args.from.now ∷ []) c.in_ok-found.found c.requires c.in_ok-found.ensures c.args.to.now
    ∙ alone (leads (links_of c.args.calls.now) c.args.from.now c.args.to.now)
