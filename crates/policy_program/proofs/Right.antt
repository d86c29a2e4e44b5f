-- A text that says a policy of a source is a right translation of it, and what can't be said is told.
use Rattle.std.proofs.Common.{◌≡◌, refl, ℕ, List, [], ◌∷◌, sym, ap, subst, Ok, Err}
use Rattle.std.specs.Prelude.{Result, Vec}
use Rattle.std.specs.declared.alloc.Global.{Global}
use Rattle.ios_tree.specs.Tree.{ios_tree}
use Rattle.ios_reader.specs.Profile.{PolicyParts, InProfile}
use Rattle.ios_meaning.specs.Meaning.{name_of}
use Rattle.ios_lower.specs.OfPolicy.{PolicySays}
use Rattle.policy_core.specs.Sayable.{rpl_atom, rpl_change}
use Rattle.expressible_table.specs.Constructs.{map_constructs, constructs_of}
use Rattle.expressible_table.specs.Missing.{AllGranted}
use Rattle.expressible_table.specs.declared.kind.Dialect.TheVariants as dialect
use Rattle.expressible_table.specs.declared.policy.Policy.{Policy}
use Rattle.expressible_table.specs.declared.policy.Policy.TheVariants as listed
use Rattle.granted_policies.proofs.Policies.{policy_says}
use Rattle.policy_sources.specs.Source.{OfIos, OfRpl}
use Rattle.policy_sources.specs.Loading.{IsLoaded}
use Rattle.ios_reader.specs.Profile.{all_forms}
use Rattle.policy_program.specs.Layers.{TranslatesTo}
use Rattle.policy_program.specs.Written.{IsOfText, WritesPolicy, parts_of}
use Rattle.policy_program.specs.declared.translation.TranslateFault.{TranslateFault}
use Rattle.policy_program.specs.declared.translation.TranslateFault.TheVariants.{Broken, NoPolicy, Outside, Inexpressible, Memory}

-- a route-map that is loaded is one of its text
pub loaded_of_text : (source policy : List ℕ) (checked : PolicyParts) → IsLoaded all_forms source policy checked → IsOfText checked
loaded_of_text source policy checked loaded = record {
  text = source;
  read = ap (λ (c : PolicyParts). c.items) loaded.is;
  checked = record {
    name = policy;
    one = ap (λ (c : PolicyParts). c.names) loaded.is;
    in_profile = subst (λ (c : PolicyParts). InProfile policy c.items) (sym loaded.is) loaded.loads.1;
  };
}

-- what the table grants RPL can say
pub granted_says : (policy : Policy) → IsOfText (parts_of policy) → AllGranted dialect.Rpl (constructs_of policy) → PolicySays rpl_atom rpl_change (parts_of policy).items (name_of (parts_of policy))
granted_says (listed.Ios checked) of granted = policy_says dialect.Rpl of.text checked (record { read = of.read; checked = of.checked; granted = granted })

-- what was written, or told of a policy that is loaded, answers for the source
answers_loaded : (source policy name : List ℕ) (answer : Result (Vec ℕ Global) TranslateFault)
    → IsLoaded all_forms source policy (record { items = ios_tree source; names = policy ∷ [] })
    → WritesPolicy (listed.Ios (record { items = ios_tree source; names = policy ∷ [] })) name answer → TranslatesTo source policy name answer
unfolding constructs_of
answers_loaded source policy name (Ok text) loaded written = record {
  policy = OfIos (ios_tree source) policy;
  loads = loaded.loads;
  granted = record { constructs = map_constructs policy (ios_tree source); are = refl; granted = written.0 };
  written = OfRpl written.1.written name;
  reads = (written.1.written, written.1.tree, (refl, written.1.profile));
  same = written.1.same;
  own = written.1.own;
}
answers_loaded source policy name (Err (Inexpressible span kind)) loaded missing =
    (OfIos (ios_tree source) policy, loaded.loads, record { constructs = map_constructs policy (ios_tree source); are = refl; first = missing })
answers_loaded source policy name (Err Memory) loaded short = tt
answers_loaded source policy name (Err (Broken span kind)) loaded never = absurd never
answers_loaded source policy name (Err (NoPolicy place)) loaded never = absurd never
answers_loaded source policy name (Err (Outside span cause)) loaded never = absurd never

pub answers : (source policy name : List ℕ) (checked : PolicyParts) (answer : Result (Vec ℕ Global) TranslateFault) → IsLoaded all_forms source policy checked
    → WritesPolicy (listed.Ios checked) name answer → TranslatesTo source policy name answer
answers source policy name checked answer loaded written =
    answers_loaded source policy name answer
    (subst (IsLoaded all_forms source policy) loaded.is loaded)
    (subst (λ (c : PolicyParts). WritesPolicy (listed.Ios c) name answer) loaded.is written)
