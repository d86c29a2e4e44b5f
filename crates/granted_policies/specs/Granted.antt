-- The policies of which the table grants each construct.
use Rattle.std.specs.Prelude.{◌≡◌, ℕ, List}
use Rattle.ios_tree.specs.Tree.{ios_tree}
use Rattle.ios_reader.specs.Profile.{PolicyParts, IsPolicyOf}
use Rattle.expressible_table.specs.Constructs.{constructs_of}
use Rattle.expressible_table.specs.Missing.{AllGranted}
use Rattle.expressible_table.specs.declared.kind.Dialect.{Dialect}
use Rattle.expressible_table.specs.declared.policy.Policy.TheVariants.{Ios}

-- a checked route-map of an IOS text, of which the table grants each construct to the language
pub record IsGranted (target : Dialect) (text : List ℕ) (policy : PolicyParts) : Type 0 where
  pub read : policy.items ≡ ios_tree text
  pub checked : IsPolicyOf policy.items policy.names
  pub granted : AllGranted target (constructs_of (Ios policy))
