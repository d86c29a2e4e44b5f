-- What the table says of a policy: a language can say each of its constructs, or one is the first that it can't say.
use Rattle.std.specs.Prelude.{◌≡◌, List}
use Rattle.expressible_table.specs.Constructs.{map_constructs}
use Rattle.expressible_table.specs.Missing.{AllGranted, IsFirstMissing}
use Rattle.expressible_table.specs.declared.construct.Construct.{Construct}
use Rattle.expressible_table.specs.declared.kind.Dialect.{Dialect}
use Rattle.expressible_table.specs.declared.kind.Dialect.TheVariants as dialect
use Rattle.policy_request.specs.declared.language.Language.{Language}
use Rattle.policy_request.specs.declared.language.Language.TheVariants.{Ios, Junos, Rpl}
use Rattle.policy_sources.specs.Source.{Policy, OfIos, OfJunos, OfRpl}

-- a language as the table has it
abbrev pub dialect_of : Language → Dialect
dialect_of Ios = dialect.Ios
dialect_of Junos = dialect.Junos
dialect_of Rpl = dialect.Rpl

-- the constructs of a policy, in text order; of Junos and RPL none are listed, since translate does not take them yet
abbrev pub AreConstructs : Policy → List Construct → Type 0
AreConstructs (OfIos items name) cs = cs ≡ map_constructs name items
AreConstructs (OfJunos items names) cs = ⊥
AreConstructs (OfRpl items name) cs = ⊥

-- the table grants each construct of the policy to the language
pub record IsExpressible (policy : Policy) (to : Language) : Type 0 where
  pub constructs : List Construct
  pub are : AreConstructs policy constructs
  pub granted : AllGranted (dialect_of to) constructs

-- this construct of the policy is the first that the table doesn't grant to the language
pub record LacksFirst (policy : Policy) (to : Language) (missing : Construct) : Type 0 where
  pub constructs : List Construct
  pub are : AreConstructs policy constructs
  pub first : IsFirstMissing (dialect_of to) constructs missing
