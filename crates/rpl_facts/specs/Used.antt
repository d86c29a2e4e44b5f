-- What the code keeps of what statements use.
use Rattle.std.specs.Prelude.{List, map}
use Rattle.rpl_facts.specs.Uses.{Use, UsesSet, UsesParameter}
use Rattle.rpl_facts.specs.declared.uses.Used.{Used}
use Rattle.rpl_facts.specs.declared.uses.Used.TheVariants.{Set, Parameter}

-- a use as clauses see it
abbrev pub use_of : Used → Use
use_of (Set sort name) = UsesSet (sort, name.now)
use_of (Parameter name) = UsesParameter name.now

abbrev pub uses_in : List Used → List Use
uses_in us = map use_of us
