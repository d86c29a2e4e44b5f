-- What the sets hold that the check makes of a text.
use Rattle.std.specs.Prelude.{◌≡◌, ℕ, Bool, ◌||◌, List, [], ◌∷◌, None}
use Rattle.std.specs.List.{list_any}
use Rattle.name_maps.specs.Under.{under}
use Rattle.policy_text.specs.NameSets.{has_name}
use Rattle.policy_calls.specs.Calls.{Link, is_reached, turns_back}
use Rattle.policy_calls.specs.Depth.{is_too_deep}
use Rattle.policy_calls.specs.Callees.{has_pair}
use Rattle.rpl_forms.specs.declared.item.RplItem.{RplItem}
use Rattle.rpl_calls.specs.Policies.{spoken_from}
use Rattle.rpl_calls.specs.Arguments.{ArgumentParts}
use Rattle.rpl_calls.specs.declared.demand.Demand.{Demand}
use Rattle.rpl_facts.specs.Blocks.{takes_other}
use Rattle.rpl_facts.specs.Told.{Names, TellsBlocks, TellsWide}
use Rattle.rpl_facts.specs.Counts.{has_other}
use Rattle.rpl_reader.specs.Sets.{uses_named, gives}
use Rattle.rpl_reader.specs.declared.known.Known.{Known}

-- the set has the sets that statements of reached policies name, and those that are written in them where sets are asked for
abbrev pub HoldsSets : List RplItem → (List ℕ → Bool) → List ArgumentParts → List Demand → Names → Type 0
HoldsSets all reached args demands sets =
    (q : List ℕ) (s n : ℕ) → has_name sets q s n ≡ (list_any (gives reached args q s n) demands || list_any (uses_named reached q s n) (spoken_from None all))

-- what is known, by the arguments, what they are asked, and the calls by name
pub record Holds (policy : List ℕ) (all : List RplItem) (args : List ArgumentParts) (demands : List Demand) (links : List Link) (k : Known) : Type 0 where
  pub named : k.policy.now ≡ policy
  pub there : TellsBlocks k.there all
  pub wide : TellsWide k.wide all
  pub counts : (q : List ℕ) (n : ℕ) → has_other (under k.counts.entries q) n ≡ list_any (λ i. takes_other q n i.form) all
  pub policies : (q : List ℕ) → has_name k.policies q 0 0 ≡ is_reached links (policy ∷ []) q
  pub sets : HoldsSets all (λ p. has_name k.policies p 0 0) args demands k.sets
  pub turning : (p q : List ℕ) → has_pair k.turning p q ≡ turns_back links p q
  pub deep : (q : List ℕ) → has_name k.deep q 0 0 ≡ is_too_deep links (policy ∷ []) q
