-- What the check keeps of the text and of what stands before, as the tests that the rules look at.
use Rattle.std.specs.Prelude.{◌≡◌, ℕ, Bool, List, Decides}
use Rattle.name_maps.specs.Under.{under}
use Rattle.policy_text.specs.NameSets.{has_name}
use Rattle.policy_calls.specs.Callees.{has_pair}
use Rattle.text_words.specs.declared.rpl_blocks.BlockKind.{BlockKind}
use Rattle.text_words.specs.declared.rpl_blocks.BlockKind.TheVariants.{Policy as PolicyBlock}
use Rattle.rpl_forms.specs.declared.item.RplItem.{RplItem}
use Rattle.rpl_reader.specs.Facts.{Facts, Before, facts_of}
use Rattle.rpl_facts.specs.Told.{kind_code}
use Rattle.rpl_facts.specs.Counts.{has_other}
use Rattle.rpl_reader.specs.Reach.{is_reached_policy, IsReachedBlock}
use Rattle.rpl_reader.specs.declared.known.Known.{Known}
use Rattle.rpl_reader.specs.declared.state.State.{State}

-- the facts that are known
abbrev pub known_facts : Known → Facts
known_facts k = record {
  there = λ kind q. has_name k.there q (kind_code kind) 0;
  wide = λ q. has_name k.wide q 0 0;
  takes_other = λ q n. has_other (under k.counts.entries q) n;
  turns_back = λ p q. has_pair k.turning p q;
  too_deep = λ q. has_name k.deep q 0 0;
}

-- the policies that are known to be reached
abbrev pub known_policy : Known → List ℕ → Bool
known_policy k q = has_name k.policies q 0 0

-- the blocks that are known to be reached
abbrev pub known_block : Known → BlockKind → List ℕ → Bool
known_block k PolicyBlock q = known_policy k q
known_block k kind q = has_name k.sets q (kind_code kind) 0

-- what is known is so of the text for the policy of this name
pub record IsKnown (policy : List ℕ) (all : List RplItem) (k : Known) : Type 0 where
  pub named : k.policy.now ≡ policy
  pub facts : known_facts k ≡ facts_of policy all
  pub policies : known_policy k ≡ is_reached_policy policy all
  pub blocks : (kind : BlockKind) (q : List ℕ) → Decides (known_block k kind q) (IsReachedBlock policy all kind q)

-- what stands before
abbrev pub told : State → Before
told s = record {
  stands = λ kind q. has_name s.stands q (kind_code kind) 0;
  name = s.name.now;
  has_parameter = λ q. has_name s.parameters q 0 0;
  ifs = s.ifs;
}
