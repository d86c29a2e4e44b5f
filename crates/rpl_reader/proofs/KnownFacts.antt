-- What is known of a text is so.
use Rattle.std.proofs.Common.{◌≡◌, sym, ap, ◌∙◌, ℕ, Bool, List, [], ◌∷◌}
use Rattle.std.specs.Prelude.{Decides}
use Rattle.step_search.specs.Found.{IsIn}
use Rattle.text_words.specs.declared.rpl_blocks.BlockKind.{BlockKind}
use Rattle.text_words.specs.declared.rpl_blocks.BlockKind.TheVariants.{PrefixSet, CommunitySet, PathSet, Policy}
use Rattle.policy_calls.specs.Calls.{Link, is_reached, turns_back}
use Rattle.policy_calls.specs.Depth.{is_too_deep}
use Rattle.rpl_forms.specs.declared.item.RplItem.{RplItem}
use Rattle.rpl_calls.specs.Calls.{CallParts, calls_of, links}
use Rattle.rpl_calls.specs.Arguments.{ArgumentParts}
use Rattle.rpl_calls.specs.declared.demand.Demand.{Demand}
use Rattle.rpl_reader.specs.Facts.{facts_of}
use Rattle.rpl_reader.specs.Reach.{is_reached_policy, arguments_in, IsDemanded, IsReachedBlock}
use Rattle.rpl_reader.specs.Known.{known_facts, known_policy, known_block, IsKnown}
use Rattle.rpl_reader.specs.Holds.{Holds}
use Rattle.rpl_reader.specs.declared.known.Known.{Known}
use Rattle.rpl_reader.proofs.Reached.{set_decided}

module _ (policy : List ℕ) (all : List RplItem) (calls : List CallParts) (args : List ArgumentParts) (ds : List Demand) (by_name : List Link) (k : Known) (holds : Holds policy all args ds by_name k)
    (calls_are : calls ≡ calls_of all) (args_are : args ≡ arguments_in all) (links_are : by_name ≡ links calls) (sound : (d : Demand) → IsIn d ds → IsDemanded all d) (whole : (d : Demand) → IsDemanded all d → IsIn d ds) where
  by_links : by_name ≡ links (calls_of all)
  by_links = links_are ∙ ap links calls_are

  policies_are : known_policy k ≡ is_reached_policy policy all
  policies_are = λ i q. (holds.policies q ∙ (λ j. is_reached (by_links j) (policy ∷ []) q)) i

  facts_are : known_facts k ≡ facts_of policy all
  facts_are = λ i. record {
    there = λ kind q. holds.there kind q i;
    wide = λ q. holds.wide q i;
    takes_other = λ q n. holds.counts q n i;
    turns_back = λ p q. (holds.turning p q ∙ (λ j. turns_back (by_links j) p q)) i;
    too_deep = λ q. (holds.deep q ∙ (λ j. is_too_deep (by_links j) (policy ∷ []) q)) i;
  }

  decided : (kind : BlockKind) (q : List ℕ) → Decides (known_block k kind q) (IsReachedBlock policy all kind q)
  decided Policy q = (λ e. sym (ap (λ (f : List ℕ → Bool). f q) policies_are) ∙ e, λ e. ap (λ (f : List ℕ → Bool). f q) policies_are ∙ e)
  decided PrefixSet q = set_decided policy all (known_policy k) policies_are args args_are PrefixSet q k.sets ds sound whole holds.sets
  decided CommunitySet q = set_decided policy all (known_policy k) policies_are args args_are CommunitySet q k.sets ds sound whole holds.sets
  decided PathSet q = set_decided policy all (known_policy k) policies_are args args_are PathSet q k.sets ds sound whole holds.sets

  pub is_known : IsKnown policy all k
  is_known = record { named = holds.named; facts = facts_are; policies = policies_are; blocks = decided }
