-- The sets and the least numbers tell the facts of the tree.
use Rattle.std.proofs.Common.{◌≡◌, ℕ, List, false}
use Rattle.std.specs.List.{list_any}
use Rattle.policy_text.specs.NameSets.{has_name}
use Rattle.ios_tree.specs.declared.item.IosItem.{IosItem}
use Rattle.ios_reader.specs.Entries.{entries_of, lines_of}
use Rattle.ios_reader.specs.Items.{sort_code, defines, is_marked}
use Rattle.ios_reader.specs.Lines.{names_list}
use Rattle.ios_reader.specs.Facts.{sets_below, facts_of}
use Rattle.ios_reader.specs.Known.{is_above, least_of, known_facts}
use Rattle.ios_reader.specs.declared.known.Known.{Known}
use Rattle.ios_reader.specs.declared.lines.Setting.{Setting}
use Rattle.ios_reader.specs.declared.lines.Setting.TheVariants.{Med, Path, NextHop, Communities}

module _ (all : List IosItem) (k : Known) where
  -- the least number tells which numbers are above an entry that continues and sets this
  abbrev pub TellsLeast : Setting → Type 0
  TellsLeast setting = (n : ℕ) → is_above (least_of k setting) n ≡ list_any (sets_below setting n) (entries_of k.policy.now all)

  pub tells_facts : ((q : List ℕ) (s n : ℕ) → has_name k.defined q s n ≡ list_any (λ i. defines q s n i.form) all)
      → ((q : List ℕ) (s n : ℕ) → has_name k.named q s n ≡ list_any (names_list q s n) (lines_of k.policy.now false all))
      → ((q : List ℕ) (s n : ℕ) → has_name k.marked q s n ≡ list_any (λ i. is_marked q s n i.form) all)
      → TellsLeast Med → TellsLeast Path → TellsLeast NextHop → TellsLeast Communities → known_facts k ≡ facts_of k.policy.now all
  tells_facts defined named marked med path next_hop communities = λ i. record {
    policy = k.policy.now;
    defined = λ sort q. defined q (sort_code sort) 0 i;
    named = λ sort q. named q (sort_code sort) 0 i;
    marked = λ sort q n. marked q (sort_code sort) n i;
    set_below = λ setting n. least setting n i;
  }
    where
      least : (setting : Setting) → TellsLeast setting
      least Med = med
      least Path = path
      least NextHop = next_hop
      least Communities = communities
