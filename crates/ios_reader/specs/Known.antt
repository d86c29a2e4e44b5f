-- What the check keeps of the tree and of the items before, as the tests that the rules look at.
use Rattle.std.specs.Prelude.{ℕ, Bool, false, nat_lt, List, Option, Some, None, option_map, get_or}
use Rattle.policy_text.specs.NameSets.{has_name}
use denote.Ref.{Bor}
use Rattle.std.specs.BTreeSet.{BTreeSet}
use Rattle.ios_reader.specs.Items.{sort_code}
use Rattle.ios_reader.specs.Facts.{Facts, Before}
use Rattle.ios_reader.specs.declared.lines.Setting.{Setting}
use Rattle.ios_reader.specs.declared.lines.Setting.TheVariants.{Med, Path, NextHop, Communities}
use Rattle.ios_reader.specs.declared.known.Known.{Known}
use Rattle.ios_reader.specs.declared.place.Place.{Place}

-- the number is above the least one
abbrev pub is_above : Option ℕ → ℕ → Bool
is_above None n = false
is_above (Some least) n = nat_lt least n

-- the least number of an entry that continues and sets this
abbrev pub least_of : Known → Setting → Option ℕ
least_of k Med = k.med
least_of k Path = k.path
least_of k NextHop = k.next_hop
least_of k Communities = k.communities

-- the facts that the sets and the least numbers tell
abbrev pub known_facts : Known → Facts
known_facts k = record {
  policy = k.policy.now;
  defined = λ sort q. has_name k.defined q (sort_code sort) 0;
  named = λ sort q. has_name k.named q (sort_code sort) 0;
  marked = λ sort q n. has_name k.marked q (sort_code sort) n;
  set_below = λ setting n. is_above (least_of k setting) n;
}

-- what stands before, as a place and a set of marks tell it
abbrev pub told : Place → BTreeSet (Bor (List ℕ) × ℕ × ℕ) → Before
told place marks = record {
  inside = place.inside;
  header = option_map (λ h. h.now) place.header;
  kinds = λ kind. get_or place.kinds kind false;
  marked = λ sort q n. has_name marks q (sort_code sort) n;
}
