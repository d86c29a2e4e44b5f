-- In profile no entry that continues touches what the tests of an entry behind it ask for.
use Rattle.std.proofs.Common.{◌≡◌, refl, sym, subst, ◌∙◌, ℕ, ◌<◌, Bool, true, false, ◌&&◌, ◌||◌, not, List, [], ◌∷◌, Option, Some, None, inl, inr}
use Rattle.std.specs.Prelude.{map, reverse}
use Rattle.std.specs.List.{list_any, AllByRecursion}
use Rattle.std.proofs.lemmas.Bool.{and_parts, or_parts, true≢false}
use Rattle.std.proofs.lemmas.Grind.{reverse_onto}
use Rattle.route_types.specs.declared.change.Change.{Change}
use Rattle.route_types.specs.declared.change.Change.TheVariants.{NextHop, Prepend, Origin, LocalPreference, Med, Weight, Communities}
use Rattle.route_types.specs.declared.community.CommChange.{CommChange}
use Rattle.route_types.specs.declared.route.NextHop.TheVariants.{At}
use Rattle.path_patterns.specs.Items.{SomeOf}
use Rattle.path_patterns.proofs.Lists.{all_append}
use Rattle.core_nodes.specs.declared.atom.Atom.{Atom}
use Rattle.policy_core.specs.Apart.{Touched, untouched, touched_by, is_apart}
use Rattle.policy_core.proofs.ApartLaws.{nothing_touched}
use Rattle.ios_tree.specs.declared.item.IosItem.{IosItem}
use Rattle.ios_tree.specs.declared.item.CommunityMatch.{CommunityMatch}
use Rattle.ios_tree.specs.declared.item.PathMatch.{PathMatch}
use Rattle.ios_tree.specs.declared.item.MapLine.{MapLine}
use Rattle.ios_tree.specs.declared.item.MapLine.TheVariants.{MatchPrefix, MatchNextHop, MatchCommunity, MatchPath, MatchMetric, SetLocalPreference, SetMetric, SetWeight, SetPrepend, SetOrigin, SetNextHop, SetCommunity, DeleteCommunities, Continue, Description}
use Rattle.ios_reader.specs.Entries.{Entry, entries_of}
use Rattle.ios_reader.specs.Lines.{sets, tested_by}
use Rattle.ios_reader.specs.Profile.{passes, all_forms, IsSoundWithin, InProfile}
use Rattle.ios_reader.proofs.LeastFault.{none_is}
use Rattle.ios_meaning.specs.Order.{in_order}
use Rattle.ios_readings.proofs.Agree.{ordered_ascends}
use Rattle.ios_readings.proofs.Kept.{sets_tested, some_sets}
use Rattle.ios_readings.proofs.Ordered.{Ascends, all_in_order}
use Rattle.ios_readings.proofs.Settled.{IsSettledEntry, IsAmong, all_among, entries_settled, leaves}
use Rattle.ios_lower.specs.Atoms.{atom_of, in_front, atoms_of}
use Rattle.ios_lower.specs.Changes.{setting_change, IsChangeOf}
use Rattle.ios_lower.specs.ChangeSteps.{IsOfLines}
use Rattle.ios_lower.specs.Chains.{are_apart}
use Rattle.ios_lower.proofs.Lowered.{one_of_all}
use Rattle.ios_graph.specs.Apart.{entry_apart, entries_apart, StaysApart, EachStaysApart}

both : (a b : Bool) → a ≡ true → b ≡ true → (a && b) ≡ true
both a b x y = rw (x, y) refl

-- ---- what the changes of a line touch

-- a number is put before the path
abbrev IsPrepend : Change → Type 0
IsPrepend (Prepend n) = Unit {0}
IsPrepend _ = ⊥

all_prepends : (ns : List ℕ) → AllByRecursion IsPrepend (reverse (map (λ n. Prepend n) ns))
all_prepends [] = tt
all_prepends (n ∷ ns) =
    subst (λ (cs : List Change). AllByRecursion IsPrepend cs) (sym (reverse_onto (map (λ m. Prepend m) ns) (Prepend n) []))
    (all_append IsPrepend (reverse (map (λ m. Prepend m) ns)) (Prepend n ∷ []) (all_prepends ns) (tt, tt))

-- the one of a list of one
alone : (c d : Change) → SomeOf (λ e. c ≡ e) (d ∷ []) → c ≡ d
alone c d (inl e) = e
alone c d (inr none) = absurd none

path_set : (all : List IosItem) (x : PathMatch) (m : MapLine) (n : ℕ) → IsChangeOf all m (Prepend n) → sets_tested (MatchPath x) m ≡ true
path_set all x (MatchPrefix p) n h = absurd h
path_set all x (MatchNextHop p) n h = absurd h
path_set all x (MatchCommunity p) n h = absurd h
path_set all x (MatchPath p) n h = absurd h
path_set all x (MatchMetric ns) n h = absurd h
path_set all x (SetLocalPreference k) n h = let e = alone (Prepend n) (LocalPreference k) h in absurd cc
path_set all x (SetMetric k) n h = let e = alone (Prepend n) (Med k) h in absurd cc
path_set all x (SetWeight k) n h = let e = alone (Prepend n) (Weight k) h in absurd cc
path_set all x (SetPrepend ns) n h = refl
path_set all x (SetOrigin o) n h = let e = alone (Prepend n) (Origin o) h in absurd cc
path_set all x (SetNextHop a) n h = let e = alone (Prepend n) (NextHop (At a)) h in absurd cc
path_set all x (SetCommunity s) n h = let e = alone (Prepend n) (Communities (setting_change s)) h in absurd cc
path_set all x (DeleteCommunities list) n h = absurd h
path_set all x (Continue target) n h = absurd h
path_set all x Description n h = absurd h

communities_set : (all : List IosItem) (x : CommunityMatch) (m : MapLine) (c : CommChange) → IsChangeOf all m (Communities c) → sets_tested (MatchCommunity x) m ≡ true
communities_set all x (MatchPrefix p) c h = absurd h
communities_set all x (MatchNextHop p) c h = absurd h
communities_set all x (MatchCommunity p) c h = absurd h
communities_set all x (MatchPath p) c h = absurd h
communities_set all x (MatchMetric ns) c h = absurd h
communities_set all x (SetLocalPreference k) c h = let e = alone (Communities c) (LocalPreference k) h in absurd cc
communities_set all x (SetMetric k) c h = let e = alone (Communities c) (Med k) h in absurd cc
communities_set all x (SetWeight k) c h = let e = alone (Communities c) (Weight k) h in absurd cc
communities_set all x (SetPrepend ns) c h = absurd (one_of_all IsPrepend (Communities c) (reverse (map (λ n. Prepend n) ns)) (all_prepends ns) h)
communities_set all x (SetOrigin o) c h = let e = alone (Communities c) (Origin o) h in absurd cc
communities_set all x (SetNextHop a) c h = let e = alone (Communities c) (NextHop (At a)) h in absurd cc
communities_set all x (SetCommunity s) c h = refl
communities_set all x (DeleteCommunities list) c h = refl
communities_set all x (Continue target) c h = absurd h
communities_set all x Description c h = absurd h

path_still : (all : List IosItem) (x : PathMatch) (m : MapLine) (c : Change) (t : Touched) → sets_tested (MatchPath x) m ≡ false → IsChangeOf all m c → not t.path ≡ true → not (touched_by c t).path ≡ true
path_still all x m (Prepend n) t none own h = absurd (true≢false (sym (path_set all x m n own) ∙ none))
path_still all x m (NextHop y) t none own h = h
path_still all x m (Origin y) t none own h = h
path_still all x m (LocalPreference y) t none own h = h
path_still all x m (Med y) t none own h = h
path_still all x m (Weight y) t none own h = h
path_still all x m (Communities y) t none own h = h

communities_still : (all : List IosItem) (x : CommunityMatch) (m : MapLine) (c : Change) (t : Touched) → sets_tested (MatchCommunity x) m ≡ false → IsChangeOf all m c → not t.communities ≡ true → not (touched_by c t).communities ≡ true
communities_still all x m (Communities y) t none own h = absurd (true≢false (sym (communities_set all x m y own) ∙ none))
communities_still all x m (Prepend n) t none own h = h
communities_still all x m (NextHop y) t none own h = h
communities_still all x m (Origin y) t none own h = h
communities_still all x m (LocalPreference y) t none own h = h
communities_still all x m (Med y) t none own h = h
communities_still all x m (Weight y) t none own h = h

-- ---- what a line asks for

-- what is tested, if something is, asks for nothing that was touched
abbrev if_tested : Option Atom → Touched → Bool
if_tested None t = true
if_tested (Some a) t = is_apart a t

-- no change of a line touches what it doesn't set
line_still : (all : List IosItem) (l m : MapLine) (c : Change) (t : Touched) → sets_tested l m ≡ false → IsChangeOf all m c → if_tested (atom_of all l) t ≡ true → if_tested (atom_of all l) (touched_by c t) ≡ true
line_still all (MatchPath x) m c t none own h = path_still all x m c t none own h
line_still all (MatchCommunity x) m c t none own h = communities_still all x m c t none own h
line_still all (MatchPrefix x) m c t none own h = refl
line_still all (MatchNextHop x) m c t none own h = refl
line_still all (MatchMetric x) m c t none own h = refl
line_still all _ m c t none own h = refl

-- neither the first of lines nor those behind it set it
none_parts : {S : Type 0} (first more : S → Bool) (o : Option S) → passes (λ s. first s || more s) o ≡ false → (passes first o ≡ false) × (passes more o ≡ false)
none_parts first more None h = (refl, refl)
none_parts first more (Some s) h = or_parts (first s) (more s) h

-- no change of lines touches what none of them sets
line_apart : (all : List IosItem) (l : MapLine) (ms : List MapLine) (c : Change) (t : Touched) → some_sets ms l ≡ false → IsOfLines all ms c → if_tested (atom_of all l) t ≡ true → if_tested (atom_of all l) (touched_by c t) ≡ true
line_apart all l [] c t none own h = absurd own
line_apart all l (m ∷ ms) c t none (inl own) h = line_still all l m c t (none_parts (λ s. sets s m) (λ s. list_any (sets s) ms) (tested_by l) none).0 own h
line_apart all l (m ∷ ms) c t none (inr own) h = line_apart all l ms c t (none_parts (λ s. sets s m) (λ s. list_any (sets s) ms) (tested_by l) none).1 own h

atoms_front : (o : Option Atom) (atoms : List Atom) (t : Touched) → are_apart (in_front o atoms) t ≡ (if_tested o t && are_apart atoms t)
atoms_front None atoms t = refl
atoms_front (Some a) atoms t = refl

lines_apart : (all : List IosItem) (ls ms : List MapLine) (c : Change) (t : Touched) → AllByRecursion (λ l. some_sets ms l ≡ false) ls → IsOfLines all ms c → are_apart (atoms_of all ls) t ≡ true → are_apart (atoms_of all ls) (touched_by c t) ≡ true
unfolding atoms_of
lines_apart all [] ms c t none own h = refl
lines_apart all (l ∷ ls) ms c t none own h =
    let parts = and_parts (if_tested (atom_of all l) t) (are_apart (atoms_of all ls) t) (sym (atoms_front (atom_of all l) (atoms_of all ls) t) ∙ h) in
    atoms_front (atom_of all l) (atoms_of all ls) (touched_by c t)
    ∙ both (if_tested (atom_of all l) (touched_by c t)) (are_apart (atoms_of all ls) (touched_by c t)) (line_apart all l ms c t none.0 own parts.0) (lines_apart all ls ms c t none.1 own parts.1)

-- ---- the policy

atoms_untouched : (atoms : List Atom) → are_apart atoms untouched ≡ true
atoms_untouched [] = refl
atoms_untouched (a ∷ atoms) = both (is_apart a untouched) (are_apart atoms untouched) (nothing_touched a) (atoms_untouched atoms)

-- where nothing was touched, nothing that was is asked for
pub entries_untouched : (all : List IosItem) (es : List Entry) → entries_apart all es untouched ≡ true
entries_untouched all [] = refl
entries_untouched all (e ∷ es) = both (entry_apart all untouched e) (entries_apart all es untouched) (atoms_untouched (atoms_of all e.lines)) (entries_untouched all es)

module _ (name : List ℕ) (all : List IosItem) (sound : IsSoundWithin all_forms name all) where
  stays_apart : (e : Entry) (es : List Entry) → IsAmong name all sound (entries_of name all) e → AllByRecursion (λ f. e.number < f.number) es → AllByRecursion (IsSettledEntry name all sound) es → StaysApart all e es
  stays_apart e [] among below settled goes c own t h = refl
  stays_apart e (f ∷ es) among below settled goes c own t h =
      let parts = and_parts (entry_apart all t f) (entries_apart all es t) h in
      both (entry_apart all (touched_by c t) f) (entries_apart all es (touched_by c t))
      (lines_apart all f.lines e.lines c t (leaves name all sound e f.number f.lines among below.0 goes settled.0) own parts.0)
      (stays_apart e es among below.1 settled.1 goes c own t parts.1)

  each_stays : (es : List Entry) → Ascends (λ e. e.number) es → AllByRecursion (IsAmong name all sound (entries_of name all)) es → AllByRecursion (IsSettledEntry name all sound) es → EachStaysApart all es
  each_stays [] ascends among settled = tt
  each_stays (e ∷ es) ascends among settled = (stays_apart e es among.0 ascends.0 settled.1, each_stays es ascends.1 among.1 settled.1)

  ordered_stay : EachStaysApart all (in_order (λ e. e.number) (entries_of name all))
  ordered_stay =
      each_stays (in_order (λ e. e.number) (entries_of name all))
      (ordered_ascends name all sound)
      (all_in_order (λ e. e.number) (IsAmong name all sound (entries_of name all)) (entries_of name all) (all_among name all sound (entries_of name all) (entries_of name all) (λ test n. n)))
      (all_in_order (λ e. e.number) (IsSettledEntry name all sound) (entries_of name all) (entries_settled name all sound [] all refl))

-- the entries of a policy in profile
pub policy_stays : (all : List IosItem) (name : List ℕ) (es : List Entry) → InProfile name all → es ≡ in_order (λ e. e.number) (entries_of name all) → EachStaysApart all es
policy_stays all name es p e = subst (λ (xs : List Entry). EachStaysApart all xs) (sym e) (ordered_stay name all (none_is all_forms name all p.sound))
