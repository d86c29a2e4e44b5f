-- A match line answers as before behind an entry that sets nothing that the line tests.
use Rattle.std.proofs.Common.{◌≡◌, refl, ap, ◌∙◌, ℕ, Bool, true, false, cond, ◌&&◌, ◌||◌, List, [], ◌∷◌}
use Rattle.std.specs.Prelude.{◌==◌, filter, not}
use Rattle.std.specs.List.{list_any, list_all, AllByRecursion}
use Rattle.std.proofs.lemmas.Bool.{or_parts}
use Rattle.route_types.specs.Address.{PrefixParts}
use Rattle.route_types.specs.Route.{RouteParts}
use Rattle.route_types.specs.declared.community.Community.{Community}
use Rattle.route_types.specs.declared.route.NextHop.{NextHop as Hop}
use Rattle.prefix_sets.specs.FirstMatch.{first_match}
use Rattle.community_sets.specs.Tests.{list_answers}
use Rattle.ios_tree.specs.declared.item.IosItem.{IosItem}
use Rattle.ios_tree.specs.declared.item.PrefixMatch.{PrefixMatch}
use Rattle.ios_tree.specs.declared.item.CommunityMatch.{CommunityMatch}
use Rattle.ios_tree.specs.declared.item.PathMatch.{PathMatch}
use Rattle.ios_tree.specs.declared.item.MapLine.{MapLine}
use Rattle.ios_tree.specs.declared.item.MapLine.TheVariants.{MatchPrefix, MatchNextHop, MatchCommunity, MatchPath, MatchMetric, SetMetric, SetPrepend, SetNextHop, SetCommunity, DeleteCommunities}
use Rattle.ios_reader.specs.Entries.{Entry}
use Rattle.ios_reader.specs.Lines.{sets, tested_by}
use Rattle.ios_reader.specs.Profile.{passes}
use Rattle.ios_meaning.specs.Lists.{prefix_list, community_list, path_list, path_answers}
use Rattle.ios_meaning.specs.Meaning.{next_hop_holds, line_holds, set_by, set_by_lines, deletes, set_by_entry}

-- a line sets what another one tests
abbrev pub sets_tested : MapLine → MapLine → Bool
sets_tested test line = passes (λ setting. sets setting line) (tested_by test)

-- some of the lines sets it
abbrev pub some_sets : List MapLine → MapLine → Bool
some_sets lines test = passes (λ setting. list_any (sets setting) lines) (tested_by test)

-- ---- what lines keep that don't set it

none_if : (own : MapLine → Bool) (m : MapLine) (ms : List MapLine) (b : Bool) → own m ≡ false → list_any own ms ≡ false → list_any own (cond b (m ∷ ms) ms) ≡ false
none_if own m ms true n more = ap (λ (b : Bool). b || list_any own ms) n ∙ more
none_if own m ms false n more = more

none_filtered : (own test : MapLine → Bool) (ms : List MapLine) → list_any own ms ≡ false → list_any own (filter test ms) ≡ false
none_filtered own test [] n = refl
none_filtered own test (m ∷ ms) n =
    let parts = or_parts (own m) (list_any own ms) n in
    none_if own m (filter test ms) (test m) parts.0 (none_filtered own test ms parts.1)

module _ (all : List IosItem) where
  module _ {X : Type 0} (part : RouteParts → X) (own : MapLine → Bool) (one : (m : MapLine) (q : RouteParts) → own m ≡ false → part (set_by all m q) ≡ part q) where
    lines_keep : (ms : List MapLine) (q : RouteParts) → list_any own ms ≡ false → part (set_by_lines all ms q) ≡ part q
    lines_keep [] q n = refl
    lines_keep (m ∷ ms) q n =
        let parts = or_parts (own m) (list_any own ms) n in
        lines_keep ms (set_by all m q) parts.1 ∙ one m q parts.0

    entry_keeps : (e : Entry) (q : RouteParts) → list_any own e.lines ≡ false → part (set_by_entry all e q) ≡ part q
    entry_keeps e q n =
        lines_keep (filter (λ l. not (deletes l)) e.lines) (set_by_lines all (filter deletes e.lines) q) (none_filtered own (λ l. not (deletes l)) e.lines n)
        ∙ lines_keep (filter deletes e.lines) q (none_filtered own deletes e.lines n)

  prefix_kept : (m : MapLine) (q : RouteParts) → false ≡ false → (set_by all m q).prefix ≡ q.prefix
  prefix_kept (SetMetric n) q none = refl
  prefix_kept _ q none = refl

  none_sets : (ms : List MapLine) → list_any (λ m. false) ms ≡ false
  none_sets [] = refl
  none_sets (m ∷ ms) = none_sets ms

  next_hop_kept : (t : PrefixMatch) (m : MapLine) (q : RouteParts) → sets_tested (MatchNextHop t) m ≡ false → (set_by all m q).next_hop ≡ q.next_hop
  next_hop_kept t (SetNextHop a) q n = absurd cc
  next_hop_kept t _ q n = refl

  communities_kept : (t : CommunityMatch) (m : MapLine) (q : RouteParts) → sets_tested (MatchCommunity t) m ≡ false → (set_by all m q).communities ≡ q.communities
  communities_kept t (SetCommunity s) q n = absurd cc
  communities_kept t (DeleteCommunities list) q n = absurd cc
  communities_kept t _ q n = refl

  path_kept : (t : PathMatch) (m : MapLine) (q : RouteParts) → sets_tested (MatchPath t) m ≡ false → (set_by all m q).path ≡ q.path
  path_kept t (SetPrepend ns) q n = absurd cc
  path_kept t _ q n = refl

  med_kept : (ns : List ℕ) (m : MapLine) (q : RouteParts) → sets_tested (MatchMetric ns) m ≡ false → (set_by all m q).med ≡ q.med
  med_kept ns (SetMetric n) q none = absurd cc
  med_kept ns _ q none = refl

  -- ---- lines and entries that hold as before

  pub line_keeps : (t : MapLine) (e : Entry) (q : RouteParts) → some_sets e.lines t ≡ false → line_holds all (set_by_entry all e q) t ≡ line_holds all q t
  line_keeps (MatchPrefix t) e q n =
      ap (λ (p : PrefixParts). list_any (λ list. first_match (prefix_list t.family list all) p) t.lists) (entry_keeps (λ x. x.prefix) (λ m. false) prefix_kept e q (none_sets e.lines))
  line_keeps (MatchNextHop t) e q n =
      ap (λ (h : Hop). next_hop_holds all t.family t.lists h) (entry_keeps (λ x. x.next_hop) (sets_tested (MatchNextHop t)) (next_hop_kept t) e q n)
  line_keeps (MatchCommunity t) e q n =
      ap (λ (cs : List Community). list_any (λ list. list_answers (community_list t.exact list all) cs) t.lists) (entry_keeps (λ x. x.communities) (sets_tested (MatchCommunity t)) (communities_kept t) e q n)
  line_keeps (MatchPath t) e q n =
      ap (λ (path : List ℕ). list_any (λ list. path_answers (path_list list all) path) t.lists) (entry_keeps (λ x. x.path) (sets_tested (MatchPath t)) (path_kept t) e q n)
  line_keeps (MatchMetric ns) e q n =
      ap (λ (med : ℕ). list_any (λ n. n == med) ns) (entry_keeps (λ x. x.med) (sets_tested (MatchMetric ns)) (med_kept ns) e q n)
  line_keeps _ e q n = refl

  -- none of the lines tests what the entry sets
  pub lines_keep_all : (ts : List MapLine) (e : Entry) (q : RouteParts) → AllByRecursion (λ t. some_sets e.lines t ≡ false) ts → list_all (line_holds all (set_by_entry all e q)) ts ≡ list_all (line_holds all q) ts
  lines_keep_all [] e q n = refl
  lines_keep_all (t ∷ ts) e q n =
      ap (λ (b : Bool). b && list_all (line_holds all (set_by_entry all e q)) ts) (line_keeps t e q n.0)
      ∙ ap (λ (b : Bool). line_holds all q t && b) (lines_keep_all ts e q n.1)
