-- Two nodes that the set takes for equal are one node, and so it is with all that nodes are made of.
use Rattle.std.proofs.Common.{◌≡◌, refl, ap, sym, ℕ, Bool, true, ◌&&◌, ◌==◌, Option, true≢false}
use Rattle.std.proofs.lemmas.Bool.{and_parts}
use Rattle.std.specs.Bool.{beq}
use Rattle.std.specs.Option.{option_eq}
use Rattle.std.specs.Cmp.Lexicographic.{pointwise}
use Rattle.route_types.specs.Address.{PrefixParts}
use Rattle.route_types.specs.Community.{RectParts}
use Rattle.route_types.specs.declared.address.Address.{Address}
use Rattle.route_types.specs.declared.address.Family.{Family}
use Rattle.route_types.specs.declared.address.Family.TheVariants.{V4, V6}
use Rattle.route_types.specs.declared.community.Community.{Community}
use Rattle.route_types.specs.declared.community.CommChange.{CommChange}
use Rattle.route_types.specs.declared.route.Origin.{Origin}
use Rattle.route_types.specs.declared.route.Origin.TheVariants.{Igp, Egp, Incomplete}
use Rattle.route_types.specs.declared.route.NextHop.{NextHop}
use Rattle.route_types.specs.declared.route.NextHop.TheVariants.{At, Own}
use Rattle.route_types.specs.declared.change.Change.{Change}
use Rattle.prefix_sets.specs.Range.{RangeParts}
use Rattle.prefix_sets.specs.declared.list.PrefixEntry.{PrefixEntry}
use Rattle.prefix_sets.specs.declared.list.PrefixList.{PrefixList}
use Rattle.community_sets.specs.declared.list.CommTest.{CommTest}
use Rattle.community_sets.specs.declared.list.CommTest.TheVariants.{AllOf, Exactly}
use Rattle.community_sets.specs.declared.list.CommEntry.{CommEntry}
use Rattle.community_sets.specs.declared.list.CommList.{CommList}
use Rattle.path_patterns.specs.declared.items.NumberRange.{NumberRange}
use Rattle.path_patterns.specs.declared.items.NumberSet.{NumberSet}
use Rattle.path_patterns.specs.declared.items.TokenItem.{TokenItem}
use Rattle.path_patterns.specs.declared.items.TokenBranch.{TokenBranch}
use Rattle.path_patterns.specs.declared.items.TokenPattern.{TokenPattern}
use Rattle.core_nodes.specs.declared.atom.PathEntry.{PathEntry}
use Rattle.core_nodes.specs.declared.atom.PathList.{PathList}
use Rattle.core_nodes.specs.declared.atom.Atom.{Atom}
use Rattle.core_nodes.specs.declared.node.NodeKind.{NodeKind}
use Rattle.core_nodes.specs.declared.node.NodeKind.TheVariants.{Test, Do, Stop}
use Rattle.route_types.specs.contracts.address.FamilyPartialEq.TheImpl as family
use Rattle.route_types.specs.contracts.route.OriginPartialEq.TheImpl as origin
use Rattle.route_types.specs.contracts.route.NextHopPartialEq.TheImpl as hop
use Rattle.route_types.specs.contracts.change.Change as changes
use Rattle.route_types.specs.contracts.change.ChangePartialEq.TheImpl as change
use Rattle.community_sets.specs.contracts.list.CommTestPartialEq.TheImpl as comm_test
use Rattle.core_nodes.specs.contracts.atom.Atom as atoms
use Rattle.core_nodes.specs.contracts.atom.AtomPartialEq.TheImpl as atom
use Rattle.core_nodes.specs.contracts.node.NodeKindPartialEq.TheImpl as kind
use Rattle.core_nodes.proofs.Tells.{Tells, numbers_tell, truths_tell, lists_tell, options_tell, one_tells, none_tells, enum_tells}

-- ---- addresses, prefixes and next hops

families : (a b : Family) → family.ghosts.eq a b ≡ true → a ≡ b
families V4 V4 e = refl
families V4 V6 e = absurd (true≢false (sym e))
families V6 V4 e = absurd (true≢false (sym e))
families V6 V6 e = refl

abbrev same_address : Address → Address → Bool
same_address a b = family.ghosts.eq a.family b.family && a.bits == b.bits

addresses : (a b : Address) → same_address a b ≡ true → a ≡ b
addresses a b e =
    let parts = and_parts (family.ghosts.eq a.family b.family) (a.bits == b.bits) e in
    let bits = numbers_tell.same a.bits b.bits parts.1 in
    λ i. record { family = families a.family b.family parts.0 i; bits = bits i }

abbrev same_prefix : PrefixParts → PrefixParts → Bool
same_prefix a b = same_address a.address b.address && a.length == b.length

prefixes : (a b : PrefixParts) → same_prefix a b ≡ true → a ≡ b
prefixes a b e =
    let parts = and_parts (same_address a.address b.address) (a.length == b.length) e in
    let n = numbers_tell.same a.length b.length parts.1 in
    λ i. record { address = addresses a.address b.address parts.0 i; length = n i }

hops : (a b : NextHop) → hop.ghosts.eq a b ≡ true → a ≡ b
hops (At a) (At b) e = ap At (addresses a b e)
hops (At a) Own e = absurd (true≢false (sym e))
hops Own (At b) e = absurd (true≢false (sym e))
hops Own Own e = refl

origins : (a b : Origin) → origin.ghosts.eq a b ≡ true → a ≡ b
origins Igp Igp e = refl
origins Igp Egp e = absurd (true≢false (sym e))
origins Igp Incomplete e = absurd (true≢false (sym e))
origins Egp Igp e = absurd (true≢false (sym e))
origins Egp Egp e = refl
origins Egp Incomplete e = absurd (true≢false (sym e))
origins Incomplete Igp e = absurd (true≢false (sym e))
origins Incomplete Egp e = absurd (true≢false (sym e))
origins Incomplete Incomplete e = refl

-- ---- prefix lists

abbrev same_range : RangeParts → RangeParts → Bool
same_range a b = same_prefix a.prefix b.prefix && (a.least == b.least && a.most == b.most)

ranges : (a b : RangeParts) → same_range a b ≡ true → a ≡ b
ranges a b e =
    let parts = and_parts (same_prefix a.prefix b.prefix) (a.least == b.least && a.most == b.most) e in
    let ends = and_parts (a.least == b.least) (a.most == b.most) parts.1 in
    let least = numbers_tell.same a.least b.least ends.0 in
    let most = numbers_tell.same a.most b.most ends.1 in
    λ i. record { prefix = prefixes a.prefix b.prefix parts.0 i; least = least i; most = most i }

abbrev same_prefix_entry : PrefixEntry → PrefixEntry → Bool
same_prefix_entry a b = beq a.permit b.permit && same_range a.range b.range

prefix_entries : Tells same_prefix_entry
prefix_entries = record {
  same = λ a b e.
      let parts = and_parts (beq a.permit b.permit) (same_range a.range b.range) e in
      let permit = truths_tell.same a.permit b.permit parts.0 in
      λ i. record { permit = permit i; range = ranges a.range b.range parts.1 i };
}

abbrev same_prefix_list : PrefixList → PrefixList → Bool
same_prefix_list a b = family.ghosts.eq a.family b.family && pointwise same_prefix_entry a.entries b.entries

prefix_lists : Tells same_prefix_list
prefix_lists = record {
  same = λ a b e.
      let parts = and_parts (family.ghosts.eq a.family b.family) (pointwise same_prefix_entry a.entries b.entries) e in
      let entries = (lists_tell same_prefix_entry prefix_entries).same a.entries b.entries parts.1 in
      λ i. record { family = families a.family b.family parts.0 i; entries = entries i };
}

-- ---- communities

abbrev same_community : Community → Community → Bool
same_community a b = a.0 == b.0

communities : Tells same_community
communities = record { same = λ a b e. let n = numbers_tell.same a.0 b.0 e in λ i. record { 0 = n i } }

abbrev same_rect : RectParts → RectParts → Bool
same_rect a b = a.high_least == b.high_least && (a.high_most == b.high_most && (a.low_least == b.low_least && a.low_most == b.low_most))

rects : Tells same_rect
rects = record {
  same = λ a b e.
      let first = and_parts (a.high_least == b.high_least) (a.high_most == b.high_most && (a.low_least == b.low_least && a.low_most == b.low_most)) e in
      let second = and_parts (a.high_most == b.high_most) (a.low_least == b.low_least && a.low_most == b.low_most) first.1 in
      let third = and_parts (a.low_least == b.low_least) (a.low_most == b.low_most) second.1 in
      let high_least = numbers_tell.same a.high_least b.high_least first.0 in
      let high_most = numbers_tell.same a.high_most b.high_most second.0 in
      let low_least = numbers_tell.same a.low_least b.low_least third.0 in
      let low_most = numbers_tell.same a.low_most b.low_most third.1 in
      λ i. record { high_least = high_least i; high_most = high_most i; low_least = low_least i; low_most = low_most i };
}

comm_tests : (a b : CommTest) → comm_test.ghosts.eq a b ≡ true → a ≡ b
comm_tests (AllOf xs) (AllOf ys) e = ap AllOf ((lists_tell same_rect rects).same xs ys e)
comm_tests (AllOf xs) (Exactly ys) e = absurd (true≢false (sym e))
comm_tests (Exactly xs) (AllOf ys) e = absurd (true≢false (sym e))
comm_tests (Exactly xs) (Exactly ys) e = ap Exactly ((lists_tell same_community communities).same xs ys e)

abbrev same_comm_entry : CommEntry → CommEntry → Bool
same_comm_entry a b = beq a.permit b.permit && comm_test.ghosts.eq a.test b.test

comm_entries : Tells same_comm_entry
comm_entries = record {
  same = λ a b e.
      let parts = and_parts (beq a.permit b.permit) (comm_test.ghosts.eq a.test b.test) e in
      let permit = truths_tell.same a.permit b.permit parts.0 in
      λ i. record { permit = permit i; test = comm_tests a.test b.test parts.1 i };
}

abbrev same_comm_list : CommList → CommList → Bool
same_comm_list a b = pointwise same_comm_entry a.entries b.entries

comm_lists : Tells same_comm_list
comm_lists = record {
  same = λ a b e. let entries = (lists_tell same_comm_entry comm_entries).same a.entries b.entries e in λ i. record { entries = entries i };
}

abbrev same_comm_change : CommChange → CommChange → Bool
same_comm_change a b = pointwise same_rect a.removed b.removed && pointwise same_community a.added b.added

comm_changes : Tells same_comm_change
comm_changes = record {
  same = λ a b e.
      let parts = and_parts (pointwise same_rect a.removed b.removed) (pointwise same_community a.added b.added) e in
      let removed = (lists_tell same_rect rects).same a.removed b.removed parts.0 in
      let added = (lists_tell same_community communities).same a.added b.added parts.1 in
      λ i. record { removed = removed i; added = added i };
}

-- ---- path lists

abbrev same_number_range : NumberRange → NumberRange → Bool
same_number_range a b = a.least == b.least && a.most == b.most

number_ranges : Tells same_number_range
number_ranges = record {
  same = λ a b e.
      let parts = and_parts (a.least == b.least) (a.most == b.most) e in
      let least = numbers_tell.same a.least b.least parts.0 in
      let most = numbers_tell.same a.most b.most parts.1 in
      λ i. record { least = least i; most = most i };
}

abbrev same_number_set : NumberSet → NumberSet → Bool
same_number_set a b = pointwise same_number_range a.ranges b.ranges

number_sets : (a b : NumberSet) → same_number_set a b ≡ true → a ≡ b
number_sets a b e = let ranges = (lists_tell same_number_range number_ranges).same a.ranges b.ranges e in λ i. record { ranges = ranges i }

abbrev same_most : Option ℕ → Option ℕ → Bool
same_most a b = option_eq (λ x y. x == y) a b

abbrev same_item : TokenItem → TokenItem → Bool
same_item a b = same_number_set a.set b.set && (a.least == b.least && same_most a.most b.most)

items : Tells same_item
items = record {
  same = λ a b e.
      let parts = and_parts (same_number_set a.set b.set) (a.least == b.least && same_most a.most b.most) e in
      let ends = and_parts (a.least == b.least) (same_most a.most b.most) parts.1 in
      let least = numbers_tell.same a.least b.least ends.0 in
      let most = (options_tell (λ x y. x == y) numbers_tell).same a.most b.most ends.1 in
      λ i. record { set = number_sets a.set b.set parts.0 i; least = least i; most = most i };
}

abbrev same_branch : TokenBranch → TokenBranch → Bool
same_branch a b = pointwise same_item a.items b.items

branches_tell : Tells same_branch
branches_tell = record {
  same = λ a b e. let found = (lists_tell same_item items).same a.items b.items e in λ i. record { items = found i };
}

abbrev same_pattern : TokenPattern → TokenPattern → Bool
same_pattern a b = pointwise same_branch a.branches b.branches

patterns : (a b : TokenPattern) → same_pattern a b ≡ true → a ≡ b
patterns a b e = let found = (lists_tell same_branch branches_tell).same a.branches b.branches e in λ i. record { branches = found i }

abbrev same_path_entry : PathEntry → PathEntry → Bool
same_path_entry a b = beq a.permit b.permit && same_pattern a.pattern b.pattern

path_entries : Tells same_path_entry
path_entries = record {
  same = λ a b e.
      let parts = and_parts (beq a.permit b.permit) (same_pattern a.pattern b.pattern) e in
      let permit = truths_tell.same a.permit b.permit parts.0 in
      λ i. record { permit = permit i; pattern = patterns a.pattern b.pattern parts.1 i };
}

abbrev same_path_list : PathList → PathList → Bool
same_path_list a b = pointwise same_path_entry a.entries b.entries

path_lists : Tells same_path_list
path_lists = record {
  same = λ a b e. let entries = (lists_tell same_path_entry path_entries).same a.entries b.entries e in λ i. record { entries = entries i };
}

-- ---- tests, changes and nodes

atoms_tell : (a b : Atom) → atom.ghosts.eq a b ≡ true → a ≡ b
atoms_tell a b e =
    enum_tells atoms.enum (
      λ x y. pointwise same_prefix_list x.0 y.0,
      (
        λ x y. pointwise same_prefix_list x.0 y.0,
        (
          λ x y. pointwise same_path_list x.0 y.0,
          (
            λ x y. pointwise same_comm_list x.0 y.0,
            (
              λ x y. pointwise (λ m n. m == n) x.0 y.0,
              (
                λ x y. x.0 == y.0,
                (
                  λ x y. x.0 == y.0,
                  (
                    λ x y. x.0 == y.0,
                    (
                      λ x y. origin.ghosts.eq x.0 y.0,
                      (
                        λ x y. true,
                        (tt),
                      ),
                    ),
                  ),
                ),
              ),
            ),
          ),
        ),
      ),
    ) (
      one_tells _ (lists_tell same_prefix_list prefix_lists),
      (
        one_tells _ (lists_tell same_prefix_list prefix_lists),
        (
          one_tells _ (lists_tell same_path_list path_lists),
          (
            one_tells _ (lists_tell same_comm_list comm_lists),
            (
              one_tells _ (lists_tell (λ m n. m == n) numbers_tell),
              (
                one_tells _ numbers_tell,
                (
                  one_tells _ numbers_tell,
                  (
                    one_tells _ numbers_tell,
                    (
                      one_tells _ (record { same = origins }),
                      (
                        none_tells,
                        (tt),
                      ),
                    ),
                  ),
                ),
              ),
            ),
          ),
        ),
      ),
    ) a b e

changes_tell : (a b : Change) → change.ghosts.eq a b ≡ true → a ≡ b
changes_tell a b e =
    enum_tells changes.enum (
      λ x y. hop.ghosts.eq x.0 y.0,
      (
        λ x y. x.0 == y.0,
        (
          λ x y. origin.ghosts.eq x.0 y.0,
          (
            λ x y. x.0 == y.0,
            (
              λ x y. x.0 == y.0,
              (
                λ x y. x.0 == y.0,
                (
                  λ x y. same_comm_change x.0 y.0,
                  (tt),
                ),
              ),
            ),
          ),
        ),
      ),
    ) (
      one_tells _ (record { same = hops }),
      (
        one_tells _ numbers_tell,
        (
          one_tells _ (record { same = origins }),
          (
            one_tells _ numbers_tell,
            (
              one_tells _ numbers_tell,
              (
                one_tells _ numbers_tell,
                (
                  one_tells _ comm_changes,
                  (tt),
                ),
              ),
            ),
          ),
        ),
      ),
    ) a b e

-- whether two nodes are the same, as the set tests it
abbrev pub same_kind : NodeKind → NodeKind → Bool
same_kind a b = kind.ghosts.eq a b

pub kinds_tell : (k l : NodeKind) → same_kind k l ≡ true → k ≡ l
kinds_tell (Test a p q) (Test b r s) e =
    let parts = and_parts (atom.ghosts.eq a b) (p == r && q == s) e in
    let places = and_parts (p == r) (q == s) parts.1 in
    let one = atoms_tell a b parts.0 in
    let left = numbers_tell.same p r places.0 in
    let right = numbers_tell.same q s places.1 in
    λ i. Test (one i) (left i) (right i)
kinds_tell (Test a p q) (Do c n) e = absurd (true≢false (sym e))
kinds_tell (Test a p q) (Stop x) e = absurd (true≢false (sym e))
kinds_tell (Do c n) (Test a p q) e = absurd (true≢false (sym e))
kinds_tell (Do c n) (Do d m) e =
    let parts = and_parts (change.ghosts.eq c d) (n == m) e in
    let one = changes_tell c d parts.0 in
    let next = numbers_tell.same n m parts.1 in
    λ i. Do (one i) (next i)
kinds_tell (Do c n) (Stop x) e = absurd (true≢false (sym e))
kinds_tell (Stop x) (Test a p q) e = absurd (true≢false (sym e))
kinds_tell (Stop x) (Do c n) e = absurd (true≢false (sym e))
kinds_tell (Stop x) (Stop y) e = ap Stop (truths_tell.same x y e)
