-- One more node before those that test atoms or make changes.
use Rattle.std.proofs.Common.{◌≡◌, refl, sym, ap, ◌∙◌, ℕ, ◌<◌, Bool, true, false, cond, ◌&&◌, List, [], ◌∷◌, ◌++◌, append_assoc, length, inl, inr}
use Rattle.std.specs.List.{list_all}
use Rattle.std.proofs.lemmas.Bool.{and_parts}
use Rattle.std.proofs.lemmas.List.Folds.{list_all-append}
use Rattle.route_types.specs.Change.{changed_by}
use Rattle.route_types.specs.Route.{RouteParts}
use Rattle.route_types.specs.declared.change.Change.{Change}
use Rattle.route_types.specs.declared.route.Outcome.{Outcome}
use Rattle.path_patterns.specs.Items.{SomeOf}
use Rattle.core_nodes.specs.Atoms.{atom_holds}
use Rattle.core_nodes.specs.Made.{Keeps, IsMade}
use Rattle.core_nodes.specs.Outcome.{outcome_at}
use Rattle.core_nodes.specs.declared.atom.Atom.{Atom}
use Rattle.core_nodes.specs.declared.node.NodeKind.{NodeKind}
use Rattle.core_nodes.specs.declared.node.NodeKind.TheVariants.{Test, Do}
use Rattle.policy_core.specs.Apart.{Touched, touched_by, is_apart, apart_at}
use Rattle.policy_core.proofs.ApartLaws.{apart_grown, test_apart, act_apart}
use Rattle.policy_core.proofs.SettledLaws.{settled_grown, untested_grown, test_settled, act_untested, act_settled}
use Rattle.ios_lower.specs.Chains.{IsTestOf, IsActOf, are_apart, AreKept, Tests, Acts}
use Rattle.ios_lower.proofs.ChangeLaws.{changed_both}
use Rattle.ios_lower.proofs.Grows.{grows_none, grows_one}

-- ---- graphs that grow

pub keeps_none : (old : List NodeKind) → Keeps old old
keeps_none old = record { more = []; grown = refl; longer = λ p h. h; kinds = λ p h. refl; answers = λ p h r. refl }

pub keeps_both : (old now new : List NodeKind) → Keeps old now → Keeps now new → Keeps old new
keeps_both old now new k l =
    record {
      more = l.more ++ k.more;
      grown = l.grown ∙ ap (λ (xs : List NodeKind). l.more ++ xs) k.grown ∙ sym (append_assoc l.more k.more old);
      longer = λ p h. l.longer p (k.longer p h);
      kinds = λ p h. l.kinds p (k.longer p h) ∙ k.kinds p h;
      answers = λ p h r. l.answers p (k.longer p h) r ∙ k.answers p h r;
    }

-- the last of a list is one of it
pub last_in : {A : Type 0} (P : A → Type 0) (xs : List A) (x : A) → P x → SomeOf P (xs ++ x ∷ [])
last_in P [] x h = inl h
last_in P (y ∷ ys) x h = inr (last_in P ys x h)

-- what is one of a list's front is one of it
pub front_in : {A : Type 0} (P : A → Type 0) (xs ys : List A) → SomeOf P xs → SomeOf P (xs ++ ys)
front_in P [] ys h = absurd h
front_in P (x ∷ xs) ys (inl h) = inl h
front_in P (x ∷ xs) ys (inr h) = inr (front_in P xs ys h)

-- ---- tests

-- one outcome or the other
abbrev chosen : Bool → Outcome → Outcome → Outcome
chosen b one other = elim b [ true ↦ one | false ↦ other ]

-- l: the atoms that are left hold; h: the last one does
branch_by : (one node other : Outcome) (then next : ℕ) (out : ℕ → Outcome) (l h : Bool) → out then ≡ one → out next ≡ other → node ≡ out (cond h then next) → chosen l node other ≡ chosen (l && (h && true)) one other
branch_by one node other then next out true true e f m = m ∙ e
branch_by one node other then next out true false e f m = m ∙ f
branch_by one node other then next out false h e f m = refl

-- an atom of the list asks for nothing that was touched
one_apart : (t : Touched) (a : Atom) (atoms : List Atom) → are_apart atoms t ≡ true → SomeOf (λ b. a ≡ b) atoms → is_apart a t ≡ true
one_apart t a [] h k = absurd k
one_apart t a (b ∷ atoms) h (inl e) = ap (λ (x : Atom). is_apart x t) e ∙ (and_parts (is_apart b t) (are_apart atoms t) h).0
one_apart t a (b ∷ atoms) h (inr k) = one_apart t a atoms (and_parts (is_apart b t) (are_apart atoms t) h).1 k

pub tests_none : (old : List NodeKind) (atoms : List Atom) (then other : ℕ) → then < length old → Tests old old atoms atoms then other then
tests_none old atoms then other h = record { within = h; grows = grows_none (IsTestOf atoms) old; keeps = keeps_none old; answers = λ r. refl; settled = λ x y. x; apart = λ t h x y. x; among = λ a k. k }

-- the last atom that is left is tested before the node
pub tests_more : (old now new : List NodeKind) (atoms left : List Atom) (a : Atom) (then other n p : ℕ) → other < length old → Tests old now atoms (left ++ a ∷ []) then other n → IsMade now new (Test a n other) p → Keeps now new → Tests old new atoms left then other p
tests_more old now new atoms left a then other n p o t m k =
    record {
      within = m.at.within;
      grows = grows_one (IsTestOf atoms) old now new (Test a n other) (t.among a (last_in (λ b. a ≡ b) left a refl)) t.grows m.grown;
      keeps = keeps_both old now new t.keeps k;
      answers = λ r.
          branch_by (outcome_at now n r) (outcome_at new p r) (outcome_at old other r) n other (λ q. outcome_at now q r) (list_all (λ b. atom_holds b r) left) (atom_holds a r) refl (t.keeps.answers other o r) (m.answers r)
          ∙ ap (λ (b : Bool). elim b [ true ↦ outcome_at now n r | false ↦ outcome_at old other r ]) (sym (list_all-append (λ b. atom_holds b r) left (a ∷ [])))
          ∙ t.answers r;
      settled = λ x y. test_settled new p n other a (record { facts = m.facts; there = m.at.there }) (settled_grown now new n k t.within (t.settled x y)) (settled_grown now new other k (t.keeps.longer other o) (settled_grown old now other t.keeps o y));
      apart = λ u h x y.
          test_apart new p n other a u (record { facts = m.facts; there = m.at.there }) (one_apart u a atoms h (t.among a (last_in (λ b. a ≡ b) left a refl)))
          (apart_grown now new n u k t.within ∙ t.apart u h x y) (apart_grown now new other u k (t.keeps.longer other o) ∙ apart_grown old now other u t.keeps o ∙ y);
      among = λ b h. t.among b (front_in (λ c. b ≡ c) left (a ∷ []) h);
    }

-- ---- changes

pub acts_none : (old : List NodeKind) (changes : List Change) (next : ℕ) → next < length old → Acts old old changes changes next next
acts_none old changes next h = record { within = h; grows = grows_none (IsActOf changes) old; keeps = keeps_none old; answers = λ r. refl; untested = λ x. x; settled = λ x y. y; apart = λ test kept h t passes. h t passes; among = λ c k. k }

-- the last change that is left is made before the node
pub acts_more : (old now new : List NodeKind) (changes left : List Change) (c : Change) (next n p : ℕ) → Acts old now changes (left ++ c ∷ []) next n → IsMade now new (Do c n) p → Keeps now new → Acts old new changes left next p
acts_more old now new changes left c next n p t m k =
    record {
      within = m.at.within;
      grows = grows_one (IsActOf changes) old now new (Do c n) (t.among c (last_in (λ d. c ≡ d) left c refl)) t.grows m.grown;
      keeps = keeps_both old now new t.keeps k;
      answers = λ r. m.answers (changed_by left r) ∙ ap (λ (q : RouteParts). outcome_at now n q) (sym (changed_both left (c ∷ []) r)) ∙ t.answers r;
      untested = λ x. act_untested new p n c (record { facts = m.facts; there = m.at.there }) (untested_grown now new n k t.within (t.untested x));
      settled = λ x y. act_settled new p n c (record { facts = m.facts; there = m.at.there }) (untested_grown now new n k t.within (t.untested x));
      apart = λ test kept h u passes.
          act_apart new p n c u (record { facts = m.facts; there = m.at.there })
          (apart_grown now new n (touched_by c u) k t.within ∙ t.apart test kept h (touched_by c u) (kept c (t.among c (last_in (λ d. c ≡ d) left c refl)) u passes));
      among = λ d h. t.among d (front_in (λ e. d ≡ e) left (c ∷ []) h);
    }
