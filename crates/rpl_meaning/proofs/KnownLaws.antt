-- What is known of policies that were run: effects in tables that grow, and applied policies by the words that are handed to them.
use Rattle.std.proofs.Common.{◌≡◌, refl, sym, ap, ◌∙◌, subst, ℕ, zero, suc, true, false, Option, Some, None, ◌<◌, ◌≤◌, ◌⊎◌, inl, inr, List, [], ◌∷◌, ◌++◌, length, take, slice_get, append-nil, append_assoc, arith}
use Rattle.std.specs.Prelude.{map, bytes_eq}
use Rattle.std.proofs.lemmas.List.{take-append-le}
use Rattle.std.proofs.Math.Seq.{take-append_seam}
use Rattle.route_types.specs.Route.{RouteParts}
use Rattle.rpl_forms.specs.declared.item.Apply.{Apply}
use Rattle.rpl_forms.specs.declared.item.Argument.{Argument}
use Rattle.rpl_forms.specs.declared.item.RplForm.{RplForm}
use Rattle.rpl_tree.specs.Tree.{forms}
use Rattle.rpl_effects.specs.Kept.{Key, words_of, kept_at}
use Rattle.rpl_effects.specs.declared.kept.Found.{Found}
use Rattle.rpl_effects.specs.declared.kept.Levels.{Levels}
use Rattle.rpl_meaning.specs.Handed.{bound, key_words}
use Rattle.rpl_meaning.specs.Sets.{Bindings, handed, word_given, parameters_of, block_at, policy_named}
use Rattle.rpl_meaning.specs.Meaning.{State, Fate, Goes, run_policy}
use Rattle.rpl_meaning.specs.Runs.{Grew, fate_at, Covers, Claim, Holds, instance_run, IsKnown, Learnt, IsFound}
use Rattle.rpl_meaning.specs.Steps.{called_in}
use Rattle.rpl_meaning.specs.Walk.{Ending, Start, fate_of}
use Rattle.rpl_meaning.specs.declared.known.Known.{Known}
use Rattle.rpl_meaning.specs.declared.tests.World.{World}

-- a policy that starts with this table and so
abbrev pub from : List Ending → State → Start
from table s = record { table = table; state = s }

-- ---- tables that grow

pub grew_not : (t : List Ending) → Grew t t
grew_not t = ([], sym (append-nil t))

pub grew_more : (a b c : List Ending) → Grew a b → Grew b c → Grew a c
grew_more a b c g h = (g.0 ++ h.0, h.1 ∙ ap (λ (t : List Ending). t ++ h.0) g.1 ∙ append_assoc a g.0 h.0)

pub get_below : {A : Type 0} (xs ys : List A) (n : ℕ) → n < length xs → slice_get (xs ++ ys) n ≡ slice_get xs n
get_below [] ys n below = absurd (omega arith)
get_below (y ∷ xs) ys zero below = refl
get_below (y ∷ xs) ys (suc n) below = get_below xs ys n (omega arith)

get_last : {A : Type 0} (xs : List A) (y : A) → slice_get (xs ++ (y ∷ [])) (length xs) ≡ Some y
get_last [] y = refl
get_last (x ∷ xs) y = get_last xs y

longer : {A : Type 0} (xs ys : List A) → length xs ≤ length (xs ++ ys)
longer [] ys = omega arith
longer (x ∷ xs) ys = let h = longer xs ys in omega arith

one_longer : {A : Type 0} (xs : List A) (y : A) → length xs < length (xs ++ (y ∷ []))
one_longer [] y = omega arith
one_longer (x ∷ xs) y = let h = one_longer xs y in omega arith

-- how a policy ends by its effect, which more effects leave as it is
abbrev fate_by : List Ending → Option Ending → State → Fate
fate_by older o s = elim o [ None ↦ Goes s | Some e ↦ fate_of (from older s) e ]

pub fate_there : (t : List Ending) (place : ℕ) (e : Ending) (s : State) → slice_get t place ≡ Some e → fate_at t place s ≡ fate_of (from (take place t) s) e
fate_there t place e s there = ap (λ (o : Option Ending). fate_by (take place t) o s) there

fate_kept : (t u : List Ending) (place : ℕ) (s : State) → place < length t → Grew t u → fate_at u place s ≡ fate_at t place s
fate_kept t u place s within g =
    ap (λ (x : List Ending). fate_at x place s) g.1
    ∙ ap (λ (o : Option Ending). fate_by (take place (t ++ g.0)) o s) (get_below t g.0 place within)
    ∙ ap (λ (older : List Ending). fate_by older (slice_get t place) s) (take-append-le place t g.0 (omega (arith, within)))

within_more : (t u : List Ending) (place : ℕ) → place < length t → Grew t u → place < length u
within_more t u place within g = let h = longer t g.0 in rw (g.1) (omega (arith, h, within))

pub holds_kept : (t u : List Ending) (claim : Claim) (f : Found) → Grew t u → Holds t claim f → Holds u claim f
holds_kept t u claim f g h = record {
  within = within_more t u f.place h.within g;
  runs = λ n covers s. fate_kept t u f.place s h.within g ∙ h.runs n covers s;
}

-- an effect that is what one policy does is what another does that ends alike
pub holds_alike : (t : List Ending) (claim other : Claim) (f : Found) → ((n : ℕ) (s : State) → claim n s ≡ other n s) → Holds t claim f → Holds t other f
holds_alike t claim other f same h = record { within = h.within; runs = λ n covers s. h.runs n covers s ∙ same n s }

pub learnt_not : (w : World) (k : Known) → IsKnown w k → Learnt w k k
learnt_not w k known = record { grew = grew_not k.effects.items; known = known }

pub learnt_more : (w : World) (a b c : Known) → Learnt w a b → Learnt w b c → Learnt w a c
learnt_more w a b c g h = record { grew = grew_more a.effects.items b.effects.items c.effects.items g.grew h.grew; known = h.known }

-- what was known is known of a table that has grown
known_kept : (w : World) (k l : Known) → l.kept ≡ k.kept → Grew k.effects.items l.effects.items → IsKnown w k → IsKnown w l
known_kept w k l same g known key f is =
    holds_kept k.effects.items l.effects.items (instance_run w (words_of key)) f g (known key f (ap (λ m. kept_at m.entries key) (sym same) ∙ is))

-- the effect of a policy behind those of the table
pub one_kept : (w : World) (before k l : Known) (levels : ℕ) (claim : Claim) (e : Ending) (held : Levels) (f : Found) → Learnt w before k → f ≡ record { place = length k.effects.items; levels = held } → l.effects.items ≡ k.effects.items ++ (e ∷ [])
    → l.kept ≡ k.kept → Covers held levels → ((n : ℕ) → Covers held n → (s : State) → fate_of (from k.effects.items s) e ≡ claim n s) → IsFound w before l levels claim f
one_kept w before k l levels claim e held f learnt is made same covers runs =
    let table = k.effects.items in
    let g : Grew table l.effects.items = (e ∷ [], made) in
    subst (λ (x : Found). IsFound w before l levels claim x) (sym is)
    (record {
      learnt = learnt_more w before k l learnt (record { grew = g; known = known_kept w k l same g learnt.known });
      covers = covers;
      holds = record {
        within = rw made (one_longer table e);
        runs = λ n c s.
            ap (λ (t : List Ending). fate_at t (length table) s) made
            ∙ fate_there (table ++ (e ∷ [])) (length table) e s (get_last table e)
            ∙ ap (λ (older : List Ending). fate_of (from older s) e) (take-append_seam table (e ∷ []))
            ∙ runs n c s;
      };
    })

-- ---- applied policies by their words

-- parameters that stand for the same words are the same
pub same_words : (one other : Bindings) → ((x : List ℕ) → one x ≡ other x) → one ≡ other
same_words one other same = λ i x. same x i

-- so the policy runs alike
pub run_alike : (levels : ℕ) (all : List RplForm) (r : RouteParts) (one other : Bindings) (name : List ℕ) (s : State) → ((x : List ℕ) → one x ≡ other x)
    → run_policy levels all r one name s ≡ run_policy levels all r other name s
run_alike levels all r one other name s same = ap (λ (bs : Bindings). run_policy levels all r bs name s) (same_words one other same)

bound_handed : (bs : Bindings) (ps : List (List ℕ)) (given : List Argument) (x : List ℕ) → handed bs ps given x ≡ bound ps (map (word_given bs) given) x
unfolding handed bound
bound_handed bs [] given x = refl
bound_handed bs (y ∷ ys) [] x = refl
bound_handed bs (y ∷ ys) (a ∷ given) x = ap (λ (w : List ℕ). elim (bytes_eq x y) [ true ↦ word_given bs a | false ↦ w ]) (bound_handed bs ys given x)

-- an applied policy runs by its words
called_by_words : (w : World) (n : ℕ) (bs : Bindings) (a : Apply) (s : State) → called_in w n bs a s ≡ instance_run w (key_words bs a) n s
called_by_words w n bs a s =
    let ps = parameters_of (block_at policy_named a.policy (forms w.items.now)) in
    run_alike n (forms w.items.now) w.route.now (handed bs ps a.arguments) (bound ps (map (word_given bs) a.arguments)) a.policy s (bound_handed bs ps a.arguments)

called_by_key : (w : World) (bs : Bindings) (a : Apply) (key : Key) → words_of key ≡ key_words bs a → (n : ℕ) (s : State) → called_in w n bs a s ≡ instance_run w (words_of key) n s
called_by_key w bs a key words n s = called_by_words w n bs a s ∙ sym (ap (λ (ws : List (List ℕ)). instance_run w ws n s) words)

-- what was found for its words is what the applied policy does
pub found_before : (w : World) (k : Known) (levels : ℕ) (bs : Bindings) (a : Apply) (key : Key) (f : Found) → IsKnown w k → words_of key ≡ key_words bs a → kept_at k.kept.entries key ≡ Some f → Covers f.levels levels
    → IsFound w k k levels (λ n s. called_in w n bs a s) f
found_before w k levels bs a key f known words is covers = record {
  learnt = learnt_not w k known;
  covers = covers;
  holds = holds_alike k.effects.items (instance_run w (words_of key)) (λ n s. called_in w n bs a s) f (λ n s. sym (called_by_key w bs a key words n s)) (known key f is);
}

-- what is found anew is kept under its words
pub found_anew : (w : World) (k l m : Known) (levels : ℕ) (bs inner : Bindings) (a : Apply) (name : List ℕ) (key : Key) (f : Found) → words_of key ≡ key_words bs a
    → IsFound w k l levels (λ n s. run_policy n (forms w.items.now) w.route.now inner name s) f
    → ((n : ℕ) (s : State) → run_policy n (forms w.items.now) w.route.now inner name s ≡ called_in w n bs a s)
    → m.effects ≡ l.effects
    → ((other : Key) (o : Found) → kept_at m.kept.entries other ≡ Some o → (kept_at l.kept.entries other ≡ Some o) ⊎ ((words_of other ≡ words_of key) × (o ≡ f)))
    → IsFound w k m levels (λ n s. called_in w n bs a s) f
found_anew w k l m levels bs inner a name key f words ran same effects others =
    let table : m.effects.items ≡ l.effects.items = ap (λ v. v.items) effects in
    let holds : Holds l.effects.items (λ n s. called_in w n bs a s) f = holds_alike l.effects.items (λ n s. run_policy n (forms w.items.now) w.route.now inner name s) (λ n s. called_in w n bs a s) f same ran.holds in
    record {
      learnt = record {
        grew = (ran.learnt.grew.0, table ∙ ran.learnt.grew.1);
        known = λ other o is. subst (λ (t : List Ending). Holds t (instance_run w (words_of other)) o) (sym table) (by other o holds (others other o is));
      };
      covers = ran.covers;
      holds = subst (λ (t : List Ending). Holds t (λ n s. called_in w n bs a s) f) (sym table) holds;
    }
  where
    by : (other : Key) (o : Found) → Holds l.effects.items (λ n s. called_in w n bs a s) f → (kept_at l.kept.entries other ≡ Some o) ⊎ ((words_of other ≡ words_of key) × (o ≡ f)) → Holds l.effects.items (instance_run w (words_of other)) o
    by other o holds (inl is) = ran.learnt.known other o is
    by other o holds (inr is) =
        subst (λ (x : Found). Holds l.effects.items (instance_run w (words_of other)) x) (sym is.1)
        (holds_alike l.effects.items (λ n s. called_in w n bs a s) (instance_run w (words_of other)) f
        (λ n s. called_by_key w bs a key words n s ∙ sym (ap (λ (ws : List (List ℕ)). instance_run w ws n s) is.0)) holds)
