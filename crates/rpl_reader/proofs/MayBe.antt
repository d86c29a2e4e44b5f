-- A parameter may be what it is found to be, and nothing else.
use Rattle.std.proofs.Common.{◌≡◌, refl, sym, ap, ◌∙◌, subst, ℕ, Bool, true, false, ◌&&◌, ◌==◌, List, [], ◌∷◌, Option, Some, None, slice_get, eqb-true}
use Rattle.std.specs.Prelude.{Decides, bytes_eq}
use Rattle.std.proofs.lemmas.Bool.{eq-eqb}
use Rattle.std.proofs.lemmas.Slice.Eq.{bytes_eq-Decides}
use Rattle.std.specs.List.{list_any}
use Rattle.step_search.specs.Found.{IsIn}
use Rattle.policy_text.specs.NameSets.{is_key}
use Rattle.rpl_forms.specs.declared.item.RplItem.{RplItem}
use Rattle.rpl_calls.specs.Parameters.{ParameterParts}
use Rattle.rpl_calls.specs.Arguments.{ArgumentParts, target}
use Rattle.rpl_calls.specs.declared.given.Fact.{Fact}
use Rattle.rpl_calls.specs.declared.given.Fact.TheVariants.{Wide, Length}
use Rattle.rpl_calls.specs.declared.given.Given.{Given}
use Rattle.rpl_reader.specs.Reach.{arguments_in}
use Rattle.rpl_reader.specs.Givens.{IsGivenAs, MayBe}
use Rattle.rpl_reader.specs.Possible.{known_may, fact_wide, fact_length, gives_wide, gives_length, may_by, HoldsGivens}
use Rattle.rpl_reader.specs.declared.possible.Possible.{Possible}
use Rattle.rpl_reader.proofs.Reached.{some_in, in_some}

key_parts : (a b c : Bool) → (a && b && c) ≡ true → (a ≡ true) × (b ≡ true) × (c ≡ true)
key_parts true true true e = (refl, refl, refl)
key_parts true true false e = absurd cc
key_parts true false true e = absurd cc
key_parts true false false e = absurd cc
key_parts false b c e = absurd cc

all_true : (a b c : Bool) → a ≡ true → b ≡ true → c ≡ true → (a && b && c) ≡ true
all_true a b c e f g = λ j. e j && f j && g j

module _ (n m : ℕ) (p q : ParameterParts) where
  same_key : is_key p.policy p.place n q.policy q.place m ≡ true → (q ≡ p) × (n ≡ m)
  same_key e =
      let parts = key_parts (n == m) (p.place == q.place) (bytes_eq p.policy q.policy) e in
      let place = eqb-true p.place q.place parts.1 in
      let policy = (bytes_eq-Decides p.policy q.policy).0 parts.2 in
      (sym (λ i. record { policy = policy i; place = place i }), eqb-true n m parts.0)

own_key : (n : ℕ) (p : ParameterParts) → is_key p.policy p.place n p.policy p.place n ≡ true
own_key n p = all_true (n == n) (p.place == p.place) (bytes_eq p.policy p.policy) (eq-eqb n n refl) (eq-eqb p.place p.place refl) ((bytes_eq-Decides p.policy p.policy).1 refl)

module _ (policy : List ℕ) (all : List RplItem) (gs : List Given) (sound : (g : Given) → IsIn g gs → IsGivenAs policy all g) (whole : (g : Given) → IsGivenAs policy all g → IsIn g gs) where
  abbrev args : List ArgumentParts
  args = arguments_in all

  -- an argument that may be this is handed to the parameter
  made : (p : ParameterParts) (fact : Fact) (g : Given) (a : ArgumentParts) → IsIn g gs → slice_get args g.argument ≡ Some a → target a ≡ p → g.fact ≡ fact → MayBe policy all p fact
  made p fact g a here at handed same = record { k = g.argument; argument = a; there = at; handed = handed; given = subst (λ (f : Fact). IsGivenAs policy all (record { argument = g.argument; fact = f })) same (sound g here) }

  of_wide : (p : ParameterParts) (g : Given) (a : ArgumentParts) (fact : Fact) → IsIn g gs → slice_get args g.argument ≡ Some a → g.fact ≡ fact → fact_wide p.policy p.place 0 (target a) fact ≡ true → MayBe policy all p Wide
  of_wide p g a Wide here at same e = made p Wide g a here at (same_key 0 0 p (target a) e).0 same
  of_wide p g a (Length m) here at same e = absurd cc

  of_length : (p : ParameterParts) (n : ℕ) (g : Given) (a : ArgumentParts) (fact : Fact) → IsIn g gs → slice_get args g.argument ≡ Some a → g.fact ≡ fact → fact_length p.policy p.place n (target a) fact ≡ true → MayBe policy all p (Length n)
  of_length p n g a Wide here at same e = absurd cc
  of_length p n g a (Length m) here at same e = let key = same_key n m p (target a) e in made p (Length n) g a here at key.0 (same ∙ ap Length (sym key.1))

  forth : (p : ParameterParts) (fact : Fact) → may_by args gs p fact ≡ true → MayBe policy all p fact
  forth p Wide e =
      let found = some_in (gives_wide args p.policy p.place 0) gs e in
      at_argument found.0 (slice_get args found.0.argument) found.1 refl found.2
    where
      at_argument : (g : Given) (o : Option ArgumentParts) → IsIn g gs → slice_get args g.argument ≡ o → (elim o [ None ↦ false | Some a ↦ fact_wide p.policy p.place 0 (target a) g.fact ]) ≡ true → MayBe policy all p Wide
      at_argument g None here at e = absurd cc
      at_argument g (Some a) here at e = of_wide p g a g.fact here at refl e
  forth p (Length n) e =
      let found = some_in (gives_length args p.policy p.place n) gs e in
      at_argument found.0 (slice_get args found.0.argument) found.1 refl found.2
    where
      at_argument : (g : Given) (o : Option ArgumentParts) → IsIn g gs → slice_get args g.argument ≡ o → (elim o [ None ↦ false | Some a ↦ fact_length p.policy p.place n (target a) g.fact ]) ≡ true → MayBe policy all p (Length n)
      at_argument g None here at e = absurd cc
      at_argument g (Some a) here at e = of_length p n g a g.fact here at refl e

  back : (p : ParameterParts) (fact : Fact) → MayBe policy all p fact → may_by args gs p fact ≡ true
  back p Wide h =
      in_some (gives_wide args p.policy p.place 0) gs (record { argument = h.k; fact = Wide }) (whole _ h.given)
      (ap (λ (o : Option ArgumentParts). elim o [ None ↦ false | Some a ↦ fact_wide p.policy p.place 0 (target a) Wide ]) h.there
      ∙ ap (λ (q : ParameterParts). fact_wide p.policy p.place 0 q Wide) h.handed ∙ own_key 0 p)
  back p (Length n) h =
      in_some (gives_length args p.policy p.place n) gs (record { argument = h.k; fact = Length n }) (whole _ h.given)
      (ap (λ (o : Option ArgumentParts). elim o [ None ↦ false | Some a ↦ fact_length p.policy p.place n (target a) (Length n) ]) h.there
      ∙ ap (λ (q : ParameterParts). fact_length p.policy p.place n q (Length n)) h.handed ∙ own_key n p)

  pub may_decided : (p : ParameterParts) (fact : Fact) → Decides (may_by args gs p fact) (MayBe policy all p fact)
  may_decided p fact = (forth p fact, back p fact)

-- what is kept is what is found
pub kept_may : (all : List ArgumentParts) (gs : List Given) (m : Possible) → HoldsGivens all gs m → (p : ParameterParts) (fact : Fact) → known_may m p fact ≡ may_by all gs p fact
kept_may all gs m holds p Wide = holds.wide p.policy p.place 0
kept_may all gs m holds p (Length n) = holds.lengths p.policy p.place n
