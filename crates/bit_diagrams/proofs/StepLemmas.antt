-- Each step of the loop that works out a choice keeps what the loop keeps.
use Rattle.std.proofs.Common.{◌≡◌, ℕ, ◌<◌, ◌≤◌, min, Bool, false, List, [], ◌∷◌, ◌++◌, Option, Some, None, if◌then◌else◌, refl, sym, ap, subst, ◌∙◌, inl, inr, arith, slice_index_or, append_assoc}
use Rattle.std.proofs.lemmas.Bool.{cases_Bool}
use Rattle.bit_diagrams.specs.declared.parts.Node.{Node}
use Rattle.bit_diagrams.specs.declared.waiting.Choice.{Choice}
use Rattle.bit_diagrams.specs.Store.{Store, IsIdOf, IsStore, place_of}
use Rattle.bit_diagrams.specs.Meaning.{holds}
use Rattle.bit_diagrams.specs.Choice.{Grows, IsBranch, IsChoiceOf, IsAnswer, IsSound, IsOpen, IsDeeper, IsNodeFor, choice_place, choice_holds, same_choice}
use Rattle.bit_diagrams.proofs.NodeLemmas.{place_of-append}
use Rattle.bit_diagrams.proofs.StoreLemmas.{keeps_grows}
use Rattle.bit_diagrams.proofs.ChoiceLemmas.{choice_within}
use Rattle.bit_diagrams.proofs.WorkLemmas.{IsAtWork, Waits, root_of, Answered, same_choice-true, work_left, descend_less}

-- a store that grows leaves the place of each of its Ids
place_of-grows : (old new : Store) (id : ℕ) → Grows old new → IsIdOf old id
    → place_of new.places new.nodes id ≡ place_of old.places old.nodes id
place_of-grows old new id g of =
    (λ i. place_of (g.places i) (g.nodes.1 i) id) ∙ place_of-append old.places g.nodes.0 old.nodes id of

pub choice_place-grows : (old new : Store) (c : Choice) → Grows old new → IsChoiceOf old c
    → choice_place new c ≡ choice_place old c
unfolding choice_place
choice_place-grows old new c g of =
    let t = place_of-grows old new c.test g of.of_test in
    let h = place_of-grows old new c.high g of.of_high in
    let l = place_of-grows old new c.low g of.of_low in
    λ i. min (t i) (min (h i) (l i))

-- its choices
pub choice_of-grows : (old new : Store) (c : Choice) → Grows old new → IsChoiceOf old c
    → IsChoiceOf new c
choice_of-grows old new c g of =
    let k = keeps_grows old new g in
    record {
      of_test = k.of_store c.test of.of_test;
      of_high = k.of_store c.high of.of_high;
      of_low = k.of_store c.low of.of_low;
    }

pub choice_holds-grows : (old new : Store) (c : Choice) (bits : List Bool) → Grows old new
    → IsChoiceOf old c → choice_holds new c bits ≡ choice_holds old c bits
choice_holds-grows old new c bits g of =
    let k = keeps_grows old new g in
    let t = k.exact c.test of.of_test bits in
    let h = k.exact c.high of.of_high bits in
    let l = k.exact c.low of.of_low bits in
    λ i. if t i then h i else l i

-- and their answers
pub answer_grows : (old new : Store) (c : Choice) (id : ℕ) → Grows old new → IsChoiceOf old c
    → IsAnswer old c id → IsAnswer new c id
answer_grows old new c id g of h =
    let k = keeps_grows old new g in
    record {
      of_store = k.of_store id h.of_store;
      rises = omega (
        arith,
        choice_place-grows old new c g of,
        place_of-grows old new id g h.of_store,
        h.rises,
      );
      exact = λ bits. k.exact id h.of_store bits ∙ h.exact bits
          ∙ sym (choice_holds-grows old new c bits g of);
    }

pub grows_trans : (a b c : Store) → Grows a b → Grows b c → Grows a c
grows_trans a b c g h = record {
  places = h.places ∙ g.places;
  nodes = (
    h.nodes.0 ++ g.nodes.0,
    h.nodes.1 ∙ ap (λ l. h.nodes.0 ++ l) g.nodes.1
        ∙ sym (append_assoc h.nodes.0 g.nodes.0 a.nodes),
  );
}

pub grows_refl : (s : Store) → Grows s s
grows_refl s = record { places = refl; nodes = ([], refl) }

-- an open choice of the first store is one of the store now
pub open_now : (first now : Store) (answer : Choice → Option ℕ) (c : Choice) → Grows first now
    → IsOpen first answer c → IsOpen now answer c
open_now first now answer c g h = record {
  of_store = choice_of-grows first now c g h.of_store;
  tests = h.tests;
  unknown = h.unknown;
}

no_answer : (answer : Choice → Option ℕ) (c : Choice) (id : ℕ) → ((q : Choice) → answer q ≡ None)
    → answer c ≡ Some id → ⊥
no_answer answer c id none is = let e : None ≡ Some id = sym (none c) ∙ is in cc

-- before the first step
pub work_starts : (first : Store) (start : Choice) (answer : Choice → Option ℕ)
    → IsChoiceOf first start → 2 ≤ start.test → ((q : Choice) → answer q ≡ None)
    → IsAtWork first start first answer [] start
work_starts first start answer of tests none = record {
  grows = grows_refl first;
  sound = record {
    choices = λ c id is. absurd (no_answer answer c id none is);
    answers = λ c id is. absurd (no_answer answer c id none is);
  };
  root = refl;
  here = record { of_store = of; tests = tests; unknown = none start };
  waits = tt;
}

-- a deeper choice is of the first store, and of a later place there
smaller : (first now : Store) (current half : Choice) → IsChoiceOf first current
    → IsDeeper now current half → IsChoiceOf first half
smaller first now current half of deeper = record {
  of_test = omega (arith, deeper.test, of.of_test);
  of_high = omega (arith, deeper.high, of.of_high);
  of_low = omega (arith, deeper.low, of.of_low);
}

later_place : (first now : Store) (current half : Choice) → Grows first now
    → IsChoiceOf first current → IsDeeper now current half
    → choice_place first current < choice_place first half
later_place first now current half g of deeper =
    omega (
      arith,
      deeper.later,
      choice_place-grows first now current g of,
      choice_place-grows first now half g (smaller first now current half of deeper),
    )

-- down to a half
pub work_descends : (first : Store) (start : Choice) (now : Store) (answer : Choice → Option ℕ)
    (waiting : List Choice) (current half : Choice) (after : List Choice)
    → IsAtWork first start now answer waiting current → IsOpen now answer half
    → IsDeeper now current half → after ≡ current ∷ waiting
    → IsAtWork first start now answer after half
work_descends first start now answer waiting current half after h is_open deeper e = record {
  grows = h.grows;
  sound = h.sound;
  root = ap (λ l. root_of half l) e ∙ h.root;
  here = record {
    of_store = smaller first now current half h.here.of_store deeper;
    tests = is_open.tests;
    unknown = is_open.unknown;
  };
  waits = subst (λ l. Waits first answer (choice_place first half) l) (sym e)
      (h.here, later_place first now current half h.grows h.here.of_store deeper, h.waits);
}

-- the place of the choice at hand is one of the first store's
current_within : (first now : Store) (current : Choice) → Grows first now → IsStore now
    → IsChoiceOf first current → 2 ≤ current.test → choice_place first current < first.places
current_within first now current g are of tests =
    omega (
      arith,
      choice_within now current are (choice_of-grows first now current g of).of_test
          tests,
      choice_place-grows first now current g of,
      g.places,
    )

pub less_descends : (first : Store) (start : Choice) (now : Store) (answer : Choice → Option ℕ)
    (waiting : List Choice) (current half : Choice)
    → IsAtWork first start now answer waiting current → IsStore now → IsDeeper now current half
    → work_left first answer half < work_left first answer current
less_descends first start now answer waiting current half h are deeper =
    descend_less first answer current half
    (current_within first now current h.grows are h.here.of_store h.here.tests)
    (later_place first now current half h.grows h.here.of_store deeper)

-- the Id of the node that a choice comes to is its answer
pub answer_join : (now new : Store) (current : Choice) (n : Node) (id : ℕ) → Grows now new
    → IsChoiceOf now current → IsNodeFor now current n → IsBranch new n id → IsAnswer new current id
answer_join now new current n id g of h b =
    let k = keeps_grows now new g in
    record {
      of_store = b.of_store;
      rises = omega (arith, choice_place-grows now new current g of, h.at, b.rises);
      exact = λ bits.
          let high = k.exact n.high h.of_high bits in
          let low = k.exact n.low h.of_low bits in
          let same : (if slice_index_or bits n.place false then holds new n.high bits else holds new
          n.low bits) ≡ (if slice_index_or bits n.place false then holds now n.high bits else
          holds now n.low bits) =
          λ i. if slice_index_or bits n.place false then high i else low i in
          b.exact bits ∙ same ∙ h.exact bits ∙ sym (choice_holds-grows now new current bits g of);
    }

Some-same : (a b : ℕ) → Some a ≡ Some b → a ≡ b
Some-same a b e = cc

-- the answers stay sound with one more
sound_join : (now new : Store) (answer after : Choice → Option ℕ) (current : Choice) (id : ℕ)
    → Grows now new → IsSound now answer → IsChoiceOf now current → IsAnswer new current id
    → Answered answer after current id → IsSound new after
sound_join now new answer after current id g sound of found h = record {
  choices = λ c i is.
      elim (cases_Bool (same_choice current c)) [
        | inl e ↦ subst (λ q. IsChoiceOf new q) (same_choice-true current c e)
            (choice_of-grows now new current g of)
        | inr e ↦
            let was : answer c ≡ Some i = sym (h c ∙ ap (λ b. if b then Some id else answer c) e) ∙ is in
            choice_of-grows now new c g (sound.choices c i was)
      ];
  answers = λ c i is.
      elim (cases_Bool (same_choice current c)) [
        | inl e ↦
            let at : Some id ≡ Some i = sym (h c ∙ ap (λ b. if b then Some id else answer c) e) ∙ is in
            subst (λ j. IsAnswer new c j) (Some-same id i at)
            (subst (λ q. IsAnswer new q id) (same_choice-true current c e) found)
        | inr e ↦
            let was : answer c ≡ Some i = sym (h c ∙ ap (λ b. if b then Some id else answer c) e) ∙ is in
            answer_grows now new c i g (sound.choices c i was) (sound.answers c i was)
      ];
}

-- a choice of an earlier place stays open
open_join : (first : Store) (answer after : Choice → Option ℕ) (current c : Choice) (id : ℕ)
    → Answered answer after current id → choice_place first c < choice_place first current
    → IsOpen first answer c → IsOpen first after c
open_join first answer after current c id h earlier is_open = record {
  of_store = is_open.of_store;
  tests = is_open.tests;
  unknown =
      elim (cases_Bool (same_choice current c)) [
        | inl e ↦
            let same : choice_place first current ≡ choice_place first c =
            ap (λ q. choice_place first q) (same_choice-true current c e) in
            absurd (omega (arith, same, earlier))
        | inr e ↦ h c ∙ ap (λ b. if b then Some id else answer c) e ∙ is_open.unknown
      ];
}

-- so do all that wait
waits_join : (first : Store) (answer after : Choice → Option ℕ) (current : Choice) (id place : ℕ)
    (rest : List Choice) → Answered answer after current id → place ≤ choice_place first current
    → Waits first answer place rest → Waits first after place rest
waits_join first answer after current id place [] h le waits = tt
waits_join first answer after current id place (c ∷ rest) h le waits = (
  open_join first answer after current c id h (omega (arith, waits.1, le)) waits.0,
  waits.1,
  waits_join first answer after current id (choice_place first c) rest h
      (omega (arith, waits.1, le)) waits.2,
)

-- back to the choice that waited
pub work_joins : (first : Store) (start : Choice) (now new : Store)
    (answer after : Choice → Option ℕ) (waiting rest : List Choice) (current parent : Choice)
    (n : Node) (id : ℕ)
    → IsAtWork first start now answer waiting current → IsNodeFor now current n → Grows now new
    → IsBranch new n id → Answered answer after current id → waiting ≡ parent ∷ rest
    → IsAtWork first start new after rest parent
work_joins first start now new answer after waiting rest current parent n id h node g b more e =
    let of = choice_of-grows first now current h.grows h.here.of_store in
    let found = answer_join now new current n id g of node b in
    let waits : Waits first answer (choice_place first current) (parent ∷ rest) =
    subst (λ l. Waits first answer (choice_place first current) l) e h.waits in
    record {
      grows = grows_trans first now new h.grows g;
      sound = sound_join now new answer after current id g h.sound of found more;
      root = sym (ap (λ l. root_of current l) e) ∙ h.root;
      here = open_join first answer after current parent id more waits.1 waits.0;
      waits = waits_join first answer after current id (choice_place first parent) rest more
          (omega (arith, waits.1)) waits.2;
    }

-- nothing waited: the answer is that of the first choice
pub work_ends : (first : Store) (start : Choice) (now new : Store) (answer : Choice → Option ℕ)
    (waiting : List Choice) (current : Choice) (n : Node) (id : ℕ)
    → IsAtWork first start now answer waiting current → IsNodeFor now current n → Grows now new
    → IsBranch new n id → waiting ≡ []
    → IsAnswer new start id
work_ends first start now new answer waiting current n id h node g b e =
    let of = choice_of-grows first now current h.grows h.here.of_store in
    let begun : current ≡ start = sym (ap (λ l. root_of current l) e) ∙ h.root in
    subst (λ c. IsAnswer new c id) begun (answer_join now new current n id g of node b)
