-- What one form of a policy does in its run, with all that an applied policy does there, and what is known of applied
-- policies that were run before.
use Rattle.std.specs.Prelude.{◌≡◌, ℕ, ◌<◌, ◌≤◌, List, ◌++◌, Some, None, length, take, drop, slice_get}
use Rattle.rpl_forms.specs.declared.item.RplForm.{RplForm}
use Rattle.rpl_tree.specs.Nesting.{Steps, Rest, nested, with_form}
use Rattle.rpl_tree.specs.Tree.{forms}
use Rattle.rpl_effects.specs.Kept.{Key, words_of, kept_at}
use Rattle.rpl_effects.specs.declared.kept.Found.{Found}
use Rattle.rpl_effects.specs.declared.kept.Levels.{Levels}
use Rattle.rpl_meaning.specs.Sets.{Bindings, policy_named, block_at, parameters_of}
use Rattle.rpl_meaning.specs.Handed.{bound}
use Rattle.rpl_meaning.specs.Meaning.{State, Fate, Goes, run_policy, run_rest, first_name}
use Rattle.rpl_meaning.specs.Steps.{running_in}
use Rattle.rpl_meaning.specs.Walk.{Run, Ending, Start, chosen, state_of, fate_of}
use Rattle.rpl_meaning.specs.declared.judge.Body.{Body}
use Rattle.rpl_meaning.specs.declared.known.Known.{Known}
use Rattle.rpl_meaning.specs.declared.judge.Next.{Next}
use Rattle.rpl_meaning.specs.declared.judge.Next.TheVariants.{On, Ended}
use Rattle.rpl_meaning.specs.declared.judge.Turn.{Turn}
use Rattle.rpl_meaning.specs.declared.tests.World.{World}
use Rattle.rpl_meaning.specs.declared.walk.Mode.{Mode}

-- ---- tables of effects

-- the table has grown
abbrev pub Grew : List Ending → List Ending → Type 0
Grew table more = (newer : List Ending) × (more ≡ table ++ newer)

-- how a policy ends whose effect stands at a place of a table
abbrev pub fate_at : List Ending → ℕ → State → Fate
fate_at table place s = elim (slice_get table place) [ None ↦ Goes s | Some e ↦ fate_of (record { table = take place table; state = s }) e ]

-- the number of levels is one of these
pub record Covers (l : Levels) (n : ℕ) : Type 0 where
  pub least : l.least ≤ n
  pub most : n ≤ l.most

-- how a policy ends, by the levels of `apply` below it and by how the run stands before it
abbrev pub Claim : Type 0
Claim = ℕ → State → Fate

-- the effect is in the table, and is what the policy does with these numbers of levels
pub record Holds (table : List Ending) (claim : Claim) (f : Found) : Type 0 where
  pub within : f.place < length table
  pub runs : (n : ℕ) → Covers f.levels n → (s : State) → fate_at table f.place s ≡ claim n s

-- ---- applied policies by the words that are handed to them

-- how the policy ends that the first word names, where the others are handed to it
abbrev pub instance_run : World → List (List ℕ) → Claim
instance_run w words n s = run_policy n (forms w.items.now) w.route.now (bound (parameters_of (block_at policy_named (first_name words) (forms w.items.now))) (drop 1 words)) (first_name words) s

-- what was found of applied policies is what they do
abbrev pub IsKnown : World → Known → Type 0
IsKnown w k = (key : Key) (f : Found) → kept_at k.kept.entries key ≡ Some f → Holds k.effects.items (instance_run w (words_of key)) f

-- more is known than before
pub record Learnt (w : World) (before after : Known) : Type 0 where
  pub grew : Grew before.effects.items after.effects.items
  pub known : IsKnown w after

-- the effect of a policy has been found, for this number of levels too
pub record IsFound (w : World) (before after : Known) (levels : ℕ) (claim : Claim) (f : Found) : Type 0 where
  pub learnt : Learnt w before after
  pub covers : Covers f.levels levels
  pub holds : Holds after.effects.items claim f

-- ---- forms

-- what is left to run behind a form, by what the form came to
abbrev pub left_by : (Steps → State → Fate) → Start → Rest → Next → Fate
left_by go p r (On place) = chosen go place.mode r (state_of p place.run)
left_by go p r (Ended ending) = fate_of p ending

-- that is what a form comes to where the walk stands, whatever stands behind it, by each later table and with these
-- numbers of levels
pub record Leads (w : World) (before after : Known) (levels : ℕ) (bs : Bindings) (mode : Mode) (f : RplForm) (run : Run) (held : Levels) (x : Turn) : Type 0 where
  pub learnt : Learnt w before after
  pub covers : Covers held levels → Covers x.held levels
  pub narrower : (n : ℕ) → Covers x.held n → Covers held n
  pub leads : (table : List Ending) → Grew after.effects.items table → (n : ℕ) → Covers x.held n → (s : State) (r : Rest)
      → left_by (running_in w n bs) (record { table = table; state = s }) r x.next ≡ chosen (running_in w n bs) mode (with_form f r) (state_of (record { table = table; state = s }) run)

-- ---- policies

-- what stands in a policy has been run
pub record IsRun (w : World) (before after : Known) (levels : ℕ) (bs : Bindings) (body : List RplForm) (b : Body) : Type 0 where
  pub learnt : Learnt w before after
  pub covers : Covers b.levels levels
  pub runs : (table : List Ending) → Grew after.effects.items table → (n : ℕ) → Covers b.levels n → (s : State)
      → fate_of (record { table = table; state = s }) b.effect ≡ run_rest (running_in w n bs) (nested body) s
