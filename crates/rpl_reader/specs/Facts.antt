-- What the rules of the profile look at beside a statement: facts of the whole text, and what stands before.
use Rattle.std.specs.Prelude.{ℕ, Bool, false, ◌||◌, List, [], ◌∷◌, Some, None, bytes_eq}
use Rattle.std.specs.List.{list_any}
use Rattle.text_words.specs.declared.rpl_blocks.BlockKind.{BlockKind}
use Rattle.rpl_forms.specs.declared.item.RplForm.{RplForm}
use Rattle.rpl_forms.specs.declared.item.RplItem.{RplItem}
use Rattle.policy_calls.specs.Calls.{turns_back}
use Rattle.policy_calls.specs.Depth.{is_too_deep as is_too_deep_call}
use Rattle.rpl_calls.specs.Policies.{opens, name_under, parameters_in}
use Rattle.rpl_calls.specs.Calls.{calls_of, links}
use Rattle.rpl_facts.specs.Blocks.{heads, is_there, has_wide, takes_other}
use Rattle.rpl_reader.specs.Depth.{ifs_behind}

-- ---- facts of the text

-- which blocks are there; which community sets have an element that isn't a single community; which policies have another
-- number of parameters; which calls lead back to their caller; and in which policies a call is too deep
pub record Facts : Type 0 where
  pub there : BlockKind → List ℕ → Bool
  pub wide : List ℕ → Bool
  pub takes_other : List ℕ → ℕ → Bool
  pub turns_back : List ℕ → List ℕ → Bool
  pub too_deep : List ℕ → Bool

-- the facts of a text for the policy of this name
abbrev pub facts_of : List ℕ → List RplItem → Facts
facts_of policy all = record {
  there = λ kind q. is_there kind q all;
  wide = λ q. has_wide q false all;
  takes_other = λ q n. list_any (λ i. takes_other q n i.form) all;
  turns_back = λ p q. turns_back (links (calls_of all)) p q;
  too_deep = λ q. is_too_deep_call (links (calls_of all)) (policy ∷ []) q;
}

-- ---- what stands before

-- the blocks that begin before, the name and the parameters of the block that is open, and how many `if`s are open
pub record Before : Type 0 where
  pub stands : BlockKind → List ℕ → Bool
  pub name : List ℕ
  pub has_parameter : List ℕ → Bool
  pub ifs : ℕ

abbrev pub nothing_before : Before
nothing_before = record { stands = λ kind q. false; name = []; has_parameter = λ q. false; ifs = 0 }

-- behind one more form: a block begins with no `if`
abbrev pub behind_form : RplForm → Before → Before
behind_form f b = record {
  stands = λ kind q. heads kind q f || b.stands kind q;
  name = elim (opens f) [ Some kind ↦ name_under f | None ↦ b.name ];
  has_parameter = λ q. elim (opens f) [ Some kind ↦ list_any (bytes_eq q) (parameters_in f) | None ↦ b.has_parameter q ];
  ifs = elim (opens f) [ Some kind ↦ 0 | None ↦ ifs_behind f b.ifs ];
}

-- what stands before, behind these items, the nearest first
abbrev pub before_of : List RplItem → Before
before_of [] = nothing_before
before_of (i ∷ before) = behind_form i.form (before_of before)
