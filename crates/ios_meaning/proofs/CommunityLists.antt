-- The walk that keeps the first answer of each community list finds what the lists answer.
use Rattle.std.proofs.Common.{◌≡◌, refl, sym, ap, ◌∙◌, ℕ, Bool, true, false, List, [], ◌∷◌, Option, Some, None}
use Rattle.std.specs.Prelude.{bytes_eq, unwrap_or}
use Rattle.route_types.specs.declared.community.Community.{Community}
use Rattle.community_sets.specs.Tests.{test_holds, list_answers}
use Rattle.community_sets.specs.declared.list.CommEntry.{CommEntry}
use Rattle.name_maps.specs.Under.{first_of}
use Rattle.name_maps.specs.declared.map.NameMap.{NameMap}
use Rattle.ios_tree.specs.declared.item.CommunityListEntry.{CommunityListEntry}
use Rattle.ios_tree.specs.declared.item.IosForm.{IosForm}
use Rattle.ios_tree.specs.declared.item.IosForm.TheVariants.{CommunityEntry as OfCommunityList}
use Rattle.ios_tree.specs.declared.item.IosItem.{IosItem}
use Rattle.ios_meaning.specs.Lists.{test_of, community_list, community_entry_from}
use Rattle.ios_meaning.specs.Answers.{answered_by, answered_from, held_at, AreCommunityAnswers}

first_kept : (o : Option Bool) (permit rest : Bool) → unwrap_or (first_of o permit) rest ≡ unwrap_or o permit
first_kept None permit rest = refl
first_kept (Some a) permit rest = refl

-- n: the entry is of the list; t: it holds
step_by : (exact : Bool) (cs : List Community) (e : CommunityListEntry) (es : List CommEntry) (o : Option Bool) (n t : Bool) → test_holds (test_of exact e.shape) cs ≡ t
    → unwrap_or (elim t [ true ↦ elim n [ true ↦ first_of o e.permit | false ↦ o ] | false ↦ o ]) (list_answers es cs)
    ≡ unwrap_or o (list_answers (elim n [ true ↦ record { permit = e.permit; test = test_of exact e.shape } ∷ es | false ↦ es ]) cs)
unfolding list_answers
step_by exact cs e es o true true h =
    first_kept o e.permit (list_answers es cs) ∙ ap (λ (t : Bool). unwrap_or o (elim t [ true ↦ e.permit | false ↦ list_answers es cs ])) (sym h)
step_by exact cs e es o true false h = ap (λ (t : Bool). unwrap_or o (elim t [ true ↦ e.permit | false ↦ list_answers es cs ])) (sym h)
step_by exact cs e es o false true h = refl
step_by exact cs e es o false false h = refl

form_step : (exact : Bool) (cs : List Community) (list : List ℕ) (form : IosForm) (es : List CommEntry) (o : Option Bool) → unwrap_or (answered_by exact cs list form o) (list_answers es cs) ≡ unwrap_or o (list_answers (community_entry_from exact list form es) cs)
form_step exact cs list (OfCommunityList e) es o = step_by exact cs e es o (bytes_eq list e.list) (test_holds (test_of exact e.shape) cs) refl
form_step exact cs list _ es o = refl

answered : (exact : Bool) (cs : List Community) (list : List ℕ) (is : List IosItem) (o : Option Bool) → unwrap_or (answered_from exact cs list o is) false ≡ unwrap_or o (list_answers (community_list exact list is) cs)
unfolding answered_from list_answers
answered exact cs list [] o = refl
answered exact cs list (i ∷ is) o = answered exact cs list is (answered_by exact cs list i.form o) ∙ form_step exact cs list i.form (community_list exact list is) o

-- a map that holds for each name the answer of the walk has the answers of the community lists
pub community_answers : (all : List IosItem) (exact : Bool) (cs : List Community) (m : NameMap Bool) → ((list : List ℕ) → held_at m list ≡ answered_from exact cs list None all) → AreCommunityAnswers all exact cs m
community_answers all exact cs m h = λ list. ap (λ (o : Option Bool). unwrap_or o false) (h list) ∙ answered exact cs list all None
