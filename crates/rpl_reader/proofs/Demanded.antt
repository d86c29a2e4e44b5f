-- What arguments are asked, by arguments and asks that are those of a text.
use Rattle.std.proofs.Common.{◌≡◌, sym, subst, List}
use Rattle.step_search.specs.Found.{IsIn, IsFound}
use Rattle.rpl_forms.specs.declared.item.RplItem.{RplItem}
use Rattle.rpl_calls.specs.Asks.{OwnAsk, asks_of}
use Rattle.rpl_calls.specs.Arguments.{ArgumentParts}
use Rattle.rpl_calls.specs.Demands.{next_demands, first_demands}
use Rattle.rpl_calls.specs.declared.demand.Demand.{Demand}
use Rattle.rpl_reader.specs.Reach.{arguments_in, IsDemanded}

module _ (all : List RplItem) (args : List ArgumentParts) (asks : List OwnAsk) (args_are : args ≡ arguments_in all) (asks_are : asks ≡ asks_of all) (ds keys : List Demand) (same : ds ≡ keys) where
  abbrev By : Demand → Type 0
  By d = IsFound (next_demands args) (first_demands args asks) d

  pub all_sound : ((d : Demand) → IsIn d keys → By d) → (d : Demand) → IsIn d ds → IsDemanded all d
  all_sound sound d there =
      subst (λ (xs : List ArgumentParts). IsFound (next_demands xs) (first_demands xs (asks_of all)) d) args_are
      (subst (λ (xs : List OwnAsk). IsFound (next_demands args) (first_demands args xs) d) asks_are (sound d (subst (λ (xs : List Demand). IsIn d xs) same there)))

  pub all_whole : ((d : Demand) → By d → IsIn d keys) → (d : Demand) → IsDemanded all d → IsIn d ds
  all_whole whole d found =
      subst (λ (xs : List Demand). IsIn d xs) (sym same)
      (whole d (subst (λ (xs : List OwnAsk). IsFound (next_demands args) (first_demands args xs) d) (sym asks_are)
      (subst (λ (xs : List ArgumentParts). IsFound (next_demands xs) (first_demands xs (asks_of all)) d) (sym args_are) found)))
