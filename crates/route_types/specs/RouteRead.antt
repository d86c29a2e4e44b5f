-- The route that a text spells, or the number of the first line that is not the form.
use Rattle.std.specs.Prelude.{◌≡◌, ℕ, List, [], ◌∷◌, Option, Some, None, Result, Ok, Err, codes}
use Rattle.route_types.specs.Route.{RouteParts}
use Rattle.route_types.specs.RouteText.{words_by_line, SpellsRoute, IsFirstBadLine}
use Rattle.route_types.specs.RouteLines.{prefix_of_line, next_hop_of_line, path_of_line, origin_of_line, number_of_line, communities_of_line}
use Rattle.route_types.specs.declared.fault.RouteFault.{RouteFault}
use Rattle.route_types.specs.declared.fault.RouteFault.TheVariants.{Line, Memory}

-- what follows a value that was found
infixl 10 ◌>>=◌
abbrev pub ◌>>=◌ : {A B : Type 0} → Result A ℕ → (A → Result B ℕ) → Result B ℕ
(Ok x) >>= f = f x
(Err n) >>= f = Err n

-- the first line and the lines behind it, or its number, where it is missing
abbrev pub first_line : {L : Type 0} → ℕ → List L → Result (L × List L) ℕ
first_line n [] = Err n
first_line n (l ∷ ls) = Ok (l, ls)

-- the value of the line of this number, or the number, where it has none
abbrev pub found : {A : Type 0} → ℕ → Option A → Result A ℕ
found n (Some x) = Ok x
found n None = Err n

-- the value where there is no further line, or that line's number
abbrev pub at_end : {A : Type 0} → ℕ → A → List (List (List ℕ)) → Result A ℕ
at_end n x [] = Ok x
at_end n x (l ∷ ls) = Err n

-- the route that lines of words spell, or the number of the first line that is not the form
unfoldable pub route_of : List (List (List ℕ)) → Result RouteParts ℕ
route_of lines = do
  one ← first_line 1 lines
  prefix ← found 1 (prefix_of_line one.0)
  two ← first_line 2 one.1
  next_hop ← found 2 (next_hop_of_line two.0)
  three ← first_line 3 two.1
  path ← found 3 (path_of_line three.0)
  four ← first_line 4 three.1
  origin ← found 4 (origin_of_line four.0)
  five ← first_line 5 four.1
  local_preference ← found 5 (number_of_line (codes "local-preference") 4294967295 five.0)
  six ← first_line 6 five.1
  med ← found 6 (number_of_line (codes "med") 4294967295 six.0)
  seven ← first_line 7 six.1
  weight ← found 7 (number_of_line (codes "weight") 65535 seven.0)
  eight ← first_line 8 seven.1
  communities ← found 8 (communities_of_line eight.0)
  at_end 9 (record {
    prefix = prefix;
    next_hop = next_hop;
    path = path;
    origin = origin;
    local_preference = local_preference;
    med = med;
    weight = weight;
    communities = communities;
  }) eight.1

-- the route that a text spells, or the number of the first line that is not the form
unfoldable pub route_in : List ℕ → Result RouteParts ℕ
route_in text = route_of (words_by_line text)

-- a program's answer is the value or the number; want of memory may come at any time
abbrev pub Answers : {A B : Type 0} → (A → B) → Result A RouteFault → Result B ℕ → Type 0
Answers view (Ok x) found = found ≡ Ok (view x)
Answers view (Err (Line number)) found = found ≡ Err number
Answers view (Err Memory) found = Unit {0}

-- a refusal names the first line that is not the form, and no route is spelled; want of memory says
-- nothing of the text
abbrev pub IsRefusal : List ℕ → RouteFault → Type 0
IsRefusal text (Line number) = IsFirstBadLine text number × ((r : RouteParts) → SpellsRoute text r → ⊥)
IsRefusal text Memory = Unit {0}
