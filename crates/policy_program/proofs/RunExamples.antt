-- Worked examples of lines, of the text of an outcome and of answers that are due.
use Rattle.std.proofs.Common.{◌≡◌, inl, inr, refl, ℕ, List, [], ◌∷◌, ◌++◌, Some, lit≤}
use Rattle.std.specs.Prelude.{codes}
use Rattle.std.specs.Fmt.{digits}
use Rattle.route_types.specs.declared.route.Outcome.TheVariants.{Reject}
use Rattle.policy_text.specs.declared.fault.Cause.TheVariants.{UnknownForm}
use Rattle.text_words.specs.declared.fault.BrokenKind.TheVariants.{NoEnder}
use Rattle.expressible_table.specs.declared.kind.Kind.TheVariants.{ExactMatch}
use Rattle.policy_request.specs.declared.language.Language.TheVariants.{Ios, Rpl}
use Rattle.policy_request.specs.Words.{Request, Judge}
use Rattle.policy_program.specs.Lines.{column_behind, place_in}
use Rattle.policy_program.specs.Answer.{CannotRead, IsBroken, HasNoPolicy, IsOutside, IsInexpressible, SpellsNoRoute, Refusal, line_told}
use Rattle.policy_program.specs.Results.{outcome_text}
use Rattle.policy_program.specs.Requests.{IsDue}

-- lines and columns count from 1, and the place of an LF lies on the line that it ends
abbrev text : List ℕ
text = codes "ab" ++ (10 ∷ codes "cde" ++ (10 ∷ []))

at_start : (place_in text 0).column ≡ 1
unfolding column_behind
at_start = refl

behind_line : (place_in text 3).column ≡ 1
unfolding column_behind
behind_line = refl

second_line : line_told (codes "e.cfg") (IsOutside (place_in text 5) UnknownForm) ≡ codes "e.cfg:2:3: outside: unknown-form" ++ (10 ∷ [])
unfolding column_behind digits
second_line = refl

broken_line : line_told (codes "e.cfg") (IsBroken (place_in text 5) NoEnder) ≡ codes "e.cfg:2:3: broken: no-ender" ++ (10 ∷ [])
unfolding column_behind digits
broken_line = refl

inexpressible_line : line_told (codes "e.cfg") (IsInexpressible (place_in text 5) Rpl ExactMatch) ≡ codes "e.cfg:2:3: inexpressible in rpl: exact-match" ++ (10 ∷ [])
unfolding column_behind digits
inexpressible_line = refl

not_defined : line_told (codes "e.cfg") (HasNoPolicy (codes "M")) ≡ codes "e.cfg: no policy M" ++ (10 ∷ [])
not_defined = refl

no_eighth_line : line_told (codes "r.txt") (SpellsNoRoute 8) ≡ codes "r.txt:8: not a route" ++ (10 ∷ [])
unfolding digits
no_eighth_line = refl

rejected : outcome_text Reject ≡ codes "reject" ++ (10 ∷ [])
rejected = refl

-- a judge fetches its policy's file first, and then that of the route
abbrev request : Request
request = Judge (record { language = Ios; policy = codes "M"; file = codes "e.cfg"; route_file = codes "r.txt" })

no_policy_file : IsDue (Some ((codes "r.txt", []) ∷ [])) request (Refusal (codes "e.cfg") CannotRead)
no_policy_file = inl (inl refl, refl)

no_route_file : IsDue (Some ((codes "e.cfg", []) ∷ [])) request (Refusal (codes "r.txt") CannotRead)
no_route_file = inl (inr ([], record { is_told = refl; within = lit≤ tt }, inl refl), refl)
