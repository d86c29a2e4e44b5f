-- One more item at the end of a row, as clauses see it.
use Rattle.std.proofs.Common.{◌≡◌, ap, ◌∙◌, ℕ, List, [], ◌∷◌, ◌++◌}
use Rattle.std.specs.Prelude.{map}
use Rattle.std.proofs.lemmas.List.{map-append, append_assoc}
use denote.Ref.{Bor}
use Rattle.policy_calls.specs.Calls.{Link}
use Rattle.policy_calls.specs.Callees.{nows, link_of, links_of}
use Rattle.policy_calls.specs.declared.call.Call.{Call}
use Rattle.junos_reader.specs.Statements.{Statement}
use Rattle.junos_reader.specs.Known.{plain, plain_statements}
use Rattle.junos_reader.specs.declared.statements.PolicyStatement.{PolicyStatement}

mapped_push : {A B : Type 0} (f : A → B) (old : List A) (x : A) (rest : List B) → map f (old ++ x ∷ []) ++ rest ≡ map f old ++ f x ∷ rest
mapped_push {A} {B} f old x rest = ap (λ (ys : List B). ys ++ rest) (map-append f old (x ∷ [])) ∙ append_assoc (map f old) (f x ∷ []) rest

pub statement_pushed : (old : List PolicyStatement) (s : PolicyStatement) (rest : List Statement) → plain_statements (old ++ s ∷ []) ++ rest ≡ plain_statements old ++ plain s ∷ rest
statement_pushed old s rest = mapped_push plain old s rest

pub call_pushed : (old : List Call) (c : Call) (rest : List Link) → links_of (old ++ c ∷ []) ++ rest ≡ links_of old ++ link_of c ∷ rest
call_pushed old c rest = mapped_push link_of old c rest

pub name_pushed : (old : List (Bor (List ℕ))) (n : Bor (List ℕ)) (rest : List (List ℕ)) → nows (old ++ n ∷ []) ++ rest ≡ nows old ++ n.now ∷ rest
name_pushed old n rest = mapped_push (λ (m : Bor (List ℕ)). m.now) old n rest
