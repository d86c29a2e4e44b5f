-- Policies that call policies, by their names: which one leads to which. A condition `policy` calls the policies that it
-- names (Junos OS Routing Policies User Guide, 'Policy Subroutines').
use Rattle.std.specs.Prelude.{◌≡◌, ℕ, Bool, ◌&&◌, ◌||◌, true, List, [], ◌∷◌, bytes_eq}
use Rattle.std.specs.List.{list_any}

-- a call: the policy that calls, and the one that is called
pub record Link : Type 0 where
  pub caller : List ℕ
  pub callee : List ℕ

-- the call is by this policy, and of that one
abbrev pub is_link : List ℕ → List ℕ → Link → Bool
is_link p q l = bytes_eq p l.caller && bytes_eq q l.callee

-- the policy calls that one
abbrev pub has_link : List Link → List ℕ → List ℕ → Bool
has_link links p q = list_any (is_link p q) links

-- each policy calls the one behind it, from the first through these to the last
abbrev pub Walks : List Link → List ℕ → List (List ℕ) → List ℕ → Type 0
Walks links p [] r = p ≡ r
Walks links p (q ∷ qs) r = (has_link links p q ≡ true) × Walks links q qs r

-- the first policy leads to the last one: it is that one, or leads there by the calls behind the first of the list, or by
-- these to the caller of the first and from its callee on
unfoldable pub leads : List Link → List ℕ → List ℕ → Bool
leads [] p r = bytes_eq p r
leads (l ∷ ls) p r = leads ls p r || (leads ls p l.caller && leads ls l.callee r)

-- one of these policies leads to it
abbrev pub is_reached : List Link → List (List ℕ) → List ℕ → Bool
is_reached links names q = list_any (λ n. leads links n q) names

-- a policy that one of these leads to calls it
abbrev pub is_called : List Link → List (List ℕ) → List ℕ → Bool
is_called links names q = list_any (λ l. bytes_eq q l.callee && is_reached links names l.caller) links

-- the policy leads to one of these
abbrev pub leads_to_some : List Link → List (List ℕ) → List ℕ → Bool
leads_to_some links ends p = list_any (λ e. leads links p e) ends

-- the policy calls that one, which leads back to it
abbrev pub turns_back : List Link → List ℕ → List ℕ → Bool
turns_back links p q = list_any (λ l. is_link p q l && leads links l.callee l.caller) links

-- a policy that one of these leads to calls one that leads back to it
abbrev pub has_cycle : List Link → List (List ℕ) → Bool
has_cycle links names = list_any (λ l. is_reached links names l.caller && turns_back links l.caller l.callee) links
