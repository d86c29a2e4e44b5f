-- Takes that tell no difference on numbers of 32 bits take the same paths.
use Rattle.std.proofs.Common.{◌≡◌, refl, sym, ap, subst, ◌∙◌, ℕ, ◌≤◌, Bool, ◌&&◌, List, [], ◌∷◌, ◌++◌, length, Option}
use Rattle.std.specs.List.{list_all}
use Rattle.path_patterns.specs.Items.{IsPath, Takes, AtMost, Counts, Taken}
use Rattle.path_patterns.specs.SameTakes.{SameTake, SameTakes}

path_parts : (front rest : List ℕ) → IsPath (front ++ rest) → IsPath front × IsPath rest
path_parts [] rest h = (tt, h)
path_parts (n ∷ ns) rest h = let p = path_parts ns rest h.1 in ((h.0, p.0), p.1)

same_fits : (t u : Takes) (front : List ℕ) → SameTake t u → IsPath front → list_all t.fits front ≡ list_all u.fits front
same_fits t u [] h p = refl
same_fits t u (n ∷ ns) h p =
    ap (λ (b : Bool). b && list_all t.fits ns) (h.fits n p.0) ∙ ap (λ (b : Bool). u.fits n && b) (same_fits t u ns h p.1)

same_counts : (t u : Takes) (n : ℕ) → SameTake t u → Counts t n → Counts u n
same_counts t u n h c = (subst (λ (k : ℕ). k ≤ n) h.least c.0, subst (λ (m : Option ℕ). AtMost n m) h.most c.1)

-- what the one takes, the other takes
pub same_taken : (ts us : List Takes) (path : List ℕ) → SameTakes ts us → IsPath path → Taken ts path → Taken us path
unfolding Taken
same_taken [] [] path h p k = k
same_taken [] (u ∷ us) path h p k = absurd h
same_taken (t ∷ ts) [] path h p k = absurd h
same_taken (t ∷ ts) (u ∷ us) path h p k =
    let q = path_parts k.0 k.1 (subst IsPath k.2 p) in
    (k.0, k.1, k.2, sym (same_fits t u k.0 h.0 q.0) ∙ k.3, same_counts t u (length k.0) h.0 k.4, same_taken ts us k.1 h.1 q.1 k.5)

-- both ways
pub same_back : (ts us : List Takes) → SameTakes ts us → SameTakes us ts
same_back [] [] h = tt
same_back [] (u ∷ us) h = absurd h
same_back (t ∷ ts) [] h = absurd h
same_back (t ∷ ts) (u ∷ us) h =
    (record { least = sym h.0.least; most = sym h.0.most; fits = λ n small. sym (h.0.fits n small) }, same_back ts us h.1)

-- lists of them, one behind the other
pub same_append : (ts us vs ws : List Takes) → SameTakes ts us → SameTakes vs ws → SameTakes (ts ++ vs) (us ++ ws)
same_append [] [] vs ws h k = k
same_append [] (u ∷ us) vs ws h k = absurd h
same_append (t ∷ ts) [] vs ws h k = absurd h
same_append (t ∷ ts) (u ∷ us) vs ws h k = (h.0, same_append ts us vs ws h.1 k)
