-- The forms, both ways: a form that is found is spelled by the words, and what is spelled is found.
use Rattle.std.proofs.Common.{◌≡◌, refl, sym, ap, ◌∙◌, subst, ℕ, List, Option, Some}
use Rattle.std.specs.Prelude.{option_map}
use Rattle.route_types.specs.declared.address.Family.{Family}
use Rattle.route_types.specs.declared.address.Family.TheVariants.{V4, V6}
use Rattle.policy_text.proofs.Phrases.{map_found}
use Rattle.ios_tree.specs.Forms.{line_in}
use Rattle.ios_tree.specs.Reading.{SpellsAs}
use Rattle.ios_tree.specs.Sorts.{sort_of_form}
use Rattle.ios_tree.specs.Spelling.{Spell}
use Rattle.ios_tree.specs.Tree.{known_form}
use Rattle.ios_tree.specs.declared.item.IosForm.{IosForm}
use Rattle.ios_tree.specs.declared.item.IosForm.TheVariants.{PrefixEntry, PrefixDescription, CommunityEntry, PathEntry, MapHeader, Other}
use Rattle.ios_tree.specs.declared.item.IosForm.TheVariants.{Line as OfLine}
use Rattle.ios_tree.specs.declared.item.ItemSort.{ItemSort}
use Rattle.ios_tree.specs.declared.item.ItemSort.TheVariants.{PrefixList, CommunityList, PathList, Map, Line}
use Rattle.ios_tree.specs.declared.item.MapLine.{MapLine}
use Rattle.ios_tree.proofs.Forms.Entries.{prefix_list_found, prefix_entry_only, prefix_entry_family, prefix_description_only, community_list_found, community_list_only, path_entry_found, path_entry_only, map_header_found, map_header_only}
use Rattle.ios_tree.proofs.Forms.Lines.{line_found, line_only}

-- a form that is found is spelled by the words, and of the sort that was looked for
pub known_found : (sort : ItemSort) (ws : List (List ℕ)) (form : IosForm) → known_form sort ws ≡ Some form → SpellsAs sort ws form
known_found (PrefixList V4) ws form e = prefix_list_found ws form e
known_found (PrefixList V6) ws form e = absurd cc
known_found CommunityList ws form e = community_list_found ws form e
known_found PathList ws form e = path_entry_found ws form e
known_found Map ws form e = map_header_found ws form e
known_found Line ws form e =
    let l = map_found (line_in ws) OfLine form e in
    subst (SpellsAs Line ws) l.2 (line_found ws l.0 l.1, refl)

pub is_spelled : (ws : List (List ℕ)) (form : IosForm) (sort : ItemSort) → known_form sort ws ≡ Some form → Spell ws form
is_spelled ws form sort e = (known_found sort ws form e).0

pub is_found : (ws : List (List ℕ)) (form : IosForm) → Spell ws form → known_form (sort_of_form form) ws ≡ Some form
is_found ws (PrefixEntry e) h = ap (λ (f : Family). known_form (PrefixList f) ws) (prefix_entry_family ws e h) ∙ prefix_entry_only ws e h
is_found ws (PrefixDescription d) h = ap (λ (f : Family). known_form (PrefixList f) ws) h.family ∙ prefix_description_only ws d h
is_found ws (CommunityEntry e) h = community_list_only ws e.list e.permit e.shape h
is_found ws (PathEntry e) h = path_entry_only ws e h
is_found ws (MapHeader m) h = map_header_only ws m h
is_found ws (OfLine l) h = ap (λ (o : Option MapLine). option_map OfLine o) (line_only ws l h)
is_found ws (Other o) h = absurd h

-- what is spelled as of a sort is found of that sort
pub known_only : (sort : ItemSort) (ws : List (List ℕ)) (form : IosForm) → SpellsAs sort ws form → known_form sort ws ≡ Some form
known_only sort ws form h = ap (λ (s : ItemSort). known_form s ws) (sym h.1) ∙ is_found ws form h.0
