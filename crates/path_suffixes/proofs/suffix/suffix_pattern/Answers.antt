use Rattle.std.proofs.Common.{◌≡◌, ap, ◌∙◌, ◌++◌, List}
use Rattle.path_patterns.specs.declared.items.TokenBranch.{TokenBranch}
use Rattle.path_patterns.specs.declared.items.TokenPattern.{TokenPattern}
use Rattle.path_suffixes.specs.Behind.{branches_behind}
use Rattle.path_suffixes.proofs.BehindLaws.{relation_behind}
use Rattle.path_suffixes.proofs.suffix.suffix_pattern.Goals as goal

pub returns-clause-related : goal.returns-clause-related
returns-clause-related c = λ path.
    let left : TokenPattern = record { branches = c.push_branches.new.found } in
    let behind : List TokenBranch = branches_behind c.args.number c.args.pattern.now.branches in
    let whole : c.push_branches.new.found ≡ behind = c.in_ok-push_branches.ensures ∙ ap (λ (bs : List TokenBranch). bs ++ behind) c.new-branches.ensures in
    relation_behind c.args.number c.args.pattern.now left (ap (λ (bs : List TokenBranch). record { branches = bs }) whole) path
