use Rattle.std.proofs.Common.{sym, subst, ℕ, List, arith}
use Rattle.path_classes.specs.Letters.{CutsAll}
use Rattle.path_classes.specs.Lines.{AreSound}
use Rattle.path_classes.specs.States.{AllExplored}
use Rattle.path_classes.specs.declared.lines.Line.{Line}
use Rattle.path_classes.proofs.ClassLaws.{tells}
use Rattle.path_classes.proofs.StateLaws.{as_many_paths}
use Rattle.path_classes.proofs.classes.Classes.new.Goals as goal

pub returns : goal.returns
returns c =
    let lines = c.in_ok-lines.lines in
    let numbers = c.in_ok-letters.letters.numbers in
    let states = c.in_ok-states.states in
    let sound : AreSound c.as_slice-2.result.now = subst (λ (ls : List Line). AreSound ls) (sym c.as_slice-2.ensures) c.in_ok-lines.ensures.sound in
    let cuts : CutsAll lines c.in_ok-letters.letters.ends c.in_ok-letters.letters.letters numbers =
    subst (λ (ls : List Line). CutsAll ls c.in_ok-letters.letters.ends c.in_ok-letters.letters.letters numbers) c.as_slice.ensures c.in_ok-letters.ensures in
    let all : AllExplored lines numbers states =
    subst (λ (ls : List Line). AllExplored ls numbers states) c.as_slice-2.ensures
    (subst (λ (ns : List ℕ). AllExplored c.as_slice-2.result.now ns states) c.as_slice-3.ensures (c.in_ok-states.ensures sound)) in
    let sorted = c.in_ok-sorting.ensures (as_many_paths lines states.configs.keys states.paths all.explored.reached) in
    tells c.args.patterns.now lines numbers states _ (record {
      views = c.in_ok-lines.ensures.views;
      sound = c.in_ok-lines.ensures.sound;
      cuts = cuts;
      reached = all.explored.reached;
      rows = all.explored.rows;
      full = omega (arith, all.all, all.explored.count);
      first = all.explored.first;
      classed = sorted.sorted.classed;
      all_classed = omega (arith, sorted.all, sorted.sorted.counted);
      members = sorted.sorted.members;
      distinct = sorted.sorted.distinct;
    })
