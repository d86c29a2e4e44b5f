use Rattle.bit_diagrams.proofs.SameLemmas.{same_id}
use Rattle.bit_diagrams.proofs.store.Diagrams.same_sets_have_one_id.Goals as goal

pub returns : goal.returns
returns c = same_id c.args.self.now.places c.args.self.now.nodes c.args.a c.args.b
    c.node_count.ensures.facts c.requires.of_a c.requires.of_b c.requires.same
