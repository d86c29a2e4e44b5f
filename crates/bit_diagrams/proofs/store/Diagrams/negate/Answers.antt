use Rattle.std.proofs.Common.{not, if◌then◌else◌}
use Rattle.bit_diagrams.specs.Meaning.{holds, Stands}
use Rattle.bit_diagrams.proofs.CallLemmas.{IfOk-map, Stands-as, choice_not}
use Rattle.bit_diagrams.proofs.store.Diagrams.negate.Goals as goal

pub returns-clause-made : goal.returns-clause-made
returns-clause-made c =
    let s = c.args.self.now in
    let a = c.args.a in
    IfOk-map (λ id. Stands c.choose.new.self id
    (λ bits. if holds s a bits then holds s 0 bits else holds s 1 bits))
    (λ id. Stands c.choose.new.self id (λ bits. not (holds s a bits))) c.choose.result
    (λ id h. Stands-as c.choose.new.self id
    (λ bits. if holds s a bits then holds s 0 bits else holds s 1 bits)
    (λ bits. not (holds s a bits)) (λ bits full. choice_not s a bits) h) c.choose.ensures.made
