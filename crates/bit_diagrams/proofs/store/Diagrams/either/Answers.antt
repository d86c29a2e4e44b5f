use Rattle.std.proofs.Common.{◌||◌, if◌then◌else◌}
use Rattle.bit_diagrams.specs.Meaning.{holds, Stands}
use Rattle.bit_diagrams.proofs.CallLemmas.{IfOk-map, Stands-as, choice_or}
use Rattle.bit_diagrams.proofs.store.Diagrams.either.Goals as goal

pub returns-clause-made : goal.returns-clause-made
returns-clause-made c =
    let s = c.args.self.now in
    let a = c.args.a in
    let b = c.args.b in
    IfOk-map (λ id. Stands c.choose.new.self id
    (λ bits. if holds s a bits then holds s 1 bits else holds s b bits))
    (λ id. Stands c.choose.new.self id (λ bits. holds s a bits || holds s b bits))
    c.choose.result
    (λ id h. Stands-as c.choose.new.self id
    (λ bits. if holds s a bits then holds s 1 bits else holds s b bits)
    (λ bits. holds s a bits || holds s b bits) (λ bits full. choice_or s a b bits) h)
    c.choose.ensures.made
