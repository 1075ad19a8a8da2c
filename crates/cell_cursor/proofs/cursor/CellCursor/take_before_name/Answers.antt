use Rattle.std.proofs.Common.{◌+◌, length, refl, ap, arith}
use Rattle.cell_cursor.proofs.Cutting.{stands_cut, cut_size, going_as}
use Rattle.cell_cursor.proofs.cursor.CellCursor.take_before_name.Goals as goal

pub go_on_with-requires : goal.go_on_with-requires
go_on_with-requires c =
    let size = cut_size c.args.self.now.place c.args.self.now.part c.in-Some.rest _ c.in_ok-rest.field-0 c.in_ok-rest.ensures c.in-Some.is in
    omega (arith, size, c.args.self.now.within)

pub returns-in-Some-clause-reading : goal.returns-in-Some-clause-reading
returns-in-Some-clause-reading c =
    let size = cut_size c.args.self.now.place c.args.self.now.part c.in-Some.rest _ c.in_ok-rest.field-0 c.in_ok-rest.ensures c.in-Some.is in
    let part = ap (λ p. p.before + length p.bytes) c.go_on_with.ensures.part in
    let piece = ap length c.go_on_with.ensures.piece in
    record { limit = c.go_on_with.ensures.limit; taken = omega (arith, size, part, piece); piece = c.go_on_with.ensures.piece }

pub returns-in-Some-clause-stands : goal.returns-in-Some-clause-stands
returns-in-Some-clause-stands c =
    stands_cut c.args.self.now c.go_on_with.new.self c.args.self.now.part c.in-Some.rest _ c.in_ok-rest.field-0 c.requires.going refl c.in_ok-rest.ensures c.in-Some.is c.go_on_with.ensures.part
    c.go_on_with.ensures.limit c.go_on_with.ensures.answer c.go_on_with.ensures.place c.go_on_with.ensures.piece c.go_on_with.ensures.items

pub returns-in-None-clause-stands : goal.returns-in-None-clause-stands
returns-in-None-clause-stands c = going_as c.args.self.now _ c.requires.going c.requires.none_waits refl refl refl refl refl refl
