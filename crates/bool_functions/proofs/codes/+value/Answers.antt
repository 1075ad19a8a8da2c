use Rattle.std.proofs.Common.{ap, ◌∙◌, slice_index_or, false}
use Rattle.bool_functions.specs.declared.codes.Code.TheVariants as code
use Rattle.bool_functions.proofs.CodeLists.{parted_as, no_codes, value_Zero, value_One, value_Name, value_Not, value_Xor}
use Rattle.bool_functions.proofs.CodeLists.{value_both, value_neither, value_first, value_second}
use Rattle.bool_functions.proofs.codes.+value.Goals as goal

pub returns-in_default : goal.returns-in_default
returns-in_default t c f e = absurd (no_codes f c.args.codes.now e c.in_default.ensures.cases)

pub returns-in-Zero : goal.returns-in-Zero
returns-in-Zero t c f e = value_Zero c.args.bits.now f (parted_as f _ _ _ code.Zero e c.in-Some.ensures.cases c.in-Zero.is)

pub returns-in-One : goal.returns-in-One
returns-in-One t c f e = value_One c.args.bits.now f (parted_as f _ _ _ code.One e c.in-Some.ensures.cases c.in-One.is)

pub returns-in-Name : goal.returns-in-Name
returns-in-Name t c f e =
    c.bit_at.ensures ∙ ap (λ i. slice_index_or c.args.bits.now i false) c.from.ensures
    ∙ value_Name c.args.bits.now f _ (parted_as f _ _ _ (code.Name _) e c.in-Some.ensures.cases c.in-Name.is)

pub returns-in-Not : goal.returns-in-Not
returns-in-Not t c f e =
    let (g, is, part) = parted_as f _ _ _ code.Not e c.in-Some.ensures.cases c.in-Not.is in
    value_Not c.args.bits.now f g c.value.result is (c.value.ensures g part)

pub returns-in-Xor : goal.returns-in-Xor
returns-in-Xor t c f e =
    let (g, h, is, two, size) = parted_as f _ _ _ (code.Xor _) e c.in-Some.ensures.cases c.in-Xor.is in
    let (left, right) = c.halves.ensures.parts g h two size in
    value_Xor c.args.bits.now f g h c.value-in-Xor.result c.value-in-Xor-2.result is (c.value-in-Xor.ensures g left) (c.value-in-Xor-2.ensures h right)

pub returns-then-value : goal.returns-then-value
returns-then-value t c f e =
    let (g, h, is, two, size) = parted_as f _ _ _ (code.And _) e c.in-Some.ensures.cases c.in-And.is in
    let (left, right) = c.halves-in-And.ensures.parts g h two size in
    value_both c.args.bits.now f g h c.value-in-And.result c.value-then-value.result is (c.value-in-And.ensures g left) (c.value-then-value.ensures h right) c.if-value.true

pub returns-else-value : goal.returns-else-value
returns-else-value t c f e =
    let (g, h, is, two, size) = parted_as f _ _ _ (code.And _) e c.in-Some.ensures.cases c.in-And.is in
    let (left, right) = c.halves-in-And.ensures.parts g h two size in
    value_neither c.args.bits.now f g h c.value-in-And.result is (c.value-in-And.ensures g left) c.if-value.false

pub returns-then-value-2 : goal.returns-then-value-2
returns-then-value-2 t c f e =
    let (g, h, is, two, size) = parted_as f _ _ _ (code.Or _) e c.in-Some.ensures.cases c.in-Or.is in
    let (left, right) = c.halves-in-Or.ensures.parts g h two size in
    value_first c.args.bits.now f g h c.value-in-Or.result is (c.value-in-Or.ensures g left) c.if-value-2.true

pub returns-else-value-2 : goal.returns-else-value-2
returns-else-value-2 t c f e =
    let (g, h, is, two, size) = parted_as f _ _ _ (code.Or _) e c.in-Some.ensures.cases c.in-Or.is in
    let (left, right) = c.halves-in-Or.ensures.parts g h two size in
    value_second c.args.bits.now f g h c.value-in-Or.result c.value-else-value-2.result is (c.value-in-Or.ensures g left) (c.value-else-value-2.ensures h right) c.if-value-2.false
