use Rattle.std.proofs.Common.{◌≡◌, drop}
use Rattle.std.specs.List.{list_any}
use Rattle.bank_refusals.specs.Members.{names_member}
use Rattle.bank_refusals.proofs.members.any_names.Given as goal

abbrev pub invariant-loop-argument : goal.invariant-loop-argument
invariant-loop-argument l =
    list_any (names_member l.member.vector.now l.member.at l.member.name.now) (drop l.argument-index l.arguments)
    ≡ list_any (names_member l.member.vector.now l.member.at l.member.name.now) l.arguments
