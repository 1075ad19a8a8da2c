use Rattle.grammar_rules.specs.Loose.{loose}
use Rattle.grammar_rules.proofs.Places.{reads_exactly, has_one_reading, refuses_at_first, looks_one_ahead, fronts_are_used_up}
use Rattle.grammar_rules.proofs.LooseLaws.{is_stricter_than_loose, fouls_in_fronts}
use Rattle.grammar_rules.proofs.laws_hold.Goals as goal

pub returns : goal.returns
returns g c = record {
  exact = λ h. reads_exactly (g.G.Grammar.rule h);
  one_reading = λ h. has_one_reading (g.G.Grammar.rule h);
  first_place = λ h. refuses_at_first (g.G.Grammar.rule h);
  one_ahead = λ h. looks_one_ahead (g.G.Grammar.rule h);
  used_up = λ h. fronts_are_used_up (g.G.Grammar.rule h);
  stricter = λ h. is_stricter_than_loose (g.G.Grammar.rule h);
  fouls = λ h. fouls_in_fronts (g.G.Grammar.rule h);
  first_loose_place = λ h. refuses_at_first (loose (g.G.Grammar.rule h));
}
