use Rattle.std.proofs.Common.{rules, tests, ap, ◌∙◌}
use Rattle.std.proofs.lemmas.Iterator.Consumers.{map_from_collect, YieldsList-from_filter}
use Rattle.std.proofs.lemmas.Iterator.Splits.{YieldsList-from_slice_split}
use Rattle.bank_refusals.specs.Faults.{is_space as separates}
use Rattle.bank_refusals.proofs.related.related_words.Goals as goal

pub returns : goal.returns
returns c = map_from_collect _ c.collect.ensures.ran (YieldsList-from_filter _ _ (YieldsList-from_slice_split _ separates c.args.text.now (ap (λ s. s.rest.now) c.filter.ensures.source ∙ c.split.ensures.rest) (ap (λ s. s.done) c.filter.ensures.source ∙ c.split.ensures.done) (ap (λ s. s.pred) c.filter.ensures.source ∙ c.split.ensures.closure) (λ x r q k. search (rules, tests))) c.filter.ensures.closure (λ x r q k. search (rules, tests)))
