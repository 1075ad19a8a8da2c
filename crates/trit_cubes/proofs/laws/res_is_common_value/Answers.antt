use Rattle.trit_cubes.proofs.InsideLemmas.{res-fillings, fillings-res}
use Rattle.trit_cubes.proofs.laws.res_is_common_value.Goals as goal

pub returns : goal.returns
returns c = λ f ts v known. (res-fillings f ts v known, fillings-res f ts v)
