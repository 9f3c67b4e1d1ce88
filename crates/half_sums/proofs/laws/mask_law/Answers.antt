use Rattle.half_sums.proofs.MaskLemmas.{mask_law}
use Rattle.half_sums.proofs.laws.mask_law.Goals as goal

pub returns : goal.returns
returns c = record { masks = mask_law }
