-- The claims of saving and restoring, proved: one element of the record of statements in specs/.
-- Assumes nothing.
use Rattle.saving_claims.specs.Item11.{SavingItem11}
use Rattle.saving.proofs.ImageLaws.{image-short, image-longest}
use Rattle.saving_claims.proofs.Samples.{samples_hold}
use Rattle.saving_claims.proofs.Item11.{saved_omits, other_key_31, saved_read}
use Rattle.saving_claims.proofs.Item11.{saved_restores, saved_restores_into, image_exact, image_one}

pub item-11 : SavingItem11
item-11 = record {
  no_longer_image = image-short;
  longest_reached = image-longest;
  saved_omits = saved_omits;
  other_key_31 = other_key_31;
  samples_hold = samples_hold;
  saved_read = saved_read;
  saved_restores = saved_restores;
  saved_restores_into = saved_restores_into;
  image_exact = image_exact;
  image_one = image_one;
}
