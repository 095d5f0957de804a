-- The samples of reading an image hold, by one computation.
-- Assumes nothing.
use mathlib.Core.Path.{refl}
use Rattle.octets.specs.Bytes.{number, bytes, equal}
use Rattle.line.specs.Checksum.{sums, checksum}
use Rattle.supervisor.specs.Limits.{longest_setting}
use Rattle.saving.specs.Saving.{saved_record, follows, record_step, image_step, read_image_in, read_image_from, read_image}
use Rattle.saving_claims.specs.Samples.{image_sample_meant, image_samples}
use Rattle.saving_claims.specs.Item11.{ImageSamplesHold}

pub samples_hold : ImageSamplesHold
unfolding image_sample_meant image_samples number bytes equal sums checksum longest_setting saved_record follows record_step image_step
    read_image_in read_image_from read_image
samples_hold = refl
