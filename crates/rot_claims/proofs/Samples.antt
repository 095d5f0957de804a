-- The samples of the root-of-trust link hold, by one computation.
-- Assumes nothing.
use mathlib.Core.Path.{refl}
use Rattle.octets.specs.Bytes.{number, bytes, overlay}
use Rattle.rot.specs.Crc.{after_bit, after_bits, bits, after_bytes, crc}
use Rattle.rot.specs.Message.{header_start, crc_of, rot_message}
use Rattle.rot.specs.Answers.{rot_write_into}
use Rattle.rot.specs.Reading.{judge_message, judge_length, rot_judge, serve_message, answer_to, rot_read_promise}
use Rattle.rot_claims.specs.Samples.{rot_sample_meant, rot_samples}
use Rattle.rot_claims.specs.Item7.{RotSamplesHold}

pub samples_hold : RotSamplesHold
unfolding rot_sample_meant rot_samples number bytes overlay after_bit after_bits bits after_bytes crc header_start crc_of rot_message
    rot_write_into
    judge_message judge_length rot_judge serve_message answer_to rot_read_promise
samples_hold = refl
