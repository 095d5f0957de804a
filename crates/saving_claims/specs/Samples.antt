-- Small images and what reading them gives, as one table, and the same by the meaning.
-- Assumes nothing: these are definitions.
use Rattle.std.specs.Prelude.{List, [], ◌∷◌, ◌++◌, ℕ}
use Rattle.octets.specs.Bytes.{bytes}
use Rattle.saving.specs.Saving.{record_mark, end_mark, saved_record, ImageRead, fault, good, read_image}

-- an image, and what reading it gives
pub record ImageSample : Type 0 where
  pub image : List ℕ
  pub outcome : ImageRead

abbrev pub image_sample : List ℕ → ImageRead → ImageSample
image_sample image outcome = record { image = image; outcome = outcome }

-- the sample as the meaning has it
unfoldable pub image_sample_meant : ImageSample → ImageSample
image_sample_meant s = image_sample s.image (read_image s.image)

unfoldable pub image_samples : List ImageSample
image_samples =
    image_sample [] (fault 34 0)
    ∷ image_sample (0xff ∷ []) (fault 34 1)
    ∷ image_sample (0xff ∷ 0xff ∷ []) (fault 30 0)
    ∷ image_sample end_mark (good [])
    ∷ image_sample (end_mark ++ 0 ∷ []) (fault 35 2)
    -- keys 3, 3 and 5, 4; keys 2 and 6
    ∷ image_sample (saved_record 3 1 [] ++ saved_record 3 1 [] ++ end_mark) (fault 31 13)
    ∷ image_sample (saved_record 5 1 [] ++ saved_record 4 1 [] ++ end_mark) (fault 31 13)
    ∷ image_sample (record_mark ++ 2 ∷ []) (fault 31 2)
    ∷ image_sample (record_mark ++ 6 ∷ []) (fault 31 2)
    -- a length over its limit, and the value cut
    ∷ image_sample (record_mark ++ bytes 1 3 ++ bytes 4 0 ++ bytes 2 257) (fault 32 7)
    -- any edition
    ∷ image_sample (saved_record 3 0 [] ++ saved_record 4 4294967295 (7 ∷ []) ++ end_mark)
    (good (record { key = 3; edition = 0; value = [] } ∷ record { key = 4; edition = 4294967295; value = 7 ∷ [] } ∷ []))
    ∷ []
