-- The image of the settings: what saving writes, and what restoring makes of an image (document 02, item 11).
-- Assumes nothing: these are definitions.
use Rattle.std.specs.Prelude.{Bool, cond, ◌&&◌, List, [], ◌∷◌, ◌++◌, ℕ, zero, suc, ◌+◌, ◌-◌, leb, ltb, eqb, length, take}
use Rattle.std.proofs.Math.Option.{Option, none, some}
use Rattle.octets.specs.Bytes.{bytes, run, number_at, equal}
use Rattle.line.specs.Checksum.{checksum}
use Rattle.supervisor.specs.Limits.{first_setting, longest_setting}
use Rattle.supervisor.specs.State.{Setting, unset, Settings, with_setting, State, with_settings}

-- the settings that are saved: those of keys 3, 4 and 5
abbrev pub highest_saved : ℕ
highest_saved = 5

abbrev pub saved_count : ℕ
saved_count = highest_saved + 1 - first_setting

-- the marks of a record and of the end
abbrev pub record_mark : List ℕ
record_mark = 0x4b ∷ 0x56 ∷ []

abbrev pub end_mark : List ℕ
end_mark = 0x4b ∷ 0x45 ∷ []

-- ---- Saving

-- a record ahead of its checksum: mark, key u8, edition u32, length u16, value
abbrev pub record_body : ℕ → ℕ → List ℕ → List ℕ
record_body key edition v = record_mark ++ (bytes 1 key ++ (bytes 4 edition ++ (bytes 2 (length v) ++ v)))

-- the checksum is over the record's bytes before it, mark included
unfoldable pub saved_record : ℕ → ℕ → List ℕ → List ℕ
saved_record key edition v = let body = record_body key edition v in body ++ bytes 2 (checksum body)

-- a key without a value has no record
abbrev pub record_for : ℕ → Setting → List ℕ
record_for key x = by x.value
  where
    by : Option (List ℕ) → List ℕ
    by none = []
    by (some v) = saved_record key x.edition v

-- the settings from a key on, in key order, then the end mark
unfoldable pub image_from : ℕ → Settings → List ℕ
image_from key [] = end_mark
image_from key (x ∷ xs) = record_for key x ++ image_from (suc key) xs

unfoldable pub saved : Settings → List ℕ
saved s = image_from first_setting (take saved_count s)

-- ---- Restoring: the whole image is read first

-- a record that was read
pub record SavedEntry : Type 0 where
  pub key : ℕ
  pub edition : ℕ
  pub value : List ℕ

-- the first fault, its number and the offset of the field at fault; or the records, in order
pub data ImageRead : Type 0 where
  fault : ℕ → ℕ → ImageRead
  good : List SavedEntry → ImageRead

abbrev pub ahead_of_read : SavedEntry → ImageRead → ImageRead
ahead_of_read e (fault n at) = fault n at
ahead_of_read e (good es) = good (e ∷ es)

-- what stands at an offset: a fault; the end; or a record, its key and the offset behind it
pub data ImageStep : Type 0 where
  bad : ℕ → ℕ → ImageStep
  ended : ImageStep
  to : ℕ → ℕ → ImageStep

-- a field that ends before this offset: 34 where the image ends inside it, whatever it holds, and the offset is the image's length
abbrev pub complete : List ℕ → ℕ → ImageStep → ImageStep
complete image past s = cond (ltb (length image) past) (bad 34 (length image)) s

abbrev pub marked : List ℕ → List ℕ → ℕ → Bool
marked mark image at = equal (run at 2 image) mark

-- the fields of the record at an offset
abbrev pub saved_key_at : List ℕ → ℕ → ℕ
saved_key_at image at = number_at 1 image (at + 2)

abbrev pub saved_edition_at : List ℕ → ℕ → ℕ
saved_edition_at image at = number_at 4 image (at + 3)

abbrev pub saved_length_at : List ℕ → ℕ → ℕ
saved_length_at image at = number_at 2 image (at + 7)

abbrev pub saved_value_at : List ℕ → ℕ → List ℕ
saved_value_at image at = run (at + 9) (saved_length_at image at) image

abbrev pub saved_body_at : List ℕ → ℕ → List ℕ
saved_body_at image at = run at (9 + saved_length_at image at) image

abbrev pub saved_checksum_at : List ℕ → ℕ → ℕ
saved_checksum_at image at = number_at 2 image (at + (9 + saved_length_at image at))

abbrev pub saved_entry_at : List ℕ → ℕ → SavedEntry
saved_entry_at image at = record { key = saved_key_at image at; edition = saved_edition_at image at; value = saved_value_at image at }

-- a key that may stand behind a record of the key `before`: a saved setting's, above that one
unfoldable pub follows : ℕ → ℕ → Bool
follows before key = (leb first_setting key && leb key highest_saved) && ltb before key

-- a record behind its key: edition, length, value and checksum
unfoldable pub record_step : List ℕ → ℕ → ImageStep
record_step image at =
    complete image (at + 7)
    (complete image (at + 9)
    (cond (ltb (longest_setting (saved_key_at image at)) (saved_length_at image at)) (bad 32 (at + 7))
    (complete image (at + (9 + saved_length_at image at))
    (complete image (at + (11 + saved_length_at image at))
    (cond (eqb (saved_checksum_at image at) (checksum (saved_body_at image at)))
    (to (saved_key_at image at) (at + (11 + saved_length_at image at)))
    (bad 33 (at + (9 + saved_length_at image at))))))))

-- behind a record of the key `before`: the end mark, and nothing behind it; or a record, its fields in order
unfoldable pub image_step : List ℕ → ℕ → ℕ → ImageStep
image_step image before at =
    complete image (at + 2)
    (cond (marked end_mark image at) (cond (ltb (at + 2) (length image)) (bad 35 (at + 2)) ended)
    (cond (marked record_mark image at)
    (complete image (at + 3) (cond (follows before (saved_key_at image at)) (record_step image at) (bad 31 (at + 2))))
    (bad 30 at)))

-- behind a record comes what `next` makes of the rest
abbrev pub read_image_by : (ℕ → ℕ → ImageRead) → List ℕ → ℕ → ImageStep → ImageRead
read_image_by next image at (bad n there) = fault n there
read_image_by next image at ended = good []
read_image_by next image at (to key there) = ahead_of_read (saved_entry_at image at) (next key there)

-- fewer than n records, and the end
unfoldable pub read_image_in : ℕ → List ℕ → ℕ → ℕ → ImageRead
read_image_in zero image before at = fault 34 (length image)
read_image_in (suc n) image before at = read_image_by (read_image_in n image) image at (image_step image before at)

-- behind a record of the key `before`, or 0 where there is none. Keys rise, so that no image has more records than there are saved
-- settings, and more iterations change nothing (`iterations-enough`)
unfoldable pub read_image_from : List ℕ → ℕ → ℕ → ImageRead
read_image_from image before at = read_image_in (suc saved_count) image before at

unfoldable pub read_image : List ℕ → ImageRead
read_image image = read_image_from image 0 0

-- the setting of a key by the records: an absent one has no value and edition 0
unfoldable pub setting_in : ℕ → List SavedEntry → Setting
setting_in key [] = unset
setting_in key (e ∷ es) = cond (eqb e.key key) (record { edition = e.edition; value = some e.value }) (setting_in key es)

-- the first n saved settings replaced; every other stays
unfoldable pub replaced : ℕ → List SavedEntry → Settings → Settings
replaced zero es s = s
replaced (suc n) es s = with_setting (replaced n es s) (first_setting + n) (setting_in (first_setting + n) es)

-- the settings after a good image
abbrev pub restored_settings : List SavedEntry → Settings → Settings
restored_settings es s = replaced saved_count es s

-- a fault, which changes nothing, or the state that is left
pub data RestoreDone : Type 0 where
  faulty : ℕ → ℕ → RestoreDone
  left : State → RestoreDone

abbrev pub restore_read : State → ImageRead → RestoreDone
restore_read s (fault n at) = faulty n at
restore_read s (good es) = left (with_settings s (restored_settings es s.settings))

unfoldable pub restore : State → List ℕ → RestoreDone
restore s image = restore_read s (read_image image)
