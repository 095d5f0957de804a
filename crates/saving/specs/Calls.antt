-- What saving and restoring answer and leave in the bytes that they are lent (document 02, item 11).
-- Assumes nothing: these are definitions.
use Rattle.std.specs.Prelude.{cond, List, [], ◌∷◌, ◌++◌, ℕ, zero, suc, ◌+◌, ◌≤◌, ltb, eqb, length, take, replicate}
use Rattle.std.specs.Prelude.{⊤, Result, Ok, Err, None, Some}
use Rattle.std.specs.declared.option.Option as code
use Rattle.std.proofs.Math.Option.{Option, none, some}
use Rattle.refusals.specs.Refusals.{table_number}
use Rattle.refusals.specs.declared.Refusal.{Refusal}
use Rattle.octets.specs.Bytes.{bytes, run, overlay}
use Rattle.supervisor.specs.Limits
use Rattle.supervisor.specs.Layout
use Rattle.supervisor.specs.Valid.{valid_settings}
use Rattle.saving.specs.Saving
use Rattle.saving.specs.Saving.{SavedEntry, ImageRead, fault, good, ImageStep, bad, ended, to}
use Rattle.saving.specs.declared.restore.RestoreError.{RestoreError}
use Rattle.saving.specs.declared.restore.RestoreError.TheVariants as restore-error
use Rattle.saving.specs.declared.restore.Fault.{Fault}
use Rattle.saving.specs.declared.restore.Fault.TheVariants as the-fault

-- ---- Save

-- a record ahead of its checksum, by the setting at an offset, whose value has n bytes
abbrev pub body_bytes : List ℕ → ℕ → ℕ → ℕ → List ℕ
body_bytes s at n key = Saving.record_body key (Layout.setting_edition s at) (run (at + Layout.setting_value_offset) n s)

-- the record of a key by its setting; none where it has no value
unfoldable pub saved_record_bytes : List ℕ → ℕ → List ℕ
saved_record_bytes s key =
    let at = Layout.setting_offset key in
    cond (eqb (Layout.setting_held s at) 1)
    (Saving.saved_record key (Layout.setting_edition s at) (run (at + Layout.setting_value_offset) (Layout.setting_length s at) s))
    []

-- those of n keys from a key on, then the end mark
unfoldable pub saved_records_from : List ℕ → ℕ → ℕ → List ℕ
saved_records_from s zero key = Saving.end_mark
saved_records_from s (suc n) key = saved_record_bytes s key ++ saved_records_from s n (suc key)

unfoldable pub image_bytes : List ℕ → List ℕ
image_bytes s = saved_records_from s Saving.saved_count Limits.first_setting

-- the longest image: every saved setting at its longest, each with mark, key, edition, length and checksum, and the end mark
abbrev pub records_size : List ℕ → ℕ
records_size [] = 2
records_size (longest ∷ others) = 11 + longest + records_size others

abbrev pub longest_image : ℕ
longest_image = records_size (take Saving.saved_count Limits.longest_settings)

-- the image's length, or the table's number
pub data SaveReport : Type 0 where
  written : ℕ → SaveReport
  refused : ℕ → SaveReport

abbrev pub save_report : Result ℕ Refusal → SaveReport
save_report (Ok n) = written n
save_report (Err why) = refused (table_number why)

pub record SaveOutcome : Type 0 where
  pub report : SaveReport
  pub room : List ℕ

abbrev pub save_outcome : Result ℕ Refusal → List ℕ → SaveOutcome
save_outcome r room = record { report = save_report r; room = room }

-- tests 12, then 8; bytes past the image stay
unfoldable pub save_promise : List ℕ → List ℕ → SaveOutcome
save_promise s room =
    cond (valid_settings s)
    (cond (ltb (length room) (length (image_bytes s))) (record { report = refused 8; room = room })
    (record { report = written (length (image_bytes s)); room = overlay 0 (image_bytes s) room }))
    (record { report = refused 12; room = room })

-- ---- Restore

-- done, the table's number, or a fault's number and offset
pub data RestoreReport : Type 0 where
  done : RestoreReport
  refused : ℕ → RestoreReport
  faulty : ℕ → ℕ → RestoreReport

-- the number of a fault
abbrev pub fault_number : Fault → ℕ
fault_number the-fault.BadMark = 30
fault_number the-fault.BadKey = 31
fault_number the-fault.TooLong = 32
fault_number the-fault.BadChecksum = 33
fault_number the-fault.CutShort = 34
fault_number the-fault.BytesAfter = 35

abbrev pub restore_report : Result ⊤ RestoreError → RestoreReport
restore_report (Ok _) = done
restore_report (Err restore-error.Refused) = RestoreReport.refused 12
restore_report (Err (restore-error.Fault why at)) = faulty (fault_number why) at

pub record RestoreOutcome : Type 0 where
  pub report : RestoreReport
  pub settings : List ℕ

abbrev pub restore_outcome : Result ⊤ RestoreError → List ℕ → RestoreOutcome
restore_outcome r s = record { report = restore_report r; settings = s }

-- the first n saved settings without a value, with edition and length 0; the bytes of their values stay
unfoldable pub cleared : ℕ → List ℕ → List ℕ
cleared zero s = s
cleared (suc n) s = overlay (Layout.setting_offset (Limits.first_setting + n)) (replicate Layout.setting_value_offset 0) (cleared n s)

-- a record in its key's setting, and records one after the other
abbrev pub put_entry : SavedEntry → List ℕ → List ℕ
put_entry e s = overlay (Layout.setting_offset e.key) (Layout.setting_bytes e.edition e.value) s

unfoldable pub put_entries : List SavedEntry → List ℕ → List ℕ
put_entries [] s = s
put_entries (e ∷ es) s = put_entries es (put_entry e s)

unfoldable pub restore_outcome_by : List ℕ → ImageRead → RestoreOutcome
restore_outcome_by s (fault n at) = record { report = faulty n at; settings = s }
restore_outcome_by s (good es) = record { report = done; settings = put_entries es (cleared Saving.saved_count s) }

-- test 12, then the whole image
unfoldable pub restore_promise : List ℕ → List ℕ → RestoreOutcome
restore_promise s image =
    cond (valid_settings s) (restore_outcome_by s (Saving.read_image image)) (record { report = RestoreReport.refused 12; settings = s })

-- ---- The parts of restoring

abbrev pub image_step_of : Result (code.Option (ℕ × ℕ)) (Fault × ℕ) → ImageStep
image_step_of (Ok (Some (key, at))) = to key at
image_step_of (Ok None) = ended
image_step_of (Err (why, at)) = bad (fault_number why) at

abbrev pub record_step_of : Result (ℕ × ℕ) (Fault × ℕ) → ImageStep
record_step_of (Ok (key, at)) = to key at
record_step_of (Err (why, at)) = bad (fault_number why) at

-- the fault that reading found, and the records: none where there is a fault
abbrev pub fault_in : ImageRead → Option (ℕ × ℕ)
fault_in (fault n at) = some (n, at)
fault_in (good es) = none

abbrev pub entries_in : ImageRead → List SavedEntry
entries_in (fault n at) = []
entries_in (good es) = es

abbrev pub found_of : Result ⊤ (Fault × ℕ) → Option (ℕ × ℕ)
found_of (Ok _) = none
found_of (Err (why, at)) = some (fault_number why, at)

-- what stands before a setting's value: whether there is one, the edition and the length
abbrev pub setting_head : ℕ → ℕ → ℕ → List ℕ
setting_head held edition n = bytes 1 held ++ (bytes 4 edition ++ bytes 2 n)

-- at an offset stands a record of a saved setting's key that is complete and not too long
pub record WholeRecord (image : List ℕ) (at : ℕ) : Type 0 where
  pub lower : Limits.first_setting ≤ Saving.saved_key_at image at
  pub upper : Saving.saved_key_at image at ≤ Saving.highest_saved
  pub short : Saving.saved_length_at image at ≤ Limits.longest_setting (Saving.saved_key_at image at)
  pub complete : at + (11 + Saving.saved_length_at image at) ≤ length image
