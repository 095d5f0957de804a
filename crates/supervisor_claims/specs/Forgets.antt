-- What a start and a set of the wireless passphrase leave in the parts (document 02, item 14). A start leaves nothing that they held,
-- and a set nothing of a passphrase outside its record. Assumes nothing: these are definitions and statements.
use Rattle.std.specs.Prelude.{◌≡◌, Bool, true, false, List, [], ◌∷◌, ◌++◌, ℕ, ◌+◌, ◌-◌, ◌<◌, length, take, replicate}
use Rattle.std.proofs.Math.Option.{some}
use Rattle.octets.specs.Bytes.{Each, run}
use Rattle.line.specs.Numbers.{command_key_set, top_bit}
use Rattle.line.specs.Message.{Message, InRange}
use Rattle.line.specs.Frame.{frame}
use Rattle.line.specs.Reader.{reader_length, received_of}
use Rattle.supervisor.specs.Limits
use Rattle.supervisor.specs.Layout
use Rattle.supervisor.specs.Calls.{Parts}
use Rattle.responder.specs.Requests.{version_served, wrong_value_length}
use Rattle.supervisor_claims.specs.ByPart.{published, part, Every}
use Rattle.supervisor_claims.specs.Histories
use Rattle.supervisor_claims.specs.Histories.{Call, Typed, done, Lent, Made, made, left, AllTyped, start_with}
use Rattle.supervisor_claims.specs.FrameHistory.{bytes_received_by}
use Rattle.supervisor_claims.specs.TwoRuns.{Run, left_by_run, record_begin, SameButPassphrase, passphrase_edition}

-- ---- A start

-- two accepted starts with equal start data leave equal parts within their published lengths, whatever the parts held
abbrev pub StartForgets : Type 0
StartForgets = (p q : Parts) (l k : Lent) (d : List ℕ) → Typed (Histories.start d) → (made p (start_with l d)).answer ≡ done
    → (made q (start_with k d)).answer ≡ done
    → Every (λ i. take (published i) (part (made p (start_with l d)).parts i) ≡ take (published i) (part (made q (start_with k d)).parts i))

-- ---- A set of the passphrase

-- with any version, any number and any value
abbrev pub passphrase_set : ℕ → ℕ → List ℕ → Message
passphrase_set version number v =
    record { version = version; sequence = number; command = command_key_set; payload = Limits.passphrase_key ∷ v }

-- whether a call receives: a receive or a step
abbrev pub is_receiving : Call → Bool
is_receiving (Histories.start d) = false
is_receiving (Histories.receive image piece) = true
is_receiving (Histories.step image piece) = true
is_receiving (Histories.local c) = false

-- the bytes that calls receive, joined; one that is lent too little receives none
unfoldable pub bytes_received : List Made → List ℕ
bytes_received [] = []
bytes_received (m ∷ ms) = bytes_received_by m ++ bytes_received ms

-- calls that receive these bytes and no others, in any cuts: each a receive or a step, with any image, whatever it is lent
pub record Receives (bs : List ℕ) (ms : List Made) : Type 0 where
  pub typed : AllTyped ms
  pub receiving : Each (λ (m : Made). is_receiving m.call ≡ true) ms
  pub joined : bytes_received ms ≡ bs

-- nothing has come of a frame
abbrev pub NothingCome : Parts → Type 0
NothingCome p = received_of p.reader ≡ some []

-- a set that the table takes, behind parts p
pub record SetTaken (p : Parts) (version number : ℕ) (v : List ℕ) : Type 0 where
  pub version-served : version_served version ≡ true
  pub number_below : number < top_bit
  pub length-allowed : wrong_value_length Limits.passphrase_key (length v) ≡ false
  pub edition_below : passphrase_edition p < Limits.last_edition

-- the bytes of the settings store where the passphrase's value stands: as many as the longest value has
abbrev pub longest_passphrase : ℕ
longest_passphrase = Limits.longest_setting Limits.passphrase_key

abbrev pub passphrase_place : Parts → List ℕ
passphrase_place p = run (record_begin + Layout.setting_value_offset) longest_passphrase p.settings

-- A run leaves a reader between frames. Then the frame of a set of the passphrase is received, in any cuts.
-- Whatever the table says of the set, the reader's part is 0 over its whole published length.
-- Where the table takes the set, its value stands in its place with zeros behind it to the end, whatever the place held.
abbrev pub SetLeaves : Type 0
SetLeaves = (r : Run) → NothingCome (left_by_run r) → (version number : ℕ) (v : List ℕ) → InRange (passphrase_set version number v)
    → (ms : List Made) → Receives (frame (passphrase_set version number v)) ms → let q = left (left_by_run r) ms in
    (take reader_length q.reader ≡ replicate reader_length 0)
    × (SetTaken (left_by_run r) version number v → passphrase_place q ≡ v ++ replicate (longest_passphrase - length v) 0)

-- Two runs leave parts that are equal, byte for byte, but for the passphrase's record.
-- Both readers are between frames, and both editions are below the last.
-- Each then receives the frame of a set of the passphrase with a value of its own, both of allowed length or neither.
-- Version and number are the same in both, and any. Afterwards the parts are equal, byte for byte, but for the passphrase's record.
abbrev pub SetUnseen : Type 0
SetUnseen = (r s : Run) → SameButPassphrase (left_by_run r) (left_by_run s) → NothingCome (left_by_run r) → NothingCome (left_by_run s)
    → passphrase_edition (left_by_run r) < Limits.last_edition → passphrase_edition (left_by_run s) < Limits.last_edition
    → (version number : ℕ) (v w : List ℕ) → InRange (passphrase_set version number v) → InRange (passphrase_set version number w)
    → wrong_value_length Limits.passphrase_key (length v) ≡ wrong_value_length Limits.passphrase_key (length w)
    → (ms ns : List Made) → Receives (frame (passphrase_set version number v)) ms → Receives (frame (passphrase_set version number w)) ns
    → SameButPassphrase (left (left_by_run r) ms) (left (left_by_run s) ns)
