-- What calls put out, and under which number, between two accepted starts.
-- Assumes nothing: these are definitions.
use Rattle.std.specs.Prelude.{◌≡◌, Bool, true, false, List, [], ◌∷◌, ◌++◌, ◌⊎◌, ℕ, zero, suc, ◌≤◌, take}
use Rattle.octets.specs.Bytes.{Each}
use Rattle.requester.specs.Limits.{last_number}
use Rattle.requester.specs.State.{Request, request_frame}
use Rattle.requester.specs.Layout
use Rattle.requester.specs.Calls.{MainParts}
use Rattle.requester_claims.specs.Histories
use Rattle.requester_claims.specs.Histories.{MainCall, MainAnswer, refused, done, put, received, stands, MainMade, main_made}
use Rattle.requester_claims.specs.Histories.{main_enough}

-- bytes put out under a number
pub record Frame : Type 0 where
  pub number : ℕ
  pub bytes : List ℕ

-- by a call's answer, the room as it left it, and the newest number then
unfoldable pub frames_put_out : MainAnswer → List ℕ → ℕ → List Frame
frames_put_out (refused k) room n = []
frames_put_out done room n = []
frames_put_out (put zero) room n = []
frames_put_out (put (suc k)) room n = record { number = n; bytes = take (suc k) room } ∷ []
frames_put_out (received used t e u) room n = []
frames_put_out (stands x) room n = []

unfoldable pub frames : MainParts → List MainMade → List Frame
frames p [] = []
frames p (m ∷ ms) =
    let d = main_made p m in
    frames_put_out d.answer d.out (Layout.newest_number d.parts.requester) ++ frames d.parts ms

-- whether a call is a start
abbrev pub is_start : MainCall → Bool
is_start Histories.start = true
is_start (Histories.request command d room) = false
is_start Histories.interrupt = false
is_start (Histories.send room) = false
is_start (Histories.receive piece) = false
is_start Histories.state = false

-- not a start that is accepted: one that is lent too little is refused
abbrev pub NoMainStart : MainMade → Type 0
NoMainStart m = is_start m.call ≡ true → main_enough m.call m.lent ≡ false

abbrev pub Between : List MainMade → Type 0
Between = Each NoMainStart

-- any two of the frames, in order: the later has no lower number, and with the same number the same bytes
abbrev pub OnePerNumber : List Frame → Type 0
OnePerNumber [] = Unit {0}
OnePerNumber (x ∷ xs) = Each (λ (y : Frame). (x.number ≤ y.number) × (y.number ≡ x.number → y.bytes ≡ x.bytes)) xs × OnePerNumber xs

-- each call takes no number or the next one
abbrev pub OneAbove : MainParts → List MainMade → Type 0
OneAbove p [] = Unit {0}
OneAbove p (m ∷ ms) =
    let n = Layout.newest_number p.requester in
    let k = Layout.newest_number (main_made p m).parts.requester in
    ((k ≡ n) ⊎ (k ≡ suc n)) × OneAbove (main_made p m).parts ms

-- each of the frames is a request's, under its number
abbrev pub RequestFrame : Frame → Type 0
RequestFrame x = (q : Request) × (x.bytes ≡ request_frame x.number q)

-- a request's frame, whose number is one that sequences run through: from 1 to the last
abbrev pub InNumbers : Frame → Type 0
InNumbers x = RequestFrame x × (1 ≤ x.number) × (x.number ≤ last_number)
