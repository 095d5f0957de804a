-- The bytes that calls of the main processor's end read, the messages that they hand out, and the bytes that each came as.
-- Assumes nothing: these are definitions.
use Rattle.std.specs.Prelude.{Bool, false, cond, List, [], ◌∷◌, ◌++◌, map, ℕ, take}
use Rattle.octets.specs.Bytes.{bytes}
use Rattle.line.specs.Numbers.{first_version, reply_status}
use Rattle.line.specs.Message.{Message}
use Rattle.line.specs.Frame.{split}
use Rattle.requester.specs.Requester.{reply_sequence}
use Rattle.requester.specs.Layout
use Rattle.requester.specs.Calls
use Rattle.requester.specs.Calls.{MainParts, HandedReport}
use Rattle.requester_claims.specs.Histories
use Rattle.requester_claims.specs.Histories.{MainCall, MainAnswer, refused, done, put, received, stands, MainMade, main_made}
use Rattle.requester_claims.specs.Numbers.{is_start}

-- ---- The bytes read

-- of a piece, by a call's answer
abbrev used_by : List ℕ → MainAnswer → List ℕ
used_by piece (refused n) = []
used_by piece done = []
used_by piece (put n) = []
used_by piece (received used t e u) = take used piece
used_by piece (stands x) = []

abbrev pub bytes_read_by : MainCall → MainAnswer → List ℕ
bytes_read_by Histories.start a = []
bytes_read_by (Histories.request command d room) a = []
bytes_read_by Histories.interrupt a = []
bytes_read_by (Histories.send room) a = []
bytes_read_by (Histories.receive piece) a = used_by piece a
bytes_read_by Histories.state a = []

-- whether a call is a start that was accepted
abbrev pub restarts : MainCall → MainAnswer → Bool
restarts c (refused n) = false
restarts c done = is_start c
restarts c (put n) = false
restarts c (received used t e u) = false
restarts c (stands x) = false

-- the bytes read since the last accepted start, once a call is made behind w
abbrev pub read_since : List ℕ → MainCall → MainAnswer → List ℕ
read_since w c a = cond (restarts c a) [] (w ++ bytes_read_by c a)

-- ---- The messages handed out

-- a status that was read under a number: the reply to that number, 0x06, with the status and the options as its data
abbrev pub status_reply : ℕ → ℕ → ℕ → Message
status_reply n s o =
    record { version = first_version; sequence = reply_sequence n; command = reply_status; payload = bytes 8 s ++ bytes 8 o }

-- one or none; n is the newest number as the call begins
abbrev pub messages_reported : ℕ → HandedReport → List ℕ → List Message
messages_reported n (HandedReport.refused k) d = []
messages_reported n Calls.nothing d = []
messages_reported n (Calls.answered v q c k) d = record { version = v; sequence = q; command = c; payload = d } ∷ []
messages_reported n (Calls.status s o k) d = status_reply n s o ∷ []
messages_reported n (Calls.alerted v q c k) d = record { version = v; sequence = q; command = c; payload = d } ∷ []

abbrev pub main_messages_handed : ℕ → MainAnswer → List ℕ → List Message
main_messages_handed n (refused k) d = []
main_messages_handed n done d = []
main_messages_handed n (put k) d = []
main_messages_handed n (received used t e u) d = messages_reported n t d
main_messages_handed n (stands x) d = []

-- ---- Over lists of calls

-- a message handed out, and the bytes that it came as
pub record CameAs : Type 0 where
  pub message : Message
  pub bytes : List ℕ

abbrev pub all_came_as : List ℕ → List Message → List CameAs
all_came_as bs = map (λ (x : Message). record { message = x; bytes = bs })

-- A message comes as what was read since the last 00, and the bytes that its call reads.
-- w: what was read since the last accepted start.
unfoldable pub came_as : MainParts → List ℕ → List MainMade → List CameAs
came_as p w [] = []
came_as p w (m ∷ ms) =
    let d = main_made p m in
    all_came_as ((split w).rest ++ bytes_read_by m.call d.answer)
    (main_messages_handed (Layout.newest_number p.requester) d.answer d.out)
    ++ came_as d.parts (read_since w m.call d.answer) ms
