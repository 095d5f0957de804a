-- What receives hand out and read, one after the other and between other calls.
-- Assumes nothing: these are definitions.
use Rattle.std.specs.Prelude.{◌≡◌, List, [], ◌∷◌, ◌++◌, ℕ, take}
use Rattle.std.proofs.Math.Option.{Option, none, some}
use Rattle.requester.specs.Calls
use Rattle.requester.specs.Calls.{MainParts, HandedReport}
use Rattle.requester_claims.specs.Histories
use Rattle.requester_claims.specs.Histories.{MainAnswer, refused, done, put, received, stands, MainLent, MainMade, main_made}
use Rattle.requester_claims.specs.Histories.{MainOutput}

-- what a call hands out, with its data, and the table's number with which a recovery ended
pub record HandedEvent : Type 0 where
  pub report : HandedReport
  pub payload : List ℕ
  pub ended : Option ℕ

-- nothing is no event
unfoldable pub handed_events : HandedReport → List ℕ → Option ℕ → List HandedEvent
handed_events (HandedReport.refused n) d e = []
handed_events Calls.nothing d none = []
handed_events Calls.nothing d (some n) = record { report = Calls.nothing; payload = d; ended = some n } ∷ []
handed_events (Calls.answered v q c n) d e = record { report = Calls.answered v q c n; payload = d; ended = e } ∷ []
handed_events (Calls.status s o n) d e = record { report = Calls.status s o n; payload = d; ended = e } ∷ []
handed_events (Calls.alerted v q c n) d e = record { report = Calls.alerted v q c n; payload = d; ended = e } ∷ []

-- a call of receive: what it is lent, and the piece
pub record MainRead : Type 0 where
  pub lent : MainLent
  pub piece : List ℕ

-- what receives have handed out, the bytes that they read, and the parts
pub record Listener : Type 0 where
  pub handed : List HandedEvent
  pub bytes : List ℕ
  pub parts : MainParts

abbrev pub listening : MainParts → Listener
listening p = record { handed = []; bytes = []; parts = p }

-- by a call's answer; a refused one reads nothing
abbrev pub answered_by : Listener → MainRead → MainAnswer → List ℕ → MainParts → Listener
answered_by x c (refused n) d p = record { handed = x.handed; bytes = x.bytes; parts = p }
answered_by x c done d p = record { handed = x.handed; bytes = x.bytes; parts = p }
answered_by x c (put n) d p = record { handed = x.handed; bytes = x.bytes; parts = p }
answered_by x c (received used t e u) d p =
    record { handed = x.handed ++ handed_events t d e; bytes = x.bytes ++ take used c.piece; parts = p }
answered_by x c (stands y) d p = record { handed = x.handed; bytes = x.bytes; parts = p }

unfoldable pub after_main_read : Listener → MainRead → Listener
after_main_read x c =
    let d = main_made x.parts (record { lent = c.lent; call = Histories.receive c.piece }) in
    answered_by x c d.answer d.out d.parts

unfoldable pub after_main_reads : Listener → List MainRead → Listener
after_main_reads x [] = x
after_main_reads x (c ∷ cs) = after_main_reads (after_main_read x c) cs

-- receives, and another call behind them
pub record Stretch : Type 0 where
  pub reads : List MainRead
  pub behind : MainMade

-- what the receives hand out, and what the other call answers and writes
pub record StretchOutput : Type 0 where
  pub handed : List HandedEvent
  pub output : MainOutput

abbrev pub stretch_output : Listener → MainMade → StretchOutput
stretch_output x m =
    record { handed = x.handed; output = record { answer = (main_made x.parts m).answer; out = (main_made x.parts m).out } }

-- all that stretches hand out, answer and write, and the parts that they leave
unfoldable pub stretch_outputs : MainParts → List Stretch → List StretchOutput
stretch_outputs p [] = []
stretch_outputs p (s ∷ ss) =
    let x = after_main_reads (listening p) s.reads in
    stretch_output x s.behind ∷ stretch_outputs (main_made x.parts s.behind).parts ss

unfoldable pub left_by_stretches : MainParts → List Stretch → MainParts
left_by_stretches p [] = p
left_by_stretches p (s ∷ ss) = left_by_stretches (main_made (after_main_reads (listening p) s.reads).parts s.behind).parts ss

-- the same other calls, and in each stretch receives that read the same bytes
abbrev pub SameBytes : MainParts → List Stretch → List Stretch → Type 0
SameBytes p [] [] = Unit {0}
SameBytes p [] (t ∷ ts) = ⊥
SameBytes p (s ∷ ss) [] = ⊥
SameBytes p (s ∷ ss) (t ∷ ts) =
    ((after_main_reads (listening p) s.reads).bytes ≡ (after_main_reads (listening p) t.reads).bytes)
    × (s.behind ≡ t.behind)
    × SameBytes (main_made (after_main_reads (listening p) s.reads).parts s.behind).parts ss ts
