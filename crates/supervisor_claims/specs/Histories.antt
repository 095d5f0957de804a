-- Calls of a supervisor, one after the other: what each answers and leaves by the promises, and what document 01 has of it.
-- Calls from a fresh start follow. Assumes nothing: these are definitions.
use Rattle.std.specs.Prelude.{◌≡◌, Bool, true, cond, not, ◌||◌, List, [], ◌∷◌, ℕ, suc, eqb, length}
use Rattle.std.proofs.Math.Option.{Option, none, some}
use Rattle.std.proofs.Math.ListN as ListN
use Rattle.octets.specs.Bytes.{Each, Byte}
use Rattle.line_claims.specs.Loans.{Loan, lent_part, back_part, enough_part}
use Rattle.line.specs.Judge.{more_received}
use Rattle.supervisor.specs.Layout
use Rattle.supervisor.specs.State.{Settings, State}
use Rattle.supervisor.specs.Local
use Rattle.supervisor.specs.Calls
use Rattle.supervisor.specs.Calls.{Parts}
use Rattle.responder.specs.Requests
use Rattle.responder.specs.Requests.{Verdict}
use Rattle.responder.specs.Receive
use Rattle.responder.specs.Receive.{ended_meant}
use Rattle.counters.specs.Ended.{Ended, Served}
use Rattle.supervisor_claims.specs.ByPart.{Part, published, part, parts_by, every_part}
use Rattle.supervisor_claims.specs.View.{factory_of}
use Rattle.supervisor_claims.specs.Sound.{Bytes, with_outbox, with_settings_part, with_registers}
use Rattle.supervisor_claims.specs.LocalCalls.{Change, local_row}
pub use Rattle.supervisor_claims.specs.LocalCalls.{LocalCall, take, post, set_options, lookup, edition, signal, flags, read_record}
pub use Rattle.supervisor_claims.specs.LocalCalls.{save, restore, Answer, refused, done, stepped, moved, found, found_edition}
pub use Rattle.supervisor_claims.specs.LocalCalls.{asserted, asked, recorded, written, faulty, refusal, Means, means, done_means}

-- ---- Calls and answers

-- a public call and its arguments
pub data Call : Type 0 where
  -- start data
  start : List ℕ → Call
  -- an image and a piece of the received stream
  receive : List ℕ → List ℕ → Call
  step : List ℕ → List ℕ → Call
  local : LocalCall → Call

-- the arguments have the types that the calls give them
abbrev pub Typed : Call → Type 0
Typed (start d) = (length d ≡ Layout.start_length) × Each Byte d
Typed (receive image piece) = Each Byte image × Each Byte piece
Typed (step image piece) = Each Byte image × Each Byte piece
Typed (local c) = (local_row c).typed

-- ---- By the promises

-- what a call answers, the bytes of the caller's room or of the part handed out, and the parts that it leaves
pub record Did : Type 0 where
  pub answer : Answer
  pub out : List ℕ
  pub parts : Parts

abbrev pub did_by : Answer → List ℕ → Parts → Did
did_by a bs p = record { answer = a; out = bs; parts = p }

abbrev pub step_answer : ℕ → Ended → Served → Answer
step_answer used (Ended.refused n) served = refused n
step_answer used Ended.more served = stepped used Ended.more served
step_answer used Ended.empty served = stepped used Ended.empty served
step_answer used Ended.request served = stepped used Ended.request served
step_answer used (Ended.failed reason) served = stepped used (Ended.failed reason) served

-- the parts with other bytes in the one that a local call may change
abbrev pub left_in : Change → Parts → List ℕ → Parts
left_in Change.nothing p s = p
left_in Change.outbox p s = with_outbox p s
left_in (Change.registers added) p s = with_registers p s
left_in (Change.settings image) p s = with_settings_part p s

unfoldable pub did : Parts → Call → Did
did p (start d) = let t = Calls.start_promise d p in did_by (refusal t.refusal) [] t.parts
did p (receive image piece) = let r = Receive.receive_promise image p piece in did_by (refusal r.refusal) [] r.parts
did p (step image piece) = let r = Receive.step_promise image p piece in did_by (step_answer r.used r.ended r.served) [] r.parts
did p (local c) =
    let d = (local_row c).promise p in
    did_by d.answer d.out (left_in (local_row c).change p d.left)

-- ---- By document 01

-- how many bytes there are up to and with the first 00; all, where there is none
unfoldable pub up_to : List ℕ → ℕ
up_to [] = 0
up_to (b ∷ bs) = cond (eqb b 0) 1 (suc (up_to bs))

-- what is told of a frame where these settings are held: nothing where it is empty
abbrev pub served_meant : Settings → Option Verdict → Served
served_meant z none = Served.nothing
served_meant z (some v) = Requests.served_by z v

-- what is said of the frame that began with these bytes: by the verdict on it where the piece has its 00
unfoldable pub said_in_piece : {A : Type 0} → A → (Option Verdict → A) → Option (List ℕ) → List ℕ → A
said_in_piece more closed received [] = more
said_in_piece more closed received (b ∷ bs) =
    cond (eqb b 0) (closed (Requests.verdict_since received)) (said_in_piece more closed (more_received received b) bs)

abbrev pub ended_in_piece : Option (List ℕ) → List ℕ → Ended
ended_in_piece received piece = said_in_piece Ended.more ended_meant received piece

abbrev pub served_in_piece : Settings → Option (List ℕ) → List ℕ → Served
served_in_piece z received piece = said_in_piece Served.nothing (served_meant z) received piece

unfoldable pub meant : State → Call → Means
meant s (start d) = done_means s (Local.start (factory_of d))
meant s (receive image piece) = means done [] (Requests.receive_stream image s piece)
meant s (step image piece) =
    means (stepped (up_to piece) (ended_in_piece s.received piece) (served_in_piece s.settings s.received piece)) []
    (Requests.receive_stream image s (ListN.take (up_to piece) piece))
meant s (local c) = (local_row c).meaning s

-- ---- Calls that are lent some of the parts' bytes

-- what is lent of each part; a call that does not take a part leaves it
abbrev pub Lent : Type 0
Lent = Part → Loan

-- the parts as lent
abbrev pub lent_by : Lent → Parts → Part → List ℕ
lent_by l p i = lent_part (published i) (l i) (part p i)

abbrev pub lent_of : Lent → Parts → Parts
lent_of l p = parts_by (lent_by l p)

-- the parts whose bytes lent came back as q
abbrev pub back_by : Lent → Parts → Parts → Part → List ℕ
back_by l p q i = back_part (published i) (l i) (part p i) (part q i)

abbrev pub given_back : Lent → Parts → Parts → Parts
given_back l p q = parts_by (back_by l p q)

-- ---- The parts that a call takes

abbrev pub takes_part : Call → Part → Bool
takes_part (start d) i = true
takes_part (receive image piece) i = true
takes_part (step image piece) i = true
takes_part (local c) i = (local_row c).takes i

-- a test that each part passes which a call takes
abbrev pub of_taken : Call → (Part → Bool) → Bool
of_taken c f = every_part (λ i. not (takes_part c i) || f i)

-- the published length of each part that a call takes is lent
unfoldable pub enough : Call → Lent → Bool
enough c l = of_taken c (λ i. enough_part (published i) (l i))

pub record Made : Type 0 where
  pub lent : Lent
  pub call : Call

-- the caller's room before the call; nothing is handed out
abbrev pub untouched : Call → List ℕ
untouched (start d) = []
untouched (receive image piece) = []
untouched (step image piece) = []
untouched (local c) = (local_row c).room

unfoldable pub made : Parts → Made → Did
made p m = let d = did (lent_of m.lent p) m.call in did_by d.answer d.out (given_back m.lent p d.parts)

-- 12, and nothing changes, where too little is lent
unfoldable pub meant_made : State → Made → Means
meant_made s m = cond (enough m.call m.lent) (meant s m.call) (means (refused 12) (untouched m.call) s)

-- ---- Lists of calls

-- each call's answer and what it wrote in the caller's room or handed out
pub record Output : Type 0 where
  pub answer : Answer
  pub out : List ℕ

unfoldable pub outputs : Parts → List Made → List Output
outputs p [] = []
outputs p (m ∷ ms) = record { answer = (made p m).answer; out = (made p m).out } ∷ outputs (made p m).parts ms

unfoldable pub left : Parts → List Made → Parts
left p [] = p
left p (m ∷ ms) = left (made p m).parts ms

unfoldable pub outputs_meant : State → List Made → List Output
outputs_meant s [] = []
outputs_meant s (m ∷ ms) = record { answer = (meant_made s m).answer; out = (meant_made s m).out } ∷ outputs_meant (meant_made s m).state ms

unfoldable pub left_meant : State → List Made → State
left_meant s [] = s
left_meant s (m ∷ ms) = left_meant (meant_made s m).state ms

abbrev pub AllTyped : List Made → Type 0
AllTyped = Each (λ (m : Made). Typed m.call)

-- a receive with an image and a piece, a local call, and a start with start data
abbrev pub receive_with : List ℕ → Lent → List ℕ → Made
receive_with image l piece = record { lent = l; call = receive image piece }

abbrev pub locally : Lent → LocalCall → Made
locally l c = record { lent = l; call = local c }

abbrev pub start_with : Lent → List ℕ → Made
start_with l d = record { lent = l; call = start d }

-- ---- From a fresh start

-- the parts that a start leaves, and calls after it
abbrev pub reached : Parts → Lent → List ℕ → List Made → Parts
reached p l d ms = left (made p (start_with l d)).parts ms

-- what holds of a start that is accepted, on any parts that hold bytes, whatever it is lent and whatever its start data
abbrev pub OfStart : (Parts → Lent → List ℕ → Type 0) → Type 0
OfStart P = (p : Parts) → Bytes p → (l : Lent) (d : List ℕ) → Typed (start d) → (made p (start_with l d)).answer ≡ done → P p l d

-- of the parts before it, its start data, and the parts that it leaves
abbrev pub FromStart : (Parts → List ℕ → Parts → Type 0) → Type 0
FromStart P = OfStart (λ p l d. P p d (made p (start_with l d)).parts)

-- what holds of any calls after it, and of the parts that they leave
abbrev pub AfterCalls : (List Made → Parts → Type 0) → Type 0
AfterCalls P = FromStart (λ p d q. (ms : List Made) → AllTyped ms → P ms (left q ms))
