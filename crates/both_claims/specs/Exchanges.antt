-- Exchanges in which nothing is lost: one exchange, any number of them, what is to hold of them, and requests that make them.
-- Assumes nothing: these are definitions.
use Rattle.std.specs.Prelude.{◌≡◌, true, List, [], ◌∷◌, ◌++◌, ℕ, ◌≤◌, ◌<◌, length, take}
use Rattle.std.proofs.Math.Option.{Option, none, some}
use Rattle.octets.specs.Bytes.{Each, Byte, bytes}
use Rattle.line.specs.Limits.{longest_data}
use Rattle.line.specs.Numbers.{command_key_set}
use Rattle.line.specs.Message.{Message}
use Rattle.line.specs.Frame.{frame, form}
use Rattle.requester.specs.Layout
use Rattle.requester.specs.State.{Request}
use Rattle.requester_claims.specs.Histories.{MainDid, MainLent, MainMade, main_enough, main_made}
use Rattle.requester_claims.specs.Histories as Main
use Rattle.supervisor.specs.State.{State}
use Rattle.responder.specs.Requests.{good, verdict, known, length_allowed}
use Rattle.supervisor_claims.specs.View.{view}
use Rattle.supervisor_claims.specs.Histories as Supervisor
use Rattle.supervisor_claims.specs.Replies.{moved_bytes}
use Rattle.both_claims.specs.Ends.{Ends, EndCall, main, supervisor, InOrderAfter, GoesOn, reply_to_request, as_message, ends_after}
use Rattle.both_claims.specs.Ends.{ends_after_all, Always, EndCallTyped, message_handed}

-- ---- an exchange

-- a request of the main processor's end, and its message
abbrev pub request_did : Ends → Request → List ℕ → MainLent → MainDid
request_did e q room lent = main_made e.main (record { lent = lent; call = Main.request q.command q.payload room })

abbrev pub request_message : Ends → Request → List ℕ → MainLent → Message
request_message e q room lent = as_message (Layout.newest_number (request_did e q room lent).parts.requester) q

pub record Exchange (e : Ends) : Type 0 where
  -- a request is put out, so many bytes
  pub request : Request
  pub request_typed : (request.command < 256) × Each Byte request.payload
  pub room : List ℕ
  pub request_lent : MainLent
  pub count : ℕ
  pub put : (request_did e request room request_lent).answer ≡ Main.put count
  -- the whole table passes it, and it earns a reply of version 1 with this image lent
  pub image : List ℕ
  pub image-bytes : Each Byte image
  pub passed : let m = request_message e request room request_lent in verdict (form m) ≡ good m
  pub reply : Message
  pub earns : reply_to_request image (view e.supervisor) (request_message e request room request_lent) ≡ some reply
  pub first : reply.version ≡ 1
  -- the calls behind it are lent enough, and the room for the reply is at least as long as its frame
  pub frame_lent : Supervisor.Lent
  pub frame_enough : Supervisor.enough (Supervisor.receive image (take count (request_did e request room request_lent).out)) frame_lent
      ≡ true
  pub space : List ℕ
  pub space_bytes : Each Byte space
  pub long : length (frame reply) ≤ length space
  pub take_lent : Supervisor.Lent
  pub take_enough : Supervisor.enough (Supervisor.local (Supervisor.take space)) take_lent ≡ true
  pub reply_lent : MainLent
  pub reply_enough : main_enough (Main.receive (frame reply)) reply_lent ≡ true

-- its four calls: the request, the bytes put out received whole, the reply taken whole, the bytes taken received whole
abbrev pub exchange_request : {e : Ends} → Exchange e → MainMade
exchange_request x = record { lent = x.request_lent; call = Main.request x.request.command x.request.payload x.room }

abbrev pub request_bytes : {e : Ends} → Exchange e → List ℕ
request_bytes {e} x = take x.count (main_made e.main (exchange_request x)).out

abbrev pub exchange_delivery : {e : Ends} → Exchange e → Supervisor.Made
exchange_delivery x = record { lent = x.frame_lent; call = Supervisor.receive x.image (request_bytes x) }

abbrev pub exchange_take : {e : Ends} → Exchange e → Supervisor.Made
exchange_take x = record { lent = x.take_lent; call = Supervisor.local (Supervisor.take x.space) }

abbrev pub reply_bytes_taken : {e : Ends} → Exchange e → List ℕ
reply_bytes_taken {e} x =
    let d = Supervisor.made (Supervisor.made e.supervisor (exchange_delivery x)).parts (exchange_take x) in
    moved_bytes d.answer d.out

abbrev pub exchange_answer : {e : Ends} → Exchange e → MainMade
exchange_answer x = record { lent = x.reply_lent; call = Main.receive (reply_bytes_taken x) }

abbrev pub exchange_calls : {e : Ends} → Exchange e → List EndCall
exchange_calls x =
    main (exchange_request x) ∷ (supervisor (exchange_delivery x) ∷ (supervisor (exchange_take x) ∷ (main (exchange_answer x) ∷ [])))

-- ---- the messages that calls hand out as an answer or an alert's answer, one after the other

abbrev pub as_list : Option Message → List Message
as_list none = []
as_list (some m) = m ∷ []

abbrev pub call_handed : Ends → EndCall → List Message
call_handed e (main m) = let d = main_made e.main m in as_list (message_handed d.answer d.out)
call_handed e (supervisor m) = []

unfoldable pub all_handed : Ends → List EndCall → List Message
all_handed e [] = []
all_handed e (t ∷ ts) = call_handed e t ++ all_handed (ends_after e t) ts

-- ---- any number of exchanges

-- one after the other, each from where the one before left both ends
pub data Exchanges : Ends → List EndCall → Type 0 where
  finished : {e : Ends} → Exchanges e []
  next : {e : Ends} {ts : List EndCall} (x : Exchange e) → Exchanges (ends_after_all e (exchange_calls x)) ts
      → Exchanges e (exchange_calls x ++ ts)

-- their requests, and their replies
unfoldable pub requests_exchanged : {e : Ends} {ts : List EndCall} → Exchanges e ts → List Request
requests_exchanged finished = []
requests_exchanged (next x xs) = x.request ∷ requests_exchanged xs

unfoldable pub replies_of : {e : Ends} {ts : List EndCall} → Exchanges e ts → List Message
replies_of finished = []
replies_of (next x xs) = x.reply ∷ replies_of xs

-- what holds of them
pub record Clean {e : Ends} {ts : List EndCall} (xs : Exchanges e ts) : Type 0 where
  -- the arguments of all calls have their types
  pub typed : Each EndCallTyped ts
  -- no call is an accepted start of either end, nor an accepted restore
  pub goes_on : Always GoesOn e ts
  -- at every moment each end has read, in order and each once at most, messages of whole frames that the other had put out
  pub in_order : Always InOrderAfter e ts
  -- the replies are handed out as answers, each once and in order, and no other message is
  pub handed : all_handed e ts ≡ replies_of xs

-- ---- there are such exchanges

-- a command that is a byte, and data that are bytes and fit a message
pub record RangedRequest (q : Request) : Type 0 where
  pub command : q.command < 256
  pub bytes : Each Byte q.payload
  pub fits : length q.payload ≤ longest_data

-- a request that the whole table passes, and that earns a reply of version 1 in any state
pub record RepliedRequest (q : Request) : Type 0 where
  pub ranged : RangedRequest q
  pub listed : known q.command ≡ true
  pub length-right : length_allowed q.command (length q.payload) ≡ true
  pub replied : (image : List ℕ) (s : State) (n : ℕ) → (r : Message) × (reply_to_request image s (as_message n q) ≡ some r)
      × (r.version ≡ 1)

-- a set of key k to the value v
abbrev pub set_request : ℕ → List ℕ → Request
set_request k v = record { command = command_key_set; payload = bytes 1 k ++ v }

-- exchanges of these requests
pub record ExchangesOf (e : Ends) (qs : List Request) : Type 0 where
  pub calls : List EndCall
  pub exchanges : Exchanges e calls
  pub requests : requests_exchanged exchanges ≡ qs
